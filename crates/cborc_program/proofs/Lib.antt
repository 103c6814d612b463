mod Ends
mod SeveralFiles
