-- What a folder stores for an explanation.
use Rattle.std.specs.Prelude.{◌≡◌, ℕ, List, Option, Some, option_map}
use Rattle.cborc_files.specs.declared.hex_text.DigitsFault.TheVariants as faults
use Rattle.cborc_files.specs.declared.{recording.RecordingFolder.RecordingFolder, hex_text.HexError.HexError, hex_text.DigitsFault.DigitsFault}

-- the bytes that the result was about in the last file
abbrev pub last_of : {F D : Type 0} → RecordingFolder F D → Option (List ℕ)
last_of memory = option_map (λ bytes. bytes.items) memory.kept.now.last

-- those in the file before it
abbrev pub earlier_of : {F D : Type 0} → RecordingFolder F D → Option (List ℕ)
earlier_of memory = option_map (λ bytes. bytes.items) memory.kept.now.earlier

-- where the text is not hex text
abbrev pub hex_error_of : {F D : Type 0} → RecordingFolder F D → Option HexError
hex_error_of memory = memory.kept.now.hex_error

-- the position of the wrong hex text is stored, unless memory was refused
abbrev pub IsRecorded : DigitsFault → Option HexError → Option HexError → Type 0
IsRecorded (faults.NotHex e) old new = new ≡ Some e
IsRecorded _ old new = new ≡ old
