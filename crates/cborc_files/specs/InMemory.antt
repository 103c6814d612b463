-- What files in memory hold.
use Rattle.std.specs.{Prelude.option_map, BTreeMap.get_by_text}
use Rattle.cborc_files.specs.{Folder.Files, declared.files_in_memory.FilesInMemory.FilesInMemory}

-- what each path holds
abbrev pub files_of : FilesInMemory → Files
files_of files = λ path. option_map (λ file. file.items) (get_by_text files.by_path path)
