-- The files that a list of them makes.
use Rattle.std.specs.Prelude.{List, map as list_map}
use Rattle.std.specs.FinMap as map
use Rattle.rail_io.specs.declared.memory.MemoryFile.{MemoryFile}
use Rattle.rail_io.specs.Folders.{Files}

-- each path has the bytes of the first file with that path
abbrev pub files_of : List MemoryFile → Files
files_of files = map.from_entries (list_map (λ file. (file.path, file.bytes)) files)
