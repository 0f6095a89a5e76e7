use Rattle.std.proofs.Common.{◌≡◌, drop}
use Rattle.std.specs.FinMap as map
use Rattle.rail_io.specs.MemoryFiles.{files_of}
use Rattle.rail_io.proofs.Finding.{first_with}
use Rattle.rail_io.proofs.memory.find_file.Given as goal

abbrev pub invariant-loop-file : goal.invariant-loop-file
invariant-loop-file l = first_with l.path (drop l.file-index l.files) ≡ map.get (files_of l.files) l.path
