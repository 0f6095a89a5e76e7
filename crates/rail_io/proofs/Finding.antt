-- A walk over the files of a folder in memory, to the first with a path.
use Rattle.std.proofs.Common.{◌≡◌, ℕ, ◌+◌, ◌<◌, Bool, true, false, cond, List, ◌∷◌, length, get_or, drop, Option, Some}
use Rattle.std.proofs.Common.{map, sym, ap, ◌∙◌}
use Rattle.std.specs.Ordering.{nat_cmp}
use Rattle.std.specs.Cmp.Lexicographic.{slice_cmp}
use Rattle.std.specs.Str.{bytes_eq}
use Rattle.std.specs.FinMap as fin
use Rattle.std.specs.Cmp.Lexicographic.{nat_list_cmp_total}
use Rattle.std.proofs.lemmas.Map.Text.{is_eq-slice_cmp}
use Rattle.std.proofs.lemmas.List.{at_drop_more}
use Rattle.rail_io.specs.declared.memory.MemoryFile.{MemoryFile}
use Rattle.rail_io.specs.MemoryFiles.{files_of}

-- the bytes of the first file with a path
abbrev pub first_with : List ℕ → List MemoryFile → Option (List ℕ)
first_with path files = fin.find (slice_cmp nat_cmp) path (map (λ file. (file.path, file.bytes)) files)

-- it is what the folder holds there
pub first_with-is_held : (path : List ℕ) (files : List MemoryFile) → first_with path files ≡ fin.get (files_of files) path
first_with-is_held path files = sym (fin.get-from_entries nat_list_cmp_total (map (λ (file : MemoryFile). (file.path, file.bytes)) files) path)

-- the file at a place is this file, or the first is among those that follow
first_with-more : (path : List ℕ) (files : List MemoryFile) (i : ℕ) (file : MemoryFile) → i < length files → file ≡ get_or files i file →
    first_with path (drop i files) ≡ cond (bytes_eq path file.path) (Some file.bytes) (first_with path (drop (i + 1) files))
first_with-more path files i file within is =
    at_drop_more (first_with path) files i file within
    ∙ ap (λ (f : MemoryFile). first_with path (f ∷ drop (i + 1) files)) (sym is)
    ∙ ap (λ (b : Bool). cond b (Some file.bytes) (first_with path (drop (i + 1) files))) (is_eq-slice_cmp path file.path)

-- the file at a place has the path
pub first_with-here : (path : List ℕ) (files : List MemoryFile) (i : ℕ) (file : MemoryFile) → i < length files → file ≡ get_or files i file →
    bytes_eq path file.path ≡ true → first_with path (drop i files) ≡ Some file.bytes
first_with-here path files i file within is passes =
    first_with-more path files i file within is ∙ ap (λ (b : Bool). cond b (Some file.bytes) (first_with path (drop (i + 1) files))) passes

-- the file at a place has another path
pub first_with-later : (path : List ℕ) (files : List MemoryFile) (i : ℕ) (file : MemoryFile) → i < length files → file ≡ get_or files i file →
    bytes_eq path file.path ≡ false → first_with path (drop i files) ≡ first_with path (drop (i + 1) files)
first_with-later path files i file within is fails =
    first_with-more path files i file within is ∙ ap (λ (b : Bool). cond b (Some file.bytes) (first_with path (drop (i + 1) files))) fails
