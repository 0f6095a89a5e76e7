-- A folder and a sink in memory whose calls never fail.
use Rattle.std.specs.Prelude.{ℕ, Bool, List, Option, None, Some, if◌then◌else◌, refl}
use Rattle.std.specs.Coded.{Coded, code_by, coded×, coded_list, coded_ℕ}
use Rattle.std.specs.FinMap as map
use Rattle.rail_io.specs.Folders.{Files}

-- a folder whose reads never fail: its files, and how many bytes were handed out
pub record SureFiles : Type 0 where
  pub files : Files
  pub taken : ℕ

-- it is stored as the pair of its fields
abbrev pub sure_code : Coded SureFiles
sure_code =
    code_by (Files × ℕ) (coded× (map.code (coded_list coded_ℕ) (coded_list coded_ℕ)) coded_ℕ)
    (λ f. (f.files, f.taken)) (λ p. record { files = p.0; taken = p.1 }) (λ _. refl)

-- a sink whose writes never fail: the bytes that it kept, how many it has room for, and whether some were not kept
pub record KeptBytes : Type 0 where
  pub kept : List ℕ
  pub room : ℕ
  pub has_lost : Bool

-- what it tells of all bytes written: nothing once some were not kept
abbrev pub told_by : KeptBytes → Option (List ℕ)
told_by sink = if sink.has_lost then None else Some sink.kept
