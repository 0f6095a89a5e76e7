-- A folder and a sink in memory, and the calls on them that fail.
use Rattle.std.specs.Prelude.{ℕ, ◌-◌, min, Bool, not, ◌&&◌, ◌||◌, ◌==◌, nat_lt, nat_le, List, length, refl}
use Rattle.std.specs.Coded.{Coded, code_by, coded×, coded_list, coded_ℕ}
use Rattle.std.specs.List.{list_any}
use Rattle.std.specs.FinMap as map
use Rattle.rail_io.specs.Folders.{Files}

-- a folder in memory: its files, the numbers of the calls that fail, and how many calls, faults and bytes there were
pub record FolderInMemory : Type 0 where
  pub files : Files
  pub failing : List ℕ
  pub calls : ℕ
  pub faults : ℕ
  pub taken : ℕ

-- a folder in memory is stored as the tuple of its fields
abbrev pub folder_code : Coded FolderInMemory
folder_code =
    code_by (Files × (List ℕ × (ℕ × (ℕ × ℕ))))
    (coded× (map.code (coded_list coded_ℕ) (coded_list coded_ℕ))
    (coded× (coded_list coded_ℕ) (coded× coded_ℕ (coded× coded_ℕ coded_ℕ))))
    (λ f. (f.files, (f.failing, (f.calls, (f.faults, f.taken)))))
    (λ p. record { files = p.0; failing = p.1.0; calls = p.1.1.0; faults = p.1.1.1.0; taken = p.1.1.1.1 })
    (λ _. refl)

-- whether the next read of a path fails: its number is among those that fail, or no file has the path
abbrev pub read_fails : FolderInMemory → List ℕ → Bool
read_fails folder path =
    list_any (λ number. number == folder.calls) folder.failing || not (map.contains_key folder.files path)

-- whether some read of a path may fail: some call is to fail, or no file has the path
abbrev pub read_may_fail : FolderInMemory → List ℕ → Bool
read_may_fail folder path = nat_lt 0 (length folder.failing) || not (map.contains_key folder.files path)

-- a sink in memory: what was written, how much it holds, how much a write takes at most, the numbers of the calls that
-- fail, and how many calls and faults there were
pub record SinkInMemory : Type 0 where
  pub written : List ℕ
  pub room : ℕ
  pub most : ℕ
  pub failing : List ℕ
  pub calls : ℕ
  pub faults : ℕ

-- how many bytes of a piece the next write takes, if it doesn't fail
abbrev pub write_takes : SinkInMemory → List ℕ → ℕ
write_takes sink piece = min (length piece) (min sink.most (sink.room - length sink.written))

-- whether the next write of a piece fails: the piece is not empty, and no room is left or its number is among those
-- that fail
abbrev pub write_fails : SinkInMemory → List ℕ → Bool
write_fails sink piece =
    nat_lt 0 (length piece) && (nat_le sink.room (length sink.written)
    || list_any (λ number. number == sink.calls) sink.failing)
