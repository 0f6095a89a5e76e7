use Rattle.std.proofs.Common.{◌≡◌, ◌<◌, ℕ, [], get_or, map}
use Rattle.csv.specs.Records.{fields_of}
use Rattle.rail_csv.proofs.reading.is_header.Given as goal

-- the fields so far are the words of their columns
abbrev pub invariant-loop-column : goal.invariant-loop-column
invariant-loop-column l = (k : ℕ) → k < l.column → get_or (fields_of l.found) k [] ≡ get_or (map (λ word. word.now) l.words) k []
