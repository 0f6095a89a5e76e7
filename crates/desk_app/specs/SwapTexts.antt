-- The text of a plan with units swapped, line by line.
use Rattle.std.specs.Prelude.{ℕ, suc, List, [], ◌∷◌, ◌++◌, codes, Bool, if◌then◌else◌}
use Rattle.std.specs.Fmt.{decimal}
use Rattle.answer_text.specs.Lines.{spaced, text_of_lines}
use Rattle.answer_text.specs.Texts.{end_line, run_lines}
use Rattle.urgent_units.specs.declared.best_naming.Swapped.{Swapped}

-- how many urgent units end the day at the depot
abbrev pub count_line : ℕ → List ℕ
count_line count = spaced (codes "urgent" ∷ decimal count ∷ [])

-- a moment of a station, by their numbers
abbrev pub near_line : ℕ → ℕ → List ℕ
near_line s k = spaced (codes "near" ∷ decimal s ∷ decimal k ∷ [])

-- and nothing where it isn't in a cut
abbrev pub near_if : Bool → ℕ → ℕ → List (List ℕ)
near_if is_in s k = if is_in then near_line s k ∷ [] else []

-- the moments of a station from the k-th on
abbrev pub near_from : ℕ → ℕ → List Bool → List (List ℕ)
near_from s k [] = []
near_from s k (flag ∷ flags) = near_if flag s k ++ near_from s (suc k) flags

-- and those of the stations from the s-th on
abbrev pub near_lines : ℕ → List (List Bool) → List (List ℕ)
near_lines s [] = []
near_lines s (flags ∷ stations) = near_from s 0 flags ++ near_lines (suc s) stations

-- how many urgent units are brought, the plan that brings them, and the cut that shows that none brings more
abbrev pub swapped_lines : Swapped → List (List ℕ)
swapped_lines swapped =
    count_line swapped.count ∷ (run_lines 0 swapped.plan ++ (near_lines 0 swapped.cut ++ (end_line ∷ [])))

abbrev pub swapped_text : Swapped → List ℕ
swapped_text swapped = text_of_lines (swapped_lines swapped)
