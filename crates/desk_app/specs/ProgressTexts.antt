-- The line that tells how far a search has come.
use Rattle.std.specs.Prelude.{ℕ, List, [], ◌++◌, codes, Option, Some, None, Bool, ◌&&◌, if◌then◌else◌}
use Rattle.std.specs.Prelude.{ℤ, pos, ◌+ℤ◌, ◌-ℤ◌, ◌*ℤ◌, int_div, int_le, int_lt}
use Rattle.std.specs.Fmt.{decimal, signed_decimal}
use Rattle.rail_base.specs.declared.numbers.Money.{Money}
use Rattle.answer_text.specs.declared.limits.TheConstants.{MAX_AMOUNT}

-- an amount, or that there is none
abbrev pub amount_text : Option Money → List ℕ
amount_text (Some money) = signed_decimal money.0
amount_text None = codes "none"

-- whether a gap can be told: the bound isn't negative and at most the plan's cost, which isn't 0 and is no greater than
-- that of an answer
abbrev pub has_gap : ℤ → ℤ → Bool
has_gap bound plan =
    int_le (pos 0) bound && (int_le bound plan && (int_lt (pos 0) plan && int_le plan (pos MAX_AMOUNT)))

-- a part in whole percent of a whole, the nearest, and a half upwards
abbrev pub nearest_percent : ℤ → ℤ → ℤ
nearest_percent part whole = int_div (part *ℤ pos 200 +ℤ whole) (whole *ℤ pos 2)

-- what the plan costs more than the bound, in whole percent of what it costs
abbrev pub gap_between : ℤ → ℤ → Option ℤ
gap_between bound plan = if has_gap bound plan then Some (nearest_percent (plan -ℤ bound) plan) else None

abbrev pub gap_of : Option Money → Option Money → Option ℤ
gap_of (Some bound) (Some plan) = gap_between bound.0 plan.0
gap_of bound plan = None

-- what is said of the gap, where there is one
abbrev pub gap_text : Option ℤ → List ℕ
gap_text (Some percent) = codes ", gap " ++ (signed_decimal percent ++ codes " %")
gap_text None = []

-- the line, so many seconds after the start, without its line feed
abbrev pub progress_line : ℕ → Option Money → Option Money → List ℕ
progress_line seconds bound plan =
    decimal seconds ++ (codes " s: bound " ++ (amount_text bound
    ++ (codes ", plan " ++ (amount_text plan ++ gap_text (gap_of bound plan)))))
