-- The priced value of the lone picks.
use Rattle.std.proofs.Common.{◌≡◌, ℕ, ◌<◌, List, [], ◌∷◌, true, false, if◌then◌else◌, ℤ, pos, ◌+ℤ◌, ◌*ℤ◌, ◌≤ℤ◌, refl}
use Rattle.std.proofs.Common.{sym, ◌∙◌, ap, arith}
use Rattle.std.proofs.lemmas.Bool.{eq-eqb}
use Rattle.std.proofs.lemmas.Int.{ints}
use Rattle.std.proofs.lemmas.List.Elements.{All-head}
use Rattle.branch_tree.specs.declared.multipliers.Entry.{Entry}
use Rattle.branch_tree.specs.declared.relaxation.Weight.{Weight}
use Rattle.branch_tree.specs.Entries.{AreMultipliers, AreRising, DoFit, value_at}
use Rattle.branch_tree.specs.IntSums.{int_sum}
use Rattle.branch_tree.specs.Meanings.{priced, weighted}
use Rattle.worked_bounds.specs.LonePicks.{is_short, lone, lone_picks}

times_one : (value : ℤ) → ((value *ℤ pos 1) +ℤ pos 0) ≡ value
times_one value = omega (arith, ints)

sum_one : (entries : List Entry) → AreRising entries → DoFit 1 1 entries → int_sum (λ entry. entry.value *ℤ pos 1) entries ≡ value_at entries 0
sum_one [] rising fit = refl
sum_one (entry ∷ []) rising fit =
    let at : entry.index < 1 = (All-head (λ e. (e.index < 1) × (e.index < 1 → pos 0 ≤ℤ e.value)) entry [] fit).0 in
    times_one entry.value ∙ ap (λ b. if b then entry.value else pos 0) (sym (eq-eqb 0 entry.index (omega (arith, at))))
sum_one (entry ∷ next ∷ entries) rising fit =
    absurd (omega (arith, rising 0 1 entry (omega arith) (omega arith), (fit 0 entry (omega arith)).0, (fit 1 entry (omega arith)).0))

times_none : (value rest : ℤ) → rest ≡ pos 0 → ((value *ℤ pos 0) +ℤ rest) ≡ pos 0
times_none value rest none = omega (arith, ints, none)

sum_none : (entries : List Entry) → int_sum (λ entry. entry.value *ℤ pos 0) entries ≡ pos 0
sum_none [] = refl
sum_none (entry ∷ entries) = times_none entry.value (int_sum (λ e. e.value *ℤ pos 0) entries) (sum_none entries)

pub short_price : (catalogue : List (List ℕ)) (multipliers : List Entry) (weight : Weight) → is_short catalogue ≡ true → AreMultipliers multipliers → DoFit 1 1 multipliers →
    priced (lone_picks catalogue) multipliers weight lone ≡ (weighted weight (pos 7) +ℤ value_at multipliers 0)
short_price catalogue multipliers weight short are fit =
    ap (λ b. weighted weight (pos 7) +ℤ int_sum (λ entry. entry.value *ℤ (if b then pos 1 else pos 0)) multipliers) short
    ∙ ap (λ sum. weighted weight (pos 7) +ℤ sum) (sum_one multipliers are.rising fit)

plus_none : (a b : ℤ) → b ≡ pos 0 → (a +ℤ b) ≡ a
plus_none a b none = omega (arith, ints, none)

pub solved_price : (catalogue : List (List ℕ)) (multipliers : List Entry) (weight : Weight) → is_short catalogue ≡ false →
    priced (lone_picks catalogue) multipliers weight lone ≡ weighted weight (pos 7)
solved_price catalogue multipliers weight enough =
    ap (λ b. weighted weight (pos 7) +ℤ int_sum (λ entry. entry.value *ℤ (if b then pos 1 else pos 0)) multipliers) enough
    ∙ plus_none (weighted weight (pos 7)) (int_sum (λ entry. entry.value *ℤ pos 0) multipliers) (sum_none multipliers)

pub free_price : (catalogue : List (List ℕ)) (weight : Weight) → priced (lone_picks catalogue) [] weight lone ≡ weighted weight (pos 7)
free_price catalogue weight = plus_none (weighted weight (pos 7)) (pos 0) refl
