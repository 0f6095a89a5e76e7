-- Units that run one another's duties, by the laws on renumbered plans.
use Rattle.std.proofs.Common.{◌≡◌, ◌∙◌, ◌≢◌, ℕ, ◌<◌, List, refl, sym, ap, subst, arith, inl, inr}
use Rattle.std.proofs.lemmas.Bool.{cases_eq}
use Rattle.std.proofs.lemmas.Bool.Decides.{nat_tests}
use Rattle.timetable.specs.Duties.{duty}
use Rattle.timetable.specs.Renumbering.{AreAmong, IsRenumbering, RenumberedPlansRun, UnitsAreRenumberedBack, renumbered}
use Rattle.worked_answers.specs.SwappedDuties.{NoDutyIsNew, UnitsMaySwap, plan_swapped, swapped}

-- ---- two numbers

first_is : (u v : ℕ) → swapped u v u ≡ v
first_is u v = grind (arith, nat_tests)

second_is : (u v : ℕ) → swapped u v v ≡ u
second_is u v = grind (arith, nat_tests)

other_is : (u v w : ℕ) → w ≢ u → w ≢ v → swapped u v w ≡ w
other_is u v w first second = grind (arith, nat_tests)

twice : (u v w : ℕ) → swapped u v (swapped u v w) ≡ w
twice u v w = grind (arith, nat_tests)

-- what is so of both and of a number is so of that for which it stands
is_so : (P : ℕ → Type 0) (u v w : ℕ) → P u → P v → P w → P (swapped u v w)
is_so P u v w of_first of_second of_it = elim (cases_eq w u) [
  | inl e ↦ subst P (sym (ap (swapped u v) e ∙ first_is u v)) of_second
  | inr first ↦ elim (cases_eq w v) [
    | inl e ↦ subst P (sym (ap (swapped u v) e ∙ second_is u v)) of_first
    | inr second ↦ subst P (sym (other_is u v w first second)) of_it
  ]
]

-- a number that is one for both is one for each and for that which stands for it
stays : (of : ℕ → ℕ) (u v w : ℕ) → of u ≡ of v → of (swapped u v w) ≡ of w
stays of u v w same = elim (cases_eq w u) [
  | inl e ↦ ap of (ap (swapped u v) e ∙ first_is u v) ∙ sym same ∙ ap of (sym e)
  | inr first ↦ elim (cases_eq w v) [
    | inl e ↦ ap of (ap (swapped u v) e ∙ second_is u v) ∙ same ∙ ap of (sym e)
    | inr second ↦ ap of (other_is u v w first second)
  ]
]

-- ---- the laws

pub may_swap : RenumberedPlansRun → UnitsMaySwap
may_swap law units day plan u v first second unit_type home runs =
    let number : ℕ → ℕ = swapped u v in
    let among : AreAmong units units number = record {
      known = λ w known. is_so (λ w. w < units.count) u v w first second known;
      once = λ a b _ _ same. sym (twice u v a) ∙ ap number same ∙ twice u v b;
      unit_type = λ w _. stays units.unit_type u v w unit_type;
      home = λ w _. stays units.home u v w home;
    } in
    let is : IsRenumbering units units number = record { among = among; count = refl } in
    let alike = law units units number day plan is runs.is_plan in
    let duty_then : ℕ → List ℕ = duty day (plan_swapped u v plan) in
    record {
      runs = alike.runs.0 runs;
      cost = alike.cost;
      first = ap duty_then (sym (second_is u v)) ∙ alike.duties v second;
      second = ap duty_then (sym (first_is u v)) ∙ alike.duties u first;
      others = λ w known not_first not_second.
          ap duty_then (sym (other_is u v w not_first not_second)) ∙ alike.duties w known;
    }

pub no_duty_is_new : RenumberedPlansRun → UnitsAreRenumberedBack → NoDutyIsNew
no_duty_is_new law back units others number day plan v is of known =
    let (old, numbers) = back units others number is in
    let among : AreAmong others units old = (numbers.renumbers).among in
    record {
      unit = old v;
      known = among.known v known;
      unit_type = among.unit_type v known;
      home = among.home v known;
      same = ap (duty day (renumbered number plan)) (sym (numbers.number_is v known))
          ∙ (law units others number day plan is of).duties (old v) (among.known v known);
    }
