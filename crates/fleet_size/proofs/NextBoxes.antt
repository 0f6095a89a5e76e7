-- Which box is split next, and where: what is known of the slots and the places that were looked at.
use Rattle.std.proofs.Common.{◌≡◌, ◌∙◌, ℕ, zero, suc, ◌+◌, ◌<◌, ◌≤◌, List, [], ◌∷◌, ◌++◌, length, get_or, take, reverse, All, Bool, true, false, refl, sym, ap, subst, arith}
use Rattle.std.proofs.Common.{Option, Some, None, inl, inr, if◌then◌else◌, int_lt}
use Rattle.std.specs.Prelude.{ℤ, ◌≤ℤ◌, ◌⊎◌, MatchOption, slice_index}
use Rattle.std.proofs.lemmas.Bool.{cases_eq}
use Rattle.std.proofs.lemmas.Int.{ints}
use Rattle.std.proofs.lemmas.List.{get_or_default, take_more, append-nil}
use Rattle.std.proofs.lemmas.List.Elements.{All-cons, All-nil, All-push, All-weaker, Contains-append_left, Contains-push}
use Rattle.rail_base.specs.declared.numbers.Money.{Money}
use Rattle.branch_tree.specs.Trees.{IsLeast, IsLeastOf}
use Rattle.fleets.specs.Fleets.{IsNowhereAbove}
use Rattle.fleet_boxes.specs.declared.boxes.FleetBox.{FleetBox}
use Rattle.fleet_size.specs.declared.choosing.Next.{Next}
use Rattle.fleet_size.specs.declared.slots.Slot.{Slot}
use Rattle.fleet_boxes.specs.declared.nodes.BoxNode.{BoxNode}
use Rattle.fleet_size.specs.Slots.{IsNext, IsWideAt, nodes_in}
use Rattle.fleet_size.specs.Values.{IsDone, and_values, lower_of, value_at, values_at}

-- ---- the next box

abbrev pub DoneUpTo : List ℕ → Option ℤ → List Slot → ℕ → Type 0
DoneUpTo prices price slots place = (k : ℕ) (none : Slot) → k < place → IsDone prices price (get_or slots k none)

abbrev pub IsDoneAt : List ℕ → Option ℤ → List Slot → ℕ → Type 0
IsDoneAt prices price slots place = (one : Slot) → one ≡ get_or slots place one → IsDone prices price one

done_more : (prices : List ℕ) (price : Option ℤ) (slots : List Slot) (place : ℕ) → place < length slots → IsDoneAt prices price slots place → DoneUpTo prices price slots place → DoneUpTo prices price slots (place + 1)
done_more prices price slots place within here before = λ k none below. elim (cases_eq k place) as (λ _. IsDone prices price (get_or slots k none)) [
  | inl same ↦ subst (λ (j : ℕ). IsDone prices price (get_or slots j none)) (sym same)
      (here (get_or slots place none) (sym (get_or_default slots place (get_or slots place none) none within)))
  | inr other ↦ before k none (omega (arith, below, other))
]

abbrev pub IsOneOf : Option Next → Option Next → Option Next → Type 0
IsOneOf found next result = MatchOption result ((found ≡ None) × (next ≡ None)) (λ one. (found ≡ Some one) ⊎ (next ≡ Some one))

pub next_on : (prices : List ℕ) (price : Option ℤ) (slots : List Slot) (place : ℕ) (found next result : Option Next) → place < length slots
    → MatchOption found (IsDoneAt prices price slots place) (IsNext slots) → MatchOption next (DoneUpTo prices price slots place) (IsNext slots)
    → IsOneOf found next result → MatchOption result (DoneUpTo prices price slots (place + 1)) (IsNext slots)
next_on prices price slots place found next None within here before both =
    done_more prices price slots place within
    (subst (λ (one : Option Next). MatchOption one (IsDoneAt prices price slots place) (IsNext slots)) both.0 here)
    (subst (λ (one : Option Next). MatchOption one (DoneUpTo prices price slots place) (IsNext slots)) both.1 before)
next_on prices price slots place found next (Some one) within here before (inl is) = subst (λ (some : Option Next). MatchOption some (IsDoneAt prices price slots place) (IsNext slots)) is here
next_on prices price slots place found next (Some one) within here before (inr is) = subst (λ (some : Option Next). MatchOption some (DoneUpTo prices price slots place) (IsNext slots)) is before

pub next_at_end : (prices : List ℕ) (price : Option ℤ) (slots : List Slot) (place : ℕ) (next : Option Next) → length slots ≤ place
    → MatchOption next (DoneUpTo prices price slots place) (IsNext slots) → MatchOption next (All (IsDone prices price) slots) (IsNext slots)
next_at_end prices price slots place None all done = λ k none below. done k none (omega (arith, below, all))
next_at_end prices price slots place (Some next) all is = is

-- ---- the widest place

abbrev pub SameUpTo : FleetBox → ℕ → Type 0
SameUpTo box place = (k : ℕ) → k < place → slice_index box.greatest k ≤ slice_index box.least k

pub wide_or_none : (box : FleetBox) (place : ℕ) (widest : Option ℕ) → MatchOption widest (SameUpTo box place) (IsWideAt box) → MatchOption widest (Unit {0}) (IsWideAt box)
wide_or_none box place None is = tt
wide_or_none box place (Some at) is = is

pub widest_on : (box : FleetBox) (place : ℕ) (widest result : Option ℕ) → MatchOption widest (SameUpTo box place) (IsWideAt box)
    → MatchOption result ((widest ≡ None) × (slice_index box.greatest place ≤ slice_index box.least place)) (IsWideAt box) → MatchOption result (SameUpTo box (place + 1)) (IsWideAt box)
widest_on box place widest None before both = λ k below. elim (cases_eq k place) as (λ _. slice_index box.greatest k ≤ slice_index box.least k) [
  | inl same ↦ subst (λ (j : ℕ). slice_index box.greatest j ≤ slice_index box.least j) (sym same) both.1
  | inr other ↦ (subst (λ (one : Option ℕ). MatchOption one (SameUpTo box place) (IsWideAt box)) both.0 before) k (omega (arith, below, other))
]
widest_on box place widest (Some at) before is = is

same_fleets : (least greatest : List ℕ) → IsNowhereAbove least greatest → ((k : ℕ) → k < length least → slice_index greatest k ≤ slice_index least k) → least ≡ greatest
same_fleets [] [] below same = refl
same_fleets [] (b ∷ greatest) below same = absurd below
same_fleets (a ∷ least) [] below same = absurd below
same_fleets (a ∷ least) (b ∷ greatest) below same =
    let first : a ≡ b = omega (arith, below.0, same 0 (omega arith)) in
    let rest : least ≡ greatest = same_fleets least greatest below.1 (λ k lt. same (suc k) (omega (arith, lt))) in
    (λ i. first i ∷ rest i)

pub widest_at_end : (box : FleetBox) (place : ℕ) (widest : Option ℕ) → IsNowhereAbove box.least box.greatest → length box.least ≤ place
    → MatchOption widest (SameUpTo box place) (IsWideAt box) → MatchOption widest (box.least ≡ box.greatest) (IsWideAt box)
widest_at_end box place None ordered all same = same_fleets box.least box.greatest ordered (λ k lt. same k (omega (arith, lt, all)))
widest_at_end box place (Some at) ordered all is = is

-- ---- the least value

lower : (a b : ℤ) → int_lt a b ≡ true → a ≤ℤ b
lower a b is = omega (arith, ints, is)

not_lower : (a b : ℤ) → int_lt a b ≡ false → b ≤ℤ a
not_lower a b is = omega (arith, ints, is)

level : (a : ℤ) → a ≤ℤ a
level a = omega (arith, ints)

between : (a b c : ℤ) → a ≤ℤ b → b ≤ℤ c → a ≤ℤ c
between a b c low high = omega (arith, ints)

value-append : (value : Option Money) (values more : List ℤ) → and_values value (values ++ more) ≡ and_values value values ++ more
value-append None values more = refl
value-append (Some value) values more = refl

values-append : (prices : List ℕ) (slots : List Slot) (slot : Slot) → values_at prices (slots ++ slot ∷ []) ≡ values_at prices slots ++ and_values (value_at prices slot) []
values-append prices [] slot = refl
values-append prices (one ∷ slots) slot =
    ap (and_values (value_at prices one)) (values-append prices slots slot) ∙ value-append (value_at prices one) (values_at prices slots) (and_values (value_at prices slot) [])

least_with : (values : List ℤ) (least value : Option Money) → IsLeastOf values least → IsLeastOf (values ++ and_values value []) (lower_of least value)
least_with values None None is = append-nil values ∙ is
least_with values None (Some value) is = subst (λ (some : List ℤ). IsLeast (some ++ value.0 ∷ []) value.0) (sym is) (record {
  one = (zero, omega arith, refl);
  all = All-cons (λ n. value.0 ≤ℤ n) value.0 [] (level value.0) (All-nil (λ n. value.0 ≤ℤ n));
})
least_with values (Some least) None is = subst (λ (some : List ℤ). IsLeast some least.0) (sym (append-nil values)) is
least_with values (Some least) (Some value) is = at (int_lt value.0 least.0) refl
  where
    at : (b : Bool) → int_lt value.0 least.0 ≡ b → IsLeastOf (values ++ value.0 ∷ []) (if b then Some value else Some least)
    at true less = record {
      one = Contains-push values value.0;
      all = All-push (λ number. value.0 ≤ℤ number) values value.0
          (All-weaker (λ number. least.0 ≤ℤ number) (λ number. value.0 ≤ℤ number) (λ number above. between value.0 least.0 number (lower value.0 least.0 less) above) values is.all) (level value.0);
    }
    at false not_less = record {
      one = Contains-append_left values (value.0 ∷ []) least.0 is.one;
      all = All-push (λ number. least.0 ≤ℤ number) values value.0 is.all (not_lower value.0 least.0 not_less);
    }

pub least_more : (prices : List ℕ) (slots : List Slot) (place : ℕ) (slot : Slot) (least : Option Money) → place < length slots → slot ≡ get_or slots place slot → IsLeastOf (values_at prices (take place slots)) least
    → IsLeastOf (values_at prices (take (place + 1) slots)) (lower_of least (value_at prices slot))
least_more prices slots place slot least within is least_so_far =
    let past : take (place + 1) slots ≡ take place slots ++ slot ∷ [] = take_more slots place slot within ∙ ap (λ (one : Slot). take place slots ++ one ∷ []) (sym is) in
    subst (λ (values : List ℤ). IsLeastOf values (lower_of least (value_at prices slot))) (sym (ap (values_at prices) past ∙ values-append prices (take place slots) slot))
    (least_with (values_at prices (take place slots)) least (value_at prices slot) least_so_far)

pub take_whole : (slots : List Slot) (place : ℕ) → length slots ≤ place → take place slots ≡ slots
take_whole [] zero all = refl
take_whole [] (suc place) all = refl
take_whole (slot ∷ slots) zero all = absurd (omega (arith, all))
take_whole (slot ∷ slots) (suc place) all = ap (λ (others : List Slot). slot ∷ others) (take_whole slots place (omega (arith, all)))

-- where no slot is left
pub all_moved : (nodes : List BoxNode) (rest whole : List Slot) → length rest ≡ 0 → nodes ++ nodes_in (reverse rest) ≡ nodes_in whole → nodes ≡ nodes_in whole
all_moved nodes [] whole none all = sym (append-nil nodes) ∙ all
all_moved nodes (slot ∷ rest) whole none all = absurd (omega (arith, none))
