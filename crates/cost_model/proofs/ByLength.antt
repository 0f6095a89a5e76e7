-- Where no turn exchanges units, units are shunted exactly where two lists differ in length.
use Rattle.std.proofs.Common.{◌≡◌, ℕ, zero, suc, ◌+◌, ◌-◌, ◌≤◌, List, length, map, Bool, true, false, Option, Some}
use Rattle.std.proofs.Common.{None, inl, inr, ◌⊎◌, ⊎_elim, refl, sym, ap, subst, ◌∙◌, arith, unwrap_or, slice_get}
use Rattle.std.specs.Prelude.{option_map, is_some, not, ◌&&◌, ◌==◌, ◌||◌, if◌then◌else◌}
use Rattle.std.proofs.lemmas.Bool.{and_from, and_parts, or_cases, eqb-true, eq-eqb, false≢true, cases_Bool}
use Rattle.std.proofs.lemmas.List.{length-reverse, map-id}
use Rattle.rules.specs.declared.records.End.{End}
use Rattle.rules.specs.declared.records.Link.{Link}
use Rattle.rules.specs.declared.records.LinkKind.{LinkKind}
use Rattle.rules.specs.declared.records.LinkKind.TheVariants.{Turn, Join, Split}
use Rattle.timetable.specs.Cost.{trip_cost, is_shunted, kind_cost, link_cost, cost_of}
use Rattle.timetable.specs.Day.{Day}
use Rattle.timetable.specs.Links.{list_of, itself, turned}
use Rattle.timetable.specs.Lists.{sum_below}
use Rattle.timetable.specs.Turns.{Parts, staying, kept_length, kept_count, may_shunt, turn_parts}
use Rattle.rules.proofs.Turning.{is_staying, kept-is, turn_parts-some}
use Rattle.cost_model.specs.WithoutExchange.{IsPlain, kind_cost_by_length, link_cost_by_length, cost_by_length}
use Rattle.cost_model.specs.WithoutExchange.{CostsByLength}

-- nothing is uncoupled, or nothing coupled
one_side : (off on : ℕ) → may_shunt false off on ≡ true → (off ≡ 0) ⊎ (on ≡ 0)
one_side off on e =
    ⊎_elim
    (λ (h : ((off == 0) || (on == 0)) ≡ true). ⊎_elim (λ (z : (off == 0) ≡ true). inl (eqb-true off 0 z)) (λ (z : (on == 0) ≡ true). inr (eqb-true on 0 z)) (or_cases (off == 0) (on == 0) h))
    (λ (h : false ≡ true). absurd (false≢true h))
    (or_cases ((off == 0) || (on == 0)) false e)

length-turned : (r : Bool) (xs : List ℕ) → length (turned r xs) ≡ length xs
length-turned true xs = length-reverse xs
length-turned false xs = refl

-- how many units are kept where the rule holds: all of the one list or all of the other
record KeepsOne (uncouple couple : End) (arriving departing : List ℕ) : Type 0 where
  in_arriving : kept_count uncouple couple arriving departing ≤ length arriving
  in_departing : kept_count uncouple couple arriving departing ≤ length departing
  one : (length arriving - kept_count uncouple couple arriving departing ≡ 0) ⊎ (length departing - kept_count uncouple couple arriving departing ≡ 0)

keeps_one : (uncouple couple : End) (arriving departing : List ℕ) → is_some (turn_parts itself uncouple couple false arriving departing) ≡ true → KeepsOne uncouple couple arriving departing
keeps_one uncouple couple arriving departing holds = on (turn_parts itself uncouple couple false arriving departing) refl holds
  where
    on : (o : Option Parts) → turn_parts itself uncouple couple false arriving departing ≡ o → is_some o ≡ true → KeepsOne uncouple couple arriving departing
    on None e h = absurd (false≢true h)
    on (Some parts) e h =
        let of = turn_parts-some itself uncouple couple false arriving departing parts e in
        let kept : kept_length uncouple couple arriving departing ≡ Some of.number =
        sym (ap (λ (xs : List ℕ). kept_length uncouple couple xs (map itself departing)) (map-id arriving) ∙ ap (kept_length uncouple couple arriving) (map-id departing)) ∙ of.kept in
        let is = kept-is uncouple couple arriving departing of.number kept in
        let off = is_staying uncouple arriving (staying uncouple arriving of.number) is.0.fits.uncoupled in
        let on' = is_staying couple departing (staying uncouple arriving of.number) is.0.fits.coupled in
        let count : of.number ≡ kept_count uncouple couple arriving departing = sym (ap (λ (o : Option ℕ). unwrap_or o 0) kept) in
        record {
          in_arriving = omega (arith, off.within, is.1, count);
          in_departing = omega (arith, on'.within, is.1, count);
          one = one_side _ _ (subst (λ (n : ℕ). may_shunt false (length arriving - n) (length departing - n) ≡ true) count of.parts_at.few);
        }

-- units are shunted exactly where the lengths differ
shunted_by_length : (uncouple couple : End) (arriving departing : List ℕ) → KeepsOne uncouple couple arriving departing → is_shunted uncouple couple arriving departing ≡ not (length arriving == length departing)
shunted_by_length uncouple couple arriving departing keeps = elim (cases_Bool (length arriving == length departing)) [
  | inl alike ↦
      let e = eqb-true (length arriving) (length departing) alike in
      let all : kept_count uncouple couple arriving departing ≡ length arriving =
      ⊎_elim (λ (z : length arriving - kept_count uncouple couple arriving departing ≡ 0). omega (arith, keeps.in_arriving, z))
      (λ (z : length departing - kept_count uncouple couple arriving departing ≡ 0). omega (arith, keeps.in_departing, z, e)) keeps.one in
      ap not (and_from _ _ (eq-eqb (kept_count uncouple couple arriving departing) (length arriving) all) (eq-eqb (kept_count uncouple couple arriving departing) (length departing) (all ∙ e)) ∙ sym alike)
  | inr differ ↦ elim (cases_Bool ((kept_count uncouple couple arriving departing == length arriving) && (kept_count uncouple couple arriving departing == length departing))) [
    | inl both ↦
        let two = and_parts (kept_count uncouple couple arriving departing == length arriving) (kept_count uncouple couple arriving departing == length departing) both in
        let e : length arriving ≡ length departing = sym (eqb-true (kept_count uncouple couple arriving departing) (length arriving) two.0) ∙ eqb-true (kept_count uncouple couple arriving departing) (length departing) two.1 in
        absurd (false≢true (sym differ ∙ eq-eqb (length arriving) (length departing) e))
    | inr none ↦ ap not (none ∙ sym differ)
  ]
]

not_if : (b : Bool) (w : ℕ) → (if not b then w else 0) ≡ (if b then 0 else w)
not_if true w = refl
not_if false w = refl

kind_by_length : (day : Day) (kind : LinkKind) (r : Bool) (lists : List (List ℕ)) → IsPlain kind r lists → kind_cost day kind r lists ≡ kind_cost_by_length day kind lists
kind_by_length day (Turn a b uncouple couple exchange) r lists plain =
    let holds = subst (λ (x : Bool). is_some (turn_parts itself uncouple couple x (turned r (list_of lists a)) (list_of lists b)) ≡ true) plain.0 plain.1 in
    ap (λ (x : Bool). if x then day.weights.shunting else 0)
    (shunted_by_length uncouple couple (turned r (list_of lists a)) (list_of lists b) (keeps_one uncouple couple (turned r (list_of lists a)) (list_of lists b) holds)
    ∙ ap (λ (n : ℕ). not (n == length (list_of lists b))) (length-turned r (list_of lists a)))
    ∙ not_if (length (list_of lists a) == length (list_of lists b)) day.weights.shunting
kind_by_length day (Join a1 a2 b) r lists plain = refl
kind_by_length day (Split a b1 b2) r lists plain = refl

sum_below-same : (f g : ℕ → ℕ) (n : ℕ) → ((k : ℕ) → f k ≡ g k) → sum_below f n ≡ sum_below g n
sum_below-same f g zero each = refl
sum_below-same f g (suc n) each = omega (arith, sum_below-same f g n each, each n)

module _ (day : Day) (lists : List (List ℕ)) (plain : (l : ℕ) (link : Link) → slice_get day.links l ≡ Some link → IsPlain link.kind link.reverse lists) where
  link_by_length : (l : ℕ) → link_cost day l lists ≡ link_cost_by_length day l lists
  unfolding link_cost link_cost_by_length
  link_by_length l = on (slice_get day.links l) refl
    where
      on : (o : Option Link) → slice_get day.links l ≡ o
          → unwrap_or (option_map (λ link. kind_cost day link.kind link.reverse lists) o) 0 ≡ unwrap_or (option_map (λ link. kind_cost_by_length day link.kind lists) o) 0
      on None e = refl
      on (Some link) e = kind_by_length day link.kind link.reverse lists (plain l link e)

  cost_by : cost_of day lists ≡ cost_by_length day lists
  unfolding cost_of cost_by_length
  cost_by = ap (λ (n : ℕ). sum_below (λ t. trip_cost day t (list_of lists t)) (length day.trips) + n)
      (sum_below-same (λ l. link_cost day l lists) (λ l. link_cost_by_length day l lists) (length day.links) link_by_length)

pub costs_by_length : CostsByLength
costs_by_length day lists plain = cost_by day lists plain
