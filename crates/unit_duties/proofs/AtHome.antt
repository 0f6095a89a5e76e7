-- Units that wait at their homes.
use Rattle.std.proofs.Common.{◌≡◌, ◌∙◌, ℕ, ◌+◌, ◌<◌, ◌≤◌, inl, inr, true, cond, Option, Some, slice_get, unwrap_or}
use Rattle.std.proofs.Common.{refl, sym, ap, subst, arith, ⊎_elim}
use Rattle.std.specs.Prelude.{option_map}
use Rattle.std.specs.BTreeSet.{BTreeSet, contains}
use Rattle.std.specs.List.{Contains}
use Rattle.std.specs.Ordering.{is_eq}
use Rattle.std.proofs.lemmas.Bool.{cases_lt}
use Rattle.rules.specs.declared.records.Unit as unit
use Rattle.timetable.specs.Day.{Day, units_of, home_of, type_of}
use Rattle.unit_duties.specs.declared.yards.Waiting.{Waiting}
use Rattle.unit_duties.specs.Yards.{AreAtHomeBelow}
use Rattle.unit_duties.proofs.WaitingOrder.{order, put_into}

-- the home of a unit that is there
pub home_is : (day : Day) (u : ℕ) (x : unit.Unit) → slice_get (units_of day) u ≡ Some x → home_of day u ≡ x.home
unfolding home_of
home_is day u x e = ap (λ (o : Option unit.Unit). unwrap_or (option_map (λ x. x.home) o) 0) e

-- a waiting unit with these numbers
pub same_waiting : (w : Waiting) (s m r u : ℕ) → w.station ≡ s → w.unit_type ≡ m → w.ready ≡ r → w.unit ≡ u → w ≡ record { station = s; unit_type = m; ready = r; unit = u }
same_waiting w s m r u p q k t =
    ap (λ (x : ℕ). record { station = x; unit_type = w.unit_type; ready = w.ready; unit = w.unit }) p
    ∙ ap (λ (x : ℕ). record { station = s; unit_type = x; ready = w.ready; unit = w.unit }) q
    ∙ ap (λ (x : ℕ). record { station = s; unit_type = m; ready = x; unit = w.unit }) k
    ∙ ap (λ (x : ℕ). record { station = s; unit_type = m; ready = r; unit = x }) t

-- one unit more was put to its home
pub one_more_home : (day : Day) (n : ℕ) (yards after : BTreeSet Waiting) (h m : ℕ) → AreAtHomeBelow day n yards → home_of day n ≡ h → type_of day n ≡ m
    → ((q : Waiting) → contains order after q ≡ cond (is_eq (order (record { station = h; unit_type = m; ready = 0; unit = n }) q)) true (contains order yards q)) → AreAtHomeBelow day (n + 1) after
one_more_home day n yards after h m so_far eh em updates = record { each = λ w. (out w, back w) }
  where
    out : (w : Waiting) → Contains after.keys w → (w.unit < n + 1) × (home_of day w.unit ≡ w.station) × (type_of day w.unit ≡ w.unit_type) × (w.ready ≡ 0)
    out w there = elim ((put_into yards after (record { station = h; unit_type = m; ready = 0; unit = n }) updates w).0 there) [
      | inl e ↦ subst (λ (x : Waiting). (x.unit < n + 1) × (home_of day x.unit ≡ x.station) × (type_of day x.unit ≡ x.unit_type) × (x.ready ≡ 0)) (sym e) (omega arith, eh, em, refl)
      | inr old ↦ let (below, home, unit_type, ready) = (so_far.each w).0 old in (omega arith, home, unit_type, ready)
    ]

    back : (w : Waiting) → (w.unit < n + 1) × (home_of day w.unit ≡ w.station) × (type_of day w.unit ≡ w.unit_type) × (w.ready ≡ 0) → Contains after.keys w
    back w known =
        let below = known.0 in
        ⊎_elim
        (λ (lt : w.unit < n). (put_into yards after (record { station = h; unit_type = m; ready = 0; unit = n }) updates w).1 (inr ((so_far.each w).1 (lt, known.1, known.2, known.3))))
        (λ (ge : n ≤ w.unit).
        let is : w.unit ≡ n = omega arith in
        (put_into yards after (record { station = h; unit_type = m; ready = 0; unit = n }) updates w).1
        (inl (same_waiting w h m 0 n (sym known.1 ∙ ap (home_of day) is ∙ eh) (sym known.2 ∙ ap (type_of day) is ∙ em) known.3 is)))
        (cases_lt w.unit n)
