-- The changes of a disturbed day are such as bounds take, and the planned compositions stand in the picks of the plan.
use Rattle.std.proofs.Common.{◌≡◌, ℕ, ◌<◌, ◌≤◌, List, length, get_or, sym, subst, ◌∙◌, arith}
use Rattle.std.proofs.lemmas.Option.{get_or_from_slice_get}
use Rattle.rail_base.specs.declared.limits.TheConstants.{MAX_CHANGE}
use Rattle.timetable.specs.Compositions.{compositions_of}
use Rattle.timetable.specs.DerivedDays.{old_number}
use Rattle.timetable.specs.Lists.{listed}
use Rattle.timetable.specs.Picks.{RunsByPicks}
use Rattle.timetable.proofs.Listing.{get_listed, length-listed}
use Rattle.price_bound.specs.declared.changes.Change.{Change}
use Rattle.price_bound.specs.ChangedDays.{AreChanges}
use Rattle.replan.specs.Disturbances.{Disturbed, later_day, trips_later}
use Rattle.replan.specs.Laws.{IsUnderWay}
use Rattle.replan.specs.RestsOfDays.{changes_of, planned_comp}
use Rattle.replan.proofs.GoingOn.{typed}
use Rattle.replan.proofs.LaterFacts.{old_below, same_composition, same_compositions}
use Rattle.replan.proofs.PlannedTypes.{planned_alone, planned_listed}

module _ (disturbed : Disturbed) (way : IsUnderWay disturbed) where
  abbrev at : ℕ → Change
  at t = record { trip = t; base = planned_comp disturbed t; cost = disturbed.change }

  change_is : (k : ℕ) (d : Change) → k < trips_later disturbed → get_or (listed at (trips_later disturbed)) k d ≡ at k
  change_is k d lt = get_or_from_slice_get (listed at (trips_later disturbed)) k (at k) d (get_listed at (trips_later disturbed) k lt)

  pub are_changes : AreChanges (later_day disturbed) (changes_of disturbed)
  unfolding changes_of
  are_changes =
      let long : length (listed at (trips_later disturbed)) ≡ trips_later disturbed = length-listed at (trips_later disturbed) in
      record {
        rising = λ i j d order below.
            let lt : j < trips_later disturbed = omega (arith, below, long) in
            let less : i < trips_later disturbed = omega (arith, order, lt) in
            subst (λ (a : Change). a.trip < (get_or (listed at (trips_later disturbed)) j d).trip) (sym (change_is i d less))
            (subst (λ (b : Change). i < b.trip) (sym (change_is j d lt)) order);
        trips = λ k d below.
            let lt : k < trips_later disturbed = omega (arith, below, long) in
            subst (λ (change : Change). change.trip < trips_later disturbed) (sym (change_is k d lt)) lt;
        bases = λ k d below.
            let lt : k < trips_later disturbed = omega (arith, below, long) in
            subst (λ (change : Change). change.base < length (compositions_of (later_day disturbed))) (sym (change_is k d lt)) (planned_listed disturbed way k lt);
        costs = λ k d below.
            let lt : k < trips_later disturbed = omega (arith, below, long) in
            subst (λ (change : Change). change.cost ≤ MAX_CHANGE) (sym (change_is k d lt)) way.given.change_few;
      }

  -- the pick of a trip by which the plan runs is the planned composition of the trip of the later day
  pub planned_pick : (picks : List ℕ) → RunsByPicks disturbed.day disturbed.plan picks → (t : ℕ) → t < trips_later disturbed
      → get_or picks (old_number disturbed.day disturbed.cancelled t) 0 ≡ planned_comp disturbed t
  planned_pick picks by t lt =
      let before : old_number disturbed.day disturbed.cancelled t < length disturbed.day.trips = old_below disturbed t lt in
      let there : old_number disturbed.day disturbed.cancelled t < length picks = omega (arith, before, by.are_picks.trips) in
      planned_alone disturbed way t (get_or picks (old_number disturbed.day disturbed.cancelled t) 0) lt
      (subst (λ (lists : List (List ℕ)). get_or picks (old_number disturbed.day disturbed.cancelled t) 0 < length lists) (sym (same_compositions disturbed))
      (by.are_picks.known (old_number disturbed.day disturbed.cancelled t) 0 there))
      (same_composition disturbed (get_or picks (old_number disturbed.day disturbed.cancelled t) 0)
      ∙ typed disturbed.day disturbed.plan picks by (old_number disturbed.day disturbed.cancelled t) before)
