use Rattle.std.proofs.Common.{◌≡◌, ◌<◌, ℕ, List, length, get_or, sym, ap, subst, ◌∙◌, arith, inl, inr}
use Rattle.std.proofs.lemmas.Bool.{cases_eq}
use Rattle.std.proofs.lemmas.List.{get_or-set_other, get_or-set_same, length-set}
use Rattle.std.proofs.lemmas.Option.{get_or_from_slice_get}
use Rattle.timetable.specs.Picks.{RunsByPicks}
use Rattle.replan.specs.Disturbances.{Disturbed, trips_later}
use Rattle.replan.specs.RestsOfDays.{planned_comp}
use Rattle.replan.proofs.ChangeLists.{planned_pick}
use Rattle.replan.proofs.Inside.{trips_are}
use Rattle.replan.proofs.rest_of_day.planned_comps.Goals as goal

pub loop-trip-preserved : goal.loop-trip-preserved
loop-trip-preserved c =
    let disturbed = c.args.disturbance.now in
    let before = c.loop-trip.planned in
    let trip = c.loop-trip.trip in
    let many = trips_are disturbed _ c.disturbance.view_is c.disturbance.inside.later.now.instance c.disturbance.invariant.1.instance_is in
    let lt : trip < trips_later disturbed = omega (arith, c.loop-trip-test.true, c.trips-trips.ensures.value, many) in
    let below : trip < length before = omega (arith, c.loop-trip-test.true, c.loop-trip.invariant.0) in
    let by : RunsByPicks disturbed.day disturbed.plan c.in_ok-picks.picks =
    subst (λ (d : Disturbed). RunsByPicks d.day d.plan c.in_ok-picks.picks) c.disturbance.view_is c.in_ok-picks.ensures in
    let pick : c.get.result ≡ planned_comp disturbed trip =
    sym (get_or_from_slice_get c.in_ok-picks.picks c.old.result c.get.result 0 c.get.ensures)
    ∙ ap (λ (n : ℕ). get_or c.in_ok-picks.picks n 0) c.old.ensures.number ∙ planned_pick disturbed c.requires c.in_ok-picks.picks by trip lt in (
      ap (λ (picks : List ℕ). length picks) c.set.ensures ∙ length-set before trip c.get.result ∙ c.loop-trip.invariant.0,
      λ t less. elim (cases_eq t trip) [
        | inl here ↦
            subst (λ (k : ℕ). get_or c.set.new.self k 0 ≡ planned_comp disturbed k) (sym here)
            (ap (λ (picks : List ℕ). get_or picks trip 0) c.set.ensures ∙ get_or-set_same before trip c.get.result 0 below ∙ pick)
        | inr differs ↦
            ap (λ (picks : List ℕ). get_or picks t 0) c.set.ensures ∙ get_or-set_other before trip t c.get.result 0 differs
            ∙ c.loop-trip.invariant.1 t (omega (arith, less, differs))
      ],
    )
