use Rattle.std.proofs.Common.{◌≡◌, ◌<◌, ◌+◌, ℕ, List, Bool, length, sym, ap, subst, ◌∙◌, arith}
use Rattle.std.proofs.lemmas.Option.{get_or_from_slice_get}
use Rattle.timetable.specs.Compositions.{compositions_of}
use Rattle.timetable.specs.Day.{Day}
use Rattle.branch_tree.specs.declared.cuts.Cut.TheVariants.{Only}
use Rattle.branch_tree.specs.declared.cuts.Side.TheVariants.{Left}
use Rattle.branch_tree.specs.Cuts.{side_of}
use Rattle.branch_tree.specs.Regions.{has, root_of}
use Rattle.replan.specs.Disturbances.{Disturbed, later_day, trips_later}
use Rattle.replan.specs.RestsOfDays.{is_frozen, planned_comp}
use Rattle.replan.proofs.Inside.{later_same, trips_are}
use Rattle.replan.proofs.PlannedTypes.{planned_listed}
use Rattle.replan.proofs.RootSteps.{IsPastRootTo, past_all, past_free, past_kept, past_none, planned_there}
use Rattle.replan.proofs.rest_of_day.past_root.Goals as goal
use Rattle.replan.proofs.rest_of_day.past_root.Goals.{then-is_frozen, else-is_frozen}

pub loop-trip-init : goal.loop-trip-init
loop-trip-init c =
    let later = later_same c.args.disturbance.now _ c.disturbance.view_is c.disturbance.inside.later.now.instance c.disturbance.invariant.1.instance_is in
    past_none c.args.disturbance.now c.in_ok-root.root (c.in_ok-root.ensures ∙ ap root_of later)

pub keep_only-requires-clause-trip : goal.keep_only-requires-clause-trip
keep_only-requires-clause-trip c =
    let many = trips_are c.args.disturbance.now _ c.disturbance.view_is c.disturbance.inside.later.now.instance c.disturbance.invariant.1.instance_is in
    omega (arith, c.loop-trip.invariant.each, c.loop-trip-test.true, c.trips-trip-end.ensures.value, many)

pub keep_only-requires-clause-comp : goal.keep_only-requires-clause-comp
keep_only-requires-clause-comp c =
    let disturbed = c.args.disturbance.now in
    let trip = c.loop-trip.trip in
    let many = trips_are disturbed _ c.disturbance.view_is c.disturbance.inside.later.now.instance c.disturbance.invariant.1.instance_is in
    let later = later_same disturbed _ c.disturbance.view_is c.disturbance.inside.later.now.instance c.disturbance.invariant.1.instance_is in
    let lt : trip < trips_later disturbed = omega (arith, c.loop-trip-test.true, c.trips-trip-end.ensures.value, many) in
    let pick : c.get.result ≡ planned_comp disturbed trip =
    sym (get_or_from_slice_get c.args.planned.now trip c.get.result 0 c.get.ensures) ∙ c.requires.planned.are trip lt in
    let lists : c.catalogue.result.now ≡ compositions_of (later_day disturbed) = c.catalogue.ensures ∙ ap compositions_of later in
    subst (λ (n : ℕ). n < length c.catalogue.result.now) (sym pick)
    (subst (λ (all : List (List ℕ)). planned_comp disturbed trip < length all) (sym lists) (planned_listed disturbed c.requires.under_way trip lt))

pub keep_only-requires-clause-there : goal.keep_only-requires-clause-there
keep_only-requires-clause-there c =
    let disturbed = c.args.disturbance.now in
    let trip = c.loop-trip.trip in
    let many = trips_are disturbed _ c.disturbance.view_is c.disturbance.inside.later.now.instance c.disturbance.invariant.1.instance_is in
    let lt : trip < trips_later disturbed = omega (arith, c.loop-trip-test.true, c.trips-trip-end.ensures.value, many) in
    let pick : c.get.result ≡ planned_comp disturbed trip =
    sym (get_or_from_slice_get c.args.planned.now trip c.get.result 0 c.get.ensures) ∙ c.requires.planned.are trip lt in
    ap (λ (n : ℕ). has c.loop-trip.root trip n) pick ∙ planned_there disturbed c.requires.under_way trip c.loop-trip.root lt c.loop-trip.invariant

pub loop-trip-preserved : goal.loop-trip-preserved
loop-trip-preserved c =
    let disturbed = c.args.disturbance.now in
    let trip = c.loop-trip.trip in
    let root = c.loop-trip.root in
    let many = trips_are disturbed _ c.disturbance.view_is c.disturbance.inside.later.now.instance c.disturbance.invariant.1.instance_is in
    let later = later_same disturbed _ c.disturbance.view_is c.disturbance.inside.later.now.instance c.disturbance.invariant.1.instance_is in
    let lt : trip < trips_later disturbed = omega (arith, c.loop-trip-test.true, c.trips-trip-end.ensures.value, many) in
    let frozen : c.is_frozen.result ≡ is_frozen (later_day disturbed) disturbed.minute trip =
    c.is_frozen.ensures ∙ ap (λ (day : Day). is_frozen day c.disturbance.inside.minute trip) later
    ∙ ap (λ (d : Disturbed). is_frozen (later_day disturbed) d.minute trip) c.disturbance.view_is in
    elim c.if-is_frozen.branch [
      | then-is_frozen w ↦
          let pick : w.get.result ≡ planned_comp disturbed trip =
          sym (get_or_from_slice_get c.args.planned.now trip w.get.result 0 w.get.ensures) ∙ c.requires.planned.are trip lt in
          let lists : w.catalogue.result.now ≡ compositions_of (later_day disturbed) = w.catalogue.ensures ∙ ap compositions_of later in
          subst (λ (sets : List (List Bool)). IsPastRootTo disturbed (trip + 1) sets) (sym w.root-is)
          (past_kept disturbed c.requires.under_way trip root w.keep_only.new.root lt c.loop-trip.invariant (sym frozen ∙ w.if-is_frozen.true)
          (w.keep_only.ensures ∙ ap (λ (all : List (List ℕ)). side_of all (Only trip w.get.result) Left root) lists
          ∙ ap (λ (n : ℕ). side_of (compositions_of (later_day disturbed)) (Only trip n) Left root) pick))
      | else-is_frozen w ↦
          subst (λ (sets : List (List Bool)). IsPastRootTo disturbed (trip + 1) sets) (sym w.root-is)
          (past_free disturbed trip root c.loop-trip.invariant (sym frozen ∙ w.if-is_frozen.false))
    ]

pub returns : goal.returns
returns c =
    let many = trips_are c.args.disturbance.now _ c.disturbance.view_is c.disturbance.inside.later.now.instance c.disturbance.invariant.1.instance_is in
    past_all c.args.disturbance.now c.loop-trip.trip c.loop-trip.root
    (omega (arith, c.loop-trip-test.false, c.loop-trip.auto.trip-end, c.trips-trip-end.ensures.value, many)) c.loop-trip.invariant
