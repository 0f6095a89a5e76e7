use Rattle.std.proofs.Common.{◌≡◌, ◌∙◌, ℕ, List, sym, ap, get_or, arith, w64}
use Rattle.std.proofs.lemmas.Int.{ints}
use mir.Val.{to_z, of_z}
use Rattle.timetable.specs.Day.{Day}
use Rattle.timetable.specs.Minutes.{minutes_of}
use Rattle.inventory.specs.Counts.{count_of_place}
use Rattle.worked_answers.proofs.ready_tests.ready_count.Goals as goal

pub returns : goal.returns
returns c = λ plan runs.
    let passed : to_z w64 (of_z w64 c.count_after.result) ≡ c.count_after.result = omega (arith, ints) in
    passed ∙ c.count_after.ensures
    ∙ ap (λ (day : Day). count_of_place day c.args.ledger.now.lists c.args.station 0 c.args.place) c.requires.day
    ∙ ap (λ (lists : List (List ℕ)). count_of_place c.args.day.now lists c.args.station 0 c.args.place)
    (sym runs.types_are)
    ∙ c.yards_hold_ready_units.ensures.law c.args.day.now plan c.args.station 0
    (get_or (minutes_of c.args.day.now c.args.station) c.args.place 0) c.is_sound.ensures.limits c.is_sound.ensures.links
    c.is_sound.ensures.stock runs.runs
