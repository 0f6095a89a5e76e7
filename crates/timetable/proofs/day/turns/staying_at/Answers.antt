-- The tests at the kept number decide.
use Rattle.std.proofs.Common.{◌≡◌, ◌∙◌, Some, false, true, ap, sym, rules, map}
use Rattle.std.specs.Prelude.{option_and_then}
use Rattle.timetable.specs.Turns.{same, staying, parts_at}
use Rattle.timetable.proofs.Beside.{stay, differ}
use Rattle.timetable.proofs.day.turns.staying_at.Goals as goal

pub returns-then-not-are_same-clause-parts : goal.returns-then-not-are_same-clause-parts
returns-then-not-are_same-clause-parts g c =
    let f = g.E.TripEntry.number in
    let kept : c.args.kept ≡ Some c.in_ok-stay.stay = search rules in
    let others : same (map f (staying c.args.uncouple c.args.arriving.now c.in_ok-stay.stay)) (map f (staying c.args.couple c.args.departing.now c.in_ok-stay.stay)) ≡ false = search rules in
    differ f c.args.uncouple c.args.couple c.args.exchange c.args.arriving.now c.args.departing.now c.in_ok-stay.stay others
    ∙ sym (ap (option_and_then (parts_at c.args.uncouple c.args.couple c.args.exchange (map f c.args.arriving.now) (map f c.args.departing.now))) kept)

pub returns-clause-parts : goal.returns-clause-parts
returns-clause-parts g c =
    let f = g.E.TripEntry.number in
    let kept : c.args.kept ≡ Some c.in_ok-stay.stay = search rules in
    let same_there : same (map f (staying c.args.uncouple c.args.arriving.now c.in_ok-stay.stay)) (map f (staying c.args.couple c.args.departing.now c.in_ok-stay.stay)) ≡ true = search rules in
    stay f c.args.uncouple c.args.couple c.args.exchange c.args.arriving.now c.args.departing.now c.in_ok-stay.stay same_there (search rules)
    ∙ sym (ap (option_and_then (parts_at c.args.uncouple c.args.couple c.args.exchange (map f c.args.arriving.now) (map f c.args.departing.now))) kept)
