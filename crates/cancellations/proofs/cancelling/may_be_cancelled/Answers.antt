use Rattle.std.proofs.Common.{List, ℕ, sym, ap, ◌∙◌}
use Rattle.std.specs.Prelude.{nat_lt}
use Rattle.std.specs.List.{list_any}
use Rattle.timetable.specs.Day.{leaves}
use Rattle.cancellations.proofs.RowTrips.{by_link, by_none}
use Rattle.cancellations.proofs.cancelling.may_be_cancelled.Goals as goal

pub returns-in-Some : goal.returns-in-Some
returns-in-Some c =
    by_link c.args.instance.now c.is_sound.ensures.links c.args.now c.args.trip c.requires c.in-Some.link c.has_any_left.result (sym c.in-Some.ensures.link)
    (c.has_any_left.ensures ∙ ap (λ (ts : List ℕ). list_any (λ t. nat_lt (leaves c.args.instance.now t) c.args.now) ts) c.departing.ensures.trips)

pub returns-in-None : goal.returns-in-None
returns-in-None c =
    by_none c.args.instance.now c.is_sound.ensures.links c.args.now c.args.trip c.requires c.has_left.result (sym c.in-None.ensures.link) c.has_left.ensures
