-- The trips so far.
use Rattle.std.proofs.Common.{◌≡◌, map}
use Rattle.timetable.specs.Links.{list_of}
use Rattle.timetable.specs.Lists.{listed}
use Rattle.urgent_units.specs.Exchanges.{in_place}
use Rattle.urgent_units.proofs.swaps.exchanged_plan.Given as goal

abbrev pub invariant-loop-number : goal.invariant-loop-number
invariant-loop-number l =
    l.lists.items ≡ listed (λ t. map (in_place l.instance l.exchange.one l.exchange.other l.exchange.minute t) (list_of l.plan t)) l.number
