-- A link without a second trip that may not exchange units is a turn without exchange.
use Rattle.std.proofs.Common.{◌≡◌, true, false, None, refl}
use Rattle.rules.specs.declared.records.LinkKind.{LinkKind}
use Rattle.rules.specs.declared.records.LinkKind.TheVariants.{Turn, Join, Split}
use Rattle.timetable.specs.Chains.{leads_from, leads_to}
use Rattle.rules.specs.NamedTrips.{second_of}
use Rattle.timetable.specs.Turns.{coupling_end, uncoupling_end}
use Rattle.transitions.specs.Pairs.{may_exchange}

pub plain_turn : (kind : LinkKind) → second_of kind ≡ None → may_exchange kind ≡ false
    → kind ≡ Turn (leads_from kind) (leads_to kind) (uncoupling_end kind) (coupling_end kind) false
plain_turn (Turn a b uncouple couple false) none not = refl
plain_turn (Turn a b uncouple couple true) none not = absurd (let differ = not in cc)
plain_turn (Join a1 a2 b) none not = absurd (let differ = none in cc)
plain_turn (Split a b1 b2) none not = absurd (let differ = none in cc)
