-- Picks that are broken close their own region under changes, as on the day: without cost the values are the same.
use Rattle.std.proofs.Common.{List, [], ◌∷◌, Bool, ℤ}
use Rattle.branch_tree.specs.declared.multipliers.Entry.{Entry}
use Rattle.branch_tree.specs.declared.relaxation.Weight.TheVariants.{NoCost}
use Rattle.branch_tree.specs.Bounds.{IsChainValue}
use Rattle.branch_tree.specs.Claims.{IsRay}
use Rattle.branch_tree.specs.Regions.{alone}
use Rattle.price_bound.specs.BrokenLaws.{AreClosedAlone, ChangedBrokenPicksAreClosed}
use Rattle.price_bound.specs.ChangedDays.{ChangedDay, changed_day, changed_meanings}
use Rattle.price_bound.specs.DayMeanings.{meanings_of}
use Rattle.price_bound.specs.Slacks.{broken_at}
use Rattle.price_bound.proofs.Closing.{broken_picks_are_closed}

chain_alike : (changed : ChangedDay) (region : List (List Bool)) (multipliers : List Entry) (value : ℤ)
    → IsChainValue (meanings_of changed.day) region multipliers NoCost value
    → IsChainValue (changed_meanings changed) region multipliers NoCost value
chain_alike changed region multipliers value chain =
    record { picks = chain.picks; near = chain.near; reached = chain.reached; least = chain.least }

ray_alike : (changed : ChangedDay) (region : List (List Bool)) (multipliers : List Entry)
    → IsRay (meanings_of changed.day) region multipliers → IsRay (changed_meanings changed) region multipliers
ray_alike changed region multipliers (value, chain, positive) =
    (value, chain_alike changed region multipliers value chain, positive)

pub changed_broken_picks_are_closed : ChangedBrokenPicksAreClosed
changed_broken_picks_are_closed day changes picks accepted follow unsolved =
    let plain : AreClosedAlone day (meanings_of day) picks =
    broken_picks_are_closed day picks accepted follow unsolved in
    record {
      at_handover = plain.at_handover;
      at_yard = λ early.
          ray_alike (changed_day day changes) (alone picks) (broken_at day picks ∷ []) (plain.at_yard early);
    }
