-- The table that is filled with nothing taken or given holds the counts.
use Rattle.std.proofs.Common.{List, [], length, ℤ, ap, sym, subst, ◌∙◌}
use Rattle.std.proofs.lemmas.List.{length-replicate}
use Rattle.inventory.specs.Counted.{HasPlaces, IsCountTable}
use Rattle.inventory.proofs.Holds.{zero_places, filled_with_none}
use Rattle.inventory.proofs.ledger.Ledger.new.Goals as goal

pub invariant_of-result : goal.invariant_of-result
invariant_of-result c =
    let day = c.args.instance.now in
    let places : HasPlaces day c.in_ok-counts.counts = subst (HasPlaces day) (sym c.in_ok-counts.ensures) (zero_places day) in (
      ap length c.in_ok-picks.ensures ∙ length-replicate c.trips.result 0 ∙ c.trips.ensures.value,
      c.trips.ensures.sound,
      subst (λ (T : List (List (List ℤ))). IsCountTable day [] T) (sym c.fill_with_none.ensures) (filled_with_none day c.trips.ensures.sound c.in_ok-counts.counts places),
    )
