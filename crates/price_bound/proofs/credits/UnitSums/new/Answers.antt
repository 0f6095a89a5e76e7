-- The tables are made with the sizes of the day.
use Rattle.std.proofs.Common.{◌+◌, length, arith, ap, ◌∙◌}
use Rattle.std.proofs.lemmas.List.{length-replicate}
use Rattle.price_bound.specs.declared.credits.Summed.TheVariants.{Members}
use Rattle.price_bound.proofs.Adding.{zeros_sized}
use Rattle.price_bound.proofs.credits.UnitSums.new.Goals as goal

pub returns : goal.returns
returns c = record {
  credits = zeros_sized _ _ c.trips-trips.result (c.len-comps.result + 1) c.in_ok-credits.credits c.in_ok-credits.ensures
      c.trips-trips.ensures.value (omega (arith, c.len-comps.ensures.value, ap length c.catalogue.ensures));
  debits = zeros_sized _ _ c.trips-trips.result (c.len-comps.result + 1) c.in_ok-debits.debits c.in_ok-debits.ensures
      c.trips-trips.ensures.value (omega (arith, c.len-comps.ensures.value, ap length c.catalogue.ensures));
  summed = ap length (c.in_ok-summed.ensures.items_if_clones_equal (λ y is. is)) ∙ length-replicate c.trips-trips.result Members ∙ c.trips-trips.ensures.value;
}
