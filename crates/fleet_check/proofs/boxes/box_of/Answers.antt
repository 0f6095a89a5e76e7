use Rattle.std.proofs.Common.{ℕ, List, sym, ap, ◌∙◌, subst}
use Rattle.std.specs.Prelude.{replicate}
use Rattle.fleets.specs.Fleets.{IsNowhereAbove}
use Rattle.fleet_check.proofs.Fitting.{none_there}
use Rattle.fleet_check.proofs.boxes.box_of.Goals as goal

pub returns-clause-fits : goal.returns-clause-fits
returns-clause-fits c = record {
  greatest = c.in_ok-greatest.ensures.fits;
  least = subst (λ (fleet : List ℕ). IsNowhereAbove fleet c.in_ok-greatest.greatest)
      (sym (c.in_ok-least.ensures ∙ ap (λ (n : ℕ). replicate n 0) c.len.ensures)) (none_there c.in_ok-greatest.greatest);
}
