-- What is found for the trip is what the tables have for it.
use Rattle.std.proofs.Common.{◌≡◌, ℕ, Bool, true, false, not, Option, Some, None, [], get_or, refl, ap, ◌∙◌}
use Rattle.std.specs.Prelude.{is_none, is_some}
use Rattle.price_bound.proofs.priced_costs.PricedCosts.new.Goals as goal

none_is : {X : Type 0} (o : Option X) (none : Bool) → is_some o ≡ not none → none ≡ is_none o
none_is None true e = refl
none_is None false e = absurd (let no : false ≡ true = e in cc)
none_is (Some x) true e = absurd (let no : true ≡ false = e in cc)
none_is (Some x) false e = refl

pub returns-clause-is : goal.returns-clause-is
returns-clause-is c = record {
  priced = c.requires.priced;
  known = c.requires.trip;
  set = c.set.ensures;
  costs = c.items.ensures ∙ (c.row.ensures ∙ ap (λ (r : ℕ). get_or c.args.pricing.now.costs.now r []) c.place-row.ensures.number);
  weight = refl;
  begins = none_is c.incoming.result c.is_none.result c.is_none.ensures ∙ ap is_none c.incoming.ensures.value;
  debits = c.items-2.ensures ∙ (c.row-2.ensures ∙ ap (λ (r : ℕ). get_or c.args.pricing.now.sums.now.debits r []) c.place-row.ensures.number);
  ends = none_is c.outgoing.result c.is_none-2.result c.is_none-2.ensures ∙ ap is_none c.outgoing.ensures.value;
  credits = c.items-3.ensures ∙ (c.row-3.ensures ∙ ap (λ (r : ℕ). get_or c.args.pricing.now.sums.now.credits r []) c.place-row.ensures.number);
  seconds = c.items-4.ensures ∙ (c.row-4.ensures ∙ ap (λ (r : ℕ). get_or c.args.pricing.now.tables.now.seconds r []) c.place-row.ensures.number);
}
