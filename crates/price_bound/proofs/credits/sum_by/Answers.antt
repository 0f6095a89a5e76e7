-- The sum of the composition without its last unit is there, and one unit more.
use Rattle.std.proofs.Common.{◌≡◌, ◌<◌, ℕ, ℤ, List, length, get_or, pos, ◌+ℤ◌, ap, sym, subst, arith, ◌∙◌}
use Rattle.std.proofs.lemmas.Int.{ints}
use Rattle.std.proofs.lemmas.List.{get_or_read}
use Rattle.rules.specs.declared.records.End.TheVariants as at
use Rattle.timetable.specs.Compositions.{composition_at}
use Rattle.timetable.specs.Day.{Day}
use Rattle.price_bound.specs.CellSizes.{IsSmall, most_amount, most_units_price}
use Rattle.price_bound.specs.CompositionTrees.{IsLast, IsRest, place_at}
use Rattle.price_bound.specs.Credits.{sum_in}
use Rattle.price_bound.proofs.Adding.{small_more}
use Rattle.price_bound.proofs.FrontSums.{rest_small_at, rest_sum, rest_sum_at, sum_of_comp_small}
use Rattle.price_bound.proofs.credits.sum_by.Goals as goal

added : (x y a b sum : ℤ) → a ≡ x → b ≡ y → sum ≡ a +ℤ b → sum ≡ x +ℤ y
added x y a b sum one two three = omega (arith, ints, one, two, three)

pub value_at-rest-requires : goal.value_at-rest-requires
value_at-rest-requires c =
    let rest : IsRest c.args.instance.now at.Rear c.args.comp (place_at c.args.fronts.now c.args.comp) = c.requires.fronts.each c.args.comp c.requires.comp in
    omega (arith, c.place_at-place.ensures, rest.within, c.requires.sums.long)

pub amount_of-last-requires : goal.amount_of-last-requires
amount_of-last-requires c =
    let last : IsLast c.args.instance.now c.args.comp (place_at c.args.lasts.now c.args.comp) = c.requires.lasts.each c.args.comp c.requires.comp in
    let below : c.args.comp < length c.args.lasts.now = omega (arith, c.requires.comp, c.requires.lasts.long) in
    let here : c.index-lasts-comp.result ≡ place_at c.args.lasts.now c.args.comp =
    get_or_read c.args.lasts.now c.args.comp c.index-lasts-comp.result below c.index-lasts-comp.is 0 in
    omega (arith, here, last.known, c.requires.amounts.sized)

pub plus-requires-clause-amount : goal.plus-requires-clause-amount
plus-requires-clause-amount c =
    let day : Day = c.args.instance.now in
    let rest : ℕ = place_at c.args.fronts.now c.args.comp in
    subst (IsSmall most_amount) (sym (c.value_at-rest.ensures ∙ ap (λ (k : ℕ). get_or c.args.sums.now k (pos 0)) c.place_at-place.ensures))
    (small_more most_units_price most_amount (get_or c.args.sums.now rest (pos 0)) (omega arith)
    (rest_small_at c.args.amounts.now c.args.sums.now day c.args.comp rest c.requires.comp
    (c.requires.fronts.each c.args.comp c.requires.comp) c.requires.sums))

pub returns-clause-value : goal.returns-clause-value
returns-clause-value c =
    let day : Day = c.args.instance.now in
    let amounts : List ℤ = c.args.amounts.now in
    let rest : ℕ = place_at c.args.fronts.now c.args.comp in
    let last : ℕ = place_at c.args.lasts.now c.args.comp in
    let front_is : IsRest day at.Rear c.args.comp rest = c.requires.fronts.each c.args.comp c.requires.comp in
    let last_is : IsLast day c.args.comp last = c.requires.lasts.each c.args.comp c.requires.comp in
    let in_lasts : c.args.comp < length c.args.lasts.now = omega (arith, c.requires.comp, c.requires.lasts.long) in
    let last_there : c.index-lasts-comp.result ≡ last =
    get_or_read c.args.lasts.now c.args.comp c.index-lasts-comp.result in_lasts c.index-lasts-comp.is 0 in
    added (sum_in amounts (composition_at day rest)) (get_or amounts last (pos 0)) c.value_at-rest.result.0 c.amount_of-last.result.0
    c.plus.result.0
    (c.value_at-rest.ensures ∙ ap (λ (k : ℕ). get_or c.args.sums.now k (pos 0)) c.place_at-place.ensures
    ∙ rest_sum_at amounts c.args.sums.now day c.args.comp rest c.requires.comp front_is c.requires.sums)
    (c.amount_of-last.ensures ∙ ap (λ (k : ℕ). get_or amounts k (pos 0)) last_there) c.plus.ensures
    ∙ sym (rest_sum amounts day c.args.comp rest last front_is last_is)

pub returns-clause-small : goal.returns-clause-small
returns-clause-small c =
    subst (IsSmall most_units_price) (sym (returns-clause-value c))
    (sum_of_comp_small c.args.amounts.now c.args.instance.now c.args.comp c.requires.comp c.requires.amounts.sized c.requires.amounts.small)
