-- One trip more has its place.
use Rattle.std.proofs.Common.{◌≡◌, ◌+◌, ◌<◌, ◌++◌, ◌∷◌, ℕ, suc, List, [], length, ap, arith, sym, subst, ◌∙◌}
use Rattle.std.specs.List.{All}
use Rattle.std.proofs.lemmas.List.Elements.{All-push}
use Rattle.timetable.specs.Lists.{listed}
use Rattle.price_bound.specs.declared.yard_places.YardPlace.{YardPlace}
use Rattle.price_bound.specs.YardTables.{taken_at}
use Rattle.price_bound.proofs.yard_places.taken_places.Goals as goal

one_more : (n : ℕ) → suc n ≡ n + 1
one_more n = omega arith

pub loop-trip-preserved : goal.loop-trip-preserved
loop-trip-preserved c = record {
  each =
      c.in_ok-push.ensures.items
      ∙ ap (λ (places : List YardPlace). places ++ c.taken_at.result ∷ []) c.loop-trip.invariant.each
      ∙ ap (λ (place : YardPlace). listed (taken_at c.args.instance.now) c.loop-trip.trip ++ place ∷ []) c.taken_at.ensures.value
      ∙ ap (listed (taken_at c.args.instance.now)) (one_more c.loop-trip.trip);
  known = subst (All (λ (place : YardPlace). place.station < length c.args.instance.now.stations)) (sym c.in_ok-push.ensures.items)
      (All-push (λ place. place.station < length c.args.instance.now.stations) c.loop-trip.places.items c.taken_at.result
      c.loop-trip.invariant.known c.taken_at.ensures.known);
}
