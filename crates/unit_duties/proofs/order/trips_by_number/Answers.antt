use Rattle.std.proofs.Common.{◌≡◌, ◌∙◌, ◌+◌, ◌++◌, ◌∷◌, [], ℕ, suc, ap, arith}
use Rattle.timetable.specs.Lists.{below}
use Rattle.unit_duties.proofs.order.trips_by_number.Goals as goal

one_more : (n : ℕ) → below n ++ n ∷ [] ≡ below (n + 1)
one_more n = let next : suc n ≡ n + 1 = omega arith in ap below next

pub loop-number-init : goal.loop-number-init
loop-number-init c = c.new-order.ensures.items

pub loop-number-preserved : goal.loop-number-preserved
loop-number-preserved c =
    c.in_ok-push.ensures.items ∙ ap (λ l. l ++ c.loop-number.number ∷ []) c.loop-number.invariant ∙ one_more c.loop-number.number

pub returns : goal.returns
returns c =
    let all : c.loop-number.number ≡ c.args.trips = omega (arith, c.loop-number.auto.number-end, c.loop-number-test.false) in
    c.loop-number.invariant ∙ ap below all
