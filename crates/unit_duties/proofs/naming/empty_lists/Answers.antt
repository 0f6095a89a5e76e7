use Rattle.std.proofs.Common.{◌≡◌, ◌∙◌, ◌++◌, ◌∷◌, [], ℕ, replicate, ap, arith}
use Rattle.std.proofs.lemmas.List.{replicate_more}
use Rattle.unit_duties.proofs.naming.empty_lists.Goals as goal

pub loop-init : goal.loop-init
loop-init c = c.new-lists.ensures.items

pub loop-preserved : goal.loop-preserved
loop-preserved c =
    c.in_ok-push.ensures.items ∙ ap (λ l. l ++ c.of.result ∷ []) c.loop.invariant
    ∙ ap (λ units. replicate c.loop.counter [] ++ units ∷ []) (c.of.ensures ∙ c.new.ensures.items) ∙ replicate_more c.loop.counter []

pub returns : goal.returns
returns c =
    let all : c.loop.counter ≡ c.args.trips = omega (arith, c.loop.auto.counter-end, c.loop-test.false) in
    c.loop.invariant ∙ ap (λ (n : ℕ). replicate n []) all
