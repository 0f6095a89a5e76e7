use Rattle.std.proofs.Common.{◌≡◌, ◌∙◌, ◌++◌, ◌∷◌, [], ℕ, replicate, ap, arith}
use Rattle.std.proofs.lemmas.List.{replicate_more}
use Rattle.unit_duties.proofs.by_unit.empty_lists.Goals as goal

pub loop-init : goal.loop-init
loop-init c = c.new-lists.ensures.items

pub loop-preserved : goal.loop-preserved
loop-preserved c =
    c.in_ok-push.ensures.items ∙ ap (λ l. l ++ c.new.result ∷ []) c.loop.invariant
    ∙ ap (λ stops. replicate c.loop.counter [] ++ stops ∷ []) c.new.ensures ∙ replicate_more c.loop.counter []

pub returns : goal.returns
returns c =
    let all : c.loop.counter ≡ c.args.units = omega (arith, c.loop.auto.counter-end, c.loop-test.false) in
    c.loop.invariant ∙ ap (λ (n : ℕ). replicate n []) all
