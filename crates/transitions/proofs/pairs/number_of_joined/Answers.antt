-- The units with the others are looked for, where they are not too many.
use Rattle.std.proofs.Common.{List, ℕ, refl, ap, subst, ◌∙◌}
use Rattle.timetable.specs.Links.{turned}
use Rattle.transitions.specs.Pairs.{joined_at}
use Rattle.transitions.proofs.Listed.{too_long}
use Rattle.transitions.proofs.Stepping.{IsFound}
use Rattle.transitions.proofs.pairs.number_of_joined.Goals as goal

pub returns-in_err-joined : goal.returns-in_err-joined
returns-in_err-joined c =
    too_long c.args.instance.now c.args.reversed (joined_at c.args.end c.args.units.now c.args.others.now) (c.in_err-joined.ensures.none refl) c.from_residual.result c.from_residual.ensures

pub returns : goal.returns
returns c =
    subst (λ (ms : List ℕ). IsFound c.args.instance.now ms c.number_of.result) (c.turned.ensures ∙ ap (turned c.args.reversed) c.in_ok-joined.ensures.some) c.number_of.ensures
