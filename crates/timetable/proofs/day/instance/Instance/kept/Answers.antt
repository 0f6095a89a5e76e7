-- The link is the one of its number, and its count of kept units that of the longest list that fits.
use Rattle.std.proofs.Common.{◌≡◌, Option, sym, subst, ◌∙◌}
use Rattle.std.specs.Prelude.{IfSome}
use Rattle.rules.specs.declared.records.Link.{Link}
use Rattle.timetable.specs.Turns.{kept_of, IsKept}
use Rattle.timetable.proofs.day.instance.Instance.kept.Goals as goal

pub returns-clause-number : goal.returns-clause-number
returns-clause-number c =
    subst (λ (o : Option Link). IfSome o (λ link. c.as_number.result ≡ kept_of link.kind c.args.arriving.now c.args.departing.now)) (sym c.link.ensures.value)
    (c.as_number.ensures ∙ c.kept.ensures.number)

pub returns-clause-meaning : goal.returns-clause-meaning
returns-clause-meaning c =
    subst (λ (o : Option Link). IfSome o (λ link. IsKept link.kind c.args.arriving.now c.args.departing.now c.as_number.result)) (sym c.link.ensures.value)
    (subst (IsKept c.link.result.now.kind c.args.arriving.now c.args.departing.now) (sym c.as_number.ensures) c.kept.ensures.meaning)
