-- One more unit is added.
use Rattle.std.proofs.Common.{◌∷◌, ◌++◌, [], List, replicate, ap, ◌∙◌, append_assoc}
use Rattle.std.proofs.lemmas.List.{replicate_more}
use Rattle.rules.specs.declared.records.Unit.{Unit}
use Rattle.timetable.proofs.day.instance.push_units.Goals as goal

pub loop-preserved : goal.loop-preserved
loop-preserved c =
    let unit : Unit = record { unit_type = c.args.row.unit_type; home = c.args.row.station } in
    c.in_ok-push.ensures.items ∙ ap (λ (units : List Unit). units ++ unit ∷ []) c.loop.invariant
    ∙ append_assoc c.args.units.now.items (replicate c.loop.counter unit) (unit ∷ [])
    ∙ ap (λ (units : List Unit). c.args.units.now.items ++ units) (replicate_more c.loop.counter unit)
