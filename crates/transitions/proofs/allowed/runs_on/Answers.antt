-- Each composition adds its answer.
use Rattle.std.proofs.Common.{◌≡◌, ℕ, length, map, take, ◌∙◌, arith, ap}
use Rattle.std.proofs.Math.Seq.{take-length}
use Rattle.timetable.specs.Admissible.{is_admissible}
use Rattle.timetable.specs.Compositions.{compositions_of}
use Rattle.transitions.proofs.Numbers.{more_runs}
use Rattle.transitions.proofs.allowed.runs_on.Goals as goal

pub loop-comp-preserved : goal.loop-comp-preserved
loop-comp-preserved c =
    c.in_ok-push.ensures.items
    ∙ more_runs c.args.instance.now c.args.trip c.loop-comp.comp c.loop-comp.runs.items c.admits.result (omega (arith, c.loop-comp-test.true, c.len-comp-end.ensures.value, ap length c.catalogue.ensures)) c.loop-comp.invariant c.admits.ensures

pub returns : goal.returns
returns c =
    let end : c.loop-comp.comp ≡ length (compositions_of c.args.instance.now) = omega (arith, ap length c.catalogue.ensures) in
    c.loop-comp.invariant
    ∙ ap (λ (n : ℕ). map (is_admissible c.args.instance.now c.args.trip) (take n (compositions_of c.args.instance.now))) end
    ∙ ap (map (is_admissible c.args.instance.now c.args.trip)) (take-length (compositions_of c.args.instance.now))
