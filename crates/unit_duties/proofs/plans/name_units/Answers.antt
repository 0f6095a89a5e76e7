use Rattle.std.proofs.Common.{ℕ, List, None, Some, sym, subst, ap, ◌∙◌, arith}
use Rattle.timetable.specs.Picks.{picked}
use Rattle.inventory.specs.NamingLaws.{RunsWith}
use Rattle.inventory.specs.NamedUnits.{named_from}
use Rattle.inventory.proofs.Laws.{none_before, served_plans_run}
use Rattle.unit_duties.specs.Naming.{CanBeNamed}
use Rattle.unit_duties.proofs.Refusing.{fault_of, serve, broken_not_solved, faulty_not_solved}
use Rattle.unit_duties.proofs.plans.name_units.Goals as goal

pub returns-in-Some-clause-none : goal.returns-in-Some-clause-none
returns-in-Some-clause-none c = λ free.
    broken_not_solved c.args.instance.now c.args.picks.now c.is_sound.ensures.limits c.is_sound.ensures.links c.requires.picks c.is_sound.ensures.stock c.in-Some.link c.in-Some.ensures.some

pub returns-in-Some-first_fault-clause-none : goal.returns-in-Some-first_fault-clause-none
returns-in-Some-first_fault-clause-none c = λ free.
    let day = c.args.instance.now in
    faulty_not_solved day c.args.picks.now c.is_sound.ensures.limits c.is_sound.ensures.links c.requires.picks c.is_sound.ensures.stock c.in-Some-first_fault.fault
    (fault_of day c.args.picks.now c.in_ok-ledger.ledger c.load.new.self c.first_fault.result (Some c.in-Some-first_fault.fault) c.in_ok-ledger.ensures c.load.ensures c.first_fault.ensures c.in-Some-first_fault.is)

pub named_from-requires : goal.named_from-requires
named_from-requires c =
    let day = c.args.instance.now in
    let served = serve day c.args.picks.now c.is_sound.ensures.limits c.is_sound.ensures.links c.requires.picks c.is_sound.ensures.stock c.requires.admissible c.in_default.ensures.none
    (fault_of day c.args.picks.now c.in_ok-ledger.ledger c.load.new.self c.first_fault.result None c.in_ok-ledger.ensures c.load.ensures c.first_fault.ensures c.in_default-first_fault.is) in
    record {
      can = subst (λ (plan : List (List ℕ)). CanBeNamed day c.args.picks.now 0 plan) (sym (c.of-none.ensures ∙ c.new-2.ensures.items)) (record {
        are_picks = c.requires.picks;
        served = served;
        named = none_before day (picked day c.args.picks.now);
        listed = λ t lt early. absurd (omega arith);
      });
    }

pub returns-clause-runs : goal.returns-clause-runs
returns-clause-runs c =
    let day = c.args.instance.now in
    let types = picked day c.args.picks.now in
    let served = serve day c.args.picks.now c.is_sound.ensures.limits c.is_sound.ensures.links c.requires.picks c.is_sound.ensures.stock c.requires.admissible c.in_default.ensures.none
    (fault_of day c.args.picks.now c.in_ok-ledger.ledger c.load.new.self c.first_fault.result None c.in_ok-ledger.ensures c.load.ensures c.first_fault.ensures c.in_default-first_fault.is) in
    subst (RunsWith day types) (sym (c.in_ok-named_from.ensures ∙ ap (named_from day types 0) (c.of-none.ensures ∙ c.new-2.ensures.items)))
    (served_plans_run day types c.is_sound.ensures.limits c.is_sound.ensures.links c.is_sound.ensures.stock served)

pub returns-clause-plan : goal.returns-clause-plan
returns-clause-plan c =
    let day = c.args.instance.now in
    c.in_ok-named_from.ensures ∙ ap (named_from day (picked day c.args.picks.now) 0) (c.of-none.ensures ∙ c.new-2.ensures.items)

pub returns-in-Some-clause-refusal : goal.returns-in-Some-clause-refusal
returns-in-Some-clause-refusal c = c.in-Some.ensures.some

pub returns-in-Some-first_fault-clause-refusal : goal.returns-in-Some-first_fault-clause-refusal
returns-in-Some-first_fault-clause-refusal c =
    let fault = c.in-Some-first_fault.fault in (
      c.in_default.ensures.none,
      fault_of c.args.instance.now c.args.picks.now c.in_ok-ledger.ledger c.load.new.self c.first_fault.result (Some fault) c.in_ok-ledger.ensures c.load.ensures c.first_fault.ensures c.in-Some-first_fault.is,
    )
