use Rattle.std.proofs.Common.{◌≡◌, ℕ, List, sym, subst, Result, Ok, Err}
use Rattle.std.specs.Prelude.{IfOk}
use Rattle.timetable.specs.Picks.{picked}
use Rattle.inventory.specs.NamedUnits.{named_from}
use Rattle.inventory.specs.NamingLaws.{RunsOn}
use Rattle.inventory.proofs.Laws.{named_plans_run}
use Rattle.unit_duties.proofs.plans.name_units_from.Goals as goal

-- what is so of a value, is so of an answer that is this value
if_ok : {A E : Type 0} (P : A → Type 0) (x : A) (r : Result A E) → P x → IfOk r (λ y. y ≡ x) → IfOk r P
if_ok P x (Ok y) so is = subst P (sym is) so
if_ok P x (Err e) so is = tt

pub returns-clause-runs : goal.returns-clause-runs
returns-clause-runs c =
    let day = c.args.instance.now in
    let types = picked day c.args.picks.now in
    let plan = c.args.earlier.now in
    if_ok (RunsOn day types c.args.minute plan) (named_from day types c.args.minute plan) c.named_from.result
    (named_plans_run day types c.args.minute plan c.is_sound.ensures.limits c.is_sound.ensures.links c.is_sound.ensures.stock c.requires.can.served c.requires.can.named)
    (subst (λ (m : ℕ). IfOk c.named_from.result (λ (p : List (List ℕ)). p ≡ named_from day types m plan)) c.minutes.ensures.number c.named_from.ensures)
