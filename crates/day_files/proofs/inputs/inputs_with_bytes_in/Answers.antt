use Rattle.std.proofs.Common.{◌≡◌, ◌∙◌, Ok, rules}
use Rattle.std.specs.Prelude.{⊤}
use Rattle.rail_csv.specs.declared.rows.Table.TheVariants as table
use Rattle.day_files.specs.Answers.{IsErrorOf}
use Rattle.day_files.specs.Tables.{table_in}
use Rattle.day_files.proofs.Reached.{plan_ended, plan_unmade}
use Rattle.day_files.proofs.ErrorTables.{of_more}
use Rattle.day_files.proofs.inputs.inputs_with_bytes_in.Goals as goal

pub returns-in_err-rows-clause-told : goal.returns-in_err-rows-clause-told
returns-in_err-rows-clause-told g c = λ files held.
    let ended = plan_ended files c.args.dir.now c.in_ok-day.day.instance c.in_err-rows.field-0.0 (c.in_ok-day.ensures.told files held) (c.in_err-rows.ensures.told files (c.day_with_bytes_in.ensures.only_reads.same ∙ held)) in
    search rules

pub returns-in_err-rows-clause-says : goal.returns-in_err-rows-clause-says
returns-in_err-rows-clause-says g c =
    let says : IsErrorOf (λ read. ⊤) c.in_err-rows.field-0.0 =
    of_more {A = λ read. read ≡ table.Plan} {B = λ read. ⊤} (λ read is. tt) c.in_err-rows.field-0.0 c.in_err-rows.ensures.says in
    search rules

pub returns-in_err-plan-clause-told : goal.returns-in_err-plan-clause-told
returns-in_err-plan-clause-told g c = λ files held.
    let read : table_in files c.args.dir.now table.Plan ≡ Ok c.items.result.now =
    rw c.items.ensures (c.in_ok-rows.ensures.told files (c.day_with_bytes_in.ensures.only_reads.same ∙ held)) in
    let ended = plan_unmade files c.args.dir.now c.in_ok-day.day.instance c.items.result.now c.in_err-plan.field-0.0 (c.in_ok-day.ensures.told files held) read c.in_err-plan.ensures.told in
    search rules
