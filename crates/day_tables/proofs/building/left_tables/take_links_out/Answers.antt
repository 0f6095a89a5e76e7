-- The rows stay that name no trip that is gone.
use Rattle.std.proofs.Common.{rules}
use Rattle.std.specs.Prelude.{not}
use Rattle.std.proofs.lemmas.Fn.{filter_same}
use Rattle.day_tables.specs.DerivedDays.{row_names_gone}
use Rattle.day_tables.proofs.building.left_tables.take_links_out.Goals as goal

pub returns : goal.returns
returns c = filter_same _ (λ row. not (row_names_gone c.args.rows.now c.args.gone.now row)) _ (λ x b f' k. search rules) _ _ c.retain.ensures.filtered
