use Rattle.rail_csv.proofs.Whole.{is_table, table_is, is_first_wrong, first_wrong_is}
use Rattle.rail_csv.proofs.laws.what_is_read.Goals as goal

pub returns-clause-accepted : goal.returns-clause-accepted
returns-clause-accepted g c = λ words fewest limit columns records rows. (is_table words fewest limit columns records rows, table_is words fewest limit columns records rows)

pub returns-clause-refused : goal.returns-clause-refused
returns-clause-refused g c = λ words fewest limit columns records e. (is_first_wrong words fewest limit columns records e, first_wrong_is words fewest limit columns records e)
