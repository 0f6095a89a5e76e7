use Rattle.unit_duties.proofs.DutyOrder.{in_order_alone as the_law}
use Rattle.unit_duties.proofs.laws.duties_are_in_order.Goals as goal

pub returns : goal.returns
returns c = record { law = the_law }
