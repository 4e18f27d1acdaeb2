use Rattle.record_order.proofs.Orders.{one_order_or_none}
use Rattle.record_order.proofs.laws.one_order_or_none.Goals as goal

pub returns : goal.returns
returns c = one_order_or_none
