use Rattle.std.proofs.Common.{rules}
use Rattle.tag.proofs.Turns.{order_broken, order_this, order_another, order_selected, order_every}
use Rattle.tag.proofs.order.Order.read.Goals as goal

pub returns-in_default : goal.returns-in_default
returns-in_default c = order_broken _ _ c.in_default.ensures

pub returns-in-One : goal.returns-in-One
returns-in-One c =
    order_this _ _ c.in-Some.ensures _ _ c.for_this.result c.in-One.is (search rules) c.for_this.ensures

pub returns-in-One-2 : goal.returns-in-One-2
returns-in-One-2 c =
    order_another _ _ c.in-Some.ensures _ _ c.for_another.result c.in-One.is (search rules) c.for_another.ensures

pub returns-in-TheSelected : goal.returns-in-TheSelected
returns-in-TheSelected c = order_selected _ _ c.in-Some.ensures _ c.for_many.result c.in-TheSelected.is c.for_many.ensures

pub returns-in-Every : goal.returns-in-Every
returns-in-Every c = order_every _ _ c.in-Some.ensures _ c.for_many-in-Every.result c.in-Every.is c.for_many-in-Every.ensures
