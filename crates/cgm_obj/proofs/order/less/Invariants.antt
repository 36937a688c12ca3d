use Rattle.std.proofs.Common.{◌↔◌, drop}
use Rattle.cgm_base.specs.Order.{IsLess}
use Rattle.cgm_obj.proofs.order.less.Given as goal

abbrev pub invariant-loop-place : goal.invariant-loop-place
invariant-loop-place l = IsLess (drop l.place l.a) (drop l.place l.b) ↔ IsLess l.a l.b
