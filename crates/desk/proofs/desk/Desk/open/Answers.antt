use Rattle.std.proofs.Common.{None, refl, arith}
use Rattle.desk.proofs.Moves.{good-bare, good-none}
use Rattle.desk.proofs.desk.Desk.open.Goals as goal

pub invariant_of-result : goal.invariant_of-result
invariant_of-result c = record {
  good = record {
    now = good-bare _ _ _ c.new.ensures c.in_ok-id.ensures.good;
    past = rw c.new-2.ensures.items tt;
    future = rw c.new-3.ensures.items tt;
    begin = good-none None refl;
  };
  room = record { in_past = omega arith; in_future = omega arith };
  within = record { room = omega arith; one = omega arith; few = omega arith };
}
