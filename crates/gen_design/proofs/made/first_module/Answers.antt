use Rattle.gen_design.specs.Made.{one_inverter}
use Rattle.gen_design.proofs.Draws.{one-more}
use Rattle.gen_design.proofs.made.first_module.Goals as goal

pub loop-k-preserved : goal.loop-k-preserved
loop-k-preserved c =
    one-more (one_inverter c.args.width) c.loop-k.k c.loop-k.insts c.push.new.self _ c.loop-k.invariant c.in_ok-one_inverter.ensures c.in_ok-push.ensures.ok
