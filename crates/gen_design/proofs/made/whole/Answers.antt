use Rattle.std.proofs.Common.{refl}
use Rattle.emh_base.specs.declared.plain.Src.TheVariants.{Bit}
use Rattle.gen_design.proofs.Draws.{one-more}
use Rattle.gen_design.proofs.made.whole.Goals as goal

pub loop-offset-preserved : goal.loop-offset-preserved
loop-offset-preserved c =
    one-more (λ offset. Bit (record { 0 = c.args.id }) offset) c.loop-offset.offset c.loop-offset.bits c.push.new.self _ c.loop-offset.invariant refl c.in_ok-push.ensures.ok
