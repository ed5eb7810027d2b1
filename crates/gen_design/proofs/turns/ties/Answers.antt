use Rattle.std.proofs.Common.{refl}
use Rattle.emh_base.specs.declared.plain.Src.TheVariants.{Tie0}
use Rattle.gen_design.proofs.Draws.{one-more}
use Rattle.gen_design.proofs.turns.ties.Goals as goal

pub loop-bit-preserved : goal.loop-bit-preserved
loop-bit-preserved c =
    one-more (λ bit. Tie0) c.loop-bit._bit c.loop-bit.bits c.push.new.self _ c.loop-bit.invariant refl c.in_ok-push.ensures.ok
