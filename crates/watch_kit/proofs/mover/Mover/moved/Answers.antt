use Rattle.watch_kit.specs.Split.{moved}
use Rattle.watch_kit.specs.inside.Keys.{bit_of}
use Rattle.watch_kit.proofs.Joins.{made-more}
use Rattle.emh_base.specs.declared.plain.Src.TheVariants.{Tie0}
use Rattle.watch_kit.proofs.mover.Mover.moved.Goals as goal

pub loop-source-preserved : goal.loop-source-preserved
loop-source-preserved c =
    let s = c.args.self.now in
    made-more (moved (bit_of s.bit) s.to c.loop-source.stay) (moved (bit_of s.bit) s.to c.next_source.new.stay) (moved (bit_of s.bit) s.to s.stay c.args.sources.now)
    c.loop-source.bits c.push.new.self c.args.sources.now c.loop-source.source-index Tie0 c.next_source.result c.loop-source-test.true c.loop-source.invariant c.next_source.ensures c.in_ok-push.ensures.ok
