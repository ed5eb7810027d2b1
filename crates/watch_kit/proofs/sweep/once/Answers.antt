use Rattle.watch_kit.proofs.Gathered.{once-more}
use Rattle.watch_kit.proofs.sweep.once.Goals as goal

pub loop-net-preserved : goal.loop-net-preserved
loop-net-preserved c =
    once-more c.args.nets.now c.loop-net.net-index (record { 0 = 0 }) c.loop-net.found c.note.new.found c.loop-net-test.true c.loop-net.invariant c.in_ok-note.ensures
