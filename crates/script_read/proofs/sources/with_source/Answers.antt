use Rattle.script_read.proofs.BitRuns.{by_net}
use Rattle.script_read.proofs.sources.with_source.Goals as goal

pub returns-in_ok-net-in-Net-clause-answer : goal.returns-in_ok-net-in-Net-clause-answer
returns-in_ok-net-in-Net-clause-answer g c =
    rw (c.in-Net.is, by_net (g.F.Facts.state c.args.facts.now) c.args.module c.args.place c.in-Net.net c.in-Net.select c.in_ok-net-in-Net.net c.args.before c.in_ok-net-in-Net.ensures)
    c.with_net.ensures.answer
