use Rattle.emh_base.specs.declared.plain.Dir.TheVariants.{Input}
use Rattle.emh_base.specs.declared.plain.PPort.{PPort}
use Rattle.reports.proofs.Filling.{ports-more}
use Rattle.reports.proofs.pin_counts.BitCounts.add_ports.Goals as goal

pub loop-port-preserved : goal.loop-port-preserved
loop-port-preserved c =
    let none : PPort = record { net = record { 0 = 0 }; dir = Input } in
    ports-more c.args.self.now.counts.entries c.loop-port.self.counts.entries c.add_port.new.self.counts.entries c.args.holder.now c.as_slice-port-items.result.now c.loop-port.port-index none c.loop-port-test.true c.loop-port.invariant c.in_ok-add_port.ensures
