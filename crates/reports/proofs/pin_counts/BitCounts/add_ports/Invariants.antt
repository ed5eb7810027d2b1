use Rattle.std.proofs.Common.{take, flat_map}
use Rattle.reports.specs.inside.Below.{port_bits}
use Rattle.reports.specs.inside.PinCounts.{AddsEach}
use Rattle.reports.proofs.pin_counts.BitCounts.add_ports.Given as goal

-- A pin is counted at each bit of the ports so far.
abbrev pub invariant-loop-port : goal.invariant-loop-port
invariant-loop-port l = AddsEach l.initial.self.counts.entries l.self.counts.entries (flat_map (port_bits l.holder) (take l.port-index l.port-items))
