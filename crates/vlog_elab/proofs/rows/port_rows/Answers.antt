use Rattle.std.proofs.Common.{arith, [], None}
use Rattle.emh_base.specs.declared.plain.Dir.TheVariants.{Input}
use Rattle.vlog_elab.specs.Table.{port_row}
use Rattle.vlog_elab.proofs.Numbering.{map_more}
use Rattle.vlog_elab.proofs.rows.port_rows.Goals as goal

pub loop-place-preserved : goal.loop-place-preserved
loop-place-preserved c =
    map_more (port_row c.args.nets.now) c.args.ports.now ([], record { dir = Input; range = None }) c.loop-place.place c.loop-place.rows c.add_port.new.rows
    (omega arith) c.loop-place.invariant c.in_ok-add_port.ensures
