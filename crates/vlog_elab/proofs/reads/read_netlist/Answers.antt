use Rattle.vlog_elab.proofs.OneReading.{each-table, each-fault}
use Rattle.vlog_elab.proofs.reads.read_netlist.Goals as goal

pub returns-clause-each_table : goal.returns-clause-each_table
returns-clause-each_table c =
    each-table c.args.library.now c.args.all_leaf c.args.bytes.now c.read_over.result c.read_over.ensures.table c.read_over.ensures.fault

pub returns-clause-each_fault : goal.returns-clause-each_fault
returns-clause-each_fault c =
    each-fault c.args.library.now c.args.all_leaf c.args.bytes.now c.read_over.result c.read_over.ensures.table c.read_over.ensures.fault
