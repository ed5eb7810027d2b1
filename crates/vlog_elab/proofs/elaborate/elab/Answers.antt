use Rattle.vlog_elab.proofs.OneAnswer.{is_sound, each_table, each_fault}
use Rattle.vlog_elab.proofs.elaborate.elab.Goals as goal

pub returns-clause-sound : goal.returns-clause-sound
returns-clause-sound c = is_sound c.args.table.now c.args.all_leaf c.args.tree.now c.rounds.result c.requires c.rounds.ensures.table c.rounds.ensures.counters

pub returns-clause-each_table : goal.returns-clause-each_table
returns-clause-each_table c = each_table c.args.table.now c.args.all_leaf c.args.tree.now c.rounds.result c.rounds.ensures.table c.rounds.ensures.fault

pub returns-clause-each_fault : goal.returns-clause-each_fault
returns-clause-each_fault c = each_fault c.args.table.now c.args.all_leaf c.args.tree.now c.rounds.result c.rounds.ensures.table c.rounds.ensures.fault
