use Rattle.named_tables.proofs.Cycles as cycles
use Rattle.named_tables.proofs.law.each_cycle_by_names.Goals as goal

pub returns : goal.returns
returns c = cycles.each_cycle_by_names
