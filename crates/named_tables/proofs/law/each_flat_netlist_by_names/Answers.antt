use Rattle.named_tables.proofs.Lines as lines
use Rattle.named_tables.proofs.law.each_flat_netlist_by_names.Goals as goal

pub returns : goal.returns
returns c = lines.flat_by_names
