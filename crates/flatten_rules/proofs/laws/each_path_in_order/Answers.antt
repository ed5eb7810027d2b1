use Rattle.flatten_rules.proofs.PathOrder as paths
use Rattle.flatten_rules.proofs.laws.each_path_in_order.Goals as goal

pub returns : goal.returns
returns c = paths.each_path_in_order
