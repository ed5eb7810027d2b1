use Rattle.flatten_rules.proofs.Unfolded as walks
use Rattle.flatten_rules.proofs.laws.each_walk_once.Goals as goal

pub returns : goal.returns
returns c = walks.each_walk_once
