use Rattle.flatten_rules.proofs.BlockNets as nets
use Rattle.flatten_rules.proofs.laws.each_block_net.Goals as goal

pub returns : goal.returns
returns c = nets.each_block_net
