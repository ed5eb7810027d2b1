use Rattle.watch_kit.proofs.SplitLaw as law
use Rattle.watch_kit.proofs.laws.each_split_leaves_other_bits.Goals as goal

pub returns : goal.returns
returns c = law.others-law
