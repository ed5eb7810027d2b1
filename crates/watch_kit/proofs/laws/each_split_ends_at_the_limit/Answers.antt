use Rattle.watch_kit.proofs.SplitLaw as law
use Rattle.watch_kit.proofs.laws.each_split_ends_at_the_limit.Goals as goal

pub returns : goal.returns
returns c = law.split-law
