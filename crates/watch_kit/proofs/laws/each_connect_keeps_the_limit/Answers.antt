use Rattle.watch_kit.proofs.ConnectLaw as law
use Rattle.watch_kit.proofs.laws.each_connect_keeps_the_limit.Goals as goal

pub returns : goal.returns
returns c = law.connects-keep
