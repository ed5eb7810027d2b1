use Rattle.watch_kit.proofs.AnswerLaw as law
use Rattle.watch_kit.proofs.laws.each_answer_keeps_the_limit.Goals as goal

pub returns : goal.returns
returns c = law.answers-keep
