use Rattle.vlog_lex.proofs.OneAnswer.{law}
use Rattle.vlog_lex.proofs.law.one_answer.Goals as goal

pub returns : goal.returns
returns c = law
