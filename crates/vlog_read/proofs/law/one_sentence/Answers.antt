use Rattle.vlog_read.proofs.OneAnswer.{law}
use Rattle.vlog_read.proofs.Words.{words}
use Rattle.vlog_read.proofs.law.one_sentence.Goals as goal

pub returns-clause-law : goal.returns-clause-law
returns-clause-law c = law

pub returns-clause-words : goal.returns-clause-words
returns-clause-words c = words
