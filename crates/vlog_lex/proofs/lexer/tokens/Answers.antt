use Rattle.vlog_lex.proofs.OneAnswer.{each_list, each_fault}
use Rattle.vlog_lex.proofs.Few.{few}
use Rattle.vlog_lex.proofs.Ranges.{in_range}
use Rattle.vlog_lex.proofs.lexer.tokens.Goals as goal

pub returns-clause-each_list : goal.returns-clause-each_list
returns-clause-each_list c = each_list c.args.bytes.now c.read.result c.read.ensures.tokens c.read.ensures.fault

pub returns-clause-each_fault : goal.returns-clause-each_fault
returns-clause-each_fault c = each_fault c.args.bytes.now c.read.result c.read.ensures.tokens c.read.ensures.fault

pub returns-clause-in_range : goal.returns-clause-in_range
returns-clause-in_range c = in_range c.args.bytes.now c.read.result c.read.ensures.tokens

pub returns-clause-few : goal.returns-clause-few
returns-clause-few c = few c.args.bytes.now c.read.result c.read.ensures.tokens
