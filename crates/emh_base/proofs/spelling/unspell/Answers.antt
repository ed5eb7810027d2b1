use Rattle.std.proofs.Common.{take}
use Rattle.emh_base.proofs.SpellLemmas.{Answers, answers, answers_none}
use Rattle.emh_base.proofs.spelling.unspell.Goals as goal

named : (c : goal.After-name_of) → Answers c.args.word.now c.name_of.result
named c =
    answers c.args.word.now (take c.in-Some.len c.take_marks.new.bytes) c.name_of.result c.in-Some.ensures.bytes.1
    c.name_of.ensures.ok c.name_of.ensures.name c.name_of.ensures.err

pub returns-in-Some-clause-ok : goal.returns-in-Some-clause-ok
returns-in-Some-clause-ok c = (named c).ok

pub returns-in-Some-clause-not_spelled : goal.returns-in-Some-clause-not_spelled
returns-in-Some-clause-not_spelled c = (named c).not_spelled

pub returns-in-Some-clause-each_name : goal.returns-in-Some-clause-each_name
returns-in-Some-clause-each_name c = (named c).each_name

pub returns-in-None-clause-not_spelled : goal.returns-in-None-clause-not_spelled
returns-in-None-clause-not_spelled c = (answers_none c.args.word.now c.in-None.ensures.bytes).not_spelled

pub returns-in-None-clause-each_name : goal.returns-in-None-clause-each_name
returns-in-None-clause-each_name c = (answers_none c.args.word.now c.in-None.ensures.bytes).each_name
