use Rattle.script_read.proofs.LineTexts.{text_reads}
use Rattle.script_read.proofs.text.text_of.Goals as goal

pub returns-clause-reads : goal.returns-clause-reads
returns-clause-reads c = text_reads c.args.command.now c.in_ok-line.line c.in_ok-line.ensures
