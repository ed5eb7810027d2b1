use Rattle.script_read.proofs.LineTexts.{each_line_reads}
use Rattle.script_read.proofs.laws.each_line_reads.Goals as goal

pub returns : goal.returns
returns c = each_line_reads
