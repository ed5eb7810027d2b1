use Rattle.read_back.proofs.Reading.{each-reads-back}
use Rattle.read_back.proofs.law.each_table_reads_back.Goals as goal

pub returns : goal.returns
returns c = each-reads-back c.each_table_is_spelled.ensures
