use Rattle.vlog_write.proofs.Files.{law}
use Rattle.vlog_write.proofs.law.each_table_is_spelled.Goals as goal

pub returns : goal.returns
returns c = law
