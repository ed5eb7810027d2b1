use Rattle.vlog_write.proofs.Files.{law}
use Rattle.vlog_write.proofs.law.table_is_spelled.Goals as goal

pub returns-clause-spelled : goal.returns-clause-spelled
returns-clause-spelled c = law c.args.plain.now c.requires c.are_named.ensures
