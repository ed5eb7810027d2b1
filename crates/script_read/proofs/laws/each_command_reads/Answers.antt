use Rattle.script_read.proofs.Table.{command_is_writable}
use Rattle.script_read.proofs.Written.{written}
use Rattle.script_read.proofs.laws.each_command_reads.Goals as goal

pub returns : goal.returns
returns c = λ words command same. written command (command_is_writable words command same)
