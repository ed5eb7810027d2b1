use Rattle.std.proofs.Common.{refl}
use Rattle.std.specs.Fmt.{digits}
use Rattle.word_table.specs.Reserved.{reserved_texts}
use Rattle.vlog_write.proofs.law.worked_table_is_written.Goals as goal

pub returns : goal.returns
unfolding reserved_texts digits
returns c = refl
