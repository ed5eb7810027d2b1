use Rattle.script_read.proofs.Naming.{spelled_name}
use Rattle.script_read.proofs.WordTexts.{number_reads, range_reads, bit_reads, path_reads}
use Rattle.script_read.proofs.laws.each_word_reads.Goals as goal

pub returns : goal.returns
returns c = record { names = spelled_name; numbers = number_reads; ranges = range_reads; bits = bit_reads; paths = path_reads }
