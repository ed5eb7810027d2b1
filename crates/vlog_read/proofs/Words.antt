-- The words of the grammar stand in their rows of the table.
use Rattle.std.proofs.Common.{refl}
use Rattle.word_table.specs.Reserved.{reserved_texts}
use Rattle.vlog_read.specs.Words.{RowsHoldTheWords}

pub words : RowsHoldTheWords
unfolding reserved_texts
words = record {
  endmodule_row = refl;
  inout_row = refl;
  input_row = refl;
  module_row = refl;
  output_row = refl;
  wire_row = refl;
}
