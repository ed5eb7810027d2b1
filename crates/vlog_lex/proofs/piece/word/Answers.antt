use Rattle.std.proofs.Common.{arith, ◌<◌, get_or}
use Rattle.vlog_lex.specs.Byte.{is_word_byte}
use Rattle.vlog_lex.proofs.Names.{run_is_name, run_some, word_fits, word_begins}
use Rattle.vlog_lex.proofs.piece.word.Goals as goal

pub word_kind-requires : goal.word_kind-requires
word_kind-requires c =
    let some : c.args.at < c.run_end-end.result =
    run_some is_word_byte c.args.bytes.now c.args.at c.run_end-end.result c.run_end-end.ensures.run
    (word_begins (get_or c.args.bytes.now c.args.at 0) c.requires.first) in
    run_is_name is_word_byte c.args.bytes.now c.args.at c.run_end-end.result word_fits c.run_end-end.ensures.run some
    (omega arith)
    c.run_end-end.ensures.within
