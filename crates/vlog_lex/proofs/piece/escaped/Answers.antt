use Rattle.std.proofs.Common.{arith, ◌+◌}
use Rattle.vlog_lex.specs.Byte.{is_graphic}
use Rattle.vlog_lex.proofs.Names.{run_is_name}
use Rattle.vlog_lex.proofs.piece.escaped.Goals as goal

pub new-name-requires : goal.new-name-requires
new-name-requires c =
    run_is_name is_graphic c.args.bytes.now (c.args.at + 1) c.run_end-end.result (λ byte has. has)
    c.run_end-end.ensures.run (omega arith) (omega arith)
    c.run_end-end.ensures.within
