use Rattle.std.proofs.Common.{arith, ℕ}
use Rattle.std.proofs.lemmas.Result.{err_from_is_err_and}
use Rattle.vlog_lex.specs.Piece.{Piece, Fault}
use Rattle.vlog_lex.specs.Lexes.{HasFault}
use Rattle.vlog_lex.proofs.Finding.{fault_map}
use Rattle.vlog_lex.proofs.Readings.{found_moves, read_token, read_blank, read_all, read_fault}
use Rattle.vlog_lex.proofs.lexer.read.Goals as goal

pub returns-in_err-end-clause-fault : goal.returns-in_err-end-clause-fault
returns-in_err-end-clause-fault c =
    let bytes = c.args.bytes.now in
    let at = c.loop-at.at in
    let p = err_from_is_err_and c.from_residual.result c.from_residual.ensures.1 in
    rw (p.1, p.2)
    (fault_map (λ it. (b : ℕ) × Piece bytes at b (Fault it)) (HasFault bytes)
    (λ it piece. read_fault bytes c.loop-at.items at it c.loop-at.invariant piece) c.in_err-end.field-0.0
    c.in_err-end.ensures)

pub overflow_cast-end : goal.overflow_cast-end
overflow_cast-end c =
    let (onward, within) =
    found_moves c.args.bytes.now c.loop-at.at c.in_ok-end.field-0.end c.in_ok-end.field-0.token
    c.in_ok-end.ensures in
    omega (arith, within)

pub loop-at-smaller-in_ok-push : goal.loop-at-smaller-in_ok-push
loop-at-smaller-in_ok-push c =
    let (onward, within) =
    found_moves c.args.bytes.now c.loop-at.at c.in_ok-end.field-0.end c.in_ok-end.field-0.token
    c.in_ok-end.ensures in
    omega (arith, onward, within)

pub loop-at-preserved-in_ok-push : goal.loop-at-preserved-in_ok-push
loop-at-preserved-in_ok-push c =
    rw c.in_ok-push.ensures.ok
    (read_token c.args.bytes.now c.loop-at.items c.loop-at.at c.in_ok-end.field-0.end c.in_ok-end.field-0.token
    c.in-Some.kind c.loop-at.invariant c.in_ok-end.ensures c.in-Some.is)

pub loop-at-smaller : goal.loop-at-smaller
loop-at-smaller c =
    let (onward, within) =
    found_moves c.args.bytes.now c.loop-at.at c.in_ok-end.field-0.end c.in_ok-end.field-0.token
    c.in_ok-end.ensures in
    omega (arith, onward, within)

pub loop-at-preserved : goal.loop-at-preserved
loop-at-preserved c =
    read_blank c.args.bytes.now c.loop-at.items c.loop-at.at c.in_ok-end.field-0.end c.in_ok-end.field-0.token
    c.loop-at.invariant c.in_ok-end.ensures c.in_default.is

pub returns-clause-tokens : goal.returns-clause-tokens
returns-clause-tokens c = read_all c.args.bytes.now c.loop-at.items c.loop-at.at c.loop-at.invariant (omega arith)
