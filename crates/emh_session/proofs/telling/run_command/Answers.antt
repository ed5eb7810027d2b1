use Rattle.std.proofs.Common.{length, ◌≡◌, ◌+◌, ◌-◌, arith}
use Rattle.emh_session.proofs.Commands.{run-refused, not-empty, run-done, run-dropped}
use Rattle.emh_session.proofs.telling.run_command.Goals as goal

pub returns-in-Err : goal.returns-in-Err
returns-in-Err g c =
    rw c.from.ensures (run-refused _ c.args.enabled.now c.args.budget _ c.args.desk.now c.first.new.self c.in-Err.fault c.in-Err.ensures.answers)

pub overflow_sub-observer_edits : goal.overflow_sub-observer_edits
overflow_sub-observer_edits g c =
    let one = not-empty _ c.args.enabled.now c.args.budget _ c.args.desk.now c.first.new.self c.tell_all.new.desk c.requires.closed
    c.in_default.ensures.answers c.in-Ok.ensures in
    omega (arith, one, c.journal_len-observer_edits.ensures.value)

pub returns-in-Ok : goal.returns-in-Ok
returns-in-Ok g c =
    let one = not-empty _ c.args.enabled.now c.args.budget _ c.args.desk.now c.first.new.self c.tell_all.new.desk c.requires.closed
    c.in_default.ensures.answers c.in-Ok.ensures in
    let counted : (c.journal_len-observer_edits.result - 1) + 1 ≡ length c.tell_all.new.desk.journal =
    omega (arith, one, c.journal_len-observer_edits.ensures.value) in
    run-done _ c.args.enabled.now c.args.budget _ c.args.desk.now c.first.new.self c.tell_all.new.desk c.requires.closed
    c.in_default.ensures.answers c.keep.new.self _ c.in-Ok.ensures c.keep.ensures counted

pub returns-in-Err-tell_all : goal.returns-in-Err-tell_all
returns-in-Err-tell_all g c =
    rw c.halted.ensures
    (run-dropped _ c.args.enabled.now c.args.budget _ c.args.desk.now c.first.new.self c.tell_all.new.desk c.requires.closed
    c.in_default.ensures.answers _ c.drop_command.new.self c.in-Err-tell_all.ensures c.drop_command.ensures)
