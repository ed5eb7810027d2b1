use Rattle.std.proofs.Common.{length, ◌≤◌, arith}
use Rattle.std.proofs.lemmas.Result.{err_from_is_err_and}
use Rattle.emh_session.proofs.ToldAll.{entries-none, entries-next, entries-halt, entries-all, within-room}
use Rattle.emh_session.proofs.telling.tell_all.Goals as goal

pub loop-entry-init : goal.loop-entry-init
loop-entry-init g c = entries-none _ c.args.enabled.now c.args.desk.now

pub returns-in_err-tell_entry : goal.returns-in_err-tell_entry
returns-in_err-tell_entry g c =
    let p = err_from_is_err_and c.from_residual.result c.from_residual.ensures.1 in
    rw (p.1, p.2)
    (entries-halt _ c.args.enabled.now c.loop-entry.entry c.args.desk.now c.loop-entry.desk c.loop-entry.invariant
    (within-room c.args.desk.now c.loop-entry.desk c.loop-entry.entry c.journal_len.result c.loop-entry.invariant.same c.loop-entry-test.true c.journal_len.ensures.within)
    _ c.tell_entry.new.desk c.in_err-tell_entry.ensures)

pub loop-entry-preserved : goal.loop-entry-preserved
loop-entry-preserved g c =
    entries-next _ c.args.enabled.now c.loop-entry.entry c.args.desk.now c.loop-entry.desk c.loop-entry.invariant
    (within-room c.args.desk.now c.loop-entry.desk c.loop-entry.entry c.journal_len.result c.loop-entry.invariant.same c.loop-entry-test.true c.journal_len.ensures.within)
    c.tell_entry.new.desk c.in_ok-tell_entry.ensures

pub returns : goal.returns
returns g c =
    let past : length c.loop-entry.desk.journal ≤ c.loop-entry.entry = omega arith in
    entries-all _ c.args.enabled.now c.loop-entry.entry c.args.desk.now c.loop-entry.desk c.loop-entry.invariant past
