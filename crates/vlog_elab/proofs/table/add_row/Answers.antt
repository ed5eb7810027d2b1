use Rattle.std.proofs.Common.{◌≡◌}
use Rattle.vlog_elab.specs.Interfaces.{interface}
use Rattle.vlog_elab.proofs.Adding.{own-is}
use Rattle.vlog_elab.proofs.table.add_row.Goals as goal

pub returns-clause-new : goal.returns-clause-new
returns-clause-new c = λ all_leaf id at is.
    let own : c.in-Some-at.own.now ≡ (interface all_leaf id c.args.m.now).1
    = own-is c.args.masters.now c.in-Some.place c.len.result c.in-Some-at.own.now (interface all_leaf id c.args.m.now) c.in-Some-at.ensures c.if-place-len.false (rw c.len.ensures is) in
    rw (← c.in_ok-row.ensures.row all_leaf id own) c.push.ensures.ok
