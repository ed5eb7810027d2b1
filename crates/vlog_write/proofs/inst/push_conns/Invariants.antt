use Rattle.std.proofs.Common.{◌≡◌, ◌++◌}
use Rattle.vlog_write.specs.Word.{text}
use Rattle.vlog_write.proofs.Texts.{rest_at, conns_at}
use Rattle.vlog_write.proofs.inst.push_conns.Given as goal

abbrev pub invariant-loop-at : goal.invariant-loop-at
invariant-loop-at l = l.out ++ text (rest_at l.at (conns_at l.holder l.master l.master.ports l.conns l.at))
    ≡ l.initial.out ++ text (rest_at 0 (conns_at l.holder l.master l.master.ports l.conns 0))
