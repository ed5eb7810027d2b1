use Rattle.std.proofs.Common.{◌≡◌, ◌++◌}
use Rattle.vlog_write.specs.Word.{text}
use Rattle.vlog_write.proofs.Texts.{rest_at, names_at}
use Rattle.vlog_write.proofs.module.push_port_names.Given as goal

abbrev pub invariant-loop-at : goal.invariant-loop-at
invariant-loop-at l = l.out ++ text (rest_at l.at (names_at l.holder l.ports l.at))
    ≡ l.initial.out ++ text (rest_at 0 (names_at l.holder l.ports 0))
