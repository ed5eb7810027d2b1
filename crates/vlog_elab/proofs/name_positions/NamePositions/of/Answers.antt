use Rattle.std.proofs.Common.{rules, ◌≡◌, ◌<◌, ℕ, List, length, replicate, None}
use Rattle.vlog_elab.specs.declared.name_positions.TheConstants.{EMPTY}
use Rattle.vlog_elab.proofs.Placing.{others_of, free-slots, none-taken}
use Rattle.vlog_elab.proofs.name_positions.NamePositions.of.Goals as goal

pub loop-place-init : goal.loop-place-init
loop-place-init g c =
    let some : 1 < length c.in_ok-from_elem.field-0.items = search rules in
    let all : c.in_ok-from_elem.field-0.items ≡ replicate c.slots_for.result EMPTY = search rules in
    let alone : (q : List ℕ) → others_of c.new.result q ≡ None = search rules in
    none-taken c.in_ok-from_elem.field-0.items c.new.result some (λ s. free-slots c.in_ok-from_elem.field-0.items c.slots_for.result s all) alone
