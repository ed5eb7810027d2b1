-- There is an open connection for each port so far.
use Rattle.std.proofs.Common.{◌≡◌, map, take}
use Rattle.emh_base.specs.declared.plain.Conn.TheVariants.{Open}
use Rattle.edit_rules.proofs.insts.open_for.Given as goal

abbrev pub invariant-loop-port : goal.invariant-loop-port
invariant-loop-port l = l.made ≡ map (λ port. Open) (take l._port-index l._port-items)
