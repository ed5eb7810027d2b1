use Rattle.std.proofs.Common.{arith, ◌≡◌, true, false, sym, ap, is_some, ◌∙◌}
use Rattle.vlog_elab.specs.Named.{is_there}
use Rattle.vlog_elab.proofs.Naming.{is_there-place}
use Rattle.vlog_elab.proofs.connections.by_name.Goals as goal

pub returns-in_default-clause-checks : goal.returns-in_default-clause-checks
returns-in_default-clause-checks c =
    let there : is_there c.args.ports.now c.args.name.now.name ≡ false = is_there-place 0 c.args.name.now.name c.args.ports.now ∙ ap is_some (sym c.in_default.ensures) in
    grind (arith, there)

pub returns-then-branch-clause-checks : goal.returns-then-branch-clause-checks
returns-then-branch-clause-checks c =
    let there : is_there c.args.ports.now c.args.name.now.name ≡ true = is_there-place 0 c.args.name.now.name c.args.ports.now ∙ ap is_some (sym c.in-Some.ensures) in
    grind (arith, there)

pub returns-clause-checks : goal.returns-clause-checks
returns-clause-checks c =
    let there : is_there c.args.ports.now c.args.name.now.name ≡ true = is_there-place 0 c.args.name.now.name c.args.ports.now ∙ ap is_some (sym c.in-Some.ensures) in
    grind (arith, there)
