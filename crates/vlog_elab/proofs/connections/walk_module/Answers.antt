use Rattle.std.specs.List.{flat_map}
use Rattle.std.proofs.lemmas.Result.{err_from_is_err_and}
use Rattle.vlog_elab.specs.Steps.{item_steps}
use Rattle.vlog_elab.proofs.Walking.{walks-then, fails-before}
use Rattle.vlog_elab.proofs.connections.walk_module.Goals as goal

pub returns-in_err-walk_header : goal.returns-in_err-walk_header
returns-in_err-walk_header c =
    let p = err_from_is_err_and c.from_residual.result c.from_residual.ensures.1 in
    rw (p.1, p.2) (fails-before (flat_map (item_steps c.args.interfaces.now) c.args.m.now.items) c.in_err-walk_header.ensures)

pub returns : goal.returns
returns c =
    walks-then (flat_map (item_steps c.args.interfaces.now) c.args.m.now.items) c.walk_items.result c.walk_items.new.scope
    c.in_ok-walk_header.ensures (rw c.as_slice.ensures at c.walk_items.ensures)
