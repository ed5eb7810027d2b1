use Rattle.std.specs.List.{flat_map}
use Rattle.std.proofs.lemmas.Result.{err_from_is_err_and}
use Rattle.vlog_elab.specs.Interfaces.{item_places}
use Rattle.vlog_elab.proofs.Walking.{walks-then, fails-before}
use Rattle.vlog_elab.proofs.declarations.declare_module.Goals as goal

pub returns-in_err-declare_header : goal.returns-in_err-declare_header
returns-in_err-declare_header c =
    let p = err_from_is_err_and c.from_residual.result c.from_residual.ensures.1 in
    rw (p.1, p.2) (fails-before (flat_map item_places c.args.m.now.items) c.in_err-declare_header.ensures)

pub returns : goal.returns
returns c =
    walks-then (flat_map item_places c.args.m.now.items) c.declare_items.result c.declare_items.new.said
    c.in_ok-declare_header.ensures (rw c.as_slice.ensures at c.declare_items.ensures)
