use Rattle.std.proofs.Common.{arith, length-take}
use Rattle.flatten_rules.proofs.Steps.{step-front, step-text, whole-text}
use Rattle.flatten_rules.proofs.walk.way.Way.front_at.Goals as goal

pub slice_bounds-result-end : goal.slice_bounds-result-end
slice_bounds-result-end c =
    let a = c.self.inside in
    rw c.as_slice-front.ensures (omega (arith, length-take c.index.result.now.front a.front, step-front a.plain.now a.top a.first.now a.ports.items a.steps.items a.front c.self.invariant c.args.depth c.index.result.now (omega (arith, c.len.ensures, c.if-depth-len.true)) c.index.ensures))

pub returns-then-depth-len : goal.returns-then-depth-len
returns-then-depth-len c =
    let a = c.self.inside in
    rw (← c.self.view_is, c.as_slice-front.ensures) (step-text a.plain.now a.top a.first.now a.ports.items a.steps.items a.front c.self.invariant c.args.depth c.index.result.now (omega (arith, c.len.ensures, c.if-depth-len.true)) c.index.ensures)

pub returns-else-depth-len : goal.returns-else-depth-len
returns-else-depth-len c =
    let a = c.self.inside in
    rw (← c.self.view_is, c.as_slice-front.ensures) (whole-text a.plain.now a.top a.first.now a.ports.items a.steps.items a.front c.self.invariant c.args.depth (omega (arith, c.len.ensures, c.if-depth-len.false)))
