use Rattle.std.proofs.Common.{◌≡◌, ℕ, ◌+◌, get_or, sym, ap, arith}
use Rattle.emh_base.specs.declared.plain.PInst.{PInst}
use Rattle.flatten_rules.specs.Counting.{height}
use Rattle.flatten_rules.proofs.Heights.{greatest-more}
use Rattle.flatten_rules.proofs.depth.highest_below.Goals as goal

pub loop-inst-preserved : goal.loop-inst-preserved
loop-inst-preserved c =
    let number : PInst → ℕ = λ inst. height c.args.plain.now inst.master c.args.levels + 1 in
    let item : PInst = c.inst-item.result in
    let more = greatest-more number c.args.insts.now c.loop-inst.inst-index item c.loop-inst-test.true in
    let own : number (get_or c.args.insts.now c.loop-inst.inst-index item) ≡ number item = ap number (sym c.inst-item.is) in
    omega (arith, c.max-highest.ensures, more, own, c.height_at.ensures.value, c.loop-inst.invariant)
