use Rattle.std.proofs.Common.{ℕ, false, List, Some, ap, ◌∙◌}
use Rattle.emh_base.specs.declared.plain.PPort.{PPort}
use Rattle.emh_base.specs.declared.plain.PModule.{PModule}
use Rattle.edit_rules.proofs.OutlineLemmas.{bare-made}
use Rattle.edit_rules.proofs.judging.outline.bare.Goals as goal

pub returns : goal.returns
returns g c =
    let id = c.args.id in
    let name = c.args.name.now in
    let nets = c.in_ok-bare_nets.field-0 in
    let insts = c.in_ok-bare_insts.field-0 in
    let made : List ℕ → List PPort → PModule = λ name ports. record { id = id; name = name; leaf = c.is_leaf.result; locked = false; nets = nets; ports = ports; insts = insts; next_net = 0; next_inst = 0 } in
    ap (λ name. Some (made name c.new.result)) c.in_ok-copy.ensures
    ∙ ap (λ ports. Some (made name ports)) c.new.ensures
    ∙ bare-made (g.F.Facts.state c.args.facts.now).plain id name c.is_leaf.result nets insts c.requires.live c.is_leaf.ensures c.in_ok-bare_nets.ensures c.in_ok-bare_insts.ensures
