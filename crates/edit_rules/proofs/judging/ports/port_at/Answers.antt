use Rattle.std.proofs.Common.{Some, option_map, is_some, sym, ap, ap₂, ◌≡◌, ◌∙◌}
use Rattle.emh_base.specs.declared.ids.NetId.{NetId}
use Rattle.emh_base.specs.declared.plain.Dir.{Dir}
use Rattle.emh_base.specs.declared.plain.PPort.{PPort}
use Rattle.edit_rules.proofs.ReadLemmas.{port-named}
use Rattle.edit_rules.proofs.judging.ports.port_at.Goals as goal

pub unwrap-dir-requires : goal.unwrap-dir-requires
unwrap-dir-requires g c =
    let port = port-named (g.F.Facts.state c.args.facts.now).plain c.requires.sound c.args.place c.args.id c.in-Some.net (sym c.port_at.ensures ∙ c.in-Some.is) in
    ap is_some (c.port_dir.ensures ∙ ap (option_map (λ (there : PPort). there.dir)) port.3)

pub returns-in-Some : goal.returns-in-Some
returns-in-Some g c =
    let port = port-named (g.F.Facts.state c.args.facts.now).plain c.requires.sound c.args.place c.args.id c.in-Some.net (sym c.port_at.ensures ∙ c.in-Some.is) in
    let there : Some c.unwrap-dir.result ≡ Some port.0.dir = sym c.unwrap-dir.ensures ∙ c.port_dir.ensures ∙ ap (option_map (λ (p : PPort). p.dir)) port.3 in
    let dir : c.unwrap-dir.result ≡ port.0.dir = cc in
    let made : NetId → Dir → PPort = λ net dir. record { net = net; dir = dir } in
    ap Some (ap₂ made (sym port.2) dir) ∙ sym port.1
