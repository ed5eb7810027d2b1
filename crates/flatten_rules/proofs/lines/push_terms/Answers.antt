use Rattle.std.proofs.Common.{◌≡◌, ◌++◌, Some, flat_map, sym, ap, ◌∙◌, arith}
use Rattle.std.proofs.lemmas.List.{take_all}
use Rattle.flatten_rules.specs.Lookup.{module_of}
use Rattle.flatten_rules.specs.Unfolding.{module_up}
use Rattle.flatten_rules.specs.Domains.{ports_of}
use Rattle.flatten_rules.specs.FlatLines.{term_lines}
use Rattle.flatten_rules.proofs.lines.push_terms.Goals as goal

pub returns : goal.returns
unfolding module_up
returns c =
    let M = c.args.plain.now in
    let top = c.args.top in
    let at : module_of M top ≡ Some c.module-holder.result.now = rw c.in_ok-way.ensures at c.module-holder.ensures.there in
    c.loop-port.invariant
    ∙ ap (λ ports. c.args.lines.now.items ++ flat_map (term_lines M top) ports)
    (take_all c.loop-port.port-index c.as_slice-port-items.result.now (omega (arith, c.loop-port-test.false)) ∙ c.as_slice-port-items.ensures ∙ sym (ap ports_of at))
