use Rattle.std.proofs.Common.{◌<◌, get_or, List, None, length, ap, subst, ◌++◌, ◌∙◌, arith}
use Rattle.std.specs.List.{flat_map}
use Rattle.std.proofs.lemmas.List.{take_all, get_or_default}
use Rattle.emh_base.specs.declared.plain.PNet.{PNet}
use Rattle.flatten_rules.proofs.Flattening.{flat_map-filter}
use Rattle.reports.specs.Modules.{wire_line, is_wire}
use Rattle.reports.proofs.Kept.{kept_text, items_more}
use Rattle.reports.proofs.Wires.{wire_or_none, wire-at}
use Rattle.reports.proofs.modules.push_wires.Goals as goal

pub loop-at-preserved : goal.loop-at-preserved
loop-at-preserved c =
    let m = c.args.holder.now in
    let nets = c.as_slice-nets.result.now in
    let are = rw c.in-Some.is at c.in_ok-ports.ensures.places in
    let at = c.loop-at.at in
    let within : at < length nets = omega arith in
    let in_nets : at < length m.nets = subst (λ (xs : List PNet). at < length xs) c.as_slice-nets.ensures within in
    let place = c.index.ensures ∙ get_or_default c.in-Some.ports.items at c.index.result.now None (omega (arith, in_nets, are.many)) in
    let net = c.index-nets-at.is ∙ ap (λ (xs : List PNet). get_or xs at c.index-nets-at.result) c.as_slice-nets.ensures in
    let line = c.in_ok-push_other_net.ensures.ok ∙ ap (λ t. c.loop-at.out ++ t) (wire-at m c.in-Some.ports.items at c.index.result.now c.index-nets-at.result are in_nets place net) in
    let text = items_more (wire_or_none m) c.args.out.now c.loop-at.out c.push_other_net.new.out nets at c.index-nets-at.result c.loop-at.invariant.text within c.index-nets-at.is line in
    record { kept = kept_text _ _ _ text; text = text }

pub returns-clause-ok : goal.returns-clause-ok
returns-clause-ok c =
    let m = c.args.holder.now in
    c.loop-at.invariant.text
    ∙ ap (λ (xs : List PNet). c.args.out.now ++ flat_map (wire_or_none m) xs) (take_all c.loop-at.at c.as_slice-nets.result.now (omega arith) ∙ c.as_slice-nets.ensures)
    ∙ ap (λ t. c.args.out.now ++ t) (flat_map-filter (is_wire m) wire_line m.nets)
