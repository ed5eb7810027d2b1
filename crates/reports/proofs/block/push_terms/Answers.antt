use Rattle.std.proofs.Common.{◌++◌, sym, ap, ◌∙◌}
use Rattle.std.specs.List.{flat_map}
use Rattle.std.proofs.lemmas.Result.{on_ok_weaker}
use Rattle.flatten_rules.specs.Domains.{ports_of}
use Rattle.flatten_rules.specs.Lookup.{module_of}
use Rattle.flatten_rules.specs.Way.{WayTo}
use Rattle.reports.specs.Block.{term_lines}
use Rattle.reports.proofs.Terms.{at-top}
use Rattle.reports.proofs.block.push_terms.Goals as goal

pub push_ports-requires-clause-there : goal.push_ports-requires-clause-there
push_ports-requires-clause-there c =
    let way = c.in_ok-way.way in
    let there = at-top way c.args.plain.now c.args.top c.module.result.now c.in_ok-way.ensures c.module.ensures.there in
    ap (λ (w : WayTo). module_of w.plain w.top) c.in_ok-way.ensures ∙ there

pub returns-clause-ok : goal.returns-clause-ok
returns-clause-ok c =
    let M = c.args.plain.now in
    let top = c.args.top in
    let m = c.module.result.now in
    let there = at-top c.in_ok-way.way M top m c.in_ok-way.ensures c.module.ensures.there in
    on_ok_weaker c.push_ports.result (λ text. text ∙ ap (λ (w : WayTo). c.args.out.now ++ flat_map (term_lines w.plain w.top) m.ports) c.in_ok-way.ensures ∙ ap (λ found. c.args.out.now ++ flat_map (term_lines M top) (ports_of found)) (sym there)) c.push_ports.ensures.ok
