use Rattle.std.proofs.Common.{◌==◌, ◌++◌, sym, ap, ◌∙◌}
use Rattle.std.proofs.lemmas.Result.{on_ok_weaker}
use Rattle.emh_base.specs.declared.plain.PNet.{PNet}
use Rattle.flatten_rules.specs.Sound.{IsAllowed}
use Rattle.flatten_rules.proofs.Sound.{All-find}
use Rattle.reports.proofs.Terms.{net-at_top, terms-of}
use Rattle.reports.proofs.block.push_port.Goals as goal

pub push_term_bits-requires-clause-there : goal.push_term_bits-requires-clause-there
push_term_bits-requires-clause-there c =
    let way = c.args.way.now in
    net-at_top way.plain way.top c.args.holder.now c.args.port.now.net c.in-Some.net.now c.requires.there (sym c.in-Some.ensures)

pub push_term_bits-requires-clause-allowed : goal.push_term_bits-requires-clause-allowed
push_term_bits-requires-clause-allowed c =
    All-find (λ (net : PNet). IsAllowed net.range) (λ (net : PNet). net.id.0 == c.args.port.now.net.0) c.args.holder.now.nets c.in-Some.net.now c.requires.sound.ranges (sym c.in-Some.ensures)

pub returns-in-Some-clause-ok : goal.returns-in-Some-clause-ok
returns-in-Some-clause-ok c =
    let way = c.args.way.now in
    let terms = terms-of way.plain way.top c.args.holder.now c.args.port.now c.in-Some.net.now c.requires.there (sym c.in-Some.ensures) in
    on_ok_weaker c.push_term_bits.result (λ text. text ∙ ap (λ t. c.args.out.now ++ t) terms) c.push_term_bits.ensures.ok
