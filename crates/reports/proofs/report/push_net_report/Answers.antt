use Rattle.std.proofs.Common.{◌≡◌, ℕ, List, Some, Ok, sym, ap, subst, ◌∙◌}
use Rattle.emh_base.specs.declared.ids.InstId.{InstId}
use Rattle.flatten_rules.specs.Domains.{NetBit, root_of}
use Rattle.flatten_rules.specs.Way.{WayTo}
use Rattle.script_read.specs.Resolve.{Looked, on}
use Rattle.reports.specs.Net.{net_text}
use Rattle.reports.specs.NetBit.{a_bit_at, a_net_bit}
use Rattle.reports.specs.Report.{PutsReport}
use Rattle.reports.proofs.report.push_net_report.Goals as goal

pub returns : goal.returns
returns c =
    let S = c.args.state.now in
    let names = c.args.path.now in
    let net = c.args.net.now in
    let index = c.args.index in
    let way = c.in-Some.way in
    let told : NetBit → Looked (List ℕ) = λ bit. Ok (net_text S.plain S.top (root_of S.plain S.top bit)) in
    let leads = rw c.in-Some.is at c.in_ok-way_to.ensures in
    let at : way.path ≡ c.in_ok-path.path = ap (λ (w : WayTo). w.path) leads in
    let Puts : Looked NetBit → Type 0 = λ wanted. PutsReport (Some (on wanted told)) c.args.out.now c.push_net_at.result c.push_net_at.new.out in
    let from : Looked (List InstId) → Looked NetBit = λ looked. on looked (λ p. a_bit_at S 2 p net index) in
    let same : a_bit_at S 2 way.path net index ≡ a_net_bit S 2 names net index =
    ap (λ p. a_bit_at S 2 p net index) at ∙ sym (ap from c.in_ok-path.ensures) in
    subst Puts same c.push_net_at.ensures
