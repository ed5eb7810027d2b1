use Rattle.std.proofs.Common.{◌≡◌, [], ◌∷◌, ◌++◌, cond, reverse, is_some, codes, sym, ap, ◌∙◌}
use Rattle.std.specs.Fmt.{decimal}
use Rattle.std.proofs.lemmas.Result.{on_ok_weaker}
use Rattle.emh_base.specs.declared.plain.Plain.{Plain}
use Rattle.flatten_rules.specs.Lookup.{module_of}
use Rattle.flatten_rules.specs.Domains.{NetBit}
use Rattle.flatten_rules.specs.Sound.{IsSound}
use Rattle.flatten_rules.proofs.Walks.{up-own}
use Rattle.reports.specs.Line.{line, bit_word}
use Rattle.reports.specs.Block.{net_line}
use Rattle.reports.specs.inside.Below.{pins_at}
use Rattle.reports.proofs.Along.{count-told}
use Rattle.reports.proofs.block.push_if_own.Goals as goal

pub at-requires-clause-there : goal.at-requires-clause-there
at-requires-clause-there c =
    let way = c.args.way.now in
    let m = c.module.result.now in
    ap (λ (M : Plain). is_some (module_of M m.id)) c.plain.ensures.table ∙ ap is_some (up-own way.plain way.top (reverse way.path) m c.module.ensures.there)

pub returns-in_ok-count-clause-ok : goal.returns-in_ok-count-clause-ok
returns-in_ok-count-clause-ok c =
    let way = c.args.way.now in
    let m = c.module.result.now in
    let M = way.plain in
    let bit : NetBit = record { path = way.path; net = c.args.net.now.id; offset = c.args.offset } in
    let sound : IsSound M = c.plain.ensures.sound in
    let own = sym c.is_own.ensures ∙ c.if-is_own.true in
    let counted : c.in_ok-count.count ≡ pins_at M m.id c.args.net.now.id c.args.offset = c.in_ok-count.ensures.count ∙ ap (λ (P : Plain). pins_at P m.id c.args.net.now.id c.args.offset) c.plain.ensures.table in
    let told = count-told M way.top way.path m c.args.net.now.id c.args.offset c.in_ok-count.count sound c.requires.walks c.module.ensures.there c.requires.inner own counted in
    let out = c.args.out.now in
    on_ok_weaker c.push_net_line.result
    (λ text. text ∙ ap (λ n. out ++ line (codes "net" ∷ bit_word M way.top bit ∷ decimal n ∷ [])) told ∙ ap (λ b. out ++ cond b (net_line M way.top bit) []) (sym own))
    c.push_net_line.ensures.ok
