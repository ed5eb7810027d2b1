use Rattle.std.proofs.Common.{◌≡◌, ap, sym, ◌∙◌, option_map, find}
use Rattle.row_chains.specs.declared.link.Ends.{Ends}
use Rattle.row_chains.specs.Rows.{ends_in, is_numbered, keys, key_under}
use Rattle.row_chains.proofs.TableLemmas.{IsWay-chain}
use Rattle.row_chains.proofs.chain.find_under.Goals as goal

pub find-requires : goal.find-requires
find-requires g c =
    let held = ap (option_map g.C.Chain.holders.ends_of) (sym c.get.ensures ∙ c.in-Some.is) in
    let ends = g.C.Chain.holders.ends_of c.in-Some.holder in
    let chain = c.requires.chains.chain c.args.owner ends held in
    rw c.ends.ensures (chain.0, IsWay-chain g.C.Chain.rows c.args.rows.now.now c.args.owner ends chain.0 chain.1)

pub returns-in-Some : goal.returns-in-Some
returns-in-Some g c =
    let held = sym c.get.ensures ∙ c.in-Some.is in
    let p = is_numbered g.C.Numbered.number_of c.args.rows.now.now c.args.number in
    c.find.ensures
    ∙ ap (λ (ends : Ends). find p (keys g.C.Chain.rows c.args.rows.now.now ends.first)) c.ends.ensures
    ∙ sym (ap (key_under g.C.Chain.rows g.C.Chain.holders g.C.Numbered.number_of c.args.rows.now.now c.args.number) held)
