use Rattle.std.proofs.Common.{◌≡◌, ap, ◌∙◌, is_some, refl}
use Rattle.std.specs.FinMap as map
use Rattle.row_chains.proofs.TableLemmas.{seen-lead_at, holders_kept}
use Rattle.row_chains.proofs.chain.detach.Goals as goal

pub follow_at-requires-clause-live : goal.follow_at-requires-clause-live
follow_at-requires-clause-live g c = λ k e.
    ap (λ m. is_some (map.get m k)) c.lead_at.ensures.rows
    ∙ seen-lead_at g.C.Chain.rows is_some (λ row to. refl) c.args.rows.now.now c.args.link.prev c.args.link.next k
    ∙ c.requires.next k e

pub returns-else-is_none-4-clause-holders : goal.returns-else-is_none-4-clause-holders
returns-else-is_none-4-clause-holders g c =
    let prev = c.if-is_none-3.ensures in
    let next = c.if-is_none-4.ensures in
    holders_kept g.C.Chain.holders c.args.holders.now.now c.args.link.owner c.args.link prev next
