use Rattle.std.proofs.Common.{ap, ◌∙◌, is_some}
use Rattle.std.specs.FinMap as map
use Rattle.row_chains.specs.Rows.{links, ends_in}
use Rattle.row_chains.proofs.LiveLemmas.{prev_live, next_live, owner_live, live_joined}
use Rattle.mod_core.proofs.chains.leave.Goals as goal

pub detach-requires-clause-owner : goal.detach-requires-clause-owner
detach-requires-clause-owner g c =
    owner_live g.C.Chain.holders (links g.C.Chain.rows c.args.rows.now.now) c.args.holders.now.now c.requires.chains c.requires.linked.0 c.args.link c.requires.linked.1

pub detach-requires-clause-prev : goal.detach-requires-clause-prev
detach-requires-clause-prev g c =
    prev_live g.C.Chain.rows c.args.rows.now.now (ends_in g.C.Chain.holders c.args.holders.now.now) c.requires.chains c.requires.linked.0 c.args.link c.requires.linked.1

pub detach-requires-clause-next : goal.detach-requires-clause-next
detach-requires-clause-next g c =
    next_live g.C.Chain.rows c.args.rows.now.now (ends_in g.C.Chain.holders c.args.holders.now.now) c.requires.chains c.requires.linked.0 c.args.link c.requires.linked.1

pub returns-clause-live : goal.returns-clause-live
returns-clause-live g c = λ k there.
    ap (λ m. is_some (map.get m k)) c.detach.ensures.rows
    ∙ live_joined g.C.Chain.rows c.args.rows.now.now c.args.link.prev c.args.link.next k there
