use Rattle.std.proofs.Common.{◌∙◌, sym, ap}
use Rattle.emh_base.specs.Pool.{number_in, with_name}
use Rattle.flatten_rules.proofs.Rising.{put_new-more, put_new-known}
use Rattle.flatten_rules.proofs.named.put_new.Goals as goal

pub returns-then-branch-count-clause-known : goal.returns-then-branch-count-clause-known
returns-then-branch-count-clause-known g c =
    let name = g.T.Named.name_of in
    let pool = c.loop-item.pool in
    let copied = c.in_ok-copy.ensures ∙ c.name.ensures ∙ ap name c.item-item.is in
    λ _. put_new-known name c.args.items.now c.loop-item.item-index c.item-item.result c.args.pool.now pool c.loop-item-test.true c.loop-item.invariant
    (λ same. c.if-branch-count.true (c.in_ok-number.ensures.number ∙ ap (number_in pool) copied ∙ same ∙ sym c.len-count.ensures.len))

pub loop-item-preserved : goal.loop-item-preserved
loop-item-preserved g c =
    let name = g.T.Named.name_of in
    let pool = c.loop-item.pool in
    let copied = c.in_ok-copy.ensures ∙ c.name.ensures ∙ ap name c.item-item.is in
    put_new-more name c.args.items.now c.loop-item.item-index c.item-item.result c.args.pool.now pool c.number.new.self c.loop-item-test.true
    c.loop-item.invariant
    (ap (number_in pool) (sym copied) ∙ sym c.in_ok-number.ensures.number ∙ c.if-branch-count.false ∙ c.len-count.ensures.len)
    (c.in_ok-number.ensures.names ∙ ap (with_name pool) copied)
