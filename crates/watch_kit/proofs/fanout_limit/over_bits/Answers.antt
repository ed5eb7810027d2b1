use Rattle.std.proofs.Common.{List, map, filter, nat_lt, unwrap_or, subst, ap, ◌∙◌}
use Rattle.std.specs.List.{flat_map}
use Rattle.std.proofs.lemmas.Result.{IfOk-weaker}
use Rattle.emh_base.specs.declared.plain.PInst.{PInst}
use Rattle.watch_kit.specs.declared.net_bits.BitOf.{BitOf as Key}
use Rattle.watch_kit.specs.Sinks.{joins_of}
use Rattle.watch_kit.specs.FanoutLimit.{is_over}
use Rattle.watch_kit.specs.inside.Keys.{bit_of, count_at}
use Rattle.watch_kit.specs.inside.Counting.{CountsMore, sinks_among}
use Rattle.watch_kit.proofs.Over.{all-over}
use Rattle.watch_kit.proofs.fanout_limit.over_bits.Goals as goal

pub returns : goal.returns
returns c =
    let S = c.args.state.now in
    let start = c.begin.new.self in
    let end = c.count_insts.new.self in
    let P : List PInst → Type 0 = λ insts. CountsMore start (sinks_among (flat_map (joins_of S.plain) insts)) end in
    let over = all-over S c.args.id c.args.limit c.in_ok-bits.bits start end c.in_ok-bits.ensures.begun (c.in_ok-bits.ensures.limit ∙ c.new-counts.ensures.limit)
    (subst P c.insts_of.ensures.value c.in_ok-count_insts.ensures) in
    let kept : List Key → List Key = filter (λ bit. nat_lt end.limit (unwrap_or (count_at end.counts.entries bit) 0)) in
    IfOk-weaker c.over.result _ _ (λ found is.
    ap (map bit_of) (is ∙ ap kept c.as_slice.ensures) ∙ over ∙ ap (filter (is_over S c.args.id c.args.limit)) c.in_ok-bits.ensures.bits)
    c.over.ensures
