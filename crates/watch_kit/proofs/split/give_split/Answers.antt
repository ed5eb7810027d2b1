use Rattle.std.proofs.Common.{◌≡◌, ◌-◌, map, ap, ap₂, ◌∙◌}
use Rattle.std.proofs.lemmas.Result.{err_from_is_err_and}
use Rattle.emh_base.specs.declared.state.State.{State}
use Rattle.watch_kit.specs.declared.split.Buffer.{Buffer}
use Rattle.watch_kit.specs.Sinks.{joins}
use Rattle.watch_kit.specs.Split.{connect_to, made_net, moves, new_net}
use Rattle.watch_kit.specs.inside.Keys.{bit_of}
use Rattle.watch_kit.specs.inside.Splitting.{buffer_on, buffer_edits}
use Rattle.watch_kit.proofs.Splits.{split-halts, split-lacks, buffer-halts, split-given}
use Rattle.watch_kit.proofs.split.give_split.Goals as goal

pub returns-in_err-give : goal.returns-in_err-give
returns-in_err-give c =
    let m = c.args.id in
    let net = c.in_ok-net.ensures ∙ ap (λ (T : State). new_net T m) c.state-before.ensures.value in
    let p = err_from_is_err_and c.from_residual-in_err-give.result c.from_residual-in_err-give.ensures.1 in
    rw (p.1, p.2) (split-halts m c.args.limit c.args.bit c.args.desk.now c.give.new.desk c.in_ok-net.net net _ c.in_err-give.ensures)

pub returns-in_err-made : goal.returns-in_err-made
returns-in_err-made c =
    let m = c.args.id in
    let net = c.in_ok-net.ensures ∙ ap (λ (T : State). new_net T m) c.state-before.ensures.value in
    let p = err_from_is_err_and c.from_residual-in_err-made.result c.from_residual-in_err-made.ensures.1 in
    rw (p.1, p.2) (split-lacks m c.args.limit c.args.bit c.args.desk.now c.give.new.desk c.in_ok-net.net net c.in_ok-give.ensures)

pub returns-in_err-give_all : goal.returns-in_err-give_all
returns-in_err-give_all c =
    let m = c.args.id in
    let net = c.in_ok-net.ensures ∙ ap (λ (T : State). new_net T m) c.state-before.ensures.value in
    let buffer = c.on-buffer.ensures ∙ ap (λ (T : State). buffer_on T m c.args.limit.cell c.args.bit) c.state-before.ensures.value in
    let made = c.as_slice.ensures ∙ c.in_ok-made.ensures ∙ ap₂ (λ (T : State) (b : Buffer). buffer_edits T m b) c.state.ensures.value buffer in
    let p = err_from_is_err_and c.from_residual-in_err-give_all.result c.from_residual-in_err-give_all.ensures.1 in
    rw (p.1, p.2)
    (buffer-halts m c.args.limit c.args.bit c.args.desk.now c.give.new.desk c.in_ok-net.net net c.in_ok-give.ensures c.as_slice.result.now made
    c.give_all.new.desk _ c.in_err-give_all.ensures)

pub returns : goal.returns
returns c =
    let m = c.args.id in
    let b = bit_of c.args.bit in
    let old = c.args.desk.now in
    let net = c.in_ok-net.ensures ∙ ap (λ (T : State). new_net T m) c.state-before.ensures.value in
    let buffer = c.on-buffer.ensures ∙ ap (λ (T : State). buffer_on T m c.args.limit.cell c.args.bit) c.state-before.ensures.value in
    let made = c.as_slice.ensures ∙ c.in_ok-made.ensures ∙ ap₂ (λ (T : State) (b : Buffer). buffer_edits T m b) c.state.ensures.value buffer in
    let to : c.on-buffer.result.to ≡ made_net old.state m = ap (λ (b : Buffer). b.to) buffer in
    let stay : c.saturating_sub-stay.result ≡ c.args.limit.max - 1 = c.saturating_sub-stay.ensures in
    let moved =
    c.as_slice-2.ensures ∙ c.in_ok-moves.ensures
    ∙ ap (λ (T : State). map (connect_to m) (moves b c.on-buffer.result.to c.saturating_sub-stay.result (joins T.plain m))) c.state-before.ensures.value
    ∙ ap₂ (λ s n. map (connect_to m) (moves b s n (joins old.state.plain m))) to stay in
    split-given m c.args.limit c.args.bit old c.give.new.desk c.in_ok-net.net net c.in_ok-give.ensures c.as_slice.result.now made
    c.give_all.new.desk c.in_ok-give_all.ensures c.as_slice-2.result.now moved c.give_all-2.new.desk c.give_all-2.result c.give_all-2.ensures
