use Rattle.std.proofs.Common.{◌+◌, cond, Some, refl, sym, ap, ◌∙◌, arith}
use Rattle.watch_kit.specs.inside.Keys.{count_at}
use Rattle.watch_kit.proofs.Keys.{same-key}
use Rattle.watch_kit.proofs.Counts.{one-counted}
use Rattle.watch_kit.proofs.sink_counts.SinkCounts.count.Goals as goal

pub returns-in_ok-insert : goal.returns-in_ok-insert
returns-in_ok-insert c =
    let old = c.args.self.now.counts.entries in
    let n = c.in-Some.count in
    record {
      limit = refl;
      grown = λ at.
          c.in_ok-insert.ensures.updates.0 at
          ∙ ap (λ b. cond b (Some (n + 1)) (count_at old at)) (same-key c.args.bit at)
          ∙ one-counted c.args.self.now.limit old c.args.bit n (sym (c.in-Some.ensures ∙ c.get.ensures.value)) (omega (arith, c.from.ensures, c.if-count-from.true)) at _ refl;
    }
