use Rattle.std.proofs.Common.{List, ap, refl, arith}
use Rattle.std.specs.List.{count_by}
use Rattle.std.proofs.lemmas.List.{take_all}
use Rattle.emh_base.specs.declared.plain.Src.{Src}
use Rattle.emh_base.specs.declared.plain.Src.TheVariants.{Tie0}
use Rattle.watch_kit.specs.NetBits.{is_bit}
use Rattle.watch_kit.proofs.Joins.{count-more}
use Rattle.watch_kit.proofs.Counts.{counts-none, counts-on, counts-same}
use Rattle.watch_kit.proofs.sink_counts.SinkCounts.count_sources.Goals as goal

pub loop-source-init : goal.loop-source-init
loop-source-init c = counts-none c.args.self.now _ (λ b. refl)

pub loop-source-preserved : goal.loop-source-preserved
loop-source-preserved c =
    counts-on c.args.self.now c.loop-source.self c.count_source.new.self _ _ _ c.loop-source.invariant c.in_ok-count_source.ensures
    (λ b. count-more (is_bit b) c.args.sources.now c.loop-source.source-index Tie0 c.loop-source-test.true)

pub returns : goal.returns
returns c =
    counts-same c.args.self.now c.loop-source.self _ _ c.loop-source.invariant
    (λ b. ap (λ (xs : List Src). count_by (is_bit b) xs) (take_all c.loop-source.source-index c.args.sources.now (omega arith)))
