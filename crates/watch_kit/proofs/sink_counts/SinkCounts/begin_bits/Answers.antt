use Rattle.std.proofs.Common.{[], List, ap, ◌∙◌, arith}
use Rattle.std.specs.List.{fold, flat_map}
use Rattle.std.proofs.lemmas.List.{take_all}
use Rattle.emh_base.specs.declared.plain.Src.{Src}
use Rattle.watch_kit.specs.NetBits.{bits_in}
use Rattle.watch_kit.specs.inside.Counting.{noted}
use Rattle.watch_kit.proofs.Noted.{noted-once}
use Rattle.watch_kit.proofs.sink_counts.SinkCounts.begin_bits.Goals as goal

pub returns-clause-bits : goal.returns-clause-bits
returns-clause-bits c =
    c.loop-source.invariant.bits
    ∙ ap (λ (xs : List Src). fold noted [] (flat_map bits_in xs)) (take_all c.loop-source.source-index c.args.sources.now (omega arith))
    ∙ noted-once (flat_map bits_in c.args.sources.now)
