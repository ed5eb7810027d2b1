use Rattle.std.proofs.Common.{ap, sym, ◌∙◌}
use Rattle.std.specs.List.{count_by}
use Rattle.std.proofs.lemmas.Result.{on_ok_weaker}
use Rattle.watch_kit.specs.NetBits.{is_bit}
use Rattle.watch_kit.specs.Sinks.{join}
use Rattle.watch_kit.proofs.Counts.{counts-same}
use Rattle.watch_kit.proofs.Moves.{among-one}
use Rattle.watch_kit.proofs.sink_counts.SinkCounts.count_port.Goals as goal

pub returns : goal.returns
returns c =
    on_ok_weaker c.count_sources.result (λ counted.
    counts-same c.args.self.now c.count_sources.new.self _ _ counted
    (λ b. ap (count_by (is_bit b)) c.taken.ensures ∙ sym (among-one b (join c.args.inst (c.args.port, c.args.conn.now)))))
    c.count_sources.ensures
