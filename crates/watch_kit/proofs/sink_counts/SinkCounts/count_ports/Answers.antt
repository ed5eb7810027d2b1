use Rattle.std.proofs.Common.{map, take, get_or, refl, subst, List, [], ◌∷◌, arith}
use Rattle.std.specs.List.{zip}
use Rattle.std.proofs.lemmas.List.{take_all}
use Rattle.std.proofs.lemmas.Slice.Zip.{length-zip}
use Rattle.emh_base.specs.declared.plain.Dir.TheVariants.{Input}
use Rattle.emh_base.specs.declared.plain.Conn.{Conn}
use Rattle.emh_base.specs.declared.plain.PPort.{PPort}
use Rattle.watch_kit.specs.Sinks.{Join, join}
use Rattle.watch_kit.specs.inside.Counting.{CountsMore, sinks_among}
use Rattle.watch_kit.proofs.Joins.{pairs-more}
use Rattle.watch_kit.proofs.Counts.{counts-none, counts-more}
use Rattle.watch_kit.proofs.sink_counts.SinkCounts.count_ports.Goals as goal

pub loop-at-init : goal.loop-at-init
loop-at-init c = counts-none c.args.self.now _ (λ b. refl)

pub loop-at-preserved : goal.loop-at-preserved
loop-at-preserved c =
    let none : PPort = record { net = record { 0 = 0 }; dir = Input } in
    let ports = c.args.ports.now in
    let conns = c.args.conns.now in
    let at = c.loop-at.at in
    let so_far : List Join = map (join c.args.inst) (take at (zip ports conns)) in
    let next : Join = join c.args.inst (get_or ports at none, c.index-conns-at.result) in
    counts-more c.args.self.now c.loop-at.self c.count_port.new.self so_far (next ∷ []) _ c.loop-at.invariant c.in_ok-count_port.ensures
    (pairs-more (join c.args.inst) ports conns at none c.index-conns-at.result c.loop-at-test.true c.requires c.index-conns-at.is)

pub returns : goal.returns
returns c =
    let ports = c.args.ports.now in
    let conns = c.args.conns.now in
    let P : List (PPort × Conn) → Type 0 = λ ps. CountsMore c.args.self.now (sinks_among (map (join c.args.inst) ps)) c.loop-at.self in
    subst P (take_all c.loop-at.at (zip ports conns) (omega (arith, length-zip ports conns))) c.loop-at.invariant
