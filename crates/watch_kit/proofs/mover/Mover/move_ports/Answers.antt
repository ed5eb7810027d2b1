use Rattle.std.proofs.Common.{map, ap, ◌∙◌, arith}
use Rattle.std.specs.List.{zip}
use Rattle.std.proofs.lemmas.List.{take_all}
use Rattle.std.proofs.lemmas.Slice.Zip.{length-zip}
use Rattle.emh_base.specs.declared.plain.Dir.TheVariants.{Input}
use Rattle.emh_base.specs.declared.plain.PPort.{PPort}
use Rattle.watch_kit.specs.Sinks.{join}
use Rattle.watch_kit.specs.inside.Moving.{moved_on}
use Rattle.watch_kit.proofs.Joins.{pairs-more}
use Rattle.watch_kit.proofs.Moves.{moved-more}
use Rattle.watch_kit.proofs.mover.Mover.move_ports.Goals as goal

pub loop-at-preserved : goal.loop-at-preserved
loop-at-preserved c =
    let none : PPort = record { net = record { 0 = 0 }; dir = Input } in
    moved-more c.args.self.now c.loop-at.self c.move_port.new.self _ _ _ c.loop-at.invariant c.in_ok-move_port.ensures
    (pairs-more (join c.args.inst) c.args.ports.now c.args.conns.now c.loop-at.at none c.index-conns-at.result c.loop-at-test.true c.requires c.index-conns-at.is)

pub returns : goal.returns
returns c =
    let ports = c.args.ports.now in
    let conns = c.args.conns.now in
    c.loop-at.invariant
    ∙ ap (λ ps. moved_on c.args.self.now (map (join c.args.inst) ps)) (take_all c.loop-at.at (zip ports conns) (omega (arith, length-zip ports conns)))
