use Rattle.std.proofs.Common.{List, sym, ap, ap₂, subst, ◌∙◌, arith, length, flat_map}
use Rattle.std.specs.List.{zip}
use Rattle.std.proofs.lemmas.List.{take_all}
use Rattle.std.proofs.lemmas.Slice.Zip.{length-zip}
use Rattle.emh_base.specs.declared.plain.Dir.TheVariants.{Input}
use Rattle.emh_base.specs.declared.plain.PPort.{PPort}
use Rattle.emh_base.specs.declared.plain.Conn.{Conn}
use Rattle.reports.specs.inside.Links.{Link, links_of}
use Rattle.reports.specs.inside.PinCounts.{count_at, Joins}
use Rattle.reports.proofs.Filling.{conns-more}
use Rattle.reports.proofs.pin_counts.BitCounts.add_inst.Goals as goal

pub loop-at-preserved : goal.loop-at-preserved
loop-at-preserved c =
    let ports = c.as_slice-ports.result.now in
    let conns = c.as_slice-conns.result.now in
    let none : PPort = record { net = record { 0 = 0 }; dir = Input } in
    conns-more (λ port offset. count_at c.args.below.now.counts.entries (port, offset)) c.args.self.now.counts.entries c.loop-at.self.counts.entries c.add_conn.new.self.counts.entries ports conns c.loop-at.at none c.index-conns-at.result (omega arith)
    (ap length c.as_slice-conns.ensures ∙ c.requires ∙ ap length (sym c.as_slice-ports.ensures)) c.index-conns-at.is c.loop-at.invariant c.in_ok-add_conn.ensures

pub returns : goal.returns
returns c =
    let ports = c.as_slice-ports.result.now in
    let conns = c.as_slice-conns.result.now in
    let all = ap (flat_map links_of) (take_all c.loop-at.at (zip ports conns) (omega (arith, length-zip ports conns)))
    ∙ ap₂ (λ (ps : List PPort) (cs : List Conn). flat_map links_of (zip ps cs)) c.as_slice-ports.ensures c.as_slice-conns.ensures in
    let Through : List Link → Type 0 = λ some. Joins (λ port offset. count_at c.args.below.now.counts.entries (port, offset)) c.args.self.now.counts.entries c.loop-at.self.counts.entries some in
    subst Through all c.loop-at.invariant
