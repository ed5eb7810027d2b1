use Rattle.std.proofs.Common.{ℕ, List, ◌++◌, sym, ap, ap₂, ◌∙◌, arith, length}
use Rattle.std.specs.List.{flat_map, zip}
use Rattle.std.proofs.lemmas.List.{take_all}
use Rattle.std.proofs.lemmas.Slice.Zip.{length-zip}
use Rattle.emh_base.specs.declared.plain.Dir.TheVariants.{Input}
use Rattle.emh_base.specs.declared.plain.PPort.{PPort}
use Rattle.emh_base.specs.declared.plain.Conn.{Conn}
use Rattle.reports.specs.Modules.{conn_line}
use Rattle.reports.proofs.Kept.{kept_text, pairs_more}
use Rattle.reports.proofs.modules.push_conns.Goals as goal

pub loop-at-preserved : goal.loop-at-preserved
loop-at-preserved c =
    let ports = c.as_slice-ports.result.now in
    let conns = c.as_slice-conns.result.now in
    let none : PPort = record { net = record { 0 = 0 }; dir = Input } in
    let text = pairs_more (conn_line c.args.holder.now c.args.master.now) c.args.out.now c.loop-at.out c.push_conn.new.out ports conns c.loop-at.at none c.index-conns-at.result c.loop-at.invariant.text (omega arith) (ap length c.as_slice-conns.ensures ∙ c.requires.many ∙ ap length (sym c.as_slice-ports.ensures)) c.index-conns-at.is c.in_ok-push_conn.ensures.ok in
    record { kept = kept_text _ _ _ text; text = text }

pub returns-clause-ok : goal.returns-clause-ok
returns-clause-ok c =
    let ports = c.as_slice-ports.result.now in
    let conns = c.as_slice-conns.result.now in
    let lines : List (PPort × Conn) → List ℕ = flat_map (conn_line c.args.holder.now c.args.master.now) in
    c.loop-at.invariant.text
    ∙ ap (λ xs. c.args.out.now ++ lines xs) (take_all c.loop-at.at (zip ports conns) (omega (arith, length-zip ports conns)))
    ∙ ap₂ (λ (ps : List PPort) (cs : List Conn). c.args.out.now ++ lines (zip ps cs)) c.as_slice-ports.ensures c.as_slice-conns.ensures
