use Rattle.std.proofs.Common.{◌≡◌, ◌++◌, ◌+◌, ◌<◌, ◌≤◌, length, arith, get_or, ◌∙◌, ap, ap₂, List}
use Rattle.emh_base.specs.declared.plain.PPort.{PPort}
use Rattle.emh_base.specs.declared.plain.Conn.{Conn}
use Rattle.emh_base.specs.declared.plain.Dir.TheVariants.{Input}
use Rattle.vlog_write.specs.Word.{text}
use Rattle.vlog_write.specs.Layout as layout
use Rattle.vlog_write.specs.TreeOf.{conn_tree, port_name}
use Rattle.vlog_write.specs.inside.Steps.{comma_before}
use Rattle.vlog_write.proofs.Texts.{rest_at, conns_at, conn_more, conns_past, ports_past, all_put}
use Rattle.vlog_write.proofs.inst.push_conns.Goals as goal

pub returns-then-at-ports : goal.returns-then-at-ports
returns-then-at-ports c =
    let few : length c.args.master.now.ports ≤ c.loop-at.at = omega (arith, ap length c.as_slice-ports.ensures) in
    all_put c.loop-at.out c.args.out.now _ _
    (ports_past c.args.holder.now c.args.master.now c.args.master.now.ports c.args.conns.now c.loop-at.at few)
    c.loop-at.invariant

pub loop-at-preserved : goal.loop-at-preserved
loop-at-preserved c =
    let m = c.args.holder.now in
    let i = c.loop-at.at in
    let put : c.push_conn.new.out ≡ c.push_comma.new.out ++ text (layout.conn (conn_tree m c.name_of.result.now c.index-conns-at.result)) = c.in_ok-push_conn.ensures in
    let comma : c.push_comma.new.out ≡ c.loop-at.out ++ comma_before i = c.in_ok-push_comma.ensures in
    let ports = c.args.master.now.ports in
    let conns = c.args.conns.now in
    let first : PPort = record { net = record { 0 = 0 }; dir = Input } in
    let called : c.name_of.result.now ≡ port_name c.args.master.now (get_or ports i first) =
    c.name_of.ensures ∙ ap (λ (ps : List PPort). port_name c.args.master.now (get_or ps i first)) c.as_slice-ports.ensures in
    let read : c.index-conns-at.result ≡ get_or conns i c.index-conns-at.result = c.index-conns-at.is in
    let some : i < length ports = omega (arith, ap length c.as_slice-ports.ensures) in
    let step = conn_more m c.args.master.now c.loop-at.out ports conns i first c.index-conns-at.result some c.loop-at-test.true in
    let rest = text (rest_at (i + 1) (conns_at m c.args.master.now ports conns (i + 1))) in
    ap (λ t. t ++ rest) (put ∙ ap₂ (λ t name. t ++ text (layout.conn (conn_tree m name c.index-conns-at.result))) comma called
    ∙ ap (λ (conn : Conn). (c.loop-at.out ++ comma_before i) ++ text (layout.conn (conn_tree m (port_name c.args.master.now (get_or ports i first)) conn))) read)
    ∙ step ∙ c.loop-at.invariant

pub returns : goal.returns
returns c =
    all_put c.loop-at.out c.args.out.now _ _
    (conns_past c.args.holder.now c.args.master.now c.args.master.now.ports c.args.conns.now c.loop-at.at (omega arith))
    c.loop-at.invariant
