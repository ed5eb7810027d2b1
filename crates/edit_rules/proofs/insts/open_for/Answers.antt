use Rattle.std.proofs.Common.{◌≡◌, ◌+◌, List, [], ◌∷◌, ◌++◌, map, take, get_or, sym, ap, ◌∙◌, add-one}
use Rattle.std.proofs.Math.Seq.{take-suc}
use Rattle.std.proofs.lemmas.List.{map-append}
use Rattle.emh_base.specs.declared.plain.Dir.TheVariants.{Input}
use Rattle.emh_base.specs.declared.plain.PPort.{PPort}
use Rattle.emh_base.specs.declared.plain.Conn.{Conn}
use Rattle.emh_base.specs.declared.plain.Conn.TheVariants.{Open}
use Rattle.edit_rules.proofs.insts.open_for.Goals as goal

pub loop-port-preserved : goal.loop-port-preserved
loop-port-preserved c =
    let ports : List PPort = c.as_slice-port-items.result.now in
    let d : PPort = record { net = record { 0 = 0 }; dir = Input } in
    let open' : PPort → Conn = λ port. Open in
    let front = take c.loop-port._port-index ports in
    let longer : take (c.loop-port._port-index + 1) ports ≡ front ++ get_or ports c.loop-port._port-index d ∷ [] =
    rw (add-one c.loop-port._port-index) (take-suc ports c.loop-port._port-index d c.loop-port-test.true) in
    c.in_ok-push.ensures.ok ∙ ap (λ made. made ++ Open ∷ []) c.loop-port.invariant
    ∙ sym (ap (map open') longer ∙ map-append open' front (get_or ports c.loop-port._port-index d ∷ []))
