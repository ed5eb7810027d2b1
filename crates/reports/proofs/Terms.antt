-- The ports of the module at the top.
use Rattle.std.proofs.Common.{◌≡◌, [], reverse, Some, refl, sym, ap, ◌∙◌}
use Rattle.std.specs.List.{flat_map, range_with_len}
use Rattle.emh_base.specs.declared.ids.ModId.{ModId}
use Rattle.emh_base.specs.declared.ids.NetId.{NetId}
use Rattle.emh_base.specs.declared.plain.PNet.{PNet}
use Rattle.emh_base.specs.declared.plain.PPort.{PPort}
use Rattle.emh_base.specs.declared.plain.PModule.{PModule}
use Rattle.emh_base.specs.declared.plain.Plain.{Plain}
use Rattle.flatten_rules.specs.Lookup.{module_of, net_of, width}
use Rattle.flatten_rules.specs.Unfolding.{module_up}
use Rattle.flatten_rules.specs.Texts.{net_up}
use Rattle.flatten_rules.specs.Way.{WayTo}
use Rattle.flatten_rules.proofs.Walks.{id-of_net}
use Rattle.reports.specs.Block.{term_line, term_lines}

pub net-at_top : (M : Plain) (top : ModId) (m : PModule) (id : NetId) (net : PNet) → module_of M top ≡ Some m → net_of m id ≡ Some net → net_up M top [] net.id ≡ Some net
unfolding module_up
net-at_top M top m id net there found = rw there (ap (net_of m) (id-of_net m id net found) ∙ found)

pub terms-of : (M : Plain) (top : ModId) (m : PModule) (port : PPort) (net : PNet) → module_of M top ≡ Some m → net_of m port.net ≡ Some net → flat_map (term_line M top (record { net = net.id; dir = port.dir })) (range_with_len 0 (width net.range)) ≡ term_lines M top port
terms-of M top m port net there found =
    ap (λ id. flat_map (term_line M top (record { net = id; dir = port.dir })) (range_with_len 0 (width net.range))) (id-of_net m port.net net found)
    ∙ rw (there, found) refl

-- the module at the end of a way that takes no step
pub at-top : (way : WayTo) (M : Plain) (top : ModId) (m : PModule) → way ≡ record { plain = M; top = top; path = [] } → module_up way.plain way.top (reverse way.path) ≡ Some m → module_of M top ≡ Some m
unfolding module_up
at-top way M top m is there = ap (λ (w : WayTo). module_up w.plain w.top (reverse w.path)) (sym is) ∙ there
