use Rattle.std.proofs.Common.{◌≡◌, ◌<◌, ◌≤◌, ◌==◌, ◌∙◌, ℕ, Bool, Option, List, None, Some, length, position, get_or, take, ap, sym, refl, arith}
use Rattle.std.proofs.lemmas.Bool.{false≢true}
use Rattle.std.proofs.lemmas.List.{get_or_default, get_or_read, take_all}
use Rattle.emh_base.specs.declared.plain.Dir.TheVariants.{Input}
use Rattle.emh_base.specs.declared.plain.PNet.{PNet}
use Rattle.emh_base.specs.declared.plain.PModule.{PModule}
use Rattle.emh_base.specs.declared.plain.PPort.{PPort}
use Rattle.flatten_rules.proofs.Checking.{no-net, net-taken, placed-more, placed-own, placed-all}
use Rattle.flatten_rules.proofs.Places.{position-within}
use Rattle.flatten_rules.proofs.Walks.{some-there, none-there}
use Rattle.flatten_rules.proofs.port.port_places.Goals as goal

abbrev none : PPort
none = record { net = record { 0 = 0 }; dir = Input }

-- the port at a place of the slice is the module's
port_read : (m : PModule) (ports : List PPort) (i : ℕ) → ports ≡ m.ports → i < length ports
    → (i < length m.ports) × (get_or ports i none ≡ get_or m.ports i (get_or ports i none))
port_read m ports i items within =
    let there : i < length m.ports = omega (arith, ap length items, within) in
    (there, ap (λ (ports : List PPort). get_or ports i none) items ∙ get_or_default m.ports i none (get_or ports i none) there)

-- the place of its net is one of the places
place_found : (m : PModule) (is : PNet → Bool) (nets : List PNet) (places : List (Option ℕ)) (place : ℕ) → nets ≡ m.nets
    → Some place ≡ position is nets → length places ≡ length m.nets → (Some place ≡ position is m.nets) × (place < length places)
place_found m is nets places place items there many =
    let found : Some place ≡ position is m.nets = there ∙ ap (position is) items in
    (found, omega (arith, many, position-within is m.nets place found))

pub returns-in_default-clause-own : goal.returns-in_default-clause-own
returns-in_default-clause-own c =
    let m = c.args.holder.now in
    let i = c.loop-at.at in
    let ports : List PPort = c.as_slice-ports.result.now in
    let port : PPort = get_or ports i none in
    let read = port_read m ports i c.as_slice-ports.ensures c.loop-at-test.true in
    let nowhere : None ≡ position (λ (net : PNet). net.id.0 == port.net.0) m.nets =
    sym c.in_default.is ∙ c.place_of.ensures ∙ ap (position (λ (net : PNet). net.id.0 == port.net.0)) c.as_slice-nets.ensures
    in
    (λ yes. absurd (false≢true yes), λ own. absurd (no-net m c.requires i port read.0 read.1 nowhere own))

pub returns-then-is_some-clause-own : goal.returns-then-is_some-clause-own
returns-then-is_some-clause-own c =
    let m = c.args.holder.now in
    let i = c.loop-at.at in
    let place = c.in-Some.place in
    let places : List (Option ℕ) = c.loop-at.places.items in
    let ports : List PPort = c.as_slice-ports.result.now in
    let port : PPort = get_or ports i none in
    let read = port_read m ports i c.as_slice-ports.ensures c.loop-at-test.true in
    let found = place_found m (λ (net : PNet). net.id.0 == port.net.0) c.as_slice-nets.result.now places place
    c.as_slice-nets.ensures (sym c.in-Some.is ∙ c.place_of.ensures) c.loop-at.invariant.many
    in
    let set = some-there c.index.result.now (sym c.is_some.ensures ∙ c.if-is_some.true) in
    let taken = sym (get_or_read places place c.index.result.now found.1 c.index.ensures None) ∙ set.1 in
    (λ yes. absurd (false≢true yes), λ own. absurd (net-taken m c.requires i port place places read.0 read.1 found.0 c.loop-at.invariant set.0 taken own))

pub loop-at-preserved : goal.loop-at-preserved
loop-at-preserved c =
    let m = c.args.holder.now in
    let i = c.loop-at.at in
    let place = c.in-Some.place in
    let places : List (Option ℕ) = c.loop-at.places.items in
    let ports : List PPort = c.as_slice-ports.result.now in
    let port : PPort = get_or ports i none in
    let read = port_read m ports i c.as_slice-ports.ensures c.loop-at-test.true in
    let found = place_found m (λ (net : PNet). net.id.0 == port.net.0) c.as_slice-nets.result.now places place
    c.as_slice-nets.ensures (sym c.in-Some.is ∙ c.place_of.ensures) c.loop-at.invariant.many
    in
    let unset = sym (get_or_read places place c.index.result.now found.1 c.index.ensures None) ∙ none-there c.index.result.now (sym c.is_some.ensures ∙ c.if-is_some.false) in
    placed-more m c.requires i port place places read.0 read.1 found.0 c.loop-at.invariant unset

pub returns-clause-places : goal.returns-clause-places
returns-clause-places c =
    let ports : List PPort = c.args.holder.now.ports in
    let past : length ports ≤ c.loop-at.at = omega (arith, ap length c.as_slice-ports.ensures, c.loop-at-test.false) in
    placed-all c.args.holder.now (take c.loop-at.at ports) c.loop-at.places.items (take_all c.loop-at.at ports past) c.loop-at.invariant

pub returns-clause-own : goal.returns-clause-own
returns-clause-own c =
    let ports : List PPort = c.args.holder.now.ports in
    let past : length ports ≤ c.loop-at.at = omega (arith, ap length c.as_slice-ports.ensures, c.loop-at-test.false) in
    (λ _. placed-own c.args.holder.now (take c.loop-at.at ports) c.loop-at.places.items (take_all c.loop-at.at ports past) c.loop-at.invariant, λ _. refl)
