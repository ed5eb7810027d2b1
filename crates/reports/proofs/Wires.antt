-- The lines of the nets that are no port's.
use Rattle.std.proofs.Common.{◌≡◌, ℕ, ◌<◌, ◌==◌, Bool, true, false, cond, not, List, [], length, get_or, Option, Some, None, is_some, find, position, refl, sym, ap, ◌∙◌}
use Rattle.emh_base.specs.declared.plain.PNet.{PNet}
use Rattle.emh_base.specs.declared.plain.PPort.{PPort}
use Rattle.emh_base.specs.declared.plain.PModule.{PModule}
use Rattle.flatten_rules.specs.Lookup.{port_of}
use Rattle.flatten_rules.specs.Checks.{ArePortPlaces, port_place}
use Rattle.flatten_rules.proofs.Places.{position-within, item-there, find-from_place, find-from_none}
use Rattle.reports.specs.Modules.{wire_line, is_wire}

abbrev pub wire_or_none : PModule → PNet → List ℕ
wire_or_none m net = cond (is_wire m net) (wire_line net) []

same-found : {X : Type 0} (p : X → Bool) (xs : List X) (place : Option ℕ) → place ≡ position p xs → is_some place ≡ is_some (find p xs)
same-found p xs None is = ap is_some (find-from_none p xs is)
same-found p xs (Some i) is =
    let there = item-there xs i (position-within p xs i is) in
    ap is_some (sym there.1 ∙ find-from_place p xs i is)

by-place : (place port : Bool) (line : List ℕ) → place ≡ port → cond place [] line ≡ cond (not port) line []
by-place true true line same = refl
by-place false false line same = refl
by-place true false line same = absurd (cc)
by-place false true line same = absurd (cc)

-- a net at a place, by the place of its port
pub wire-at : (m : PModule) (places : List (Option ℕ)) (k : ℕ) (place : Option ℕ) (net : PNet) → ArePortPlaces m places → k < length m.nets → place ≡ get_or places k None → net ≡ get_or m.nets k net → cond (is_some place) [] (wire_line net) ≡ wire_or_none m net
wire-at m places k place net are within is at =
    let here : place ≡ port_place m net.id = is ∙ are.each k net within ∙ ap (λ (x : PNet). port_place m x.id) (sym at) in
    by-place (is_some place) (is_some (port_of m net.id)) (wire_line net) (same-found (λ (port : PPort). port.net.0 == net.id.0) m.ports place here)
