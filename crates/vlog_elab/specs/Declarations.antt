-- The first round: modules, headers and declarations.
use Rattle.std.specs.Prelude.{◌==◌, nat_lt, Bool, false, ◌&&◌, ◌||◌, not, List, [], ◌∷◌, ◌++◌, map, Option, Some, None}
use Rattle.emh_base.specs.declared.plain.Range.{Range}
use Rattle.emh_base.specs.declared.plain.Plain.{Plain}
use Rattle.flatten_rules.specs.Lookup.{width}
use Rattle.vlog_read.specs.declared.tree.At.{At}
use Rattle.vlog_read.specs.declared.tree.TModule.{TModule}
use Rattle.vlog_elab.specs.declared.fault.ElabKind.TheVariants as kind
use Rattle.vlog_elab.specs.declared.interface.Port.{Port}
use Rattle.vlog_elab.specs.declared.interface.Interface.{Interface}
use Rattle.vlog_elab.specs.declared.interface.Known.{Known}
use Rattle.vlog_elab.specs.declared.said.Said.{Said}
use Rattle.flatten_rules.specs.Check.{each_after}
use Rattle.vlog_elab.specs.Check.{Check, check, check_at}
use Rattle.vlog_elab.specs.Named.{Named, named, is_there, just_names}
use Rattle.vlog_elab.specs.Text.{is_leaf, header_names}
use Rattle.vlog_elab.specs.Interfaces.{Place, Ranged, Directed, Wired, Placed, places, said, ports, known, same_range, same_ports}

-- a module of that name is there, and one of the two isn't a leaf
abbrev pub is_taken : Bool → Option Interface → Bool
is_taken leaf None = false
is_taken leaf (Some there) = not (there.leaf && leaf)

-- a module of that name is there, and its ports aren't the same
abbrev pub has_other_ports : Named Port → Option Interface → Bool
has_other_ports ps None = false
has_other_ports ps (Some there) = not (same_ports there.ports ps)

-- a header names a port twice: at the second
abbrev pub header_checks : Named (Unit {0}) → At → List Check
header_checks before n = check kind.PortTwice n (is_there before n.name) ∷ []

-- the wire declaration of that name has another range than its direction
abbrev pub differs_from_direction : Option Range → Option Port → Bool
differs_from_direction range None = false
differs_from_direction range (Some port) = not (same_range port.range range)

-- the direction of that name has another range than its wire declaration
abbrev pub differs_from_wire : Option Range → Option (Option Range) → Bool
differs_from_wire range None = false
differs_from_wire range (Some other) = not (same_range other range)

-- At a range: an index above 65,535, or more than 4,096 bits; at its first number, with the first declared name.
-- At a direction of a name: it isn't in the header, or it has one already, or its wire declaration has another range.
-- At a wire declaration of a name: it has one already, or its direction has another range, or it is no port of a leaf.
-- At instances: they are in a leaf.
abbrev pub place_checks : Bool → Named (Unit {0}) → Said → Place → List Check
place_checks leaf header before (Ranged s n) =
    check_at kind.BadIndex s.at n.name (nat_lt 65535 s.range.left || nat_lt 65535 s.range.right)
    ∷ check_at kind.TooWide s.at n.name (nat_lt 4096 (width (Some s.range)))
    ∷ []
place_checks leaf header before (Directed n port) =
    check kind.UnknownPort n (not (is_there header n.name))
    ∷ check kind.NameTaken n (is_there before.directions n.name)
    ∷ check kind.RangeDiffers n (differs_from_wire port.range (named before.wires n.name))
    ∷ []
place_checks leaf header before (Wired n range) =
    check kind.NameTaken n (is_there before.wires n.name)
    ∷ check kind.RangeDiffers n (differs_from_direction range (named before.directions n.name))
    ∷ check kind.LeafBody n (leaf && not (is_there header n.name))
    ∷ []
place_checks leaf header before (Placed master) = check kind.LeafBody master leaf ∷ []

-- a name of the header has no direction: at its place in the header
abbrev pub direction_check : Named Port → At → Check
direction_check dirs n = check kind.NoDirection n (not (is_there dirs n.name))

-- a header and its declarations: each name after those before it, each place after what those before it say, and then the names
-- without a direction
abbrev pub inside_checks : Bool → TModule → List Check
inside_checks leaf m =
    let names = header_names m.header in
    each_after (λ before n. header_checks (just_names before) n) [] names
    ++ each_after (λ before p. place_checks leaf (just_names names) (said before) p) [] (places m)
    ++ map (direction_check (said (places m)).directions) names

-- a module of that name is there, and one of the two isn't a leaf
abbrev pub name_check : Bool → Known → TModule → Check
name_check leaf before m = check kind.NameTaken m.name (is_taken leaf (named before.interfaces m.name.name))

-- a leaf of that name is there, and has other ports; the module is to be added, and no id is left
abbrev pub entry_checks : Known → Named Port → TModule → List Check
entry_checks before ps m =
    check kind.NameTaken m.name (has_other_ports ps (named before.interfaces m.name.name))
    ∷ check kind.TooManyModules m.name (not (is_there before.interfaces m.name.name) && before.next_module == 4294967295)
    ∷ []

-- the checks of a module, after what is known of those before it
abbrev pub module_checks : Bool → Known → TModule → List Check
module_checks all_leaf before m =
    name_check (is_leaf all_leaf m) before m ∷ inside_checks (is_leaf all_leaf m) m ++ entry_checks before (ports m) m

abbrev pub declaration_checks : Plain → Bool → List TModule → List Check
declaration_checks M all_leaf = each_after (λ before m. module_checks all_leaf (known M all_leaf before) m) []
