-- The second round: nets, instances and connections.
use Rattle.std.specs.Prelude.{ℕ, ◌==◌, nat_lt, nat_le, Bool, true, false, ◌&&◌, ◌||◌, not, if◌then◌else◌, List, [], ◌∷◌, length, slice_get, Option, Some, None, option_and_then, is_some, is_none, sum_by}
use Rattle.std.specs.List.{flat_map, list_any}
use Rattle.emh_base.specs.declared.plain.Range.{Range}
use Rattle.emh_base.specs.declared.plain.Plain.{Plain}
use Rattle.flatten_rules.specs.Lookup.{width}
use Rattle.vlog_read.specs.declared.tree.At.{At}
use Rattle.vlog_read.specs.declared.tree.Part.{Part}
use Rattle.vlog_read.specs.declared.tree.Part.TheVariants.{Name, Bit, Bits, Lit}
use Rattle.vlog_read.specs.declared.tree.TConn.{TConn}
use Rattle.vlog_read.specs.declared.tree.TModule.{TModule}
use Rattle.vlog_elab.specs.declared.fault.ElabKind.TheVariants as kind
use Rattle.vlog_elab.specs.declared.interface.Port.{Port}
use Rattle.vlog_elab.specs.declared.interface.Interface.{Interface}
use Rattle.vlog_elab.specs.declared.scope.Net.{Net}
use Rattle.vlog_elab.specs.declared.scope.Scope.{Scope}
use Rattle.flatten_rules.specs.Check.{each_after}
use Rattle.vlog_elab.specs.Check.{Check, check, check_at}
use Rattle.vlog_elab.specs.Named.{Named, named, place_of, is_there}
use Rattle.vlog_elab.specs.Text.{is_leaf}
use Rattle.vlog_elab.specs.Interfaces.{interfaces}
use Rattle.vlog_elab.specs.Steps.{Step, Declares, Places, Connects, Uses, Fits, steps, met}

abbrev pub is_implied : Option Net → Bool
is_implied None = false
is_implied (Some net) = net.implied

-- the port that a connection names
abbrev pub port_named : Option At → Named (Unit {0})
port_named None = []
port_named (Some n) = (n.name, tt) ∷ []

-- the ports that connections name
abbrev pub ports_named : List TConn → Named (Unit {0})
ports_named = flat_map (λ (c : TConn). port_named c.port)

-- one by name after one by order, or the reverse
abbrev pub mixes : List TConn → Bool → Bool
mixes before true = list_any (λ (c : TConn). is_none c.port) before
mixes before false = list_any (λ (c : TConn). is_some c.port) before

-- Connections by order and by name; at its first token, or the one after it, with the instance's name. By order: it is past
-- the last port; there too. By name: there is no such port, or it was connected before.
abbrev pub conn_checks : Named Port → At → List TConn → TConn → Option At → List Check
conn_checks ports inst before c None =
    check_at kind.Mixed c.at inst.name (mixes before false)
    ∷ check_at kind.TooManyConnections c.at inst.name (nat_le (length ports) (length before))
    ∷ []
conn_checks ports inst before c (Some n) =
    check_at kind.Mixed c.at inst.name (mixes before true)
    ∷ check kind.UnknownPort n (not (is_there ports n.name))
    ∷ check kind.PortTwice n (is_there (ports_named before) n.name)
    ∷ []

-- the index is one of the range's
abbrev pub has_index : Option Range → ℕ → Bool
has_index None index = false
has_index (Some r) index = (nat_le r.left index && nat_le index r.right) || (nat_le r.right index && nat_le index r.left)

-- one of the two ranges falls, and the other rises; a range of one index does neither
abbrev pub runs_against : Range → Range → Bool
runs_against r s = (nat_lt r.right r.left && nat_lt s.left s.right) || (nat_lt r.left r.right && nat_lt s.right s.left)

-- the bits of a part select are the range's, and stand in its direction
abbrev pub has_indices : Option Range → Range → Bool
has_indices None s = false
has_indices (Some r) s = has_index (Some r) s.left && has_index (Some r) s.right && not (runs_against r s)

-- the range of a net; a net that isn't there has none
abbrev pub net_range : Option Net → Option Range
net_range None = None
net_range (Some net) = net.range

-- A name that is an instance's. A select on a net that isn't met yet or has no range, or one that isn't within the range or
-- runs against it.
abbrev pub part_checks : Scope → Part → List Check
part_checks s (Name n) = check kind.NameTaken n (is_there s.insts n.name) ∷ []
part_checks s (Bit n index) =
    check kind.NameTaken n (is_there s.insts n.name)
    ∷ check kind.BadIndex n (not (has_index (net_range (named s.nets n.name)) index))
    ∷ []
part_checks s (Bits n range) =
    check kind.NameTaken n (is_there s.insts n.name)
    ∷ check kind.BadIndex n (not (has_indices (net_range (named s.nets n.name)) range))
    ∷ []
part_checks s (Lit size value) = []

-- how many bits a part has
abbrev pub part_width : Named Net → Part → ℕ
part_width nets (Name n) = width (net_range (named nets n.name))
part_width nets (Bit n index) = 1
part_width nets (Bits n range) = width (Some range)
part_width nets (Lit size value) = size

-- the place of the port that a connection is to, after these connections
abbrev pub port_place : Named Port → List TConn → Option At → Option ℕ
port_place ports before None = Some (length before)
port_place ports before (Some n) = place_of ports n.name

-- the port that a connection is to
abbrev pub port_at : Named Port → List TConn → Option At → Option (List ℕ × Port)
port_at ports before port = option_and_then (slice_get ports) (port_place ports before port)

-- an expression that isn't empty has as many bits as its port; at its first token, with the port's name
abbrev pub width_checks : Named Net → TConn → List Part → Option (List ℕ × Port) → List Check
width_checks nets c [] port = []
width_checks nets c (p ∷ ps) None = []
width_checks nets c (p ∷ ps) (Some port) =
    check_at kind.WidthMismatch c.expr_at port.0 (not (sum_by (part_width nets) (p ∷ ps) == width port.1.range)) ∷ []

-- At a declaration of a name: a connection has made the net before, or the name is an instance's.
-- At an instance: its master isn't in the table, or its name is a net's or an instance's.
-- At a connection: connections by order and by name, and the port that it is to. Then the parts of its expression from the
-- left, and then its width.
abbrev pub step_checks : Scope → Step → List Check
step_checks s (Declares n range) =
    check kind.LateDeclaration n (is_implied (named s.nets n.name))
    ∷ check kind.NameTaken n (is_there s.insts n.name)
    ∷ []
step_checks s (Places interface master n) =
    check kind.UnknownModule master (is_none interface)
    ∷ check kind.NameTaken n (is_there s.nets n.name || is_there s.insts n.name)
    ∷ []
step_checks s (Connects ports inst before c) = conn_checks ports inst before c c.port
step_checks s (Uses part) = part_checks s part
step_checks s (Fits ports before c) = width_checks s.nets c c.parts (port_at ports before c.port)

-- the checks of a module, each after what was met before it
abbrev pub inner_checks : Named Interface → TModule → List Check
inner_checks interfaces m = each_after (λ before step. step_checks (met before) step) [] (steps interfaces m)

-- modules that aren't leaves; masters are looked for in the table with all modules of the text
abbrev pub connection_checks : Plain → Bool → List TModule → List Check
connection_checks M all_leaf modules =
    flat_map (λ m. if is_leaf all_leaf m then [] else inner_checks (interfaces M all_leaf modules) m) modules
