-- The nets that a module mentions: their ranges are allowed, and those of ports are as the directions say. A leaf's are ports.
use Rattle.std.proofs.Common.{◌≡◌, ℕ, [], ◌∷◌, ◌++◌, None, Some, Option, Bool, true, false, List, map, is_some, refl, sym, ◌∙◌, ap, subst}
use Rattle.std.specs.List.{flat_map, All, AllPairs}
use Rattle.std.specs.Option.{option_map}
use Rattle.std.proofs.lemmas.List.Elements.{All-append}
use Rattle.std.proofs.lemmas.List.{append-nil}
use Rattle.emh_base.specs.declared.plain.Dir.{Dir}
use Rattle.emh_base.specs.declared.plain.Range.{Range}
use Rattle.flatten_rules.specs.Sound.{IsAllowed}
use Rattle.vlog_read.specs.declared.tree.At.{At}
use Rattle.vlog_read.specs.declared.tree.Span.{Span}
use Rattle.vlog_read.specs.declared.tree.Decl.{Decl}
use Rattle.vlog_read.specs.declared.tree.Item.{Item}
use Rattle.vlog_read.specs.declared.tree.Item.TheVariants.{Decl as Declaration, Insts}
use Rattle.vlog_read.specs.declared.tree.TModule.{TModule}
use Rattle.vlog_elab.specs.declared.interface.Port.{Port}
use Rattle.vlog_elab.specs.declared.interface.Interface.{Interface}
use Rattle.vlog_elab.specs.declared.said.Said.{Said}
use Rattle.vlog_elab.specs.declared.scope.Net.{Net}
use Rattle.vlog_elab.specs.declared.scope.Scope.{Scope}
use Rattle.flatten_rules.specs.Check.{first_broken}
use Rattle.vlog_elab.specs.Named.{Named, named, is_there, just_names}
use Rattle.vlog_elab.specs.Text.{header_names, header_decls, range_of}
use Rattle.vlog_elab.specs.Interfaces.{Place, Ranged, Placed, range_places, name_place, decl_places, item_places, places, direction_at, said}
use Rattle.vlog_elab.specs.Steps.{Step, Declares, decl_steps, item_steps, steps}
use Rattle.vlog_elab.specs.Connections.{is_implied, step_checks, inner_checks}
use Rattle.vlog_elab.specs.Table.{name_net}
use Rattle.vlog_elab.specs.inside.Walk.{at_end}
use Rattle.vlog_elab.specs.inside.Walks.{header_walk, place_walk, port_walk, after_step, step_walk}
use Rattle.vlog_elab.proofs.Each.{all_none, all_cons, all_head}
use Rattle.vlog_elab.proofs.Declaring.{said-walk}
use Rattle.vlog_elab.proofs.Joining.{inner_checks-walk}
use Rattle.vlog_elab.proofs.Passing.{not_false, unbroken, Runs, run_each, keeps, meets_none}
use Rattle.vlog_elab.proofs.Finding.{all_named}
use Rattle.vlog_elab.proofs.Mentions.{mentions}
use Rattle.vlog_elab.specs.Interfaces.{port_of, ports}
use Rattle.vlog_elab.specs.Declarations.{header_checks}
use Rattle.vlog_elab.specs.Steps.{Places, Connects, Uses, Fits}
use Rattle.vlog_elab.specs.Table.{nets, insts_in, insts}
use Rattle.vlog_elab.proofs.Each.{all_map_of, pairs_none, pairs_cons, pairs_head, pairs_tail}
use Rattle.vlog_elab.proofs.Declaring.{just_names-walk}
use Rattle.vlog_elab.proofs.Finding.{Differ, apart_push, all_firsts, all_with_new}
use Rattle.vlog_elab.proofs.Fitting.{IsDeclared, ItemFits, ModuleFits, all_flat}
use Rattle.vlog_elab.proofs.Saying.{PassesInside, Agrees, Says, PlaceSaid, InLeaf, place_said, says_back, agrees_step, in_leaf, all_mentioned, all_map_both, all_front, all_flat_both}

all_map_each : {X Y : Type 0} (P : Y → Type 0) (f : X → Y) → ((x : X) → P (f x)) → (xs : List X) → All P (map f xs)
all_map_each P f each [] = all_none P
all_map_each P f each (x ∷ xs) = all_cons P (f x) (map f xs) (each x) (all_map_each P f each xs)

-- what all places say
pub all_said : (leaf : Bool) (m : TModule) → PassesInside leaf m → All (PlaceSaid (said (places m))) (places m)
all_said leaf m p =
    let all : Said = said (places m) in
    let header : Named (Unit {0}) = just_names (header_names m.header) in
    let end : Says all (at_end (place_walk leaf header) (said []) (places m)) = subst (Says all) (said-walk leaf header (places m)) (record { directions = λ q port h. h; wires = λ q range h. h }) in
    let r : Runs (place_walk leaf header) (Says all) (said []) (places m) = record { none = p.at_places; end = end } in
    run_each (place_walk leaf header) (Says all) (says_back all) (PlaceSaid all) (place_said leaf header all) (said []) (places m) r

pub all_agree : (leaf : Bool) (m : TModule) → PassesInside leaf m → Agrees (said (places m))
all_agree leaf m p =
    let header : Named (Unit {0}) = just_names (header_names m.header) in
    let start : Agrees (said []) = record { same = λ q range port w d. absurd (let no : None ≡ Some range = w in cc no) } in
    subst Agrees (sym (said-walk leaf header (places m))) (keeps (place_walk leaf header) Agrees (agrees_step leaf header) (said []) (places m) start p.at_places)

pub all_in_leaf : (m : TModule) → PassesInside true m → All (InLeaf (just_names (header_names m.header))) (places m)
all_in_leaf m p =
    let header : Named (Unit {0}) = just_names (header_names m.header) in
    let r : Runs (place_walk true header) (λ s. Unit {0}) (said []) (places m) = record { none = p.at_places; end = tt } in
    run_each (place_walk true header) (λ s. Unit {0}) (λ s x h. tt) (InLeaf header) (λ s x st. in_leaf header s x st.passed) (said []) (places m) r

-- Ranges.

abbrev pub HasAllowed : List ℕ × Net → Type 0
HasAllowed e = IsAllowed e.1.range

decl_allowed : (all : Said) (dir : Option Dir) (r : Option Range) (range : Option Span) (ns : List At) → All (PlaceSaid all) (range_places range ns ++ map (name_place dir r) ns)
    → All HasAllowed (map (name_net (option_map (λ (s : Span). s.range) range)) ns)
decl_allowed all dir r None ns h = all_map_each HasAllowed (name_net None) (λ n. tt) ns
decl_allowed all dir r (Some s) [] h = all_none HasAllowed
decl_allowed all dir r (Some s) (n ∷ ns) h =
    let ok : IsAllowed (Some s.range) = all_head (PlaceSaid all) (Ranged s n) (map (name_place dir r) (n ∷ ns)) h in
    all_map_each HasAllowed (name_net (Some s.range)) (λ n. ok) (n ∷ ns)

pub nets_allowed : (leaf : Bool) (m : TModule) → PassesInside leaf m → All HasAllowed (nets m)
nets_allowed leaf m p =
    all_firsts HasAllowed (mentions m)
    (all_mentioned (PlaceSaid (said (places m))) HasAllowed (λ d h. decl_allowed (said (places m)) d.dir (range_of d) d.range d.names h) (λ master h q. tt) m (all_said leaf m p))

-- Ports.

abbrev pub AsDirected : Said → List ℕ × Net → Type 0
AsDirected all e = e.1.implied ≡ false → (port : Port) → named all.directions e.0 ≡ Some port → e.1.range ≡ port.range

name_as_directed : (all : Said) (range : Option Range) (dir : Option Dir) (n : At) → Agrees all → PlaceSaid all (name_place dir range n) → AsDirected all (name_net range n)
name_as_directed all range None n a h = λ made port d. a.same n.name range port h d
name_as_directed all range (Some dir) n a h = λ made port d.
    let both : Some (record { dir = dir; range = range }) ≡ Some port = sym h ∙ d in
    let same : record { dir = dir; range = range } ≡ port = cc both in
    ap (λ (p : Port). p.range) same

pub nets_as_directed : (leaf : Bool) (m : TModule) → PassesInside leaf m → All (AsDirected (said (places m))) (nets m)
nets_as_directed leaf m p =
    let all : Said = said (places m) in
    let a : Agrees all = all_agree leaf m p in
    all_firsts (AsDirected all) (mentions m)
    (all_mentioned (PlaceSaid all) (AsDirected all)
    (λ d h. all_map_both (PlaceSaid all) (AsDirected all) (name_place d.dir (range_of d)) (name_net (range_of d)) (λ n h. name_as_directed all (range_of d) d.dir n a h) d.names
    (all_front (PlaceSaid all) (range_places d.range d.names) (map (name_place d.dir (range_of d)) d.names) h).1)
    (λ master h q. λ made. let no : true ≡ false = made in absurd (cc no)) m (all_said leaf m p))

-- each direction is of a net that is declared
abbrev DirectsDeclared : Named Net → Place → Type 0
DirectsDeclared ns p = All (λ (e : List ℕ × Port). IsDeclared ns e.0) (direction_at p)

name_directs : (ns : Named Net) (range : Option Range) (dir : Option Dir) (n : At) → IsDeclared ns n.name → DirectsDeclared ns (name_place dir range n)
name_directs ns range None n h = all_none (λ (e : List ℕ × Port). IsDeclared ns e.0)
name_directs ns range (Some dir) n h = all_cons (λ (e : List ℕ × Port). IsDeclared ns e.0) (n.name, record { dir = dir; range = range }) [] h (all_none (λ (e : List ℕ × Port). IsDeclared ns e.0))

range_directs : (ns : Named Net) (range : Option Span) (names : List At) → All (DirectsDeclared ns) (range_places range names)
range_directs ns None names = all_none (DirectsDeclared ns)
range_directs ns (Some s) [] = all_none (DirectsDeclared ns)
range_directs ns (Some s) (n ∷ names) = all_cons (DirectsDeclared ns) (Ranged s n) [] (all_none (λ (e : List ℕ × Port). IsDeclared ns e.0)) (all_none (DirectsDeclared ns))

decl_directs : (ns : Named Net) (d : Decl) → All (λ (n : At). IsDeclared ns n.name) d.names → All (DirectsDeclared ns) (decl_places d)
decl_directs ns d h =
    All-append (DirectsDeclared ns) (range_places d.range d.names) (map (name_place d.dir (range_of d)) d.names) (range_directs ns d.range d.names)
    (all_map_of (DirectsDeclared ns) (λ (n : At). IsDeclared ns n.name) (name_place d.dir (range_of d)) (name_directs ns (range_of d) d.dir) d.names h)

item_directs : (ns : Named Net) (fs : Named Interface) (item : Item) → ItemFits ns fs item → All (DirectsDeclared ns) (item_places item)
item_directs ns fs (Declaration d) h = decl_directs ns d h
item_directs ns fs (Insts master is) h = all_cons (DirectsDeclared ns) (Placed master) [] (all_none (λ (e : List ℕ × Port). IsDeclared ns e.0)) (all_none (DirectsDeclared ns))

directions_declared : (ns : Named Net) (fs : Named Interface) (m : TModule) → ModuleFits ns fs m → All (λ (e : List ℕ × Port). IsDeclared ns e.0) (said (places m)).directions
directions_declared ns fs m fits =
    all_flat (λ (e : List ℕ × Port). IsDeclared ns e.0) (DirectsDeclared ns) direction_at (λ p h. h) (places m)
    (All-append (DirectsDeclared ns) (flat_map decl_places (header_decls m.header)) (flat_map item_places m.items)
    (all_flat (DirectsDeclared ns) (λ (d : Decl). All (λ (n : At). IsDeclared ns n.name) d.names) decl_places (decl_directs ns) (header_decls m.header) fits.header)
    (all_flat (DirectsDeclared ns) (ItemFits ns fs) item_places (item_directs ns fs) m.items fits.items))

-- a name of the header has a direction, and a net of its range
pub record PortFits (ns : Named Net) (dirs : Named Port) (n : At) : Type 0 where
  pub port : Port
  pub directed : named dirs n.name ≡ Some port
  pub net : Net
  pub found : named ns n.name ≡ Some net
  pub same : net.range ≡ port.range

pub ports_fit : (fs : Named Interface) (leaf : Bool) (m : TModule) → PassesInside leaf m → ModuleFits (nets m) fs m → All (PortFits (nets m) (said (places m)).directions) (header_names m.header)
ports_fit fs leaf m p fits =
    run_each (port_walk dirs) (λ s. Unit {0}) (λ s x h. tt) (PortFits ns dirs) (λ s n st. at_o n (named dirs n.name) refl (not_false (is_there dirs n.name) (unbroken _ [] st.passed).0)) [] (header_names m.header)
    (record { none = p.in_ports; end = tt })
  where
    ns : Named Net
    ns = nets m

    dirs : Named Port
    dirs = (said (places m)).directions

    at_o : (n : At) (o : Option Port) → named dirs n.name ≡ o → is_some o ≡ true → PortFits ns dirs n
    at_o n None e h = absurd (cc h)
    at_o n (Some port) e h =
        let made : IsDeclared ns n.name = all_named (λ (e : List ℕ × Port). IsDeclared ns e.0) dirs n.name port (directions_declared ns fs m fits) e in
        record {
          port = port;
          directed = e;
          net = made.net;
          found = made.found;
          same = all_named (AsDirected (said (places m))) ns n.name made.net (nets_as_directed leaf m p) made.found made.declared port e;
        }

-- the names of the header differ
header_step : (before : Named (Unit {0})) (n : At) → AllPairs Differ before → first_broken (header_checks before n) ≡ None → AllPairs Differ (before ++ (n.name, tt) ∷ [])
header_step before n apart h = apart_push before (n.name, tt) apart (unbroken _ [] h).0

pub pairs_map_both : {X Y Z : Type 0} (R : Y → Y → Type 0) (T : Z → Z → Type 0) (f : X → Y) (g : X → Z) → ((a b : X) → R (f a) (f b) → T (g a) (g b)) → (xs : List X) → AllPairs R (map f xs) → AllPairs T (map g xs)
pairs_map_both R T f g each [] h = pairs_none T
pairs_map_both R T f g each (x ∷ xs) h =
    pairs_cons T (g x) (map g xs) (all_map_both (R (f x)) (T (g x)) f g (each x) xs (pairs_head R (f x) (map f xs) h))
    (pairs_map_both R T f g each xs (pairs_tail R (f x) (map f xs) h))

pub ports_apart : (leaf : Bool) (m : TModule) → PassesInside leaf m → AllPairs Differ (ports m)
ports_apart leaf m p =
    let names : List At = header_names m.header in
    let apart : AllPairs Differ (just_names names)
    = subst (λ (es : Named (Unit {0})). AllPairs Differ es) (sym (just_names-walk names)) (keeps header_walk (λ (es : Named (Unit {0})). AllPairs Differ es) header_step [] names (pairs_none Differ) p.in_header) in
    pairs_map_both Differ Differ (λ (n : At). let e : List ℕ × Unit {0} = (n.name, tt) in e) (port_of (said (places m)).directions) (λ a b h. h) names apart

-- A leaf.

abbrev pub InHeader : Named (Unit {0}) → List ℕ × Net → Type 0
InHeader header e = is_there header e.0 ≡ true

name_in_header : (header : Named (Unit {0})) (range : Option Range) (dir : Option Dir) (n : At) → InLeaf header (name_place dir range n) → InHeader header (name_net range n)
name_in_header header range None n h = h
name_in_header header range (Some dir) n h = h

pub leaf_nets : (m : TModule) → PassesInside true m → All (InHeader (just_names (header_names m.header))) (nets m)
leaf_nets m p =
    let header : Named (Unit {0}) = just_names (header_names m.header) in
    all_firsts (InHeader header) (mentions m)
    (all_mentioned (InLeaf header) (InHeader header)
    (λ d h. all_map_both (InLeaf header) (InHeader header) (name_place d.dir (range_of d)) (name_net (range_of d)) (λ n h. name_in_header header (range_of d) d.dir n h) d.names
    (all_front (InLeaf header) (range_places d.range d.names) (map (name_place d.dir (range_of d)) d.names) h).1)
    (λ master h q. absurd h) m (all_in_leaf m p))

-- it has no instances
pub leaf_insts : (m : TModule) → PassesInside true m → insts m ≡ []
leaf_insts m p = at_items m.items (all_front (InLeaf header) (flat_map decl_places (header_decls m.header)) (flat_map item_places m.items) (all_in_leaf m p)).1
  where
    header : Named (Unit {0})
    header = just_names (header_names m.header)

    at_items : (items : List Item) → All (InLeaf header) (flat_map item_places items) → flat_map insts_in items ≡ []
    at_items [] h = refl
    at_items (Declaration d ∷ items) h = at_items items (all_front (InLeaf header) (decl_places d) (flat_map item_places items) h).1
    at_items (Insts master is ∷ items) h = absurd (all_head (InLeaf header) (Placed master) (flat_map item_places items) h)

-- and the second round has nothing to tell of it
abbrev DeclaresOnly : Step → Type 0
DeclaresOnly (Declares n range) = Unit {0}
DeclaresOnly (Places interface master n) = ⊥
DeclaresOnly (Connects ports inst before c) = ⊥
DeclaresOnly (Uses part) = ⊥
DeclaresOnly (Fits ports before c) = ⊥

record OnlyDeclared (s : Scope) : Type 0 where
  no_insts : s.insts ≡ []
  declared : All (λ (e : List ℕ × Net). e.1.implied ≡ false) s.nets

declares_step : (s : Scope) (x : Step) → OnlyDeclared s → DeclaresOnly x → (first_broken (step_checks s x) ≡ None) × OnlyDeclared (after_step s x)
declares_step s (Declares n range) only h = (
  rw (not_implied (named s.nets n.name) refl, only.no_insts) refl,
  record {
    no_insts = append-nil s.insts ∙ only.no_insts;
    declared = all_with_new (λ (e : List ℕ × Net). e.1.implied ≡ false) s.nets ((n.name, record { range = range; implied = false }) ∷ []) only.declared
        (all_cons (λ (e : List ℕ × Net). e.1.implied ≡ false) (n.name, record { range = range; implied = false }) [] refl (all_none (λ (e : List ℕ × Net). e.1.implied ≡ false)));
  },
)
  where
    not_implied : (o : Option Net) → named s.nets n.name ≡ o → is_implied (named s.nets n.name) ≡ false
    not_implied None e = ap is_implied e
    not_implied (Some net) e = ap is_implied e ∙ all_named (λ (e : List ℕ × Net). e.1.implied ≡ false) s.nets n.name net only.declared e
declares_step s (Places interface master n) only h = absurd h
declares_step s (Connects ports inst before c) only h = absurd h
declares_step s (Uses part) only h = absurd h
declares_step s (Fits ports before c) only h = absurd h

decl_declares : (d : Decl) → All DeclaresOnly (decl_steps d)
decl_declares d = all_map_each DeclaresOnly (λ (n : At). Declares n (range_of d)) (λ n. tt) d.names

item_declares : (header : Named (Unit {0})) (fs : Named Interface) (item : Item) → All (InLeaf header) (item_places item) → All DeclaresOnly (item_steps fs item)
item_declares header fs (Declaration d) h = decl_declares d
item_declares header fs (Insts master is) h = absurd (all_head (InLeaf header) (Placed master) [] h)

pub leaf_passes : (fs : Named Interface) (m : TModule) → PassesInside true m → first_broken (inner_checks fs m) ≡ None
leaf_passes fs m p =
    let header : Named (Unit {0}) = just_names (header_names m.header) in
    let parts = all_front (InLeaf header) (flat_map decl_places (header_decls m.header)) (flat_map item_places m.items) (all_in_leaf m p) in
    let start : OnlyDeclared (record { nets = []; insts = [] }) = record { no_insts = refl; declared = all_none (λ (e : List ℕ × Net). e.1.implied ≡ false) } in
    let declares : All DeclaresOnly (steps fs m)
    = All-append DeclaresOnly (flat_map decl_steps (header_decls m.header)) (flat_map (item_steps fs) m.items)
    (all_flat DeclaresOnly (λ (d : Decl). Unit {0}) decl_steps (λ d h. decl_declares d) (header_decls m.header) (λ k d lt. tt))
    (all_flat_both (InLeaf header) DeclaresOnly item_places (item_steps fs) (item_declares header fs) m.items parts.1) in
    inner_checks-walk fs m ∙ meets_none step_walk OnlyDeclared DeclaresOnly declares_step (record { nets = []; insts = [] }) (steps fs m) start declares
