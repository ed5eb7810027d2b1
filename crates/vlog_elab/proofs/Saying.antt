-- What holds of a module that passes the first round: of its ranges, its header, and the ranges of its ports.
use Rattle.std.proofs.Common.{arith, ◌≡◌, ℕ, ◌≤◌, ◌==◌, [], ◌∷◌, ◌++◌, None, Some, Option, Bool, true, false, List, map, is_some, refl, sym, ◌∙◌, ap, subst, cond, bytes_eq}
use Rattle.std.specs.Prelude.{not, ◌||◌, ◌&&◌, nat_lt}
use Rattle.std.specs.List.{flat_map, All}
use Rattle.std.specs.Option.{option_or}
use Rattle.std.proofs.lemmas.Bool.Decides.{nat_tests}
use Rattle.std.proofs.lemmas.List.Elements.{All-append}
use Rattle.std.proofs.lemmas.List.{append-nil}
use Rattle.emh_base.specs.declared.plain.Range.{Range}
use Rattle.flatten_rules.specs.Lookup.{width}
use Rattle.flatten_rules.specs.Sound.{IsAllowed}
use Rattle.vlog_read.specs.declared.tree.At.{At}
use Rattle.vlog_read.specs.declared.tree.Span.{Span}
use Rattle.vlog_read.specs.declared.tree.Decl.{Decl}
use Rattle.vlog_read.specs.declared.tree.Part.{Part}
use Rattle.vlog_read.specs.declared.tree.Part.TheVariants.{Name, Bit, Bits, Lit}
use Rattle.vlog_read.specs.declared.tree.TConn.{TConn}
use Rattle.vlog_read.specs.declared.tree.TInst.{TInst}
use Rattle.vlog_read.specs.declared.tree.Item.{Item}
use Rattle.vlog_read.specs.declared.tree.Item.TheVariants.{Decl as Declaration, Insts}
use Rattle.vlog_read.specs.declared.tree.TModule.{TModule}
use Rattle.vlog_elab.specs.declared.interface.Port.{Port}
use Rattle.vlog_elab.specs.declared.said.Said.{Said}
use Rattle.vlog_elab.specs.declared.scope.Net.{Net}
use Rattle.vlog_elab.specs.declared.fault.ElabKind.TheVariants as kind
use Rattle.flatten_rules.specs.Check.{first_broken}
use Rattle.vlog_elab.specs.Check.{check}
use Rattle.vlog_elab.specs.Named.{Named, named, is_there, just_names}
use Rattle.vlog_elab.specs.Text.{header_names, header_decls}
use Rattle.vlog_elab.specs.Interfaces.{Place, Ranged, Directed, Wired, Placed, decl_places, item_places, places, direction_at, wire_at, said, same_range}
use Rattle.vlog_elab.specs.Declarations.{place_checks, inside_checks, differs_from_direction, differs_from_wire}
use Rattle.vlog_elab.specs.Table.{part_net, decl_nets, conn_nets, inst_nets, item_nets}
use Rattle.vlog_elab.specs.inside.Walk.{first_fault}
use Rattle.vlog_elab.specs.inside.Walks.{header_walk, place_walk, port_walk, after_place}
use Rattle.vlog_elab.proofs.Each.{all_none, all_cons, all_head, all_tail}
use Rattle.vlog_elab.proofs.Naming.{same_name, bytes_eq-refl}
use Rattle.vlog_elab.proofs.Declaring.{inside-walks}
use Rattle.vlog_elab.proofs.Passing.{or_none, and_both, not_false, none_left, none_right, unbroken, three_unbroken, Stands}
use Rattle.vlog_elab.proofs.Finding.{named_append, named_kept}
use Rattle.vlog_elab.proofs.Mentions.{mentions}

-- The three walks of a module, none of which meets a fault.
pub record PassesInside (leaf : Bool) (m : TModule) : Type 0 where
  pub in_header : first_fault header_walk [] (header_names m.header) ≡ None
  pub at_places : first_fault (place_walk leaf (just_names (header_names m.header))) (said []) (places m) ≡ None
  pub in_ports : first_fault (port_walk (said (places m)).directions) [] (header_names m.header) ≡ None

pub passes_inside : (leaf : Bool) (m : TModule) → first_broken (inside_checks leaf m) ≡ None → PassesInside leaf m
passes_inside leaf m h =
    let all = sym (inside-walks leaf m) ∙ h in
    let rest = none_right (first_fault header_walk [] (header_names m.header)) _ all in
    record {
      in_header = none_left (first_fault header_walk [] (header_names m.header)) _ all;
      at_places = none_left (first_fault (place_walk leaf (just_names (header_names m.header))) (said []) (places m)) _ rest;
      in_ports = none_right (first_fault (place_walk leaf (just_names (header_names m.header))) (said []) (places m)) _ rest;
    }

-- From places to the nets that are mentioned there.

pub all_map_both : {X Y Z : Type 0} (P : Y → Type 0) (Q : Z → Type 0) (f : X → Y) (g : X → Z) → ((x : X) → P (f x) → Q (g x)) → (xs : List X) → All P (map f xs) → All Q (map g xs)
all_map_both P Q f g each [] h = all_none Q
all_map_both P Q f g each (x ∷ xs) h = all_cons Q (g x) (map g xs) (each x (all_head P (f x) (map f xs) h)) (all_map_both P Q f g each xs (all_tail P (f x) (map f xs) h))

pub all_front : {X : Type 0} (P : X → Type 0) (xs ys : List X) → All P (xs ++ ys) → All P xs × All P ys
all_front P [] ys h = (all_none P, h)
all_front P (x ∷ xs) ys h = let rest = all_front P xs ys (all_tail P x (xs ++ ys) h) in (all_cons P x xs (all_head P x (xs ++ ys) h) rest.0, rest.1)

pub all_flat_both : {X Y Z : Type 0} (P : Y → Type 0) (Q : Z → Type 0) (f : X → List Y) (g : X → List Z) → ((x : X) → All P (f x) → All Q (g x)) → (xs : List X) → All P (flat_map f xs) → All Q (flat_map g xs)
all_flat_both P Q f g each [] h = all_none Q
all_flat_both P Q f g each (x ∷ xs) h =
    let parts = all_front P (f x) (flat_map f xs) h in
    All-append Q (g x) (flat_map g xs) (each x parts.0) (all_flat_both P Q f g each xs parts.1)

all_flat_each : {X Y : Type 0} (Q : Y → Type 0) (g : X → List Y) → ((x : X) → All Q (g x)) → (xs : List X) → All Q (flat_map g xs)
all_flat_each Q g each [] = all_none Q
all_flat_each Q g each (x ∷ xs) = All-append Q (g x) (flat_map g xs) (each x) (all_flat_each Q g each xs)

part_implies : (Q : List ℕ × Net → Type 0) → ((q : List ℕ) → Q (q, record { range = None; implied = true })) → (p : Part) → All Q (part_net p)
part_implies Q implied (Name n) = all_cons Q (n.name, record { range = None; implied = true }) [] (implied n.name) (all_none Q)
part_implies Q implied (Bit n index) = all_none Q
part_implies Q implied (Bits n range) = all_none Q
part_implies Q implied (Lit size value) = all_none Q

item_mentioned : (P : Place → Type 0) (Q : List ℕ × Net → Type 0) → ((d : Decl) → All P (decl_places d) → All Q (decl_nets d))
    → ((master : At) → P (Placed master) → (q : List ℕ) → Q (q, record { range = None; implied = true })) → (item : Item) → All P (item_places item) → All Q (item_nets item)
item_mentioned P Q decl implied (Declaration d) h = decl d h
item_mentioned P Q decl implied (Insts master is) h =
    let each : (p : Part) → All Q (part_net p) = part_implies Q (implied master (all_head P (Placed master) [] h)) in
    all_flat_each Q inst_nets (λ (i : TInst). all_flat_each Q conn_nets (λ (c : TConn). all_flat_each Q part_net each c.parts) i.conns) is

-- what holds of each place tells what holds of each net that is mentioned
pub all_mentioned : (P : Place → Type 0) (Q : List ℕ × Net → Type 0) → ((d : Decl) → All P (decl_places d) → All Q (decl_nets d))
    → ((master : At) → P (Placed master) → (q : List ℕ) → Q (q, record { range = None; implied = true })) → (m : TModule) → All P (places m) → All Q (mentions m)
all_mentioned P Q decl implied m h =
    let parts = all_front P (flat_map decl_places (header_decls m.header)) (flat_map item_places m.items) h in
    All-append Q (flat_map decl_nets (header_decls m.header)) (flat_map item_nets m.items)
    (all_flat_both P Q decl_places decl_nets decl (header_decls m.header) parts.0)
    (all_flat_both P Q item_places item_nets (item_mentioned P Q decl implied) m.items parts.1)

-- Ranges.

abbrev pub RangeFits : Place → Type 0
RangeFits (Ranged s n) = IsAllowed (Some s.range)
RangeFits (Directed n port) = Unit {0}
RangeFits (Wired n range) = Unit {0}
RangeFits (Placed master) = Unit {0}

within_limits : (s : Span) → nat_lt 65535 s.range.left || nat_lt 65535 s.range.right ≡ false → nat_lt 4096 (width (Some s.range)) ≡ false → IsAllowed (Some s.range)
within_limits s indices wide =
    let both = or_none (nat_lt 65535 s.range.left) (nat_lt 65535 s.range.right) indices in
    let left : s.range.left ≤ 65535 = let e = both.0 in grind (arith, nat_tests) in
    let right : s.range.right ≤ 65535 = let e = both.1 in grind (arith, nat_tests) in
    let few : width (Some s.range) ≤ 4096 = grind (arith, nat_tests) in
    (left, right, few)

-- What is said at the end.

pub record Says (all s : Said) : Type 0 where
  pub directions : (q : List ℕ) (port : Port) → named s.directions q ≡ Some port → named all.directions q ≡ Some port
  pub wires : (q : List ℕ) (range : Option Range) → named s.wires q ≡ Some range → named all.wires q ≡ Some range

pub says_back : (all s : Said) (p : Place) → Says all (after_place s p) → Says all s
says_back all s p e = record {
  directions = λ q port h. e.directions q port (named_kept s.directions (direction_at p) q port h);
  wires = λ q range h. e.wires q range (named_kept s.wires (wire_at p) q range h);
}

-- a wire declaration and a direction of one name have the same range
pub record Agrees (s : Said) : Type 0 where
  pub same : (q : List ℕ) (range : Option Range) (port : Port) → named s.wires q ≡ Some range → named s.directions q ≡ Some port → range ≡ port.range

same_index : (a b : ℕ) → a == b ≡ true → a ≡ b
same_index a b h = grind (arith, nat_tests)

equal_ranges : (a b : Option Range) → same_range a b ≡ true → a ≡ b
equal_ranges None None h = refl
equal_ranges None (Some b) h = absurd (cc h)
equal_ranges (Some a) None h = absurd (cc h)
equal_ranges (Some a) (Some b) h =
    let both = and_both (a.left == b.left) (a.right == b.right) h in
    let make : ℕ → ℕ → Option Range = λ l r. Some (record { left = l; right = r }) in
    ap (λ l. make l a.right) (same_index a.left b.left both.0) ∙ ap (make b.left) (same_index a.right b.right both.1)

-- one more of a list of names that is found is the new one, or was found before
one_more_found : {V : Type 0} (P : V → Type 0) (es : Named V) (n q : List ℕ) (v w : V) → named (es ++ (n, v) ∷ []) q ≡ Some w → (named es q ≡ Some w → P w) → (q ≡ n → P v) → P w
one_more_found {V} P es n q v w h before new = at_o (named es q) refl (bytes_eq q n) refl (sym (named_append es ((n, v) ∷ []) q) ∙ h)
  where
    at_o : (o : Option V) → named es q ≡ o → (b : Bool) → bytes_eq q n ≡ b → option_or o (cond b (Some v) None) ≡ Some w → P w
    at_o (Some u) e b f h = before (e ∙ h)
    at_o None e true f h = let same : v ≡ w = cc h in subst P same (new (same_name q n f))
    at_o None e false f h = absurd (cc h)

-- what the checks of a direction and of a wire declaration tell
pub directed : (leaf : Bool) (header : Named (Unit {0})) (s : Said) (n : At) (port : Port) → first_broken (place_checks leaf header s (Directed n port)) ≡ None
    → (not (is_there header n.name) ≡ false) × (is_there s.directions n.name ≡ false) × (differs_from_wire port.range (named s.wires n.name) ≡ false)
directed leaf header s n port h =
    three_unbroken (check kind.UnknownPort n (not (is_there header n.name))) (check kind.NameTaken n (is_there s.directions n.name))
    (check kind.RangeDiffers n (differs_from_wire port.range (named s.wires n.name))) h

pub wired : (leaf : Bool) (header : Named (Unit {0})) (s : Said) (n : At) (range : Option Range) → first_broken (place_checks leaf header s (Wired n range)) ≡ None
    → (is_there s.wires n.name ≡ false) × (differs_from_direction range (named s.directions n.name) ≡ false) × (leaf && not (is_there header n.name) ≡ false)
wired leaf header s n range h =
    three_unbroken (check kind.NameTaken n (is_there s.wires n.name)) (check kind.RangeDiffers n (differs_from_direction range (named s.directions n.name)))
    (check kind.LeafBody n (leaf && not (is_there header n.name))) h

pub agrees_step : (leaf : Bool) (header : Named (Unit {0})) (s : Said) (p : Place) → Agrees s → first_broken (place_checks leaf header s p) ≡ None → Agrees (after_place s p)
agrees_step leaf header s (Ranged x n) a h = record { same = λ q range port w d. a.same q range port (sym (ap (λ es. named es q) (append-nil s.wires)) ∙ w) (sym (ap (λ es. named es q) (append-nil s.directions)) ∙ d) }
agrees_step leaf header s (Placed master) a h = record { same = λ q range port w d. a.same q range port (sym (ap (λ es. named es q) (append-nil s.wires)) ∙ w) (sym (ap (λ es. named es q) (append-nil s.directions)) ∙ d) }
agrees_step leaf header s (Directed n new) a h = record {
  same = λ q range port w d.
      let was : named s.wires q ≡ Some range = sym (ap (λ es. named es q) (append-nil s.wires)) ∙ w in
      one_more_found (λ (p : Port). range ≡ p.range) s.directions n.name q new port d (λ d. a.same q range port was d)
      (λ same. at_o (named s.wires n.name) differs (subst (λ q. named s.wires q ≡ Some range) same was));
}
  where
    differs : differs_from_wire new.range (named s.wires n.name) ≡ false
    differs = (directed leaf header s n new h).2

    at_o : {range : Option Range} (o : Option (Option Range)) → differs_from_wire new.range o ≡ false → o ≡ Some range → range ≡ new.range
    at_o None f e = absurd (cc e)
    at_o {range} (Some other) f e =
        let same : other ≡ range = cc e in
        subst (λ (r : Option Range). r ≡ new.range) same (equal_ranges other new.range (not_false (same_range other new.range) f))
agrees_step leaf header s (Wired n new) a h = record {
  same = λ q range port w d.
      let was : named s.directions q ≡ Some port = sym (ap (λ es. named es q) (append-nil s.directions)) ∙ d in
      one_more_found (λ (r : Option Range). r ≡ port.range) s.wires n.name q new range w (λ w. a.same q range port w was)
      (λ same. at_o port (named s.directions n.name) differs (subst (λ q. named s.directions q ≡ Some port) same was));
}
  where
    differs : differs_from_direction new (named s.directions n.name) ≡ false
    differs = (wired leaf header s n new h).1

    at_o : (port : Port) (o : Option Port) → differs_from_direction new o ≡ false → o ≡ Some port → new ≡ port.range
    at_o port None f e = absurd (cc e)
    at_o port (Some other) f e =
        let same : other ≡ port = cc e in
        subst (λ (p : Port). new ≡ p.range) same (sym (equal_ranges other.range new (not_false (same_range other.range new) f)))

-- each place, by all that is said
abbrev pub PlaceSaid : Said → Place → Type 0
PlaceSaid all (Ranged s n) = IsAllowed (Some s.range)
PlaceSaid all (Directed n port) = named all.directions n.name ≡ Some port
PlaceSaid all (Wired n range) = named all.wires n.name ≡ Some range
PlaceSaid all (Placed master) = Unit {0}

-- a new name is found with its value
new_found : {V : Type 0} (es : Named V) (n : List ℕ) (v : V) → is_there es n ≡ false → named (es ++ (n, v) ∷ []) n ≡ Some v
new_found {V} es n v h = named_append es ((n, v) ∷ []) n ∙ at_o (named es n) h
  where
    at_o : (o : Option V) → is_some o ≡ false → option_or o (cond (bytes_eq n n) (Some v) None) ≡ Some v
    at_o (Some u) e = absurd (cc e)
    at_o None e = rw (bytes_eq-refl n) refl

pub place_said : (leaf : Bool) (header : Named (Unit {0})) (all s : Said) (p : Place) → Stands (place_walk leaf header) (Says all) s p → PlaceSaid all p
place_said leaf header all s (Ranged x n) r =
    within_limits x (unbroken _ (_ ∷ []) r.passed).0 (unbroken _ [] (unbroken _ (_ ∷ []) r.passed).1).0
place_said leaf header all s (Directed n port) r =
    r.after.directions n.name port (new_found s.directions n.name port (directed leaf header s n port r.passed).1)
place_said leaf header all s (Wired n range) r =
    r.after.wires n.name range (new_found s.wires n.name range (wired leaf header s n range r.passed).0)
place_said leaf header all s (Placed master) r = tt

-- each place of a leaf
abbrev pub InLeaf : Named (Unit {0}) → Place → Type 0
InLeaf header (Ranged s n) = Unit {0}
InLeaf header (Directed n port) = is_there header n.name ≡ true
InLeaf header (Wired n range) = is_there header n.name ≡ true
InLeaf header (Placed master) = ⊥

pub in_leaf : (header : Named (Unit {0})) (s : Said) (p : Place) → first_broken (place_checks true header s p) ≡ None → InLeaf header p
in_leaf header s (Ranged x n) h = tt
in_leaf header s (Directed n port) h = not_false (is_there header n.name) (directed true header s n port h).0
in_leaf header s (Wired n range) h = not_false (is_there header n.name) (wired true header s n range h).2
in_leaf header s (Placed master) h = let no : true ≡ false = (unbroken _ [] h).0 in absurd (cc no)
