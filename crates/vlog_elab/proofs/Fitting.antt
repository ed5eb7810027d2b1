-- What holds of a module that passes the second round: of declared names, of parts of expressions and of connections.
use Rattle.std.proofs.Common.{◌≡◌, ℕ, ◌+◌, [], ◌∷◌, ◌++◌, None, Some, Option, true, false, List, map, take, slice_get, refl, sym, ◌∙◌, ap, subst}
use Rattle.std.specs.Prelude.{is_none, sum_by}
use Rattle.std.specs.List.{flat_map, All}
use Rattle.std.specs.Option.{option_or}
use Rattle.std.proofs.lemmas.List.Elements.{All-append}
use Rattle.std.proofs.lemmas.List.Sums.{sum_by-cons}
use Rattle.emh_base.specs.declared.plain.Range.{Range}
use Rattle.vlog_read.specs.declared.tree.At.{At}
use Rattle.vlog_read.specs.declared.tree.Decl.{Decl}
use Rattle.vlog_read.specs.declared.tree.Part.{Part}
use Rattle.vlog_read.specs.declared.tree.Part.TheVariants.{Name, Bit, Bits, Lit}
use Rattle.vlog_read.specs.declared.tree.TConn.{TConn}
use Rattle.vlog_read.specs.declared.tree.TInst.{TInst}
use Rattle.vlog_read.specs.declared.tree.Item.{Item}
use Rattle.vlog_read.specs.declared.tree.Item.TheVariants.{Decl as Declaration, Insts}
use Rattle.vlog_read.specs.declared.tree.TModule.{TModule}
use Rattle.vlog_elab.specs.declared.interface.Port.{Port}
use Rattle.vlog_elab.specs.declared.interface.Interface.{Interface}
use Rattle.vlog_elab.specs.declared.scope.Net.{Net}
use Rattle.vlog_elab.specs.declared.scope.Scope.{Scope}
use Rattle.flatten_rules.specs.Check.{first_broken, each_after}
use Rattle.vlog_elab.specs.Named.{Named, named}
use Rattle.vlog_elab.specs.Text.{header_decls, range_of}
use Rattle.vlog_elab.specs.Steps.{Step, Declares, Places, Connects, Uses, Fits, decl_steps, conn_steps, inst_steps, item_steps, steps, ports_of, net_at}
use Rattle.vlog_elab.specs.Connections.{is_implied, net_range, has_index, has_indices, part_width, port_at, width_checks, conn_checks, inner_checks}
use Rattle.vlog_elab.specs.Table.{nets, insts_in, insts}
use Rattle.vlog_elab.specs.inside.Walk.{at_end}
use Rattle.vlog_elab.specs.inside.Walks.{after_step, step_walk}
use Rattle.vlog_elab.proofs.Each.{all_none, all_cons, all_head, all_tail}
use Rattle.vlog_elab.proofs.Joining.{inner_checks-walk}
use Rattle.vlog_elab.proofs.Passing.{not_false, unbroken, Runs, Stands, run_parts, one_step, run_each, run_flat, run_after}
use Rattle.vlog_elab.proofs.Naming.{bytes_eq-refl}
use Rattle.vlog_elab.proofs.Finding.{named_kept, named_append, named_with_new}
use Rattle.vlog_elab.proofs.Mentions.{at_last}

-- the nets that are met are among these
pub record Extends (ns : Named Net) (s : Scope) : Type 0 where
  pub each : (q : List ℕ) (net : Net) → named s.nets q ≡ Some net → named ns q ≡ Some net

pub extends_back : (ns : Named Net) (s : Scope) (x : Step) → Extends ns (after_step s x) → Extends ns s
extends_back ns s x e = record { each = λ q net h. e.each q net (named_with_new s.nets (net_at x) q ∙ named_kept s.nets (net_at x) q net h) }

-- a net is there, and a declaration made it
pub record IsDeclared (ns : Named Net) (q : List ℕ) : Type 0 where
  pub net : Net
  pub found : named ns q ≡ Some net
  pub declared : net.implied ≡ false

-- a part of an expression has its bits
abbrev pub PartFits : Named Net → Part → Type 0
PartFits ns (Name n) = (net : Net) × (named ns n.name ≡ Some net)
PartFits ns (Bit n index) = has_index (net_range (named ns n.name)) index ≡ true
PartFits ns (Bits n range) = has_indices (net_range (named ns n.name)) range ≡ true
PartFits ns (Lit size value) = Unit {0}

abbrev pub StepFits : Named Net → Step → Type 0
StepFits ns (Declares n range) = IsDeclared ns n.name
StepFits ns (Places interface master n) = Unit {0}
StepFits ns (Connects ports inst before c) = Unit {0}
StepFits ns (Uses part) = PartFits ns part
StepFits ns (Fits ports before c) = Unit {0}

-- what holds of a net that is met holds of it at the end
met_net : (P : Option Net → Type 0) (a b : Named Net) (q : List ℕ) → (P None → ⊥) → ((net : Net) → named a q ≡ Some net → named b q ≡ Some net) → P (named a q) → P (named b q)
met_net P a b q never kept h = at_o (named a q) refl h
  where
    at_o : (o : Option Net) → named a q ≡ o → P o → P (named b q)
    at_o None e h = absurd (never h)
    at_o (Some net) e h = subst P (sym (kept net e)) h

no_index : (index : ℕ) → has_index None index ≡ true → ⊥
no_index index h = let no : false ≡ true = h in cc no

no_indices : (range : Range) → has_indices None range ≡ true → ⊥
no_indices range h = let no : false ≡ true = h in cc no

part_fits : (ns : Named Net) (s : Scope) (p : Part) → Stands step_walk (Extends ns) s (Uses p) → PartFits ns p
part_fits ns s (Name n) r = at_o (named s.nets n.name) refl
  where
    new : Net
    new = record { range = None; implied = true }

    here : named ((n.name, new) ∷ []) n.name ≡ Some new
    here = rw (bytes_eq-refl n.name) refl

    at_o : (o : Option Net) → named s.nets n.name ≡ o → (net : Net) × (named ns n.name ≡ Some net)
    at_o (Some net) e = (net, (extends_back ns s (Uses (Name n)) r.after).each n.name net e)
    at_o None e = (
      new,
      r.after.each n.name new
          (named_with_new s.nets ((n.name, new) ∷ []) n.name ∙ named_append s.nets ((n.name, new) ∷ []) n.name
          ∙ ap (λ o. option_or o (named ((n.name, new) ∷ []) n.name)) e ∙ here),
    )
part_fits ns s (Bit n index) r =
    met_net (λ o. has_index (net_range o) index ≡ true) s.nets ns n.name (no_index index) (r.after.each n.name)
    (not_false (has_index (net_range (named s.nets n.name)) index) (unbroken _ [] (unbroken _ (_ ∷ []) r.passed).1).0)
part_fits ns s (Bits n range) r =
    met_net (λ o. has_indices (net_range o) range ≡ true) s.nets ns n.name (no_indices range) (r.after.each n.name)
    (not_false (has_indices (net_range (named s.nets n.name)) range) (unbroken _ [] (unbroken _ (_ ∷ []) r.passed).1).0)
part_fits ns s (Lit size value) r = tt

name_declared : (ns : Named Net) (s : Scope) (n : At) (range : Option Range) → Stands step_walk (Extends ns) s (Declares n range) → IsDeclared ns n.name
name_declared ns s n range r = at_o (named s.nets n.name) refl (unbroken _ (_ ∷ []) r.passed).0
  where
    new : Net
    new = record { range = range; implied = false }

    here : named ((n.name, new) ∷ []) n.name ≡ Some new
    here = rw (bytes_eq-refl n.name) refl

    at_o : (o : Option Net) → named s.nets n.name ≡ o → is_implied o ≡ false → IsDeclared ns n.name
    at_o (Some net) e h = record { net = net; found = (extends_back ns s (Declares n range) r.after).each n.name net e; declared = h }
    at_o None e h = record {
      net = new;
      found = r.after.each n.name new
          (named_with_new s.nets ((n.name, new) ∷ []) n.name ∙ named_append s.nets ((n.name, new) ∷ []) n.name
          ∙ ap (λ o. option_or o (named ((n.name, new) ∷ []) n.name)) e ∙ here);
      declared = refl;
    }

step_fits : (ns : Named Net) (s : Scope) (x : Step) → Stands step_walk (Extends ns) s x → StepFits ns x
step_fits ns s (Declares n range) r = name_declared ns s n range r
step_fits ns s (Places interface master n) r = tt
step_fits ns s (Connects ports inst before c) r = tt
step_fits ns s (Uses part) r = part_fits ns s part r
step_fits ns s (Fits ports before c) r = tt

pub all_unmap : {X Y : Type 0} (P : Y → Type 0) (f : X → Y) (xs : List X) → All P (map f xs) → All (λ x. P (f x)) xs
all_unmap P f [] h = all_none (λ x. P (f x))
all_unmap P f (x ∷ xs) h = all_cons (λ x. P (f x)) x xs (all_head P (f x) (map f xs) h) (all_unmap P f xs (all_tail P (f x) (map f xs) h))

-- Connections.

pub record ConnFits (ns : Named Net) (ports : Named Port) (inst : At) (before : List TConn) (c : TConn) : Type 0 where
  pub checks : first_broken (conn_checks ports inst before c c.port) ≡ None
  pub parts : All (PartFits ns) c.parts
  pub width : first_broken (width_checks ns c c.parts (port_at ports before c.port)) ≡ None

-- a part has the same bits where more nets are known
same_width : (a b : Named Net) (p : Part) → ((q : List ℕ) (net : Net) → named a q ≡ Some net → named b q ≡ Some net) → PartFits a p → part_width a p ≡ part_width b p
same_width a b (Name n) kept fits = rw (fits.1, kept n.name fits.0 fits.1) refl
same_width a b (Bit n index) kept fits = refl
same_width a b (Bits n range) kept fits = refl
same_width a b (Lit size value) kept fits = refl

still_fits : (a b : Named Net) (p : Part) → ((q : List ℕ) (net : Net) → named a q ≡ Some net → named b q ≡ Some net) → PartFits a p → PartFits b p
still_fits a b (Name n) kept fits = (fits.0, kept n.name fits.0 fits.1)
still_fits a b (Bit n index) kept fits = met_net (λ o. has_index (net_range o) index ≡ true) a b n.name (no_index index) (kept n.name) fits
still_fits a b (Bits n range) kept fits = met_net (λ o. has_indices (net_range o) range ≡ true) a b n.name (no_indices range) (kept n.name) fits
still_fits a b (Lit size value) kept fits = tt

same_widths : (a b : Named Net) (ps : List Part) → ((q : List ℕ) (net : Net) → named a q ≡ Some net → named b q ≡ Some net) → All (PartFits a) ps
    → sum_by (part_width a) ps ≡ sum_by (part_width b) ps
same_widths a b [] kept fits = refl
same_widths a b (p ∷ ps) kept fits =
    sum_by-cons (part_width a) p ps
    ∙ ap (λ n. n + sum_by (part_width a) ps) (same_width a b p kept (all_head (PartFits a) p ps fits))
    ∙ ap (λ n. part_width b p + n) (same_widths a b ps kept (all_tail (PartFits a) p ps fits))
    ∙ sym (sum_by-cons (part_width b) p ps)

same_checks : (a b : Named Net) (c : TConn) (ps : List Part) (port : Option (List ℕ × Port)) → sum_by (part_width a) ps ≡ sum_by (part_width b) ps → width_checks a c ps port ≡ width_checks b c ps port
same_checks a b c [] port e = refl
same_checks a b c (p ∷ ps) None e = refl
same_checks a b c (p ∷ ps) (Some port) e = rw e refl

conn_fits : (ns : Named Net) (ports : Named Port) (inst : At) (s : Scope) (before : List TConn) (c : TConn) → Runs step_walk (Extends ns) s (conn_steps ports inst before c) → ConnFits ns ports inst before c
conn_fits ns ports inst s before c r =
    let back = extends_back ns in
    let one = one_step step_walk (Extends ns) back s (Connects ports inst before c) (map Uses c.parts ++ Fits ports before c ∷ []) r in
    let two = run_parts step_walk (Extends ns) back (after_step s (Connects ports inst before c)) (map Uses c.parts) (Fits ports before c ∷ []) one.1 in
    let t : Scope = at_end step_walk (after_step s (Connects ports inst before c)) (map Uses c.parts) in
    let three = one_step step_walk (Extends ns) back t (Fits ports before c) [] two.1 in
    let own : Runs step_walk (Extends t.nets) (after_step s (Connects ports inst before c)) (map Uses c.parts) = record { none = two.0.none; end = record { each = λ q net h. h } } in
    let parts : All (PartFits t.nets) c.parts = all_unmap (StepFits t.nets) Uses c.parts
    (run_each step_walk (Extends t.nets) (extends_back t.nets) (StepFits t.nets) (step_fits t.nets) (after_step s (Connects ports inst before c)) (map Uses c.parts) own) in
    record {
      checks = one.0.passed;
      parts = λ k d lt. still_fits t.nets ns _ two.0.end.each (parts k d lt);
      width = ap first_broken (sym (same_checks t.nets ns c c.parts (port_at ports before c.port) (same_widths t.nets ns c.parts two.0.end.each parts))) ∙ three.0.passed;
    }

pub record InstFits (ns : Named Net) (fs : Named Interface) (i : At × TInst) : Type 0 where
  pub master : is_none (named fs i.0.name) ≡ false
  pub conns : (k : ℕ) (c : TConn) → slice_get i.1.conns k ≡ Some c → ConnFits ns (ports_of (named fs i.0.name)) i.1.name (take k i.1.conns) c

inst_fits : (ns : Named Net) (fs : Named Interface) (master : At) (s : Scope) (i : TInst) → Runs step_walk (Extends ns) s (inst_steps (named fs master.name) master i) → InstFits ns fs (master, i)
inst_fits ns fs master s i r =
    let back = extends_back ns in
    let ports : Named Port = ports_of (named fs master.name) in
    let one = one_step step_walk (Extends ns) back s (Places (named fs master.name) master i.name) (each_after (conn_steps ports i.name) [] i.conns) r in
    record {
      master = (unbroken _ (_ ∷ []) one.0.passed).0;
      conns = run_after step_walk (Extends ns) back (conn_steps ports i.name) (ConnFits ns ports i.name) (conn_fits ns ports i.name)
          (after_step s (Places (named fs master.name) master i.name)) [] i.conns one.1;
    }

abbrev pub ItemFits : Named Net → Named Interface → Item → Type 0
ItemFits ns fs (Declaration d) = All (λ (n : At). IsDeclared ns n.name) d.names
ItemFits ns fs (Insts master is) = All (λ (i : TInst). InstFits ns fs (master, i)) is

decl_fits : (ns : Named Net) (s : Scope) (d : Decl) → Runs step_walk (Extends ns) s (decl_steps d) → All (λ (n : At). IsDeclared ns n.name) d.names
decl_fits ns s d r =
    all_unmap (StepFits ns) (λ (n : At). Declares n (range_of d)) d.names
    (run_each step_walk (Extends ns) (extends_back ns) (StepFits ns) (step_fits ns) s (decl_steps d) r)

item_fits : (ns : Named Net) (fs : Named Interface) (s : Scope) (item : Item) → Runs step_walk (Extends ns) s (item_steps fs item) → ItemFits ns fs item
item_fits ns fs s (Declaration d) r = decl_fits ns s d r
item_fits ns fs s (Insts master is) r =
    run_flat step_walk (Extends ns) (extends_back ns) (inst_steps (named fs master.name) master) (λ (i : TInst). InstFits ns fs (master, i)) (inst_fits ns fs master) s is r

-- what holds of a module's text by its nets
pub record ModuleFits (ns : Named Net) (fs : Named Interface) (m : TModule) : Type 0 where
  pub header : All (λ (d : Decl). All (λ (n : At). IsDeclared ns n.name) d.names) (header_decls m.header)
  pub items : All (ItemFits ns fs) m.items

pub module_fits : (fs : Named Interface) (m : TModule) → first_broken (inner_checks fs m) ≡ None → ModuleFits (nets m) fs m
module_fits fs m h =
    let ns : Named Net = nets m in
    let start : Scope = record { nets = []; insts = [] } in
    let end : Extends ns (at_end step_walk start (steps fs m)) = subst (Extends ns) (sym (at_last fs m)) (record { each = λ q net h. h }) in
    let r : Runs step_walk (Extends ns) start (steps fs m) = record { none = sym (inner_checks-walk fs m) ∙ h; end = end } in
    let parts = run_parts step_walk (Extends ns) (extends_back ns) start (flat_map decl_steps (header_decls m.header)) (flat_map (item_steps fs) m.items) r in
    record {
      header = run_flat step_walk (Extends ns) (extends_back ns) decl_steps (λ (d : Decl). All (λ (n : At). IsDeclared ns n.name) d.names) (decl_fits ns) start (header_decls m.header) parts.0;
      items = run_flat step_walk (Extends ns) (extends_back ns) (item_steps fs) (ItemFits ns fs) (item_fits ns fs) (at_end step_walk start (flat_map decl_steps (header_decls m.header))) m.items parts.1;
    }

pub all_flat : {X Y : Type 0} (P : Y → Type 0) (Q : X → Type 0) (f : X → List Y) → ((x : X) → Q x → All P (f x)) → (xs : List X) → All Q xs → All P (flat_map f xs)
all_flat P Q f each [] h = all_none P
all_flat P Q f each (x ∷ xs) h = All-append P (f x) (flat_map f xs) (each x (all_head Q x xs h)) (all_flat P Q f each xs (all_tail Q x xs h))

all_map_from : {X Y : Type 0} (P : Y → Type 0) (f : X → Y) (xs : List X) → All (λ x. P (f x)) xs → All P (map f xs)
all_map_from P f [] h = all_none P
all_map_from P f (x ∷ xs) h = all_cons P (f x) (map f xs) (all_head (λ x. P (f x)) x xs h) (all_map_from P f xs (all_tail (λ x. P (f x)) x xs h))

insts_in_fit : (ns : Named Net) (fs : Named Interface) (item : Item) → ItemFits ns fs item → All (InstFits ns fs) (insts_in item)
insts_in_fit ns fs (Declaration d) h = all_none (InstFits ns fs)
insts_in_fit ns fs (Insts master is) h = all_map_from (InstFits ns fs) (λ (i : TInst). (master, i)) is h

pub insts_fit : (ns : Named Net) (fs : Named Interface) (m : TModule) → ModuleFits ns fs m → All (InstFits ns fs) (insts m)
insts_fit ns fs m fits = all_flat (InstFits ns fs) (ItemFits ns fs) insts_in (insts_in_fit ns fs) m.items fits.items
