-- The nets and instances that a module mentions are those that its steps meet, and their names differ.
use Rattle.std.proofs.Common.{◌≡◌, ◌≢◌, ℕ, [], ◌∷◌, ◌++◌, None, Option, Bool, true, false, List, map, refl, sym, ◌∙◌, ap, subst, cond, bytes_eq}
use Rattle.std.specs.Prelude.{◌||◌}
use Rattle.std.specs.List.{flat_map, All, AllPairs}
use Rattle.std.proofs.lemmas.Grind.{flat_map-append}
use Rattle.std.proofs.lemmas.List.{append-nil, map-append}
use Rattle.std.proofs.lemmas.List.Elements.{All-push}
use Rattle.emh_base.specs.declared.plain.Range.{Range}
use Rattle.vlog_read.specs.declared.tree.At.{At}
use Rattle.vlog_read.specs.declared.tree.Part.{Part}
use Rattle.vlog_read.specs.declared.tree.Part.TheVariants.{Name, Bit, Bits, Lit}
use Rattle.vlog_read.specs.declared.tree.TConn.{TConn}
use Rattle.vlog_read.specs.declared.tree.TInst.{TInst}
use Rattle.vlog_read.specs.declared.tree.Item.{Item}
use Rattle.vlog_read.specs.declared.tree.Item.TheVariants.{Decl as Declaration, Insts}
use Rattle.vlog_read.specs.declared.tree.TModule.{TModule}
use Rattle.vlog_elab.specs.declared.interface.Port.{Port}
use Rattle.vlog_elab.specs.declared.interface.Interface.{Interface}
use Rattle.vlog_elab.specs.declared.scope.Net.{Net}
use Rattle.vlog_elab.specs.declared.scope.Scope.{Scope}
use Rattle.flatten_rules.specs.Check.{first_broken, each_after}
use Rattle.vlog_elab.specs.Named.{Named, named, is_there}
use Rattle.vlog_elab.specs.Text.{header_decls, range_of}
use Rattle.vlog_elab.specs.Steps.{Step, Declares, Places, Connects, Uses, Fits, decl_steps, conn_steps, inst_steps, item_steps, steps, net_at, inst_at, met}
use Rattle.vlog_elab.specs.Connections.{step_checks, inner_checks}
use Rattle.vlog_elab.specs.Table.{part_net, name_net, decl_nets, conn_nets, inst_nets, item_nets, nets, insts_in, insts}
use Rattle.vlog_elab.specs.inside.Walk.{at_end, Passed}
use Rattle.vlog_elab.specs.inside.Walks.{with_new, after_step, step_walk}
use Rattle.vlog_elab.proofs.Each.{all_none, pairs_none}
use Rattle.vlog_elab.proofs.Naming.{there-append, there-one, same_name}
use Rattle.vlog_elab.proofs.Joining.{inner_checks-walk, met-walk}
use Rattle.vlog_elab.proofs.Passing.{or_none, unbroken, keeps}
use Rattle.vlog_elab.proofs.Finding.{Differ, none_named, apart_push}

-- what parts of parts give
flat_flat : {X Y Z : Type 0} (g : Y → List Z) (f : X → List Y) (h : X → List Z) → ((x : X) → flat_map g (f x) ≡ h x) → (xs : List X) → flat_map g (flat_map f xs) ≡ flat_map h xs
flat_flat g f h is [] = refl
flat_flat g f h is (x ∷ xs) = flat_map-append g (f x) (flat_map f xs) ∙ ap (λ ys. ys ++ flat_map g (flat_map f xs)) (is x) ∙ ap (λ ys. h x ++ ys) (flat_flat g f h is xs)

-- Nets.

-- all that a module mentions, in order
abbrev pub mentions : TModule → Named Net
mentions m = flat_map decl_nets (header_decls m.header) ++ flat_map item_nets m.items

names_mention : (range : Option Range) (ns : List At) → flat_map net_at (map (λ n. Declares n range) ns) ≡ map (name_net range) ns
names_mention range [] = refl
names_mention range (n ∷ ns) = ap (λ es. name_net range n ∷ es) (names_mention range ns)

part_mentions : (p : Part) → net_at (Uses p) ≡ part_net p
part_mentions (Name n) = refl
part_mentions (Bit n index) = refl
part_mentions (Bits n range) = refl
part_mentions (Lit size value) = refl

parts_mention : (ps : List Part) → flat_map net_at (map Uses ps) ≡ flat_map part_net ps
parts_mention [] = refl
parts_mention (p ∷ ps) = ap (λ es. es ++ flat_map net_at (map Uses ps)) (part_mentions p) ∙ ap (λ es. part_net p ++ es) (parts_mention ps)

conn_mentions : (ports : Named Port) (inst : At) (before : List TConn) (c : TConn) → flat_map net_at (conn_steps ports inst before c) ≡ conn_nets c
conn_mentions ports inst before c =
    flat_map-append net_at (map Uses c.parts) (Fits ports before c ∷ [])
    ∙ append-nil (flat_map net_at (map Uses c.parts)) ∙ parts_mention c.parts

conns_mention : (ports : Named Port) (inst : At) (before cs : List TConn) → flat_map net_at (each_after (conn_steps ports inst) before cs) ≡ flat_map conn_nets cs
conns_mention ports inst before [] = refl
conns_mention ports inst before (c ∷ cs) =
    flat_map-append net_at (conn_steps ports inst before c) (each_after (conn_steps ports inst) (before ++ c ∷ []) cs)
    ∙ ap (λ es. es ++ flat_map net_at (each_after (conn_steps ports inst) (before ++ c ∷ []) cs)) (conn_mentions ports inst before c)
    ∙ ap (λ es. conn_nets c ++ es) (conns_mention ports inst (before ++ c ∷ []) cs)

item_mentions : (fs : Named Interface) (item : Item) → flat_map net_at (item_steps fs item) ≡ item_nets item
item_mentions fs (Declaration d) = names_mention (range_of d) d.names
item_mentions fs (Insts master is) = flat_flat net_at (inst_steps (named fs master.name) master) inst_nets (λ i. conns_mention _ i.name [] i.conns) is

pub steps_mention : (fs : Named Interface) (m : TModule) → flat_map net_at (steps fs m) ≡ mentions m
steps_mention fs m =
    flat_map-append net_at (flat_map decl_steps (header_decls m.header)) (flat_map (item_steps fs) m.items)
    ∙ ap (λ es. es ++ flat_map net_at (flat_map (item_steps fs) m.items)) (flat_flat net_at decl_steps decl_nets (λ d. names_mention (range_of d) d.names) (header_decls m.header))
    ∙ ap (λ es. flat_map decl_nets (header_decls m.header) ++ es) (flat_flat net_at (item_steps fs) item_nets (item_mentions fs) m.items)

-- Instances.

abbrev pub inst_name : At × TInst → List ℕ × Unit {0}
inst_name i = (i.1.name.name, tt)

names_place : (range : Option Range) (ns : List At) → flat_map inst_at (map (λ n. Declares n range) ns) ≡ []
names_place range [] = refl
names_place range (n ∷ ns) = names_place range ns

parts_place : (ps : List Part) → flat_map inst_at (map Uses ps) ≡ []
parts_place [] = refl
parts_place (p ∷ ps) = parts_place ps

conns_place : (ports : Named Port) (inst : At) (before cs : List TConn) → flat_map inst_at (each_after (conn_steps ports inst) before cs) ≡ []
conns_place ports inst before [] = refl
conns_place ports inst before (c ∷ cs) =
    flat_map-append inst_at (conn_steps ports inst before c) (each_after (conn_steps ports inst) (before ++ c ∷ []) cs)
    ∙ ap (λ es. es ++ flat_map inst_at (each_after (conn_steps ports inst) (before ++ c ∷ []) cs))
    (flat_map-append inst_at (map Uses c.parts) (Fits ports before c ∷ []) ∙ append-nil (flat_map inst_at (map Uses c.parts)) ∙ parts_place c.parts)
    ∙ conns_place ports inst (before ++ c ∷ []) cs

insts_place : (interface : Option Interface) (master : At) (is : List TInst) → flat_map inst_at (flat_map (inst_steps interface master) is) ≡ map inst_name (map (λ (i : TInst). (master, i)) is)
insts_place interface master [] = refl
insts_place interface master (i ∷ is) =
    flat_map-append inst_at (inst_steps interface master i) (flat_map (inst_steps interface master) is)
    ∙ ap (λ es. ((i.name.name, tt) ∷ es) ++ flat_map inst_at (flat_map (inst_steps interface master) is)) (conns_place _ i.name [] i.conns)
    ∙ ap (λ es. inst_name (master, i) ∷ es) (insts_place interface master is)

item_places : (fs : Named Interface) (item : Item) → flat_map inst_at (item_steps fs item) ≡ map inst_name (insts_in item)
item_places fs (Declaration d) = names_place (range_of d) d.names
item_places fs (Insts master is) = insts_place (named fs master.name) master is

map_flat : {X Y Z : Type 0} (g : Y → Z) (f : X → List Y) (xs : List X) → map g (flat_map f xs) ≡ flat_map (λ x. map g (f x)) xs
map_flat g f [] = refl
map_flat g f (x ∷ xs) = map-append g (f x) (flat_map f xs) ∙ ap (λ ys. map g (f x) ++ ys) (map_flat g f xs)

none_flat : {X Y : Type 0} (f : X → List Y) → ((x : X) → f x ≡ []) → (xs : List X) → flat_map f xs ≡ []
none_flat f is [] = refl
none_flat f is (x ∷ xs) = ap (λ ys. ys ++ flat_map f xs) (is x) ∙ none_flat f is xs

pub steps_place : (fs : Named Interface) (m : TModule) → flat_map inst_at (steps fs m) ≡ map inst_name (insts m)
steps_place fs m =
    flat_map-append inst_at (flat_map decl_steps (header_decls m.header)) (flat_map (item_steps fs) m.items)
    ∙ ap (λ es. es ++ flat_map inst_at (flat_map (item_steps fs) m.items))
    (flat_flat inst_at decl_steps (λ d. []) (λ d. names_place (range_of d) d.names) (header_decls m.header) ∙ none_flat (λ d. []) (λ d. refl) (header_decls m.header))
    ∙ flat_flat inst_at (item_steps fs) (λ item. map inst_name (insts_in item)) (item_places fs) m.items
    ∙ sym (map_flat inst_name insts_in m.items)

-- what is met at the end of a module
pub at_last : (fs : Named Interface) (m : TModule) → at_end step_walk (record { nets = []; insts = [] }) (steps fs m) ≡ record { nets = nets m; insts = map inst_name (insts m) }
at_last fs m =
    let end : met (steps fs m) ≡ at_end step_walk (record { nets = []; insts = [] }) (steps fs m) = met-walk (steps fs m) in
    sym end ∙ (rw (steps_mention fs m, steps_place fs m) refl)

-- the nets at the end of the walk through a module are the module's
pub nets-met : (fs : Named Interface) (m : TModule) (s t : Scope) → s ≡ record { nets = []; insts = [] } → Passed step_walk s (steps fs m) t → t.nets ≡ nets m
nets-met fs m s t is p = ap (λ (t : Scope). t.nets) (p.end ∙ ap (λ (s : Scope). at_end step_walk s (steps fs m)) is ∙ at_last fs m)

-- Names of a module differ.

-- instances have names that differ, and are no net's
pub record Tidy (s : Scope) : Type 0 where
  pub insts : AllPairs (Differ {V = Unit {0}}) s.insts
  pub across : All (λ (i : List ℕ × Unit {0}). is_there s.nets i.0 ≡ false) s.insts

tidy_same : (s : Scope) → Tidy s → Tidy (record { nets = s.nets; insts = s.insts ++ [] })
tidy_same s t = subst (λ (is : Named (Unit {0})). Tidy (record { nets = s.nets; insts = is })) (sym (append-nil s.insts)) (record { insts = t.insts; across = t.across })

tidy_net : (s : Scope) (e : List ℕ × Net) → Tidy s → is_there s.insts e.0 ≡ false → Tidy (record { nets = with_new s.nets (e ∷ []); insts = s.insts ++ [] })
tidy_net s e t none = at_b (is_there s.nets e.0)
  where
    others : All (λ (i : List ℕ × Unit {0}). i.0 ≢ e.0) s.insts
    others = none_named s.insts e.0 none

    still : (b : Bool) (q : List ℕ) → q ≢ e.0 → is_there s.nets q ≡ false → bytes_eq q e.0 ≡ b → is_there (s.nets ++ e ∷ []) q ≡ false
    still true q other h f = absurd (other (same_name q e.0 f))
    still false q other h f = there-append s.nets (e ∷ []) q ∙ ap (λ b. b || is_there (e ∷ []) q) h ∙ there-one e q ∙ f

    at_b : (b : Bool) → Tidy (record { nets = cond b s.nets (s.nets ++ e ∷ []); insts = s.insts ++ [] })
    at_b true = tidy_same s t
    at_b false = tidy_same (record { nets = s.nets ++ e ∷ []; insts = s.insts })
        (record { insts = t.insts; across = λ k d lt. still (bytes_eq _ e.0) _ (others k d lt) (t.across k d lt) refl })

tidy_step : (s : Scope) (x : Step) → Tidy s → first_broken (step_checks s x) ≡ None → Tidy (after_step s x)
tidy_step s (Declares n range) t h = tidy_net s (n.name, record { range = range; implied = false }) t (unbroken _ [] (unbroken _ (_ ∷ []) h).1).0
tidy_step s (Places interface master n) t h =
    let both = or_none (is_there s.nets n.name) (is_there s.insts n.name) (unbroken _ [] (unbroken _ (_ ∷ []) h).1).0 in
    record {
      insts = apart_push s.insts (n.name, tt) t.insts both.1;
      across = All-push (λ (i : List ℕ × Unit {0}). is_there s.nets i.0 ≡ false) s.insts (n.name, tt) t.across both.0;
    }
tidy_step s (Connects ports inst before c) t h = tidy_same s t
tidy_step s (Uses (Name n)) t h = tidy_net s (n.name, record { range = None; implied = true }) t (unbroken _ [] h).0
tidy_step s (Uses (Bit n index)) t h = tidy_same s t
tidy_step s (Uses (Bits n range)) t h = tidy_same s t
tidy_step s (Uses (Lit size value)) t h = tidy_same s t
tidy_step s (Fits ports before c) t h = tidy_same s t

pub names_tidy : (fs : Named Interface) (m : TModule) → first_broken (inner_checks fs m) ≡ None → Tidy (record { nets = nets m; insts = map inst_name (insts m) })
names_tidy fs m h =
    let start : Tidy (record { nets = []; insts = [] }) = record { insts = pairs_none Differ; across = all_none (λ (i : List ℕ × Unit {0}). is_there {V = Net} [] i.0 ≡ false) } in
    subst Tidy (at_last fs m) (keeps step_walk Tidy tidy_step (record { nets = []; insts = [] }) (steps fs m) start (sym (inner_checks-walk fs m) ∙ h))
