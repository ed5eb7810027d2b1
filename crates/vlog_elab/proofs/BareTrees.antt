-- A tree gives the same table with its places and without.
use Rattle.std.proofs.Common.{◌≡◌, ℕ, ◌+◌, Bool, true, false, cond, List, [], ◌∷◌, ◌++◌, map, flat_map, find, length, slice_get, Option, Some, None, is_some, option_map, bytes_eq, refl, sym, ap, ◌∙◌, subst}
use Rattle.std.specs.Prelude.{◌||◌}
use Rattle.std.specs.List.{list_any}
use Rattle.std.proofs.lemmas.List.{map-append, length-map}
use Rattle.std.proofs.lemmas.Option.{slice_get-map}
use Rattle.emh_base.specs.declared.plain.Dir.{Dir}
use Rattle.emh_base.specs.declared.plain.Range.{Range}
use Rattle.emh_base.specs.declared.plain.PModule.{PModule}
use Rattle.emh_base.specs.declared.plain.Plain.{Plain}
use Rattle.emh_base.specs.declared.plain.Conn.TheVariants as conn
use Rattle.emh_base.specs.declared.plain.PInst.{PInst}
use Rattle.flatten_rules.specs.Cycle.{IsFirstOnCycle}
use Rattle.vlog_elab.specs.declared.scope.Net.{Net}
use Rattle.vlog_elab.specs.Elaboration.{checks}
use Rattle.vlog_elab.specs.Table.{part_net, name_net, decl_nets, conn_nets, inst_nets, item_nets, nets, part_bits, conn_bits, conn_of, is_to, conn_to, conns_of, master_id, insts_in, insts, inst_row, net_row, port_row, row, built}
use Rattle.vlog_read.specs.declared.tree.At.{At}
use Rattle.vlog_read.specs.declared.tree.Span.{Span}
use Rattle.vlog_read.specs.declared.tree.Decl.{Decl}
use Rattle.vlog_read.specs.declared.tree.Part.{Part}
use Rattle.vlog_read.specs.declared.tree.Part.TheVariants.{Name, Bit, Bits, Lit}
use Rattle.vlog_read.specs.declared.tree.TConn.{TConn}
use Rattle.vlog_read.specs.declared.tree.TInst.{TInst}
use Rattle.vlog_read.specs.declared.tree.Item.{Item}
use Rattle.vlog_read.specs.declared.tree.Item.TheVariants.{Decl as Declaration, Insts}
use Rattle.vlog_read.specs.declared.tree.Header.{Header}
use Rattle.vlog_read.specs.declared.tree.Header.TheVariants.{Names, Decls}
use Rattle.vlog_read.specs.declared.tree.TModule.{TModule}
use Rattle.vlog_read.specs.declared.tree.Tree.{Tree}
use Rattle.vlog_elab.specs.declared.interface.Port.{Port}
use Rattle.vlog_elab.specs.declared.interface.Interface.{Interface}
use Rattle.vlog_elab.specs.declared.interface.Known.{Known}
use Rattle.vlog_elab.specs.declared.said.Said.{Said}
use Rattle.flatten_rules.specs.Check.{each_after}
use Rattle.vlog_elab.specs.Check.{Check}
use Rattle.vlog_elab.specs.Named.{Named, named, is_there, firsts, just_names, numbered}
use Rattle.vlog_elab.specs.Text.{is_leaf, header_names, header_decls, range_of}
use Rattle.vlog_elab.specs.Interfaces.{Place, Ranged, Directed, Wired, Placed, range_places, name_place, decl_places, item_places, places, direction_at, wire_at, said, port_of, ports, interface, has_module, row_face, added, interfaces, known}
use Rattle.vlog_elab.specs.Declarations.{header_checks, place_checks, direction_check, inside_checks, name_check, entry_checks, module_checks, declaration_checks}
use Rattle.vlog_elab.specs.Steps.{Declares, decl_steps, item_steps, inst_steps, steps, met, ports_of}
use Rattle.vlog_elab.specs.Connections.{step_checks, inner_checks, connection_checks}
use Rattle.vlog_read.specs.Bare.{bare_name, bare_span, bare_decl, bare_part, bare_conn, bare_inst, bare_item, bare_header, bare_module, bare}
use Rattle.vlog_elab.specs.Law.{PlacesDoNotMatter}
use Rattle.vlog_elab.proofs.BareConnections.{some-bare, named-bare, flags, first-flags, flags-each, bare_step, each-mapped, inst-bare, steps-flags}

flat-mapped : {X Y : Type 0} (e : X → X) (g : Y → Y) (f : X → List Y) → ((x : X) → f (e x) ≡ map g (f x)) → (xs : List X) → flat_map f (map e xs) ≡ map g (flat_map f xs)
flat-mapped e g f same [] = refl
flat-mapped e g f same (x ∷ xs) = ap (λ ys. ys ++ flat_map f (map e xs)) (same x) ∙ ap (λ ys. map g (f x) ++ ys) (flat-mapped e g f same xs) ∙ sym (map-append g (f x) (flat_map f xs))

flat-with : {X Y : Type 0} (e : X → X) (g : Y → Y) (f h : X → List Y) → ((x : X) → f (e x) ≡ map g (h x)) → (xs : List X) → flat_map f (map e xs) ≡ map g (flat_map h xs)
flat-with e g f h same [] = refl
flat-with e g f h same (x ∷ xs) = ap (λ ys. ys ++ flat_map f (map e xs)) (same x) ∙ ap (λ ys. map g (h x) ++ ys) (flat-with e g f h same xs) ∙ sym (map-append g (h x) (flat_map h xs))

flat-same : {X Y : Type 0} (e : X → X) (f : X → List Y) → ((x : X) → f (e x) ≡ f x) → (xs : List X) → flat_map f (map e xs) ≡ flat_map f xs
flat-same e f same [] = refl
flat-same e f same (x ∷ xs) = ap (λ ys. ys ++ flat_map f (map e xs)) (same x) ∙ ap (λ ys. f x ++ ys) (flat-same e f same xs)

map-both : {X Y : Type 0} (e : X → X) (g : Y → Y) (f : X → Y) → ((x : X) → f (e x) ≡ g (f x)) → (xs : List X) → map f (map e xs) ≡ map g (map f xs)
map-both e g f same [] = refl
map-both e g f same (x ∷ xs) = ap (λ y. y ∷ map f (map e xs)) (same x) ∙ ap (λ ys. g (f x) ∷ ys) (map-both e g f same xs)

map-same : {X Y : Type 0} (e : X → X) (f : X → Y) → ((x : X) → f (e x) ≡ f x) → (xs : List X) → map f (map e xs) ≡ map f xs
map-same e f same [] = refl
map-same e f same (x ∷ xs) = ap (λ y. y ∷ map f (map e xs)) (same x) ∙ ap (λ ys. f x ∷ ys) (map-same e f same xs)

range-bare : (d : Decl) → range_of (bare_decl d) ≡ range_of d
range-bare d = at_o d.range
  where
    at_o : (o : Option Span) → option_map (λ (s : Span). s.range) (option_map bare_span o) ≡ option_map (λ (s : Span). s.range) o
    at_o None = refl
    at_o (Some s) = refl

-- The second round.

decl_steps-bare : (d : Decl) → decl_steps (bare_decl d) ≡ map bare_step (decl_steps d)
decl_steps-bare d =
    ap (λ r. map (λ n. Declares n r) (map bare_name d.names)) (range-bare d) ∙ map-both bare_name bare_step (λ n. Declares n (range_of d)) (λ n. refl) d.names

item_steps-bare : (fs : Named Interface) (item : Item) → item_steps fs (bare_item item) ≡ map bare_step (item_steps fs item)
item_steps-bare fs (Declaration d) = decl_steps-bare d
item_steps-bare fs (Insts master is) = flat-with bare_inst bare_step (inst_steps (named fs master.name) (bare_name master)) (inst_steps (named fs master.name) master) (inst-bare (named fs master.name) master) is

header_steps-bare : (h : Header) → flat_map decl_steps (header_decls (bare_header h)) ≡ map bare_step (flat_map decl_steps (header_decls h))
header_steps-bare (Names names) = refl
header_steps-bare (Decls ds) = flat-mapped bare_decl bare_step decl_steps decl_steps-bare ds

steps-bare : (fs : Named Interface) (m : TModule) → steps fs (bare_module m) ≡ map bare_step (steps fs m)
steps-bare fs m =
    ap (λ xs. xs ++ flat_map (item_steps fs) (map bare_item m.items)) (header_steps-bare m.header)
    ∙ ap (λ xs. map bare_step (flat_map decl_steps (header_decls m.header)) ++ xs) (flat-mapped bare_item bare_step (item_steps fs) (item_steps-bare fs) m.items)
    ∙ sym (map-append bare_step (flat_map decl_steps (header_decls m.header)) (flat_map (item_steps fs) m.items))

inner-flags : (fs : Named Interface) (m : TModule) → flags (inner_checks fs (bare_module m)) ≡ flags (inner_checks fs m)
inner-flags fs m = ap (λ xs. flags (each_after (λ before step. step_checks (met before) step) [] xs)) (steps-bare fs m) ∙ steps-flags (steps fs m)

-- The first round.

bare_place : Place → Place
bare_place (Ranged s n) = Ranged (bare_span s) (bare_name n)
bare_place (Directed n port) = Directed (bare_name n) port
bare_place (Wired n range) = Wired (bare_name n) range
bare_place (Placed master) = Placed (bare_name master)

ranged-bare : (o : Option Span) (ns : List At) → range_places (option_map bare_span o) (map bare_name ns) ≡ map bare_place (range_places o ns)
unfolding bare_place
ranged-bare None ns = refl
ranged-bare (Some s) [] = refl
ranged-bare (Some s) (n ∷ ns) = refl

placed-bare : (o : Option Dir) (range : Option Range) (n : At) → name_place o range (bare_name n) ≡ bare_place (name_place o range n)
unfolding bare_place
placed-bare None range n = refl
placed-bare (Some dir) range n = refl

decl_places-bare : (d : Decl) → decl_places (bare_decl d) ≡ map bare_place (decl_places d)
decl_places-bare d =
    ap (λ xs. xs ++ map (name_place d.dir (range_of (bare_decl d))) (map bare_name d.names)) (ranged-bare d.range d.names)
    ∙ ap (λ r. map bare_place (range_places d.range d.names) ++ map (name_place d.dir r) (map bare_name d.names)) (range-bare d)
    ∙ ap (λ xs. map bare_place (range_places d.range d.names) ++ xs) (map-both bare_name bare_place (name_place d.dir (range_of d)) (placed-bare d.dir (range_of d)) d.names)
    ∙ sym (map-append bare_place (range_places d.range d.names) (map (name_place d.dir (range_of d)) d.names))

item_places-bare : (item : Item) → item_places (bare_item item) ≡ map bare_place (item_places item)
unfolding bare_place
item_places-bare (Declaration d) = decl_places-bare d
item_places-bare (Insts master is) = refl

header_places-bare : (h : Header) → flat_map decl_places (header_decls (bare_header h)) ≡ map bare_place (flat_map decl_places (header_decls h))
header_places-bare (Names names) = refl
header_places-bare (Decls ds) = flat-mapped bare_decl bare_place decl_places decl_places-bare ds

places-bare : (m : TModule) → places (bare_module m) ≡ map bare_place (places m)
places-bare m =
    ap (λ xs. xs ++ flat_map item_places (map bare_item m.items)) (header_places-bare m.header)
    ∙ ap (λ xs. map bare_place (flat_map decl_places (header_decls m.header)) ++ xs) (flat-mapped bare_item bare_place item_places item_places-bare m.items)
    ∙ sym (map-append bare_place (flat_map decl_places (header_decls m.header)) (flat_map item_places m.items))

direction-bare : (p : Place) → direction_at (bare_place p) ≡ direction_at p
unfolding bare_place
direction-bare (Ranged s n) = refl
direction-bare (Directed n port) = refl
direction-bare (Wired n range) = refl
direction-bare (Placed master) = refl

wire-bare : (p : Place) → wire_at (bare_place p) ≡ wire_at p
unfolding bare_place
wire-bare (Ranged s n) = refl
wire-bare (Directed n port) = refl
wire-bare (Wired n range) = refl
wire-bare (Placed master) = refl

said-bare : (ps : List Place) → said (map bare_place ps) ≡ said ps
said-bare ps =
    let ds = flat-same bare_place direction_at direction-bare ps in
    let ws = flat-same bare_place wire_at wire-bare ps in
    λ i. record { directions = ds i; wires = ws i }

place-flags : (leaf : Bool) (h : Named (Unit {0})) (s : Said) (p : Place) → flags (place_checks leaf h s (bare_place p)) ≡ flags (place_checks leaf h s p)
unfolding bare_place
place-flags leaf h s (Ranged sp n) = refl
place-flags leaf h s (Directed n port) = refl
place-flags leaf h s (Wired n range) = refl
place-flags leaf h s (Placed master) = refl

names-bare : (h : Header) → header_names (bare_header h) ≡ map bare_name (header_names h)
names-bare (Names names) = refl
names-bare (Decls ds) = flat-mapped bare_decl bare_name (λ (d : Decl). d.names) (λ d. refl) ds

just-bare : (ns : List At) → just_names (map bare_name ns) ≡ just_names ns
just-bare ns = map-same bare_name (λ (n : At). (n.name, tt)) (λ n. refl) ns

pub ports-bare : (m : TModule) → ports (bare_module m) ≡ ports m
ports-bare m =
    ap (λ ps. map (port_of (said ps).directions) (header_names (bare_header m.header))) (places-bare m)
    ∙ ap (λ (s : Said). map (port_of s.directions) (header_names (bare_header m.header))) (said-bare (places m))
    ∙ ap (map (port_of (said (places m)).directions)) (names-bare m.header)
    ∙ map-same bare_name (port_of (said (places m)).directions) (λ n. refl) (header_names m.header)

header-flags : (ns : List At) → flags (each_after (λ before n. header_checks (just_names before) n) [] (map bare_name ns)) ≡ flags (each_after (λ before n. header_checks (just_names before) n) [] ns)
header-flags ns = flags-each bare_name (λ before n. header_checks (just_names before) n) (λ before n. ap (λ es. flags (header_checks es n)) (just-bare before)) [] ns

inside-flags : (leaf : Bool) (m : TModule) → flags (inside_checks leaf (bare_module m)) ≡ flags (inside_checks leaf m)
inside-flags leaf m =
    let broken : Check → Bool = λ c. c.0 in
    let A = λ (ns : List At). each_after (λ before n. header_checks (just_names before) n) [] ns in
    let B = λ (ns : List At) (ps : List Place). each_after (λ before p. place_checks leaf (just_names ns) (said before) p) [] ps in
    let C = λ (s : Said) (ns : List At). map (direction_check s.directions) ns in
    let hs : List At = header_names m.header in
    let ps : List Place = places m in
    let b : flags (B (map bare_name hs) (map bare_place ps)) ≡ flags (B hs ps) =
    ap (λ es. flags (each_after (λ before p. place_checks leaf es (said before) p) [] (map bare_place ps))) (just-bare hs)
    ∙ flags-each bare_place (λ before p. place_checks leaf (just_names hs) (said before) p) (λ before p. ap (λ s. flags (place_checks leaf (just_names hs) s (bare_place p))) (said-bare before) ∙ place-flags leaf (just_names hs) (said before) p) [] ps in
    let c : flags (C (said (map bare_place ps)) (map bare_name hs)) ≡ flags (C (said ps) hs) =
    ap (λ (s : Said). flags (C s (map bare_name hs))) (said-bare ps) ∙ dirs (said ps).directions hs in
    ap (λ ns. flags ((A ns ++ B ns (places (bare_module m))) ++ C (said (places (bare_module m))) ns)) (names-bare m.header)
    ∙ ap (λ qs. flags ((A (map bare_name hs) ++ B (map bare_name hs) qs) ++ C (said qs) (map bare_name hs))) (places-bare m)
    ∙ map-append broken (A (map bare_name hs) ++ B (map bare_name hs) (map bare_place ps)) (C (said (map bare_place ps)) (map bare_name hs))
    ∙ ap (λ xs. xs ++ flags (C (said (map bare_place ps)) (map bare_name hs))) (map-append broken (A (map bare_name hs)) (B (map bare_name hs) (map bare_place ps)))
    ∙ ap (λ xs. (xs ++ flags (B (map bare_name hs) (map bare_place ps))) ++ flags (C (said (map bare_place ps)) (map bare_name hs))) (header-flags hs)
    ∙ ap (λ xs. (flags (A hs) ++ xs) ++ flags (C (said (map bare_place ps)) (map bare_name hs))) b
    ∙ ap (λ xs. (flags (A hs) ++ flags (B hs ps)) ++ xs) c
    ∙ ap (λ xs. xs ++ flags (C (said ps) hs)) (sym (map-append broken (A hs) (B hs ps)))
    ∙ sym (map-append broken (A hs ++ B hs ps) (C (said ps) hs))
  where
    dirs : (ds : Named Port) (ns : List At) → flags (map (direction_check ds) (map bare_name ns)) ≡ flags (map (direction_check ds) ns)
    dirs ds [] = refl
    dirs ds (n ∷ ns) = ap (λ xs. (direction_check ds n).0 ∷ xs) (dirs ds ns)

module-flags : (l : Bool) (k : Known) (m : TModule) → flags (module_checks l k (bare_module m)) ≡ flags (module_checks l k m)
module-flags l k m =
    let broken : Check → Bool = λ c. c.0 in
    ap (λ ps. (name_check (is_leaf l m) k m).0 ∷ flags (inside_checks (is_leaf l m) (bare_module m) ++ entry_checks k ps (bare_module m))) (ports-bare m)
    ∙ ap (λ xs. (name_check (is_leaf l m) k m).0 ∷ xs)
    (map-append broken (inside_checks (is_leaf l m) (bare_module m)) (entry_checks k (ports m) (bare_module m))
    ∙ ap (λ xs. xs ++ flags (entry_checks k (ports m) m)) (inside-flags (is_leaf l m) m)
    ∙ sym (map-append broken (inside_checks (is_leaf l m) m) (entry_checks k (ports m) m)))

any-same : (q : List ℕ) (ms : List TModule) → list_any (λ (m : TModule). bytes_eq q m.name.name) (map bare_module ms) ≡ list_any (λ (m : TModule). bytes_eq q m.name.name) ms
any-same q [] = refl
any-same q (m ∷ ms) = ap (λ b. bytes_eq q m.name.name || b) (any-same q ms)

pub added-bare : (M : Plain) (ms : List TModule) → added M (map bare_module ms) ≡ map bare_module (added M ms)
added-bare M ms =
    each-mapped bare_module bare_module (λ before (m : TModule). cond (has_module M before m.name.name) [] (m ∷ [])) (λ before (m : TModule). cond (has_module M before m.name.name) [] (m ∷ []))
    (λ before m. ap (λ b. cond (list_any (λ (x : PModule). bytes_eq m.name.name x.name) M.modules || b) [] (bare_module m ∷ [])) (any-same m.name.name before) ∙ pick (has_module M before m.name.name) m) [] ms
  where
    pick : (b : Bool) (m : TModule) → cond b [] (bare_module m ∷ []) ≡ map bare_module (cond b [] (m ∷ []))
    pick true m = refl
    pick false m = refl

pub numbered-bare : {Y : Type 0} (make : ℕ → TModule → Y) → ((n : ℕ) (m : TModule) → make n (bare_module m) ≡ make n m) → (n : ℕ) (ms : List TModule) → numbered make n (map bare_module ms) ≡ numbered make n ms
numbered-bare make same n [] = refl
numbered-bare make same n (m ∷ ms) = ap (λ y. y ∷ numbered make (n + 1) (map bare_module ms)) (same n m) ∙ ap (λ ys. make n m ∷ ys) (numbered-bare make same (n + 1) ms)

pub interfaces-bare : (M : Plain) (l : Bool) (ms : List TModule) → interfaces M l (map bare_module ms) ≡ interfaces M l ms
interfaces-bare M l ms =
    ap (λ xs. map row_face M.modules ++ numbered (interface l) M.next_module xs) (added-bare M ms)
    ∙ ap (λ es. map row_face M.modules ++ es) (numbered-bare (interface l) (λ n m. ap (λ ps. (m.name.name, record { id = record { 0 = n }; leaf = is_leaf l m; ports = ps })) (ports-bare m)) M.next_module (added M ms))

known-bare : (M : Plain) (l : Bool) (ms : List TModule) → known M l (map bare_module ms) ≡ known M l ms
known-bare M l ms =
    let fs = interfaces-bare M l ms in
    let n = ap (λ xs. M.next_module + length xs) (added-bare M ms) ∙ ap (λ k. M.next_module + k) (length-map (added M ms) bare_module) in
    λ i. record { interfaces = fs i; next_module = n i }

pub declarations-flags : (M : Plain) (l : Bool) (ms : List TModule) → flags (declaration_checks M l (map bare_module ms)) ≡ flags (declaration_checks M l ms)
declarations-flags M l ms =
    flags-each bare_module (λ before m. module_checks l (known M l before) m) (λ before m. ap (λ k. flags (module_checks l k (bare_module m))) (known-bare M l before) ∙ module-flags l (known M l before) m) [] ms

pub connections-flags : (M : Plain) (l : Bool) (ms : List TModule) → flags (connection_checks M l (map bare_module ms)) ≡ flags (connection_checks M l ms)
connections-flags M l ms = ap (λ fs. flags (flat_map (λ m. cond (is_leaf l m) [] (inner_checks fs m)) (map bare_module ms))) (interfaces-bare M l ms) ∙ go (interfaces M l ms) ms
  where
    go : (fs : Named Interface) (ms : List TModule) → flags (flat_map (λ m. cond (is_leaf l m) [] (inner_checks fs m)) (map bare_module ms)) ≡ flags (flat_map (λ m. cond (is_leaf l m) [] (inner_checks fs m)) ms)
    go fs [] = refl
    go fs (m ∷ ms) =
        map-append (λ (c : Check). c.0) (cond (is_leaf l m) [] (inner_checks fs (bare_module m))) (flat_map (λ m. cond (is_leaf l m) [] (inner_checks fs m)) (map bare_module ms))
        ∙ ap (λ xs. xs ++ flags (flat_map (λ m. cond (is_leaf l m) [] (inner_checks fs m)) (map bare_module ms))) (pick (inner_checks fs (bare_module m)) (inner_checks fs m) (is_leaf l m) (inner-flags fs m))
        ∙ ap (λ xs. flags (cond (is_leaf l m) [] (inner_checks fs m)) ++ xs) (go fs ms)
        ∙ sym (map-append (λ (c : Check). c.0) (cond (is_leaf l m) [] (inner_checks fs m)) (flat_map (λ m. cond (is_leaf l m) [] (inner_checks fs m)) ms))
      where
        pick : (cs ds : List Check) (b : Bool) → flags cs ≡ flags ds → flags (cond b [] cs) ≡ flags (cond b [] ds)
        pick cs ds true e = refl
        pick cs ds false e = e

-- The table.

part_net-bare : (p : Part) → part_net (bare_part p) ≡ part_net p
part_net-bare (Name n) = refl
part_net-bare (Bit n index) = refl
part_net-bare (Bits n range) = refl
part_net-bare (Lit size value) = refl

decl_nets-bare : (d : Decl) → decl_nets (bare_decl d) ≡ decl_nets d
decl_nets-bare d = ap (λ r. map (name_net r) (map bare_name d.names)) (range-bare d) ∙ map-same bare_name (name_net (range_of d)) (λ n. refl) d.names

item_nets-bare : (item : Item) → item_nets (bare_item item) ≡ item_nets item
item_nets-bare (Declaration d) = decl_nets-bare d
item_nets-bare (Insts master is) =
    flat-same bare_inst inst_nets (λ (i : TInst). flat-same bare_conn conn_nets (λ (c : TConn). flat-same bare_part part_net part_net-bare c.parts) i.conns) is

header_nets-bare : (h : Header) → flat_map decl_nets (header_decls (bare_header h)) ≡ flat_map decl_nets (header_decls h)
header_nets-bare (Names names) = refl
header_nets-bare (Decls ds) = flat-same bare_decl decl_nets decl_nets-bare ds

nets-bare : (m : TModule) → nets (bare_module m) ≡ nets m
nets-bare m = ap (λ xs. firsts (xs ++ flat_map item_nets (map bare_item m.items))) (header_nets-bare m.header) ∙ ap (λ xs. firsts (flat_map decl_nets (header_decls m.header) ++ xs)) (flat-same bare_item item_nets item_nets-bare m.items)

bare_pair : At × TInst → At × TInst
bare_pair i = (bare_name i.0, bare_inst i.1)

insts_in-bare : (item : Item) → insts_in (bare_item item) ≡ map bare_pair (insts_in item)
unfolding bare_pair
insts_in-bare (Declaration d) = refl
insts_in-bare (Insts master is) = go is
  where
    go : (is : List TInst) → map (λ (i : TInst). (bare_name master, i)) (map bare_inst is) ≡ map bare_pair (map (λ (i : TInst). (master, i)) is)
    go [] = refl
    go (i ∷ is) = ap (λ xs. (bare_name master, bare_inst i) ∷ xs) (go is)

part_bits-bare : (ns : Named Net) (p : Part) → part_bits ns (bare_part p) ≡ part_bits ns p
part_bits-bare ns (Name n) = refl
part_bits-bare ns (Bit n index) = refl
part_bits-bare ns (Bits n range) = refl
part_bits-bare ns (Lit size value) = refl

conn_bits-bare : (ns : Named Net) (ps : List Part) → conn_bits ns (map bare_part ps) ≡ conn_bits ns ps
conn_bits-bare ns [] = refl
conn_bits-bare ns (p ∷ ps) = ap conn.Bits (flat-same bare_part (part_bits ns) (part_bits-bare ns) (p ∷ ps))

conn_of-bare : (ns : Named Net) (o : Option TConn) → conn_of ns (option_map bare_conn o) ≡ conn_of ns o
conn_of-bare ns None = refl
conn_of-bare ns (Some c) = conn_bits-bare ns c.parts

find-bare : (q : List ℕ) (cs : List TConn) → find (is_to q) (map bare_conn cs) ≡ option_map bare_conn (find (is_to q) cs)
find-bare q [] = refl
find-bare q (c ∷ cs) = ap (λ b. cond b (Some (bare_conn c)) (find (is_to q) (map bare_conn cs))) (ap (λ es. is_there es q) (named-bare c.port)) ∙ pick (find-bare q cs) (is_to q c)
  where
    pick : find (is_to q) (map bare_conn cs) ≡ option_map bare_conn (find (is_to q) cs) → (b : Bool) → cond b (Some (bare_conn c)) (find (is_to q) (map bare_conn cs)) ≡ option_map bare_conn (cond b (Some c) (find (is_to q) cs))
    pick more true = refl
    pick more false = more

conn_to-bare : (cs : List TConn) (place : ℕ) (q : List ℕ) → conn_to (map bare_conn cs) place q ≡ option_map bare_conn (conn_to cs place q)
conn_to-bare [] place q = refl
conn_to-bare (c ∷ cs) place q =
    ap (λ b. cond b (find (is_to q) (map bare_conn (c ∷ cs))) (slice_get (map bare_conn (c ∷ cs)) place)) (some-bare c.port)
    ∙ pick (is_some c.port) (find (is_to q) (c ∷ cs)) (slice_get (c ∷ cs) place) (find (is_to q) (map bare_conn (c ∷ cs))) (slice_get (map bare_conn (c ∷ cs)) place) (find-bare q (c ∷ cs)) (slice_get-map bare_conn (c ∷ cs) place)
  where
    pick : (b : Bool) (o p a d : Option TConn) → a ≡ option_map bare_conn o → d ≡ option_map bare_conn p → cond b a d ≡ option_map bare_conn (cond b o p)
    pick true o p a d e f = e
    pick false o p a d e f = f

conns-bare : (ns : Named Net) (ps : Named Port) (cs : List TConn) → conns_of ns ps (map bare_conn cs) ≡ conns_of ns ps cs
conns-bare ns ps cs = go 0 ps
  where
    go : (n : ℕ) (ps : Named Port) → numbered (λ place (port : List ℕ × Port). conn_of ns (conn_to (map bare_conn cs) place port.0)) n ps ≡ numbered (λ place (port : List ℕ × Port). conn_of ns (conn_to cs place port.0)) n ps
    go n [] = refl
    go n (p ∷ ps) =
        let h = ap (conn_of ns) (conn_to-bare cs n p.0) ∙ conn_of-bare ns (conn_to cs n p.0) in
        let t = go (n + 1) ps in
        λ i. h i ∷ t i

inst_row-bare : (fs : Named Interface) (ns : Named Net) (n : ℕ) (i : At × TInst) → inst_row fs ns n (bare_pair i) ≡ inst_row fs ns n i
unfolding bare_pair
inst_row-bare fs ns n i =
    let cs = conns-bare ns (ports_of (named fs i.0.name)) i.1.conns in
    λ j. record { id = record { 0 = n }; name = i.1.name.name; master = master_id (named fs i.0.name); conns = cs j }

insts-bare : (fs : Named Interface) (ns : Named Net) (m : TModule) → (numbered (inst_row fs ns) 0 (insts (bare_module m)) ≡ numbered (inst_row fs ns) 0 (insts m)) × (length (insts (bare_module m)) ≡ length (insts m))
insts-bare fs ns m =
    let is : insts (bare_module m) ≡ map bare_pair (insts m) = flat-mapped bare_item bare_pair insts_in insts_in-bare m.items in
    (ap (numbered (inst_row fs ns) 0) is ∙ go 0 (insts m), ap length is ∙ length-map (insts m) bare_pair)
  where
    go : (n : ℕ) (is : List (At × TInst)) → numbered (inst_row fs ns) n (map bare_pair is) ≡ numbered (inst_row fs ns) n is
    go n [] = refl
    go n (i ∷ is) = let h = inst_row-bare fs ns n i in let t = go (n + 1) is in λ j. h j ∷ t j

row-bare : (fs : Named Interface) (l : Bool) (n : ℕ) (m : TModule) → row fs l n (bare_module m) ≡ row fs l n m
row-bare fs l n m =
    let ns = nets-bare m in
    let ps = ports-bare m in
    let is = insts-bare fs (nets m) m in
    ap (λ (ns : Named Net). rowed ns (ports (bare_module m)) (numbered (inst_row fs ns) 0 (insts (bare_module m))) (length (insts (bare_module m)))) ns
    ∙ (λ i. rowed (nets m) (ps i) (is.0 i) (is.1 i))
  where
    rowed : Named Net → Named Port → List PInst → ℕ → PModule
    rowed ns ps is count = record {
      id = record { 0 = n };
      name = m.name.name;
      leaf = is_leaf l m;
      locked = false;
      nets = numbered net_row 0 ns;
      ports = map (port_row ns) ps;
      insts = is;
      next_net = length ns;
      next_inst = count;
    }

built-bare : (M : Plain) (l : Bool) (tree : Tree) → built M l (bare tree) ≡ built M l tree
unfolding built
built-bare M l tree =
    let fs = interfaces-bare M l tree.modules in
    let new = added-bare M tree.modules in
    let rows = ap (λ (fs : Named Interface). numbered (row fs l) M.next_module (added M (map bare_module tree.modules))) fs
    ∙ ap (numbered (row (interfaces M l tree.modules) l) M.next_module) new
    ∙ numbered-bare (row (interfaces M l tree.modules) l) (row-bare (interfaces M l tree.modules) l) M.next_module (added M tree.modules) in
    let count = ap length new ∙ length-map (added M tree.modules) bare_module in
    λ i. record { modules = M.modules ++ rows i; next_module = M.next_module + count i }

checks-flags : (M : Plain) (l : Bool) (tree : Tree) → flags (checks M l (bare tree)) ≡ flags (checks M l tree)
unfolding checks
checks-flags M l tree =
    map-append (λ (c : Check). c.0) (declaration_checks M l (map bare_module tree.modules)) (connection_checks M l (map bare_module tree.modules))
    ∙ ap (λ xs. xs ++ flags (connection_checks M l (map bare_module tree.modules))) (declarations-flags M l tree.modules)
    ∙ ap (λ xs. flags (declaration_checks M l tree.modules) ++ xs) (connections-flags M l tree.modules)
    ∙ sym (map-append (λ (c : Check). c.0) (declaration_checks M l tree.modules) (connection_checks M l tree.modules))

pub places_do_not_matter : PlacesDoNotMatter
places_do_not_matter M l tree made = (
  λ is. record {
    passed = first-flags (checks M l tree) (checks M l (bare tree)) (sym (checks-flags M l tree)) is.passed;
    no_cycle = subst none_on_cycle (sym (built-bare M l tree)) is.no_cycle;
    table = is.table ∙ sym (built-bare M l tree);
  },
  λ is. record {
    passed = first-flags (checks M l (bare tree)) (checks M l tree) (checks-flags M l tree) is.passed;
    no_cycle = subst none_on_cycle (built-bare M l tree) is.no_cycle;
    table = is.table ∙ built-bare M l tree;
  },
)
  where
    none_on_cycle : Plain → Type 0
    none_on_cycle B = IsFirstOnCycle B (length M.modules) None
