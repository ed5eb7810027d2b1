-- From a sound table the table that is built is sound.
use Rattle.std.proofs.Common.{arith, ◌≡◌, ◌≢◌, ℕ, ◌+◌, ◌≤◌, ◌<◌, ◌==◌, [], ◌∷◌, ◌++◌, None, Some, Option, Bool, true, false, MatchOption, List, map, find, length, get_or, slice_get, refl, sym, ◌∙◌, ap, subst, cond, bytes_eq, ⊎_elim}
use Rattle.std.specs.Prelude.{if◌then◌else◌}
use Rattle.std.specs.List.{All, AllPairs, IsDistinct}
use Rattle.std.specs.Option.{option_map, option_or}
use Rattle.std.proofs.lemmas.Bool.{cases_lt}
use Rattle.std.proofs.lemmas.List.{length-map, map-append}
use Rattle.std.proofs.lemmas.List.Elements.{All-append}
use Rattle.std.proofs.lemmas.List.Folds.{find-append}
use Rattle.std.proofs.lemmas.Map.Made.{IsDistinct-from_AllPairs, AllPairs-from_IsDistinct}
use Rattle.std.proofs.lemmas.Option.{slice_get_within, slice_get-get_or, get_or_from_slice_get, slice_get-map}
use Rattle.std.proofs.lemmas.Slice.Eq.{bytes_eq-Decides}
use Rattle.std.proofs.Math.ListN.{get_or-append}
use Rattle.emh_base.specs.declared.ids.ModId.{ModId}
use Rattle.emh_base.specs.declared.ids.InstId.{InstId}
use Rattle.emh_base.specs.declared.plain.PNet.{PNet}
use Rattle.emh_base.specs.declared.plain.PPort.{PPort}
use Rattle.emh_base.specs.declared.plain.PInst.{PInst}
use Rattle.emh_base.specs.declared.plain.PModule.{PModule}
use Rattle.emh_base.specs.declared.plain.Plain.{Plain}
use Rattle.flatten_rules.specs.Lookup.{module_of, net_of, width, width_of}
use Rattle.flatten_rules.specs.Unfolding.{module_up}
use Rattle.flatten_rules.specs.Cycle.{OnCycle, IsFirstOnCycle}
use Rattle.flatten_rules.specs.Sound.{FitPorts, HasMaster, IsSoundModule, IsSound, IsCounter}
use Rattle.flatten_rules.proofs.Sound.{All-find, sound-module, master-there}
use Rattle.flatten_rules.proofs.Walks.{find-own, id-of_net, Step, last_step, up-own, some-there, same-some}
use Rattle.flatten_rules.proofs.Cycling.{place-at}
use Rattle.flatten_rules.proofs.Rising.{distinct-front}
use Rattle.vlog_read.specs.declared.tree.TModule.{TModule}
use Rattle.vlog_read.specs.declared.tree.Tree.{Tree}
use Rattle.vlog_elab.specs.declared.interface.Port.{Port}
use Rattle.vlog_elab.specs.declared.interface.Interface.{Interface}
use Rattle.vlog_elab.specs.declared.interface.Known.{Known}
use Rattle.flatten_rules.specs.Check.{first_broken, each_after}
use Rattle.vlog_elab.specs.Named.{Named, named, is_there, numbered}
use Rattle.vlog_elab.specs.Text.{is_leaf}
use Rattle.vlog_elab.specs.Interfaces.{has_module, added, ports, interface, interfaces, known, row_port_on, row_port, row_face}
use Rattle.vlog_elab.specs.Declarations.{declaration_checks}
use Rattle.vlog_elab.specs.Connections.{inner_checks, connection_checks}
use Rattle.vlog_elab.specs.Table.{row, built}
use Rattle.vlog_elab.specs.Elaboration.{checks}
use Rattle.vlog_elab.specs.inside.Walk.{at_end}
use Rattle.vlog_elab.specs.inside.Walks.{module_walk, with_module, after_module}
use Rattle.vlog_elab.specs.Law.{StaysSound}
use Rattle.vlog_elab.specs.Elaboration.{Elaborates}
use Rattle.vlog_elab.specs.Counters.{HasCounters, IsCountable}
use Rattle.vlog_elab.proofs.Counters.{table-counters, modules-counted}
use Rattle.vlog_elab.proofs.Each.{all_none, all_cons, all_head, all_tail, all_weaker, all_map_of, all_numbered_of, pairs_none, pairs_cons, pairs_head, pairs_tail, numbered_below}
use Rattle.vlog_elab.proofs.Rising.{modules_rise}
use Rattle.vlog_elab.proofs.Rounds.{checks-rounds, insides_pass, second_round}
use Rattle.vlog_elab.proofs.Knowing.{known-walk, known-none}
use Rattle.vlog_elab.proofs.Passing.{none_left, flat_passes}
use Rattle.vlog_elab.proofs.Finding.{Differ, all_named, apart_push}
use Rattle.vlog_elab.proofs.Fitting.{all_unmap}
use Rattle.vlog_elab.proofs.Saying.{PassesInside, all_front}
use Rattle.vlog_elab.proofs.Header.{pairs_map_both}
use Rattle.vlog_elab.proofs.Connected.{IsFaceOf, HasModule, find_place}
use Rattle.vlog_elab.proofs.Row.{Other, pairs_map, face_of, row_sound}

-- A module that passes.
pub record Passes (fs : Named Interface) (all_leaf : Bool) (m : TModule) : Type 0 where
  pub inside : PassesInside (is_leaf all_leaf m) m
  pub inner : first_broken (inner_checks fs m) ≡ None

all_pass : (M : Plain) (all_leaf : Bool) (tree : Tree) → first_broken (checks M all_leaf tree) ≡ None → All (Passes (interfaces M all_leaf tree.modules) all_leaf) tree.modules
all_pass M all_leaf tree h =
    let fs : Named Interface = interfaces M all_leaf tree.modules in
    let declared : first_broken (declaration_checks M all_leaf tree.modules) ≡ None
    = none_left (first_broken (declaration_checks M all_leaf tree.modules)) (first_broken (connection_checks M all_leaf tree.modules)) (sym (checks-rounds M all_leaf tree) ∙ h) in
    let inside : All (λ (m : TModule). PassesInside (is_leaf all_leaf m) m) tree.modules = insides_pass M all_leaf tree.modules declared in
    let inner : All (λ (m : TModule). first_broken (inner_checks fs m) ≡ None) tree.modules
    = flat_passes (inner_checks fs) tree.modules (sym (second_round M all_leaf tree (known M all_leaf tree.modules) tree.modules refl declared refl) ∙ h) in
    λ k d lt. record { inside = inside k d lt; inner = inner k d lt }

-- the modules that are added are the text's
all_added : (P : TModule → Type 0) (M : Plain) (before ms : List TModule) → All P ms → All P (each_after (λ before (m : TModule). if has_module M before m.name.name then [] else m ∷ []) before ms)
all_added P M before [] h = all_none P
all_added P M before (m ∷ ms) h =
    let rest : List TModule = each_after (λ before (m : TModule). if has_module M before m.name.name then [] else m ∷ []) (before ++ m ∷ []) ms in
    All-append P (if has_module M before m.name.name then [] else m ∷ []) rest (at_b (has_module M before m.name.name)) (all_added P M (before ++ m ∷ []) ms (all_tail P m ms h))
  where
    at_b : (b : Bool) → All P (cond b [] (m ∷ []))
    at_b true = all_none P
    at_b false = all_cons P m [] (all_head P m ms h) (all_none P)

-- Names of modules.

with_module_apart : (leaf : Bool) (k : Known) (m : TModule) (ps : Named Port) → AllPairs Differ k.interfaces → AllPairs Differ (with_module leaf k m ps).interfaces
with_module_apart leaf k m ps h = at_b (is_there k.interfaces m.name.name) refl
  where
    one : List ℕ × Interface
    one = (m.name.name, record { id = record { 0 = k.next_module }; leaf = leaf; ports = ps })

    more : Known
    more = record { interfaces = k.interfaces ++ one ∷ []; next_module = k.next_module + 1 }

    at_b : (b : Bool) → is_there k.interfaces m.name.name ≡ b → AllPairs (Differ {V = Interface}) (cond b k more).interfaces
    at_b true e = h
    at_b false e = apart_push k.interfaces one h e

end_apart : (all_leaf : Bool) (k : Known) (ms : List TModule) → AllPairs Differ k.interfaces → AllPairs Differ (at_end (module_walk all_leaf) k ms).interfaces
end_apart all_leaf k [] h = h
end_apart all_leaf k (m ∷ ms) h = end_apart all_leaf (after_module all_leaf k m) ms (with_module_apart (is_leaf all_leaf m) k m (ports m) h)

faces_apart : (M : Plain) (all_leaf : Bool) (ms : List TModule) → IsSound M → AllPairs Differ (interfaces M all_leaf ms)
faces_apart M all_leaf ms sound =
    let names : AllPairs Other (map (λ (m : PModule). m.name) M.modules) = AllPairs-from_IsDistinct bytes_eq-Decides (map (λ (m : PModule). m.name) M.modules) sound.names in
    let start : AllPairs Differ (map row_face M.modules) = pairs_map_both Other Differ (λ (m : PModule). m.name) row_face (λ a b h. h) M.modules names in
    let first_known : AllPairs Differ (known M all_leaf []).interfaces = subst (λ (k : Known). AllPairs Differ k.interfaces) (sym (known-none M all_leaf)) start in
    subst (λ (k : Known). AllPairs Differ k.interfaces) (sym (known-walk M all_leaf ms)) (end_apart all_leaf (known M all_leaf []) ms first_known)

map_after : {X Y Z : Type 0} (f : Y → Z) (g : X → Y) (h : X → Z) → ((x : X) → f (g x) ≡ h x) → (xs : List X) → map f (map g xs) ≡ map h xs
map_after f g h is [] = refl
map_after f g h is (x ∷ xs) = ap (λ z. z ∷ map f (map g xs)) (is x) ∙ ap (λ zs. h x ∷ zs) (map_after f g h is xs)

same_numbered : {X Y W Z : Type 0} (f : Y → Z) (g : W → Z) (make : ℕ → X → Y) (other : ℕ → X → W) → ((n : ℕ) (x : X) → f (make n x) ≡ g (other n x)) → (n : ℕ) (xs : List X) → map f (numbered make n xs) ≡ map g (numbered other n xs)
same_numbered f g make other is n [] = refl
same_numbered f g make other is n (x ∷ xs) = ap (λ z. z ∷ map f (numbered make (n + 1) xs)) (is n x) ∙ ap (λ zs. g (other n x) ∷ zs) (same_numbered f g make other is (n + 1) xs)

modules_apart : (M : Plain) (all_leaf : Bool) (ms : List TModule) (fs : Named Interface) → IsSound M
    → IsDistinct bytes_eq (map (λ (m : PModule). m.name) (M.modules ++ numbered (row fs all_leaf) M.next_module (added M ms)))
modules_apart M all_leaf ms fs sound =
    let new : List TModule = added M ms in
    let name : PModule → List ℕ = λ m. m.name in
    let face_name : List ℕ × Interface → List ℕ = λ e. e.0 in
    let es : Named Interface = map row_face M.modules ++ numbered (interface all_leaf) M.next_module new in
    let all : AllPairs Other (map face_name es) = pairs_map Other face_name es (faces_apart M all_leaf ms sound) in
    let same : map name (M.modules ++ numbered (row fs all_leaf) M.next_module new) ≡ map face_name es
    = map-append name M.modules (numbered (row fs all_leaf) M.next_module new)
    ∙ ap (λ ns. ns ++ map name (numbered (row fs all_leaf) M.next_module new)) (sym (map_after face_name row_face name (λ m. refl) M.modules))
    ∙ ap (λ ns. map face_name (map row_face M.modules) ++ ns) (same_numbered name face_name (row fs all_leaf) (interface all_leaf) (λ n m. refl) M.next_module new)
    ∙ sym (map-append face_name (map row_face M.modules) (numbered (interface all_leaf) M.next_module new)) in
    rw same (IsDistinct-from_AllPairs bytes_eq-Decides (map face_name es) all)

-- The modules of the table that was there.

kept_module : (M B : Plain) (rows : List PModule) (id : ModId) (m : PModule) → B.modules ≡ M.modules ++ rows → module_of M id ≡ Some m → module_of B id ≡ Some m
kept_module M B rows id m made found =
    let test : PModule → Bool = λ x. x.id.0 == id.0 in
    ap (find test) made ∙ find-append test M.modules rows ∙ ap (λ o. option_or o (find test rows)) found

kept_master : (M B : Plain) (rows : List PModule) (m : PModule) (inst : PInst) → B.modules ≡ M.modules ++ rows → HasMaster M m inst → HasMaster B m inst
kept_master M B rows m inst made has = at_o (module_of M inst.master) refl has
  where
    at_o : (o : Option PModule) → module_of M inst.master ≡ o → MatchOption o ⊥ (λ master. FitPorts m master master.ports inst.conns) → HasMaster B m inst
    at_o None e h = absurd h
    at_o (Some master) e h =
        subst (λ (o : Option PModule). MatchOption o ⊥ (λ master. FitPorts m master master.ports inst.conns)) (sym (kept_module M B rows inst.master master made e)) h

kept_sound : (M B : Plain) (rows : List PModule) (m : PModule) → B.modules ≡ M.modules ++ rows → IsSoundModule M m → IsSoundModule B m
kept_sound M B rows m made s = record {
  names = s.names;
  nets_rise = s.nets_rise;
  nets_below = s.nets_below;
  net_counter = s.net_counter;
  ranges = s.ranges;
  ports_there = s.ports_there;
  ports_differ = s.ports_differ;
  insts_rise = s.insts_rise;
  insts_below = s.insts_below;
  inst_counter = s.inst_counter;
  masters = all_weaker (HasMaster M m) (HasMaster B m) m.insts (λ inst h. kept_master M B rows m inst made h) s.masters;
  cell = s.cell;
}

pairs_unmap : {X Y : Type 0} (R : Y → Y → Type 0) (f : X → Y) (xs : List X) → AllPairs R (map f xs) → AllPairs (λ a b. R (f a) (f b)) xs
pairs_unmap R f [] h = pairs_none (λ a b. R (f a) (f b))
pairs_unmap R f (x ∷ xs) h =
    pairs_cons (λ a b. R (f a) (f b)) x xs (all_unmap (R (f x)) f xs (pairs_head R (f x) (map f xs) h)) (pairs_unmap R f xs (pairs_tail R (f x) (map f xs) h))

pair_at : {X : Type 0} (R : X → X → Type 0) (xs : List X) (i j : ℕ) (x y : X) → AllPairs R xs → slice_get xs i ≡ Some x → slice_get xs j ≡ Some y → i < j → R x y
pair_at R xs i j x y pairs at_i at_j lt =
    subst (R x) (get_or_from_slice_get xs j y x at_j) (subst (λ z. R z (get_or xs j x)) (get_or_from_slice_get xs i x x at_i) (pairs i j x lt (slice_get_within xs j y at_j)))

-- nets of one name are one
same_named : (M : Plain) (m : PModule) (a b : PNet) (i j : ℕ) → IsSoundModule M m → slice_get m.nets i ≡ Some a → slice_get m.nets j ≡ Some b → a.name ≡ b.name → a ≡ b
same_named M m a b i j s at_a at_b same =
    let net_names : List (List ℕ) = map (λ (net : PNet). net.name) m.nets in
    let distinct : IsDistinct bytes_eq net_names = distinct-front net_names (map (λ (inst : PInst). inst.name) m.insts) s.names in
    let apart : AllPairs (λ (x y : PNet). x.name ≢ y.name) m.nets = pairs_unmap Other (λ (net : PNet). net.name) m.nets (AllPairs-from_IsDistinct bytes_eq-Decides net_names distinct) in
    ⊎_elim (λ (below : i < j). absurd (pair_at (λ (x y : PNet). x.name ≢ y.name) m.nets i j a b apart at_a at_b below same))
    (λ (from : j ≤ i). ⊎_elim (λ (below : j < i). absurd (pair_at (λ (x y : PNet). x.name ≢ y.name) m.nets j i b a apart at_b at_a below (sym same)))
    (λ (from2 : i ≤ j).
    let e : i ≡ j = omega arith in
    same-some (slice_get m.nets i) a b at_a (ap (slice_get m.nets) e ∙ at_b)) (cases_lt j i)) (cases_lt i j)

-- the net of a port of a sound module
port_net : (M : Plain) (m : PModule) (k : ℕ) (d : PPort) → IsSoundModule M m → k < length m.ports → (net : PNet) × (net_of m (get_or m.ports k d).net ≡ Some net)
port_net M m k d s lt = some-there (net_of m (get_or m.ports k d).net) (s.ports_there k d lt)

ports_named_apart : (M : Plain) (m : PModule) → IsSoundModule M m → AllPairs Differ (map (row_port m) m.ports)
ports_named_apart M m s =
    pairs_map (Differ {V = Port}) (row_port m) m.ports
    (λ i j d lt within. λ same.
    let one = port_net M m i d s (omega (arith, lt, within)) in
    let two = port_net M m j d s within in
    let a : (row_port m (get_or m.ports i d)).0 ≡ one.0.name = ap (λ (o : Option PNet). (row_port_on (get_or m.ports i d).dir o).0) one.1 in
    let b : (row_port m (get_or m.ports j d)).0 ≡ two.0.name = ap (λ (o : Option PNet). (row_port_on (get_or m.ports j d).dir o).0) two.1 in
    let names : one.0.name ≡ two.0.name = sym a ∙ same ∙ b in
    let at_one = find_place (λ (x : PNet). x.id.0 == (get_or m.ports i d).net.0) m.nets one.0 one.1 in
    let at_two = find_place (λ (x : PNet). x.id.0 == (get_or m.ports j d).net.0) m.nets two.0 two.1 in
    let nets : one.0 ≡ two.0 = same_named M m one.0 two.0 at_one.0 at_two.0 s at_one.1 at_two.1 names in
    s.ports_differ i j d lt within
    (sym (id-of_net m (get_or m.ports i d).net one.0 one.1) ∙ ap (λ (x : PNet). x.id) nets ∙ id-of_net m (get_or m.ports j d).net two.0 two.1))

old_face : (M : Plain) (m : PModule) → IsSoundModule M m → IsFaceOf (row_face m).1 m
old_face M m s = record {
  many = simp length-map;
  apart = ports_named_apart M m s;
  widths = λ k port d at.
      let len : length (map (row_port m) m.ports) ≡ length m.ports = simp length-map in
      let within : k < length m.ports = omega (arith, slice_get_within (map (row_port m) m.ports) k port at, len) in
      let own : PPort = get_or m.ports k d in
      let net = port_net M m k d s within in
      let here : slice_get (map (row_port m) m.ports) k ≡ Some (row_port m own) = slice_get-map (row_port m) m.ports k ∙ ap (option_map (row_port m)) (slice_get-get_or m.ports k d within) in
      let same : row_port m own ≡ port = same-some (slice_get (map (row_port m) m.ports) k) (row_port m own) port here at in
      let range : (row_port m own).1.range ≡ net.0.range = ap (λ (o : Option PNet). (row_port_on own.dir o).1.range) net.1 in
      ap width_of net.1 ∙ ap width (sym range ∙ ap (λ (p : List ℕ × Port). p.1.range) same);
}

-- All masters.

own_modules : (B : Plain) → AllPairs (λ (a b : PModule). a.id.0 < b.id.0) B.modules → All (λ (m : PModule). module_of B m.id ≡ Some m) B.modules
own_modules B rise = λ k d lt. find-own (λ (m : PModule). m.id.0) B.modules rise k d lt

all_numbered_with : {X Y Z : Type 0} (P : Y → Type 0) (Q : Z → Type 0) (C : X → Type 0) (make : ℕ → X → Y) (other : ℕ → X → Z) → ((n : ℕ) (x : X) → C x → P (make n x) → Q (other n x))
    → (n : ℕ) (xs : List X) → All C xs → All P (numbered make n xs) → All Q (numbered other n xs)
all_numbered_with P Q C make other f n [] c h = all_none Q
all_numbered_with P Q C make other f n (x ∷ xs) c h =
    all_cons Q (other n x) (numbered other (n + 1) xs) (f n x (all_head C x xs c) (all_head P (make n x) (numbered make (n + 1) xs) h))
    (all_numbered_with P Q C make other f (n + 1) xs (all_tail C x xs c) (all_tail P (make n x) (numbered make (n + 1) xs) h))

all_both : {X : Type 0} (P Q R : X → Type 0) → ((x : X) → P x → Q x → R x) → (xs : List X) → All P xs → All Q xs → All R xs
all_both P Q R f xs p q = λ k d lt. f (get_or xs k d) (p k d lt) (q k d lt)

known_faces : (M B : Plain) (fs : Named Interface) (all_leaf : Bool) (new : List TModule) → IsSound M → B.modules ≡ M.modules ++ numbered (row fs all_leaf) M.next_module new
    → All (Passes fs all_leaf) new → All (λ (e : List ℕ × Interface). HasModule B e.1) (map row_face M.modules ++ numbered (interface all_leaf) M.next_module new)
known_faces M B fs all_leaf new sound made passed =
    let rows : List PModule = numbered (row fs all_leaf) M.next_module new in
    let Own : PModule → Type 0 = λ m. module_of B m.id ≡ Some m in
    let rise : AllPairs (λ (a b : PModule). a.id.0 < b.id.0) B.modules = subst (λ (ms : List PModule). AllPairs (λ (a b : PModule). a.id.0 < b.id.0) ms) (sym made) (modules_rise M fs all_leaf new sound) in
    let own = all_front Own M.modules rows (subst (λ (ms : List PModule). All Own ms) made (own_modules B rise)) in
    let Has : List ℕ × Interface → Type 0 = λ e. HasModule B e.1 in
    All-append Has (map row_face M.modules) (numbered (interface all_leaf) M.next_module new)
    (all_map_of Has (λ (m : PModule). Has (row_face m)) row_face (λ m h. h) M.modules
    (all_both Own (IsSoundModule M) (λ (m : PModule). Has (row_face m)) (λ m o s. record { master = m; found = o; is = old_face M m s }) M.modules own.0 sound.modules))
    (all_numbered_with Own Has (Passes fs all_leaf) (row fs all_leaf) (interface all_leaf)
    (λ n m p o. record { master = row fs all_leaf n m; found = o; is = face_of fs all_leaf n m p.inside p.inner }) M.next_module new passed own.1)

-- No cycle.

-- a walk from a module that was there goes over modules that were there
walk_kept : (M B : Plain) (rows : List PModule) (top : ModId) (up : List InstId) (x y : PModule) → IsSound M → B.modules ≡ M.modules ++ rows → module_of M top ≡ Some x → module_up B top up ≡ Some y → module_up M top up ≡ Some y
unfolding module_up
walk_kept M B rows top [] x y sound made at leads =
    at ∙ ap Some (same-some (module_of B top) x y (kept_module M B rows top x made at) leads)
walk_kept M B rows top (i ∷ up) x y sound made at leads =
    let step : Step B top i up y = last_step B top i up y leads in
    let above : module_up M top up ≡ Some step.holder = walk_kept M B rows top up x step.holder sound made at step.above in
    let found : module_of M step.holder.id ≡ Some step.holder = up-own M top up step.holder above in
    let s : IsSoundModule M step.holder = sound-module M step.holder.id step.holder sound found in
    let has : HasMaster M step.holder step.inst = All-find (HasMaster M step.holder) (λ (inst : PInst). inst.id.0 == i.0) step.holder.insts step.inst s.masters step.found in
    let master = some-there (module_of M step.inst.master) (master-there M step.holder step.inst has) in
    let same : master.0 ≡ y = same-some (module_of B step.inst.master) master.0 y (kept_module M B rows step.inst.master master.0 made master.1) step.master in
    rw (above, step.found) (master.1 ∙ ap Some same)

no_cycle : (M B : Plain) (rows : List PModule) → IsSound M → B.modules ≡ M.modules ++ rows → IsFirstOnCycle B (length M.modules) None → (m : PModule) → OnCycle B m → ⊥
no_cycle M B rows sound made none m cycle =
    let own : module_of B m.id ≡ Some m = up-own B m.id (cycle.0 ∷ cycle.1) m cycle.2 in
    let place = place-at B m.id m own in
    ⊎_elim
    (λ (below : place.0 < length M.modules).
    let here : get_or M.modules place.0 m ≡ m
    = sym (get_or-append M.modules rows m place.0 below) ∙ ap (λ (ms : List PModule). get_or ms place.0 m) (sym made) ∙ get_or_from_slice_get B.modules place.0 m m place.2 in
    let found : module_of M m.id ≡ Some m
    = subst (λ (x : PModule). module_of M x.id ≡ Some x) here (find-own (λ (x : PModule). x.id.0) M.modules sound.rise place.0 m below) in
    sound.no_cycle m (cycle.0, cycle.1, walk_kept M B rows m.id (cycle.0 ∷ cycle.1) m m sound made found cycle.2))
    (λ (from : length M.modules ≤ place.0). none place.0 m from (slice_get_within B.modules place.0 m place.2) place.2 cycle)
    (cases_lt place.0 (length M.modules))

-- The table.

table_sound : (M B : Plain) (all_leaf : Bool) (ms : List TModule) → IsSound M → B.modules ≡ M.modules ++ numbered (row (interfaces M all_leaf ms) all_leaf) M.next_module (added M ms)
    → B.next_module ≡ M.next_module + length (added M ms) → All (Passes (interfaces M all_leaf ms) all_leaf) ms → IsFirstOnCycle B (length M.modules) None
    → All HasCounters B.modules → IsCounter B.next_module → IsSound B
table_sound M B all_leaf ms sound made next passed none counters counter =
    let fs : Named Interface = interfaces M all_leaf ms in
    let new : List TModule = added M ms in
    let rows : List PModule = numbered (row fs all_leaf) M.next_module new in
    let new_passed : All (Passes fs all_leaf) new = all_added (Passes fs all_leaf) M [] ms passed in
    let has : All (λ (e : List ℕ × Interface). HasModule B e.1) fs = known_faces M B fs all_leaf new sound made new_passed in
    let masters : (q : List ℕ) (f : Interface) → named fs q ≡ Some f → HasModule B f = λ q f e. all_named (λ (e : List ℕ × Interface). HasModule B e.1) fs q f has e in
    let end : ℕ = M.next_module + length new in
    let below : All (λ (m : PModule). m.id.0 < end) (M.modules ++ rows)
    = All-append (λ (m : PModule). m.id.0 < end) M.modules rows
    (all_weaker (λ (m : PModule). m.id.0 < M.next_module) (λ (m : PModule). m.id.0 < end) M.modules (λ m h. omega (arith, h)) sound.below)
    (numbered_below (λ (m : PModule). m.id.0) (row fs all_leaf) (λ n m. refl) M.next_module new) in
    let modules : All (IsSoundModule B) (M.modules ++ rows)
    = All-append (IsSoundModule B) M.modules rows (all_weaker (IsSoundModule M) (IsSoundModule B) M.modules (λ m s. kept_sound M B rows m made s) sound.modules)
    (all_numbered_with HasCounters (IsSoundModule B) (Passes fs all_leaf) (row fs all_leaf) (row fs all_leaf) (λ n m p few. row_sound B fs all_leaf n m p.inside p.inner masters few) M.next_module new new_passed
    (all_front HasCounters M.modules rows (subst (λ (ms : List PModule). All HasCounters ms) made counters)).1) in
    record {
      names = subst (λ (ms : List PModule). IsDistinct bytes_eq (map (λ (m : PModule). m.name) ms)) (sym made) (modules_apart M all_leaf ms fs sound);
      rise = subst (λ (ms : List PModule). AllPairs (λ (a b : PModule). a.id.0 < b.id.0) ms) (sym made) (modules_rise M fs all_leaf new sound);
      below = subst (λ (n : ℕ). All (λ (m : PModule). m.id.0 < n) B.modules) (sym next) (subst (λ (ms : List PModule). All (λ (m : PModule). m.id.0 < end) ms) (sym made) below);
      counter = counter;
      modules = subst (λ (ms : List PModule). All (IsSoundModule B) ms) (sym made) modules;
      no_cycle = no_cycle M B rows sound made none;
    }

built_modules : (M : Plain) (all_leaf : Bool) (tree : Tree) → (built M all_leaf tree).modules ≡ M.modules ++ numbered (row (interfaces M all_leaf tree.modules) all_leaf) M.next_module (added M tree.modules)
unfolding built
built_modules M all_leaf tree = refl

built_next : (M : Plain) (all_leaf : Bool) (tree : Tree) → (built M all_leaf tree).next_module ≡ M.next_module + length (added M tree.modules)
unfolding built
built_next M all_leaf tree = refl

-- what is built of a sound table is sound where its modules have counters
pub built_sound : (M : Plain) (all_leaf : Bool) (tree : Tree) (plain : Plain) → IsSound M → Elaborates M all_leaf tree plain → All HasCounters plain.modules → IsSound plain
built_sound M all_leaf tree plain sound is counters =
    let B : Plain = built M all_leaf tree in
    subst IsSound (sym is.table)
    (table_sound M B all_leaf tree.modules sound (built_modules M all_leaf tree) (built_next M all_leaf tree) (all_pass M all_leaf tree is.passed) is.no_cycle
    (subst (λ (N : Plain). All HasCounters N.modules) is.table counters)
    (subst IsCounter (sym (built_next M all_leaf tree)) (modules-counted M all_leaf tree is.passed sound.counter)))

pub stays_sound : StaysSound
stays_sound M all_leaf tree plain sound few is =
    let fs : Named Interface = interfaces M all_leaf tree.modules in
    let new : List TModule = added M tree.modules in
    let rows : List PModule = numbered (row fs all_leaf) M.next_module new in
    let counted : All HasCounters rows
    = all_numbered_of HasCounters IsCountable (row fs all_leaf) (λ n m few. few) M.next_module new (all_added IsCountable M [] tree.modules few) in
    let counters : All HasCounters (built M all_leaf tree).modules
    = subst (λ (ms : List PModule). All HasCounters ms) (sym (built_modules M all_leaf tree)) (All-append HasCounters M.modules rows (table-counters M sound) counted) in
    built_sound M all_leaf tree plain sound is (subst (λ (N : Plain). All HasCounters N.modules) (sym is.table) counters)
