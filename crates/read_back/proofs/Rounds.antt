-- The first two rounds meet no fault.
use Rattle.std.proofs.Common.{arith, ◌≡◌, ◌≢◌, ℕ, zero, suc, ◌+◌, ◌<◌, ◌≤◌, ◌==◌, Bool, true, false, cond, List, [], ◌∷◌, ◌++◌, map, length, get_or, Some, None, refl, sym, ap, ◌∙◌, subst, All, AllPairs, append_assoc}
use Rattle.std.specs.Prelude.{◌&&◌, ◌||◌, not, Ok}
use Rattle.std.proofs.lemmas.Bool.Decides.{nat_tests}
use Rattle.std.proofs.lemmas.List.{append-nil}
use Rattle.std.proofs.lemmas.List.Elements.{All-head, All-tail}
use Rattle.std.specs.Option.{option_or}
use Rattle.emh_base.specs.declared.plain.PModule.{PModule}
use Rattle.emh_base.specs.declared.plain.Plain.{Plain}
use Rattle.flatten_rules.specs.Sound.{IsSound, IsSoundModule}
use Rattle.emh_base.specs.declared.plain.PPort.{PPort}
use Rattle.flatten_rules.proofs.Sound.{sound-module}
use Rattle.flatten_rules.proofs.Walks.{none-there}
use Rattle.vlog_read.specs.declared.tree.TModule.{TModule}
use Rattle.vlog_elab.specs.declared.fault.ElabKind.TheVariants as kind
use Rattle.vlog_elab.specs.declared.interface.Interface.{Interface}
use Rattle.vlog_elab.specs.declared.interface.Known.{Known}
use Rattle.flatten_rules.specs.Check.{first_broken}
use Rattle.vlog_elab.specs.Check.{Check, check}
use Rattle.vlog_elab.specs.Named.{Named, named, is_there, numbered}
use Rattle.vlog_elab.specs.Interfaces.{interface, ports, row_port, known}
use Rattle.vlog_elab.specs.Declarations.{is_taken, has_other_ports}
use Rattle.vlog_elab.specs.Connections.{inner_checks}
use Rattle.vlog_elab.specs.Elaboration.{checks}
use Rattle.vlog_elab.specs.inside.Walk.{Passed}
use Rattle.vlog_elab.specs.inside.Walks.{module_walk}
use Rattle.vlog_elab.proofs.Each.{pairs_head, pairs_tail}
use Rattle.vlog_elab.proofs.Walking.{passed-none, passed-then}
use Rattle.vlog_elab.proofs.Declaring.{module-gives}
use Rattle.vlog_elab.proofs.Rounds.{checks_by, both-pass}
use Rattle.vlog_elab.proofs.Naming.{there-append, there-one}
use Rattle.named_tables.proofs.Names.{found-at, bytes_eq-refl, bytes_eq-other}
use Rattle.vlog_write.specs.TreeOf.{module_tree, in_written_order, tree_of}
use Rattle.flatten_rules.specs.Lookup.{no_modules}
use Rattle.flatten_rules.proofs.FirstBroken.{first_broken-append}
use Rattle.read_back.proofs.Steps.{clear1, clear2}
use Rattle.read_back.proofs.Modules.{HasFaces}
use Rattle.read_back.proofs.Nets.{inner-none}
use Rattle.read_back.proofs.Inside.{dir_entry, row_port-is, inside-none}
use Rattle.read_back.proofs.Written.{written-all, written-has, written-differ, many}

module _ (M : Plain) where
  abbrev trees : List PModule → List TModule
  trees ms = map (module_tree M) ms

  abbrev pub faces_of : ℕ → List PModule → Named Interface
  faces_of n ms = numbered (interface false) n (trees ms)

  -- a module's interface is found by its name
  pub interface-at : (n : ℕ) (ms : List PModule) → AllPairs (λ (a b : PModule). a.name ≢ b.name) ms → (k : ℕ) (d : PModule) → k < length ms
      → named (faces_of n ms) (get_or ms k d).name ≡ Some (interface false (n + k) (module_tree M (get_or ms k d))).1
  interface-at n [] differ k d within = absurd (omega (arith, within))
  interface-at n (m ∷ ms) differ zero d within =
      let e : n ≡ n + 0 = omega arith in
      ap (λ b. cond b (Some (interface false n (module_tree M m)).1) (named (faces_of (n + 1) ms) m.name)) (bytes_eq-refl m.name)
      ∙ ap (λ i. Some (interface false i (module_tree M m)).1) e
  interface-at n (m ∷ ms) differ (suc k) d within =
      let R : PModule → PModule → Type 0 = λ a b. a.name ≢ b.name in
      let x : PModule = get_or ms k d in
      let other : x.name ≢ m.name = λ same. pairs_head R m ms differ k d (omega arith) (sym same) in
      let e : n + 1 + k ≡ n + suc k = omega arith in
      ap (λ b. cond b (Some (interface false n (module_tree M m)).1) (named (faces_of (n + 1) ms) x.name)) (bytes_eq-other x.name m.name other)
      ∙ interface-at (n + 1) ms (pairs_tail R m ms differ) k d (omega arith)
      ∙ ap (λ i. Some (interface false i (module_tree M x)).1) e

  -- the first round goes through the modules
  pub modules-pass : (fs : Named Interface) (n : ℕ) (ms : List PModule) → All (IsSoundModule M) ms → All (λ (m : PModule). is_there fs m.name ≡ false) ms → AllPairs (λ (a b : PModule). a.name ≢ b.name) ms
      → n + length ms ≤ 4294967295
      → Passed (module_walk false) (record { interfaces = fs; next_module = n }) (trees ms) (record { interfaces = fs ++ faces_of n ms; next_module = n + length ms })
  modules-pass fs n [] sound new differ few =
      let f : fs ≡ fs ++ [] = sym (append-nil fs) in
      let e : n ≡ n + 0 = omega arith in
      let same : ◌≡◌ {A = Known} (record { interfaces = fs; next_module = n }) (record { interfaces = fs ++ []; next_module = n + 0 }) = λ i. record { interfaces = f i; next_module = e i } in
      subst (λ (t : Known). Passed (module_walk false) (record { interfaces = fs; next_module = n }) [] t) same passed-none
  modules-pass fs n (m ∷ ms) sound new differ few =
      let R : PModule → PModule → Type 0 = λ a b. a.name ≢ b.name in
      let New : PModule → Type 0 = λ m. is_there fs m.name ≡ false in
      let tm : TModule = module_tree M m in
      let inside = inside-none M m (All-head (IsSoundModule M) m ms sound) in
      let fresh : is_there fs m.name ≡ false = All-head New m ms new in
      let none : named fs m.name ≡ None = none-there (named fs m.name) fresh in
      let k : Known = record { interfaces = fs; next_module = n } in
      let next : Known = record { interfaces = fs ++ interface false n tm ∷ []; next_module = n + 1 } in
      let low : (n == 4294967295) ≡ false = below n (length ms) few in
      let one : Passed (module_walk false) k (tm ∷ []) next =
      module-gives {T = Unit {0}} false k next tm (ports tm) (Ok tt)
      (clear1 (check kind.NameTaken tm.name (is_taken m.leaf (named fs m.name))) (ap (is_taken m.leaf) none))
      inside.0 refl
      (clear2 (check kind.NameTaken tm.name (has_other_ports (ports tm) (named fs m.name))) (check kind.TooManyModules tm.name (not (is_there fs m.name) && n == 4294967295))
      (ap (has_other_ports (ports tm)) none) (ap (λ b. not (is_there fs m.name) && b) low ∙ both-false (not (is_there fs m.name))))
      (sym (ap (λ b. cond b k next) fresh)) in
      let rest = modules-pass (fs ++ interface false n tm ∷ []) (n + 1) ms (All-tail (IsSoundModule M) m ms sound)
      (λ i d within.
      let x : PModule = get_or ms i d in
      there-append fs (interface false n tm ∷ []) x.name ∙ ap (λ b. b || is_there (interface false n tm ∷ []) x.name) (All-tail New m ms new i d within)
      ∙ there-one (interface false n tm) x.name ∙ bytes_eq-other x.name m.name (λ same. pairs_head R m ms differ i d within (sym same)))
      (pairs_tail R m ms differ) (omega (arith, few)) in
      let f : (fs ++ interface false n tm ∷ []) ++ faces_of (n + 1) ms ≡ fs ++ faces_of n (m ∷ ms) = append_assoc fs (interface false n tm ∷ []) (faces_of (n + 1) ms) in
      let e : n + 1 + length ms ≡ n + length (m ∷ ms) = omega arith in
      let same : ◌≡◌ {A = Known} (record { interfaces = (fs ++ interface false n tm ∷ []) ++ faces_of (n + 1) ms; next_module = n + 1 + length ms }) (record { interfaces = fs ++ faces_of n (m ∷ ms); next_module = n + length (m ∷ ms) }) = λ i. record { interfaces = f i; next_module = e i } in
      subst (λ (t : Known). Passed (module_walk false) k (trees (m ∷ ms)) t) same (passed-then one rest)
    where
      below : (n l : ℕ) → n + suc l ≤ 4294967295 → (n == 4294967295) ≡ false
      below n l few = grind (arith, nat_tests)

      both-false : (b : Bool) → (b && false) ≡ false
      both-false true = refl
      both-false false = refl

module _ (M : Plain) (sound : IsSound M) (few : length M.modules ≤ 4294967295) where
  abbrev pub ms : List PModule
  ms = in_written_order M

  abbrev pub fs : Named Interface
  fs = faces_of M 0 (in_written_order M)

  pub has-interfaces : HasFaces M (faces_of M 0 (in_written_order M))
  has-interfaces = record {
    at = λ id master found.
        let place = found-at (λ (x : PModule). x.id.0 == id.0) M.modules master found in
        let has = written-has M master place in
        let at = interface-at M 0 (in_written_order M) (written-differ M sound) has.0 master has.1 in
        let s : IsSoundModule M master = sound-module M id master sound found in (
          (interface false (0 + has.0) (module_tree M master)).1,
          subst (λ (x : PModule). named (faces_of M 0 (in_written_order M)) x.name ≡ Some (interface false (0 + has.0) (module_tree M x)).1) has.2 at,
          sym (inside-none M master s).1 ∙ sym (map-same master),
        );
  }
    where
      map-same : (m : PModule) → map (row_port m) m.ports ≡ map (dir_entry m) m.ports
      map-same m = go m.ports
        where
          go : (ps : List PPort) → map (row_port m) ps ≡ map (dir_entry m) ps
          go [] = refl
          go (p ∷ ps) = let h = row_port-is m p in let t = go ps in λ i. h i ∷ t i

  -- no rule of the first two rounds is broken
  pub rounds-none : (first_broken (checks no_modules false (tree_of M)) ≡ None) × (record { interfaces = faces_of M 0 (in_written_order M); next_module = 0 + length (in_written_order M) } ≡ known no_modules false (trees M (in_written_order M)))
  unfolding tree_of
  rounds-none =
      let passed = modules-pass M [] 0 (in_written_order M) (written-all (IsSoundModule M) M sound.modules) (λ k d within. refl) (written-differ M sound) (many M few) in
      both-pass no_modules false (tree_of M) (record { interfaces = []; next_module = 0 }) (record { interfaces = faces_of M 0 (in_written_order M); next_module = 0 + length (in_written_order M) }) (trees M (in_written_order M)) refl refl passed
      (inner-all (in_written_order M) (written-all (IsSoundModule M) M sound.modules))
    where
      inner-all : (ms : List PModule) → All (IsSoundModule M) ms → first_broken (checks_by (faces_of M 0 (in_written_order M)) false (trees M ms)) ≡ None
      inner-all [] all = refl
      inner-all (m ∷ ms) all =
          first_broken-append (cond m.leaf [] (inner_checks (faces_of M 0 (in_written_order M)) (module_tree M m))) (checks_by (faces_of M 0 (in_written_order M)) false (trees M ms))
          ∙ ap (λ o. option_or o (first_broken (checks_by (faces_of M 0 (in_written_order M)) false (trees M ms)))) (unless m.leaf (inner_checks (faces_of M 0 (in_written_order M)) (module_tree M m)) (inner-none M m (All-head (IsSoundModule M) m ms all) (faces_of M 0 (in_written_order M)) sound has-interfaces))
          ∙ inner-all ms (All-tail (IsSoundModule M) m ms all)
        where
          unless : (b : Bool) (cs : List Check) → first_broken cs ≡ None → first_broken (cond b [] cs) ≡ None
          unless true cs e = refl
          unless false cs e = e
