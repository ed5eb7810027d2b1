-- The tree of a sound table gives a table that is the same by names.
use Rattle.std.proofs.Common.{arith, ◌≡◌, ◌≢◌, ℕ, zero, suc, ◌+◌, ◌<◌, ◌≤◌, ◌==◌, Bool, true, false, cond, List, [], ◌∷◌, ◌++◌, map, find, length, get_or, slice_get, Option, Some, None, option_map, bytes_eq, refl, sym, ap, ◌∙◌, subst, All, AllPairs, Contains}
use Rattle.std.specs.Prelude.{◌||◌}
use Rattle.std.specs.List.{list_any}
use Rattle.std.proofs.lemmas.List.Folds.{list_any-append}
use Rattle.std.proofs.lemmas.List.Elements.{All-head, All-tail, All-contains}
use Rattle.std.proofs.lemmas.Slice.Eq.{bytes_eq-Decides}
use Rattle.std.proofs.lemmas.Option.{slice_get-get_or, slice_get-map}
use Rattle.emh_base.specs.declared.ids.ModId.{ModId}
use Rattle.emh_base.specs.declared.plain.PModule.{PModule}
use Rattle.emh_base.specs.declared.plain.Plain.{Plain}
use Rattle.flatten_rules.specs.Lookup.{module_of, no_modules}
use Rattle.flatten_rules.specs.Sound.{IsSound, IsSoundModule}
use Rattle.flatten_rules.specs.Design.{module_named}
use Rattle.flatten_rules.proofs.Walks.{find-passes, find-own}
use Rattle.vlog_read.specs.declared.tree.TModule.{TModule}
use Rattle.vlog_elab.specs.declared.interface.Interface.{Interface}
use Rattle.vlog_elab.specs.declared.interface.Known.{Known}
use Rattle.flatten_rules.specs.Check.{each_after}
use Rattle.vlog_elab.specs.Named.{Named, named, numbered}
use Rattle.vlog_elab.specs.Interfaces.{interface, has_module, added, interfaces}
use Rattle.vlog_elab.specs.Table.{row, built}
use Rattle.vlog_elab.specs.Elaboration.{Elaborates}
use Rattle.vlog_elab.proofs.Each.{pairs_head, pairs_tail}
use Rattle.vlog_elab.proofs.Finding.{found_by_number}
use Rattle.named_tables.specs.NamedTable.{module_name, named_module, named_table}
use Rattle.named_tables.proofs.Names.{found-at, bytes_eq-refl, bytes_eq-other}
use Rattle.vlog_write.specs.TreeOf.{module_tree, in_written_order, tree_of}
use Rattle.read_back.proofs.Written.{written-all, written-from, written-has, written-differ, few-modules}
use Rattle.read_back.proofs.Rounds.{faces_of, interface-at, has-interfaces, rounds-none}
use Rattle.read_back.proofs.Rows.{HasRows, row-back}
use Rattle.named_tables.specs.Law.{IsSoundButCycles}
use Rattle.named_tables.proofs.Cycles.{Twin, cycle-back}

same-true : (a b : List ℕ) → a ≡ b → bytes_eq a b ≡ true
same-true a b e = grind (arith, bytes_eq-Decides)

-- each written module is added
added-from : (M : Plain) (before : List TModule) (ms : List PModule) → All (λ (m : PModule). list_any (λ (t : TModule). bytes_eq m.name t.name.name) before ≡ false) ms → AllPairs (λ (a b : PModule). a.name ≢ b.name) ms
    → each_after (λ before (m : TModule). cond (has_module no_modules before m.name.name) [] (m ∷ [])) before (map (module_tree M) ms) ≡ map (module_tree M) ms
added-from M before [] new differ = refl
added-from M before (m ∷ ms) new differ =
    let R : PModule → PModule → Type 0 = λ a b. a.name ≢ b.name in
    let New : PModule → Type 0 = λ m. list_any (λ (t : TModule). bytes_eq m.name t.name.name) before ≡ false in
    let f : List TModule → TModule → List TModule = λ before m. cond (has_module no_modules before m.name.name) [] (m ∷ []) in
    let tm : TModule = module_tree M m in
    let rest = added-from M (before ++ tm ∷ []) ms (λ k d within.
    let x : PModule = get_or ms k d in
    list_any-append (λ (t : TModule). bytes_eq x.name t.name.name) before (tm ∷ [])
    ∙ ap (λ b. b || (bytes_eq x.name m.name || false)) (All-tail New m ms new k d within)
    ∙ ap (λ b. b || false) (bytes_eq-other x.name m.name (λ same. pairs_head R m ms differ k d within (sym same))))
    (pairs_tail R m ms differ) in
    ap (λ b. cond b [] (tm ∷ []) ++ each_after f (before ++ tm ∷ []) (map (module_tree M) ms)) (All-head New m ms new)
    ∙ ap (λ xs. tm ∷ xs) rest

module _ (M : Plain) (sound : IsSound M) (few : length M.modules ≤ 4294967295) where
  abbrev ms : List PModule
  ms = in_written_order M

  abbrev FS : Named Interface
  FS = faces_of M 0 (in_written_order M)

  abbrev B : Plain
  B = built no_modules false (tree_of M)

  abbrev rows : List PModule
  rows = numbered (row (faces_of M 0 (in_written_order M)) false) 0 (map (module_tree M) (in_written_order M))

  differ : AllPairs (λ (a b : PModule). a.name ≢ b.name) (in_written_order M)
  differ = written-differ M sound

  raw : (built no_modules false (tree_of M)).modules ≡ numbered (row (interfaces no_modules false (map (module_tree M) (in_written_order M))) false) 0 (added no_modules (map (module_tree M) (in_written_order M)))
  unfolding built tree_of
  raw = refl

  made : (built no_modules false (tree_of M)).modules ≡ numbered (row (faces_of M 0 (in_written_order M)) false) 0 (map (module_tree M) (in_written_order M))
  made =
      let fs : interfaces no_modules false (map (module_tree M) (in_written_order M)) ≡ faces_of M 0 (in_written_order M) = sym (ap (λ (k : Known). k.interfaces) (rounds-none M sound few).1) in
      let new : added no_modules (map (module_tree M) (in_written_order M)) ≡ map (module_tree M) (in_written_order M) = added-from M [] (in_written_order M) (λ k d within. refl) differ in
      raw ∙ ap (λ (fs : Named Interface). numbered (row fs false) 0 (added no_modules (map (module_tree M) (in_written_order M)))) fs
      ∙ ap (λ (xs : List TModule). numbered (row (faces_of M 0 (in_written_order M)) false) 0 xs) new

  -- a row is found by its number
  row-at : (k : ℕ) (m : PModule) → k < length ms → get_or ms k m ≡ m → module_of B (record { 0 = k }) ≡ Some (row FS false k (module_tree M m))
  row-at k m within at =
      let here : slice_get (map (module_tree M) (in_written_order M)) k ≡ Some (module_tree M m) =
      slice_get-map (module_tree M) (in_written_order M) k ∙ ap (option_map (module_tree M)) (slice_get-get_or (in_written_order M) k m within ∙ ap Some at) in
      ap (find (λ (x : PModule). x.id.0 == k)) made ∙ found_by_number (λ (x : PModule). x.id.0) (row FS false) (λ n x. refl) (map (module_tree M) (in_written_order M)) k (module_tree M m) here

  has-rows : HasRows M (faces_of M 0 (in_written_order M)) (built no_modules false (tree_of M))
  has-rows = record {
    at = λ id master found.
        let place = found-at (λ (x : PModule). x.id.0 == id.0) M.modules master found in
        let has = written-has M master place in
        let at = interface-at M 0 (in_written_order M) differ has.0 master has.1 in
        let e : 0 + has.0 ≡ has.0 = omega arith in
        let known = (has-interfaces M sound few).at id master found in
        let is : known.0 ≡ (interface false has.0 (module_tree M master)).1 =
        same-interface (named-interface master) known.0 (interface false has.0 (module_tree M master)).1 known.1
        (subst (λ (x : PModule). named-interface x ≡ Some (interface false (0 + has.0) (module_tree M x)).1) has.2 at ∙ ap (λ n. Some (interface false n (module_tree M master)).1) e) in (
          known.0,
          known.1,
          known.2,
          ap (λ (f : Interface). module_name (module_of B f.id)) is ∙ ap module_name (row-at has.0 master has.1 has.2),
        );
  }
    where
      named-interface : PModule → Option Interface
      named-interface x = named (faces_of M 0 (in_written_order M)) x.name

      same-interface : (o : Option Interface) (a b : Interface) → o ≡ Some a → o ≡ Some b → a ≡ b
      same-interface o a b e f = let both : Some a ≡ Some b = sym e ∙ f in cc

  row-same : (k : ℕ) (m : PModule) → Contains M.modules m → named_module B (row FS false k (module_tree M m)) ≡ named_module M m
  row-same k m has = row-back M sound few B has-rows m (All-contains (IsSoundModule M) M.modules m sound.modules has) k

  -- by name
  find-row : (n : ℕ) (xs : List PModule) → AllPairs (λ (a b : PModule). a.name ≢ b.name) xs → (k : ℕ) (d : PModule) → k < length xs
      → find (λ (x : PModule). bytes_eq x.name (get_or xs k d).name) (numbered (row FS false) n (map (module_tree M) xs)) ≡ Some (row FS false (n + k) (module_tree M (get_or xs k d)))
  find-row n [] apart k d within = absurd (omega (arith, within))
  find-row n (m ∷ xs) apart zero d within =
      let e : n ≡ n + 0 = omega arith in
      ap (λ b. cond b (Some (row FS false n (module_tree M m))) (find (λ (x : PModule). bytes_eq x.name m.name) (numbered (row FS false) (n + 1) (map (module_tree M) xs)))) (bytes_eq-refl m.name)
      ∙ ap (λ i. Some (row FS false i (module_tree M m))) e
  find-row n (m ∷ xs) apart (suc k) d within =
      let R : PModule → PModule → Type 0 = λ a b. a.name ≢ b.name in
      let x : PModule = get_or xs k d in
      let other : m.name ≢ x.name = pairs_head R m xs apart k d (omega arith) in
      let e : n + 1 + k ≡ n + suc k = omega arith in
      ap (λ b. cond b (Some (row FS false n (module_tree M m))) (find (λ (y : PModule). bytes_eq y.name x.name) (numbered (row FS false) (n + 1) (map (module_tree M) xs)))) (bytes_eq-other m.name x.name other)
      ∙ find-row (n + 1) xs (pairs_tail R m xs apart) k d (omega arith)
      ∙ ap (λ i. Some (row FS false i (module_tree M x))) e

  find-none : (n : ℕ) (xs : List PModule) (q : List ℕ) → All (λ (m : PModule). m.name ≢ q) xs → find (λ (x : PModule). bytes_eq x.name q) (numbered (row FS false) n (map (module_tree M) xs)) ≡ None
  find-none n [] q all = refl
  find-none n (m ∷ xs) q all =
      ap (λ b. cond b (Some (row FS false n (module_tree M m))) (find (λ (x : PModule). bytes_eq x.name q) (numbered (row FS false) (n + 1) (map (module_tree M) xs)))) (bytes_eq-other m.name q (All-head (λ (m : PModule). m.name ≢ q) m xs all))
      ∙ find-none (n + 1) xs q (All-tail (λ (m : PModule). m.name ≢ q) m xs all)

  same-at : (q : List ℕ) → named_table (built no_modules false (tree_of M)) q ≡ named_table M q
  unfolding named_table
  same-at q = ap (λ xs. option_map (named_module B) (find (λ (m : PModule). bytes_eq m.name q) xs)) made ∙ at_o (module_named M q) refl
    where
      at_o : (o : Option PModule) → module_named M q ≡ o → option_map (named_module B) (find (λ (m : PModule). bytes_eq m.name q) rows) ≡ option_map (named_module M) o
      at_o (Some m) e =
          let place = found-at (λ (x : PModule). bytes_eq x.name q) M.modules m e in
          let name : m.name ≡ q = let passes = find-passes (λ (x : PModule). bytes_eq x.name q) M.modules m e in grind (arith, bytes_eq-Decides) in
          let has = written-has M m place in
          let row_found = subst (λ (x : PModule). find (λ (y : PModule). bytes_eq y.name x.name) rows ≡ Some (row FS false (0 + has.0) (module_tree M x))) has.2 (find-row 0 (in_written_order M) differ has.0 m has.1) in
          ap (λ r. option_map (named_module B) (find (λ (y : PModule). bytes_eq y.name r) rows)) (sym name)
          ∙ ap (option_map (named_module B)) row_found ∙ ap Some (row-same (0 + has.0) m place)
      at_o None e =
          ap (option_map (named_module B)) (find-none 0 (in_written_order M) q (written-all (λ (m : PModule). m.name ≢ q) M (none-has M.modules e)))
        where
          none-has : (xs : List PModule) → find (λ (m : PModule). bytes_eq m.name q) xs ≡ None → All (λ (m : PModule). m.name ≢ q) xs
          none-has [] h k d within = absurd (omega (arith, within))
          none-has (x ∷ xs) h zero d within = λ same. let never : Some x ≡ None = sym (ap (λ b. cond b (Some x) (find (λ (m : PModule). bytes_eq m.name q) xs)) (same-true x.name q same)) ∙ h in absurd (cc)
          none-has (x ∷ xs) h (suc k) d within = none-has xs (later (bytes_eq x.name q) h) k d (omega arith)
            where
              later : (b : Bool) → cond b (Some x) (find (λ (m : PModule). bytes_eq m.name q) xs) ≡ None → find (λ (m : PModule). bytes_eq m.name q) xs ≡ None
              later true h = let never : Some x ≡ None = h in absurd (cc)
              later false h = h

  same : named_table (built no_modules false (tree_of M)) ≡ named_table M
  same = λ i q. same-at q i

  record Made (xs : List PModule) (r : PModule) : Type 0 where
    number : ℕ
    from : PModule
    has : Contains xs from
    is : r ≡ row FS false number (module_tree M from)

  row-from : (test : PModule → Bool) (n : ℕ) (xs : List PModule) (r : PModule) → find test (numbered (row FS false) n (map (module_tree M) xs)) ≡ Some r → Made xs r
  row-from test n [] r h = let never : None ≡ Some r = h in absurd (cc)
  row-from test n (m ∷ xs) r h = at_b (λ h. row-from test (n + 1) xs r h) (test (row FS false n (module_tree M m))) h
    where
      at_b : (find test (numbered (row FS false) (n + 1) (map (module_tree M) xs)) ≡ Some r → Made xs r) → (b : Bool)
          → cond b (Some (row FS false n (module_tree M m))) (find test (numbered (row FS false) (n + 1) (map (module_tree M) xs))) ≡ Some r → Made (m ∷ xs) r
      at_b more true h = let same : row FS false n (module_tree M m) ≡ r = cc in record { number = n; from = m; has = (0, omega arith, refl); is = sym same }
      at_b more false h =
          let later = more h in
          let has : Contains xs later.from = later.has in
          record { number = later.number; from = later.from; has = (suc has.0, omega (arith, has.1), has.2); is = later.is }

  -- each module that is made is one that was written
  twins : (id : ModId) (r : PModule) → module_of B id ≡ Some r → Twin M B r
  twins id r found =
      let from = row-from (λ (x : PModule). x.id.0 == id.0) 0 (in_written_order M) r (ap (find (λ (x : PModule). x.id.0 == id.0)) (sym made) ∙ found) in
      let m : PModule = from.from in
      let has : Contains M.modules m = All-contains (Contains M.modules) (in_written_order M) m (written-from M) from.has in
      record {
        twin = m;
        own = subst (λ (x : PModule). module_of M x.id ≡ Some x) has.2 (find-own (λ (x : PModule). x.id.0) M.modules sound.rise has.0 m has.1);
        name = ap (λ (x : PModule). x.name) from.is;
        same = ap (named_module B) from.is ∙ row-same from.number m has;
      }

but-cycles : (M : Plain) → IsSound M → IsSoundButCycles M
but-cycles M sound = record { names = sound.names; rise = sound.rise; modules = sound.modules }

-- over no modules the tree of a sound table gives a table that is the same by names
pub record TreeReadsBack (M : Plain) : Type 0 where
  pub made : Plain
  pub elaborates : Elaborates no_modules false (tree_of M) made
  pub same : named_table made ≡ named_table M

pub tree-reads-back : (M : Plain) → IsSound M → TreeReadsBack M
tree-reads-back M sound =
    let few : length M.modules ≤ 4294967295 = few-modules M sound in
    let made : Plain = built no_modules false (tree_of M) in
    record {
      made = made;
      elaborates = record {
        passed = (rounds-none M sound few).0;
        no_cycle = λ k r low high at cycle.
            let back = cycle-back M (built no_modules false (tree_of M)) (but-cycles M sound) (twins M sound few) r cycle in
            sound.no_cycle back.0 back.2;
        table = refl;
      };
      same = same M sound few;
    }
