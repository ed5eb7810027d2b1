-- What an instance more leaves as it was, and what one of a leaf adds to a module that has an instance already.
use Rattle.std.proofs.Common.{◌≡◌, ℕ, zero, suc, ◌+◌, ◌*◌, ◌<◌, ◌≤◌, ◌==◌, max, nat_lt, Bool, true, false, cond, ◌||◌, List, [], ◌∷◌, ◌++◌, map, find, length, sum_by, is_some, Option, Some, None, option_map, IsTrue, refl, sym, ap, ap₂, ◌∙◌, arith}
use Rattle.std.specs.List.{list_any}
use Rattle.std.proofs.lemmas.Bool.Decides.{nat_tests}
use Rattle.std.proofs.lemmas.List.{map-append}
use Rattle.std.proofs.lemmas.List.Sums.{sum_by-cons, sum_by-append}
use Rattle.emh_base.specs.declared.ids.ModId.{ModId}
use Rattle.emh_base.specs.declared.plain.PInst.{PInst}
use Rattle.emh_base.specs.declared.plain.PModule.{PModule}
use Rattle.emh_base.specs.declared.plain.Plain.{Plain}
use Rattle.emh_base.specs.declared.state.State.{State}
use Rattle.flatten_rules.specs.Lookup.{module_of, insts_of}
use Rattle.flatten_rules.specs.Unfolding.{Occurrence, occurrences}
use Rattle.flatten_rules.specs.Limits.{bits_of}
use Rattle.flatten_rules.specs.Domains.{is_leaf}
use Rattle.flatten_rules.specs.Counting.{total, height, greatest_by}
use Rattle.flatten_rules.proofs.Walks.{height-within, id-of_found}
use Rattle.edit_rules.specs.Good.{IsGoodState}
use Rattle.edit_rules.specs.Insts.{create_inst, with_new_inst, all_open}
use Rattle.flatten_rules.specs.Limits.{is_too_deep, has_too_many_occurrences, has_too_many_bits, leads_to}
use Rattle.edit_rules.specs.Facts.{totals, times, inst_after}
use Rattle.flatten_rules.proofs.Heights.{greatest-push, greatest-same}
use Rattle.flatten_rules.proofs.Summing.{length-sum_by, total-unfolded, leads-total}
use Rattle.edit_rules.proofs.MoreLemmas.{masters_of, sum-masters, changed-found, total-split, total-scaled, total-times, total-bits}
use Rattle.edit_rules.proofs.OutlineLemmas.{leaf-empty, leaf-leads}

abbrev Master : PInst → ModId
Master inst = inst.master

greatest-masters : (t : ModId → ℕ) (xs : List PInst) → greatest_by (λ (inst : PInst). t inst.master) xs ≡ greatest_by t (map Master xs)
greatest-masters t [] = refl
greatest-masters t (x ∷ xs) = ap (max (t x.master)) (greatest-masters t xs)

-- sums of numbers that are equal wherever another one is low
sum-under : (f g high : ModId → ℕ) (k : ℕ) → ((m : ModId) → high m < k → f m ≡ g m) → (ms : List ModId) → greatest_by (λ m. suc (high m)) ms < suc k → sum_by f ms ≡ sum_by g ms
sum-under f g high k same [] low = refl
sum-under f g high k same (m ∷ ms) low =
    omega (arith, sum_by-cons f m ms, sum_by-cons g m ms, same m (omega (arith, low)), sum-under f g high k same ms (omega (arith, low)))

some-below : (high : ModId → ℕ) (k : ℕ) (ms : List ModId) → 0 < length ms → greatest_by (λ m. suc (high m)) ms < suc k → 0 < k
some-below high k [] some low = absurd (omega (arith, some))
some-below high k (m ∷ ms) some low = omega (arith, low)

some-above : (high : ModId → ℕ) (ms : List ModId) → 0 < length ms → 0 < greatest_by (λ m. suc (high m)) ms
some-above high [] some = absurd (omega (arith, some))
some-above high (m ∷ ms) some = omega arith

make : ℕ → ModId
make n = record { 0 = n }

same-id : (a b : ModId) → (a.0 == b.0) ≡ true → a ≡ b
unfolding make
same-id a b same = ap make (by-number a.0 b.0 same)
  where
    by-number : (m n : ℕ) → (m == n) ≡ true → m ≡ n
    by-number m n e = grind (arith, nat_tests)

sum-more : (t : ModId → ℕ) (ms : List ModId) (leaf : ModId) (b : Bool) → sum_by t (ms ++ cond b (leaf ∷ []) []) ≡ sum_by t ms + cond b (t leaf) 0
sum-more t ms leaf true = omega (arith, sum_by-append t ms (leaf ∷ []), sum_by-cons t leaf [])
sum-more t ms leaf false = omega (arith, sum_by-append t ms [])

module _ (M N : Plain) (id leaf : ModId) (some : 0 < length (masters_of (module_of M id)))
    (more : (x : ModId) → masters_of (module_of N x) ≡ masters_of (module_of M x) ++ cond (x.0 == id.0) (leaf ∷ []) [])
    (empty : masters_of (module_of N leaf) ≡ []) where
  leaf-total : (w : ModId → ℕ) (levels : ℕ) → 0 < levels → total w N leaf levels ≡ w leaf
  unfolding total
  leaf-total w zero deep = absurd (omega (arith, deep))
  leaf-total w (suc levels) deep =
      let none : sum_by (λ (inst : PInst). total w N inst.master levels) (insts_of (module_of N leaf)) ≡ 0 =
      sum-masters (λ m. total w N m levels) (insts_of (module_of N leaf)) ∙ ap (sum_by (λ m. total w N m levels)) empty in
      omega (arith, none)

  leaf-height : (levels : ℕ) → height N leaf levels ≡ 0
  unfolding height
  leaf-height zero = refl
  leaf-height (suc levels) =
      greatest-masters (λ m. suc (height N m levels)) (insts_of (module_of N leaf)) ∙ ap (greatest_by (λ m. suc (height N m levels))) empty

  -- a leaf counts where the walk goes on
  leaf-counts : (w : ModId → ℕ) (levels : ℕ) (x : ModId) (b : Bool) → b ≡ (x.0 == id.0) → greatest_by (λ m. suc (height M m levels)) (masters_of (module_of M x)) < suc levels
      → cond b (total w N leaf levels) 0 ≡ cond b (w leaf) 0
  leaf-counts w levels x true at low =
      let here : x ≡ id = same-id x id (sym at) in
      let there : 0 < length (masters_of (module_of M x)) = rw here some in
      leaf-total w levels (some-below (λ m. height M m levels) levels (masters_of (module_of M x)) there low)
  leaf-counts w levels x false at low = refl

  abbrev With : (ModId → ℕ) → ModId → ℕ
  With w m = w m + cond (m.0 == id.0) (w leaf) 0

  total-more : (w : ModId → ℕ) (levels : ℕ) (x : ModId) → height M x levels < levels → total w N x levels ≡ total (With w) M x levels
  unfolding total height
  total-more w zero x low = refl
  total-more w (suc levels) x low =
      let t : ModId → ℕ = λ m. total w N m levels in
      let u : ModId → ℕ = λ m. total (With w) M m levels in
      let ms : List ModId = masters_of (module_of M x) in
      let under : greatest_by (λ m. suc (height M m levels)) ms < suc levels =
      omega (arith, low, greatest-masters (λ m. suc (height M m levels)) (insts_of (module_of M x))) in
      let new : sum_by (λ (inst : PInst). total w N inst.master levels) (insts_of (module_of N x)) ≡ sum_by t ms + cond (x.0 == id.0) (t leaf) 0 =
      sum-masters t (insts_of (module_of N x)) ∙ ap (sum_by t) (more x) ∙ sum-more t ms leaf (x.0 == id.0) in
      let old : sum_by (λ (inst : PInst). total (With w) M inst.master levels) (insts_of (module_of M x)) ≡ sum_by u ms = sum-masters u (insts_of (module_of M x)) in
      let same : sum_by t ms ≡ sum_by u ms = sum-under t u (λ m. height M m levels) levels (λ m. total-more w levels m) ms under in
      omega (arith, new, old, same, leaf-counts w levels x (x.0 == id.0) refl under)

  one-higher : (t : ModId → ℕ) (x : ModId) (b : Bool) → b ≡ (x.0 == id.0) → t leaf ≡ 0 → greatest_by (λ m. suc (t m)) (masters_of (module_of M x) ++ cond b (leaf ∷ []) []) ≡ greatest_by (λ m. suc (t m)) (masters_of (module_of M x))
  one-higher t x true at low =
      let here : x ≡ id = same-id x id (sym at) in
      let there : 0 < length (masters_of (module_of M x)) = rw here some in
      omega (arith, low, greatest-push (λ m. suc (t m)) (masters_of (module_of M x)) leaf, some-above t (masters_of (module_of M x)) there)
  one-higher t x false at low = ap (greatest_by (λ m. suc (t m))) (no-more (masters_of (module_of M x)))
    where
      no-more : (ms : List ModId) → ms ++ [] ≡ ms
      no-more [] = refl
      no-more (m ∷ ms) = ap (λ rest. m ∷ rest) (no-more ms)

  pub height-same : (levels : ℕ) (x : ModId) → height N x levels ≡ height M x levels
  unfolding height
  height-same zero x = refl
  height-same (suc levels) x =
      let t : ModId → ℕ = λ m. height N m levels in
      greatest-masters (λ m. suc (t m)) (insts_of (module_of N x))
      ∙ ap (greatest_by (λ m. suc (t m))) (more x)
      ∙ one-higher t x (x.0 == id.0) refl (leaf-height levels)
      ∙ greatest-same (λ m. suc (t m)) (λ m. suc (height M m levels)) (λ m. ap suc (height-same levels m)) (masters_of (module_of M x))
      ∙ sym (greatest-masters (λ m. suc (height M m levels)) (insts_of (module_of M x)))

  module _ (short : (x : ModId) → height M x 257 ≤ 256) where
    no-deep : (xs : List PModule) → list_any (λ (m : PModule). nat_lt 256 (height N m.id 257)) xs ≡ false
    no-deep [] = refl
    no-deep (x ∷ xs) =
        let low : nat_lt 256 (height N x.id 257) ≡ false = let here : height N x.id 257 ≤ 256 = omega (arith, height-same 257 x.id, short x.id) in grind (arith, nat_tests) in
        rw (low, no-deep xs) refl

    pub still-short : is_too_deep N ≡ false
    still-short = no-deep N.modules

    -- a sum over the occurrences at a top grows by what the leaf counts, as often as the module occurs
    pub total-with : (w v : ModId → ℕ) → ((x : ModId) → w x ≡ v x) → (top : ModId) → total w N top 257 ≡ total v M top 257 + w leaf * total (λ m. cond (m.0 == id.0) 1 0) M top 257
    total-with w v same top =
        let more : total w N top 257 ≡ total (With w) M top 257 = total-more w 257 top (omega (arith, short top)) in
        let split : total (With w) M top 257 ≡ total v M top 257 + total (λ m. cond (m.0 == id.0) (w leaf) 0) M top 257 =
        total-split M M (λ x. refl) v (λ m. cond (m.0 == id.0) (w leaf) 0) (With w) (λ x. ap (λ n. n + cond (x.0 == id.0) (w leaf) 0) (same x)) 257 top in
        more ∙ split ∙ ap (λ n. total v M top 257 + n) (total-scaled (w leaf) (λ m. m.0 == id.0) M 257 top)

-- whether walks lead to a module doesn't hang on its own instances

either : (a b : ℕ) → nat_lt 0 (a + b) ≡ (nat_lt 0 a || nat_lt 0 b)
either a b = grind (arith, nat_tests)

some-same : (f g : ModId → ℕ) → ((m : ModId) → nat_lt 0 (f m) ≡ nat_lt 0 (g m)) → (ms : List ModId) → nat_lt 0 (sum_by f ms) ≡ nat_lt 0 (sum_by g ms)
some-same f g same [] = refl
some-same f g same (m ∷ ms) =
    ap (nat_lt 0) (sum_by-cons f m ms) ∙ either (f m) (sum_by f ms)
    ∙ ap₂ (λ a b. a || b) (same m) (some-same f g same ms)
    ∙ sym (ap (nat_lt 0) (sum_by-cons g m ms) ∙ either (g m) (sum_by g ms))

module _ (M N : Plain) (id : ModId) (same : (x : ModId) → (x.0 == id.0) ≡ false → masters_of (module_of N x) ≡ masters_of (module_of M x)) where
  At : ModId → ℕ
  At m = cond (m.0 == id.0) 1 0

  below : Plain → ModId → ℕ → ℕ
  below T x levels = sum_by (λ (inst : PInst). total At T inst.master levels) (insts_of (module_of T x))

  at-or-below : (levels : ℕ) (x : ModId) (b : Bool) → b ≡ (x.0 == id.0) → ((m : ModId) → nat_lt 0 (total At N m levels) ≡ nat_lt 0 (total At M m levels))
      → nat_lt 0 (cond b 1 0 + below N x levels) ≡ nat_lt 0 (cond b 1 0 + below M x levels)
  unfolding below
  at-or-below levels x true at each = grind (arith, nat_tests)
  at-or-below levels x false at each =
      let t : ModId → ℕ = λ m. total At N m levels in
      let u : ModId → ℕ = λ m. total At M m levels in
      let sums : nat_lt 0 (below N x levels) ≡ nat_lt 0 (below M x levels) =
      ap (nat_lt 0) (sum-masters t (insts_of (module_of N x)) ∙ ap (sum_by t) (same x (sym at)))
      ∙ some-same t u each (masters_of (module_of M x))
      ∙ ap (nat_lt 0) (sym (sum-masters u (insts_of (module_of M x)))) in
      grind (arith, sums)

  leads-same : (levels : ℕ) (x : ModId) → nat_lt 0 (total At N x levels) ≡ nat_lt 0 (total At M x levels)
  unfolding total At below
  leads-same zero x = refl
  leads-same (suc levels) x = at-or-below levels x (x.0 == id.0) refl (leads-same levels)

  leads-still : (from : ModId) → leads_to N from id ≡ leads_to M from id
  unfolding At
  leads-still from = leads-total N from id ∙ leads-same 257 from ∙ sym (leads-total M from id)

-- a module that has an instance

some-insts : (insts : List PInst) → is_some (option_map (λ (inst : PInst). inst.id) (find (λ inst. true) insts)) ≡ true → 0 < length (map Master insts)
some-insts [] none = let never : false ≡ true = none in absurd (cc)
some-insts (x ∷ xs) some = omega arith

module _ (S : State) (id leaf : ModId) (name : List ℕ) where
  abbrev M : Plain
  M = S.plain

  abbrev N : Plain
  N = create_inst M id name leaf

  grow : PModule → PModule
  grow = with_new_inst name leaf (all_open (module_of M leaf))

  changed : PModule → PModule
  changed h = cond (h.id.0 == id.0) (grow h) h

  kept-id : (b : Bool) (h : PModule) → (cond b (grow h) h).id ≡ h.id
  unfolding grow
  kept-id true h = refl
  kept-id false h = refl

  found : (x : ModId) → module_of N x ≡ option_map changed (module_of M x)
  unfolding grow changed
  found x = changed-found changed (λ h. kept-id (h.id.0 == id.0) h) x M.modules

  kept-masters : (o : Option PModule) (x : ModId) → o ≡ module_of M x → (x.0 == id.0) ≡ false → masters_of (option_map changed o) ≡ masters_of o
  unfolding changed
  kept-masters None x at other = refl
  kept-masters (Some h) x at other =
      let own : (h.id.0 == id.0) ≡ false = ap (λ (n : ModId). n.0 == id.0) (id-of_found M x h (sym at)) ∙ other in
      rw own refl

  -- a walk leads to the module with an instance more as it did without
  pub grown-leads : (from : ModId) → leads_to N from id ≡ leads_to M from id
  grown-leads = leads-still M N id (λ x other. ap masters_of (found x) ∙ kept-masters (module_of M x) x refl other)

  no-more : (ms : List ModId) → ms ++ [] ≡ ms
  no-more [] = refl
  no-more (m ∷ ms) = ap (λ rest. m ∷ rest) (no-more ms)

  masters-by : (b : Bool) (h : PModule) → masters_of (Some (cond b (grow h) h)) ≡ masters_of (Some h) ++ cond b (leaf ∷ []) []
  unfolding grow
  masters-by true h = map-append Master h.insts _
  masters-by false h = sym (no-more (map Master h.insts))

  module _ (good : IsGoodState S) (live : IsTrue (is_some (module_of M id))) (inner : is_leaf (module_of M id) ≡ false)
      (cell : is_leaf (module_of M leaf) ≡ true) (some : is_some (inst_after S id None) ≡ true) where
    absent-by : (b : Bool) (x : ModId) → b ≡ (x.0 == id.0) → None ≡ module_of M x → [] ≡ cond b (leaf ∷ []) []
    absent-by true x at absent =
        let gone : None ≡ module_of M id = absent ∙ ap (module_of M) (same-id x id (sym at)) in
        let never : false ≡ true = ap is_some gone ∙ live in
        absurd (cc)
    absent-by false x at absent = refl

    more-by : (x : ModId) (o : Option PModule) → o ≡ module_of M x → masters_of (option_map changed o) ≡ masters_of o ++ cond (x.0 == id.0) (leaf ∷ []) []
    unfolding changed
    more-by x None at = absent-by (x.0 == id.0) x refl at
    more-by x (Some h) at =
        masters-by (h.id.0 == id.0) h
        ∙ ap (λ (n : ModId). masters_of (Some h) ++ cond (n.0 == id.0) (leaf ∷ []) []) (id-of_found M x h (sym at))

    more : (x : ModId) → masters_of (module_of N x) ≡ masters_of (module_of M x) ++ cond (x.0 == id.0) (leaf ∷ []) []
    more x = ap masters_of (found x) ∙ more-by x (module_of M x) refl

    apart : (leaf.0 == id.0) ≡ false
    apart = by-cases (leaf.0 == id.0) refl
      where
        by-cases : (b : Bool) → b ≡ (leaf.0 == id.0) → b ≡ false
        by-cases true at =
            let never : false ≡ true = sym inner ∙ ap (λ (m : ModId). is_leaf (module_of M m)) (sym (same-id leaf id (sym at))) ∙ cell in
            absurd (cc)
        by-cases false at = refl

    empty : masters_of (module_of N leaf) ≡ []
    empty =
        more leaf
        ∙ ap₂ (λ insts b. map Master insts ++ cond b (leaf ∷ []) []) (leaf-empty M good.table.sound leaf (module_of M leaf) refl cell) apart

    full : 0 < length (masters_of (module_of M id))
    full = some-insts (insts_of (module_of M id)) some

    bits-by : (b : Bool) (h : PModule) → bits_of (Some (cond b (grow h) h)) ≡ bits_of (Some h)
    unfolding grow
    bits-by true h = refl
    bits-by false h = refl

    bits-in : (o : Option PModule) → bits_of (option_map changed o) ≡ bits_of o
    unfolding changed
    bits-in None = refl
    bits-in (Some h) = bits-by (h.id.0 == id.0) h

    same-bits : (x : ModId) → bits_of (module_of N x) ≡ bits_of (module_of M x)
    same-bits x = ap bits_of (found x) ∙ bits-in (module_of M x)

    no-bits : (o : Option PModule) → is_leaf o ≡ true → bits_of o ≡ 0
    no-bits None leaf = refl
    no-bits (Some h) leaf = rw leaf refl

    short : (x : ModId) → height M x 257 ≤ 256
    short x = height-within M 256 good.table.sound good.table.within.depth x 257

    pub deep-with : is_too_deep N ≡ false
    deep-with = still-short M N id leaf full more empty short

    pub occurrences-with : nat_lt 1000000 ((totals S).occurrences + times S id) ≡ has_too_many_occurrences N S.top
    occurrences-with =
        let new : length (occurrences N S.top) ≡ total (λ m. 1) N S.top 257 = length-sum_by (occurrences N S.top) ∙ total-unfolded (λ m. 1) N 257 [] S.top in
        let old : length (occurrences M S.top) ≡ total (λ m. 1) M S.top 257 = length-sum_by (occurrences M S.top) ∙ total-unfolded (λ m. 1) M 257 [] S.top in
        let grown = total-with M N id leaf full more empty short (λ m. 1) (λ m. 1) (λ x. refl) S.top in
        let all : (totals S).occurrences + times S id ≡ length (occurrences N S.top) = omega (arith, new, old, grown, total-times M S.top id) in
        ap (nat_lt 1000000) all

    pub bits-with : has_too_many_bits N S.top ≡ false
    bits-with =
        let no : bits_of (module_of N leaf) ≡ 0 = same-bits leaf ∙ no-bits (module_of M leaf) cell in
        let grown = total-with M N id leaf full more empty short (λ m. bits_of (module_of N m)) (λ m. bits_of (module_of M m)) same-bits S.top in
        let nothing : bits_of (module_of N leaf) * total (λ m. cond (m.0 == id.0) 1 0) M S.top 257 ≡ 0 = rw no (omega arith) in
        let few : sum_by (λ (o : Occurrence). bits_of (module_of N o.1)) (occurrences N S.top) ≤ 4000000 =
        omega (arith, total-bits N S.top, total-bits M S.top, grown, nothing, good.table.within.bits) in
        grind (arith, nat_tests)

    pub leads-with : leads_to M leaf id ≡ false
    leads-with = leaf-leads M leaf id good.table.sound cell ∙ apart
