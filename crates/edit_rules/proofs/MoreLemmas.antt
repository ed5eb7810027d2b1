-- What one net more adds to the net bits of all occurrences.
use Rattle.std.proofs.Common.{◌≡◌, ℕ, zero, suc, ◌+◌, ◌*◌, ◌==◌, nat_lt, Bool, true, false, cond, List, [], ◌∷◌, ◌++◌, map, find, sum_by, count_by, is_some, Option, Some, None, option_map, IsTrue, refl, sym, ap, ap₂, ◌∙◌, arith}
use Rattle.std.proofs.Math.Nat.{mul-add}
use Rattle.std.proofs.lemmas.Bool.Decides.{nat_tests}
use Rattle.std.proofs.lemmas.List.Sums.{sum_by-cons, sum_by-append}
use Rattle.emh_base.specs.declared.ids.ModId.{ModId}
use Rattle.emh_base.specs.declared.plain.Dir.{Dir}
use Rattle.emh_base.specs.declared.plain.Range.{Range}
use Rattle.emh_base.specs.declared.plain.PNet.{PNet}
use Rattle.emh_base.specs.declared.plain.PInst.{PInst}
use Rattle.emh_base.specs.declared.plain.PModule.{PModule}
use Rattle.emh_base.specs.declared.plain.Plain.{Plain}
use Rattle.emh_base.specs.declared.state.State.{State}
use Rattle.flatten_rules.specs.Lookup.{module_of, insts_of, width}
use Rattle.flatten_rules.specs.Unfolding.{Occurrence, occurrences}
use Rattle.flatten_rules.specs.Limits.{bits_of}
use Rattle.flatten_rules.specs.Domains.{is_leaf}
use Rattle.flatten_rules.specs.Counting.{total}
use Rattle.flatten_rules.proofs.Walks.{id-of_found}
use Rattle.flatten_rules.specs.Changes.{with_module, with_insts, at_instances}
use Rattle.edit_rules.specs.Nets.{with_net, with_port, create_net, create_port}
use Rattle.flatten_rules.specs.Limits.{has_too_many_bits}
use Rattle.edit_rules.specs.Facts.{totals, times}
use Rattle.flatten_rules.proofs.Summing.{total-unfolded}

by_found : (b : Bool) (F : PModule → PModule) (x : PModule) (first second : Option PModule) → first ≡ option_map F second → cond b (Some (F x)) first ≡ option_map F (cond b (Some x) second)
by_found true F x first second same = refl
by_found false F x first second same = same

-- a module that is looked up where each one is changed and keeps its id
pub changed-found : (F : PModule → PModule) → ((m : PModule) → (F m).id ≡ m.id) → (id : ModId) (xs : List PModule) → find (λ m. m.id.0 == id.0) (map F xs) ≡ option_map F (find (λ m. m.id.0 == id.0) xs)
changed-found F ids id [] = refl
changed-found F ids id (x ∷ xs) =
    ap (λ (at : ModId). cond (at.0 == id.0) (Some (F x)) (find (λ m. m.id.0 == id.0) (map F xs))) (ids x)
    ∙ by_found (x.id.0 == id.0) F x (find (λ m. m.id.0 == id.0) (map F xs)) (find (λ m. m.id.0 == id.0) xs) (changed-found F ids id xs)

-- the masters of a module's instances
abbrev pub masters_of : Option PModule → List ModId
masters_of m = map (λ (inst : PInst). inst.master) (insts_of m)

pub sum-masters : (t : ModId → ℕ) (xs : List PInst) → sum_by (λ (inst : PInst). t inst.master) xs ≡ sum_by t (map (λ (inst : PInst). inst.master) xs)
sum-masters t [] = refl
sum-masters t (x ∷ xs) =
    omega (arith, sum_by-cons (λ (inst : PInst). t inst.master) x xs, sum_by-cons t x.master (map (λ (inst : PInst). inst.master) xs), sum-masters t xs)

pub sum-same : (t : ModId → ℕ) (xs ys : List PInst) → map (λ (inst : PInst). inst.master) xs ≡ map (λ (inst : PInst). inst.master) ys → sum_by (λ (inst : PInst). t inst.master) xs ≡ sum_by (λ (inst : PInst). t inst.master) ys
sum-same t xs ys same = sum-masters t xs ∙ ap (sum_by t) same ∙ sym (sum-masters t ys)

pub sum-split : {X : Type 0} (c a b : X → ℕ) → ((x : X) → c x ≡ a x + b x) → (xs : List X) → sum_by c xs ≡ sum_by a xs + sum_by b xs
sum-split c a b adds [] = refl
sum-split c a b adds (x ∷ xs) = omega (arith, adds x, sum_by-cons c x xs, sum_by-cons a x xs, sum_by-cons b x xs, sum-split c a b adds xs)

-- where instances have the same masters, sums of two numbers are sums of each
pub total-split : (M N : Plain) → ((x : ModId) → masters_of (module_of N x) ≡ masters_of (module_of M x)) → (a b c : ModId → ℕ) → ((x : ModId) → c x ≡ a x + b x)
    → (levels : ℕ) (x : ModId) → total c N x levels ≡ total a M x levels + total b M x levels
unfolding total
total-split M N same a b c adds zero x = refl
total-split M N same a b c adds (suc levels) x =
    let below : PInst → ℕ = λ inst. total c N inst.master levels in
    let first : PInst → ℕ = λ inst. total a M inst.master levels in
    let second : PInst → ℕ = λ inst. total b M inst.master levels in
    let sums : sum_by below (insts_of (module_of N x)) ≡ sum_by first (insts_of (module_of M x)) + sum_by second (insts_of (module_of M x)) =
    sum-same (λ y. total c N y levels) (insts_of (module_of N x)) (insts_of (module_of M x)) (same x)
    ∙ sum-split below first second (λ inst. total-split M N same a b c adds levels inst.master) (insts_of (module_of M x)) in
    omega (arith, adds x, sums)

sum-scaled : {X : Type 0} (w : ℕ) (c a : X → ℕ) → ((x : X) → c x ≡ w * a x) → (xs : List X) → sum_by c xs ≡ w * sum_by a xs
sum-scaled w c a scaled [] = omega arith
sum-scaled w c a scaled (x ∷ xs) =
    let here : sum_by c (x ∷ xs) ≡ w * a x + w * sum_by a xs = omega (arith, sum_by-cons c x xs, scaled x, sum-scaled w c a scaled xs) in
    here ∙ sym (mul-add w (a x) (sum_by a xs)) ∙ ap (λ n. w * n) (sym (sum_by-cons a x xs))

one-scaled : (w : ℕ) (b : Bool) → cond b w 0 ≡ w * cond b 1 0
one-scaled w true = omega arith
one-scaled w false = omega arith

pub total-scaled : (w : ℕ) (p : ModId → Bool) (M : Plain) (levels : ℕ) (x : ModId) → total (λ m. cond (p m) w 0) M x levels ≡ w * total (λ m. cond (p m) 1 0) M x levels
unfolding total
total-scaled w p M zero x = omega arith
total-scaled w p M (suc levels) x =
    let below : PInst → ℕ = λ inst. total (λ m. cond (p m) 1 0) M inst.master levels in
    let sums = sum-scaled w (λ (inst : PInst). total (λ m. cond (p m) w 0) M inst.master levels) below (λ inst. total-scaled w p M levels inst.master) (insts_of (module_of M x)) in
    omega (arith, one-scaled w (p x), sums, mul-add w (cond (p x) 1 0) (sum_by below (insts_of (module_of M x))))

abbrev bits_in : Plain → ModId → ℕ
bits_in M x = bits_of (module_of M x)

pub total-bits : (M : Plain) (top : ModId) → sum_by (λ (o : Occurrence). bits_of (module_of M o.1)) (occurrences M top) ≡ total (bits_in M) M top 257
total-bits M top = total-unfolded (bits_in M) M 257 [] top

pub total-times : (M : Plain) (top id : ModId) → count_by (λ (o : Occurrence). o.1.0 == id.0) (occurrences M top) ≡ total (λ m. cond (m.0 == id.0) 1 0) M top 257
total-times M top id = total-unfolded (λ m. cond (m.0 == id.0) 1 0) M 257 [] top

module _ (S : State) (id : ModId) (w : ℕ) (N : Plain)
    (same : (x : ModId) → masters_of (module_of N x) ≡ masters_of (module_of S.plain x))
    (adds : (x : ModId) → bits_of (module_of N x) ≡ bits_of (module_of S.plain x) + cond (x.0 == id.0) w 0) where
  -- a module with so many bits more
  pub bits-more : nat_lt 4000000 ((totals S).bits + w * times S id) ≡ has_too_many_bits N S.top
  bits-more =
      let split : total (bits_in N) N S.top 257 ≡ total (bits_in S.plain) S.plain S.top 257 + total (λ m. cond (m.0 == id.0) w 0) S.plain S.top 257 =
      total-split S.plain N same (bits_in S.plain) (λ m. cond (m.0 == id.0) w 0) (bits_in N) adds 257 S.top in
      let scaled : total (λ m. cond (m.0 == id.0) w 0) S.plain S.top 257 ≡ w * times S id =
      total-scaled w (λ m. m.0 == id.0) S.plain 257 S.top ∙ ap (λ n. w * n) (sym (total-times S.plain S.top id)) in
      let all : (totals S).bits + w * times S id ≡ sum_by (λ (o : Occurrence). bits_of (module_of N o.1)) (occurrences N S.top) =
      omega (arith, total-bits S.plain S.top, total-bits N S.top, split, scaled) in
      ap (nat_lt 4000000) all

net-bits : (h : PModule) (name : List ℕ) (range : Option Range) → h.leaf ≡ false → bits_of (Some (with_net name range h)) ≡ bits_of (Some h) + width range
net-bits h name range inner =
    let wide : PNet → ℕ = λ net. width net.range in
    let net : PNet = record { id = record { 0 = h.next_net }; name = name; range = range } in
    let sums : sum_by wide (h.nets ++ net ∷ []) ≡ sum_by wide h.nets + width range = omega (arith, sum_by-append wide h.nets (net ∷ []), sum_by-cons wide net []) in
    rw inner sums

module _ (M : Plain) (id : ModId) (w : ℕ) (f : PModule → PModule) (live : IsTrue (is_some (module_of M id))) (inner : is_leaf (module_of M id) ≡ false)
    (more : (h : PModule) → h.leaf ≡ false → bits_of (Some (f h)) ≡ bits_of (Some h) + w) where
  F : PModule → PModule
  F h = cond (h.id.0 == id.0) (f h) h

  make : ℕ → ModId
  make n = record { 0 = n }

  none-by : (b : Bool) (x : ModId) → b ≡ (x.0 == id.0) → None ≡ module_of M x → cond b w 0 ≡ 0
  unfolding make
  none-by true x is absent =
      let same : x ≡ id = ap make (by-number x.0 id.0 (sym is)) in
      let gone : None ≡ module_of M id = absent ∙ ap (module_of M) same in
      let never : false ≡ true = ap is_some gone ∙ live in
      absurd (cc)
    where
      by-number : (m n : ℕ) → (m == n) ≡ true → m ≡ n
      by-number m n e = grind (arith, nat_tests)
  none-by false x is absent = refl

  some-by : (b : Bool) (h : PModule) (x : ModId) → b ≡ (x.0 == id.0) → Some h ≡ module_of M x → bits_of (Some (cond b (f h) h)) ≡ bits_of (Some h) + cond b w 0
  unfolding make
  some-by true h x is found =
      let same : x ≡ id = ap make (by-number x.0 id.0 (sym is)) in
      let here : Some h ≡ module_of M id = found ∙ ap (module_of M) same in
      more h (ap is_leaf here ∙ inner)
    where
      by-number : (m n : ℕ) → (m == n) ≡ true → m ≡ n
      by-number m n e = grind (arith, nat_tests)
  some-by false h x is found = omega arith

  bits-by : (x : ModId) (found : Option PModule) → found ≡ module_of M x → bits_of (option_map F found) ≡ bits_of found + cond (x.0 == id.0) w 0
  unfolding F
  bits-by x None at = omega (arith, none-by (x.0 == id.0) x refl at)
  bits-by x (Some h) at =
      let own : h.id ≡ x = id-of_found M x h (sym at) in
      ap (λ (n : ModId). bits_of (Some (cond (n.0 == id.0) (f h) h))) own ∙ some-by (x.0 == id.0) h x refl at

  pub module-bits : ((h : PModule) → (f h).id ≡ h.id) → (x : ModId) → bits_of (module_of (with_module M id f) x) ≡ bits_of (module_of M x) + cond (x.0 == id.0) w 0
  unfolding F
  module-bits ids x =
      ap bits_of (changed-found F (λ h. kept-id (h.id.0 == id.0) h (ids h)) x M.modules) ∙ bits-by x (module_of M x) refl
    where
      kept-id : (b : Bool) (h : PModule) → (f h).id ≡ h.id → (cond b (f h) h).id ≡ h.id
      kept-id true h same = same
      kept-id false h same = refl

-- masters stay where instances do

kept_masters : (F : PModule → PModule) → ((m : PModule) → masters_of (Some (F m)) ≡ masters_of (Some m)) → (found : Option PModule) → masters_of (option_map F found) ≡ masters_of found
kept_masters F same None = refl
kept_masters F same (Some m) = same m

pub module-masters : (M : Plain) (id : ModId) (f : PModule → PModule) → ((h : PModule) → (f h).id ≡ h.id) → ((h : PModule) → masters_of (Some (f h)) ≡ masters_of (Some h)) → (x : ModId) → masters_of (module_of (with_module M id f) x) ≡ masters_of (module_of M x)
module-masters M id f ids same x =
    let F : PModule → PModule = λ h. cond (h.id.0 == id.0) (f h) h in
    ap masters_of (changed-found F (λ h. kept-id (h.id.0 == id.0) h (ids h)) x M.modules)
    ∙ kept_masters F (λ h. kept-masters (h.id.0 == id.0) h (same h)) (module_of M x)
  where
    kept-id : (b : Bool) (h : PModule) → (f h).id ≡ h.id → (cond b (f h) h).id ≡ h.id
    kept-id true h e = e
    kept-id false h e = refl

    kept-masters : (b : Bool) (h : PModule) → masters_of (Some (f h)) ≡ masters_of (Some h) → masters_of (Some (cond b (f h) h)) ≡ masters_of (Some h)
    kept-masters true h e = e
    kept-masters false h e = refl

inst-masters : (g : PInst → PInst) → ((i : PInst) → (g i).master ≡ i.master) → (id : ModId) (xs : List PInst) → map (λ (inst : PInst). inst.master) (map (λ inst. cond (inst.master.0 == id.0) (g inst) inst) xs) ≡ map (λ (inst : PInst). inst.master) xs
inst-masters g same id [] = refl
inst-masters g same id (x ∷ xs) = ap₂ (λ m ms. m ∷ ms) (one (x.master.0 == id.0)) (inst-masters g same id xs)
  where
    one : (b : Bool) → (cond b (g x) x).master ≡ x.master
    one true = same x
    one false = refl

module _ (M : Plain) (id : ModId) (g : PInst → PInst) (stay : (i : PInst) → (g i).master ≡ i.master) where
  abbrev G : PModule → PModule
  G = with_insts (λ inst. cond (inst.master.0 == id.0) (g inst) inst)

  pub instances-masters : (x : ModId) → masters_of (module_of (at_instances M id g) x) ≡ masters_of (module_of M x)
  instances-masters x = ap masters_of (changed-found G (λ h. refl) x M.modules) ∙ kept_masters G (λ h. inst-masters g stay id h.insts) (module_of M x)

  same_bits : (found : Option PModule) → bits_of (option_map G found) ≡ bits_of found
  same_bits None = refl
  same_bits (Some h) = refl

  pub instances-bits : (x : ModId) → bits_of (module_of (at_instances M id g) x) ≡ bits_of (module_of M x)
  instances-bits x = ap bits_of (changed-found G (λ h. refl) x M.modules) ∙ same_bits (module_of M x)

module _ (S : State) (id : ModId) (range : Option Range) (live : IsTrue (is_some (module_of S.plain id))) (inner : is_leaf (module_of S.plain id) ≡ false) where
  pub net-more : (name : List ℕ) → nat_lt 4000000 ((totals S).bits + width range * times S id) ≡ has_too_many_bits (create_net S.plain id name range) S.top
  net-more name =
      bits-more S id (width range) (create_net S.plain id name range)
      (module-masters S.plain id (with_net name range) (λ h. refl) (λ h. refl))
      (module-bits S.plain id (width range) (with_net name range) live inner (λ h leaf. net-bits h name range leaf) (λ h. refl))

  pub port-more : (name : List ℕ) (dir : Dir) → nat_lt 4000000 ((totals S).bits + width range * times S id) ≡ has_too_many_bits (create_port S.plain id name dir range) S.top
  port-more name dir =
      let inside : Plain = with_module S.plain id (with_port name dir range) in
      bits-more S id (width range) (create_port S.plain id name dir range)
      (λ x. instances-masters inside id _ (λ i. refl) x ∙ module-masters S.plain id (with_port name dir range) (λ h. refl) (λ h. refl) x)
      (λ x. instances-bits inside id _ (λ i. refl) x ∙ module-bits S.plain id (width range) (with_port name dir range) live inner (λ h leaf. net-bits h name range leaf) (λ h. refl) x)
