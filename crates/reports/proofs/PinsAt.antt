-- How many pins lead to a net bit, counted in the module of its occurrence.
use Rattle.std.proofs.Common.{◌≡◌, ◌≢◌, ℕ, suc, ◌+◌, ◌<◌, ◌==◌, Bool, true, false, cond, List, [], ◌∷◌, map, flat_map, reverse, find, get_or, sum_by, count_by, Option, Some, None, option_map, unwrap_or, All, AllPairs, refl, sym, ap, ◌∙◌, arith, eqb-true, eq-eqb}
use Rattle.std.proofs.lemmas.Bool.{true≢false}
use Rattle.std.proofs.lemmas.List.Sums.{sum_by-cons, sum_by-append}
use Rattle.emh_base.specs.declared.ids.ModId.{ModId}
use Rattle.emh_base.specs.declared.ids.NetId.{NetId}
use Rattle.emh_base.specs.declared.ids.InstId.{InstId}
use Rattle.emh_base.specs.declared.plain.Src.{Src}
use Rattle.emh_base.specs.declared.plain.Src.TheVariants as src
use Rattle.emh_base.specs.declared.plain.PInst.{PInst}
use Rattle.emh_base.specs.declared.plain.PModule.{PModule}
use Rattle.emh_base.specs.declared.plain.Plain.{Plain}
use Rattle.emh_base.specs.declared.root.Root.{Root}
use Rattle.emh_base.specs.declared.root.Root.TheVariants.{Tie0, Tie1, Own}
use Rattle.flatten_rules.specs.Lookup.{module_of, inst_of}
use Rattle.flatten_rules.specs.Root.{source_above, root_of_source, root_up}
use Rattle.reports.specs.Net.{is_same}
use Rattle.reports.specs.inside.Below.{cell_bits, roots_below, over}
use Rattle.reports.proofs.Roots.{same-root, same-itself}
use Rattle.reports.proofs.Lists.{sum-each, sum-map, sum-flat_map, sum-none}
use Rattle.reports.proofs.Below.{OwnInsts, own_roots, roots-step}

pub never-true : (b : Bool) → (b ≡ true → ⊥) → b ≡ false
never-true true never = absurd (never refl)
never-true false never = refl

pub never-same : (root other : Root) → (other ≡ root → ⊥) → is_same root other ≡ false
never-same root other apart = never-true (is_same root other) (λ same. apart (same-root root other same))

-- two tests that pass together are one
pub tell-alike : (a b : Bool) → (a ≡ true → b ≡ true) → (b ≡ true → a ≡ true) → a ≡ b
tell-alike true b there back = sym (there refl)
tell-alike false true there back = back refl
tell-alike false false there back = refl

pub same-alike : (root a other b : Root) → (a ≡ root → b ≡ other) → (b ≡ other → a ≡ root) → is_same root a ≡ is_same other b
same-alike root a other b there back =
    tell-alike (is_same root a) (is_same other b)
    (λ same. ap (is_same other) (there (same-root root a same)) ∙ same-itself other)
    (λ same. ap (is_same root) (back (same-root other b same)) ∙ same-itself root)

pub count-none : {X : Type 0} (p : X → Bool) (xs : List X) → ((x : X) → p x ≡ false) → count_by p xs ≡ 0
count-none p xs none = sum-none (λ x. cond (p x) 1 0) xs (λ x. ap (λ b. cond b 1 0) (none x))

pub count-each : {X : Type 0} (p q : X → Bool) (xs : List X) → ((x : X) → p x ≡ q x) → count_by p xs ≡ count_by q xs
count-each p q xs same = sum-each (λ x. cond (p x) 1 0) (λ x. cond (q x) 1 0) xs (λ k d within. ap (λ b. cond b 1 0) (same (get_or xs k d)))

-- pins counted instance by instance
pub count-step : (p : Root → Bool) (M : Plain) (m : ModId) (levels : ℕ) (holder : PModule) → module_of M m ≡ Some holder → OwnInsts M
    → count_by p (roots_below M m (suc levels)) ≡ count_by p (own_roots holder) + sum_by (λ (inst : PInst). count_by (λ r. p (over M m inst.id r)) (roots_below M inst.master levels)) holder.insts
count-step p M m levels holder there own =
    let one : Root → ℕ = λ r. cond (p r) 1 0 in
    let some : PInst → List Root = λ inst. map (over M m inst.id) (roots_below M inst.master levels) in
    ap (sum_by one) (roots-step M m levels holder there own)
    ∙ sum_by-append one (own_roots holder) (flat_map some holder.insts)
    ∙ ap (λ n. sum_by one (own_roots holder) + n)
    (sum-flat_map one some holder.insts
    ∙ sum-each (λ inst. sum_by one (some inst)) (λ (inst : PInst). count_by (λ r. p (over M m inst.id r)) (roots_below M inst.master levels)) holder.insts
    (λ k d within. let inst : PInst = get_or holder.insts k d in sum-map one (over M m inst.id) (roots_below M inst.master levels)))

-- the root of a net bit of an instance's master is a bit of the master only where it leads no further up
one-up : (M : Plain) (m : ModId) (i : InstId) (n : NetId) (k : ℕ) (j : InstId) (path : List InstId) (net : NetId) (offset : ℕ)
    → root_up M m (i ∷ []) n k ≡ Own (j ∷ path) net offset → Own (i ∷ []) n k ≡ Own (j ∷ path) net offset
unfolding root_up
one-up M m i n k j path net offset is = by_source (source_above M m (i ∷ []) n k) is
  where
    by_source : (s : Option Src) → unwrap_or (option_map (root_of_source (λ a b. Own [] a b)) s) (Own (i ∷ []) n k) ≡ Own (j ∷ path) net offset → Own (i ∷ []) n k ≡ Own (j ∷ path) net offset
    by_source None same = same
    by_source (Some src.Tie0) same = absurd (cc)
    by_source (Some src.Tie1) same = absurd (cc)
    by_source (Some (src.Bit a b)) same = absurd (cc)

module _ (M : Plain) (m : ModId) (i : InstId) (path : List InstId) (net : NetId) (offset : ℕ) where
  pub over-back : (r : Root) → over M m i r ≡ Own (i ∷ path) net offset → r ≡ Own path net offset
  over-back Tie0 is = absurd (cc)
  over-back Tie1 is = absurd (cc)
  over-back (Own [] n k) is =
      let same : Own (i ∷ []) n k ≡ Own (i ∷ path) net offset = one-up M m i n k i path net offset is in
      let paths : [] ≡ path = cc in
      let nets : n ≡ net = cc in
      let bits : k ≡ offset = cc in
      λ x. Own (paths x) (nets x) (bits x)
  over-back (Own (a ∷ q) n k) is =
      let paths : a ∷ q ≡ path = cc in
      let nets : n ≡ net = cc in
      let bits : k ≡ offset = cc in
      λ x. Own (paths x) (nets x) (bits x)

  over-own : root_up M m (reverse (i ∷ path)) net offset ≡ Own (i ∷ path) net offset → over M m i (Own path net offset) ≡ Own (i ∷ path) net offset
  over-own own = at path own
    where
      at : (p : List InstId) → root_up M m (reverse (i ∷ p)) net offset ≡ Own (i ∷ p) net offset → over M m i (Own p net offset) ≡ Own (i ∷ p) net offset
      at [] own = own
      at (a ∷ q) own = refl

  over-same : root_up M m (reverse (i ∷ path)) net offset ≡ Own (i ∷ path) net offset → (r : Root) → is_same (Own (i ∷ path) net offset) (over M m i r) ≡ is_same (Own path net offset) r
  over-same own r = same-alike (Own (i ∷ path) net offset) (over M m i r) (Own path net offset) r (over-back r) (λ is. ap (over M m i) is ∙ over-own own)

  -- no root below another instance is that
  over-other : (j : InstId) → j ≢ i → (r : Root) → is_same (Own (i ∷ path) net offset) (over M m j r) ≡ false
  over-other j apart Tie0 = never-same (Own (i ∷ path) net offset) Tie0 (λ is. cc)
  over-other j apart Tie1 = never-same (Own (i ∷ path) net offset) Tie1 (λ is. cc)
  over-other j apart (Own [] n k) = never-same (Own (i ∷ path) net offset) (root_up M m (j ∷ []) n k) (λ is.
      let same : Own (j ∷ []) n k ≡ Own (i ∷ path) net offset = one-up M m j n k i path net offset is in
      apart (let e : j ≡ i = cc in e))
  over-other j apart (Own (a ∷ q) n k) = never-same (Own (i ∷ path) net offset) (Own (j ∷ a ∷ q) n k) (λ is. apart (let e : j ≡ i = cc in e))

  own-none : (holder : PModule) → count_by (is_same (Own (i ∷ path) net offset)) (own_roots holder) ≡ 0
  own-none holder =
      sum-map (λ r. cond (is_same (Own (i ∷ path) net offset) r) 1 0) (λ (bit : NetId × ℕ). Own [] bit.0 bit.1) (cell_bits (Some holder))
      ∙ count-none (λ (bit : NetId × ℕ). is_same (Own (i ∷ path) net offset) (Own [] bit.0 bit.1)) (cell_bits (Some holder)) (λ bit. never-same (Own (i ∷ path) net offset) (Own [] bit.0 bit.1) (λ is. cc))

-- a sum over the one item that passes a test
sum-found : {X : Type 0} (test : X → Bool) (number : X → ℕ) (xs : List X) (x : X) → AllPairs (λ a b. test a ≡ true → test b ≡ false) xs → find test xs ≡ Some x → sum_by (λ y. cond (test y) (number y) 0) xs ≡ number x
sum-found test number [] x once found = absurd (cc)
sum-found {X} test number (y ∷ ys) x once found = at (test y) refl (λ later. sum-found test number ys x (λ i j d low within. once (suc i) (suc j) d (omega arith) (omega arith)) later) found
  where
    rest-none : test y ≡ true → (zs : List X) → All (λ z. test z ≡ false) zs → sum_by (λ z. cond (test z) (number z) 0) zs ≡ 0
    rest-none passes zs none =
        sum-each (λ z. cond (test z) (number z) 0) (λ z. 0) zs (λ k d within. ap (λ b. cond b (number (get_or zs k d)) 0) (none k d within)) ∙ sum-none (λ z. 0) zs (λ z. refl)

    at : (b : Bool) → test y ≡ b → (find test ys ≡ Some x → sum_by (λ z. cond (test z) (number z) 0) ys ≡ number x) → cond b (Some y) (find test ys) ≡ Some x → sum_by (λ z. cond (test z) (number z) 0) (y ∷ ys) ≡ number x
    at true is more here =
        let same : y ≡ x = cc in
        let others : All (λ z. test z ≡ false) ys = λ k d within. once 0 (suc k) d (omega arith) (omega arith) is in
        sum_by-cons (λ z. cond (test z) (number z) 0) y ys
        ∙ ap (λ n. cond (test y) (number y) 0 + n) (rest-none is ys others)
        ∙ ap (λ b. cond b (number y) 0 + 0) is
        ∙ ap (λ z. number z + 0) same ∙ omega arith
    at false is more later =
        sum_by-cons (λ z. cond (test z) (number z) 0) y ys
        ∙ ap (λ n. cond (test y) (number y) 0 + n) (more later)
        ∙ ap (λ b. cond b (number y) 0 + number x) is ∙ omega arith

-- the ids of a module's instances rise
abbrev pub RisingInsts : Plain → Type 0
RisingInsts M = (m : ModId) (holder : PModule) → module_of M m ≡ Some holder → AllPairs (λ (a b : PInst). a.id.0 < b.id.0) holder.insts

-- what leads to a net bit below an instance stands below that instance
pub pins-step : (M : Plain) (m : ModId) (levels : ℕ) (holder : PModule) (i : InstId) (inst : PInst) (path : List InstId) (net : NetId) (offset : ℕ)
    → OwnInsts M → RisingInsts M → module_of M m ≡ Some holder → inst_of holder i ≡ Some inst
    → root_up M m (reverse (i ∷ path)) net offset ≡ Own (i ∷ path) net offset
    → count_by (is_same (Own (i ∷ path) net offset)) (roots_below M m (suc levels)) ≡ count_by (is_same (Own path net offset)) (roots_below M inst.master levels)
pins-step M m levels holder i inst path net offset own rise there found is_own =
    let root : Root = Own (i ∷ path) net offset in
    let number : PInst → ℕ = λ x. count_by (is_same (Own path net offset)) (roots_below M x.master levels) in
    count-step (is_same root) M m levels holder there own
    ∙ ap (λ n. n + sum_by (λ (x : PInst). count_by (λ r. is_same root (over M m x.id r)) (roots_below M x.master levels)) holder.insts) (own-none M m i path net offset holder)
    ∙ ap (λ n. 0 + n)
    (sum-each (λ (x : PInst). count_by (λ r. is_same root (over M m x.id r)) (roots_below M x.master levels)) (λ (x : PInst). cond (x.id.0 == i.0) (number x) 0) holder.insts (λ k d within. let x : PInst = get_or holder.insts k d in each x (x.id.0 == i.0) refl)
    ∙ sum-found (λ (x : PInst). x.id.0 == i.0) number holder.insts inst (λ a b d low within. apart a b d low within) found)
    ∙ omega arith
  where
    same-id : (a b : InstId) → a.0 ≡ b.0 → a ≡ b
    same-id a b e = let make : ℕ → InstId = λ n. record { 0 = n } in ap make e

    each : (x : PInst) (b : Bool) → (x.id.0 == i.0) ≡ b → count_by (λ r. is_same (Own (i ∷ path) net offset) (over M m x.id r)) (roots_below M x.master levels) ≡ cond b (count_by (is_same (Own path net offset)) (roots_below M x.master levels)) 0
    each x true is =
        let at : x.id ≡ i = same-id x.id i (eqb-true x.id.0 i.0 is) in
        count-each (λ r. is_same (Own (i ∷ path) net offset) (over M m x.id r)) (is_same (Own path net offset)) (roots_below M x.master levels)
        (λ r. ap (λ (j : InstId). is_same (Own (i ∷ path) net offset) (over M m j r)) at ∙ over-same M m i path net offset is_own r)
    each x false is =
        count-none (λ r. is_same (Own (i ∷ path) net offset) (over M m x.id r)) (roots_below M x.master levels)
        (over-other M m i path net offset x.id (λ e. true≢false (sym (eq-eqb x.id.0 i.0 (ap (λ (j : InstId). j.0) e)) ∙ is)))

    apart : AllPairs (λ (a b : PInst). (a.id.0 == i.0) ≡ true → (b.id.0 == i.0) ≡ false) holder.insts
    apart a b d low within here =
        let x : PInst = get_or holder.insts a d in
        let y : PInst = get_or holder.insts b d in
        let less : x.id.0 < y.id.0 = rise m holder there a b d low within in
        let at : x.id.0 ≡ i.0 = eqb-true x.id.0 i.0 here in
        never-true (y.id.0 == i.0) (λ e. let other : y.id.0 ≡ i.0 = eqb-true y.id.0 i.0 e in omega (arith, less, at, other))
