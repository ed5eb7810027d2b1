-- Limits are the same in tables that are alike.
use Rattle.std.proofs.Common.{◌≡◌, ℕ, zero, suc, ◌<◌, ◌==◌, max, min, nat_lt, Bool, true, false, cond, ◌||◌, List, [], ◌∷◌, ◌++◌, map, sum_by, Option, Some, None, option_map, AllPairs, refl, sym, ap, ap₂, ◌∙◌, arith}
use Rattle.std.specs.List.{list_any}
use Rattle.std.proofs.lemmas.List.{map-append}
use Rattle.std.proofs.lemmas.List.Sums.{sum_by-cons}
use Rattle.emh_base.specs.declared.ids.ModId.{ModId}
use Rattle.emh_base.specs.declared.plain.Conn.{Conn}
use Rattle.emh_base.specs.declared.plain.PNet.{PNet}
use Rattle.emh_base.specs.declared.plain.PInst.{PInst}
use Rattle.emh_base.specs.declared.plain.PModule.{PModule}
use Rattle.emh_base.specs.declared.plain.Plain.{Plain}
use Rattle.flatten_rules.specs.Lookup.{module_of, insts_of, width}
use Rattle.flatten_rules.specs.Limits.{bits_of}
use Rattle.flatten_rules.specs.Counting.{total, height, greatest_by}
use Rattle.flatten_rules.specs.Changes.{with_module}
use Rattle.edit_rules.specs.Insts.{with_inst_alone, with_new_inst}
use Rattle.flatten_rules.specs.Limits.{is_too_deep, has_too_many_occurrences, has_too_many_bits, leads_to}
use Rattle.edit_rules.specs.inside.Outline.{bare_inst, bare_net, bare, outline, IsAlike}
use Rattle.edit_rules.proofs.OrderLemmas.{rises-map}
use Rattle.flatten_rules.proofs.Heights.{greatest-same}
use Rattle.flatten_rules.proofs.Summing.{many-occurrences, many-bits, leads-counted}
use Rattle.edit_rules.proofs.MoreLemmas.{masters_of, sum-same, changed-found}

greatest-masters : (t : ModId → ℕ) (xs : List PInst) → greatest_by (λ (inst : PInst). t inst.master) xs ≡ greatest_by t (map (λ (inst : PInst). inst.master) xs)
greatest-masters t [] = refl
greatest-masters t (x ∷ xs) = ap (max (t x.master)) (greatest-masters t xs)

sum-each : {X : Type 0} (a b : X → ℕ) → ((x : X) → a x ≡ b x) → (xs : List X) → sum_by a xs ≡ sum_by b xs
sum-each a b same [] = refl
sum-each a b same (x ∷ xs) = omega (arith, same x, sum_by-cons a x xs, sum_by-cons b x xs, sum-each a b same xs)

any-ids : (t : ModId → Bool) (xs : List PModule) → list_any (λ (m : PModule). t m.id) xs ≡ list_any t (map (λ (m : PModule). m.id) xs)
any-ids t [] = refl
any-ids t (x ∷ xs) = ap (λ any. t x.id || any) (any-ids t xs)

any-same : (t u : ModId → Bool) → ((x : ModId) → t x ≡ u x) → (xs : List ModId) → list_any t xs ≡ list_any u xs
any-same t u same [] = refl
any-same t u same (x ∷ xs) = ap₂ (λ here more. here || more) (same x) (any-same t u same xs)

module _ (A B : Plain) (alike : IsAlike A B) where
  height-alike : (levels : ℕ) (x : ModId) → height A x levels ≡ height B x levels
  unfolding height
  height-alike zero x = refl
  height-alike (suc levels) x =
      let t : ModId → ℕ = λ y. suc (height A y levels) in
      greatest-masters t (insts_of (module_of A x)) ∙ ap (greatest_by t) (alike.masters x) ∙ sym (greatest-masters t (insts_of (module_of B x)))
      ∙ greatest-same (λ (inst : PInst). suc (height A inst.master levels)) (λ (inst : PInst). suc (height B inst.master levels)) (λ inst. ap suc (height-alike levels inst.master)) (insts_of (module_of B x))

  total-alike : (a b : ModId → ℕ) → ((x : ModId) → a x ≡ b x) → (levels : ℕ) (x : ModId) → total a A x levels ≡ total b B x levels
  unfolding total
  total-alike a b same zero x = refl
  total-alike a b same (suc levels) x =
      let below : sum_by (λ (inst : PInst). total a A inst.master levels) (insts_of (module_of A x)) ≡ sum_by (λ (inst : PInst). total b B inst.master levels) (insts_of (module_of B x)) =
      sum-same (λ y. total a A y levels) (insts_of (module_of A x)) (insts_of (module_of B x)) (alike.masters x)
      ∙ sum-each (λ (inst : PInst). total a A inst.master levels) (λ (inst : PInst). total b B inst.master levels) (λ inst. total-alike a b same levels inst.master) (insts_of (module_of B x)) in
      omega (arith, same x, below)

  pub deep-alike : is_too_deep A ≡ is_too_deep B
  deep-alike =
      any-ids (λ x. nat_lt 256 (height A x 257)) A.modules ∙ ap (list_any (λ x. nat_lt 256 (height A x 257))) alike.ids
      ∙ any-same (λ x. nat_lt 256 (height A x 257)) (λ x. nat_lt 256 (height B x 257)) (λ x. ap (nat_lt 256) (height-alike 257 x)) (map (λ (m : PModule). m.id) B.modules)
      ∙ sym (any-ids (λ x. nat_lt 256 (height B x 257)) B.modules)

  pub occurrences-alike : (top : ModId) → has_too_many_occurrences A top ≡ has_too_many_occurrences B top
  occurrences-alike top =
      many-occurrences A top ∙ ap (λ n. nat_lt 1000000 (min n 4000001)) (total-alike (λ m. 1) (λ m. 1) (λ m. refl) 257 top) ∙ sym (many-occurrences B top)

  pub bits-alike : (top : ModId) → has_too_many_bits A top ≡ has_too_many_bits B top
  bits-alike top =
      many-bits A top
      ∙ ap (λ n. nat_lt 4000000 (min n 4000001)) (total-alike (λ m. bits_of (module_of A m)) (λ m. bits_of (module_of B m)) alike.bits 257 top) ∙ sym (many-bits B top)

  pub leads-alike : (from to : ModId) → leads_to A from to ≡ leads_to B from to
  leads-alike from to =
      let one : ModId → ℕ = λ m. cond (m.0 == to.0) 1 0 in
      leads-counted A from to ∙ ap (λ n. nat_lt 0 (min n 4000001)) (total-alike one one (λ m. refl) 257 from) ∙ sym (leads-counted B from to)

-- an outline

bare-masters : (name : List ℕ) (xs : List PInst) → map (λ (inst : PInst). inst.master) (map (bare_inst name) xs) ≡ map (λ (inst : PInst). inst.master) xs
bare-masters name [] = refl
bare-masters name (x ∷ xs) = ap (λ ms. x.master ∷ ms) (bare-masters name xs)

bare-widths : (name : List ℕ) (xs : List PNet) → sum_by (λ (net : PNet). width net.range) (map (bare_net name) xs) ≡ sum_by (λ (net : PNet). width net.range) xs
bare-widths name [] = refl
bare-widths name (x ∷ xs) =
    let wide : PNet → ℕ = λ net. width net.range in
    omega (arith, sum_by-cons wide (bare_net name x) (map (bare_net name) xs), sum_by-cons wide x xs, bare-widths name xs)

module _ (name : List ℕ) (M : Plain) where
  bare-found : (x : ModId) → module_of (outline name M) x ≡ option_map (bare name) (module_of M x)
  bare-found x = changed-found (bare name) (λ m. refl) x M.modules

  masters-by : (found : Option PModule) → masters_of (option_map (bare name) found) ≡ masters_of found
  masters-by None = refl
  masters-by (Some m) = bare-masters name m.insts

  bits-by : (found : Option PModule) → bits_of (option_map (bare name) found) ≡ bits_of found
  bits-by None = refl
  bits-by (Some m) = ap (cond m.leaf 0) (bare-widths name m.nets)

  bare-ids : (xs : List PModule) → map (λ (m : PModule). m.id) (map (bare name) xs) ≡ map (λ (m : PModule). m.id) xs
  bare-ids [] = refl
  bare-ids (x ∷ xs) = ap (λ ids. x.id ∷ ids) (bare-ids xs)

  -- with an instance more
  module _ (id : ModId) (new : List ℕ) (master : ModId) (conns others : List Conn) where
    alone : PModule → PModule
    alone h = cond (h.id.0 == id.0) (with_inst_alone new master conns h) h

    counted : PModule → PModule
    counted h = cond (h.id.0 == id.0) (with_new_inst new master others h) h

    abbrev Out : Plain
    Out = with_module (outline name M) id (with_inst_alone new master conns)

    abbrev In : Plain
    In = with_module M id (with_new_inst new master others)

    same-id : (b : Bool) (x y : PModule) → x.id ≡ y.id → (cond b x y).id ≡ y.id
    same-id true x y same = same
    same-id false x y same = refl

    out-found : (x : ModId) → module_of Out x ≡ option_map alone (option_map (bare name) (module_of M x))
    unfolding alone
    out-found x = changed-found alone (λ h. same-id (h.id.0 == id.0) (with_inst_alone new master conns h) h refl) x (map (bare name) M.modules) ∙ ap (option_map alone) (bare-found x)

    in-found : (x : ModId) → module_of In x ≡ option_map counted (module_of M x)
    unfolding counted
    in-found x = changed-found counted (λ h. same-id (h.id.0 == id.0) (with_new_inst new master others h) h refl) x M.modules

    grown-masters-by : (b : Bool) (h : PModule) → masters_of (Some (cond b (with_inst_alone new master conns (bare name h)) (bare name h))) ≡ masters_of (Some (cond b (with_new_inst new master others h) h))
    grown-masters-by true h =
        map-append (λ (inst : PInst). inst.master) (map (bare_inst name) h.insts) _
        ∙ ap (λ ms. ms ++ master ∷ []) (bare-masters name h.insts)
        ∙ sym (map-append (λ (inst : PInst). inst.master) h.insts _)
    grown-masters-by false h = bare-masters name h.insts

    grown-bits-by : (b : Bool) (h : PModule) → bits_of (Some (cond b (with_inst_alone new master conns (bare name h)) (bare name h))) ≡ bits_of (Some (cond b (with_new_inst new master others h) h))
    grown-bits-by true h = ap (cond h.leaf 0) (bare-widths name h.nets)
    grown-bits-by false h = ap (cond h.leaf 0) (bare-widths name h.nets)

    grown-masters : (found : Option PModule) → masters_of (option_map alone (option_map (bare name) found)) ≡ masters_of (option_map counted found)
    unfolding alone counted
    grown-masters None = refl
    grown-masters (Some h) = grown-masters-by (h.id.0 == id.0) h

    grown-bits : (found : Option PModule) → bits_of (option_map alone (option_map (bare name) found)) ≡ bits_of (option_map counted found)
    unfolding alone counted
    grown-bits None = refl
    grown-bits (Some h) = grown-bits-by (h.id.0 == id.0) h

    grown-ids : (xs : List PModule) → map (λ (m : PModule). m.id) (map alone (map (bare name) xs)) ≡ map (λ (m : PModule). m.id) (map counted xs)
    unfolding alone counted
    grown-ids [] = refl
    grown-ids (x ∷ xs) =
        ap₂ (λ i is. i ∷ is)
        (same-id (x.id.0 == id.0) (with_inst_alone new master conns (bare name x)) (bare name x) refl ∙ sym (same-id (x.id.0 == id.0) (with_new_inst new master others x) x refl))
        (grown-ids xs)

    pub grown-alike : IsAlike Out In
    unfolding alone counted
    grown-alike = record {
      ids = grown-ids M.modules;
      masters = λ x. ap masters_of (out-found x) ∙ grown-masters (module_of M x) ∙ ap masters_of (sym (in-found x));
      bits = λ x. ap bits_of (out-found x) ∙ grown-bits (module_of M x) ∙ ap bits_of (sym (in-found x));
    }

pub outline-rise : (name : List ℕ) (M : Plain) → AllPairs (λ (a b : PModule). a.id.0 < b.id.0) M.modules → AllPairs (λ (a b : PModule). a.id.0 < b.id.0) (outline name M).modules
outline-rise name M rise = rises-map (λ (m : PModule). m.id.0) (bare name) (λ m. refl) M.modules rise
