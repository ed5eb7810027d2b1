-- What the pins below an instance lead to, by what they lead to in its master.
use Rattle.std.proofs.Common.{◌≡◌, ℕ, zero, suc, ◌<◌, List, [], ◌∷◌, ◌++◌, map, flat_map, get_or, length, reverse, Option, Some, None, option_map, option_and_then, unwrap_or, is_some, All, refl, sym, ap, ap₂, ◌∙◌, arith}
use Rattle.std.proofs.lemmas.List.{reverse-append, length-append}
use Rattle.std.proofs.lemmas.List.Folds.{flat_map-map}
use Rattle.std.proofs.lemmas.Simd.{map-map}
use Rattle.emh_base.specs.declared.ids.ModId.{ModId}
use Rattle.emh_base.specs.declared.ids.NetId.{NetId}
use Rattle.emh_base.specs.declared.ids.InstId.{InstId}
use Rattle.emh_base.specs.declared.plain.Src.{Src}
use Rattle.emh_base.specs.declared.plain.Src.TheVariants as src
use Rattle.emh_base.specs.declared.plain.PInst.{PInst}
use Rattle.emh_base.specs.declared.plain.PModule.{PModule}
use Rattle.emh_base.specs.declared.plain.Plain.{Plain}
use Rattle.emh_base.specs.declared.root.Root.{Root}
use Rattle.emh_base.specs.declared.root.Root.TheVariants.{Own}
use Rattle.flatten_rules.specs.Lookup.{module_of, inst_of, insts_of}
use Rattle.flatten_rules.specs.Unfolding.{Occurrence, unfolded, module_up}
use Rattle.flatten_rules.specs.Root.{source_through, source_above, root_of_source, root_up}
use Rattle.reports.specs.inside.Below.{cell_bits, roots_at, roots_below, over, WalksBelow}
use Rattle.reports.proofs.Lists.{flat_map-each, flat_map-flat_map, map-flat_map, map-each}

-- an occurrence below an instance
abbrev pub under : InstId → Occurrence → Occurrence
under i o = (i ∷ o.0, o.1)

module _ (M : Plain) (m : ModId) (i : InstId) (holder : PModule) (inst : PInst) (there : module_of M m ≡ Some holder) (found : inst_of holder i ≡ Some inst) where
  pub module-below : (up : List InstId) → module_up M m (up ++ i ∷ []) ≡ module_up M inst.master up
  unfolding module_up
  module-below [] = rw (there, found) refl
  module-below (j ∷ up) = ap (λ (above : Option PModule). option_and_then (λ (x : PInst). module_of M x.master) (option_and_then (λ (x : PModule). inst_of x j) above)) (module-below up)

  source-below : (j : InstId) (up : List InstId) (net : NetId) (offset : ℕ) → source_above M m (j ∷ (up ++ i ∷ [])) net offset ≡ source_above M inst.master (j ∷ up) net offset
  source-below j up net offset =
      ap₂ (λ (last : Option PInst) (at : Option PModule). option_and_then (λ x. option_and_then (λ master. source_through x master net offset) at) last)
      (ap (λ (above : Option PModule). option_and_then (λ (x : PModule). inst_of x j) above) (module-below up))
      (module-below (j ∷ up))

  over-inside : (q : List InstId) (j : InstId) (net : NetId) (offset : ℕ) → over M m i (Own (q ++ j ∷ []) net offset) ≡ Own (i ∷ (q ++ j ∷ [])) net offset
  over-inside [] j net offset = refl
  over-inside (a ∷ q) j net offset = refl

  pub root-below : (up : List InstId) (net : NetId) (offset : ℕ) → root_up M m (up ++ i ∷ []) net offset ≡ over M m i (root_up M inst.master up net offset)
  unfolding root_up
  root-below [] net offset = refl
  root-below (j ∷ up) net offset =
      ap (λ s. unwrap_or (option_map (root_of_source (λ n k. root_up M m (up ++ i ∷ []) n k)) s) (Own (reverse (j ∷ (up ++ i ∷ []))) net offset)) (source-below j up net offset)
      ∙ through (λ n k. root-below up n k) (source_above M inst.master (j ∷ up) net offset)
    where
      through : ((n : NetId) (k : ℕ) → root_up M m (up ++ i ∷ []) n k ≡ over M m i (root_up M inst.master up n k)) → (s : Option Src)
          → unwrap_or (option_map (root_of_source (λ n k. root_up M m (up ++ i ∷ []) n k)) s) (Own (reverse (j ∷ (up ++ i ∷ []))) net offset)
          ≡ over M m i (unwrap_or (option_map (root_of_source (λ n k. root_up M inst.master up n k)) s) (Own (reverse (j ∷ up)) net offset))
      through same None =
          ap (λ p. Own p net offset) (reverse-append (j ∷ up) (i ∷ []) ∙ ap (λ p. i ∷ p) (reverse-append (j ∷ []) up))
          ∙ sym (over-inside (reverse up) j net offset)
          ∙ ap (λ p. over M m i (Own p net offset)) (sym (reverse-append (j ∷ []) up))
      through same (Some src.Tie0) = refl
      through same (Some src.Tie1) = refl
      through same (Some (src.Bit n k)) = same n k

  roots-under : (o : Occurrence) → roots_at M m (under i o) ≡ map (over M m i) (roots_at M inst.master o)
  roots-under o =
      map-each (λ (bit : NetId × ℕ). root_up M m (reverse (i ∷ o.0)) bit.0 bit.1) (λ bit. over M m i (root_up M inst.master (reverse o.0) bit.0 bit.1))
      (λ bit. ap (λ up. root_up M m up bit.0 bit.1) (reverse-append (i ∷ []) o.0) ∙ root-below (reverse o.0) bit.0 bit.1) (cell_bits (module_of M o.1))
      ∙ sym (map-map (over M m i) (λ (bit : NetId × ℕ). root_up M inst.master (reverse o.0) bit.0 bit.1) (cell_bits (module_of M o.1)))

-- an unfolding that begins one instance further down
shift : (M : Plain) (i : InstId) (levels : ℕ) (path : List InstId) (m : ModId) → unfolded M (i ∷ path) m levels ≡ map (under i) (unfolded M path m levels)
unfolding unfolded
shift M i zero path m = refl
shift M i (suc levels) path m =
    ap (λ (os : List Occurrence). (i ∷ path, m) ∷ os)
    (flat_map-each (λ (inst : PInst). unfolded M (i ∷ (path ++ inst.id ∷ [])) inst.master levels) (λ (inst : PInst). map (under i) (unfolded M (path ++ inst.id ∷ []) inst.master levels)) (insts_of (module_of M m))
    (λ k d within. shift M i levels (path ++ _ ∷ []) _)
    ∙ sym (map-flat_map (under i) (λ (inst : PInst). unfolded M (path ++ inst.id ∷ []) inst.master levels) (insts_of (module_of M m))))

-- each instance of a module is the one of its id
abbrev pub OwnInsts : Plain → Type 0
OwnInsts M = (m : ModId) (holder : PModule) → module_of M m ≡ Some holder → All (λ (inst : PInst). inst_of holder inst.id ≡ Some inst) holder.insts

-- what the pins of a leaf cell lead to, as if it were the top
abbrev pub own_roots : PModule → List Root
own_roots holder = map (λ (bit : NetId × ℕ). Own [] bit.0 bit.1) (cell_bits (Some holder))

module _ (M : Plain) (m : ModId) (levels : ℕ) where
  below : PInst → List Occurrence
  below inst = unfolded M (inst.id ∷ []) inst.master levels

  at-more : (found : Option PModule) → module_of M m ≡ found → roots_below M m (suc levels) ≡ map (λ (bit : NetId × ℕ). Own [] bit.0 bit.1) (cell_bits found) ++ flat_map (roots_at M m) (flat_map below (insts_of found))
  unfolding unfolded root_up below
  at-more found is = ap (λ (f : Option PModule). map (λ (bit : NetId × ℕ). Own [] bit.0 bit.1) (cell_bits f) ++ flat_map (roots_at M m) (flat_map (λ (inst : PInst). unfolded M (inst.id ∷ []) inst.master levels) (insts_of f))) is

  through-inst : (holder : PModule) → module_of M m ≡ Some holder → (inst : PInst) → inst_of holder inst.id ≡ Some inst → flat_map (roots_at M m) (below inst) ≡ map (over M m inst.id) (roots_below M inst.master levels)
  unfolding below
  through-inst holder there inst found =
      ap (flat_map (roots_at M m)) (shift M inst.id levels [] inst.master)
      ∙ flat_map-map (roots_at M m) (under inst.id) (unfolded M [] inst.master levels)
      ∙ flat_map-each (λ (o : Occurrence). roots_at M m (under inst.id o)) (λ (o : Occurrence). map (over M m inst.id) (roots_at M inst.master o)) (unfolded M [] inst.master levels)
      (λ k d within. roots-under M m inst.id holder inst there found (get_or (unfolded M [] inst.master levels) k d))
      ∙ sym (map-flat_map (over M m inst.id) (roots_at M inst.master) (unfolded M [] inst.master levels))

  -- one level more
  pub roots-step : (holder : PModule) → module_of M m ≡ Some holder → OwnInsts M → roots_below M m (suc levels) ≡ own_roots holder ++ flat_map (λ (inst : PInst). map (over M m inst.id) (roots_below M inst.master levels)) holder.insts
  roots-step holder there own =
      at-more (Some holder) there
      ∙ ap (λ rs. own_roots holder ++ rs)
      (flat_map-flat_map (roots_at M m) below holder.insts
      ∙ flat_map-each (λ (inst : PInst). flat_map (roots_at M m) (below inst)) (λ (inst : PInst). map (over M m inst.id) (roots_below M inst.master levels)) holder.insts
      (λ k d within. through-inst holder there (get_or holder.insts k d) (own m holder there k d within)))

  none-more : module_of M m ≡ None → roots_below M m (suc levels) ≡ []
  none-more none = at-more None none

-- a module that isn't there has none
roots-nowhere : (M : Plain) (m : ModId) (levels : ℕ) → module_of M m ≡ None → roots_below M m levels ≡ []
unfolding unfolded
roots-nowhere M m zero none = refl
roots-nowhere M m (suc levels) none = none-more M m levels none

pub up-none : (M : Plain) (m : ModId) → module_up M m [] ≡ module_of M m
unfolding module_up
up-none M m = refl

-- those from a master are shorter by one
pub walks-master : (M : Plain) (m : ModId) (levels : ℕ) (holder : PModule) (i : InstId) (inst : PInst) → module_of M m ≡ Some holder → inst_of holder i ≡ Some inst → WalksBelow M m (suc levels) → WalksBelow M inst.master levels
walks-master M m levels holder i inst there found short up some =
    let longer : length (up ++ i ∷ []) < suc levels = short (up ++ i ∷ []) (ap (λ (at : Option PModule). is_some at) (module-below M m i holder inst there found up) ∙ some) in
    omega (arith, longer, length-append up (i ∷ []))

no-walk : (M : Plain) (m : ModId) (found : Option PModule) → module_of M m ≡ found → WalksBelow M m 0 → module_of M m ≡ None
no-walk M m None is short = is
no-walk M m (Some holder) is short =
    let never : length {A = InstId} [] < 0 = short [] (ap (λ (at : Option PModule). is_some at) (up-none M m ∙ is)) in
    absurd (omega (arith, never))

-- where all walks are shorter, a level more changes nothing
pub roots-stay : (M : Plain) → OwnInsts M → (levels : ℕ) (m : ModId) → WalksBelow M m levels → roots_below M m levels ≡ roots_below M m (suc levels)
roots-stay M own zero m short =
    let none : module_of M m ≡ None = no-walk M m (module_of M m) refl short in
    roots-nowhere M m 0 none ∙ sym (roots-nowhere M m 1 none)
roots-stay M own (suc levels) m short = more (module_of M m) refl (λ inst below. roots-stay M own levels inst.master below)
  where
    more : (found : Option PModule) → module_of M m ≡ found → ((inst : PInst) → WalksBelow M inst.master levels → roots_below M inst.master levels ≡ roots_below M inst.master (suc levels)) → roots_below M m (suc levels) ≡ roots_below M m (suc (suc levels))
    more None is each = roots-nowhere M m (suc levels) is ∙ sym (roots-nowhere M m (suc (suc levels)) is)
    more (Some holder) is each =
        roots-step M m levels holder is own
        ∙ ap (λ rs. own_roots holder ++ rs)
        (flat_map-each (λ (inst : PInst). map (over M m inst.id) (roots_below M inst.master levels)) (λ (inst : PInst). map (over M m inst.id) (roots_below M inst.master (suc levels))) holder.insts
        (λ k d within.
        let inst : PInst = get_or holder.insts k d in
        ap (map (over M m inst.id)) (each inst (walks-master M m levels holder inst.id inst is (own m holder is k d within) short))))
        ∙ sym (roots-step M m (suc levels) holder is own)
