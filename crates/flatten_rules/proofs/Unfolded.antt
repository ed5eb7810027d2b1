-- The law of walks: which occurrences an unfolding has.
use Rattle.std.proofs.Common.{◌≡◌, ◌≢◌, ℕ, zero, suc, ◌-◌, ◌<◌, ◌≤◌, ◌==◌, Bool, List, [], ◌∷◌, ◌++◌, length, reverse, flat_map, get_or, slice_get, Option, Some, None, option_map, option_and_then, AllPairs, Contains, append-nil, refl, sym, ap, ◌∙◌, subst, arith, ⊎_elim, ap₂, nat_lt, true, false}
use Rattle.std.specs.List.{position_or_len}
use Rattle.std.proofs.lemmas.Bool.{cases_lt}
use Rattle.std.proofs.lemmas.Bool.Decides.{nat_tests}
use Rattle.std.proofs.lemmas.Option.{slice_get_within, get_or_from_slice_get}
use Rattle.std.proofs.lemmas.List.{append_assoc, length-append, get_or_append_left, get_or-append_right, reverse-append, reverse-reverse, length-reverse}
use Rattle.std.proofs.lemmas.List.Elements.{All-contains, All-nil, All-cons, Contains-append_left, Contains-append_right, Contains-append_cases, Contains-get_or}
use Rattle.std.proofs.lemmas.List.Folds.{find_at}
use Rattle.std.specs.declared.cmp.Ordering.TheVariants.{Less, Equal}
use Rattle.std.specs.Ordering.{ordering_then}
use Rattle.emh_base.specs.Path.{step_cmp, path_cmp}
use Rattle.emh_base.specs.declared.ids.ModId.{ModId}
use Rattle.emh_base.specs.declared.ids.InstId.{InstId}
use Rattle.emh_base.specs.declared.plain.PInst.{PInst}
use Rattle.emh_base.specs.declared.plain.PModule.{PModule}
use Rattle.emh_base.specs.declared.plain.Plain.{Plain}
use Rattle.flatten_rules.specs.Lookup.{module_of, inst_of, insts_of, InstsRise}
use Rattle.flatten_rules.specs.Unfolding.{Occurrence, unfolded, occurrences, module_up}
use Rattle.flatten_rules.specs.Limits.{WalksAreShort}
use Rattle.flatten_rules.specs.Walk.{id_up, Unfolds, EachWalkOnce}
use Rattle.flatten_rules.specs.ByPath.{StandsBefore}
use Rattle.flatten_rules.proofs.Sound.{All-find}
use Rattle.flatten_rules.proofs.Walks.{find-own, find-passes, id-of_found, and_then-some}

-- Lists that are joined: what they have, and that it differs.

pub flat_map-has : {X Y : Type 0} (f : X → List Y) (xs : List X) (k : ℕ) (x : X) (y : Y) → k < length xs → get_or xs k x ≡ x → Contains (f x) y → Contains (flat_map f xs) y
flat_map-has f [] k x y within at has = absurd (omega arith)
flat_map-has f (z ∷ xs) zero x y within at has = Contains-append_left (f z) (flat_map f xs) y (subst (λ w. Contains (f w) y) (sym at) has)
flat_map-has f (z ∷ xs) (suc k) x y within at has = Contains-append_right (f z) (flat_map f xs) y (flat_map-has f xs k x y (omega arith) at has)

pub record Piece {X Y : Type 0} (f : X → List Y) (xs : List X) (y : Y) : Type 0 where
  pub place : ℕ
  pub item : X
  pub within : place < length xs
  pub at : get_or xs place item ≡ item
  pub has : Contains (f item) y

pub flat_map-from : {X Y : Type 0} (f : X → List Y) (xs : List X) (y : Y) → Contains (flat_map f xs) y → Piece f xs y
flat_map-from f [] y has = absurd (omega (arith, has.1))
flat_map-from f (z ∷ xs) y has = ⊎_elim
    (λ (front : Contains (f z) y). record { place = 0; item = z; within = omega arith; at = refl; has = front })
    (λ (behind : Contains (flat_map f xs) y).
    let piece = flat_map-from f xs y behind in
    record { place = suc piece.place; item = piece.item; within = omega (arith, piece.within); at = piece.at; has = piece.has })
    (Contains-append_cases (f z) (flat_map f xs) y has)

pairs-append : {X : Type 0} (R : X → X → Type 0) (xs ys : List X) → AllPairs R xs → AllPairs R ys → ((x y : X) → Contains xs x → Contains ys y → R x y) → AllPairs R (xs ++ ys)
pairs-append R xs ys front behind across i j d below within =
    ⊎_elim
    (λ (both : j < length xs). rw (get_or_append_left xs ys d i (omega arith), get_or_append_left xs ys d j both) (front i j d below both))
    (λ (past : length xs ≤ j).
    let in_ys : j - length xs < length ys = omega (arith, length-append xs ys) in
    let at_j : get_or (xs ++ ys) j d ≡ get_or ys (j - length xs) d = get_or-append_right xs ys (length xs) j d refl past in
    ⊎_elim
    (λ (low : i < length xs). rw (get_or_append_left xs ys d i low, at_j) (across (get_or xs i d) (get_or ys (j - length xs) d) (Contains-get_or xs i d low) (Contains-get_or ys (j - length xs) d in_ys)))
    (λ (high : length xs ≤ i). rw (get_or-append_right xs ys (length xs) i d refl high, at_j) (behind (i - length xs) (j - length xs) d (omega arith) in_ys))
    (cases_lt i (length xs)))
    (cases_lt j (length xs))

flat_map-pairs : {X Y : Type 0} (R : Y → Y → Type 0) (f : X → List Y) (xs : List X) → ((x : X) → AllPairs R (f x)) → AllPairs (λ a b. (x y : Y) → Contains (f a) x → Contains (f b) y → R x y) xs → AllPairs R (flat_map f xs)
flat_map-pairs R f [] each across = λ i j d below within. absurd (omega arith)
flat_map-pairs R f (z ∷ xs) each across =
    pairs-append R (f z) (flat_map f xs) (each z)
    (flat_map-pairs R f xs each (λ i j d below within. across (suc i) (suc j) d (omega arith) (omega arith)))
    (λ x y has_x has_y.
    let piece = flat_map-from f xs y has_y in
    let later = across 0 (suc piece.place) piece.item (omega arith) (omega (arith, piece.within)) in
    later x y has_x (subst (λ w. Contains (f w) y) (sym piece.at) piece.has))

-- paths in their order

less-step : (a b : InstId) → a.0 < b.0 → step_cmp a b ≡ Less
less-step a b less = let is : nat_lt a.0 b.0 ≡ true = grind (arith, nat_tests) in rw is refl

same-step : (a : InstId) → step_cmp a a ≡ Equal
same-step a =
    let low : nat_lt a.0 a.0 ≡ false = grind (arith, nat_tests) in
    let same : (a.0 == a.0) ≡ true = grind (arith, nat_tests) in
    rw (low, same) refl

same-front : (path xs ys : List InstId) → path_cmp (path ++ xs) (path ++ ys) ≡ path_cmp xs ys
same-front [] xs ys = refl
same-front (i ∷ path) xs ys =
    ap (λ order. ordering_then order (path_cmp (path ++ xs) (path ++ ys))) (same-step i) ∙ same-front path xs ys

same-path : (path : List InstId) → path_cmp path path ≡ Equal
same-path [] = refl
same-path (i ∷ path) = ap (λ order. ordering_then order (path_cmp path path)) (same-step i) ∙ same-path path

-- a path that stands before another isn't it
apart : (a b : Occurrence) → StandsBefore a b → a.0 ≢ b.0
apart a b less same =
    let never : Less ≡ Equal = sym less ∙ ap (λ path. path_cmp a.0 path) (sym same) ∙ same-path a.0 in
    absurd (cc)

-- the master's id at the end of one more instance
abbrev id_step : Plain → InstId → ModId → Option ModId
id_step M i m = option_map (λ (inst : PInst). inst.master) (option_and_then (λ (x : PModule). inst_of x i) (module_of M m))

-- the id at the end of a path downwards from a module
abbrev id_down : Plain → ModId → List InstId → Option ModId
id_down M m [] = Some m
id_down M m (i ∷ path) = option_and_then (λ (k : ModId). id_down M k path) (id_step M i m)

id_down-last : (M : Plain) (m : ModId) (path : List InstId) (i : InstId) → id_down M m (path ++ i ∷ []) ≡ option_and_then (id_step M i) (id_down M m path)
id_down-last M m [] i = and_then-id (id_step M i m)
  where
    and_then-id : {X : Type 0} (o : Option X) → option_and_then (λ x. Some x) o ≡ o
    and_then-id None = refl
    and_then-id (Some x) = refl
id_down-last M m (j ∷ path) i = through (λ k. id_down M k (path ++ i ∷ [])) (λ k. id_down M k path) (id_step M i) (id_step M j m) (λ k. id_down-last M k path i)
  where
    through : {X Y Z : Type 0} (f : X → Option Z) (g : X → Option Y) (h : Y → Option Z) (o : Option X) → ((x : X) → f x ≡ option_and_then h (g x)) → option_and_then f o ≡ option_and_then h (option_and_then g o)
    through f g h None same = refl
    through f g h (Some x) same = same x

-- the module at the end of an upward path is the one of the id there
pub module_up-id : (M : Plain) (top : ModId) (up : List InstId) → module_up M top up ≡ option_and_then (module_of M) (id_up M top up)
unfolding module_up
module_up-id M top [] = refl
module_up-id M top (i ∷ up) = shift (option_and_then (λ (m : PModule). inst_of m i) (module_up M top up))
  where
    shift : (o : Option PInst) → option_and_then (λ (inst : PInst). module_of M inst.master) o ≡ option_and_then (module_of M) (option_map (λ (inst : PInst). inst.master) o)
    shift None = refl
    shift (Some inst) = refl

id_down-up : (M : Plain) (top : ModId) (up : List InstId) → id_down M top (reverse up) ≡ id_up M top up
id_down-up M top [] = refl
id_down-up M top (i ∷ up) =
    ap (id_down M top) (reverse-append (i ∷ []) up) ∙ id_down-last M top (reverse up) i
    ∙ ap (option_and_then (id_step M i)) (id_down-up M top up) ∙ step (id_up M top up)
    ∙ ap (λ o. option_map (λ (inst : PInst). inst.master) (option_and_then (λ (m : PModule). inst_of m i) o)) (sym (module_up-id M top up))
  where
    step : (o : Option ModId) → option_and_then (id_step M i) o ≡ option_map (λ (inst : PInst). inst.master) (option_and_then (λ (m : PModule). inst_of m i) (option_and_then (module_of M) o))
    step None = refl
    step (Some k) = refl

-- one more instance downwards: the module that has it, the instance and its place
record Down (M : Plain) (m : ModId) (i : InstId) (k : ModId) : Type 0 where
  holder : PModule
  found : module_of M m ≡ Some holder
  inst : PInst
  at : inst_of holder i ≡ Some inst
  master : inst.master ≡ k

down : (M : Plain) (m : ModId) (i : InstId) (k : ModId) → id_step M i m ≡ Some k → Down M m i k
down M m i k steps =
    let by_inst = mapped (option_and_then (λ (x : PModule). inst_of x i) (module_of M m)) k steps in
    let by_holder = and_then-some (λ (x : PModule). inst_of x i) (module_of M m) by_inst.0 by_inst.1 in
    record { holder = by_holder.0; found = by_holder.1; inst = by_inst.0; at = by_holder.2; master = by_inst.2 }
  where
    mapped : (o : Option PInst) (k : ModId) → option_map (λ (inst : PInst). inst.master) o ≡ Some k → (inst : PInst) × (o ≡ Some inst) × (inst.master ≡ k)
    mapped None k is = let never : None ≡ Some k = is in absurd (cc)
    mapped (Some inst) k is = (inst, refl, let same : inst.master ≡ k = cc in same)

inst-id : (m : PModule) (i : InstId) (inst : PInst) → inst_of m i ≡ Some inst → inst.id ≡ i
inst-id m i inst found =
    let same : inst.id.0 ≡ i.0 = let passes = find-passes (λ (x : PInst). x.id.0 == i.0) m.insts inst found in grind (arith, nat_tests) in
    let make : ℕ → InstId = λ n. record { 0 = n } in
    ap make same

-- the occurrences below an instance
abbrev pub below : Plain → List InstId → ℕ → PInst → List Occurrence
below M path levels inst = unfolded M (path ++ inst.id ∷ []) inst.master levels

unfolded-zero : (M : Plain) (path : List InstId) (m : ModId) → unfolded M path m 0 ≡ []
unfolding unfolded
unfolded-zero M path m = refl

unfolded-step : (M : Plain) (levels : ℕ) (path : List InstId) (m : ModId) → unfolded M path m (suc levels) ≡ (path, m) ∷ flat_map (below M path levels) (insts_of (module_of M m))
unfolding unfolded
unfolded-step M levels path m = refl

-- each path that leads to an id is in the unfolding
unfolded-has : (M : Plain) (levels : ℕ) (path : List InstId) (m : ModId) (rest : List InstId) (id : ModId) → length rest < levels → id_down M m rest ≡ Some id → Contains (unfolded M path m levels) (path ++ rest, id)
unfolded-has M zero path m rest id short leads = absurd (omega arith)
unfolded-has M (suc levels) path m [] id short leads =
    let same : m ≡ id = cc in
    let here : (path, m) ≡ (path ++ [], id) = ap (λ (p : List InstId). (p, m)) (sym (append-nil path)) ∙ ap (λ k. (path ++ [], k)) same in
    let O : List Occurrence → Type 0 = λ os. Contains os (path ++ [], id) in
    subst O (sym (unfolded-step M levels path m)) (0, omega arith, here)
unfolded-has M (suc levels) path m (i ∷ rest) id short leads =
    let first = and_then-some (λ (k : ModId). id_down M k rest) (id_step M i m) id leads in
    let step = down M m i first.0 first.1 in
    let insts : List PInst = step.holder.insts in
    let o : Occurrence = ((path ++ i ∷ []) ++ rest, id) in
    let test : PInst → Bool = λ x. x.id.0 == i.0 in
    let k : ℕ = position_or_len test insts in
    let here : slice_get insts k ≡ Some step.inst = sym (find_at test insts) ∙ step.at in
    let more : Contains (unfolded M (path ++ i ∷ []) first.0 levels) o = unfolded-has M levels (path ++ i ∷ []) first.0 rest id (omega arith) first.2 in
    let Has : InstId → ModId → Type 0 = λ j n. Contains (unfolded M (path ++ j ∷ []) n levels) o in
    let in_block : Contains (below M path levels step.inst) o =
    subst (λ j. Has j step.inst.master) (sym (inst-id step.holder i step.inst step.at)) (subst (Has i) (sym step.master) more)
    in
    let in_all : Contains (flat_map (below M path levels) insts) o =
    flat_map-has (below M path levels) insts k step.inst o (slice_get_within insts k step.inst here) (get_or_from_slice_get insts k step.inst step.inst here) in_block
    in
    let O : List Occurrence → Type 0 = λ os. Contains os o in
    let all : unfolded M path m (suc levels) ≡ (path, m) ∷ flat_map (below M path levels) insts =
    unfolded-step M levels path m ∙ ap (λ found. (path, m) ∷ flat_map (below M path levels) (insts_of found)) step.found
    in
    let P : List InstId → Type 0 = λ p. Contains (unfolded M path m (suc levels)) (p, id) in
    subst P (append_assoc path (i ∷ []) rest) (subst O (sym all) (Contains-append_right ((path, m) ∷ []) (flat_map (below M path levels) insts) o in_all))

-- and each occurrence is at such a path
record At (M : Plain) (levels : ℕ) (path : List InstId) (m : ModId) (o : Occurrence) : Type 0 where
  rest : List InstId
  is : o.0 ≡ path ++ rest
  short : length rest < levels
  leads : id_down M m rest ≡ Some o.1

module _ (M : Plain) (rise : InstsRise M) where
  holder-rises : (m : ModId) (holder : PModule) → module_of M m ≡ Some holder → AllPairs (λ (a b : PInst). a.id.0 < b.id.0) holder.insts
  holder-rises m holder found =
      All-find (λ (x : PModule). AllPairs (λ (a b : PInst). a.id.0 < b.id.0) x.insts) (λ (x : PModule). x.id.0 == m.0) M.modules holder rise found

  insts-rise : (m : ModId) → AllPairs (λ (a b : PInst). a.id.0 < b.id.0) (insts_of (module_of M m))
  insts-rise m = by_cases (module_of M m) refl
    where
      by_cases : (found : Option PModule) → module_of M m ≡ found → AllPairs (λ (a b : PInst). a.id.0 < b.id.0) (insts_of found)
      by_cases None is = λ i j d low within. absurd (omega arith)
      by_cases (Some holder) is = holder-rises m holder is

  unfolded-at : (levels : ℕ) (path : List InstId) (m : ModId) (o : Occurrence) → Contains (unfolded M path m levels) o → At M levels path m o
  unfolded-at zero path m o has =
      let none : Contains [] o = subst (λ os. Contains os o) (unfolded-zero M path m) has in
      absurd (omega (arith, none.1))
  unfolded-at (suc levels) path m o has =
      ⊎_elim
      (λ (front : Contains ((path, m) ∷ []) o).
      let Same : Occurrence → Type 0 = λ x. (path, m) ≡ x in
      let same : (path, m) ≡ o = All-contains Same ((path, m) ∷ []) o (All-cons Same (path, m) [] refl (All-nil Same)) front in
      record { rest = []; is = sym (ap (λ (x : Occurrence). x.0) same) ∙ sym (append-nil path); short = omega arith; leads = ap (λ (x : Occurrence). Some x.1) same })
      (λ (behind : Contains (flat_map (below M path levels) (insts_of (module_of M m))) o).
      at-below (λ inst has. unfolded-at levels (path ++ inst.id ∷ []) inst.master o has) (module_of M m) refl behind)
      (Contains-append_cases ((path, m) ∷ []) (flat_map (below M path levels) (insts_of (module_of M m))) o (subst (λ os. Contains os o) (unfolded-step M levels path m) has))
    where
      at-below : ((inst : PInst) → Contains (below M path levels inst) o → At M levels (path ++ inst.id ∷ []) inst.master o) → (found : Option PModule) → module_of M m ≡ found → Contains (flat_map (below M path levels) (insts_of found)) o → At M (suc levels) path m o
      at-below at None is behind = absurd (omega (arith, behind.1))
      at-below at (Some holder) is behind =
          let piece = flat_map-from (below M path levels) holder.insts o behind in
          let inst : PInst = piece.item in
          let more = at inst piece.has in
          let Own : PInst → Type 0 = λ x. inst_of holder x.id ≡ Some x in
          let own : inst_of holder inst.id ≡ Some inst = subst Own piece.at (find-own (λ (x : PInst). x.id.0) holder.insts (holder-rises m holder is) piece.place inst piece.within) in
          let step : id_step M inst.id m ≡ Some inst.master = rw (is, own) refl in
          record {
            rest = inst.id ∷ more.rest;
            is = more.is ∙ append_assoc path (inst.id ∷ []) more.rest;
            short = omega (arith, more.short);
            leads = ap (λ o. option_and_then (λ (k : ModId). id_down M k more.rest) o) step ∙ more.leads;
          }

  -- below two instances of one module the paths stand in the order of these
  lower : (levels : ℕ) (path : List InstId) (a b : PInst) → a.id.0 < b.id.0 → (x y : Occurrence) → Contains (below M path levels a) x → Contains (below M path levels b) y → path_cmp x.0 y.0 ≡ Less
  lower levels path a b less x y has_x has_y =
      let at_x = unfolded-at levels (path ++ a.id ∷ []) a.master x has_x in
      let at_y = unfolded-at levels (path ++ b.id ∷ []) b.master y has_y in
      ap₂ path_cmp (at_x.is ∙ append_assoc path (a.id ∷ []) at_x.rest) (at_y.is ∙ append_assoc path (b.id ∷ []) at_y.rest)
      ∙ same-front path (a.id ∷ at_x.rest) (b.id ∷ at_y.rest) ∙ ap (λ order. ordering_then order (path_cmp at_x.rest at_y.rest)) (less-step a.id b.id less)

  -- and behind that of the module itself
  behind : (levels : ℕ) (path : List InstId) (a : PInst) (y : Occurrence) → Contains (below M path levels a) y → path_cmp path y.0 ≡ Less
  behind levels path a y has =
      let at = unfolded-at levels (path ++ a.id ∷ []) a.master y has in
      ap₂ path_cmp (sym (append-nil path)) (at.is ∙ append_assoc path (a.id ∷ []) at.rest) ∙ same-front path [] (a.id ∷ at.rest)

  pub unfolded-rises : (levels : ℕ) (path : List InstId) (m : ModId) → AllPairs StandsBefore (unfolded M path m levels)
  unfolded-rises zero path m = subst (AllPairs StandsBefore) (sym (unfolded-zero M path m)) (λ i j d low within. absurd (omega arith))
  unfolded-rises (suc levels) path m =
      let blocks = flat_map-pairs StandsBefore (below M path levels) (insts_of (module_of M m)) (λ inst. unfolded-rises levels (path ++ inst.id ∷ []) inst.master)
      (λ i j d low within. lower levels path (get_or (insts_of (module_of M m)) i d) (get_or (insts_of (module_of M m)) j d) (insts-rise m i j d low within))
      in
      let here : AllPairs StandsBefore ((path, m) ∷ []) = λ i j d low within. absurd (omega arith) in
      let all = pairs-append StandsBefore ((path, m) ∷ []) (flat_map (below M path levels) (insts_of (module_of M m))) here blocks (λ x y has_x has_y.
      let First : Occurrence → Type 0 = λ o. path ≡ o.0 in
      let mine : path ≡ x.0 = All-contains First ((path, m) ∷ []) x (All-cons First (path, m) [] refl (All-nil First)) has_x in
      let piece = flat_map-from (below M path levels) (insts_of (module_of M m)) y has_y in
      ap (λ p. path_cmp p y.0) (sym mine) ∙ behind levels path piece.item y piece.has)
      in
      subst (AllPairs StandsBefore) (sym (unfolded-step M levels path m)) all

  unfolded-once : (levels : ℕ) (path : List InstId) (m : ModId) → AllPairs (λ (a b : Occurrence). a.0 ≢ b.0) (unfolded M path m levels)
  unfolded-once levels path m i j d low within =
      apart (get_or (unfolded M path m levels) i d) (get_or (unfolded M path m levels) j d) (unfolded-rises levels path m i j d low within)

  -- what the unfolding has, and where the path leads
  has-from_leads : (top : ModId) (path : List InstId) (id : ModId) → length path ≤ 256 → id_up M top (reverse path) ≡ Some id → Contains (occurrences M top) (path, id)
  has-from_leads top path id short leads =
      unfolded-has M 257 [] top path id (omega arith) (ap (id_down M top) (sym (reverse-reverse path)) ∙ id_down-up M top (reverse path) ∙ leads)

  leads-from_has : (top : ModId) (path : List InstId) (id : ModId) → Contains (occurrences M top) (path, id) → (length path ≤ 256) × (id_up M top (reverse path) ≡ Some id)
  leads-from_has top path id has =
      let at = unfolded-at 257 [] top (path, id) has in (
        omega (arith, ap length at.is, at.short),
        sym (id_down-up M top (reverse path)) ∙ ap (id_down M top) (reverse-reverse path ∙ at.is) ∙ at.leads,
      )

  pub unfolds : (top : ModId) → WalksAreShort M → Unfolds M top
  unfolds top short = record {
    modules = λ path m own. (
      λ has. module_up-id M top (reverse path) ∙ ap (option_and_then (module_of M)) (leads-from_has top path m.id has).1 ∙ own,
      λ leads.
          let id = and_then-some (module_of M) (id_up M top (reverse path)) m (sym (module_up-id M top (reverse path)) ∙ leads) in
          let same : m.id ≡ id.0 = id-of_found M id.0 m id.2 in
          has-from_leads top path m.id (omega (arith, short top (reverse path) (rw leads refl), length-reverse path)) (id.1 ∙ ap Some (sym same)),
    );
    ids = λ path id. (leads-from_has top path id, λ at. has-from_leads top path id at.0 at.1);
    once = unfolded-once 257 [] top;
  }

pub each_walk_once : EachWalkOnce
each_walk_once M top rise short = unfolds M rise top short
