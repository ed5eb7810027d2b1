-- A walk through items by their ids makes the list of all of them.
use Rattle.std.proofs.Common.{◌≡◌, ℕ, suc, ◌||◌, ◌+◌, ◌<◌, ◌≤◌, ◌==◌, nat_lt, nat_le, Bool, true, false, cond, List, [], ◌∷◌, ◌++◌, length, map, take, get_or, slice_get, find, is_some, Option, Some, None, option_map, option_and_then, IsTrue, AllPairs, refl, sym, ap, ap₂, subst, ◌∙◌, arith, ⊎_elim}
use Rattle.std.specs.List.Sorted.{IsPartitionPoint}
use Rattle.std.proofs.lemmas.Bool.{cases_lt}
use Rattle.std.proofs.lemmas.Bool.Decides.{nat_tests}
use Rattle.std.proofs.lemmas.List.{length_push, take_more, take_all, map-append}
use Rattle.std.proofs.lemmas.Simd.{map-map}
use Rattle.std.proofs.lemmas.Option.{slice_get_within, get_or_from_slice_get}
use Rattle.emh_base.specs.declared.ids.ModId.{ModId}
use Rattle.emh_base.specs.declared.ids.InstId.{InstId}
use Rattle.emh_base.specs.declared.ids.NetId.{NetId}
use Rattle.emh_base.specs.declared.plain.Range.{Range}
use Rattle.emh_base.specs.declared.plain.PNet.{PNet}
use Rattle.emh_base.specs.declared.plain.PInst.{PInst}
use Rattle.emh_base.specs.declared.plain.PModule.{PModule}
use Rattle.emh_base.specs.declared.plain.Plain.{Plain}
use Rattle.flatten_rules.specs.Lookup.{module_of, net_of, inst_of, insts_of}
use Rattle.flatten_rules.specs.Domains.{is_leaf}
use Rattle.flatten_rules.specs.Sound.{IsSound}
use Rattle.flatten_rules.proofs.Walks.{find-own, id-of_found}
use Rattle.flatten_rules.proofs.Following.{get-none_past}
use Rattle.edit_rules.specs.Readers.{is_module, is_inst, is_net, inst_in, net_in, nets_of, master_id}
use Rattle.edit_rules.specs.inside.Outline.{bare_inst, bare_net, bare, outline, grown, grown_outline}
use Rattle.flatten_rules.specs.Changes.{with_module}
use Rattle.edit_rules.specs.Insts.{with_inst_alone}
use Rattle.flatten_rules.specs.Limits.{leads_to}
use Rattle.flatten_rules.specs.Unfolding.{Occurrence, unfolded}
use Rattle.std.specs.List.{flat_map, list_any}
use Rattle.edit_rules.proofs.FactsLemmas.{first-past, first-of-all}
use Rattle.edit_rules.proofs.TableLemmas.{sound-found}

abbrev pub bare_module : ModId → List ℕ → Bool → List PNet → List PInst → PModule
bare_module id name leaf nets insts = record { id = id; name = name; leaf = leaf; locked = false; nets = nets; ports = []; insts = insts; next_net = 0; next_inst = 0 }

-- what was made so far of the first items
pub record Walked {X Y : Type 0} (f : X → Y) (xs : List X) (made : List Y) : Type 0 where
  pub so_far : made ≡ map f (take (length made) xs)
  pub within : length made ≤ length xs

pub walked-none : {X Y : Type 0} (f : X → Y) (xs : List X) → Walked f xs []
walked-none f xs = record { so_far = refl; within = omega arith }

pub walked-more : {X Y : Type 0} (f : X → Y) (xs : List X) (made : List Y) (x : X) (y : Y) → Walked f xs made → slice_get xs (length made) ≡ Some x → y ≡ f x → Walked f xs (made ++ y ∷ [])
walked-more f xs made x y walked here is =
    let inside : length made < length xs = slice_get_within xs (length made) x here in
    let at : get_or xs (length made) x ≡ x = get_or_from_slice_get xs (length made) x x here in
    let longer : take (length made + 1) xs ≡ take (length made) xs ++ x ∷ [] = take_more xs (length made) x inside ∙ ap (λ z. take (length made) xs ++ z ∷ []) at in
    let mapped : map f (take (length made + 1) xs) ≡ made ++ y ∷ [] =
    ap (map f) longer ∙ map-append f (take (length made) xs) (x ∷ []) ∙ ap (λ front. front ++ f x ∷ []) (sym walked.so_far) ∙ ap (λ z. made ++ z ∷ []) (sym is) in
    record {
      so_far = sym mapped ∙ ap (λ n. map f (take n xs)) (sym (length_push made y));
      within = omega (arith, length_push made y, inside);
    }

pub walked-all : {X Y : Type 0} (f : X → Y) (xs : List X) (made : List Y) → Walked f xs made → slice_get xs (length made) ≡ None → made ≡ map f xs
walked-all f xs made walked none =
    walked.so_far ∙ ap (map f) (take_all (length made) xs (get-none_past xs (length made) none))

-- the item after one in rising order
pub next-past : {X : Type 0} (number : X → ℕ) (xs : List X) (k : ℕ) (x : X) → AllPairs (λ a b. number a < number b) xs → slice_get xs k ≡ Some x → find (λ z. nat_lt (number x) (number z)) xs ≡ slice_get xs (k + 1)
next-past number xs k x rise here =
    let inside : k < length xs = slice_get_within xs k x here in
    let parts : IsPartitionPoint (λ z. nat_le (number z) (number x) ≡ true) (λ z. nat_le (number z) (number x) ≡ false) xs (k + 1) = (
      λ j d from below.
          let at : number (get_or xs k d) ≡ number x = ap number (get_or_from_slice_get xs k x d here) in
          ⊎_elim
          (λ (before : j < k). let low = rise j k d before inside in grind (arith, nat_tests))
          (λ (from_k : k ≤ j). let same : j ≡ k = omega arith in rw same (grind (arith, nat_tests)))
          (cases_lt j k),
      λ j d from below.
          let at : number (get_or xs k d) ≡ number x = ap number (get_or_from_slice_get xs k x d here) in
          let high = rise k j d (omega arith) below in grind (arith, nat_tests),
    ) in
    sym (first-past number (number x) xs (k + 1) (omega arith) parts)

pub some-of : {X Y : Type 0} (f : X → Y) (found : Option X) (y : Y) → option_map f found ≡ Some y → (x : X) × (found ≡ Some x) × (f x ≡ y)
some-of f None y e = let never : None ≡ Some y = e in absurd (cc)
some-of f (Some x) y e = let same : f x ≡ y = cc in (x, refl, same)

pub none-of : {X Y : Type 0} (f : X → Y) (found : Option X) → option_map f found ≡ None → found ≡ None
none-of f None e = refl
none-of f (Some x) e = let never : Some (f x) ≡ None = e in absurd (cc)

pub some-map : {X Y : Type 0} (f : X → Y) (found : Option X) → is_some found ≡ true → is_some (option_map f found) ≡ true
some-map f None some = some
some-map f (Some x) some = refl

module _ (M : Plain) (sound : IsSound M) where
  rise-in : (found : Option PModule) (id : ModId) → found ≡ module_of M id → AllPairs (λ (a b : PInst). a.id.0 < b.id.0) (insts_of found)
  rise-in None id at = λ i j d before within. absurd (omega arith)
  rise-in (Some h) id at = (sound-found M id h sound at).insts_rise

  pub insts-in-order : (id : ModId) → AllPairs (λ (a b : PInst). a.id.0 < b.id.0) (insts_of (module_of M id))
  insts-in-order id = rise-in (module_of M id) id refl

  here-in : (found : Option PModule) (k : ℕ) (x : PInst) → AllPairs (λ (a b : PInst). a.id.0 < b.id.0) (insts_of found) → slice_get (insts_of found) k ≡ Some x → option_and_then (λ h. inst_of h x.id) found ≡ Some x
  here-in None k x rise here = absurd (omega (arith, slice_get_within [] k x here))
  here-in (Some h) k x rise here =
      let inside : k < length h.insts = slice_get_within h.insts k x here in
      let Own : PInst → Type 0 = λ i. find (λ y. y.id.0 == i.id.0) h.insts ≡ Some i in
      subst Own (get_or_from_slice_get h.insts k x x here) (find-own (λ (i : PInst). i.id.0) h.insts rise k x inside)

  -- an instance is found by its id
  pub inst-here : (id : ModId) (k : ℕ) (x : PInst) → slice_get (insts_of (module_of M id)) k ≡ Some x → inst_in M id x.id ≡ Some x
  inst-here id k x here = here-in (module_of M id) k x (insts-in-order id) here

  nets-rise-in : (found : Option PModule) (id : ModId) → found ≡ module_of M id → AllPairs (λ (a b : PNet). a.id.0 < b.id.0) (nets_of found)
  nets-rise-in None id at = λ i j d before within. absurd (omega arith)
  nets-rise-in (Some h) id at = (sound-found M id h sound at).nets_rise

  pub nets-in-order : (id : ModId) → AllPairs (λ (a b : PNet). a.id.0 < b.id.0) (nets_of (module_of M id))
  nets-in-order id = nets-rise-in (module_of M id) id refl

  net-in-here : (found : Option PModule) (k : ℕ) (x : PNet) → AllPairs (λ (a b : PNet). a.id.0 < b.id.0) (nets_of found) → slice_get (nets_of found) k ≡ Some x → option_and_then (λ h. net_of h x.id) found ≡ Some x
  net-in-here None k x rise here = absurd (omega (arith, slice_get_within [] k x here))
  net-in-here (Some h) k x rise here =
      let inside : k < length h.nets = slice_get_within h.nets k x here in
      let Own : PNet → Type 0 = λ i. find (λ y. y.id.0 == i.id.0) h.nets ≡ Some i in
      subst Own (get_or_from_slice_get h.nets k x x here) (find-own (λ (i : PNet). i.id.0) h.nets rise k x inside)

  -- a net is found by its id
  pub net-here : (id : ModId) (k : ℕ) (x : PNet) → slice_get (nets_of (module_of M id)) k ≡ Some x → net_in M id x.id ≡ Some x
  net-here id k x here = net-in-here (module_of M id) k x (nets-in-order id) here

  -- and a module by its
  pub module-here : (k : ℕ) (m : PModule) → slice_get M.modules k ≡ Some m → module_of M m.id ≡ Some m
  module-here k m here =
      let inside : k < length M.modules = slice_get_within M.modules k m here in
      let Own : PModule → Type 0 = λ x. find (λ y. y.id.0 == x.id.0) M.modules ≡ Some x in
      subst Own (get_or_from_slice_get M.modules k m m here) (find-own (λ (x : PModule). x.id.0) M.modules sound.rise k m inside)

  -- the next instance of the walk
  module _ (id : ModId) (name : List ℕ) (made : List PInst) (inst : InstId) (walked : Walked (bare_inst name) (insts_of (module_of M id)) made)
      (next : option_map (λ (i : PInst). i.id) (slice_get (insts_of (module_of M id)) (length made)) ≡ Some inst) where
    met : (x : PInst) × (slice_get (insts_of (module_of M id)) (length made) ≡ Some x) × (x.id ≡ inst)
    met = some-of (λ (i : PInst). i.id) (slice_get (insts_of (module_of M id)) (length made)) inst next

    met-in : inst_in M id inst ≡ Some met.0
    met-in = let Here : InstId → Type 0 = λ i. inst_in M id i ≡ Some met.0 in subst Here met.2 (inst-here id (length made) met.0 met.1)

    pub inst-is : IsTrue (is_inst M id inst)
    inst-is = ap is_some met-in

    pub inst-inside : length made < length (insts_of (module_of M id))
    inst-inside = slice_get_within (insts_of (module_of M id)) (length made) met.0 met.1

    pub inst-walked : (y : PInst) (pushed : List PInst) → y ≡ record { id = inst; name = name; master = master_id (inst_in M id inst); conns = [] } → pushed ≡ made ++ y ∷ []
        → Walked (bare_inst name) (insts_of (module_of M id)) pushed
    inst-walked y pushed is more =
        let bare-y : ModId → InstId → PInst = λ m i. record { id = i; name = name; master = m; conns = [] } in
        let same : y ≡ bare_inst name met.0 = is ∙ ap₂ bare-y (ap master_id met-in) (sym met.2) in
        let All : List PInst → Type 0 = Walked (bare_inst name) (insts_of (module_of M id)) in
        subst All (sym more) (walked-more (bare_inst name) (insts_of (module_of M id)) made met.0 y walked met.1 same)

    pub inst-next : (y : PInst) (pushed : List PInst) → pushed ≡ made ++ y ∷ []
        → option_map (λ (i : PInst). i.id) (find (λ (i : PInst). nat_lt inst.0 i.id.0) (insts_of (module_of M id))) ≡ option_map (λ (i : PInst). i.id) (slice_get (insts_of (module_of M id)) (length pushed))
    inst-next y pushed more =
        let xs : List PInst = insts_of (module_of M id) in
        let longer : length pushed ≡ length made + 1 = ap length more ∙ length_push made y in
        let past : find (λ (i : PInst). nat_lt met.0.id.0 i.id.0) xs ≡ slice_get xs (length made + 1) = next-past (λ (i : PInst). i.id.0) xs (length made) met.0 (insts-in-order id) met.1 in
        ap (λ (i : InstId). option_map (λ (i : PInst). i.id) (find (λ (x : PInst). nat_lt i.0 x.id.0) xs)) (sym met.2)
        ∙ ap (option_map (λ (i : PInst). i.id)) (past ∙ ap (slice_get xs) (sym longer))

  -- the next net of the walk
  module _ (id : ModId) (name : List ℕ) (made : List PNet) (net : NetId) (walked : Walked (bare_net name) (nets_of (module_of M id)) made)
      (next : option_map (λ (i : PNet). i.id) (slice_get (nets_of (module_of M id)) (length made)) ≡ Some net) where
    met-it : (x : PNet) × (slice_get (nets_of (module_of M id)) (length made) ≡ Some x) × (x.id ≡ net)
    met-it = some-of (λ (i : PNet). i.id) (slice_get (nets_of (module_of M id)) (length made)) net next

    met-net : net_in M id net ≡ Some met-it.0
    met-net = let Here : NetId → Type 0 = λ i. net_in M id i ≡ Some met-it.0 in subst Here met-it.2 (net-here id (length made) met-it.0 met-it.1)

    pub net-is : IsTrue (is_net M id net)
    net-is = ap is_some met-net

    pub net-inside : length made < length (nets_of (module_of M id))
    net-inside = slice_get_within (nets_of (module_of M id)) (length made) met-it.0 met-it.1

    pub net-walked : (range : Option Range) (y : PNet) (pushed : List PNet) → option_map (λ (there : PNet). there.range) (net_in M id net) ≡ Some range → y ≡ record { id = net; name = name; range = range } → pushed ≡ made ++ y ∷ []
        → Walked (bare_net name) (nets_of (module_of M id)) pushed
    net-walked range y pushed ranged is more =
        let bare-y : Option Range → NetId → PNet = λ r i. record { id = i; name = name; range = r } in
        let some : Some met-it.0.range ≡ Some range = ap (option_map (λ (there : PNet). there.range)) (sym met-net) ∙ ranged in
        let wide : range ≡ met-it.0.range = cc in
        let same : y ≡ bare_net name met-it.0 = is ∙ ap₂ bare-y wide (sym met-it.2) in
        let All : List PNet → Type 0 = Walked (bare_net name) (nets_of (module_of M id)) in
        subst All (sym more) (walked-more (bare_net name) (nets_of (module_of M id)) made met-it.0 y walked met-it.1 same)

    pub net-next : (y : PNet) (pushed : List PNet) → pushed ≡ made ++ y ∷ []
        → option_map (λ (i : PNet). i.id) (find (λ (i : PNet). nat_lt net.0 i.id.0) (nets_of (module_of M id))) ≡ option_map (λ (i : PNet). i.id) (slice_get (nets_of (module_of M id)) (length pushed))
    net-next y pushed more =
        let xs : List PNet = nets_of (module_of M id) in
        let longer : length pushed ≡ length made + 1 = ap length more ∙ length_push made y in
        let past : find (λ (i : PNet). nat_lt met-it.0.id.0 i.id.0) xs ≡ slice_get xs (length made + 1) = next-past (λ (i : PNet). i.id.0) xs (length made) met-it.0 (nets-in-order id) met-it.1 in
        ap (λ (i : NetId). option_map (λ (i : PNet). i.id) (find (λ (x : PNet). nat_lt i.0 x.id.0) xs)) (sym met-it.2)
        ∙ ap (option_map (λ (i : PNet). i.id)) (past ∙ ap (slice_get xs) (sym longer))

  -- and the next module
  module _ (f : PModule → PModule) (made : List PModule) (id : ModId) (walked : Walked f M.modules made)
      (next : option_map (λ (m : PModule). m.id) (slice_get M.modules (length made)) ≡ Some id) where
    found : (m : PModule) × (slice_get M.modules (length made) ≡ Some m) × (m.id ≡ id)
    found = some-of (λ (m : PModule). m.id) (slice_get M.modules (length made)) id next

    found-in : module_of M id ≡ Some found.0
    found-in = let Here : ModId → Type 0 = λ i. module_of M i ≡ Some found.0 in subst Here found.2 (module-here (length made) found.0 found.1)

    pub module-is : IsTrue (is_module M id)
    module-is = ap is_some found-in

    pub module-inside : length made < length M.modules
    module-inside = slice_get_within M.modules (length made) found.0 found.1

    pub module-walked : (y : PModule) (pushed : List PModule) → Some y ≡ option_map f (module_of M id) → pushed ≡ made ++ y ∷ []
        → Walked f M.modules pushed
    module-walked y pushed is more =
        let some : Some y ≡ Some (f found.0) = is ∙ ap (option_map f) found-in in
        let same : y ≡ f found.0 = cc in
        let All : List PModule → Type 0 = Walked f M.modules in
        subst All (sym more) (walked-more f M.modules made found.0 y walked found.1 same)

    pub module-next : (y : PModule) (pushed : List PModule) → pushed ≡ made ++ y ∷ []
        → option_map (λ (m : PModule). m.id) (find (λ (m : PModule). nat_lt id.0 m.id.0) M.modules) ≡ option_map (λ (m : PModule). m.id) (slice_get M.modules (length pushed))
    module-next y pushed more =
        let longer : length pushed ≡ length made + 1 = ap length more ∙ length_push made y in
        let past : find (λ (m : PModule). nat_lt found.0.id.0 m.id.0) M.modules ≡ slice_get M.modules (length made + 1) = next-past (λ (m : PModule). m.id.0) M.modules (length made) found.0 sound.rise found.1 in
        ap (λ (i : ModId). option_map (λ (m : PModule). m.id) (find (λ (x : PModule). nat_lt i.0 x.id.0) M.modules)) (sym found.2)
        ∙ ap (option_map (λ (m : PModule). m.id)) (past ∙ ap (slice_get M.modules) (sym longer))

-- the walk begins with the first
pub first-of : {X Y : Type 0} (f : X → Y) (xs : List X) → option_map f (find (λ x. true) xs) ≡ option_map f (slice_get xs 0)
first-of f xs = ap (option_map f) (sym (first-of-all (λ x. 0) xs))

bare-of : (M : Plain) (id : ModId) (name : List ℕ) (found : Option PModule) → found ≡ module_of M id → IsTrue (is_some found)
    → Some (bare_module id name (is_leaf found) (map (bare_net name) (nets_of found)) (map (bare_inst name) (insts_of found))) ≡ option_map (bare name) found
bare-of M id name None at some = let never : false ≡ true = some in absurd (cc)
bare-of M id name (Some h) at some = ap (λ i. Some (bare_module i name h.leaf (map (bare_net name) h.nets) (map (bare_inst name) h.insts))) (sym (id-of_found M id h (sym at)))

-- a module of the outline
pub bare-made : (M : Plain) (id : ModId) (name : List ℕ) (leaf : Bool) (nets : List PNet) (insts : List PInst) → IsTrue (is_module M id)
    → leaf ≡ is_leaf (module_of M id) → nets ≡ map (bare_net name) (nets_of (module_of M id)) → insts ≡ map (bare_inst name) (insts_of (module_of M id))
    → Some (bare_module id name leaf nets insts) ≡ option_map (bare name) (module_of M id)
bare-made M id name leaf nets insts live leaves wires all = rw (leaves, wires, all) (bare-of M id name (module_of M id) refl live)

-- a module of the outline that has an instance more, or isn't the one that has
pub grown-made : (M : Plain) (here id master : ModId) (name : List ℕ) (y : PModule) → Some y ≡ option_map (bare name) (module_of M here) → (here.0 == id.0) ≡ true
    → Some (with_inst_alone name master [] y) ≡ option_map (grown name id master) (module_of M here)
grown-made M here id master name y is same = grown-one (module_of M here) refl is
  where
    grown-one : (found : Option PModule) → found ≡ module_of M here → Some y ≡ option_map (bare name) found → Some (with_inst_alone name master [] y) ≡ option_map (grown name id master) found
    grown-one None at is = let never : Some y ≡ None = is in absurd (cc)
    grown-one (Some h) at is =
        let it : y ≡ bare name h = cc in
        let own : (h.id.0 == id.0) ≡ true = ap (λ (m : ModId). m.0 == id.0) (id-of_found M here h (sym at)) ∙ same in
        rw own (ap (λ m. Some (with_inst_alone name master [] m)) it)

pub bare-kept : (M : Plain) (here id master : ModId) (name : List ℕ) (y : PModule) → Some y ≡ option_map (bare name) (module_of M here) → (here.0 == id.0) ≡ false
    → Some y ≡ option_map (grown name id master) (module_of M here)
bare-kept M here id master name y is other = kept-one (module_of M here) refl is
  where
    kept-one : (found : Option PModule) → found ≡ module_of M here → Some y ≡ option_map (bare name) found → Some y ≡ option_map (grown name id master) found
    kept-one None at is = let never : Some y ≡ None = is in absurd (cc)
    kept-one (Some h) at is =
        let own : (h.id.0 == id.0) ≡ false = ap (λ (m : ModId). m.0 == id.0) (id-of_found M here h (sym at)) ∙ other in
        rw own is

or-false : (b : Bool) → (b || false) ≡ b
or-false true = refl
or-false false = refl

-- a leaf leads to itself alone
leaf-alone : (M : Plain) (m : ModId) (levels : ℕ) → insts_of (module_of M m) ≡ [] → unfolded M [] m (suc levels) ≡ ([], m) ∷ []
unfolding unfolded
leaf-alone M m levels none = ap (λ insts. ([], m) ∷ flat_map (λ inst. unfolded M ([] ++ inst.id ∷ []) inst.master levels) insts) none

pub leaf-empty : (M : Plain) (sound : IsSound M) (m : ModId) (found : Option PModule) → found ≡ module_of M m → is_leaf found ≡ true → insts_of found ≡ []
leaf-empty M sound m None at leaf = refl
leaf-empty M sound m (Some h) at leaf = ((sound-found M m h sound at).cell leaf).insts

pub leaf-leads : (M : Plain) (m id : ModId) → IsSound M → is_leaf (module_of M m) ≡ true → leads_to M m id ≡ (m.0 == id.0)
leaf-leads M m id sound leaf =
    ap (list_any (λ (o : Occurrence). o.1.0 == id.0)) (leaf-alone M m 256 (leaf-empty M sound m (module_of M m) refl leaf))
    ∙ or-false (m.0 == id.0)

-- an outline that is grown is one that is changed in that module
pub grown-changed : (M : Plain) (name : List ℕ) (id master : ModId) → grown_outline name id master M ≡ with_module (outline name M) id (with_inst_alone name master [])
grown-changed M name id master =
    let made : List PModule → Plain = λ modules. record { modules = modules; next_module = 0 } in
    ap made (sym (map-map (λ (m : PModule). cond (m.id.0 == id.0) (with_inst_alone name master [] m) m) (bare name) M.modules))
