-- How a walk goes down and up.
use Rattle.std.proofs.Common.{◌≡◌, ℕ, zero, suc, ◌-◌, ◌<◌, ◌≤◌, true, false, Bool, List, [], ◌∷◌, ◌++◌, map, drop, reverse, length, Option, Some, None, All, refl, sym, ap, ◌∙◌, subst, arith, append_assoc, append-nil, length-append}
use Rattle.std.specs.List.{flat_map}
use Rattle.std.proofs.lemmas.List.{reverse-append, reverse-reverse, length-reverse, map_push}
use Rattle.std.proofs.lemmas.List.Elements.{All-tail, All-head}
use Rattle.std.specs.Borrow.{Bor}
use Rattle.std.proofs.lemmas.Bool.{true≢false}
use Rattle.emh_base.specs.declared.ids.ModId.{ModId}
use Rattle.emh_base.specs.declared.ids.InstId.{InstId}
use Rattle.emh_base.specs.declared.plain.PInst.{PInst}
use Rattle.emh_base.specs.declared.plain.PModule.{PModule}
use Rattle.emh_base.specs.declared.plain.Plain.{Plain}
use Rattle.flatten_rules.specs.Lookup.{module_of}
use Rattle.flatten_rules.specs.Sound.{IsSound}
use Rattle.flatten_rules.specs.Design.{IsGood, IsInner}
use Rattle.flatten_rules.specs.Unfolding.{Occurrence, unfolded, occurrences, module_up, inst_up}
use Rattle.flatten_rules.specs.Way.{WayTo}
use Rattle.flatten_rules.specs.Walking.{Walking, ComesTo}
use Rattle.flatten_rules.specs.inside.Pending.{below, to_come, AreThere, pending_up, walking, IsWalk}
use Rattle.flatten_rules.proofs.Walks.{find-own, sound-up}

-- an instance of a module is the one of its id
own-insts : (M : Plain) (top : ModId) (up : List InstId) (m : PModule) → IsSound M → module_up M top up ≡ Some m → All (λ (inst : PInst). inst_up M top inst.id up ≡ Some inst) m.insts
own-insts M top up m sound there = λ k d within. rw there (find-own (λ (x : PInst). x.id.0) m.insts (sound-up M top up m sound there).insts_rise k d within)

-- what is below an instance, level by level
unfolded-here : (M : Plain) (path : List InstId) (id : ModId) (m : PModule) (levels : ℕ) → module_of M id ≡ Some m → 0 < levels → unfolded M path id levels ≡ (path, id) ∷ flat_map (λ (inst : PInst). unfolded M (path ++ inst.id ∷ []) inst.master (levels - 1)) m.insts
unfolding unfolded
unfolded-here M path id m zero found some = absurd (omega arith)
unfolded-here M path id m (suc levels) found some = let one : suc levels - 1 ≡ levels = omega arith in rw (one, found) refl

-- the module that the next instance leads to
module-below : (M : Plain) (top : ModId) (up : List InstId) (inst : PInst) → inst_up M top inst.id up ≡ Some inst → module_up M top (inst.id ∷ up) ≡ module_of M inst.master
unfolding module_up
module-below M top up inst there = rw there refl

-- the walk goes down to the next instance
module _ (M : Plain) (top : ModId) (good : IsGood M top) (inst : PInst) (others : List PInst) (pending : List (List PInst)) (up : List InstId) (m : PModule) (h : AreThere M top ((inst ∷ others) ∷ pending) up) (there : module_up M top (inst.id ∷ up) ≡ Some m) where
  inst-there : inst_up M top inst.id up ≡ Some inst
  inst-there = All-head (λ (i : PInst). inst_up M top i.id up ≡ Some i) inst others h.0

  pub master-is : module_of M inst.master ≡ Some m
  master-is = sym (module-below M top up inst inst-there) ∙ there

  pub down-there : AreThere M top (m.insts ∷ others ∷ pending) (inst.id ∷ up)
  down-there = (own-insts M top (inst.id ∷ up) m good.sound there, (All-tail (λ (i : PInst). inst_up M top i.id up ≡ Some i) inst others h.0, h.1))

  short : length up ≤ 255
  short =
      let few = good.within.depth top (inst.id ∷ up) (rw there refl) in
      omega (arith, few)

  pub down-comes : to_come M ((inst ∷ others) ∷ pending) up ≡ (reverse up ++ inst.id ∷ [], inst.master) ∷ to_come M (m.insts ∷ others ∷ pending) (inst.id ∷ up)
  down-comes =
      let path = reverse up ++ inst.id ∷ [] in
      let n : length (reverse up) ≡ length up = length-reverse up in
      let levels : 256 - length (reverse up) - 1 ≡ 256 - length path = omega (arith, length-append (reverse up) (inst.id ∷ []), short, n) in
      let first : unfolded M path inst.master (256 - length (reverse up)) ≡ (path, inst.master) ∷ below M path m.insts =
      unfolded-here M path inst.master m (256 - length (reverse up)) master-is (omega (arith, short, n))
      ∙ ap (λ k. (path, inst.master) ∷ flat_map (λ (i : PInst). unfolded M (path ++ i.id ∷ []) i.master k) m.insts) levels in
      let down : reverse (inst.id ∷ up) ≡ path = reverse-append (inst.id ∷ []) up in
      ap (λ x. (x ++ below M (reverse up) others) ++ to_come M pending (drop 1 up)) first
      ∙ ap (λ x. (path, inst.master) ∷ x) (append_assoc (below M path m.insts) (below M (reverse up) others) (to_come M pending (drop 1 up)))
      ∙ ap (λ p. (path, inst.master) ∷ below M p m.insts ++ (below M (reverse up) others ++ to_come M pending (drop 1 up))) (sym down)

-- before it begins, all is to come
pub all-comes : (M : Plain) (top : ModId) (m : PModule) → module_of M top ≡ Some m → ([], top) ∷ to_come M (m.insts ∷ []) [] ≡ occurrences M top
all-comes M top m there =
    let first = unfolded-here M [] top m 257 there (omega arith) in
    ap (λ x. ([], top) ∷ x) (append-nil (below M [] m.insts)) ∙ sym first

pub all-there : (M : Plain) (top : ModId) (m : PModule) → IsSound M → module_of M top ≡ Some m → AreThere M top (m.insts ∷ []) []
unfolding module_up
all-there M top m sound there = (own-insts M top [] m sound there, tt)

module _ (M : Plain) (top : ModId) (way : WayTo) (here : List PInst) (above : List (Bor (List PInst))) (m : PModule) (starts : way ≡ record { plain = M; top = top; path = [] }) (there : module_up way.plain way.top (reverse way.path) ≡ Some m) (insts : here ≡ m.insts) (none : above ≡ []) where
  at-top : module_of M top ≡ Some m
  unfolding module_up
  at-top = rw starts at there

  pub starts-well : IsGood M top → IsWalk way here above false
  starts-well good = rw (starts, insts, none) (record {
    good = good;
    start = λ _. refl;
    there = all-there M top m good.sound at-top;
  })

  pub starts-before : walking way here above false ≡ record { plain = M; top = top; path = []; rest = occurrences M top }
  starts-before = rw (starts, insts, none) (ap (λ (rest : List Occurrence). record { plain = M; top = top; path = []; rest = rest }) (all-comes M top m at-top))

-- the walk begins
module-found : (found : Option PModule) → IsInner found → (m : PModule) × (found ≡ Some m)
module-found None inner = absurd inner
module-found (Some m) inner = (m, refl)

pub begins : (way : WayTo) (here : List PInst) (above : List (Bor (List PInst))) (begun : Bool) (before : Walking) → begun ≡ false → IsWalk way here above begun → walking way here above begun ≡ before → ComesTo before (walking way here above true)
unfolding module_up
begins way here above begun before not_yet h was =
    let m = module-found (module_of way.plain way.top) h.good.inner in
    record {
      id = way.top;
      holder = m.0;
      next = rw (← was, not_yet, h.start not_yet) refl;
      found = m.1;
      there = rw (h.start not_yet) m.1;
    }

-- the walk goes on to the next instance
pending-last : (above new : List (Bor (List PInst))) (insts : Bor (List PInst)) → new ≡ above ++ insts ∷ [] → reverse (map (λ (x : Bor (List PInst)). x.now) new) ≡ insts.now ∷ reverse (map (λ (x : Bor (List PInst)). x.now) above)
pending-last above new insts last =
    ap (λ xs. reverse (map (λ (x : Bor (List PInst)). x.now) xs)) last
    ∙ ap reverse (map_push (λ (x : Bor (List PInst)). x.now) above insts)
    ∙ reverse-append (map (λ (x : Bor (List PInst)). x.now) above) (insts.now ∷ [])

module _ (M : Plain) (top : ModId) (good : IsGood M top) (path : List InstId) (here : List PInst) (above new : List (Bor (List PInst))) (inst : PInst) (others : Bor (List PInst)) (way : WayTo) (m : PModule) (insts : List PInst) (parts : here ≡ inst ∷ others.now) (last : new ≡ above ++ others ∷ []) (goes : way ≡ record { plain = M; top = top; path = path ++ inst.id ∷ [] }) (there : module_up way.plain way.top (reverse way.path) ≡ Some m) (all : insts ≡ m.insts) (h : AreThere M top (pending_up here above) (reverse path)) where
  abbrev pend : List (List PInst)
  pend = reverse (map (λ (x : Bor (List PInst)). x.now) above)

  up-is : reverse (path ++ inst.id ∷ []) ≡ inst.id ∷ reverse path
  up-is = reverse-append path (inst.id ∷ [])

  is-there : module_up M top (inst.id ∷ reverse path) ≡ Some m
  is-there = rw (goes, up-is) at there

  are-there : AreThere M top ((inst ∷ others.now) ∷ pend) (reverse path)
  are-there = subst (λ x. AreThere M top (x ∷ pend) (reverse path)) parts h

  now-there : AreThere M top (pending_up insts new) (reverse (path ++ inst.id ∷ []))
  now-there =
      subst (λ up. AreThere M top (pending_up insts new) up) (sym up-is)
      (subst (λ p. AreThere M top (insts ∷ p) (inst.id ∷ reverse path)) (sym (pending-last above new others last))
      (subst (λ x. AreThere M top (x ∷ others.now ∷ pend) (inst.id ∷ reverse path)) (sym all)
      (down-there M top good inst others.now pend (reverse path) m are-there is-there)))

  now-comes : to_come M (pending_up insts new) (reverse (path ++ inst.id ∷ [])) ≡ to_come M (m.insts ∷ others.now ∷ pend) (inst.id ∷ reverse path)
  now-comes =
      ap (λ up. to_come M (pending_up insts new) up) up-is
      ∙ ap (λ p. to_come M (insts ∷ p) (inst.id ∷ reverse path)) (pending-last above new others last)
      ∙ ap (λ x. to_come M (x ∷ others.now ∷ pend) (inst.id ∷ reverse path)) all

  pub goes-well : (begun : Bool) → begun ≡ true → IsWalk way insts new begun
  goes-well begun is = rw (goes, is) (record {
    good = good;
    start = λ never. absurd (true≢false never);
    there = now-there;
  })

  pub goes-on : (begun : Bool) (before : Walking) → begun ≡ true → before.rest ≡ to_come M (pending_up here above) (reverse path) → ComesTo before (walking way insts new begun)
  goes-on begun before is rest = record {
    id = inst.master;
    holder = m;
    next =
        rest
        ∙ ap (λ x. to_come M (x ∷ pend) (reverse path)) parts
        ∙ down-comes M top good inst others.now pend (reverse path) m are-there is-there
        ∙ ap (λ (rest : List Occurrence). (reverse (reverse path) ++ inst.id ∷ [], inst.master) ∷ rest) (sym now-comes)
        ∙ ap (λ p. (p ++ inst.id ∷ [], inst.master) ∷ to_come M (pending_up insts new) (reverse (path ++ inst.id ∷ []))) (reverse-reverse path)
        ∙ ap (λ (w : WayTo). (w.path, inst.master) ∷ to_come w.plain (pending_up insts new) (reverse w.path)) (sym goes)
        ∙ ap (λ (b : Bool). (way.path, inst.master) ∷ (walking way insts new b).rest) (sym is);
    found = rw goes (master-is M top good inst others.now pend (reverse path) m are-there is-there);
    there = there;
  }
