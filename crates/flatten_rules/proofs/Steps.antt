-- What the steps of a way tell: modules, sources above and front texts at each depth.
use Rattle.std.proofs.Common.{◌≡◌, ℕ, zero, suc, ◌+◌, ◌-◌, ◌<◌, ◌≤◌, ◌==◌, List, [], ◌∷◌, ◌++◌, take, drop, reverse, length, get_or, slice_get, Option, Some, None, option_map, unwrap_or, IsSomeAnd, refl, sym, ap, ◌∙◌, subst, arith, append_assoc, append-nil, length-append, length-take}
use Rattle.std.specs.Prelude.{Vec}
use Rattle.std.specs.declared.alloc.Global.{Global}
use Rattle.std.proofs.lemmas.List.{reverse-append, same_from_push, take_all, take-take, take_more, take-map, take-append-le, map_push, reverse-reverse}
use Rattle.std.proofs.lemmas.List.Concat.{flat_map-append}
use Rattle.std.proofs.lemmas.Option.{get_or_from_slice_get, slice_get_within}
use Rattle.emh_base.specs.declared.ids.ModId.{ModId}
use Rattle.emh_base.specs.declared.ids.NetId.{NetId}
use Rattle.emh_base.specs.declared.ids.InstId.{InstId}
use Rattle.emh_base.specs.declared.plain.Src.{Src}
use Rattle.emh_base.specs.declared.plain.PInst.{PInst}
use Rattle.emh_base.specs.declared.plain.PModule.{PModule}
use Rattle.emh_base.specs.declared.plain.Plain.{Plain}
use Rattle.emh_base.specs.declared.root.Root.TheVariants.{Own}
use Rattle.emh_base.specs.Text.{spell, front_text, path_text}
use Rattle.std.proofs.lemmas.Bool.{false≢true}
use Rattle.flatten_rules.specs.Lookup.{module_of, inst_of}
use Rattle.flatten_rules.specs.Sound.{IsSound, IsSoundModule, HasMaster}
use Rattle.flatten_rules.specs.Checks.{ArePortPlaces}
use Rattle.flatten_rules.specs.Unfolding.{module_up, inst_up}
use Rattle.flatten_rules.specs.Root.{source_through, source_above, root_up, root_of_source, pin_root}
use Rattle.flatten_rules.specs.Texts.{names_up}
use Rattle.flatten_rules.specs.inside.Steps.{path_of, IsStep, AreSteps, LeadsDown}
use Rattle.flatten_rules.specs.declared.walk.way.Step.{Step}
use Rattle.flatten_rules.proofs.Sound.{sound-module, All-find, master-there}
use Rattle.flatten_rules.proofs.Walks.{and_then-some, sound-up}
use Rattle.flatten_rules.proofs.Places.{item-there}

-- the last of some steps, and those above it
pub steps-last : (M : Plain) (top : ModId) (steps above : List Step) (step : Step) (front : List ℕ) → steps ≡ above ++ step ∷ [] → AreSteps M top (reverse steps) front → IsStep M top step (path_of (reverse above)) front × AreSteps M top (reverse above) (take step.front front)
unfolding AreSteps
steps-last M top steps above step front last h = rw (last, reverse-append above (step ∷ [])) at h

-- the first of some steps lead down too, with the beginning of the front text
record Upto (M : Plain) (top : ModId) (steps : List Step) (front : List ℕ) (d : ℕ) : Type 0 where
  len : ℕ
  within : len ≤ length front
  lead : AreSteps M top (reverse (take d steps)) (take len front)

upto : (M : Plain) (top : ModId) (steps : List Step) (front : List ℕ) (gap d : ℕ) → d + gap ≡ length steps → AreSteps M top (reverse steps) front → Upto M top steps front d
upto M top steps front zero d all h = record {
  len = length front;
  within = omega arith;
  lead = rw (take_all d steps (omega arith), take_all (length front) front (omega arith)) h;
}
upto M top steps front (suc gap) d all h =
    let more = upto M top steps front gap (d + 1) (omega arith) h in
    let some = item-there steps d (omega arith) in
    let last = steps-last M top (take (d + 1) steps) (take d steps) (get_or steps d some.0) (take more.len front) (take_more steps d some.0 (omega arith)) more.lead in
    let low : (get_or steps d some.0).front ≤ more.len = omega (arith, last.0.above, length-take more.len front) in
    record {
      len = (get_or steps d some.0).front;
      within = omega (arith, more.within);
      lead = rw (← take-take (get_or steps d some.0).front more.len front low) last.1;
    }

-- a step at a depth
pub record StepAt (M : Plain) (top : ModId) (steps : List Step) (front : List ℕ) (d : ℕ) (step : Step) : Type 0 where
  pub len : ℕ
  pub here : IsStep M top step (path_of (reverse (take d steps))) (take len front)
  pub above : AreSteps M top (reverse (take d steps)) (take step.front front)
  pub within : step.front ≤ length front

pub step-at : (M : Plain) (top : ModId) (steps : List Step) (front : List ℕ) (d : ℕ) (step : Step) → d < length steps → step ≡ get_or steps d step → AreSteps M top (reverse steps) front → StepAt M top steps front d step
step-at M top steps front d step within at h =
    let more = upto M top steps front (length steps - (d + 1)) (d + 1) (omega arith) h in
    let cut : take (d + 1) steps ≡ take d steps ++ step ∷ [] = take_more steps d step within ∙ ap (λ x. take d steps ++ x ∷ []) (sym at) in
    let last = steps-last M top (take (d + 1) steps) (take d steps) step (take more.len front) cut more.lead in
    let low : step.front ≤ more.len = omega (arith, last.0.above, length-take more.len front) in
    record {
      len = more.len;
      here = last.0;
      above = rw (← take-take step.front more.len front low) last.1;
      within = omega (arith, more.within);
    }

-- an upward path and the path from the top
reverse-path : (steps : List Step) → reverse (path_of steps) ≡ path_of (reverse steps)
reverse-path [] = refl
reverse-path (step ∷ steps) =
    reverse-append (step.inst.now.id ∷ []) (path_of steps)
    ∙ ap (λ x. x ++ step.inst.now.id ∷ []) (reverse-path steps)
    ∙ sym (map_push (λ (x : Step). x.inst.now.id) (reverse steps) step)
    ∙ ap path_of (sym (reverse-append (step ∷ []) steps))

pub path-take : (steps : List Step) (d : ℕ) → reverse (take d (path_of steps)) ≡ path_of (reverse (take d steps))
path-take steps d = ap reverse (take-map (λ (x : Step). x.inst.now.id) d steps) ∙ reverse-path (take d steps)

-- one step further down
pub path-next : (steps : List Step) (d : ℕ) (step : Step) → d < length steps → step ≡ get_or steps d step → reverse (take (d + 1) (path_of steps)) ≡ step.inst.now.id ∷ reverse (take d (path_of steps))
path-next steps d step within at =
    path-take steps (d + 1)
    ∙ ap (λ x. path_of (reverse x)) (take_more steps d step within ∙ ap (λ x. take d steps ++ x ∷ []) (sym at))
    ∙ ap path_of (reverse-append (take d steps) (step ∷ []))
    ∙ ap (λ x. step.inst.now.id ∷ x) (sym (path-take steps d))

-- the front text of some steps is that of their names
steps-text : (M : Plain) (top : ModId) (up : List Step) (front : List ℕ) → AreSteps M top up front → front ≡ front_text (names_up M top (path_of up))
unfolding AreSteps names_up
steps-text M top [] front h = h
steps-text M top (step ∷ up) front h = h.0.text

-- what is known of the occurrence that so many instances lead to
module _ (M : Plain) (top : ModId) (first : PModule) (ports : List (Vec (Option ℕ) Global)) (steps : List Step) (front : List ℕ) (h : LeadsDown M top first ports steps front) where
  pub top-module : (d : ℕ) → d ≡ 0 → module_up M top (reverse (take d (path_of steps))) ≡ Some first
  unfolding module_up
  top-module d none = rw none h.top_is

  pub top-sound : IsSoundModule M first
  top-sound = sound-module M top first h.sound h.top_is

  module _ (d : ℕ) (step : Step) (within : d < length steps) (at : step ≡ get_or steps d step) where
    found : StepAt M top steps front d step
    found = step-at M top steps front d step within at h.lead

    up-is : path_of (reverse (take d steps)) ≡ reverse (take d (path_of steps))
    up-is = sym (path-take steps d)

    here-inst : inst_up M top step.inst.now.id (reverse (take d (path_of steps))) ≡ Some step.inst.now
    here-inst = rw (← up-is) found.here.inst

    pub step-module : (depth : ℕ) → depth ≡ d + 1 → module_up M top (reverse (take depth (path_of steps))) ≡ Some step.master.now
    unfolding module_up
    step-module depth next = rw (next, path-next steps d step within at, here-inst) found.here.master

    pub step-sound : IsSoundModule M step.master.now
    step-sound = sound-module M step.inst.now.master step.master.now h.sound found.here.master

    pub step-front : step.front ≤ length front
    step-front = found.within

    pub step-text : take step.front front ≡ front_text (names_up M top (reverse (take d (path_of steps))))
    step-text = rw (← up-is) (steps-text M top (reverse (take d steps)) (take step.front front) found.above)

    pub step-source : (depth : ℕ) (net : NetId) (offset : ℕ) → depth ≡ d + 1 → source_above M top (reverse (take depth (path_of steps))) net offset ≡ source_through step.inst.now step.master.now net offset
    step-source depth net offset next =
        rw (next, path-next steps d step within at, here-inst, ← path-next steps d step within at, step-module (d + 1) refl) refl

    pub step-place : step.place < length M.modules
    step-place = slice_get_within M.modules step.place step.master.now found.here.place

    pub step-ports : (places : Vec (Option ℕ) Global) → places ≡ get_or ports step.place places → ArePortPlaces step.master.now places.items
    step-ports places is =
        let m : get_or M.modules step.place step.master.now ≡ step.master.now = get_or_from_slice_get M.modules step.place step.master.now step.master.now found.here.place in
        rw (is) (subst (λ x. ArePortPlaces x (get_or ports step.place places).items) m (h.places.each step.place step.master.now places step-place))

  pub whole-text : (d : ℕ) → length steps ≤ d → front ≡ front_text (names_up M top (reverse (take d (path_of steps))))
  whole-text d all =
      rw (path-take steps d, take_all d steps all) (steps-text M top (reverse steps) front h.lead)

  pub whole-front : front ≡ front_text (names_up M top (reverse (path_of steps)))
  whole-front = rw (reverse-path steps) (steps-text M top (reverse steps) front h.lead)

-- a shorter way
pub leads-pop : (M : Plain) (top : ModId) (first : PModule) (ports : List (Vec (Option ℕ) Global)) (steps above : List Step) (step : Step) (front : List ℕ) → LeadsDown M top first ports steps front → steps ≡ above ++ step ∷ [] → LeadsDown M top first ports above (take step.front front)
leads-pop M top first ports steps above step front h last = record {
  sound = h.sound;
  top_is = h.top_is;
  places = h.places;
  lead = (steps-last M top steps above step front last h.lead).1;
}

front_text-push : (names : List (List ℕ)) (name : List ℕ) → (front_text names ++ spell name) ++ 47 ∷ [] ≡ front_text (names ++ name ∷ [])
front_text-push names name =
    append_assoc (front_text names) (spell name) (47 ∷ [])
    ∙ ap (λ x. front_text names ++ x) (sym (append-nil (spell name ++ 47 ∷ [])))
    ∙ sym (flat_map-append (λ x. spell x ++ 47 ∷ []) names (name ∷ []))

step-text-more : (M : Plain) (top : ModId) (i : PInst) (up : List InstId) (front new : List ℕ) → inst_up M top i.id up ≡ Some i → front ≡ front_text (names_up M top up) → new ≡ (front ++ spell i.name) ++ 47 ∷ [] → new ≡ front_text (names_up M top (i.id ∷ up))
unfolding names_up
step-text-more M top i up front new there text more = rw (more, text, there) (front_text-push (names_up M top up) i.name)

steps-push : (M : Plain) (top : ModId) (steps : List Step) (step : Step) (front new : List ℕ) → AreSteps M top (reverse steps) front → inst_up M top step.inst.now.id (path_of (reverse steps)) ≡ Some step.inst.now → module_of M step.inst.now.master ≡ Some step.master.now → slice_get M.modules step.place ≡ Some step.master.now → step.front ≡ length front → new ≡ (front ++ spell step.inst.now.name) ++ 47 ∷ [] → AreSteps M top (reverse (steps ++ step ∷ [])) new
unfolding AreSteps
steps-push M top steps step front new h there found place above more =
    let here : IsStep M top step (path_of (reverse steps)) new = record {
      inst = there;
      master = found;
      place = place;
      text = step-text-more M top step.inst.now (path_of (reverse steps)) front new there (steps-text M top (reverse steps) front h) more;
      above = rw (more, above) (simp length-append (omega arith));
    } in
    let before : take step.front new ≡ front =
    rw (more, above, append_assoc front (spell step.inst.now.name) (47 ∷ []), take-append-le (length front) front (spell step.inst.now.name ++ 47 ∷ []) (omega arith), take_all (length front) front (omega arith)) refl in
    rw (reverse-append steps (step ∷ []), before) (here, h)

-- a longer way
pub leads-push : (M : Plain) (top : ModId) (first : PModule) (ports : List (Vec (Option ℕ) Global)) (steps more : List Step) (step : Step) (front new : List ℕ) → LeadsDown M top first ports steps front → more ≡ steps ++ step ∷ [] → inst_up M top step.inst.now.id (reverse (path_of steps)) ≡ Some step.inst.now → (module_of M step.inst.now.master ≡ Some step.master.now) × (slice_get M.modules step.place ≡ Some step.master.now) → step.front ≡ length front → new ≡ (front ++ spell step.inst.now.name) ++ 47 ∷ [] → LeadsDown M top first ports more new
leads-push M top first ports steps more step front new h same there found above text = record {
  sound = h.sound;
  top_is = h.top_is;
  places = h.places;
  lead = rw same (steps-push M top steps step front new h.lead (rw (reverse-path steps) at there) found.0 found.1 above text);
}

placed-go : (M : Plain) (id : ModId) (place : ℕ) (m : PModule) (o : Option PModule) → slice_get M.modules place ≡ o → IsSomeAnd o (λ x. module_of M id ≡ Some x) → m ≡ get_or M.modules place m → (module_of M id ≡ Some m) × (slice_get M.modules place ≡ Some m)
placed-go M id place m None e found at = absurd found
placed-go M id place m (Some x) e found at =
    let same : x ≡ m = sym (at ∙ get_or_from_slice_get M.modules place x m e) in
    (found ∙ ap Some same, e ∙ ap Some same)

-- what stands at a place of the table
pub placed : (M : Plain) (id : ModId) (place : ℕ) (m : PModule) (items : List PModule) → IsSomeAnd (slice_get M.modules place) (λ x. module_of M id ≡ Some x) → items ≡ M.modules → m ≡ get_or items place m → (module_of M id ≡ Some m) × (slice_get M.modules place ≡ Some m)
placed M id place m items found same at = placed-go M id place m (slice_get M.modules place) refl found (at ∙ ap (λ x. get_or x place m) same)

-- the master of an instance on the way is there
pub master-up : (M : Plain) (top : ModId) (id : InstId) (up : List InstId) (inst : PInst) → IsSound M → inst_up M top id up ≡ Some inst → module_of M inst.master ≡ None → ⊥
master-up M top id up inst sound there none =
    let holder = and_then-some (λ m. inst_of m id) (module_up M top up) inst there in
    let has = All-find (HasMaster M holder.0) (λ x. x.id.0 == id.0) holder.0.insts inst (sound-up M top up holder.0 sound holder.1).masters holder.2 in
    absurd (false≢true (rw none at (master-there M holder.0 inst has)))

-- roots, by the source above

root-step : (M : Plain) (top : ModId) (up : List InstId) (net : NetId) (offset : ℕ) → root_up M top up net offset ≡ unwrap_or (option_map (root_of_source (λ n k. root_up M top (drop 1 up) n k)) (source_above M top up net offset)) (Own (reverse up) net offset)
unfolding root_up
root-step M top [] net offset = refl
root-step M top (i ∷ up) net offset = refl

pin-step : (M : Plain) (top : ModId) (up : List InstId) (net : NetId) (offset : ℕ) → pin_root M top up net offset ≡ option_map (root_of_source (λ n k. root_up M top (drop 1 up) n k)) (source_above M top up net offset)
pin-step M top [] net offset = refl
pin-step M top (i ∷ up) net offset = refl

up-above : (path : List InstId) (d : ℕ) → 0 < d → d ≤ length path → drop 1 (reverse (take d path)) ≡ reverse (take (d - 1) path)
up-above path d some within =
    let i = item-there path (d - 1) (omega arith) in
    let next : d ≡ d - 1 + 1 = omega arith in
    ap (λ n. drop 1 (reverse (take n path))) next
    ∙ ap (λ x. drop 1 (reverse x)) (take_more path (d - 1) i.0 (omega arith))
    ∙ ap (drop 1) (reverse-append (take (d - 1) path) (get_or path (d - 1) i.0 ∷ []))

pub root-own : (M : Plain) (top : ModId) (path : List InstId) (d : ℕ) (net : NetId) (offset : ℕ) → None ≡ source_above M top (reverse (take d path)) net offset → Own (take d path) net offset ≡ root_up M top (reverse (take d path)) net offset
root-own M top path d net offset none =
    rw (root-step M top (reverse (take d path)) net offset, ← none, reverse-reverse (take d path)) refl

pub root-through : (M : Plain) (top : ModId) (path : List InstId) (d : ℕ) (net : NetId) (offset : ℕ) (source : Src) → 0 < d → d ≤ length path → Some source ≡ source_above M top (reverse (take d path)) net offset → root_up M top (reverse (take d path)) net offset ≡ root_of_source (λ n k. root_up M top (reverse (take (d - 1) path)) n k) source
root-through M top path d net offset source some within is =
    rw (root-step M top (reverse (take d path)) net offset, ← is, up-above path d some within) refl

pub pin-through : (M : Plain) (top : ModId) (path : List InstId) (d : ℕ) (net : NetId) (offset : ℕ) (source : Src) → 0 < d → d ≤ length path → Some source ≡ source_above M top (reverse (take d path)) net offset → pin_root M top (reverse (take d path)) net offset ≡ Some (root_of_source (λ n k. root_up M top (reverse (take (d - 1) path)) n k) source)
pin-through M top path d net offset source some within is =
    rw (pin-step M top (reverse (take d path)) net offset, ← is, up-above path d some within) refl

-- the text of a path is what stands before a net there, without its last slash
front_text-path : (name : List ℕ) (names : List (List ℕ)) → front_text (name ∷ names) ≡ path_text (name ∷ names) ++ 47 ∷ []
front_text-path name [] = append-nil (spell name ++ 47 ∷ [])
front_text-path name (next ∷ names) = rw (front_text-path next names) (simp append_assoc)

pub path-before : (front path : List ℕ) (last : ℕ) (names : List (List ℕ)) → front ≡ path ++ last ∷ [] → front ≡ front_text names → path ≡ path_text names
path-before front path last [] cut text =
    absurd (let n = ap length (sym cut ∙ text) in omega (arith, length-append path (last ∷ [])))
path-before front path last (name ∷ names) cut text =
    (same_from_push path (path_text (name ∷ names)) last 47 (sym cut ∙ text ∙ front_text-path name names)).0

pub path-from_nothing : (front : List ℕ) (names : List (List ℕ)) → length front ≡ 0 → front ≡ front_text names → path_text names ≡ 47 ∷ []
path-from_nothing front [] none text = refl
path-from_nothing front (name ∷ names) none text =
    absurd (let n = ap length (text ∙ front_text-path name names) in omega (arith, length-append (path_text (name ∷ names)) (47 ∷ [])))
