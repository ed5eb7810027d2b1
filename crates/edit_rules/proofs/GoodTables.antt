-- Tables in which each module is changed by itself, and what stays of them.
use Rattle.std.proofs.Common.{◌≡◌, ℕ, ◌==◌, ◌<◌, ◌≤◌, inl, Bool, true, false, cond, List, [], ◌∷◌, get_or, map, find, Option, Some, None, option_map, All, MatchOption, bytes_eq, refl, sym, ap, ◌∙◌, subst, arith}
use Rattle.std.specs.List.{IsDistinct}
use Rattle.std.proofs.lemmas.Bool.Decides.{nat_tests}
use Rattle.std.proofs.lemmas.List.Elements.{All-map, All-weaker, All-head, All-tail}
use Rattle.emh_base.specs.declared.ids.ModId.{ModId}
use Rattle.emh_base.specs.declared.plain.Conn.{Conn}
use Rattle.emh_base.specs.declared.plain.Conn.TheVariants.{Open, Bits}
use Rattle.emh_base.specs.declared.plain.PPort.{PPort}
use Rattle.emh_base.specs.declared.plain.PInst.{PInst}
use Rattle.emh_base.specs.declared.plain.PModule.{PModule}
use Rattle.emh_base.specs.declared.plain.Plain.{Plain}
use Rattle.flatten_rules.specs.Lookup.{module_of, net_of, insts_of, width_of}
use Rattle.flatten_rules.specs.Limits.{bits_of, WalksAreShort, IsWithin}
use Rattle.flatten_rules.specs.Design.{IsInner}
use Rattle.flatten_rules.specs.Sound.{IsSource, FitsPort, FitPorts, HasMaster, IsSoundModule, IsSound}
use Rattle.flatten_rules.proofs.Walks.{find-own, found-own, same-some}
use Rattle.edit_rules.proofs.OrderLemmas.{rises-map}
use Rattle.edit_rules.proofs.GoodWalks.{AreBelow, IsBelow, within-below, no_cycle-short}

-- Lists.

found_either : {X : Type 0} (g : X → X) (b : Bool) (x : X) (l r : Option X) → l ≡ option_map g r → cond b (Some (g x)) l ≡ option_map g (cond b (Some x) r)
found_either g true x l r same = refl
found_either g false x l r same = same

pub find-map : {X : Type 0} (p : X → Bool) (g : X → X) → ((x : X) → p (g x) ≡ p x) → (xs : List X) → find p (map g xs) ≡ option_map g (find p xs)
find-map p g same [] = refl
find-map p g same (x ∷ xs) =
    ap (λ b. cond b (Some (g x)) (find p (map g xs))) (same x) ∙ found_either g (p x) x (find p (map g xs)) (find p xs) (find-map p g same xs)

pub map-through : {X Y : Type 0} (f : X → Y) (g : X → X) → ((x : X) → f (g x) ≡ f x) → (xs : List X) → map f (map g xs) ≡ map f xs
map-through f g same [] = refl
map-through f g same (x ∷ xs) = ap (λ y. y ∷ map f (map g xs)) (same x) ∙ ap (λ ys. f x ∷ ys) (map-through f g same xs)

-- Ports and connections that stay.

-- the ports of a module are those of another, and as wide
pub record SamePorts (m n : PModule) : Type 0 where
  pub ports : n.ports ≡ m.ports
  pub widths : All (λ (port : PPort). width_of (net_of n port.net) ≡ width_of (net_of m port.net)) m.ports

-- what are sources of a connection in a module are sources in another
abbrev pub KeepsConn : PModule → PModule → Conn → Type 0
KeepsConn m n Open = Unit {0}
KeepsConn m n (Bits bits) = All (IsSource m) bits → All (IsSource n) bits

pub keeps-own : (m : PModule) (conn : Conn) → KeepsConn m m conn
keeps-own m Open = tt
keeps-own m (Bits bits) = λ all. all

pub same_ports-own : (m : PModule) → SamePorts m m
same_ports-own m = record { ports = refl; widths = λ k d within. refl }

fits_kept : (m n master other : PModule) (port : PPort) (conn : Conn) → width_of (net_of other port.net) ≡ width_of (net_of master port.net) → KeepsConn m n conn → FitsPort m master port conn → FitsPort n other port conn
fits_kept m n master other port Open wide keeps fits = tt
fits_kept m n master other port (Bits bits) wide keeps fits = (fits.0 ∙ sym wide, keeps fits.1)

pub fit_kept : (m n master other : PModule) (ports : List PPort) (conns : List Conn) → All (λ (port : PPort). width_of (net_of other port.net) ≡ width_of (net_of master port.net)) ports
    → All (KeepsConn m n) conns → FitPorts m master ports conns → FitPorts n other ports conns
fit_kept m n master other [] [] wide keeps fits = tt
fit_kept m n master other [] (conn ∷ conns) wide keeps fits = absurd fits
fit_kept m n master other (port ∷ ports) [] wide keeps fits = absurd fits
fit_kept m n master other (port ∷ ports) (conn ∷ conns) wide keeps fits =
    let Wide : PPort → Type 0 = λ p. width_of (net_of other p.net) ≡ width_of (net_of master p.net) in (
      fits_kept m n master other port conn (All-head Wide port ports wide) (All-head (KeepsConn m n) conn conns keeps) fits.0,
      fit_kept m n master other ports conns (All-tail Wide port ports wide) (All-tail (KeepsConn m n) conn conns keeps) fits.1,
    )

-- a master of a table is in another, with the same ports
abbrev pub KeepsMaster : Plain → Plain → ModId → Type 0
KeepsMaster M N id = (master : PModule) → module_of M id ≡ Some master → (other : PModule) × (module_of N id ≡ Some other) × SamePorts master other

-- and each is
abbrev pub KeepsMasters : Plain → Plain → Type 0
KeepsMasters M N = (id : ModId) → KeepsMaster M N id

pub master_kept : (M N : Plain) (m n : PModule) (inst : PInst) → KeepsMaster M N inst.master → All (KeepsConn m n) inst.conns → HasMaster M m inst → HasMaster N n inst
master_kept M N m n inst kept_master keeps has = by_cases (module_of M inst.master) refl has
  where
    by_cases : (o : Option PModule) → module_of M inst.master ≡ o → MatchOption o ⊥ (λ master. FitPorts m master master.ports inst.conns) → HasMaster N n inst
    by_cases None e h = absurd h
    by_cases (Some master) e h =
        let kept = kept_master master e in
        let Fits : List PPort → Type 0 = λ ports. FitPorts n kept.0 ports inst.conns in
        let Has : Option PModule → Type 0 = λ o. MatchOption o ⊥ (λ other. FitPorts n other other.ports inst.conns) in
        subst Has (sym kept.1) (subst Fits (sym kept.2.ports) (fit_kept m n master kept.0 master.ports inst.conns kept.2.widths keeps h))

pub masters_kept : (M N : Plain) (m : PModule) → KeepsMasters M N → All (HasMaster M m) m.insts → All (HasMaster N m) m.insts
masters_kept M N m masters all =
    All-weaker (HasMaster M m) (HasMaster N m) (λ inst has. master_kept M N m m inst (masters inst.master) (λ k d within. keeps-own m (get_or inst.conns k d)) has) m.insts all

-- a module that stays is sound in a table that keeps its masters
pub module_kept : (M N : Plain) (m : PModule) → KeepsMasters M N → IsSoundModule M m → IsSoundModule N m
module_kept M N m masters s = record {
  names = s.names;
  nets_rise = s.nets_rise;
  nets_below = s.nets_below;
  net_counter = s.net_counter;
  ranges = s.ranges;
  ports_there = s.ports_there;
  ports_differ = s.ports_differ;
  insts_rise = s.insts_rise;
  insts_below = s.insts_below;
  inst_counter = s.inst_counter;
  masters = masters_kept M N m masters s.masters;
  cell = s.cell;
}

-- A table in which each module is changed.

abbrev pub mapped : (PModule → PModule) → Plain → Plain
mapped g M = record M { modules = map g M.modules }

abbrev pub Same : ModId → ModId → Type 0
Same a b = a ≡ b

pub below-own : (insts : List PInst) → AreBelow Same insts insts
below-own [] = tt
below-own (inst ∷ insts) = inl (refl, below-own insts)

-- the module that a table has under its id
abbrev pub IsOwn : Plain → PModule → Type 0
IsOwn M m = module_of M m.id ≡ Some m

module _ (M : Plain) (g : PModule → PModule) (ids : (m : PModule) → (g m).id ≡ m.id) where
  pub lookup-mapped : (id : ModId) → module_of (mapped g M) id ≡ option_map g (module_of M id)
  lookup-mapped id = find-map (λ (m : PModule). m.id.0 == id.0) g (λ m. ap (λ (at : ModId). at.0 == id.0) (ids m)) M.modules

  -- what holds of nothing, and of each module before and after, holds at each id
  pub each-mapped : (P : Option PModule → Option PModule → Type 0) → P None None → ((m : PModule) → IsOwn M m → P (Some (g m)) (Some m)) → (id : ModId) → P (module_of (mapped g M) id) (module_of M id)
  each-mapped P none some id = subst (λ o. P o (module_of M id)) (sym (lookup-mapped id)) (by_cases (module_of M id) refl)
    where
      by_cases : (o : Option PModule) → module_of M id ≡ o → P (option_map g o) o
      by_cases None e = none
      by_cases (Some m) e = some m (found-own M id m e)

  pub masters-mapped : ((m : PModule) → IsOwn M m → SamePorts m (g m)) → KeepsMasters M (mapped g M)
  masters-mapped same id master found = (g master, lookup-mapped id ∙ ap (option_map g) found, same master (found-own M id master found))

  pub cells-mapped : ((m : PModule) → IsOwn M m → m.leaf ≡ true → g m ≡ m) → (id : ModId) (m : PModule) → module_of M id ≡ Some m → m.leaf ≡ true → module_of (mapped g M) id ≡ Some m
  cells-mapped same id m found leaf = lookup-mapped id ∙ ap (option_map g) found ∙ ap Some (same m (found-own M id m found) leaf)

  pub inner-mapped : ((m : PModule) → (g m).leaf ≡ m.leaf) → (id : ModId) → IsInner (module_of M id) → IsInner (module_of (mapped g M) id)
  inner-mapped same id inner =
      each-mapped (λ new old. IsInner old → IsInner new) (λ never. never) (λ m own is. same m ∙ is) id inner

  pub below-mapped : ((m : PModule) → IsOwn M m → AreBelow Same (g m).insts m.insts) → IsBelow (mapped g M) M Same
  below-mapped below a b same =
      subst (λ id. AreBelow Same (insts_of (module_of (mapped g M) a)) (insts_of (module_of M id))) same
      (each-mapped (λ new old. AreBelow Same (insts_of new) (insts_of old)) tt below a)

  pub within-mapped : (top : ModId) → IsSound M → IsWithin M top → IsBelow (mapped g M) M Same → ((m : PModule) → IsOwn M m → bits_of (Some (g m)) ≤ bits_of (Some m)) → IsWithin (mapped g M) top
  within-mapped top sound within below few =
      within-below (mapped g M) M Same below top sound within (λ a. (a, refl)) refl
      (λ a b same. subst (λ id. bits_of (module_of (mapped g M) a) ≤ bits_of (module_of M id)) same
      (each-mapped (λ new old. bits_of new ≤ bits_of old) (omega arith) few a))

  pub sound-mapped : IsSound M → IsDistinct bytes_eq (map (λ (m : PModule). m.name) (map g M.modules)) → ((m : PModule) → IsOwn M m → IsSoundModule M m → IsSoundModule (mapped g M) (g m))
      → WalksAreShort (mapped g M) → IsSound (mapped g M)
  sound-mapped sound names each short = record {
    names = names;
    rise = rises-map (λ (m : PModule). m.id.0) g (λ m. ap (λ (at : ModId). at.0) (ids m)) M.modules sound.rise;
    below = All-map (λ (m : PModule). m.id.0 < M.next_module) g M.modules
        (All-weaker (λ (m : PModule). m.id.0 < M.next_module) (λ (m : PModule). (g m).id.0 < M.next_module) (λ m low. rw (ids m) low) M.modules sound.below);
    counter = sound.counter;
    modules = All-map (IsSoundModule (mapped g M)) g M.modules (λ k d within. each (get_or M.modules k d) (find-own (λ (m : PModule). m.id.0) M.modules sound.rise k d within) (sound.modules k d within));
    no_cycle = no_cycle-short (mapped g M) short;
  }

-- A table in which the one module of an id is changed.

abbrev pub changed : ModId → (PModule → PModule) → PModule → PModule
changed id f m = cond (m.id.0 == id.0) (f m) m

-- a choice has what both sides have
pub chosen_by : {X : Type 0} (P : X → Type 0) (b : Bool) (y x : X) → (b ≡ true → P y) → P x → P (cond b y x)
chosen_by P true y x here there = here refl
chosen_by P false y x here there = there

pub changed-keeps : {Y : Type 0} (part : PModule → Y) (id : ModId) (f : PModule → PModule) → ((m : PModule) → part (f m) ≡ part m) → (m : PModule) → part (changed id f m) ≡ part m
changed-keeps part id f same m = chosen_by (λ x. part x ≡ part m) (m.id.0 == id.0) (f m) m (λ here. same m) refl

-- what holds of the changed module, and of each that stays, holds of each
pub each-changed : (P : PModule → PModule → Type 0) (M : Plain) (id : ModId) (f : PModule → PModule) (holder : PModule) → module_of M id ≡ Some holder
    → P (f holder) holder → ((m : PModule) → P m m) → (m : PModule) → IsOwn M m → P (changed id f m) m
each-changed P M id f holder found here there m own =
    chosen_by (λ x. P x m) (m.id.0 == id.0) (f m) m
    (λ at.
    let number : m.id.0 ≡ id.0 = grind (arith, nat_tests) in
    let make : ℕ → ModId = λ n. record { 0 = n } in
    let same_id : m.id ≡ id = ap make number in
    let same : holder ≡ m = same-some (module_of M id) holder m found (ap (module_of M) (sym same_id) ∙ own) in
    subst (λ x. P (f x) x) same here)
    (there m)
