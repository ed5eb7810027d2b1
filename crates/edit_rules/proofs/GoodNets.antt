-- A net more and a net less keep a good state good.
use Rattle.std.proofs.Common.{◌≡◌, ◌≢◌, ℕ, ◌+◌, ◌==◌, ◌<◌, ◌≤◌, nat_lt, Bool, true, false, cond, not, ◌||◌, List, [], ◌∷◌, ◌++◌, map, filter, find, get_or, sum_by, Option, Some, None, option_and_then, is_some, IsSome, All, AllPairs, bytes_eq, refl, sym, ap, ◌∙◌, arith}
use Rattle.std.specs.List.{IsDistinct, list_any}
use Rattle.std.specs.Option.{option_or}
use Rattle.std.proofs.lemmas.Bool.{or_parts, true≢false}
use Rattle.std.proofs.lemmas.Bool.Decides.{nat_tests}
use Rattle.std.proofs.lemmas.List.Elements.{All-weaker, All-filter, All-push, All-nil, All-cons}
use Rattle.std.proofs.lemmas.List.Folds.{find-append}
use Rattle.std.proofs.lemmas.List.Filters.{sum_by-filter_both}
use Rattle.std.proofs.lemmas.List.Kept.{AllPairs-filter}
use Rattle.std.proofs.lemmas.List.Quantifiers.{all_pairs_push}
use Rattle.emh_base.specs.declared.ids.ModId.{ModId}
use Rattle.emh_base.specs.declared.ids.NetId.{NetId}
use Rattle.emh_base.specs.declared.plain.Range.{Range}
use Rattle.emh_base.specs.declared.plain.Src.{Src}
use Rattle.emh_base.specs.declared.plain.Src.TheVariants.{Tie0, Tie1, Bit}
use Rattle.emh_base.specs.declared.plain.Conn.{Conn}
use Rattle.emh_base.specs.declared.plain.Conn.TheVariants.{Open, Bits}
use Rattle.emh_base.specs.declared.plain.PNet.{PNet}
use Rattle.emh_base.specs.declared.plain.PPort.{PPort}
use Rattle.emh_base.specs.declared.plain.PInst.{PInst}
use Rattle.emh_base.specs.declared.plain.PModule.{PModule}
use Rattle.emh_base.specs.declared.plain.Plain.{Plain}
use Rattle.emh_base.specs.declared.state.State.{State}
use Rattle.emh_base.specs.declared.edit.Edit.TheVariants.{CreateNet, DeleteNet}
use Rattle.flatten_rules.specs.Lookup.{module_of, net_of, port_of, width, width_of}
use Rattle.flatten_rules.specs.Unfolding.{Occurrence, occurrences}
use Rattle.flatten_rules.specs.Limits.{bits_of}
use Rattle.flatten_rules.specs.Sound.{IsAllowed, IsSource, IsCounter}
use Rattle.flatten_rules.proofs.Walks.{some-there}
use Rattle.edit_rules.specs.Readers.{next_net_of, lacks_room, is_name_in, is_of_net, names_net, is_net_used, is_too_wide}
use Rattle.flatten_rules.specs.Limits.{has_too_many_bits}
use Rattle.flatten_rules.proofs.LimitTests.{at_most}
use Rattle.edit_rules.specs.Nets.{create_net, create_net_rules, with_net, new_net, delete_net, delete_net_rules, without_net}
use Rattle.edit_rules.specs.Good.{IsGoodState}
use Rattle.edit_rules.specs.Apply.{after}
use Rattle.edit_rules.proofs.GoodWalks.{IsBelow, short-below, size-below}
use Rattle.edit_rules.proofs.GoodTables.{SamePorts, KeepsConn, KeepsMasters, Same, below-own, master_kept}
use Rattle.edit_rules.proofs.GoodChecks.{Passes, first-passes, Opened, common-passes}
use Rattle.edit_rules.proofs.GoodStates.{stays}
use Rattle.edit_rules.proofs.GoodNames as names
use Rattle.edit_rules.proofs.GoodNames.{net_name, inst_name, NamesApart, Apart}
use Rattle.edit_rules.proofs.GoodKept.{insts_kept, no_cell, holder-sound, holder-names, names-stay, below-changed, within-changed, masters-changed, changed-good}

-- DeleteNet

-- a look-up that doesn't ask for what is taken out
pub find-filter : {X : Type 0} (p q : X → Bool) → ((x : X) → p x ≡ true → q x ≡ true) → (xs : List X) → find p (filter q xs) ≡ find p xs
find-filter {X} p q keeps [] = refl
find-filter {X} p q keeps (x ∷ xs) = by (q x) (keeps x) (find-filter p q keeps xs)
  where
    passed : (c : Bool) (r t : Option X) → (c ≡ true → false ≡ true) → r ≡ t → r ≡ cond c (Some x) t
    passed true r t keeps same = let never : false ≡ true = keeps refl in absurd (true≢false (sym never))
    passed false r t keeps same = same

    by : (b : Bool) → (p x ≡ true → b ≡ true) → find p (filter q xs) ≡ find p xs → find p (cond b (x ∷ filter q xs) (filter q xs)) ≡ cond (p x) (Some x) (find p xs)
    by true keeps same = ap (cond (p x) (Some x)) same
    by false keeps same = passed (p x) (find p (filter q xs)) (find p xs) keeps same

pub none-found : {X : Type 0} (p : X → Bool) (xs : List X) → is_some (find p xs) ≡ false → All (λ x. p x ≡ false) xs
none-found p [] none = All-nil (λ x. p x ≡ false)
none-found p (x ∷ xs) none = let e = apart (p x) x (find p xs) none in All-cons (λ y. p y ≡ false) x xs e.0 (none-found p xs e.1)
  where
    apart : {X : Type 0} (b : Bool) (x : X) (o : Option X) → is_some (cond b (Some x) o) ≡ false → (b ≡ false) × (is_some o ≡ false)
    apart true x o none = absurd (true≢false none)
    apart false x o none = (refl, none)

pub sum-filter : {X : Type 0} (n : X → ℕ) (p : X → Bool) (xs : List X) → sum_by n (filter p xs) ≤ sum_by n xs
sum-filter n p xs = omega (arith, sum_by-filter_both p (λ x. not (p x)) (λ _. refl) n xs)

-- no source names the net
abbrev pub Unnamed : NetId → PInst → Type 0
Unnamed net inst = All (λ conn. names_net net conn ≡ false) inst.conns

pub unnamed : (net : NetId) (insts : List PInst) → list_any (λ (inst : PInst). list_any (names_net net) inst.conns) insts ≡ false → All (Unnamed net) insts
unnamed net insts none = λ k d within. names.none-of (names_net net) (get_or insts k d).conns (names.none-of (λ (inst : PInst). list_any (names_net net) inst.conns) insts none k d within)

-- a module without a net, as far as other nets go
module _ (m n : PModule) (net : NetId) (same : (other : NetId) → (other.0 ≡ net.0 → ⊥) → net_of n other ≡ net_of m other) where
  source-stays : (src : Src) → is_of_net net src ≡ false → IsSource m src → IsSource n src
  source-stays Tie0 other is = tt
  source-stays Tie1 other is = tt
  source-stays (Bit at offset) other is =
      let apart : at.0 ≡ net.0 → ⊥ = λ equal. grind (arith, nat_tests) in
      rw (same at apart) is

  pub keeps-unnamed : (conn : Conn) → names_net net conn ≡ false → KeepsConn m n conn
  keeps-unnamed Open none = tt
  keeps-unnamed (Bits bits) none = λ all. λ k d within. source-stays (get_or bits k d) (names.none-of (is_of_net net) bits none k d within) (all k d within)

pub other-net : (m : PModule) (net other : NetId) → (other.0 ≡ net.0 → ⊥) → net_of (without_net net m) other ≡ net_of m other
other-net m net other apart = find-filter (λ (x : PNet). x.id.0 == other.0) (λ (x : PNet). not (x.id.0 == net.0)) (λ x here. grind (arith, nat_tests)) m.nets

pub delete_net-good : (S : State) (id : ModId) (net : NetId) → IsGoodState S → Passes (delete_net_rules S id net) → IsGoodState (after S (DeleteNet id net))
delete_net-good S id net good p =
    let a = common-passes S id p in
    let b = first-passes a.1 in
    let c = first-passes b.1 in
    let e = first-passes c.1 in
    let o : Opened S id = a.0 in
    let m : PModule = o.holder in
    let n : PModule = without_net net m in
    let N : Plain = delete_net S.plain id net in
    let stays_net : PNet → Bool = λ other. not (other.id.0 == net.0) in
    let s = holder-sound S id (without_net net) (λ m. refl) o good in
    let no_port : All (λ (port : PPort). (port.net.0 == net.0) ≡ false) m.ports
    = none-found (λ (port : PPort). port.net.0 == net.0) m.ports (sym (ap (λ (x : Option PModule). is_some (option_and_then (λ (y : PModule). port_of y net) x)) o.found) ∙ c.0) in
    let free : All (Unnamed net) m.insts = unnamed net m.insts (sym (ap (λ (x : Option PModule). is_net_used x net) o.found) ∙ e.0) in
    let same : (other : NetId) → (other.0 ≡ net.0 → ⊥) → net_of n other ≡ net_of m other = other-net m net in
    let at_port : All (λ (port : PPort). net_of n port.net ≡ net_of m port.net) m.ports
    = λ k d within. same (get_or m.ports k d).net (λ equal. let apart = no_port k d within in grind (arith, nat_tests)) in
    let ports : SamePorts m n = record { ports = refl; widths = λ k d within. ap width_of (at_port k d within) } in
    let kept : KeepsMasters S.plain N = masters-changed S id (without_net net) (λ m. refl) o good ports in
    let old : NamesApart net_name inst_name m.nets m.insts = holder-names S id (without_net net) (λ m. refl) o good in
    let few : bits_of (Some n) ≤ bits_of (Some m) = rw o.inner (sum-filter (λ (x : PNet). width x.range) stays_net m.nets) in
    stays S N good
    (changed-good S id (without_net net) (λ m. refl) o good (λ m. refl) (names-stay S id (without_net net) (λ m. refl) o good (λ m. refl)) ports
    (record {
      names = names.names_distinct net_name inst_name (filter stays_net m.nets) m.insts (record {
        left = AllPairs-filter (λ x y. net_name x ≢ net_name y) stays_net m.nets old.left;
        right = old.right;
        across = All-filter stays_net (λ x. All (λ (y : PInst). net_name x ≢ inst_name y) m.insts) m.nets old.across;
      });
      nets_rise = AllPairs-filter (λ (x y : PNet). x.id.0 < y.id.0) stays_net m.nets s.nets_rise;
      nets_below = All-filter stays_net (λ (x : PNet). x.id.0 < m.next_net) m.nets s.nets_below;
      net_counter = s.net_counter;
      ranges = All-filter stays_net (λ (x : PNet). IsAllowed x.range) m.nets s.ranges;
      ports_there = λ k d within. ap (λ (x : Option PNet). is_some x) (at_port k d within) ∙ s.ports_there k d within;
      ports_differ = s.ports_differ;
      insts_rise = s.insts_rise;
      insts_below = s.insts_below;
      inst_counter = s.inst_counter;
      masters = λ k d within. master_kept S.plain N m n (get_or m.insts k d) (kept (get_or m.insts k d).master)
          (λ j f inside. keeps-unnamed m n net same (get_or (get_or m.insts k d).conns j f) (free k d within j f inside)) (s.masters k d within);
      cell = no_cell m n o.inner refl;
    })
    (within-changed S id (without_net net) (λ m. refl) o good (below-own m.insts) few))

-- CreateNet

pub range-allowed : (range : Option Range) → is_too_wide range ≡ false → IsAllowed range
range-allowed None e = tt
range-allowed (Some range) e =
    let a = or_parts (nat_lt 65535 range.left) (nat_lt 65535 range.right || nat_lt 4096 (width (Some range))) e in
    let b = or_parts (nat_lt 65535 range.right) (nat_lt 4096 (width (Some range))) a.1 in
    let left : nat_lt 65535 range.left ≡ false = a.0 in
    let right : nat_lt 65535 range.right ≡ false = b.0 in
    let wide : nat_lt 4096 (width (Some range)) ≡ false = b.1 in
    (at_most 65535 range.left left, at_most 65535 range.right right, at_most 4096 (width (Some range)) wide)

-- a net that is there is there with a net more
net-found : (m : PModule) (name : List ℕ) (range : Option Range) (net : NetId) (x : PNet) → net_of m net ≡ Some x → net_of (with_net name range m) net ≡ Some x
net-found m name range net x found =
    find-append (λ (y : PNet). y.id.0 == net.0) m.nets (new_net m.next_net name range ∷ []) ∙ ap (λ (y : Option PNet). option_or y (find (λ (z : PNet). z.id.0 == net.0) (new_net m.next_net name range ∷ []))) found

pub net-wide : (m : PModule) (name : List ℕ) (range : Option Range) (net : NetId) → width_of (net_of m net) ≤ width_of (net_of (with_net name range m) net)
net-wide m name range net = by_cases (net_of m net) (λ x found. net-found m name range net x found)
  where
    by_cases : (o : Option PNet) → ((x : PNet) → o ≡ Some x → net_of (with_net name range m) net ≡ Some x) → width_of o ≤ width_of (net_of (with_net name range m) net)
    by_cases None same = omega arith
    by_cases (Some x) same = rw (same x refl) (omega arith)

-- where a net is there, it is the same with a net more
pub net-same : (m : PModule) (name : List ℕ) (range : Option Range) (net : NetId) → IsSome (net_of m net) → net_of (with_net name range m) net ≡ net_of m net
net-same m name range net some =
    let x = some-there (net_of m net) some in
    net-found m name range net x.0 x.1 ∙ sym x.1

-- what a module with a net more is sound by, but for its masters
pub record WithNet (m : PModule) (name : List ℕ) (range : Option Range) : Type 0 where
  pub names : IsDistinct bytes_eq (map net_name (m.nets ++ new_net m.next_net name range ∷ []) ++ map inst_name m.insts)
  pub rise : AllPairs (λ (x y : PNet). x.id.0 < y.id.0) (m.nets ++ new_net m.next_net name range ∷ [])
  pub below : All (λ (x : PNet). x.id.0 < m.next_net + 1) (m.nets ++ new_net m.next_net name range ∷ [])
  pub counter : IsCounter (m.next_net + 1)
  pub ranges : All (λ (x : PNet). IsAllowed x.range) (m.nets ++ new_net m.next_net name range ∷ [])

pub with_net-sound : (S : State) (id : ModId) (name : List ℕ) (range : Option Range) (o : Opened S id) → IsGoodState S → is_name_in (module_of S.plain id) name ≡ false → is_too_wide range ≡ false
    → lacks_room (next_net_of (module_of S.plain id)) 1 ≡ false → WithNet o.holder name range
with_net-sound S id name range o good is_free narrow room =
    let m : PModule = o.holder in
    let new : PNet = new_net m.next_net name range in
    let s = holder-sound S id (λ m. m) (λ m. refl) o good in
    let taken = or_parts _ _ (sym (ap (λ (x : Option PModule). is_name_in x name) o.found) ∙ is_free) in
    let new_nets : All (λ (x : PNet). x.name ≢ name) m.nets = names.free net_name name m.nets taken.0 in
    let new_insts : All (λ (x : PInst). x.name ≢ name) m.insts = names.free inst_name name m.insts taken.1 in
    let old : NamesApart net_name inst_name m.nets m.insts = holder-names S id (λ m. m) (λ m. refl) o good in
    record {
      names = names.names_distinct net_name inst_name (m.nets ++ new ∷ []) m.insts (record {
        left = names.apart-push net_name m.nets new old.left new_nets;
        right = old.right;
        across = All-push (λ x. All (λ (y : PInst). net_name x ≢ inst_name y) m.insts) m.nets new old.across (λ k d within. λ same. new_insts k d within (sym same));
      });
      rise = all_pairs_push (λ (x y : PNet). x.id.0 < y.id.0) m.nets new s.nets_rise s.nets_below;
      below = All-push (λ (x : PNet). x.id.0 < m.next_net + 1) m.nets new
          (All-weaker (λ (x : PNet). x.id.0 < m.next_net) (λ (x : PNet). x.id.0 < m.next_net + 1) (λ x low. omega (arith, low)) m.nets s.nets_below) (omega arith);
      counter = at_most 4294967295 (m.next_net + 1) (sym (ap (λ (x : Option PModule). lacks_room (next_net_of x) 1) o.found) ∙ room);
      ranges = All-push (λ (x : PNet). IsAllowed x.range) m.nets new s.ranges (range-allowed range narrow);
    }

pub few-bits : (N : Plain) (top : ModId) → has_too_many_bits N top ≡ false → sum_by (λ (o : Occurrence). bits_of (module_of N o.1)) (occurrences N top) ≤ 4000000
few-bits N top e = at_most 4000000 (sum_by (λ (o : Occurrence). bits_of (module_of N o.1)) (occurrences N top)) e

pub create_net-good : (S : State) (id : ModId) (name : List ℕ) (range : Option Range) → IsGoodState S → Passes (create_net_rules S id name range) → IsGoodState (after S (CreateNet id name range))
create_net-good S id name range good p =
    let a = common-passes S id p in
    let b = first-passes a.1 in
    let c = first-passes b.1 in
    let d = first-passes c.1 in
    let e = first-passes d.1 in
    let o : Opened S id = a.0 in
    let m : PModule = o.holder in
    let n : PModule = with_net name range m in
    let N : Plain = create_net S.plain id name range in
    let f : PModule → PModule = with_net name range in
    let s = holder-sound S id f (λ m. refl) o good in
    let made = with_net-sound S id name range o good b.0 c.0 d.0 in
    let ports : SamePorts m n = record { ports = refl; widths = λ k d within. ap width_of (net-same m name range (get_or m.ports k d).net (s.ports_there k d within)) } in
    let below : IsBelow N S.plain Same = below-changed S id f (λ m. refl) o good (below-own m.insts) in
    stays S N good
    (changed-good S id f (λ m. refl) o good (λ m. refl) (names-stay S id f (λ m. refl) o good (λ m. refl)) ports
    (record {
      names = made.names;
      nets_rise = made.rise;
      nets_below = made.below;
      net_counter = made.counter;
      ranges = made.ranges;
      ports_there = λ k d within. ap (λ (x : Option PNet). is_some x) (net-same m name range (get_or m.ports k d).net (s.ports_there k d within)) ∙ s.ports_there k d within;
      ports_differ = s.ports_differ;
      insts_rise = s.insts_rise;
      insts_below = s.insts_below;
      inst_counter = s.inst_counter;
      masters = insts_kept S.plain N m n (masters-changed S id f (λ m. refl) o good ports) (net-wide m name range) m.insts s.masters;
      cell = no_cell m n o.inner refl;
    })
    (record {
      depth = short-below N S.plain Same below good.table.sound good.table.within.depth (λ at. (at, refl));
      size = omega (arith, size-below N S.plain Same below S.top S.top refl, good.table.within.size);
      bits = few-bits N S.top e.0;
    }))
