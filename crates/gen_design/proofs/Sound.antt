-- Made tables are sound.
use Rattle.std.proofs.Common.{◌≡◌, ◌≢◌, ℕ, zero, suc, ◌+◌, ◌*◌, ◌-◌, ◌%◌, ◌==◌, ◌<◌, ◌≤◌, List, [], ◌∷◌, ◌++◌, map, find, length, get_or, Option, Some, None, IsSome, MatchOption, All, AllPairs, bytes_eq, refl, sym, ap, ◌∙◌, subst, arith, codes, drop}
use Rattle.std.specs.List.{IsDistinct, range_with_len}
use Rattle.std.specs.Fmt.{decimal}
use Rattle.std.proofs.lemmas.Bool.{false≢true}
use Rattle.std.proofs.lemmas.Fmt.{decimal_injective}
use Rattle.std.proofs.lemmas.List.{length-map}
use Rattle.std.proofs.lemmas.List.FromFn.{get_or-map-range_with_len, length-map-range_with_len, length-range_with_len, get_or-range_with_len}
use Rattle.std.proofs.lemmas.List.Elements.{All-cons, All-nil, All-map}
use Rattle.std.proofs.lemmas.List.Kept.{AllPairs-cons}
use Rattle.std.proofs.lemmas.Map.Made.{IsDistinct-from_AllPairs}
use Rattle.std.proofs.lemmas.Slice.Eq.{bytes_eq-Decides}
use Rattle.std.proofs.lemmas.Nat.{mod_below}
use Rattle.emh_base.specs.declared.ids.ModId.{ModId}
use Rattle.emh_base.specs.declared.ids.NetId.{NetId}
use Rattle.emh_base.specs.declared.ids.InstId.{InstId}
use Rattle.emh_base.specs.declared.plain.Dir.TheVariants.{Input, Output}
use Rattle.emh_base.specs.declared.plain.Src.TheVariants.{Bit}
use Rattle.emh_base.specs.declared.plain.Conn.{Conn}
use Rattle.emh_base.specs.declared.plain.PNet.{PNet}
use Rattle.emh_base.specs.declared.plain.PPort.{PPort}
use Rattle.emh_base.specs.declared.plain.PInst.{PInst}
use Rattle.emh_base.specs.declared.plain.PModule.{PModule}
use Rattle.emh_base.specs.declared.plain.Plain.{Plain}
use Rattle.flatten_rules.specs.Lookup.{module_of, net_of, port_of, width, width_of}
use Rattle.flatten_rules.specs.Unfolding.{module_up}
use Rattle.flatten_rules.specs.Cycle.{OnCycle}
use Rattle.flatten_rules.specs.Sound.{IsSound, IsSoundModule, IsAllowed, HasMaster, FitsPort, FitPorts, IsSource}
use Rattle.flatten_rules.proofs.Sound.{All-find}
use Rattle.flatten_rules.proofs.Walks.{find-own, id-of_found, last_step, up-own}
use Rattle.edit_rules.proofs.GoodNames as names
use Rattle.edit_rules.proofs.GoodNames.{Apart}
use Rattle.gen_design.specs.Random.{draw}
use Rattle.gen_design.specs.Made.{net, two_ports, inverter, bus, across, on, whole, shifted_offset, shifted, inst, one_inverter, two_nets, made_module, made, made_top}
use Rattle.gen_design.specs.Law.{MadeIsSound}

-- Where instances are of modules with smaller ids, no walk comes back.

abbrev Falls : Plain → Type 0
Falls M = All (λ (m : PModule). All (λ (x : PInst). x.master.0 < m.id.0) m.insts) M.modules

module _ (M : Plain) (falls : Falls M) where
  falls-up : (top : ModId) (up : List InstId) (m : PModule) → module_up M top up ≡ Some m → m.id.0 + length up ≤ top.0
  unfolding module_up
  falls-up top [] m leads =
      let same : m.id.0 ≡ top.0 = ap (λ (x : ModId). x.0) (id-of_found M top m leads) in
      omega (arith, same)
  falls-up top (i ∷ up) m leads =
      let step = last_step M top i up m leads in
      let before = falls-up top up step.holder step.above in
      let each : All (λ (x : PInst). x.master.0 < step.holder.id.0) step.holder.insts =
      All-find (λ (h : PModule). All (λ (x : PInst). x.master.0 < h.id.0) h.insts) (λ x. x.id.0 == step.holder.id.0) M.modules step.holder falls (up-own M top up step.holder step.above) in
      let low : step.inst.master.0 < step.holder.id.0 = All-find (λ (x : PInst). x.master.0 < step.holder.id.0) (λ x. x.id.0 == i.0) step.holder.insts step.inst each step.found in
      let same : m.id.0 ≡ step.inst.master.0 = ap (λ (x : ModId). x.0) (id-of_found M step.inst.master m step.master) in
      omega (arith, before, low, same)

  no-cycle : (m : PModule) → OnCycle M m → ⊥
  no-cycle m cycle = let all = falls-up m.id (cycle.0 ∷ cycle.1) m cycle.2 in absurd (omega (arith, all))

-- Names.

abbrev net_name : PNet → List ℕ
net_name x = x.name

abbrev inst_name : PInst → List ℕ
inst_name x = x.name

abbrev module_name : PModule → List ℕ
module_name m = m.name

-- Short lists.

module _ {X : Type 0} where
  all-two : (P : X → Type 0) (a b : X) → P a → P b → All P (a ∷ b ∷ [])
  all-two P a b pa pb = All-cons P a (b ∷ []) pa (All-cons P b [] pb (All-nil P))

  all-three : (P : X → Type 0) (a b c : X) → P a → P b → P c → All P (a ∷ b ∷ c ∷ [])
  all-three P a b c pa pb pc = All-cons P a (b ∷ c ∷ []) pa (all-two P b c pb pc)

  pairs-two : (R : X → X → Type 0) (a b : X) → R a b → AllPairs R (a ∷ b ∷ [])
  pairs-two R a b ab = AllPairs-cons R a (b ∷ []) (All-cons (R a) b [] ab (All-nil (R a))) (AllPairs-cons R b [] (All-nil (R b)) (names.pairs-nil R))

  pairs-three : (R : X → X → Type 0) (a b c : X) → R a b → R a c → R b c → AllPairs R (a ∷ b ∷ c ∷ [])
  pairs-three R a b c ab ac bc = AllPairs-cons R a (b ∷ c ∷ []) (all-two (R a) b c ab ac) (pairs-two R b c bc)

-- names with other first bytes
first : List ℕ → ℕ
first name = get_or name 0 0

by-first : (a b : List ℕ) → first a ≢ first b → a ≢ b
by-first a b ne e = ne (ap first e)

-- names of the same stem of one byte with other numbers
by-number : (c i j : ℕ) → i < j → j < 20000 → c ∷ decimal i ≢ c ∷ decimal j
by-number c i j before low e =
    let same : decimal i ≡ decimal j = ap (drop 1) e in
    let equal : i ≡ j = decimal_injective i j (omega arith) (omega arith) same in
    absurd (omega arith)

-- Ranges of numbers.

below-range : (n : ℕ) → All (λ o. o < n) (range_with_len 0 n)
below-range n k d within =
    let at : get_or (range_with_len 0 n) k d ≡ 0 + k = get_or-range_with_len 0 n k d (omega (arith, length-range_with_len 0 n)) in
    omega (arith, at, length-range_with_len 0 n)

offset-below : (w k : ℕ) → 1 ≤ w → across w k < w
offset-below w k one = omega arith

below-shifted : (w r : ℕ) → 1 ≤ w → (os : List ℕ) → All (λ o. o < w) (map (λ offset. shifted_offset w r offset) os)
below-shifted w r one os = All-map (λ o. o < w) (λ offset. shifted_offset w r offset) os (λ k d within. offset-below w ((across w (get_or os k d) + r) % w) one)

wide : (w : ℕ) → 1 ≤ w → width (bus w) ≡ w
wide w one = omega arith

-- a connection of bits of a net that has so many
fits-on : (m master : PModule) (port : PPort) (n w : ℕ) (offsets : List ℕ) → length offsets ≡ width_of (net_of master port.net) → width_of (net_of m (record { 0 = n })) ≡ w → All (λ o. o < w) offsets
    → FitsPort m master port (on n offsets)
fits-on m master port n w offsets long has below = (
  length-map offsets (λ (o : ℕ). Bit (record { 0 = n }) o) ∙ long,
  All-map (IsSource m) (λ (o : ℕ). Bit (record { 0 = n }) o) offsets (λ k d within. omega (arith, below k d within, has)),
)

module _ (x n w : ℕ) (one : 1 ≤ w) (narrow : w ≤ 64) (few : n ≤ 10000) where
  abbrev G : ℕ → PModule
  G j = made_module x w j

  abbrev M : Plain
  M = made x n w

  abbrev nth : ℕ → PModule
  nth zero = inverter
  nth (suc j) = made_module x w j

  abbrev number : PModule → ℕ
  number m = m.id.0

  many : length M.modules ≡ suc n
  many = ap suc (length-map-range_with_len (made_module x w) 0 n)

  item : (k : ℕ) (d : PModule) → k < length M.modules → get_or M.modules k d ≡ nth k
  item zero d within = refl
  item (suc k) d within = get_or-map-range_with_len (made_module x w) 0 n k k d (omega (arith, many)) (omega arith)

  number-made : (j : ℕ) → (made_module x w j).id.0 ≡ suc j
  number-made zero = omega arith
  number-made (suc j) = omega arith

  number-nth : (k : ℕ) → (nth k).id.0 ≡ k
  number-nth zero = refl
  number-nth (suc j) = number-made j

  rise : AllPairs (λ (a b : PModule). a.id.0 < b.id.0) M.modules
  rise i j d before within =
      omega (arith, ap number (item i d (omega arith)), ap number (item j d within), number-nth i, number-nth j)

  -- what holds of each by its number holds of all
  each : (P : PModule → Type 0) → ((k : ℕ) → k ≤ n → P (nth k)) → All P M.modules
  each P all k d within = subst P (sym (item k d within)) (all k (omega (arith, many)))

  found : (k : ℕ) → k ≤ n → module_of M (record { 0 = k }) ≡ Some (nth k)
  found k low =
      let within : k < length M.modules = omega (arith, many) in
      let own = find-own number M.modules rise k inverter within in
      let At : PModule → Type 0 = λ m. find (λ y. number y == number m) M.modules ≡ Some m in
      let here : At (nth k) = subst At (item k inverter within) own in
      let Of : ℕ → Type 0 = λ i. find (λ y. number y == i) M.modules ≡ Some (nth k) in
      subst Of (number-nth k) here

  -- the two ports of a master that are so wide take connections that are so wide
  abbrev IsWide : PModule → ℕ → Type 0
  IsWide m v = (m.ports ≡ two_ports) × (width_of (net_of m (record { 0 = 0 })) ≡ v) × (width_of (net_of m (record { 0 = 1 })) ≡ v)

  wide-nth : (k : ℕ) → IsWide (nth (suc k)) w
  wide-nth zero = (refl, wide w one, wide w one)
  wide-nth (suc k) = (refl, wide w one, wide w one)

  has : (m : PModule) (k i : ℕ) (name : List ℕ) (na nb v : ℕ) (xs ys : List ℕ) → k ≤ n → IsWide (nth k) v → length xs ≡ v → length ys ≡ v
      → width_of (net_of m (record { 0 = na })) ≡ w → width_of (net_of m (record { 0 = nb })) ≡ w → All (λ o. o < w) xs → All (λ o. o < w) ys
      → HasMaster M m (inst i name k (on na xs) (on nb ys))
  has m k i name na nb v xs ys low is la lb wa wb a b =
      let master : PModule = nth k in
      let conns : List Conn = on na xs ∷ on nb ys ∷ [] in
      let fit : FitPorts m master two_ports conns = (
        fits-on m master (record { net = record { 0 = 0 }; dir = Input }) na w xs (la ∙ sym is.1) wa a,
        (fits-on m master (record { net = record { 0 = 1 }; dir = Output }) nb w ys (lb ∙ sym is.2) wb b, tt),
      ) in
      let Fit : List PPort → Type 0 = λ ports. FitPorts m master ports conns in
      let Has : Option PModule → Type 0 = λ o. MatchOption o ⊥ (λ other. FitPorts m other other.ports conns) in
      subst Has (sym (found k low)) (subst Fit (sym is.0) fit)

  -- the names of all
  name-made : (j : ℕ) → (made_module x w j).name ≡ 103 ∷ decimal j
  name-made zero = refl
  name-made (suc j) = refl

  names-nth : (i j : ℕ) → i < j → j ≤ n → module_name (nth i) ≢ module_name (nth j)
  unfolding first
  names-nth i zero before low = absurd (omega arith)
  names-nth zero (suc j) before low = λ e. by-first (codes "INV") (103 ∷ decimal j) (λ same. absurd (omega (arith, same))) (e ∙ name-made j)
  names-nth (suc i) (suc j) before low = λ e. by-number 103 i j (omega arith) (omega arith) (sym (name-made i) ∙ e ∙ name-made j)

  all-names : IsDistinct bytes_eq (map module_name M.modules)
  all-names =
      IsDistinct-from_AllPairs bytes_eq-Decides (map module_name M.modules)
      (names.pairs-map (λ a b. a ≢ b) module_name M.modules (λ i j d before within. λ e.
      names-nth i j before (omega (arith, many)) (sym (ap module_name (item i d (omega arith))) ∙ e ∙ ap module_name (item j d within))))

  -- the leaf
  ports-differ : AllPairs (λ (a b : PPort). a.net ≢ b.net) two_ports
  ports-differ =
      pairs-two (λ (a b : PPort). a.net ≢ b.net) (record { net = record { 0 = 0 }; dir = Input }) (record { net = record { 0 = 1 }; dir = Output })
      (λ e. let same : 0 ≡ 1 = ap (λ (y : NetId). y.0) e in absurd (omega (arith, same)))

  sound-inverter : IsSoundModule M inverter
  unfolding first
  sound-inverter = record {
    names = IsDistinct-from_AllPairs bytes_eq-Decides (codes "A" ∷ codes "Y" ∷ [])
        (pairs-two (λ a b. a ≢ b) (codes "A") (codes "Y") (by-first (codes "A") (codes "Y") (λ same. absurd (omega (arith, same)))));
    nets_rise = pairs-two (λ (a b : PNet). a.id.0 < b.id.0) (net 0 (codes "A") None) (net 1 (codes "Y") None) (omega arith);
    nets_below = all-two (λ (a : PNet). a.id.0 < 2) (net 0 (codes "A") None) (net 1 (codes "Y") None) (omega arith) (omega arith);
    net_counter = omega arith;
    ranges = all-two (λ (a : PNet). IsAllowed a.range) (net 0 (codes "A") None) (net 1 (codes "Y") None) tt tt;
    ports_there = all-two (λ (a : PPort). IsSome (net_of inverter a.net)) (record { net = record { 0 = 0 }; dir = Input }) (record { net = record { 0 = 1 }; dir = Output }) refl refl;
    ports_differ = ports-differ;
    insts_rise = names.pairs-nil (λ (a b : PInst). a.id.0 < b.id.0);
    insts_below = All-nil (λ (a : PInst). a.id.0 < 0);
    inst_counter = omega arith;
    masters = All-nil (HasMaster M inverter);
    cell = λ leaf. record {
      insts = refl;
      nets = all-two (λ (a : PNet). IsSome (port_of inverter a.id)) (net 0 (codes "A") None) (net 1 (codes "Y") None) refl refl;
      unlocked = refl;
    };
  }

  bus-allowed : IsAllowed (bus w)
  bus-allowed = (omega arith, omega arith, omega (arith, wide w one))

  -- the first module
  abbrev inverters : List PInst
  inverters = map (one_inverter w) (range_with_len 0 w)

  inverter-at : (k : ℕ) (d : PInst) → k < length inverters → get_or inverters k d ≡ one_inverter w k
  inverter-at k d within = get_or-map-range_with_len (one_inverter w) 0 w k k d (omega (arith, length-map-range_with_len (one_inverter w) 0 w)) (omega arith)

  each-inverter : (P : PInst → Type 0) → ((k : ℕ) → k < w → P (one_inverter w k)) → All P inverters
  each-inverter P all k d within = subst P (sym (inverter-at k d within)) (all k (omega (arith, length-map-range_with_len (one_inverter w) 0 w)))

  pairs-inverter : (R : PInst → PInst → Type 0) → ((i j : ℕ) → i < j → j < w → R (one_inverter w i) (one_inverter w j)) → AllPairs R inverters
  pairs-inverter R all i j d before within =
      let left : (y : PInst) → R (one_inverter w i) y → R (get_or inverters i d) y = λ y. subst (λ z. R z y) (sym (inverter-at i d (omega arith))) in
      left (get_or inverters j d) (subst (R (one_inverter w i)) (sym (inverter-at j d within)) (all i j before (omega (arith, length-map-range_with_len (one_inverter w) 0 w))))

  sound-first : IsSoundModule M (made_module x w 0)
  unfolding first
  sound-first =
      let i : PNet = net 0 (codes "i") (bus w) in
      let o : PNet = net 1 (codes "o") (bus w) in
      let m : PModule = made_module x w 0 in
      record {
        names = names.names_distinct net_name inst_name (two_nets w) inverters (record {
          left = pairs-two (λ (a b : PNet). net_name a ≢ net_name b) i o (by-first (codes "i") (codes "o") (λ same. absurd (omega (arith, same))));
          right = pairs-inverter (λ (a b : PInst). inst_name a ≢ inst_name b) (λ a b before low. by-number 117 a b before (omega arith));
          across = all-two (λ (a : PNet). All (λ (b : PInst). net_name a ≢ inst_name b) inverters) i o
              (each-inverter (λ (b : PInst). codes "i" ≢ inst_name b) (λ k low. by-first (codes "i") (117 ∷ decimal k) (λ same. absurd (omega (arith, same)))))
              (each-inverter (λ (b : PInst). codes "o" ≢ inst_name b) (λ k low. by-first (codes "o") (117 ∷ decimal k) (λ same. absurd (omega (arith, same)))));
        });
        nets_rise = pairs-two (λ (a b : PNet). a.id.0 < b.id.0) i o (omega arith);
        nets_below = all-two (λ (a : PNet). a.id.0 < 2) i o (omega arith) (omega arith);
        net_counter = omega arith;
        ranges = all-two (λ (a : PNet). IsAllowed a.range) i o bus-allowed bus-allowed;
        ports_there = all-two (λ (a : PPort). IsSome (net_of m a.net)) (record { net = record { 0 = 0 }; dir = Input }) (record { net = record { 0 = 1 }; dir = Output }) refl refl;
        ports_differ = ports-differ;
        insts_rise = pairs-inverter (λ (a b : PInst). a.id.0 < b.id.0) (λ a b before low. before);
        insts_below = each-inverter (λ (a : PInst). a.id.0 < w) (λ k low. low);
        inst_counter = omega (arith, narrow);
        masters = each-inverter (HasMaster M m) (λ k low.
            has m 0 k (codes "u" ++ decimal k) 0 1 1 (across w k ∷ []) (across w k ∷ []) (omega arith) (refl, refl, refl) refl refl (wide w one) (wide w one)
            (All-cons (λ o. o < w) (across w k) [] (offset-below w k one) (All-nil (λ o. o < w)))
            (All-cons (λ o. o < w) (across w k) [] (offset-below w k one) (All-nil (λ o. o < w))));
        cell = λ leaf. absurd (false≢true leaf);
      }

  -- a later module
  sound-later : (j : ℕ) → suc (suc j) ≤ n → IsSoundModule M (made_module x w (suc j))
  unfolding first
  sound-later j low =
      let i : PNet = net 0 (codes "i") (bus w) in
      let o : PNet = net 1 (codes "o") (bus w) in
      let v : PNet = net 2 (codes "w") (bus w) in
      let m : PModule = made_module x w (suc j) in
      let d : ℕ = draw x (3 * j + 1) % suc j in
      let e : ℕ = draw x (3 * j + 2) % suc j in
      let r : ℕ = draw x (3 * j + 3) in
      let a : PInst = inst 0 (codes "a") (d + 1) (whole 0 w) (whole 2 w) in
      let b : PInst = inst 1 (codes "b") (e + 1) (shifted 2 w r) (whole 1 w) in
      let d_low : d < suc j = mod_below (draw x (3 * j + 1)) (suc j) (omega arith) in
      let e_low : e < suc j = mod_below (draw x (3 * j + 2)) (suc j) (omega arith) in
      let master : (k : ℕ) → IsWide (nth (k + 1)) w = λ k. let next : suc k ≡ k + 1 = omega arith in subst (λ at. IsWide (nth at) w) next (wide-nth k) in
      let all_long : length (range_with_len 0 w) ≡ w = length-range_with_len 0 w in
      let shifted_long : length (map (λ offset. shifted_offset w r offset) (range_with_len 0 w)) ≡ w = length-map-range_with_len (λ offset. shifted_offset w r offset) 0 w in
      record {
        names = names.names_distinct net_name inst_name (i ∷ o ∷ v ∷ []) (a ∷ b ∷ []) (record {
          left = pairs-three (λ (p q : PNet). net_name p ≢ net_name q) i o v (by-first (codes "i") (codes "o") (λ same. absurd (omega (arith, same)))) (by-first (codes "i") (codes "w") (λ same. absurd (omega (arith, same)))) (by-first (codes "o") (codes "w") (λ same. absurd (omega (arith, same))));
          right = pairs-two (λ (p q : PInst). inst_name p ≢ inst_name q) a b (by-first (codes "a") (codes "b") (λ same. absurd (omega (arith, same))));
          across = all-three (λ (p : PNet). All (λ (q : PInst). net_name p ≢ inst_name q) (a ∷ b ∷ [])) i o v
              (all-two (λ (q : PInst). codes "i" ≢ inst_name q) a b (by-first (codes "i") (codes "a") (λ same. absurd (omega (arith, same)))) (by-first (codes "i") (codes "b") (λ same. absurd (omega (arith, same)))))
              (all-two (λ (q : PInst). codes "o" ≢ inst_name q) a b (by-first (codes "o") (codes "a") (λ same. absurd (omega (arith, same)))) (by-first (codes "o") (codes "b") (λ same. absurd (omega (arith, same)))))
              (all-two (λ (q : PInst). codes "w" ≢ inst_name q) a b (by-first (codes "w") (codes "a") (λ same. absurd (omega (arith, same)))) (by-first (codes "w") (codes "b") (λ same. absurd (omega (arith, same)))));
        });
        nets_rise = pairs-three (λ (p q : PNet). p.id.0 < q.id.0) i o v (omega arith) (omega arith) (omega arith);
        nets_below = all-three (λ (p : PNet). p.id.0 < 3) i o v (omega arith) (omega arith) (omega arith);
        net_counter = omega arith;
        ranges = all-three (λ (p : PNet). IsAllowed p.range) i o v bus-allowed bus-allowed bus-allowed;
        ports_there = all-two (λ (p : PPort). IsSome (net_of m p.net)) (record { net = record { 0 = 0 }; dir = Input }) (record { net = record { 0 = 1 }; dir = Output }) refl refl;
        ports_differ = ports-differ;
        insts_rise = pairs-two (λ (p q : PInst). p.id.0 < q.id.0) a b (omega arith);
        insts_below = all-two (λ (p : PInst). p.id.0 < 2) a b (omega arith) (omega arith);
        inst_counter = omega arith;
        masters = all-two (HasMaster M m) a b
            (has m (d + 1) 0 (codes "a") 0 2 w (range_with_len 0 w) (range_with_len 0 w) (omega (arith, low, d_low)) (master d) all_long all_long (wide w one) (wide w one) (below-range w) (below-range w))
            (has m (e + 1) 1 (codes "b") 2 1 w (map (λ offset. shifted_offset w r offset) (range_with_len 0 w)) (range_with_len 0 w) (omega (arith, low, e_low)) (master e) shifted_long all_long (wide w one) (wide w one) (below-shifted w r one (range_with_len 0 w)) (below-range w));
        cell = λ leaf. absurd (false≢true leaf);
      }

  sound-nth : (k : ℕ) → k ≤ n → IsSoundModule M (nth k)
  sound-nth zero low = sound-inverter
  sound-nth (suc zero) low = sound-first
  sound-nth (suc (suc j)) low = sound-later j low

  -- masters have smaller ids
  falls-nth : (k : ℕ) → k ≤ n → All (λ (y : PInst). y.master.0 < (nth k).id.0) (nth k).insts
  falls-nth zero low = All-nil (λ (y : PInst). y.master.0 < 0)
  falls-nth (suc zero) low = each-inverter (λ (y : PInst). y.master.0 < 0 + 1) (λ k inside. omega arith)
  falls-nth (suc (suc j)) low =
      let d : ℕ = draw x (3 * j + 1) in
      let e : ℕ = draw x (3 * j + 2) in
      let a : PInst = inst 0 (codes "a") (d % suc j + 1) (whole 0 w) (whole 2 w) in
      let b : PInst = inst 1 (codes "b") (e % suc j + 1) (shifted 2 w (draw x (3 * j + 3))) (whole 1 w) in
      all-two (λ (y : PInst). y.master.0 < suc j + 1) a b (omega (arith, mod_below d (suc j) (omega arith))) (omega (arith, mod_below e (suc j) (omega arith)))

  made-sound : IsSound M
  made-sound = record {
    names = all-names;
    rise = rise;
    below = each (λ (m : PModule). m.id.0 < n + 1) (λ k low. omega (arith, number-nth k, low));
    counter = omega (arith, few);
    modules = each (IsSoundModule M) sound-nth;
    no_cycle = no-cycle M (each (λ (m : PModule). All (λ (y : PInst). y.master.0 < m.id.0) m.insts) falls-nth);
  }

last-there : (x n w : ℕ) (k : ℕ) → suc k ≡ n → 1 ≤ w → w ≤ 64 → n ≤ 10000 → module_of (made x n w) (made_top n) ≡ Some (made_module x w (n - 1))
last-there x n w k is one narrow few =
    let last : n - 1 ≡ k = omega (arith, is) in
    let here : module_of (made x n w) (record { 0 = suc k }) ≡ Some (made_module x w k) = found x n w one narrow few (suc k) (omega (arith, is)) in
    subst (λ at. module_of (made x n w) (record { 0 = at }) ≡ Some (made_module x w (n - 1))) is (here ∙ ap (λ at. Some (made_module x w at)) (sym last))

pub made-is-sound : MadeIsSound
made-is-sound x n w some few one narrow =
    (made-sound x n w one narrow few, last-there x n w (n - 1) (omega (arith, some)) one narrow few)
