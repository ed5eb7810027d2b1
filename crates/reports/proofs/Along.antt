-- The pins that lead to a net bit of the unfolding are those that lead to it from below, counted in its module.
use Rattle.std.proofs.Common.{◌≡◌, ◌≢◌, ℕ, ◌≤◌, Bool, true, false, cond, List, [], ◌∷◌, ◌++◌, map, flat_map, length, reverse, get_or, sum_by, count_by, Option, Some, None, option_map, option_and_then, unwrap_or, All, Contains, refl, sym, ap, subst, ◌∙◌, arith}
use Rattle.std.proofs.lemmas.Bool.{true≢false}
use Rattle.std.proofs.lemmas.List.{reverse-append, reverse-reverse}
use Rattle.std.proofs.lemmas.Simd.{map-map}
use Rattle.std.proofs.lemmas.List.Elements.{All-contains, All-head, All-map, All-tail, Contains-get_or}
use Rattle.std.proofs.lemmas.List.Sums.{length-filter}
use Rattle.emh_base.specs.declared.ids.ModId.{ModId}
use Rattle.emh_base.specs.declared.ids.NetId.{NetId}
use Rattle.emh_base.specs.declared.ids.InstId.{InstId}
use Rattle.emh_base.specs.declared.plain.Src.{Src}
use Rattle.emh_base.specs.declared.plain.PNet.{PNet}
use Rattle.emh_base.specs.declared.plain.PPort.{PPort}
use Rattle.emh_base.specs.declared.plain.PInst.{PInst}
use Rattle.emh_base.specs.declared.plain.PModule.{PModule}
use Rattle.emh_base.specs.declared.plain.Plain.{Plain}
use Rattle.emh_base.specs.declared.root.Root.{Root}
use Rattle.emh_base.specs.declared.root.Root.TheVariants.{Own}
use Rattle.flatten_rules.specs.Lookup.{module_of, net_of, inst_of, InstsRise}
use Rattle.flatten_rules.specs.Unfolding.{Occurrence, occurrences, module_up}
use Rattle.flatten_rules.specs.Root.{source_above, root_of_source, root_up, pin_root}
use Rattle.flatten_rules.specs.Domains.{NetBit, Pin, net_bits, is_own, bits_inside, bits_of_net, is_leaf, ports_of, port_net, offsets, pins, pins_of_port, root_of_pin}
use Rattle.flatten_rules.specs.Sound.{IsSound}
use Rattle.flatten_rules.specs.Limits.{WalksAreShort}
use Rattle.flatten_rules.specs.Walk.{id_up}
use Rattle.flatten_rules.specs.inside.Left.{pins_inside}
use Rattle.flatten_rules.proofs.Sound.{sound-module}
use Rattle.flatten_rules.proofs.Walks.{find-own, id-of_found, last_step}
use Rattle.flatten_rules.proofs.Unfolded.{flat_map-from, module_up-id, each_walk_once}
use Rattle.flatten_rules.proofs.Flattening.{pins-all}
use Rattle.flatten_rules.proofs.BlockNets.{root-own}
use Rattle.reports.specs.Net.{is_same, is_led_to, pins_led_to}
use Rattle.reports.specs.Block.{pin_count}
use Rattle.reports.specs.inside.Below.{port_bits, cell_bits, roots_at, roots_below, pins_at, WalksBelow}
use Rattle.reports.proofs.Lists.{sum-each, sum-map, sum-flat_map, map-flat_map, flat_map-each}
use Rattle.reports.proofs.Below.{OwnInsts, module-below, root-below, roots-stay, walks-master, up-none}
use Rattle.reports.proofs.PinsAt.{RisingInsts, never-same, over-back, pins-step}

module _ (M : Plain) (sound : IsSound M) where
  pub own-insts : OwnInsts M
  own-insts m holder there k d within = find-own (λ (x : PInst). x.id.0) holder.insts (sound-module M m holder sound there).insts_rise k d within

  pub rising-insts : RisingInsts M
  rising-insts m holder there = (sound-module M m holder sound there).insts_rise

-- the first step of a walk
record First (M : Plain) (m : ModId) (i : InstId) : Type 0 where
  holder : PModule
  there : module_of M m ≡ Some holder
  inst : PInst
  found : inst_of holder i ≡ Some inst

first-step : (M : Plain) (m : ModId) (i : InstId) (up : List InstId) (end : PModule) → module_up M m (up ++ i ∷ []) ≡ Some end → First M m i
first-step M m i [] end leads =
    let step = last_step M m i [] end leads in
    record { holder = step.holder; there = sym (up-none M m) ∙ step.above; inst = step.inst; found = step.found }
first-step M m i (j ∷ up) end leads =
    let step = last_step M m j (up ++ i ∷ []) end leads in
    first-step M m i up step.holder step.above

pub short-walks : (M : Plain) → WalksAreShort M → (m : ModId) → WalksBelow M m 257
short-walks M short m up some = let few : length up ≤ 256 = short m up some in omega (arith, few)

-- along the path to a net bit that leads no further up
pins-along : (M : Plain) → IsSound M → WalksAreShort M → (path : List InstId) (m : ModId) (end : PModule) (net : NetId) (offset : ℕ)
    → module_up M m (reverse path) ≡ Some end → root_up M m (reverse path) net offset ≡ Own path net offset
    → count_by (is_same (Own path net offset)) (roots_below M m 257) ≡ pins_at M end.id net offset
pins-along M sound short [] m end net offset leads is_own =
    let found : module_of M m ≡ Some end = sym (up-none M m) ∙ leads in
    ap (λ (id : ModId). count_by (is_same (Own [] net offset)) (roots_below M id 257)) (sym (id-of_found M m end found))
pins-along M sound short (i ∷ path) m end net offset leads is_own =
    let at : reverse (i ∷ path) ≡ reverse path ++ i ∷ [] = reverse-append (i ∷ []) path in
    let first = first-step M m i (reverse path) end (ap (module_up M m) (sym at) ∙ leads) in
    let inst : PInst = first.inst in
    let down : module_up M inst.master (reverse path) ≡ Some end = sym (module-below M m i first.holder inst first.there first.found (reverse path)) ∙ ap (module_up M m) (sym at) ∙ leads in
    let further : root_up M inst.master (reverse path) net offset ≡ Own path net offset =
    over-back M m i path net offset (root_up M inst.master (reverse path) net offset)
    (sym (root-below M m i first.holder inst first.there first.found (reverse path) net offset) ∙ ap (λ up. root_up M m up net offset) (sym at) ∙ is_own)
    in
    let stay : roots_below M inst.master 256 ≡ roots_below M inst.master 257 = roots-stay M (own-insts M sound) 256 inst.master (walks-master M m 256 first.holder i inst first.there first.found (short-walks M short m)) in
    pins-step M m 256 first.holder i inst path net offset (own-insts M sound) (rising-insts M sound) first.there first.found is_own
    ∙ ap (count_by (is_same (Own path net offset))) stay
    ∙ pins-along M sound short path inst.master end net offset down further

-- a pin leads to a net bit elsewhere as a net bit would that is its own root where it is open
led-root : (M : Plain) (top : ModId) (path : List InstId) (net : NetId) (offset : ℕ) (up : List InstId) (n : NetId) (k : ℕ) → reverse up ≢ path
    → is_led_to (Own path net offset) (pin_root M top up n k) ≡ is_same (Own path net offset) (root_up M top up n k)
unfolding root_up
led-root M top path net offset [] n k apart = sym (never-same (Own path net offset) (Own [] n k) (λ is. apart (let e : [] ≡ path = cc in e)))
led-root M top path net offset (i ∷ up) n k apart = by_source (source_above M top (i ∷ up) n k)
  where
    by_source : (s : Option Src) → is_led_to (Own path net offset) (option_map (root_of_source (λ a b. root_up M top up a b)) s)
        ≡ is_same (Own path net offset) (unwrap_or (option_map (root_of_source (λ a b. root_up M top up a b)) s) (Own (reverse (i ∷ up)) n k))
    by_source None = sym (never-same (Own path net offset) (Own (reverse (i ∷ up)) n k) (λ is. apart (let e : reverse (i ∷ up) ≡ path = cc in e)))
    by_source (Some source) = refl

-- the pins of an occurrence by the bits of its cell
abbrev pin_of : Occurrence → NetId × ℕ → Pin
pin_of o bit = record { inst = o; port = bit.0; offset = bit.1 }

module _ (M : Plain) (top : ModId) (path : List InstId) (net : NetId) (offset : ℕ) where
  pins-by_bits : (o : Occurrence) → pins_inside M o ≡ map (pin_of o) (cell_bits (module_of M o.1))
  pins-by_bits o = by_module (module_of M o.1) refl
    where
      by_leaf : (m : PModule) → module_of M o.1 ≡ Some m → (leaf : Bool) → cond leaf (flat_map (pins_of_port M o) m.ports) [] ≡ map (pin_of o) (cond leaf (flat_map (port_bits m) m.ports) [])
      by_leaf m is false = refl
      by_leaf m is true =
          flat_map-each (pins_of_port M o) (λ (port : PPort). map (pin_of o) (port_bits m port)) m.ports
          (λ k d within.
          let port : PPort = get_or m.ports k d in
          ap (λ (found : Option PModule). map (λ offset. pin_of o (port.net, offset)) (offsets (port_net found port.net))) is
          ∙ sym (map-map (pin_of o) (λ (offset : ℕ). (port.net, offset)) (offsets (net_of m port.net))))
          ∙ sym (map-flat_map (pin_of o) (port_bits m) m.ports)

      by_module : (found : Option PModule) → module_of M o.1 ≡ found → cond (is_leaf found) (flat_map (pins_of_port M o) (ports_of found)) [] ≡ map (pin_of o) (cell_bits found)
      by_module None is = refl
      by_module (Some m) is = by_leaf m is m.leaf

  led : Pin → ℕ
  led pin = cond (is_led_to (Own path net offset) (root_of_pin M top pin)) 1 0

  one : Root → ℕ
  one root = cond (is_same (Own path net offset) root) 1 0

  led-at : (o : Occurrence) → (is_leaf (module_of M o.1) ≡ true → o.0 ≢ path) → sum_by led (pins_inside M o) ≡ sum_by one (roots_at M top o)
  unfolding led one
  led-at o elsewhere =
      ap (sum_by led) (pins-by_bits o) ∙ sum-map led (pin_of o) (cell_bits (module_of M o.1)) ∙ by_module (module_of M o.1) elsewhere
      ∙ sym (sum-map one (λ (bit : NetId × ℕ). root_up M top (reverse o.0) bit.0 bit.1) (cell_bits (module_of M o.1)))
    where
      by_leaf : (leaf : Bool) (bits : List (NetId × ℕ)) → (leaf ≡ true → o.0 ≢ path)
          → sum_by (λ (bit : NetId × ℕ). led (pin_of o bit)) (cond leaf bits []) ≡ sum_by (λ (bit : NetId × ℕ). one (root_up M top (reverse o.0) bit.0 bit.1)) (cond leaf bits [])
      by_leaf false bits apart = refl
      by_leaf true bits apart =
          sum-each (λ (bit : NetId × ℕ). led (pin_of o bit)) (λ (bit : NetId × ℕ). one (root_up M top (reverse o.0) bit.0 bit.1)) bits
          (λ k d within.
          let bit : NetId × ℕ = get_or bits k d in
          ap (λ b. cond b 1 0) (led-root M top path net offset (reverse o.0) bit.0 bit.1 (λ e. apart refl (sym (reverse-reverse o.0) ∙ e))))

      by_module : (found : Option PModule) → (is_leaf found ≡ true → o.0 ≢ path)
          → sum_by (λ (bit : NetId × ℕ). led (pin_of o bit)) (cell_bits found) ≡ sum_by (λ (bit : NetId × ℕ). one (root_up M top (reverse o.0) bit.0 bit.1)) (cell_bits found)
      by_module None apart = refl
      by_module (Some m) apart = by_leaf m.leaf (flat_map (port_bits m) m.ports) apart

  led-pins : ((o : Occurrence) → Contains (occurrences M top) o → is_leaf (module_of M o.1) ≡ true → o.0 ≢ path)
      → length (pins_led_to M top (Own path net offset)) ≡ count_by (is_same (Own path net offset)) (roots_below M top 257)
  unfolding led one
  led-pins elsewhere =
      length-filter (λ (pin : Pin). is_led_to (Own path net offset) (root_of_pin M top pin)) (pins M top)
      ∙ ap (sum_by led) (sym (pins-all M top))
      ∙ sum-flat_map led (pins_inside M) (occurrences M top)
      ∙ sum-each (λ (o : Occurrence). sum_by led (pins_inside M o)) (λ (o : Occurrence). sum_by one (roots_at M top o)) (occurrences M top)
      (λ k d within. let o : Occurrence = get_or (occurrences M top) k d in led-at o (elsewhere o (Contains-get_or (occurrences M top) k d within)))
      ∙ sym (sum-flat_map one (roots_at M top) (occurrences M top))

-- an occurrence is of the module that its path leads to
occurrence-module : (M : Plain) (top : ModId) → IsSound M → WalksAreShort M → (o : Occurrence) → Contains (occurrences M top) o → module_up M top (reverse o.0) ≡ module_of M o.1
occurrence-module M top sound short o has =
    let rise : InstsRise M = λ k d within. (sound.modules k d within).insts_rise in
    let id : id_up M top (reverse o.0) ≡ Some o.1 = (((each_walk_once M top rise short).ids o.0 o.1).0 has).1 in
    module_up-id M top (reverse o.0) ∙ ap (option_and_then (module_of M)) id

-- The pins that lead to a net bit that leads no further up are counted in its module.
pub pins-led : (M : Plain) (top : ModId) (path : List InstId) (end : PModule) (net : NetId) (offset : ℕ) → IsSound M → WalksAreShort M
    → module_up M top (reverse path) ≡ Some end → is_leaf (module_up M top (reverse path)) ≡ false → root_up M top (reverse path) net offset ≡ Own path net offset
    → length (pins_led_to M top (Own path net offset)) ≡ pins_at M end.id net offset
pins-led M top path end net offset sound short leads inner is_own =
    led-pins M top path net offset elsewhere ∙ pins-along M sound short path top end net offset leads is_own
  where
    elsewhere : (o : Occurrence) → Contains (occurrences M top) o → is_leaf (module_of M o.1) ≡ true → o.0 ≢ path
    elsewhere o has leaf same =
        let there : module_of M o.1 ≡ module_up M top (reverse path) = sym (occurrence-module M top sound short o has) ∙ ap (λ p. module_up M top (reverse p)) same in
        absurd (true≢false (sym leaf ∙ ap is_leaf there ∙ inner))

-- all net bits are of modules that are no leaf
abbrev pub AreInner : Plain → ModId → List NetBit → Type 0
AreInner M top bits = All (λ (bit : NetBit). is_leaf (module_up M top (reverse bit.path)) ≡ false) bits

pub inner-bits : (M : Plain) (top : ModId) → IsSound M → WalksAreShort M → AreInner M top (net_bits M top)
inner-bits M top sound short k d within =
    let bit : NetBit = get_or (net_bits M top) k d in
    let piece = flat_map-from (λ (o : Occurrence). bits_inside o.0 (module_of M o.1)) (occurrences M top) bit (Contains-get_or (net_bits M top) k d within) in
    let o : Occurrence = piece.item in
    let has : Contains (occurrences M top) o = subst (Contains (occurrences M top)) piece.at (Contains-get_or (occurrences M top) piece.place o piece.within) in
    let inside = by_module o.0 (module_of M o.1) bit piece.has in
    ap (λ p. is_leaf (module_up M top (reverse p))) inside.1 ∙ ap is_leaf (occurrence-module M top sound short o has) ∙ inside.0
  where
    in_net : (path : List InstId) (net : PNet) (bit : NetBit) → Contains (bits_of_net path net) bit → bit.path ≡ path
    in_net path net bit has =
        let At : NetBit → Type 0 = λ b. b.path ≡ path in
        All-contains At (bits_of_net path net) bit (All-map At (λ offset. record { path = path; net = net.id; offset = offset }) (offsets (Some net)) (λ i e below. refl)) has

    by_leaf : (path : List InstId) (m : PModule) (leaf : Bool) (bit : NetBit) → Contains (cond leaf [] (flat_map (bits_of_net path) m.nets)) bit → (leaf ≡ false) × (bit.path ≡ path)
    by_leaf path m true bit has = absurd (omega (arith, has.1))
    by_leaf path m false bit has =
        let net = flat_map-from (bits_of_net path) m.nets bit has in
        (refl, in_net path net.item bit net.has)

    by_module : (path : List InstId) (found : Option PModule) (bit : NetBit) → Contains (bits_inside path found) bit → (is_leaf found ≡ false) × (bit.path ≡ path)
    by_module path None bit has = absurd (omega (arith, has.1))
    by_module path (Some m) bit has = by_leaf path m m.leaf bit has

-- a count that is told at a net bit that leads no further up
pub count-told : (M : Plain) (top : ModId) (path : List InstId) (m : PModule) (net : NetId) (offset count : ℕ) → IsSound M → WalksAreShort M
    → module_up M top (reverse path) ≡ Some m → is_leaf (module_up M top (reverse path)) ≡ false
    → is_own (record { path = path; net = net; offset = offset }) (root_up M top (reverse path) net offset) ≡ true
    → count ≡ pins_at M m.id net offset → count ≡ pin_count M top (record { path = path; net = net; offset = offset })
count-told M top path m net offset count sound short there inner own is =
    is ∙ sym (pins-led M top path m net offset sound short there inner (root-own (record { path = path; net = net; offset = offset }) (root_up M top (reverse path) net offset) own))

pub inner-head : (M : Plain) (top : ModId) (before rest : List NetBit) (bit : NetBit) → AreInner M top before → before ≡ bit ∷ rest → is_leaf (module_up M top (reverse bit.path)) ≡ false
inner-head M top before rest bit inner next =
    let Inner : NetBit → Type 0 = λ b. is_leaf (module_up M top (reverse b.path)) ≡ false in
    All-head Inner bit rest (subst (AreInner M top) next inner)

pub inner-tail : (M : Plain) (top : ModId) (before rest : List NetBit) (bit : NetBit) → AreInner M top before → before ≡ bit ∷ rest → AreInner M top rest
inner-tail M top before rest bit inner next =
    let Inner : NetBit → Type 0 = λ b. is_leaf (module_up M top (reverse b.path)) ≡ false in
    All-tail Inner bit rest (subst (AreInner M top) next inner)
