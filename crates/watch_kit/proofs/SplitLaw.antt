-- The law of splits.
use Rattle.std.proofs.Common.{◌≡◌, ◌≢◌, ℕ, ◌+◌, ◌-◌, ◌==◌, ◌<◌, ◌≤◌, nat_lt, Bool, true, false, cond, ◌&&◌, List, [], ◌∷◌, ◌++◌, map, length, sum_by, Option, Some, None, IsTrue, IsSome, is_some, option_and_then, append-nil, MatchOption, All, AllPairs, refl, sym, ap, ap₂, ◌∙◌, subst, arith}
use Rattle.std.specs.List.{flat_map, zip}
use Rattle.std.proofs.lemmas.Bool.{and_parts, or_parts, false≢true}
use Rattle.std.proofs.lemmas.Bool.Decides.{nat_tests}
use Rattle.std.proofs.lemmas.List.{map-append}
use Rattle.std.proofs.lemmas.List.Concat.{length-flat_map, flat_map-append}
use Rattle.std.proofs.lemmas.List.Elements.{All-head, All-tail}
use Rattle.std.proofs.lemmas.List.Sums.{sum_by-cons, sum_by-append}
use Rattle.emh_base.specs.declared.ids.ModId.{ModId}
use Rattle.emh_base.specs.declared.ids.NetId.{NetId}
use Rattle.emh_base.specs.declared.ids.InstId.{InstId}
use Rattle.emh_base.specs.declared.plain.Dir.{Dir}
use Rattle.emh_base.specs.declared.plain.Dir.TheVariants.{Input, Output, Inout}
use Rattle.emh_base.specs.declared.plain.Src.{Src}
use Rattle.emh_base.specs.declared.plain.Src.TheVariants.{Tie0, Tie1, Bit}
use Rattle.emh_base.specs.declared.plain.Conn.{Conn}
use Rattle.emh_base.specs.declared.plain.Conn.TheVariants.{Open, Bits}
use Rattle.emh_base.specs.declared.plain.PNet.{PNet}
use Rattle.emh_base.specs.declared.plain.PPort.{PPort}
use Rattle.emh_base.specs.declared.plain.PInst.{PInst}
use Rattle.emh_base.specs.declared.plain.PModule.{PModule}
use Rattle.emh_base.specs.declared.plain.Plain.{Plain}
use Rattle.emh_base.specs.declared.state.Fanout.{Fanout}
use Rattle.emh_base.specs.declared.state.State.{State}
use Rattle.emh_base.specs.declared.edit.Edit.{Edit}
use Rattle.emh_base.specs.declared.edit.Edit.TheVariants.{CreateNet, CreateInst, Connect}
use Rattle.flatten_rules.specs.Lookup.{module_of, net_of, insts_of, width_of}
use Rattle.flatten_rules.specs.Domains.{ports_of}
use Rattle.flatten_rules.specs.Sound.{IsSound, IsSoundModule, HasMaster, FitsPort, FitPorts, IsSource}
use Rattle.flatten_rules.proofs.Sound.{sound-module, All-find}
use Rattle.flatten_rules.proofs.Walks.{id-of_net}
use Rattle.flatten_rules.specs.Check.{first_broken}
use Rattle.edit_rules.specs.Readers.{net_in, next_inst_of, next_net_of, is_buffer, are_buffer_ports, goes_through, is_bit as has_one_bit}
use Rattle.flatten_rules.specs.NetChanges.{with_net}
use Rattle.edit_rules.specs.Good.{IsGoodState}
use Rattle.edit_rules.specs.Apply.{checks, after}
use Rattle.edit_rules.proofs.GoodChecks.{Passes, Opened, common-passes}
use Rattle.edit_rules.proofs.GoodLaw.{stays_good}
use Rattle.watch_kit.specs.NetBits.{BitOf, is_bit}
use Rattle.watch_kit.specs.Sinks.{Join, join, joins_of, joins, taken, sinks_at, sinks, Sink}
use Rattle.watch_kit.specs.Passed.{unless_refused, passed, all_passed, NoneRefused}
use Rattle.watch_kit.specs.Split.{Move, moves, connect_to, new_net, new_buffer, port_to, made_net, made_inst, split}
use Rattle.watch_kit.specs.Law.{SplitsToLimit, SplitsLeaveOthers}
use Rattle.watch_kit.proofs.SplitCounts.{hits, weight, weight-hits, settled, weight-settled, settled-other, rejoined, all_rejoined, Apart, moves-settle}
use Rattle.watch_kit.proofs.SplitConnects.{changed-here, ports-stay, joins-connect}
use Rattle.watch_kit.proofs.SplitJoins.{apart-joins, joins-net, open_joins, joins-inst, untouched, bits_to, IsBuffer, is-buffer, buffer-takes, buffer-spares}

-- An edit that no rule refuses.

pub done : (S : State) (e : Edit) → first_broken (checks S e) ≡ None → passed S e ≡ after S e
done S e none = ap (unless_refused S e) none

pub passed-good : (S : State) (e : Edit) → IsGoodState S → first_broken (checks S e) ≡ None → IsGoodState (passed S e)
passed-good S e good none = subst IsGoodState (sym (done S e none)) (stays_good S e good none)

joins-passed : (m : ModId) (mv : Move) (S : State) → IsGoodState S → first_broken (checks S (connect_to m mv)) ≡ None
    → joins (passed S (connect_to m mv)).plain m ≡ map (rejoined mv.inst mv.port (Bits mv.bits)) (joins S.plain m)
joins-passed m mv S good none =
    ap (λ (T : State). joins T.plain m) (done S (connect_to m mv) none) ∙ joins-connect S m mv.inst mv.port mv.bits good (record { none = none })

-- the moves of a split, made one after the other
run-moves : (m : ModId) (mvs : List Move) (S : State) → IsGoodState S → NoneRefused S (map (connect_to m) mvs)
    → joins (all_passed S (map (connect_to m) mvs)).plain m ≡ all_rejoined mvs (joins S.plain m)
run-moves m [] S good none = refl
run-moves m (mv ∷ mvs) S good none =
    run-moves m mvs (passed S (connect_to m mv)) (passed-good S (connect_to m mv) good none.0) none.1 ∙ ap (all_rejoined mvs) (joins-passed m mv S good none.0)

-- A net that isn't there has no sinks.

module _ (h : PModule) (b : BitOf) (absent : net_of h b.net ≡ None) where
  no-hit : (src : Src) → IsSource h src → is_bit b src ≡ false
  no-hit Tie0 is = refl
  no-hit Tie1 is = refl
  no-hit (Bit net offset) is = by_test (net.0 == b.net.0) refl
    where
      by_test : (t : Bool) → t ≡ (net.0 == b.net.0) → (t && (offset == b.offset)) ≡ false
      by_test false at = refl
      by_test true at =
          let number : net.0 ≡ b.net.0 = grind (arith, nat_tests) in
          let make : ℕ → NetId = λ n. record { 0 = n } in
          let none : net_of h net ≡ None = ap (net_of h) (ap make number) ∙ absent in
          let never : offset < 0 = subst (λ (o : Option PNet). offset < width_of o) none is in
          absurd (omega arith)

  no-hits : (bits : List Src) → All (IsSource h) bits → hits b bits ≡ 0
  no-hits [] all = refl
  no-hits (src ∷ more) all =
      let none : is_bit b src ≡ false = no-hit src (All-head (IsSource h) src more all) in
      let rest : hits b more ≡ 0 = no-hits more (All-tail (IsSource h) src more all) in
      let Zero : Bool → Type 0 = λ t. cond t 1 0 + hits b more ≡ 0 in
      subst Zero (sym none) (omega (arith, rest))

  no-taken : (master : PModule) (port : PPort) (dir : Dir) (conn : Conn) → FitsPort h master port conn → hits b (taken dir conn) ≡ 0
  no-taken master port Input Open fits = refl
  no-taken master port Input (Bits bits) fits = no-hits bits fits.1
  no-taken master port Output conn fits = refl
  no-taken master port Inout conn fits = refl

  no-weight : (master : PModule) (id : InstId) (ports : List PPort) (conns : List Conn) → FitPorts h master ports conns → sum_by (weight b) (map (join id) (zip ports conns)) ≡ 0
  no-weight master id [] conns fits = refl
  no-weight master id (p ∷ ps) [] fits = absurd fits
  no-weight master id (p ∷ ps) (c ∷ cs) fits =
      omega (arith, sum_by-cons (weight b) (join id (p, c)) (map (join id) (zip ps cs)), weight-hits b (join id (p, c)), no-taken master p p.dir c fits.0, no-weight master id ps cs fits.1)

  no-weights : (M : Plain) (xs : List PInst) → All (HasMaster M h) xs → sum_by (weight b) (flat_map (joins_of M) xs) ≡ 0
  no-weights M [] all = refl
  no-weights M (x ∷ xs) all =
      let here : sum_by (weight b) (joins_of M x) ≡ 0 = by_cases (module_of M x.master) (All-head (HasMaster M h) x xs all) in
      omega (arith, sum_by-append (weight b) (joins_of M x) (flat_map (joins_of M) xs), here, no-weights M xs (All-tail (HasMaster M h) x xs all))
    where
      by_cases : (o : Option PModule) → MatchOption o ⊥ (λ master. FitPorts h master master.ports x.conns) → sum_by (weight b) (map (join x.id) (zip (ports_of o) x.conns)) ≡ 0
      by_cases None fits = absurd fits
      by_cases (Some master) fits = no-weight master x.id master.ports x.conns fits

sinks-weight : (M : Plain) (m : ModId) (b : BitOf) → length (sinks M m b) ≡ sum_by (weight b) (joins M m)
sinks-weight M m b = length-flat_map (sinks_at b) (joins M m)

-- the counter's net is no net of the module yet
none-at_counter : (M : Plain) (h : PModule) (b : BitOf) → IsSoundModule M h → b.net.0 ≡ h.next_net → net_of h b.net ≡ None
none-at_counter M h b s at = by_cases (net_of h b.net) refl
  where
    by_cases : (o : Option PNet) → net_of h b.net ≡ o → o ≡ None
    by_cases None found = refl
    by_cases (Some net) found =
        let own : net.id ≡ b.net = id-of_net h b.net net found in
        let same : net.id.0 ≡ b.net.0 = ap (λ (x : NetId). x.0) own in
        let low : net.id.0 < h.next_net = All-find (λ (x : PNet). x.id.0 < h.next_net) (λ x. x.id.0 == b.net.0) h.nets net s.nets_below found in
        absurd (omega arith)

-- so a bit with sinks isn't the new one
new-other : (M : Plain) (m : ModId) (h : PModule) (b : BitOf) → IsSound M → module_of M m ≡ Some h → 0 < length (sinks M m b) → is_bit b (Bit (record { 0 = h.next_net }) 0) ≡ false
new-other M m h b sound found some =
    by_test (h.next_net == b.net.0) refl
  where
    s : IsSoundModule M h
    s = sound-module M m h sound found

    by_test : (t : Bool) → t ≡ (h.next_net == b.net.0) → (t && (0 == b.offset)) ≡ false
    by_test false at = refl
    by_test true at =
        let number : b.net.0 ≡ h.next_net = grind (arith, nat_tests) in
        let none : sum_by (weight b) (flat_map (joins_of M) h.insts) ≡ 0 = no-weights h b (none-at_counter M h b (sound-module M m h sound found) number) M h.insts (sound-module M m h sound found).masters in
        let all : sum_by (weight b) (joins M m) ≡ 0 = ap (λ (o : Option PModule). sum_by (weight b) (flat_map (joins_of M) (insts_of o))) found ∙ none in
        absurd (omega (arith, some, sinks-weight M m b, all))

-- A buffer has two ports, one of which takes b.

abbrev Buffered : InstId → BitOf → Src → List PPort → Type 0
Buffered u b new ports = (na : NetId) × (nb : NetId) × IsBuffer u na nb b new (bits_to u ports b new)

module _ (u : InstId) (b : BitOf) (new : Src) where
  buffered-ports : (c : PModule) (ports : List PPort) → are_buffer_ports c ports ≡ true → AllPairs (λ (x y : PPort). x.net ≢ y.net) ports → Buffered u b new ports
  buffered-ports c [] is differ = let never : false ≡ true = is in absurd (cc)
  buffered-ports c (p ∷ []) is differ = let never : false ≡ true = is in absurd (cc)
  buffered-ports c (p ∷ q ∷ []) is differ =
      let through = (and_parts (goes_through p.dir q.dir) (has_one_bit c p && has_one_bit c q) is).0 in
      let apart : p.net ≢ q.net = differ 0 1 p (omega arith) (omega arith) in
      let make : ℕ → NetId = λ n. record { 0 = n } in
      let number : p.net.0 ≢ q.net.0 = λ e. apart (ap make e) in
      (p.net, q.net, is-buffer u b new p.net q.net p.dir q.dir through (grind (arith, nat_tests)))
  buffered-ports c (p ∷ q ∷ r ∷ more) is differ = let never : false ≡ true = is in absurd (cc)

  buffered : (M : Plain) (cell : ModId) → IsSound M → IsTrue (is_buffer (module_of M cell)) → Buffered u b new (ports_of (module_of M cell))
  buffered M cell sound is = by_cases (module_of M cell) refl is
    where
      by_cases : (o : Option PModule) → module_of M cell ≡ o → IsTrue (is_buffer o) → Buffered u b new (ports_of o)
      by_cases None found is = absurd (false≢true is)
      by_cases (Some c) found is =
          buffered-ports c c.ports (and_parts c.leaf (are_buffer_ports c c.ports) is).1 (sound-module M cell c sound found).ports_differ

-- a bit of a net that is there isn't the new one
there-other : (M : Plain) (h : PModule) (c : BitOf) → IsSoundModule M h → IsSome (net_of h c.net) → is_bit c (Bit (record { 0 = h.next_net }) 0) ≡ false
there-other M h c s there = by_test (h.next_net == c.net.0) refl
  where
    by_test : (t : Bool) → t ≡ (h.next_net == c.net.0) → (t && (0 == c.offset)) ≡ false
    by_test false at = refl
    by_test true at =
        let number : c.net.0 ≡ h.next_net = grind (arith, nat_tests) in
        let gone : net_of h c.net ≡ None = none-at_counter M h c s number in
        absurd (false≢true (sym (ap (λ (o : Option PNet). is_some o) gone) ∙ there))

-- The connections after the four edits before the moves.
module _ (S : State) (m : ModId) (cell : ModId) (b : BitOf) (name_n name_b : List ℕ) (u : InstId) (new : Src) (S1 S2 S3 S4 : State) (h : PModule) where
  abbrev M : Plain
  M = S.plain

  abbrev ports : List PPort
  ports = ports_of (module_of M cell)

  abbrev to_in : Join → Join
  to_in = rejoined u (port_to Input (module_of M cell)) (Bits (Bit b.net b.offset ∷ []))

  abbrev to_out : Join → Join
  to_out = rejoined u (port_to Output (module_of M cell)) (Bits (new ∷ []))

  buffer-joined : IsSound M → module_of M m ≡ Some h → next_inst_of (module_of S1.plain m) ≡ u.0 → S1 ≡ after S (CreateNet m name_n None) → S2 ≡ after S1 (CreateInst m name_b cell)
      → joins S3.plain m ≡ map to_in (joins S2.plain m) → joins S4.plain m ≡ map to_out (joins S3.plain m) → joins S4.plain m ≡ joins M m ++ bits_to u ports b new
  buffer-joined sound found is_u d1 d2 j3 j4 =
      let f : PModule → PModule = with_net name_n None in
      let found1 : module_of S1.plain m ≡ Some (f h) = ap (λ (T : State). module_of T.plain m) d1 ∙ changed-here M m f (λ y. refl) h found in
      let j1 : joins S1.plain m ≡ joins M m = ap (λ (T : State). joins T.plain m) d1 ∙ joins-net M m name_n h found in
      let cell1 : ports_of (module_of S1.plain cell) ≡ ports = ap (λ (T : State). ports_of (module_of T.plain cell)) d1 ∙ ports-stay M m f (λ y. refl) (λ y. refl) cell in
      let make : ℕ → InstId = λ n. record { 0 = n } in
      let is : u ≡ make h.next_inst = sym (ap make (sym (ap next_inst_of found1) ∙ is_u)) in
      let j2 : joins S2.plain m ≡ joins M m ++ open_joins u ports =
      ap (λ (T : State). joins T.plain m) d2 ∙ joins-inst S1.plain m cell name_b (f h) ports found1 cell1 ∙ ap₂ (λ (x y : List Join). x ++ y) j1 (ap (λ (i : InstId). open_joins i ports) (sym is)) in
      let stay : (p : NetId) (conn : Conn) → map (rejoined u p conn) (joins M m) ≡ joins M m = λ p conn.
      subst (λ (i : InstId). map (rejoined i p conn) (joins M m) ≡ joins M m) (sym is) (untouched M m h p conn sound found) in
      j4
      ∙ ap (map to_out) (j3 ∙ ap (map to_in) j2 ∙ map-append to_in (joins M m) (open_joins u ports) ∙ ap (λ (x : List Join). x ++ map to_in (open_joins u ports)) (stay _ _))
      ∙ map-append to_out (joins M m) (map to_in (open_joins u ports)) ∙ ap (λ (x : List Join). x ++ bits_to u ports b new) (stay _ _)

-- what the connections of the module are after a split: settled, with the buffer's two at the end
record Ends (S T : State) (m : ModId) (limit : Fanout) (b : BitOf) : Type 0 where
  holder : PModule
  found : module_of S.plain m ≡ Some holder
  buffer : InstId
  tail : List Join
  two : (na : NetId) × (nb : NetId) × IsBuffer buffer na nb b (made_net S m) tail
  joins : joins T.plain m ≡ settled b (made_net S m) (limit.max - 1) (joins S.plain m) ++ tail

split-ends : (S : State) (m : ModId) (limit : Fanout) (b : BitOf) → IsGoodState S → S.settings.fanout ≡ Some limit → NoneRefused S (split S m limit b) → Ends S (all_passed S (split S m limit b)) m limit b
split-ends S m limit b good set none =
    let e1 : Edit = new_net S m in
    let S1 : State = passed S e1 in
    let e2 : Edit = new_buffer S1 m limit.cell in
    let S2 : State = passed S1 e2 in
    let u : InstId = made_inst S1 m in
    let new : Src = made_net S m in
    let pin : NetId = port_to Input (module_of S.plain limit.cell) in
    let pout : NetId = port_to Output (module_of S.plain limit.cell) in
    let e3 : Edit = Connect m u pin (Bit b.net b.offset ∷ []) in
    let S3 : State = passed S2 e3 in
    let e4 : Edit = Connect m u pout (new ∷ []) in
    let S4 : State = passed S3 e4 in
    let js : List Join = joins S.plain m in
    let stay : ℕ = limit.max - 1 in
    let mvs : List Move = moves b new stay js in
    let n1 : first_broken (checks S e1) ≡ None = none.0 in
    let n2 : first_broken (checks S1 e2) ≡ None = none.1.0 in
    let n3 : first_broken (checks S2 e3) ≡ None = none.1.1.0 in
    let n4 : first_broken (checks S3 e4) ≡ None = none.1.1.1.0 in
    let n5 : NoneRefused S4 (map (connect_to m) mvs) = none.1.1.1.1 in
    let good1 : IsGoodState S1 = passed-good S e1 good n1 in
    let good2 : IsGoodState S2 = passed-good S1 e2 good1 n2 in
    let good3 : IsGoodState S3 = passed-good S2 e3 good2 n3 in
    let good4 : IsGoodState S4 = passed-good S3 e4 good3 n4 in
    let p1 : Passes (checks S e1) = record { none = n1 } in
    let o : Opened S m = (common-passes S m p1).0 in
    let j3 : joins S3.plain m ≡ map (rejoined u pin (Bits (Bit b.net b.offset ∷ []))) (joins S2.plain m) = joins-passed m (record { inst = u; port = pin; bits = Bit b.net b.offset ∷ [] }) S2 good2 n3 in
    let j4 : joins S4.plain m ≡ map (rejoined u pout (Bits (new ∷ []))) (joins S3.plain m) = joins-passed m (record { inst = u; port = pout; bits = new ∷ [] }) S3 good3 n4 in
    let tail : List Join = bits_to u (ports_of (module_of S.plain limit.cell)) b new in
    let all4 : joins S4.plain m ≡ js ++ tail = buffer-joined S m limit.cell b _ _ u new S1 S2 S3 S4 o.holder good.table.sound o.found refl (done S e1 n1) (done S1 e2 n2) j3 j4 in
    record {
      holder = o.holder;
      found = o.found;
      buffer = u;
      tail = tail;
      two = buffered u b new S.plain limit.cell good.table.sound (good.fanout limit set).buffer;
      joins = run-moves m mvs S4 good4 n5 ∙ ap (all_rejoined mvs) all4 ∙ moves-settle b new js tail stay (subst Apart all4 (apart-joins S4.plain m good4.table.sound));
    }

module _ (S : State) (m : ModId) (limit : Fanout) (b : BitOf) (good : IsGoodState S) (set : S.settings.fanout ≡ Some limit) (none : NoneRefused S (split S m limit b)) where
  abbrev N : Plain
  N = (all_passed S (split S m limit b)).plain

  made-at : (h : PModule) → module_of S.plain m ≡ Some h → made_net S m ≡ Bit (record { 0 = h.next_net }) 0
  made-at h found = let make : ℕ → Src = λ n. Bit (record { 0 = n }) 0 in ap (λ (x : Option PModule). make (next_net_of x)) found

  -- so many sinks are left
  to-limit : limit.max < length (sinks S.plain m b) → length (sinks N m b) ≡ limit.max
  to-limit more =
      let ends = split-ends S m limit b good set none in
      let new : Src = made_net S m in
      let stay : ℕ = limit.max - 1 in
      let enough : nat_lt limit.max 2 ≡ false = (or_parts (nat_lt limit.max 2) (nat_lt 1000000 limit.max) (good.fanout limit set).number).0 in
      let some : 2 ≤ limit.max = grind (arith, nat_tests) in
      let other : is_bit b new ≡ false = ap (is_bit b) (made-at ends.holder ends.found) ∙ new-other S.plain m ends.holder b good.table.sound ends.found (omega (arith, more)) in
      let one : sum_by (weight b) ends.tail ≡ 1 = buffer-takes ends.buffer ends.two.0 ends.two.1 b new ends.tail ends.two.2 in
      let total : sum_by (weight b) (joins N m) ≡ sum_by (weight b) (settled b new stay (joins S.plain m)) + sum_by (weight b) ends.tail =
      ap (sum_by (weight b)) ends.joins ∙ sum_by-append (weight b) (settled b new stay (joins S.plain m)) ends.tail in
      omega (arith, sinks-weight N m b, sinks-weight S.plain m b, total, weight-settled b new other (joins S.plain m) stay, one, more, some)

  -- and another bit has the sinks that it had
  others-stay : (c : BitOf) → IsSome (net_in S.plain m c.net) → is_bit c (Bit b.net b.offset) ≡ false → sinks N m c ≡ sinks S.plain m c
  others-stay c there other =
      let ends = split-ends S m limit b good set none in
      let new : Src = made_net S m in
      let net_there : IsSome (net_of ends.holder c.net) = sym (ap (λ (x : Option PModule). is_some (option_and_then (λ (y : PModule). net_of y c.net) x)) ends.found) ∙ there in
      let fresh : is_bit c new ≡ false = ap (is_bit c) (made-at ends.holder ends.found) ∙ there-other S.plain ends.holder c (sound-module S.plain m ends.holder good.table.sound ends.found) net_there in
      ap (flat_map (sinks_at c)) ends.joins
      ∙ flat_map-append (sinks_at c) (settled b new (limit.max - 1) (joins S.plain m)) ends.tail
      ∙ ap₂ (λ (x y : List Sink). x ++ y) (settled-other b c new other fresh (joins S.plain m) (limit.max - 1))
      (buffer-spares ends.buffer ends.two.0 ends.two.1 b new ends.tail c other ends.two.2)
      ∙ append-nil (sinks S.plain m c)

pub split-law : SplitsToLimit
split-law S m limit b good set more none = to-limit S m limit b good set none more

pub others-law : SplitsLeaveOthers
others-law S m limit b c good set none there other = others-stay S m limit b good set none c there other
