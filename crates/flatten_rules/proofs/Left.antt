-- How walks through net bits and pins go on.
use Rattle.std.proofs.Common.{◌≡◌, ℕ, suc, ◌+◌, ◌-◌, ◌<◌, ◌≤◌, ◌==◌, true, false, Bool, List, [], ◌∷◌, ◌++◌, map, reverse, Option, Some, None, IsSome, All, refl, sym, ap, ◌∙◌, arith}
use Rattle.std.specs.List.{flat_map, range_with_len}
use Rattle.std.proofs.lemmas.Bool.{false≢true}
use Rattle.std.proofs.lemmas.List.Elements.{All-tail, All-head, All-nil}
use Rattle.emh_base.specs.declared.ids.ModId.{ModId}
use Rattle.emh_base.specs.declared.ids.NetId.{NetId}
use Rattle.emh_base.specs.declared.ids.InstId.{InstId}
use Rattle.emh_base.specs.declared.plain.Range.{Range}
use Rattle.emh_base.specs.declared.plain.PNet.{PNet}
use Rattle.emh_base.specs.declared.plain.PPort.{PPort}
use Rattle.emh_base.specs.declared.plain.PModule.{PModule}
use Rattle.emh_base.specs.declared.plain.Plain.{Plain}
use Rattle.flatten_rules.specs.Lookup.{module_of, net_of, width, width_of}
use Rattle.flatten_rules.specs.Sound.{IsAllowed, IsSoundModule}
use Rattle.flatten_rules.specs.Unfolding.{Occurrence, occurrences, module_up}
use Rattle.flatten_rules.specs.Domains.{NetBit, Pin, bits_of_net, bits_inside, net_bits, pins_of_port, pins, port_net}
use Rattle.flatten_rules.specs.Texts.{net_up}
use Rattle.flatten_rules.specs.Walking.{Walking, PinWalking, GoesOn, IsNextPin}
use Rattle.flatten_rules.specs.inside.Left.{nets_inside, ports_inside, bits_left, bit_walking, HasMore, AreLeft, pins_inside, pins_left, pin_walking, HasPinMore, ArePinsLeft}
use Rattle.flatten_rules.proofs.Walks.{find-own, id-of_found, id-of_net}
use Rattle.flatten_rules.proofs.Comes.{is-at}
use Rattle.flatten_rules.proofs.Sound.{All-find}
use Rattle.flatten_rules.proofs.Flattening.{pins-all}

pub bits-start : (M : Plain) (top : ModId) (walk : Walking) (nets : List PNet) → walk ≡ record { plain = M; top = top; path = []; rest = occurrences M top } → nets ≡ [] → bit_walking walk nets 0 ≡ record { plain = M; top = top; path = []; rest = net_bits M top }
bits-start M top walk nets is none = rw (is, none) refl

left-all : (path : List InstId) (nets : List PNet) → bits_left path nets 0 ≡ flat_map (bits_of_net path) nets
left-all path [] = refl
left-all path (net ∷ nets) = let n : width net.range - 0 ≡ width net.range = omega arith in rw n refl

inside-all : (path : List InstId) (m : PModule) (leaf : Bool) → m.leaf ≡ leaf → bits_inside path (Some m) ≡ flat_map (bits_of_net path) (nets_inside m)
inside-all path m true is = rw is refl
inside-all path m false is = rw is refl

own-nets : (M : Plain) (top : ModId) (up : List InstId) (m : PModule) → IsSoundModule M m → module_up M top up ≡ Some m → All (λ (net : PNet). net_up M top up net.id ≡ Some net) m.nets
own-nets M top up m sound there = λ k d within. rw there (find-own (λ (x : PNet). x.id.0) m.nets sound.nets_rise k d within)

all-inside : (P : PNet → Type 0) (m : PModule) (leaf : Bool) → m.leaf ≡ leaf → All P m.nets → All P (nets_inside m)
all-inside P m true is all = rw is (All-nil P)
all-inside P m false is all = rw is all

wide : (range : Option Range) → 0 < width range
wide None = omega arith
wide (Some range) = omega arith

width-few : (range : Option Range) → IsAllowed range → width range ≤ 4096
width-few None allowed = omega arith
width-few (Some range) allowed = allowed.2

more-all : (nets : List PNet) → HasMore nets 0
more-all [] = tt
more-all (net ∷ nets) = wide net.range

-- the next occurrence has its bits
pub bits-go_on : (M : Plain) (top : ModId) (before after : Walking) (old nets : List PNet) (offset : ℕ) (m : PModule) (rest : List NetBit) (more : Bool) → old ≡ [] → before.plain ≡ M → before.top ≡ top → after.plain ≡ before.plain → after.top ≡ before.top → rest ≡ (bit_walking before old offset).rest → GoesOn more before after → more ≡ true → module_up after.plain after.top (reverse after.path) ≡ Some m → IsSoundModule after.plain m → nets ≡ nets_inside m → record { plain : after.plain ≡ M; top : after.top ≡ top; left : AreLeft after nets 0; rest : rest ≡ (bit_walking after nets 0).rest }
bits-go_on M top before after old nets offset m rest more none plain is_top same same_top is goes one there sound all =
    let at = is-at before after m more goes one there in
    record {
      plain = same ∙ plain;
      top = same_top ∙ is_top;
      left = record {
        there = rw all (all-inside (λ (net : PNet). net_up after.plain after.top (reverse after.path) net.id ≡ Some net) m m.leaf refl (own-nets after.plain after.top (reverse after.path) m sound there));
        allowed = rw all (all-inside (λ (net : PNet). IsAllowed net.range) m m.leaf refl sound.ranges);
        more = more-all nets;
      };
      rest =
          is
          ∙ ap (λ x. bits_left before.path x offset ++ flat_map (λ (o : Occurrence). bits_inside o.0 (module_of before.plain o.1)) before.rest) none
          ∙ ap (λ P. flat_map (λ (o : Occurrence). bits_inside o.0 (module_of P o.1)) before.rest) (sym same)
          ∙ ap (flat_map (λ (o : Occurrence). bits_inside o.0 (module_of after.plain o.1))) at.next
          ∙ ap (λ x. x ++ flat_map (λ (o : Occurrence). bits_inside o.0 (module_of after.plain o.1)) after.rest) (ap (bits_inside after.path) at.found ∙ inside-all after.path m m.leaf refl ∙ ap (flat_map (bits_of_net after.path)) (sym all) ∙ sym (left-all after.path nets));
    }

-- the next bit of a net, and what is left behind it
next-more : (w o : ℕ) → o + 1 < w → range_with_len o (w - o) ≡ o ∷ range_with_len (o + 1) (w - (o + 1))
next-more w o more = let n : w - o ≡ suc (w - (o + 1)) = omega arith in rw n refl

next-last : (w o : ℕ) → o < w → w ≤ o + 1 → range_with_len o (w - o) ≡ o ∷ []
next-last w o within last = let n : w - o ≡ 1 = omega arith in rw n refl

pub bits-behind : (walk : Walking) (nets others : List PNet) (net : PNet) (offset : ℕ) → nets ≡ net ∷ others → AreLeft walk nets offset → AreLeft walk others 0
bits-behind walk nets others net offset parts h = record {
  there = All-tail (λ (x : PNet). net_up walk.plain walk.top (reverse walk.path) x.id ≡ Some x) net others (rw parts at h.there);
  allowed = All-tail (λ (x : PNet). IsAllowed x.range) net others (rw parts at h.allowed);
  more = more-all others;
}

pub pins-start : (M : Plain) (top : ModId) (walk : Walking) (m : PModule) (ports : List PPort) → walk ≡ record { plain = M; top = top; path = []; rest = occurrences M top } → ports ≡ [] → pin_walking walk m ports 0 ≡ record { plain = M; top = top; path = []; rest = pins M top }
pins-start M top walk m ports is none = rw (is, none) (ap (λ (rest : List Pin). record { plain = M; top = top; path = []; rest = rest }) (pins-all M top))

pub pins-well : (M : Plain) (top : ModId) (walk : Walking) (m : PModule) (ports : List PPort) → walk ≡ record { plain = M; top = top; path = []; rest = occurrences M top } → module_up walk.plain walk.top (reverse walk.path) ≡ Some m → IsSoundModule walk.plain m → ports ≡ [] → ArePinsLeft walk m ports 0
unfolding module_up
pins-well M top walk m ports is there sound none = rw none (record {
  found = rw is (let at = rw is at there in ap (module_of M) (id-of_found M top m at) ∙ at);
  sound = sound;
  there = All-nil (λ (port : PPort). net_up walk.plain walk.top (reverse walk.path) port.net ≡ net_of m port.net);
  nets = All-nil (λ (port : PPort). IsSome (net_of m port.net));
  more = tt;
})

ports-inside : (M : Plain) (o : Occurrence) (m : PModule) (leaf : Bool) → module_of M o.1 ≡ Some m → m.leaf ≡ leaf → pins_inside M o ≡ flat_map (pins_of_port M o) (ports_inside m)
ports-inside M o m true found is = rw (found, is) refl
ports-inside M o m false found is = rw (found, is) refl

pins-all_left : (M : Plain) (o : Occurrence) (m : PModule) (ports : List PPort) → module_of M o.1 ≡ Some m → pins_left M o m ports 0 ≡ flat_map (pins_of_port M o) ports
pins-all_left M o m [] found = refl
pins-all_left M o m (port ∷ ports) found =
    let n : width_of (net_of m port.net) - 0 ≡ width_of (net_of m port.net) = omega arith in
    rw (n, found) refl

all-ports : (P : PPort → Type 0) (m : PModule) (leaf : Bool) → m.leaf ≡ leaf → All P m.ports → All P (ports_inside m)
all-ports P m true is all = rw is all
all-ports P m false is all = rw is (All-nil P)

wide-there : (net : Option PNet) → IsSome net → 0 < width_of net
wide-there None some = absurd (false≢true some)
wide-there (Some net) some = wide net.range

more-pins : (m : PModule) (ports : List PPort) → All (λ (port : PPort). IsSome (net_of m port.net)) ports → HasPinMore m ports 0
more-pins m [] all = tt
more-pins m (port ∷ ports) all = wide-there (net_of m port.net) (All-head (λ (p : PPort). IsSome (net_of m p.net)) port ports all)

-- the next occurrence has its pins
pub pins-go_on : (M : Plain) (top : ModId) (before after : Walking) (old ports : List PPort) (offset : ℕ) (was m : PModule) (rest : List Pin) (more : Bool) → old ≡ [] → before.plain ≡ M → before.top ≡ top → after.plain ≡ before.plain → after.top ≡ before.top → rest ≡ (pin_walking before was old offset).rest → GoesOn more before after → more ≡ true → module_up after.plain after.top (reverse after.path) ≡ Some m → IsSoundModule after.plain m → ports ≡ ports_inside m → record { plain : after.plain ≡ M; top : after.top ≡ top; left : ArePinsLeft after m ports 0; rest : rest ≡ (pin_walking after m ports 0).rest }
pins-go_on M top before after old ports offset was m rest more none plain is_top same same_top is goes one there sound all =
    let at = is-at before after m more goes one there in
    let nets = all-ports (λ (port : PPort). IsSome (net_of m port.net)) m m.leaf refl sound.ports_there in
    record {
      plain = same ∙ plain;
      top = same_top ∙ is_top;
      left = record {
        found = at.found;
        sound = sound;
        there = λ k d within. rw there refl;
        nets = rw all nets;
        more = more-pins m ports (rw all nets);
      };
      rest =
          is
          ∙ ap (λ x. pins_left before.plain (before.path, was.id) was x offset ++ flat_map (pins_inside before.plain) before.rest) none
          ∙ ap (λ P. flat_map (pins_inside P) before.rest) (sym same)
          ∙ ap (flat_map (pins_inside after.plain)) at.next
          ∙ ap (λ x. x ++ flat_map (pins_inside after.plain) after.rest) (ports-inside after.plain (after.path, m.id) m m.leaf at.found refl ∙ ap (flat_map (pins_of_port after.plain (after.path, m.id))) (sym all) ∙ sym (pins-all_left after.plain (after.path, m.id) m ports at.found));
    }

pub pins-behind : (walk : Walking) (m : PModule) (ports others : List PPort) (port : PPort) (offset : ℕ) → ports ≡ port ∷ others → ArePinsLeft walk m ports offset → ArePinsLeft walk m others 0
pins-behind walk m ports others port offset parts h =
    let nets = All-tail (λ (p : PPort). IsSome (net_of m p.net)) port others (rw parts at h.nets) in
    record {
      found = h.found;
      sound = h.sound;
      there = All-tail (λ (p : PPort). net_up walk.plain walk.top (reverse walk.path) p.net ≡ net_of m p.net) port others (rw parts at h.there);
      nets = nets;
      more = more-pins m others nets;
    }

-- the next pin of a port, and what is left behind it
module _ (before : PinWalking) (walk : Walking) (m : PModule) (ports others : List PPort) (port : PPort) (net : PNet) (offset : ℕ) (is : before.rest ≡ (pin_walking walk m ports offset).rest) (parts : ports ≡ port ∷ others) (found : Some net ≡ net_of m port.net) (h : ArePinsLeft walk m ports offset) where
  abbrev pin : NetId → Pin
  pin id = record { inst = (walk.path, m.id); port = id; offset = offset }

  id : net.id ≡ port.net
  id = id-of_net m port.net net (sym found)

  pub pin-allowed : IsAllowed net.range
  pin-allowed = All-find (λ (x : PNet). IsAllowed x.range) (λ x. x.id.0 == port.net.0) m.nets net h.sound.ranges (sym found)

  pub pin-within : offset < width net.range
  pin-within =
      let more : offset < width_of (net_of m port.net) = rw parts at h.more in
      rw (← found) at more

  pub pin-few : offset + 1 < 65536
  pin-few = let few = width-few net.range pin-allowed in omega (arith, few, pin-within)

  pin-port : port_net (module_of walk.plain m.id) net.id ≡ Some net
  pin-port = ap (port_net (module_of walk.plain m.id)) id ∙ ap (λ holder. port_net holder port.net) h.found ∙ sym found

  pin-there : net_up walk.plain walk.top (reverse walk.path) net.id ≡ Some net
  pin-there = ap (net_up walk.plain walk.top (reverse walk.path)) id ∙ (All-head (λ (p : PPort). net_up walk.plain walk.top (reverse walk.path) p.net ≡ net_of m p.net) port others (rw parts at h.there) ∙ sym found)

  behind : (left : List ℕ) → range_with_len offset (width net.range - offset) ≡ offset ∷ left → pins_left walk.plain (walk.path, m.id) m ports offset ≡ pin net.id ∷ map (λ k. record { inst = (walk.path, m.id); port = port.net; offset = k }) left ++ flat_map (pins_of_port walk.plain (walk.path, m.id)) others
  behind left cut = rw (parts, ← found, cut, id) refl

  pub pin-more : offset + 1 < width net.range → IsNextPin before (pin_walking walk m ports (offset + 1)) net offset
  pin-more more = record {
    master = m.id;
    next =
        is
        ∙ ap (λ x. x ++ flat_map (pins_inside walk.plain) walk.rest) (behind (range_with_len (offset + 1) (width net.range - (offset + 1))) (next-more (width net.range) offset more))
        ∙ ap (λ x. pin net.id ∷ x ++ flat_map (pins_inside walk.plain) walk.rest) (rw (parts, ← found) refl);
    port = pin-port;
    there = pin-there;
    allowed = pin-allowed;
    within = pin-within;
  }

  pub pin-last : width net.range ≤ offset + 1 → IsNextPin before (pin_walking walk m others 0) net offset
  pin-last last = record {
    master = m.id;
    next =
        is
        ∙ ap (λ x. x ++ flat_map (pins_inside walk.plain) walk.rest) (behind [] (next-last (width net.range) offset pin-within last))
        ∙ ap (λ x. pin net.id ∷ x ++ flat_map (pins_inside walk.plain) walk.rest) (sym (pins-all_left walk.plain (walk.path, m.id) m others h.found));
    port = pin-port;
    there = pin-there;
    allowed = pin-allowed;
    within = pin-within;
  }
