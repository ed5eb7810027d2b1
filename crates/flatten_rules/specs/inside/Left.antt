-- What walks through net bits and pins have still to come to.
use Rattle.std.specs.Prelude.{◌≡◌, ℕ, ◌-◌, ◌<◌, List, [], ◌∷◌, ◌++◌, map, reverse, Some, IsSome, All, if◌then◌else◌}
use Rattle.std.specs.List.{flat_map, range_with_len}
use Rattle.emh_base.specs.declared.ids.InstId.{InstId}
use Rattle.emh_base.specs.declared.plain.PNet.{PNet}
use Rattle.emh_base.specs.declared.plain.PPort.{PPort}
use Rattle.emh_base.specs.declared.plain.PModule.{PModule}
use Rattle.emh_base.specs.declared.plain.Plain.{Plain}
use Rattle.flatten_rules.specs.Lookup.{module_of, net_of, width, width_of}
use Rattle.flatten_rules.specs.Unfolding.{Occurrence}
use Rattle.flatten_rules.specs.Domains.{NetBit, Pin, bits_of_net, bits_inside, is_leaf, ports_of, pins_of_port}
use Rattle.flatten_rules.specs.Texts.{net_up}
use Rattle.flatten_rules.specs.Sound.{IsAllowed, IsSoundModule}
use Rattle.flatten_rules.specs.Walking.{Walking, BitWalking, PinWalking}

abbrev pub nets_inside : PModule → List PNet
nets_inside m = if m.leaf then [] else m.nets

abbrev pub ports_inside : PModule → List PPort
ports_inside m = if m.leaf then m.ports else []

-- from a bit of the first of some nets on
abbrev pub bits_left : List InstId → List PNet → ℕ → List NetBit
bits_left path [] offset = []
bits_left path (net ∷ nets) offset =
    map (λ k. record { path = path; net = net.id; offset = k }) (range_with_len offset (width net.range - offset))
    ++ flat_map (bits_of_net path) nets

abbrev pub bit_walking : Walking → List PNet → ℕ → BitWalking
bit_walking walk nets offset = record {
  plain = walk.plain;
  top = walk.top;
  path = walk.path;
  rest =
      bits_left walk.path nets offset
      ++ flat_map (λ (o : Occurrence). bits_inside o.0 (module_of walk.plain o.1)) walk.rest;
}

-- the first has a bit more
abbrev pub HasMore : List PNet → ℕ → Type 0
HasMore [] offset = Unit {0}
HasMore (net ∷ nets) offset = offset < width net.range

pub record AreLeft (walk : Walking) (nets : List PNet) (offset : ℕ) : Type 0 where
  pub there : All (λ (net : PNet). net_up walk.plain walk.top (reverse walk.path) net.id ≡ Some net) nets
  pub allowed : All (λ (net : PNet). IsAllowed net.range) nets
  pub more : HasMore nets offset

-- the pins of an occurrence; none where it is no leaf
abbrev pub pins_inside : Plain → Occurrence → List Pin
pins_inside M o = if is_leaf (module_of M o.1) then flat_map (pins_of_port M o) (ports_of (module_of M o.1)) else []

-- from a bit of the first of some ports on
abbrev pub pins_left : Plain → Occurrence → PModule → List PPort → ℕ → List Pin
pins_left M o m [] offset = []
pins_left M o m (port ∷ ports) offset =
    map (λ k. record { inst = o; port = port.net; offset = k })
    (range_with_len offset (width_of (net_of m port.net) - offset))
    ++ flat_map (pins_of_port M o) ports

abbrev pub pin_walking : Walking → PModule → List PPort → ℕ → PinWalking
pin_walking walk m ports offset = record {
  plain = walk.plain;
  top = walk.top;
  path = walk.path;
  rest = pins_left walk.plain (walk.path, m.id) m ports offset ++ flat_map (pins_inside walk.plain) walk.rest;
}

abbrev pub HasPinMore : PModule → List PPort → ℕ → Type 0
HasPinMore m [] offset = Unit {0}
HasPinMore m (port ∷ ports) offset = offset < width_of (net_of m port.net)

pub record ArePinsLeft (walk : Walking) (m : PModule) (ports : List PPort) (offset : ℕ) : Type 0 where
  pub found : module_of walk.plain m.id ≡ Some m
  pub sound : IsSoundModule walk.plain m
  pub there : All (λ (port : PPort). net_up walk.plain walk.top (reverse walk.path) port.net ≡ net_of m port.net) ports
  pub nets : All (λ (port : PPort). IsSome (net_of m port.net)) ports
  pub more : HasPinMore m ports offset
