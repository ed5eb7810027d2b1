-- Walks through the occurrences of a design, through their net bits and through the pins of the leaves. This project's
-- own.
use Rattle.std.specs.Prelude.{◌≡◌, ℕ, ◌<◌, Bool, true, false, List, [], ◌∷◌, reverse, Some}
use Rattle.emh_base.specs.declared.ids.ModId.{ModId}
use Rattle.emh_base.specs.declared.ids.InstId.{InstId}
use Rattle.emh_base.specs.declared.plain.PModule.{PModule}
use Rattle.emh_base.specs.declared.plain.Plain.{Plain}
use Rattle.emh_base.specs.declared.plain.PNet.{PNet}
use Rattle.flatten_rules.specs.Lookup.{module_of, width}
use Rattle.flatten_rules.specs.Unfolding.{Occurrence, module_up}
use Rattle.flatten_rules.specs.Domains.{NetBit, Pin, port_net}
use Rattle.flatten_rules.specs.Texts.{net_up}
use Rattle.flatten_rules.specs.Sound.{IsAllowed}
use Rattle.flatten_rules.specs.Way.{WayTo}

-- where a walk is, and the occurrences that are still to come
pub record Walking : Type 0 where
  pub plain : Plain
  pub top : ModId
  pub path : List InstId
  pub rest : List Occurrence

abbrev pub way_of : Walking → WayTo
way_of walk = record { plain = walk.plain; top = walk.top; path = walk.path }

-- the walk comes to the next occurrence
pub record ComesTo (before after : Walking) : Type 0 where
  pub id : ModId
  pub holder : PModule
  pub next : before.rest ≡ (after.path, id) ∷ after.rest
  pub found : module_of after.plain id ≡ Some holder
  pub there : module_up after.plain after.top (reverse after.path) ≡ Some holder

-- whether there was one more
abbrev pub GoesOn : Bool → Walking → Walking → Type 0
GoesOn true before after = ComesTo before after
GoesOn false before after = before.rest ≡ []

-- where a walk through net bits is, and those that are still to come
pub record BitWalking : Type 0 where
  pub plain : Plain
  pub top : ModId
  pub path : List InstId
  pub rest : List NetBit

abbrev pub way_of_bits : BitWalking → WayTo
way_of_bits walk = record { plain = walk.plain; top = walk.top; path = walk.path }

-- the walk comes to the next net bit
pub record IsNextBit (before after : BitWalking) (net : PNet) (offset : ℕ) : Type 0 where
  pub next : before.rest ≡ record { path = after.path; net = net.id; offset = offset } ∷ after.rest
  pub there : net_up after.plain after.top (reverse after.path) net.id ≡ Some net
  pub allowed : IsAllowed net.range
  pub within : offset < width net.range

-- where a walk through pins is, and those that are still to come
pub record PinWalking : Type 0 where
  pub plain : Plain
  pub top : ModId
  pub path : List InstId
  pub rest : List Pin

abbrev pub way_of_pins : PinWalking → WayTo
way_of_pins walk = record { plain = walk.plain; top = walk.top; path = walk.path }

-- the walk comes to the next pin, of a port with this inner net
pub record IsNextPin (before after : PinWalking) (net : PNet) (offset : ℕ) : Type 0 where
  pub master : ModId
  pub next : before.rest ≡ record { inst = (after.path, master); port = net.id; offset = offset } ∷ after.rest
  pub port : port_net (module_of after.plain master) net.id ≡ Some net
  pub there : net_up after.plain after.top (reverse after.path) net.id ≡ Some net
  pub allowed : IsAllowed net.range
  pub within : offset < width net.range
