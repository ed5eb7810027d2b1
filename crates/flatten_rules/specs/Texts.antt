-- The texts of what a table unfolds to. This project's own: a path, a net bit and a pin are told by the names on the way
-- to them.
use Rattle.std.specs.Prelude.{◌≡◌, ◌≢◌, ℕ, ◌<◌, List, [], ◌∷◌, ◌++◌, reverse, Option, Some, None, option_and_then, IsSome, All, codes}
use Rattle.emh_base.specs.declared.ids.ModId.{ModId}
use Rattle.emh_base.specs.declared.ids.NetId.{NetId}
use Rattle.emh_base.specs.declared.ids.InstId.{InstId}
use Rattle.emh_base.specs.declared.plain.PNet.{PNet}
use Rattle.emh_base.specs.declared.plain.PInst.{PInst}
use Rattle.emh_base.specs.declared.plain.PModule.{PModule}
use Rattle.emh_base.specs.declared.plain.Plain.{Plain}
use Rattle.emh_base.specs.Name.{IsName}
use Rattle.emh_base.specs.Text.{path_text, bit_text, pin_text}
use Rattle.emh_base.specs.declared.root.Root.{Root}
use Rattle.emh_base.specs.declared.root.Root.TheVariants.{Tie0, Tie1, Own}
use Rattle.flatten_rules.specs.Lookup.{net_of, width_of}
use Rattle.flatten_rules.specs.Unfolding.{module_up, inst_up}
use Rattle.flatten_rules.specs.Domains.{NetBit}
use Rattle.flatten_rules.specs.Sound.{IsSound}

abbrev pub inst_name : Option PInst → List ℕ
inst_name None = []
inst_name (Some inst) = inst.name

-- the names of an upward path's instances, from the top
unfoldable pub names_up : Plain → ModId → List InstId → List (List ℕ)
names_up M top [] = []
names_up M top (i ∷ up) = names_up M top up ++ inst_name (inst_up M top i up) ∷ []

-- the net of that id in the module at an upward path
abbrev pub net_up : Plain → ModId → List InstId → NetId → Option PNet
net_up M top up net = option_and_then (λ m. net_of m net) (module_up M top up)

-- the text of a bit of a net of the occurrence at these names
abbrev pub net_bit_text : List (List ℕ) → Option PNet → ℕ → List ℕ
net_bit_text names None offset = []
net_bit_text names (Some net) offset = bit_text names net.name net.range offset

-- the text of a bit of a port there, by the port's inner net
abbrev pub port_bit_text : List (List ℕ) → Option PNet → ℕ → List ℕ
port_bit_text names None offset = []
port_bit_text names (Some net) offset = pin_text names net.name net.range offset

-- what has a text of its own: a path, a net bit, and a bit of a port at a path
pub data Named : Type 0 where
  PathAt : List InstId → Named
  BitAt : NetBit → Named
  PinAt : List InstId → NetId → ℕ → Named

-- it is there
abbrev pub IsThere : Plain → ModId → Named → Type 0
IsThere M top (PathAt path) = IsSome (module_up M top (reverse path))
IsThere M top (BitAt bit) = bit.offset < width_of (net_up M top (reverse bit.path) bit.net)
IsThere M top (PinAt path port offset) = offset < width_of (net_up M top (reverse path) port)

abbrev pub text_of : Plain → ModId → Named → List ℕ
text_of M top (PathAt path) = path_text (names_up M top (reverse path))
text_of M top (BitAt bit) = net_bit_text (names_up M top (reverse bit.path)) (net_up M top (reverse bit.path) bit.net) bit.offset
text_of M top (PinAt path port offset) = port_bit_text (names_up M top (reverse path)) (net_up M top (reverse path) port) offset

-- what a pin leads to: a net bit, a tie or nothing
abbrev pub root_text : Plain → ModId → Option Root → List ℕ
root_text M top None = codes "=open"
root_text M top (Some Tie0) = codes "=0"
root_text M top (Some Tie1) = codes "=1"
root_text M top (Some (Own path net offset)) =
    net_bit_text (names_up M top (reverse path)) (net_up M top (reverse path) net) offset

-- all names are names, as the type of names has it
pub record HasNames (m : PModule) : Type 0 where
  pub nets : All (λ (net : PNet). IsName net.name) m.nets
  pub insts : All (λ (inst : PInst). IsName inst.name) m.insts

-- The law of texts in a table, from a top: no two of the named have one text, and none has that of a tie or of an open
-- connection.
pub record TextsDiffer (M : Plain) (top : ModId) : Type 0 where
  pub each_once : (a b : Named) → IsThere M top a → IsThere M top b → text_of M top a ≡ text_of M top b → a ≡ b
  pub no_tie_0 : (a : Named) → IsThere M top a → text_of M top a ≢ codes "=0"
  pub no_tie_1 : (a : Named) → IsThere M top a → text_of M top a ≢ codes "=1"
  pub no_open : (a : Named) → IsThere M top a → text_of M top a ≢ codes "=open"

-- the law holds in each sound table
abbrev pub EachTextOnce : Type 0
EachTextOnce = (M : Plain) (top : ModId) → IsSound M → All HasNames M.modules → TextsDiffer M top
