use Rattle.std.specs.Prelude.{ℕ, ◌==◌, List, [], ◌∷◌, reverse, Option, None, option_and_then, option_map, unwrap_or, position, slice_get}
use Rattle.emh_base.specs.declared.ids.ModId.{ModId}
use Rattle.emh_base.specs.declared.ids.NetId.{NetId}
use Rattle.emh_base.specs.declared.ids.InstId.{InstId}
use Rattle.emh_base.specs.declared.plain.Src.{Src}
use Rattle.emh_base.specs.declared.plain.Src.TheVariants as src
use Rattle.emh_base.specs.declared.plain.Conn.{Conn}
use Rattle.emh_base.specs.declared.plain.Conn.TheVariants.{Open, Bits}
use Rattle.emh_base.specs.declared.plain.PInst.{PInst}
use Rattle.emh_base.specs.declared.plain.PModule.{PModule}
use Rattle.emh_base.specs.declared.plain.Plain.{Plain}
use Rattle.emh_base.specs.declared.root.Root.{Root}
use Rattle.emh_base.specs.declared.root.Root.TheVariants.{Tie0, Tie1, Own}
use Rattle.flatten_rules.specs.Unfolding.{module_up, inst_up}

-- the source of one bit of a connection; none where it is open
abbrev pub bit_of : Conn → ℕ → Option Src
bit_of Open offset = None
bit_of (Bits bits) offset = slice_get bits offset

-- the source of a net's bit through an instance of its module; none where the net is no port, or that port is open
abbrev pub source_through : PInst → PModule → NetId → ℕ → Option Src
source_through inst master net offset =
    option_and_then (λ conn. bit_of conn offset)
    (option_and_then (slice_get inst.conns) (position (λ port. port.net.0 == net.0) master.ports))

-- the source above of a net's bit in the occurrence at an upward path: none at the top, for a net that is no port, and
-- where the port is open
abbrev pub source_above : Plain → ModId → List InstId → NetId → ℕ → Option Src
source_above M top [] net offset = None
source_above M top (i ∷ up) net offset =
    option_and_then (λ inst. option_and_then (λ master. source_through inst master net offset) (module_up M top (i ∷ up)))
    (inst_up M top i up)

-- a tie is its own root, a net bit's root is asked for
abbrev pub root_of_source : (NetId → ℕ → Root) → Src → Root
root_of_source root src.Tie0 = Tie0
root_of_source root src.Tie1 = Tie1
root_of_source root (src.Bit net offset) = root net offset

-- The root of a net's bit in the occurrence at an upward path: the root of its source above, or itself where it has none.
unfoldable pub root_up : Plain → ModId → List InstId → NetId → ℕ → Root
root_up M top [] net offset = Own [] net offset
root_up M top (i ∷ up) net offset =
    unwrap_or (option_map (root_of_source (λ n k. root_up M top up n k)) (source_above M top (i ∷ up) net offset))
    (Own (reverse (i ∷ up)) net offset)

-- the root of a bit of a leaf's pin at an upward path; none where the pin is open
abbrev pub pin_root : Plain → ModId → List InstId → NetId → ℕ → Option Root
pin_root M top [] port offset = None
pin_root M top (i ∷ up) port offset =
    option_map (root_of_source (λ n k. root_up M top up n k)) (source_above M top (i ∷ up) port offset)
