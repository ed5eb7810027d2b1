-- The net bits of connections. This project's own.
use Rattle.std.specs.Prelude.{ℕ, ◌==◌, Bool, false, not, ◌&&◌, List, [], ◌∷◌, filter, flat_map}
use Rattle.emh_base.specs.declared.ids.NetId.{NetId}
use Rattle.emh_base.specs.declared.plain.Src.{Src}
use Rattle.emh_base.specs.declared.plain.Src.TheVariants.{Tie0, Tie1, Bit}
use Rattle.emh_base.specs.declared.plain.Conn.{Conn}
use Rattle.emh_base.specs.declared.plain.Conn.TheVariants.{Open, Bits}

-- a bit of a net of a module
pub record BitOf : Type 0 where
  pub net : NetId
  pub offset : ℕ

abbrev pub is_bit : BitOf → Src → Bool
is_bit b Tie0 = false
is_bit b Tie1 = false
is_bit b (Bit net offset) = (net.0 == b.net.0) && (offset == b.offset)

abbrev pub bits_in : Src → List BitOf
bits_in Tie0 = []
bits_in Tie1 = []
bits_in (Bit net offset) = record { net = net; offset = offset } ∷ []

-- the net bits of a connection, from the left
abbrev pub bits_of_conn : Conn → List BitOf
bits_of_conn Open = []
bits_of_conn (Bits bits) = flat_map bits_in bits

-- each once, where it stands first
abbrev pub once : {X : Type 0} → (X → X → Bool) → List X → List X
once same [] = []
once same (x ∷ xs) = x ∷ filter (λ y. not (same x y)) (once same xs)
