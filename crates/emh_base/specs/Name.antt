use Rattle.std.specs.Prelude.{ℕ, ◌≤◌, Bool, ◌&&◌, nat_le, List, length, IsTrue}
use Rattle.std.specs.List.{list_all}

-- a byte that may stand in a name: printable ASCII without the space
abbrev pub is_name_byte : ℕ → Bool
is_name_byte byte = nat_le 33 byte && nat_le byte 126

-- a name has 1 to 1,024 bytes, each printable
pub record IsName (bytes : List ℕ) : Type 0 where
  pub some_byte : 1 ≤ length bytes
  pub within_limit : length bytes ≤ 1024
  pub printable : IsTrue (list_all is_name_byte bytes)
