-- Net bits as keys of a map.
use Rattle.std.specs.Prelude.{ℕ, List, Option}
use Rattle.std.specs.declared.cmp.Ordering.{Ordering}
use Rattle.std.specs.Ordering.{is_eq, nat_cmp, ordering_then}
use Rattle.std.specs.Map.{lookup}
use Rattle.watch_kit.specs.declared.net_bits.BitOf.{BitOf as Key}
use Rattle.watch_kit.specs.NetBits.{BitOf}

abbrev pub bit_of : Key → BitOf
bit_of key = record { net = key.net; offset = key.offset }

abbrev pub key_cmp : Key → Key → Ordering
key_cmp a b = ordering_then (nat_cmp a.net.0 b.net.0) (nat_cmp a.offset b.offset)

-- the number that is kept for a net bit, none where there is none
abbrev pub count_at : List (Key × ℕ) → Key → Option ℕ
count_at counts at = lookup (λ key. is_eq (key_cmp at key)) counts
