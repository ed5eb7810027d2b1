-- How many sinks connections have, as lists alone.
use Rattle.std.proofs.Common.{◌≡◌, ℕ, zero, suc, ◌+◌, ◌-◌, ◌==◌, nat_le, min, Bool, true, false, cond, ◌&&◌, List, [], ◌∷◌, ◌++◌, map, length, sum_by, refl, sym, ap, ap₂, ◌∙◌, arith}
use Rattle.std.specs.List.{flat_map}
use Rattle.std.proofs.lemmas.Bool.Decides.{nat_tests}
use Rattle.std.proofs.lemmas.List.Sums.{sum_by-cons}
use Rattle.emh_base.specs.declared.ids.InstId.{InstId}
use Rattle.emh_base.specs.declared.ids.NetId.{NetId}
use Rattle.emh_base.specs.declared.plain.Dir.{Dir}
use Rattle.emh_base.specs.declared.plain.Dir.TheVariants.{Input, Output, Inout}
use Rattle.emh_base.specs.declared.plain.Src.{Src}
use Rattle.emh_base.specs.declared.plain.Src.TheVariants.{Tie0, Tie1, Bit}
use Rattle.emh_base.specs.declared.plain.Conn.{Conn}
use Rattle.emh_base.specs.declared.plain.Conn.TheVariants.{Open, Bits}
use Rattle.watch_kit.specs.NetBits.{BitOf, is_bit}
use Rattle.watch_kit.specs.Sinks.{Join, taken, Sink, sinks_from, sinks_at}
use Rattle.watch_kit.specs.Split.{moved, Move, move, moves}

-- how many of the sources are b
abbrev pub hits : BitOf → List Src → ℕ
hits b [] = 0
hits b (src ∷ more) = cond (is_bit b src) 1 0 + hits b more

one-sink : (b : Bool) (x : Sink) (xs : List Sink) (n : ℕ) → length xs ≡ n → length (cond b (x ∷ []) [] ++ xs) ≡ cond b 1 0 + n
one-sink true x xs n same = omega (arith, same)
one-sink false x xs n same = omega (arith, same)

length-from : (b : BitOf) (j : Join) (offset : ℕ) (bits : List Src) → length (sinks_from b j offset bits) ≡ hits b bits
length-from b j offset [] = refl
length-from b j offset (src ∷ more) =
    one-sink (is_bit b src) (record { inst = j.inst; port = j.port; offset = offset }) (sinks_from b j (offset + 1) more) (hits b more) (length-from b j (offset + 1) more)

-- a connection's sinks, counted
abbrev pub weight : BitOf → Join → ℕ
weight b j = length (sinks_at b j)

pub weight-hits : (b : BitOf) (j : Join) → weight b j ≡ hits b (taken j.dir j.conn)
weight-hits b j = length-from b j 0 (taken j.dir j.conn)

-- a source that stays, where it may
stay-step : (b : Bool) (stay n : ℕ) (h : ℕ → ℕ) → ((s : ℕ) → h s ≡ min s n) → cond b 1 0 + h (cond b stay (suc stay)) ≡ min (suc stay) (cond b 1 0 + n)
stay-step true stay n h same = omega (arith, same stay)
stay-step false stay n h same = omega (arith, same (suc stay))

abbrev one : Bool → ℕ
one b = cond b 1 0

gone-step : (b : Bool) (c : BitOf) (new src : Src) → is_bit c new ≡ false → b ≡ is_bit c src → one (is_bit c (cond b new src)) ≡ 0
gone-step true c new src other is = ap one other
gone-step false c new src other is = ap one (sym is)

-- where the new source isn't b, of the bits that are b only the first ones are left
hits-moved : (b : BitOf) (new : Src) → is_bit b new ≡ false → (bits : List Src) (stay : ℕ) → hits b (moved b new stay bits) ≡ min stay (hits b bits)
hits-moved b new other [] zero = refl
hits-moved b new other [] (suc stay) = omega arith
hits-moved b new other (src ∷ more) zero =
    omega (arith, gone-step (is_bit b src) b new src other refl, hits-moved b new other more zero)
hits-moved b new other (src ∷ more) (suc stay) =
    stay-step (is_bit b src) stay (hits b more) (λ s. hits b (moved b new s more)) (hits-moved b new other more)

-- a connection after its move
abbrev pub settle : BitOf → Src → ℕ → Join → Join
settle b new stay j = cond (nat_le (weight b j) stay) j (record j { conn = Bits (moved b new stay (taken j.dir j.conn)) })

abbrev pub settled : BitOf → Src → ℕ → List Join → List Join
settled b new stay [] = []
settled b new stay (j ∷ js) = settle b new stay j ∷ settled b new (stay - weight b j) js

-- an open connection, and one that isn't an input's, has no sinks to move
module _ (b : BitOf) (new : Src) (other : is_bit b new ≡ false) where
  settle-by : (le : Bool) (stay : ℕ) (i : InstId) (p : NetId) (dir : Dir) (conn : Conn) → le ≡ nat_le (weight b (record { inst = i; port = p; dir = dir; conn = conn })) stay
      → weight b (cond le (record { inst = i; port = p; dir = dir; conn = conn }) (record { inst = i; port = p; dir = dir; conn = Bits (moved b new stay (taken dir conn)) })) ≡ min stay (weight b (record { inst = i; port = p; dir = dir; conn = conn }))
  settle-by true stay i p dir conn is = grind (arith, nat_tests)
  settle-by false stay i p Input Open is = grind (arith, nat_tests)
  settle-by false stay i p Input (Bits bits) is =
      let old : Join = record { inst = i; port = p; dir = Input; conn = Bits bits } in
      let now : Join = record { inst = i; port = p; dir = Input; conn = Bits (moved b new stay bits) } in
      weight-hits b now ∙ hits-moved b new other bits stay ∙ ap (min stay) (sym (weight-hits b old))
  settle-by false stay i p Output conn is = grind (arith, nat_tests)
  settle-by false stay i p Inout conn is = grind (arith, nat_tests)

  weight-settle : (stay : ℕ) (j : Join) → weight b (settle b new stay j) ≡ min stay (weight b j)
  weight-settle stay j = settle-by (nat_le (weight b j) stay) stay j.inst j.port j.dir j.conn refl

  -- after the moves there are no more sinks than may stay
  pub weight-settled : (js : List Join) (stay : ℕ) → sum_by (weight b) (settled b new stay js) ≡ min stay (sum_by (weight b) js)
  weight-settled [] stay = omega arith
  weight-settled (j ∷ js) stay =
      omega (arith, weight-settle stay j, weight-settled js (stay - weight b j), sum_by-cons (weight b) j js, sum_by-cons (weight b) (settle b new stay j) (settled b new (stay - weight b j) js))

-- The sinks of another bit.

-- a source is one bit at most
both-bits : (net0 offset0 b0 b1 c0 c1 : ℕ) → ((b0 == c0) && (b1 == c1)) ≡ false → ((net0 == b0) && (offset0 == b1)) ≡ true → ((net0 == c0) && (offset0 == c1)) ≡ false
both-bits net0 offset0 b0 b1 c0 c1 apart is = grind (arith, nat_tests)

module _ (b c : BitOf) (new : Src) (other : is_bit c (Bit b.net b.offset) ≡ false) (fresh : is_bit c new ≡ false) where
  not-both : (src : Src) → is_bit b src ≡ true → is_bit c src ≡ false
  not-both Tie0 is = refl
  not-both Tie1 is = refl
  not-both (Bit net offset) is = both-bits net.0 offset b.net.0 b.offset c.net.0 c.offset other is

  gone : (t : Bool) (src : Src) → t ≡ is_bit b src → is_bit c (cond t new src) ≡ is_bit c src
  gone true src is = fresh ∙ sym (not-both src (sym is))
  gone false src is = refl

  -- the sinks of c are at the same offsets
  from-moved : (j : Join) (conn : Conn) (bits : List Src) (stay offset : ℕ) → sinks_from c (record j { conn = conn }) offset (moved b new stay bits) ≡ sinks_from c j offset bits
  from-moved j conn [] zero offset = refl
  from-moved j conn [] (suc stay) offset = refl
  from-moved j conn (src ∷ more) zero offset =
      ap₂ (λ (t : Bool) (rest : List Sink). cond t (record { inst = j.inst; port = j.port; offset = offset } ∷ []) [] ++ rest) (gone (is_bit b src) src refl) (from-moved j conn more zero (offset + 1))
  from-moved j conn (src ∷ more) (suc stay) offset =
      ap (λ (rest : List Sink). cond (is_bit c src) (record { inst = j.inst; port = j.port; offset = offset } ∷ []) [] ++ rest) (from-moved j conn more (cond (is_bit b src) stay (suc stay)) (offset + 1))

  settle-other : (le : Bool) (stay : ℕ) (i : InstId) (p : NetId) (dir : Dir) (conn : Conn)
      → sinks_at c (cond le (record { inst = i; port = p; dir = dir; conn = conn }) (record { inst = i; port = p; dir = dir; conn = Bits (moved b new stay (taken dir conn)) })) ≡ sinks_at c (record { inst = i; port = p; dir = dir; conn = conn })
  settle-other true stay i p dir conn = refl
  settle-other false stay i p Input Open = from-moved (record { inst = i; port = p; dir = Input; conn = Open }) (Bits (moved b new stay [])) [] stay 0
  settle-other false stay i p Input (Bits bits) = from-moved (record { inst = i; port = p; dir = Input; conn = Bits bits }) (Bits (moved b new stay bits)) bits stay 0
  settle-other false stay i p Output conn = refl
  settle-other false stay i p Inout conn = refl

  pub settled-other : (js : List Join) (stay : ℕ) → flat_map (sinks_at c) (settled b new stay js) ≡ flat_map (sinks_at c) js
  settled-other [] stay = refl
  settled-other (j ∷ js) stay =
      ap₂ (λ (x y : List Sink). x ++ y) (settle-other (nat_le (weight b j) stay) stay j.inst j.port j.dir j.conn) (settled-other js (stay - weight b j))

-- Moves as they are made, one after the other.

abbrev same_key : Join → Join → Bool
same_key k j = (k.inst.0 == j.inst.0) && (k.port.0 == j.port.0)

abbrev pub rejoined : InstId → NetId → Conn → Join → Join
rejoined i p conn j = cond ((j.inst.0 == i.0) && (j.port.0 == p.0)) (record j { conn = conn }) j

abbrev pub all_rejoined : List Move → List Join → List Join
all_rejoined [] js = js
all_rejoined (mv ∷ mvs) js = all_rejoined mvs (map (rejoined mv.inst mv.port (Bits mv.bits)) js)

-- j stands at another place than each of the list
abbrev pub Differs : Join → List Join → Type 0
Differs j [] = Unit {0}
Differs j (k ∷ ks) = (same_key k j ≡ false) × Differs j ks

abbrev pub Apart : List Join → Type 0
Apart [] = Unit {0}
Apart (j ∷ js) = Differs j js × Apart js

flip : (a b c d : ℕ) → ((a == b) && (c == d)) ≡ false → ((b == a) && (d == c)) ≡ false
flip a b c d e = grind (arith, nat_tests)

key-own : (a b : ℕ) → ((a == a) && (b == b)) ≡ true
key-own a b = grind (arith, nat_tests)

-- what is changed elsewhere
rejoined-other : (j : Join) (conn : Conn) (ks : List Join) → Differs j ks → map (rejoined j.inst j.port conn) ks ≡ ks
rejoined-other j conn [] differs = refl
rejoined-other j conn (k ∷ ks) differs =
    ap₂ (λ (x : Join) (xs : List Join). x ∷ xs) (ap (λ c. cond c (record k { conn = conn }) k) differs.0) (rejoined-other j conn ks differs.1)

rejoined-own : (j : Join) (conn : Conn) → rejoined j.inst j.port conn j ≡ record j { conn = conn }
rejoined-own j conn = ap (λ c. cond c (record j { conn = conn }) j) (key-own j.inst.0 j.port.0)

-- no move is at j
abbrev Spares : Join → List Move → Type 0
Spares j [] = Unit {0}
Spares j (mv ∷ mvs) = (((j.inst.0 == mv.inst.0) && (j.port.0 == mv.port.0)) ≡ false) × Spares j mvs

spared : (j : Join) (mvs : List Move) → Spares j mvs → (js : List Join) → all_rejoined mvs (j ∷ js) ≡ j ∷ all_rejoined mvs js
spared j [] spares js = refl
spared j (mv ∷ mvs) spares js =
    let rest : List Join = map (rejoined mv.inst mv.port (Bits mv.bits)) js in
    ap (λ c. all_rejoined mvs (cond c (record j { conn = Bits mv.bits }) j ∷ rest)) spares.0 ∙ spared j mvs spares.1 rest

module _ (b : BitOf) (new : Src) where
  spares-by : (le : Bool) (j : Join) (mv : Move) (mvs : List Move) → ((j.inst.0 == mv.inst.0) && (j.port.0 == mv.port.0)) ≡ false → Spares j mvs → Spares j (cond le [] (mv ∷ []) ++ mvs)
  spares-by true j mv mvs other rest = rest
  spares-by false j mv mvs other rest = (other, rest)

  spares-moves : (j : Join) (ks : List Join) (stay : ℕ) → Differs j ks → Spares j (moves b new stay ks)
  spares-moves j [] stay differs = tt
  spares-moves j (k ∷ ks) stay differs =
      spares-by (nat_le (weight b k) stay) j (move b new stay k) (moves b new (stay - weight b k) ks) (flip k.inst.0 j.inst.0 k.port.0 j.port.0 differs.0) (spares-moves j ks (stay - weight b k) differs.1)

  differs-front : (j : Join) (js tail : List Join) → Differs j (js ++ tail) → Differs j js
  differs-front j [] tail d = tt
  differs-front j (k ∷ js) tail d = (d.0, differs-front j js tail d.1)

  settle-step : (le : Bool) (j : Join) (bits : List Src) (js tail done : List Join) (mvs : List Move) → Differs j (js ++ tail) → Spares j mvs → all_rejoined mvs (js ++ tail) ≡ done
      → all_rejoined (cond le [] (record { inst = j.inst; port = j.port; bits = bits } ∷ []) ++ mvs) (j ∷ (js ++ tail)) ≡ cond le j (record j { conn = Bits bits }) ∷ done
  settle-step true j bits js tail done mvs differs spares rest = spared j mvs spares (js ++ tail) ∙ ap (λ xs. j ∷ xs) rest
  settle-step false j bits js tail done mvs differs spares rest =
      let at : Join = record j { conn = Bits bits } in
      ap₂ (λ (x : Join) (xs : List Join). all_rejoined mvs (x ∷ xs)) (rejoined-own j (Bits bits)) (rejoined-other j (Bits bits) (js ++ tail) differs)
      ∙ spared at mvs spares (js ++ tail)
      ∙ ap (λ xs. at ∷ xs) rest

  -- the moves one after the other leave what is settled, and what stands after it
  pub moves-settle : (js tail : List Join) (stay : ℕ) → Apart (js ++ tail) → all_rejoined (moves b new stay js) (js ++ tail) ≡ settled b new stay js ++ tail
  moves-settle [] tail stay apart = refl
  moves-settle (j ∷ js) tail stay apart =
      settle-step (nat_le (weight b j) stay) j (moved b new stay (taken j.dir j.conn)) js tail (settled b new (stay - weight b j) js ++ tail) (moves b new (stay - weight b j) js)
      apart.0 (spares-moves j js (stay - weight b j) (differs-front j js tail apart.0)) (moves-settle js tail (stay - weight b j) apart.1)
