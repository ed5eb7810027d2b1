-- Sinks that move, connection by connection.
use Rattle.std.proofs.Common.{◌≡◌, ℕ, ◌+◌, ◌-◌, ◌<◌, ◌≤◌, nat_le, Bool, true, false, cond, List, [], ◌∷◌, ◌++◌, map, length, refl, sym, ap, ap₂, ◌∙◌, arith, append_assoc, append-nil, length-append}
use Rattle.std.specs.List.{flat_map, count_by}
use Rattle.std.proofs.lemmas.Bool.Decides.{nat_tests}
use Rattle.std.proofs.lemmas.List.{map-append}
use Rattle.std.proofs.lemmas.List.Sums.{sum_by-append}
use Rattle.std.proofs.lemmas.List.Concat.{flat_map-append}
use Rattle.emh_base.specs.declared.plain.Src.{Src}
use Rattle.emh_base.specs.declared.edit.Edit.{Edit}
use Rattle.watch_kit.specs.declared.mover.Mover.{Mover}
use Rattle.watch_kit.specs.NetBits.{BitOf, is_bit}
use Rattle.watch_kit.specs.Sinks.{Join, Sink, taken, sinks_from, sinks_at}
use Rattle.watch_kit.specs.Split.{Move, move, moves, connect_to}
use Rattle.watch_kit.specs.inside.Keys.{bit_of}
use Rattle.watch_kit.specs.inside.Counting.{sinks_among}
use Rattle.watch_kit.specs.inside.Moving.{moved_on}

-- Sinks counted.

count-cons : {X : Type 0} (p : X → Bool) (x : X) (xs : List X) → count_by p (x ∷ xs) ≡ cond (p x) 1 0 + count_by p xs
count-cons {X} p x xs =
    let f : X → ℕ = λ y. cond (p y) 1 0 in
    let none : 0 + f x ≡ f x = omega arith in
    sum_by-append f (x ∷ []) xs ∙ ap (λ n. n + count_by p xs) none

one-or-none : (t : Bool) (s : Sink) (rest : List Sink) → length (cond t (s ∷ []) [] ++ rest) ≡ cond t 1 0 + length rest
one-or-none true s rest = omega arith
one-or-none false s rest = omega arith

sinks-from : (b : BitOf) (j : Join) (offset : ℕ) (bits : List Src) → length (sinks_from b j offset bits) ≡ count_by (is_bit b) bits
sinks-from b j offset [] = refl
sinks-from b j offset (src ∷ more) =
    one-or-none (is_bit b src) (record { inst = j.inst; port = j.port; offset = offset }) (sinks_from b j (offset + 1) more)
    ∙ ap (λ n. cond (is_bit b src) 1 0 + n) (sinks-from b j (offset + 1) more)
    ∙ sym (count-cons (is_bit b) src more)

sinks-at : (b : BitOf) (j : Join) → length (sinks_at b j) ≡ count_by (is_bit b) (taken j.dir j.conn)
sinks-at b j = sinks-from b j 0 (taken j.dir j.conn)

pub among-append : (b : BitOf) (js ks : List Join) → sinks_among (js ++ ks) b ≡ sinks_among js b + sinks_among ks b
among-append b js ks = ap length (flat_map-append (sinks_at b) js ks) ∙ length-append (flat_map (sinks_at b) js) (flat_map (sinks_at b) ks)

pub among-one : (b : BitOf) (j : Join) → sinks_among (j ∷ []) b ≡ count_by (is_bit b) (taken j.dir j.conn)
among-one b j = ap length (append-nil (sinks_at b j)) ∙ sinks-at b j

-- One connection.

moves-none : (b : BitOf) (to : Src) (stay : ℕ) (j : Join) (t : Bool) → t ≡ nat_le (length (sinks_at b j)) stay → length (sinks_at b j) ≤ stay → moves b to stay (j ∷ []) ≡ []
moves-none b to stay j t is few =
    let all : nat_le (length (sinks_at b j)) stay ≡ true = grind (arith, nat_tests) in
    ap (λ (u : Bool). cond u [] (move b to stay j ∷ []) ++ []) all

moves-one : (b : BitOf) (to : Src) (stay : ℕ) (j : Join) → stay < length (sinks_at b j) → moves b to stay (j ∷ []) ≡ move b to stay j ∷ []
moves-one b to stay j many =
    let some : nat_le (length (sinks_at b j)) stay ≡ false = grind (arith, nat_tests) in
    ap (λ (u : Bool). cond u [] (move b to stay j ∷ []) ++ []) some

module _ (s : Mover) (j : Join) (n : ℕ) (is : n ≡ count_by (is_bit (bit_of s.bit)) (taken j.dir j.conn)) where
  among : n ≡ sinks_among (j ∷ []) (bit_of s.bit)
  among = is ∙ sym (among-one (bit_of s.bit) j)

  pub stays-put : n ≤ s.stay → record s { stay = s.stay - n } ≡ moved_on s (j ∷ [])
  stays-put few =
      let none : moves (bit_of s.bit) s.to s.stay (j ∷ []) ≡ [] = moves-none (bit_of s.bit) s.to s.stay j _ refl (omega (arith, is, sinks-at (bit_of s.bit) j)) in
      ap₂ (λ k (es : List Edit). record s { stay = s.stay - k; edits = es }) among
      (sym (ap (λ mvs. s.edits ++ map (connect_to s.module) mvs) none ∙ append-nil s.edits))

  pub moves-on : s.stay < n → record s { stay = 0; edits = s.edits ++ connect_to s.module (move (bit_of s.bit) s.to s.stay j) ∷ [] } ≡ moved_on s (j ∷ [])
  moves-on many =
      let one : moves (bit_of s.bit) s.to s.stay (j ∷ []) ≡ move (bit_of s.bit) s.to s.stay j ∷ [] = moves-one (bit_of s.bit) s.to s.stay j (omega (arith, is, sinks-at (bit_of s.bit) j)) in
      let none : 0 ≡ s.stay - sinks_among (j ∷ []) (bit_of s.bit) = omega (arith, among) in
      ap₂ (λ k (es : List Edit). record s { stay = k; edits = es }) none
      (sym (ap (λ mvs. s.edits ++ map (connect_to s.module) mvs) one))

-- Several.

moves-append : (b : BitOf) (to : Src) (stay : ℕ) (js ks : List Join) → moves b to stay (js ++ ks) ≡ moves b to stay js ++ moves b to (stay - sinks_among js b) ks
moves-append b to stay [] ks = ap (λ n. moves b to n ks) (omega arith)
moves-append b to stay (j ∷ js) ks =
    let n = length (sinks_at b j) in
    let here : List Move = cond (nat_le n stay) [] (move b to stay j ∷ []) in
    let all : sinks_among (j ∷ js) b ≡ n + sinks_among js b = length-append (sinks_at b j) (flat_map (sinks_at b) js) in
    let left : (stay - n) - sinks_among js b ≡ stay - sinks_among (j ∷ js) b = omega (arith, all) in
    ap (λ mvs. here ++ mvs) (moves-append b to (stay - n) js ks)
    ∙ sym (append_assoc here (moves b to (stay - n) js) (moves b to ((stay - n) - sinks_among js b) ks))
    ∙ ap (λ k. (here ++ moves b to (stay - n) js) ++ moves b to k ks) left

moved-append : (s : Mover) (js ks : List Join) → moved_on (moved_on s js) ks ≡ moved_on s (js ++ ks)
moved-append s js ks =
    let b = bit_of s.bit in
    let first = moves b s.to s.stay js in
    let then = moves b s.to (s.stay - sinks_among js b) ks in
    let left : (s.stay - sinks_among js b) - sinks_among ks b ≡ s.stay - sinks_among (js ++ ks) b = omega (arith, among-append b js ks) in
    ap₂ (λ k (es : List Edit). record s { stay = k; edits = es }) left
    (append_assoc s.edits (map (connect_to s.module) first) (map (connect_to s.module) then)
    ∙ ap (λ (es : List Edit). s.edits ++ es) (sym (ap (map (connect_to s.module)) (moves-append b s.to s.stay js ks) ∙ map-append (connect_to s.module) first then)))

pub moved-more : (old now new : Mover) (js ks all : List Join) → now ≡ moved_on old js → new ≡ moved_on now ks → all ≡ js ++ ks → new ≡ moved_on old all
moved-more old now new js ks all first then is =
    then ∙ ap (λ (s : Mover). moved_on s ks) first ∙ moved-append old js ks ∙ ap (moved_on old) (sym is)
