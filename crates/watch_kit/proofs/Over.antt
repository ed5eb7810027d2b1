-- The net bits that have too many sinks, from their counts.
use Rattle.std.proofs.Common.{◌≡◌, ℕ, nat_lt, Bool, true, false, cond, List, [], ◌∷◌, map, filter, get_or, Option, Some, None, unwrap_or, option_map, All, refl, ap, ap₂, ◌∙◌, arith}
use Rattle.std.specs.List.{list_any}
use Rattle.std.proofs.lemmas.Bool.Decides.{nat_tests}
use Rattle.std.proofs.lemmas.List.{get_or-map, length-map}
use Rattle.std.proofs.lemmas.List.Elements.{All-head, All-tail}
use Rattle.std.proofs.lemmas.List.Folds.{list_any_at}
use Rattle.emh_base.specs.declared.ids.ModId.{ModId}
use Rattle.emh_base.specs.declared.state.Fanout.{Fanout}
use Rattle.emh_base.specs.declared.state.State.{State}
use Rattle.watch_kit.specs.declared.net_bits.BitOf.{BitOf as Key}
use Rattle.watch_kit.specs.declared.sink_counts.SinkCounts.{SinkCounts}
use Rattle.watch_kit.specs.NetBits.{BitOf}
use Rattle.watch_kit.specs.Sinks.{joins}
use Rattle.watch_kit.specs.FanoutLimit.{same_bit, is_over}
use Rattle.watch_kit.specs.inside.Keys.{bit_of, count_at}
use Rattle.watch_kit.specs.inside.Counting.{up_to, Begun, CountsMore, sinks_among}
use Rattle.watch_kit.proofs.Keys.{bit-itself}

map-kept : {X Y : Type 0} (f : X → Y) (p : X → Bool) (q : Y → Bool) (xs : List X) → All (λ x. p x ≡ q (f x)) xs → map f (filter p xs) ≡ filter q (map f xs)
map-kept f p q [] each = refl
map-kept {X} {Y} f p q (x ∷ xs) each =
    let P : X → Type 0 = λ y. p y ≡ q (f y) in
    by_test (p x) (q (f x)) (All-head P x xs each) (map-kept f p q xs (All-tail P x xs each))
  where
    by_test : (s t : Bool) → s ≡ t → map f (filter p xs) ≡ filter q (map f xs) → map f (cond s (x ∷ filter p xs) (filter p xs)) ≡ cond t (f x ∷ filter q (map f xs)) (filter q (map f xs))
    by_test true t is rest = ap (λ ys. f x ∷ ys) rest ∙ ap (λ u. cond u (f x ∷ filter q (map f xs)) (filter q (map f xs))) is
    by_test false t is rest = rest ∙ ap (λ u. cond u (f x ∷ filter q (map f xs)) (filter q (map f xs))) is

past-limit : (max sinks : ℕ) → nat_lt max (up_to max 0 sinks) ≡ nat_lt max sinks
past-limit max sinks = grind (arith, nat_tests)

module _ (S : State) (m : ModId) (limit : Fanout) (bits : List Key) (start end : SinkCounts) (begun : Begun (map bit_of bits) start) (starts : start.limit ≡ limit.max)
    (counted : CountsMore start (sinks_among (joins S.plain m)) end) where
  abbrev passes : Key → Bool
  passes bit = nat_lt end.limit (unwrap_or (count_at end.counts.entries bit) 0)

  one-over : (b : Key) → list_any (λ other. same_bit other (bit_of b)) (map bit_of bits) ≡ true → passes b ≡ is_over S m limit (bit_of b)
  one-over b among =
      let zero_if : Bool → Option ℕ = λ t. cond t (Some 0) None in
      let sinks = sinks_among (joins S.plain m) (bit_of b) in
      let here : count_at start.counts.entries b ≡ Some 0 = begun b ∙ ap zero_if among in
      let count : count_at end.counts.entries b ≡ Some (up_to limit.max 0 sinks) =
      counted.grown b ∙ ap₂ (λ max o. option_map (λ n. up_to max n sinks) o) starts here in
      ap₂ (λ max o. nat_lt max (unwrap_or o 0)) (counted.limit ∙ starts) count ∙ past-limit limit.max sinks

  pub all-over : map bit_of (filter passes bits) ≡ filter (is_over S m limit) (map bit_of bits)
  all-over =
      map-kept bit_of passes (is_over S m limit) bits
      (λ k d within.
      let b = get_or bits k d in
      let at : get_or (map bit_of bits) k (bit_of d) ≡ bit_of b = get_or-map bit_of bits k d (bit_of d) within in
      let p : BitOf → Bool = λ other. same_bit other (bit_of b) in
      one-over b (list_any_at p (map bit_of bits) k (bit_of d) (omega (arith, length-map bits bit_of)) (ap p at ∙ bit-itself b)))
