-- Numbers that grow by the sinks that are counted.
use Rattle.std.proofs.Common.{◌≡◌, ℕ, ◌+◌, ◌≤◌, Bool, true, false, cond, List, ◌++◌, Option, Some, None, option_map, refl, sym, ap, ap₂, ◌∙◌, arith}
use Rattle.watch_kit.specs.declared.net_bits.BitOf.{BitOf as Key}
use Rattle.watch_kit.specs.declared.sink_counts.SinkCounts.{SinkCounts}
use Rattle.watch_kit.specs.NetBits.{BitOf}
use Rattle.watch_kit.specs.FanoutLimit.{same_bit}
use Rattle.watch_kit.specs.inside.Keys.{bit_of, count_at}
use Rattle.watch_kit.specs.inside.Counting.{up_to, CountsMore, sinks_among}
use Rattle.watch_kit.specs.Sinks.{Join}
use Rattle.watch_kit.proofs.Moves.{among-append}
use Rattle.watch_kit.proofs.Keys.{same-bit}

none-more : (limit n more : ℕ) → more ≡ 0 → up_to limit n more ≡ n
none-more limit n more none = omega (arith, none)

all-as_before : (limit more : ℕ) → more ≡ 0 → (o : Option ℕ) → o ≡ option_map (λ n. up_to limit n more) o
all-as_before limit more none (Some n) = ap Some (sym (none-more limit n more none))
all-as_before limit more none None = refl

pub counts-none : (s : SinkCounts) (more : BitOf → ℕ) → ((b : BitOf) → more b ≡ 0) → CountsMore s more s
counts-none s more none = record {
  limit = refl;
  grown = λ at. all-as_before s.limit (more (bit_of at)) (none (bit_of at)) (count_at s.counts.entries at);
}

twice : (limit a b all : ℕ) → all ≡ a + b → (o : Option ℕ) → option_map (λ n. up_to limit n b) (option_map (λ n. up_to limit n a) o) ≡ option_map (λ n. up_to limit n all) o
twice limit a b all is (Some n) = ap Some (omega (arith, is))
twice limit a b all is None = refl

pub counts-on : (old now new : SinkCounts) (f g all : BitOf → ℕ) → CountsMore old f now → CountsMore now g new → ((b : BitOf) → all b ≡ f b + g b) → CountsMore old all new
counts-on old now new f g all first then is = record {
  limit = then.limit ∙ first.limit;
  grown = λ at.
      then.grown at
      ∙ ap₂ (λ limit o. option_map (λ n. up_to limit n (g (bit_of at))) o) first.limit (first.grown at)
      ∙ twice old.limit (f (bit_of at)) (g (bit_of at)) (all (bit_of at)) (is (bit_of at)) (count_at old.counts.entries at);
}

pub counts-same : (old new : SinkCounts) (f g : BitOf → ℕ) → CountsMore old f new → ((b : BitOf) → f b ≡ g b) → CountsMore old g new
counts-same old new f g counts is = record {
  limit = counts.limit;
  grown = λ at. counts.grown at ∙ ap (λ more. option_map (λ n. up_to old.limit n more) (count_at old.counts.entries at)) (is (bit_of at));
}

pub counts-more : (old now new : SinkCounts) (js ks all : List Join) → CountsMore old (sinks_among js) now → CountsMore now (sinks_among ks) new → all ≡ js ++ ks → CountsMore old (sinks_among all) new
counts-more old now new js ks all first then is =
    counts-on old now new (sinks_among js) (sinks_among ks) (sinks_among all) first then
    (λ b. ap (λ (ls : List Join). sinks_among ls b) is ∙ among-append b js ks)

-- One sink more of a net bit.

module _ (limit : ℕ) (old : List (Key × ℕ)) (bit : Key) where
  pub one-counted : (n : ℕ) → count_at old bit ≡ Some n → n ≤ limit → (at : Key) (b : Bool) → b ≡ same_bit (bit_of bit) (bit_of at)
      → cond b (Some (n + 1)) (count_at old at) ≡ option_map (λ k. up_to limit k (cond b 1 0)) (count_at old at)
  one-counted n some few at true same =
      let here : count_at old at ≡ Some n = ap (count_at old) (sym (same-bit bit at (sym same))) ∙ some in
      let more : n + 1 ≡ up_to limit n 1 = omega (arith, few) in
      ap Some more ∙ ap (option_map (λ k. up_to limit k 1)) (sym here)
  one-counted n some few at false same = all-as_before limit 0 refl (count_at old at)
