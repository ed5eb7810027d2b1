-- The bits that a word of a connection says.
use Rattle.std.proofs.Common.{◌≡◌, refl, sym, ◌∙◌, ap, ℕ, ◌+◌, ◌-◌, ◌≤◌, List, [], ◌∷◌, ◌++◌, map, append_assoc, Option, Some, None, Ok, arith}
use Rattle.std.specs.List.{range_with_len}
use Rattle.std.proofs.lemmas.List.FromFn.{map-range_with_len_more}
use Rattle.emh_base.specs.declared.ids.ModId.{ModId}
use Rattle.emh_base.specs.declared.ids.NetId.{NetId}
use Rattle.emh_base.specs.declared.plain.Range.{Range}
use Rattle.emh_base.specs.declared.plain.Src.{Src}
use Rattle.emh_base.specs.declared.plain.Src.TheVariants.{Bit}
use Rattle.emh_base.specs.declared.rule.Rule.TheVariants.{BitOutOfRange}
use Rattle.emh_base.specs.declared.state.State.{State}
use Rattle.script_read.specs.declared.command.BitWord.TheVariants.{Net}
use Rattle.script_read.specs.Resolve.{on, at_word, a_net, a_source, net_bits}
use Rattle.script_read.specs.inside.Runs.{run_in, with_run}

abbrev pub bit : NetId → ℕ → Src
bit net offset = Bit net offset

-- one bit more
pub run_more : (before found : List Src) (net : NetId) (from offset : ℕ) → from ≤ offset
    → found ≡ before ++ map (bit net) (range_with_len from (offset - from))
    → found ++ bit net offset ∷ [] ≡ before ++ map (bit net) (range_with_len from (offset + 1 - from))
run_more before found net from offset low is =
    let one : offset + 1 - from ≡ (offset - from) + 1 = omega (arith, low) in
    let more = map-range_with_len_more (bit net) from (offset - from) offset (omega (arith, low)) in
    ap (λ front. front ++ bit net offset ∷ []) is
    ∙ append_assoc before (map (bit net) (range_with_len from (offset - from))) (bit net offset ∷ [])
    ∙ ap (λ rest. before ++ rest) (sym more)
    ∙ ap (λ n. before ++ map (bit net) (range_with_len from n)) (sym one)

by_run : (place : ℕ) (net : NetId) (before : List Src) (run : Option (ℕ × ℕ))
    → on (on (at_word BitOutOfRange place run) (λ found. Ok (net_bits net found))) (λ bits. Ok (before ++ bits))
    ≡ with_run place net before run
by_run place net before None = refl
by_run place net before (Some run) = refl

-- the bits of a net's word, once the net is found
pub by_net : (S : State) (m : ModId) (place : ℕ) (name : List ℕ) (select : Option Range) (net : NetId) (before : List Src)
    → a_net S m place name ≡ Ok net
    → on (a_source S m place (Net name select)) (λ bits. Ok (before ++ bits))
    ≡ with_run place net before (run_in S m net select)
by_net S m place name select net before found =
    ap (λ looked. on (on looked (λ net. on (at_word BitOutOfRange place (run_in S m net select)) (λ run. Ok (net_bits net run))))
    (λ bits. Ok (before ++ bits))) found
    ∙ by_run place net before (run_in S m net select)
