-- Numbers of sinks, by net bits.
use Rattle.std.specs.Prelude.{◌≡◌, ℕ, ◌+◌, ◌-◌, min, List, [], ◌∷◌, ◌++◌, length, Some, None, option_map, flat_map, if◌then◌else◌}
use Rattle.std.specs.List.{list_any}
use Rattle.emh_base.specs.declared.plain.PInst.{PInst}
use Rattle.emh_base.specs.declared.plain.Plain.{Plain}
use Rattle.flatten_rules.specs.Lookup.{module_of}
use Rattle.flatten_rules.specs.Domains.{ports_of}
use Rattle.watch_kit.specs.declared.net_bits.BitOf.{BitOf as Key}
use Rattle.watch_kit.specs.declared.sink_counts.SinkCounts.{SinkCounts}
use Rattle.watch_kit.specs.NetBits.{BitOf}
use Rattle.watch_kit.specs.FanoutLimit.{same_bit}
use Rattle.watch_kit.specs.Sinks.{Join, sinks_at}
use Rattle.watch_kit.specs.inside.Keys.{bit_of, count_at}

-- net bits with one more, unless it is among them
abbrev pub noted : List BitOf → BitOf → List BitOf
noted bits b = bits ++ (if list_any (λ other. same_bit other b) bits then [] else b ∷ [])

-- the sinks of these net bits are counted, and none yet
abbrev pub Begun : List BitOf → SinkCounts → Type 0
Begun bits s =
    (at : Key) → count_at s.counts.entries at
    ≡ (if list_any (λ b. same_bit b (bit_of at)) bits then Some 0 else None)

-- a number and some more, but at most one above a limit
abbrev pub up_to : ℕ → ℕ → ℕ → ℕ
up_to limit n more = n + min ((limit + 1) - n) more

-- sinks of each net bit are counted
pub record CountsMore (old : SinkCounts) (more : BitOf → ℕ) (new : SinkCounts) : Type 0 where
  pub limit : new.limit ≡ old.limit
  pub grown :
      (at : Key) → count_at new.counts.entries at
      ≡ option_map (λ n. up_to old.limit n (more (bit_of at))) (count_at old.counts.entries at)

-- the number of a net bit's sinks among connections
abbrev pub sinks_among : List Join → BitOf → ℕ
sinks_among js b = length (flat_map (sinks_at b) js)

-- an instance has a connection for each port of its master
abbrev pub FitsMaster : Plain → PInst → Type 0
FitsMaster M inst = length inst.conns ≡ length (ports_of (module_of M inst.master))
