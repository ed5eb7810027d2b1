-- What holds of splits. This project's own.
use Rattle.std.specs.Prelude.{◌≡◌, ◌<◌, min, false, List, filter, length, Some, IsSome, All, AllPairs}
use Rattle.emh_base.specs.declared.ids.ModId.{ModId}
use Rattle.emh_base.specs.declared.ids.NetId.{NetId}
use Rattle.emh_base.specs.declared.ids.InstId.{InstId}
use Rattle.emh_base.specs.declared.plain.Src.{Src}
use Rattle.emh_base.specs.declared.state.Fanout.{Fanout}
use Rattle.emh_base.specs.declared.state.State.{State}
use Rattle.emh_base.specs.declared.edit.Edit.{Edit}
use Rattle.emh_base.specs.declared.edit.Edit.TheVariants.{Connect}
use Rattle.emh_base.specs.declared.edit.Change.{Change}
use Rattle.edit_rules.specs.Good.{IsGoodState}
use Rattle.edit_rules.specs.Readers.{net_in, inst_in, conn_of}
use Rattle.watch_kit.specs.Passed.{all_passed, NoneRefused}
use Rattle.watch_kit.specs.NetBits.{BitOf}
use Rattle.watch_kit.specs.Sinks.{sinks}
use Rattle.watch_kit.specs.Split.{split}
use Rattle.watch_kit.specs.FanoutLimit.{same_bit, present_bits, is_over, splits, fanout_limit}

-- A net bit with more sinks than the limit allows has exactly that many after its split, where no
-- rule refuses an edit of it.
abbrev pub SplitsToLimit : Type 0
SplitsToLimit =
    (S : State) (m : ModId) (limit : Fanout) (b : BitOf)
    → IsGoodState S → S.settings.fanout ≡ Some limit
    → limit.max < length (sinks S.plain m b) → NoneRefused S (split S m limit b)
    → length (sinks (all_passed S (split S m limit b)).plain m b) ≡ limit.max

-- And the split moves no sink of another bit of a net that is there.
abbrev pub SplitsLeaveOthers : Type 0
SplitsLeaveOthers =
    (S : State) (m : ModId) (limit : Fanout) (b c : BitOf)
    → IsGoodState S → S.settings.fanout ≡ Some limit
    → NoneRefused S (split S m limit b) → IsSome (net_in S.plain m c.net) → same_bit b c ≡ false
    → sinks (all_passed S (split S m limit b)).plain m c ≡ sinks S.plain m c

-- where no rule refuses an edit of the list, each of the bits has as many sinks afterwards as
-- before, but no more than the limit allows
abbrev pub KeepsLimit : State → ModId → Fanout → List BitOf → List Edit → Type 0
KeepsLimit S m limit bits es =
    NoneRefused S es
    → All (λ b. length (sinks (all_passed S es).plain m b)
    ≡ min (length (sinks S.plain m b)) limit.max) bits

-- So the splits of those of some bits that have too many sinks keep the limit at all the bits.
abbrev pub AnswersKeepLimit : Type 0
AnswersKeepLimit =
    (S : State) (m : ModId) (limit : Fanout) (bits : List BitOf)
    → IsGoodState S → S.settings.fanout ≡ Some limit
    → All (λ (b : BitOf). IsSome (net_in S.plain m b.net)) bits
    → AllPairs (λ b c. same_bit b c ≡ false) bits
    → KeepsLimit S m limit bits (splits S m limit (filter (is_over S m limit) bits))

-- And the answer to a Connect keeps it at the bits of the port's present connection.
abbrev pub ConnectsKeepLimit : Type 0
ConnectsKeepLimit =
    (S : State) (c : Change) (m : ModId) (inst : InstId) (port : NetId) (bits : List Src)
    (limit : Fanout) → IsGoodState S → S.settings.fanout ≡ Some limit
    → c.edit ≡ Connect m inst port bits
    → KeepsLimit S m limit (present_bits (conn_of S.plain (inst_in S.plain m inst) port))
    (fanout_limit S c)
