-- The edits of splits, given part by part.
use Rattle.std.proofs.Common.{◌≡◌, ◌-◌, List, [], ◌∷◌, ◌++◌, map, Result, Ok, Err, refl, sym, ap, ◌∙◌, subst, append_assoc, append-nil}
use Rattle.emh_base.specs.declared.ids.ModId.{ModId}
use Rattle.emh_base.specs.declared.state.Fanout.{Fanout}
use Rattle.emh_base.specs.declared.state.State.{State}
use Rattle.emh_base.specs.declared.edit.Edit.{Edit}
use Rattle.desk.specs.Desk.{DeskView}
use Rattle.emh_session.specs.declared.answers.Halt.{Halt}
use Rattle.emh_session.specs.declared.answers.Halt.TheVariants.{NoMemory}
use Rattle.emh_session.specs.Observing.{AnswersChange}
use Rattle.emh_session.proofs.Giving.{gives-none, gives-then, gives-halt, gives-lack}
use Rattle.watch_kit.specs.declared.net_bits.BitOf.{BitOf as Key}
use Rattle.watch_kit.specs.Passed.{passed, all_passed}
use Rattle.watch_kit.specs.NetBits.{BitOf}
use Rattle.watch_kit.specs.Sinks.{joins}
use Rattle.watch_kit.specs.Split.{connect_to, made_net, moves, new_net, split}
use Rattle.watch_kit.specs.FanoutLimit.{splits}
use Rattle.watch_kit.specs.inside.Keys.{bit_of}
use Rattle.watch_kit.specs.inside.Splitting.{buffer_on, buffer_edits}
use Rattle.watch_kit.proofs.Passing.{answers-pass}

-- One split: the net, the buffer, the sinks that move.

module _ (m : ModId) (limit : Fanout) (bit : Key) (old at : DeskView) (net : Edit) (is_net : net ≡ new_net old.state m) where
  S : State
  S = old.state

  abbrev with_buffer : State → List Edit
  with_buffer T = buffer_edits T m (buffer_on old.state m limit.cell bit)

  abbrev last_part : List Edit
  last_part = map (connect_to m) (moves (bit_of bit) (made_net old.state m) (limit.max - 1) (joins old.state.plain m))

  abbrev net_part : Result (Unit {0}) Halt → Type 0
  net_part result = AnswersChange (net ∷ []) old result at

  as-net : (result : Result (Unit {0}) Halt) → net_part result → AnswersChange (new_net old.state m ∷ []) old result at
  as-net result = subst (λ (e : Edit). AnswersChange (e ∷ []) old result at) is_net

  abbrev middle : List Edit
  middle = with_buffer (passed old.state (new_net old.state m))

  pub split-halts : (halt : Halt) → net_part (Err halt) → AnswersChange (split old.state m limit (bit_of bit)) old (Err halt) at
  split-halts halt answers = gives-halt (new_net old.state m ∷ []) (middle ++ last_part) old at halt (as-net (Err halt) answers)

  module _ (done : net_part (Ok tt)) where
    pub split-lacks : AnswersChange (split old.state m limit (bit_of bit)) old (Err NoMemory) at
    split-lacks = gives-lack (new_net old.state m ∷ []) (middle ++ last_part) old at (as-net (Ok tt) done)

    as-middle : (made : List Edit) → made ≡ with_buffer at.state → made ≡ middle
    as-middle made is = is ∙ ap with_buffer (answers-pass (new_net old.state m ∷ []) old at (as-net (Ok tt) done))

    module _ (made : List Edit) (is_made : made ≡ with_buffer at.state) (then : DeskView) where
      given-middle : (result : Result (Unit {0}) Halt) → AnswersChange made at result then → AnswersChange middle at result then
      given-middle result = subst (λ (es : List Edit). AnswersChange es at result then) (as-middle made is_made)

      pub buffer-halts : (halt : Halt) → AnswersChange made at (Err halt) then → AnswersChange (split old.state m limit (bit_of bit)) old (Err halt) then
      buffer-halts halt answers =
          gives-then (new_net old.state m ∷ []) (middle ++ last_part) old at then (Err halt) (as-net (Ok tt) done)
          (gives-halt middle last_part at then halt (given-middle (Err halt) answers))

      pub split-given : AnswersChange made at (Ok tt) then → (moved : List Edit) → moved ≡ last_part → (new : DeskView) (result : Result (Unit {0}) Halt) → AnswersChange moved then result new
          → AnswersChange (split old.state m limit (bit_of bit)) old result new
      split-given answers moved is new result last =
          gives-then (new_net old.state m ∷ []) (middle ++ last_part) old at new result (as-net (Ok tt) done)
          (gives-then middle last_part at then new result (given-middle (Ok tt) answers) (subst (λ (es : List Edit). AnswersChange es then result new) is last))

-- Splits so far: their edits are given, and those of the net bits that are left are to come, in the
-- state that stands then.
pub record Given (m : ModId) (limit : Fanout) (bits left : List BitOf) (old now : DeskView) : Type 0 where
  pub done : List Edit
  pub answers : AnswersChange done old (Ok tt) now
  pub all : splits old.state m limit bits ≡ done ++ splits now.state m limit left

pub given-none : (m : ModId) (limit : Fanout) (bits : List BitOf) (old : DeskView) → Given m limit bits bits old old
given-none m limit bits old = record { done = []; answers = gives-none old; all = refl }

module _ (m : ModId) (limit : Fanout) (bits left rest : List BitOf) (b : BitOf) (next : left ≡ b ∷ rest) (old now new : DeskView) (given : Given m limit bits left old now) where
  abbrev this : List Edit
  this = split now.state m limit b

  abbrev others : List Edit
  others = splits (all_passed now.state this) m limit rest

  in-parts : splits old.state m limit bits ≡ (given.done ++ this) ++ others
  in-parts =
      given.all ∙ ap (λ bs. given.done ++ splits now.state m limit bs) next
      ∙ sym (append_assoc given.done this others)

  pub given-more : AnswersChange this now (Ok tt) new → Given m limit bits rest old new
  given-more answers = record {
    done = given.done ++ this;
    answers = gives-then given.done this old now new (Ok tt) given.answers answers;
    all = in-parts ∙ ap (λ (T : State). (given.done ++ this) ++ splits T m limit rest) (sym (answers-pass this now new answers));
  }

  pub given-halt : (halt : Halt) → AnswersChange this now (Err halt) new → AnswersChange (splits old.state m limit bits) old (Err halt) new
  given-halt halt answers =
      subst (λ (es : List Edit). AnswersChange es old (Err halt) new) (sym in-parts)
      (gives-halt (given.done ++ this) others old new halt (gives-then given.done this old now new (Err halt) given.answers answers))

pub given-all : (m : ModId) (limit : Fanout) (bits : List BitOf) (old now : DeskView) → Given m limit bits [] old now → AnswersChange (splits old.state m limit bits) old (Ok tt) now
given-all m limit bits old now given =
    subst (λ (es : List Edit). AnswersChange es old (Ok tt) now) (sym (given.all ∙ append-nil given.done)) given.answers
