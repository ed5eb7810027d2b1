-- The observers are told of all entries.
use Rattle.std.proofs.Common.{◌≡◌, ℕ, suc, ◌+◌, ◌-◌, ◌<◌, ◌≤◌, Bool, List, length, Option, Some, Ok, Err, refl, sym, ap, subst, ◌∙◌, arith}
use Rattle.std.specs.List.{slice_get}
use Rattle.emh_base.specs.declared.edit.Change.{Change}
use Rattle.session_rules.specs.Take.{Wants, Going, Spent}
use Rattle.session_rules.specs.React.{tell_from, tell_entry, tell}
use Rattle.session_rules.proofs.Telling.{tell-none, tell-spent}
use Rattle.desk.specs.Desk.{DeskView, room_of}
use Rattle.emh_session.specs.declared.answers.Halt.{Halt}
use Rattle.emh_session.specs.declared.answers.Halt.TheVariants.{BudgetSpent, NoMemory}
use Rattle.emh_session.specs.Observing.{course_of}
use Rattle.emh_session.specs.inside.Telling.{IsSameCommand, TellsEntry, TellsAll}
use Rattle.emh_session.proofs.Told.{same-trans}

-- the entries below the k-th have been told
pub record ToldEntries (ws : List Wants) (marks : List Bool) (k : ℕ) (old now : DeskView) : Type 0 where
  pub course :
      tell (room_of old) ws marks (room_of old - k) k (course_of now)
      ≡ tell (room_of old) ws marks (room_of old) 0 (course_of old)
  pub same : IsSameCommand old now

pub entries-none : (ws : List Wants) (marks : List Bool) (d : DeskView) → ToldEntries ws marks 0 d d
entries-none ws marks d =
    let whole : room_of d - 0 ≡ room_of d = omega arith in
    record { course = ap (λ n. tell (room_of d) ws marks n 0 (course_of d)) whole; same = refl }

pub same-room : (old now : DeskView) → IsSameCommand old now → room_of now ≡ room_of old
same-room old now same = ap room_of same

module _ (ws : List Wants) (marks : List Bool) (k : ℕ) (old now : DeskView) (below : ToldEntries ws marks k old now) (less : k < room_of old) where
  -- what is left to tell, where the next entry is told
  after : (c : Change) → slice_get now.journal k ≡ Some c
      → tell (room_of old) ws marks (room_of old - (k + 1)) (k + 1) (tell_from (room_of old) 0 c ws marks (course_of now))
      ≡ tell (room_of old) ws marks (room_of old) 0 (course_of old)
  after c there =
      let one : room_of old - k ≡ suc (room_of old - (k + 1)) = omega arith in
      ap (λ (o : Option Change). tell (room_of old) ws marks (room_of old - (k + 1)) (k + 1) (tell_entry (room_of old) ws marks o (course_of now))) (sym there)
      ∙ sym (ap (λ n. tell (room_of old) ws marks n k (course_of now)) one)
      ∙ below.course

  pub entries-next : (new : DeskView) → TellsEntry ws marks k now (Ok tt) new → ToldEntries ws marks (k + 1) old new
  entries-next new tells =
      let F : ℕ → Type 0 = λ n. tell_from n 0 tells.change ws marks (course_of now) ≡ Going new.state new.journal in
      let told : F (room_of old) = subst F (same-room old now below.same) tells.follows in
      record {
        course = ap (tell (room_of old) ws marks (room_of old - (k + 1)) (k + 1)) (sym told) ∙ after tells.change tells.there;
        same = same-trans old now new below.same tells.same;
      }

  pub entries-halt : (halt : Halt) (new : DeskView) → TellsEntry ws marks k now (Err halt) new → TellsAll ws marks old (Err halt) new
  entries-halt BudgetSpent new tells =
      let F : ℕ → Type 0 = λ n. tell_from n 0 tells.change ws marks (course_of now) ≡ Spent new.state new.journal in
      let told : F (room_of old) = subst F (same-room old now below.same) tells.follows in
      record {
        follows = sym (after tells.change tells.there)
            ∙ ap (tell (room_of old) ws marks (room_of old - (k + 1)) (k + 1)) told
            ∙ tell-spent (room_of old) ws marks (room_of old - (k + 1)) (k + 1) new.state new.journal;
        same = same-trans old now new below.same tells.same;
      }
  entries-halt NoMemory new tells = record { follows = tt; same = same-trans old now new below.same tells.same }

pub within-room : (old now : DeskView) (k n : ℕ) → IsSameCommand old now → k < n → n ≤ room_of now → k < room_of old
within-room old now k n same less most = let rooms : room_of now ≡ room_of old = same-room old now same in omega arith

pub entries-all : (ws : List Wants) (marks : List Bool) (k : ℕ) (old now : DeskView) → ToldEntries ws marks k old now → length now.journal ≤ k → TellsAll ws marks old (Ok tt) now
entries-all ws marks k old now below past = record {
  follows = sym below.course ∙ tell-none (room_of old) ws marks (room_of old - k) k now.state now.journal past;
  same = below.same;
}
