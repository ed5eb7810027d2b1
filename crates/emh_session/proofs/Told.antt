-- The observers are told of one entry.
use Rattle.std.proofs.Common.{◌≡◌, ℕ, ◌+◌, ◌<◌, Bool, true, false, List, [], ◌∷◌, length, drop, Some, Result, Ok, Err, refl, sym, ap, ap₂, subst, ◌∙◌}
use Rattle.std.specs.List.{slice_get}
use Rattle.emh_base.specs.declared.edit.By.{By}
use Rattle.emh_base.specs.declared.edit.By.TheVariants.{Watch}
use Rattle.emh_base.specs.declared.edit.Change.{Change}
use Rattle.session_rules.specs.Take.{Wants, Course, Spent}
use Rattle.session_rules.specs.React.{tell_one, tell_from}
use Rattle.desk.specs.Desk.{DeskView, room_of}
use Rattle.emh_session.specs.declared.answers.Halt.{Halt}
use Rattle.emh_session.specs.declared.answers.Halt.TheVariants.{BudgetSpent, NoMemory}
use Rattle.emh_session.specs.Observing.{course_of, ElseStays, AnswersChange, AnswersEntry}
use Rattle.emh_session.specs.inside.Telling.{Follows, IsSameCommand, TellsOne, TellsEntry}
use Rattle.emh_session.proofs.Growing.{begins-told, entry-there, entry-kept}

pub same-trans : (old now new : DeskView) → IsSameCommand old now → IsSameCommand now new → IsSameCommand old new
same-trans old now new first second =
    second ∙ ap (λ (d : DeskView). record d { state = new.state; journal = new.journal; speaker = new.speaker }) first

-- One observer.

pub not-told : (w : Wants) (enabled : Bool) (who entry : ℕ) (d : DeskView) → enabled ≡ false → entry < length d.journal → TellsOne w enabled who entry d (Ok tt) d
not-told w false who entry d off less =
    let at = entry-there d.journal entry less in
    record { change = at.0; there = at.1; follows = refl; same = refl }
not-told w true who entry d off less = absurd (cc)

spoken-same : (old new : DeskView) (by : By) → ElseStays (record old { speaker = by }) new → IsSameCommand old new
spoken-same old new by stays =
    let same : new.speaker ≡ by = ap (λ (d : DeskView). d.speaker) stays in
    stays ∙ ap (λ s. record old { state = new.state; journal = new.journal; speaker = s }) (sym same)

told-change : (w : Wants) (who : ℕ) (old new : DeskView) (c : Change) (result : Result (Unit {0}) Halt) → AnswersChange (w old.state c) (record old { speaker = Watch who }) result new
    → Follows (tell_one (room_of old) who c w true (course_of old)) result new × IsSameCommand old new
told-change w who old new c (Ok done) answers = (answers.0, spoken-same old new (Watch who) answers.1)
told-change w who old new c (Err BudgetSpent) answers = (answers.0, spoken-same old new (Watch who) answers.1)
told-change w who old new c (Err NoMemory) answers = (tt, spoken-same old new (Watch who) answers.4)

pub told : (w : Wants) (enabled : Bool) (who entry : ℕ) (old spoken new : DeskView) (result : Result (Unit {0}) Halt) → enabled ≡ true → entry < length old.journal
    → spoken ≡ record old { speaker = Watch who } → AnswersEntry w entry spoken result new → TellsOne w enabled who entry old result new
told w false who entry old spoken new result on less speaks answers = absurd (cc)
told w true who entry old spoken new result on less speaks answers =
    let at = entry-there old.journal entry less in
    let Answers : DeskView → Type 0 = λ d. AnswersEntry w entry d result new in
    let of_old = subst Answers speaks answers in
    let made = told-change w who old new at.0 result (of_old.at at.0 at.1) in
    record { change = at.0; there = at.1; follows = made.0; same = made.1 }

-- All of them: those below i have been told.

pub record ToldBelow (ws : List Wants) (marks : List Bool) (entry i : ℕ) (old now : DeskView) : Type 0 where
  pub change : Change
  pub before : slice_get old.journal entry ≡ Some change
  pub there : slice_get now.journal entry ≡ Some change
  pub course :
      tell_from (room_of old) i change (drop i ws) (drop i marks) (course_of now)
      ≡ tell_from (room_of old) 0 change ws marks (course_of old)
  pub same : IsSameCommand old now

pub told-none : (ws : List Wants) (marks : List Bool) (entry : ℕ) (d : DeskView) → entry < length d.journal → ToldBelow ws marks entry 0 d d
told-none ws marks entry d less =
    let at = entry-there d.journal entry less in
    record { change = at.0; before = at.1; there = at.1; course = refl; same = refl }

module _ (ws : List Wants) (marks : List Bool) (entry i : ℕ) (old now : DeskView) (below : ToldBelow ws marks entry i old now) (w : Wants) (mark : Bool)
    (here : drop i ws ≡ w ∷ drop (i + 1) ws) (marked : drop i marks ≡ mark ∷ drop (i + 1) marks) where
  same-room : room_of now ≡ room_of old
  same-room = ap room_of below.same

  -- what is left to tell, where the next is told
  next : tell_from (room_of old) (i + 1) below.change (drop (i + 1) ws) (drop (i + 1) marks) (tell_one (room_of old) i below.change w mark (course_of now))
      ≡ tell_from (room_of old) 0 below.change ws marks (course_of old)
  next =
      sym (ap₂ (λ (us : List Wants) (bs : List Bool). tell_from (room_of old) i below.change us bs (course_of now)) here marked)
      ∙ below.course

  module _ (result : Result (Unit {0}) Halt) (new : DeskView) (tells : TellsOne w mark i entry now result new) where
    told-it : Follows (tell_one (room_of old) i below.change w mark (course_of now)) result new
    told-it =
        let same : tells.change ≡ below.change = let at : Some tells.change ≡ Some below.change = sym tells.there ∙ below.there in cc in
        let F : ℕ → Type 0 = λ n. Follows (tell_one n i tells.change w mark (course_of now)) result new in
        let G : Change → Type 0 = λ c. Follows (tell_one (room_of old) i c w mark (course_of now)) result new in
        subst G same (subst F same-room tells.follows)

    whole : IsSameCommand old new
    whole = same-trans old now new below.same tells.same

  left : Course → Course
  left at = tell_from (room_of old) (i + 1) below.change (drop (i + 1) ws) (drop (i + 1) marks) at

  pub told-next : (new : DeskView) → TellsOne w mark i entry now (Ok tt) new → ToldBelow ws marks entry (i + 1) old new
  unfolding left
  told-next new tells = record {
    change = below.change;
    before = below.before;
    there = entry-kept now.journal (tell_one (room_of old) i below.change w mark (course_of now)) new.state new.journal entry below.change
        (begins-told (room_of old) i below.change w mark now.state now.journal) (told-it (Ok tt) new tells) below.there;
    course = ap left (sym (told-it (Ok tt) new tells)) ∙ next;
    same = whole (Ok tt) new tells;
  }

tell-spent_from : (room i : ℕ) (c : Change) (ws : List Wants) (marks : List Bool) (d : DeskView)
    → tell_from room i c ws marks (Spent d.state d.journal) ≡ Spent d.state d.journal
tell-spent_from room i c [] marks d = refl
tell-spent_from room i c (w ∷ ws) [] d = refl
tell-spent_from room i c (w ∷ ws) (false ∷ marks) d = tell-spent_from room (i + 1) c ws marks d
tell-spent_from room i c (w ∷ ws) (true ∷ marks) d = tell-spent_from room (i + 1) c ws marks d

pub told-halt : (ws : List Wants) (marks : List Bool) (entry i : ℕ) (old now : DeskView) → ToldBelow ws marks entry i old now → (w : Wants) (mark : Bool)
    → drop i ws ≡ w ∷ drop (i + 1) ws → drop i marks ≡ mark ∷ drop (i + 1) marks → (halt : Halt) (new : DeskView)
    → TellsOne w mark i entry now (Err halt) new → TellsEntry ws marks entry old (Err halt) new
told-halt ws marks entry i old now below w mark here marked BudgetSpent new tells = record {
  change = below.change;
  there = below.before;
  follows = sym (next ws marks entry i old now below w mark here marked)
      ∙ ap (λ at. tell_from (room_of old) (i + 1) below.change (drop (i + 1) ws) (drop (i + 1) marks) at)
      (told-it ws marks entry i old now below w mark here marked (Err BudgetSpent) new tells)
      ∙ tell-spent_from (room_of old) (i + 1) below.change (drop (i + 1) ws) (drop (i + 1) marks) new;
  same = same-trans old now new below.same tells.same;
}
told-halt ws marks entry i old now below w mark here marked NoMemory new tells = record {
  change = below.change;
  there = below.before;
  follows = tt;
  same = same-trans old now new below.same tells.same;
}

pub told-all : (ws : List Wants) (marks : List Bool) (entry i : ℕ) (old now : DeskView) → ToldBelow ws marks entry i old now → drop i ws ≡ [] → TellsEntry ws marks entry old (Ok tt) now
told-all ws marks entry i old now below end = record {
  change = below.change;
  there = below.before;
  follows = sym below.course
      ∙ ap (λ (us : List Wants). tell_from (room_of old) i below.change us (drop i marks) (course_of now)) end;
  same = below.same;
}
