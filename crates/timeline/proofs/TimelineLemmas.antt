-- How each change of a history changes the timeline, and keeps the history in order.
use Rattle.std.proofs.Common.{◌≡◌, ℕ, suc, ◌+◌, ◌-◌, ◌^◌, ◌<◌, ◌≤◌, Bool, true, false, cond, List, [], ◌∷◌, ◌++◌, length, Option, None, refl, sym, ap, subst, ◌∙◌, arith, length-append, length-drop, drop, map as mapped, vec_capacity}
use Rattle.std.specs.VecDeque.{deque_capacity}
use Rattle.std.specs.List.{AllByRecursion}
use Rattle.std.specs.Ordering.{eq_by_cmp}
use Rattle.std.specs.FinMap.{FinMap, get}
use Rattle.std.specs.declared.cmp.Ordering.{Ordering}
use Rattle.timeline.specs.Maps.{IsKeyOrder, put, one_at}
use Rattle.timeline.specs.Timeline.{Moment, Timeline, Moves}
use Rattle.timeline.specs.Steps.{Trail, start_at, walk_back, moments_of, undo_swaps, swaps_of, steps_of, marks_in}
use Rattle.timeline.specs.History.{marks, timeline_of, IsKept, IsFresh}
use Rattle.timeline.specs.declared.history.History.{History}
use Rattle.timeline.specs.declared.steps.Swap.{Swap}
use Rattle.timeline.specs.declared.steps.Step.{Step}
use Rattle.timeline.specs.declared.steps.Step.TheVariants.{Mark, Write}
use Rattle.timeline.proofs.MapLemmas.{put_back, get-put_other, tied_flip}
use Rattle.timeline.proofs.StepLemmas.{undo_swaps-push, swaps_of-push, moments-seal, steps_of-append, steps_of-writes, BeginsWithMark-mark, length-moments}

pub same_timeline : {X : Type 0} (a b : Timeline X) → a.now ≡ b.now → a.past ≡ b.past → a.future ≡ b.future → a.is_open ≡ b.is_open → a.base ≡ b.base → a.writes ≡ b.writes → a.spare_rows ≡ b.spare_rows → a.spare_writes ≡ b.spare_writes → a ≡ b
same_timeline a b p1 p2 p3 p4 p5 p6 p7 p8 = λ i. record { now = p1 i; past = p2 i; future = p3 i; is_open = p4 i; base = p5 i; writes = p6 i; spare_rows = p7 i; spare_writes = p8 i }

-- the one list is shorter by one and the other longer
pub Moves-lengths : {X : Type 0} (from to : List (Moment X)) (now : X) (from' to' : List (Moment X)) (now' : X) → Moves from to now from' to' now' → (length from ≡ length from' + 1) × (length to' ≡ length to + 1)
Moves-lengths from to now from' to' now' t = (ap length t.1 ∙ omega (arith, length-append from' (record { value = now'; writes = t.0 } ∷ [])), ap length t.2 ∙ omega (arith, length-append to (record { value = now; writes = t.0 } ∷ [])))

module _ {K V : Type 0} where
  pub marks_in_le : (steps : List (Step K V)) → marks_in steps ≤ length steps
  marks_in_le [] = omega arith
  marks_in_le (Mark ∷ steps) = omega (arith, marks_in_le steps)
  marks_in_le (Write e ∷ steps) = omega (arith, marks_in_le steps)

  marks_in-append : (xs ys : List (Step K V)) → marks_in (xs ++ ys) ≡ marks_in xs + marks_in ys
  marks_in-append [] ys = omega arith
  marks_in-append (Mark ∷ xs) ys = omega (arith, marks_in-append xs ys)
  marks_in-append (Write e ∷ xs) ys = marks_in-append xs ys

  marks_in-writes : (swaps : List (Swap K V)) → marks_in (mapped Write swaps) ≡ 0
  marks_in-writes [] = refl
  marks_in-writes (e ∷ swaps) = marks_in-writes swaps

  length_writes : (swaps : List (Swap K V)) → length (mapped Write swaps) ≡ length swaps
  length_writes [] = refl
  length_writes (e ∷ swaps) = ap suc (length_writes swaps)

one_at_le : {K : Type 0} (R : K → K → Ordering) (a b : K) → one_at R a b ≤ 1
one_at_le R a b = by (eq_by_cmp R a b)
  where
    by : (b : Bool) → cond b 1 0 ≤ 1
    by true = omega arith
    by false = omega arith

module _ {K V : Type 0} (R : K → K → Ordering) where
  steps_of_le : (k : K) (steps : List (Step K V)) → steps_of R k steps ≤ length steps
  steps_of_le k [] = omega arith
  steps_of_le k (Mark ∷ steps) = omega (arith, steps_of_le k steps)
  steps_of_le k (Write e ∷ steps) = omega (arith, steps_of_le k steps, one_at_le R e.key k)

  swaps_of_le : (k : K) (swaps : List (Swap K V)) → swaps_of R k swaps ≤ length swaps
  swaps_of_le k [] = omega arith
  swaps_of_le k (e ∷ swaps) = omega (arith, swaps_of_le k swaps, one_at_le R e.key k)

  -- there is room for one more mention
  pub few_mentions : (mentions : K → ℕ) (j : History K V) (k : K) → IsKept R mentions j → 0 < j.spare_writes → mentions k + 1 < 2 ^ 64
  few_mentions mentions j k kept some =
      omega (arith, kept.counts k, kept.small, steps_of_le k j.past.items, steps_of_le k j.future.items, swaps_of_le k j.swaps.items)

  -- a write in the open record
  pub IsKept-note : (before after : K → ℕ) (j j' : History K V) (swap : Swap K V)
      → IsKept R before j → 0 < j.spare_writes → j.is_open ≡ true
      → ((k : K) → after k ≡ before k + one_at R swap.key k)
      → j' ≡ record j { swaps = j'.swaps; spare_writes = j.spare_writes - 1 } → j'.swaps.items ≡ j.swaps.items ++ swap ∷ [] → vec_capacity j'.swaps ≡ vec_capacity j.swaps
      → IsKept R after j'
  IsKept-note before after j j' swap kept some opened more rest pushed same =
      let count : length j'.swaps.items ≡ length j.swaps.items + 1 = ap length pushed ∙ omega (arith, length-append j.swaps.items (swap ∷ [])) in
      let made : IsKept R after (record j { swaps = j'.swaps; spare_writes = j.spare_writes - 1 }) =
      record {
        counts = λ k. omega (arith, more k, kept.counts k, ap (swaps_of R k) pushed, swaps_of-push R k j.swaps.items swap);
        past_fits = omega (arith, kept.past_fits);
        future_fits = omega (arith, kept.future_fits);
        swaps_fit = omega (arith, kept.swaps_fit);
        small = omega (arith, kept.small);
        closed = λ e. absurd (cc);
        past_counted = kept.past_counted;
        future_counted = kept.future_counted;
        past_begins = kept.past_begins;
        future_begins = kept.future_begins;
      } in
      subst (IsKept R after) (sym rest) made

  pub IsKept-commit : (before after : K → ℕ) (j j' : History K V)
      → IsKept R before j → j.is_open ≡ true
      → j'.past.items ≡ j.past.items ++ Mark ∷ mapped Write j.swaps.items → j'.swaps.items ≡ [] → j'.future.items ≡ []
      → ((k : K) → after k + steps_of R k j.future.items ≡ before k)
      → deque_capacity j'.past ≡ deque_capacity j.past → vec_capacity j'.swaps ≡ vec_capacity j.swaps → deque_capacity j'.future ≡ deque_capacity j.future
      → j'.past_len ≡ j.past_len + 1 → j'.future_len ≡ 0 → j'.is_open ≡ false → j'.spare_writes ≡ j.spare_writes
      → IsKept R after j'
  IsKept-commit before after j j' kept opened sealed none dropped less sa sb sc counted uncounted is_closed spare =
      let long : length j'.past.items ≡ length j.past.items + 1 + length j.swaps.items = ap length sealed ∙ (omega (arith, length-append j.past.items (Mark ∷ mapped Write j.swaps.items), length_writes j.swaps.items)) in
      let no_swaps : length j'.swaps.items ≡ 0 = ap length none in
      let no_future : length j'.future.items ≡ 0 = ap length dropped in
      let one : marks j.is_open ≡ 1 = ap marks opened in
      let zero_marks : marks j'.is_open ≡ 0 = ap marks is_closed in
      record {
        counts = λ k. omega (arith, less k, kept.counts k, ap (steps_of R k) sealed, ap (swaps_of R k) none, ap (steps_of R k) dropped, steps_of-append R k j.past.items (Mark ∷ mapped Write j.swaps.items), steps_of-writes R k j.swaps.items);
        past_fits = omega (arith, kept.past_fits);
        future_fits = omega (arith, kept.future_fits);
        swaps_fit = omega (arith, kept.swaps_fit);
        small = omega (arith, kept.small);
        closed = λ e. none;
        past_counted = omega (arith, kept.past_counted, ap marks_in sealed, marks_in-append j.past.items (Mark ∷ mapped Write j.swaps.items), marks_in-writes j.swaps.items);
        future_counted = uncounted ∙ sym (ap marks_in dropped);
        past_begins = rw sealed (BeginsWithMark-mark j.past.items (mapped Write j.swaps.items) kept.past_begins);
        future_begins = rw dropped tt;
      }

  -- more room
  pub IsKept-room : (before after : K → ℕ) (j j' : History K V)
      → IsKept R before j → ((k : K) → after k ≡ before k)
      → j'.past.items ≡ j.past.items → j'.swaps.items ≡ j.swaps.items → j'.future.items ≡ j.future.items
      → j'.past_len ≡ j.past_len → j'.future_len ≡ j.future_len → j'.is_open ≡ j.is_open
      → length j.past.items + length j.swaps.items + length j.future.items + marks j.is_open + j'.spare_writes ≤ deque_capacity j'.past
      → length j.past.items + length j.swaps.items + length j.future.items + marks j.is_open + j'.spare_writes ≤ deque_capacity j'.future
      → length j.swaps.items + j'.spare_writes ≤ vec_capacity j'.swaps
      → length j.past.items + length j.swaps.items + length j.future.items + marks j.is_open + j'.spare_writes < 2 ^ 64
      → IsKept R after j'
  IsKept-room before after j j' kept same same_past same_swaps same_future sp sf so pa pc pb small =
      record {
        counts = λ k. rw (same_past, same_swaps, same_future) (same k ∙ kept.counts k);
        past_fits = omega (arith, pa, ap length same_past, ap length same_swaps, ap length same_future, ap marks so);
        future_fits = omega (arith, pc, ap length same_past, ap length same_swaps, ap length same_future, ap marks so);
        swaps_fit = omega (arith, pb, ap length same_swaps);
        small = omega (arith, small, ap length same_past, ap length same_swaps, ap length same_future, ap marks so);
        closed = λ e. same_swaps ∙ kept.closed (sym so ∙ e);
        past_counted = sp ∙ kept.past_counted ∙ ap marks_in (sym same_past);
        future_counted = sf ∙ kept.future_counted ∙ ap marks_in (sym same_future);
        past_begins = rw same_past kept.past_begins;
        future_begins = rw same_future kept.future_begins;
      }

module _ {K V : Type 0} {R : K → K → Ordering} where
  pub timeline-commit : (live live' : FinMap R V) (room room' : ℕ) (j j' : History K V)
      → j'.past.items ≡ j.past.items ++ Mark ∷ mapped Write j.swaps.items → j'.swaps.items ≡ [] → j'.future.items ≡ [] → live' ≡ live → j'.is_open ≡ false → j'.spare_writes ≡ j.spare_writes
      → timeline_of live' room' j' ≡ record (timeline_of live room j) { past = (timeline_of live room j).past ++ record { value = (timeline_of live room j).base; writes = length j.swaps.items } ∷ []; future = []; is_open = false; base = live; writes = 0; spare_rows = room' }
  timeline-commit live live' room room' j j' sealed none dropped same is_closed spare =
      let base : undo_swaps j'.swaps.items live' ≡ live = ap (λ es. undo_swaps es live') none ∙ same in
      same_timeline _ _ same
      (ap (moments_of j'.past.items) base ∙ ap (λ p. moments_of p live) sealed ∙ moments-seal j.past.items j.swaps.items live)
      (ap (λ f. moments_of f (undo_swaps j'.swaps.items live')) dropped)
      is_closed base (ap length none) refl spare

  -- more room
  pub timeline-room : (live live' : FinMap R V) (room room' : ℕ) (j j' : History K V)
      → live' ≡ live → j'.past.items ≡ j.past.items → j'.swaps.items ≡ j.swaps.items → j'.future.items ≡ j.future.items → j'.is_open ≡ j.is_open
      → timeline_of live' room' j' ≡ record (timeline_of live room j) { spare_rows = room'; spare_writes = j'.spare_writes }
  timeline-room live live' room room' j j' same same_past same_swaps same_future so =
      rw (same, same_past, same_swaps, same_future, so) refl

  -- where no swaps are open, the exchange of the steps is that of the moments
  pub moments_at : (swaps : List (Swap K V)) (from from' to to' : List (Step K V)) (m m' : FinMap R V) → swaps ≡ [] → Moves (moments_of from m) (moments_of to m) m (moments_of from' m') (moments_of to' m') m'
      → Moves (moments_of from (undo_swaps swaps m)) (moments_of to (undo_swaps swaps m)) m (moments_of from' (undo_swaps swaps m')) (moments_of to' (undo_swaps swaps m')) m'
  moments_at swaps from from' to to' m m' none x = rw none x

  -- the counts go with them
  pub marks-turned : (from to from' to' : List (Step K V)) (m m' : FinMap R V) → Moves (moments_of from m) (moments_of to m) m (moments_of from' m') (moments_of to' m') m' → (marks_in from ≡ marks_in from' + 1) × (marks_in to' ≡ marks_in to + 1)
  marks-turned from to from' to' m m' t =
      let lengths = Moves-lengths _ _ m _ _ m' t in
      (omega (arith, lengths.0, length-moments from m, length-moments from' m'), omega (arith, lengths.1, length-moments to m, length-moments to' m'))

  -- and where the first is forgotten
  pub marks-forgotten : (steps steps' : List (Step K V)) (m : FinMap R V) → moments_of steps' m ≡ drop 1 (moments_of steps m) → marks_in steps' ≡ marks_in steps - 1
  marks-forgotten steps steps' m is = omega (arith, ap length is, length-drop 1 (moments_of steps m), length-moments steps m, length-moments steps' m)

module _ {K V : Type 0} {R : K → K → Ordering} (o : IsKeyOrder R) where
  pub timeline-note : (live live' : FinMap R V) (room room' : ℕ) (j j' : History K V) (swap : Swap K V) (v : Option V)
      → swap.value ≡ get live swap.key → live' ≡ put live swap.key v
      → j' ≡ record j { swaps = j'.swaps; spare_writes = j.spare_writes - 1 } → j'.swaps.items ≡ j.swaps.items ++ swap ∷ []
      → timeline_of live' room' j' ≡ record (timeline_of live room j) { now = live'; writes = length j.swaps.items + 1; spare_rows = room'; spare_writes = j.spare_writes - 1 }
  timeline-note live live' room room' j j' swap v is now rest pushed =
      let base : undo_swaps j'.swaps.items live' ≡ undo_swaps j.swaps.items live =
      ap (λ es. undo_swaps es live') pushed ∙ undo_swaps-push j.swaps.items swap live'
      ∙ ap (λ m. undo_swaps j.swaps.items (put m swap.key swap.value)) now
      ∙ ap (λ w. undo_swaps j.swaps.items (put (put live swap.key v) swap.key w)) is
      ∙ ap (undo_swaps j.swaps.items) (put_back o live swap.key v) in
      same_timeline _ _ refl
      (ap (moments_of j'.past.items) base ∙ ap (λ x. moments_of x.past.items (undo_swaps j.swaps.items live)) rest)
      (ap (moments_of j'.future.items) base ∙ ap (λ x. moments_of x.future.items (undo_swaps j.swaps.items live)) rest)
      (ap (λ x. x.is_open) rest) base (ap length pushed ∙ omega (arith, length-append j.swaps.items (swap ∷ []))) refl (ap (λ x. x.spare_writes) rest)

  -- a key that no swap names is in no earlier map
  get-undo_swaps : (k : K) (swaps : List (Swap K V)) (m : FinMap R V) → swaps_of R k swaps ≡ 0 → get (undo_swaps swaps m) k ≡ get m k
  get-undo_swaps k [] m none = refl
  get-undo_swaps k (e ∷ swaps) m none =
      get-put_other o (undo_swaps swaps m) e.key e.value k (apart (eq_by_cmp R e.key k) (tied_flip o k e.key) none) ∙ get-undo_swaps k swaps m (omega arith)
    where
      apart : (b : Bool) → eq_by_cmp R k e.key ≡ b → cond b 1 0 + swaps_of R k swaps ≡ 0 → eq_by_cmp R k e.key ≡ false
      apart true is n = absurd (omega arith)
      apart false is n = is

  none_back : (k : K) (steps : List (Step K V)) (t : Trail R V) → steps_of R k steps ≡ 0 → get t.at k ≡ None → AllByRecursion (λ m. get m.value k ≡ None) t.moments
      → (get (walk_back steps t).at k ≡ None) × AllByRecursion (λ m. get m.value k ≡ None) (walk_back steps t).moments
  none_back k [] t none at all = (at, all)
  none_back k (Mark ∷ steps) t none at all = let rest = none_back k steps t none at all in (rest.0, (rest.0, rest.1))
  none_back k (Write e ∷ steps) t none at all =
      let rest = none_back k steps t (omega arith) at all in
      (get-put_other o (walk_back steps t).at e.key e.value k (apart (eq_by_cmp R e.key k) (tied_flip o k e.key) none) ∙ rest.0, rest.1)
    where
      apart : (b : Bool) → eq_by_cmp R k e.key ≡ b → cond b 1 0 + steps_of R k steps ≡ 0 → eq_by_cmp R k e.key ≡ false
      apart true is n = absurd (omega arith)
      apart false is n = is

  -- a key without a mention that is not live is in no map of the timeline
  pub IsFresh-unnamed : (live : FinMap R V) (room : ℕ) (mentions : K → ℕ) (j : History K V) (k : K)
      → IsKept R mentions j → mentions k ≡ 0 → get live k ≡ None → IsFresh (timeline_of live room j) k
  IsFresh-unnamed live room mentions j k kept none absent =
      let base : get (undo_swaps j.swaps.items live) k ≡ None = get-undo_swaps k j.swaps.items live (omega (arith, kept.counts k)) ∙ absent in
      record {
        now = absent;
        base = base;
        past = (none_back k j.past.items (start_at (undo_swaps j.swaps.items live)) (omega (arith, kept.counts k)) base tt).1;
        future = (none_back k j.future.items (start_at (undo_swaps j.swaps.items live)) (omega (arith, kept.counts k)) base tt).1;
      }
