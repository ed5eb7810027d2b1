-- Lists of swaps and steps at their ends, and the way from one list of steps to another.
use Rattle.std.proofs.Common.{◌≡◌, ℕ, suc, ◌+◌, ◌-◌, ◌<◌, List, [], ◌∷◌, ◌++◌, length, map as mapped, Option, refl, sym, ap, subst, ◌∙◌, arith, add-zero, zero-add, length-append, length-drop, get_or, take, drop, add-one}
use Rattle.std.proofs.Math.Seq.{drop-cons}
use Rattle.std.proofs.lemmas.List.{take-append-drop}
use Rattle.std.specs.FinMap.{FinMap, get}
use Rattle.std.specs.declared.cmp.Ordering.{Ordering}
use Rattle.timeline.specs.Maps.{IsKeyOrder, put, one_at}
use Rattle.timeline.specs.Timeline.{Moment, Moves, IsLastCount}
use Rattle.timeline.specs.Steps.{Trail, start_at, step_back, walk_back, moments_of, undo_swaps, swaps_of, steps_of, BeginsWithMark, OnlyWrites, marks_in}
use Rattle.timeline.specs.declared.steps.Swap.{Swap}
use Rattle.timeline.specs.declared.steps.Step.{Step}
use Rattle.timeline.specs.declared.steps.Step.TheVariants.{Mark, Write}
use Rattle.timeline.proofs.MapLemmas.{put_back, one_at-same}

drop_next : {K V : Type 0} (steps : List (Step K V)) (i : ℕ) (d : Step K V) → i < length steps → drop i steps ≡ get_or steps i d ∷ drop (i + 1) steps
drop_next steps i d within = drop-cons steps i d within ∙ ap (λ n. get_or steps i d ∷ drop n steps) (sym (add-one i))

module _ {K V : Type 0} {R : K → K → Ordering} where
  pub walk_back-append : (xs ys : List (Step K V)) (t : Trail R V) → walk_back (xs ++ ys) t ≡ walk_back xs (walk_back ys t)
  walk_back-append [] ys t = refl
  walk_back-append (x ∷ xs) ys t = ap (step_back x) (walk_back-append xs ys t)

  abbrev with_moments : Trail R V → List (Moment (FinMap R V)) → Trail R V
  with_moments t later = record { at = t.at; writes = t.writes; moments = t.moments ++ later }

  step_back-later : (step : Step K V) (t : Trail R V) (later : List (Moment (FinMap R V))) → step_back step (with_moments t later) ≡ with_moments (step_back step t) later
  step_back-later Mark t later = refl
  step_back-later (Write swap) t later = refl

  -- moments that were passed before stay behind those that are passed now
  pub walk_back-later : (steps : List (Step K V)) (t : Trail R V) (later : List (Moment (FinMap R V))) → walk_back steps (with_moments t later) ≡ with_moments (walk_back steps t) later
  walk_back-later [] t later = refl
  walk_back-later (step ∷ steps) t later = ap (step_back step) (walk_back-later steps t later) ∙ step_back-later step (walk_back steps t) later

  -- the moments behind a mark
  pub moments-mark : (steps : List (Step K V)) (m : FinMap R V) (n : ℕ) → (walk_back (steps ++ Mark ∷ []) (record { at = m; writes = n; moments = [] })).moments ≡ moments_of steps m ++ record { value = m; writes = n } ∷ []
  moments-mark steps m n =
      ap (λ t. t.moments) (walk_back-append steps (Mark ∷ []) (record { at = m; writes = n; moments = [] }) ∙ walk_back-later steps (start_at m) (record { value = m; writes = n } ∷ []))

  pub undo_swaps-push : (swaps : List (Swap K V)) (swap : Swap K V) (m : FinMap R V) → undo_swaps (swaps ++ swap ∷ []) m ≡ undo_swaps swaps (put m swap.key swap.value)
  undo_swaps-push [] swap m = refl
  undo_swaps-push (e ∷ swaps) swap m = ap (λ n. put n e.key e.value) (undo_swaps-push swaps swap m)

  -- the walk over the writes of swaps
  pub walk_back-writes : (swaps : List (Swap K V)) (m : FinMap R V) → walk_back (mapped Write swaps) (start_at m) ≡ record { at = undo_swaps swaps m; writes = length swaps; moments = [] }
  walk_back-writes [] m = refl
  walk_back-writes (e ∷ swaps) m = ap (step_back (Write e)) (walk_back-writes swaps m) ∙ ap (λ n. record { at = undo_swaps (e ∷ swaps) m; writes = n; moments = [] }) (omega arith)

  -- a record after it was sealed
  pub moments-seal : (past : List (Step K V)) (swaps : List (Swap K V)) (m : FinMap R V) → moments_of (past ++ Mark ∷ mapped Write swaps) m ≡ moments_of past (undo_swaps swaps m) ++ record { value = undo_swaps swaps m; writes = length swaps } ∷ []
  moments-seal past swaps m =
      ap (λ t. t.moments) (walk_back-append past (Mark ∷ mapped Write swaps) (start_at m) ∙ ap (λ t. walk_back past (step_back Mark t)) (walk_back-writes swaps m) ∙ walk_back-later past (start_at (undo_swaps swaps m)) (record { value = undo_swaps swaps m; writes = length swaps } ∷ []))

  -- where there is a moment there is a step
  pub moments-steps : (steps : List (Step K V)) (m : FinMap R V) (n : ℕ) → 0 < length (walk_back steps (record { at = m; writes = n; moments = [] })).moments → 0 < length steps
  moments-steps [] m n h = absurd (omega arith)
  moments-steps (s ∷ steps) m n h = omega arith

  walk_back-only : (steps : List (Step K V)) (m : FinMap R V) → OnlyWrites steps → (at : FinMap R V) × (walk_back steps (start_at m) ≡ record { at = at; writes = length steps; moments = [] })
  walk_back-only [] m h = (m, refl)
  walk_back-only (Mark ∷ steps) m h = absurd h
  walk_back-only (Write e ∷ steps) m h =
      let rest = walk_back-only steps m h in
      (put rest.0 e.key e.value, ap (step_back (Write e)) rest.1 ∙ ap (λ n. record { at = put rest.0 e.key e.value; writes = n; moments = [] }) (omega arith))

  -- the writes behind the last mark are those of the last moment
  last_at_mark : (front behind : List (Step K V)) (m : FinMap R V) → OnlyWrites behind → IsLastCount (moments_of (front ++ Mark ∷ behind) m) (length behind)
  last_at_mark front behind m only =
      let rest = walk_back-only behind m only in
      (moments_of front rest.0, (record { value = rest.0; writes = length behind }, (ap (λ t. t.moments) (walk_back-append front (Mark ∷ behind) (start_at m) ∙ ap (λ t. walk_back front (step_back Mark t)) rest.1 ∙ walk_back-later front (start_at rest.0) (record { value = rest.0; writes = length behind } ∷ [])), refl)))

  pub IsLastCount-mark : (steps : List (Step K V)) (i n : ℕ) (step : Step K V) → step ≡ get_or steps i step → i < length steps → step ≡ Mark → OnlyWrites (drop (i + 1) steps) → n ≡ length steps - (i + 1) → (m : FinMap R V) → IsLastCount (moments_of steps m) n
  IsLastCount-mark steps i n step at within is only count m =
      let F : List (Step K V) → Type 0 = λ ss. IsLastCount (moments_of ss m) n in
      let G : ℕ → Type 0 = λ k. IsLastCount (moments_of (take i steps ++ Mark ∷ drop (i + 1) steps) m) k in
      let parts : take i steps ++ Mark ∷ drop (i + 1) steps ≡ steps =
      ap (λ s. take i steps ++ s ∷ drop (i + 1) steps) (sym is ∙ at) ∙ ap (λ ss. take i steps ++ ss) (sym (drop_next steps i step within)) ∙ take-append-drop i steps in
      let long : length (drop (i + 1) steps) ≡ n = omega (arith, length-drop (i + 1) steps) in
      subst F parts (subst G long (last_at_mark (take i steps) (drop (i + 1) steps) m only))

  -- each mark makes a moment
  pub length-moments : (steps : List (Step K V)) (m : FinMap R V) → length (moments_of steps m) ≡ marks_in steps
  length-moments [] m = refl
  length-moments (Mark ∷ steps) m = ap suc (length-moments steps m) ∙ sym (add-one (marks_in steps))
  length-moments (Write e ∷ steps) m = length-moments steps m

module _ {K V : Type 0} where
  pub BeginsWithMark-front : (xs ys : List (Step K V)) → BeginsWithMark (xs ++ ys) → BeginsWithMark xs
  BeginsWithMark-front [] ys h = tt
  BeginsWithMark-front (Mark ∷ xs) ys h = tt
  BeginsWithMark-front (Write e ∷ xs) ys h = absurd h

  pub BeginsWithMark-push : (xs ys : List (Step K V)) → 0 < length xs → BeginsWithMark xs → BeginsWithMark (xs ++ ys)
  BeginsWithMark-push [] ys l h = absurd (omega arith)
  BeginsWithMark-push (Mark ∷ xs) ys l h = tt
  BeginsWithMark-push (Write e ∷ xs) ys l h = absurd h

  pub BeginsWithMark-mark : (xs ys : List (Step K V)) → BeginsWithMark xs → BeginsWithMark (xs ++ Mark ∷ ys)
  BeginsWithMark-mark [] ys h = tt
  BeginsWithMark-mark (Mark ∷ xs) ys h = tt
  BeginsWithMark-mark (Write e ∷ xs) ys h = absurd h

  pub no_mark : (steps : List (Step K V)) → OnlyWrites steps → marks_in steps ≡ 0
  no_mark [] only = refl
  no_mark (Mark ∷ steps) only = absurd only
  no_mark (Write e ∷ steps) only = no_mark steps only

  pub OnlyWrites-step : (steps : List (Step K V)) (i : ℕ) (step : Step K V) → step ≡ get_or steps i step → i < length steps → ((step ≡ Mark) → ⊥) → OnlyWrites (drop (i + 1) steps) → OnlyWrites (drop i steps)
  OnlyWrites-step steps i step at within other only = subst OnlyWrites (ap (λ s. s ∷ drop (i + 1) steps) at ∙ sym (drop_next steps i step within)) (of_step step other)
    where
      of_step : (s : Step K V) → ((s ≡ Mark) → ⊥) → OnlyWrites (s ∷ drop (i + 1) steps)
      of_step Mark apart = apart refl
      of_step (Write e) apart = only

module _ {K V : Type 0} (R : K → K → Ordering) where
  pub swaps_of-push : (k : K) (swaps : List (Swap K V)) (swap : Swap K V) → swaps_of R k (swaps ++ swap ∷ []) ≡ swaps_of R k swaps + one_at R swap.key k
  swaps_of-push k [] swap = omega arith
  swaps_of-push k (e ∷ swaps) swap = omega (arith, swaps_of-push k swaps swap)

  pub steps_of-append : (k : K) (xs ys : List (Step K V)) → steps_of R k (xs ++ ys) ≡ steps_of R k xs + steps_of R k ys
  steps_of-append k [] ys = omega arith
  steps_of-append k (Mark ∷ xs) ys = steps_of-append k xs ys
  steps_of-append k (Write e ∷ xs) ys = omega (arith, steps_of-append k xs ys)

  pub steps_of-writes : (k : K) (swaps : List (Swap K V)) → steps_of R k (mapped Write swaps) ≡ swaps_of R k swaps
  steps_of-writes k [] = refl
  steps_of-writes k (e ∷ swaps) = ap (λ n. one_at R e.key k + n) (steps_of-writes k swaps)

  pub steps_of-mark : (k : K) (steps front : List (Step K V)) (step : Step K V) → steps ≡ front ++ step ∷ [] → step ≡ Mark → steps_of R k steps ≡ steps_of R k front
  steps_of-mark k steps front step items is = rw (items, is) (omega (arith, steps_of-append k front (Mark ∷ [])))

  pub steps_of-write : (k : K) (steps front : List (Step K V)) (step : Step K V) (swap : Swap K V) → steps ≡ front ++ step ∷ [] → step ≡ Write swap → steps_of R k steps ≡ steps_of R k front + one_at R swap.key k
  steps_of-write k steps front step swap items is = rw (items, is) (omega (arith, steps_of-append k front (Write swap ∷ [])))

module _ {K V : Type 0} {R : K → K → Ordering} (o : IsKeyOrder R) where
  -- a last swap counts for its key
  pub swaps_of-last : (swaps front : List (Swap K V)) (swap : Swap K V) → swaps ≡ front ++ swap ∷ [] → 0 < swaps_of R swap.key swaps
  swaps_of-last swaps front swap is = rw is (omega (arith, swaps_of-push R swap.key front swap, one_at-same o swap.key))

  pub steps_of-last : (steps front : List (Step K V)) (step : Step K V) (swap : Swap K V) → steps ≡ front ++ step ∷ [] → step ≡ Write swap → 0 < steps_of R swap.key steps
  steps_of-last steps front step swap items is = rw (items, is) (omega (arith, steps_of-append R swap.key front (Write swap ∷ []), one_at-same o swap.key))

module _ {K V : Type 0} {R : K → K → Ordering} where
  -- on the way from one list to the other, after so many writes
  pub record Travels (rows0 : FinMap R V) (from0 to0 : List (Step K V)) (rows : FinMap R V) (from to : List (Step K V)) (done : ℕ) : Type 0 where
    pub back : walk_back from (record { at = rows; writes = done; moments = [] }) ≡ walk_back from0 (start_at rows0)
    pub forth : (w : ℕ) → walk_back to (record { at = rows; writes = w; moments = [] }) ≡ walk_back to0 (record { at = rows0; writes = done + w; moments = [] })
    pub from_count : length from + done ≡ length from0
    pub to_count : length to ≡ length to0 + done

  pub Travels-start : (rows : FinMap R V) (from to : List (Step K V)) → Travels rows from to rows from to 0
  Travels-start rows from to =
      record {
        back = refl;
        forth = λ w. ap (λ n. walk_back to (record { at = rows; writes = n; moments = [] })) (sym (zero-add w));
        from_count = omega arith;
        to_count = omega arith;
      }

  Travels-end : (rows0 : FinMap R V) (from0 to0 : List (Step K V)) (rows : FinMap R V) (from to : List (Step K V)) (done : ℕ) → Travels rows0 from0 (to0 ++ Mark ∷ []) rows (from ++ Mark ∷ []) to done → Moves (moments_of from0 rows0) (moments_of to0 rows0) rows0 (moments_of from rows) (moments_of to rows) rows
  Travels-end rows0 from0 to0 rows from to done t =
      (done, ap (λ x. x.moments) (sym t.back) ∙ moments-mark from rows done, ap (λ x. x.moments) (t.forth 0 ∙ ap (λ n. walk_back (to0 ++ Mark ∷ []) (record { at = rows0; writes = n; moments = [] })) (add-zero done)) ∙ moments-mark to0 rows0 done)

  -- the mark ends it
  pub Travels-stop : (rows0 : FinMap R V) (from0 to0 to1 : List (Step K V)) (rows : FinMap R V) (from from' to : List (Step K V)) (step : Step K V)
      → Travels rows0 from0 to1 rows from to (length to - length to1) → to1 ≡ to0 ++ Mark ∷ [] → from ≡ from' ++ step ∷ [] → step ≡ Mark
      → Moves (moments_of from0 rows0) (moments_of to0 rows0) rows0 (moments_of from' rows) (moments_of to rows) rows
  Travels-stop rows0 from0 to0 to1 rows from from' to step t first items is =
      let F : List (Step K V) → Type 0 = λ f. Travels rows0 from0 (to0 ++ Mark ∷ []) rows f to (length to - length to1) in
      let G : List (Step K V) → Type 0 = λ f. Travels rows0 from0 f rows from to (length to - length to1) in
      Travels-end rows0 from0 to0 rows from' to (length to - length to1) (subst F (items ∙ ap (λ s. from' ++ s ∷ []) is) (subst G first t))

  -- a record has its mark still to come
  pub Travels-some : (rows0 : FinMap R V) (from0 to0 : List (Step K V)) (rows : FinMap R V) (from to : List (Step K V)) (done : ℕ) → Travels rows0 from0 to0 rows from to done → 0 < length (moments_of from0 rows0) → 0 < length from
  Travels-some rows0 from0 to0 rows from to done t some = moments-steps from rows done (subst (λ x. 0 < length x.moments) (sym t.back) some)

module _ {K V : Type 0} {R : K → K → Ordering} (o : IsKeyOrder R) where
  Travels-push : (rows0 : FinMap R V) (from0 to0 : List (Step K V)) (rows : FinMap R V) (from to : List (Step K V)) (done : ℕ) (k : K) (v : Option V) → Travels rows0 from0 to0 rows (from ++ Write (record { key = k; value = v }) ∷ []) to done → Travels rows0 from0 to0 (put rows k v) from (to ++ Write (record { key = k; value = get rows k }) ∷ []) (done + 1)
  Travels-push rows0 from0 to0 rows from to done k v t =
      record {
        back = sym (walk_back-append from (Write (record { key = k; value = v }) ∷ []) (record { at = rows; writes = done; moments = [] })) ∙ t.back;
        forth = λ w. walk_back-append to (Write (record { key = k; value = get rows k }) ∷ []) (record { at = put rows k v; writes = w; moments = [] })
            ∙ ap (λ m. walk_back to (record { at = m; writes = w + 1; moments = [] })) (put_back o rows k v)
            ∙ t.forth (w + 1)
            ∙ ap (λ n. walk_back to0 (record { at = rows0; writes = n; moments = [] })) (omega arith);
        from_count = omega (arith, t.from_count, length-append from (Write (record { key = k; value = v }) ∷ []));
        to_count = omega (arith, t.to_count, length-append to (Write (record { key = k; value = get rows k }) ∷ []));
      }

  -- one write goes over
  pub Travels-step : (rows0 : FinMap R V) (from0 to0 : List (Step K V)) (rows rows' : FinMap R V) (from from' to to' : List (Step K V)) (step : Step K V) (swap : Swap K V) (v : Option V)
      → Travels rows0 from0 to0 rows from to (length to - length to0) → from ≡ from' ++ step ∷ [] → step ≡ Write swap → v ≡ get rows swap.key → rows' ≡ put rows swap.key swap.value → to' ≡ to ++ Write (record { key = swap.key; value = v }) ∷ []
      → Travels rows0 from0 to0 rows' from' to' (length to' - length to0)
  Travels-step rows0 from0 to0 rows rows' from from' to to' step swap v t items is before now pushed =
      let F : List (Step K V) → Type 0 = λ f. Travels rows0 from0 to0 rows f to (length to - length to0) in
      let t' : Travels rows0 from0 to0 rows (from' ++ Write swap ∷ []) to (length to - length to0) = subst F (items ∙ ap (λ s. from' ++ s ∷ []) is) t in
      let more : length to' ≡ length to + 1 = omega (arith, ap length pushed, length-append to (Write (record { key = swap.key; value = v }) ∷ [])) in
      let count : length to' - length to0 ≡ length to - length to0 + 1 = omega (arith, t.to_count) in
      rw (count, pushed, before, now) (Travels-push rows0 from0 to0 rows from' to (length to - length to0) swap.key swap.value t')
