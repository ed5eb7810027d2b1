-- The machine tells the sentences: it gives the tree that the tokens spell, or the fault that they have.
use Rattle.std.proofs.Common.{◌≡◌, ◌⊎◌, refl, sym, ◌∙◌, ap, subst, ℕ, List, [], ◌∷◌, ◌++◌, Option, Some, None, append_assoc, append-nil, inl, inr}
use Rattle.std.specs.Prelude.{Result, Ok, Err}
use Rattle.vlog_lex.specs.declared.token.Token.{Token}
use Rattle.vlog_read.specs.declared.tree.Tree.{Tree}
use Rattle.vlog_read.specs.declared.fault.ParseFault.{ParseFault}
use Rattle.vlog_read.specs.declared.fault.ParseFault.TheVariants.{Unexpected}
use Rattle.vlog_read.specs.Grammar.{the_end}
use Rattle.vlog_read.specs.Sentence.{Spells, Begins, StopsAt, StopsEarly, HasFault, fault_at}
use Rattle.vlog_read.specs.inside.Machine.State.{State, Top}
use Rattle.vlog_read.specs.inside.Machine.Step.{ways, step, upon, at_end, read, run, start}
use Rattle.vlog_read.proofs.Spelled.Modules.{spelled}
use Rattle.vlog_read.proofs.Left.Ends.{Ends}
use Rattle.vlog_read.proofs.Left.Tokens.{chosen}
use Rattle.vlog_read.proofs.Left.Modules.{back}
use Rattle.vlog_read.proofs.Left.Completions.{can}

-- the first of several steps
run_step : (s n : State) (t : Token) (P : List Token) → run s (t ∷ P) ≡ Some n
    → (m : State) × (step s t ≡ Some m) × (run m P ≡ Some n)
run_step s n t P is = go (step s t) refl is
  where
    go : (next : Option State) → step s t ≡ next → upon next (λ m. run m P) None ≡ Some n
        → (m : State) × (step s t ≡ Some m) × (run m P ≡ Some n)
    go (Some m) goes on = (m, goes, on)
    go None goes on = cc

read_step : (len : ℕ) (s : State) (t : Token) (T : List Token) (result : Result Tree ParseFault)
    → read len s (t ∷ T) ≡ result
    → ((m : State) × (step s t ≡ Some m) × (read len m T ≡ result)) ⊎ ((step s t ≡ None) × (result ≡ Err (fault_at t)))
read_step len s t T result is = go (step s t) refl is
  where
    go : (next : Option State) → step s t ≡ next → upon next (λ m. read len m T) (Err (fault_at t)) ≡ result
        → ((m : State) × (step s t ≡ Some m) × (read len m T ≡ result))
        ⊎ ((step s t ≡ None) × (result ≡ Err (fault_at t)))
    go (Some m) goes on = inl (m, goes, on)
    go None goes on = inr (goes, sym on)

-- what was read so far with what completes it
run_ends : (s n : State) (P U : List Token) (tree : Tree) → run s P ≡ Some n → Ends n tree U → Ends s tree (P ++ U)
run_ends s n [] U tree is rest =
    let same : n ≡ s = cc in
    subst (λ m. Ends m tree U) same rest
run_ends s n (t ∷ P) U tree is rest =
    let (m, goes, on) = run_step s n t P is in
    back s tree t (P ++ U) (chosen (λ k. Ends k tree (P ++ U)) m (ways s t) goes (run_ends m n P U tree on rest))

-- what completes all of it is a sentence
sentence : (tree : Tree) (T : List Token) → Ends start tree T → Spells tree T
sentence tree T (ms, is, same) = subst (λ (k : Tree). Spells k T) (sym same) is

begins : (n : State) (P : List Token) → run start P ≡ Some n → Begins P
begins n P is =
    let (U, tree, rest) = can n in
    (U, tree, sentence tree (P ++ U) (run_ends start n P U tree is rest))

-- the tokens so far are read first
read_run : (len : ℕ) (s n : State) (P U : List Token) → run s P ≡ Some n → read len s (P ++ U) ≡ read len n U
read_run len s n [] U is =
    let same : s ≡ n = cc in
    ap (λ m. read len m U) same
read_run len s n (t ∷ P) U is =
    let (m, goes, on) = run_step s n t P is in
    rw goes (read_run len m n P U on)

-- tokens that are read to a tree spell it
end_spells : (len : ℕ) (s : State) (tree : Tree) → at_end len s ≡ Ok tree → Ends s tree []
end_spells len (Top s) tree is =
    let same : record { modules = s.modules } ≡ tree = cc in
    ([], the_end, sym same ∙ ap (λ ms. record { modules = ms }) (sym (append-nil s.modules)))
end_spells len _ tree is = cc

read_ends : (len : ℕ) (s : State) (tree : Tree) (T : List Token) → read len s T ≡ Ok tree → Ends s tree T
read_ends len s tree [] is = end_spells len s tree is
read_ends len s tree (t ∷ T) is =
    elim (read_step len s t T (Ok tree) is) [
      | inl (m, goes, on) ↦ back s tree t T (chosen (λ k. Ends k tree T) m (ways s t) goes (read_ends len m tree T on))
      | inr (goes, told) ↦ cc
    ]

pub read_spelled : (len : ℕ) (tree : Tree) (T : List Token) → read len start T ≡ Ok tree → Spells tree T
read_spelled len tree T is = sentence tree T (read_ends len start tree T is)

-- a fault stands at a token that no way takes, or at the end
abbrev FaultFrom : ℕ → State → List Token → ParseFault → Type 0
FaultFrom len s T fault =
    ((before : List Token) × (t : Token) × (after : List Token) × (n : State) × (T ≡ before ++ t ∷ after)
    × (run s before ≡ Some n) × (step n t ≡ None) × (fault ≡ fault_at t))
    ⊎ ((n : State) × (run s T ≡ Some n) × (at_end len n ≡ Err fault))

fault_from : (len : ℕ) (s : State) (T : List Token) (fault : ParseFault) → read len s T ≡ Err fault
    → FaultFrom len s T fault
fault_from len s [] fault is = inr (s, refl, is)
fault_from len s (t ∷ T) fault is =
    elim (read_step len s t T (Err fault) is) [
      | inl (m, goes, on) ↦
          elim (fault_from len m T fault on) [
            | inl (before, u, after, n, whole, leads, stops, told) ↦
                inl (t ∷ before, u, after, n, ap (λ U. t ∷ U) whole, rw goes leads, stops, told)
            | inr (n, leads, stops) ↦ inr (n, rw goes leads, stops)
          ]
      | inr (goes, told) ↦
          let same : fault ≡ fault_at t = cc in
          inl ([], t, T, s, refl, refl, goes, same)
    ]

-- a token that no way takes
read_stops : (len : ℕ) (n : State) (t : Token) (U : List Token) → step n t ≡ None
    → read len n (t ∷ U) ≡ Err (fault_at t)
read_stops len n t U stops = rw stops refl

end_fault : (len : ℕ) (s : State) (fault : ParseFault) → at_end len s ≡ Err fault → fault ≡ Unexpected len
end_fault len (Top s) fault is = cc
end_fault len _ fault is = cc

-- with a token that no way takes no sentence begins
begins_no_more : (n : State) (before : List Token) (t : Token) → run start before ≡ Some n → step n t ≡ None
    → Begins (before ++ t ∷ []) → ⊥
begins_no_more n before t leads stops (more, tree, is) =
    let whole : before ++ t ∷ [] ++ more ≡ before ++ (t ∷ more) = append_assoc before (t ∷ []) more in
    let tree_is : read 0 start (before ++ (t ∷ more)) ≡ Ok tree =
    ap (λ U. read 0 start U) (sym whole) ∙ spelled 0 tree (before ++ t ∷ [] ++ more) is in
    let fault_is : read 0 start (before ++ (t ∷ more)) ≡ Err (fault_at t) =
    read_run 0 start n before (t ∷ more) leads ∙ read_stops 0 n t more stops in
    cc

pub read_fault : (len : ℕ) (T : List Token) (fault : ParseFault) → read len start T ≡ Err fault
    → HasFault len T fault
read_fault len T fault is =
    elim (fault_from len start T fault is) [
      | inl (before, t, after, n, whole, leads, stops, told) ↦
          inl (t, (before, after, whole, begins n before leads, begins_no_more n before t leads stops), told)
      | inr (n, leads, stops) ↦
          let no_tree : (tree : Tree) → Spells tree T → ⊥ = λ tree spells. let got = spelled len tree T spells in cc in
          inr ((begins n T leads, no_tree), end_fault len n fault stops)
    ]

-- tokens that begin a sentence lead to a state
leads : (s : State) (P U : List Token) (tree : Tree) → read 0 s (P ++ U) ≡ Ok tree → (n : State) × (run s P ≡ Some n)
leads s [] U tree is = (s, refl)
leads s (t ∷ P) U tree is =
    elim (read_step 0 s t (P ++ U) (Ok tree) is) [
      | inl (m, goes, on) ↦
          let (n, leads_on) = leads m P U tree on in
          (n, rw goes leads_on)
      | inr (goes, told) ↦ cc
    ]

begun : (P : List Token) → Begins P → (n : State) × (run start P ≡ Some n)
begun P (U, tree, is) = leads start P U tree (spelled 0 tree (P ++ U) is)

-- and from there to another, where with one token more they still begin one
run_more : (s n m : State) (P : List Token) (t : Token) → run s P ≡ Some n → step n t ≡ Some m
    → run s (P ++ t ∷ []) ≡ Some m
run_more s n m [] t is goes =
    let same : s ≡ n = cc in
    rw (same, goes) refl
run_more s n m (u ∷ P) t is goes =
    let (k, goes', on) = run_step s n u P is in
    rw goes' (run_more k n m P t on goes)

stops : (len : ℕ) (T : List Token) (t : Token) → StopsAt T t → read len start T ≡ Err (fault_at t)
stops len T t (before, after, whole, begins_before, no_more) =
    let (n, way) = begun before begins_before in
    go n way (step n t) refl
  where
    go : (n : State) → run start before ≡ Some n → (next : Option State) → step n t ≡ next
        → read len start T ≡ Err (fault_at t)
    go n way (Some m) goes = absurd (no_more (begins m (before ++ t ∷ []) (run_more start n m before t way goes)))
    go n way None goes = rw whole (read_run len start n before (t ∷ after) way ∙ read_stops len n t after goes)

stops_early : (len : ℕ) (T : List Token) → StopsEarly T → read len start T ≡ Err (Unexpected len)
stops_early len T (begins_all, none) =
    let (n, way) = begun T begins_all in
    let whole : read len start T ≡ at_end len n =
    ap (λ U. read len start U) (sym (append-nil T)) ∙ read_run len start n T [] way in
    go n (at_end len n) whole refl
  where
    go : (n : State) (result : Result Tree ParseFault) → read len start T ≡ at_end len n → at_end len n ≡ result
        → read len start T ≡ Err (Unexpected len)
    go n (Ok tree) whole is = absurd (none tree (read_spelled len tree T (whole ∙ is)))
    go n (Err fault) whole is = whole ∙ is ∙ ap Err (end_fault len n fault is)

pub fault_read : (len : ℕ) (T : List Token) (fault : ParseFault) → HasFault len T fault
    → read len start T ≡ Err fault
fault_read len T fault (inl (t, at, told)) = stops len T t at ∙ ap Err (sym told)
fault_read len T fault (inr (early, told)) = stops_early len T early ∙ ap Err (sym told)
