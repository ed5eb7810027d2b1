-- While edits are taken, a journal only grows.
use Rattle.std.proofs.Common.{◌≡◌, ℕ, zero, suc, ◌+◌, ◌==◌, ◌<◌, map, get_or, drop, Bool, true, false, cond, List, [], ◌∷◌, ◌++◌, length, Some, refl, ap, ◌∙◌, arith, append_assoc, length-append, ◌≤◌, Option, None, append-nil, sym}
use Rattle.std.specs.List.{slice_get}
use Rattle.emh_base.specs.declared.state.State.{State}
use Rattle.emh_base.specs.declared.edit.By.{By}
use Rattle.emh_base.specs.declared.edit.By.TheVariants.{Watch}
use Rattle.emh_base.specs.declared.edit.Change.{Change}
use Rattle.emh_base.specs.declared.edit.Edit.{Edit}
use Rattle.edit_rules.specs.Apply.{Applied, Refused, Done, apply}
use Rattle.session_rules.specs.Take.{Wants, Course, Going, Spent, take_applied, take_one, take}
use Rattle.session_rules.specs.React.{tell_one, tell_from, entry_at, tell_entry, tell}

-- where a course goes on, its journal begins with these entries
abbrev pub Begins : List Change → Course → Type 0
Begins J (Going T K) = (more : List Change) × (K ≡ J ++ more)
Begins J (Spent T K) = Unit {0}

begins-applied : (room : ℕ) (J : List Change) (S : State) (K : List Change) (a : Applied) → Begins J (Going S K) → Begins J (take_applied room S K a)
begins-applied room J S K (Refused refusal) begins = begins
begins-applied room J S K (Done T c) begins = by_test (length K == room)
  where
    by_test : (b : Bool) → Begins J (cond b (Spent S K) (Going T (K ++ c ∷ [])))
    by_test true = tt
    by_test false =
        (begins.0 ++ c ∷ [], ap (λ (L : List Change). L ++ c ∷ []) begins.1 ∙ append_assoc J begins.0 (c ∷ []))

begins-one : (room : ℕ) (by : By) (J : List Change) (e : Edit) (at : Course) → Begins J at → Begins J (take_one room by e at)
begins-one room by J e (Spent S K) begins = tt
begins-one room by J e (Going S K) begins = begins-applied room J S K (apply S by e) begins

begins-take : (room : ℕ) (by : By) (J : List Change) (es : List Edit) (at : Course) → Begins J at → Begins J (take room by es at)
begins-take room by J [] at begins = begins
begins-take room by J (e ∷ es) at begins = begins-take room by J es (take_one room by e at) (begins-one room by J e at begins)

pub begins-told : (room i : ℕ) (c : Change) (w : Wants) (mark : Bool) (S : State) (J : List Change) → Begins J (tell_one room i c w mark (Going S J))
begins-told room i c w false S J = ([], sym (append-nil J))
begins-told room i c w true S J = begins-take room (Watch i) J (w S c) (Going S J) ([], sym (append-nil J))

begins-tell_one : (room i : ℕ) (J : List Change) (c : Change) (w : Wants) (mark : Bool) (at : Course) → Begins J at → Begins J (tell_one room i c w mark at)
begins-tell_one room i J c w false (Going S K) begins = begins
begins-tell_one room i J c w true (Going S K) begins = begins-take room (Watch i) J (w S c) (Going S K) begins
begins-tell_one room i J c w false (Spent S K) begins = tt
begins-tell_one room i J c w true (Spent S K) begins = tt

begins-tell_from : (room : ℕ) (J : List Change) (c : Change) (ws : List Wants) (marks : List Bool) (i : ℕ) (at : Course) → Begins J at → Begins J (tell_from room i c ws marks at)
begins-tell_from room J c [] marks i at begins = begins
begins-tell_from room J c (w ∷ ws) [] i at begins = begins
begins-tell_from room J c (w ∷ ws) (mark ∷ marks) i at begins =
    begins-tell_from room J c ws marks (i + 1) (tell_one room i c w mark at) (begins-tell_one room i J c w mark at begins)

begins-tell_entry : (room : ℕ) (J : List Change) (ws : List Wants) (marks : List Bool) (c : Option Change) (at : Course) → Begins J at → Begins J (tell_entry room ws marks c at)
begins-tell_entry room J ws marks None at begins = begins
begins-tell_entry room J ws marks (Some c) at begins = begins-tell_from room J c ws marks 0 at begins

pub begins-tell : (room : ℕ) (J : List Change) (ws : List Wants) (marks : List Bool) (entries k : ℕ) (at : Course) → Begins J at → Begins J (tell room ws marks entries k at)
begins-tell room J ws marks zero k at begins = begins
begins-tell room J ws marks (suc entries) k at begins =
    begins-tell room J ws marks entries (k + 1) (tell_entry room ws marks (entry_at k at) at)
    (begins-tell_entry room J ws marks (entry_at k at) at begins)

pub begins-long : (J : List Change) (at : Course) (T : State) (K : List Change) → Begins J at → at ≡ Going T K → length J ≤ length K
begins-long J (Going S L) T K begins is =
    let same : L ≡ K = cc in
    let whole : length K ≡ length J + length begins.0 =
    ap (λ (M : List Change). length M) (sym same ∙ begins.1) ∙ length-append J begins.0
    in
    omega arith
begins-long J (Spent S L) T K begins is = absurd (cc)

-- entries

pub entry-there : (J : List Change) (k : ℕ) → k < length J → (c : Change) × (slice_get J k ≡ Some c)
entry-there [] k less = absurd (omega (arith, less))
entry-there (c ∷ J) zero less = (c, refl)
entry-there (c ∷ J) (suc k) less = entry-there J k (omega (arith, less))

entry-stays : (J more : List Change) (k : ℕ) (c : Change) → slice_get J k ≡ Some c → slice_get (J ++ more) k ≡ Some c
entry-stays [] more k c is = absurd (cc)
entry-stays (d ∷ J) more zero c is = is
entry-stays (d ∷ J) more (suc k) c is = entry-stays J more k c is

-- an entry is there as long as the course goes on
pub entry-kept : (J : List Change) (at : Course) (T : State) (K : List Change) (k : ℕ) (c : Change) → Begins J at → at ≡ Going T K → slice_get J k ≡ Some c
    → slice_get K k ≡ Some c
entry-kept J (Going S L) T K k c begins is there =
    let same : L ≡ K = cc in
    ap (λ (M : List Change). slice_get M k) (sym same ∙ begins.1) ∙ entry-stays J begins.0 k c there
entry-kept J (Spent S L) T K k c begins is there = absurd (cc)

-- what is left of a list from a place on

pub map_here : {X Y : Type 0} (f : X → Y) (xs : List X) (i : ℕ) (x : X) → i < length xs → x ≡ get_or xs i x → drop i (map f xs) ≡ f x ∷ drop (i + 1) (map f xs)
map_here f [] i x less is = absurd (omega (arith, less))
map_here f (y ∷ xs) zero x less is = ap (λ z. f z ∷ map f xs) (sym is)
map_here f (y ∷ xs) (suc i) x less is =
    let one : suc i + 1 ≡ suc (i + 1) = omega arith in
    map_here f xs i x (omega (arith, less)) is ∙ ap (λ n. f x ∷ drop n (f y ∷ map f xs)) (sym one)

pub mark_here : (bs : List Bool) (i : ℕ) (d : Bool) → i < length bs → drop i bs ≡ get_or bs i d ∷ drop (i + 1) bs
mark_here [] i d less = absurd (omega (arith, less))
mark_here (b ∷ bs) zero d less = refl
mark_here (b ∷ bs) (suc i) d less =
    let one : suc i + 1 ≡ suc (i + 1) = omega arith in
    mark_here bs i d (omega (arith, less)) ∙ ap (λ n. get_or bs i d ∷ drop n (b ∷ bs)) (sym one)
