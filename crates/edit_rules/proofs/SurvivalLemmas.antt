-- Where placements go with what they place.
use Rattle.std.proofs.Common.{◌≡◌, ◌≢◌, Bool, true, false, cond, List, [], ◌∷◌, Option, Some, None, option_and_then, IsSome, IsTrue, refl, sym, ap, ap₂, subst, ◌∙◌}
use Rattle.std.specs.List.{flat_map}
use Rattle.std.specs.FinMap.{get, entries, from_entries, same_map, get-entries, get-from_entries, get-retain_keys, get-insert, get-remove}
use Rattle.std.specs.Ordering.{eq_by_cmp}
use Rattle.emh_base.specs.Path.{path_cmp, path_total}
use Rattle.emh_base.specs.Places.{PlacesByPath}
use Rattle.emh_base.specs.declared.ids.ModId.{ModId}
use Rattle.emh_base.specs.declared.ids.InstId.{InstId}
use Rattle.emh_base.specs.declared.placement.Placement.{Placement}
use Rattle.emh_base.specs.declared.plain.Plain.{Plain}
use Rattle.emh_base.specs.declared.rule.Refusal.{Refusal}
use Rattle.emh_base.specs.declared.state.State.{State}
use Rattle.emh_base.specs.declared.state.Settings.{Settings}
use Rattle.emh_base.specs.declared.edit.By.{By}
use Rattle.emh_base.specs.declared.edit.Edit.{Edit}
use Rattle.emh_base.specs.declared.edit.Edit.TheVariants.{Place, Unplace}
use Rattle.emh_base.proofs.PlacesLemmas.{path_apart}
use Rattle.flatten_rules.specs.Check.{first_broken}
use Rattle.edit_rules.specs.Good.{IsGoodState}
use Rattle.edit_rules.specs.Spots.{is_leaf_path, kept}
use Rattle.edit_rules.specs.Carry.{carry, carried_entry, carried}
use Rattle.edit_rules.specs.Apply.{checks, table_after, settings_after, after, with_place, state_of, applied, done_in_order}
use Rattle.edit_rules.specs.Survival.{placed_path}
use Rattle.edit_rules.specs.Law.{StaysGoodInOrder, SurvivorsStayPlaced, OnlySurvivorsArePlaced, SurvivorsStayPlacedInOrder}
use Rattle.edit_rules.proofs.GoodStates.{kept-placed, is_equal}
use Rattle.edit_rules.proofs.GoodLaw.{stays_good}

-- where each path stays, so does each placement
whole : (es : List (List InstId × Placement)) → flat_map (carried_entry (λ path. Some path)) es ≡ es
whole [] = refl
whole (e ∷ es) = ap (λ rest. e ∷ rest) (whole es)

pub carried_stay : (places : PlacesByPath) → carried (λ path. Some path) places ≡ places
carried_stay places =
    ap (from_entries {R = path_cmp}) (whole (entries places))
    ∙ same_map path_total path_apart (from_entries {R = path_cmp} (entries places)) places (λ q.
    get-from_entries path_total (entries places) q ∙ sym (get-entries places q))

-- the state of what is made of an edit
pub after_made : (S : State) (e : Edit) (M : Plain) (places : PlacesByPath) (settings : Settings)
    → M ≡ table_after S.plain e → places ≡ with_place e (kept M S.top S.places) → settings ≡ settings_after S.settings e
    → ◌≡◌ {A = State} (record { plain = M; top = S.top; places = places; settings = settings }) (after S e)
after_made S e M places settings made stay set =
    let to : Plain → PlacesByPath → Settings → State = λ table placed given. record { plain = table; top = S.top; places = placed; settings = given } in
    let moved : places ≡ with_place e (kept (table_after S.plain e) S.top (carried (carry S e) S.places)) =
    stay ∙ ap₂ (λ table placed. with_place e (kept table S.top placed)) made (sym (carried_stay S.places)) in
    ap (λ table. to table places settings) made ∙ ap₂ (to (table_after S.plain e)) moved set

kept_if : (b : Bool) (o : Option Placement) → b ≡ true → cond b o None ≡ o
kept_if true o is = refl
kept_if false o is = let never : false ≡ true = is in absurd (cc)

get_kept : (N : Plain) (top : ModId) (places : PlacesByPath) (q : List InstId) → IsTrue (is_leaf_path N top q) → get (kept N top places) q ≡ get places q
get_kept N top places q leaf =
    get-retain_keys places (is_leaf_path N top) q (λ x tied. ap (is_leaf_path N top) (sym (path_apart q x tied)))
    ∙ kept_if (is_leaf_path N top q) (get places q) leaf

not_tied : (q x : List InstId) (b : Bool) → b ≡ eq_by_cmp path_cmp q x → x ≢ q → b ≡ false
not_tied q x true at apart = absurd (apart (sym (path_apart q x (is_equal (path_cmp q x) (sym at)))))
not_tied q x false at apart = refl

-- an edit sets or takes out no placement but that of its path
elsewhere : (e : Edit) (places : PlacesByPath) (q : List InstId) → placed_path e ≢ Some q → get (with_place e places) q ≡ get places q
elsewhere (Place path placement) places q other =
    get-insert path_total places path placement q
    ∙ ap (λ b. cond b (Some placement) (get places q)) (not_tied q path (eq_by_cmp path_cmp q path) refl (λ same. other (ap Some same)))
elsewhere (Unplace path) places q other =
    get-remove path_total places path q
    ∙ ap (λ b. cond b None (get places q)) (not_tied q path (eq_by_cmp path_cmp q path) refl (λ same. other (ap Some same)))
elsewhere _ places q other = refl

pub stay_placed : SurvivorsStayPlaced
stay_placed S e p q survives other =
    let same : p ≡ q = let at : Some p ≡ Some q = survives.carried in cc in
    let apart : placed_path e ≢ Some q = λ named. other (named ∙ ap Some (sym same)) in
    elsewhere e (kept (after S e).plain S.top (carried (λ path. Some path) S.places)) q apart
    ∙ get_kept (after S e).plain S.top (carried (λ path. Some path) S.places) q survives.there
    ∙ ap₂ (λ (places : PlacesByPath) path. get places path) (carried_stay S.places) (sym same)

pub only_survivors : OnlySurvivorsArePlaced
only_survivors S e q good some other =
    let moved : PlacesByPath = carried (λ path. Some path) S.places in
    let K : PlacesByPath = kept (after S e).plain S.top moved in
    let Placed : Option Placement → Type 0 = λ o. IsSome o in
    let here : IsSome (get K q) = subst Placed (elsewhere e K q other) some in
    let there : IsTrue (is_leaf_path (after S e).plain S.top q) = kept-placed (after S e).plain S.top moved q here in
    let before : IsSome (get S.places q) =
    subst Placed (get_kept (after S e).plain S.top moved q there ∙ ap (λ (places : PlacesByPath). get places q) (carried_stay S.places)) here
    in
    (q, record { before = good.placed q before; carried = refl; there = there })

-- what holds of each state that an edit leads to holds after edits in order
done_by : (S T : State) (by : By) (e : Edit) (steps : List (By × Edit)) (X : Type 0) (o : Option Refusal) → first_broken (checks S e) ≡ o
    → (first_broken (checks S e) ≡ None → done_in_order (after S e) steps ≡ Some T → X)
    → option_and_then (λ next. done_in_order next steps) (state_of (applied S by e o)) ≡ Some T → X
done_by S T by e steps X None none more is = more none is
done_by S T by e steps X (Some refusal) some more is = let never : None ≡ Some T = is in absurd (cc)

pub stays_good_in_order : StaysGoodInOrder
stays_good_in_order S T [] good is = let same : S ≡ T = cc in subst IsGoodState same good
stays_good_in_order S T (step ∷ steps) good is =
    done_by S T step.0 step.1 steps (IsGoodState T) (first_broken (checks S step.1)) refl
    (λ none rest. stays_good_in_order (after S step.1) T steps (stays_good S step.1 good none) rest) is

pub stay_placed_in_order : SurvivorsStayPlacedInOrder
stay_placed_in_order S T [] p q is survives alone =
    let same : S ≡ T = let at : Some S ≡ Some T = is in cc in
    ap₂ (λ (X : State) path. get X.places path) (sym same) (sym survives)
stay_placed_in_order S T (step ∷ steps) p q is survives alone =
    done_by S T step.0 step.1 steps (get T.places q ≡ get S.places p) (first_broken (checks S step.1)) refl
    (λ none rest.
    stay_placed_in_order (after S step.1) T steps survives.0 q rest survives.1.1 (alone.1 survives.0 survives.1.0.carried)
    ∙ stay_placed S step.1 p survives.0 survives.1.0 alone.0) is
