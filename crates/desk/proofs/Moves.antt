-- States that are moved from list to list stay good.
use Rattle.std.proofs.Common.{◌≡◌, List, [], ◌∷◌, ◌++◌, false, true, Option, Some, None, IsSome, subst, sym, ap, ◌∙◌}
use Rattle.std.specs.List.{AllByRecursion}
use Rattle.std.specs.Option.{ForSome}
use Rattle.std.specs.FinMap.{get, empty, get-empty}
use Rattle.emh_base.specs.Path.{path_cmp}
use Rattle.emh_base.specs.Places.{PlacesByPath}
use Rattle.emh_base.specs.declared.ids.ModId.{ModId}
use Rattle.emh_base.specs.declared.placement.Placement.{Placement}
use Rattle.emh_base.specs.declared.plain.Plain.{Plain}
use Rattle.emh_base.specs.declared.state.State.{State}
use Rattle.flatten_rules.specs.Design.{IsGood}
use Rattle.edit_rules.specs.Good.{IsGoodState}

pub good-push : (xs : List State) (x : State) → AllByRecursion IsGoodState xs → IsGoodState x → AllByRecursion IsGoodState (xs ++ x ∷ [])
good-push [] x all here = (here, tt)
good-push (y ∷ xs) x all here = (all.0, good-push xs x all.1 here)

good-front : (xs : List State) (x : State) → AllByRecursion IsGoodState (xs ++ x ∷ []) → AllByRecursion IsGoodState xs
good-front [] x all = tt
good-front (y ∷ xs) x all = (all.0, good-front xs x all.1)

good-last : (xs : List State) (x : State) → AllByRecursion IsGoodState (xs ++ x ∷ []) → IsGoodState x
good-last [] x all = all.0
good-last (y ∷ xs) x all = good-last xs x all.1

abbrev AllGood : List State → Type 0
AllGood xs = AllByRecursion IsGoodState xs

-- the last of one list becomes the present state, and what was present the last of the other
pub good-moved : (s x : State) (from rest to more : List State) → from ≡ rest ++ x ∷ [] → more ≡ to ++ s ∷ []
    → IsGoodState s → AllByRecursion IsGoodState from → AllByRecursion IsGoodState to
    → IsGoodState x × AllByRecursion IsGoodState rest × AllByRecursion IsGoodState more
good-moved s x from rest to more split joined now all others =
    let parts : AllGood (rest ++ x ∷ []) = subst AllGood split all in
    (good-last rest x parts, good-front rest x parts, subst AllGood (sym joined) (good-push to s others now))

-- the state before a command is good
pub good-base : (base : Option State) (s : State) → base ≡ Some s → ForSome base IsGoodState → IsGoodState s
good-base base s is good = good s is

pub good-none : (base : Option State) → base ≡ None → ForSome base IsGoodState
good-none base none s some = let never : None ≡ Some s = sym none ∙ some in absurd (cc)

pub good-some : (now base : State) → base ≡ now → IsGoodState now → ForSome (Some base) IsGoodState
good-some now base is good s some =
    let same : now ≡ s = let at : Some base ≡ Some s = some in cc in
    subst IsGoodState same good

-- where nothing is placed or set, a state is as good as its table
pub good-bare : (M : Plain) (top : ModId) (places : PlacesByPath) → places ≡ empty → IsGood M top
    → IsGoodState (record { plain = M; top = top; places = places; settings = record { fanout = None; grid = None } })
good-bare M top places none good = record {
  table = good;
  placed = λ path some.
      let nowhere : get places path ≡ None = ap (λ (all : PlacesByPath). get all path) none ∙ get-empty {X = Placement} path_cmp path in
      let never : false ≡ true = subst (λ (o : Option Placement). IsSome o) nowhere some in
      absurd (cc);
  fanout = λ limit set. let never : None ≡ Some limit = set in absurd (cc);
  grid = λ width set. let never : None ≡ Some width = set in absurd (cc);
}
