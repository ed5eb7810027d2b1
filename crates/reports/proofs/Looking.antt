-- What look-ups of words find.
use Rattle.std.proofs.Common.{◌≡◌, ℕ, Bool, true, false, cond, List, [], ◌∷◌, ◌++◌, Option, Some, None, is_some, IsTrue, Ok, refl, sym, ap, ◌∙◌}
use Rattle.emh_base.specs.declared.ids.ModId.{ModId}
use Rattle.emh_base.specs.declared.ids.InstId.{InstId}
use Rattle.emh_base.specs.declared.plain.PModule.{PModule}
use Rattle.emh_base.specs.declared.plain.Plain.{Plain}
use Rattle.emh_base.specs.declared.rule.Rule.{Rule}
use Rattle.flatten_rules.specs.Lookup.{module_of}
use Rattle.flatten_rules.specs.Unfolding.{module_up}
use Rattle.flatten_rules.proofs.Walks.{up-own}
use Rattle.edit_rules.specs.Readers.{is_module}
use Rattle.script_read.specs.Resolve.{at_word}
use Rattle.reports.specs.NetBit.{inner_id}

-- what a word names is what was found
pub named-found : {A : Type 0} (rule : Rule) (place : ℕ) (found : Option A) (a : A) → at_word rule place found ≡ Ok a → found ≡ Some a
named-found rule place None a is = absurd (cc)
named-found rule place (Some x) a is = let same : x ≡ a = cc in ap Some same

inner-is : (leaf : Bool) (id at : ModId) → cond leaf None (Some id) ≡ Some at → id ≡ at
inner-is true id at is = absurd (cc)
inner-is false id at is = cc

-- the module of an occurrence is there
pub inner-live : (M : Plain) (top : ModId) (up : List InstId) (m : PModule) (id : ModId) → module_up M top up ≡ Some m → inner_id (Some m) ≡ Some id → IsTrue (is_module M id)
inner-live M top up m id there is =
    let found : module_of M m.id ≡ Some m = up-own M top up m there in
    let same : m.id ≡ id = inner-is m.leaf m.id id is in
    ap (λ i. is_some (module_of M i)) (sym same) ∙ ap is_some found

-- no occurrence is below one that isn't there
pub none-below : (M : Plain) (top : ModId) (more up : List InstId) → module_up M top up ≡ None → module_up M top (more ++ up) ≡ None
unfolding module_up
none-below M top [] up none = none
none-below M top (i ∷ more) up none = rw (none-below M top more up none) refl
