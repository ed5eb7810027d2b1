-- Modules that a look-up finds are there.
use Rattle.std.proofs.Common.{◌≡◌, refl, ◌∙◌, ap, ℕ, ◌==◌, Bool, true, false, List, [], ◌∷◌, find, is_some, Option, Some, None, option_map, IsTrue, bytes_eq, arith, if◌then◌else◌}
use Rattle.std.proofs.lemmas.Bool.{both_ways}
use Rattle.std.proofs.lemmas.Bool.Decides.{nat_tests}
use Rattle.emh_base.specs.declared.ids.ModId.{ModId}
use Rattle.emh_base.specs.declared.plain.PModule.{PModule}
use Rattle.emh_base.specs.declared.plain.Plain.{Plain}
use Rattle.emh_base.specs.declared.state.State.{State}
use Rattle.flatten_rules.specs.Lookup.{module_of}
use Rattle.edit_rules.specs.Readers.{is_module}
use Rattle.edit_rules.specs.Facts.{module_named}

own : (n : ℕ) → (n == n) ≡ true
own n = grind (arith, nat_tests)

-- what one test finds, another that it passes finds something too
step : (here passes : Bool) (x m : PModule) (rest others : Option PModule) → (if here then Some x else rest) ≡ Some m
    → (x ≡ m → passes ≡ true) → (rest ≡ Some m → is_some others ≡ true)
    → is_some (if passes then Some x else others) ≡ true
step here true x m rest others same now later = refl
step true false x m rest others same now later = absurd (let e : x ≡ m = cc in both_ways false refl (now e))
step false false x m rest others same now later = later same

found_again : (p q : PModule → Bool) (ms : List PModule) (m : PModule) → find p ms ≡ Some m → q m ≡ true
    → is_some (find q ms) ≡ true
found_again p q [] m same passes = absurd (cc)
found_again p q (x ∷ ms) m same passes =
    step (p x) (q x) x m (find p ms) (find q ms) same (λ e. ap q e ∙ passes) (λ rest. found_again p q ms m rest passes)

by_found : (M : Plain) (p : PModule → Bool) (id : ModId) (found : Option PModule) → find p M.modules ≡ found
    → option_map (λ (m : PModule). m.id) found ≡ Some id → IsTrue (is_module M id)
by_found M p id None at same = absurd (cc)
by_found M p id (Some m) at same =
    let e : m.id ≡ id = cc in
    found_again p (λ x. x.id.0 == id.0) M.modules m at (ap (λ (i : ModId). i.0 == id.0) e ∙ own id.0)

pub named_live : (S : State) (name : List ℕ) (id : ModId) → module_named S name ≡ Some id → IsTrue (is_module S.plain id)
named_live S name id same = by_found S.plain (λ m. bytes_eq m.name name) id (find (λ m. bytes_eq m.name name) S.plain.modules) refl same
