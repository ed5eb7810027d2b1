-- What it says that a module may be a top.
use Rattle.std.proofs.Common.{◌≡◌, Bool, true, false, Some, sym, subst, refl, ◌==◌, cond, Option, None}
use Rattle.std.specs.Prelude.{List, ℕ}
use Rattle.emh_base.specs.declared.plain.PModule.{PModule}
use Rattle.emh_base.specs.declared.plain.Plain.{Plain}
use Rattle.flatten_rules.specs.Lookup.{module_of}
use Rattle.flatten_rules.specs.Design.{IsInner, IsGood, module_named}
use Rattle.flatten_rules.specs.Sound.{IsSound}
use Rattle.flatten_rules.specs.Check.{first_broken}
use Rattle.flatten_rules.specs.Limits.{is_too_deep, has_too_many_occurrences, has_too_many_bits}
use Rattle.flatten_rules.proofs.Sound.{All-find}
use Rattle.flatten_rules.proofs.Walks.{find-own}
use Rattle.flatten_rules.proofs.LimitTests.{within_tests}
use Rattle.edit_rules.specs.Opening.{top_rules}

none-told : {X : Type 0} (b : Bool) (x : X) (rest : Option X) → cond b (Some x) rest ≡ None → (b ≡ false) × (rest ≡ None)
none-told true x rest e = let never : Some x ≡ None = e in absurd (cc)
none-told false x rest e = (refl, e)

-- a module that nothing refuses makes a good design
pub good-top : (M : Plain) (name : List ℕ) (m : PModule) → IsSound M → module_named M name ≡ Some m → first_broken (top_rules M m) ≡ None → IsGood M m.id
good-top M name m sound named none =
    let a = none-told m.leaf _ _ none in
    let b = none-told (is_too_deep M) _ _ a.1 in
    let c = none-told (has_too_many_occurrences M m.id) _ _ b.1 in
    let d = none-told (has_too_many_bits M m.id) _ _ c.1 in
    let Own : PModule → Type 0 = λ x. module_of M x.id ≡ Some x in
    let own : Own m =
    All-find Own _ M.modules m (λ k e within. find-own (λ (x : PModule). x.id.0) M.modules sound.rise k e within) named
    in
    record {
      sound = sound;
      inner = subst IsInner (sym own) a.0;
      within = (within_tests M m.id sound).1 (b.0, c.0, d.0);
    }
