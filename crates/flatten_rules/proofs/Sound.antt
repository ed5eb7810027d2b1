use Rattle.std.proofs.Common.{◌≡◌, ◌==◌, Bool, true, false, cond, List, [], ◌∷◌, Option, Some, None, find, IsSome, MatchOption, All, refl, subst}
use Rattle.std.proofs.lemmas.List.Elements.{All-tail, All-head}
use Rattle.emh_base.specs.declared.ids.ModId.{ModId}
use Rattle.emh_base.specs.declared.plain.PInst.{PInst}
use Rattle.emh_base.specs.declared.plain.PModule.{PModule}
use Rattle.emh_base.specs.declared.plain.Plain.{Plain}
use Rattle.flatten_rules.specs.Lookup.{module_of}
use Rattle.flatten_rules.specs.Sound.{IsSound, IsSoundModule, HasMaster, FitPorts}

one-found : {X : Type 0} (P : X → Type 0) (b : Bool) (y x : X) (rest : Option X) → P y → (rest ≡ Some x → P x) → cond b (Some y) rest ≡ Some x → P x
one-found P true y x rest here there e = let same : y ≡ x = cc in subst P same here
one-found P false y x rest here there e = there e

-- what holds of each item holds of the one that is found
pub All-find : {X : Type 0} (P : X → Type 0) (p : X → Bool) (xs : List X) (x : X) → All P xs → find p xs ≡ Some x → P x
All-find P p [] x all e = let never : None ≡ Some x = e in absurd (cc)
All-find P p (y ∷ ys) x all e = one-found P (p y) y x (find p ys) (All-head P y ys all) (All-find P p ys x (All-tail P y ys all)) e

pub sound-module : (M : Plain) (id : ModId) (m : PModule) → IsSound M → module_of M id ≡ Some m → IsSoundModule M m
sound-module M id m sound found = All-find (IsSoundModule M) (λ x. x.id.0 == id.0) M.modules m sound.modules found

there-by_match : (m : PModule) (inst : PInst) (found : Option PModule) → MatchOption found ⊥ (λ master. FitPorts m master master.ports inst.conns) → IsSome found
there-by_match m inst None fits = absurd fits
there-by_match m inst (Some master) fits = refl

pub master-there : (M : Plain) (m : PModule) (inst : PInst) → HasMaster M m inst → IsSome (module_of M inst.master)
master-there M m inst has = there-by_match m inst (module_of M inst.master) has
