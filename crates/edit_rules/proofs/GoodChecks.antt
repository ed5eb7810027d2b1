-- What it says that no rule of an edit is broken.
use Rattle.std.proofs.Common.{◌≡◌, Bool, true, false, cond, not, List, ◌∷◌, ◌++◌, Option, Some, None, is_some, refl, sym, ap, ◌∙◌, true≢false}
use Rattle.emh_base.specs.declared.ids.ModId.{ModId}
use Rattle.emh_base.specs.declared.plain.PModule.{PModule}
use Rattle.emh_base.specs.declared.state.State.{State}
use Rattle.emh_base.specs.declared.rule.Refusal.{Refusal}
use Rattle.flatten_rules.specs.Lookup.{module_of}
use Rattle.flatten_rules.specs.Domains.{is_leaf}
use Rattle.flatten_rules.specs.Check.{first_broken}
use Rattle.edit_rules.specs.Check.{Check}
use Rattle.edit_rules.specs.Modules.{common}

none-head : (b : Bool) (r : Refusal) (rest : Option Refusal) → cond b (Some r) rest ≡ None → (b ≡ false) × (rest ≡ None)
none-head true r rest e = let never : Some r ≡ None = e in absurd (cc)
none-head false r rest e = (refl, e)

-- no rule of some is broken
pub record Passes (cs : List Check) : Type 0 where
  pub none : first_broken cs ≡ None

-- the first rule isn't broken, and none after it is
pub first-passes : {c : Check} {cs : List Check} → Passes (c ∷ cs) → (c.0 ≡ false) × Passes cs
first-passes {c} {cs} p = let e = none-head c.0 c.1 (first_broken cs) p.none in (e.0, record { none = e.1 })

-- what isn't missing is there
pub there : {X : Type 0} (o : Option X) → not (is_some o) ≡ false → (x : X) × (o ≡ Some x)
there None e = absurd (true≢false e)
there (Some x) e = (x, refl)

pub not-false : (b : Bool) → not b ≡ false → b ≡ true
not-false true e = refl
not-false false e = absurd (true≢false e)

-- the module of an edit is there, and is no leaf
pub record Opened (S : State) (m : ModId) : Type 0 where
  pub holder : PModule
  pub found : module_of S.plain m ≡ Some holder
  pub inner : holder.leaf ≡ false

pub opened : (S : State) (m : ModId) → not (is_some (module_of S.plain m)) ≡ false → is_leaf (module_of S.plain m) ≡ false → Opened S m
opened S m here inner =
    let found = there (module_of S.plain m) here in
    record { holder = found.0; found = found.1; inner = sym (ap is_leaf found.1) ∙ inner }

pub common-passes : (S : State) (m : ModId) {rest : List Check} → Passes (common S m ++ rest) → Opened S m × Passes rest
common-passes S m p =
    let a = first-passes p in
    let b = first-passes a.1 in
    let c = first-passes b.1 in
    (opened S m a.0 b.0, c.1)
