-- Over a sound table each tree gives a table or has a fault.
use Rattle.std.proofs.Common.{arith, ◌≡◌, ℕ, ◌+◌, ◌-◌, ◌<◌, Bool, List, ◌++◌, length, Option, Some, None, refl, sym, subst, inl, inr, All, AllPairs}
use Rattle.std.specs.Prelude.{◌⊎◌}
use Rattle.emh_base.specs.declared.plain.PInst.{PInst}
use Rattle.emh_base.specs.declared.plain.PModule.{PModule}
use Rattle.emh_base.specs.declared.plain.Plain.{Plain}
use Rattle.flatten_rules.specs.Cycle.{OnCycle, IsFirstOnCycle}
use Rattle.flatten_rules.specs.Sound.{IsSound}
use Rattle.flatten_rules.proofs.Deciding.{some-first}
use Rattle.flatten_rules.proofs.Places.{item-there}
use Rattle.vlog_read.specs.declared.tree.TModule.{TModule}
use Rattle.vlog_read.specs.declared.tree.Tree.{Tree}
use Rattle.vlog_elab.specs.declared.fault.ElabFault.{ElabFault}
use Rattle.vlog_elab.specs.declared.fault.ElabFault.TheVariants.{Fault}
use Rattle.vlog_elab.specs.declared.fault.ElabKind.TheVariants as kind
use Rattle.flatten_rules.specs.Check.{first_broken}
use Rattle.vlog_elab.specs.Named.{numbered}
use Rattle.vlog_elab.specs.Interfaces.{added, interfaces}
use Rattle.vlog_elab.specs.Table.{row, built}
use Rattle.vlog_elab.specs.Elaboration.{Elaborates, HasFault, checks}
use Rattle.vlog_elab.specs.Law.{EachHasSomeAnswer}
use Rattle.vlog_elab.proofs.Rising.{modules_rise, all_insts_rise}
use Rattle.vlog_elab.proofs.Building.{place-within}

module _ (M : Plain) (l : Bool) (tree : Tree) (sound : IsSound M) where
  abbrev new : List TModule
  new = added M tree.modules

  made : (built M l tree).modules ≡ M.modules ++ numbered (row (interfaces M l tree.modules) l) M.next_module (added M tree.modules)
  unfolding built
  made = refl

  rise : AllPairs (λ (a b : PModule). a.id.0 < b.id.0) (built M l tree).modules
  rise =
      subst (λ (rows : List PModule). AllPairs (λ (a b : PModule). a.id.0 < b.id.0) rows) (sym made)
      (modules_rise M (interfaces M l tree.modules) l (added M tree.modules) sound)

  insts : All (λ (m : PModule). AllPairs (λ (a b : PInst). a.id.0 < b.id.0) m.insts) (built M l tree).modules
  insts =
      subst (λ (rows : List PModule). All (λ (m : PModule). AllPairs (λ (a b : PInst). a.id.0 < b.id.0) m.insts) rows) (sym made)
      (all_insts_rise M (interfaces M l tree.modules) l (added M tree.modules) sound)

  -- the third round
  by_cycle : first_broken (checks M l tree) ≡ None → (found : Option ℕ) → IsFirstOnCycle (built M l tree) (length M.modules) found
      → ((plain : Plain) × Elaborates M l tree plain) ⊎ ((fault : ElabFault) × HasFault M l tree fault)
  by_cycle passed None none = inl (built M l tree, record { passed = passed; no_cycle = none; table = refl })
  by_cycle passed (Some at) found =
      let within : at < length M.modules + length (added M tree.modules)
      = place-within M l (interfaces M l tree.modules) tree.modules (built M l tree).modules (OnCycle (built M l tree)) at made found.1 in
      let k : ℕ = at - length M.modules in
      let here : at ≡ length M.modules + k = omega (arith, found.0) in
      let item = item-there (added M tree.modules) k (omega (arith, within, here, found.0)) in
      let m : TModule = item.0 in
      inr (
        Fault kind.Recursive m.name.at m.name.name,
        inr (record {
          passed = passed;
          place = k;
          m = m;
          module_at = item.1;
          first_on_cycle = subst (λ n. IsFirstOnCycle (built M l tree) (length M.modules) (Some n)) here found;
          fault_is = refl;
        }),
      )

  answer : ((plain : Plain) × Elaborates M l tree plain) ⊎ ((fault : ElabFault) × HasFault M l tree fault)
  answer = at (first_broken (checks M l tree)) refl
    where
      at : (o : Option ElabFault) → first_broken (checks M l tree) ≡ o → ((plain : Plain) × Elaborates M l tree plain) ⊎ ((fault : ElabFault) × HasFault M l tree fault)
      at (Some fault) e = inr (fault, inl e)
      at None e = let found = some-first (built M l tree) rise insts (length M.modules) in by_cycle e found.0 found.1

pub some_answer : EachHasSomeAnswer
some_answer M all_leaf tree sound = answer M all_leaf tree sound
