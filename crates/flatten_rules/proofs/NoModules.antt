-- The table without modules is sound.
use Rattle.std.proofs.Common.{◌≡◌, Option, Some, None, refl, sym, ◌∙◌, arith}
use Rattle.std.specs.Prelude.{option_and_then}
use Rattle.std.specs.List.{IsDistinct}
use Rattle.emh_base.specs.declared.plain.PInst.{PInst}
use Rattle.emh_base.specs.declared.plain.PModule.{PModule}
use Rattle.flatten_rules.specs.Lookup.{module_of, inst_of, no_modules}
use Rattle.flatten_rules.specs.Unfolding.{module_up}
use Rattle.flatten_rules.specs.Cycle.{OnCycle}
use Rattle.flatten_rules.specs.Sound.{IsSound}

no-master : (found : Option PInst) → option_and_then (λ (inst : PInst). module_of no_modules inst.master) found ≡ None
no-master None = refl
no-master (Some inst) = refl

no-cycle : (m : PModule) → OnCycle no_modules m → ⊥
unfolding module_up
no-cycle m (i, up, e) =
    let never = sym e ∙ no-master (option_and_then (λ (n : PModule). inst_of n i) (module_up no_modules m.id up)) in
    cc

pub sound-no_modules : IsSound no_modules
unfolding IsDistinct
sound-no_modules = record {
  names = tt;
  rise = λ i j d below within. absurd (omega arith);
  below = λ k d within. absurd (omega arith);
  counter = omega arith;
  modules = λ k d within. absurd (omega arith);
  no_cycle = no-cycle;
}
