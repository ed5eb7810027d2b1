-- What soundness says of a module that is looked up.
use Rattle.std.proofs.Common.{◌≡◌, Some, sym}
use Rattle.emh_base.specs.declared.ids.ModId.{ModId}
use Rattle.emh_base.specs.declared.plain.PModule.{PModule}
use Rattle.emh_base.specs.declared.plain.Plain.{Plain}
use Rattle.flatten_rules.specs.Lookup.{module_of}
use Rattle.flatten_rules.specs.Sound.{IsSound, IsSoundModule}
use Rattle.flatten_rules.proofs.Sound.{sound-module}

pub sound-found : (M : Plain) (id : ModId) (m : PModule) → IsSound M → Some m ≡ module_of M id → IsSoundModule M m
sound-found M id m sound found = sound-module M id m sound (sym found)
