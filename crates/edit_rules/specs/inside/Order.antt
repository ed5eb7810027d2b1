-- What look-ups by number rest on.
use Rattle.std.specs.Prelude.{◌<◌, All, AllPairs}
use Rattle.emh_base.specs.declared.plain.PInst.{PInst}
use Rattle.emh_base.specs.declared.plain.PModule.{PModule}
use Rattle.emh_base.specs.declared.plain.Plain.{Plain}

-- modules, and the instances of each, stand in rising order of their ids
pub record InOrder (M : Plain) : Type 0 where
  pub modules : AllPairs (λ (a b : PModule). a.id.0 < b.id.0) M.modules
  pub insts : All (λ (m : PModule). AllPairs (λ (a b : PInst). a.id.0 < b.id.0) m.insts) M.modules
