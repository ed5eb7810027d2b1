-- The ids of the table that is built rise.
use Rattle.std.proofs.Common.{arith, ℕ, ◌<◌, ◌≤◌, ◌++◌, Bool, List, refl}
use Rattle.std.specs.List.{All, AllPairs}
use Rattle.std.proofs.lemmas.List.Elements.{All-append}
use Rattle.emh_base.specs.declared.plain.PInst.{PInst}
use Rattle.emh_base.specs.declared.plain.PModule.{PModule}
use Rattle.emh_base.specs.declared.plain.Plain.{Plain}
use Rattle.flatten_rules.specs.Sound.{IsSound, IsSoundModule}
use Rattle.vlog_read.specs.declared.tree.TModule.{TModule}
use Rattle.vlog_elab.specs.declared.interface.Interface.{Interface}
use Rattle.vlog_elab.specs.Named.{Named, numbered}
use Rattle.vlog_elab.specs.Table.{row, inst_row, insts, nets}
use Rattle.vlog_elab.proofs.Each.{all_weaker, all_numbered, pairs_append, numbered_from, numbered_rise}

-- the modules of a sound table, and numbered ones after them
pub modules_rise : (M : Plain) (fs : Named Interface) (all_leaf : Bool) (new : List TModule) → IsSound M
    → AllPairs (λ (a b : PModule). a.id.0 < b.id.0) (M.modules ++ numbered (row fs all_leaf) M.next_module new)
modules_rise M fs all_leaf new sound =
    let number : PModule → ℕ = λ m. m.id.0 in
    let rows : List PModule = numbered (row fs all_leaf) M.next_module new in
    let from : All (λ m. M.next_module ≤ number m) rows = numbered_from number (row fs all_leaf) (λ n m. refl) M.next_module new in
    pairs_append (λ (a b : PModule). a.id.0 < b.id.0) M.modules rows sound.rise (numbered_rise number (row fs all_leaf) (λ n m. refl) M.next_module new)
    (all_weaker (λ (m : PModule). m.id.0 < M.next_module) (λ (m : PModule). All (λ (b : PModule). m.id.0 < b.id.0) rows) M.modules
    (λ m below. all_weaker (λ (b : PModule). M.next_module ≤ b.id.0) (λ (b : PModule). m.id.0 < b.id.0) rows (λ b above. omega (arith, below, above)) from) sound.below)

-- the instances of a module that is built
pub insts_rise : (fs : Named Interface) (all_leaf : Bool) (id : ℕ) (m : TModule) → AllPairs (λ (a b : PInst). a.id.0 < b.id.0) (row fs all_leaf id m).insts
insts_rise fs all_leaf id m = numbered_rise (λ (i : PInst). i.id.0) (inst_row fs (nets m)) (λ n i. refl) 0 (insts m)

pub all_insts_rise : (M : Plain) (fs : Named Interface) (all_leaf : Bool) (new : List TModule) → IsSound M
    → All (λ (m : PModule). AllPairs (λ (a b : PInst). a.id.0 < b.id.0) m.insts) (M.modules ++ numbered (row fs all_leaf) M.next_module new)
all_insts_rise M fs all_leaf new sound =
    All-append (λ (m : PModule). AllPairs (λ (a b : PInst). a.id.0 < b.id.0) m.insts) M.modules (numbered (row fs all_leaf) M.next_module new)
    (all_weaker (IsSoundModule M) (λ (m : PModule). AllPairs (λ (a b : PInst). a.id.0 < b.id.0) m.insts) M.modules (λ m s. s.insts_rise) sound.modules)
    (all_numbered (λ (m : PModule). AllPairs (λ (a b : PInst). a.id.0 < b.id.0) m.insts) (row fs all_leaf) (λ n m. insts_rise fs all_leaf n m) M.next_module new)
