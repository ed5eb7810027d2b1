-- The edits of modules: for each the rules in the order in which they are looked at. The table
-- after each is that of ModuleChanges.
use Rattle.std.specs.Prelude.{ℕ, ◌==◌, not, nat_lt, List, [], ◌∷◌, ◌++◌}
use Rattle.emh_base.specs.declared.ids.ModId.{ModId}
use Rattle.emh_base.specs.declared.state.State.{State}
use Rattle.emh_base.specs.declared.rule.Rule.TheVariants.{NoSuchModule, NameTaken, ModuleInUse, IsTop, IsCell, Locked, TooManyObjects, SameLock}
use Rattle.emh_base.specs.declared.rule.Object.TheVariants.{Module, NewName}
use Rattle.flatten_rules.specs.Lookup.{module_of}
use Rattle.flatten_rules.specs.Domains.{is_leaf}
use Rattle.edit_rules.specs.Check.{Check, check}
use Rattle.edit_rules.specs.Readers.{is_module, is_locked, is_module_name, lacks_room, users}
pub use Rattle.flatten_rules.specs.ModuleChanges.{empty_module, create_module, delete_module, rename_module, with_lock}

-- what is looked at first in each edit inside a module
abbrev pub common : State → ModId → List Check
common S m =
    check NoSuchModule (Module m) (not (is_module S.plain m))
    ∷ check IsCell (Module m) (is_leaf (module_of S.plain m))
    ∷ check Locked (Module m) (is_locked (module_of S.plain m))
    ∷ []

-- CreateModule: a new module without content

abbrev pub create_module_rules : State → List ℕ → List Check
create_module_rules S name =
    check NameTaken NewName (is_module_name S.plain name)
    ∷ check TooManyObjects NewName (lacks_room S.plain.next_module 1)
    ∷ []

-- DeleteModule: removes it with its content

abbrev pub delete_module_rules : State → ModId → List Check
delete_module_rules S m =
    check NoSuchModule (Module m) (not (is_module S.plain m))
    ∷ check IsCell (Module m) (is_leaf (module_of S.plain m))
    ∷ check IsTop (Module m) (S.top.0 == m.0)
    ∷ check Locked (Module m) (is_locked (module_of S.plain m))
    ∷ check ModuleInUse (Module m) (nat_lt 0 (users S.plain m))
    ∷ []

-- RenameModule: a new name

abbrev pub rename_module_rules : State → ModId → List ℕ → List Check
rename_module_rules S m name =
    common S m ++ check NameTaken NewName (is_module_name S.plain name) ∷ []

-- Lock and Unlock: the lock is set or cleared

abbrev pub lock_rules : State → ModId → List Check
lock_rules S m =
    check NoSuchModule (Module m) (not (is_module S.plain m))
    ∷ check IsCell (Module m) (is_leaf (module_of S.plain m))
    ∷ check SameLock (Module m) (is_locked (module_of S.plain m))
    ∷ []

abbrev pub unlock_rules : State → ModId → List Check
unlock_rules S m =
    check NoSuchModule (Module m) (not (is_module S.plain m))
    ∷ check IsCell (Module m) (is_leaf (module_of S.plain m))
    ∷ check SameLock (Module m) (not (is_locked (module_of S.plain m)))
    ∷ []
