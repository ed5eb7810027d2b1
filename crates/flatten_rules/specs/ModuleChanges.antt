-- The table after an edit of a module.
use Rattle.std.specs.Prelude.{ℕ, ◌==◌, Bool, false, not, List, [], filter}
use Rattle.emh_base.specs.declared.ids.ModId.{ModId}
use Rattle.emh_base.specs.declared.plain.PModule.{PModule}
use Rattle.emh_base.specs.declared.plain.Plain.{Plain}
use Rattle.flatten_rules.specs.Changes.{with_module, with_last_module}

-- CreateModule: a new module without content

abbrev pub empty_module : ℕ → List ℕ → PModule
empty_module id name = record {
  id = record { 0 = id };
  name = name;
  leaf = false;
  locked = false;
  nets = [];
  ports = [];
  insts = [];
  next_net = 0;
  next_inst = 0;
}

abbrev pub create_module : Plain → List ℕ → Plain
create_module M name = with_last_module M (empty_module M.next_module name)

-- DeleteModule: the module goes with its content

abbrev pub delete_module : Plain → ModId → Plain
delete_module M m = record M { modules = filter (λ other. not (other.id.0 == m.0)) M.modules }

-- RenameModule: a new name

abbrev pub rename_module : Plain → ModId → List ℕ → Plain
rename_module M m name = with_module M m (λ holder. record holder { name = name })

-- Lock and Unlock: the lock is set or cleared

abbrev pub with_lock : Plain → ModId → Bool → Plain
with_lock M m locked = with_module M m (λ holder. record holder { locked = locked })
