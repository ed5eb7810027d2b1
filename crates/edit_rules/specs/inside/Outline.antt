-- The outline of a table: its modules with their nets and the masters of their instances, without
-- names, ports and connections. Walks of instances and net bits are the same in it.
use Rattle.std.specs.Prelude.{◌≡◌, ℕ, ◌==◌, false, if◌then◌else◌, List, [], map}
use Rattle.emh_base.specs.declared.ids.ModId.{ModId}
use Rattle.emh_base.specs.declared.plain.PNet.{PNet}
use Rattle.emh_base.specs.declared.plain.PInst.{PInst}
use Rattle.emh_base.specs.declared.plain.PModule.{PModule}
use Rattle.emh_base.specs.declared.plain.Plain.{Plain}
use Rattle.flatten_rules.specs.Lookup.{module_of, insts_of}
use Rattle.flatten_rules.specs.Limits.{bits_of}
use Rattle.edit_rules.specs.Insts.{with_inst_alone}

-- an instance of the same master and a net of the same range, under another name
abbrev pub bare_inst : List ℕ → PInst → PInst
bare_inst name inst = record { id = inst.id; name = name; master = inst.master; conns = [] }

abbrev pub bare_net : List ℕ → PNet → PNet
bare_net name net = record { id = net.id; name = name; range = net.range }

abbrev pub bare : List ℕ → PModule → PModule
bare name m = record {
  id = m.id;
  name = name;
  leaf = m.leaf;
  locked = false;
  nets = map (bare_net name) m.nets;
  ports = [];
  insts = map (bare_inst name) m.insts;
  next_net = 0;
  next_inst = 0;
}

abbrev pub outline : List ℕ → Plain → Plain
outline name M = record { modules = map (bare name) M.modules; next_module = 0 }

-- with an instance of a master more in one module
abbrev pub grown : List ℕ → ModId → ModId → PModule → PModule
grown name id master m =
    if m.id.0 == id.0 then with_inst_alone name master [] (bare name m) else bare name m

abbrev pub grown_outline : List ℕ → ModId → ModId → Plain → Plain
grown_outline name id master M = record {
  modules = map (grown name id master) M.modules;
  next_module = 0;
}

-- two tables in which walks of instances and net bits are the same
pub record IsAlike (A B : Plain) : Type 0 where
  pub ids : map (λ (m : PModule). m.id) A.modules ≡ map (λ (m : PModule). m.id) B.modules
  pub masters : (x : ModId) → map (λ (inst : PInst). inst.master) (insts_of (module_of A x))
      ≡ map (λ (inst : PInst). inst.master) (insts_of (module_of B x))
  pub bits : (x : ModId) → bits_of (module_of A x) ≡ bits_of (module_of B x)
