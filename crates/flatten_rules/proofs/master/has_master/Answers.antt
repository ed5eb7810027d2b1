use Rattle.std.proofs.Common.{◌==◌, sym}
use Rattle.emh_base.specs.declared.plain.PModule.{PModule}
use Rattle.flatten_rules.specs.Checks.{HasNets}
use Rattle.flatten_rules.proofs.Sound.{All-find}
use Rattle.flatten_rules.proofs.master.has_master.Goals as goal

pub fit_ports-requires-clause-master : goal.fit_ports-requires-clause-master
fit_ports-requires-clause-master c =
    All-find HasNets (λ (m : PModule). m.id.0 == c.args.inst.now.master.0) c.args.plain.now.modules c.in-Some.master.now c.requires.nets (sym c.in-Some.ensures)
