use Rattle.edit_rules.proofs.ApplyLemmas.{looks_at}
use Rattle.edit_rules.proofs.judging.look.Goals as goal

pub returns-in-CreateNet : goal.returns-in-CreateNet
returns-in-CreateNet g c = looks_at (g.F.Facts.state c.args.facts.now) _ _ c.create_net.result c.in-CreateNet.is c.create_net.ensures

pub returns-in-CreatePort : goal.returns-in-CreatePort
returns-in-CreatePort g c = looks_at (g.F.Facts.state c.args.facts.now) _ _ c.create_port.result c.in-CreatePort.is c.create_port.ensures

pub returns-in-CreateInst : goal.returns-in-CreateInst
returns-in-CreateInst g c = looks_at (g.F.Facts.state c.args.facts.now) _ _ c.create_inst.result c.in-CreateInst.is c.create_inst.ensures

pub returns-in-Disconnect : goal.returns-in-Disconnect
returns-in-Disconnect g c = looks_at (g.F.Facts.state c.args.facts.now) _ _ c.disconnect.result c.in-Disconnect.is c.disconnect.ensures
