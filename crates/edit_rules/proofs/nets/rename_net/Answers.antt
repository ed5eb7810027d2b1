use Rattle.edit_rules.proofs.nets.rename_net.Goals as goal

pub returns : goal.returns
returns c = rw (← c.in_ok-copy.ensures) c.with_module.ensures
