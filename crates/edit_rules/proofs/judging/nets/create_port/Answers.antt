use Rattle.edit_rules.proofs.judging.nets.create_port.Goals as goal

pub returns : goal.returns
returns g c = c.new_net.ensures.port c.args.dir
