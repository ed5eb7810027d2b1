use Rattle.edit_rules.proofs.insts.connect.Goals as goal

pub returns : goal.returns
returns c = rw (← c.in_ok-copy.ensures) c.with_conn.ensures
