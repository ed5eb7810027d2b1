use Rattle.edit_rules.proofs.insts.with_conn.Goals as goal

pub returns : goal.returns
returns c = rw (← c.place_at_inst-place.ensures) c.with_inst.ensures
