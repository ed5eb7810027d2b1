use Rattle.emh_shell.proofs.Placing.{each-edit-keeps, each-turn-keeps}
use Rattle.emh_shell.proofs.laws.each_edit_keeps_placements.Goals as goal

pub returns-clause-lines : goal.returns-clause-lines
returns-clause-lines c = each-edit-keeps

pub returns-clause-turns : goal.returns-clause-turns
returns-clause-turns c = each-turn-keeps
