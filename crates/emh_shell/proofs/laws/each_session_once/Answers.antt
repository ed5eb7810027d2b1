use Rattle.emh_shell.proofs.OncePlay.{each-once}
use Rattle.emh_shell.proofs.laws.each_session_once.Goals as goal

pub returns : goal.returns
returns c = each-once
