use Rattle.std.proofs.Common.{◌≡◌, ◌++◌, take}
use Rattle.emh_base.specs.Text.{front_text}
use Rattle.script_read.proofs.put.push_front.Given as goal

abbrev pub invariant-loop-name : goal.invariant-loop-name
invariant-loop-name l = l.line ≡ l.initial.line ++ front_text (take l.name-index l.path)
