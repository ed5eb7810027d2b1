use Rattle.std.proofs.Common.{◌≡◌, ◌++◌, take}
use Rattle.script_read.specs.inside.Line.{steps_text}
use Rattle.script_read.proofs.put.push_steps.Given as goal

abbrev pub invariant-loop-name : goal.invariant-loop-name
invariant-loop-name l = l.line ≡ l.initial.line ++ steps_text (take l.name-index l.names)
