use Rattle.std.proofs.Common.{◌≡◌, ◌∙◌, sym}
use Rattle.script_read.specs.declared.lines.Says.TheVariants.{Asks}
use Rattle.script_read.proofs.laws.each_line_asks_once.Goals as goal

pub returns : goal.returns
returns c = λ line words others command other one two.
    let same : Asks words command ≡ Asks others other = sym one ∙ two in (cc, cc)
