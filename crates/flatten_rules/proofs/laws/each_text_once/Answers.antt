use Rattle.flatten_rules.proofs.TextLaws as texts
use Rattle.flatten_rules.proofs.laws.each_text_once.Goals as goal

pub returns : goal.returns
returns c = texts.each_text_once
