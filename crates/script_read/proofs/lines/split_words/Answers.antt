use Rattle.std.proofs.Common.{refl, rules}
use Rattle.std.specs.List.{slice_split}
use Rattle.std.proofs.lemmas.Iterator.Consumers.{map_from_collect, YieldsList-from_filter}
use Rattle.std.proofs.lemmas.Iterator.Splits.{YieldsList-from_slice_split}
use Rattle.script_read.specs.Written.{is_some_word}
use Rattle.script_read.specs.Script.{is_blank}
use Rattle.script_read.proofs.lines.split_words.Goals as goal

pub returns : goal.returns
returns c =
    map_from_collect _ c.collect.ensures.ran
    (YieldsList-from_filter {ys = slice_split is_blank c.args.text.now} _ is_some_word
    (YieldsList-from_slice_split _ is_blank c.args.text.now (rw c.filter.ensures.source c.split.ensures.rest) (rw c.filter.ensures.source c.split.ensures.done) refl (λ x b q called. search rules))
    c.filter.ensures.closure (λ x b q called. search rules))
