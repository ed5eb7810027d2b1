use Rattle.std.proofs.Common.{◌≡◌, ◌∷◌, ◌∙◌, ap, map, codes, sym, string_bytes}
use Rattle.std.proofs.lemmas.Result.{IfOk-weaker}
use Rattle.command_line.proofs.Values.{asked-matched, asked-none}
use Rattle.command_line.proofs.words.ask.Goals as goal

pub returns-in-Ok-clause-asked : goal.returns-in-Ok-clause-asked
returns-in-Ok-clause-asked c =
    let line : map (λ s. s.now) c.as_slice.result.now ≡ codes "emhdb" ∷ map string_bytes c.args.words.now = ap (map (λ s. s.now)) c.as_slice.ensures.value ∙ c.in_ok-words.ensures in
    IfOk-weaker c.asked_by.result _ _ (λ ask is. is ∙ asked-matched _ _ (map string_bytes c.args.words.now) c.in-Ok.matches c.in_ok-command.ensures line c.in-Ok.ensures.matches c.in-Ok.ensures.kinds) c.asked_by.ensures.asked

pub returns-clause-asked : goal.returns-clause-asked
returns-clause-asked c =
    let line : map (λ s. s.now) c.as_slice.result.now ≡ codes "emhdb" ∷ map string_bytes c.args.words.now = ap (map (λ s. s.now)) c.as_slice.ensures.value ∙ c.in_ok-words.ensures in
    sym (asked-none _ _ (map string_bytes c.args.words.now) c.in-Err.error c.in_ok-command.ensures line c.in-Err.ensures.kinds (λ memory. c.in_default.not-OutOfMemory (c.kind.ensures ∙ memory)))
