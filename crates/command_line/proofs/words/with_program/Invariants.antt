use Rattle.std.proofs.Common.{◌≡◌, ◌∷◌, map, take, codes, string_bytes}
use Rattle.command_line.proofs.words.with_program.Given as goal

-- The words so far stand behind the program's name.
abbrev pub invariant-loop-word : goal.invariant-loop-word
invariant-loop-word l = map (λ word. word.now) l.all.items ≡ codes "emhdb" ∷ map string_bytes (take l.word-index l.words)
