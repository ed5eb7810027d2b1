-- The first words of the lines of a script, in the order of bytes: of the commands that are built and of those to come.
-- It is shut: an answer that reads the words opens it by `unfolding line_texts`.
use Rattle.std.specs.Prelude.{ℕ, List, [], ◌∷◌, codes}

unfoldable pub line_texts : List (List ℕ)
line_texts =
    codes "at" ∷ codes "begin" ∷ codes "cells" ∷ codes "check" ∷ codes "churn" ∷ codes "compare" ∷
    codes "connect" ∷ codes "create_inst" ∷ codes "create_module" ∷ codes "create_net" ∷
    codes "create_port" ∷ codes "delete_inst" ∷ codes "delete_module" ∷ codes "delete_net" ∷
    codes "delete_port" ∷ codes "disconnect" ∷ codes "drop" ∷ codes "eco" ∷ codes "end" ∷
    codes "fill" ∷ codes "generate" ∷ codes "group" ∷ codes "ignore" ∷ codes "keep" ∷
    codes "legal" ∷ codes "load" ∷ codes "lock" ∷ codes "observe" ∷ codes "place" ∷ codes "redo" ∷
    codes "rename_inst" ∷ codes "rename_module" ∷ codes "rename_net" ∷ codes "report" ∷
    codes "resize" ∷ codes "set_fanout" ∷ codes "set_grid" ∷ codes "undo" ∷ codes "ungroup" ∷
    codes "uniquify" ∷ codes "unlock" ∷ codes "unplace" ∷ codes "write" ∷ []
