use Rattle.std.proofs.Common.{◌≡◌, drop}
use Rattle.word_table.specs.Causes.{of_code, pointed_to}
use Rattle.word_table.proofs.cause.cause_name.Given as goal

-- the first cause of that number is the first of those that are left
abbrev pub invariant-loop-number : goal.invariant-loop-number
invariant-loop-number l =
    of_code l.code (pointed_to (drop l.number-index l.number-items)) ≡ of_code l.code (pointed_to l.number-items)
