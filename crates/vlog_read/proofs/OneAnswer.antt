-- All tokens spell one tree or have one fault.
use Rattle.std.proofs.Common.{◌≡◌, ◌⊎◌, refl, ℕ, List, inl, inr}
use Rattle.std.specs.Prelude.{Result, Ok, Err, IfOk, IfErr, MatchResult}
use Rattle.vlog_lex.specs.declared.token.Token.{Token}
use Rattle.vlog_read.specs.declared.tree.Tree.{Tree}
use Rattle.vlog_read.specs.declared.fault.ParseFault.{ParseFault}
use Rattle.vlog_read.specs.declared.fault.ParseFault.TheVariants.{Unexpected, Unsupported, NoMemory}
use Rattle.vlog_read.specs.Sentence.{Spells, HasFault}
use Rattle.vlog_read.specs.Law.{EachHasOneAnswer}
use Rattle.vlog_read.specs.Found.{UnlessNoMemory}
use Rattle.vlog_read.specs.inside.Machine.Step.{read, start}
use Rattle.vlog_read.specs.inside.Machine.Reads.{Gives}
use Rattle.vlog_read.proofs.Spelled.Modules.{spelled}
use Rattle.vlog_read.proofs.Sentences.{read_spelled, read_fault, fault_read}

one_tree : (len : ℕ) (T : List Token) (tree other : Tree) → Spells tree T → Spells other T → tree ≡ other
one_tree len T tree other is also =
    let this = spelled len tree T is in
    let that = spelled len other T also in
    cc

one_fault : (len : ℕ) (T : List Token) (fault other : ParseFault) → HasFault len T fault → HasFault len T other
    → fault ≡ other
one_fault len T fault other is also =
    let this = fault_read len T fault is in
    let that = fault_read len T other also in
    cc

not_both : (len : ℕ) (T : List Token) (tree : Tree) (fault : ParseFault) → Spells tree T → HasFault len T fault → ⊥
not_both len T tree fault is also =
    let this = spelled len tree T is in
    let that = fault_read len T fault also in
    cc

some : (len : ℕ) (T : List Token) (result : Result Tree ParseFault) → read len start T ≡ result
    → ((tree : Tree) × Spells tree T) ⊎ ((fault : ParseFault) × HasFault len T fault)
some len T (Ok tree) is = inl (tree, read_spelled len tree T is)
some len T (Err fault) is = inr (fault, read_fault len T fault is)

pub law : EachHasOneAnswer
law len T = record {
  some = some len T (read len start T) refl;
  not_both = not_both len T;
  one_tree = one_tree len T;
  one_fault = one_fault len T;
}

-- what was answered is what the tokens have
pub is_tree : (len : ℕ) (T : List Token) (result : Result Tree ParseFault) → Gives len T result
    → IfOk result (λ tree. Spells tree T)
is_tree len T (Ok tree) gives = read_spelled len tree T gives
is_tree len T (Err fault) gives = tt

pub is_fault : (len : ℕ) (T : List Token) (result : Result Tree ParseFault) → Gives len T result
    → IfErr result (UnlessNoMemory (HasFault len T))
is_fault len T (Ok tree) gives = tt
is_fault len T (Err (Unexpected at)) gives = read_fault len T (Unexpected at) (gives refl)
is_fault len T (Err (Unsupported at word)) gives = read_fault len T (Unsupported at word) (gives refl)
is_fault len T (Err NoMemory) gives = tt

pub each_tree : (len : ℕ) (T : List Token) (result : Result Tree ParseFault) → Gives len T result
    → (tree : Tree) → Spells tree T → MatchResult result (λ t. t ≡ tree) (UnlessNoMemory (λ _. ⊥))
each_tree len T (Ok other) gives tree is = one_tree len T other tree (read_spelled len other T gives) is
each_tree len T (Err (Unexpected at)) gives tree is =
    not_both len T tree (Unexpected at) is (read_fault len T (Unexpected at) (gives refl))
each_tree len T (Err (Unsupported at word)) gives tree is =
    not_both len T tree (Unsupported at word) is (read_fault len T (Unsupported at word) (gives refl))
each_tree len T (Err NoMemory) gives tree is = tt

pub each_fault : (len : ℕ) (T : List Token) (result : Result Tree ParseFault) → Gives len T result
    → (fault : ParseFault) → HasFault len T fault → MatchResult result (λ _. ⊥) (UnlessNoMemory (λ it. it ≡ fault))
each_fault len T (Ok tree) gives fault has = not_both len T tree fault (read_spelled len tree T gives) has
each_fault len T (Err (Unexpected at)) gives fault has =
    one_fault len T (Unexpected at) fault (read_fault len T (Unexpected at) (gives refl)) has
each_fault len T (Err (Unsupported at word)) gives fault has =
    one_fault len T (Unsupported at word) fault (read_fault len T (Unsupported at word) (gives refl)) has
each_fault len T (Err NoMemory) gives fault has = tt
