-- The first value of an id, read off what was found and off its rows.
use Rattle.std.proofs.Common.{◌≡◌, refl, sym, ◌∙◌, ap, ap₂, inl, inr, Bool, true, false, List, [], ◌∷◌, ◌++◌, ℕ, map, Option, Some, None, codes}
use Rattle.std.specs.Prelude.{option_map, option_and_then, slice_get, find}
use Rattle.std.specs.Str.{bytes_eq}
use Rattle.std.specs.Borrow.{Bor}
use Rattle.clap.specs.Facts.{Entry}
use Rattle.clap.specs.Walk.{Row, row_of, texts}
use Rattle.clap.specs.Words.{App, HasMatchesOf, Text, found_of, fault_of, first_of, first_value, is_simple, is_simple_and_free, kind_of, matches_of, rows_of}
use Rattle.clap.specs.Kinds.{HasKind, IsAmong, Kinds}
use Rattle.clap.proofs.OnLiterals.{clap_on_literals}
use Rattle.clap.specs.declared.error.Error.{Error}
use Rattle.clap.specs.declared.error.kind.ErrorKind.{ErrorKind}
use Rattle.clap.specs.declared.error.kind.ErrorKind.TheVariants.{OutOfMemory}
use Rattle.clap.specs.declared.parser.matches.ArgMatches.{ArgMatches}
use Rattle.command_line.specs.CommandLine.{command_line, asked, asked_by, given}
use Rattle.clap.specs.declared.parser.matches.Found.{Found}
use Rattle.clap.specs.declared.parser.matches.MatchedArg.{MatchedArg}

first-text : (values : List (Bor (List ℕ))) → option_map (λ s. s.now) (slice_get values 0) ≡ slice_get (texts values) 0
first-text [] = refl
first-text (value ∷ values) = refl

abbrev first-entry : List Entry → List ℕ → Option (List ℕ)
first-entry es id =
    option_and_then (λ a. option_map (λ s. s.now) (slice_get a.vals.items 0)) (option_map (λ e. e.1) (find (λ e. bytes_eq e.0.now id) es))

first-same : (es : List Entry) (id : List ℕ) → first-entry es id ≡ first_of id (map row_of es)
first-same [] id = refl
first-same (e ∷ es) id = go (bytes_eq e.0.now id) refl (first-same es id)
  where
    go : (t : Bool) → bytes_eq e.0.now id ≡ t → first-entry es id ≡ first_of id (map row_of es) → first-entry (e ∷ es) id ≡ first_of id (map row_of (e ∷ es))
    go true t rest = rw t (first-text e.1.vals.items)
    go false t rest = rw t rest

pub first-value : (f : Found) (id : List ℕ) → first_value f id ≡ first_of id (rows_of f)
first-value f id = first-same f.entries.items id

is-simple : is_simple command_line ≡ true
unfolding clap_on_literals
is-simple = refl

is-free : is_simple_and_free command_line ≡ true
unfolding clap_on_literals
is-free = refl

by-rows : (kinds : Kinds) (rows : List Row) → kinds ≡ [] → asked_by kinds rows ≡ given (first_of (codes "script") rows) (first_of (codes "budget") rows)
by-rows kinds rows none = rw none refl

-- what was matched is what is asked
pub asked-matched : (app : App) (line : List Text) (words : List (List ℕ)) (m : ArgMatches) → app ≡ command_line → line ≡ codes "emhdb" ∷ words
    → HasMatchesOf app line m → (is_simple_and_free app ≡ true → fault_of app line ≡ [])
    → given (first_value (found_of m) (codes "script")) (first_value (found_of m) (codes "budget")) ≡ asked words
asked-matched app line words m app_is line_is matches faults =
    let simple : is_simple app ≡ true = ap is_simple app_is ∙ is-simple in
    let free : is_simple_and_free app ≡ true = ap is_simple_and_free app_is ∙ is-free in
    let rows : rows_of (found_of m) ≡ matches_of command_line (codes "emhdb" ∷ words) = (matches simple).0 ∙ ap₂ matches_of app_is line_is in
    let none : fault_of command_line (codes "emhdb" ∷ words) ≡ [] = sym (ap₂ fault_of app_is line_is) ∙ faults free in
    ap₂ given (first-value (found_of m) (codes "script")) (first-value (found_of m) (codes "budget"))
    ∙ ap (λ z. given (first_of (codes "script") z) (first_of (codes "budget") z)) rows
    ∙ sym (by-rows (fault_of command_line (codes "emhdb" ∷ words)) (matches_of command_line (codes "emhdb" ∷ words)) none)

by-fault : (kind : ErrorKind) (kinds : Kinds) (rows : List Row) → IsAmong kind kinds → asked_by kinds rows ≡ None
by-fault kind [] rows among = absurd among
by-fault kind (first ∷ others) rows among = refl

-- and where clap finds a fault nothing is
pub asked-none : (app : App) (line : List Text) (words : List (List ℕ)) (e : Error) → app ≡ command_line → line ≡ codes "emhdb" ∷ words
    → (is_simple_and_free app ≡ true → HasKind (fault_of app line) e) → (kind_of e ≡ OutOfMemory → ⊥) → asked words ≡ None
asked-none app line words e app_is line_is faults memory =
    let free : is_simple_and_free app ≡ true = ap is_simple_and_free app_is ∙ is-free in
    elim (rw (app_is, line_is) at (faults free)) [
      | inl none ↦ absurd (memory none)
      | inr among ↦ by-fault (kind_of e) (fault_of command_line (codes "emhdb" ∷ words)) (matches_of command_line (codes "emhdb" ∷ words)) among
    ]
