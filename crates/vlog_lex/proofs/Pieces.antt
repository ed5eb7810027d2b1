-- Pieces: no two stand at a place, one stands at each place, and a sound one leads on within the bytes.
use Rattle.std.proofs.Common.{◌≡◌, refl, sym, ◌∙◌, ap, subst, ℕ, ◌+◌, ◌<◌, ◌≤◌, Bool, true, false, nat_eq, List, length, get_or, arith, inl, inr}
use Rattle.std.specs.Prelude.{slice_range}
use Rattle.std.proofs.lemmas.List.{get_or_past}
use Rattle.std.proofs.lemmas.Bool.{and_parts, eqb-true, both_ways, cases_lt, cases_eq, le-leb, or_left, or_right}
use Rattle.vlog_lex.specs.declared.case.Case.{Case}
use Rattle.vlog_lex.specs.declared.case.Case.TheVariants.{White, LineComment, BlockComment, Attribute, Directive, Escaped, Word, Number, Apostrophe, Mark, Unfit}
use Rattle.vlog_lex.specs.declared.case.Directive as directives
use Rattle.vlog_lex.specs.declared.case.Directive.TheVariants.{Cell, EndCell, Timescale, DefaultNettype, Other}
use Rattle.vlog_lex.specs.declared.token.LexFault.{LexFault}
use Rattle.vlog_lex.specs.Byte.{is_white, is_blank, is_digit, is_word_byte, is_number_byte, is_literal_byte, is_graphic, newline, apostrophe, right_parenthesis, star, slash, underscore}
use Rattle.vlog_lex.specs.Place.{IsFirst, IsRun, both_at, ends_line}
use Rattle.vlog_lex.specs.Attribute.{AttributePart}
use Rattle.vlog_lex.specs.Number.{written, base_of}
use Rattle.vlog_lex.specs.Piece.{Kind, Blank, Fault, Piece, PieceBy, DirectiveIs, NumberIs, default_nettype, directive_of, case_of, escaped, word, literal}
use Rattle.vlog_lex.specs.Lexes.{IsSound}
use Rattle.vlog_lex.proofs.Places.{first_once, first_within, first_there, first_or_nowhere, run_there, run_within}
use Rattle.vlog_lex.proofs.Walk.{over_once, through_onward}
use Rattle.vlog_lex.proofs.Attributes.{IsClose, attributes, attribute_or_not}
use Rattle.vlog_lex.proofs.Names.{run_some, word_begins}
use Rattle.vlog_lex.proofs.Told.{Told, told}

-- the same end and the same kind
abbrev Same : ℕ → Kind → ℕ → Kind → Type 0
Same b kind c other = (b ≡ c) × (kind ≡ other)

-- ---- no two pieces stand at a place

directive_once : (directive : directives.Directive) (bytes : List ℕ) (a n b c : ℕ) (kind other : Kind)
    → DirectiveIs directive bytes a n b kind → DirectiveIs directive bytes a n c other → Same b kind c other
directive_once Cell bytes a n b c kind other (to, is) (to', is') = (to ∙ sym to', is ∙ sym is')
directive_once EndCell bytes a n b c kind other (to, is) (to', is') = (to ∙ sym to', is ∙ sym is')
directive_once Timescale bytes a n b c kind other (line, is) (line', is') =
    (first_once (ends_line bytes) n b c line line', is ∙ sym is')
directive_once DefaultNettype bytes a n b c kind other (w, blanks, wire, is) (w', blanks', wire', is') =
    let same : w' ≡ w = first_once _ n w' w blanks' blanks in
    let ends : b ≡ c = first_once _ w b c wire (subst (λ k. IsRun is_word_byte bytes k c) same wire') in
    (ends, is ∙ ap (λ k. default_nettype bytes a n k b) (sym same) ∙ ap (default_nettype bytes a n w') ends ∙ sym is')
directive_once Other bytes a n b c kind other (to, is) (to', is') = (to ∙ sym to', is ∙ sym is')

number_once : (quoted : Bool) (bytes : List ℕ) (a n b c : ℕ) (kind other : Kind)
    → NumberIs quoted bytes a n b kind → NumberIs quoted bytes a n c other → Same b kind c other
number_once true bytes a n b c kind other (run, is) (run', is') =
    let same : b ≡ c = first_once _ (n + 2) b c run run' in
    let value = written 10 (slice_range bytes a n) in
    let base = base_of (get_or bytes (n + 1) 0) in
    (same, is ∙ ap (λ k. literal a value base (slice_range bytes (n + 2) k)) same ∙ sym is')
number_once false bytes a n b c kind other (to, is) (to', is') = (to ∙ sym to', is ∙ sym is')

once : (rule : Case) (bytes : List ℕ) (a b c : ℕ) (kind other : Kind)
    → PieceBy rule bytes a b kind → PieceBy rule bytes a c other → Same b kind c other
once White bytes a b c kind other (run, is) (run', is') = (first_once _ a b c run run', is ∙ sym is')
once LineComment bytes a b c kind other (line, is) (line', is') = (first_once _ (a + 2) b c line line', is ∙ sym is')
once BlockComment bytes a b c kind other (inl (e, first, to, is)) (inl (e', first', to', is')) =
    (to ∙ ap (λ k. k + 2) (first_once _ (a + 2) e e' first first') ∙ sym to', is ∙ sym is')
once BlockComment bytes a b c kind other (inl (e, first, to, is)) (inr (none, to', is')) =
    absurd (both_ways _ (none e first.from) first.here)
once BlockComment bytes a b c kind other (inr (none, to, is)) (inl (e, first, to', is')) =
    absurd (both_ways _ (none e first.from) first.here)
once BlockComment bytes a b c kind other (inr (none, to, is)) (inr (none', to', is')) = (to ∙ sym to', is ∙ sym is')
once Attribute bytes a b c kind other (inl (e, ends, to, is)) (inl (e', ends', to', is')) = (
  to ∙ ap (λ k. k + 2) (over_once (AttributePart bytes) (IsClose bytes) (attributes bytes) (a + 2) e e' ends.0
      ends.1 ends'.0 ends'.1) ∙ sym to',
  is ∙ sym is',
)
once Attribute bytes a b c kind other (inl (e, ends, to, is)) (inr (none, to', is')) = absurd (none e ends)
once Attribute bytes a b c kind other (inr (none, to, is)) (inl (e, ends, to', is')) = absurd (none e ends)
once Attribute bytes a b c kind other (inr (none, to, is)) (inr (none', to', is')) = (to ∙ sym to', is ∙ sym is')
once Directive bytes a b c kind other (n, run, is) (n', run', is') =
    let same : n' ≡ n = first_once _ (a + 1) n' n run' run in
    directive_once (directive_of (slice_range bytes (a + 1) n)) bytes a n b c kind other is
    (subst (λ k. DirectiveIs (directive_of (slice_range bytes (a + 1) k)) bytes a k c other) same is')
once Escaped bytes a b c kind other (run, is) (run', is') =
    let same : b ≡ c = first_once _ (a + 1) b c run run' in
    (same, is ∙ ap (escaped bytes a) same ∙ sym is')
once Word bytes a b c kind other (run, is) (run', is') =
    let same : b ≡ c = first_once _ a b c run run' in
    (same, is ∙ ap (word bytes a) same ∙ sym is')
once Number bytes a b c kind other (n, run, is) (n', run', is') =
    let same : n' ≡ n = first_once _ a n' n run' run in
    number_once (nat_eq (get_or bytes n 0) apostrophe) bytes a n b c kind other is
    (subst (λ k. NumberIs (nat_eq (get_or bytes k 0) apostrophe) bytes a k c other) same is')
once Apostrophe bytes a b c kind other (to, is) (to', is') = (to ∙ sym to', is ∙ sym is')
once Mark bytes a b c kind other (to, is) (to', is') = (to ∙ sym to', is ∙ sym is')
once Unfit bytes a b c kind other (to, is) (to', is') = (to ∙ sym to', is ∙ sym is')

pub piece_once : (bytes : List ℕ) (a b c : ℕ) (kind other : Kind) → Piece bytes a b kind → Piece bytes a c other
    → (b ≡ c) × (kind ≡ other)
piece_once bytes a b c kind other some also =
    once (case_of (get_or bytes a 0) (get_or bytes (a + 1) 0)) bytes a b c kind other some.1 also.1

-- ---- a piece stands at each place

-- a piece by this rule, whatever it is
abbrev Some_by : Case → List ℕ → ℕ → Type 0
Some_by rule bytes a = (b : ℕ) × (kind : Kind) × PieceBy rule bytes a b kind

line_there : (bytes : List ℕ) (a : ℕ) → (b : ℕ) × IsFirst (ends_line bytes) a b
line_there bytes a =
    first_there (ends_line bytes) (length bytes) a
    (or_right (nat_eq (get_or bytes (a + length bytes) 0) newline) _
    (le-leb (length bytes) (a + length bytes) (omega arith)))

directive_there : (directive : directives.Directive) (bytes : List ℕ) (a n : ℕ)
    → (b : ℕ) × (kind : Kind) × DirectiveIs directive bytes a n b kind
directive_there Cell bytes a n = (n, _, (refl, refl))
directive_there EndCell bytes a n = (n, _, (refl, refl))
directive_there Timescale bytes a n = let (b, line) = line_there bytes n in (b, Blank, (line, refl))
directive_there DefaultNettype bytes a n =
    let (w, blanks) = run_there is_blank bytes n refl in
    let (b, wire) = run_there is_word_byte bytes w refl in
    (b, _, (w, blanks, wire, refl))
directive_there Other bytes a n = (n, _, (refl, refl))

number_there : (quoted : Bool) (bytes : List ℕ) (a n : ℕ) → (b : ℕ) × (kind : Kind) × NumberIs quoted bytes a n b kind
number_there true bytes a n = let (b, run) = run_there is_literal_byte bytes (n + 2) refl in (b, _, (run, refl))
number_there false bytes a n = (n, _, (refl, refl))

-- past the end no comment ends
no_end_past : (bytes : List ℕ) (k : ℕ) → length bytes ≤ k → both_at star slash bytes k ≡ false
no_end_past bytes k past = rw (get_or_past bytes k 0 past) refl

there : (rule : Case) (bytes : List ℕ) (a : ℕ) → Some_by rule bytes a
there White bytes a = let (b, run) = run_there is_white bytes a refl in (b, Blank, (run, refl))
there LineComment bytes a = let (b, line) = line_there bytes (a + 2) in (b, Blank, (line, refl))
there BlockComment bytes a =
    elim (first_or_nowhere (both_at star slash bytes) (length bytes) (a + 2)
    (λ k past. no_end_past bytes k (omega arith))) [
      | inl (e, first) ↦ (e + 2, Blank, inl (e, first, refl, refl))
      | inr none ↦ (a, _, inr (none, refl, refl))
    ]
there Attribute bytes a =
    elim (attribute_or_not bytes (a + 2)) [
      | inl (e, ends) ↦ (e + 2, Blank, inl (e, ends, refl, refl))
      | inr none ↦ (a, _, inr (none, refl, refl))
    ]
there Directive bytes a =
    let (n, run) = run_there is_word_byte bytes (a + 1) refl in
    let (b, kind, is) = directive_there (directive_of (slice_range bytes (a + 1) n)) bytes a n in
    (b, kind, (n, run, is))
there Escaped bytes a = let (b, run) = run_there is_graphic bytes (a + 1) refl in (b, _, (run, refl))
there Word bytes a = let (b, run) = run_there is_word_byte bytes a refl in (b, _, (run, refl))
there Number bytes a =
    let (n, run) = run_there is_number_byte bytes a refl in
    let (b, kind, is) = number_there (nat_eq (get_or bytes n 0) apostrophe) bytes a n in
    (b, kind, (n, run, is))
there Apostrophe bytes a = (a, _, (refl, refl))
there Mark bytes a = (a + 1, _, (refl, refl))
there Unfit bytes a = (a, _, (refl, refl))

pub piece_there : (bytes : List ℕ) (a : ℕ) → a < length bytes → (b : ℕ) × (kind : Kind) × Piece bytes a b kind
piece_there bytes a within =
    let (b, kind, is) = there (case_of (get_or bytes a 0) (get_or bytes (a + 1) 0)) bytes a in
    (b, kind, (within, is))

-- ---- a sound piece leads on within the bytes

-- onward, and not past the end
abbrev Moves : List ℕ → ℕ → ℕ → Type 0
Moves bytes a b = (a < b) × (b ≤ length bytes)

-- a fault is no sound piece
no_fault : (kind : Kind) (fault : LexFault) → kind ≡ Fault fault → IsSound kind → ⊥
no_fault kind fault is sound = subst IsSound is sound

-- where a byte is read, there is one
inside : (bytes : List ℕ) (k byte : ℕ) → get_or bytes k 0 ≡ byte → 0 < byte → k < length bytes
inside bytes k byte is some =
    elim (cases_lt k (length bytes)) [
      | inl low ↦ low
      | inr past ↦ absurd (omega (arith, get_or_past bytes k 0 past, is, some))
    ]

-- where two bytes are, both are within
both_inside : (first second : ℕ) (bytes : List ℕ) (k : ℕ) → 0 < second → both_at first second bytes k ≡ true
    → k + 2 ≤ length bytes
both_inside first second bytes k some both =
    let (here, next) = and_parts (nat_eq (get_or bytes k 0) first) (nat_eq (get_or bytes (k + 1) 0) second) both in
    omega (arith, inside bytes (k + 1) second (eqb-true (get_or bytes (k + 1) 0) second next) some)

line_within : (bytes : List ℕ) (a b : ℕ) → a ≤ length bytes → IsFirst (ends_line bytes) a b → b ≤ length bytes
line_within bytes a b from line =
    first_within (ends_line bytes) a b (length bytes) line from
    (or_right (nat_eq (get_or bytes (length bytes) 0) newline) _ (le-leb (length bytes) (length bytes) (omega arith)))

directive_moves : (directive : directives.Directive) (bytes : List ℕ) (a n b : ℕ) (kind : Kind) → a < n
    → n ≤ length bytes
    → DirectiveIs directive bytes a n b kind → IsSound kind → Moves bytes a b
directive_moves Cell bytes a n b kind from within (to, is) sound = (omega arith, omega arith)
directive_moves EndCell bytes a n b kind from within (to, is) sound = (omega arith, omega arith)
directive_moves Timescale bytes a n b kind from within (line, is) sound =
    (omega (arith, line.from), line_within bytes n b within line)
directive_moves DefaultNettype bytes a n b kind from within (w, blanks, wire, is) sound =
    let blank = run_within is_blank bytes n w refl blanks within in
    (omega (arith, blanks.from, wire.from), run_within is_word_byte bytes w b refl wire blank)
directive_moves Other bytes a n b kind from within (to, is) sound = absurd (no_fault kind _ is sound)

-- a literal that is sound has a base
base_there : (a size byte : ℕ) (digits : List ℕ) (kind : Kind) → kind ≡ literal a size (base_of byte) digits
    → IsSound kind → 0 < byte
base_there a size byte digits kind is sound =
    elim (cases_eq byte 0) [
      | inl none ↦ absurd (no_fault kind _ (is ∙ ap (λ c. literal a size (base_of c) digits) none) sound)
      | inr some ↦ omega arith
    ]

number_moves : (quoted : Bool) (bytes : List ℕ) (a n b : ℕ) (kind : Kind) → a < n → n ≤ length bytes
    → NumberIs quoted bytes a n b kind → IsSound kind → Moves bytes a b
number_moves true bytes a n b kind from within (run, is) sound =
    let some = base_there a (written 10 (slice_range bytes a n)) (get_or bytes (n + 1) 0)
    (slice_range bytes (n + 2) b) kind is sound in
    let here = inside bytes (n + 1) (get_or bytes (n + 1) 0) refl some in
    (omega (arith, run.from), run_within is_literal_byte bytes (n + 2) b refl run (omega (arith, here)))
number_moves false bytes a n b kind from within (to, is) sound = (omega arith, omega arith)

moves : (rule : Case) (bytes : List ℕ) (a b : ℕ) (kind : Kind) → a < length bytes
    → Told rule (get_or bytes a 0) (get_or bytes (a + 1) 0)
    → PieceBy rule bytes a b kind → IsSound kind → Moves bytes a b
moves White bytes a b kind within told (run, is) sound =
    (run_some is_white bytes a b run told, run_within is_white bytes a b refl run (omega arith))
moves LineComment bytes a b kind within told (line, is) sound =
    (omega (arith, line.from), line_within bytes (a + 2) b (both_inside slash slash bytes a (omega arith) told) line)
moves BlockComment bytes a b kind within told (inl (e, first, to, is)) sound =
    (omega (arith, first.from), omega (arith, both_inside star slash bytes e (omega arith) first.here))
moves BlockComment bytes a b kind within told (inr (none, to, is)) sound = absurd (no_fault kind _ is sound)
moves Attribute bytes a b kind within told (inl (e, (way, close), to, is)) sound = (
  omega (arith, through_onward (AttributePart bytes) (IsClose bytes) (attributes bytes) (a + 2) e way),
  omega (arith, both_inside star right_parenthesis bytes e (omega arith) close),
)
moves Attribute bytes a b kind within told (inr (none, to, is)) sound = absurd (no_fault kind _ is sound)
moves Directive bytes a b kind within told (n, run, is) sound =
    directive_moves (directive_of (slice_range bytes (a + 1) n)) bytes a n b kind (omega (arith, run.from))
    (run_within is_word_byte bytes (a + 1) n refl run (omega arith)) is sound
moves Escaped bytes a b kind within told (run, is) sound =
    (omega (arith, run.from), run_within is_graphic bytes (a + 1) b refl run (omega arith))
moves Word bytes a b kind within told (run, is) sound = (
  run_some is_word_byte bytes a b run (word_begins (get_or bytes a 0) told),
  run_within is_word_byte bytes a b refl run (omega arith),
)
moves Number bytes a b kind within told (n, run, is) sound =
    number_moves (nat_eq (get_or bytes n 0) apostrophe) bytes a n b kind
    (run_some is_number_byte bytes a n run (or_left (is_digit (get_or bytes a 0))
    (nat_eq (get_or bytes a 0) underscore) told))
    (run_within is_number_byte bytes a n refl run (omega arith)) is sound
moves Apostrophe bytes a b kind within told (to, is) sound = absurd (no_fault kind _ is sound)
moves Mark bytes a b kind within told (to, is) sound = (omega arith, omega arith)
moves Unfit bytes a b kind within told (to, is) sound = absurd (no_fault kind _ is sound)

pub piece_moves : (bytes : List ℕ) (a b : ℕ) (kind : Kind) → Piece bytes a b kind → IsSound kind
    → (a < b) × (b ≤ length bytes)
piece_moves bytes a b kind (within, is) sound =
    let first = get_or bytes a 0 in
    let second = get_or bytes (a + 1) 0 in
    moves (case_of first second) bytes a b kind within (told first second) is sound
