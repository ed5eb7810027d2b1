-- A token that passes a test is the one that the grammar asks for.
use Rattle.std.proofs.Common.{◌≡◌, refl, ap, subst, ℕ, Bool, true, false, nat_eq, ◌||◌, List, [], ◌∷◌, Some, inl, inr, ◌⊎◌}
use Rattle.std.specs.Prelude.{if◌then◌else◌}
use Rattle.std.proofs.lemmas.Bool.{eqb-true}
use Rattle.emh_base.specs.declared.plain.Dir.{Dir}
use Rattle.emh_base.specs.declared.plain.Dir.TheVariants.{Input, Output, Inout}
use Rattle.vlog_lex.specs.declared.token.Token.{Token}
use Rattle.vlog_lex.specs.declared.token.TokenKind.{TokenKind}
use Rattle.vlog_lex.specs.declared.token.TokenKind.TheVariants.{Ident, Reserved, Cell, EndCell, Number, Literal, Mark}
use Rattle.vlog_read.specs.Words.{input_word, output_word, inout_word, dir_word}
use Rattle.vlog_read.specs.Grammar.{One, OneAt, name, part, direction}
use Rattle.vlog_read.specs.inside.Machine.State.{State}
use Rattle.vlog_read.specs.inside.Machine.Step.{is_mark, is_word, is_name, is_number, is_literal, is_cell, is_end_cell, is_dir, text_of, name_of, number_of, literal_of, dir_of, taken}

-- one of the ways is taken, and it leads to a state of which E holds
abbrev pub Chosen : List (Bool × State) → (State → Type 0) → Type 0
Chosen [] E = ⊥
Chosen ((test, n) ∷ ways) E = ((test ≡ true) × E n) ⊎ Chosen ways E

pub chosen : (E : State → Type 0) (n : State) (ways : List (Bool × State)) → taken ways ≡ Some n → E n
    → Chosen ways E
chosen E n [] none holds = cc
chosen E n ((true, m) ∷ ways) is holds =
    let same : n ≡ m = cc in
    inl (refl, subst E same holds)
chosen E n ((false, m) ∷ ways) is holds = inr (chosen E n ways is holds)

-- a token of a kind
one_at : (kind : TokenKind) (t : Token) (U : List Token) → t.kind ≡ kind → OneAt t.at kind (t ∷ U) U
one_at kind t U is = (t.end, ap (λ (k : TokenKind). record { kind = k; at = t.at; end = t.end } ∷ U) is)

mark_is : (byte : ℕ) (kind : TokenKind) → is_mark byte kind ≡ true → kind ≡ Mark byte
mark_is byte (Mark found) h = ap Mark (eqb-true found byte h)
mark_is byte (Ident name) h = cc
mark_is byte (Reserved row) h = cc
mark_is byte Cell h = cc
mark_is byte EndCell h = cc
mark_is byte (Number value) h = cc
mark_is byte (Literal size value) h = cc

word_is : (row : ℕ) (kind : TokenKind) → is_word row kind ≡ true → kind ≡ Reserved row
word_is row (Reserved found) h = ap Reserved (eqb-true found row h)
word_is row (Ident name) h = cc
word_is row (Mark byte) h = cc
word_is row Cell h = cc
word_is row EndCell h = cc
word_is row (Number value) h = cc
word_is row (Literal size value) h = cc

name_is : (kind : TokenKind) → is_name kind ≡ true → kind ≡ Ident (text_of kind)
name_is (Ident name) h = refl
name_is (Reserved row) h = cc
name_is (Mark byte) h = cc
name_is Cell h = cc
name_is EndCell h = cc
name_is (Number value) h = cc
name_is (Literal size value) h = cc

number_is : (kind : TokenKind) → is_number kind ≡ true → kind ≡ Number (number_of kind)
number_is (Number value) h = refl
number_is (Ident name) h = cc
number_is (Reserved row) h = cc
number_is (Mark byte) h = cc
number_is Cell h = cc
number_is EndCell h = cc
number_is (Literal size value) h = cc

cell_is : (kind : TokenKind) → is_cell kind ≡ true → kind ≡ Cell
cell_is Cell h = refl
cell_is (Ident name) h = cc
cell_is (Reserved row) h = cc
cell_is (Mark byte) h = cc
cell_is EndCell h = cc
cell_is (Number value) h = cc
cell_is (Literal size value) h = cc

end_cell_is : (kind : TokenKind) → is_end_cell kind ≡ true → kind ≡ EndCell
end_cell_is EndCell h = refl
end_cell_is (Ident name) h = cc
end_cell_is (Reserved row) h = cc
end_cell_is (Mark byte) h = cc
end_cell_is Cell h = cc
end_cell_is (Number value) h = cc
end_cell_is (Literal size value) h = cc

-- the first of two tests chooses a direction
chosen_dir : Bool → Bool → Dir
chosen_dir input output = if input then Input else (if output then Output else Inout)

dir_row : (row : ℕ) (input output inout : Bool) → nat_eq row input_word ≡ input → nat_eq row output_word ≡ output
    → nat_eq row inout_word ≡ inout → (input || output || inout) ≡ true
    → row ≡ dir_word (chosen_dir input output)
unfolding chosen_dir
dir_row row true output inout a b c h = eqb-true row input_word a
dir_row row false true inout a b c h = eqb-true row output_word b
dir_row row false false true a b c h = eqb-true row inout_word c
dir_row row false false false a b c h = cc

dir_is : (kind : TokenKind) → is_dir kind ≡ true → kind ≡ Reserved (dir_word (dir_of kind))
unfolding chosen_dir
dir_is (Reserved row) h =
    ap Reserved (dir_row row (nat_eq row input_word) (nat_eq row output_word) (nat_eq row inout_word) refl refl refl h)
dir_is (Ident name) h = cc
dir_is (Mark byte) h = cc
dir_is Cell h = cc
dir_is EndCell h = cc
dir_is (Number value) h = cc
dir_is (Literal size value) h = cc

pub by_mark : (byte : ℕ) (t : Token) (U : List Token) → is_mark byte t.kind ≡ true → One (Mark byte) (t ∷ U) U
by_mark byte t U h = (t.at, one_at (Mark byte) t U (mark_is byte t.kind h))

pub by_mark_at : (byte : ℕ) (t : Token) (U : List Token) → is_mark byte t.kind ≡ true
    → OneAt t.at (Mark byte) (t ∷ U) U
by_mark_at byte t U h = one_at (Mark byte) t U (mark_is byte t.kind h)

pub by_word : (row : ℕ) (t : Token) (U : List Token) → is_word row t.kind ≡ true → One (Reserved row) (t ∷ U) U
by_word row t U h = (t.at, one_at (Reserved row) t U (word_is row t.kind h))

pub by_name : (t : Token) (U : List Token) → is_name t.kind ≡ true → name (name_of t) (t ∷ U) U
by_name t U h = one_at (Ident (text_of t.kind)) t U (name_is t.kind h)

pub by_number : (t : Token) (U : List Token) → is_number t.kind ≡ true
    → OneAt t.at (Number (number_of t.kind)) (t ∷ U) U
by_number t U h = one_at (Number (number_of t.kind)) t U (number_is t.kind h)

pub by_literal : (t : Token) (U : List Token) → is_literal t.kind ≡ true → part (literal_of t.kind) (t ∷ U) U
by_literal t U h = of t.kind h t.at t.end
  where
    of : (kind : TokenKind) → is_literal kind ≡ true → (at end : ℕ)
        → part (literal_of kind) (record { kind = kind; at = at; end = end } ∷ U) U
    of (Literal size value) h at end = (at, (end, refl))
    of (Ident name) h at end = cc
    of (Reserved row) h at end = cc
    of (Mark byte) h at end = cc
    of Cell h at end = cc
    of EndCell h at end = cc
    of (Number value) h at end = cc

pub by_cell : (t : Token) (U : List Token) → is_cell t.kind ≡ true → One Cell (t ∷ U) U
by_cell t U h = (t.at, one_at Cell t U (cell_is t.kind h))

pub by_end_cell : (t : Token) (U : List Token) → is_end_cell t.kind ≡ true → One EndCell (t ∷ U) U
by_end_cell t U h = (t.at, one_at EndCell t U (end_cell_is t.kind h))

pub by_dir : (t : Token) (U : List Token) → is_dir t.kind ≡ true → direction (dir_of t.kind) (t ∷ U) U
by_dir t U h = (t.at, one_at (Reserved (dir_word (dir_of t.kind))) t U (dir_is t.kind h))
