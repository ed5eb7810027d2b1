-- No reserved word begins with other bytes than two that aren't below a small letter.
use Rattle.std.proofs.Common.{◌≡◌, refl, sym, ◌∙◌, ap, ℕ, zero, suc, Bool, true, false, nat_lt, nat_le, ◌&&◌, List, [], ◌∷◌, length, slice_get, Some, None}
use Rattle.std.specs.Prelude.{position, slice_index}
use Rattle.std.specs.Str.{bytes_eq}
use Rattle.std.specs.List.{list_all}
use Rattle.std.proofs.lemmas.Bool.{and_parts}
use Rattle.word_table.specs.Reserved.{reserved_texts}
use Rattle.vlog_lex.proofs.Rows.{position_is}

-- the test of `begins_as_reserved`
abbrev pub begins_as_reserved : List ℕ → Bool
begins_as_reserved text = nat_lt 1 (length text) && nat_le 97 (slice_index text 0) && nat_le 97 (slice_index text 1)

row_begins : (texts : List (List ℕ)) (row : ℕ) (text : List ℕ) → list_all begins_as_reserved texts ≡ true
    → slice_get texts row ≡ Some text → begins_as_reserved text ≡ true
row_begins [] row text all here = cc
row_begins (first ∷ others) zero text all here =
    let same : first ≡ text = cc in
    ap begins_as_reserved (sym same) ∙ (and_parts (begins_as_reserved first) (list_all begins_as_reserved others) all).0
row_begins (first ∷ others) (suc row) text all here =
    row_begins others row text (and_parts (begins_as_reserved first) (list_all begins_as_reserved others) all).1 here

all_begin : list_all begins_as_reserved reserved_texts ≡ true
unfolding reserved_texts
all_begin = refl

pub not_reserved : (text : List ℕ) → begins_as_reserved text ≡ false → position (bytes_eq text) reserved_texts ≡ None
not_reserved text other =
    position_is reserved_texts text None (λ row. (
      λ e. absurd (cc e),
      λ here.
          let like : begins_as_reserved text ≡ true = row_begins reserved_texts row text all_begin here in
          let no : true ≡ false = sym like ∙ other in
          absurd (cc no),
    ))
