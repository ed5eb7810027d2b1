-- Each reserved word is a name, and the table has 124 of them.
use Rattle.std.proofs.Common.{◌≡◌, refl, ℕ, suc, zero, ◌≤◌, Bool, true, nat_le, ◌&&◌, List, [], ◌∷◌, length, slice_get, Some, None, ◌∙◌, sym, ap, arith}
use Rattle.std.specs.List.{list_all}
use Rattle.std.proofs.lemmas.Bool.{and_parts}
use Rattle.std.proofs.lemmas.Bool.Decides.{nat_tests}
use Rattle.std.proofs.lemmas.Option.{slice_get_past}
use Rattle.emh_base.specs.Name.{IsName, is_name_byte}
use Rattle.word_table.specs.Reserved.{reserved_texts}

-- whether a text is a name
abbrev is_name_text : List ℕ → Bool
is_name_text text = nat_le 1 (length text) && nat_le (length text) 1024 && list_all is_name_byte text

from_test : (text : List ℕ) → is_name_text text ≡ true → IsName text
from_test text fits =
    let parts = and_parts (nat_le 1 (length text) && nat_le (length text) 1024) (list_all is_name_byte text) fits in
    let bounds = and_parts (nat_le 1 (length text)) (nat_le (length text) 1024) parts.0 in
    record {
      some_byte = grind (arith, nat_tests, bounds.0);
      within_limit = grind (arith, nat_tests, bounds.1);
      printable = parts.1;
    }

-- a row of a list each text of which is a name
row_is_name : (texts : List (List ℕ)) (row : ℕ) (text : List ℕ) → list_all is_name_text texts ≡ true
    → slice_get texts row ≡ Some text → is_name_text text ≡ true
row_is_name [] row text all here = cc
row_is_name (first ∷ others) zero text all here =
    let same : first ≡ text = cc in
    ap is_name_text (sym same) ∙ (and_parts (is_name_text first) (list_all is_name_text others) all).0
row_is_name (first ∷ others) (suc row) text all here =
    row_is_name others row text (and_parts (is_name_text first) (list_all is_name_text others) all).1 here

pub reserved_is_name : (row : ℕ) (text : List ℕ) → slice_get reserved_texts row ≡ Some text → IsName text
unfolding reserved_texts
reserved_is_name row text here = from_test text (row_is_name reserved_texts row text refl here)

pub past_reserved : (row : ℕ) → 124 ≤ row → slice_get reserved_texts row ≡ None
unfolding reserved_texts
past_reserved row past = slice_get_past reserved_texts row past
