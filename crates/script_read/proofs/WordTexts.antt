-- Each value's word reads as that value.
use Rattle.std.proofs.Common.{◌≡◌, refl, sym, ◌∙◌, ap, ℕ, ◌+◌, ◌-◌, ◌*◌, ◌/◌, ◌%◌, ◌^◌, ◌==◌, ◌<◌, ◌≤◌, true, false, nat_le, nat_lt, ◌&&◌, List, [], ◌∷◌, ◌++◌, length, take, drop, map, Option, Some, None, position, bytes_eq, codes, append-nil, length-append, arith}
use Rattle.std.specs.List.{list_all, AllByRecursion, join_with_byte, position_or_len}
use Rattle.std.specs.Fmt.{decimal}
use Rattle.std.proofs.lemmas.Bool.{and_parts, and_from, le-leb, lt-ltb, false_from_ne_true}
use Rattle.std.proofs.lemmas.Bool.Decides.{nat_tests}
use Rattle.std.proofs.lemmas.List.Folds.{list_all-append}
use Rattle.std.proofs.Math.Seq.{take-append_seam, drop-append-add, get_or-append_seam}
use Rattle.std.proofs.lemmas.Fmt.{decimal_by_steps, length-decimal-le}
use Rattle.emh_base.specs.Name.{IsName}
use Rattle.emh_base.specs.Text.{spell, path_text}
use Rattle.emh_base.specs.declared.plain.Range.{Range}
use Rattle.script_read.specs.declared.command.BitWord.{BitWord}
use Rattle.script_read.specs.declared.command.BitWord.TheVariants.{Zero, One, Net}
use Rattle.script_read.specs.Word.{is_digit, value_after, value_of, are_digits, number_within, number_of, is_colon, before_bracket, pair_of, select_of, pieces, range_of, bit_of, bits_in, names_of, path_of}
use Rattle.script_read.specs.Text.{pair_text, range_text, select_text, bit_text}
use Rattle.script_read.specs.Written.{IsRange, IsSelect, IsBitWord}
use Rattle.std.proofs.lemmas.Slice.Eq.{bytes_eq-Decides}
use Rattle.emh_base.proofs.SpellLemmas.{no_first}
use Rattle.emh_base.proofs.TextLemmas.{path_text_injective}
use Rattle.script_read.proofs.Pieces.{is_inner, one_piece, name_passes}
use Rattle.script_read.proofs.Naming.{spelled_name}

-- digits that write a number
pub record Digits (n : ℕ) (ds : List ℕ) : Type 0 where
  pub some : 0 < length ds
  pub all : list_all is_digit ds ≡ true
  pub value : value_of ds ≡ n

value_more : (before d : ℕ) (ds : List ℕ) → value_after before (ds ++ (48 + d) ∷ []) ≡ value_after before ds * 10 + d
value_more before d [] = omega arith
value_more before d (digit ∷ digits) = value_more (before * 10 + (digit - 48)) d digits

digit_is : (d : ℕ) → d < 10 → is_digit (48 + d) ≡ true
digit_is d small = grind (arith, nat_tests)

pub decimal_digits : (n : ℕ) → n < 2 ^ 64 → Digits n (decimal n)
decimal_digits n small = decimal_by_steps Digits one more n small
  where
    one : (n : ℕ) → n < 10 → Digits n ((48 + n) ∷ [])
    one n small = record {
      some = omega arith;
      all = rw (digit_is n small) refl;
      value = omega arith;
    }

    more : (n : ℕ) (ds : List ℕ) → 10 ≤ n → Digits (n / 10) ds → Digits n (ds ++ (48 + n % 10) ∷ [])
    more n ds large before = record {
      some = omega (arith, length-append ds ((48 + n % 10) ∷ []));
      all = list_all-append is_digit ds ((48 + n % 10) ∷ []) ∙ and_from (list_all is_digit ds) _ before.all (rw (digit_is (n % 10) (omega arith)) refl);
      value = value_more 0 (n % 10) ds ∙ omega (arith, before.value);
    }

digits_are : (n : ℕ) → n < 2 ^ 32 → are_digits (decimal n) ≡ true
digits_are n small =
    let digits = decimal_digits n (omega arith) in
    and_from (nat_le 1 (length (decimal n)) && nat_le (length (decimal n)) 10) (list_all is_digit (decimal n))
    (and_from (nat_le 1 (length (decimal n))) (nat_le (length (decimal n)) 10)
    (le-leb _ _ (omega (arith, digits.some)))
    (le-leb _ _ (length-decimal-le 10 n (omega arith) (omega arith) (omega arith))))
    digits.all

pub within_reads : (limit n : ℕ) → n < 2 ^ 32 → n ≤ limit → number_within limit (decimal n) ≡ Some n
within_reads limit n small within =
    let digits = decimal_digits n (omega arith) in
    rw (digits_are n small, digits.value, le-leb n limit within) refl

pub number_reads : (n : ℕ) → n < 2 ^ 32 → number_of (decimal n) ≡ Some n
number_reads n small = within_reads 4294967295 n small (omega arith)

-- no digit is a byte of another class
pub digit_other : (byte other : ℕ) → is_digit byte ≡ true → is_digit other ≡ false → (byte == other) ≡ false
digit_other byte other digit isnt = grind (arith, nat_tests)

-- the first : stands behind the digits before it
colon_after : (ds rest : List ℕ) → list_all is_digit ds ≡ true → position_or_len is_colon (ds ++ 58 ∷ rest) ≡ length ds
colon_after [] rest digits = refl
colon_after (byte ∷ ds) rest digits =
    let both = and_parts (is_digit byte) (list_all is_digit ds) digits in
    rw (digit_other byte 58 both.0 refl) (omega (arith, colon_after ds rest both.1))

colon_behind : (ds rest : List ℕ) → list_all is_digit ds ≡ true → position is_colon (ds ++ 58 ∷ rest) ≡ Some (length ds)
colon_behind ds rest digits =
    let within : nat_lt (length ds) (length (ds ++ 58 ∷ rest)) ≡ true = lt-ltb _ _ (omega (arith, length-append ds (58 ∷ rest))) in
    rw (colon_after ds rest digits, within) refl

pair_reads : (range : Range) → IsRange range → pair_of (pair_text range) ≡ Some range
pair_reads range is =
    let l = decimal range.left in
    let r = decimal range.right in
    let at : position is_colon (pair_text range) ≡ Some (length l) = colon_behind l r (decimal_digits range.left (omega (arith, is.0))).all in
    let left : take (length l) (pair_text range) ≡ l = take-append_seam l (58 ∷ r) in
    let right : drop (length l + 1) (pair_text range) ≡ r = drop-append-add l (58 ∷ r) 1 in
    rw (at, left, right, number_reads range.left is.0, number_reads range.right is.1) refl

pub bracket_last : (front : List ℕ) → before_bracket (front ++ 93 ∷ []) ≡ Some front
bracket_last front =
    let size : length (front ++ 93 ∷ []) - 1 ≡ length front = omega (arith, length-append front (93 ∷ [])) in
    rw (size, get_or-append_seam front 93 [] 0, take-append_seam front (93 ∷ [])) refl

pub digits_inner : (stop : ℕ) (ds : List ℕ) → is_digit stop ≡ false → list_all is_digit ds ≡ true → list_all (is_inner stop) ds ≡ true
digits_inner stop [] isnt digits = refl
digits_inner stop (byte ∷ ds) isnt digits =
    let both = and_parts (is_digit byte) (list_all is_digit ds) digits in
    and_from (is_inner stop byte) (list_all (is_inner stop) ds) (grind (arith, nat_tests)) (digits_inner stop ds isnt both.1)

pair_inner : (range : Range) → IsRange range → list_all (is_inner 91) (pair_text range ++ 93 ∷ []) ≡ true
pair_inner range is =
    let l = decimal range.left in
    let r = decimal range.right in
    let left = digits_inner 91 l refl (decimal_digits range.left (omega (arith, is.0))).all in
    let right = digits_inner 91 r refl (decimal_digits range.right (omega (arith, is.1))).all in
    rw (list_all-append (is_inner 91) (pair_text range) (93 ∷ []), list_all-append (is_inner 91) l (58 ∷ r), left, right) refl

range_pieces : (range : Range) → IsRange range → pieces 91 (range_text range) ≡ [] ∷ (pair_text range ++ 93 ∷ []) ∷ []
range_pieces range is = ap (λ others. [] ∷ others) (one_piece 91 [] (pair_text range ++ 93 ∷ []) (pair_inner range is))

pub range_reads : (range : Range) → IsRange range → range_of (range_text range) ≡ Some range
range_reads range is = rw (range_pieces range is, bracket_last (pair_text range)) (pair_reads range is)

unequal : (text other : List ℕ) → (text ≡ other → ⊥) → bytes_eq text other ≡ false
unequal text other differ = false_from_ne_true (bytes_eq text other) (λ same. differ ((bytes_eq-Decides text other).0 same))

no_tie : (name rest x : List ℕ) → IsName name → spell name ++ rest ≡ 61 ∷ x → ⊥
no_tie [] rest x is same = absurd (omega (arith, is.some_byte))
no_tie (byte ∷ name) rest x is same = no_first byte 61 name rest x refl refl same

select_reads : (range : Range) → IsRange range → select_of (pair_text range) ≡ Some range
select_reads range is =
    let l = decimal range.left in
    let r = decimal range.right in
    let at : position is_colon (pair_text range) ≡ Some (length l) = colon_behind l r (decimal_digits range.left (omega (arith, is.0))).all in
    let left : take (length l) (pair_text range) ≡ l = take-append_seam l (58 ∷ r) in
    let right : drop (length l + 1) (pair_text range) ≡ r = drop-append-add l (58 ∷ r) 1 in
    rw (at, left, right, number_reads range.left is.0, number_reads range.right is.1) refl

bits_read : (net : List ℕ) (select : Option Range) → IsName net → IsSelect select
    → bits_in (pieces 91 (spell net ++ select_text select)) ≡ Some (Net net select)
bits_read net None is fits =
    let pieces_are : pieces 91 (spell net ++ []) ≡ spell net ∷ [] = name_passes 91 [] net [] refl refl in
    rw (pieces_are, spelled_name net is) refl
bits_read net (Some range) is fits =
    let pieces_are : pieces 91 (spell net ++ range_text range) ≡ spell net ∷ (pair_text range ++ 93 ∷ []) ∷ [] =
    name_passes 91 [] net (range_text range) refl refl
    ∙ ap (λ others. spell net ∷ others) (one_piece 91 [] (pair_text range ++ 93 ∷ []) (pair_inner range fits)) in
    rw (pieces_are, spelled_name net is, bracket_last (pair_text range), select_reads range fits) refl

pub bit_reads : (bit : BitWord) → IsBitWord bit → bit_of (bit_text bit) ≡ Some bit
bit_reads Zero is = refl
bit_reads One is = refl
bit_reads (Net net select) is =
    rw (
      unequal (spell net ++ select_text select) (codes "=0") (no_tie net (select_text select) (48 ∷ []) is.0),
      unequal (spell net ++ select_text select) (codes "=1") (no_tie net (select_text select) (49 ∷ []) is.0),
    )
    (bits_read net select is.0 is.1)

names_read : (names : List (List ℕ)) → AllByRecursion IsName names → names_of (map spell names) ≡ Some names
names_read [] are = refl
names_read (name ∷ names) are = rw (spelled_name name are.0, names_read names are.1) refl

path_pieces : (name : List ℕ) (names : List (List ℕ)) → pieces 47 (join_with_byte 47 (map spell (name ∷ names))) ≡ map spell (name ∷ names)
path_pieces name [] = ap (pieces 47) (sym (append-nil (spell name))) ∙ name_passes 47 [] name [] refl refl
path_pieces name (other ∷ names) =
    name_passes 47 [] name (47 ∷ join_with_byte 47 (map spell (other ∷ names))) refl refl
    ∙ ap (λ others. spell name ∷ others) (path_pieces other names)

pub path_reads : (names : List (List ℕ)) → AllByRecursion IsName names → path_of (path_text names) ≡ Some names
path_reads [] are = refl
path_reads (name ∷ names) are =
    rw (
      unequal (path_text (name ∷ names)) (codes "/") (λ same. absurd (let e = path_text_injective (name ∷ names) [] are tt same in cc)),
      path_pieces name names,
    )
    (names_read (name ∷ names) are)
