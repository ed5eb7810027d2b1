-- The line that is written for a command reads as it.
use Rattle.std.proofs.Common.{◌≡◌, ◌∙◌, refl, ap, ℕ, ℤ, pos, negsuc, ◌-◌, ◌^◌, ◌<◌, ◌==◌, Bool, true, false, ◌&&◌, ◌||◌, zero, suc, List, [], ◌∷◌, ◌++◌, length, get_or, map, flat_map, Option, Some, None, if◌then◌else◌, arith}
use Rattle.std.specs.List.{list_all, AllByRecursion, slice_split, join_with_byte}
use Rattle.std.specs.Fmt.{decimal, signed_decimal}
use Rattle.std.proofs.lemmas.Bool.{and_parts, both_ways}
use Rattle.std.proofs.lemmas.Bool.Decides.{nat_tests}
use Rattle.std.proofs.lemmas.List.Folds.{list_all-append}
use Rattle.emh_base.specs.Name.{IsName, is_name_byte}
use Rattle.emh_base.specs.Text.{dir_text, is_special, marked, spelled, spelled_first, spell, path_text, front_text}
use Rattle.emh_base.specs.declared.plain.Range.{Range}
use Rattle.emh_base.specs.declared.plain.Dir.{Dir}
use Rattle.emh_base.specs.declared.plain.Dir.TheVariants.{Input, Output, Inout}
use Rattle.emh_base.specs.declared.placement.Orient.{Orient}
use Rattle.emh_base.specs.declared.placement.Orient.TheVariants.{R0, R90, R180, R270, MX, MY, MXR90, MYR90}
use Rattle.emh_base.specs.declared.placement.Status.{Status}
use Rattle.emh_base.specs.declared.placement.Status.TheVariants.{Placed, Fixed}
use Rattle.script_read.specs.declared.command.Command.{Command}
use Rattle.script_read.specs.declared.command.Command.TheVariants as command
use Rattle.script_read.specs.Word.{is_digit}
use Rattle.script_read.specs.declared.lines.Says.TheVariants.{Asks, Bad, Nothing}
use Rattle.script_read.specs.Script.{is_line_byte, is_blank, words_in, without_return, asked, words_say, line_says, line_text}
use Rattle.script_read.specs.Table.{command_of}
use Rattle.script_read.specs.Written.{Field, File, Name, Number, Signed, MaybeRange, Direction, Oriented, Standing, Bits, Path, NetBit, Word, words_of, fields_of, words_by, IsField, IsSigned, IsIndex, Passes, is_some_word}
use Rattle.script_read.specs.Written.{IsRange, IsSelect, IsBitWord}
use Rattle.script_read.specs.Text.{pair_text, range_text, select_text, bit_text, orient_text, status_text, index_text}
use Rattle.script_read.specs.declared.command.BitWord.{BitWord}
use Rattle.script_read.specs.declared.command.BitWord.TheVariants.{Zero, One, Net}
use Rattle.script_read.proofs.WordTexts.{decimal_digits}
use Rattle.script_read.proofs.Table.{command_is_writable}
use Rattle.script_read.proofs.Written.{written}

-- a word of a line: some bytes, each 33 to 126
pub record IsPlain (word : List ℕ) : Type 0 where
  pub some : is_some_word word ≡ true
  pub bytes : list_all is_name_byte word ≡ true

not_blank : (byte : ℕ) → is_name_byte byte ≡ true → is_blank byte ≡ false
not_blank byte fits = grind (arith, nat_tests)

line_byte : (byte : ℕ) → is_name_byte byte ≡ true → is_line_byte byte ≡ true
line_byte byte fits = grind (arith, nat_tests)

split_last : (word : List ℕ) → list_all is_name_byte word ≡ true → slice_split is_blank word ≡ word ∷ []
split_last [] fits = refl
split_last (byte ∷ word) fits =
    let both = and_parts (is_name_byte byte) (list_all is_name_byte word) fits in
    rw (not_blank byte both.0, split_last word both.1) refl

split_word : (word rest : List ℕ) → list_all is_name_byte word ≡ true → slice_split is_blank (word ++ 32 ∷ rest) ≡ word ∷ slice_split is_blank rest
split_word [] rest fits = refl
split_word (byte ∷ word) rest fits =
    let both = and_parts (is_name_byte byte) (list_all is_name_byte word) fits in
    rw (not_blank byte both.0, split_word word rest both.1) refl

words_read : (first : List ℕ) (words : List (List ℕ)) → IsPlain first → AllByRecursion IsPlain words
    → words_in (join_with_byte 32 (first ∷ words)) ≡ first ∷ words
words_read first [] is are = rw (split_last first is.bytes, is.some) refl
words_read first (word ∷ words) is are =
    rw (split_word first (join_with_byte 32 (word ∷ words)) is.bytes, is.some) (ap (λ others. first ∷ others) (words_read word words are.0 are.1))

all_line : (word : List ℕ) → list_all is_name_byte word ≡ true → list_all is_line_byte word ≡ true
all_line [] fits = refl
all_line (byte ∷ word) fits =
    let both = and_parts (is_name_byte byte) (list_all is_name_byte word) fits in
    rw (line_byte byte both.0) (all_line word both.1)

line_fits : (first : List ℕ) (words : List (List ℕ)) → IsPlain first → AllByRecursion IsPlain words
    → list_all is_line_byte (join_with_byte 32 (first ∷ words)) ≡ true
line_fits first [] is are = all_line first is.bytes
line_fits first (word ∷ words) is are =
    rw (list_all-append is_line_byte first (32 ∷ join_with_byte 32 (word ∷ words)), all_line first is.bytes) (line_fits word words are.0 are.1)

not_return : (byte : ℕ) → is_line_byte byte ≡ true → (byte == 13) ≡ false
not_return byte fits = grind (arith, nat_tests)

no_return : (line : List ℕ) (at : ℕ) → list_all is_line_byte line ≡ true → (get_or line at 0 == 13) ≡ false
no_return [] at fits = refl
no_return (byte ∷ line) zero fits = not_return byte (and_parts (is_line_byte byte) (list_all is_line_byte line) fits).0
no_return (byte ∷ line) (suc at) fits = no_return line at (and_parts (is_line_byte byte) (list_all is_line_byte line) fits).1

-- words, the first of which begins with no #
abbrev Headed : List (List ℕ) → Type 0
Headed [] = ⊥
Headed (word ∷ words) = (get_or word 0 0 == 35) ≡ false

headed : (of : Command) → Headed (words_by of)
headed command.Undo = refl
headed _ = refl

line_of_words : (words : List (List ℕ)) (of : Command) → Headed words → AllByRecursion IsPlain words → command_of words ≡ Some of
    → line_says (join_with_byte 32 words) ≡ Asks words of
line_of_words [] of begins are same = absurd begins
line_of_words (first ∷ words) of begins are same =
    let line = join_with_byte 32 (first ∷ words) in
    let fits : list_all is_line_byte line ≡ true = line_fits first words are.0 are.1 in
    rw (no_return line (length line - 1) fits, fits, words_read first words are.0 are.1, begins, same) refl

asked_some : (words out : List (List ℕ)) (read : Option Command) (of : Command) → asked words read ≡ Asks out of → read ≡ Some of
asked_some words out None of same = absurd (cc)
asked_some words out (Some command) of same = cc

by_comment : (test : Bool) (words out : List (List ℕ)) (read : Option Command) (of : Command)
    → (if test then Nothing else asked words read) ≡ Asks out of → read ≡ Some of
by_comment true words out read of same = absurd (cc)
by_comment false words out read of same = asked_some words out read of same

words_some : (words out : List (List ℕ)) (of : Command) → words_say words ≡ Asks out of → command_of words ≡ Some of
words_some [] out of same = absurd (cc)
words_some (first ∷ words) out of same = by_comment (get_or first 0 0 == 35) (first ∷ words) out (command_of (first ∷ words)) of same

by_bytes : (test : Bool) (words out : List (List ℕ)) (of : Command) → (if test then words_say words else Bad) ≡ Asks out of → command_of words ≡ Some of
by_bytes true words out of same = words_some words out of same
by_bytes false words out of same = absurd (cc)

pub asks_some : (line : List ℕ) (out : List (List ℕ)) (of : Command) → line_says line ≡ Asks out of → command_of (words_in (without_return line)) ≡ Some of
asks_some line out of same = by_bytes (list_all is_line_byte (without_return line)) (words_in (without_return line)) out of same

-- the words of a field are plain

byte_plain : (byte : ℕ) (need : Bool) → is_name_byte byte ≡ true → list_all is_name_byte (marked need byte) ≡ true
byte_plain byte true fits = rw fits refl
byte_plain byte false fits = rw fits refl

others_plain : (name : List ℕ) → list_all is_name_byte name ≡ true → list_all is_name_byte (flat_map spelled name) ≡ true
others_plain [] fits = refl
others_plain (byte ∷ name) fits =
    let both = and_parts (is_name_byte byte) (list_all is_name_byte name) fits in
    rw (list_all-append is_name_byte (spelled byte) (flat_map spelled name), byte_plain byte (is_special byte) both.0) (others_plain name both.1)

first_some : (need : Bool) (byte : ℕ) (rest : List ℕ) → is_some_word (marked need byte ++ rest) ≡ true
first_some true byte rest = refl
first_some false byte rest = refl

pub name_plain : (name : List ℕ) → IsName name → IsPlain (spell name)
name_plain [] is = absurd (omega (arith, is.some_byte))
name_plain (byte ∷ name) is =
    let both = and_parts (is_name_byte byte) (list_all is_name_byte name) is.printable in
    record {
      some = first_some (is_special byte || byte == 61) byte (flat_map spelled name);
      bytes = rw (list_all-append is_name_byte (spelled_first byte) (flat_map spelled name), byte_plain byte (is_special byte || byte == 61) both.0) (others_plain name both.1);
    }

digit_plain : (byte : ℕ) → is_digit byte ≡ true → is_name_byte byte ≡ true
digit_plain byte digit = grind (arith, nat_tests)

digits_plain : (ds : List ℕ) → list_all is_digit ds ≡ true → list_all is_name_byte ds ≡ true
digits_plain [] digits = refl
digits_plain (byte ∷ ds) digits =
    let both = and_parts (is_digit byte) (list_all is_digit ds) digits in
    rw (digit_plain byte both.0) (digits_plain ds both.1)

some_length : (bytes : List ℕ) → 0 < length bytes → is_some_word bytes ≡ true
some_length [] some = absurd (omega arith)
some_length (byte ∷ bytes) some = refl

pub number_plain : (n : ℕ) → n < 2 ^ 64 → IsPlain (decimal n)
number_plain n small =
    let digits = decimal_digits n small in
    record { some = some_length (decimal n) digits.some; bytes = digits_plain (decimal n) digits.all }

-- two plain texts, one behind the other, with a byte between or not
joined_bytes : (front back : List ℕ) → list_all is_name_byte front ≡ true → list_all is_name_byte back ≡ true → list_all is_name_byte (front ++ back) ≡ true
joined_bytes front back left right = rw (list_all-append is_name_byte front back, left) right

number_bytes : (n : ℕ) → n < 2 ^ 32 → list_all is_name_byte (decimal n) ≡ true
number_bytes n small = (number_plain n (omega arith)).bytes

pair_bytes : (range : Range) → IsRange range → list_all is_name_byte (pair_text range) ≡ true
pair_bytes range is = joined_bytes (decimal range.left) (58 ∷ decimal range.right) (number_bytes range.left is.0) (number_bytes range.right is.1)

range_bytes : (range : Range) → IsRange range → list_all is_name_byte (range_text range) ≡ true
range_bytes range is = joined_bytes (pair_text range) (93 ∷ []) (pair_bytes range is) refl

select_bytes : (select : Option Range) → IsSelect select → list_all is_name_byte (select_text select) ≡ true
select_bytes None is = refl
select_bytes (Some range) is = range_bytes range is

some_joined : (front back : List ℕ) → is_some_word front ≡ true → is_some_word (front ++ back) ≡ true
some_joined [] back some = absurd (both_ways false refl some)
some_joined (byte ∷ front) back some = refl

some_behind : (front back : List ℕ) → is_some_word back ≡ true → is_some_word (front ++ back) ≡ true
some_behind [] back some = some
some_behind (byte ∷ front) back some = refl

bit_plain : (bit : BitWord) → IsBitWord bit → IsPlain (bit_text bit)
bit_plain Zero is = record { some = refl; bytes = refl }
bit_plain One is = record { some = refl; bytes = refl }
bit_plain (Net net select) is =
    let name = name_plain net is.0 in
    record {
      some = some_joined (spell net) (select_text select) name.some;
      bytes = joined_bytes (spell net) (select_text select) name.bytes (select_bytes select is.1);
    }

bits_plain : (bits : List BitWord) → AllByRecursion IsBitWord bits → AllByRecursion IsPlain (map bit_text bits)
bits_plain [] are = tt
bits_plain (bit ∷ bits) are = (bit_plain bit are.0, bits_plain bits are.1)

path_plain : (name : List ℕ) (path : List (List ℕ)) → IsName name → AllByRecursion IsName path → IsPlain (path_text (name ∷ path))
path_plain name [] is are = name_plain name is
path_plain name (other ∷ path) is are =
    let here = name_plain name is in
    record {
      some = some_joined (spell name) (47 ∷ path_text (other ∷ path)) here.some;
      bytes = joined_bytes (spell name) (47 ∷ path_text (other ∷ path)) here.bytes (path_plain other path are.0 are.1).bytes;
    }

front_bytes : (path : List (List ℕ)) → AllByRecursion IsName path → list_all is_name_byte (front_text path) ≡ true
front_bytes [] are = refl
front_bytes (name ∷ path) are =
    joined_bytes (spell name ++ 47 ∷ []) (front_text path) (joined_bytes (spell name) (47 ∷ []) (name_plain name are.0).bytes refl) (front_bytes path are.1)

index_bytes : (index : Option ℕ) → IsIndex index → list_all is_name_byte (index_text index) ≡ true
index_bytes None fits = refl
index_bytes (Some index) fits = joined_bytes (decimal index) (93 ∷ []) (number_bytes index fits) refl

is_word_plain : (word : List ℕ) (test : Bool) → (is_some_word word && list_all is_name_byte word) ≡ test → Passes test → IsPlain word
is_word_plain word true is passes = let both = and_parts (is_some_word word) (list_all is_name_byte word) is in record { some = both.0; bytes = both.1 }
is_word_plain word false is passes = absurd passes

signed_plain : (z : ℤ) → IsSigned z → IsPlain (signed_decimal z)
signed_plain (pos n) fits = number_plain n (omega arith)
signed_plain (negsuc n) fits = record { some = refl; bytes = (number_plain (suc n) (omega arith)).bytes }

dir_plain : (dir : Dir) → IsPlain (dir_text dir)
dir_plain Input = record { some = refl; bytes = refl }
dir_plain Output = record { some = refl; bytes = refl }
dir_plain Inout = record { some = refl; bytes = refl }

orient_plain : (orient : Orient) → IsPlain (orient_text orient)
orient_plain R0 = record { some = refl; bytes = refl }
orient_plain R90 = record { some = refl; bytes = refl }
orient_plain R180 = record { some = refl; bytes = refl }
orient_plain R270 = record { some = refl; bytes = refl }
orient_plain MX = record { some = refl; bytes = refl }
orient_plain MY = record { some = refl; bytes = refl }
orient_plain MXR90 = record { some = refl; bytes = refl }
orient_plain MYR90 = record { some = refl; bytes = refl }

status_plain : (status : Status) → IsPlain (status_text status)
status_plain Placed = record { some = refl; bytes = refl }
status_plain Fixed = record { some = refl; bytes = refl }

field_plain : (field : Field) → IsField field → AllByRecursion IsPlain (words_of field)
field_plain (File file) is = (record { some = some_length file (omega (arith, is.some_byte)); bytes = is.printable }, tt)
field_plain (Name name) is = (name_plain name is, tt)
field_plain (Number n) is = (number_plain n (omega (arith, is)), tt)
field_plain (Signed z) is = (signed_plain z is, tt)
field_plain (MaybeRange None) is = tt
field_plain (MaybeRange (Some range)) is = (record { some = refl; bytes = range_bytes range is }, tt)
field_plain (Direction dir) is = (dir_plain dir, tt)
field_plain (Oriented orient) is = (orient_plain orient, tt)
field_plain (Standing status) is = (status_plain status, tt)
field_plain (Bits []) is = absurd is
field_plain (Bits (bit ∷ bits)) is = bits_plain (bit ∷ bits) is
field_plain (Path []) is = (record { some = refl; bytes = refl }, tt)
field_plain (Path (name ∷ path)) is = (path_plain name path is.0 is.1, tt)
field_plain (NetBit path net index) is =
    let name = name_plain net is.1 in (
      record {
        some = some_behind (front_text path) (spell net ++ index_text index) (some_joined (spell net) (index_text index) name.some);
        bytes = joined_bytes (front_text path) (spell net ++ index_text index) (front_bytes path is.0) (joined_bytes (spell net) (index_text index) name.bytes (index_bytes index is.2));
      },
      tt,
    )
field_plain (Word word) is = (is_word_plain word (is_some_word word && list_all is_name_byte word) refl is, tt)

all_joined : (front back : List (List ℕ)) → AllByRecursion IsPlain front → AllByRecursion IsPlain back → AllByRecursion IsPlain (front ++ back)
all_joined [] back left right = right
all_joined (word ∷ front) back left right = (left.0, all_joined front back left.1 right)

fields_plain : (fields : List Field) → AllByRecursion IsField fields → AllByRecursion IsPlain (flat_map words_of fields)
fields_plain [] are = tt
fields_plain (field ∷ fields) are = all_joined (words_of field) (flat_map words_of fields) (field_plain field are.0) (fields_plain fields are.1)

-- the law of lines
pub each_line_reads : (line : List ℕ) (words : List (List ℕ)) (of : Command) → line_says line ≡ Asks words of
    → line_says (line_text of) ≡ Asks (words_by of) of
each_line_reads line words of same =
    let is = command_is_writable (words_in (without_return line)) of (asks_some line words of same) in
    line_of_words (words_by of) of (headed of) (fields_plain (fields_of of) is) (written of is)

pub text_reads : (of : Command) (text : List ℕ) → text ≡ line_text of → (line : List ℕ) (words : List (List ℕ))
    → line_says line ≡ Asks words of → line_says text ≡ Asks (words_by of) of
text_reads of text is line words same = ap line_says is ∙ each_line_reads line words of same
