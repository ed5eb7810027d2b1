-- What a form gives can be written, and what is written is of the form.
use Rattle.std.proofs.Common.{◌≡◌, refl, sym, subst, ℕ, pos, negsuc, ◌+◌, ◌^◌, ◌≤◌, ◌<◌, Bool, true, false, nat_le, ◌&&◌, if◌then◌else◌, List, [], ◌∷◌, ◌++◌, take, drop, Option, Some, None, option_map, option_and_then, bytes_eq, codes, ◌==◌, zero, suc, position, arith}
use Rattle.std.specs.List.{AllByRecursion}
use Rattle.std.proofs.lemmas.Bool.{and_parts, leb-true}
use Rattle.std.proofs.lemmas.Int.{ints}
use Rattle.emh_base.specs.Name.{IsName}
use Rattle.emh_base.specs.Spelling.{read_back}
use Rattle.emh_base.specs.declared.plain.Range.{Range}
use Rattle.emh_base.specs.declared.report.Kind.{Kind}
use Rattle.emh_base.specs.declared.report.Kind.TheVariants as report
use Rattle.emh_base.proofs.TextLemmas.{names_and}
use Rattle.script_read.specs.declared.command.BitWord.{BitWord}
use Rattle.script_read.specs.declared.command.BitWord.TheVariants.{Zero, One, Net}
use Rattle.script_read.specs.declared.command.Command.{Command}
use Rattle.script_read.specs.declared.command.Command.TheVariants as command
use Rattle.script_read.specs.Word.{is_name, named, file_of, name_of, are_digits, value_of, number_within, number_of, signed_of, range_of, bit_of, path_of, minus, pieces, before_bracket, is_colon, range_between, range_at, pair_of, lone, select_at, select_of, range_in, net_word, bits_in, with_name, names_of, indexed, net_bit_in, net_bit_after, net_bit_of}
use Rattle.script_read.specs.Form.{Form, next, maybe, done, bits_of, bits, name_form, two_names, three_names, plain_kind}
use Rattle.script_read.specs.Table.{report_form}
use Rattle.script_read.specs.Written.{IsRange, IsSelect, IsBitWord}
use Rattle.script_read.specs.Written.{IsWritable, AreBits, IsField, IsSigned, kind_fields}
use Rattle.script_read.proofs.Naming.{name_is}

-- what is known of a command that a form gives
abbrev pub Gives : Form → Type 0
Gives form = (words : List (List ℕ)) (command : Command) → form words ≡ Some command → IsWritable command

-- what is known of a value that a kind of word says
abbrev pub Says : {A : Type 0} → (List ℕ → Option A) → (A → Type 0) → Type 0
Says {A} read Is = (word : List ℕ) (value : A) → read word ≡ Some value → Is value

then_some : {A B : Type 0} (read : Option A) (f : A → Option B) (out : B) (P : Type 0)
    → ((value : A) → read ≡ Some value → f value ≡ Some out → P) → option_and_then f read ≡ Some out → P
then_some None f out P use_it same = absurd (cc)
then_some (Some value) f out P use_it same = use_it value refl same

pub next_gives : {A : Type 0} (read : List ℕ → Option A) (Is : A → Type 0) (form : A → Form) → Says read Is
    → ((value : A) → Is value → Gives (form value)) → Gives (next read form)
next_gives read Is form says gives [] command same = absurd (cc)
next_gives read Is form says gives (word ∷ words) command same =
    then_some (read word) (λ value. form value words) command (IsWritable command)
    (λ value is out. gives value (says word value is) words command out) same

pub done_gives : (command : Command) → IsWritable command → Gives (done command)
done_gives command is [] other same =
    let e : command ≡ other = cc in subst IsWritable e is
done_gives command is (word ∷ words) other same = absurd (cc)

-- the kinds

abbrev pub when : {A : Type 0} → Bool → A → Option A
when test value = if test then Some value else None

from_when : {A : Type 0} (test : Bool) (value out : A) → when test value ≡ Some out → (test ≡ true) × (value ≡ out)
from_when true value out same = (refl, (cc))
from_when false value out same = absurd (cc)

pub name_says : Says name_of IsName
name_says word name same =
    then_some (read_back true false word) named name (IsName name)
    (λ bytes is out. let both = from_when (is_name bytes) bytes name out in subst IsName both.1 (name_is bytes both.0)) same

pub file_says : Says file_of IsName
file_says word file same = let both = from_when (is_name word) word file same in subst IsName both.1 (name_is word both.0)

abbrev pub IsNumber : ℕ → Type 0
IsNumber number = number < 2 ^ 32

within_says : (limit : ℕ) (word : List ℕ) (number : ℕ) → number_within limit word ≡ Some number → number ≤ limit
within_says limit word number same =
    let both = from_when (are_digits word && nat_le (value_of word) limit) (value_of word) number same in
    let fits = (and_parts (are_digits word) (nat_le (value_of word) limit) both.0).1 in
    omega (arith, leb-true (value_of word) limit fits, both.1)

pub number_says : Says number_of IsNumber
number_says word number same = omega (arith, within_says 4294967295 word number same)

-- forms of names

pub name_form_gives : (command : List ℕ → Command) → ((a : List ℕ) → IsName a → IsWritable (command a)) → Gives (name_form command)
name_form_gives command are = next_gives name_of IsName (λ a. done (command a)) name_says (λ a is. done_gives (command a) (are a is))

pub two_names_give : (command : List ℕ → List ℕ → Command) → ((a b : List ℕ) → IsName a → IsName b → IsWritable (command a b)) → Gives (two_names command)
two_names_give command are = next_gives name_of IsName (λ a. name_form (command a)) name_says (λ a is. name_form_gives (command a) (λ b is'. are a b is is'))

pub three_names_give : (command : List ℕ → List ℕ → List ℕ → Command) → ((a b c : List ℕ) → IsName a → IsName b → IsName c → IsWritable (command a b c)) → Gives (three_names command)
three_names_give command are = next_gives name_of IsName (λ a. two_names (command a)) name_says (λ a is. two_names_give (command a) (λ b c is' is''. are a b c is is' is''))

-- a value after a choice, or under a function
chosen : {A : Type 0} (test : Bool) (x y : Option A) (out : A) (P : Type 0) → (x ≡ Some out → P) → (y ≡ Some out → P)
    → (if test then x else y) ≡ Some out → P
chosen true x y out P left right same = left same
chosen false x y out P left right same = right same

under_map : {A B : Type 0} (f : A → B) (read : Option A) (Is : A → Type 0) (P : B → Type 0) (out : B)
    → ((value : A) → read ≡ Some value → Is value) → ((value : A) → Is value → P (f value)) → option_map f read ≡ Some out → P out
under_map f None Is P out says gives same = absurd (cc)
under_map f (Some value) Is P out says gives same = let e : f value ≡ out = cc in subst P e (gives value (says value refl))

some_is : {A : Type 0} (value out : A) (P : A → Type 0) → P value → Some value ≡ Some out → P out
some_is value out P is same = let e : value ≡ out = cc in subst P e is

between_says : (a b : Option ℕ) (out : Range) → ((n : ℕ) → a ≡ Some n → IsNumber n) → ((n : ℕ) → b ≡ Some n → IsNumber n)
    → range_between a b ≡ Some out → IsRange out
between_says None None out l r same = absurd (cc)
between_says None (Some b) out l r same = absurd (cc)
between_says (Some a) None out l r same = absurd (cc)
between_says (Some a) (Some b) out l r same = some_is (record { left = a; right = b }) out IsRange (l a refl, r b refl) same

range_at_says : (text : List ℕ) (at : ℕ) (out : Range) → range_at text at ≡ Some out → IsRange out
range_at_says text at out same =
    between_says (number_of (take at text)) (number_of (drop (at + 1) text)) out (number_says (take at text)) (number_says (drop (at + 1) text)) same

pair_says : Says pair_of IsRange
pair_says text out same = then_some (position is_colon text) (range_at text) out (IsRange out) (λ at is found. range_at_says text at out found) same

select_says : (text : List ℕ) (at : Option ℕ) (out : Range) → select_at text at ≡ Some out → IsRange out
select_says text None out same = under_map lone (number_of text) IsNumber IsRange out (λ n is. number_says text n is) (λ n is. (is, is)) same
select_says text (Some at) out same = range_at_says text at out same

range_in_says : (pieces : List (List ℕ)) (out : Range) → range_in pieces ≡ Some out → IsRange out
range_in_says [] out same = absurd (cc)
range_in_says (front ∷ []) out same = absurd (cc)
range_in_says (front ∷ inside ∷ []) out same =
    chosen (bytes_eq front []) (option_and_then pair_of (before_bracket inside)) None out (IsRange out)
    (λ found. then_some (before_bracket inside) pair_of out (IsRange out) (λ text is here. pair_says text out here) found)
    (λ none. absurd (cc)) same
range_in_says (front ∷ inside ∷ more ∷ others) out same = absurd (cc)

pub range_says : Says range_of IsRange
range_says word out same = range_in_says (pieces 91 word) out same

net_word_says : (net : Option (List ℕ)) (select : Option Range) (out : BitWord) → ((n : List ℕ) → net ≡ Some n → IsName n)
    → ((r : Range) → select ≡ Some r → IsRange r) → net_word net select ≡ Some out → IsBitWord out
net_word_says None None out n r same = absurd (cc)
net_word_says None (Some select) out n r same = absurd (cc)
net_word_says (Some net) None out n r same = absurd (cc)
net_word_says (Some net) (Some select) out n r same = some_is (Net net (Some select)) out IsBitWord (n net refl, r select refl) same

bits_in_says : (pieces : List (List ℕ)) (out : BitWord) → bits_in pieces ≡ Some out → IsBitWord out
bits_in_says [] out same = absurd (cc)
bits_in_says (net ∷ []) out same = under_map (λ name. Net name None) (name_of net) IsName IsBitWord out (λ n is. name_says net n is) (λ n is. (is, tt)) same
bits_in_says (net ∷ inside ∷ []) out same =
    net_word_says (name_of net) (option_and_then select_of (before_bracket inside)) out (λ n is. name_says net n is)
    (λ r is. then_some (before_bracket inside) select_of r (IsRange r) (λ text at here. select_says text (position is_colon text) r here) is) same
bits_in_says (net ∷ inside ∷ more ∷ others) out same = absurd (cc)

pub bit_says : Says bit_of IsBitWord
bit_says word out same =
    chosen (bytes_eq word (codes "=0")) (Some Zero) _ out (IsBitWord out) (λ is. some_is Zero out IsBitWord tt is)
    (λ others. chosen (bytes_eq word (codes "=1")) (Some One) (bits_in (pieces 91 word)) out (IsBitWord out) (λ is. some_is One out IsBitWord tt is)
    (λ found. bits_in_says (pieces 91 word) out found) others) same

with_name_says : (name : Option (List ℕ)) (names : Option (List (List ℕ))) (out : List (List ℕ)) → ((n : List ℕ) → name ≡ Some n → IsName n)
    → ((ns : List (List ℕ)) → names ≡ Some ns → AllByRecursion IsName ns) → with_name name names ≡ Some out → AllByRecursion IsName out
with_name_says None names out n ns same = absurd (cc)
with_name_says (Some name) names out n ns same =
    under_map (λ others. name ∷ others) names (AllByRecursion IsName) (AllByRecursion IsName) out ns (λ others are. (n name refl, are)) same

names_say : (words : List (List ℕ)) (out : List (List ℕ)) → names_of words ≡ Some out → AllByRecursion IsName out
names_say [] out same = some_is [] out (AllByRecursion IsName) tt same
names_say (word ∷ words) out same = with_name_says (name_of word) (names_of words) out (λ n is. name_says word n is) (names_say words) same

pub path_says : Says path_of (AllByRecursion IsName)
path_says word out same =
    chosen (bytes_eq word (codes "/")) (Some []) (names_of (pieces 47 word)) out (AllByRecursion IsName out)
    (λ is. some_is [] out (AllByRecursion IsName) tt is) (names_say (pieces 47 word) out) same

pub minus_suc : (n : ℕ) → minus (suc n) ≡ negsuc n
minus_suc n = omega (arith, ints)

minus_says : (n : ℕ) → n ≤ 2147483648 → IsSigned (minus n)
minus_says zero fits = omega arith
minus_says (suc n) fits = subst IsSigned (sym (minus_suc n)) (omega arith)

pub signed_says : Says signed_of IsSigned
unfolding signed_of
signed_says [] out same = absurd (cc)
signed_says (first ∷ digits) out same =
    chosen (first == 45) (option_map minus (number_within 2147483648 digits)) _ out (IsSigned out)
    (under_map minus (number_within 2147483648 digits) (λ n. n ≤ 2147483648) IsSigned out (within_says 2147483648 digits) minus_says)
    (under_map pos (number_within 2147483647 (first ∷ digits)) (λ n. n ≤ 2147483647) IsSigned out (within_says 2147483647 (first ∷ digits)) (λ n is. omega arith))
    same

-- the form of an optional range, and of sources
pub maybe_gives : (form : Option Range → Form) → ((range : Option Range) → IsSelect range → Gives (form range)) → Gives (maybe range_of form)
maybe_gives form gives [] command same = gives None tt [] command same
maybe_gives form gives (word ∷ words) command same =
    then_some (range_of word) (λ value. form (Some value) words) command (IsWritable command)
    (λ range is out. gives (Some range) (range_says word range is) words command out) same

bits_say : (words : List (List ℕ)) (out : List BitWord) → bits_of words ≡ Some out → AllByRecursion IsBitWord out
bits_say [] out same = some_is [] out (AllByRecursion IsBitWord) tt same
bits_say (word ∷ words) out same =
    then_some (bit_of word) (λ bit. option_map (λ bits. bit ∷ bits) (bits_of words)) out (AllByRecursion IsBitWord out)
    (λ bit is rest. under_map (λ bits. bit ∷ bits) (bits_of words) (AllByRecursion IsBitWord) (AllByRecursion IsBitWord) out (bits_say words) (λ bits are. (bit_says word bit is, are)) rest) same

some_bits : (word : List ℕ) (words : List (List ℕ)) (out : List BitWord) → bits_of (word ∷ words) ≡ Some out → AreBits out
some_bits word words out same =
    then_some (bit_of word) (λ bit. option_map (λ bits. bit ∷ bits) (bits_of words)) out (AreBits out)
    (λ bit is rest. under_map (λ bits. bit ∷ bits) (bits_of words) (AllByRecursion IsBitWord) AreBits out (bits_say words) (λ bits are. (bit_says word bit is, are)) rest) same

pub bits_give : (command : List BitWord → Command) → ((of : List BitWord) → AreBits of → IsWritable (command of)) → Gives (bits command)
bits_give command are [] other same = absurd (cc)
bits_give command are (word ∷ words) other same =
    under_map command (bits_of (word ∷ words)) AreBits IsWritable other (some_bits word words) are same

-- reports

abbrev pub IsKind : Kind → Type 0
IsKind kind = AllByRecursion IsField (kind_fields kind)

indexed_says : (path : List (List ℕ)) (net : List ℕ) (index : Option ℕ) (out : Kind) → AllByRecursion IsName path → IsName net
    → ((n : ℕ) → index ≡ Some n → IsNumber n) → indexed path net index ≡ Some out → IsKind out
indexed_says path net None out are is fits same = absurd (cc)
indexed_says path net (Some index) out are is fits same =
    some_is (report.Net path net (Some index)) out IsKind (tt, ((are, is, fits index refl), tt)) same

net_bit_in_says : (path pieces : List (List ℕ)) (out : Kind) → AllByRecursion IsName path → net_bit_in path pieces ≡ Some out → IsKind out
net_bit_in_says path [] out are same = absurd (cc)
net_bit_in_says path (net ∷ []) out are same =
    under_map (λ name. report.Net path name None) (name_of net) IsName IsKind out (λ n is. name_says net n is) (λ n is. (tt, ((are, is, tt), tt))) same
net_bit_in_says path (net ∷ inside ∷ []) out are same =
    then_some (name_of net) (λ name. indexed path name (option_and_then number_of (before_bracket inside))) out (IsKind out)
    (λ name is found. indexed_says path name (option_and_then number_of (before_bracket inside)) out are (name_says net name is)
    (λ n here. then_some (before_bracket inside) number_of n (IsNumber n) (λ text at says. number_says text n says) here) found) same
net_bit_in_says path (net ∷ inside ∷ more ∷ others) out are same = absurd (cc)

net_bit_after_says : (path words : List (List ℕ)) (out : Kind) → AllByRecursion IsName path → net_bit_after path words ≡ Some out → IsKind out
net_bit_after_says path [] out are same = absurd (cc)
net_bit_after_says path (last ∷ []) out are same = net_bit_in_says path (pieces 91 last) out are same
net_bit_after_says path (word ∷ other ∷ others) out are same =
    then_some (name_of word) (λ name. net_bit_after (path ++ name ∷ []) (other ∷ others)) out (IsKind out)
    (λ name is found. net_bit_after_says (path ++ name ∷ []) (other ∷ others) out (names_and path name are (name_says word name is)) found) same

pub net_bit_says : Says net_bit_of IsKind
net_bit_says word out same = net_bit_after_says [] (pieces 47 word) out tt same

no_kind : (out : Kind) → ◌≡◌ {A = Option Kind} None (Some out) → IsKind out
no_kind out none = absurd (cc)

kind_chosen : (test : Bool) (kind : Kind) (rest : Option Kind) → IsKind kind → ((out : Kind) → rest ≡ Some out → IsKind out)
    → (out : Kind) → (if test then Some kind else rest) ≡ Some out → IsKind out
kind_chosen true kind rest is others out same = some_is kind out IsKind is same
kind_chosen false kind rest is others out same = others out same

plain_says : Says plain_kind IsKind
plain_says word =
    let k5 : Option Kind = if bytes_eq word (codes "log") then Some report.Log else None in
    let k4 : Option Kind = if bytes_eq word (codes "counts") then Some report.Counts else k5 in
    let k3 : Option Kind = if bytes_eq word (codes "modules") then Some report.Modules else k4 in
    let k2 : Option Kind = if bytes_eq word (codes "occurrences") then Some report.Occurrences else k3 in
    let k1 : Option Kind = if bytes_eq word (codes "block") then Some report.Block else k2 in
    let k0 : Option Kind = if bytes_eq word (codes "pins") then Some report.Pins else k1 in
    kind_chosen (bytes_eq word (codes "pins")) report.Pins k1 (tt, tt) (kind_chosen (bytes_eq word (codes "block")) report.Block k2 (tt, tt) (kind_chosen (bytes_eq word (codes "occurrences")) report.Occurrences k3 (tt, tt) (kind_chosen (bytes_eq word (codes "modules")) report.Modules k4 (tt, tt) (kind_chosen (bytes_eq word (codes "counts")) report.Counts k5 (tt, tt) (kind_chosen (bytes_eq word (codes "log")) report.Log None (tt, tt) no_kind)))))

kind_gives : (kind : Kind) → IsKind kind → Gives (done (command.Report kind))
kind_gives kind is = done_gives (command.Report kind) (tt, is)

pub report_gives : Gives report_form
report_gives [] out same = absurd (cc)
report_gives (word ∷ words) out same =
    chosen (bytes_eq word (codes "net")) (next net_bit_of (λ kind. done (command.Report kind)) words) _ out (IsWritable out)
    (next_gives net_bit_of IsKind (λ kind. done (command.Report kind)) net_bit_says kind_gives words out)
    (chosen (bytes_eq word (codes "where")) (next name_of (λ name. done (command.Report (report.Where name))) words) _ out (IsWritable out)
    (next_gives name_of IsName (λ name. done (command.Report (report.Where name))) name_says (λ name is. kind_gives (report.Where name) (tt, (is, tt))) words out)
    (next_gives plain_kind IsKind (λ kind. done (command.Report kind)) plain_says kind_gives (word ∷ words) out))
    same
