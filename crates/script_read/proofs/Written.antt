-- What is written for a command reads as it.
use Rattle.std.proofs.Common.{◌≡◌, refl, sym, ◌∙◌, ap, ℕ, ℤ, pos, negsuc, ◌<◌, true, List, [], ◌∷◌, ◌++◌, length, map, suc, Option, Some, None, option_map, append_assoc, append-nil, arith}
use Rattle.std.specs.List.{AllByRecursion, list_all}
use Rattle.std.specs.Fmt.{decimal, signed_decimal}
use Rattle.std.proofs.lemmas.Bool.{and_parts}
use Rattle.std.proofs.lemmas.List.Folds.{list_all-append}
use Rattle.emh_base.specs.Name.{IsName}
use Rattle.emh_base.specs.Text.{dir_text, spell, front_text}
use Rattle.emh_base.specs.declared.plain.Dir.{Dir}
use Rattle.emh_base.specs.declared.plain.Dir.TheVariants.{Input, Output, Inout}
use Rattle.emh_base.specs.declared.placement.Orient.{Orient}
use Rattle.emh_base.specs.declared.placement.Orient.TheVariants.{R0, R90, R180, R270, MX, MY, MXR90, MYR90}
use Rattle.emh_base.specs.declared.placement.Status.{Status}
use Rattle.emh_base.specs.declared.placement.Status.TheVariants.{Placed, Fixed}
use Rattle.emh_base.specs.declared.report.Kind.TheVariants as report
use Rattle.script_read.specs.declared.command.BitWord.{BitWord}
use Rattle.script_read.specs.declared.command.Command.{Command}
use Rattle.script_read.specs.declared.command.Command.TheVariants as command
use Rattle.script_read.specs.Word.{is_digit, number_within, signed_of, minus, file_of, dir_of, orient_of, status_of, pieces, net_bit_of, net_bit_after, net_bit_in}
use Rattle.script_read.specs.Form.{bits_of}
use Rattle.script_read.specs.Table.{command_of}
use Rattle.script_read.specs.Text.{bit_text, orient_text, status_text, index_text, net_bit_text}
use Rattle.script_read.specs.Written.{IsBitWord}
use Rattle.script_read.specs.Written.{IsWritable, IsSigned, IsIndex, words_by}
use Rattle.script_read.proofs.Pieces.{is_inner, one_piece, name_passes}
use Rattle.script_read.proofs.Naming.{spelled_name, is_name_true}
use Rattle.script_read.proofs.Forms.{minus_suc}
use Rattle.script_read.proofs.WordTexts.{decimal_digits, digit_other, digits_inner, within_reads, number_reads, range_reads, bit_reads, path_reads, bracket_last}

file_reads : (file : List ℕ) → IsName file → file_of file ≡ Some file
file_reads file is = rw (is_name_true file is) refl

digits_first : (ds : List ℕ) → 0 < length ds → list_all is_digit ds ≡ true → signed_of ds ≡ option_map pos (number_within 2147483647 ds)
unfolding signed_of
digits_first [] some digits = absurd (omega arith)
digits_first (byte ∷ ds) some digits =
    let both = and_parts (is_digit byte) (list_all is_digit ds) digits in
    rw (digit_other byte 45 both.0 refl) refl

signed_reads : (z : ℤ) → IsSigned z → signed_of (signed_decimal z) ≡ Some z
unfolding signed_of
signed_reads (pos n) fits =
    let digits = decimal_digits n (omega arith) in
    digits_first (decimal n) digits.some digits.all ∙ ap (option_map pos) (within_reads 2147483647 n (omega arith) (omega arith))
signed_reads (negsuc n) fits =
    ap (option_map minus) (within_reads 2147483648 (suc n) (omega arith) (omega arith)) ∙ ap (λ z. Some z) (minus_suc n)

dir_reads : (dir : Dir) → dir_of (dir_text dir) ≡ Some dir
dir_reads Input = refl
dir_reads Output = refl
dir_reads Inout = refl

orient_reads : (orient : Orient) → orient_of (orient_text orient) ≡ Some orient
unfolding orient_of
orient_reads R0 = refl
orient_reads R90 = refl
orient_reads R180 = refl
orient_reads R270 = refl
orient_reads MX = refl
orient_reads MY = refl
orient_reads MXR90 = refl
orient_reads MYR90 = refl

status_reads : (status : Status) → status_of (status_text status) ≡ Some status
status_reads Placed = refl
status_reads Fixed = refl

bits_read : (bits : List BitWord) → AllByRecursion IsBitWord bits → bits_of (map bit_text bits ++ []) ≡ Some bits
bits_read [] are = refl
bits_read (bit ∷ bits) are = rw (bit_reads bit are.0, bits_read bits are.1) refl

-- net bits

index_inner : (index : Option ℕ) → IsIndex index → list_all (is_inner 47) (index_text index) ≡ true
index_inner None fits = refl
index_inner (Some index) fits =
    rw (list_all-append (is_inner 47) (decimal index) (93 ∷ []), digits_inner 47 (decimal index) refl (decimal_digits index (omega arith)).all) refl

last_piece : (net : List ℕ) (index : Option ℕ) → IsIndex index → pieces 47 (spell net ++ index_text index) ≡ (spell net ++ index_text index) ∷ []
last_piece net index fits = name_passes 47 [] net (index_text index) refl refl ∙ one_piece 47 (spell net) (index_text index) (index_inner index fits)

path_pieces : (path : List (List ℕ)) (net : List ℕ) (index : Option ℕ) → IsIndex index
    → pieces 47 (net_bit_text path net index) ≡ map spell path ++ (spell net ++ index_text index) ∷ []
path_pieces [] net index fits = last_piece net index fits
path_pieces (name ∷ path) net index fits =
    let last = spell net ++ index_text index in
    ap (pieces 47) (append_assoc (spell name ++ 47 ∷ []) (front_text path) last ∙ append_assoc (spell name) (47 ∷ []) (front_text path ++ last))
    ∙ name_passes 47 [] name (47 ∷ (front_text path ++ last)) refl refl
    ∙ ap (λ others. spell name ∷ others) (path_pieces path net index fits)

net_reads : (path : List (List ℕ)) (net : List ℕ) (index : Option ℕ) → IsName net → IsIndex index
    → net_bit_in path (pieces 91 (spell net ++ index_text index)) ≡ Some (report.Net path net index)
net_reads path net None is fits =
    let cut : pieces 91 (spell net ++ []) ≡ spell net ∷ [] = name_passes 91 [] net [] refl refl in
    rw (cut, spelled_name net is) refl
net_reads path net (Some index) is fits =
    let inner : list_all (is_inner 91) (decimal index ++ 93 ∷ []) ≡ true =
    rw (list_all-append (is_inner 91) (decimal index) (93 ∷ []), digits_inner 91 (decimal index) refl (decimal_digits index (omega arith)).all) refl in
    let cut : pieces 91 (spell net ++ index_text (Some index)) ≡ spell net ∷ (decimal index ++ 93 ∷ []) ∷ [] =
    name_passes 91 [] net (index_text (Some index)) refl refl
    ∙ ap (λ others. spell net ∷ others) (one_piece 91 [] (decimal index ++ 93 ∷ []) inner) in
    rw (cut, spelled_name net is, bracket_last (decimal index), number_reads index fits) refl

after_reads : (front path : List (List ℕ)) (net : List ℕ) (index : Option ℕ) → AllByRecursion IsName path → IsName net → IsIndex index
    → net_bit_after front (map spell path ++ (spell net ++ index_text index) ∷ []) ≡ Some (report.Net (front ++ path) net index)
after_reads front [] net index are is fits = net_reads front net index is fits ∙ ap (λ p. Some (report.Net p net index)) (sym (append-nil front))
after_reads front (name ∷ []) net index are is fits = rw (spelled_name name are.0) (net_reads (front ++ name ∷ []) net index is fits)
after_reads front (name ∷ other ∷ path) net index are is fits =
    rw (spelled_name name are.0) (after_reads (front ++ name ∷ []) (other ∷ path) net index are.1 is fits
    ∙ ap (λ p. Some (report.Net p net index)) (append_assoc front (name ∷ []) (other ∷ path)))

net_bit_reads : (path : List (List ℕ)) (net : List ℕ) (index : Option ℕ) → AllByRecursion IsName path → IsName net → IsIndex index
    → net_bit_of (net_bit_text path net index) ≡ Some (report.Net path net index)
net_bit_reads path net index are is fits =
    ap (net_bit_after []) (path_pieces path net index fits) ∙ after_reads [] path net index are is fits

pub written : (of : Command) → IsWritable of → command_of (words_by of) ≡ Some of
written (command.Load f n) is = rw (file_reads f is.1.0, spelled_name n is.1.1.0) refl
written (command.Cells f) is = rw (file_reads f is.1.0) refl
written (command.Write f) is = rw (file_reads f is.1.0) refl
written (command.Compare f n) is = rw (file_reads f is.1.0, spelled_name n is.1.1.0) refl
written (command.Generate a b c) is = rw (number_reads a is.1.0, number_reads b is.1.1.0, number_reads c is.1.1.1.0) refl
written (command.Churn a b) is = rw (number_reads a is.1.0, number_reads b is.1.1.0) refl
written command.Undo is = refl
written command.Redo is = refl
written (command.Observe n) is = rw (spelled_name n is.1.0) refl
written (command.Ignore n) is = rw (spelled_name n is.1.0) refl
written (command.Report report.Pins) is = refl
written (command.Report report.Block) is = refl
written (command.Report report.Occurrences) is = refl
written (command.Report report.Modules) is = refl
written (command.Report report.Counts) is = refl
written (command.Report report.Log) is = refl
written (command.Report (report.Net path net index)) is = rw (net_bit_reads path net index is.1.1.0.0 is.1.1.0.1 is.1.1.0.2) refl
written (command.Report (report.Where n)) is = rw (spelled_name n is.1.1.0) refl
written (command.CreateModule n) is = rw (spelled_name n is.1.0) refl
written (command.DeleteModule n) is = rw (spelled_name n is.1.0) refl
written (command.CreateNet m n None) is = rw (spelled_name m is.1.0, spelled_name n is.1.1.0) refl
written (command.CreateNet m n (Some r)) is = rw (spelled_name m is.1.0, spelled_name n is.1.1.0, range_reads r is.1.1.1.0) refl
written (command.DeleteNet m n) is = rw (spelled_name m is.1.0, spelled_name n is.1.1.0) refl
written (command.CreatePort m n d None) is = rw (spelled_name m is.1.0, spelled_name n is.1.1.0, dir_reads d) refl
written (command.CreatePort m n d (Some r)) is = rw (spelled_name m is.1.0, spelled_name n is.1.1.0, dir_reads d, range_reads r is.1.1.1.1.0) refl
written (command.DeletePort m n) is = rw (spelled_name m is.1.0, spelled_name n is.1.1.0) refl
written (command.CreateInst a b c) is = rw (spelled_name a is.1.0, spelled_name b is.1.1.0, spelled_name c is.1.1.1.0) refl
written (command.DeleteInst m n) is = rw (spelled_name m is.1.0, spelled_name n is.1.1.0) refl
written (command.Connect a b c []) is = absurd is.1.1.1.1.0
written (command.Connect a b c (bit ∷ bits)) is =
    rw (spelled_name a is.1.0, spelled_name b is.1.1.0, spelled_name c is.1.1.1.0, bit_reads bit is.1.1.1.1.0.0, bits_read bits is.1.1.1.1.0.1) refl
written (command.Disconnect a b c) is = rw (spelled_name a is.1.0, spelled_name b is.1.1.0, spelled_name c is.1.1.1.0) refl
written (command.RenameModule m n) is = rw (spelled_name m is.1.0, spelled_name n is.1.1.0) refl
written (command.RenameNet a b c) is = rw (spelled_name a is.1.0, spelled_name b is.1.1.0, spelled_name c is.1.1.1.0) refl
written (command.RenameInst a b c) is = rw (spelled_name a is.1.0, spelled_name b is.1.1.0, spelled_name c is.1.1.1.0) refl
written (command.Resize a b c) is = rw (spelled_name a is.1.0, spelled_name b is.1.1.0, spelled_name c is.1.1.1.0) refl
written (command.Uniquify a b c) is = rw (spelled_name a is.1.0, spelled_name b is.1.1.0, spelled_name c is.1.1.1.0) refl
written (command.Place p x y o s) is = rw (path_reads p is.1.0, signed_reads x is.1.1.0, signed_reads y is.1.1.1.0, orient_reads o, status_reads s) refl
written (command.Unplace p) is = rw (path_reads p is.1.0) refl
written (command.Lock n) is = rw (spelled_name n is.1.0) refl
written (command.Unlock n) is = rw (spelled_name n is.1.0) refl
written (command.SetFanout a n) is = rw (number_reads a is.1.0, spelled_name n is.1.1.0) refl
written (command.SetGrid a) is = rw (number_reads a is.1.0) refl
