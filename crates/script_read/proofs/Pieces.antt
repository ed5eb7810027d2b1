-- How a text is divided.
use Rattle.std.proofs.Common.{◌≡◌, refl, sym, ◌∙◌, ap, ℕ, ◌+◌, ◌==◌, ◌<◌, ◌≤◌, Bool, true, false, not, ◌&&◌, ◌||◌, List, [], ◌∷◌, ◌++◌, length, get_or, drop, flat_map, add-one, drop-cons, append_assoc, append-nil, arith}
use Rattle.std.specs.Prelude.{slice_range}
use Rattle.std.specs.List.{list_all}
use Rattle.std.proofs.lemmas.Bool.{and_parts}
use Rattle.std.proofs.lemmas.Bool.Decides.{nat_tests}
use Rattle.std.proofs.lemmas.List.Edits.{between_more}
use Rattle.emh_base.specs.Text.{is_special, marked, spelled, spelled_first, spell}
use Rattle.script_read.specs.Word.{is_stop, is_mark, pieces_after}

-- a byte with a mark or without one goes into the piece
byte_passes : (stop byte : ℕ) (piece rest : List ℕ) (need : Bool) → (92 == stop) ≡ false
    → (need ≡ false → (byte == stop) ≡ false) → (need ≡ false → (byte == 92) ≡ false)
    → pieces_after stop false piece (marked need byte ++ rest) ≡ pieces_after stop false (piece ++ marked need byte) rest
byte_passes stop byte piece rest true mark plain unmarked =
    rw (mark, append_assoc piece (92 ∷ []) (byte ∷ [])) refl
byte_passes stop byte piece rest false mark plain unmarked = rw (plain refl, unmarked refl) refl

not_stop : (stop byte : ℕ) → is_special stop ≡ true → is_special byte ≡ false → (byte == stop) ≡ false
not_stop stop byte special plain = grind (arith, nat_tests)

not_mark : (byte : ℕ) → is_special byte ≡ false → (byte == 92) ≡ false
not_mark byte plain = grind (arith, nat_tests)

first_plain : (byte : ℕ) → (is_special byte || byte == 61) ≡ false → is_special byte ≡ false
first_plain byte plain = grind (arith, nat_tests)

others_pass : (stop : ℕ) (piece name rest : List ℕ) → is_special stop ≡ true → (92 == stop) ≡ false
    → pieces_after stop false piece (flat_map spelled name ++ rest) ≡ pieces_after stop false (piece ++ flat_map spelled name) rest
others_pass stop piece [] rest special mark = ap (λ front. pieces_after stop false front rest) (sym (append-nil piece))
others_pass stop piece (byte ∷ name) rest special mark =
    ap (pieces_after stop false piece) (append_assoc (spelled byte) (flat_map spelled name) rest)
    ∙ byte_passes stop byte piece (flat_map spelled name ++ rest) (is_special byte) mark (not_stop stop byte special) (not_mark byte)
    ∙ others_pass stop (piece ++ spelled byte) name rest special mark
    ∙ ap (λ front. pieces_after stop false front rest) (append_assoc piece (spelled byte) (flat_map spelled name))

-- a spelled name isn't divided
pub name_passes : (stop : ℕ) (piece name rest : List ℕ) → is_special stop ≡ true → (92 == stop) ≡ false
    → pieces_after stop false piece (spell name ++ rest) ≡ pieces_after stop false (piece ++ spell name) rest
name_passes stop piece [] rest special mark = ap (λ front. pieces_after stop false front rest) (sym (append-nil piece))
name_passes stop piece (byte ∷ name) rest special mark =
    ap (pieces_after stop false piece) (append_assoc (spelled_first byte) (flat_map spelled name) rest)
    ∙ byte_passes stop byte piece (flat_map spelled name ++ rest) (is_special byte || byte == 61) mark
    (λ plain. not_stop stop byte special (first_plain byte plain)) (λ plain. not_mark byte (first_plain byte plain))
    ∙ others_pass stop (piece ++ spelled_first byte) name rest special mark
    ∙ ap (λ front. pieces_after stop false front rest) (append_assoc piece (spelled_first byte) (flat_map spelled name))

-- nor are bytes of which none is one to divide at, or a mark
abbrev pub is_inner : ℕ → ℕ → Bool
is_inner stop byte = not (byte == stop) && not (byte == 92)

inner_step : (stop byte : ℕ) (piece rest : List ℕ) → is_inner stop byte ≡ true
    → pieces_after stop false piece (byte ∷ rest) ≡ pieces_after stop false (piece ++ byte ∷ []) rest
inner_step stop byte piece rest inner =
    let plain : (byte == stop) ≡ false = grind (arith, nat_tests) in
    let unmarked : (byte == 92) ≡ false = grind (arith, nat_tests) in
    rw (plain, unmarked) refl

pub inner_passes : (stop : ℕ) (piece text rest : List ℕ) → list_all (is_inner stop) text ≡ true
    → pieces_after stop false piece (text ++ rest) ≡ pieces_after stop false (piece ++ text) rest
inner_passes stop piece [] rest inner = ap (λ front. pieces_after stop false front rest) (sym (append-nil piece))
inner_passes stop piece (byte ∷ text) rest inner =
    let both = and_parts (is_inner stop byte) (list_all (is_inner stop) text) inner in
    inner_step stop byte piece (text ++ rest) both.0
    ∙ inner_passes stop (piece ++ byte ∷ []) text rest both.1
    ∙ ap (λ front. pieces_after stop false front rest) (append_assoc piece (byte ∷ []) text)

-- a text with nothing to divide at is one piece
pub one_piece : (stop : ℕ) (piece text : List ℕ) → list_all (is_inner stop) text ≡ true
    → pieces_after stop false piece text ≡ (piece ++ text) ∷ []
one_piece stop piece text inner =
    ap (pieces_after stop false piece) (sym (append-nil text)) ∙ inner_passes stop piece text [] inner

byte_at : (text : List ℕ) (at : ℕ) → at < length text → drop at text ≡ get_or text at 0 ∷ drop (at + 1) text
byte_at text at within = rw (add-one, drop-cons text at 0) refl

range_grows : (text : List ℕ) (from at : ℕ) → from ≤ at → at < length text
    → slice_range text from (at + 1) ≡ slice_range text from at ++ get_or text at 0 ∷ []
range_grows text from at le within = between_more text from at 0 le within

-- one step of the walk that divides a text: at a byte to divide at, and at another
pub walk_stops : (stop : ℕ) (text : List ℕ) (from at : ℕ) (marked : Bool) (found whole : List (List ℕ)) → at < length text
    → is_stop stop marked (get_or text at 0) ≡ true
    → found ++ pieces_after stop marked (slice_range text from at) (drop at text) ≡ whole
    → (found ++ slice_range text from at ∷ []) ++ pieces_after stop false [] (drop (at + 1) text) ≡ whole
walk_stops stop text from at marked found whole within stops invariant =
    append_assoc found (slice_range text from at ∷ []) (pieces_after stop false [] (drop (at + 1) text))
    ∙ ap (λ rest. found ++ rest) (sym (rw (byte_at text at within, stops) refl))
    ∙ invariant

pub walk_goes_on : (stop : ℕ) (text : List ℕ) (from at : ℕ) (marked : Bool) (found whole : List (List ℕ)) → from ≤ at → at < length text
    → is_stop stop marked (get_or text at 0) ≡ false
    → found ++ pieces_after stop marked (slice_range text from at) (drop at text) ≡ whole
    → found ++ pieces_after stop (is_mark marked (get_or text at 0)) (slice_range text from (at + 1)) (drop (at + 1) text) ≡ whole
walk_goes_on stop text from at marked found whole le within goes invariant =
    ap (λ rest. found ++ rest) (rw (range_grows text from at le within) (sym (rw (byte_at text at within, goes) refl)))
    ∙ invariant
