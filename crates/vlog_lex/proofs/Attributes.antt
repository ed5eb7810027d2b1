-- The parts of strings and of attributes are a walk.
use Rattle.std.proofs.Common.{◌≡◌, ◌≢◌, refl, sym, ◌∙◌, ap, subst, ℕ, ◌+◌, ◌<◌, ◌≤◌, true, false, nat_eq, List, length, get_or, arith, inl, inr, ◌⊎◌}
use Rattle.std.proofs.lemmas.List.{get_or_past}
use Rattle.std.proofs.lemmas.Bool.{and_parts, eqb-true, both_ways, cases_eq, cases_Bool}
use Rattle.vlog_lex.specs.Byte.{quote, backslash, star, right_parenthesis}
use Rattle.vlog_lex.specs.Place.{both_at}
use Rattle.vlog_lex.specs.Attribute.{Through, StringPart, EndsString, AttributePart, EndsAttribute}
use Rattle.vlog_lex.proofs.Walk.{Walks, over_once, through_onward, ahead, stays, through_more, over_or_not, Place, ends, goes, stuck}

abbrev pub IsQuote : List ℕ → ℕ → Type 0
IsQuote bytes e = get_or bytes e 0 ≡ quote

abbrev pub IsClose : List ℕ → ℕ → Type 0
IsClose bytes e = both_at star right_parenthesis bytes e ≡ true

-- where `*)` stands, the first byte is a star
pub close_star : (bytes : List ℕ) (e : ℕ) → IsClose bytes e → get_or bytes e 0 ≡ star
close_star bytes e close =
    eqb-true (get_or bytes e 0) star (and_parts (nat_eq (get_or bytes e 0) star)
    (nat_eq (get_or bytes (e + 1) 0) right_parenthesis) close).0

pub strings : (bytes : List ℕ) → Walks (StringPart bytes) (IsQuote bytes)
strings bytes = record { goes_on = goes_on; onward = onward; once = once }
  where
    goes_on : (a b : ℕ) → StringPart bytes a b → IsQuote bytes a → ⊥
    goes_on a b (inl (slash, to)) quoted = omega (arith, slash, quoted)
    goes_on a b (inr (other, plain, to)) quoted = plain quoted

    onward : (a b : ℕ) → StringPart bytes a b → a < b
    onward a b (inl (slash, to)) = omega arith
    onward a b (inr (other, plain, to)) = omega arith

    once : (a b c : ℕ) → StringPart bytes a b → StringPart bytes a c → b ≡ c
    once a b c (inl (slash, to)) (inl (slash', to')) = to ∙ sym to'
    once a b c (inl (slash, to)) (inr (other, plain, to')) = absurd (other slash)
    once a b c (inr (other, plain, to)) (inl (slash, to')) = absurd (other slash)
    once a b c (inr (other, plain, to)) (inr (other', plain', to')) = to ∙ sym to'

pub string_once : (bytes : List ℕ) (a b c : ℕ) → EndsString bytes a b → EndsString bytes a c → b ≡ c
string_once bytes a b c some other =
    over_once (StringPart bytes) (IsQuote bytes) (strings bytes) a b c some.0 some.1 other.0 other.1

pub attributes : (bytes : List ℕ) → Walks (AttributePart bytes) (IsClose bytes)
attributes bytes = record { goes_on = goes_on; onward = onward; once = once }
  where
    goes_on : (a b : ℕ) → AttributePart bytes a b → IsClose bytes a → ⊥
    goes_on a b (inl (e, quoted, string, to)) close = omega (arith, quoted, close_star bytes a close)
    goes_on a b (inr (other, open', to)) close = both_ways (both_at star right_parenthesis bytes a) open' close

    onward : (a b : ℕ) → AttributePart bytes a b → a < b
    onward a b (inl (e, quoted, string, to)) =
        omega (arith, through_onward (StringPart bytes) (IsQuote bytes) (strings bytes) (a + 1) e string.0)
    onward a b (inr (other, open', to)) = omega arith

    once : (a b c : ℕ) → AttributePart bytes a b → AttributePart bytes a c → b ≡ c
    once a b c (inl (e, quoted, string, to)) (inl (e', quoted', string', to')) =
        to ∙ ap (λ x. x + 1) (string_once bytes (a + 1) e e' string string') ∙ sym to'
    once a b c (inl (e, quoted, string, to)) (inr (other, open', to')) = absurd (other quoted)
    once a b c (inr (other, open', to)) (inl (e, quoted, string, to')) = absurd (other quoted)
    once a b c (inr (other, open', to)) (inr (other', open'', to')) = to ∙ sym to'

-- past the end of the bytes nothing closes a string or an attribute
pub no_quote_past : (bytes : List ℕ) (e : ℕ) → length bytes ≤ e → IsQuote bytes e → ⊥
no_quote_past bytes e past quoted = let nothing = get_or_past bytes e 0 past in omega (arith, nothing)

pub no_close_past : (bytes : List ℕ) (e : ℕ) → length bytes ≤ e → IsClose bytes e → ⊥
no_close_past bytes e past close =
    let nothing = get_or_past bytes e 0 past in
    omega (arith, nothing, close_star bytes e close)

-- a string that leads past the end of the bytes has no end
pub string_open : (bytes : List ℕ) (a b : ℕ) → Through (StringPart bytes) a b → length bytes ≤ b
    → (e : ℕ) → EndsString bytes a e → ⊥
string_open bytes a b way past e (rest, quoted) =
    let on = ahead (StringPart bytes) (IsQuote bytes) (strings bytes) a b e way rest quoted in
    let onward = through_onward (StringPart bytes) (IsQuote bytes) (strings bytes) b e on in
    no_quote_past bytes e (omega (arith, onward)) quoted

pub attribute_open : (bytes : List ℕ) (a b : ℕ) → Through (AttributePart bytes) a b → length bytes ≤ b
    → (e : ℕ) → EndsAttribute bytes a e → ⊥
attribute_open bytes a b way past e (rest, close) =
    let on = ahead (AttributePart bytes) (IsClose bytes) (attributes bytes) a b e way rest close in
    let onward = through_onward (AttributePart bytes) (IsClose bytes) (attributes bytes) b e on in
    no_close_past bytes e (omega (arith, onward)) close

-- neither has an attribute with a string that has none
pub attribute_open_at_string : (bytes : List ℕ) (a b : ℕ) → Through (AttributePart bytes) a b → IsQuote bytes b
    → ((e : ℕ) → EndsString bytes (b + 1) e → ⊥) → (e : ℕ) → EndsAttribute bytes a e → ⊥
attribute_open_at_string bytes a b way quoted none e (rest, close) =
    let on = ahead (AttributePart bytes) (IsClose bytes) (attributes bytes) a b e way rest close in
    let same : b ≡ e = stays (AttributePart bytes) b e no_part on in
    let starred = close_star bytes e close in
    omega (arith, subst (IsQuote bytes) same quoted, starred)
  where
    no_part : (x : ℕ) → AttributePart bytes b x → ⊥
    no_part x (inl (e', quoted', string, to)) = none e' string
    no_part x (inr (other, open', to)) = other quoted

-- the parts that the loops pass
pub escape_more : (bytes : List ℕ) (a b : ℕ) → Through (StringPart bytes) a b → get_or bytes b 0 ≡ backslash
    → Through (StringPart bytes) a (b + 2)
escape_more bytes a b way slash = through_more (StringPart bytes) a b (b + 2) way (inl (slash, refl))

pub plain_more : (bytes : List ℕ) (a b : ℕ) → Through (StringPart bytes) a b → get_or bytes b 0 ≢ backslash
    → get_or bytes b 0 ≢ quote → Through (StringPart bytes) a (b + 1)
plain_more bytes a b way other plain = through_more (StringPart bytes) a b (b + 1) way (inr (other, plain, refl))

pub string_more : (bytes : List ℕ) (a b e : ℕ) → Through (AttributePart bytes) a b → IsQuote bytes b
    → EndsString bytes (b + 1) e → Through (AttributePart bytes) a (e + 1)
string_more bytes a b e way quoted string =
    through_more (AttributePart bytes) a b (e + 1) way (inl (e, quoted, string, refl))

pub byte_more : (bytes : List ℕ) (a b : ℕ) → Through (AttributePart bytes) a b → get_or bytes b 0 ≢ quote
    → both_at star right_parenthesis bytes b ≡ false → Through (AttributePart bytes) a (b + 1)
byte_more bytes a b way other close = through_more (AttributePart bytes) a b (b + 1) way (inr (other, close, refl))

-- a string has an end or none, and so has an attribute
quote_place : (bytes : List ℕ) (a : ℕ) → Place (StringPart bytes) (IsQuote bytes) a
quote_place bytes a =
    elim (cases_eq (get_or bytes a 0) quote) [
      | inl quoted ↦ ends quoted
      | inr plain ↦ elim (cases_eq (get_or bytes a 0) backslash) [
        | inl slash ↦ goes (a + 2) (inl (slash, refl))
        | inr other ↦ goes (a + 1) (inr (other, plain, refl))
      ]
    ]

string_or_not : (bytes : List ℕ) (a : ℕ) → ((e : ℕ) × EndsString bytes a e) ⊎ ((e : ℕ) → EndsString bytes a e → ⊥)
string_or_not bytes a =
    elim (over_or_not (StringPart bytes) (IsQuote bytes) (strings bytes) (quote_place bytes) (length bytes)
    (no_quote_past bytes) (length bytes) a (omega arith)) [
      | inl (e, way, over) ↦ inl (e, (way, over))
      | inr none ↦ inr (λ e (way, over). none e way over)
    ]

close_place : (bytes : List ℕ) (a : ℕ) → Place (AttributePart bytes) (IsClose bytes) a
close_place bytes a =
    elim (cases_Bool (both_at star right_parenthesis bytes a)) [
      | inl close ↦ ends close
      | inr on ↦ elim (cases_eq (get_or bytes a 0) quote) [
        | inl quoted ↦ elim (string_or_not bytes (a + 1)) [
          | inl (e, string) ↦ goes (e + 1) (inl (e, quoted, string, refl))
          | inr none ↦ stuck (no_part quoted none) (λ close. both_ways _ on close)
        ]
        | inr other ↦ goes (a + 1) (inr (other, on, refl))
      ]
    ]
  where
    no_part : IsQuote bytes a → ((e : ℕ) → EndsString bytes (a + 1) e → ⊥) → (x : ℕ) → AttributePart bytes a x → ⊥
    no_part quoted none x (inl (e, quoted', string, to)) = none e string
    no_part quoted none x (inr (other, open', to)) = other quoted

pub attribute_or_not : (bytes : List ℕ) (a : ℕ)
    → ((e : ℕ) × EndsAttribute bytes a e) ⊎ ((e : ℕ) → EndsAttribute bytes a e → ⊥)
attribute_or_not bytes a =
    elim (over_or_not (AttributePart bytes) (IsClose bytes) (attributes bytes) (close_place bytes) (length bytes)
    (no_close_past bytes) (length bytes) a (omega arith)) [
      | inl (e, way, over) ↦ inl (e, (way, over))
      | inr none ↦ inr (λ e (way, over). none e way over)
    ]
