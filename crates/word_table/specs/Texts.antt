-- A table of words as the list of their texts.
use Rattle.std.specs.Prelude.{◌≡◌, ℕ, ◌<◌, ◌^◌, Bool, true, ◌&&◌, IsTrue, List, [], ◌∷◌, length, map}
use Rattle.std.specs.Borrow.{Bor}
use Rattle.std.specs.Ordering.{is_lt, nat_cmp}
use Rattle.std.specs.Cmp.Lexicographic.{slice_cmp}

-- what the references of a table point to
abbrev pub texts : List (Bor (List ℕ)) → List (List ℕ)
texts words = map (λ word. word.now) words

-- a text comes before the first of the others, in the order of bytes
abbrev pub before_first : List ℕ → List (List ℕ) → Bool
before_first text [] = true
before_first text (other ∷ others) = is_lt (slice_cmp nat_cmp text other)

-- each text comes before the next one, so all of them differ
abbrev pub rising : List (List ℕ) → Bool
rising [] = true
rising (text ∷ others) = before_first text others && rising others

-- a table of n words, whose rows fit in 16 bits
pub record IsTable (n : ℕ) (words : List (Bor (List ℕ))) : Type 0 where
  pub rises : IsTrue (rising (texts words))
  pub rows : length words ≡ n
  pub numbered : n < 2 ^ 16
