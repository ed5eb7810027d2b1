-- The laws of texts, which a public call carries.
use Rattle.std.specs.Prelude.{◌≡◌, ℕ, List}
use Rattle.emh_base.specs.Text.{spell}

-- no two names have one spelled text
abbrev pub EachSpelledOnce : Type 0
EachSpelledOnce = (name other : List ℕ) → spell name ≡ spell other → name ≡ other
