-- How a spelled text is read back.
use Rattle.std.specs.Prelude.{ℕ, ◌==◌, Bool, true, false, not, ◌&&◌, ◌||◌, List, [], ◌∷◌, Option, Some, None, option_map, if◌then◌else◌}
use Rattle.emh_base.specs.Text.{is_special}

-- whether a byte is marked in a spelled text: a special one always, a = as the first byte of the name
abbrev pub needs_mark : Bool → ℕ → Bool
needs_mark first byte = is_special byte || (first && byte == 61)

-- a byte stands as a spelled text has it: marked where it has to be, and else not
abbrev pub fits_mark : Bool → Bool → ℕ → Bool
fits_mark first marked byte = if needs_mark first byte then marked else not marked

-- the bytes that the rest of a word spells, at the name's first byte or past it, after a mark or not; none where it
-- spells nothing
abbrev pub read_back : Bool → Bool → List ℕ → Option (List ℕ)
read_back first marked [] = if marked then None else Some []
read_back first marked (byte ∷ rest) =
    if not marked && byte == 92 then read_back first true rest
    else if fits_mark first marked byte then option_map (λ name. byte ∷ name) (read_back false false rest)
    else None
