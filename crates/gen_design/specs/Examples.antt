-- The definitions tried: a made design of three modules that are two bits wide, and turns in the
-- table of the two pairs, whose top is module 3.
use Rattle.std.specs.Prelude.{◌≡◌, [], ◌∷◌, map, Some, None, codes}
use Rattle.emh_base.specs.declared.plain.Src.TheVariants.{Tie0}
use Rattle.emh_base.specs.declared.edit.Edit.TheVariants.{Connect, Uniquify}
use Rattle.emh_base.specs.TwoLevel.{two_level}
use Rattle.gen_design.specs.Random.{draw}
use Rattle.gen_design.specs.Made.{on, inst, made_module}
use Rattle.gen_design.specs.Turn.{turn_edit}

abbrev pub DrawsFromFive : Type 0
DrawsFromFive = map (draw 5) (1 ∷ 2 ∷ 3 ∷ []) ≡ 1724882992 ∷ 301167773 ∷ 1762018234 ∷ []

-- the leftmost bit of a bus is that of index 1
abbrev pub FirstHasInverters : Type 0
FirstHasInverters =
    (made_module 5 2 0).insts
    ≡ inst 0 (codes "u0") 0 (on 0 (1 ∷ [])) (on 1 (1 ∷ []))
    ∷ inst 1 (codes "u1") 0 (on 0 (0 ∷ [])) (on 1 (0 ∷ [])) ∷ []

-- the fourth to the sixth draw from 5 choose g1 twice and a shift by an odd number
abbrev pub ThirdHasTwo : Type 0
ThirdHasTwo =
    (made_module 5 2 2).insts
    ≡ inst 0 (codes "a") 2 (on 0 (0 ∷ 1 ∷ [])) (on 2 (0 ∷ 1 ∷ []))
    ∷ inst 1 (codes "b") 2 (on 2 (1 ∷ 0 ∷ [])) (on 1 (0 ∷ 1 ∷ [])) ∷ []

-- the first draw from 0 is 167951807, which is 2 modulo 3
abbrev pub DrawsFromZero : Type 0
DrawsFromZero = draw 0 1 ≡ 167951807

abbrev pub TurnsByTheirDraws : Type 0
TurnsByTheirDraws =
    (turn_edit two_level 9 0 ≡ Some (Uniquify (record { 0 = 3 }) (record { 0 = 0 }) (codes "c0")))
    × (turn_edit two_level 2 0
    ≡ Some (Connect (record { 0 = 2 }) (record { 0 = 0 }) (record { 0 = 0 }) (Tie0 ∷ [])))

-- without modules there is no edit
abbrev pub NoneInAnEmptyTable : Type 0
NoneInAnEmptyTable = turn_edit (record { modules = []; next_module = 0 }) 9 0 ≡ None
