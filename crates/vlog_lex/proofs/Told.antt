-- What the rule that applies tells of the two bytes.
use Rattle.std.proofs.Common.{◌≡◌, refl, ℕ, Bool, true, false, nat_eq, ◌&&◌}
use Rattle.std.specs.Prelude.{if◌then◌else◌}
use Rattle.vlog_lex.specs.declared.case.Case.{Case}
use Rattle.vlog_lex.specs.declared.case.Case.TheVariants.{White, LineComment, BlockComment, Attribute, Directive, Escaped, Word, Number, Apostrophe, Mark, Unfit}
use Rattle.vlog_lex.specs.Byte.{is_white, is_digit, begins_word, is_graphic, apostrophe, left_parenthesis, star, slash, backslash, backtick}
use Rattle.vlog_lex.specs.Piece.{case_of}

-- the first of ten tests that holds chooses a rule
abbrev chosen : Bool → Bool → Bool → Bool → Bool → Bool → Bool → Bool → Bool → Bool → Case
chosen white line block attribute directive escaped word number apostrophe' mark =
    if white then White
    else (if line then LineComment
    else (if block then BlockComment
    else (if attribute then Attribute
    else (if directive then Directive
    else (if escaped then Escaped
    else (if word then Word
    else (if number then Number
    else (if apostrophe' then Apostrophe
    else (if mark then Mark
    else Unfit)))))))))

-- the test that chose a rule, where more than the rule has to be known
abbrev ChosenBy : Case → Bool → Bool → Bool → Bool → Bool → Bool → Type 0
ChosenBy White white line block attribute word number = white ≡ true
ChosenBy LineComment white line block attribute word number = line ≡ true
ChosenBy BlockComment white line block attribute word number = block ≡ true
ChosenBy Attribute white line block attribute word number = attribute ≡ true
ChosenBy Directive white line block attribute word number = Unit {0}
ChosenBy Escaped white line block attribute word number = Unit {0}
ChosenBy Word white line block attribute word number = word ≡ true
ChosenBy Number white line block attribute word number = number ≡ true
ChosenBy Apostrophe white line block attribute word number = Unit {0}
ChosenBy Mark white line block attribute word number = Unit {0}
ChosenBy Unfit white line block attribute word number = Unit {0}

chosen_by : (white line block attribute directive escaped word number apostrophe' mark : Bool)
    → ChosenBy (chosen white line block attribute directive escaped word number apostrophe' mark) white line block
    attribute word number
chosen_by true l b a d e w n p m = refl
chosen_by false true b a d e w n p m = refl
chosen_by false false true a d e w n p m = refl
chosen_by false false false true d e w n p m = refl
chosen_by false false false false true e w n p m = tt
chosen_by false false false false false true w n p m = tt
chosen_by false false false false false false true n p m = refl
chosen_by false false false false false false false true p m = refl
chosen_by false false false false false false false false true m = tt
chosen_by false false false false false false false false false true = tt
chosen_by false false false false false false false false false false = tt

abbrev pub Told : Case → ℕ → ℕ → Type 0
Told rule first second =
    ChosenBy rule (is_white first) (nat_eq first slash && nat_eq second slash)
    (nat_eq first slash && nat_eq second star)
    (nat_eq first left_parenthesis && nat_eq second star) (begins_word first) (is_digit first)

pub told : (first second : ℕ) → Told (case_of first second) first second
told first second =
    chosen_by (is_white first) (nat_eq first slash && nat_eq second slash) (nat_eq first slash && nat_eq second star)
    (nat_eq first left_parenthesis && nat_eq second star) (nat_eq first backtick) (nat_eq first backslash)
    (begins_word first)
    (is_digit first) (nat_eq first apostrophe) (is_graphic first)
