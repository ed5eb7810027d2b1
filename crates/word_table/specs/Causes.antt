-- Why a line is refused: the number of each cause, and the name beside it. This project's own. The list is shut: an
-- answer that reads it opens it by `unfolding causes`.
use Rattle.std.specs.Prelude.{ℕ, ◌==◌, List, [], ◌∷◌, Option, find, map, codes}
use Rattle.std.specs.Borrow.{Bor}
use Rattle.std.specs.Option.{option_map_or}

unfoldable pub causes : List (ℕ × List ℕ)
causes =
    (1, codes "NoSuchModule") ∷ (2, codes "NoSuchNet") ∷ (3, codes "NoSuchInst") ∷ (4, codes "NoSuchPort")
    ∷ (5, codes "NameTaken") ∷ (7, codes "NetInUse") ∷ (8, codes "ModuleInUse") ∷ (9, codes "IsTop")
    ∷ (10, codes "IsCell") ∷ (11, codes "Recursive") ∷ (12, codes "WidthMismatch")
    ∷ (13, codes "BitOutOfRange") ∷ (14, codes "RangeTooWide") ∷ (15, codes "NetIsPort")
    ∷ (16, codes "PortInUse") ∷ (17, codes "TooManyOccurrences") ∷ (18, codes "NoSuchOccurrence")
    ∷ (19, codes "NotLeaf") ∷ (20, codes "PortsDiffer") ∷ (21, codes "IsFixed")
    ∷ (22, codes "AlreadyOpen") ∷ (23, codes "NotShared") ∷ (24, codes "Locked")
    ∷ (25, codes "BadBuffer") ∷ (26, codes "BadNumber") ∷ (27, codes "NoDesign")
    ∷ (28, codes "BudgetSpent") ∷ (29, codes "TooDeep") ∷ (30, codes "TooManyBits")
    ∷ (31, codes "TooManyObjects") ∷ (32, codes "NotPlaced") ∷ (33, codes "SameLock")
    ∷ (34, codes "NothingToUndo") ∷ (35, codes "NothingToRedo") ∷ (36, codes "NoSuchObserver")
    ∷ (37, codes "FileTooLong") ∷ (38, codes "NameTooLong") ∷ (39, codes "BadGroup")
    ∷ (41, codes "BadByte") ∷ (42, codes "OpenComment") ∷ (43, codes "OpenAttribute")
    ∷ (44, codes "BadLiteral") ∷ (45, codes "LongName") ∷ (46, codes "Directive")
    ∷ (48, codes "Unexpected") ∷ (49, codes "Unsupported") ∷ (50, codes "InTransaction")
    ∷ (51, codes "NoTransaction") ∷ (52, codes "TransactionFull") ∷ (53, codes "EcoTooLong")
    ∷ (54, codes "BadSizes") ∷ (55, codes "NotLegal") ∷ (56, codes "NoRoom") ∷ (57, codes "NoSize")
    ∷ (60, codes "NameTaken") ∷ (61, codes "UnknownModule") ∷ (62, codes "UnknownPort")
    ∷ (63, codes "PortTwice") ∷ (64, codes "Mixed") ∷ (65, codes "TooManyConnections")
    ∷ (66, codes "WidthMismatch") ∷ (67, codes "BadIndex") ∷ (68, codes "NoDirection")
    ∷ (69, codes "RangeDiffers") ∷ (70, codes "LateDeclaration") ∷ (71, codes "LeafBody")
    ∷ (72, codes "TooWide") ∷ (73, codes "Recursive") ∷ (74, codes "TooManyModules") ∷ []

-- the first cause of that number
abbrev pub of_code : ℕ → List (ℕ × List ℕ) → Option (ℕ × List ℕ)
of_code code rows = find (λ row. row.0 == code) rows

-- the name of a cause; no bytes for a number that is no cause's
abbrev pub cause_name : ℕ → List ℕ
cause_name code = option_map_or (λ cause. cause.1) (of_code code causes) []

-- what the references of a table of causes point to
abbrev pub pointed_to : List (ℕ × Bor (List ℕ)) → List (ℕ × List ℕ)
pointed_to rows = map (λ row. (row.0, row.1.now)) rows
