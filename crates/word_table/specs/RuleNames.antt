-- The names of the rules and faults that refuse a line, in the order of bytes: of the commands that are built and of
-- those to come. It is shut: an answer that reads the names opens it by `unfolding rule_texts`.
use Rattle.std.specs.Prelude.{ℕ, List, [], ◌∷◌, codes}

unfoldable pub rule_texts : List (List ℕ)
rule_texts =
    codes "AlreadyOpen" ∷ codes "BadBuffer" ∷ codes "BadByte" ∷ codes "BadGroup" ∷
    codes "BadIndex" ∷ codes "BadLiteral" ∷ codes "BadNumber" ∷ codes "BadSizes" ∷
    codes "BitOutOfRange" ∷ codes "BudgetSpent" ∷ codes "Directive" ∷ codes "EcoTooLong" ∷
    codes "FileTooLong" ∷ codes "InTransaction" ∷ codes "IsCell" ∷ codes "IsFixed" ∷ codes "IsTop" ∷
    codes "LateDeclaration" ∷ codes "LeafBody" ∷ codes "Locked" ∷ codes "LongName" ∷ codes "Mixed" ∷
    codes "ModuleInUse" ∷ codes "NameTaken" ∷ codes "NameTooLong" ∷ codes "NetInUse" ∷
    codes "NetIsPort" ∷ codes "NoDesign" ∷ codes "NoDirection" ∷ codes "NoRoom" ∷ codes "NoSize" ∷
    codes "NoSuchInst" ∷ codes "NoSuchModule" ∷ codes "NoSuchNet" ∷ codes "NoSuchObserver" ∷
    codes "NoSuchOccurrence" ∷ codes "NoSuchPort" ∷ codes "NoTransaction" ∷ codes "NotLeaf" ∷
    codes "NotLegal" ∷ codes "NotPlaced" ∷ codes "NotShared" ∷ codes "NothingToRedo" ∷
    codes "NothingToUndo" ∷ codes "OpenAttribute" ∷ codes "OpenComment" ∷ codes "PortInUse" ∷
    codes "PortTwice" ∷ codes "PortsDiffer" ∷ codes "RangeDiffers" ∷ codes "RangeTooWide" ∷
    codes "Recursive" ∷ codes "SameLock" ∷ codes "TooDeep" ∷ codes "TooManyBits" ∷
    codes "TooManyConnections" ∷ codes "TooManyModules" ∷ codes "TooManyObjects" ∷
    codes "TooManyOccurrences" ∷ codes "TooWide" ∷ codes "TransactionFull" ∷ codes "Unexpected" ∷
    codes "UnknownModule" ∷ codes "UnknownPort" ∷ codes "Unsupported" ∷ codes "WidthMismatch" ∷ []
