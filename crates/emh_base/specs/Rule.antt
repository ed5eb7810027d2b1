-- The numbers by which rules are told in print.
use Rattle.std.specs.Prelude.{ℕ}
use Rattle.emh_base.specs.declared.rule.Rule.{Rule}
use Rattle.emh_base.specs.declared.rule.Rule.TheVariants.{NoSuchModule, NoSuchNet, NoSuchInst, NoSuchPort, NameTaken, NetInUse, ModuleInUse, IsTop, IsCell, Recursive, WidthMismatch, BitOutOfRange, RangeTooWide, NetIsPort, PortInUse, TooManyOccurrences, NoSuchOccurrence, NotLeaf, PortsDiffer, IsFixed, AlreadyOpen, NotShared, Locked, BadBuffer, BadNumber, TooDeep, TooManyBits, TooManyObjects, NotPlaced, SameLock}

-- 6, 27 and 28 are no rule's
abbrev pub rule_code : Rule → ℕ
rule_code NoSuchModule = 1
rule_code NoSuchNet = 2
rule_code NoSuchInst = 3
rule_code NoSuchPort = 4
rule_code NameTaken = 5
rule_code NetInUse = 7
rule_code ModuleInUse = 8
rule_code IsTop = 9
rule_code IsCell = 10
rule_code Recursive = 11
rule_code WidthMismatch = 12
rule_code BitOutOfRange = 13
rule_code RangeTooWide = 14
rule_code NetIsPort = 15
rule_code PortInUse = 16
rule_code TooManyOccurrences = 17
rule_code NoSuchOccurrence = 18
rule_code NotLeaf = 19
rule_code PortsDiffer = 20
rule_code IsFixed = 21
rule_code AlreadyOpen = 22
rule_code NotShared = 23
rule_code Locked = 24
rule_code BadBuffer = 25
rule_code BadNumber = 26
rule_code TooDeep = 29
rule_code TooManyBits = 30
rule_code TooManyObjects = 31
rule_code NotPlaced = 32
rule_code SameLock = 33
