-- What a rule's refusal is about, in print. This project's own.
use Rattle.std.specs.Prelude.{ℕ, List, [], ◌++◌, Option, Some, None, option_map, option_and_then, slice_get, unwrap_or, codes}
use Rattle.std.specs.Fmt.{decimal}
use Rattle.emh_base.specs.Text.{spell, path_text}
use Rattle.emh_base.specs.Rule.{rule_code}
use Rattle.emh_base.specs.declared.ids.ModId.{ModId}
use Rattle.emh_base.specs.declared.ids.NetId.{NetId}
use Rattle.emh_base.specs.declared.ids.InstId.{InstId}
use Rattle.emh_base.specs.declared.plain.Plain.{Plain}
use Rattle.emh_base.specs.declared.rule.Object.{Object}
use Rattle.emh_base.specs.declared.rule.Object.TheVariants.{Module, Net, Inst, Port, NewName, Spot, Number, Word}
use Rattle.emh_base.specs.declared.rule.Refusal.{Refusal}
use Rattle.flatten_rules.specs.Lookup.{module_of, net_of, inst_of}
use Rattle.script_read.specs.declared.command.Command.{Command}
use Rattle.script_read.specs.declared.command.Command.TheVariants.{CreateModule, RenameModule, CreateNet, RenameNet, CreatePort, CreateInst, RenameInst, Uniquify, Place, Unplace, SetFanout, SetGrid}
use Rattle.script_read.specs.declared.lines.Line.{Line}
use Rattle.emh_shell.specs.Printing.{refused_line, word_object, number_object}

-- a name in print; an id that names nothing is told by its number
abbrev pub name_or_number : ℕ → Option (List ℕ) → List ℕ
name_or_number id None = codes "?" ++ decimal id
name_or_number id (Some name) = spell name

abbrev pub module_word : Plain → ModId → List ℕ
module_word M m = name_or_number m.0 (option_map (λ m. m.name) (module_of M m))

abbrev pub net_word : Plain → ModId → NetId → List ℕ
net_word M m net =
    name_or_number net.0 (option_map (λ net. net.name) (option_and_then (λ m. net_of m net) (module_of M m)))

abbrev pub inst_word : Plain → ModId → InstId → List ℕ
inst_word M m inst =
    name_or_number inst.0 (option_map (λ inst. inst.name) (option_and_then (λ m. inst_of m inst) (module_of M m)))

-- the name to be given, the path and the number of a command that has one

abbrev pub new_name : Command → List ℕ
new_name (CreateModule name) = name
new_name (RenameModule m name) = name
new_name (CreateNet m name range) = name
new_name (RenameNet m net name) = name
new_name (CreatePort m name dir range) = name
new_name (CreateInst m name master) = name
new_name (RenameInst m inst name) = name
new_name (Uniquify m inst name) = name
new_name _ = []

abbrev pub path_of : Command → List (List ℕ)
path_of (Place path x y orient status) = path
path_of (Unplace path) = path
path_of _ = []

abbrev pub number_of : Command → ℕ
number_of (SetFanout max cell) = max
number_of (SetGrid grid) = grid
number_of _ = 0

-- the word at a place of a line, counted from 0
abbrev pub word_at : Line → ℕ → List ℕ
word_at line k = unwrap_or (slice_get line.words k) []

-- the object of a line's refusal, by the names that ids have then
abbrev pub object_text : Plain → Line → Object → List ℕ
object_text M line (Module m) = codes "module " ++ module_word M m
object_text M line (Net m net) = codes "net " ++ (module_word M m ++ (codes " " ++ net_word M m net))
object_text M line (Inst m inst) = codes "inst " ++ (module_word M m ++ (codes " " ++ inst_word M m inst))
object_text M line (Port m port) = codes "port " ++ (module_word M m ++ (codes " " ++ net_word M m port))
object_text M line NewName = codes "name " ++ spell (new_name line.command)
object_text M line Spot = codes "occ " ++ path_text (path_of line.command)
object_text M line Number = number_object (number_of line.command)
object_text M line (Word k) = word_object (word_at line k)

-- a line that is refused by a cause of that code, because of its word at that place
abbrev pub word_line : Line → ℕ → ℕ → List ℕ
word_line line code place = refused_line line.number code (word_object (word_at line place))

-- a line that a rule refuses
abbrev pub rule_line : Plain → Line → Refusal → List ℕ
rule_line M line refusal = refused_line line.number (rule_code refusal.rule) (object_text M line refusal.object)
