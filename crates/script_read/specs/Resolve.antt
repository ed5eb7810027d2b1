-- How the names in an edit's words are looked up, from the left: the first word that names nothing refuses the line.
use Rattle.std.specs.Prelude.{◌≡◌, ℕ, ◌+◌, ◌-◌, Bool, true, false, ◌&&◌, ◌||◌, nat_lt, nat_le, List, [], ◌∷◌, ◌++◌, map, length, Option, Some, None, option_map, option_and_then, Result, Ok, Err, if◌then◌else◌}
use Rattle.std.specs.List.{range_with_len}
use Rattle.emh_base.specs.declared.ids.ModId.{ModId}
use Rattle.emh_base.specs.declared.ids.NetId.{NetId}
use Rattle.emh_base.specs.declared.ids.InstId.{InstId}
use Rattle.emh_base.specs.declared.plain.Range.{Range}
use Rattle.emh_base.specs.declared.plain.Src.{Src}
use Rattle.emh_base.specs.declared.plain.Src.TheVariants.{Tie0, Tie1, Bit}
use Rattle.emh_base.specs.declared.state.State.{State}
use Rattle.emh_base.specs.declared.edit.Edit.{Edit}
use Rattle.emh_base.specs.declared.edit.Edit.TheVariants as edit
use Rattle.emh_base.specs.declared.rule.Rule.{Rule}
use Rattle.emh_base.specs.declared.rule.Rule.TheVariants.{NoSuchModule, NoSuchNet, NoSuchInst, NoSuchPort, NoSuchOccurrence, BitOutOfRange, WidthMismatch}
use Rattle.emh_base.specs.declared.rule.Object.{Object}
use Rattle.emh_base.specs.declared.rule.Object.TheVariants.{Word, Port}
use Rattle.emh_base.specs.declared.rule.Refusal.{Refusal}
use Rattle.flatten_rules.specs.Lookup.{width}
use Rattle.edit_rules.specs.Facts.{module_named, net_named, inst_named, net_range, port_dir, master}
use Rattle.edit_rules.specs.declared.judged.Judged.{Judged}
use Rattle.edit_rules.specs.declared.judged.Judged.TheVariants as judged
use Rattle.script_read.specs.declared.command.BitWord.{BitWord}
use Rattle.script_read.specs.declared.command.BitWord.TheVariants.{Zero, One, Net}
use Rattle.script_read.specs.declared.command.Command.{Command}
use Rattle.script_read.specs.declared.command.Command.TheVariants as command

-- what is found, or why the line is refused
abbrev pub Looked : Type 0 → Type 0
Looked A = Result A Refusal

abbrev pub refused : {A : Type 0} → Rule → Object → Looked A
refused rule object = Err (record { rule = rule; object = object })

-- a look-up, and what is done with what it finds
abbrev pub on : {A B : Type 0} → Looked A → (A → Looked B) → Looked B
on (Ok found) next = next found
on (Err refusal) next = Err refusal

-- what the word at a place names; the first word of the line has the place 0
abbrev pub at_word : {A : Type 0} → Rule → ℕ → Option A → Looked A
at_word rule place None = refused rule (Word place)
at_word rule place (Some found) = Ok found

-- the kinds of words, each with its place

abbrev pub a_module : State → ℕ → List ℕ → Looked ModId
a_module S place name = at_word NoSuchModule place (module_named S name)

abbrev pub a_net : State → ModId → ℕ → List ℕ → Looked NetId
a_net S m place name = at_word NoSuchNet place (net_named S m name)

abbrev pub an_inst : State → ModId → ℕ → List ℕ → Looked InstId
an_inst S m place name = at_word NoSuchInst place (inst_named S m name)

-- the inner net of the port of that name
abbrev pub when_port : State → ModId → NetId → Option NetId
when_port S m net = option_map (λ dir. net) (port_dir S m net)

abbrev pub port_named : State → ModId → List ℕ → Option NetId
port_named S m name = option_and_then (when_port S m) (net_named S m name)

abbrev pub a_port : State → ModId → ℕ → List ℕ → Looked NetId
a_port S m place name = at_word NoSuchPort place (port_named S m name)

-- a port of an instance: the master, and the port in it
abbrev pub pin_in : State → List ℕ → ModId → Option (ModId × NetId)
pin_in S name of = option_map (λ port. (of, port)) (port_named S of name)

abbrev pub a_pin : State → ModId → InstId → ℕ → List ℕ → Looked (ModId × NetId)
a_pin S m inst place name = at_word NoSuchPort place (option_and_then (pin_in S name) (master S m inst))

-- an instance in a module, and its master
abbrev pub step_named : State → ModId → List ℕ → Option (InstId × ModId)
step_named S m name = option_and_then (λ inst. option_map (λ below. (inst, below)) (master S m inst)) (inst_named S m name)

-- the instances of these names, from a module down
abbrev pub path_named : State → ModId → List (List ℕ) → Option (List InstId)
path_named S m [] = Some []
path_named S m (name ∷ names) =
    option_and_then (λ step. option_map (λ path. step.0 ∷ path) (path_named S step.1 names)) (step_named S m name)

abbrev pub a_path : State → ℕ → List (List ℕ) → Looked (List InstId)
a_path S place names = at_word NoSuchOccurrence place (path_named S S.top names)

-- sources of a connection

-- a select is one of the net's indices, or some that go the way of its range
abbrev pub goes_up : Range → Range → Bool
goes_up range select =
    nat_le range.left select.left && (nat_le select.left select.right && nat_le select.right range.right)

abbrev pub goes_down : Range → Range → Bool
goes_down range select =
    nat_le range.right select.right && (nat_le select.right select.left && nat_le select.left range.left)

abbrev pub fits : Range → Range → Bool
fits range select = goes_up range select || goes_down range select

-- how far an index stands from the left end of the range
abbrev pub offset_of : Range → ℕ → ℕ
offset_of range index = (range.left - index) + (index - range.left)

-- the first offset, and how many there are, leftmost first: of a whole net, or of what is selected
abbrev pub run_of : Option Range → Option Range → Option (ℕ × ℕ)
run_of range None = Some (0, width range)
run_of None (Some select) = None
run_of (Some range) (Some select) =
    if fits range select then Some (offset_of range select.left, width (Some select)) else None

abbrev pub net_bits : NetId → ℕ × ℕ → List Src
net_bits net run = map (λ offset. Bit net offset) (range_with_len run.0 run.1)

-- the bits of a word
abbrev pub a_source : State → ModId → ℕ → BitWord → Looked (List Src)
a_source S m place Zero = Ok (Tie0 ∷ [])
a_source S m place One = Ok (Tie1 ∷ [])
a_source S m place (Net name select) =
    on (a_net S m place name) (λ net.
    on (at_word BitOutOfRange place (option_and_then (λ range. run_of range select) (net_range S m net))) (λ run.
    Ok (net_bits net run)))

-- the bits so far with those of a word, unless there are more than a net can have
abbrev pub not_more : ModId × NetId → List Src → Looked (List Src)
not_more pin bits = if nat_lt 4096 (length bits) then refused WidthMismatch (Port pin.0 pin.1) else Ok bits

abbrev pub some_sources : State → ModId → ModId × NetId → ℕ → List Src → List BitWord → Looked (List Src)
some_sources S m pin place before [] = Ok before
some_sources S m pin place before (bit ∷ bits) =
    on (a_source S m place bit) (λ found.
    on (not_more pin (before ++ found)) (λ so_far.
    some_sources S m pin (place + 1) so_far bits))

abbrev pub sources : State → ModId → ModId × NetId → ℕ → List BitWord → Looked (List Src)
sources S m pin place bits = some_sources S m pin place [] bits

-- The table: for each edit the words that are looked up, from the left, by place and kind. A name to be given isn't.
-- A command that is no edit has none.
abbrev pub resolution : State → Command → Option (Looked Edit)
resolution S (command.CreateModule name) = Some (Ok (edit.CreateModule name))
resolution S (command.DeleteModule m) = Some (on (a_module S 1 m) (λ m. Ok (edit.DeleteModule m)))
resolution S (command.RenameModule m name) = Some (on (a_module S 1 m) (λ m. Ok (edit.RenameModule m name)))
resolution S (command.Lock m) = Some (on (a_module S 1 m) (λ m. Ok (edit.Lock m)))
resolution S (command.Unlock m) = Some (on (a_module S 1 m) (λ m. Ok (edit.Unlock m)))
resolution S (command.CreateNet m name range) = Some (on (a_module S 1 m) (λ m. Ok (edit.CreateNet m name range)))
resolution S (command.DeleteNet m net) =
    Some (on (a_module S 1 m) (λ m. on (a_net S m 2 net) (λ net. Ok (edit.DeleteNet m net))))
resolution S (command.CreatePort m name dir range) =
    Some (on (a_module S 1 m) (λ m. Ok (edit.CreatePort m name dir range)))
resolution S (command.DeletePort m port) =
    Some (on (a_module S 1 m) (λ m. on (a_port S m 2 port) (λ port. Ok (edit.DeletePort m port))))
resolution S (command.RenameNet m net name) =
    Some (on (a_module S 1 m) (λ m. on (a_net S m 2 net) (λ net. Ok (edit.RenameNet m net name))))
resolution S (command.CreateInst m name of) =
    Some (on (a_module S 1 m) (λ m. on (a_module S 3 of) (λ of. Ok (edit.CreateInst m name of))))
resolution S (command.DeleteInst m inst) =
    Some (on (a_module S 1 m) (λ m. on (an_inst S m 2 inst) (λ inst. Ok (edit.DeleteInst m inst))))
resolution S (command.Connect m inst port bits) =
    Some (on (a_module S 1 m) (λ m. on (an_inst S m 2 inst) (λ inst. on (a_pin S m inst 3 port) (λ pin.
    on (sources S m pin 4 bits) (λ bits. Ok (edit.Connect m inst pin.1 bits))))))
resolution S (command.Disconnect m inst port) =
    Some (on (a_module S 1 m) (λ m. on (an_inst S m 2 inst) (λ inst. on (a_pin S m inst 3 port) (λ pin.
    Ok (edit.Disconnect m inst pin.1)))))
resolution S (command.RenameInst m inst name) =
    Some (on (a_module S 1 m) (λ m. on (an_inst S m 2 inst) (λ inst. Ok (edit.RenameInst m inst name))))
resolution S (command.Resize m inst of) =
    Some (on (a_module S 1 m) (λ m. on (an_inst S m 2 inst) (λ inst. on (a_module S 3 of) (λ of.
    Ok (edit.Resize m inst of)))))
resolution S (command.Uniquify m inst name) =
    Some (on (a_module S 1 m) (λ m. on (an_inst S m 2 inst) (λ inst. Ok (edit.Uniquify m inst name))))
resolution S (command.Place path x y orient status) =
    Some (on (a_path S 1 path) (λ path.
    Ok (edit.Place path (record { x = x; y = y; orient = orient; status = status }))))
resolution S (command.Unplace path) = Some (on (a_path S 1 path) (λ path. Ok (edit.Unplace path)))
resolution S (command.SetFanout max cell) = Some (on (a_module S 2 cell) (λ cell. Ok (edit.SetFanout max cell)))
resolution S (command.SetGrid grid) = Some (Ok (edit.SetGrid grid))
resolution S _ = None

-- whether a command is an edit
abbrev pub is_edit : Command → Bool
is_edit (command.Load file top) = false
is_edit (command.Cells file) = false
is_edit (command.Write file) = false
is_edit (command.Compare file top) = false
is_edit (command.Generate seed modules width) = false
is_edit (command.Churn seed turns) = false
is_edit command.Undo = false
is_edit command.Redo = false
is_edit (command.Observe observer) = false
is_edit (command.Ignore observer) = false
is_edit (command.Report kind) = false
is_edit _ = true

-- the answer of a call that looks something up; want of memory is free
abbrev pub Answers : {A : Type 0} → Looked A → Result A Judged → Type 0
Answers wanted (Ok found) = wanted ≡ Ok found
Answers wanted (Err (judged.Rule refusal)) = wanted ≡ Err refusal
Answers wanted (Err judged.NoMemory) = Unit {0}

-- the same for a command that is an edit
abbrev pub Resolves : Option (Looked Edit) → Result Edit Judged → Type 0
Resolves wanted (Ok found) = wanted ≡ Some (Ok found)
Resolves wanted (Err (judged.Rule refusal)) = wanted ≡ Some (Err refusal)
Resolves wanted (Err judged.NoMemory) = Unit {0}
