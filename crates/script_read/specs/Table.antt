-- The table of lines: for each first word, the form of the words behind it. A further command is a form and a row here.
use Rattle.std.specs.Prelude.{ℕ, ℤ, Bool, true, false, List, [], ◌∷◌, Option, Some, None, if◌then◌else◌, codes, bytes_eq}
use Rattle.emh_base.specs.declared.report.Kind.TheVariants as report
use Rattle.script_read.specs.declared.command.Command.{Command}
use Rattle.script_read.specs.declared.command.Command.TheVariants as command
use Rattle.script_read.specs.Word.{file_of, name_of, number_of, signed_of, range_of, path_of, dir_of, orient_of, status_of, net_bit_of}
use Rattle.script_read.specs.Form.{Form, Row, next, maybe, done, bits, name_form, two_names, three_names, plain_kind}

-- netlists

abbrev pub load_form : Form
load_form = next file_of (λ file. name_form (command.Load file))

abbrev pub cells_form : Form
cells_form = next file_of (λ file. done (command.Cells file))

abbrev pub write_form : Form
write_form = next file_of (λ file. done (command.Write file))

abbrev pub compare_form : Form
compare_form = next file_of (λ file. name_form (command.Compare file))

-- made designs

abbrev pub generate_form : Form
generate_form =
    next number_of (λ seed. next number_of (λ modules. next number_of (λ width.
    done (command.Generate seed modules width))))

abbrev pub churn_form : Form
churn_form = next number_of (λ seed. next number_of (λ turns. done (command.Churn seed turns)))

-- the history

abbrev pub undo_form : Form
undo_form = done command.Undo

abbrev pub redo_form : Form
redo_form = done command.Redo

-- observers

abbrev pub observe_form : Form
observe_form = name_form command.Observe

abbrev pub ignore_form : Form
ignore_form = name_form command.Ignore

-- reports

abbrev pub net_bit_form : Form
net_bit_form = next net_bit_of (λ kind. done (command.Report kind))

abbrev pub where_form : Form
where_form = next name_of (λ name. done (command.Report (report.Where name)))

abbrev pub kind_form : Form
kind_form = next plain_kind (λ kind. done (command.Report kind))

abbrev pub report_form : Form
report_form [] = None
report_form (word ∷ words) =
    if bytes_eq word (codes "net") then net_bit_form words
    else if bytes_eq word (codes "where") then where_form words
    else kind_form (word ∷ words)

-- edits of modules

abbrev pub create_module_form : Form
create_module_form = name_form command.CreateModule

abbrev pub delete_module_form : Form
delete_module_form = name_form command.DeleteModule

abbrev pub rename_module_form : Form
rename_module_form = two_names command.RenameModule

abbrev pub lock_form : Form
lock_form = name_form command.Lock

abbrev pub unlock_form : Form
unlock_form = name_form command.Unlock

-- edits of nets and ports

abbrev pub port_form : List ℕ → Form
port_form holder =
    next name_of (λ name. next dir_of (λ dir. maybe range_of (λ range.
    done (command.CreatePort holder name dir range))))

abbrev pub create_net_form : Form
create_net_form =
    next name_of (λ holder. next name_of (λ name. maybe range_of (λ range.
    done (command.CreateNet holder name range))))

abbrev pub delete_net_form : Form
delete_net_form = two_names command.DeleteNet

abbrev pub create_port_form : Form
create_port_form = next name_of port_form

abbrev pub delete_port_form : Form
delete_port_form = two_names command.DeletePort

abbrev pub rename_net_form : Form
rename_net_form = three_names command.RenameNet

-- edits of instances

abbrev pub pin_form : List ℕ → List ℕ → Form
pin_form holder inst = next name_of (λ port. bits (command.Connect holder inst port))

abbrev pub create_inst_form : Form
create_inst_form = three_names command.CreateInst

abbrev pub delete_inst_form : Form
delete_inst_form = two_names command.DeleteInst

abbrev pub connect_form : Form
connect_form = next name_of (λ holder. next name_of (λ inst. pin_form holder inst))

abbrev pub disconnect_form : Form
disconnect_form = three_names command.Disconnect

abbrev pub rename_inst_form : Form
rename_inst_form = three_names command.RenameInst

abbrev pub resize_form : Form
resize_form = three_names command.Resize

abbrev pub uniquify_form : Form
uniquify_form = three_names command.Uniquify

-- edits of placements

abbrev pub standing_form : List (List ℕ) → ℤ → ℤ → Form
standing_form path x y =
    next orient_of (λ orient. next status_of (λ status. done (command.Place path x y orient status)))

abbrev pub height_form : List (List ℕ) → ℤ → Form
height_form path x = next signed_of (λ y. standing_form path x y)

abbrev pub placement_form : List (List ℕ) → Form
placement_form path = next signed_of (λ x. height_form path x)

abbrev pub place_form : Form
place_form = next path_of placement_form

abbrev pub unplace_form : Form
unplace_form = next path_of (λ path. done (command.Unplace path))

-- settings of observers

abbrev pub set_fanout_form : Form
set_fanout_form = next number_of (λ max. name_form (command.SetFanout max))

abbrev pub set_grid_form : Form
set_grid_form = next number_of (λ grid. done (command.SetGrid grid))

-- the rows

abbrev pub setting_rows : List Row
setting_rows =
    (codes "set_fanout", set_fanout_form)
    ∷ (codes "set_grid", set_grid_form)
    ∷ []

abbrev pub spot_rows : List Row
spot_rows =
    (codes "place", place_form)
    ∷ (codes "unplace", unplace_form)
    ∷ setting_rows

abbrev pub inst_rows : List Row
inst_rows =
    (codes "create_inst", create_inst_form)
    ∷ (codes "delete_inst", delete_inst_form)
    ∷ (codes "connect", connect_form)
    ∷ (codes "disconnect", disconnect_form)
    ∷ (codes "rename_inst", rename_inst_form)
    ∷ (codes "resize", resize_form)
    ∷ (codes "uniquify", uniquify_form)
    ∷ spot_rows

abbrev pub net_rows : List Row
net_rows =
    (codes "create_net", create_net_form)
    ∷ (codes "delete_net", delete_net_form)
    ∷ (codes "create_port", create_port_form)
    ∷ (codes "delete_port", delete_port_form)
    ∷ (codes "rename_net", rename_net_form)
    ∷ inst_rows

abbrev pub module_rows : List Row
module_rows =
    (codes "create_module", create_module_form)
    ∷ (codes "delete_module", delete_module_form)
    ∷ (codes "rename_module", rename_module_form)
    ∷ (codes "lock", lock_form)
    ∷ (codes "unlock", unlock_form)
    ∷ net_rows

abbrev pub report_rows : List Row
report_rows =
    (codes "report", report_form)
    ∷ module_rows

abbrev pub observer_rows : List Row
observer_rows =
    (codes "observe", observe_form)
    ∷ (codes "ignore", ignore_form)
    ∷ report_rows

abbrev pub history_rows : List Row
history_rows =
    (codes "undo", undo_form)
    ∷ (codes "redo", redo_form)
    ∷ observer_rows

abbrev pub made_rows : List Row
made_rows =
    (codes "generate", generate_form)
    ∷ (codes "churn", churn_form)
    ∷ history_rows

abbrev pub netlist_rows : List Row
netlist_rows =
    (codes "load", load_form)
    ∷ (codes "cells", cells_form)
    ∷ (codes "write", write_form)
    ∷ (codes "compare", compare_form)
    ∷ made_rows

-- the form of the row with that first word
abbrev pub form_in : List Row → List ℕ → Form
form_in [] first words = None
form_in (row ∷ rows) first words = if bytes_eq first row.0 then row.1 words else form_in rows first words

-- what a line's words ask for, by the whole table
abbrev pub command_of : Form
command_of [] = None
command_of (first ∷ words) = form_in netlist_rows first words
