-- What is to be split after a change, and by what.
use Rattle.std.specs.Prelude.{List, [], ◌∷◌, map, Option, Some, None}
use Rattle.emh_base.specs.declared.ids.ModId.{ModId}
use Rattle.emh_base.specs.declared.plain.Dir.TheVariants.{Input, Output}
use Rattle.emh_base.specs.declared.plain.Src.TheVariants.{Bit}
use Rattle.emh_base.specs.declared.state.State.{State}
use Rattle.emh_base.specs.declared.edit.Edit.{Edit}
use Rattle.emh_base.specs.declared.edit.Edit.TheVariants.{Connect}
use Rattle.flatten_rules.specs.Lookup.{module_of}
use Rattle.watch_kit.specs.declared.net_bits.BitOf.{BitOf as Key}
use Rattle.watch_kit.specs.declared.fanout_limit.Overload.{Overload}
use Rattle.watch_kit.specs.declared.split.Buffer.{Buffer}
use Rattle.watch_kit.specs.Split.{made_inst, made_net, new_buffer, port_to}
use Rattle.watch_kit.specs.FanoutLimit.{splits}
use Rattle.watch_kit.specs.inside.Keys.{bit_of}

abbrev pub splits_of : State → Option Overload → List Edit
splits_of S None = []
splits_of S (Some over) = splits S over.module over.limit (map bit_of over.bits)

-- a buffer of a cell, from a net bit to the net that the module gets next
abbrev pub buffer_on : State → ModId → ModId → Key → Buffer
buffer_on S m cell bit = record {
  cell = cell;
  input = port_to Input (module_of S.plain cell);
  output = port_to Output (module_of S.plain cell);
  from = Bit bit.net bit.offset;
  to = made_net S m;
}

-- the edits that make it and connect it
abbrev pub buffer_edits : State → ModId → Buffer → List Edit
buffer_edits S m buffer =
    new_buffer S m buffer.cell
    ∷ Connect m (made_inst S m) buffer.input (buffer.from ∷ [])
    ∷ Connect m (made_inst S m) buffer.output (buffer.to ∷ []) ∷ []
