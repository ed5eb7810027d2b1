-- Sweep: nets that nothing uses any more go. This project's own.
use Rattle.std.specs.Prelude.{◌==◌, Bool, not, ◌&&◌, List, [], map, filter, flat_map}
use Rattle.emh_base.specs.declared.ids.ModId.{ModId}
use Rattle.emh_base.specs.declared.ids.NetId.{NetId}
use Rattle.emh_base.specs.declared.plain.Conn.{Conn}
use Rattle.emh_base.specs.declared.state.State.{State}
use Rattle.emh_base.specs.declared.edit.Edit.{Edit}
use Rattle.emh_base.specs.declared.edit.Edit.TheVariants.{DeleteNet, DeleteInst, Connect, Disconnect}
use Rattle.flatten_rules.specs.Lookup.{module_of}
use Rattle.edit_rules.specs.Readers.{is_net, is_port, is_net_used}
use Rattle.session_rules.specs.Take.{Wants}
use Rattle.watch_kit.specs.NetBits.{BitOf, bits_of_conn, once}

abbrev pub same_net : NetId → NetId → Bool
same_net a b = a.0 == b.0

-- the nets of connections, each once, where it is named first
abbrev pub nets_of_conns : List Conn → List NetId
nets_of_conns conns = once same_net (map (λ (b : BitOf). b.net) (flat_map bits_of_conn conns))

-- the net is there, is no port, and no source in the module names it
abbrev pub is_left_over : State → ModId → NetId → Bool
is_left_over S m net =
    is_net S.plain m net
    && (not (is_port S.plain m net) && not (is_net_used (module_of S.plain m) net))

-- of the connections that stood before
abbrev pub sweep_nets : State → ModId → List Conn → List Edit
sweep_nets S m was = map (DeleteNet m) (filter (is_left_over S m) (nets_of_conns was))

abbrev pub sweep_by : State → List Conn → Edit → List Edit
sweep_by S was (Connect m inst port bits) = sweep_nets S m was
sweep_by S was (Disconnect m inst port) = sweep_nets S m was
sweep_by S was (DeleteInst m inst) = sweep_nets S m was
sweep_by S was _ = []

abbrev pub sweep : Wants
sweep S c = sweep_by S c.was c.edit
