-- FanoutLimit: net bits with more sinks than the limit allows are split. This project's own.
use Rattle.std.specs.Prelude.{◌==◌, Bool, ◌&&◌, nat_lt, List, [], ◌∷◌, ◌++◌, filter, length, Option, Some, None}
use Rattle.emh_base.specs.declared.ids.ModId.{ModId}
use Rattle.emh_base.specs.declared.plain.Conn.{Conn}
use Rattle.emh_base.specs.declared.state.Fanout.{Fanout}
use Rattle.emh_base.specs.declared.state.State.{State}
use Rattle.emh_base.specs.declared.edit.Edit.{Edit}
use Rattle.emh_base.specs.declared.edit.Edit.TheVariants.{Connect}
use Rattle.edit_rules.specs.Readers.{inst_in, conn_of}
use Rattle.session_rules.specs.Take.{Wants}
use Rattle.watch_kit.specs.Passed.{all_passed}
use Rattle.watch_kit.specs.NetBits.{BitOf, bits_of_conn, once}
use Rattle.watch_kit.specs.Sinks.{sinks}
use Rattle.watch_kit.specs.Split.{split}

abbrev pub same_bit : BitOf → BitOf → Bool
same_bit a b = (a.net.0 == b.net.0) && (a.offset == b.offset)

-- the distinct net bits of a connection, from the left; none where it isn't there
abbrev pub present_bits : Option Conn → List BitOf
present_bits None = []
present_bits (Some conn) = once same_bit (bits_of_conn conn)

abbrev pub is_over : State → ModId → Fanout → BitOf → Bool
is_over S m limit b = nat_lt limit.max (length (sinks S.plain m b))

-- the splits of net bits, each in the state that those before it leave
abbrev pub splits : State → ModId → Fanout → List BitOf → List Edit
splits S m limit [] = []
splits S m limit (b ∷ bs) =
    split S m limit b ++ splits (all_passed S (split S m limit b)) m limit bs

-- those of the port's present connection that have too many sinks
abbrev pub fanout_by : State → Option Fanout → Edit → List Edit
fanout_by S (Some limit) (Connect m inst port bits) =
    splits S m limit
    (filter (is_over S m limit) (present_bits (conn_of S.plain (inst_in S.plain m inst) port)))
fanout_by S _ _ = []

abbrev pub fanout_limit : Wants
fanout_limit S c = fanout_by S S.settings.fanout c.edit
