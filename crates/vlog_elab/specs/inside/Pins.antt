-- The connections by name of an instance, found by the names of their ports.
use Rattle.std.specs.Prelude.{ℕ, ◌+◌, List, [], ◌∷◌, ◌++◌, Option, Some, None}
use Rattle.vlog_read.specs.declared.tree.At.{At}
use Rattle.vlog_read.specs.declared.tree.TConn.{TConn}
use Rattle.vlog_elab.specs.Named.{Named}

-- the port that a connection names, with the connection's place
abbrev pub pin_at : ℕ → Option At → Named ℕ
pin_at place None = []
pin_at place (Some port) = (port.name, place) ∷ []

abbrev pub pins_from : ℕ → List TConn → Named ℕ
pins_from place [] = []
pins_from place (c ∷ cs) = pin_at place c.port ++ pins_from (place + 1) cs
