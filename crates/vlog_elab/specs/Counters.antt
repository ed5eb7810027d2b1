-- How many nets and instances a module may have: as many as a counter of ids can count.
use Rattle.std.specs.Prelude.{length}
use Rattle.emh_base.specs.declared.plain.PModule.{PModule}
use Rattle.flatten_rules.specs.Sound.{IsCounter}
use Rattle.vlog_read.specs.declared.tree.TModule.{TModule}
use Rattle.vlog_elab.specs.Table.{nets, insts}

-- the counters of a module of a table
abbrev pub HasCounters : PModule → Type 0
HasCounters m = IsCounter m.next_net × IsCounter m.next_inst

-- a module of a tree has no more nets, and no more instances, than there are ids
abbrev pub IsCountable : TModule → Type 0
IsCountable m = IsCounter (length (nets m)) × IsCounter (length (insts m))
