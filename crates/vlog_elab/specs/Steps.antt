-- The walk of the second round through a module: its declarations, instances and connections, in the order of the text;
-- and the nets and instances that are met on it.
use Rattle.std.specs.Prelude.{true, false, List, [], ◌∷◌, ◌++◌, map, Option, Some, None}
use Rattle.std.specs.List.{flat_map}
use Rattle.emh_base.specs.declared.plain.Range.{Range}
use Rattle.vlog_read.specs.declared.tree.At.{At}
use Rattle.vlog_read.specs.declared.tree.Decl.{Decl}
use Rattle.vlog_read.specs.declared.tree.Part.{Part}
use Rattle.vlog_read.specs.declared.tree.Part.TheVariants.{Name, Bit, Bits, Lit}
use Rattle.vlog_read.specs.declared.tree.TConn.{TConn}
use Rattle.vlog_read.specs.declared.tree.TInst.{TInst}
use Rattle.vlog_read.specs.declared.tree.Item.{Item}
use Rattle.vlog_read.specs.declared.tree.Item.TheVariants.{Decl as Declaration, Insts}
use Rattle.vlog_read.specs.declared.tree.TModule.{TModule}
use Rattle.vlog_elab.specs.declared.interface.Port.{Port}
use Rattle.vlog_elab.specs.declared.interface.Interface.{Interface}
use Rattle.vlog_elab.specs.declared.scope.Net.{Net}
use Rattle.vlog_elab.specs.declared.scope.Scope.{Scope}
use Rattle.flatten_rules.specs.Check.{each_after}
use Rattle.vlog_elab.specs.Named.{Named, named, firsts}
use Rattle.vlog_elab.specs.Text.{header_decls, range_of}

-- where the second round looks
pub data Step : Type 0 where
  -- a declaration of a name
  Declares : At → Option Range → Step
  -- an instance of what the table has for the master's name
  Places : Option Interface → At → At → Step
  -- a connection of an instance, where the master has these ports, after these connections
  Connects : Named Port → At → List TConn → TConn → Step
  -- a part of its expression
  Uses : Part → Step
  -- its expression as a whole
  Fits : Named Port → List TConn → TConn → Step

abbrev pub decl_steps : Decl → List Step
decl_steps d = map (λ n. Declares n (range_of d)) d.names

abbrev pub ports_of : Option Interface → Named Port
ports_of None = []
ports_of (Some interface) = interface.ports

abbrev pub conn_steps : Named Port → At → List TConn → TConn → List Step
conn_steps ports inst before c = Connects ports inst before c ∷ map Uses c.parts ++ Fits ports before c ∷ []

abbrev pub inst_steps : Option Interface → At → TInst → List Step
inst_steps interface master i = Places interface master i.name ∷ each_after (conn_steps (ports_of interface) i.name) [] i.conns

abbrev pub item_steps : Named Interface → Item → List Step
item_steps interfaces (Declaration d) = decl_steps d
item_steps interfaces (Insts master insts) = flat_map (inst_steps (named interfaces master.name) master) insts

-- a header's declarations, and then the items in order; a header of bare names mentions no net
abbrev pub steps : Named Interface → TModule → List Step
steps interfaces m = flat_map decl_steps (header_decls m.header) ++ flat_map (item_steps interfaces) m.items

-- the net that a step mentions: a declared one, or one by a name alone in a connection, which then has one bit
abbrev pub net_at : Step → Named Net
net_at (Declares n range) = (n.name, record { range = range; implied = false }) ∷ []
net_at (Places interface master n) = []
net_at (Connects ports inst before c) = []
net_at (Uses (Name n)) = (n.name, record { range = None; implied = true }) ∷ []
net_at (Uses (Bit n index)) = []
net_at (Uses (Bits n range)) = []
net_at (Uses (Lit size value)) = []
net_at (Fits ports before c) = []

-- the instance that a step mentions
abbrev pub inst_at : Step → Named (Unit {0})
inst_at (Declares n range) = []
inst_at (Places interface master n) = (n.name, tt) ∷ []
inst_at (Connects ports inst before c) = []
inst_at (Uses part) = []
inst_at (Fits ports before c) = []

-- the nets, in the order of their first mention, and the instances that were met before a step
abbrev pub met : List Step → Scope
met before = record { nets = firsts (flat_map net_at before); insts = flat_map inst_at before }
