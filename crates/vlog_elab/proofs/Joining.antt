-- The second round in a module: its walk is the checks of the definition.
use Rattle.std.proofs.Common.{arith, ◌≡◌, suc, ◌≤◌, [], ◌∷◌, ◌++◌, None, Some, Option, true, false, List, map, length, refl, ◌∙◌, ap, nat_eq, Result}
use Rattle.std.specs.Prelude.{◌||◌, ◌==◌, not, is_some, is_none}
use Rattle.std.specs.List.{flat_map}
use Rattle.std.proofs.lemmas.List.{append-nil}
use Rattle.vlog_read.specs.declared.tree.At.{At}
use Rattle.vlog_read.specs.declared.tree.TConn.{TConn}
use Rattle.vlog_read.specs.declared.tree.TModule.{TModule}
use Rattle.vlog_elab.specs.declared.fault.ElabFault.{ElabFault}
use Rattle.vlog_elab.specs.declared.interface.Port.{Port}
use Rattle.vlog_elab.specs.declared.interface.Interface.{Interface}
use Rattle.vlog_elab.specs.declared.scope.Scope.{Scope}
use Rattle.flatten_rules.specs.Check.{first_broken}
use Rattle.vlog_elab.specs.Named.{Named, firsts}
use Rattle.vlog_elab.specs.Steps.{Step, Connects, Uses, Fits, conn_steps, steps, net_at, inst_at, met}
use Rattle.vlog_elab.specs.Connections.{port_named, ports_named, mixes, conn_checks, inner_checks}
use Rattle.vlog_elab.specs.inside.Walk.{first_fault, at_end, Found, Passed, Fails, Walks}
use Rattle.vlog_elab.specs.inside.Walks.{with_new, after_step, step_walk}
use Rattle.vlog_elab.proofs.Naming.{firsts-append}
use Rattle.vlog_elab.proofs.Walking.{or-none, found-along, fails-before, fails-then, walks-then, flat_map-push, walked, known-at_end}

few_named : (cs : List TConn) → length (ports_named cs) ≤ length cs
few_named [] = omega arith
few_named (c ∷ cs) = at_port c.port (few_named cs)
  where
    at_port : (p : Option At) → length (ports_named cs) ≤ length cs → length (port_named p ++ ports_named cs) ≤ length (c ∷ cs)
    at_port None h = grind arith
    at_port (Some n) h = grind arith

-- a connection before it was by name where one names a port
pub mixes-order : (cs : List TConn) → mixes cs false ≡ not (length (ports_named cs) == 0)
mixes-order [] = refl
mixes-order (c ∷ cs) = at_port c.port (mixes-order cs)
  where
    at_port : (p : Option At) → mixes cs false ≡ not (length (ports_named cs) == 0) → (is_some p || mixes cs false) ≡ not (length (port_named p ++ ports_named cs) == 0)
    at_port None h = h
    at_port (Some n) h = grind arith

-- and one was by order where not all do
pub mixes-name : (cs : List TConn) → mixes cs true ≡ not (length (ports_named cs) == length cs)
mixes-name [] = refl
mixes-name (c ∷ cs) = at_port c.port (mixes-name cs) (few_named cs)
  where
    at_port : (p : Option At) → mixes cs true ≡ not (length (ports_named cs) == length cs) → length (ports_named cs) ≤ length cs → (is_none p || mixes cs true) ≡ not (length (port_named p ++ ports_named cs) == length (c ∷ cs))
    at_port None h few = let no : nat_eq (length (ports_named cs)) (suc (length cs)) ≡ false = grind arith in rw no refl
    at_port (Some m) h few = h ∙ ap not (let e : nat_eq (length (ports_named cs)) (length cs) ≡ nat_eq (suc (length (ports_named cs))) (suc (length cs)) = grind arith in e)

-- a connection changes nothing that is met
pub connects-pass : (s : Scope) (ports : Named Port) (inst : At) (before : List TConn) (c : TConn) → first_broken (conn_checks ports inst before c c.port) ≡ None → Passed step_walk s (Connects ports inst before c ∷ []) s
connects-pass s ports inst before c none = record {
  none = or-none (first_broken (conn_checks ports inst before c c.port)) ∙ none;
  end = rw (append-nil s.insts) refl;
}

pub connects-fails : (s : Scope) (ports : Named Port) (inst : At) (before : List TConn) (c : TConn) (e : ElabFault) → Found (first_broken (conn_checks ports inst before c c.port)) e
    → Fails step_walk s (conn_steps ports inst before c) e
connects-fails s ports inst before c e f =
    fails-before (map Uses c.parts ++ Fits ports before c ∷ []) (let q : Fails step_walk s (Connects ports inst before c ∷ []) e = record { found = found-along _ _ e (or-none (first_broken (conn_checks ports inst before c c.port))) f } in q)

pub uses-fail : (s : Scope) (ports : Named Port) (inst : At) (before : List TConn) (c : TConn) (e : ElabFault) → first_broken (conn_checks ports inst before c c.port) ≡ None
    → Fails step_walk s (map Uses c.parts) e → Fails step_walk s (conn_steps ports inst before c) e
uses-fail s ports inst before c e none q = fails-then (connects-pass s ports inst before c none) (fails-before (Fits ports before c ∷ []) q)

pub conn-gives : {T : Type 0} (s t u : Scope) (ports : Named Port) (inst : At) (before : List TConn) (c : TConn) (r : Result T ElabFault) → first_broken (conn_checks ports inst before c c.port) ≡ None
    → Passed step_walk s (map Uses c.parts) t → Walks step_walk t (Fits ports before c ∷ []) r u → Walks step_walk s (conn_steps ports inst before c) r u
conn-gives s t u ports inst before c r none p q =
    walks-then (map Uses c.parts ++ Fits ports before c ∷ []) r u (connects-pass s ports inst before c none)
    (walks-then (Fits ports before c ∷ []) r u p q)

-- What is met grows step by step.

pub met-more : (before : List Step) (step : Step) → met (before ++ step ∷ []) ≡ after_step (met before) step
met-more before step =
    let ns : firsts (flat_map net_at (before ++ step ∷ [])) ≡ with_new (firsts (flat_map net_at before)) (net_at step)
    = ap firsts (flat_map-push net_at before step) ∙ firsts-append (flat_map net_at before) (net_at step) in
    rw (ns, flat_map-push inst_at before step) refl

-- the checks of a module, by its walk
pub inner_checks-walk : (interfaces : Named Interface) (m : TModule) → first_broken (inner_checks interfaces m) ≡ first_fault step_walk (record { nets = []; insts = [] }) (steps interfaces m)
inner_checks-walk interfaces m = walked step_walk met met-more [] (steps interfaces m)

pub met-walk : (before : List Step) → met before ≡ at_end step_walk (record { nets = []; insts = [] }) before
met-walk before = known-at_end step_walk met met-more [] before

-- what the walk through a module gives, as its checks
pub inner-passes : (interfaces : Named Interface) (m : TModule) (s t : Scope) → s ≡ record { nets = []; insts = [] } → Passed step_walk s (steps interfaces m) t → first_broken (inner_checks interfaces m) ≡ None
inner-passes interfaces m s t e p = inner_checks-walk interfaces m ∙ (rw (← e) p.none)

pub inner-fails : (interfaces : Named Interface) (m : TModule) (s : Scope) (fault : ElabFault) → s ≡ record { nets = []; insts = [] } → Fails step_walk s (steps interfaces m) fault → Found (first_broken (inner_checks interfaces m)) fault
inner-fails interfaces m s fault e q = found-along _ _ fault (inner_checks-walk interfaces m) (rw (← e) q.found)
