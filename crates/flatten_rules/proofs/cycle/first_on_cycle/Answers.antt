use Rattle.std.proofs.Common.{ℕ, List, IfOk, sym, ◌∙◌, subst}
use Rattle.std.proofs.lemmas.Result.{IfOk-weaker}
use Rattle.flatten_rules.specs.Graph.{IsGraph, IsFirstReturning, graph_of}
use Rattle.flatten_rules.specs.Cycle.{IsFirstOnCycle}
use Rattle.flatten_rules.proofs.Cycling.{is_graph, first-from_returning}
use Rattle.flatten_rules.proofs.cycle.first_on_cycle.Goals as goal

pub first_returning-requires : goal.first_returning-requires
first_returning-requires c = subst IsGraph (sym (c.as_slice.ensures ∙ c.in_ok-graph.ensures)) (is_graph c.args.plain.now c.requires.rise)

pub returns : goal.returns
returns c =
    let M = c.args.plain.now in
    let from = c.args.from in
    let First : List (List ℕ) → Type 0 = λ G. IfOk c.first_returning.result (λ first. IsFirstReturning G from first) in
    let found = subst First (c.as_slice.ensures ∙ c.in_ok-graph.ensures) c.first_returning.ensures in
    IfOk-weaker c.first_returning.result (λ first. IsFirstReturning (graph_of M) from first) (λ first. IsFirstOnCycle M from first)
    (λ first is. first-from_returning M c.requires.rise c.requires.insts from first is) found
