use Rattle.std.proofs.Common.{◌≡◌, ◌≤◌, length, [], ◌∙◌, ap, sym, arith}
use Rattle.std.proofs.lemmas.List.{get_or_default}
use Rattle.flatten_rules.specs.Graph.{next}
use Rattle.flatten_rules.proofs.Following.{marked-few, get-none_past, followed-first, followed-more, followed-all}
use Rattle.flatten_rules.proofs.reach.returns.Goals as goal
use Rattle.flatten_rules.proofs.reach.returns.Goals.{else-loop-at-test, then-loop-at-test+in-None}

pub loop-at-init : goal.loop-at-init
loop-at-init c =
    let G = c.args.graph.now in
    let edges : c.as_slice.result.now ≡ next G c.args.node =
    c.as_slice.ensures ∙ c.index-graph-node.is ∙ get_or_default G c.args.node c.index-graph-node.result [] c.requires.node
    in (
      c.in_ok-add_all.ensures.nodes ∙ ap (λ view. view.1) c.in_ok-reached.ensures,
      followed-first G c.args.node c.add_all.new.self.0 (rw (edges, c.in_ok-reached.ensures) at c.in_ok-add_all.ensures.order),
    )

pub loop-at-preserved : goal.loop-at-preserved
loop-at-preserved c =
    let G = c.args.graph.now in
    let place = c.in-Some.place in
    let edges : c.as_slice-in-Some.result.now ≡ next G place =
    c.as_slice-in-Some.ensures ∙ c.index-graph-place.is ∙ get_or_default G place c.index-graph-place.result [] (omega (arith, c.in-Some.ensures.node, c.loop-at.invariant.0))
    in (
      c.in_ok-add_all-in-Some.ensures.nodes ∙ c.loop-at.invariant.0,
      followed-more G c.args.node c.loop-at.at place c.loop-at.reached.0 c.add_all-in-Some.new.self.0 c.loop-at.invariant.1 (sym c.in-Some.ensures.place)
          (rw edges at c.in_ok-add_all-in-Some.ensures.order),
    )

pub returns : goal.returns
returns c =
    let G = c.args.graph.now in
    let order = c.loop-at.reached.0 in
    let marked : length c.reached-2.inside.order ≤ length c.reached-2.inside.flags.items =
    marked-few c.reached-2.inside.order c.reached-2.inside.flags.items c.reached-2.invariant
    in
    let few : length order ≤ length G =
    omega (arith, marked, ap (λ view. length view.0) c.reached-2.view_is, ap (λ view. view.1) c.reached-2.view_is, c.loop-at.invariant.0)
    in
    let past : length order ≤ c.loop-at.at = elim c.loop-at-test.branch [
      | else-loop-at-test w ↦ omega arith
      | then-loop-at-test+in-None w ↦ get-none_past order c.loop-at.at (sym w.in-None.ensures.place)
    ] in
    let all = followed-all G c.args.node c.loop-at.at order c.loop-at.invariant.1 past c.args.node in
    (λ yes. all.0 (c.has.ensures.0 yes), λ reaches. c.has.ensures.1 (all.1 reaches))
