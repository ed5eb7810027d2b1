use Rattle.std.proofs.Common.{◌≡◌, [], ◌∷◌, ◌++◌, ap, ◌∙◌}
use Rattle.emh_base.specs.declared.ids.ModId.{ModId}
use Rattle.emh_base.specs.declared.plain.Plain.{Plain}
use Rattle.flatten_rules.proofs.Pending.{begins, goes-well, goes-on}
use Rattle.flatten_rules.proofs.walk.occurrences.Walk.advance.Goals as goal

pub returns-then-not-self-clause-next : goal.returns-then-not-self-clause-next
returns-then-not-self-clause-next c =
    let a = c.self.inside in
    begins a.way a.here.now a.above.items a.begun c.args.self.now c.if-not-self.true c.self.invariant c.self.view_is

pub invariant_of-self-in-Ok : goal.invariant_of-self-in-Ok
invariant_of-self-in-Ok c =
    let M = c.args.self.now.plain in
    let top = c.args.self.now.top in
    let a = c.loop-self.self-inside in
    let path = a.way.path ++ c.in-Some.inst.now.id ∷ [] in
    let goes : c.push-in-Some.new.self ≡ record { plain = M; top = top; path = path } = c.in-Ok.ensures.ok
    ∙ ap (λ (P : Plain). record { plain = P; top = a.way.top; path = path }) c.loop-self.invariant.plain
    ∙ ap (λ (t : ModId). record { plain = M; top = t; path = path }) c.loop-self.invariant.top in
    goes-well M top c.loop-self.invariant.good a.way.path a.here.now a.above.items c.push.new.self.items c.in-Some.inst.now c.in-Some.others c.push-in-Some.new.self c.module.result.now c.as_slice-self-inside.result.now c.in-Some.ensures.cases.0 c.in_ok-push-in-Some.ensures.items goes c.module.ensures.there c.as_slice-self-inside.ensures c.loop-self.invariant.there a.begun c.loop-self.invariant.begun

pub returns-in-Ok-clause-next : goal.returns-in-Ok-clause-next
returns-in-Ok-clause-next c =
    let M = c.args.self.now.plain in
    let top = c.args.self.now.top in
    let a = c.loop-self.self-inside in
    let path = a.way.path ++ c.in-Some.inst.now.id ∷ [] in
    let goes : c.push-in-Some.new.self ≡ record { plain = M; top = top; path = path } = c.in-Ok.ensures.ok
    ∙ ap (λ (P : Plain). record { plain = P; top = a.way.top; path = path }) c.loop-self.invariant.plain
    ∙ ap (λ (t : ModId). record { plain = M; top = t; path = path }) c.loop-self.invariant.top in
    goes-on M top c.loop-self.invariant.good a.way.path a.here.now a.above.items c.push.new.self.items c.in-Some.inst.now c.in-Some.others c.push-in-Some.new.self c.module.result.now c.as_slice-self-inside.result.now c.in-Some.ensures.cases.0 c.in_ok-push-in-Some.ensures.items goes c.module.ensures.there c.as_slice-self-inside.ensures c.loop-self.invariant.there a.begun c.args.self.now c.loop-self.invariant.begun c.loop-self.invariant.rest
