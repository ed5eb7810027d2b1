use Rattle.std.proofs.Common.{◌≡◌, ◌+◌, List, ◌∷◌, map, sym, ap, ◌∙◌, subst, arith}
use Rattle.std.specs.List.{range_with_len}
use Rattle.emh_base.specs.declared.plain.PModule.{PModule}
use Rattle.emh_base.specs.declared.plain.Plain.{Plain}
use Rattle.flatten_rules.specs.Sound.{IsSound}
use Rattle.gen_design.specs.Made.{inverter, made_module}
use Rattle.gen_design.proofs.Draws.{three-drawn, drawn-module, module-more}
use Rattle.gen_design.proofs.Sound.{made-is-sound}
use Rattle.gen_design.proofs.made.generate.Goals as goal

pub loop-j-preserved : goal.loop-j-preserved
loop-j-preserved c = record {
  random = three-drawn c.args.number c.loop-j.j c.loop-j.random c.drawn-first.result c.drawn-second.result _
      (omega arith) c.loop-j.invariant.random c.drawn-first.ensures c.drawn-second.ensures c.drawn-random.ensures;
  modules = module-more c.args.number c.args.width c.loop-j.j c.loop-j.made _ _ c.loop-j.invariant.modules
      (c.in_ok-later_module.ensures ∙ drawn-module c.args.number c.args.width c.loop-j.j c.loop-j.random c.drawn-first.result c.drawn-second.result _ _ _ _
      (omega arith) c.loop-j.invariant.random c.drawn-first.ensures c.drawn-second.ensures c.drawn-random.ensures
      c.given-a.ensures.value c.given-b.ensures.value c.given-shift.ensures.value)
      c.in_ok-push.ensures.ok;
}

pub returns-clause-made : goal.returns-clause-made
returns-clause-made c =
    let all : c.loop-j.j ≡ c.args.modules = omega arith in
    ap (λ (list : List PModule). record { modules = list; next_module = c.args.modules + 1 })
    (c.loop-j.invariant.modules ∙ ap (λ n. inverter ∷ map (made_module c.args.number c.args.width) (range_with_len 0 n)) all)

pub returns-clause-sound : goal.returns-clause-sound
returns-clause-sound c =
    let all : c.loop-j.j ≡ c.args.modules = omega arith in
    let table : List PModule → Plain = λ list. record { modules = list; next_module = c.args.modules + 1 } in
    subst (λ (list : List PModule). IsSound (table list))
    (sym (c.loop-j.invariant.modules ∙ ap (λ n. inverter ∷ map (made_module c.args.number c.args.width) (range_with_len 0 n)) all))
    (made-is-sound c.args.number c.args.modules c.args.width c.requires.some c.requires.few c.requires.wide c.requires.narrow).0
