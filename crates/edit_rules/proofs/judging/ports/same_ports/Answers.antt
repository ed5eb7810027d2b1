use Rattle.std.proofs.Common.{◌≡◌, ℕ, ◌<◌, ◌≤◌, true, length, sym, subst, ◌∙◌, arith, ⊎_elim}
use Rattle.std.proofs.lemmas.Bool.{cases_lt}
use Rattle.flatten_rules.specs.Lookup.{module_of}
use Rattle.flatten_rules.specs.Domains.{ports_of}
use Rattle.edit_rules.specs.inside.Ports.{are_alike_at}
use Rattle.edit_rules.proofs.PortLemmas.{same-yes, same-no}
use Rattle.edit_rules.proofs.judging.ports.same_ports.Goals as goal

pub returns-then-not-same_port : goal.returns-then-not-same_port
returns-then-not-same_port g c =
    let M = (g.F.Facts.state c.args.facts.now).plain in
    let x = module_of M c.args.a in
    let y = module_of M c.args.b in
    let many : length (ports_of x) ≡ length (ports_of y) = omega (arith, c.port_count-count.ensures, c.port_count.ensures, c.if-count-port_count.false) in
    let within : c.loop-place.place < length (ports_of x) = omega (arith, c.port_count-count.ensures, c.loop-place-test.true) in
    sym (same-no x y c.loop-place.place many within (sym c.same_port.ensures ∙ c.if-not-same_port.true))

pub loop-place-preserved : goal.loop-place-preserved
loop-place-preserved g c =
    let M = (g.F.Facts.state c.args.facts.now).plain in
    let Alike : ℕ → Type 0 = λ k. are_alike_at (module_of M c.args.a) (module_of M c.args.b) k ≡ true in
    λ k below. ⊎_elim
    (λ (earlier : k < c.loop-place.place). c.loop-place.invariant k earlier)
    (λ (from : c.loop-place.place ≤ k).
    let same : c.loop-place.place ≡ k = omega arith in
    subst Alike same (sym c.same_port.ensures ∙ c.if-not-same_port.false))
    (cases_lt k c.loop-place.place)

pub returns : goal.returns
returns g c =
    let M = (g.F.Facts.state c.args.facts.now).plain in
    let x = module_of M c.args.a in
    let y = module_of M c.args.b in
    let many : length (ports_of x) ≡ length (ports_of y) = omega (arith, c.port_count-count.ensures, c.port_count.ensures, c.if-count-port_count.false) in
    sym (same-yes x y c.requires.first c.requires.second many (λ k within. c.loop-place.invariant k (omega (arith, c.port_count-count.ensures, c.loop-place-test.false, within))))
