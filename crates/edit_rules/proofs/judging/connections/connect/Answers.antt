use Rattle.std.proofs.Common.{◌≡◌, subst, None, Err, List, ◌++◌, ◌∙◌, flat_map, length}
use Rattle.std.proofs.lemmas.Result.{err_from_is_err_and}
use Rattle.emh_base.specs.declared.plain.Src.{Src}
use Rattle.flatten_rules.specs.Check.{first_broken}
use Rattle.edit_rules.specs.Check.{Check}
use Rattle.edit_rules.specs.Judged.{Looks}
use Rattle.edit_rules.specs.Modules.{common}
use Rattle.edit_rules.specs.Insts.{names_port, source_rules, width_rules}
use Rattle.flatten_rules.proofs.FirstBroken.{first_broken-kept, first_broken-broken}
use Rattle.edit_rules.proofs.CheckLemmas.{looks_err-by, looks-after}
use Rattle.edit_rules.proofs.judging.connections.connect.Goals as goal

pub returns-in_err-sources : goal.returns-in_err-sources
returns-in_err-sources g c =
    let S = (g.F.Facts.state c.args.facts.now) in
    let first : List Check = common S c.args.id in
    let second : List Check = names_port S c.args.id c.args.inst c.args.port in
    let none : first_broken (first ++ second) ≡ None = first_broken-kept first second c.in_ok-common.ensures.looks ∙ c.in_ok-names_port.ensures.looks in
    let all : List Check = flat_map (source_rules S c.args.id) c.args.bits.now in
    let last : List Check = width_rules S c.args.id c.args.inst c.args.port (length c.args.bits.now) in
    let Told : List Src → Type 0 = λ bits. Looks {X = Unit {0}} (flat_map (source_rules S c.args.id) bits) (Err c.in_err-sources.field-0.0) in
    let told : Told c.args.bits.now = subst Told c.as_slice.ensures c.in_err-sources.ensures in
    let p = err_from_is_err_and c.from_residual-in_err-sources.result c.from_residual-in_err-sources.ensures.1 in
    rw (p.1, p.2)
    (looks_err-by (Unit {0}) (Unit {0}) all (first ++ second ++ all ++ last)
    (λ r some. first_broken-broken (first ++ second ++ all) last r (first_broken-kept (first ++ second) all none ∙ some))
    c.in_err-sources.field-0.0 told)

pub returns : goal.returns
returns g c =
    let S = (g.F.Facts.state c.args.facts.now) in
    let first : List Check = common S c.args.id in
    let second : List Check = names_port S c.args.id c.args.inst c.args.port in
    let none : first_broken (first ++ second) ≡ None = first_broken-kept first second c.in_ok-common.ensures.looks ∙ c.in_ok-names_port.ensures.looks in
    let all : List Check = flat_map (source_rules S c.args.id) c.args.bits.now in
    let kept : first_broken all ≡ None = rw (← c.as_slice.ensures) c.in_ok-sources.ensures in
    looks-after (first ++ second ++ all) (width_rules S c.args.id c.args.inst c.args.port (length c.args.bits.now)) c.look_width.result
    (first_broken-kept (first ++ second) all none ∙ kept)
    (rw (← c.len.ensures) c.look_width.ensures)
