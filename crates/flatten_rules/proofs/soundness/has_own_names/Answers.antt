use Rattle.std.proofs.Common.{ℕ, List, ◌++◌, map, bytes_eq, refl, ap, subst, ◌∙◌}
use Rattle.std.proofs.lemmas.Bool.{false≢true}
use Rattle.std.specs.List.{IsDistinct}
use Rattle.emh_base.specs.declared.plain.PNet.{PNet}
use Rattle.emh_base.specs.declared.plain.PInst.{PInst}
use Rattle.flatten_rules.proofs.Rising.{distinct-front}
use Rattle.flatten_rules.proofs.soundness.has_own_names.Goals as goal

abbrev net_names : List PNet → List (List ℕ)
net_names nets = map (λ (net : PNet). net.name) nets

abbrev inst_names : List PInst → List (List ℕ)
inst_names insts = map (λ (inst : PInst). inst.name) insts

pub returns-then-not-branch : goal.returns-then-not-branch
returns-then-not-branch c =
    let nets = c.args.holder.now.nets in (
      λ yes. absurd (false≢true yes),
      λ distinct. absurd (c.in_ok-put_new.ensures.known c.if-not-branch.true
          (rw (c.new-names.ensures, c.as_slice.ensures) (distinct-front (net_names nets) (inst_names c.args.holder.now.insts) distinct))),
    )

pub returns-then-not-branch-2 : goal.returns-then-not-branch-2
returns-then-not-branch-2 c =
    let nets = c.in_ok-put_new.ensures.new c.if-not-branch.false ∙ ap (λ (old : List (List ℕ)). old ++ net_names c.as_slice.result.now) c.new-names.ensures ∙ ap net_names c.as_slice.ensures in (
      λ yes. absurd (false≢true yes),
      λ distinct. absurd (c.in_ok-put_new-2.ensures.known c.if-not-branch-2.true (rw (nets, c.as_slice-2.ensures) distinct)),
    )

pub returns : goal.returns
returns c =
    let nets = c.in_ok-put_new.ensures.new c.if-not-branch.false ∙ ap (λ (old : List (List ℕ)). old ++ net_names c.as_slice.result.now) c.new-names.ensures ∙ ap net_names c.as_slice.ensures in
    let all =
    c.in_ok-put_new-2.ensures.new c.if-not-branch-2.false
    ∙ ap (λ (old : List (List ℕ)). old ++ inst_names c.as_slice-2.result.now) nets
    ∙ ap (λ (insts : List PInst). net_names c.args.holder.now.nets ++ inst_names insts) c.as_slice-2.ensures
    in
    (λ _. subst (IsDistinct bytes_eq) all c.len-distinct.ensures.distinct, λ _. refl)
