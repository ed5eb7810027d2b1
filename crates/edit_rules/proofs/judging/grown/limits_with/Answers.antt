use Rattle.std.proofs.Common.{refl, ◌≡◌, ℕ, ◌+◌, ◌<◌, nat_lt, Bool, true, false, ◌&&◌, List, [], None, is_some, IsTrue, AllPairs, ap, ap₂, sym, subst, ◌∙◌}
use Rattle.emh_base.specs.declared.ids.ModId.{ModId}
use Rattle.emh_base.specs.declared.plain.PModule.{PModule}
use Rattle.emh_base.specs.declared.plain.Plain.{Plain}
use Rattle.emh_base.specs.declared.state.State.{State}
use Rattle.flatten_rules.specs.Lookup.{module_of}
use Rattle.flatten_rules.specs.Domains.{is_leaf}
use Rattle.flatten_rules.specs.Sound.{IsSound}
use Rattle.edit_rules.specs.declared.facts.Totals.{Totals}
use Rattle.edit_rules.specs.Good.{IsGoodState}
use Rattle.edit_rules.specs.Readers.{is_module}
use Rattle.flatten_rules.specs.Changes.{with_module}
use Rattle.edit_rules.specs.Insts.{with_inst_alone, create_inst}
use Rattle.flatten_rules.specs.Limits.{is_too_deep, has_too_many_occurrences, has_too_many_bits, leads_to}
use Rattle.edit_rules.specs.Facts.{totals, times, inst_after}
use Rattle.edit_rules.specs.inside.Outline.{outline, grown_outline}
use Rattle.edit_rules.proofs.OrderLemmas.{rise_changed}
use Rattle.edit_rules.proofs.OutlineLemmas.{grown-changed}
use Rattle.edit_rules.proofs.AlikeLemmas.{outline-rise, grown-alike, deep-alike, occurrences-alike, bits-alike, leads-alike}
use Rattle.edit_rules.proofs.LeafLemmas.{grown-leads, leads-with, deep-with, occurrences-with, bits-with}
use Rattle.edit_rules.proofs.judging.grown.limits_with.Goals as goal

abbrev Rise : Plain → Type 0
Rise M = AllPairs (λ (a b : PModule). a.id.0 < b.id.0) M.modules

-- the outline with the instance, as a change of the outline
abbrev changed : List ℕ → ModId → ModId → Plain → Plain
changed name id master M = with_module (outline name M) id (with_inst_alone name master [])

rise-made : (M made : Plain) (name : List ℕ) (id master : ModId) → IsSound M → made ≡ grown_outline name id master M → Rise made
rise-made M made name id master sound is =
    subst Rise (sym (is ∙ grown-changed M name id master))
    (rise_changed (outline name M) id (with_inst_alone name master []) (λ m. refl) (outline-rise name M sound.rise))

pub is_too_deep-requires : goal.is_too_deep-requires
is_too_deep-requires g c =
    rise-made (g.F.Facts.state c.args.facts.now).plain c.in_ok-made.made c.args.name.now c.args.id c.args.master c.requires.good.table.sound c.in_ok-made.ensures

pub has_too_many_occurrences-requires : goal.has_too_many_occurrences-requires
has_too_many_occurrences-requires g c =
    rise-made (g.F.Facts.state c.args.facts.now).plain c.in_ok-made.made c.args.name.now c.args.id c.args.master c.requires.good.table.sound c.in_ok-made.ensures

pub has_too_many_bits-requires : goal.has_too_many_bits-requires
has_too_many_bits-requires g c =
    rise-made (g.F.Facts.state c.args.facts.now).plain c.in_ok-made.made c.args.name.now c.args.id c.args.master c.requires.good.table.sound c.in_ok-made.ensures

pub returns-clause-depth : goal.returns-clause-depth
returns-clause-depth g c =
    let M = (g.F.Facts.state c.args.facts.now).plain in
    let name = c.args.name.now in
    c.in_ok-is_too_deep.ensures ∙ ap is_too_deep (c.in_ok-made.ensures ∙ grown-changed M name c.args.id c.args.master)
    ∙ deep-alike (changed name c.args.id c.args.master M) (create_inst M c.args.id name c.args.master) (grown-alike name M c.args.id name c.args.master _ _)

pub returns-clause-occurrences : goal.returns-clause-occurrences
returns-clause-occurrences g c =
    let S = g.F.Facts.state c.args.facts.now in
    let M = S.plain in
    let name = c.args.name.now in
    c.in_ok-has_too_many_occurrences.ensures ∙ ap₂ has_too_many_occurrences (c.in_ok-made.ensures ∙ grown-changed M name c.args.id c.args.master) c.top-top.ensures
    ∙ occurrences-alike (changed name c.args.id c.args.master M) (create_inst M c.args.id name c.args.master) (grown-alike name M c.args.id name c.args.master _ _) S.top

pub returns-clause-bits : goal.returns-clause-bits
returns-clause-bits g c =
    let S = g.F.Facts.state c.args.facts.now in
    let M = S.plain in
    let name = c.args.name.now in
    c.in_ok-has_too_many_bits.ensures ∙ ap₂ has_too_many_bits (c.in_ok-made.ensures ∙ grown-changed M name c.args.id c.args.master) c.top-top.ensures
    ∙ bits-alike (changed name c.args.id c.args.master M) (create_inst M c.args.id name c.args.master) (grown-alike name M c.args.id name c.args.master _ _) S.top

pub leads_to-requires : goal.leads_to-requires
leads_to-requires g c =
    rise-made (g.F.Facts.state c.args.facts.now).plain c.in_ok-made.made c.args.name.now c.args.id c.args.master c.requires.good.table.sound c.in_ok-made.ensures

pub returns-clause-recursive : goal.returns-clause-recursive
returns-clause-recursive g c =
    let S = g.F.Facts.state c.args.facts.now in
    let M = S.plain in
    let name = c.args.name.now in
    c.in_ok-leads_to.ensures ∙ ap (λ p. leads_to p c.args.master c.args.id) (c.in_ok-made.ensures ∙ grown-changed M name c.args.id c.args.master)
    ∙ leads-alike (changed name c.args.id c.args.master M) (create_inst M c.args.id name c.args.master) (grown-alike name M c.args.id name c.args.master _ _) c.args.master c.args.id
    ∙ grown-leads S c.args.id c.args.master name c.args.master

-- a leaf in a module that has an instance

both : (a b : Bool) → a && b ≡ true → (a ≡ true) × (b ≡ true)
both true b e = (refl, e)
both false b e = let never : false ≡ true = e in absurd (cc)

module _ (S : State) (good : IsGoodState S) (id master : ModId) (name : List ℕ) (live : IsTrue (is_module S.plain id)) (inner : is_leaf (module_of S.plain id) ≡ false)
    (adds : is_leaf (module_of S.plain master) && is_some (inst_after S id None) ≡ true) where
  cell : is_leaf (module_of S.plain master) ≡ true
  cell = (both (is_leaf (module_of S.plain master)) (is_some (inst_after S id None)) adds).0

  full : is_some (inst_after S id None) ≡ true
  full = (both (is_leaf (module_of S.plain master)) (is_some (inst_after S id None)) adds).1

  recursive : false ≡ leads_to S.plain master id
  recursive = sym (leads-with S id master name good live inner cell full)

  deep : false ≡ is_too_deep (create_inst S.plain id name master)
  deep = sym (deep-with S id master name good live inner cell full)

  occurrences : nat_lt 1000000 ((totals S).occurrences + times S id) ≡ has_too_many_occurrences (create_inst S.plain id name master) S.top
  occurrences = occurrences-with S id master name good live inner cell full

  bits : false ≡ has_too_many_bits (create_inst S.plain id name master) S.top
  bits = sym (bits-with S id master name good live inner cell full)

pub returns-then-adds_leaves-clause-recursive : goal.returns-then-adds_leaves-clause-recursive
returns-then-adds_leaves-clause-recursive g c =
    recursive (g.F.Facts.state c.args.facts.now) c.requires.good c.args.id c.args.master c.args.name.now c.requires.holder c.requires.inner (sym c.adds_leaves.ensures ∙ c.if-adds_leaves.true)

pub returns-then-adds_leaves-clause-depth : goal.returns-then-adds_leaves-clause-depth
returns-then-adds_leaves-clause-depth g c =
    deep (g.F.Facts.state c.args.facts.now) c.requires.good c.args.id c.args.master c.args.name.now c.requires.holder c.requires.inner (sym c.adds_leaves.ensures ∙ c.if-adds_leaves.true)

pub returns-then-adds_leaves-clause-occurrences : goal.returns-then-adds_leaves-clause-occurrences
returns-then-adds_leaves-clause-occurrences g c =
    ap₂ (λ (t : Totals) n. nat_lt 1000000 (t.occurrences + n)) c.totals.ensures c.times.ensures
    ∙ occurrences (g.F.Facts.state c.args.facts.now) c.requires.good c.args.id c.args.master c.args.name.now c.requires.holder c.requires.inner (sym c.adds_leaves.ensures ∙ c.if-adds_leaves.true)

pub returns-then-adds_leaves-clause-bits : goal.returns-then-adds_leaves-clause-bits
returns-then-adds_leaves-clause-bits g c =
    bits (g.F.Facts.state c.args.facts.now) c.requires.good c.args.id c.args.master c.args.name.now c.requires.holder c.requires.inner (sym c.adds_leaves.ensures ∙ c.if-adds_leaves.true)
