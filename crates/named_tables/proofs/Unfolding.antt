-- Sums over all occurrences, by names.
use Rattle.std.proofs.Common.{◌≡◌, ℕ, zero, suc, ◌+◌, List, [], ◌∷◌, ◌++◌, flat_map, get_or, reverse, Option, Some, None, refl, sym, ap, ◌∙◌, All}
use Rattle.std.specs.List.{sum_by}
use Rattle.std.proofs.lemmas.List.{reverse-append}
use Rattle.std.proofs.lemmas.List.Folds.{flat_map-map}
use Rattle.std.proofs.lemmas.List.Sums.{sum_by-cons}
use Rattle.emh_base.specs.declared.ids.ModId.{ModId}
use Rattle.emh_base.specs.declared.ids.InstId.{InstId}
use Rattle.emh_base.specs.declared.plain.PInst.{PInst}
use Rattle.emh_base.specs.declared.plain.PModule.{PModule}
use Rattle.emh_base.specs.declared.plain.Plain.{Plain}
use Rattle.flatten_rules.specs.Lookup.{module_of, inst_of, insts_of}
use Rattle.flatten_rules.specs.Unfolding.{Occurrence, unfolded, module_up}
use Rattle.flatten_rules.specs.Sound.{IsSound, IsSoundModule}
use Rattle.flatten_rules.proofs.Sound.{master-there}
use Rattle.flatten_rules.proofs.Walks.{some-there, find-own, id-of_found, up-own}
use Rattle.named_tables.specs.NamedTable.{NamedInst, NamedModule, NamedTable, named_inst, named_table, module_name}
use Rattle.named_tables.proofs.Names.{module-own}
use Rattle.named_tables.proofs.Sums.{sum-flat, sum-same}
use Rattle.named_tables.proofs.Stack.{Stack, stack, stack-step, sound-up}

abbrev pub insts_in : Option NamedModule → List NamedInst
insts_in None = []
insts_in (Some m) = m.insts

-- an occurrence by names: the instances on the way to it, and its module
abbrev pub Place : Type 0
Place = Stack × List ℕ

unfoldable pub unfolded_by : NamedTable → Stack → List ℕ → ℕ → List Place
unfolded_by T st name zero = []
unfolded_by T st name (suc levels) = (st, name) ∷ flat_map (λ (i : NamedInst). unfolded_by T (i ∷ st) i.master levels) (insts_in (T name))

unfolded-suc : (M : Plain) (path : List InstId) (id : ModId) (levels : ℕ) → unfolded M path id (suc levels) ≡ (path, id) ∷ flat_map (λ (inst : PInst). unfolded M (path ++ inst.id ∷ []) inst.master levels) (insts_of (module_of M id))
unfolding unfolded
unfolded-suc M path id levels = refl

by-suc : (T : NamedTable) (st : Stack) (name : List ℕ) (levels : ℕ) → unfolded_by T st name (suc levels) ≡ (st, name) ∷ flat_map (λ (i : NamedInst). unfolded_by T (i ∷ st) i.master levels) (insts_in (T name))
unfolding unfolded_by
by-suc T st name levels = refl

none : (M : Plain) (f : Occurrence → ℕ) (h : Place → ℕ) (path : List InstId) (id : ModId) (T : NamedTable) (st : Stack) (name : List ℕ) → sum_by f (unfolded M path id 0) ≡ sum_by h (unfolded_by T st name 0)
unfolding unfolded unfolded_by
none M f h path id T st name = refl

step-down : (M : Plain) (top : ModId) (up : List InstId) (m : PModule) (inst : PInst) (x : PModule) → module_up M top up ≡ Some m → inst_of m inst.id ≡ Some inst → module_of M inst.master ≡ Some x → module_up M top (inst.id ∷ up) ≡ Some x
unfolding module_up
step-down M top up m inst x leads at there = rw (leads, at) there

module _ (M : Plain) (top : ModId) (sound : IsSound M) (f : Occurrence → ℕ) (h : Place → ℕ)
    (each : (path : List InstId) (m : PModule) → module_up M top (reverse path) ≡ Some m → f (path, m.id) ≡ h (stack M top (reverse path), m.name)) where
  -- what is counted at each occurrence counts up the same by names
  pub sum-by_names : (levels : ℕ) (path : List InstId) (m : PModule) → module_up M top (reverse path) ≡ Some m
      → sum_by f (unfolded M path m.id levels) ≡ sum_by h (unfolded_by (named_table M) (stack M top (reverse path)) m.name levels)
  sum-by_names zero path m leads = none M f h path m.id (named_table M) (stack M top (reverse path)) m.name
  sum-by_names (suc levels) path m leads =
      let T : NamedTable = named_table M in
      let st : Stack = stack M top (reverse path) in
      let own : module_of M m.id ≡ Some m = up-own M top (reverse path) m leads in
      let s : IsSoundModule M m = sound-up M top (reverse path) m sound leads in
      let below : PInst → List Occurrence = λ inst. unfolded M (path ++ inst.id ∷ []) inst.master levels in
      let below_by : NamedInst → List Place = λ i. unfolded_by T (i ∷ st) i.master levels in
      let one : All (λ (inst : PInst). sum_by f (below inst) ≡ sum_by h (below_by (named_inst M m inst))) m.insts = λ k d within.
      let inst : PInst = get_or m.insts k d in
      let there = some-there (module_of M inst.master) (master-there M m inst (s.masters k d within)) in
      let x : PModule = there.0 in
      let up : List InstId = reverse path in
      let at : inst_of m inst.id ≡ Some inst = find-own (λ (x : PInst). x.id.0) m.insts s.insts_rise k d within in
      let turned : reverse (path ++ inst.id ∷ []) ≡ inst.id ∷ up = reverse-append path (inst.id ∷ []) in
      let down : module_up M top (inst.id ∷ up) ≡ Some x = step-down M top up m inst x leads at there.1 in
      let leads_on : module_up M top (reverse (path ++ inst.id ∷ [])) ≡ Some x = ap (module_up M top) turned ∙ down in
      let stacked : stack M top (reverse (path ++ inst.id ∷ [])) ≡ named_inst M m inst ∷ st =
      ap (stack M top) turned ∙ stack-step M top inst.id up x (record { holder = m; above = leads; inst = inst; found = at; master = there.1 }) in
      let id : x.id ≡ inst.master = id-of_found M inst.master x there.1 in
      let name : x.name ≡ (named_inst M m inst).master = sym (ap module_name there.1) in
      ap (λ i. sum_by f (unfolded M (path ++ inst.id ∷ []) i levels)) (sym id)
      ∙ sum-by_names levels (path ++ inst.id ∷ []) x leads_on
      ∙ ap (λ s. sum_by h (unfolded_by T s x.name levels)) stacked
      ∙ ap (λ n. sum_by h (unfolded_by T (named_inst M m inst ∷ st) n levels)) name in
      ap (sum_by f) (unfolded-suc M path m.id levels) ∙ sum_by-cons f (path, m.id) (flat_map below (insts_of (module_of M m.id)))
      ∙ ap (λ n. n + sum_by f (flat_map below (insts_of (module_of M m.id)))) (each path m leads)
      ∙ ap (λ n. h (st, m.name) + n)
      (ap (λ o. sum_by f (flat_map below (insts_of o))) own ∙ sum-flat f below m.insts
      ∙ sum-same (λ inst. sum_by f (below inst)) (λ inst. sum_by h (below_by (named_inst M m inst))) m.insts one
      ∙ sym (sum-flat h (λ inst. below_by (named_inst M m inst)) m.insts)
      ∙ ap (sum_by h) (sym (flat_map-map below_by (named_inst M m) m.insts))
      ∙ ap (λ o. sum_by h (flat_map below_by (insts_in o))) (sym (module-own M m.id m sound own)))
      ∙ sym (sum_by-cons h (st, m.name) (flat_map below_by (insts_in (T m.name))))
      ∙ ap (sum_by h) (sym (by-suc T st m.name levels))
