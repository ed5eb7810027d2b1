-- A cycle of a table is one of each table that is the same by names.
use Rattle.std.proofs.Common.{arith, ◌≡◌, ℕ, suc, ◌<◌, ◌==◌, List, [], ◌∷◌, map, find, length, get_or, Option, Some, None, option_map, bytes_eq, refl, sym, ap, ◌∙◌, subst}
use Rattle.std.proofs.lemmas.List.{length-map, get_or-map}
use Rattle.std.proofs.lemmas.Slice.Eq.{bytes_eq-Decides}
use Rattle.emh_base.specs.declared.ids.ModId.{ModId}
use Rattle.emh_base.specs.declared.ids.InstId.{InstId}
use Rattle.emh_base.specs.declared.plain.PInst.{PInst}
use Rattle.emh_base.specs.declared.plain.PModule.{PModule}
use Rattle.emh_base.specs.declared.plain.Plain.{Plain}
use Rattle.flatten_rules.specs.Lookup.{module_of, inst_of}
use Rattle.flatten_rules.specs.Design.{module_named}
use Rattle.flatten_rules.specs.Unfolding.{module_up}
use Rattle.flatten_rules.specs.Cycle.{OnCycle}
use Rattle.flatten_rules.specs.Sound.{IsSoundModule}
use Rattle.flatten_rules.proofs.Sound.{All-find, master-there}
use Rattle.flatten_rules.proofs.Walks.{last_step, find-passes, up-own, found-own, find-own, some-there, same-some}
use Rattle.named_tables.specs.NamedTable.{NamedTable, NamedInst, NamedModule, module_name, named_inst, named_module, named_table}
use Rattle.named_tables.specs.Law.{IsSoundButCycles, EachCycleByNames}
use Rattle.named_tables.proofs.Names.{found-at, named-own, names-differ}

-- a module that is another one by names
pub record Twin (M B : Plain) (r : PModule) : Type 0 where
  pub twin : PModule
  pub own : module_of M twin.id ≡ Some twin
  pub name : r.name ≡ twin.name
  pub same : named_module B r ≡ named_module M twin

module _ (M B : Plain) (sound : IsSoundButCycles M) (twins : (id : ModId) (r : PModule) → module_of B id ≡ Some r → Twin M B r) where
  one-module : (x y : PModule) → module_of M x.id ≡ Some x → module_of M y.id ≡ Some y → x.name ≡ y.name → x ≡ y
  one-module x y at_x at_y names =
      let key : PModule → List ℕ = λ m. m.name in
      let own_x = named-own key M.modules (λ (m : PModule). m.id.0 == x.id.0) x (names-differ M.modules sound.names) at_x in
      let own_y = named-own key M.modules (λ (m : PModule). m.id.0 == y.id.0) y (names-differ M.modules sound.names) at_y in
      let own_x' : find (λ (m : PModule). bytes_eq m.name y.name) M.modules ≡ Some x = subst (λ (q : List ℕ). find (λ (m : PModule). bytes_eq m.name q) M.modules ≡ Some x) names own_x in
      same-some (find (λ (m : PModule). bytes_eq m.name y.name) M.modules) x y own_x' own_y

  record Back (top : ModId) (up : List InstId) (r : PModule) : Type 0 where
    first : PModule
    first_own : module_of M first.id ≡ Some first
    first_name : (r0 : PModule) → module_of B top ≡ Some r0 → r0.name ≡ first.name
    at : Twin M B r
    path : List InstId
    long : length path ≡ length up
    leads : module_up M first.id path ≡ Some at.twin

  step-down : (top : ModId) (up : List InstId) (m x : PModule) (inst : PInst) → module_up M top up ≡ Some m → inst_of m inst.id ≡ Some inst → module_of M inst.master ≡ Some x → module_up M top (inst.id ∷ up) ≡ Some x
  unfolding module_up
  step-down top up m x inst leads at there = rw (leads, at) there

  back-none : (top : ModId) (r : PModule) → module_up B top [] ≡ Some r → Back top [] r
  unfolding module_up
  back-none top r leads =
      let t = twins top r leads in
      record {
        first = t.twin;
        first_own = t.own;
        first_name = λ r0 found. ap (λ (x : PModule). x.name) (same-some (module_of B top) r0 r found leads) ∙ t.name;
        at = t;
        path = [];
        long = refl;
        leads = t.own;
      }

  back : (top : ModId) (up : List InstId) (r : PModule) → module_up B top up ≡ Some r → Back top up r
  back top [] r leads = back-none top r leads
  back top (i ∷ up) r leads =
      let step = last_step B top i up r leads in
      let b = back top up step.holder step.above in
      let y : PModule = b.at.twin in
      let s : IsSoundModule M y = All-find (IsSoundModule M) (λ (m : PModule). m.id.0 == y.id.0) M.modules y sound.modules b.at.own in
      let place = found-at (λ (x : PInst). x.id.0 == i.0) step.holder.insts step.inst step.found in
      let insts : map (named_inst B step.holder) step.holder.insts ≡ map (named_inst M y) y.insts = ap (λ (x : NamedModule). x.insts) b.at.same in
      let within : place.0 < length y.insts = omega (arith, place.1, ap length insts, length-map step.holder.insts (named_inst B step.holder), length-map y.insts (named_inst M y)) in
      let inst : PInst = get_or y.insts place.0 step.inst in
      let one : named_inst B step.holder step.inst ≡ named_inst M y inst =
      sym (get_or-map (named_inst B step.holder) step.holder.insts place.0 step.inst (named_inst B step.holder step.inst) place.1 ∙ ap (named_inst B step.holder) place.2)
      ∙ ap (λ xs. get_or xs place.0 (named_inst B step.holder step.inst)) insts
      ∙ get_or-map (named_inst M y) y.insts place.0 step.inst (named_inst B step.holder step.inst) within in
      let there = some-there (module_of M inst.master) (master-there M y inst (s.masters place.0 step.inst within)) in
      let x : PModule = there.0 in
      let t = twins step.inst.master r step.master in
      let names : t.twin.name ≡ x.name = sym t.name ∙ sym (ap module_name step.master) ∙ ap (λ (j : NamedInst). j.master) one ∙ ap module_name there.1 in
      let same : x ≡ t.twin = one-module x t.twin (found-own M inst.master x there.1) t.own (sym names) in
      record {
        first = b.first;
        first_own = b.first_own;
        first_name = b.first_name;
        at = t;
        path = inst.id ∷ b.path;
        long = ap suc b.long;
        leads = step-down b.first.id b.path y x inst b.leads (find-own (λ (x : PInst). x.id.0) y.insts s.insts_rise place.0 step.inst within) there.1 ∙ ap Some same;
      }

  -- where a module is on a cycle, its twin is on one too
  pub cycle-back : (r : PModule) → OnCycle B r → (m : PModule) × (m.name ≡ r.name) × OnCycle M m
  cycle-back r (i, up, leads) =
      let b = back r.id (i ∷ up) r leads in
      let own : module_of B r.id ≡ Some r = up-own B r.id (i ∷ up) r leads in
      let names : b.first.name ≡ b.at.twin.name = sym (b.first_name r own) ∙ b.at.name in
      let same : b.first ≡ b.at.twin = one-module b.first b.at.twin b.first_own b.at.own names in
      (b.first, names ∙ sym b.at.name, at-path b.first b.path b.long (b.leads ∙ ap Some (sym same)))
    where
      at-path : (first : PModule) (path : List InstId) → length path ≡ suc (length up) → module_up M first.id path ≡ Some first → OnCycle M first
      at-path first [] long leads = absurd (omega (arith, long))
      at-path first (j ∷ path) long leads = (j, path, leads)

-- the module of a table that a module of another one is by names
twin-of : (M N : Plain) → IsSoundButCycles M → IsSoundButCycles N → named_table N ≡ named_table M
    → (id : ModId) (r : PModule) → module_of N id ≡ Some r → Twin M N r
unfolding named_table
twin-of M N sound_M sound_N same id r found = at (module_named M r.name) refl
  where
    key : PModule → List ℕ
    key m = m.name

    here : named_table N r.name ≡ Some (named_module N r)
    here = ap (option_map (named_module N)) (named-own key N.modules (λ (m : PModule). m.id.0 == id.0) r (names-differ N.modules sound_N.names) found)

    there : option_map (named_module M) (module_named M r.name) ≡ Some (named_module N r)
    there = sym (ap (λ (T : NamedTable). T r.name) same) ∙ here

    at : (o : Option PModule) → module_named M r.name ≡ o → Twin M N r
    at None e = let never : None ≡ Some (named_module N r) = sym (ap (option_map (named_module M)) e) ∙ there in absurd (cc)
    at (Some m) e =
        let one : Some (named_module M m) ≡ Some (named_module N r) = sym (ap (option_map (named_module M)) e) ∙ there in
        let place = found-at (λ (x : PModule). bytes_eq x.name r.name) M.modules m e in
        record {
          twin = m;
          own = subst (λ (x : PModule). module_of M x.id ≡ Some x) place.2 (find-own (λ (x : PModule). x.id.0) M.modules sound_M.rise place.0 m place.1);
          name = sym (let passes = find-passes (λ (x : PModule). bytes_eq x.name r.name) M.modules m e in grind (arith, bytes_eq-Decides));
          same = cc;
        }

pub each_cycle_by_names : EachCycleByNames
each_cycle_by_names M N m sound_M sound_N same cycle =
    cycle-back N M sound_N (twin-of N M sound_N sound_M same) m cycle
