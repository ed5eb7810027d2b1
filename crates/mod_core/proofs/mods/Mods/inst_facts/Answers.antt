use Rattle.std.proofs.Common.{◌≡◌, ◌<◌, Some, ap, sym, subst, length, ◌∙◌, option_map, option_and_then, is_some}
use Rattle.std.specs.FinMap as map
use Rattle.emh_base.specs.declared.plain.PInst.{PInst}
use Rattle.emh_base.specs.declared.plain.PModule.{PModule}
use Rattle.flatten_rules.specs.Lookup.{inst_of}
use Rattle.row_chains.proofs.KeyLemmas.{same_some, none_some}
use Rattle.mod_core.specs.declared.rows.InstFacts.{InstFacts}
use Rattle.mod_core.specs.inside.Linked.{within_of, master_at, inst_shown, upper}
use Rattle.mod_core.specs.inside.Good.{inst_face}
use Rattle.mod_core.specs.Mods.{name_at}
use Rattle.mod_core.proofs.LookupLemmas.{no_module}
use Rattle.mod_core.proofs.UserLemmas.{master_live}
use Rattle.mod_core.proofs.InstEffectLemmas.{found_inst, inst_there, inst_read}
use Rattle.mod_core.proofs.mods.Mods.inst_facts.Goals as goal

pub returns-in_err-owner : goal.returns-in_err-owner
returns-in_err-owner c =
    let i = c.self.inside in
    let none = ap (option_and_then (λ (h : PModule). inst_of h c.args.inst)) (no_module i.names i.top (upper i.tops.now i.mods.now) i.nets.now (within_of i.names i.mods.now i.nets.now i.insts.now) c.self.invariant.all.now.good c.args.«module» (sym c.find_under.ensures ∙ c.in_err-owner.was)) in
    record {
      name = rw (← c.self.view_is) (ap (option_map (λ (there : PInst). there.name)) none ∙ ap (option_map (λ (facts : InstFacts). name_at i.names facts.name)) (sym c.from_residual.ensures));
      master = rw (← c.self.view_is) (ap (option_map (λ (there : PInst). there.master)) none ∙ ap (option_map (λ (facts : InstFacts). facts.master)) (sym c.from_residual.ensures));
      named = λ facts at. absurd (none_some facts (sym c.from_residual.ensures ∙ at));
    }

pub returns-in_err-key : goal.returns-in_err-key
returns-in_err-key c =
    let i = c.self.inside in
    let none =
    inst_there i.names i.top i.tops.now i.mods.now i.nets.now i.insts.now c.self.invariant.all.now c.args.«module» c.in_ok-owner.owner (sym c.find_under.ensures ∙ c.in_ok-owner.was) c.args.inst
    ∙ ap (option_and_then (inst_shown i.names (master_at i.mods.now i.nets.now) i.insts.now)) (sym c.find_under-2.ensures ∙ c.in_err-key.was) in
    record {
      name = rw (← c.self.view_is) (ap (option_map (λ (there : PInst). there.name)) none ∙ ap (option_map (λ (facts : InstFacts). name_at i.names facts.name)) (sym c.from_residual-in_err-key.ensures));
      master = rw (← c.self.view_is) (ap (option_map (λ (there : PInst). there.master)) none ∙ ap (option_map (λ (facts : InstFacts). facts.master)) (sym c.from_residual-in_err-key.ensures));
      named = λ facts at. absurd (none_some facts (sym c.from_residual-in_err-key.ensures ∙ at));
    }

pub unwrap-row-requires : goal.unwrap-row-requires
unwrap-row-requires c =
    let i = c.self.inside in
    ap is_some c.get.ensures
    ∙ ap is_some (found_inst i.names i.top i.tops.now i.mods.now i.nets.now i.insts.now c.self.invariant.all.now c.args.«module» c.in_ok-owner.owner (sym c.find_under.ensures ∙ c.in_ok-owner.was) c.args.inst c.in_ok-key.key (sym c.find_under-2.ensures ∙ c.in_ok-key.was)).at

pub unwrap-master-requires : goal.unwrap-master-requires
unwrap-master-requires c =
    let i = c.self.inside in
    ap is_some c.get-2.ensures
    ∙ master_live i.names i.top i.tops.now i.mods.now i.nets.now i.insts.now c.self.invariant.all.now c.in_ok-key.key c.unwrap-row.result (sym c.get.ensures ∙ c.unwrap-row.ensures)

pub returns : goal.returns
returns c =
    let i = c.self.inside in
    let at : map.get i.insts.now c.in_ok-key.key ≡ Some c.unwrap-row.result = sym c.get.ensures ∙ c.unwrap-row.ensures in
    let read = inst_read i.names i.top i.tops.now i.mods.now i.nets.now i.insts.now c.self.invariant.all.now c.args.«module» c.in_ok-owner.owner (sym c.find_under.ensures ∙ c.in_ok-owner.was) c.args.inst c.in_ok-key.key (sym c.find_under-2.ensures ∙ c.in_ok-key.was) c.unwrap-row.result c.unwrap-master.result at (sym c.get-2.ensures ∙ c.unwrap-master.ensures) in
    record {
      name = rw (← c.self.view_is) read.name_is;
      master = rw (← c.self.view_is) read.master_is;
      named = λ facts e. rw (← c.self.view_is) (subst (λ (f : InstFacts). f.name < length i.names) (same_some _ facts e) (c.self.invariant.all.now.insts_numbered.named c.in_ok-key.key (inst_face c.unwrap-row.result) (ap (option_map inst_face) at)));
    }
