-- Modules of sound tables.
use Rattle.std.proofs.Common.{◌≡◌, ◌≤◌, ◌+◌, length, Option, Some, None, All, MatchOption, sym, arith}
use Rattle.std.proofs.lemmas.List.Elements.{All-weaker}
use Rattle.emh_base.specs.declared.plain.PInst.{PInst}
use Rattle.emh_base.specs.declared.plain.PNet.{PNet}
use Rattle.emh_base.specs.declared.plain.PModule.{PModule}
use Rattle.emh_base.specs.declared.plain.Plain.{Plain}
use Rattle.flatten_rules.specs.Lookup.{module_of}
use Rattle.flatten_rules.specs.Domains.{ports_of}
use Rattle.flatten_rules.specs.Sound.{IsSoundModule, HasMaster, FitPorts}
use Rattle.flatten_rules.proofs.Checking.{fit-length}
use Rattle.edit_rules.proofs.FactsLemmas.{length-below}
use Rattle.watch_kit.specs.inside.Counting.{FitsMaster}

fits : (h : PModule) (inst : PInst) (found : Option PModule) → MatchOption found ⊥ (λ m. FitPorts h m m.ports inst.conns)
    → length inst.conns ≡ length (ports_of found)
fits h inst None never = absurd never
fits h inst (Some master) fit = sym (fit-length h master master.ports inst.conns fit)

pub all-fit : (M : Plain) (h : PModule) → IsSoundModule M h → All (FitsMaster M) h.insts
all-fit M h sound =
    All-weaker (HasMaster M h) (FitsMaster M) (λ (inst : PInst) has. fits h inst (module_of M inst.master) has) h.insts sound.masters

pub few-names : (M : Plain) (h : PModule) → IsSoundModule M h → length h.nets + length h.insts ≤ 8589934590
few-names M h sound =
    omega (
      arith,
      sound.net_counter,
      sound.inst_counter,
      length-below (λ (net : PNet). net.id.0) h.nets h.next_net sound.nets_rise sound.nets_below,
      length-below (λ (inst : PInst). inst.id.0) h.insts h.next_inst sound.insts_rise sound.insts_below,
    )
