-- The law of good states, edit by edit.
use Rattle.std.proofs.Common.{◌≡◌, Option, Some, None, Result, Ok, Err, refl, sym, subst}
use Rattle.emh_base.specs.declared.state.State.{State}
use Rattle.emh_base.specs.declared.rule.Refusal.{Refusal}
use Rattle.emh_base.specs.declared.edit.By.{By}
use Rattle.emh_base.specs.declared.edit.Change.{Change}
use Rattle.emh_base.specs.declared.edit.Edit.{Edit}
use Rattle.emh_base.specs.declared.edit.Edit.TheVariants.{CreateModule, DeleteModule, CreateNet, DeleteNet, CreatePort, DeletePort, CreateInst, DeleteInst, Connect, Disconnect, RenameModule, RenameNet, RenameInst, Resize, Uniquify, Place, Unplace, Lock, Unlock, SetFanout, SetGrid}
use Rattle.flatten_rules.specs.Check.{first_broken}
use Rattle.edit_rules.specs.Good.{IsGoodState}
use Rattle.edit_rules.specs.declared.judged.Judged.{Judged}
use Rattle.edit_rules.specs.declared.judged.Judged.TheVariants.{Rule, NoMemory}
use Rattle.edit_rules.specs.Judged.{Answers}
use Rattle.edit_rules.specs.Apply.{checks, after, Refused, Done, applied, apply}
use Rattle.edit_rules.specs.Law.{StaysGood}
use Rattle.edit_rules.proofs.GoodChecks.{Passes}
use Rattle.edit_rules.proofs.GoodStates.{set_fanout-good, set_grid-good, place-good, unplace-good}
use Rattle.edit_rules.proofs.GoodRenames.{lock-good, unlock-good, rename_module-good, rename_net-good}
use Rattle.edit_rules.proofs.GoodInsts.{rename_inst-good, connect-good, disconnect-good, delete_inst-good}
use Rattle.edit_rules.proofs.GoodNets.{create_net-good, delete_net-good}
use Rattle.edit_rules.proofs.GoodPorts.{create_port-good, delete_port-good}
use Rattle.edit_rules.proofs.GoodModules.{create_module-good, delete_module-good}
use Rattle.edit_rules.proofs.GoodMasters.{create_inst-good, resize-good}
use Rattle.edit_rules.proofs.GoodCopies.{uniquify-good}

each : (S : State) (e : Edit) → IsGoodState S → Passes (checks S e) → IsGoodState (after S e)
each S (CreateModule name) good p = create_module-good S name good p
each S (DeleteModule m) good p = delete_module-good S m good p
each S (CreateNet m name range) good p = create_net-good S m name range good p
each S (DeleteNet m net) good p = delete_net-good S m net good p
each S (CreatePort m name dir range) good p = create_port-good S m name dir range good p
each S (DeletePort m port) good p = delete_port-good S m port good p
each S (CreateInst m name master) good p = create_inst-good S m name master good p
each S (DeleteInst m inst) good p = delete_inst-good S m inst good p
each S (Connect m inst port bits) good p = connect-good S m inst port bits good p
each S (Disconnect m inst port) good p = disconnect-good S m inst port good p
each S (RenameModule m name) good p = rename_module-good S m name good p
each S (RenameNet m net name) good p = rename_net-good S m net name good p
each S (RenameInst m inst name) good p = rename_inst-good S m inst name good p
each S (Resize m inst master) good p = resize-good S m inst master good p
each S (Uniquify m inst name) good p = uniquify-good S m inst name good p
each S (Place path placement) good p = place-good S path placement good p
each S (Unplace path) good p = unplace-good S path good
each S (Lock m) good p = lock-good S m good p
each S (Unlock m) good p = unlock-good S m good p
each S (SetFanout max cell) good p = set_fanout-good S max cell good p
each S (SetGrid grid) good p = set_grid-good S grid good p

pub stays_good : StaysGood
stays_good S e good none = each S e good (record { none = none })

done : (S T : State) (by : By) (e : Edit) (c : Change) (broken : Option Refusal) → IsGoodState S → first_broken (checks S e) ≡ broken → applied S by e broken ≡ Done T c → IsGoodState T
done S T by e c None good none is = let same : after S e ≡ T = cc in subst IsGoodState same (stays_good S e good none)
done S T by e c (Some refusal) good some is = let never : Refused refusal ≡ Done T c = is in absurd (cc)

-- so does each answer
pub answers-good : (S T : State) (by : By) (e : Edit) (r : Result Change Judged) → IsGoodState S → Answers (apply S by e) S r T → IsGoodState T
answers-good S T by e (Ok c) good is = done S T by e c (first_broken (checks S e)) good refl is
answers-good S T by e (Err (Rule refusal)) good is = subst IsGoodState (sym is.1) good
answers-good S T by e (Err NoMemory) good is = subst IsGoodState (sym is) good
