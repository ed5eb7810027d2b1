-- What is told of an edit, where the edit is known.
use Rattle.std.proofs.Common.{◌≡◌, ℕ, ◌<◌, Result, Some, IfOk, sym, ap, subst, ◌∙◌}
use Rattle.emh_base.specs.declared.memory.NoMemory.{NoMemory}
use Rattle.emh_base.specs.declared.plain.Plain.{Plain}
use Rattle.emh_base.specs.declared.state.State.{State}
use Rattle.emh_base.specs.declared.edit.Edit.{Edit}
use Rattle.edit_rules.specs.declared.judged.Judged.{Judged}
use Rattle.edit_rules.specs.Judged.{Looks}
use Rattle.edit_rules.specs.Apply.{checks, table_after, made, HasRoom}

pub looks_at : {X : Type 0} (S : State) (e known : Edit) (r : Result X Judged) → e ≡ known → Looks (checks S known) r → Looks (checks S e) r
looks_at S e known r is told = let Told : Edit → Type 0 = λ edit. Looks (checks S edit) r in subst Told (sym is) told

pub made_at : (M : Plain) (e known : Edit) (r : Result Plain NoMemory) → e ≡ known → IfOk r (λ table. table ≡ table_after M known) → IfOk r (λ table. table ≡ table_after M e)
made_at M e known r is told = let Told : Edit → Type 0 = λ edit. IfOk r (λ table. table ≡ table_after M edit) in subst Told (sym is) told

pub room_at : (M : Plain) (e known : Edit) (id : ℕ) → e ≡ known → HasRoom M e → made M known ≡ Some id → id < 4294967295
room_at M e known id is room of = room id (ap (made M) is ∙ of)
