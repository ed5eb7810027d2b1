-- Where no rule of an edit is broken there is an id left for what it makes.
use Rattle.std.proofs.Common.{◌≡◌, ℕ, ◌<◌, false, None, Some, arith}
use Rattle.std.proofs.lemmas.Bool.Decides.{nat_tests}
use Rattle.emh_base.specs.declared.state.State.{State}
use Rattle.emh_base.specs.declared.edit.Edit.{Edit}
use Rattle.emh_base.specs.declared.edit.Edit.TheVariants.{CreateModule, CreateNet, CreatePort, CreateInst, Uniquify}
use Rattle.edit_rules.specs.Readers.{lacks_room}
use Rattle.flatten_rules.specs.Check.{first_broken}
use Rattle.edit_rules.specs.Apply.{checks, HasRoom}
use Rattle.edit_rules.proofs.GoodChecks.{Passes, first-passes, common-passes}

below : (n : ℕ) → lacks_room n 1 ≡ false → n < 4294967295
below n some = grind (arith, nat_tests)

left : (n id : ℕ) → lacks_room n 1 ≡ false → Some n ≡ Some id → id < 4294967295
left n id some is = let same : n ≡ id = cc in rw (← same) (below n some)

room : (S : State) (e : Edit) → Passes (checks S e) → HasRoom S.plain e
room S (CreateModule name) p = λ id is. left _ id (first-passes (first-passes p).1).0 is
room S (CreateNet m name range) p = λ id is. left _ id (first-passes (first-passes (first-passes (common-passes S m p).1).1).1).0 is
room S (CreatePort m name dir range) p = λ id is. left _ id (first-passes (first-passes (first-passes (common-passes S m p).1).1).1).0 is
room S (CreateInst m name master) p = λ id is. left _ id (first-passes (first-passes (first-passes (first-passes (first-passes (common-passes S m p).1).1).1).1).1).0 is
room S (Uniquify m inst name) p = λ id is. left _ id (first-passes (first-passes (first-passes (first-passes (first-passes (common-passes S m p).1).1).1).1).1).0 is
room S _ p = λ id is. let never : None ≡ Some id = is in absurd (cc)

pub room-left : (S : State) (e : Edit) → first_broken (checks S e) ≡ None → HasRoom S.plain e
room-left S e none = room S e (record { none = none })
