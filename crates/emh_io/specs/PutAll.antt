-- A text that is put piece by piece.
use Rattle.std.specs.Prelude.{◌≡◌, List, ◌++◌, ℕ, Result, Ok, Err}
use Rattle.emh_io.specs.declared.sink.PutFault.{PutFault}
use Rattle.emh_io.specs.declared.sink.PutFault.TheVariants.{Failed, NoMemory}
use Rattle.emh_io.specs.Count.{Rose}
use Rattle.emh_io.specs.Put.{gains}
use Rattle.emh_io.specs.Told.{Printed}

-- the front of a text is written, which may be all of it
pub record Front (text : List ℕ) (before now : Printed) : Type 0 where
  pub front : List ℕ
  pub rest : List ℕ
  pub parts : text ≡ front ++ rest
  pub written : now.written ≡ gains before.written front

-- the text is written whole and no put failed; or a front of it, as a put failed or memory was wanting
abbrev pub PutsAll : List ℕ → Printed → Printed → Result (Unit {0}) PutFault → Type 0
PutsAll text before now (Ok done) =
    (now.written ≡ gains before.written text) × (now.faults ≡ before.faults)
PutsAll text before now (Err Failed) = Front text before now × Rose before.faults now.faults
PutsAll text before now (Err NoMemory) = Front text before now
