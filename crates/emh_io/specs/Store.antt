use Rattle.std.specs.Prelude.{◌≡◌, ℕ, List, Option, Some, Result, Ok, Err}
use Rattle.std.specs.Option.{option_map}
use Rattle.emh_io.specs.declared.shelf.StoreFault.{StoreFault}
use Rattle.emh_io.specs.declared.shelf.StoreFault.TheVariants.{Failed, NoMemory}
use Rattle.emh_io.specs.Count.{Rose}
use Rattle.emh_io.specs.Files.{Files, stored, without}

-- An accepted store has put the file among those that are told. After a failed one nothing is told of its name, and all
-- other files are as before.
abbrev pub Stores : Option Files → Option Files → List ℕ → List ℕ → Result (Unit {0}) StoreFault
    → Type 0
Stores before now name bytes (Ok done) = now ≡ option_map (stored name bytes) before
Stores before now name bytes (Err Failed) = option_map (without name) now ≡ option_map (without name) before
Stores before now name bytes (Err NoMemory) = now ≡ before

-- a store fails only where the count of faults rose in it, and then leaves its name; any other answer leaves both alone
abbrev pub StoreHasCause : ℕ → ℕ → Option (List ℕ) → Option (List ℕ) → List ℕ
    → Result (Unit {0}) StoreFault → Type 0
StoreHasCause before now failed_before failed_now name (Ok done) =
    (now ≡ before) × (failed_now ≡ failed_before)
StoreHasCause before now failed_before failed_now name (Err Failed) = Rose before now × (failed_now ≡ Some name)
StoreHasCause before now failed_before failed_now name (Err NoMemory) =
    (now ≡ before) × (failed_now ≡ failed_before)
