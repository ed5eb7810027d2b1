-- The answer of the look-up of a net bit of the occurrence at a path: its net and its offset. Want of memory is free.
use Rattle.std.specs.Prelude.{◌≡◌, ℕ, List, Result, Ok, Err}
use Rattle.emh_base.specs.declared.ids.NetId.{NetId}
use Rattle.emh_base.specs.declared.ids.InstId.{InstId}
use Rattle.flatten_rules.specs.Domains.{NetBit}
use Rattle.edit_rules.specs.declared.judged.Judged.{Judged}
use Rattle.edit_rules.specs.declared.judged.Judged.TheVariants as judged
use Rattle.script_read.specs.Resolve.{Looked}

abbrev pub FindsBit : List InstId → Looked NetBit → Result (NetId × ℕ) Judged → Type 0
FindsBit path wanted (Ok bit) = wanted ≡ Ok (record { path = path; net = bit.0; offset = bit.1 })
FindsBit path wanted (Err (judged.Rule refusal)) = wanted ≡ Err refusal
FindsBit path wanted (Err judged.NoMemory) = Unit {0}
