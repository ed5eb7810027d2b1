-- The law of reading back, which a public call carries.
use Rattle.std.specs.Prelude.{◌≡◌, false, Some}
use Rattle.emh_base.specs.declared.ids.ModId.{ModId}
use Rattle.emh_base.specs.declared.plain.PModule.{PModule}
use Rattle.emh_base.specs.declared.plain.Plain.{Plain}
use Rattle.flatten_rules.specs.Lookup.{module_of, no_modules}
use Rattle.flatten_rules.specs.FlatLines.{flat_lines}
use Rattle.flatten_rules.specs.Sound.{IsSound}
use Rattle.named_tables.specs.NamedTable.{named_table}
use Rattle.vlog_elab.specs.declared.reads.ReadFault.{ReadFault}
use Rattle.vlog_elab.specs.Reads.{Reads, HasReadFault}
use Rattle.vlog_write.specs.Written.{written}
use Rattle.vlog_write.specs.Law.{AllNamed}

-- What is written of a table is read over no modules, with the cells as its leaves, as one table and no other, and has no
-- fault. That table is sound, is the same by names, and has the same flat netlist at each top of the same name.
pub record ReadsBack (M : Plain) : Type 0 where
  pub made : Plain
  pub reads : Reads no_modules false (written M) made
  pub only : (plain : Plain) → Reads no_modules false (written M) plain → plain ≡ made
  pub no_fault : (fault : ReadFault) → HasReadFault no_modules false (written M) fault → ⊥
  pub sound : IsSound made
  pub same : named_table made ≡ named_table M
  pub flat : (top other : ModId) (m n : PModule) → module_of M top ≡ Some m
      → module_of made other ≡ Some n
      → n.name ≡ m.name → flat_lines made other ≡ flat_lines M top

-- each sound table reads back, whose names are names
abbrev pub EachTableReadsBack : Type 0
EachTableReadsBack = (M : Plain) → IsSound M → AllNamed M → ReadsBack M
