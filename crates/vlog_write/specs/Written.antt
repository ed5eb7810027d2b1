-- What is written of a module table.
use Rattle.std.specs.Prelude.{ℕ, List, ◌++◌, map}
use Rattle.emh_base.specs.declared.plain.Plain.{Plain}
use Rattle.vlog_write.specs.Word.{text}
use Rattle.vlog_write.specs.Layout.{cells, modules}
use Rattle.vlog_write.specs.TreeOf.{module_tree, leaves, others}

-- the leaves, as cells
abbrev pub written_cells : Plain → List ℕ
written_cells M = text (cells (map (module_tree M) (leaves M)))

-- the other modules
abbrev pub written_modules : Plain → List ℕ
written_modules M = text (modules (map (module_tree M) (others M)))

-- a whole netlist: the cells, and then the other modules
abbrev pub written : Plain → List ℕ
written M = written_cells M ++ written_modules M
