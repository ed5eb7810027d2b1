-- The definitions tried on the worked example.
use Rattle.std.specs.Prelude.{◌≡◌, ℕ, ◌++◌, List, [], ◌∷◌, None, codes}
use Rattle.std.specs.List.{flat_map}
use Rattle.std.specs.Fmt.{decimal}
use Rattle.std.specs.FinMap.{FinMap, len, get}
use Rattle.emh_base.specs.Path.{path_cmp}
use Rattle.emh_base.specs.declared.ids.InstId.{InstId}
use Rattle.emh_base.specs.declared.placement.Placement.{Placement}
use Rattle.emh_base.specs.TwoLevel.{two_level}
use Rattle.flatten_rules.specs.Domains.{NetBit, root_of}
use Rattle.reports.specs.Line.{line}
use Rattle.reports.specs.Block.{block_text}
use Rattle.reports.specs.Pins.{pins_text}
use Rattle.reports.specs.Counts.{count_line, counts_text}
use Rattle.reports.specs.Occurrences.{occurrences_text}
use Rattle.reports.specs.Modules.{modules_text}
use Rattle.reports.specs.Net.{net_text}

-- a net, and how many pins it has
abbrev pub counted : List ℕ × ℕ → List ℕ
counted net = line (codes "net" ∷ net.0 ∷ decimal net.1 ∷ [])

-- the output of the first pair
abbrev pub first_output : NetBit
first_output = record { path = record { 0 = 0 } ∷ []; net = record { 0 = 1 }; offset = 0 }

pub record TwoLevelReports : Type 0 where
  pub pins : pins_text two_level (record { 0 = 3 })
      ≡ codes "p/u1.A i\np/u1.Y p/m\np/u2.A p/m\np/u2.Y w\nq/u1.A w\nq/u1.Y q/m\nq/u2.A q/m\nq/u2.Y o\n"
  pub counts : (P : FinMap path_cmp Placement) → counts_text two_level (record { 0 = 3 }) P
      ≡ count_line (codes "modules") 4
      ++ (count_line (codes "occurrences") 7
      ++ (count_line (codes "leaves") 4
      ++ (count_line (codes "bits") 9
      ++ (count_line (codes "nets") 5
      ++ (count_line (codes "pins") 8
      ++ count_line (codes "placed") (len P))))))
  pub occurrences : occurrences_text two_level (record { 0 = 3 })
      ≡ codes "occ / top\nbit i i\nbit o o\nbit w w\nocc p pair\nbit p/a i\nbit p/y w\nbit p/m p/m\n"
      ++ (codes "occ p/u1 INV\nocc p/u2 INV\nocc q pair\nbit q/a w\nbit q/y o\nbit q/m q/m\n"
      ++ codes "occ q/u1 INV\nocc q/u2 INV\n")
  pub modules : modules_text two_level
      ≡ codes "module INV cell\nport A input\nport Y output\nmodule BUF cell\nport A input\nport Y output\n"
      ++ (codes "module pair open\nport a input\nport y output\nwire m\ninst u1 INV\nconn A a\nconn Y m\n"
      ++ (codes "inst u2 INV\nconn A m\nconn Y y\nmodule top open\nport i input\nport o output\nwire w\n"
      ++ codes "inst p pair\nconn a i\nconn y w\ninst q pair\nconn a w\nconn y o\n"))
  pub net : net_text two_level (record { 0 = 3 }) (root_of two_level (record { 0 = 3 }) first_output)
      ≡ codes "root w\nmember w\nmember p/y\nmember q/a\npin p/u2.Y\npin q/u1.A\n"
  pub block : (P : FinMap path_cmp Placement) → ((path : List InstId) → get P path ≡ None)
      → block_text two_level (record { 0 = 3 }) P
      ≡ codes "term i input\nterm o output\ninst p/u1 INV unplaced\ninst p/u2 INV unplaced\n"
      ++ (codes "inst q/u1 INV unplaced\ninst q/u2 INV unplaced\n"
      ++ flat_map counted ((codes "i", 1) ∷ (codes "o", 1) ∷ (codes "w", 2) ∷ (codes "p/m", 2) ∷ (codes "q/m", 2) ∷ []))
