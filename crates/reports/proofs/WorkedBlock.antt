-- The block of the worked example, where nothing is placed.
use Rattle.std.proofs.Common.{◌≡◌, ℕ, List, [], ◌∷◌, ◌++◌, Option, None, refl, ap, ◌∙◌, codes}
use Rattle.std.specs.List.{flat_map}
use Rattle.std.specs.FinMap.{FinMap, get}
use Rattle.emh_base.specs.Path.{path_cmp}
use Rattle.emh_base.specs.TwoLevel.{two_level}
use Rattle.emh_base.specs.declared.ids.InstId.{InstId}
use Rattle.emh_base.specs.declared.placement.Placement.{Placement}
use Rattle.flatten_rules.specs.Unfolding.{unfolded, module_up}
use Rattle.flatten_rules.specs.Root.{root_up}
use Rattle.flatten_rules.specs.Texts.{names_up}
use Rattle.reports.specs.Line.{line}
use Rattle.reports.specs.Block.{placement_words, block_text}
use Rattle.reports.specs.Worked.{counted}

abbrev leaf_line : List ℕ → Option Placement → List ℕ
leaf_line path placement = line (codes "inst" ∷ path ∷ codes "INV" ∷ placement_words placement)

abbrev insts : Option Placement → Option Placement → Option Placement → Option Placement → List ℕ
insts a b c d =
    leaf_line (codes "p/u1") a
    ++ (leaf_line (codes "p/u2") b ++ (leaf_line (codes "q/u1") c ++ (leaf_line (codes "q/u2") d ++ [])))

abbrev nets : List ℕ
nets = flat_map counted ((codes "i", 1) ∷ (codes "o", 1) ∷ (codes "w", 2) ∷ (codes "p/m", 2) ∷ (codes "q/m", 2) ∷ [])

abbrev block_by : List ℕ → List ℕ
block_by lines = codes "term i input\nterm o output\n" ++ (lines ++ nets)

abbrev two : ℕ → ℕ → List InstId
two a b = record { 0 = a } ∷ record { 0 = b } ∷ []

pub unplaced-block : (P : FinMap path_cmp Placement) → ((path : List InstId) → get P path ≡ None)
    → block_text two_level (record { 0 = 3 }) P
    ≡ codes "term i input\nterm o output\ninst p/u1 INV unplaced\ninst p/u2 INV unplaced\n"
    ++ (codes "inst q/u1 INV unplaced\ninst q/u2 INV unplaced\n" ++ nets)
unfolding two_level unfolded module_up root_up names_up
unplaced-block P none =
    let shape : block_text two_level (record { 0 = 3 }) P ≡ block_by (insts (get P (two 0 0)) (get P (two 0 1)) (get P (two 1 0)) (get P (two 1 1))) = refl in
    shape
    ∙ ap (λ a. block_by (insts a (get P (two 0 1)) (get P (two 1 0)) (get P (two 1 1)))) (none (two 0 0))
    ∙ ap (λ b. block_by (insts None b (get P (two 1 0)) (get P (two 1 1)))) (none (two 0 1))
    ∙ ap (λ c. block_by (insts None None c (get P (two 1 1)))) (none (two 1 0))
    ∙ ap (λ d. block_by (insts None None None d)) (none (two 1 1))
