-- The first number that makes a free name.
use Rattle.std.proofs.Common.{◌≡◌, ℕ, suc, ◌+◌, ◌-◌, ◌<◌, Bool, true, false, not, cond, List, ◌∷◌, Option, Some, find, ap, ◌∙◌, arith}
use Rattle.std.specs.List.{range_with_len}
use Rattle.emh_base.specs.declared.plain.PModule.{PModule}
use Rattle.edit_rules.specs.Readers.{is_name_in}
use Rattle.watch_kit.specs.Split.{numbered}

range-next : (k end : ℕ) → k < end → range_with_len k (end - k) ≡ k ∷ range_with_len (k + 1) (end - (k + 1))
range-next k end within =
    let more : end - k ≡ suc (end - (k + 1)) = omega arith in
    ap (range_with_len k) more

module _ (m : Option PModule) (stem : List ℕ) (k end : ℕ) (within : k < end) where
  abbrev is_free : ℕ → Bool
  is_free n = not (is_name_in m (numbered stem n))

  pub taken-next : is_name_in m (numbered stem k) ≡ true → find is_free (range_with_len k (end - k)) ≡ find is_free (range_with_len (k + 1) (end - (k + 1)))
  taken-next taken =
      ap (find is_free) (range-next k end within)
      ∙ ap (λ t. cond (not t) (Some k) (find is_free (range_with_len (k + 1) (end - (k + 1))))) taken

  pub free-here : is_name_in m (numbered stem k) ≡ false → find is_free (range_with_len k (end - k)) ≡ Some k
  free-here free =
      ap (find is_free) (range-next k end within)
      ∙ ap (λ t. cond (not t) (Some k) (find is_free (range_with_len (k + 1) (end - (k + 1))))) free
