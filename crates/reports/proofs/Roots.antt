-- Roots that are one.
use Rattle.std.proofs.Common.{◌≡◌, Bool, true, false, ◌↔◌, IsTrue, refl, sym, ap, ◌∙◌, true≢false}
use Rattle.emh_base.specs.declared.root.Root.{Root}
use Rattle.emh_base.specs.declared.root.Root.TheVariants.{Tie0, Tie1, Own}
use Rattle.flatten_rules.proofs.BlockNets.{root-own, own-root}
use Rattle.reports.specs.Net.{is_same}

pub same-root : (root other : Root) → is_same root other ≡ true → other ≡ root
same-root Tie0 Tie0 same = refl
same-root Tie0 Tie1 same = absurd (true≢false (sym same))
same-root Tie0 (Own path net offset) same = absurd (true≢false (sym same))
same-root Tie1 Tie0 same = absurd (true≢false (sym same))
same-root Tie1 Tie1 same = refl
same-root Tie1 (Own path net offset) same = absurd (true≢false (sym same))
same-root (Own path net offset) other same = root-own (record { path = path; net = net; offset = offset }) other same

pub same-itself : (root : Root) → is_same root root ≡ true
same-itself Tie0 = refl
same-itself Tie1 = refl
same-itself (Own path net offset) = own-root (record { path = path; net = net; offset = offset })

not-so : (b : Bool) → (b ≡ true → ⊥) → false ≡ b
not-so true never = absurd (never refl)
not-so false never = refl

-- a test that tells whether a root is another
pub tells-same : (result : Bool) (told root : Root) → IsTrue result ↔ (told ≡ root) → result ≡ is_same root told
tells-same true told root tells = sym (ap (is_same root) (tells.0 refl) ∙ same-itself root)
tells-same false told root tells = not-so (is_same root told) (λ same. true≢false (sym (tells.1 (same-root root told same))))
