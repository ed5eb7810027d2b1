-- A net bit that leads no further up, told by how many instances of the way lead to it.
use Rattle.std.proofs.Common.{◌≡◌, ℕ, ◌<◌, ◌≤◌, ◌==◌, false, ◌&&◌, List, take, length, refl, sym, ap, ◌∙◌, arith, Ordering, Less, Equal, Greater, is_eq, length-take, ⊎_elim}
use Rattle.std.proofs.lemmas.Bool.{cases_lt, eq-eqb, ne_eqb}
use Rattle.std.proofs.lemmas.Cmp.{tied_itself}
use Rattle.std.proofs.lemmas.List.{take_all}
use Rattle.emh_base.specs.Path.{path_cmp, path_total}
use Rattle.emh_base.proofs.PlacesLemmas.{path_apart}
use Rattle.emh_base.specs.declared.ids.NetId.{NetId}
use Rattle.emh_base.specs.declared.ids.InstId.{InstId}
use Rattle.flatten_rules.specs.Domains.{is_own}
use Rattle.flatten_rules.specs.Way.{root_on, IsOn, is_at}
use Rattle.flatten_rules.specs.declared.walk.way.WayRoot.{WayRoot}
use Rattle.flatten_rules.specs.declared.walk.way.WayRoot.TheVariants.{Tie0, Tie1, Own}

not-equal : (o : Ordering) → (o ≡ Equal → ⊥) → is_eq o ≡ false
not-equal Equal never = absurd (never refl)
not-equal Less never = refl
not-equal Greater never = refl

-- the first so many instances of a path are the path where they are all
pub same-path : (path : List InstId) (d : ℕ) → d ≤ length path → is_eq (path_cmp (take d path) path) ≡ (d == length path)
same-path path d within =
    ⊎_elim
    (λ (less : d < length path).
    not-equal (path_cmp (take d path) path) (λ e. absurd (let n = ap length (path_apart (take d path) path e) in omega (arith, n, length-take d path)))
    ∙ sym (ne_eqb d (length path) (λ e. omega arith)))
    (λ (all : length path ≤ d). rw (take_all d path all, tied_itself path_total path, eq-eqb d (length path) (omega arith)) refl)
    (cases_lt d (length path))

pub own-here : (path : List InstId) (root : WayRoot) (net : NetId) (offset : ℕ) → IsOn path root → is_at root (length path) net offset ≡ is_own (record { path = path; net = net; offset = offset }) (root_on path root)
own-here path Tie0 net offset on = refl
own-here path Tie1 net offset on = refl
own-here path (Own depth own at) net offset on =
    ap (λ same. same && own.0 == net.0 && at == offset) (sym (same-path path depth on))
