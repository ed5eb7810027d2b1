-- The list of the block nets holds what it is meant to.
use Rattle.std.proofs.Common.{◌≡◌, zero, suc, ◌==◌, Bool, true, false, ◌&&◌, cond, List, [], ◌∷◌, filter, Contains, refl, sym, ap, ◌∙◌, arith, Ordering, Less, Equal, Greater, is_eq, true≢false, eqb-true, eq-eqb}
use Rattle.std.proofs.lemmas.Cmp.{tied_itself}
use Rattle.std.proofs.lemmas.List.Elements.{All-contains, All-filter, All-contains_itself, filter_passes}
use Rattle.emh_base.specs.Path.{path_cmp, path_total}
use Rattle.emh_base.proofs.PlacesLemmas.{path_apart}
use Rattle.emh_base.specs.declared.root.Root.{Root}
use Rattle.emh_base.specs.declared.root.Root.TheVariants.{Tie0, Tie1, Own}
use Rattle.flatten_rules.specs.Domains.{NetBit, IsBlockNet, is_own, root_of, net_bits, block_nets, EachBlockNet}

pub both : (a b : Bool) → a && b ≡ true → (a ≡ true) × (b ≡ true)
both true b e = (refl, e)
both false b e = absurd (true≢false (sym e))

pub equal : (o : Ordering) → is_eq o ≡ true → o ≡ Equal
equal Equal e = refl
equal Less e = absurd (true≢false (sym e))
equal Greater e = absurd (true≢false (sym e))

-- a root that passes the test is the net bit, and the net bit passes it
pub root-own : (bit : NetBit) (root : Root) → is_own bit root ≡ true → root ≡ Own bit.path bit.net bit.offset
root-own bit Tie0 own = absurd (true≢false (sym own))
root-own bit Tie1 own = absurd (true≢false (sym own))
root-own bit (Own path net offset) own =
    let last = both (is_eq (path_cmp path bit.path) && net.0 == bit.net.0) (offset == bit.offset) own in
    let first = both (is_eq (path_cmp path bit.path)) (net.0 == bit.net.0) last.0 in
    let paths : path ≡ bit.path = path_apart path bit.path (equal (path_cmp path bit.path) first.0) in
    let nets : net.0 ≡ bit.net.0 = eqb-true net.0 bit.net.0 first.1 in
    let offsets : offset ≡ bit.offset = eqb-true offset bit.offset last.1 in
    λ i. Own (paths i) (record { 0 = nets i }) (offsets i)

pub own-root : (bit : NetBit) → is_own bit (Own bit.path bit.net bit.offset) ≡ true
own-root bit = rw (tied_itself path_total bit.path, eq-eqb bit.net.0 bit.net.0 refl, eq-eqb bit.offset bit.offset refl) refl

-- what is there and passes a test is kept
filter-has : {X : Type 0} (p : X → Bool) (xs : List X) (x : X) → Contains xs x → p x ≡ true → Contains (filter p xs) x
filter-has p [] x (k, within, at) passes = absurd (omega (arith, within))
filter-has p (y ∷ ys) x (zero, within, at) passes = rw (ap p at ∙ passes) (zero, omega arith, at)
filter-has p (y ∷ ys) x (suc k, within, at) passes =
    let later = filter-has p ys x (k, omega arith, at) passes in
    elim (p y) as (λ b. Contains (cond b (y ∷ filter p ys) (filter p ys)) x) [ true ↦ (suc later.0, omega (arith, later.1), later.2) | false ↦ later ]

filter-from : {X : Type 0} (p : X → Bool) (xs : List X) (x : X) → Contains (filter p xs) x → Contains xs x × (p x ≡ true)
filter-from p xs x has = (
  All-contains (Contains xs) (filter p xs) x (All-filter p (Contains xs) xs (All-contains_itself xs)) has,
  All-contains (λ y. p y ≡ true) (filter p xs) x (filter_passes p xs) has,
)

pub each_block_net : EachBlockNet
each_block_net M top bit =
    let own = λ (b : NetBit). is_own b (root_of M top b) in (
      (λ (has : Contains (block_nets M top) bit).
          let from = filter-from own (net_bits M top) bit has in
          record { there = from.0; own = root-own bit (root_of M top bit) from.1 }),
      (λ (is : IsBlockNet M top bit). filter-has own (net_bits M top) bit is.there (ap (is_own bit) is.own ∙ own-root bit)),
    )
