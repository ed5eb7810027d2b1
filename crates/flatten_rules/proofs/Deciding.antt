-- Each table has a first module on a cycle from a place on, or none: whether a walk leads from one node of a graph to
-- another is decided.
use Rattle.std.proofs.Common.{arith, ◌≡◌, ℕ, zero, suc, ◌+◌, ◌<◌, ◌≤◌, Bool, true, false, List, [], ◌∷◌, length, Option, Some, None, nat_eq, refl, ap, subst, All, AllPairs, Contains, ⊎_elim, inl, inr}
use Rattle.std.proofs.lemmas.Bool.{cases_lt}
use Rattle.std.specs.Prelude.{◌⊎◌, ◌||◌, ◌&&◌}
use Rattle.std.specs.List.{list_any}
use Rattle.std.proofs.lemmas.List.{get_or_past}
use Rattle.emh_base.specs.declared.plain.PInst.{PInst}
use Rattle.emh_base.specs.declared.plain.PModule.{PModule}
use Rattle.emh_base.specs.declared.plain.Plain.{Plain}
use Rattle.flatten_rules.specs.Cycle.{IsFirstOnCycle}
use Rattle.flatten_rules.specs.Graph.{next, Leads, Reaches, NoneReturns, IsFirstReturning, graph_of}
use Rattle.flatten_rules.proofs.Cycling.{first-from_returning}
use Rattle.flatten_rules.proofs.Following.{contains-from_any, any-from_contains}

either : (x y z : Bool) → (x || (y && z)) ≡ true → (x ≡ true) ⊎ ((y ≡ true) × (z ≡ true))
either true y z holds = inl refl
either false true true holds = inr (refl, refl)
either false true false holds = absurd (cc)
either false false z holds = absurd (cc)

by-left : (x y : Bool) → x ≡ true → (x || y) ≡ true
by-left true y holds = refl
by-left false y holds = absurd (cc)

by-right : (x y z : Bool) → y ≡ true → z ≡ true → (x || (y && z)) ≡ true
by-right true y z first last = refl
by-right false true true first last = refl
by-right false true false first last = absurd (cc)
by-right false false z first last = absurd (cc)

module _ (G : List (List ℕ)) where
  -- whether a walk leads there whose nodes between are below a number
  abbrev reach : ℕ → ℕ → ℕ → Bool
  reach zero a z = list_any (nat_eq z) (next G a)
  reach (suc k) a z = reach k a z || (reach k a k && reach k k z)

  joined : (a b z : ℕ) (up via : List ℕ) → Leads G a up b → Leads G b via z → Reaches G a z
  joined a b z up [] first last = (b ∷ up, (first, last))
  joined a b z up (c ∷ via) first last = let before = joined a b c up via first last.0 in (c ∷ before.0, (before.1, last.1))

  reaches : (k a z : ℕ) → reach k a z ≡ true → Reaches G a z
  reaches zero a z holds = ([], contains-from_any z (next G a) holds)
  reaches (suc k) a z holds = at (λ a z holds. reaches k a z holds) (either (reach k a z) (reach k a k) (reach k k z) holds)
    where
      at : ((a z : ℕ) → reach k a z ≡ true → Reaches G a z) → (reach k a z ≡ true) ⊎ ((reach k a k ≡ true) × (reach k k z ≡ true)) → Reaches G a z
      at before (inl direct) = before a z direct
      at before (inr over) =
          let first = before a k over.0 in
          let last = before k z over.1 in
          joined a k z first.0 last.0 first.1 last.1

  from-over : (k a b : ℕ) → reach (suc k) a b ≡ true → (reach k a b ≡ true) ⊎ ((reach k a k ≡ true) × (reach k k b ≡ true))
  from-over k a b holds = either (reach k a b) (reach k a k) (reach k k b) holds

  -- to and from the node that is allowed newly, nothing is new
  to-last : (k a : ℕ) → reach (suc k) a k ≡ true → reach k a k ≡ true
  to-last k a holds = at (from-over k a k holds)
    where
      at : (reach k a k ≡ true) ⊎ ((reach k a k ≡ true) × (reach k k k ≡ true)) → reach k a k ≡ true
      at (inl direct) = direct
      at (inr over) = over.0

  from-last : (k z : ℕ) → reach (suc k) k z ≡ true → reach k k z ≡ true
  from-last k z holds = at (from-over k k z holds)
    where
      at : (reach k k z ≡ true) ⊎ ((reach k k k ≡ true) × (reach k k z ≡ true)) → reach k k z ≡ true
      at (inl direct) = direct
      at (inr over) = over.1

  direct : (k a z : ℕ) → reach k a z ≡ true → reach (suc k) a z ≡ true
  direct k a z holds = by-left (reach k a z) (reach k a k && reach k k z) holds

  over-last : (k a z : ℕ) → reach k a k ≡ true → reach k k z ≡ true → reach (suc k) a z ≡ true
  over-last k a z first last = by-right (reach k a z) (reach k a k) (reach k k z) first last

  -- what leads to a node that is allowed and on from it leads through
  through : (k a b z : ℕ) → b < k → reach k a b ≡ true → reach k b z ≡ true → reach k a z ≡ true
  through zero a b z below first last = absurd (omega arith)
  through (suc k) a b z below first last = at (λ a b z lower first last. through k a b z lower first last) (cases_lt b k)
    where
      both : ((a b z : ℕ) → b < k → reach k a b ≡ true → reach k b z ≡ true → reach k a z ≡ true) → b < k
          → (reach k a b ≡ true) ⊎ ((reach k a k ≡ true) × (reach k k b ≡ true))
          → (reach k b z ≡ true) ⊎ ((reach k b k ≡ true) × (reach k k z ≡ true)) → reach (suc k) a z ≡ true
      both before lower (inl ab) (inl bz) = direct k a z (before a b z lower ab bz)
      both before lower (inl ab) (inr over) = over-last k a z (before a b k lower ab over.0) over.1
      both before lower (inr over) (inl bz) = over-last k a z over.0 (before k b z lower over.1 bz)
      both before lower (inr over) (inr on) = over-last k a z over.0 on.1

      at : ((a b z : ℕ) → b < k → reach k a b ≡ true → reach k b z ≡ true → reach k a z ≡ true) → (b < k) ⊎ (k ≤ b) → reach (suc k) a z ≡ true
      at before (inl lower) = both before lower (from-over k a b first) (from-over k b z last)
      at before (inr higher) =
          let same : b ≡ k = omega arith in
          over-last k a z (to-last k a (subst (λ n. reach (suc k) a n ≡ true) same first))
          (from-last k z (subst (λ n. reach (suc k) n z ≡ true) same last))

  grows : (k a z : ℕ) → reach zero a z ≡ true → reach k a z ≡ true
  grows zero a z holds = holds
  grows (suc k) a z holds = direct k a z (grows k a z holds)

  -- a node from which an edge leads is one of the graph
  is-node : (b z : ℕ) → Contains (next G b) z → b < length G
  is-node b z has = at (cases_lt b (length G))
    where
      at : (b < length G) ⊎ (length G ≤ b) → b < length G
      at (inl within) = within
      at (inr past) = absurd (omega (arith, has.1, ap length (get_or_past G b [] past)))

  leads : (up : List ℕ) (a z : ℕ) → Leads G a up z → reach (length G) a z ≡ true
  leads [] a z has = grows (length G) a z (any-from_contains z (next G a) has)
  leads (b ∷ up) a z walk =
      through (length G) a b z (is-node b z walk.1) (leads up a b walk.0)
      (grows (length G) b z (any-from_contains z (next G b) walk.1))

  decided : (a z : ℕ) → Reaches G a z ⊎ (Reaches G a z → ⊥)
  decided a z = at (reach (length G) a z) refl
    where
      at : (b : Bool) → reach (length G) a z ≡ b → Reaches G a z ⊎ (Reaches G a z → ⊥)
      at true holds = inl (reaches (length G) a z holds)
      at false fails = inr (λ walk. let holds = leads walk.0 a z walk.1 in absurd (cc))

  -- the first node, at or past one, that reaches itself
  first-returning : (left from : ℕ) → length G ≤ from + left → (first : Option ℕ) × IsFirstReturning G from first
  first-returning zero from few = (None, λ a low high. absurd (omega (arith, few, low, high)))
  first-returning (suc left) from few = at (first-returning left (from + 1) (omega (arith, few))) (cases_lt from (length G))
    where
      none-from : (to : ℕ) → (Reaches G from from → ⊥) → NoneReturns G (from + 1) to → NoneReturns G from to
      none-from to never none a low high walk =
          ⊎_elim (λ (later : from < a). none a (omega (arith, later)) high walk)
          (λ (here : a ≤ from). let same : a ≡ from = omega (arith, low, here) in never (subst (λ n. Reaches G n n) same walk)) (cases_lt from a)

      later : (Reaches G from from → ⊥) → (first : Option ℕ) → IsFirstReturning G (from + 1) first → IsFirstReturning G from first
      later never None none = none-from (length G) never none
      later never (Some b) found = (omega (arith, found.0), found.1, found.2, none-from b never found.3)

      by : (first : Option ℕ) × IsFirstReturning G (from + 1) first → from < length G → Reaches G from from ⊎ (Reaches G from from → ⊥)
          → (first : Option ℕ) × IsFirstReturning G from first
      by rest within (inl walk) = (Some from, (omega arith, within, walk, λ a low high. absurd (omega (arith, low, high))))
      by rest within (inr never) = (rest.0, later never rest.0 rest.1)

      at : (first : Option ℕ) × IsFirstReturning G (from + 1) first → (from < length G) ⊎ (length G ≤ from)
          → (first : Option ℕ) × IsFirstReturning G from first
      at rest (inr past) = (None, λ a low high. absurd (omega (arith, past, low, high)))
      at rest (inl within) = by rest within (decided from from)

-- a table has a first module on a cycle, at or past a place, or none
pub some-first : (M : Plain) → AllPairs (λ (a b : PModule). a.id.0 < b.id.0) M.modules
    → All (λ (m : PModule). AllPairs (λ (a b : PInst). a.id.0 < b.id.0) m.insts) M.modules → (from : ℕ)
    → (first : Option ℕ) × IsFirstOnCycle M from first
some-first M rise insts from =
    let found = first-returning (graph_of M) (length (graph_of M)) from (omega arith) in
    (found.0, first-from_returning M rise insts from found.0 found.1)
