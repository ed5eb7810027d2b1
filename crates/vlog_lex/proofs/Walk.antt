-- Parts that follow each other up to a place where they are over.
use Rattle.std.proofs.Common.{◌≡◌, refl, sym, subst, ℕ, zero, suc, ◌+◌, ◌<◌, ◌≤◌, List, [], ◌∷◌, ◌++◌, arith, inl, inr, ◌⊎◌}
use Rattle.vlog_lex.specs.Attribute.{Parts, Through}

-- parts begin only where they aren't over, end further on, and only at one place
pub record Walks (Part : ℕ → ℕ → Type 0) (Over : ℕ → Type 0) : Type 0 where
  pub goes_on : (a b : ℕ) → Part a b → Over a → ⊥
  pub onward : (a b : ℕ) → Part a b → a < b
  pub once : (a b c : ℕ) → Part a b → Part a c → b ≡ c

-- one part more
parts_more : (Part : ℕ → ℕ → Type 0) (a : ℕ) (ends : List ℕ) (b c : ℕ) → Parts Part a ends b → Part b c
    → Parts Part a (ends ++ c ∷ []) c
parts_more Part a [] b c way part = (subst (λ p. Part p c) (sym way) part, refl)
parts_more Part a (end ∷ ends) b c way part = (way.0, parts_more Part end ends b c way.1 part)

pub through_more : (Part : ℕ → ℕ → Type 0) (a b c : ℕ) → Through Part a b → Part b c → Through Part a c
through_more Part a b c way part = (way.0 ++ c ∷ [], parts_more Part a way.0 b c way.1 part)

-- no way leads back
parts_onward : (Part : ℕ → ℕ → Type 0) (Over : ℕ → Type 0) → Walks Part Over → (a : ℕ) (ends : List ℕ) (b : ℕ)
    → Parts Part a ends b → a ≤ b
parts_onward Part Over walks a [] b way = omega arith
parts_onward Part Over walks a (end ∷ ends) b way =
    omega (arith, walks.onward a end way.0, parts_onward Part Over walks end ends b way.1)

pub through_onward : (Part : ℕ → ℕ → Type 0) (Over : ℕ → Type 0) → Walks Part Over → (a b : ℕ) → Through Part a b
    → a ≤ b
through_onward Part Over walks a b way = parts_onward Part Over walks a way.0 b way.1

-- where the parts are over lies ahead of each place on the way
parts_ahead : (Part : ℕ → ℕ → Type 0) (Over : ℕ → Type 0) → Walks Part Over → (a : ℕ) (here there : List ℕ) (b e : ℕ)
    → Parts Part a here b → Parts Part a there e → Over e → Through Part b e
parts_ahead Part Over walks a [] there b e way rest over = (there, subst (λ p. Parts Part p there e) way rest)
parts_ahead Part Over walks a (x ∷ here) [] b e way rest over =
    absurd (walks.goes_on a x way.0 (subst Over (sym rest) over))
parts_ahead Part Over walks a (x ∷ here) (y ∷ there) b e way rest over =
    let same : y ≡ x = walks.once a y x rest.0 way.0 in
    parts_ahead Part Over walks x here there b e way.1 (subst (λ p. Parts Part p there e) same rest.1) over

pub ahead : (Part : ℕ → ℕ → Type 0) (Over : ℕ → Type 0) → Walks Part Over → (a b e : ℕ)
    → Through Part a b → Through Part a e → Over e → Through Part b e
ahead Part Over walks a b e way rest over = parts_ahead Part Over walks a way.0 rest.0 b e way.1 rest.1 over

-- from a place where they are over they lead nowhere else
pub stays : (Part : ℕ → ℕ → Type 0) (a b : ℕ) → ((x : ℕ) → Part a x → ⊥) → Through Part a b → a ≡ b
stays Part a b none ([], way) = way
stays Part a b none (x ∷ ends, way) = absurd (none x way.0)

-- they are over at one place
pub over_once : (Part : ℕ → ℕ → Type 0) (Over : ℕ → Type 0) → Walks Part Over → (a b c : ℕ)
    → Through Part a b → Over b → Through Part a c → Over c → b ≡ c
over_once Part Over walks a b c way over other over' =
    stays Part b c (λ x part. walks.goes_on b x part over) (ahead Part Over walks a b c way other over')

-- what a place may be: where the parts are over, where one begins, or where none does
pub data Place (Part : ℕ → ℕ → Type 0) (Over : ℕ → Type 0) (a : ℕ) : Type 0 where
  ends : Over a → Place Part Over a
  goes : (b : ℕ) → Part a b → Place Part Over a
  stuck : ((b : ℕ) → Part a b → ⊥) → (Over a → ⊥) → Place Part Over a

-- they are over somewhere, or nowhere
pub over_or_not : (Part : ℕ → ℕ → Type 0) (Over : ℕ → Type 0) → Walks Part Over → ((a : ℕ) → Place Part Over a)
    → (n : ℕ) → ((e : ℕ) → n ≤ e → Over e → ⊥) → (fuel a : ℕ) → n ≤ a + fuel
    → ((e : ℕ) × Through Part a e × Over e) ⊎ ((e : ℕ) → Through Part a e → Over e → ⊥)
over_or_not Part Over walks place n past zero a enough =
    inr (λ e way over. past e (omega (arith, through_onward Part Over walks a e way)) over)
over_or_not Part Over walks place n past (suc fuel) a enough =
    elim (place a) [
      | ends over ↦ inl (a, ([], refl), over)
      | goes b part ↦
          elim (over_or_not Part Over walks place n past fuel b (omega (arith, walks.onward a b part))) [
            | inl (e, way, over) ↦ inl (e, (b ∷ way.0, (part, way.1)), over)
            | inr none ↦ inr (λ e way over. none e (ahead Part Over walks a b e (b ∷ [], (part, refl)) way over) over)
          ]
      | stuck none goes_on ↦ inr (λ e way over. goes_on (subst Over (sym (stays Part a e none way)) over))
    ]
