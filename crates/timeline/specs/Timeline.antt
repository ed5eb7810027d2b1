-- What contracts see of a thing whose changes can be undone.
use Rattle.std.specs.Prelude.{◌≡◌, ℕ, List, [], ◌∷◌, ◌++◌, Bool, false, refl}
use Rattle.std.specs.Coded.{Coded, code_by, coded×, coded_ℕ, coded_list, coded_bool}

-- a remembered value, and the number of writes between it and the value nearer to now
pub record Moment (X : Type 0) : Type 0 where
  pub value : X
  pub writes : ℕ

-- now; the remembered values, the oldest first; those that were taken back, the next one last; whether a record is
-- open; the value where it began, which is now where none is open; the writes since; how many new rows and writes need
-- no memory
pub record Timeline (X : Type 0) : Type 0 where
  pub now : X
  pub past : List (Moment X)
  pub future : List (Moment X)
  pub is_open : Bool
  pub base : X
  pub writes : ℕ
  pub spare_rows : ℕ
  pub spare_writes : ℕ

-- at the start
abbrev pub new_timeline : {X : Type 0} → X → Timeline X
new_timeline x =
    record {
      now = x;
      past = [];
      future = [];
      is_open = false;
      base = x;
      writes = 0;
      spare_rows = 0;
      spare_writes = 0;
    }

-- the last value of the one list has become now, and now the last of the other
abbrev pub Moves : {X : Type 0} → List (Moment X) → List (Moment X) → X
    → List (Moment X) → List (Moment X) → X → Type 0
Moves from to now from' to' now' =
    (n : ℕ) × (from ≡ from' ++ record { value = now'; writes = n } ∷ [])
    × (to' ≡ to ++ record { value = now; writes = n } ∷ [])

-- the last moment has this count
abbrev pub IsLastCount : {X : Type 0} → List (Moment X) → ℕ → Type 0
IsLastCount {X} moments n =
    (front : List (Moment X)) × ((moment : Moment X)
    × ((moments ≡ front ++ moment ∷ []) × (moment.writes ≡ n)))

abbrev pub moment_code : {X : Type 0} → Coded X → Coded (Moment X)
moment_code {X} code =
    code_by (X × ℕ) (coded× code coded_ℕ) (λ t. (t.value, t.writes))
    (λ p. record { value = p.0; writes = p.1 }) (λ _. refl)

abbrev pub timeline_code : {X : Type 0} → Coded X → Coded (Timeline X)
timeline_code {X} code =
    code_by
    (X × (List (Moment X) × (List (Moment X) × (Bool × (X × (ℕ × (ℕ × ℕ)))))))
    (coded× code (coded× (coded_list (moment_code code)) (coded× (coded_list (moment_code code))
    (coded× coded_bool (coded× code (coded× coded_ℕ (coded× coded_ℕ coded_ℕ)))))))
    (λ t. (
      t.now,
      (
        t.past,
        (
          t.future,
          (
            t.is_open,
            (
              t.base,
              (
                t.writes,
                (t.spare_rows, t.spare_writes),
              ),
            ),
          ),
        ),
      ),
    ))
    (λ p. record {
      now = p.0;
      past = p.1.0;
      future = p.1.1.0;
      is_open = p.1.1.1.0;
      base = p.1.1.1.1.0;
      writes = p.1.1.1.1.1.0;
      spare_rows = p.1.1.1.1.1.1.0;
      spare_writes = p.1.1.1.1.1.1.1;
    })
    (λ _. refl)
