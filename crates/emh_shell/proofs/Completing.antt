use Rattle.std.proofs.Common.{◌≡◌, ℕ, List, inl, inr, refl}
use Rattle.std.specs.Prelude.{◌⊎◌, Ok}
use Rattle.emh_io.specs.Count.{Rose}
use Rattle.emh_io.specs.Told.{Shelved, Printed}
use Rattle.emh_shell.specs.Answers.{Watched}
use Rattle.emh_shell.specs.Run.{WholeAtFetch, Played, Failed}
use Rattle.emh_shell.specs.inside.Ends.{Ends}

-- a fetch that came to nothing, and not by a failure, ends the plain session too
played-up : (W : Watched) (words : List (List ℕ)) (a b : Shelved) (x y : Printed) (status : ℕ) → status ≡ 3 → (Rose a.fetch_faults b.fetch_faults → ⊥) → WholeAtFetch W words a b x y → Played W words a b x y status
played-up W words a b x y status is quiet w =
    elim w.cause [
      | inl lacks ↦ record {
        text = w.at.text;
        plays = inr (inr (w.at, record { k = w.k; name = w.name; fetch = w.next; lacks = lacks }, refl, w.files, is));
        written = w.text;
      }
      | inr failed ↦ absurd (quiet failed.0)
    ]

-- where no call failed, a run that found its memory is the plain session
pub complete-ok : (W : Watched) (words : List (List ℕ)) (a b : Shelved) (x y : Printed) (status : ℕ) → Ends W words a b x y (Ok status) → (status ≡ 5) ⊎ Played W words a b x y status
complete-ok W words a b x y status ends = inr ends.1

pub complete-fetch : (W : Watched) (words : List (List ℕ)) (a b : Shelved) (x y : Printed) (status : ℕ) → status ≡ 3 → (Failed a b x y → ⊥) → WholeAtFetch W words a b x y → (status ≡ 5) ⊎ Played W words a b x y status
complete-fetch W words a b x y status is quiet w = inr (played-up W words a b x y status is (λ rose. quiet (inl rose)) w)
