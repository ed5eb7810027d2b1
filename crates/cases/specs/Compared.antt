use Rattle.std.specs.Prelude.{◌≡◌, ℕ, ◌+◌, ◌<◌, ◌==◌, Bool, true, false, List, [], ◌∷◌, Option, Some, None, if◌then◌else◌, bytes_eq}
use Rattle.std.specs.List.{list_all}
use Rattle.emh_io.specs.Files.{Files, held}
use Rattle.emh_io.specs.declared.held.Held.{Held}
use Rattle.emh_shell.specs.Answers.{Watched}
use Rattle.emh_shell.specs.Play.{Play}
use Rattle.cases.specs.declared.verdict.Verdict.{Verdict}
use Rattle.cases.specs.declared.verdict.Verdict.TheVariants.{Passed, OtherText, OtherStatus, OtherFiles}

-- how many whole lines two texts have in common at their beginning
abbrev pub common_lines : List ℕ → List ℕ → ℕ
common_lines [] other = 0
common_lines (byte ∷ text) [] = 0
common_lines (byte ∷ text) (another ∷ other) =
    if byte == another then (if byte == 10 then 1 + common_lines text other else common_lines text other) else 0

-- What is said of a run that was to print a text and end with a status: it passed exactly where it did both.
abbrev pub IsVerdict : List ℕ → ℕ → List ℕ → ℕ → Verdict → Type 0
IsVerdict wanted wanted_status text status Passed = (text ≡ wanted) × (status ≡ wanted_status)
IsVerdict wanted wanted_status text status (OtherText lines ended) =
    (text ≡ wanted → ⊥) × (lines ≡ common_lines wanted text) × (ended ≡ status)
IsVerdict wanted wanted_status text status (OtherStatus ended) =
    (text ≡ wanted) × (status ≡ wanted_status → ⊥) × (ended ≡ status)
IsVerdict wanted wanted_status text status (OtherFiles ended) = ⊥

abbrev pub are_bytes : Option (List ℕ) → List ℕ → Bool
are_bytes None bytes = false
are_bytes (Some found) bytes = bytes_eq found bytes

-- the file is among the files as it stands
abbrev pub is_held : Files → Held → Bool
is_held files file = are_bytes (held files file.name) file.bytes

abbrev pub are_held : Files → List Held → Bool
are_held files after = list_all (is_held files) after

-- what is said of a run once it was looked whether the files are as they were to be
abbrev pub with_files : Verdict → Bool → ℕ → Verdict
with_files Passed true status = Passed
with_files Passed false status = OtherFiles status
with_files (OtherText lines ended) held status = OtherText lines ended
with_files (OtherStatus ended) held status = OtherStatus ended
with_files (OtherFiles ended) held status = OtherFiles ended

-- some files that the plain session leaves, with that text and that status, are as they were to be
abbrev pub PlaysTo : Watched → Files → List (List ℕ) → List ℕ → ℕ → List Held → Type 0
PlaysTo W files words text status after =
    (left : Files) × Play W (Some files) words text (Some left) status × (are_held left after ≡ true)

-- What a verdict says of the plain session, where a script ran to its end: a case that passed is what that session prints,
-- leaves and ends with, and one that differs isn't.
abbrev pub IsTrueOf : Watched → Files → List (List ℕ) → List ℕ → ℕ → List Held → Verdict → Type 0
IsTrueOf W files words wanted wanted_status after Passed =
    wanted_status < 3 → PlaysTo W files words wanted wanted_status after
IsTrueOf W files words wanted wanted_status after (OtherText lines ended) =
    ended < 3 → PlaysTo W files words wanted wanted_status after → ⊥
IsTrueOf W files words wanted wanted_status after (OtherStatus ended) =
    ended < 3 → PlaysTo W files words wanted wanted_status after → ⊥
IsTrueOf W files words wanted wanted_status after (OtherFiles ended) =
    ended < 3 → PlaysTo W files words wanted wanted_status after → ⊥
