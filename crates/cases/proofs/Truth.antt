-- What a run says of the plain session, by what was compared after it.
use Rattle.std.proofs.Common.{◌≡◌, refl, ℕ, ◌<◌, List, [], ◌++◌, Option, Some, Bool, true, false, sym, ap, ◌∙◌, subst}
use Rattle.emh_io.specs.Files.{Files}
use Rattle.emh_io.specs.Told.{Shelved, Printed}
use Rattle.emh_io.specs.declared.held.Held.{Held}
use Rattle.emh_shell.specs.Answers.{Watched}
use Rattle.emh_shell.specs.Play.{Play}
use Rattle.emh_shell.specs.Run.{Played}
use Rattle.emh_shell.specs.Law.{EachSessionOnce}
use Rattle.cases.specs.declared.verdict.Verdict.{Verdict}
use Rattle.cases.specs.declared.verdict.Verdict.TheVariants.{Passed, OtherText, OtherStatus, OtherFiles}
use Rattle.cases.specs.Compared.{are_held, with_files, IsVerdict, PlaysTo, IsTrueOf}

-- a run that ended below 3 is the plain session over the files of its shelf, of which this is all that was printed
pub plays : (W : Watched) (words : List (List ℕ)) (a b : Shelved) (x y : Printed) (status : ℕ) (files left : Files) (printed : List ℕ)
    → a.holds ≡ Some files → b.holds ≡ Some left → x.written ≡ Some [] → y.written ≡ Some printed
    → Played W words a b x y status → Play W (Some files) words printed (Some left) status
plays W words a b x y status files left printed before after nothing all p =
    let texts : Some printed ≡ Some p.text = sym all ∙ p.written ∙ rw nothing refl in
    let text : p.text ≡ printed = cc in
    rw (← before, ← after) (subst (λ z. Play W a.holds words z b.holds status) text p.plays)

-- what such a session leaves and prints is all that it may
pub same_play : EachSessionOnce → (W : Watched) (words : List (List ℕ)) (files left : Files) (printed wanted : List ℕ) (status other : ℕ) (after : List Held)
    → Play W (Some files) words printed (Some left) status → PlaysTo W files words wanted other after
    → (printed ≡ wanted) × (status ≡ other) × (are_held left after ≡ true)
same_play once W words files left printed wanted status other after a b =
    let same = once W files words printed wanted (Some left) (Some b.0) status other a b.1 in
    let files_same : Some left ≡ Some b.0 = same.1 in
    let left_same : left ≡ b.0 = cc in
    (same.0, same.2, ap (λ z. are_held z after) left_same ∙ b.2)

module _ (once : EachSessionOnce) (W : Watched) (words : List (List ℕ)) (files left : Files) (printed wanted : List ℕ) (status other : ℕ) (after : List Held)
    (plays : status < 3 → Play W (Some files) words printed (Some left) status) where
  same : (ended : ℕ) → ended ≡ status → ended < 3 → PlaysTo W files words wanted other after
      → (printed ≡ wanted) × (status ≡ other) × (are_held left after ≡ true)
  same ended is few pt = same_play once W words files left printed wanted status other after (plays (rw is at few)) pt

  -- a verdict on what was printed, left and answered is true of the plain session
  pub true_of : (verdict : Verdict) (held : Bool) → held ≡ are_held left after
      → IsVerdict wanted other printed status verdict
      → IsTrueOf W files words wanted other after (with_files verdict held status)
  true_of Passed true held says = λ few. (
    left,
    subst (λ text. Play W (Some files) words text (Some left) other) says.0
        (subst (λ code. Play W (Some files) words printed (Some left) code) says.1 (plays (rw (sym says.1) at few))),
    sym held,
  )
  true_of Passed false held says = λ few pt.
      let never : false ≡ true = held ∙ (same status refl few pt).2 in
      cc
  true_of (OtherText lines ended) held is says = λ few pt. says.0 (same ended says.2 few pt).0
  true_of (OtherStatus ended) held is says = λ few pt. says.1 (same ended says.2 few pt).1
  true_of (OtherFiles ended) held is says = absurd says
