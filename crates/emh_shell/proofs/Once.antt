-- The rest of a session over told files, which there is one of.
use Rattle.std.proofs.Common.{◌≡◌, ℕ, List, [], ◌∷◌, ◌++◌, take, Option, Some, None, inl, inr, refl, sym, ap, subst, ◌∙◌, Bool, true, false, suc, zero}
use Rattle.std.specs.Prelude.{◌⊎◌, slice_get}
use Rattle.script_read.specs.declared.lines.Line.{Line}
use Rattle.emh_shell.specs.Fetching.{Lacks}
use Rattle.emh_shell.specs.Answers.{Watched}
use Rattle.emh_shell.specs.Steps.{Fetches}
use Rattle.emh_shell.specs.Play.{Point, Goes, Leads}
use Rattle.emh_shell.proofs.OneStep.{Told, one_step, told_step, stuck_step}

point-same : (p q : Point) → p.text ≡ q.text → p.files ≡ q.files → p.progress ≡ q.progress → p ≡ q
point-same p q a b c = let e : p ≡ (let w : Point = record { text = q.text; files = q.files; progress = q.progress } in w) = rw (← a, ← b, ← c) refl in e

one-goes : (W : Watched) (p q r : Point) (line : Line) (told : Told p.files) → Goes W p line q → Goes W p line r → q ≡ r
one-goes W p q r line told a b =
    let same = one_step W line.command told.0 line p.progress a.said b.said q.files r.files q.progress r.progress (rw told.1 at a.steps) (rw told.1 at b.steps) in
    point-same q r (a.text ∙ ap (λ z. p.text ++ z) same.0 ∙ sym b.text) same.1 same.2

pub told-goes : (W : Watched) (p q : Point) (line : Line) (told : Told p.files) → Goes W p line q → Told q.files
told-goes W p q line told a = told_step W line.command told.0 line p.progress a.said q.files q.progress (rw told.1 at a.steps)

-- the rest of a session by recursion: to its end, or to a fetch of what isn't held
abbrev pub Stuck : Point → Line → Type 0
Stuck p line = (name : List ℕ) × Fetches line.command p.progress name × Lacks p.files name

abbrev pub Rest : Watched → Point → List Line → Point → Bool → Type 0
Rest W p [] q stopped = (q ≡ p) × (stopped ≡ false)
Rest W p (line ∷ lines) q stopped =
    (Stuck p line × (q ≡ p) × (stopped ≡ true)) ⊎ ((mid : Point) × Goes W p line mid × Rest W mid lines q stopped)

no-goes : (W : Watched) (p q : Point) (line : Line) (told : Told p.files) → Stuck p line → Goes W p line q → ⊥
no-goes W p q line told stuck a =
    stuck_step W line.command told.0 line p.progress stuck.0 a.said q.files q.progress stuck.1 (rw told.1 at stuck.2) (rw told.1 at a.steps)

pub one-rest : (W : Watched) (lines : List Line) (p q r : Point) (b c : Bool) → Told p.files → Rest W p lines q b → Rest W p lines r c → (q ≡ r) × (b ≡ c)
one-rest W [] p q r b c told x y = (x.0 ∙ sym y.0, x.1 ∙ sym y.1)
one-rest W (line ∷ lines) p q r b c told (inl x) (inl y) = (x.1 ∙ sym y.1, x.2 ∙ sym y.2)
one-rest W (line ∷ lines) p q r b c told (inl x) (inr y) = absurd (no-goes W p y.0 line told x.0 y.1)
one-rest W (line ∷ lines) p q r b c told (inr x) (inl y) = absurd (no-goes W p x.0 line told y.0 x.1)
one-rest W (line ∷ lines) p q r b c told (inr x) (inr y) =
    let same : y.0 ≡ x.0 = one-goes W p y.0 x.0 line told y.1 x.1 in
    one-rest W lines x.0 q r b c (told-goes W p x.0 line told x.1) x.2 (subst (λ z. Rest W z lines r c) same y.2)

pub out-rest : (W : Watched) (lines : List Line) (p q : Point) → Leads W p lines q → Rest W p lines q false
out-rest W [] p q leads = (leads, refl)
out-rest W (line ∷ lines) p q leads = inr (leads.0, leads.1, out-rest W lines leads.0 q leads.2)

pub up-rest : (W : Watched) (lines : List Line) (k : ℕ) (p q : Point) (line : Line) → slice_get lines k ≡ Some line → Leads W p (take k lines) q → Stuck q line → Rest W p lines q true
up-rest W [] k p q line here leads stuck = let never : None ≡ Some line = here in absurd (cc)
up-rest W (first ∷ lines) zero p q line here leads stuck =
    let same : first ≡ line = (let e : Some first ≡ Some line = here in cc) in
    inl (rw same (subst (λ z. Stuck z line) leads stuck), leads, refl)
up-rest W (first ∷ lines) (suc k) p q line here leads stuck =
    inr (leads.0, leads.1, up-rest W lines k leads.0 q line here leads.2 stuck)
