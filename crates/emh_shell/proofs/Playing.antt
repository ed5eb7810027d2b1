use Rattle.std.proofs.Common.{◌≡◌, ℕ, ◌+◌, ◌<◌, ◌≤◌, List, [], ◌∷◌, ◌++◌, take, drop, length, get_or, Some, inl, inr, refl, sym, ap, subst, ◌∙◌, append_assoc, append-nil, add-one, drop-cons, take-add, if◌then◌else◌, suc, Bool, true, false, arith, lit<, Ok, Err}
use Rattle.std.specs.Prelude.{slice_get}
use Rattle.std.proofs.lemmas.List.{take_all, length-map}
use Rattle.std.proofs.lemmas.Option.{slice_get-get_or}
use Rattle.emh_io.specs.Put.{gains}
use Rattle.script_read.specs.declared.lines.Line.{Line}
use Rattle.emh_shell.specs.Progress.{Progress, at_first}
use Rattle.session_rules.specs.Take.{Wants}
use Rattle.emh_shell.specs.Answers.{Watched, watched}
use Rattle.emh_shell.specs.declared.fault.Halt.{Halt}
use Rattle.emh_shell.specs.declared.fault.Halt.TheVariants.{Fetch, Store, Put, NoMemory}
use Rattle.emh_shell.specs.Play.{Point, start, Goes, Leads, Reads}
use Rattle.emh_shell.specs.Steps.{Steps, Fetches, Stores}
use Rattle.emh_io.specs.PutAll.{Front, PutsAll}
use Rattle.emh_io.specs.Told.{Shelved, Printed}
use Rattle.emh_shell.specs.Run.{QuietShelf, Cut}
use Rattle.emh_shell.specs.inside.Ends.{Ends, LineEnds}
use Rattle.emh_shell.specs.inside.Halts.{halt_of_put}
use Rattle.emh_io.specs.declared.sink.PutFault.{PutFault}
use Rattle.emh_io.specs.declared.sink.PutFault.TheVariants as put_fault
use Rattle.emh_io.proofs.GainsLemmas.{gains-gains, gains-nothing}
use Rattle.emh_shell.proofs.Lines.{take_more}

-- After k lines of a run: they lead to a point, whose files the shelf holds and whose text is written, and nothing failed.
pub record Standing (W : Watched) (budget : ℕ) (a m : Shelved) (x u : Printed) (lines : List Line) (k : ℕ) (stand : Progress) : Type 0 where
  pub at : Point
  pub leads : Leads W (start W budget a.holds) (take k lines) at
  pub files : m.holds ≡ at.files
  pub stands : stand ≡ at.progress
  pub text : u.written ≡ gains x.written at.text
  pub shelf : QuietShelf a m
  pub sink : u.faults ≡ x.faults

pub Standing-start : (W : Watched) (budget : ℕ) (a : Shelved) (x : Printed) (lines : List Line) (stand : Progress) → stand ≡ (start W budget a.holds).progress → Standing W budget a a x x lines 0 stand
Standing-start W budget a x lines stand fresh = record {
  at = start W budget a.holds;
  leads = refl;
  files = refl;
  stands = fresh;
  text = sym (gains-nothing x.written);
  shelf = (refl, refl);
  sink = refl;
}

-- as many observers as have names
pub at-begin : {X : Type 0} (name : X → List ℕ) (want : X → Wants) (observers : List X) (budget k : ℕ) → k ≡ length observers → at_first budget k ≡ at_first budget (length (watched name want observers).names)
at-begin name want observers budget k is = ap (at_first budget) (is ∙ sym (length-map observers name))

-- one more line
Leads-more : (W : Watched) (p : Point) (lines : List Line) (q : Point) (line : Line) (r : Point) → Leads W p lines q → Goes W q line r → Leads W p (lines ++ line ∷ []) r
Leads-more W p [] q line r leads goes = (r, subst (λ z. Goes W z line r) leads goes, refl)
Leads-more W p (first ∷ lines) q line r leads goes = (leads.0, leads.1, Leads-more W leads.0 lines q line r leads.2 goes)

get-here : (lines : List Line) (k : ℕ) (line : Line) → k < length lines → line ≡ get_or lines k line → slice_get lines k ≡ Some line
get-here lines k line within here = slice_get-get_or lines k line within ∙ ap Some (sym here)

-- where a line leads from there
Leads-next : (W : Watched) (budget : ℕ) (a m n : Shelved) (x u : Printed) (lines : List Line) (k : ℕ) (stand t : Progress) (line : Line) (said : List ℕ) (s : Standing W budget a m x u lines k stand) → k < length lines → line ≡ get_or lines k line → LineEnds W line m n stand t (Ok said) → Leads W (start W budget a.holds) (take (k + 1) lines) (record { text = s.at.text ++ said; files = n.holds; progress = t })
Leads-next W budget a m n x u lines k stand t line said s within here ends =
    let steps : Steps W line s.at.files s.at.progress said n.holds t = rw (s.files, s.stands) at ends.0 in
    rw (take_more lines k line within here)
    (Leads-more W (start W budget a.holds) (take k lines) s.at line (record { text = s.at.text ++ said; files = n.holds; progress = t }) s.leads (record { said = said; steps = steps; text = refl }))

quiet-quiet : (a m n : Shelved) → QuietShelf a m → QuietShelf m n → QuietShelf a n
quiet-quiet a m n first second = (second.0 ∙ first.0, second.1 ∙ first.1)

pub Standing-more : (W : Watched) (budget : ℕ) (a m n : Shelved) (x u v : Printed) (lines : List Line) (k : ℕ) (stand t : Progress) (line : Line) (said : List ℕ) → Standing W budget a m x u lines k stand → k < length lines → line ≡ get_or lines k line → LineEnds W line m n stand t (Ok said) → PutsAll said u v (Ok tt) → Standing W budget a n x v lines (k + 1) t
Standing-more W budget a m n x u v lines k stand t line said s within here ends put = record {
  at = record { text = s.at.text ++ said; files = n.holds; progress = t };
  leads = Leads-next W budget a m n x u lines k stand t line said s within here ends;
  files = refl;
  stands = refl;
  text = put.0 ∙ ap (λ z. gains z said) s.text ∙ gains-gains x.written s.at.text said;
  shelf = quiet-quiet a m n s.shelf ends.1;
  sink = put.1 ∙ s.sink;
}

-- a line comes to nothing
pub Ends-line : (W : Watched) (budget : ℕ) (a m n : Shelved) (x u : Printed) (lines : List Line) (k : ℕ) (stand t : Progress) (line : Line) (words : List (List ℕ)) (halt : Halt) → Standing W budget a m x u lines k stand → k < length lines → line ≡ get_or lines k line → (reads : Reads a.holds words lines) → reads.ask.budget ≡ budget → LineEnds W line m n stand t (Err halt) → Ends W words a n x u (Err halt)
Ends-line W budget a m n x u lines k stand t line words Fetch s within here reads under ends = record {
  k = k;
  at = s.at;
  name = ends.0;
  next = inr (record { lines = lines; stands = record { reads = reads; within = omega arith; leads = rw under s.leads }; line = line; here = get-here lines k line within here; uses = subst (λ z. Fetches line.command z ends.0) s.stands ends.1 });
  cause = rw (s.files, s.shelf.0) at ends.2;
  files = ends.3 ∙ s.files;
  text = s.text;
}
Ends-line W budget a m n x u lines k stand t line words Store s within here reads under ends = record {
  k = k;
  at = s.at;
  name = ends.0;
  next = record { lines = lines; stands = record { reads = reads; within = omega arith; leads = rw under s.leads }; line = line; here = get-here lines k line within here; uses = subst (λ z. Stores line.command z ends.0) s.stands ends.1 };
  cause = rw (s.files, s.shelf.1) at ends.2;
  text = s.text;
}
Ends-line W budget a m n x u lines k stand t line words Put s within here reads under ends = absurd ends
Ends-line W budget a m n x u lines k stand t line words NoMemory s within here reads under ends = record {
  k = k;
  front = s.at.text;
  rest = [];
  after = inr (lines, s.at, record { reads = reads; within = omega arith; leads = rw under s.leads }, append-nil s.at.text, ends ∙ s.files);
  text = s.text;
}

-- a line is carried out, and the front of its text is written
Cut-line : (W : Watched) (budget : ℕ) (a m n : Shelved) (x u v : Printed) (lines : List Line) (k : ℕ) (stand t : Progress) (line : Line) (said : List ℕ) (words : List (List ℕ)) → Standing W budget a m x u lines k stand → k < length lines → line ≡ get_or lines k line → (reads : Reads a.holds words lines) → reads.ask.budget ≡ budget → LineEnds W line m n stand t (Ok said) → Front said u v → Cut W words a n x v
Cut-line W budget a m n x u v lines k stand t line said words s within here reads under ends f = record {
  k = k + 1;
  front = s.at.text ++ f.front;
  rest = f.rest;
  after = inr (
    lines,
    record { text = s.at.text ++ said; files = n.holds; progress = t },
    record { reads = reads; within = omega arith; leads = rw under (Leads-next W budget a m n x u lines k stand t line said s within here ends) },
    append_assoc s.at.text f.front f.rest ∙ ap (λ z. s.at.text ++ z) (sym f.parts),
    refl,
  );
  text = f.written ∙ ap (λ z. gains z f.front) s.text ∙ gains-gains x.written s.at.text f.front;
}

-- the text of a line isn't written whole
pub Ends-put : (W : Watched) (budget : ℕ) (a m n : Shelved) (x u v : Printed) (lines : List Line) (k : ℕ) (stand t : Progress) (line : Line) (said : List ℕ) (words : List (List ℕ)) (fault : PutFault) → Standing W budget a m x u lines k stand → k < length lines → line ≡ get_or lines k line → (reads : Reads a.holds words lines) → reads.ask.budget ≡ budget → LineEnds W line m n stand t (Ok said) → PutsAll said u v (Err fault) → Ends W words a n x v (Err (halt_of_put fault))
Ends-put W budget a m n x u v lines k stand t line said words put_fault.Failed s within here reads under ends put = (Cut-line W budget a m n x u v lines k stand t line said words s within here reads under ends put.0, rw s.sink at put.1)
Ends-put W budget a m n x u v lines k stand t line said words put_fault.NoMemory s within here reads under ends put = Cut-line W budget a m n x u v lines k stand t line said words s within here reads under ends put

few : (refused : Bool) → (if refused then 1 else 0) < 3
few true = lit< tt
few false = lit< tt

-- no line is left
pub Ends-out : (W : Watched) (budget : ℕ) (a m : Shelved) (x u : Printed) (lines : List Line) (k : ℕ) (stand : Progress) (words : List (List ℕ)) (status : ℕ) → Standing W budget a m x u lines k stand → length lines ≤ k → (reads : Reads a.holds words lines) → reads.ask.budget ≡ budget → status ≡ (if stand.has_refused then 1 else 0) → Ends W words a m x u (Ok status)
Ends-out W budget a m x u lines k stand words status s over reads under is = (
  rw is (few stand.has_refused),
  record {
    text = s.at.text;
    plays = inr (inl (s.at, record { lines = lines; reads = reads; leads = rw under (rw (take_all k lines over) at s.leads) }, refl, s.files, is ∙ ap (λ (z : Progress). if z.has_refused then 1 else 0) s.stands));
    written = s.text;
  },
  s.shelf,
  s.sink,
)
