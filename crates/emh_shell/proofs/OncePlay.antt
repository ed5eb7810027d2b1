use Rattle.std.proofs.Common.{◌≡◌, ℕ, List, [], ◌∷◌, Some, None, inl, inr, refl, sym, ap, subst, ◌∙◌, Bool, Option, true, false, Ok, Err}
use Rattle.std.specs.Prelude.{◌⊎◌, if◌then◌else◌}
use Rattle.emh_io.specs.Files.{Files}
use Rattle.emh_shell.specs.Answers.{Watched}
use Rattle.command_line.specs.CommandLine.{asked}
use Rattle.command_line.specs.declared.words.Asked.{Asked}
use Rattle.script_read.specs.Script.{script_of}
use Rattle.emh_shell.specs.Printing.{fault_line}
use Rattle.script_read.specs.declared.lines.Line.{Line}
use Rattle.emh_shell.specs.Fetching.{Gives, Lacks}
use Rattle.script_read.specs.declared.lines.ScriptFault.{ScriptFault}
use Rattle.emh_shell.specs.Play.{Point, start, Reads, HasFault, FaultyAsk, Faulty, PlaysOut, PlaysUp, NextFetch}
use Rattle.emh_shell.specs.Law.{EachSessionOnce}
use Rattle.emh_shell.proofs.Once.{Rest, one-rest, out-rest, up-rest}
use Rattle.emh_shell.proofs.Giving.{ok_long, ok_ok, lacks_ok, lacks_long}

some-same : (x y : Asked) → Some x ≡ Some y → x ≡ y
some-same x y e = cc

-- the words ask for one script, and it has one list of lines
one-ask : (f : Files) (words : List (List ℕ)) (l m : List Line) (a : Reads (Some f) words l) (b : Reads (Some f) words m) → a.ask ≡ b.ask
one-ask f words l m a b = some-same a.ask b.ask (sym a.asks ∙ b.asks)

one-reads : (f : Files) (words : List (List ℕ)) (l m : List Line) → Reads (Some f) words l → Reads (Some f) words m → l ≡ m
one-reads f words l m a b =
    let asks : a.ask ≡ b.ask = one-ask f words l m a b in
    let bytes : a.bytes ≡ b.bytes = ok_ok f b.ask.script a.bytes b.bytes (rw asks at a.gives) b.gives in
    let lines : Ok l ≡ Ok m = sym a.read ∙ ap script_of bytes ∙ b.read in
    cc

one-fault : (f : Files) (ask : Option Asked) (text other : List ℕ) → FaultyAsk (Some f) ask text → FaultyAsk (Some f) ask other → text ≡ other
one-fault f None text other a b = a ∙ sym b
one-fault f (Some ask) text other (inl a) (inl b) = a.1 ∙ sym b.1
one-fault f (Some ask) text other (inl a) (inr b) = absurd (ok_long f ask.script b.bytes b.gives a.0)
one-fault f (Some ask) text other (inr a) (inl b) = absurd (ok_long f ask.script a.bytes a.gives b.0)
one-fault f (Some ask) text other (inr a) (inr b) =
    let bytes : a.bytes ≡ b.bytes = ok_ok f ask.script a.bytes b.bytes a.gives b.gives in
    let faults : Err a.fault ≡ Err b.fault = sym a.read ∙ ap script_of bytes ∙ b.read in
    let fault : a.fault ≡ b.fault = cc in
    a.told ∙ ap fault_line fault ∙ sym b.told

fault-asked : (f : Files) (words : List (List ℕ)) (text : List ℕ) (ask : Asked) → asked words ≡ Some ask → Faulty (Some f) words text → FaultyAsk (Some f) (Some ask) text
fault-asked f words text ask e a = rw e at a

fault-bytes : (f : Files) (ask : Asked) (text bytes : List ℕ) (l : List Line) → FaultyAsk (Some f) (Some ask) text → Gives (Some f) ask.script (Ok bytes) → script_of bytes ≡ Ok l → ⊥
fault-bytes f ask text bytes l (inl a) gives read = ok_long f ask.script bytes gives a.0
fault-bytes f ask text bytes l (inr a) gives read =
    let never : Err a.fault ≡ Ok l = sym a.read ∙ ap script_of (ok_ok f ask.script a.bytes bytes a.gives gives) ∙ read in
    cc

fault-reads : (f : Files) (words : List (List ℕ)) (text : List ℕ) (l : List Line) → Faulty (Some f) words text → Reads (Some f) words l → ⊥
fault-reads f words text l a b = fault-bytes f b.ask text b.bytes l (fault-asked f words text b.ask b.asks a) b.gives b.read

fault-lacks : (f : Files) (ask : Asked) (text : List ℕ) → FaultyAsk (Some f) (Some ask) text → Lacks (Some f) ask.script → ⊥
fault-lacks f ask text (inl a) lacks = lacks_long f ask.script lacks a.0
fault-lacks f ask text (inr a) lacks = lacks_ok f ask.script a.bytes lacks a.gives

module _ (W : Watched) (f : Files) (words : List (List ℕ)) where
  -- the script isn't held
  record NoScript (p : Point) : Type 0 where
    ask : Asked
    asks : asked words ≡ Some ask
    lacks : Lacks (Some f) ask.script
    begins : p ≡ start W ask.budget (Some f)

  -- its lines lead to a fetch of what isn't held
  record Stopped (p : Point) : Type 0 where
    lines : List Line
    reads : Reads (Some f) words lines
    rest : Rest W (start W reads.ask.budget (Some f)) lines p true

  next-form : (k : ℕ) (p : Point) (name : List ℕ) → NextFetch W (Some f) words k p name → Lacks p.files name → NoScript p ⊎ Stopped p
  next-form k p name (inl a) lacks = inl (record { ask = a.ask; asks = a.asks; lacks = rw (a.at, a.named) at lacks; begins = a.at })
  next-form k p name (inr a) lacks =
      inr (record {
        lines = a.lines;
        reads = a.stands.reads;
        rest = up-rest W a.lines k (start W a.stands.reads.ask.budget (Some f)) p a.line a.here a.stands.leads (name, a.uses, lacks);
      })

  up-form : (p : Point) → PlaysUp W (Some f) words p → NoScript p ⊎ Stopped p
  up-form p a = next-form a.k p a.name a.fetch a.lacks

  none-reads : (p : Point) (l : List Line) → NoScript p → Reads (Some f) words l → ⊥
  none-reads p l a b =
      let same : a.ask ≡ b.ask = some-same a.ask b.ask (sym a.asks ∙ b.asks) in
      lacks_ok f b.ask.script b.bytes (rw same at a.lacks) b.gives

  fault-up : (text : List ℕ) (p : Point) → Faulty (Some f) words text → NoScript p ⊎ Stopped p → ⊥
  fault-up text p a (inl b) = fault-lacks f b.ask text (fault-asked f words text b.ask b.asks a) b.lacks
  fault-up text p a (inr b) = fault-reads f words text b.lines a b.reads

  -- two sessions of one script begin at one point

  abbrev RestOf : (lines : List Line) → Reads (Some f) words lines → Point → Bool → Type 0
  RestOf lines reads p stopped = Rest W (start W reads.ask.budget (Some f)) lines p stopped

  same-rest : (l m : List Line) (a : Reads (Some f) words l) (b : Reads (Some f) words m) (p : Point) (stopped : Bool) → RestOf m b p stopped → RestOf l a p stopped
  same-rest l m a b p stopped rest =
      let asks : b.ask ≡ a.ask = one-ask f words m l b a in
      let lines : m ≡ l = one-reads f words m l b a in
      subst (λ z. Rest W (start W a.ask.budget (Some f)) z p stopped) lines
      (subst (λ (z : Asked). Rest W (start W z.budget (Some f)) m p stopped) asks rest)

  ends-same : (l m : List Line) (a : Reads (Some f) words l) (b : Reads (Some f) words m) (p q : Point) (s t : Bool) → RestOf l a p s → RestOf m b q t → (p ≡ q) × (s ≡ t)
  ends-same l m a b p q s t x y =
      one-rest W l (start W a.ask.budget (Some f)) p q s t (f, refl) x (same-rest l m a b q t y)

  out-form : (p : Point) (a : PlaysOut W (Some f) words p) → RestOf a.lines a.reads p false
  out-form p a = out-rest W a.lines (start W a.reads.ask.budget (Some f)) p a.leads

  out-out : (p q : Point) → PlaysOut W (Some f) words p → PlaysOut W (Some f) words q → p ≡ q
  out-out p q a b = (ends-same a.lines b.lines a.reads b.reads p q false false (out-form p a) (out-form q b)).0

  out-up : (p q : Point) → PlaysOut W (Some f) words p → NoScript q ⊎ Stopped q → ⊥
  out-up p q a (inl b) = none-reads q a.lines b a.reads
  out-up p q a (inr b) =
      let never : false ≡ true = (ends-same a.lines b.lines a.reads b.reads p q false true (out-form p a) b.rest).1 in
      cc

  up-up : (p q : Point) → NoScript p ⊎ Stopped p → NoScript q ⊎ Stopped q → p ≡ q
  up-up p q (inl a) (inl b) =
      let same : a.ask ≡ b.ask = some-same a.ask b.ask (sym a.asks ∙ b.asks) in
      a.begins ∙ ap (λ (z : Asked). start W z.budget (Some f)) same ∙ sym b.begins
  up-up p q (inl a) (inr b) = absurd (none-reads p b.lines a b.reads)
  up-up p q (inr a) (inl b) = absurd (none-reads q a.lines b a.reads)
  up-up p q (inr a) (inr b) = (ends-same a.lines b.lines a.reads b.reads p q true true a.rest b.rest).0

pub each-once : EachSessionOnce
each-once W f words text other after another status code (inl a) (inl b) = (one-fault f (asked words) text other a.1 b.1, a.2 ∙ sym b.2, a.0 ∙ sym b.0)
each-once W f words text other after another status code (inl a) (inr (inl b)) = absurd (fault-reads f words text b.1.lines a.1 b.1.reads)
each-once W f words text other after another status code (inl a) (inr (inr b)) = absurd (fault-up W f words text b.0 a.1 (up-form W f words b.0 b.1))
each-once W f words text other after another status code (inr (inl a)) (inl b) = absurd (fault-reads f words other a.1.lines b.1 a.1.reads)
each-once W f words text other after another status code (inr (inl a)) (inr (inl b)) =
    let same = out-out W f words a.0 b.0 a.1 b.1 in
    (a.2 ∙ ap (λ (z : Point). z.text) same ∙ sym b.2, a.3 ∙ ap (λ (z : Point). z.files) same ∙ sym b.3, a.4 ∙ ap (λ (z : Point). if z.progress.has_refused then 1 else 0) same ∙ sym b.4)
each-once W f words text other after another status code (inr (inl a)) (inr (inr b)) = absurd (out-up W f words a.0 b.0 a.1 (up-form W f words b.0 b.1))
each-once W f words text other after another status code (inr (inr a)) (inl b) = absurd (fault-up W f words other a.0 b.1 (up-form W f words a.0 a.1))
each-once W f words text other after another status code (inr (inr a)) (inr (inl b)) = absurd (out-up W f words b.0 a.0 b.1 (up-form W f words a.0 a.1))
each-once W f words text other after another status code (inr (inr a)) (inr (inr b)) =
    let same = up-up W f words a.0 b.0 (up-form W f words a.0 a.1) (up-form W f words b.0 b.1) in
    (a.2 ∙ ap (λ (z : Point). z.text) same ∙ sym b.2, a.3 ∙ ap (λ (z : Point). z.files) same ∙ sym b.3, a.4 ∙ sym b.4)
