use Rattle.std.proofs.Common.{◌≡◌, ℕ, List, [], ◌∷◌, length, map, get_or, Option, Some, None, inl, inr, refl, sym, ap, subst, ◌∙◌, Bool, true, false, cond, arith, lit<, Ok, Err, IfSome, IfNone}
use Rattle.std.specs.Prelude.{Result, nat_lt, ◌≤◌}
use Rattle.std.proofs.lemmas.Bool.{ltb-false}
use Rattle.emh_io.specs.Files.{Files, held}
use Rattle.emh_io.specs.Fetch.{within_limit, fetched, IsAnswer, IsUntoldAnswer}
use Rattle.emh_base.specs.declared.file.TheConstants.{FILE_LIMIT}
use Rattle.emh_io.specs.declared.shelf.FetchFault.TheVariants.{Missing, TooLong}
use Rattle.emh_shell.specs.declared.fault.Halt.{Halt}
use Rattle.emh_shell.specs.declared.fault.Halt.TheVariants.{Fetch, Store, Put, NoMemory}
use Rattle.emh_shell.specs.Printing.{usage_line}
use Rattle.emh_shell.specs.Answers.{Watched}
use Rattle.command_line.specs.CommandLine.{asked}
use Rattle.command_line.specs.declared.words.Asked.{Asked}
use Rattle.emh_shell.specs.Fetching.{Gives, Lacks}
use Rattle.emh_shell.specs.Play.{start, FaultyAsk, Faulty}
use Rattle.emh_io.specs.PutAll.{Front, PutsAll}
use Rattle.emh_io.specs.declared.sink.PutFault.{PutFault}
use Rattle.emh_io.specs.declared.sink.PutFault.TheVariants as put_fault
use Rattle.emh_shell.specs.inside.Halts.{halt_of_put}
use Rattle.emh_io.specs.Told.{Shelved, Printed}
use Rattle.emh_shell.specs.Run.{QuietShelf, Unfetched, WholeAtFetch, Cut}
use Rattle.emh_shell.specs.inside.Ends.{Ends, FaultEnds}
use Rattle.emh_io.proofs.GainsLemmas.{gains-nothing}

-- what a shelf that tells its files, or not, gives of them
pub Gives-fetched : (holds : Option Files) (name bytes : List ℕ) → IfSome holds (λ files. IsAnswer (fetched files name) (Ok bytes)) → Gives holds name (Ok bytes)
Gives-fetched None name bytes told = tt
Gives-fetched (Some files) name bytes told = told

pub Gives-long : (holds : Option Files) (name : List ℕ) → IfSome holds (λ files. IsAnswer (fetched files name) (Err TooLong)) → Gives holds name (Err TooLong)
Gives-long None name told = tt
Gives-long (Some files) name told = told

missing-limit : (long : Bool) (bytes : List ℕ) → cond long (Err TooLong) (Ok bytes) ≡ Err Missing → ⊥
missing-limit true bytes e = let never : TooLong ≡ Missing = cc in cc
missing-limit false bytes e = let never : Ok bytes ≡ Err Missing = e in cc

missing-none : (content : Option (List ℕ)) → within_limit content ≡ Err Missing → content ≡ None
missing-none None e = refl
missing-none (Some bytes) e = absurd (missing-limit (nat_lt FILE_LIMIT (length bytes)) bytes e)

-- only a shelf that tells its files says that one is missing
pub Lacks-missing : (holds : Option Files) (name : List ℕ) (before now : ℕ) → IfSome holds (λ files. IsAnswer (fetched files name) (Err Missing)) → IfNone holds (IsUntoldAnswer before now (Err Missing)) → Lacks holds name
Lacks-missing None name before now told untold = absurd untold
Lacks-missing (Some files) name before now told untold = missing-none (held files name) told

-- memory is wanting before anything is printed
pub Cut-nothing : (W : Watched) (words : List (List ℕ)) (a b : Shelved) (x : Printed) → b.holds ≡ a.holds → Cut W words a b x x
Cut-nothing W words a b x kept = record {
  k = 0;
  front = [];
  rest = [];
  after = inl (refl, inl refl, kept);
  text = sym (gains-nothing x.written);
}

-- the script can't be fetched
pub Whole-script : (W : Watched) (words : List (List ℕ)) (ask : Asked) (a b : Shelved) (x : Printed) → asked words ≡ Some ask → b.holds ≡ a.holds → Unfetched a.holds a b ask.script → WholeAtFetch W words a b x x
Whole-script W words ask a b x asks kept cause = record {
  k = 0;
  at = start W ask.budget a.holds;
  name = ask.script;
  next = inl (record { ask = ask; asks = asks; named = refl; first = refl; at = refl });
  cause = cause;
  files = kept;
  text = sym (gains-nothing x.written);
}

Cut-fault : (W : Watched) (words : List (List ℕ)) (a b : Shelved) (x y : Printed) (text : List ℕ) → Faulty a.holds words text → b.holds ≡ a.holds → Front text x y → Cut W words a b x y
Cut-fault W words a b x y text faulty kept f = record {
  k = 0;
  front = f.front;
  rest = f.rest;
  after = inl (refl, inr (subst (λ z. Faulty a.holds words z) f.parts faulty), kept);
  text = f.written;
}

-- nothing is run
pub Ends-fault : (W : Watched) (words : List (List ℕ)) (a b : Shelved) (x y : Printed) (text : List ℕ) (result : Result ℕ Halt) → Faulty a.holds words text → b.holds ≡ a.holds → QuietShelf a b → FaultEnds text x y result → Ends W words a b x y result
Ends-fault W words a b x y text (Ok status) faulty kept quiet ends = (
  rw ends.0 (lit< tt),
  record { text = text; plays = inl (ends.0, faulty, kept); written = ends.1 },
  quiet,
  ends.2,
)
Ends-fault W words a b x y text (Err Fetch) faulty kept quiet ends = absurd ends
Ends-fault W words a b x y text (Err Store) faulty kept quiet ends = absurd ends
Ends-fault W words a b x y text (Err Put) faulty kept quiet ends = (Cut-fault W words a b x y text faulty kept ends.0, ends.1)
Ends-fault W words a b x y text (Err NoMemory) faulty kept quiet ends = Cut-fault W words a b x y text faulty kept ends

-- nothing is asked, or a script

pub Faulty-words : (files : Option Files) (words : List (List ℕ)) → asked words ≡ None → Faulty files words usage_line
Faulty-words files words none = rw none refl

pub Faulty-ask : (files : Option Files) (words : List (List ℕ)) (ask : Asked) (text : List ℕ) → asked words ≡ Some ask → FaultyAsk files (Some ask) text → Faulty files words text
Faulty-ask files words ask text asks faulty = rw asks faulty

Cut-after : (W : Watched) (words : List (List ℕ)) (a m b : Shelved) (x y : Printed) → m.holds ≡ a.holds → Cut W words m b x y → Cut W words a b x y
Cut-after W words a m b x y kept c = record { k = c.k; front = c.front; rest = c.rest; after = rw kept at c.after; text = c.text }

-- a call before a run left all that a run begins with
pub Ends-after : (W : Watched) (words : List (List ℕ)) (a m b : Shelved) (x y : Printed) (result : Result ℕ Halt) → m.holds ≡ a.holds → QuietShelf a m → Ends W words m b x y result → Ends W words a b x y result
Ends-after W words a m b x y (Ok status) kept quiet ends = (
  ends.0,
  record { text = ends.1.text; plays = rw kept at ends.1.plays; written = ends.1.written },
  (ends.2.0 ∙ quiet.0, ends.2.1 ∙ quiet.1),
  ends.3,
)
Ends-after W words a m b x y (Err Fetch) kept quiet ends = record {
  k = ends.k;
  at = ends.at;
  name = ends.name;
  next = rw kept at ends.next;
  cause = rw quiet.0 at ends.cause;
  files = ends.files;
  text = ends.text;
}
Ends-after W words a m b x y (Err Store) kept quiet ends = record {
  k = ends.k;
  at = ends.at;
  name = ends.name;
  next = rw kept at ends.next;
  cause = rw quiet.1 at ends.cause;
  text = ends.text;
}
Ends-after W words a m b x y (Err Put) kept quiet ends = (Cut-after W words a m b x y kept ends.0, ends.1)
Ends-after W words a m b x y (Err NoMemory) kept quiet ends = Cut-after W words a m b x y kept ends

-- a text that says why nothing is run isn't written whole
pub Fault-put : (text : List ℕ) (x y : Printed) (fault : PutFault) → PutsAll text x y (Err fault) → FaultEnds text x y (Err (halt_of_put fault))
Fault-put text x y put_fault.Failed put = put
Fault-put text x y put_fault.NoMemory put = put

short-limit : (long : Bool) (bytes wanted : List ℕ) → long ≡ nat_lt FILE_LIMIT (length bytes) → cond long (Err TooLong) (Ok bytes) ≡ Ok wanted → length wanted ≤ FILE_LIMIT
short-limit true bytes wanted is e = let never : Err TooLong ≡ Ok wanted = e in absurd (cc)
short-limit false bytes wanted is e =
    let same : bytes ≡ wanted = cc in
    rw (← same) (ltb-false FILE_LIMIT (length bytes) (sym is))

short-held : (content : Option (List ℕ)) (wanted : List ℕ) → within_limit content ≡ Ok wanted → length wanted ≤ FILE_LIMIT
short-held None wanted e = let never : Err Missing ≡ Ok wanted = e in absurd (cc)
short-held (Some bytes) wanted e = short-limit (nat_lt FILE_LIMIT (length bytes)) bytes wanted refl e

-- a file that is fetched isn't past the limit, whether the shelf tells its files or not
pub short-from_fetch : (holds : Option Files) (name bytes : List ℕ) (taken_before taken_now : ℕ) → IfSome holds (λ files. IsAnswer (fetched files name) (Ok bytes)) → IfNone holds (IsUntoldAnswer taken_before taken_now (Ok bytes)) → length bytes ≤ FILE_LIMIT
short-from_fetch None name bytes taken_before taken_now told untold = untold
short-from_fetch (Some files) name bytes taken_before taken_now told untold = short-held (held files name) bytes told
