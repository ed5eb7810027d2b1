use Rattle.std.proofs.Common.{◌≡◌, ℕ, ◌+◌, List, [], ◌++◌, take, drop, Option, Some, None, refl, sym, ap, ◌∙◌, append_assoc, append-nil, take-add, length, ◌-◌, ◌≤◌, arith, length-drop}
use Rattle.std.proofs.lemmas.List.{take_all, take-append-drop}
use Rattle.std.specs.Prelude.{Err}
use Rattle.emh_io.specs.declared.sink.PutFault.{PutFault}
use Rattle.emh_io.specs.declared.sink.PutFault.TheVariants.{Failed, NoMemory}
use Rattle.emh_io.specs.Put.{gains, PutHasCause}
use Rattle.emh_io.specs.Told.{Printed}
use Rattle.emh_io.specs.PutAll.{PutsAll}

-- two gains in a row are one
pub gains-gains : (before : Option (List ℕ)) (first second : List ℕ) → gains (gains before first) second ≡ gains before (first ++ second)
gains-gains None first second = refl
gains-gains (Some written) first second = ap Some (append_assoc written first second)

pub gains-nothing : (before : Option (List ℕ)) → gains before [] ≡ before
gains-nothing None = refl
gains-nothing (Some written) = ap Some (append-nil written)

rest-whole : (text : List ℕ) (at : ℕ) → take (length text - at) (drop at text) ≡ drop at text
rest-whole text at = take_all (length text - at) (drop at text) (simp length-drop (omega arith))

-- the next bytes of a text, of what is left of it
pub gains-more : (before old new : Option (List ℕ)) (text : List ℕ) (at count : ℕ) → old ≡ gains before (take at text) → new ≡ gains old (take count (take (length text - at) (drop at text))) → new ≡ gains before (take (at + count) text)
gains-more before old new text at count had more =
    more
    ∙ ap (λ x. gains old (take count x)) (rest-whole text at)
    ∙ ap (λ x. gains x (take count (drop at text))) had
    ∙ gains-gains before (take at text) (take count (drop at text))
    ∙ ap (gains before) (sym (take-add at count text))

pub rest-within : (text : List ℕ) (at count : ℕ) → at ≤ length text → count ≤ length (take (length text - at) (drop at text)) → at + count ≤ length text
rest-within text at count within h = let n : count ≤ length (drop at text) = rw (← rest-whole text at) h in omega (arith, length-drop at text)

-- a put that comes to nothing leaves the front of the text that was written before
pub stopped : (text : List ℕ) (at : ℕ) (x u v : Printed) (fault : PutFault)
    → u.written ≡ gains x.written (take at text) → u.faults ≡ x.faults → v.written ≡ u.written
    → PutHasCause u.faults v.faults (Err fault) → PutsAll text x v (Err fault)
stopped text at x u v Failed had quiet same cause = (
  record {
    front = take at text;
    rest = drop at text;
    parts = sym (take-append-drop at text);
    written = same ∙ had;
  },
  rw quiet at cause,
)
stopped text at x u v NoMemory had quiet same cause =
    record {
      front = take at text;
      rest = drop at text;
      parts = sym (take-append-drop at text);
      written = same ∙ had;
    }
