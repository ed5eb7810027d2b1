use Rattle.std.proofs.Common.{◌≡◌, Some, refl, ap}
use Rattle.word_table.specs.Texts.{texts}
use Rattle.word_table.proofs.Rows.{found, missing, one_row, contained, row_of_contained}
use Rattle.word_table.proofs.table.Words.find.Goals as goal

pub returns-in-Ok-clause-row : goal.returns-in-Ok-clause-row
returns-in-Ok-clause-row g c =
    let rows = texts c.self.inside.words.now in
    let here = found c.self.inside.words.now c.in-Ok.row c.args.word.now c.in-Ok.ensures.bound c.in-Ok.ensures.ok in
    rw (← c.self.view_is)
    (λ i. (
      λ same. let one : c.in-Ok.row ≡ i = cc in rw (← one) here,
      λ there. ap Some (one_row rows c.in-Ok.row i c.args.word.now c.self.invariant.rises here there),
    ))

pub returns-in-Ok-clause-none : goal.returns-in-Ok-clause-none
returns-in-Ok-clause-none g c =
    let here = found c.self.inside.words.now c.in-Ok.row c.args.word.now c.in-Ok.ensures.bound c.in-Ok.ensures.ok in
    rw (← c.self.view_is) (λ is_none. cc, λ absent. absurd (absent (contained _ _ _ here)))

pub returns-in-Err-clause-row : goal.returns-in-Err-clause-row
returns-in-Err-clause-row g c =
    let words = c.self.inside.words.now in
    let none = missing words c.args.word.now c.in-Err.field-0 c.self.invariant.rises c.in-Err.ensures.position in
    rw (← c.self.view_is) (λ i. (λ same. cc, λ here. absurd (none i here)))

pub returns-in-Err-clause-none : goal.returns-in-Err-clause-none
returns-in-Err-clause-none g c =
    let words = c.self.inside.words.now in
    let none = missing words c.args.word.now c.in-Err.field-0 c.self.invariant.rises c.in-Err.ensures.position in
    rw (← c.self.view_is)
    (λ is_none contains. let (row, here) = row_of_contained _ _ contains in none row here, λ absent. refl)
