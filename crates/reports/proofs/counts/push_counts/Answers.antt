use Rattle.std.proofs.Common.{ℕ, List, ◌++◌, codes}
use Rattle.std.proofs.lemmas.Result.{on_ok_weaker, on_err_weaker}
use Rattle.reports.specs.Counts.{count_line}
use Rattle.reports.proofs.Kept.{behind, kept_on}
use Rattle.reports.proofs.counts.push_counts.Goals as goal

pub returns-clause-ok : goal.returns-clause-ok
returns-clause-ok c =
    let line1 : List ℕ = count_line (codes "modules") c.len.result in
    let line2 : List ℕ = count_line (codes "occurrences") c.in_ok-occurrences.occurrences in
    let line3 : List ℕ = count_line (codes "leaves") c.in_ok-occurrences.leaves in
    let line4 : List ℕ = count_line (codes "bits") c.in_ok-bits.bits in
    let line5 : List ℕ = count_line (codes "nets") c.in_ok-bits.nets in
    let line6 : List ℕ = count_line (codes "pins") c.in_ok-pins.pins in
    let line7 : List ℕ = count_line (codes "placed") c.len-2.result in
    let from7 : List ℕ = line7 in
    let from6 : List ℕ = line6 ++ from7 in
    let from5 : List ℕ = line5 ++ from6 in
    let from4 : List ℕ = line4 ++ from5 in
    let from3 : List ℕ = line3 ++ from4 in
    let from2 : List ℕ = line2 ++ from3 in
    rw (← c.in_ok-occurrences.ensures.all, ← c.in_ok-occurrences.ensures.leaves, ← c.in_ok-bits.ensures.all, ← c.in_ok-bits.ensures.own, ← c.in_ok-pins.ensures, ← c.len.ensures, ← c.len-2.ensures)
    (on_ok_weaker c.push_count-7.result (λ last. behind c.args.out.now c.push_count.new.out c.push_count-7.new.out line1 from2 c.in_ok-push_count.ensures.ok (behind c.push_count.new.out c.push_count-2.new.out c.push_count-7.new.out line2 from3 c.in_ok-push_count-2.ensures.ok (behind c.push_count-2.new.out c.push_count-3.new.out c.push_count-7.new.out line3 from4 c.in_ok-push_count-3.ensures.ok (behind c.push_count-3.new.out c.push_count-4.new.out c.push_count-7.new.out line4 from5 c.in_ok-push_count-4.ensures.ok (behind c.push_count-4.new.out c.push_count-5.new.out c.push_count-7.new.out line5 from6 c.in_ok-push_count-5.ensures.ok (behind c.push_count-5.new.out c.push_count-6.new.out c.push_count-7.new.out line6 from7 c.in_ok-push_count-6.ensures.ok (last))))))) c.push_count-7.ensures.ok)

pub returns-clause-err : goal.returns-clause-err
returns-clause-err c =
    on_err_weaker c.push_count-7.result (λ kept. kept_on _ _ _ _ c.in_ok-push_count.ensures.ok (kept_on _ _ _ _ c.in_ok-push_count-2.ensures.ok (kept_on _ _ _ _ c.in_ok-push_count-3.ensures.ok (kept_on _ _ _ _ c.in_ok-push_count-4.ensures.ok (kept_on _ _ _ _ c.in_ok-push_count-5.ensures.ok (kept_on _ _ _ _ c.in_ok-push_count-6.ensures.ok (kept))))))) c.push_count-7.ensures.err
