use Rattle.std.proofs.Common.{Some, refl, sym, ap, map, string_bytes}
use Rattle.emh_io.specs.Held.{files_of}
use Rattle.cases.proofs.Truth.{plays, true_of}
use Rattle.cases.proofs.trying.try_case.Goals as goal

pub returns : goal.returns
returns g c =
    rw c.with_files.ensures
    (true_of c.each_session_once.ensures _ (map string_bytes c.args.words.now) (files_of c.args.files) c.run-status.new.shelf.files c.bytes.result.now c.args.wanted.now.text.now c.run-status.result c.args.wanted.now.status c.args.wanted.now.files
    (λ few. plays _ (map string_bytes c.args.words.now) _ _ _ _ c.run-status.result (files_of c.args.files) c.run-status.new.shelf.files c.bytes.result.now
    (ap Some c.new-shelf.ensures.files) refl (ap Some c.new-out.ensures.empty) (ap Some (sym c.bytes.ensures)) (c.run-status.ensures.played few))
    c.compare-verdict.result c.are_held.result (rw c.as_slice.ensures at c.are_held.ensures) c.compare-verdict.ensures)
