use Rattle.reports.proofs.Kept.{kept_more, kept_text, on_err}
use Rattle.reports.proofs.block.push_inst.Goals as goal

pub returns-in_err-push_placement-clause-err : goal.returns-in_err-push_placement-clause-err
returns-in_err-push_placement-clause-err c =
    let first = kept_text _ _ _ c.in_ok-extend.ensures.ok in
    let second = kept_text _ _ _ c.in_ok-push_path.ensures.ok in
    let third = kept_text _ _ _ c.in_ok-push.ensures.ok in
    let fourth = kept_text _ _ _ c.in_ok-push_spelled.ensures.ok in
    on_err _ (kept_more _ _ _ first (kept_more _ _ _ second (kept_more _ _ _ third (kept_more _ _ _ fourth c.in_err-push_placement.ensures.err))))
