use Rattle.reports.proofs.Kept.{kept_more, kept_text, on_err}
use Rattle.reports.proofs.pins.push_pin_line.Goals as goal

pub returns-in_err-push_pin_root-clause-err : goal.returns-in_err-push_pin_root-clause-err
returns-in_err-push_pin_root-clause-err c =
    let first = kept_text _ _ _ c.in_ok-push_pin.ensures.ok in
    let second = kept_text _ _ _ c.in_ok-push.ensures.ok in
    on_err _ (kept_more _ _ _ first (kept_more _ _ _ second c.in_err-push_pin_root.ensures.err))
