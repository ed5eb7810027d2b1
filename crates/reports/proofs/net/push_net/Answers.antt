use Rattle.std.proofs.Common.{◌≡◌, ℕ, List, ◌++◌, ap, ◌∙◌}
use Rattle.std.specs.List.{flat_map}
use Rattle.std.proofs.lemmas.Result.{on_ok_weaker, on_err_weaker}
use Rattle.emh_base.specs.declared.ids.ModId.{ModId}
use Rattle.emh_base.specs.declared.plain.Plain.{Plain}
use Rattle.emh_base.specs.declared.root.Root.{Root}
use Rattle.flatten_rules.specs.Way.{root_on}
use Rattle.reports.specs.Net.{root_line, member_line, joined_line, members, pins_led_to}
use Rattle.reports.proofs.Kept.{behind, kept_on}
use Rattle.reports.proofs.net.push_net.Goals as goal

abbrev member_lines : Plain → ModId → Root → List ℕ
member_lines M top root = flat_map (member_line M top) (members M top root)

abbrev joined_lines : Plain → ModId → Root → List ℕ
joined_lines M top root = flat_map (joined_line M top) (pins_led_to M top root)

pub returns-clause-ok : goal.returns-clause-ok
returns-clause-ok c =
    let M = c.args.way.now.plain in
    let top = c.args.way.now.top in
    let root : Root = root_on c.args.way.now.path c.args.told in
    let P = c.plain-plain.result.now in
    let first : List ℕ = root_line M top root in
    let same : (lines : Plain → ModId → Root → List ℕ) → lines P c.top-top.result c.in_ok-root.root ≡ lines M top root =
    λ lines. ap (λ (p : Plain). lines p c.top-top.result c.in_ok-root.root) c.plain-plain.ensures.table ∙ ap (λ (t : ModId). lines M t c.in_ok-root.root) c.top-top.ensures ∙ ap (λ (r : Root). lines M top r) c.in_ok-root.ensures in
    let second = c.in_ok-push_members.ensures.ok ∙ ap (λ t. c.push_root_line.new.out ++ t) (same member_lines) in
    on_ok_weaker c.push_joined.result (λ last. behind c.args.out.now c.push_root_line.new.out c.push_joined.new.out first (member_lines M top root ++ joined_lines M top root) c.in_ok-push_root_line.ensures.ok (behind c.push_root_line.new.out c.push_members.new.out c.push_joined.new.out (member_lines M top root) (joined_lines M top root) second (last ∙ ap (λ t. c.push_members.new.out ++ t) (same joined_lines)))) c.push_joined.ensures.ok

pub returns-clause-err : goal.returns-clause-err
returns-clause-err c =
    on_err_weaker c.push_joined.result (λ kept. kept_on _ _ _ _ c.in_ok-push_root_line.ensures.ok (kept_on _ _ _ _ c.in_ok-push_members.ensures.ok kept)) c.push_joined.ensures.err
