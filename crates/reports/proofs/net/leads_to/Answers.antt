use Rattle.flatten_rules.specs.Way.{root_on}
use Rattle.reports.proofs.Roots.{tells-same}
use Rattle.reports.proofs.net.leads_to.Goals as goal

pub returns-in-Some : goal.returns-in-Some
returns-in-Some c =
    rw c.in-Some.is (tells-same c.is_root.result (root_on c.args.way.now.path c.in-Some.told) c.args.root.now c.is_root.ensures)
