use Rattle.flatten_rules.proofs.LimitTests.{within_tests}
use Rattle.flatten_rules.proofs.Summing.{total-unfolded}
use Rattle.flatten_rules.proofs.laws.each_limit_is_tested.Goals as goal

pub returns-clause-tests : goal.returns-clause-tests
returns-clause-tests c = within_tests

pub returns-clause-counts : goal.returns-clause-counts
returns-clause-counts c = total-unfolded
