use Rattle.std.proofs.Common.{◌+◌, ◌*◌}
use Rattle.flatten_rules.proofs.walk.way.Way.+root.Given as goal

-- The occurrence stands higher up with each source that is a net's bit.
abbrev pub decreases-root_at : goal.decreases-root_at
decreases-root_at l = 2 * l.depth

abbrev pub decreases-root_of_source : goal.decreases-root_of_source
decreases-root_of_source l = 2 * l.depth + 1
