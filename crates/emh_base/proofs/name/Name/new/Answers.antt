use Rattle.std.proofs.Common.{arith, rules}
use Rattle.emh_base.proofs.NameLemmas.{IsName-from_tests}
use Rattle.emh_base.proofs.name.Name.new.Goals as goal

pub new-requires : goal.new-requires
new-requires c = IsName-from_tests c.args.bytes.now (search rules) (omega arith) c.in-None.ensures
