use Rattle.std.proofs.Common.{◌≡◌, Some, None, bytes_eq, position}
use Rattle.emh_base.proofs.PoolLemmas.{any_found, any_absent, place_absent}
use Rattle.emh_base.proofs.pool.Pool.number.Goals as goal

pub returns-in-Some-clause-names : goal.returns-in-Some-clause-names
returns-in-Some-clause-names c =
    let found : position (bytes_eq c.args.name) c.args.self.now ≡ Some c.in-Some.number = cc in
    rw (any_found (bytes_eq c.args.name) c.args.self.now c.in-Some.number found)

pub returns-in-None-clause-number : goal.returns-in-None-clause-number
returns-in-None-clause-number c =
    let none : position (bytes_eq c.args.name) c.args.self.now ≡ None = cc in
    rw (place_absent (bytes_eq c.args.name) c.args.self.now none) c.add.ensures.number

pub returns-in-None-clause-names : goal.returns-in-None-clause-names
returns-in-None-clause-names c =
    let none : position (bytes_eq c.args.name) c.args.self.now ≡ None = cc in
    rw (any_absent (bytes_eq c.args.name) c.args.self.now none) c.add.ensures.names
