use Rattle.std.proofs.Common.{◌≡◌, ◌∷◌, rules}
use Rattle.script_read.proofs.Joined.{path_steps}
use Rattle.script_read.proofs.put.put_path.Goals as goal

pub returns-in-Some : goal.returns-in-Some
returns-in-Some c =
    let first = c.in-Some.first.now in
    let others = c.in-Some.others.now in
    let cut : c.args.path.now ≡ first ∷ others = search rules in
    rw (cut, path_steps first others) c.put_steps.ensures
