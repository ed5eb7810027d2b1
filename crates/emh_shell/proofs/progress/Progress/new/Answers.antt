use Rattle.flatten_rules.proofs.NoModules.{sound-no_modules}
use Rattle.emh_shell.proofs.progress.Progress.new.Goals as goal

pub invariant_of-result : goal.invariant_of-result
invariant_of-result c = record {
  library = rw c.new.ensures sound-no_modules;
  marks = tt;
  budget = c.requires.budget;
  watchers = c.requires.watchers;
}
