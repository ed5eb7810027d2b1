-- Where a script stands between two lines.
use Rattle.std.specs.Prelude.{ℕ, Bool, true, false, List, [], Option, Some, None, replicate}
use Rattle.emh_base.specs.declared.plain.Plain.{Plain}
use Rattle.emh_base.specs.declared.state.State.{State}
use Rattle.flatten_rules.specs.Lookup.{no_modules}
use Rattle.session_rules.specs.Session.{PlainSession}

-- The modules over which netlists are read, the session of the open design, and whether a line was refused so far. And
-- what sessions are begun with: how many changes observers may add to a command, and how many observers there are.
pub record Progress : Type 0 where
  pub library : Plain
  pub session : Option PlainSession
  pub has_refused : Bool
  pub budget : ℕ
  pub watchers : ℕ

-- before the first line there are no modules, and no design is open
abbrev pub at_first : ℕ → ℕ → Progress
at_first budget watchers = record {
  library = no_modules;
  session = None;
  has_refused = false;
  budget = budget;
  watchers = watchers;
}

-- a refused line changes nothing else
abbrev pub refusing : Progress → Progress
refusing s = record s { has_refused = true }

-- the session goes on
abbrev pub going_on : Progress → PlainSession → Progress
going_on s session = record s { session = Some session }

-- a session on which nothing was done yet, with no observer enabled
abbrev pub begun : Progress → State → PlainSession
begun s design = record {
  past = [];
  now = design;
  future = [];
  enabled = replicate s.watchers false;
  budget = s.budget;
}

-- a design is open, in place of the one that was
abbrev pub opening : Progress → State → Progress
opening s design = going_on s (begun s design)
