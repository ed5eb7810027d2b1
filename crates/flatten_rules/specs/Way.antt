-- A way down from the top of a table to an occurrence, and what its net bits lead to, told by how far up the way it is.
-- This project's own.
use Rattle.std.specs.Prelude.{ℕ, ◌≤◌, ◌==◌, Bool, false, ◌&&◌, List, reverse, take, length}
use Rattle.emh_base.specs.declared.ids.ModId.{ModId}
use Rattle.emh_base.specs.declared.ids.NetId.{NetId}
use Rattle.emh_base.specs.declared.ids.InstId.{InstId}
use Rattle.emh_base.specs.declared.plain.Plain.{Plain}
use Rattle.emh_base.specs.declared.root.Root.{Root}
use Rattle.emh_base.specs.declared.root.Root.TheVariants as root
use Rattle.flatten_rules.specs.Texts.{names_up}
use Rattle.flatten_rules.specs.declared.walk.way.WayRoot.{WayRoot}
use Rattle.flatten_rules.specs.declared.walk.way.WayRoot.TheVariants.{Tie0, Tie1, Own}

-- the instances that lead from the top of a table to an occurrence
pub record WayTo : Type 0 where
  pub plain : Plain
  pub top : ModId
  pub path : List InstId

abbrev pub with_path : WayTo → List InstId → WayTo
with_path way path = record way { path = path }

-- the names of the instances on the way
abbrev pub names_to : WayTo → List (List ℕ)
names_to way = names_up way.plain way.top (reverse way.path)

-- the root that is told: its occurrence is at the end of the first so many instances of the path
abbrev pub root_on : List InstId → WayRoot → Root
root_on path Tie0 = root.Tie0
root_on path Tie1 = root.Tie1
root_on path (Own depth net offset) = root.Own (take depth path) net offset

-- no more instances are told than the path has
abbrev pub IsOn : List InstId → WayRoot → Type 0
IsOn path Tie0 = Unit {0}
IsOn path Tie1 = Unit {0}
IsOn path (Own depth net offset) = depth ≤ length path

-- it is the net bit of that net and offset in the occurrence that so many instances lead to
abbrev pub is_at : WayRoot → ℕ → NetId → ℕ → Bool
is_at Tie0 depth net offset = false
is_at Tie1 depth net offset = false
is_at (Own above own at) depth net offset = above == depth && own.0 == net.0 && at == offset
