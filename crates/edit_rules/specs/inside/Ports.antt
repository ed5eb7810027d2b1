-- How ports are compared one by one, by what is read of them.
use Rattle.std.specs.Prelude.{ℕ, ◌==◌, Bool, false, ◌&&◌, List, [], ◌∷◌, Option, Some, None, option_and_then, slice_get}
use Rattle.emh_base.specs.declared.ids.ModId.{ModId}
use Rattle.emh_base.specs.declared.plain.PPort.{PPort}
use Rattle.emh_base.specs.declared.plain.PModule.{PModule}
use Rattle.emh_base.specs.declared.plain.Plain.{Plain}
use Rattle.flatten_rules.specs.Lookup.{net_of, width_of}
use Rattle.flatten_rules.specs.Domains.{ports_of}
use Rattle.edit_rules.specs.Readers.{net_in, same_dir, same_net, goes_through}

-- two ports, each of a module, are there and alike
abbrev pub are_alike : Option PModule → Option PModule → Option PPort → Option PPort → Bool
are_alike m other (Some p) (Some q) =
    same_dir p.dir q.dir
    && same_net (option_and_then (λ a. net_of a p.net) m)
    (option_and_then (λ b. net_of b q.net) other)
are_alike m other _ _ = false

-- those of two modules at a place
abbrev pub are_alike_at : Option PModule → Option PModule → ℕ → Bool
are_alike_at m other place =
    are_alike m other (slice_get (ports_of m) place) (slice_get (ports_of other) place)

-- two ports, where there are no more and no fewer
abbrev pub pair_of : List PPort → Option (PPort × PPort)
pair_of [] = None
pair_of (a ∷ []) = None
pair_of (a ∷ b ∷ []) = Some (a, b)
pair_of (a ∷ b ∷ c ∷ more) = None

-- an input and an output of a module, of one bit each
abbrev pub is_through : Plain → ModId → PPort → PPort → Bool
is_through M m a b =
    goes_through a.dir b.dir
    && ((width_of (net_in M m a.net) == 1) && (width_of (net_in M m b.net) == 1))
