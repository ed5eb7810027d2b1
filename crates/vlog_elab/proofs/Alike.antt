-- Ports that are compared place by place.
use Rattle.std.proofs.Common.{arith, ◌≡◌, ◌≢◌, ℕ, suc, ◌+◌, ◌<◌, [], ◌∷◌, None, Some, Bool, true, false, List, drop, length, get_or, slice_get, refl, ap}
use Rattle.std.specs.Prelude.{◌&&◌}
use Rattle.std.proofs.lemmas.List.{drop_more, drop_all}
use Rattle.std.proofs.lemmas.Option.{slice_get-get_or}
use Rattle.emh_base.specs.declared.plain.Dir.TheVariants.{Input}
use Rattle.vlog_elab.specs.declared.interface.Port.{Port}
use Rattle.vlog_elab.specs.Named.{Named}
use Rattle.vlog_elab.specs.Interfaces.{same_port, same_ports}

same_port-and : (b : Bool) → b && false ≡ false
same_port-and true = refl
same_port-and false = refl

pub lengths_differ : (ps qs : Named Port) → length ps ≢ length qs → same_ports ps qs ≡ false
lengths_differ [] [] h = absurd (h refl)
lengths_differ [] (q ∷ qs) h = refl
lengths_differ (p ∷ ps) [] h = refl
lengths_differ (p ∷ ps) (q ∷ qs) h =
    let tails : length ps ≢ length qs = λ e. h (ap suc e) in
    rw (lengths_differ ps qs tails) (same_port-and (same_port p q))

none_such : List ℕ × Port
none_such = ([], record { dir = Input; range = None })

-- what the places from one on say, by that place and the places after it
pub at_place : (ps qs : Named Port) (i : ℕ) (b : Bool) → i < length ps → i < length qs
    → ((p q : List ℕ × Port) → slice_get ps i ≡ Some p → slice_get qs i ≡ Some q → b ≡ same_port p q)
    → same_ports (drop i ps) (drop i qs) ≡ b && same_ports (drop (i + 1) ps) (drop (i + 1) qs)
at_place ps qs i b in_ps in_qs says =
    let e : b ≡ same_port (get_or ps i none_such) (get_or qs i none_such)
    = says (get_or ps i none_such) (get_or qs i none_such) (slice_get-get_or ps i none_such in_ps) (slice_get-get_or qs i none_such in_qs) in
    rw (drop_more ps i none_such in_ps, drop_more qs i none_such in_qs, e) refl

-- nothing is left past the end
pub at_end : (ps qs : Named Port) (i : ℕ) → i ≡ length ps → i ≡ length qs → same_ports (drop i ps) (drop i qs) ≡ true
at_end ps qs i e f = rw (drop_all i ps (omega arith), drop_all i qs (omega arith)) refl
