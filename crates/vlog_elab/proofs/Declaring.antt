-- The first round in a module: its walks are the checks of the definition.
use Rattle.std.proofs.Common.{◌≡◌, ℕ, [], ◌∷◌, ◌++◌, None, Bool, List, map, refl, sym, ◌∙◌, ap, append_assoc, Result, Ok, Err, MatchResult, OnOk}
use Rattle.std.specs.List.{flat_map}
use Rattle.std.proofs.lemmas.List.{append-nil, map-append}
use Rattle.std.specs.Option.{option_or}
use Rattle.vlog_read.specs.declared.tree.At.{At}
use Rattle.vlog_read.specs.declared.tree.TModule.{TModule}
use Rattle.vlog_elab.specs.declared.interface.Port.{Port}
use Rattle.vlog_elab.specs.declared.interface.Known.{Known}
use Rattle.vlog_elab.specs.declared.said.Said.{Said}
use Rattle.vlog_elab.specs.declared.fault.ElabFault.{ElabFault}
use Rattle.flatten_rules.specs.Check.{first_broken, each_after}
use Rattle.flatten_rules.proofs.FirstBroken.{first_broken-append}
use Rattle.vlog_elab.specs.Check.{Check}
use Rattle.vlog_elab.specs.Named.{Named, just_names}
use Rattle.vlog_elab.specs.Text.{is_leaf, header_names}
use Rattle.vlog_elab.specs.Interfaces.{Place, places, direction_at, wire_at, said, port_of, ports}
use Rattle.vlog_elab.specs.Declarations.{header_checks, place_checks, direction_check, inside_checks, name_check, entry_checks, module_checks}
use Rattle.vlog_elab.specs.inside.Walk.{first_fault, at_end, Found, Passed, Fails, Gives, Walks, Checks}
use Rattle.vlog_elab.specs.inside.Walks.{header_walk, place_walk, port_walk, after_place, module_walk, with_module}
use Rattle.vlog_elab.proofs.Walking.{flat_map-push, or-assoc, or-none, walked, known-at_end, found-or, found-after, found-along}

names-more : (before : List At) (n : At) → just_names (before ++ n ∷ []) ≡ header_walk.after (just_names before) n
names-more before n = map-append (λ (n : At). let e : List ℕ × Unit {0} = (n.name, tt) in e) before (n ∷ [])

said-more : (leaf : Bool) (header : Named (Unit {0})) (before : List Place) (p : Place) → said (before ++ p ∷ []) ≡ after_place (said before) p
said-more leaf header before p =
    ap (λ ds. record { directions = ds; wires = flat_map wire_at (before ++ p ∷ []) }) (flat_map-push direction_at before p)
    ∙ ap (λ ws. record { directions = flat_map direction_at before ++ direction_at p; wires = ws }) (flat_map-push wire_at before p)

-- the checks of the header, by its walk
pub header_checks-walk : (ns : List At) → first_broken (each_after (λ before n. header_checks (just_names before) n) [] ns) ≡ first_fault header_walk [] ns
header_checks-walk ns = walked header_walk just_names names-more [] ns

pub just_names-walk : (ns : List At) → just_names ns ≡ at_end header_walk [] ns
just_names-walk ns = known-at_end header_walk just_names names-more [] ns

-- the checks of declarations, by their walk
pub place_checks-walk : (leaf : Bool) (header : Named (Unit {0})) (ps : List Place)
    → first_broken (each_after (λ before p. place_checks leaf header (said before) p) [] ps) ≡ first_fault (place_walk leaf header) (said []) ps
place_checks-walk leaf header ps = walked (place_walk leaf header) said (said-more leaf header) [] ps

pub said-walk : (leaf : Bool) (header : Named (Unit {0})) (ps : List Place) → said ps ≡ at_end (place_walk leaf header) (said []) ps
said-walk leaf header ps = known-at_end (place_walk leaf header) said (said-more leaf header) [] ps

-- the checks of directions, by the walk over the ports
pub direction_checks-walk : (dirs : Named Port) (s : Named Port) (ns : List At) → first_broken (map (direction_check dirs) ns) ≡ first_fault (port_walk dirs) s ns
direction_checks-walk dirs s [] = refl
direction_checks-walk dirs s (n ∷ ns) =
    first_broken-append (direction_check dirs n ∷ []) (map (direction_check dirs) ns)
    ∙ ap (option_or (first_broken (direction_check dirs n ∷ []))) (direction_checks-walk dirs (s ++ port_of dirs n ∷ []) ns)

pub ports-walk : (dirs : Named Port) (s : Named Port) (ns : List At) → at_end (port_walk dirs) s ns ≡ s ++ map (port_of dirs) ns
ports-walk dirs s [] = sym (append-nil s)
ports-walk dirs s (n ∷ ns) = ports-walk dirs (s ++ port_of dirs n ∷ []) ns ∙ append_assoc s (port_of dirs n ∷ []) (map (port_of dirs) ns)

-- the checks of a header and its declarations, by the three walks
pub inside-walks : (leaf : Bool) (m : TModule) → first_broken (inside_checks leaf m)
    ≡ option_or (first_fault header_walk [] (header_names m.header))
    (option_or (first_fault (place_walk leaf (just_names (header_names m.header))) (said []) (places m))
    (first_fault (port_walk (said (places m)).directions) [] (header_names m.header)))
inside-walks leaf m =
    let ns = header_names m.header in
    let ks : List Check = each_after (λ before n. header_checks (just_names before) n) [] ns in
    let bs : List Check = each_after (λ before p. place_checks leaf (just_names ns) (said before) p) [] (places m) in
    let cs : List Check = map (direction_check (said (places m)).directions) ns in
    first_broken-append (ks ++ bs) cs
    ∙ ap (λ o. option_or o (first_broken cs)) (first_broken-append ks bs)
    ∙ or-assoc (first_broken ks) (first_broken bs) (first_broken cs)
    ∙ (rw (header_checks-walk ns, place_checks-walk leaf (just_names ns) (places m), direction_checks-walk (said (places m)).directions [] ns) refl)

-- what the three walks give together

pub names-fail : (leaf : Bool) (m : TModule) (e : ElabFault) → Fails header_walk [] (header_names m.header) e → Found (first_broken (inside_checks leaf m)) e
names-fail leaf m e q =
    found-along _ _ e (inside-walks leaf m) (found-or _ _ e q.found)

pub places-fail : (leaf : Bool) (m : TModule) (names : Named (Unit {0})) (e : ElabFault) → Passed header_walk [] (header_names m.header) names
    → Fails (place_walk leaf names) (said []) (places m) e → Found (first_broken (inside_checks leaf m)) e
places-fail leaf m names e p q =
    let same : names ≡ just_names (header_names m.header) = p.end ∙ sym (just_names-walk (header_names m.header)) in
    let f : Found (first_fault (place_walk leaf (just_names (header_names m.header))) (said []) (places m)) e = rw (← same) q.found in
    found-along _ _ e (inside-walks leaf m) (found-after _ _ e p.none (found-or _ _ e f))

pub ports-give : (leaf : Bool) (m : TModule) (names : Named (Unit {0})) (before : Said) (r : Result (Named Port) ElabFault)
    → Passed header_walk [] (header_names m.header) names → Passed (place_walk leaf names) (said []) (places m) before
    → Gives (port_walk before.directions) [] (header_names m.header) r
    → MatchResult r (λ made. (first_broken (inside_checks leaf m) ≡ None) × (made ≡ ports m)) (Found (first_broken (inside_checks leaf m)))
ports-give leaf m names before r p q g = by_cases r g
  where
    same : names ≡ just_names (header_names m.header)
    same = p.end ∙ sym (just_names-walk (header_names m.header))

    said_all : before ≡ said (places m)
    said_all = q.end ∙ sym (said-walk leaf names (places m))

    none : first_fault (place_walk leaf (just_names (header_names m.header))) (said []) (places m) ≡ None
    none = rw (← same) q.none

    dirs : before.directions ≡ (said (places m)).directions
    dirs = ap (λ (s : Said). s.directions) said_all

    by_cases : (r : Result (Named Port) ElabFault) → Gives (port_walk before.directions) [] (header_names m.header) r
        → MatchResult r (λ made. (first_broken (inside_checks leaf m) ≡ None) × (made ≡ ports m)) (Found (first_broken (inside_checks leaf m)))
    by_cases (Ok made) g =
        (inside-walks leaf m ∙ (rw (p.none, none, ← dirs) g.none), g.end ∙ ports-walk before.directions [] (header_names m.header) ∙ (rw dirs refl))
    by_cases (Err e) g =
        let f : Found (first_fault (port_walk (said (places m)).directions) [] (header_names m.header)) e = rw (← dirs) g.found in
        found-along _ _ e (inside-walks leaf m) (found-after _ _ e p.none (found-after _ _ e none f))

-- A module: its name, its header and declarations, and its entry.

pub module-parts : (all_leaf : Bool) (k : Known) (m : TModule) → first_broken (module_checks all_leaf k m)
    ≡ option_or (first_broken (name_check (is_leaf all_leaf m) k m ∷ [])) (option_or (first_broken (inside_checks (is_leaf all_leaf m) m)) (first_broken (entry_checks k (ports m) m)))
module-parts all_leaf k m =
    let a : List Check = name_check (is_leaf all_leaf m) k m ∷ [] in
    let b : List Check = inside_checks (is_leaf all_leaf m) m in
    let e : List Check = entry_checks k (ports m) m in
    first_broken-append (a ++ b) e ∙ ap (λ o. option_or o (first_broken e)) (first_broken-append a b) ∙ or-assoc (first_broken a) (first_broken b) (first_broken e)

pub module-fails : (all_leaf : Bool) (k : Known) (m : TModule) (fault : ElabFault) → first_broken (name_check (is_leaf all_leaf m) k m ∷ []) ≡ None
    → Found (first_broken (inside_checks (is_leaf all_leaf m) m)) fault → Fails (module_walk all_leaf) k (m ∷ []) fault
module-fails all_leaf k m fault named inside = record {
  found =
      found-along _ _ fault (or-none (first_broken (module_checks all_leaf k m)) ∙ module-parts all_leaf k m)
      (found-after _ _ fault named (found-or _ _ fault inside));
}

pub module-gives : {T : Type 0} (all_leaf : Bool) (k k' : Known) (m : TModule) (ps : Named Port) (r : Result T ElabFault)
    → first_broken (name_check (is_leaf all_leaf m) k m ∷ []) ≡ None → first_broken (inside_checks (is_leaf all_leaf m) m) ≡ None → ps ≡ ports m
    → Checks (entry_checks k ps m) r → OnOk r (k' ≡ with_module (is_leaf all_leaf m) k m ps) → Walks (module_walk all_leaf) k (m ∷ []) r k'
module-gives all_leaf k k' m ps (Ok v) named inside same checks after = record {
  none = or-none (first_broken (module_checks all_leaf k m)) ∙ module-parts all_leaf k m ∙ (rw (named, inside, ← same) checks);
  end = after ∙ (rw same refl);
}
module-gives all_leaf k k' m ps (Err fault) named inside same checks after = record {
  found =
      found-along _ _ fault (or-none (first_broken (module_checks all_leaf k m)) ∙ module-parts all_leaf k m)
      (found-after _ _ fault named (found-after _ _ fault inside (rw (← same) checks)));
}
