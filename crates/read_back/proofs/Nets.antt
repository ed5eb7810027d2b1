-- The nets of a written module: as they are declared, and as the second round meets them.
use Rattle.std.proofs.Common.{arith, ◌≡◌, ◌≢◌, ℕ, zero, suc, ◌+◌, ◌<◌, ◌==◌, Bool, true, false, cond, List, [], ◌∷◌, ◌++◌, map, flat_map, find, filter, length, get_or, Option, Some, None, is_some, refl, sym, ap, ◌∙◌, subst, All, AllPairs, Contains, append_assoc, true≢false}
use Rattle.std.specs.Prelude.{not}
use Rattle.std.proofs.lemmas.Bool.Decides.{nat_tests}
use Rattle.std.proofs.lemmas.List.{map-append, length-map, length-append, get_or-map, get_or_append_left, get_or-append-add}
use Rattle.std.proofs.lemmas.Grind.{flat_map-append}
use Rattle.std.proofs.lemmas.List.Elements.{All-head, All-tail, All-filter, filter_passes, All-map, All-append, Contains-append_left, Contains-append_right}
use Rattle.std.proofs.lemmas.Map.Made.{AllPairs-from_IsDistinct}
use Rattle.std.proofs.lemmas.Slice.Eq.{bytes_eq-Decides}
use Rattle.emh_base.specs.declared.ids.NetId.{NetId}
use Rattle.emh_base.specs.declared.plain.Range.{Range}
use Rattle.emh_base.specs.declared.plain.PNet.{PNet}
use Rattle.emh_base.specs.declared.plain.PPort.{PPort}
use Rattle.emh_base.specs.declared.plain.PInst.{PInst}
use Rattle.emh_base.specs.declared.plain.PModule.{PModule}
use Rattle.emh_base.specs.declared.plain.Plain.{Plain}
use Rattle.flatten_rules.specs.Lookup.{net_of, port_of}
use Rattle.flatten_rules.specs.Sound.{IsSound, IsSoundModule}
use Rattle.flatten_rules.proofs.Walks.{some-there, find-own, find-passes, id-of_net}
use Rattle.vlog_elab.specs.declared.interface.Interface.{Interface}
use Rattle.vlog_elab.specs.declared.scope.Net.{Net}
use Rattle.vlog_elab.specs.declared.scope.Scope.{Scope}
use Rattle.flatten_rules.specs.Check.{first_broken}
use Rattle.vlog_elab.specs.Named.{Named, named, is_there}
use Rattle.vlog_elab.specs.Steps.{Step, item_steps, steps}
use Rattle.vlog_elab.specs.Connections.{inner_checks}
use Rattle.vlog_elab.specs.Table.{nets}
use Rattle.vlog_elab.specs.inside.Walk.{Passed}
use Rattle.vlog_elab.specs.inside.Walks.{step_walk}
use Rattle.vlog_elab.proofs.Each.{pairs_none, pairs_cons, pairs_head, pairs_tail, pairs_append}
use Rattle.vlog_elab.proofs.Row.{pairs_map}
use Rattle.vlog_elab.proofs.Walking.{passed-then}
use Rattle.vlog_elab.proofs.Joining.{inner_checks-walk}
use Rattle.vlog_elab.proofs.Mentions.{at_last}
use Rattle.named_tables.specs.NamedTable.{net_name, net_range}
use Rattle.named_tables.proofs.Names.{bytes_eq-other, found-at, one-net, nets-differ}
use Rattle.vlog_write.specs.TreeOf.{port_name, port_item, wire_item, wires, inst_item, module_tree}
use Rattle.read_back.proofs.Conns.{ports-differ, named-mapped}
use Rattle.read_back.proofs.Steps.{Knows}
use Rattle.read_back.proofs.Modules.{fresh-from, entry, declare, declares-pass, port_range, wire_range, all_ranges, port-steps, wire-steps, HasFaces, inst_key, insts-pass}

pub pairs-filter : {X : Type 0} (R : X → X → Type 0) (p : X → Bool) (xs : List X) → AllPairs R xs → AllPairs R (filter p xs)
pairs-filter R p [] h = pairs_none R
pairs-filter {X} R p (x ∷ xs) h = at_b (p x)
    (pairs_cons R x (filter p xs) (All-filter p (R x) xs (pairs_head R x xs h)) (pairs-filter R p xs (pairs_tail R x xs h)))
    (pairs-filter R p xs (pairs_tail R x xs h))
  where
    at_b : (b : Bool) → AllPairs R (x ∷ filter p xs) → AllPairs R (filter p xs) → AllPairs R (cond b (x ∷ filter p xs) (filter p xs))
    at_b true one other = one
    at_b false one other = other

find-some : {X : Type 0} (p : X → Bool) (xs : List X) (k : ℕ) (d : X) → k < length xs → p (get_or xs k d) ≡ true → is_some (find p xs) ≡ true
find-some p [] k d within passes = absurd (omega (arith, within))
find-some p (x ∷ xs) zero d within passes = ap (λ b. is_some (cond b (Some x) (find p xs))) passes
find-some p (x ∷ xs) (suc k) d within passes = elim (p x) as (λ b. is_some (cond b (Some x) (find p xs)) ≡ true) [ true ↦ refl | false ↦ find-some p xs k d (omega arith) passes ]

pub filter-has : {X : Type 0} (p : X → Bool) (xs : List X) (x : X) → Contains xs x → p x ≡ true → Contains (filter p xs) x
filter-has p [] x (k, within, at) passes = absurd (omega (arith, within))
filter-has p (y ∷ ys) x (zero, within, at) passes = rw (ap p at ∙ passes) (zero, omega arith, at)
filter-has p (y ∷ ys) x (suc k, within, at) passes =
    let later = filter-has p ys x (k, omega arith, at) passes in
    elim (p y) as (λ b. Contains (cond b (y ∷ filter p ys) (filter p ys)) x) [ true ↦ (suc later.0, omega (arith, later.1), later.2) | false ↦ later ]

contains-map : {X Y : Type 0} (f : X → Y) (xs : List X) (x : X) → Contains xs x → Contains (map f xs) (f x)
contains-map f xs x (k, within, at) = (k, omega (arith, within, length-map xs f), get_or-map f xs k x (f x) within ∙ ap f at)

pub absent : {V : Type 0} (es : Named V) (q : List ℕ) → All (λ (e : List ℕ × V). e.0 ≢ q) es → is_there es q ≡ false
absent [] q all = refl
absent {V} (e ∷ es) q all =
    let Other : List ℕ × V → Type 0 = λ e. e.0 ≢ q in
    let here : e.0 ≢ q = All-head Other e es all in
    ap (λ b. is_some (cond b (Some e.1) (named es q))) (bytes_eq-other q e.0 (λ same. here (sym same))) ∙ absent es q (All-tail Other e es all)

pub record IsNet (m : PModule) (r : List ℕ × Option Range) : Type 0 where
  pub id : NetId
  pub net : PNet
  pub at : net_of m id ≡ Some net
  pub is : r ≡ (net.name, net.range)

pub port-range : (m : PModule) (port : PPort) (net : PNet) → net_of m port.net ≡ Some net → port_range m port ≡ (net.name, net.range)
port-range m port net at = ap (λ (o : Option PNet). (net_name o, net_range o)) at

module _ (M : Plain) (m : PModule) (s : IsSoundModule M m) where
  abbrev net_names : List (List ℕ)
  net_names = map (λ (net : PNet). net.name) m.nets

  abbrev inst_names : List (List ℕ)
  inst_names = map (λ (inst : PInst). inst.name) m.insts

  pub net-apart : (id : NetId) (net : PNet) → net_of m id ≡ Some net → All (λ (inst : PInst). net.name ≢ inst.name) m.insts
  net-apart id net at l e within =
      let place = found-at (λ (n : PNet). n.id.0 == id.0) m.nets net at in
      let many : length net_names ≡ length m.nets = length-map m.nets (λ (net : PNet). net.name) in
      let pair = AllPairs-from_IsDistinct bytes_eq-Decides (net_names ++ inst_names) s.names place.0 (length net_names + l) [] (omega (arith, place.1, many)) (omega (arith, within, length-append net_names inst_names, length-map m.insts (λ (inst : PInst). inst.name))) in
      let one = get_or_append_left net_names inst_names [] place.0 (omega (arith, place.1, many)) ∙ get_or-map (λ (net : PNet). net.name) m.nets place.0 net [] place.1 ∙ ap (λ (n : PNet). n.name) place.2 in
      let two = get_or-append-add net_names inst_names l [] ∙ get_or-map (λ (inst : PInst). inst.name) m.insts l e [] within in
      λ same. pair (one ∙ same ∙ sym two)

  pub insts-differ : AllPairs (λ (a b : PInst). a.name ≢ b.name) m.insts
  insts-differ i j d below within =
      let long = length-append net_names inst_names in
      let many = length-map m.insts (λ (inst : PInst). inst.name) in
      let pair = AllPairs-from_IsDistinct bytes_eq-Decides (net_names ++ inst_names) s.names (length net_names + i) (length net_names + j) [] (omega (arith, below)) (omega (arith, within, long, many)) in
      let one = get_or-append-add net_names inst_names i [] ∙ get_or-map (λ (inst : PInst). inst.name) m.insts i d [] (omega (arith, below, within)) in
      let two = get_or-append-add net_names inst_names j [] ∙ get_or-map (λ (inst : PInst). inst.name) m.insts j d [] within in
      λ same. pair (one ∙ same ∙ sym two)

  pub wires-none : All (λ (w : PNet). is_some (port_of m w.id) ≡ false) (wires m)
  wires-none k d within = no (is_some (port_of m (get_or (wires m) k d).id)) (filter_passes (λ (net : PNet). not (is_some (port_of m net.id))) m.nets k d within)
    where
      no : (b : Bool) → not b ≡ true → b ≡ false
      no true e = absurd (true≢false (sym e))
      no false e = refl

  pub wires-own : All (λ (w : PNet). net_of m w.id ≡ Some w) (wires m)
  wires-own = All-filter (λ (net : PNet). not (is_some (port_of m net.id))) (λ (w : PNet). net_of m w.id ≡ Some w) m.nets (λ k d within. find-own (λ (x : PNet). x.id.0) m.nets s.nets_rise k d within)

  port-there : (k : ℕ) (d : PPort) → k < length m.ports → (net : PNet) × (net_of m (get_or m.ports k d).net ≡ Some net)
  port-there k d within = some-there (net_of m (get_or m.ports k d).net) (s.ports_there k d within)

  -- a wire has no port's name
  pub wire-apart : (k : ℕ) (d : PPort) (w : PNet) → k < length m.ports → net_of m w.id ≡ Some w → is_some (port_of m w.id) ≡ false → port_name m (get_or m.ports k d) ≢ w.name
  wire-apart k d w within own none same =
      let port : PPort = get_or m.ports k d in
      let net = port-there k d within in
      let id : port.net ≡ w.id = one-net M m port.net w.id net.0 w s net.1 own (sym (ap net_name net.1) ∙ same) in
      let n : port.net.0 ≡ w.id.0 = ap (λ (i : NetId). i.0) id in
      let some = find-some (λ (p : PPort). p.net.0 == w.id.0) m.ports k d within (grind (arith, nat_tests)) in
      true≢false (sym some ∙ none)

  pub ranges-differ : AllPairs (λ (a b : List ℕ × Option Range). a.0 ≢ b.0) (all_ranges m)
  ranges-differ =
      let R : List ℕ × Option Range → List ℕ × Option Range → Type 0 = λ a b. a.0 ≢ b.0 in
      pairs_append R (map (port_range m) m.ports) (map wire_range (wires m))
      (pairs_map R (port_range m) m.ports (ports-differ M m s))
      (pairs_map R wire_range (wires m) (pairs-filter (λ (a b : PNet). a.name ≢ b.name) (λ (net : PNet). not (is_some (port_of m net.id))) m.nets (nets-differ M m s)))
      (All-map (λ (x : List ℕ × Option Range). All (R x) (map wire_range (wires m))) (port_range m) m.ports
      (λ k d within. All-map (R (port_range m (get_or m.ports k d))) wire_range (wires m)
      (λ l e low. wire-apart k d (get_or (wires m) l e) within (wires-own l e low) (wires-none l e low))))

  pub ranges-nets : All (IsNet m) (all_ranges m)
  ranges-nets =
      All-append (IsNet m) (map (port_range m) m.ports) (map wire_range (wires m))
      (All-map (IsNet m) (port_range m) m.ports (λ k d within. let net = port-there k d within in record { id = (get_or m.ports k d).net; net = net.0; at = net.1; is = port-range m (get_or m.ports k d) net.0 net.1 }))
      (All-map (IsNet m) wire_range (wires m) (λ k d within. record { id = (get_or (wires m) k d).id; net = get_or (wires m) k d; at = wires-own k d within; is = refl }))

  -- each net is declared
  ranges-have : (id : NetId) (net : PNet) → net_of m id ≡ Some net → Contains (all_ranges m) (net.name, net.range)
  ranges-have id net at = at_o (port_of m net.id) refl
    where
      own : net.id ≡ id
      own = id-of_net m id net at

      at_o : (o : Option PPort) → port_of m net.id ≡ o → Contains (all_ranges m) (net.name, net.range)
      at_o (Some port) e =
          let place = found-at (λ (p : PPort). p.net.0 == net.id.0) m.ports port e in
          let n : port.net.0 ≡ net.id.0 = let passes = find-passes (λ (p : PPort). p.net.0 == net.id.0) m.ports port e in grind (arith, nat_tests) in
          let make : ℕ → NetId = λ n. record { 0 = n } in
          let there : net_of m port.net ≡ Some net = ap (net_of m) (ap make n ∙ own) ∙ at in
          subst (Contains (all_ranges m)) (port-range m port net there)
          (Contains-append_left (map (port_range m) m.ports) (map wire_range (wires m)) (port_range m port) (contains-map (port_range m) m.ports port place))
      at_o None e =
          let place = found-at (λ (n : PNet). n.id.0 == id.0) m.nets net at in
          Contains-append_right (map (port_range m) m.ports) (map wire_range (wires m)) (wire_range net)
          (contains-map wire_range (wires m) net (filter-has (λ (net : PNet). not (is_some (port_of m net.id))) m.nets net place (ap (λ o. not (is_some o)) e)))

  pub range-known : (id : NetId) (net : PNet) → net_of m id ≡ Some net → named (map entry (all_ranges m)) net.name ≡ Some (record { range = net.range; implied = false })
  range-known id net at =
      let has = ranges-have id net at in
      let found = named-mapped entry (all_ranges m) ranges-differ has.0 (net.name, net.range) has.1 in
      subst (λ (r : List ℕ × Option Range). named (map entry (all_ranges m)) r.0 ≡ Some (entry r).1) has.2 found

  no-net : All (λ (inst : PInst). is_there (map entry (all_ranges m)) inst.name ≡ false) m.insts
  no-net l e within =
      let q : List ℕ = (get_or m.insts l e).name in
      absent (map entry (all_ranges m)) q
      (All-map (λ (x : List ℕ × Net). x.0 ≢ q) entry (all_ranges m) (λ k d low.
      let n = ranges-nets k d low in
      λ same. net-apart n.id n.net n.at l e within (sym (ap (λ (r : List ℕ × Option Range). r.0) n.is) ∙ same)))

  -- the second round goes through the module
  pub steps-pass : (fs : Named Interface) → IsSound M → HasFaces M fs → Passed step_walk (record { nets = []; insts = [] }) (steps fs (module_tree M m)) (record { nets = map entry (all_ranges m); insts = map inst_key m.insts })
  steps-pass fs sound interfaces =
      let ns : Named Net = map entry (all_ranges m) in
      let parts : flat_map (item_steps fs) (map (port_item m) m.ports ++ (map wire_item (wires m) ++ map (inst_item M m) m.insts)) ≡ map declare (all_ranges m) ++ flat_map (item_steps fs) (map (inst_item M m) m.insts) =
      flat_map-append (item_steps fs) (map (port_item m) m.ports) (map wire_item (wires m) ++ map (inst_item M m) m.insts)
      ∙ ap (λ xs. flat_map (item_steps fs) (map (port_item m) m.ports) ++ xs) (flat_map-append (item_steps fs) (map wire_item (wires m)) (map (inst_item M m) m.insts))
      ∙ ap (λ xs. xs ++ (flat_map (item_steps fs) (map wire_item (wires m)) ++ flat_map (item_steps fs) (map (inst_item M m) m.insts))) (port-steps fs m m.ports)
      ∙ ap (λ xs. map declare (map (port_range m) m.ports) ++ (xs ++ flat_map (item_steps fs) (map (inst_item M m) m.insts))) (wire-steps fs (wires m))
      ∙ sym (append_assoc (map declare (map (port_range m) m.ports)) (map declare (map wire_range (wires m))) (flat_map (item_steps fs) (map (inst_item M m) m.insts)))
      ∙ ap (λ xs. xs ++ flat_map (item_steps fs) (map (inst_item M m) m.insts)) (sym (map-append declare (map (port_range m) m.ports) (map wire_range (wires m)))) in
      let declared = declares-pass [] (all_ranges m) (fresh-from [] ns (λ k d within. refl) (pairs_map (λ (a b : List ℕ × Net). a.0 ≢ b.0) entry (all_ranges m) ranges-differ)) in
      let knows : Knows m ns [] = record { declared = range-known; apart = λ id net at. refl } in
      let met = insts-pass M sound fs interfaces m ns [] m.insts s.masters knows
      (fresh-from [] (map inst_key m.insts) (λ k d within. refl) (pairs_map (λ (a b : List ℕ × Unit {0}). a.0 ≢ b.0) inst_key m.insts insts-differ))
      no-net net-apart in
      subst (λ (xs : List Step). Passed step_walk (record { nets = []; insts = [] }) xs (record { nets = ns; insts = map inst_key m.insts })) (sym parts) (passed-then declared met)

  pub inner-none : (fs : Named Interface) → IsSound M → HasFaces M fs → first_broken (inner_checks fs (module_tree M m)) ≡ None
  inner-none fs sound interfaces = inner_checks-walk fs (module_tree M m) ∙ (steps-pass fs sound interfaces).none

  -- and these are its nets
  pub nets-made : (fs : Named Interface) → IsSound M → HasFaces M fs → nets (module_tree M m) ≡ map entry (all_ranges m)
  nets-made fs sound interfaces = sym (ap (λ (s : Scope). s.nets) ((steps-pass fs sound interfaces).end ∙ at_last fs (module_tree M m)))
