-- The lines of the flat netlist are counted by names.
use Rattle.std.proofs.Common.{◌≡◌, ℕ, ◌+◌, ◌==◌, Bool, true, false, cond, List, [], ◌∷◌, ◌++◌, map, flat_map, find, get_or, reverse, Option, Some, None, option_map, codes, bytes_eq, refl, sym, ap, ◌∙◌, subst}
use Rattle.std.specs.List.{sum_by, range_with_len}
use Rattle.std.specs.Map.{lookup}
use Rattle.std.proofs.lemmas.Cmp.{nat_list_eq_equiv}
use Rattle.std.proofs.lemmas.List.{reverse-reverse}
use Rattle.std.proofs.lemmas.List.Sums.{sum_by-append}
use Rattle.emh_base.specs.declared.ids.ModId.{ModId}
use Rattle.emh_base.specs.declared.ids.InstId.{InstId}
use Rattle.emh_base.specs.declared.plain.Range.{Range}
use Rattle.emh_base.specs.declared.plain.PNet.{PNet}
use Rattle.emh_base.specs.declared.plain.PPort.{PPort}
use Rattle.emh_base.specs.declared.plain.PModule.{PModule}
use Rattle.emh_base.specs.declared.plain.Plain.{Plain}
use Rattle.emh_base.specs.Text.{dir_text, spell, path_text, bit_text, pin_text}
use Rattle.flatten_rules.specs.Lookup.{module_of, net_of, width}
use Rattle.flatten_rules.specs.Design.{module_named}
use Rattle.flatten_rules.specs.Unfolding.{Occurrence, occurrences, module_up}
use Rattle.flatten_rules.specs.Domains.{NetBit, Pin, bits_of_net, bits_inside, net_bits, root_of, is_leaf, block_instances, is_own, block_nets, offsets, port_net, ports_of, pins_of_port, pins, terminals}
use Rattle.flatten_rules.specs.Texts.{names_up, net_up, net_bit_text, port_bit_text, root_text}
use Rattle.flatten_rules.specs.Root.{root_up, pin_root}
use Rattle.flatten_rules.specs.FlatLines.{module_text, term_line, inst_line, net_line, pin_line, term_lines}
use Rattle.flatten_rules.specs.Sound.{IsSound, IsSoundModule}
use Rattle.flatten_rules.proofs.Sound.{All-find}
use Rattle.flatten_rules.proofs.Walks.{some-there, find-own, up-own, same-some, id-of_found}
use Rattle.flatten_rules.proofs.OneOrder.{sorted-alike}
use Rattle.named_tables.specs.NamedTable.{NamedPort, NamedModule, NamedTable, named_port, named_module, named_table}
use Rattle.named_tables.specs.Law.{EachFlatNetlistByNames}
use Rattle.named_tables.proofs.Sums.{sum-flat, sum-mapped, sum-filtered, sum-same}
use Rattle.named_tables.proofs.Names.{module-own, named-own, modules-differ, nets-differ}
use Rattle.named_tables.proofs.Alike.{Apart, same-sums, entries, apart-from_pairs}
use Rattle.named_tables.proofs.Sources.{ports_in}
use Rattle.named_tables.proofs.Stack.{Stack, stack, names_of, names-up, sound-up}
use Rattle.named_tables.proofs.Roots.{pin_by, own_by, pin-text, own-up}
use Rattle.named_tables.proofs.Unfolding.{Place, unfolded_by, sum-by_names}

-- The nets of a module, by names, in order.

abbrev entry : PNet → List ℕ × Option Range
entry net = (net.name, net.range)

abbrev nets_in : Option PModule → List (List ℕ × Option Range)
nets_in None = []
nets_in (Some m) = map entry m.nets

abbrev Listed : Type 0
Listed = List ℕ → List (List ℕ × Option Range)

abbrev nets_listed : Plain → Listed
nets_listed M name = nets_in (module_named M name)

bytes_eq-turned : (a b : List ℕ) → bytes_eq a b ≡ bytes_eq b a
bytes_eq-turned a b = nat_list_eq_equiv.symm a b

lookup-nets : (q : List ℕ) (nets : List PNet) → lookup (bytes_eq q) (map entry nets) ≡ option_map (λ (net : PNet). net.range) (find (λ (net : PNet). bytes_eq net.name q) nets)
lookup-nets q [] = refl
lookup-nets q (net ∷ nets) =
    ap (λ b. cond b (Some net.range) (lookup (bytes_eq q) (map entry nets))) (bytes_eq-turned q net.name)
    ∙ at_b (lookup-nets q nets) (bytes_eq net.name q)
  where
    at_b : lookup (bytes_eq q) (map entry nets) ≡ option_map (λ (net : PNet). net.range) (find (λ (net : PNet). bytes_eq net.name q) nets)
        → (b : Bool) → cond b (Some net.range) (lookup (bytes_eq q) (map entry nets)) ≡ option_map (λ (net : PNet). net.range) (cond b (Some net) (find (λ (net : PNet). bytes_eq net.name q) nets))
    at_b more true = refl
    at_b more false = more

mapped : (nets : List PNet) → entries (λ (net : PNet). net.name) (λ (net : PNet). net.range) nets ≡ map entry nets
mapped [] = refl
mapped (net ∷ nets) = ap (λ es. entry net ∷ es) (mapped nets)

nets-apart : (M : Plain) (m : PModule) → IsSoundModule M m → Apart (map entry m.nets)
nets-apart M m s = subst Apart (mapped m.nets) (apart-from_pairs (λ (net : PNet). net.name) (λ (net : PNet). net.range) m.nets (nets-differ M m s))

-- tables that are the same by names list the same nets, in some order
listed-same : (M N : Plain) (F : List ℕ × Option Range → ℕ) (name : List ℕ) → IsSound M → IsSound N → named_table M ≡ named_table N → sum_by F (nets_listed M name) ≡ sum_by F (nets_listed N name)
unfolding named_table
listed-same M N F name sound_M sound_N same = at (module_named M name) (module_named N name) refl refl (ap (λ (T : NamedTable). T name) same)
  where
    test : PModule → Bool
    test m = bytes_eq m.name name

    at : (o p : Option PModule) → module_named M name ≡ o → module_named N name ≡ p → option_map (named_module M) o ≡ option_map (named_module N) p → sum_by F (nets_in o) ≡ sum_by F (nets_in p)
    at None None e f h = refl
    at None (Some n) e f h = let never : None ≡ Some (named_module N n) = h in absurd (cc)
    at (Some m) None e f h = let never : Some (named_module M m) ≡ None = h in absurd (cc)
    at (Some m) (Some n) e f h =
        let modules : named_module M m ≡ named_module N n = same-some (Some (named_module N n)) (named_module M m) (named_module N n) (sym h) refl in
        let s : IsSoundModule M m = All-find (IsSoundModule M) (λ (x : PModule). bytes_eq x.name name) M.modules m sound_M.modules e in
        let t : IsSoundModule N n = All-find (IsSoundModule N) (λ (x : PModule). bytes_eq x.name name) N.modules n sound_N.modules f in
        same-sums F (map entry m.nets) (map entry n.nets) (nets-apart M m s) (nets-apart N n t)
        (λ q. lookup-nets q m.nets ∙ ap (λ (x : NamedModule). x.nets q) modules ∙ sym (lookup-nets q n.nets))

-- What each occurrence adds, by names. A number of each text is added up.

abbrev leaf_in : Option NamedModule → Bool
leaf_in None = false
leaf_in (Some m) = m.leaf

module _ (g : List ℕ → ℕ) (T : NamedTable) (first : List ℕ) where
  abbrev inst_by : Place → ℕ
  inst_by p = cond (leaf_in (T p.1)) (g (codes "inst " ++ (path_text (names_of p.0) ++ (codes " " ++ spell p.1)))) 0

  abbrev net_sum : Stack → List ℕ × Option Range → ℕ
  net_sum st net = sum_by (λ k. cond (own_by T st net.0 k) (g (codes "net " ++ bit_text (names_of st) net.0 net.1 k)) 0) (range_with_len 0 (width net.1))

  abbrev nets_by : Listed → Place → ℕ
  nets_by listed p = cond (leaf_in (T p.1)) 0 (sum_by (net_sum p.0) (listed p.1))

  abbrev port_sum : Stack → NamedPort → ℕ
  port_sum st port = sum_by (λ k. g (codes "pin " ++ (pin_text (names_of st) port.name port.range k ++ (codes " " ++ pin_by T first st port.name k)))) (range_with_len 0 (width port.range))

  abbrev pins_by : Place → ℕ
  pins_by p = cond (leaf_in (T p.1)) (sum_by (port_sum p.0) (ports_in (T p.1))) 0

  abbrev term_sum : NamedPort → ℕ
  term_sum port = sum_by (λ k. g (codes "term " ++ (bit_text [] port.name port.range k ++ (codes " " ++ dir_text port.dir)))) (range_with_len 0 (width port.range))

  -- all lines of a top
  abbrev total_by : Listed → ℕ
  total_by listed =
      let all = unfolded_by T [] first 257 in
      sum_by term_sum (ports_in (T first)) + (sum_by inst_by all + (sum_by (nets_by listed) all + sum_by pins_by all))

all-so : (f h : ℕ → ℕ) (ks : List ℕ) → ((k : ℕ) → f k ≡ h k) → sum_by f ks ≡ sum_by h ks
all-so f h ks same = sum-same f h ks (λ i d within. same (get_or ks i d))

leads-none : (M : Plain) (top : ModId) (first : PModule) → module_of M top ≡ Some first → module_up M top [] ≡ Some first
unfolding module_up
leads-none M top first found = found

names-nothing : (M : Plain) (top : ModId) → names_up M top [] ≡ []
unfolding names_up
names-nothing M top = refl

stack-none : (M : Plain) (top : ModId) → stack M top [] ≡ []
unfolding stack
stack-none M top = refl

id-here : (M : Plain) (top : ModId) (first : PModule) → module_of M top ≡ Some first → first.id ≡ top
id-here M top first found = id-of_found M top first found

named-here : (M : Plain) (m : PModule) → IsSound M → module_of M m.id ≡ Some m → module_named M m.name ≡ Some m
named-here M m sound own = named-own (λ (m : PModule). m.name) M.modules (λ (x : PModule). x.id.0 == m.id.0) m (modules-differ M sound) own

abbrev occurrences-from : Plain → ModId → List Occurrence
occurrences-from M id = occurrences M id

module _ (g : List ℕ → ℕ) (M : Plain) (top : ModId) (first : PModule) (sound : IsSound M) (found : module_of M top ≡ Some first) where
  inst-at : (path : List InstId) (m : PModule) → module_up M top (reverse path) ≡ Some m
      → cond (is_leaf (module_of M m.id)) (g (inst_line M top (path, m.id))) 0 ≡ inst_by g (named_table M) first.name (stack M top (reverse path), m.name)
  inst-at path m leads =
      let own : module_of M m.id ≡ Some m = up-own M top (reverse path) m leads in
      ap (λ o. cond (is_leaf o) (g (codes "inst " ++ (path_text (names_up M top (reverse path)) ++ (codes " " ++ module_text o)))) 0) own
      ∙ ap (λ names. cond m.leaf (g (codes "inst " ++ (path_text names ++ (codes " " ++ spell m.name)))) 0) (names-up M top (reverse path) m leads)
      ∙ sym (ap (λ o. cond (leaf_in o) (g (codes "inst " ++ (path_text (names_of (stack M top (reverse path))) ++ (codes " " ++ spell m.name)))) 0) (module-own M m.id m sound own))

  abbrev bit_sum : NetBit → ℕ
  bit_sum bit = cond (is_own bit (root_of M top bit)) (g (net_line M top bit)) 0

  net-at : (path : List InstId) (m : PModule) (net : PNet) → module_up M top (reverse path) ≡ Some m → net_of m net.id ≡ Some net
      → sum_by bit_sum (bits_of_net path net) ≡ net_sum g (named_table M) first.name (stack M top (reverse path)) (entry net)
  net-at path m net leads is =
      let at : net_up M top (reverse path) net.id ≡ Some net = rw leads is in
      let bit : ℕ → NetBit = λ k. record { path = path; net = net.id; offset = k } in
      sum-mapped bit_sum bit (range_with_len 0 (width net.range))
      ∙ all-so (λ k. bit_sum (bit k)) (λ k. cond (own_by (named_table M) (stack M top (reverse path)) net.name k) (g (codes "net " ++ bit_text (names_of (stack M top (reverse path))) net.name net.range k)) 0) (range_with_len 0 (width net.range))
      (λ k. ap (λ p. cond (is_own (record { path = p; net = net.id; offset = k }) (root_up M top (reverse path) net.id k)) (g (net_line M top (bit k))) 0) (sym (reverse-reverse path))
      ∙ ap (λ b. cond b (g (net_line M top (bit k))) 0) (own-up M top first sound found (reverse path) m net.id net k leads is)
      ∙ ap (λ names. cond (own_by (named_table M) (stack M top (reverse path)) net.name k) (g (codes "net " ++ net_bit_text names (net_up M top (reverse path) net.id) k)) 0) (names-up M top (reverse path) m leads)
      ∙ ap (λ o. cond (own_by (named_table M) (stack M top (reverse path)) net.name k) (g (codes "net " ++ net_bit_text (names_of (stack M top (reverse path))) o k)) 0) at)

  nets-at : (path : List InstId) (m : PModule) → module_up M top (reverse path) ≡ Some m
      → sum_by bit_sum (bits_inside path (module_of M m.id)) ≡ nets_by g (named_table M) first.name (nets_listed M) (stack M top (reverse path), m.name)
  unfolding named_table
  nets-at path m leads =
      let own : module_of M m.id ≡ Some m = up-own M top (reverse path) m leads in
      let s : IsSoundModule M m = sound-up M top (reverse path) m sound leads in
      let st : Stack = stack M top (reverse path) in
      let named : module_named M m.name ≡ Some m = named-here M m sound own in
      ap (λ o. sum_by bit_sum (bits_inside path o)) own
      ∙ unless m.leaf (flat_map (bits_of_net path) m.nets)
      ∙ ap (cond m.leaf 0) (sum-flat bit_sum (bits_of_net path) m.nets
      ∙ sum-same (λ net. sum_by bit_sum (bits_of_net path net)) (λ net. net_sum g (named_table M) first.name st (entry net)) m.nets
      (λ k d within. net-at path m (get_or m.nets k d) leads (find-own (λ (x : PNet). x.id.0) m.nets s.nets_rise k d within))
      ∙ sym (sum-mapped (net_sum g (named_table M) first.name st) entry m.nets)
      ∙ ap (λ o. sum_by (net_sum g (named_table M) first.name st) (nets_in o)) (sym named))
      ∙ sym (ap (λ o. cond (leaf_in o) 0 (sum_by (net_sum g (named_table M) first.name st) (nets_listed M m.name))) (module-own M m.id m sound own))
    where
      unless : (b : Bool) (bits : List NetBit) → sum_by bit_sum (cond b [] bits) ≡ cond b 0 (sum_by bit_sum bits)
      unless true bits = refl
      unless false bits = refl

  abbrev pin_sum : Pin → ℕ
  pin_sum pin = g (pin_line M top pin)

  port-at : (path : List InstId) (m : PModule) (port : PPort) (net : PNet) → module_up M top (reverse path) ≡ Some m → net_of m port.net ≡ Some net
      → sum_by pin_sum (pins_of_port M (path, m.id) port) ≡ port_sum g (named_table M) first.name (stack M top (reverse path)) (named_port m port)
  port-at path m port net leads is =
      let own : module_of M m.id ≡ Some m = up-own M top (reverse path) m leads in
      let at : net_up M top (reverse path) port.net ≡ Some net = rw leads is in
      let st : Stack = stack M top (reverse path) in
      let there : port_net (module_of M m.id) port.net ≡ Some net = rw own is in
      let pin : ℕ → Pin = λ k. record { inst = (path, m.id); port = port.net; offset = k } in
      let named : named_port m port ≡ record { name = net.name; dir = port.dir; range = net.range } = rw is refl in
      ap (λ o. sum_by pin_sum (map pin (offsets o))) there
      ∙ sum-mapped pin_sum pin (range_with_len 0 (width net.range))
      ∙ all-so (λ k. pin_sum (pin k)) (λ k. g (codes "pin " ++ (pin_text (names_of st) net.name net.range k ++ (codes " " ++ pin_by (named_table M) first.name st net.name k)))) (range_with_len 0 (width net.range))
      (λ k. ap (λ names. g (codes "pin " ++ (port_bit_text names (net_up M top (reverse path) port.net) k ++ (codes " " ++ root_text M top (pin_root M top (reverse path) port.net k))))) (names-up M top (reverse path) m leads)
      ∙ ap (λ o. g (codes "pin " ++ (port_bit_text (names_of st) o k ++ (codes " " ++ root_text M top (pin_root M top (reverse path) port.net k))))) at
      ∙ ap (λ text. g (codes "pin " ++ (pin_text (names_of st) net.name net.range k ++ (codes " " ++ text)))) (pin-text M top first sound found (reverse path) m port.net net k leads is))
      ∙ sym (ap (port_sum g (named_table M) first.name st) named)

  pins-at : (path : List InstId) (m : PModule) → module_up M top (reverse path) ≡ Some m
      → cond (is_leaf (module_of M m.id)) (sum_by (λ port. sum_by pin_sum (pins_of_port M (path, m.id) port)) (ports_of (module_of M m.id))) 0
      ≡ pins_by g (named_table M) first.name (stack M top (reverse path), m.name)
  pins-at path m leads =
      let own : module_of M m.id ≡ Some m = up-own M top (reverse path) m leads in
      let s : IsSoundModule M m = sound-up M top (reverse path) m sound leads in
      let st : Stack = stack M top (reverse path) in
      ap (λ o. cond (is_leaf o) (sum_by (λ port. sum_by pin_sum (pins_of_port M (path, m.id) port)) (ports_of o)) 0) own
      ∙ ap (λ n. cond m.leaf n 0)
      (sum-same (λ port. sum_by pin_sum (pins_of_port M (path, m.id) port)) (λ port. port_sum g (named_table M) first.name st (named_port m port)) m.ports
      (λ k d within. let net = some-there (net_of m (get_or m.ports k d).net) (s.ports_there k d within) in port-at path m (get_or m.ports k d) net.0 leads net.1)
      ∙ sym (sum-mapped (port_sum g (named_table M) first.name st) (named_port m) m.ports))
      ∙ sym (ap (λ o. cond (leaf_in o) (sum_by (port_sum g (named_table M) first.name st) (ports_in o)) 0) (module-own M m.id m sound own))

  term-at : (port : PPort) (net : PNet) → net_of first port.net ≡ Some net → sum_by g (term_lines M top port) ≡ term_sum g (named_table M) first.name (named_port first port)
  term-at port net is =
      let leads : module_up M top [] ≡ Some first = leads-none M top first found in
      let at : net_up M top [] port.net ≡ Some net = rw leads is in
      let named : named_port first port ≡ record { name = net.name; dir = port.dir; range = net.range } = rw is refl in
      ap (λ o. sum_by g (map (term_line M top port) (offsets o))) at
      ∙ sum-mapped g (term_line M top port) (range_with_len 0 (width net.range))
      ∙ all-so (λ k. g (term_line M top port k)) (λ k. g (codes "term " ++ (bit_text [] net.name net.range k ++ (codes " " ++ dir_text port.dir)))) (range_with_len 0 (width net.range))
      (λ k. ap (λ names. g (codes "term " ++ (net_bit_text names (net_up M top [] port.net) k ++ (codes " " ++ dir_text port.dir)))) (names-nothing M top)
      ∙ ap (λ o. g (codes "term " ++ (net_bit_text [] o k ++ (codes " " ++ dir_text port.dir)))) at)
      ∙ sym (ap (term_sum g (named_table M) first.name) named)

  terms-at : sum_by g (flat_map (term_lines M top) (terminals M top)) ≡ sum_by (term_sum g (named_table M) first.name) (ports_in (named_table M first.name))
  terms-at =
      let s : IsSoundModule M first = sound-up M top [] first sound (leads-none M top first found) in
      ap (λ o. sum_by g (flat_map (term_lines M top) (ports_of o))) found
      ∙ sum-flat g (term_lines M top) first.ports
      ∙ sum-same (λ port. sum_by g (term_lines M top port)) (λ port. term_sum g (named_table M) first.name (named_port first port)) first.ports
      (λ k d within. let net = some-there (net_of first (get_or first.ports k d).net) (s.ports_there k d within) in term-at (get_or first.ports k d) net.0 net.1)
      ∙ sym (sum-mapped (term_sum g (named_table M) first.name) (named_port first) first.ports)
      ∙ sym (ap (λ o. sum_by (term_sum g (named_table M) first.name) (ports_in o)) (module-own M top first sound found))

  -- the lines of a top add up as they do by names
  pub lines-at : sum_by g (flat_map (term_lines M top) (terminals M top) ++ (map (inst_line M top) (block_instances M top) ++ (map (net_line M top) (block_nets M top) ++ map (pin_line M top) (pins M top))))
      ≡ total_by g (named_table M) first.name (nets_listed M)
  lines-at =
      let T : NamedTable = named_table M in
      let all : List Place = unfolded_by T [] first.name 257 in
      let leaf : Occurrence → Bool = λ o. is_leaf (module_of M o.1) in
      let id : top ≡ first.id = sym (id-here M top first found) in
      let leads : module_up M top (reverse []) ≡ Some first = leads-none M top first found in
      let over : (f : Occurrence → ℕ) (h : Place → ℕ) → ((path : List InstId) (m : PModule) → module_up M top (reverse path) ≡ Some m → f (path, m.id) ≡ h (stack M top (reverse path), m.name))
      → sum_by f (occurrences M top) ≡ sum_by h all = λ f h each.
      ap (λ i. sum_by f (occurrences-from M i)) id ∙ sum-by_names M top sound f h each 257 [] first leads
      ∙ ap (λ s. sum_by h (unfolded_by T s first.name 257)) (stack-none M top) in
      let insts : sum_by g (map (inst_line M top) (block_instances M top)) ≡ sum_by (inst_by g T first.name) all
      = sum-mapped g (inst_line M top) (block_instances M top) ∙ sum-filtered (λ o. g (inst_line M top o)) leaf (occurrences M top)
      ∙ over (λ o. cond (leaf o) (g (inst_line M top o)) 0) (inst_by g T first.name) inst-at in
      let nets : sum_by g (map (net_line M top) (block_nets M top)) ≡ sum_by (nets_by g T first.name (nets_listed M)) all
      = sum-mapped g (net_line M top) (block_nets M top) ∙ sum-filtered (λ bit. g (net_line M top bit)) (λ (bit : NetBit). is_own bit (root_of M top bit)) (net_bits M top)
      ∙ sum-flat bit_sum (λ (o : Occurrence). bits_inside o.0 (module_of M o.1)) (occurrences M top)
      ∙ over (λ o. sum_by bit_sum (bits_inside o.0 (module_of M o.1))) (nets_by g T first.name (nets_listed M)) nets-at in
      let all_pins : sum_by g (map (pin_line M top) (pins M top)) ≡ sum_by (pins_by g T first.name) all
      = sum-mapped g (pin_line M top) (pins M top) ∙ sum-flat pin_sum (λ (o : Occurrence). flat_map (pins_of_port M o) (ports_of (module_of M o.1))) (block_instances M top)
      ∙ sum-filtered (λ o. sum_by pin_sum (flat_map (pins_of_port M o) (ports_of (module_of M o.1)))) leaf (occurrences M top)
      ∙ sum-same (λ o. cond (leaf o) (sum_by pin_sum (flat_map (pins_of_port M o) (ports_of (module_of M o.1)))) 0) (λ o. cond (leaf o) (sum_by (λ port. sum_by pin_sum (pins_of_port M o port)) (ports_of (module_of M o.1))) 0) (occurrences M top)
      (λ k d within. let o : Occurrence = get_or (occurrences M top) k d in ap (λ n. cond (leaf o) n 0) (sum-flat pin_sum (pins_of_port M o) (ports_of (module_of M o.1))))
      ∙ over (λ o. cond (leaf o) (sum_by (λ port. sum_by pin_sum (pins_of_port M o port)) (ports_of (module_of M o.1))) 0) (pins_by g T first.name) pins-at in
      let A : List (List ℕ) = flat_map (term_lines M top) (terminals M top) in
      let B : List (List ℕ) = map (inst_line M top) (block_instances M top) in
      let C : List (List ℕ) = map (net_line M top) (block_nets M top) in
      let D : List (List ℕ) = map (pin_line M top) (pins M top) in
      sum_by-append g A (B ++ (C ++ D))
      ∙ ap (λ n. n + sum_by g (B ++ (C ++ D))) terms-at
      ∙ ap (λ n. sum_by (term_sum g T first.name) (ports_in (T first.name)) + n)
      (sum_by-append g B (C ++ D) ∙ ap (λ n. n + sum_by g (C ++ D)) insts
      ∙ ap (λ n. sum_by (inst_by g T first.name) all + n) (sum_by-append g C D ∙ ap (λ n. n + sum_by g D) nets ∙ ap (λ n. sum_by (nets_by g T first.name (nets_listed M)) all + n) all_pins))

-- tables that are the same by names have the same flat netlist
pub flat_by_names : EachFlatNetlistByNames
flat_by_names M N top other m n sound_M sound_N same found_m found_n names =
    let A = λ (M : Plain) (top : ModId). flat_map (term_lines M top) (terminals M top) ++ (map (inst_line M top) (block_instances M top) ++ (map (net_line M top) (block_nets M top) ++ map (pin_line M top) (pins M top))) in
    sorted-alike (A M top) (A N other) (λ g.
    lines-at g M top m sound_M found_m
    ∙ ap (λ (T : NamedTable). total_by g T m.name (nets_listed M)) same
    ∙ ap (λ (name : List ℕ). total_by g (named_table N) name (nets_listed M)) names
    ∙ (let T : NamedTable = named_table N in
    let all : List Place = unfolded_by T [] n.name 257 in
    let nets : sum_by (nets_by g T n.name (nets_listed M)) all ≡ sum_by (nets_by g T n.name (nets_listed N)) all
    = sum-same (nets_by g T n.name (nets_listed M)) (nets_by g T n.name (nets_listed N)) all
    (λ k d within. let p : Place = get_or all k d in ap (cond (leaf_in (T p.1)) 0) (listed-same M N (net_sum g T n.name p.0) p.1 sound_M sound_N same)) in
    ap (λ k. sum_by (term_sum g T n.name) (ports_in (T n.name)) + (sum_by (inst_by g T n.name) all + (k + sum_by (pins_by g T n.name) all))) nets)
    ∙ sym (lines-at g N other n sound_N found_n))
