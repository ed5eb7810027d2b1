-- The second round meets no fault at what was written.
use Rattle.std.proofs.Common.{arith, ◌≡◌, ℕ, ◌+◌, ◌-◌, ◌<◌, ◌≤◌, ◌==◌, nat_lt, nat_le, Bool, true, false, cond, List, [], ◌∷◌, ◌++◌, map, length, slice_get, Option, Some, None, is_some, is_none, option_and_then, option_map, refl, sym, ap, ◌∙◌, subst, All}
use Rattle.std.specs.Prelude.{◌&&◌, ◌||◌, not}
use Rattle.std.specs.List.{sum_by, list_any}
use Rattle.std.proofs.lemmas.Bool.Decides.{nat_tests}
use Rattle.std.proofs.lemmas.List.{append-nil}
use Rattle.std.proofs.lemmas.List.Elements.{All-head, All-tail}
use Rattle.std.proofs.lemmas.List.FromFn.{length-map-range_with_len}
use Rattle.std.proofs.lemmas.List.Sums.{sum_by-cons}
use Rattle.std.specs.Option.{option_or}
use Rattle.emh_base.specs.Text.{index_of}
use Rattle.emh_base.specs.declared.ids.NetId.{NetId}
use Rattle.emh_base.specs.declared.plain.Range.{Range}
use Rattle.emh_base.specs.declared.plain.Src.{Src}
use Rattle.emh_base.specs.declared.plain.Src.TheVariants as src
use Rattle.emh_base.specs.declared.plain.Conn.{Conn}
use Rattle.emh_base.specs.declared.plain.Conn.TheVariants as conn
use Rattle.emh_base.specs.declared.plain.PNet.{PNet}
use Rattle.emh_base.specs.declared.plain.PModule.{PModule}
use Rattle.flatten_rules.specs.Lookup.{net_of, width}
use Rattle.flatten_rules.specs.Sound.{IsSource}
use Rattle.vlog_read.specs.declared.tree.At.{At}
use Rattle.vlog_read.specs.declared.tree.Part.{Part}
use Rattle.vlog_read.specs.declared.tree.Part.TheVariants.{Name, Bit, Lit}
use Rattle.vlog_read.specs.declared.tree.TConn.{TConn}
use Rattle.vlog_elab.specs.declared.interface.Port.{Port}
use Rattle.vlog_elab.specs.declared.scope.Net.{Net}
use Rattle.vlog_elab.specs.declared.scope.Scope.{Scope}
use Rattle.vlog_elab.specs.declared.fault.ElabKind.TheVariants as kind
use Rattle.flatten_rules.specs.Check.{first_broken}
use Rattle.vlog_elab.specs.Check.{Check, check, check_at}
use Rattle.vlog_elab.specs.Named.{Named, named, is_there, place_of}
use Rattle.vlog_elab.specs.Steps.{Connects, Uses, Fits, conn_steps}
use Rattle.vlog_elab.specs.Connections.{net_range as met_range, ports_named, mixes, has_index, part_width, port_at, width_checks}
use Rattle.vlog_elab.specs.inside.Walk.{Walk, Passed, first_fault, at_end}
use Rattle.vlog_elab.specs.inside.Walks.{step_walk, with_new}
use Rattle.vlog_elab.proofs.Naming.{value-at}
use Rattle.vlog_elab.proofs.Walking.{passed-none, passed-then}
use Rattle.named_tables.specs.NamedTable.{net_name, net_range}
use Rattle.vlog_write.specs.TreeOf.{bit_part, source_part, are_whole, first_name, parts_of, conn_parts, conn_tree}
use Rattle.vlog_read.specs.Bare.{name_at}
use Rattle.read_back.proofs.Bits.{HasBits, whole, net-there}

pub passed-cons : {S X : Type 0} (w : Walk S X) (s mid t : S) (x : X) (xs : List X) → first_broken (w.checks s x) ≡ None → w.after s x ≡ mid → Passed w mid xs t → Passed w s (x ∷ xs) t
passed-cons w s mid t x xs clear after rest = record {
  none = ap (λ o. option_or o (first_fault w (w.after s x) xs)) clear ∙ ap (λ s. first_fault w s xs) after ∙ rest.none;
  end = rest.end ∙ ap (λ s. at_end w s xs) (sym after);
}

pub clear1 : (a : Check) → a.0 ≡ false → first_broken (a ∷ []) ≡ None
clear1 a e = ap (λ b. cond b (Some a.1) None) e

pub clear2 : (a b : Check) → a.0 ≡ false → b.0 ≡ false → first_broken (a ∷ b ∷ []) ≡ None
clear2 a b e f = ap (λ c. cond c (Some a.1) (first_broken (b ∷ []))) e ∙ clear1 b f

pub clear3 : (a b c : Check) → a.0 ≡ false → b.0 ≡ false → c.0 ≡ false → first_broken (a ∷ b ∷ c ∷ []) ≡ None
clear3 a b c e f g = ap (λ d. cond d (Some a.1) (first_broken (b ∷ c ∷ []))) e ∙ clear2 b c f g

-- an index that is written is one of the range's
pub index-in : (r : Range) (k : ℕ) → k < width (Some r) → has_index (Some r) (index_of r k) ≡ true
index-in r k within = at_b (nat_lt r.right r.left) refl
  where
    at_b : (b : Bool) → nat_lt r.right r.left ≡ b
        → ((nat_le r.left (cond b (r.left - k) (r.left + k)) && nat_le (cond b (r.left - k) (r.left + k)) r.right) || (nat_le r.right (cond b (r.left - k) (r.left + k)) && nat_le (cond b (r.left - k) (r.left + k)) r.left)) ≡ true
    at_b true e = let low : r.right < r.left = grind (arith, nat_tests) in second (nat_le r.left (r.left - k) && nat_le (r.left - k) r.right) (nat_le r.right (r.left - k)) (nat_le (r.left - k) r.left) (yes r.right (r.left - k) (omega (arith, within, low))) (yes (r.left - k) r.left (omega arith))
      where
        yes : (a b : ℕ) → a ≤ b → nat_le a b ≡ true
        yes a b h = grind (arith, nat_tests)

        second : (a b c : Bool) → b ≡ true → c ≡ true → (a || (b && c)) ≡ true
        second true b c e f = refl
        second false b c e f = rw (e, f) refl
    at_b false e = let high : r.left ≤ r.right = grind (arith, nat_tests) in front (nat_le r.left (r.left + k)) (nat_le (r.left + k) r.right) (nat_le r.right (r.left + k) && nat_le (r.left + k) r.left) (yes r.left (r.left + k) (omega arith)) (yes (r.left + k) r.right (omega (arith, within, high)))
      where
        yes : (a b : ℕ) → a ≤ b → nat_le a b ≡ true
        yes a b h = grind (arith, nat_tests)

        front : (a b c : Bool) → a ≡ true → b ≡ true → ((a && b) || c) ≡ true
        front a b c e f = rw (e, f) refl

-- What the walk knows after a module's declarations: each net is declared with its range, and no net's name is an instance's.
pub record Knows (m : PModule) (ns : Named Net) (is : Named (Unit {0})) : Type 0 where
  pub declared : (id : NetId) (net : PNet) → net_of m id ≡ Some net → named ns net.name ≡ Some (record { range = net.range; implied = false })
  pub apart : (id : NetId) (net : PNet) → net_of m id ≡ Some net → is_there is net.name ≡ false

module _ (m : PModule) (ns : Named Net) (is : Named (Unit {0})) (knows : Knows m ns is) where
  abbrev scope : Scope
  scope = record { nets = ns; insts = is }

  same-scope : (us : Named Net) → with_new ns us ≡ ns → ◌≡◌ {A = Scope} (record { nets = with_new ns us; insts = is ++ [] }) (record { nets = ns; insts = is })
  same-scope us e = let f : is ++ [] ≡ is = append-nil is in λ i. record { nets = e i; insts = f i }

  there : (id : NetId) (net : PNet) → net_of m id ≡ Some net → is_there ns net.name ≡ true
  there id net at = ap is_some (knows.declared id net at)

  -- a use of a net by its name
  name-passes : (id : NetId) (net : PNet) → net_of m id ≡ Some net → Passed step_walk scope (Uses (Name (name_at net.name)) ∷ []) scope
  name-passes id net at =
      passed-cons step_walk scope scope scope (Uses (Name (name_at net.name))) [] (clear1 (check kind.NameTaken (name_at net.name) (is_there is net.name)) (knows.apart id net at))
      (same-scope ((net.name, record { range = None; implied = true }) ∷ []) (ap (λ b. cond b ns (ns ++ (net.name, record { range = None; implied = true }) ∷ [])) (there id net at)))
      passed-none

  bit-passes : (id : NetId) (net : PNet) (range : Option Range) (k : ℕ) → net_of m id ≡ Some net → net.range ≡ range → k < width range → Passed step_walk scope (Uses (bit_part net.name range k) ∷ []) scope
  bit-passes id net None k at is_range within = name-passes id net at
  bit-passes id net (Some r) k at is_range within =
      let range : met_range (named ns net.name) ≡ Some r = ap met_range (knows.declared id net at) ∙ is_range in
      let good : not (has_index (met_range (named ns net.name)) (index_of r k)) ≡ false = ap (λ o. not (has_index o (index_of r k))) range ∙ ap not (index-in r k within) in
      passed-cons step_walk scope scope scope (Uses (Bit (name_at net.name) (index_of r k))) []
      (clear2 (check kind.NameTaken (name_at net.name) (is_there is net.name)) (check kind.BadIndex (name_at net.name) (not (has_index (met_range (named ns net.name)) (index_of r k)))) (knows.apart id net at) good)
      (same-scope [] refl) passed-none

  source-passes : (s : Src) → IsSource m s → Passed step_walk scope (Uses (source_part m s) ∷ []) scope
  source-passes src.Tie0 source = passed-cons step_walk scope scope scope (Uses (Lit 1 0)) [] refl (same-scope [] refl) passed-none
  source-passes src.Tie1 source = passed-cons step_walk scope scope scope (Uses (Lit 1 1)) [] refl (same-scope [] refl) passed-none
  source-passes (src.Bit id k) source =
      let net = net-there m id k source in
      let At : Option PNet → Type 0 = λ o. Passed step_walk scope (Uses (bit_part (net_name o) (net_range o) k) ∷ []) scope in
      subst At (sym net.1) (bit-passes id net.0 net.0.range k net.1 refl net.2)

  sources-pass : (bits : List Src) → All (IsSource m) bits → Passed step_walk scope (map Uses (map (source_part m) bits)) scope
  sources-pass [] all = passed-none
  sources-pass (s ∷ bits) all = passed-then (source-passes s (All-head (IsSource m) s bits all)) (sources-pass bits (All-tail (IsSource m) s bits all))

  parts-pass : (bits : List Src) → All (IsSource m) bits → Passed step_walk scope (map Uses (parts_of m bits)) scope
  parts-pass bits all = at_b (are_whole m bits) refl
    where
      at_b : (b : Bool) → are_whole m bits ≡ b → Passed step_walk scope (map Uses (cond b (Name (name_at (first_name m bits)) ∷ []) (map (source_part m) bits))) scope
      at_b true e =
          let w = whole m bits all e in
          let At : List ℕ → Type 0 = λ q. Passed step_walk scope (Uses (Name (name_at q)) ∷ []) scope in
          subst At (sym w.name) (name-passes w.id w.net w.at)
      at_b false e = sources-pass bits all

  pub conn_parts-pass : (c : Conn) (count : ℕ) → HasBits m c count → Passed step_walk scope (map Uses (conn_parts m c)) scope
  conn_parts-pass conn.Open count has = passed-none
  conn_parts-pass (conn.Bits bits) count has = parts-pass bits has.1

  -- the width of what is written
  source-width : (s : Src) → IsSource m s → part_width ns (source_part m s) ≡ 1
  source-width src.Tie0 source = refl
  source-width src.Tie1 source = refl
  source-width (src.Bit id k) source =
      let net = net-there m id k source in
      ap (λ o. part_width ns (bit_part (net_name o) (net_range o) k)) net.1 ∙ at_range net.0.range refl
    where
      at_range : (range : Option Range) → (net-there m id k source).0.range ≡ range → part_width ns (bit_part (net-there m id k source).0.name range k) ≡ 1
      at_range (Some r) e = refl
      at_range None e = ap (λ o. width (met_range o)) (knows.declared id (net-there m id k source).0 (net-there m id k source).1) ∙ ap width e

  sources-width : (bits : List Src) → All (IsSource m) bits → sum_by (part_width ns) (map (source_part m) bits) ≡ length bits
  sources-width [] all = refl
  sources-width (s ∷ bits) all =
      let one = source-width s (All-head (IsSource m) s bits all) in
      let more = sources-width bits (All-tail (IsSource m) s bits all) in
      sum_by-cons (part_width ns) (source_part m s) (map (source_part m) bits) ∙ omega (arith, one, more)

  parts-width : (bits : List Src) → All (IsSource m) bits → sum_by (part_width ns) (parts_of m bits) ≡ length bits
  parts-width bits all = at_b (are_whole m bits) refl
    where
      at_b : (b : Bool) → are_whole m bits ≡ b → sum_by (part_width ns) (cond b (Name (name_at (first_name m bits)) ∷ []) (map (source_part m) bits)) ≡ length bits
      at_b false e = sources-width bits all
      at_b true e =
          let w = whole m bits all e in
          ap (λ q. 0 + width (met_range (named ns q))) w.name ∙ ap (λ o. 0 + width (met_range o)) (knows.declared w.id w.net w.at)
          ∙ omega (arith, length-map-range_with_len (λ k. src.Bit w.id k) 0 (width w.net.range), ap length w.is)

  -- a connection by name, after others by name
  pub conn-passes : (ports : Named Port) (inst : At) (before : List TConn) (q : List ℕ) (v : Port) (c : Conn) → named ports q ≡ Some v
      → list_any (λ (d : TConn). is_none d.port) before ≡ false → is_there (ports_named before) q ≡ false → HasBits m c (width v.range)
      → Passed step_walk scope (conn_steps ports inst before (conn_tree m q c)) scope
  conn-passes ports inst before q v c known unmixed fresh has =
      passed-cons step_walk scope scope scope (Connects ports inst before (conn_tree m q c)) (map Uses (conn_parts m c) ++ Fits ports before (conn_tree m q c) ∷ [])
      (clear3 (check_at kind.Mixed 0 inst.name (mixes before true)) (check kind.UnknownPort (name_at q) (not (is_there ports q))) (check kind.PortTwice (name_at q) (is_there (ports_named before) q))
      unmixed (ap (λ o. not (is_some o)) known) fresh)
      (same-scope [] refl)
      (passed-then (conn_parts-pass c (width v.range) has)
      (passed-cons step_walk scope scope scope (Fits ports before (conn_tree m q c)) [] (fits c has) (same-scope [] refl) passed-none))
    where
      eqb-same : (a b : ℕ) → a ≡ b → not (a == b) ≡ false
      eqb-same a b e = grind (arith, nat_tests)

      at_port : (bits : List Src) (p : Part) (ps : List Part) (o : Option (List ℕ × Port)) → sum_by (part_width ns) (p ∷ ps) ≡ width v.range → option_map (λ (e : List ℕ × Port). e.1) o ≡ Some v → first_broken (width_checks ns (conn_tree m q (conn.Bits bits)) (p ∷ ps) o) ≡ None
      at_port bits p ps None sum e = refl
      at_port bits p ps (Some port) sum e =
          let same : port.1 ≡ v = cc in
          clear1 (check_at kind.WidthMismatch 0 port.0 (not (sum_by (part_width ns) (p ∷ ps) == width port.1.range)))
          (eqb-same (sum_by (part_width ns) (p ∷ ps)) (width port.1.range) (sum ∙ sym (ap (λ (x : Port). width x.range) same)))

      at_place : (bits : List Src) (p : Part) (ps : List Part) (o : Option ℕ) → place_of ports q ≡ o → sum_by (part_width ns) (p ∷ ps) ≡ width v.range → first_broken (width_checks ns (conn_tree m q (conn.Bits bits)) (p ∷ ps) (option_and_then (slice_get ports) o)) ≡ None
      at_place bits p ps None e sum = refl
      at_place bits p ps (Some k) e sum = at_port bits p ps (slice_get ports k) sum (value-at k q ports e ∙ known)

      at_parts : (bits : List Src) (parts : List Part) → sum_by (part_width ns) parts ≡ width v.range → first_broken (width_checks ns (conn_tree m q (conn.Bits bits)) parts (port_at ports before (Some (name_at q)))) ≡ None
      at_parts bits [] sum = refl
      at_parts bits (p ∷ ps) sum = at_place bits p ps (place_of ports q) refl sum

      fits : (c : Conn) → HasBits m c (width v.range) → first_broken (width_checks ns (conn_tree m q c) (conn_parts m c) (port_at ports before (Some (name_at q)))) ≡ None
      fits conn.Open has = refl
      fits (conn.Bits bits) has = at_parts bits (parts_of m bits) (parts-width bits has.1 ∙ has.0)
