-- The bits of a written expression are the sources, by names.
use Rattle.std.proofs.Common.{arith, ◌≡◌, ℕ, ◌+◌, ◌-◌, ◌<◌, ◌==◌, nat_lt, Bool, true, false, cond, List, [], ◌∷◌, ◌++◌, map, flat_map, length, Option, Some, None, refl, sym, ap, ◌∙◌, All, true≢false, eqb-true}
use Rattle.std.specs.Prelude.{◌&&◌}
use Rattle.std.specs.List.{range_with_len}
use Rattle.std.proofs.lemmas.Bool.Decides.{nat_tests}
use Rattle.std.proofs.lemmas.List.Elements.{All-head, All-tail}
use Rattle.std.proofs.lemmas.List.{map-append, length-map}
use Rattle.emh_base.specs.Text.{index_of}
use Rattle.emh_base.specs.declared.ids.NetId.{NetId}
use Rattle.emh_base.specs.declared.plain.Range.{Range}
use Rattle.emh_base.specs.declared.plain.Src.{Src}
use Rattle.emh_base.specs.declared.plain.Src.TheVariants as src
use Rattle.emh_base.specs.declared.plain.Conn.{Conn}
use Rattle.emh_base.specs.declared.plain.Conn.TheVariants as conn
use Rattle.emh_base.specs.declared.plain.PNet.{PNet}
use Rattle.emh_base.specs.declared.plain.PModule.{PModule}
use Rattle.flatten_rules.specs.Lookup.{net_of, width, width_of, bits_from}
use Rattle.flatten_rules.specs.Sound.{IsSource}
use Rattle.vlog_read.specs.declared.tree.Part.{Part}
use Rattle.vlog_read.specs.declared.tree.Part.TheVariants.{Name}
use Rattle.vlog_elab.specs.declared.scope.Net.{Net}
use Rattle.vlog_elab.specs.Named.{Named, named}
use Rattle.vlog_elab.specs.Table.{net_id, offset_in, part_bits, conn_bits}
use Rattle.named_tables.specs.NamedTable.{net_name, net_range, named_source, named_conn}
use Rattle.named_tables.specs.NamedTable.NamedSource.{Bit as ByBit}
use Rattle.vlog_elab.specs.Connections.{net_range as met_range}
use Rattle.vlog_write.specs.TreeOf.{bit_part, source_part, is_same, are_same, are_whole, first_name, parts_of, conn_parts}
use Rattle.vlog_read.specs.Bare.{name_at}

-- What was declared of a module's nets, and the row that was made of it: each net is there with its range, and its id names it.
pub record Keeps (m : PModule) (ns : Named Net) (R : PModule) : Type 0 where
  pub declared : (id : NetId) (net : PNet) → net_of m id ≡ Some net → named ns net.name ≡ Some (record { range = net.range; implied = false })
  pub rows : (id : NetId) (net : PNet) → net_of m id ≡ Some net → net_name (net_of R (net_id ns net.name)) ≡ net.name

pub wide : (range : Option Range) → 0 < width range
wide None = omega arith
wide (Some r) = omega arith

-- an index leads back to its offset
pub offset-back : (r : Range) (k : ℕ) → k < width (Some r) → offset_in (Some r) (index_of r k) ≡ k
offset-back r k within = at_b (nat_lt r.right r.left) refl
  where
    at_b : (b : Bool) → nat_lt r.right r.left ≡ b → (r.left - cond b (r.left - k) (r.left + k)) + (cond b (r.left - k) (r.left + k) - r.left) ≡ k
    at_b true e = let low : r.right < r.left = grind (arith, nat_tests) in omega (arith, within)
    at_b false e = omega (arith, within)

-- a source that is a bit of a net
pub net-there : (m : PModule) (id : NetId) (k : ℕ) → k < width_of (net_of m id) → (net : PNet) × (net_of m id ≡ Some net) × (k < width net.range)
net-there m id k within = at_o (net_of m id) refl within
  where
    at_o : (o : Option PNet) → net_of m id ≡ o → k < width_of o → (net : PNet) × (net_of m id ≡ Some net) × (k < width net.range)
    at_o None e low = absurd (omega (arith, low))
    at_o (Some net) e low = (net, e, low)

and-both : (a b : Bool) → a && b ≡ true → (a ≡ true) × (b ≡ true)
and-both true b e = (refl, e)
and-both false b e = absurd (true≢false (sym e))

same-source : (a b : Src) → is_same a b ≡ true → a ≡ b
same-source src.Tie0 src.Tie0 e = refl
same-source src.Tie0 src.Tie1 e = absurd (true≢false (sym e))
same-source src.Tie0 (src.Bit n k) e = absurd (true≢false (sym e))
same-source src.Tie1 src.Tie0 e = absurd (true≢false (sym e))
same-source src.Tie1 src.Tie1 e = refl
same-source src.Tie1 (src.Bit n k) e = absurd (true≢false (sym e))
same-source (src.Bit n k) src.Tie0 e = absurd (true≢false (sym e))
same-source (src.Bit n k) src.Tie1 e = absurd (true≢false (sym e))
same-source (src.Bit n k) (src.Bit o j) e =
    let both = and-both (n.0 == o.0) (k == j) e in
    let nets : n.0 ≡ o.0 = eqb-true n.0 o.0 both.0 in
    let places : k ≡ j = eqb-true k j both.1 in
    λ i. src.Bit (record { 0 = nets i }) (places i)

pub same-sources : (xs ys : List Src) → are_same xs ys ≡ true → xs ≡ ys
same-sources [] [] e = refl
same-sources [] (y ∷ ys) e = absurd (true≢false (sym e))
same-sources (x ∷ xs) [] e = absurd (true≢false (sym e))
same-sources (x ∷ xs) (y ∷ ys) e =
    let both = and-both (is_same x y) (are_same xs ys) e in
    let heads : x ≡ y = same-source x y both.0 in
    let tails : xs ≡ ys = same-sources xs ys both.1 in
    λ i. heads i ∷ tails i

-- a whole expression is one net's bits
pub record Whole (m : PModule) (bits : List Src) : Type 0 where
  pub id : NetId
  pub net : PNet
  pub at : net_of m id ≡ Some net
  pub name : first_name m bits ≡ net.name
  pub is : bits ≡ bits_from id 0 (width net.range)

pub whole : (m : PModule) (bits : List Src) → All (IsSource m) bits → are_whole m bits ≡ true → Whole m bits
whole m [] all e = absurd (true≢false (sym e))
whole m (src.Tie0 ∷ bits) all e = absurd (true≢false (sym e))
whole m (src.Tie1 ∷ bits) all e = absurd (true≢false (sym e))
whole m (src.Bit id k ∷ bits) all e =
    let there = net-there m id k (All-head (IsSource m) (src.Bit id k) bits all) in
    record {
      id = id;
      net = there.0;
      at = there.1;
      name = ap net_name there.1;
      is = same-sources (src.Bit id k ∷ bits) (bits_from id 0 (width_of (net_of m id))) e ∙ ap (λ o. bits_from id 0 (width_of o)) there.1;
    }

append-none : {X : Type 0} (xs : List X) → xs ++ [] ≡ xs
append-none [] = refl
append-none (x ∷ xs) = ap (λ ys. x ∷ ys) (append-none xs)

-- a connection has as many sources of the module as its port has bits, or is open
abbrev pub HasBits : PModule → Conn → ℕ → Type 0
HasBits m conn.Open count = Unit {0}
HasBits m (conn.Bits bits) count = (length bits ≡ count) × All (IsSource m) bits

pub some-parts : (m : PModule) (bits : List Src) → 0 < length bits → length (parts_of m bits) ≡ 0 → ⊥
some-parts m bits some none = at_b (are_whole m bits) none
  where
    at_b : (b : Bool) → length (cond b (Name (name_at (first_name m bits)) ∷ []) (map (source_part m) bits)) ≡ 0 → ⊥
    at_b true e = absurd (omega (arith, e))
    at_b false e = absurd (omega (arith, e, some, length-map bits (source_part m)))

module _ (m : PModule) (ns : Named Net) (R : PModule) (keeps : Keeps m ns R) where
  bit-back : (id : NetId) (net : PNet) (range : Option Range) (k : ℕ) → net_of m id ≡ Some net → net.range ≡ range → k < width range
      → map (named_source R) (part_bits ns (bit_part net.name range k)) ≡ ByBit net.name k ∷ []
  bit-back id net None k at is within =
      let zero_k : k ≡ 0 = omega (arith, within) in
      let range : met_range (named ns net.name) ≡ None = ap met_range (keeps.declared id net at) ∙ is in
      ap (λ o. map (named_source R) (bits_from (net_id ns net.name) 0 (width o))) range
      ∙ ap (λ q. ByBit q 0 ∷ []) (keeps.rows id net at)
      ∙ ap (λ j. ByBit net.name j ∷ []) (sym zero_k)
  bit-back id net (Some r) k at is within =
      let range : met_range (named ns net.name) ≡ Some r = ap met_range (keeps.declared id net at) ∙ is in
      ap (λ o. map (named_source R) (bits_from (net_id ns net.name) (offset_in o (index_of r k)) 1)) range
      ∙ ap (λ j. map (named_source R) (bits_from (net_id ns net.name) j 1)) (offset-back r k within)
      ∙ ap (λ q. ByBit q k ∷ []) (keeps.rows id net at)

  -- a bit alone
  source-back : (s : Src) → IsSource m s → map (named_source R) (part_bits ns (source_part m s)) ≡ named_source m s ∷ []
  source-back src.Tie0 is = refl
  source-back src.Tie1 is = refl
  source-back (src.Bit id k) is =
      let there = net-there m id k is in
      let at : net_of m id ≡ Some there.0 = there.1 in
      ap (λ o. map (named_source R) (part_bits ns (bit_part (net_name o) (net_range o) k))) at
      ∙ bit-back id there.0 there.0.range k at refl there.2
      ∙ ap (λ o. ByBit (net_name o) k ∷ []) (sym at)

  sources-back : (bits : List Src) → All (IsSource m) bits → map (named_source R) (flat_map (part_bits ns) (map (source_part m) bits)) ≡ map (named_source m) bits
  sources-back [] all = refl
  sources-back (s ∷ bits) all =
      map-append (named_source R) (part_bits ns (source_part m s)) (flat_map (part_bits ns) (map (source_part m) bits))
      ∙ ap (λ front. front ++ map (named_source R) (flat_map (part_bits ns) (map (source_part m) bits))) (source-back s (All-head (IsSource m) s bits all))
      ∙ ap (λ back. named_source m s ∷ back) (sources-back bits (All-tail (IsSource m) s bits all))

  run-back : (id : NetId) (net : PNet) (ks : List ℕ) → net_of m id ≡ Some net
      → map (named_source R) (map (λ k. src.Bit (net_id ns net.name) k) ks) ≡ map (named_source m) (map (λ k. src.Bit id k) ks)
  run-back id net [] at = refl
  run-back id net (k ∷ ks) at =
      let here : ByBit (net_name (net_of R (net_id ns net.name))) k ≡ ByBit (net_name (net_of m id)) k = ap (λ q. ByBit q k) (keeps.rows id net at ∙ sym (ap net_name at)) in
      let rest = run-back id net ks at in
      λ i. here i ∷ rest i

  -- a whole net
  whole-back : (bits : List Src) → Whole m bits → map (named_source R) (part_bits ns (Name (name_at (first_name m bits)))) ≡ map (named_source m) bits
  whole-back bits w =
      ap (λ q. map (named_source R) (bits_from (net_id ns q) 0 (width (met_range (named ns q))))) w.name
      ∙ ap (λ o. map (named_source R) (bits_from (net_id ns w.net.name) 0 (width (met_range o)))) (keeps.declared w.id w.net w.at)
      ∙ run-back w.id w.net (range_with_len 0 (width w.net.range)) w.at
      ∙ sym (ap (map (named_source m)) w.is)

  parts-back : (bits : List Src) → All (IsSource m) bits → map (named_source R) (flat_map (part_bits ns) (parts_of m bits)) ≡ map (named_source m) bits
  parts-back bits all = at_b (are_whole m bits) refl
    where
      at_b : (b : Bool) → are_whole m bits ≡ b → map (named_source R) (flat_map (part_bits ns) (cond b (Name (name_at (first_name m bits)) ∷ []) (map (source_part m) bits))) ≡ map (named_source m) bits
      at_b true e = ap (map (named_source R)) (append-none (part_bits ns (Name (name_at (first_name m bits))))) ∙ whole-back bits (whole m bits all e)
      at_b false e = sources-back bits all

  -- the connection that is made of a written expression is the one that was written, by names
  pub conn-back : (c : Conn) (count : ℕ) → HasBits m c count → 0 < count → named_conn R (conn_bits ns (conn_parts m c)) ≡ named_conn m c
  conn-back conn.Open count fits some = refl
  conn-back (conn.Bits bits) count fits some = at_parts (parts_of m bits) refl
    where
      at_parts : (parts : List Part) → parts_of m bits ≡ parts → named_conn R (conn_bits ns parts) ≡ named_conn m (conn.Bits bits)
      at_parts [] e =
          let many : length (parts_of m bits) ≡ 0 = ap length e in
          absurd (some-parts m bits (omega (arith, fits.0, some)) many)
      at_parts (p ∷ ps) e = ap Some (ap (λ parts. map (named_source R) (flat_map (part_bits ns) parts)) (sym e) ∙ parts-back bits fits.1)
