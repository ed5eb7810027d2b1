-- What leads to a net bit through an instance, told by its connections.
use Rattle.std.proofs.Common.{◌≡◌, ◌≢◌, ℕ, zero, suc, ◌+◌, ◌<◌, ◌==◌, nat_lt, Bool, true, false, cond, not, List, [], ◌∷◌, length, flat_map, get_or, slice_get, position, sum_by, count_by, Option, Some, None, option_map, option_and_then, unwrap_or, All, AllPairs, refl, sym, ap, ◌∙◌, arith, eqb-true, eq-eqb}
use Rattle.std.specs.List.{zip, position_or_len}
use Rattle.std.proofs.lemmas.Bool.{true≢false}
use Rattle.std.proofs.lemmas.Bool.Decides.{nat_tests}
use Rattle.std.proofs.lemmas.List.Elements.{All-head, All-tail}
use Rattle.std.proofs.lemmas.List.Sums.{sum_by-cons, sum_by-append}
use Rattle.emh_base.specs.declared.ids.ModId.{ModId}
use Rattle.emh_base.specs.declared.ids.NetId.{NetId}
use Rattle.emh_base.specs.declared.ids.InstId.{InstId}
use Rattle.emh_base.specs.declared.plain.Src.{Src}
use Rattle.emh_base.specs.declared.plain.Src.TheVariants as src
use Rattle.emh_base.specs.declared.plain.Conn.{Conn}
use Rattle.emh_base.specs.declared.plain.Conn.TheVariants.{Open, Bits}
use Rattle.emh_base.specs.declared.plain.PPort.{PPort}
use Rattle.emh_base.specs.declared.plain.PInst.{PInst}
use Rattle.emh_base.specs.declared.plain.PModule.{PModule}
use Rattle.emh_base.specs.declared.plain.Plain.{Plain}
use Rattle.emh_base.specs.declared.root.Root.{Root}
use Rattle.emh_base.specs.declared.root.Root.TheVariants.{Tie0, Tie1, Own}
use Rattle.flatten_rules.specs.Lookup.{module_of, inst_of}
use Rattle.flatten_rules.specs.Root.{bit_of, source_through, root_of_source, root_up}
use Rattle.flatten_rules.specs.Unfolding.{module_up}
use Rattle.reports.specs.Net.{is_same}
use Rattle.reports.specs.inside.Below.{over}
use Rattle.reports.specs.inside.Links.{Link, links_from, links_of_conn, links_of, is_bit, joined}
use Rattle.reports.proofs.Roots.{same-itself}
use Rattle.reports.proofs.Lists.{sum-each, sum-plus, sum-none}
use Rattle.reports.proofs.PinsAt.{tell-alike, never-same}

position-cons : {X : Type 0} (p : X → Bool) (x : X) (xs : List X) → position p (x ∷ xs) ≡ cond (p x) (Some 0) (option_map (λ k. suc k) (position p xs))
position-cons p x xs = at (p x)
  where
    later : (a b : Bool) (k : ℕ) → a ≡ b → cond a (Some (1 + k)) None ≡ option_map (λ j. suc j) (cond b (Some k) None)
    later true true k same = ap (λ j. Some j) (omega arith)
    later false false k same = refl
    later true false k same = absurd (true≢false same)
    later false true k same = absurd (true≢false (sym same))

    at : (b : Bool) → cond (nat_lt (cond (not b) (1 + position_or_len p xs) 0) (suc (length xs))) (Some (cond (not b) (1 + position_or_len p xs) 0)) None ≡ cond b (Some 0) (option_map (λ k. suc k) (position p xs))
    at true = let less : nat_lt 0 (suc (length xs)) ≡ true = grind (arith, nat_tests) in ap (λ b. cond b (Some 0) None) less
    at false =
        later (nat_lt (1 + position_or_len p xs) (suc (length xs))) (nat_lt (position_or_len p xs) (length xs)) (position_or_len p xs)
        (tell-alike (nat_lt (1 + position_or_len p xs) (suc (length xs))) (nat_lt (position_or_len p xs) (length xs)) (λ less. grind (arith, nat_tests)) (λ less. grind (arith, nat_tests)))

zero-either : (b : Bool) → cond b zero zero ≡ zero
zero-either true = refl
zero-either false = refl

-- whether a source is a net bit, where it is one at all
abbrev found_bit : NetId → ℕ → Option Src → ℕ
found_bit net offset None = 0
found_bit net offset (Some source) = cond (is_bit net offset source) 1 0

same-net : (a b : NetId) → a.0 ≡ b.0 → a ≡ b
same-net a b e = let make : ℕ → NetId = λ n. record { 0 = n } in ap make e

-- a bit of the master, and a net bit of the module that has the instance
module _ (net : NetId) (offset : ℕ) (n : NetId) (k : ℕ) where
  abbrev tells : Link → ℕ
  tells link = cond (is_bit net offset link.source) (cond (is_same (Own [] link.port link.offset) (Own [] n k)) 1 0) 0

  tells-none : (link : Link) → (Own [] n k ≡ Own [] link.port link.offset → ⊥) → tells link ≡ 0
  tells-none link apart =
      ap (λ b. cond (is_bit net offset link.source) (cond b 1 0) 0) (never-same (Own [] link.port link.offset) (Own [] n k) apart) ∙ zero-either (is_bit net offset link.source)

  none-before : (port : NetId) (at : ℕ) (bits : List Src) → k < at → sum_by tells (links_from port at bits) ≡ 0
  none-before port at [] less = refl
  none-before port at (s ∷ bits) less =
      let link : Link = record { port = port; offset = at; source = s } in
      let here : tells link ≡ 0 = tells-none link (λ is. let e : k ≡ at = cc in absurd (omega (arith, e, less))) in
      omega (arith, sum_by-cons tells link (links_from port (at + 1) bits), here, none-before port (at + 1) bits (omega arith))

  none-elsewhere : (port : NetId) (at : ℕ) (bits : List Src) → port ≢ n → sum_by tells (links_from port at bits) ≡ 0
  none-elsewhere port at [] apart = refl
  none-elsewhere port at (s ∷ bits) apart =
      let link : Link = record { port = port; offset = at; source = s } in
      let here : tells link ≡ 0 = tells-none link (λ is. apart (let e : port ≡ n = cc in e)) in
      omega (arith, sum_by-cons tells link (links_from port (at + 1) bits), here, none-elsewhere port (at + 1) bits apart)

  at-port : (port : NetId) (at : ℕ) (bits : List Src) (j : ℕ) → port ≡ n → k ≡ at + j → sum_by tells (links_from port at bits) ≡ found_bit net offset (slice_get bits j)
  at-port port at [] j same is = refl
  at-port port at (s ∷ bits) zero same is =
      let link : Link = record { port = port; offset = at; source = s } in
      let here : k ≡ at = omega (arith, is) in
      let root : Own [] n k ≡ Own [] port at = λ x. Own [] (sym same x) (here x) in
      let yes : is_same (Own [] port at) (Own [] n k) ≡ true = ap (is_same (Own [] port at)) root ∙ same-itself (Own [] port at) in
      let this : tells link ≡ cond (is_bit net offset s) 1 0 = ap (λ b. cond (is_bit net offset s) (cond b 1 0) 0) yes in
      omega (arith, sum_by-cons tells link (links_from port (at + 1) bits), this, none-before port (at + 1) bits (omega arith))
  at-port port at (s ∷ bits) (suc j) same is =
      let link : Link = record { port = port; offset = at; source = s } in
      let here : tells link ≡ 0 = tells-none link (λ e. let same_bit : k ≡ at = cc in absurd (omega (arith, same_bit, is))) in
      omega (arith, sum_by-cons tells link (links_from port (at + 1) bits), here, at-port port (at + 1) bits j same (omega (arith, is)))

  other-conn : (port : NetId) (conn : Conn) → port ≢ n → sum_by tells (links_of_conn port conn) ≡ 0
  other-conn port Open apart = refl
  other-conn port (Bits bits) apart = none-elsewhere port 0 bits apart

  this-conn : (port : NetId) (conn : Conn) → port ≡ n → sum_by tells (links_of_conn port conn) ≡ found_bit net offset (bit_of conn k)
  this-conn port Open same = refl
  this-conn port (Bits bits) same = at-port port 0 bits k same (omega arith)

  no-port : (ports : List PPort) (conns : List Conn) → All (λ (port : PPort). port.net ≢ n) ports → sum_by tells (flat_map links_of (zip ports conns)) ≡ 0
  no-port [] conns apart = refl
  no-port (port ∷ ports) [] apart = refl
  no-port (port ∷ ports) (conn ∷ conns) apart =
      let Other : PPort → Type 0 = λ (p : PPort). p.net ≢ n in
      omega (
        arith,
        sum_by-append tells (links_of_conn port.net conn) (flat_map links_of (zip ports conns)),
        other-conn port.net conn (All-head Other port ports apart),
        no-port ports conns (All-tail Other port ports apart),
      )

  source_at : List PPort → List Conn → Option Src
  source_at ports conns = option_and_then (λ conn. bit_of conn k) (option_and_then (slice_get conns) (position (λ (port : PPort). port.net.0 == n.0) ports))

  no-conn : (at : Option ℕ) → option_and_then (λ conn. bit_of conn k) (option_and_then (slice_get []) at) ≡ None
  no-conn None = refl
  no-conn (Some i) = refl

  one-on : (conn : Conn) (conns : List Conn) (at : Option ℕ) → option_and_then (slice_get (conn ∷ conns)) (option_map (λ i. suc i) at) ≡ option_and_then (slice_get conns) at
  one-on conn conns None = refl
  one-on conn conns (Some i) = refl

  pick : (ports : List PPort) (conns : List Conn) → AllPairs (λ (a b : PPort). a.net ≢ b.net) ports → sum_by tells (flat_map links_of (zip ports conns)) ≡ found_bit net offset (source_at ports conns)
  unfolding source_at
  pick [] conns differ = refl
  pick (port ∷ ports) [] differ = ap (found_bit net offset) (sym (no-conn (position (λ (p : PPort). p.net.0 == n.0) (port ∷ ports))))
  pick (port ∷ ports) (conn ∷ conns) differ =
      sum_by-append tells (links_of_conn port.net conn) (flat_map links_of (zip ports conns))
      ∙ by_port (port.net.0 == n.0) refl (pick ports conns (λ i j d low within. differ (suc i) (suc j) d (omega arith) (omega arith)))
      ∙ ap (λ at. found_bit net offset (option_and_then (λ c. bit_of c k) (option_and_then (slice_get (conn ∷ conns)) at))) (sym (position-cons (λ (p : PPort). p.net.0 == n.0) port ports))
    where
      by_port : (b : Bool) → (port.net.0 == n.0) ≡ b
          → sum_by tells (flat_map links_of (zip ports conns)) ≡ found_bit net offset (option_and_then (λ c. bit_of c k) (option_and_then (slice_get conns) (position (λ (p : PPort). p.net.0 == n.0) ports)))
          → sum_by tells (links_of_conn port.net conn) + sum_by tells (flat_map links_of (zip ports conns))
          ≡ found_bit net offset (option_and_then (λ c. bit_of c k) (option_and_then (slice_get (conn ∷ conns)) (cond b (Some 0) (option_map (λ i. suc i) (position (λ (p : PPort). p.net.0 == n.0) ports)))))
      by_port true is more =
          let same : port.net ≡ n = same-net port.net n (eqb-true port.net.0 n.0 is) in
          let rest : sum_by tells (flat_map links_of (zip ports conns)) ≡ 0 = no-port ports conns (λ i d within e. differ 0 (suc i) d (omega arith) (omega arith) (same ∙ sym e)) in
          omega (arith, rest, this-conn port.net conn same)
      by_port false is more =
          let apart : port.net ≢ n = λ e. true≢false (sym (eq-eqb port.net.0 n.0 (ap (λ (x : NetId). x.0) e)) ∙ is) in
          ap (λ x. x + sum_by tells (flat_map links_of (zip ports conns))) (other-conn port.net conn apart)
          ∙ ap (λ x. 0 + x) more
          ∙ ap (λ at. 0 + found_bit net offset (option_and_then (λ c. bit_of c k) at)) (sym (one-on conn conns (position (λ (p : PPort). p.net.0 == n.0) ports)))
          ∙ omega arith

module _ (M : Plain) (m : ModId) (i : InstId) (holder : PModule) (inst : PInst) (master : PModule) (there : module_of M m ≡ Some holder) (found : inst_of holder i ≡ Some inst) (is_master : module_of M inst.master ≡ Some master)
    (differ : AllPairs (λ (a b : PPort). a.net ≢ b.net) master.ports) (net : NetId) (offset : ℕ) where
  abbrev all : List Link
  all = flat_map links_of (zip master.ports inst.conns)

  root-one : (n : NetId) (k : ℕ) → found_bit net offset (source_through inst master n k) ≡ cond (is_same (Own [] net offset) (root_up M m (i ∷ []) n k)) 1 0
  unfolding root_up module_up
  root-one n k = rw (there, found, is_master) (by_source (source_through inst master n k))
    where
      by_source : (s : Option Src) → found_bit net offset s ≡ cond (is_same (Own [] net offset) (unwrap_or (option_map (root_of_source (λ a b. Own [] a b)) s) (Own (i ∷ []) n k))) 1 0
      by_source None = ap (λ b. cond b 1 0) (sym (never-same (Own [] net offset) (Own (i ∷ []) n k) (λ is. cc)))
      by_source (Some src.Tie0) = refl
      by_source (Some src.Tie1) = refl
      by_source (Some (src.Bit a b)) = refl

  nothing-told : (r : Root) → ((port : NetId) (at : ℕ) → is_same (Own [] port at) r ≡ false) → sum_by (λ (link : Link). cond (is_bit net offset link.source) (cond (is_same (Own [] link.port link.offset) r) 1 0) 0) all ≡ 0
  nothing-told r never =
      sum-none (λ (link : Link). cond (is_bit net offset link.source) (cond (is_same (Own [] link.port link.offset) r) 1 0) 0) all
      (λ link. ap (λ b. cond (is_bit net offset link.source) (cond b 1 0) 0) (never link.port link.offset) ∙ zero-either (is_bit net offset link.source))

  pick-root : (r : Root) → sum_by (λ (link : Link). cond (is_bit net offset link.source) (cond (is_same (Own [] link.port link.offset) r) 1 0) 0) all ≡ cond (is_same (Own [] net offset) (over M m i r)) 1 0
  unfolding source_at
  pick-root Tie0 = nothing-told Tie0 (λ port at. refl)
  pick-root Tie1 = nothing-told Tie1 (λ port at. refl)
  pick-root (Own [] n k) = pick net offset n k master.ports inst.conns differ ∙ root-one n k
  pick-root (Own (a ∷ q) n k) =
      nothing-told (Own (a ∷ q) n k) (λ port at. never-same (Own [] port at) (Own (a ∷ q) n k) (λ is. cc))
      ∙ ap (λ b. cond b 1 0) (sym (never-same (Own [] net offset) (Own (i ∷ a ∷ q) n k) (λ is. cc)))

  -- what leads to a net bit through an instance, by what leads to the bits of its master's ports
  pub joined-roots : (roots : List Root) → joined (λ port at. count_by (is_same (Own [] port at)) roots) net offset all ≡ count_by (λ r. is_same (Own [] net offset) (over M m i r)) roots
  joined-roots [] = sum-none (λ (link : Link). cond (is_bit net offset link.source) 0 0) all (λ link. zero-either (is_bit net offset link.source))
  joined-roots (r ∷ roots) =
      let head : Link → ℕ = λ (link : Link). cond (is_bit net offset link.source) (cond (is_same (Own [] link.port link.offset) r) 1 0) 0 in
      let tail : Link → ℕ = λ (link : Link). cond (is_bit net offset link.source) (count_by (is_same (Own [] link.port link.offset)) roots) 0 in
      sum-each (λ (link : Link). cond (is_bit net offset link.source) (count_by (is_same (Own [] link.port link.offset)) (r ∷ roots)) 0) (λ (link : Link). head link + tail link) all
      (λ at d within. let link : Link = get_or all at d in parts (is_bit net offset link.source) (λ x. cond (is_same (Own [] link.port link.offset) x) 1 0))
      ∙ sum-plus head tail all
      ∙ ap (λ x. x + sum_by tail all) (pick-root r)
      ∙ ap (λ x. cond (is_same (Own [] net offset) (over M m i r)) 1 0 + x) (joined-roots roots)
      ∙ sym (sum_by-cons (λ x. cond (is_same (Own [] net offset) (over M m i x)) 1 0) r roots)
    where
      parts : (b : Bool) (f : Root → ℕ) → cond b (sum_by f (r ∷ roots)) 0 ≡ cond b (f r) 0 + cond b (sum_by f roots) 0
      parts true f = sum_by-cons f r roots
      parts false f = omega arith
