-- The source above a port's bit, by names.
use Rattle.std.proofs.Common.{arith, ◌≡◌, ℕ, zero, suc, ◌+◌, ◌<◌, ◌==◌, nat_lt, Bool, true, false, not, cond, List, [], ◌∷◌, map, length, get_or, slice_get, position, Option, Some, None, IsSome, option_map, option_and_then, bytes_eq, refl, sym, ap, ◌∙◌, subst, All, true≢false}
use Rattle.std.specs.List.{position_or_len, prefix_len}
use Rattle.std.proofs.lemmas.Bool.Decides.{nat_tests}
use Rattle.std.proofs.lemmas.Option.{slice_get-map, slice_get_within, get_or_from_slice_get}
use Rattle.std.proofs.lemmas.List.{length-map}
use Rattle.std.proofs.lemmas.List.Elements.{All-head, All-tail}
use Rattle.emh_base.specs.declared.ids.NetId.{NetId}
use Rattle.emh_base.specs.declared.plain.Src.{Src}
use Rattle.emh_base.specs.declared.plain.Src.TheVariants as src
use Rattle.emh_base.specs.declared.plain.Conn.{Conn}
use Rattle.emh_base.specs.declared.plain.Conn.TheVariants.{Open, Bits}
use Rattle.emh_base.specs.declared.plain.PNet.{PNet}
use Rattle.emh_base.specs.declared.plain.PPort.{PPort}
use Rattle.emh_base.specs.declared.plain.PInst.{PInst}
use Rattle.emh_base.specs.declared.plain.PModule.{PModule}
use Rattle.emh_base.specs.declared.plain.Plain.{Plain}
use Rattle.flatten_rules.specs.Lookup.{net_of, width_of}
use Rattle.flatten_rules.specs.Root.{bit_of, source_through}
use Rattle.flatten_rules.specs.Sound.{IsSoundModule, IsSource, FitPorts}
use Rattle.flatten_rules.proofs.Walks.{some-there}
use Rattle.named_tables.specs.NamedTable.{NamedSource, NamedPort, NamedInst, NamedModule, NamedTable, net_name, named_port, named_conn, named_source, named_inst, named_module, named_table}
use Rattle.named_tables.proofs.Names.{bytes_eq-refl, bytes_eq-other, one-net}

abbrev pub ports_in : Option NamedModule → List NamedPort
ports_in None = []
ports_in (Some m) = m.ports

abbrev pub source_at : Option (List NamedSource) → ℕ → Option NamedSource
source_at None offset = None
source_at (Some bits) offset = slice_get bits offset

-- the source of a bit of the port of that name
abbrev pub through : NamedTable → NamedInst → List ℕ → ℕ → Option NamedSource
through T inst net offset =
    option_and_then (λ conn. source_at conn offset)
    (option_and_then (slice_get inst.conns) (position (λ (p : NamedPort). bytes_eq p.name net) (ports_in (T inst.master))))

prefix-mapped : {X Y : Type 0} (p : Y → Bool) (q : X → Bool) (f : X → Y) (xs : List X) → All (λ x. p (f x) ≡ q x) xs → prefix_len (λ y. not (p y)) (map f xs) ≡ prefix_len (λ x. not (q x)) xs
prefix-mapped p q f [] all = refl
prefix-mapped {X} p q f (x ∷ xs) all =
    ap (λ b. cond (not b) (1 + prefix_len (λ y. not (p y)) (map f xs)) 0) (All-head (λ x. p (f x) ≡ q x) x xs all)
    ∙ ap (λ n. cond (not (q x)) (1 + n) 0) (prefix-mapped p q f xs (All-tail (λ x. p (f x) ≡ q x) x xs all))

pub position-mapped : {X Y : Type 0} (p : Y → Bool) (q : X → Bool) (f : X → Y) (xs : List X) → All (λ x. p (f x) ≡ q x) xs → position p (map f xs) ≡ position q xs
position-mapped p q f xs all =
    ap (λ n. cond (nat_lt n (length (map f xs))) (Some n) None) (prefix-mapped p q f xs all)
    ∙ ap (λ n. cond (nat_lt (position_or_len q xs) n) (Some (position_or_len q xs)) None) (length-map xs f)

-- a port is told by its name
port-named : (M : Plain) (m : PModule) (id : NetId) (net : PNet) (port : PPort) → IsSoundModule M m → net_of m id ≡ Some net → IsSome (net_of m port.net)
    → bytes_eq (net_name (net_of m port.net)) net.name ≡ (port.net.0 == id.0)
port-named M m id net port s found there = at_b (port.net.0 == id.0) refl
  where
    at_b : (b : Bool) → (port.net.0 == id.0) ≡ b → bytes_eq (net_name (net_of m port.net)) net.name ≡ b
    at_b true e =
        let n : port.net.0 ≡ id.0 = grind (arith, nat_tests) in
        let make : ℕ → NetId = λ n. record { 0 = n } in
        let same : port.net ≡ id = ap make n in
        rw (same, found) (bytes_eq-refl net.name)
    at_b false e =
        let own = some-there (net_of m port.net) there in
        ap (λ o. bytes_eq (net_name o) net.name) own.1
        ∙ bytes_eq-other own.0.name net.name (λ same.
        let ids : port.net ≡ id = one-net M m port.net id own.0 net s own.1 found same in
        let n : port.net.0 ≡ id.0 = ap (λ (i : NetId). i.0) ids in
        absurd (true≢false (sym (yes n) ∙ e)))
      where
        yes : port.net.0 ≡ id.0 → (port.net.0 == id.0) ≡ true
        yes n = grind (arith, nat_tests)

bit-mapped : (m : PModule) (offset : ℕ) (found : Option Conn) → option_map (named_source m) (option_and_then (λ conn. bit_of conn offset) found) ≡ option_and_then (λ conn. source_at conn offset) (option_map (named_conn m) found)
bit-mapped m offset None = refl
bit-mapped m offset (Some Open) = refl
bit-mapped m offset (Some (Bits bits)) = sym (slice_get-map (named_source m) bits offset)

place-mapped : (m : PModule) (conns : List Conn) (offset : ℕ) (place : Option ℕ)
    → option_map (named_source m) (option_and_then (λ conn. bit_of conn offset) (option_and_then (slice_get conns) place))
    ≡ option_and_then (λ conn. source_at conn offset) (option_and_then (slice_get (map (named_conn m) conns)) place)
place-mapped m conns offset None = refl
place-mapped m conns offset (Some k) = bit-mapped m offset (slice_get conns k) ∙ sym (ap (option_and_then (λ conn. source_at conn offset)) (slice_get-map (named_conn m) conns k))

pub source-named : (M : Plain) (holder : PModule) (inst : PInst) (master : PModule) (id : NetId) (net : PNet) (offset : ℕ)
    → IsSoundModule M master → named_table M (named_inst M holder inst).master ≡ Some (named_module M master) → net_of master id ≡ Some net
    → option_map (named_source holder) (source_through inst master id offset) ≡ through (named_table M) (named_inst M holder inst) net.name offset
source-named M holder inst master id net offset s there found =
    let ports : ports_in (named_table M (named_inst M holder inst).master) ≡ map (named_port master) master.ports = ap ports_in there in
    let place : position (λ (p : NamedPort). bytes_eq p.name net.name) (ports_in (named_table M (named_inst M holder inst).master)) ≡ position (λ (port : PPort). port.net.0 == id.0) master.ports =
    ap (position (λ (p : NamedPort). bytes_eq p.name net.name)) ports
    ∙ position-mapped (λ (p : NamedPort). bytes_eq p.name net.name) (λ (port : PPort). port.net.0 == id.0) (named_port master) master.ports
    (λ k d within. port-named M master id net (get_or master.ports k d) s found (s.ports_there k d within)) in
    place-mapped holder inst.conns offset (position (λ (port : PPort). port.net.0 == id.0) master.ports)
    ∙ sym (ap (λ p. option_and_then (λ conn. source_at conn offset) (option_and_then (slice_get (map (named_conn holder) inst.conns)) p)) place)

-- the net of a source is there
fits-sources : (m master : PModule) (ports : List PPort) (conns : List Conn) (k : ℕ) (bits : List Src) → FitPorts m master ports conns → slice_get conns k ≡ Some (Bits bits) → All (IsSource m) bits
fits-sources m master [] [] k bits fits at = let never : None ≡ Some (Bits bits) = at in absurd (cc)
fits-sources m master [] (conn ∷ conns) k bits fits at = absurd fits
fits-sources m master (port ∷ ports) [] k bits fits at = absurd fits
fits-sources m master (port ∷ ports) (Open ∷ conns) zero bits fits at = let never : Some Open ≡ Some (Bits bits) = at in absurd (cc)
fits-sources m master (port ∷ ports) (Bits these ∷ conns) zero bits fits at =
    let same : these ≡ bits = let both : Some (Bits these) ≡ Some (Bits bits) = at in cc in subst (λ (bs : List Src). All (IsSource m) bs) same fits.0.1
fits-sources m master (port ∷ ports) (conn ∷ conns) (suc k) bits fits at = fits-sources m master ports conns k bits fits.1 at

pub source-there : (m : PModule) (inst : PInst) (master : PModule) (id net : NetId) (offset at : ℕ) → FitPorts m master master.ports inst.conns
    → source_through inst master id offset ≡ Some (src.Bit net at) → (own : PNet) × (net_of m net ≡ Some own)
source-there m inst master id net offset at fits is = at_place (position (λ (port : PPort). port.net.0 == id.0) master.ports) is
  where
    at_net : (o : Option PNet) → net_of m net ≡ o → at < width_of o → (own : PNet) × (net_of m net ≡ Some own)
    at_net None e low = absurd (omega (arith, low))
    at_net (Some own) e low = (own, e)

    at_conn : (k : ℕ) (o : Option Conn) → slice_get inst.conns k ≡ o → option_and_then (λ conn. bit_of conn offset) o ≡ Some (src.Bit net at) → (own : PNet) × (net_of m net ≡ Some own)
    at_conn k None e h = let never : None ≡ Some (src.Bit net at) = h in absurd (cc)
    at_conn k (Some Open) e h = let never : None ≡ Some (src.Bit net at) = h in absurd (cc)
    at_conn k (Some (Bits bits)) e h =
        let all : All (IsSource m) bits = fits-sources m master master.ports inst.conns k bits fits e in
        let one : IsSource m (get_or bits offset (src.Bit net at)) = all offset (src.Bit net at) (slice_get_within bits offset (src.Bit net at) h) in
        at_net (net_of m net) refl (subst (IsSource m) (get_or_from_slice_get bits offset (src.Bit net at) (src.Bit net at) h) one)

    at_place : (place : Option ℕ) → option_and_then (λ conn. bit_of conn offset) (option_and_then (slice_get inst.conns) place) ≡ Some (src.Bit net at) → (own : PNet) × (net_of m net ≡ Some own)
    at_place None h = let never : None ≡ Some (src.Bit net at) = h in absurd (cc)
    at_place (Some k) h = at_conn k (slice_get inst.conns k) refl h
