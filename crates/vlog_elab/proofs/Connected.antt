-- Connections that pass fit the ports of their masters: their bits are bits of nets, and as many as the port has.
use Rattle.std.proofs.Common.{arith, ◌≡◌, ℕ, zero, suc, ◌+◌, ◌-◌, ◌/◌, ◌%◌, ◌^◌, ◌≤◌, ◌<◌, ◌==◌, [], ◌∷◌, None, Some, Option, Bool, true, false, List, take, find, length, get_or, slice_get, is_some, MatchOption, refl, sym, ◌∙◌, ap, subst, cond, bytes_eq}
use Rattle.std.specs.Prelude.{not, ◌||◌, ◌&&◌, nat_lt, nat_le, is_none, sum_by}
use Rattle.std.specs.List.{flat_map, list_any, All, AllPairs}
use Rattle.std.specs.Option.{option_and_then}
use Rattle.std.proofs.lemmas.Bool.Decides.{nat_tests}
use Rattle.std.proofs.lemmas.List.{length-append, length-take-le}
use Rattle.std.proofs.lemmas.List.Sums.{sum_by-cons}
use Rattle.std.proofs.lemmas.Option.{slice_get_within, slice_get-get_or, get_or_from_slice_get}
use Rattle.emh_base.specs.declared.ids.NetId.{NetId}
use Rattle.emh_base.specs.declared.plain.Range.{Range}
use Rattle.emh_base.specs.declared.plain.Src.{Src}
use Rattle.emh_base.specs.declared.plain.Src.TheVariants as src
use Rattle.emh_base.specs.declared.plain.Conn.{Conn}
use Rattle.emh_base.specs.declared.plain.Conn.TheVariants as conn
use Rattle.emh_base.specs.declared.plain.PPort.{PPort}
use Rattle.emh_base.specs.declared.plain.PModule.{PModule}
use Rattle.emh_base.specs.declared.plain.Plain.{Plain}
use Rattle.flatten_rules.specs.Lookup.{module_of, net_of, width, width_of, bits_from}
use Rattle.flatten_rules.specs.Sound.{IsSource, FitsPort, FitPorts, HasMaster}
use Rattle.flatten_rules.proofs.Checking.{fit-from_each}
use Rattle.vlog_read.specs.declared.tree.At.{At}
use Rattle.vlog_read.specs.declared.tree.Part.{Part}
use Rattle.vlog_read.specs.declared.tree.Part.TheVariants.{Name, Bit, Bits, Lit}
use Rattle.vlog_read.specs.declared.tree.TConn.{TConn}
use Rattle.vlog_read.specs.declared.tree.TInst.{TInst}
use Rattle.vlog_elab.specs.declared.fault.ElabKind.TheVariants as kind
use Rattle.vlog_elab.specs.declared.interface.Port.{Port}
use Rattle.vlog_elab.specs.declared.interface.Interface.{Interface}
use Rattle.vlog_elab.specs.declared.scope.Net.{Net}
use Rattle.flatten_rules.specs.Check.{first_broken}
use Rattle.vlog_elab.specs.Check.{check_at, check}
use Rattle.vlog_elab.specs.Named.{Named, named, is_there, place_of}
use Rattle.vlog_elab.specs.Steps.{ports_of}
use Rattle.vlog_elab.specs.Connections.{port_named, ports_named, net_range, has_index, has_indices, runs_against, mixes, conn_checks, part_width, port_at, width_checks}
use Rattle.vlog_elab.specs.Table.{net_id, offset_in, tie_of, literal_bits, part_bits, conn_bits, conn_of, is_to, conn_to, conns_of, master_id, inst_row}
use Rattle.vlog_elab.proofs.Each.{all_none, all_cons, all_head, all_tail}
use Rattle.vlog_elab.proofs.Naming.{same_name}
use Rattle.vlog_elab.proofs.Numbering.{length-numbered}
use Rattle.vlog_elab.proofs.Passing.{and_both, not_false, unbroken, three_unbroken}
use Rattle.vlog_elab.proofs.Finding.{Differ, own_place, numbered_at}
use Rattle.vlog_elab.proofs.Fitting.{PartFits, ConnFits, InstFits, all_flat}

-- Bits of nets.

all_bits : (R : PModule) (net : NetId) (offset count : ℕ) → offset + count ≤ width_of (net_of R net) → All (IsSource R) (bits_from net offset count)
all_bits R net offset zero h = all_none (IsSource R)
all_bits R net offset (suc n) h =
    all_cons (IsSource R) (src.Bit net offset) (bits_from net (offset + 1) n) (omega (arith, h)) (all_bits R net (offset + 1) n (omega (arith, h)))

many_bits : (net : NetId) (offset count : ℕ) → length (bits_from net offset count) ≡ count
many_bits net offset zero = refl
many_bits net offset (suc n) = ap suc (many_bits net (offset + 1) n)

tie_is_source : (R : PModule) (value place : ℕ) → IsSource R (tie_of value place)
tie_is_source R value place = at_b (value / 2 ^ place % 2 == 1)
  where
    at_b : (b : Bool) → IsSource R (cond b src.Tie1 src.Tie0)
    at_b true = tt
    at_b false = tt

all_ties : (R : PModule) (size value : ℕ) → All (IsSource R) (literal_bits size value)
all_ties R zero value = all_none (IsSource R)
all_ties R (suc n) value = all_cons (IsSource R) (tie_of value n) (literal_bits n value) (tie_is_source R value n) (all_ties R n value)

many_ties : (size value : ℕ) → length (literal_bits size value) ≡ size
many_ties zero value = refl
many_ties (suc n) value = ap suc (many_ties n value)

-- Selects.

index_within : (r : Range) (index : ℕ) → has_index (Some r) index ≡ true → offset_in (Some r) index + 1 ≤ width (Some r)
index_within r index h = within r.left r.right index h
  where
    within : (a b i : ℕ) → (nat_le a i && nat_le i b) || (nat_le b i && nat_le i a) ≡ true → (a - i) + (i - a) + 1 ≤ (a - b) + (b - a) + 1
    within a b i h = grind (arith, nat_tests)

indices_within : (r s : Range) → has_indices (Some r) s ≡ true → offset_in (Some r) s.left + width (Some s) ≤ width (Some r)
indices_within r s h =
    let one = and_both (has_index (Some r) s.left && has_index (Some r) s.right) (not (runs_against r s)) h in
    let two = and_both (has_index (Some r) s.left) (has_index (Some r) s.right) one.0 in
    within r.left r.right s.left s.right two.0 two.1 one.1
  where
    within : (a b i j : ℕ) → (nat_le a i && nat_le i b) || (nat_le b i && nat_le i a) ≡ true → (nat_le a j && nat_le j b) || (nat_le b j && nat_le j a) ≡ true
        → not ((nat_lt b a && nat_lt i j) || (nat_lt a b && nat_lt j i)) ≡ true → (a - i) + (i - a) + ((i - j) + (j - i) + 1) ≤ (a - b) + (b - a) + 1
    within a b i j g h k = grind (arith, nat_tests)

-- Names of nets that are there have nets in the module.
abbrev pub HasNamed : PModule → Named Net → Type 0
HasNamed R ns = (q : List ℕ) (net : Net) → named ns q ≡ Some net → width_of (net_of R (net_id ns q)) ≡ width net.range

-- a net of which there is a select has a range
pub record Selects (ns : Named Net) (q : List ℕ) (test : Option Range → Bool) : Type 0 where
  pub net : Net
  pub range : Range
  pub found : named ns q ≡ Some net
  pub ranged : net.range ≡ Some range
  pub passes : test (Some range) ≡ true

selects : (ns : Named Net) (q : List ℕ) (test : Option Range → Bool) → test None ≡ false → test (net_range (named ns q)) ≡ true → Selects ns q test
selects ns q test never h = at_o (named ns q) refl h
  where
    at_range : (net : Net) → named ns q ≡ Some net → (o : Option Range) → net.range ≡ o → test o ≡ true → Selects ns q test
    at_range net e None f h = let no : true ≡ false = sym h ∙ never in absurd (cc no)
    at_range net e (Some range) f h = record { net = net; range = range; found = e; ranged = f; passes = h }

    at_o : (o : Option Net) → named ns q ≡ o → test (net_range o) ≡ true → Selects ns q test
    at_o None e h = let no : true ≡ false = sym h ∙ never in absurd (cc no)
    at_o (Some net) e h = at_range net e net.range refl h

-- the bits of a part are sources, as many as the part has
pub record Sources (R : PModule) (bits : List Src) (count : ℕ) : Type 0 where
  pub many : length bits ≡ count
  pub each : All (IsSource R) bits

part_sources : (R : PModule) (ns : Named Net) (p : Part) → HasNamed R ns → PartFits ns p → Sources R (part_bits ns p) (part_width ns p)
part_sources R ns (Name n) has fits =
    let wide : 0 + width (net_range (named ns n.name)) ≤ width_of (net_of R (net_id ns n.name)) = rw (has n.name fits.0 fits.1, fits.1) (omega arith) in
    record { many = many_bits (net_id ns n.name) 0 (width (net_range (named ns n.name))); each = all_bits R (net_id ns n.name) 0 (width (net_range (named ns n.name))) wide }
part_sources R ns (Bit n index) has fits =
    let s = selects ns n.name (λ r. has_index r index) refl fits in
    let here : net_range (named ns n.name) ≡ Some s.range = ap net_range s.found ∙ s.ranged in
    let wide : width_of (net_of R (net_id ns n.name)) ≡ width (Some s.range) = has n.name s.net s.found ∙ ap width s.ranged in
    let within : offset_in (net_range (named ns n.name)) index + 1 ≤ width_of (net_of R (net_id ns n.name)) = rw (here, wide) (index_within s.range index s.passes) in
    record { many = many_bits (net_id ns n.name) (offset_in (net_range (named ns n.name)) index) 1; each = all_bits R (net_id ns n.name) (offset_in (net_range (named ns n.name)) index) 1 within }
part_sources R ns (Bits n range) has fits =
    let s = selects ns n.name (λ r. has_indices r range) refl fits in
    let here : net_range (named ns n.name) ≡ Some s.range = ap net_range s.found ∙ s.ranged in
    let wide : width_of (net_of R (net_id ns n.name)) ≡ width (Some s.range) = has n.name s.net s.found ∙ ap width s.ranged in
    let within : offset_in (net_range (named ns n.name)) range.left + width (Some range) ≤ width_of (net_of R (net_id ns n.name)) = rw (here, wide) (indices_within s.range range s.passes) in
    record { many = many_bits (net_id ns n.name) (offset_in (net_range (named ns n.name)) range.left) (width (Some range)); each = all_bits R (net_id ns n.name) (offset_in (net_range (named ns n.name)) range.left) (width (Some range)) within }
part_sources R ns (Lit size value) has fits = record { many = many_ties size value; each = all_ties R size value }

parts_many : (R : PModule) (ns : Named Net) (ps : List Part) → HasNamed R ns → All (PartFits ns) ps → length (flat_map (part_bits ns) ps) ≡ sum_by (part_width ns) ps
parts_many R ns [] has fits = refl
parts_many R ns (p ∷ ps) has fits =
    length-append (part_bits ns p) (flat_map (part_bits ns) ps)
    ∙ ap (λ n. n + length (flat_map (part_bits ns) ps)) (part_sources R ns p has (all_head (PartFits ns) p ps fits)).many
    ∙ ap (λ n. part_width ns p + n) (parts_many R ns ps has (all_tail (PartFits ns) p ps fits))
    ∙ sym (sum_by-cons (part_width ns) p ps)

-- Connections.

-- a connection is open, or has so many sources
abbrev pub FitsWidth : PModule → ℕ → Conn → Type 0
FitsWidth R count conn.Open = Unit {0}
FitsWidth R count (conn.Bits bits) = (length bits ≡ count) × All (IsSource R) bits

same_number : (a b : ℕ) → not (a == b) ≡ false → a ≡ b
same_number a b h = let e : a == b ≡ true = not_false (a == b) h in grind (arith, nat_tests)

parts_fit : (R : PModule) (ns : Named Net) (c : TConn) (ps : List Part) (port : List ℕ × Port) → HasNamed R ns → All (PartFits ns) ps → first_broken (width_checks ns c ps (Some port)) ≡ None
    → FitsWidth R (width port.1.range) (conn_bits ns ps)
parts_fit R ns c [] port has fits h = tt
parts_fit R ns c (p ∷ ps) port has fits h =
    let sum : sum_by (part_width ns) (p ∷ ps) ≡ width port.1.range = same_number _ _ (unbroken (check_at kind.WidthMismatch c.expr_at port.0 (not (sum_by (part_width ns) (p ∷ ps) == width port.1.range))) [] h).0 in
    (parts_many R ns (p ∷ ps) has fits ∙ sum, all_flat (IsSource R) (PartFits ns) (part_bits ns) (λ p f. (part_sources R ns p has f).each) (p ∷ ps) fits)

conn_sound : (R : PModule) (ns : Named Net) (ports : Named Port) (inst : At) (before : List TConn) (c : TConn) (port : List ℕ × Port) → HasNamed R ns → ConnFits ns ports inst before c
    → port_at ports before c.port ≡ Some port → FitsWidth R (width port.1.range) (conn_bits ns c.parts)
conn_sound R ns ports inst before c port has fits at =
    parts_fit R ns c c.parts port has fits.parts (ap (λ o. first_broken (width_checks ns c c.parts o)) (sym at) ∙ fits.width)

-- an item that is found has a place, and passes
pub find_place : {X : Type 0} (p : X → Bool) (xs : List X) (x : X) → find p xs ≡ Some x → (k : ℕ) × (slice_get xs k ≡ Some x) × (p x ≡ true)
find_place p [] x h = absurd (cc h)
find_place {X} p (y ∷ xs) x h = at_b (λ h. find_place p xs x h) (p y) refl h
  where
    at_b : (find p xs ≡ Some x → (k : ℕ) × (slice_get xs k ≡ Some x) × (p x ≡ true)) → (b : Bool) → p y ≡ b → cond b (Some y) (find p xs) ≡ Some x
        → (k : ℕ) × (slice_get (y ∷ xs) k ≡ Some x) × (p x ≡ true)
    at_b rest true e h = let same : y ≡ x = cc h in (0, h, subst (λ (x : X). p x ≡ true) same e)
    at_b rest false e h = let more = rest h in (suc more.0, more.1, more.2)

abbrev the_unit : Unit {0}
the_unit = tt

-- the place of the port that a connection by name is to
place_by_name : (ports : Named Port) (before : List TConn) (k : ℕ) (port : List ℕ × Port) (o : Option At) → AllPairs Differ ports → slice_get ports k ≡ Some port → is_there (port_named o) port.0 ≡ true
    → port_at ports before o ≡ Some port
place_by_name ports before k port None apart at h = absurd (cc h)
place_by_name ports before k port (Some n) apart at h = at_b (bytes_eq port.0 n.name) refl h
  where
    at_b : (b : Bool) → bytes_eq port.0 n.name ≡ b → is_some (cond b (Some the_unit) None) ≡ true → port_at ports before (Some n) ≡ Some port
    at_b false e h = absurd (cc h)
    at_b true e h =
        let same : port.0 ≡ n.name = same_name port.0 n.name e in
        ap (option_and_then (slice_get ports)) (ap (place_of ports) (sym same) ∙ own_place ports k port apart at) ∙ at

-- a connection to a port fits it
pub conn_to_fits : (R : PModule) (ns : Named Net) (ports : Named Port) (inst : At) (cs : List TConn) (k : ℕ) (port : List ℕ × Port) → HasNamed R ns
    → ((k : ℕ) (c : TConn) → slice_get cs k ≡ Some c → ConnFits ns ports inst (take k cs) c) → AllPairs Differ ports → slice_get ports k ≡ Some port
    → FitsWidth R (width port.1.range) (conn_of ns (conn_to cs k port.0))
conn_to_fits R ns ports inst [] k port has fits apart at = tt
conn_to_fits R ns ports inst (b ∷ cs) k port has fits apart at = at_b (is_some b.port) refl
  where
    all : List TConn
    all = b ∷ cs

    by_name : (o : Option TConn) → find (is_to port.0) all ≡ o → FitsWidth R (width port.1.range) (conn_of ns o)
    by_name None e = tt
    by_name (Some c) e =
        let place = find_place (is_to port.0) all c e in
        conn_sound R ns ports inst (take place.0 all) c port has (fits place.0 c place.1) (place_by_name ports (take place.0 all) k port c.port apart at place.2)

    -- after one by order there is none by name
    mixed : (k : ℕ) (c : TConn) (n : At) → is_some b.port ≡ false → slice_get all k ≡ Some c → c.port ≡ Some n → mixes (take k all) true ≡ false → ⊥
    mixed zero c n f e g h = let no : true ≡ false = sym (ap is_some (ap (λ (c : TConn). c.port) (let same : b ≡ c = cc e in same) ∙ g)) ∙ f in cc no
    mixed (suc k) c n f e g h =
        let none : is_none b.port ≡ true = at_o b.port f in
        let no : true ≡ false = sym (ap (λ x. x || list_any (λ (c : TConn). is_none c.port) (take k cs)) none) ∙ h in cc no
      where
        at_o : (o : Option At) → is_some o ≡ false → is_none o ≡ true
        at_o None f = refl
        at_o (Some n) f = absurd (cc f)

    order : is_some b.port ≡ false → (c : TConn) → slice_get all k ≡ Some c → (o : Option At) → c.port ≡ o → port_at ports (take k all) o ≡ Some port
    order f c e None g =
        let within : k < length all = slice_get_within all k c e in
        let len : length (take k all) ≡ k = length-take-le k all (omega (arith, within)) in
        ap (slice_get ports) len ∙ at
    order f c e (Some n) g =
        let fit : ConnFits ns ports inst (take k all) c = fits k c e in
        let checks : first_broken (conn_checks ports inst (take k all) c (Some n)) ≡ None = ap (λ o. first_broken (conn_checks ports inst (take k all) c o)) (sym g) ∙ fit.checks in
        let one : mixes (take k all) true ≡ false
        = (three_unbroken (check_at kind.Mixed c.at inst.name (mixes (take k all) true)) (check kind.UnknownPort n (not (is_there ports n.name))) (check kind.PortTwice n (is_there (ports_named (take k all)) n.name)) checks).0 in
        absurd (mixed k c n f e g one)

    by_order : is_some b.port ≡ false → (o : Option TConn) → slice_get all k ≡ o → FitsWidth R (width port.1.range) (conn_of ns o)
    by_order f None e = tt
    by_order f (Some c) e = conn_sound R ns ports inst (take k all) c port has (fits k c e) (order f c e c.port refl)

    at_b : (x : Bool) → is_some b.port ≡ x → FitsWidth R (width port.1.range) (conn_of ns (cond x (find (is_to port.0) all) (slice_get all k)))
    at_b true f = by_name (find (is_to port.0) all) refl
    at_b false f = by_order f (slice_get all k) refl

-- Instances.

-- a module is as its interface says
pub record IsFaceOf (interface : Interface) (master : PModule) : Type 0 where
  pub many : length master.ports ≡ length interface.ports
  pub apart : AllPairs Differ interface.ports
  pub widths : (k : ℕ) (port : List ℕ × Port) (d : PPort) → slice_get interface.ports k ≡ Some port → width_of (net_of master (get_or master.ports k d).net) ≡ width port.1.range

pub record HasModule (M : Plain) (interface : Interface) : Type 0 where
  pub master : PModule
  pub found : module_of M interface.id ≡ Some master
  pub is : IsFaceOf interface master

fits_port : (R master : PModule) (port : PPort) (count : ℕ) (c : Conn) → width_of (net_of master port.net) ≡ count → FitsWidth R count c → FitsPort R master port c
fits_port R master port count conn.Open e h = tt
fits_port R master port count (conn.Bits bits) e h = (h.0 ∙ sym e, h.1)

pub inst_sound : (M : Plain) (R : PModule) (ns : Named Net) (fs : Named Interface) (id : ℕ) (i : At × TInst) → HasNamed R ns → ((q : List ℕ) (interface : Interface) → named fs q ≡ Some interface → HasModule M interface)
    → InstFits ns fs i → HasMaster M R (inst_row fs ns id i)
inst_sound M R ns fs id i has known fits = at_o (named fs i.0.name) refl
  where
    with_face : (interface : Interface) → named fs i.0.name ≡ Some interface → MatchOption (module_of M interface.id) ⊥ (λ master. FitPorts R master master.ports (conns_of ns interface.ports i.1.conns))
    with_face interface e =
        let own : HasModule M interface = known i.0.name interface e in
        let conns : List Conn = conns_of ns interface.ports i.1.conns in
        let each : (k : ℕ) (c : TConn) → slice_get i.1.conns k ≡ Some c → ConnFits ns interface.ports i.1.name (take k i.1.conns) c
        = λ k c at. subst (λ (o : Option Interface). ConnFits ns (ports_of o) i.1.name (take k i.1.conns) c) e (fits.conns k c at) in
        let make : ℕ → List ℕ × Port → Conn = λ place port. conn_of ns (conn_to i.1.conns place port.0) in
        let fit : FitPorts R own.master own.master.ports conns
        = fit-from_each R own.master own.master.ports conns (own.is.many ∙ sym (length-numbered make 0 interface.ports))
        (λ k port c lt.
        let within : k < length interface.ports = omega (arith, lt, own.is.many) in
        let none : List ℕ × Port = ([], record { dir = port.dir; range = None }) in
        let p : List ℕ × Port = get_or interface.ports k none in
        let at : slice_get interface.ports k ≡ Some p = slice_get-get_or interface.ports k none within in
        let zero : 0 + k ≡ k = omega arith in
        let made : get_or conns k c ≡ make k p = get_or_from_slice_get conns k (make k p) c (numbered_at make 0 interface.ports k p at ∙ ap (λ n. Some (make n p)) zero) in
        subst (λ (x : Conn). FitsPort R own.master (get_or own.master.ports k port) x) (sym made)
        (fits_port R own.master (get_or own.master.ports k port) (width p.1.range) (make k p) (own.is.widths k p port at)
        (conn_to_fits R ns interface.ports i.1.name i.1.conns k p has each own.is.apart at))) in
        subst (λ (o : Option PModule). MatchOption o ⊥ (λ master. FitPorts R master master.ports conns)) (sym own.found) fit

    at_o : (o : Option Interface) → named fs i.0.name ≡ o → HasMaster M R (inst_row fs ns id i)
    at_o None e = let no : true ≡ false = sym (ap is_none e) ∙ fits.master in absurd (cc no)
    at_o (Some interface) e =
        subst (λ (o : Option Interface). MatchOption (module_of M (master_id o)) ⊥ (λ master. FitPorts R master master.ports (conns_of ns (ports_of o) i.1.conns))) (sym e) (with_face interface e)
