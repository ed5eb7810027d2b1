-- The connections of a module after each edit of a split, and that no two of them are at one place.
use Rattle.std.proofs.Common.{◌≡◌, ◌≢◌, ◌⊎◌, inl, inr, ℕ, zero, suc, ◌==◌, ◌<◌, true, false, ◌&&◌, List, [], ◌∷◌, ◌++◌, map, find, get_or, sum_by, Option, Some, None, All, AllPairs, refl, sym, ap, ap₂, ◌∙◌, subst, arith, append-nil}
use Rattle.std.specs.List.{flat_map, zip}
use Rattle.std.proofs.lemmas.Bool.Decides.{nat_tests}
use Rattle.std.proofs.lemmas.List.{map-append}
use Rattle.std.proofs.lemmas.List.Concat.{flat_map-append}
use Rattle.std.proofs.lemmas.List.Elements.{All-head, All-tail}
use Rattle.emh_base.specs.declared.ids.ModId.{ModId}
use Rattle.emh_base.specs.declared.ids.NetId.{NetId}
use Rattle.emh_base.specs.declared.ids.InstId.{InstId}
use Rattle.emh_base.specs.declared.plain.Dir.{Dir}
use Rattle.emh_base.specs.declared.plain.Dir.TheVariants.{Input, Output, Inout}
use Rattle.emh_base.specs.declared.plain.Src.{Src}
use Rattle.emh_base.specs.declared.plain.Src.TheVariants.{Bit}
use Rattle.emh_base.specs.declared.plain.Conn.{Conn}
use Rattle.emh_base.specs.declared.plain.Conn.TheVariants.{Open, Bits}
use Rattle.emh_base.specs.declared.plain.PPort.{PPort}
use Rattle.emh_base.specs.declared.plain.PInst.{PInst}
use Rattle.emh_base.specs.declared.plain.PModule.{PModule}
use Rattle.emh_base.specs.declared.plain.Plain.{Plain}
use Rattle.flatten_rules.specs.Lookup.{module_of, insts_of}
use Rattle.flatten_rules.specs.Domains.{ports_of}
use Rattle.flatten_rules.specs.Sound.{IsSound, IsSoundModule}
use Rattle.flatten_rules.proofs.Sound.{sound-module, master-there}
use Rattle.flatten_rules.proofs.Walks.{some-there}
use Rattle.edit_rules.specs.Readers.{goes_through, same_dir}
use Rattle.flatten_rules.specs.Changes.{with_module}
use Rattle.flatten_rules.specs.NetChanges.{create_net, with_net}
use Rattle.flatten_rules.specs.InstChanges.{create_inst, with_new_inst, all_open}
use Rattle.watch_kit.specs.NetBits.{BitOf, is_bit}
use Rattle.watch_kit.specs.Sinks.{Join, join, joins_of, joins, sinks_at}
use Rattle.watch_kit.specs.Split.{net_of_port}
use Rattle.watch_kit.proofs.SplitCounts.{rejoined, Differs, Apart, weight}
use Rattle.watch_kit.proofs.SplitConnects.{changed-here, ports-stay, all-same, other-inst}

net_id : ℕ → NetId
net_id n = record { 0 = n }

-- No two connections of a module are at one place.

other-number : (a b c d : ℕ) → (a == b) ≡ false → ((b == a) && (d == c)) ≡ false
other-number a b c d e = grind (arith, nat_tests)

other-second : (a b c d : ℕ) → (c == d) ≡ false → ((b == a) && (d == c)) ≡ false
other-second a b c d e = grind (arith, nat_tests)

differs-append : (j : Join) (xs ys : List Join) → Differs j xs → Differs j ys → Differs j (xs ++ ys)
differs-append j [] ys dx dy = dy
differs-append j (x ∷ xs) ys dx dy = (dx.0, differs-append j xs ys dx.1 dy)

-- none of the connections of another instance is at the place
differs-inst : (j : Join) (id : InstId) → (j.inst.0 == id.0) ≡ false → (qs : List (PPort × Conn)) → Differs j (map (join id) qs)
differs-inst j id other [] = tt
differs-inst j id other (q ∷ qs) = (other-number j.inst.0 id.0 j.port.0 q.0.net.0 other, differs-inst j id other qs)

differs-port : (j : Join) (id : InstId) (ports : List PPort) (conns : List Conn) → All (λ (q : PPort). (j.port.0 == q.net.0) ≡ false) ports → Differs j (map (join id) (zip ports conns))
differs-port j id [] conns none = tt
differs-port j id (q ∷ qs) [] none = tt
differs-port j id (q ∷ qs) (c ∷ cs) none =
    let Other : PPort → Type 0 = λ x. (j.port.0 == x.net.0) ≡ false in
    (other-second j.inst.0 id.0 j.port.0 q.net.0 (All-head Other q qs none), differs-port j id qs cs (All-tail Other q qs none))

module _ (M : Plain) where
  differs-insts : (j : Join) (xs : List PInst) → All (λ (x : PInst). (j.inst.0 == x.id.0) ≡ false) xs → Differs j (flat_map (joins_of M) xs)
  differs-insts j [] other = tt
  differs-insts j (x ∷ xs) other =
      let Other : PInst → Type 0 = λ y. (j.inst.0 == y.id.0) ≡ false in
      differs-append j (joins_of M x) (flat_map (joins_of M) xs) (differs-inst j x.id (All-head Other x xs other) (zip (ports_of (module_of M x.master)) x.conns))
      (differs-insts j xs (All-tail Other x xs other))

  -- the connections of one instance, and those of the instances after it
  apart-ports : (id : InstId) (ports : List PPort) (conns : List Conn) (rest : List Join) → AllPairs (λ (a b : PPort). a.net ≢ b.net) ports
      → ((port : PPort) (conn : Conn) → Differs (join id (port, conn)) rest) → Apart rest → Apart (map (join id) (zip ports conns) ++ rest)
  unfolding net_id
  apart-ports id [] conns rest differ cross apart = apart
  apart-ports id (q ∷ qs) [] rest differ cross apart = apart
  apart-ports id (q ∷ qs) (c ∷ cs) rest differ cross apart = (
    differs-append (join id (q, c)) (map (join id) (zip qs cs)) rest (differs-port (join id (q, c)) id qs cs (λ k d within.
        let ne : q.net ≢ (get_or qs k d).net = differ zero (suc k) d (omega arith) (omega arith) in
        let number : q.net.0 ≢ (get_or qs k d).net.0 = λ e. ne (ap net_id e) in
        grind (arith, nat_tests))) (cross q c),
    apart-ports id qs cs rest (λ a b d before inside. differ (suc a) (suc b) d (omega arith) (omega arith)) cross apart,
  )

  apart-insts : (xs : List PInst) → AllPairs (λ (a b : PInst). a.id.0 < b.id.0) xs → All (λ (x : PInst). AllPairs (λ (a b : PPort). a.net ≢ b.net) (ports_of (module_of M x.master))) xs → Apart (flat_map (joins_of M) xs)
  apart-insts [] rise differ = tt
  apart-insts (x ∷ xs) rise differ =
      let Differ : PInst → Type 0 = λ y. AllPairs (λ (a b : PPort). a.net ≢ b.net) (ports_of (module_of M y.master)) in
      apart-ports x.id (ports_of (module_of M x.master)) x.conns (flat_map (joins_of M) xs) (All-head Differ x xs differ)
      (λ port conn. differs-insts (join x.id (port, conn)) xs (λ k d within.
      let low : x.id.0 < (get_or xs k d).id.0 = rise zero (suc k) d (omega arith) (omega arith) in
      grind (arith, nat_tests)))
      (apart-insts xs (λ a b d before inside. rise (suc a) (suc b) d (omega arith) (omega arith)) (All-tail Differ x xs differ))

pub apart-joins : (M : Plain) (m : ModId) → IsSound M → Apart (joins M m)
apart-joins M m sound = by_cases (module_of M m) refl
  where
    by_cases : (o : Option PModule) → module_of M m ≡ o → Apart (flat_map (joins_of M) (insts_of o))
    by_cases None at = tt
    by_cases (Some h) at =
        let s : IsSoundModule M h = sound-module M m h sound at in
        apart-insts M h.insts s.insts_rise (λ k d within.
        let x : PInst = get_or h.insts k d in
        let master = some-there (module_of M x.master) (master-there M h x (s.masters k d within)) in
        let rs : IsSoundModule M master.0 = sound-module M x.master master.0 sound master.1 in
        let At : Option PModule → Type 0 = λ (y : Option PModule). AllPairs (λ (a b : PPort). a.net ≢ b.net) (ports_of y) in
        subst At (sym master.1) rs.ports_differ)

-- A net more changes none, and an instance more stands last, all open.

pub joins-net : (M : Plain) (m : ModId) (name : List ℕ) (h : PModule) → module_of M m ≡ Some h → joins (create_net M m name None) m ≡ joins M m
joins-net M m name h found =
    let f : PModule → PModule = with_net name None in
    let N : Plain = with_module M m f in
    ap (λ (y : Option PModule). flat_map (joins_of N) (insts_of y)) (changed-here M m f (λ y. refl) h found)
    ∙ all-same M N (ports-stay M m f (λ y. refl) (λ y. refl)) h.insts
    ∙ ap (λ (y : Option PModule). flat_map (joins_of M) (insts_of y)) (sym found)

abbrev pub open_joins : InstId → List PPort → List Join
open_joins id ports = map (join id) (zip ports (map (λ (port : PPort). Open) ports))

pub joins-inst : (M : Plain) (m cell : ModId) (name : List ℕ) (h : PModule) (ports : List PPort) → module_of M m ≡ Some h → ports_of (module_of M cell) ≡ ports
    → joins (create_inst M m name cell) m ≡ joins M m ++ open_joins (record { 0 = h.next_inst }) ports
joins-inst M m cell name h ports found cell_ports =
    let f : PModule → PModule = with_new_inst name cell (all_open (module_of M cell)) in
    let N : Plain = with_module M m f in
    let id : InstId = record { 0 = h.next_inst } in
    let new : PInst = record { id = id; name = name; master = cell; conns = all_open (module_of M cell) } in
    let same : (x : ModId) → ports_of (module_of N x) ≡ ports_of (module_of M x) = ports-stay M m f (λ y. refl) (λ y. refl) in
    let opened : joins_of N new ≡ open_joins id ports =
    ap (λ (ps : List PPort). map (join id) (zip ps (map (λ (port : PPort). Open) (ports_of (module_of M cell))))) (same cell ∙ cell_ports)
    ∙ ap (λ (ps : List PPort). map (join id) (zip ports (map (λ (port : PPort). Open) ps))) cell_ports in
    let last : flat_map (joins_of N) (new ∷ []) ≡ open_joins id ports = append-nil (joins_of N new) ∙ opened in
    ap (λ (y : Option PModule). flat_map (joins_of N) (insts_of y)) (changed-here M m f (λ y. refl) h found)
    ∙ flat_map-append (joins_of N) h.insts (new ∷ [])
    ∙ ap₂ (λ (a b : List Join). a ++ b)
    (all-same M N same h.insts ∙ ap (λ (y : Option PModule). flat_map (joins_of M) (insts_of y)) (sym found))
    last

-- what is changed at the new instance leaves the others
untouched-insts : (M : Plain) (i : InstId) (p : NetId) (conn : Conn) (xs : List PInst) → All (λ (x : PInst). x.id.0 < i.0) xs → map (rejoined i p conn) (flat_map (joins_of M) xs) ≡ flat_map (joins_of M) xs
untouched-insts M i p conn [] below = refl
untouched-insts M i p conn (x ∷ xs) below =
    let Below : PInst → Type 0 = λ y. y.id.0 < i.0 in
    let low : x.id.0 < i.0 = All-head Below x xs below in
    map-append (rejoined i p conn) (joins_of M x) (flat_map (joins_of M) xs)
    ∙ ap₂ (λ (a b : List Join). a ++ b) (other-inst x.id i p conn (grind (arith, nat_tests)) (zip (ports_of (module_of M x.master)) x.conns)) (untouched-insts M i p conn xs (All-tail Below x xs below))

pub untouched : (M : Plain) (m : ModId) (h : PModule) (p : NetId) (conn : Conn) → IsSound M → module_of M m ≡ Some h → map (rejoined (record { 0 = h.next_inst }) p conn) (joins M m) ≡ joins M m
untouched M m h p conn sound found =
    let s : IsSoundModule M h = sound-module M m h sound found in
    let i : InstId = record { 0 = h.next_inst } in
    ap (λ (y : Option PModule). map (rejoined i p conn) (flat_map (joins_of M) (insts_of y))) found
    ∙ untouched-insts M i p conn h.insts s.insts_below
    ∙ ap (λ (y : Option PModule). flat_map (joins_of M) (insts_of y)) (sym found)

-- The buffer takes b once.

abbrev pub bits_to : InstId → List PPort → BitOf → Src → List Join
bits_to u ports b new =
    map (rejoined u (net_of_port (find (λ port. same_dir port.dir Output) ports)) (Bits (new ∷ [])))
    (map (rejoined u (net_of_port (find (λ port. same_dir port.dir Input) ports)) (Bits (Bit b.net b.offset ∷ []))) (open_joins u ports))

abbrev port : NetId → Dir → PPort
port net dir = record { net = net; dir = dir }

abbrev taking : InstId → NetId → BitOf → Join
taking u p b = record { inst = u; port = p; dir = Input; conn = Bits (Bit b.net b.offset ∷ []) }

abbrev driving : InstId → NetId → Src → Join
driving u p new = record { inst = u; port = p; dir = Output; conn = Bits (new ∷ []) }

-- one of the two takes b, and the other drives the new source
abbrev pub IsBuffer : InstId → NetId → NetId → BitOf → Src → List Join → Type 0
IsBuffer u na nb b new js = (js ≡ taking u na b ∷ driving u nb new ∷ []) ⊎ (js ≡ driving u na new ∷ taking u nb b ∷ [])

own : (n : ℕ) → (n == n) ≡ true
own n = grind (arith, nat_tests)

pub is-buffer : (u : InstId) (b : BitOf) (new : Src) (na nb : NetId) (da db : Dir) → goes_through da db ≡ true → (na.0 == nb.0) ≡ false → IsBuffer u na nb b new (bits_to u (port na da ∷ port nb db ∷ []) b new)
is-buffer u b new na nb Input Output through differ =
    let turned : (nb.0 == na.0) ≡ false = grind (arith, nat_tests) in inl (simp (own, turned, differ) refl)
is-buffer u b new na nb Output Input through differ =
    let turned : (nb.0 == na.0) ≡ false = grind (arith, nat_tests) in inr (simp (own, turned, differ) refl)
is-buffer u b new na nb Input Input through differ = let never : false ≡ true = through in absurd (cc)
is-buffer u b new na nb Input Inout through differ = let never : false ≡ true = through in absurd (cc)
is-buffer u b new na nb Output Output through differ = let never : false ≡ true = through in absurd (cc)
is-buffer u b new na nb Output Inout through differ = let never : false ≡ true = through in absurd (cc)
is-buffer u b new na nb Inout db through differ = let never : false ≡ true = through in absurd (cc)

module _ (u : InstId) (na nb : NetId) (b : BitOf) (new : Src) (js : List Join) where
  -- so b has one sink there
  pub buffer-takes : IsBuffer u na nb b new js → sum_by (weight b) js ≡ 1
  buffer-takes (inl is) = ap (sum_by (weight b)) is ∙ simp own refl
  buffer-takes (inr is) = ap (sum_by (weight b)) is ∙ simp own refl

  -- and another bit none
  pub buffer-spares : (c : BitOf) → is_bit c (Bit b.net b.offset) ≡ false → IsBuffer u na nb b new js → flat_map (sinks_at c) js ≡ []
  buffer-spares c other (inl is) = ap (flat_map (sinks_at c)) is ∙ simp other refl
  buffer-spares c other (inr is) = ap (flat_map (sinks_at c)) is ∙ simp other refl
