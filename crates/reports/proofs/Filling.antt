-- Modules whose pins are counted.
use Rattle.std.proofs.Common.{◌≡◌, ◌≢◌, ℕ, zero, suc, ◌+◌, ◌-◌, ◌<◌, ◌≤◌, ◌==◌, Bool, true, false, cond, List, [], ◌∷◌, ◌++◌, map, flat_map, length, get_or, set, take, slice_get, sum_by, count_by, Option, Some, None, is_some, IsSome, IsSomeAnd, MatchOption, append-nil, length-set, eqb-true, eq-eqb, refl, sym, ap, subst, ◌∙◌, arith}
use Rattle.std.specs.List.{range_with_len, zip}
use Rattle.std.proofs.lemmas.Bool.{true≢false}
use Rattle.std.proofs.lemmas.Option.{slice_get_within, slice_get-get_or}
use Rattle.std.proofs.lemmas.List.{take_more, length-take, take_all, get_or_default}
use Rattle.std.proofs.lemmas.List.Concat.{flat_map-append}
use Rattle.std.proofs.lemmas.List.FromFn.{sum_by-map-range_with_len_more}
use Rattle.std.proofs.lemmas.List.Sums.{sum_by-append, sum_by_more, sum_by-cons}
use Rattle.std.proofs.lemmas.Slice.Zip.{length-zip, get_or-zip}
use Rattle.emh_base.specs.declared.ids.ModId.{ModId}
use Rattle.emh_base.specs.declared.ids.NetId.{NetId}
use Rattle.emh_base.specs.declared.ids.InstId.{InstId}
use Rattle.emh_base.specs.declared.plain.Src.{Src}
use Rattle.emh_base.specs.declared.plain.Conn.{Conn}
use Rattle.emh_base.specs.declared.plain.PPort.{PPort}
use Rattle.emh_base.specs.declared.plain.PInst.{PInst}
use Rattle.emh_base.specs.declared.plain.PModule.{PModule}
use Rattle.emh_base.specs.declared.plain.Plain.{Plain}
use Rattle.emh_base.specs.declared.root.Root.{Root}
use Rattle.emh_base.specs.declared.root.Root.TheVariants.{Own}
use Rattle.flatten_rules.specs.Lookup.{module_of, inst_of}
use Rattle.flatten_rules.specs.Domains.{ports_of}
use Rattle.flatten_rules.specs.Limits.{WalksAreShort}
use Rattle.flatten_rules.specs.Sound.{IsSound, IsSoundModule, HasMaster, FitPorts}
use Rattle.flatten_rules.proofs.Checking.{fit-length}
use Rattle.flatten_rules.proofs.Counting.{found-own}
use Rattle.flatten_rules.proofs.Sound.{sound-module}
use Rattle.flatten_rules.proofs.Walks.{id-of_found}
use Rattle.reports.specs.declared.pin_counts.BitCounts.{BitCounts}
use Rattle.reports.specs.Net.{is_same}
use Rattle.reports.specs.inside.Below.{port_bits, cell_bits, roots_below, pins_at, over, WalksBelow}
use Rattle.reports.specs.inside.Links.{Link, links_from, links_of, links, is_bit, joined}
use Rattle.reports.specs.inside.PinCounts.{Key, is_key, count_at, Adds, AddsEach, Joins, IsCounted, AreCountedSo, AreCounted, IsThere}
use Rattle.reports.proofs.Lists.{sum-each, sum-map}
use Rattle.reports.proofs.Below.{own_roots, up-none, walks-master, roots-stay}
use Rattle.reports.proofs.PinsAt.{count-step}
use Rattle.reports.proofs.Along.{own-insts, short-walks}
use Rattle.reports.proofs.Links.{joined-roots}

-- one thing after the other

pub each-more : (a b c : List (Key × ℕ)) (xs ys : List Key) → AddsEach a b xs → AddsEach b c ys → AddsEach a c (xs ++ ys)
each-more a b c xs ys before after key = omega (arith, before key, after key, sum_by-append (λ at. cond (is_key at key) 1 0) xs ys)

pub bits-more : (a b c : List (Key × ℕ)) (net : NetId) (k : ℕ) → AddsEach a b (map (λ offset. (net, offset)) (range_with_len 0 k)) → Adds b c (net, k) 1 → AddsEach a c (map (λ offset. (net, offset)) (range_with_len 0 (k + 1)))
bits-more a b c net k before after key =
    omega (arith, before key, after key, sum_by-map-range_with_len_more (λ (at : Key). cond (is_key at key) 1 0) (λ (offset : ℕ). (net, offset)) 0 k k (omega arith))

pub ports-more : (a b c : List (Key × ℕ)) (m : PModule) (ports : List PPort) (i : ℕ) (d : PPort) → i < length ports
    → AddsEach a b (flat_map (port_bits m) (take i ports)) → AddsEach b c (port_bits m (get_or ports i d)) → AddsEach a c (flat_map (port_bits m) (take (i + 1) ports))
ports-more a b c m ports i d within before after =
    let next : flat_map (port_bits m) (take (i + 1) ports) ≡ flat_map (port_bits m) (take i ports) ++ port_bits m (get_or ports i d) =
    ap (flat_map (port_bits m)) (take_more ports i d within) ∙ flat_map-append (port_bits m) (take i ports) (get_or ports i d ∷ [])
    ∙ ap (λ ys. flat_map (port_bits m) (take i ports) ++ ys) (append-nil (port_bits m (get_or ports i d)))
    in
    subst (AddsEach a c) (sym next) (each-more a b c (flat_map (port_bits m) (take i ports)) (port_bits m (get_or ports i d)) before after)

joins-append : (below : NetId → ℕ → ℕ) (a b c : List (Key × ℕ)) (xs ys : List Link) → Joins below a b xs → Joins below b c ys → Joins below a c (xs ++ ys)
joins-append below a b c xs ys before after key =
    omega (arith, before key, after key, sum_by-append (λ (link : Link). cond (is_bit key.0 key.1 link.source) (below link.port link.offset) 0) xs ys)

links-push : (port : NetId) (at : ℕ) (bits : List Src) (s : Src) → links_from port at (bits ++ s ∷ []) ≡ links_from port at bits ++ record { port = port; offset = at + length bits; source = s } ∷ []
links-push port at [] s = let same : at ≡ at + 0 = omega arith in ap (λ n. record { port = port; offset = n; source = s } ∷ []) same
links-push port at (x ∷ bits) s =
    let same : (at + 1) + length bits ≡ at + length (x ∷ bits) = omega arith in
    ap (λ ls. record { port = port; offset = at; source = x } ∷ ls)
    (links-push port (at + 1) bits s ∙ ap (λ n. links_from port (at + 1) bits ++ record { port = port; offset = n; source = s } ∷ []) same)

pub sources-more : (below : NetId → ℕ → ℕ) (a b c : List (Key × ℕ)) (port : NetId) (bits : List Src) (i : ℕ) (d : Src) (more : ℕ) → i < length bits → more ≡ below port i
    → Joins below a b (links_from port 0 (take i bits)) → ((key : Key) → count_at c key ≡ count_at b key + cond (is_bit key.0 key.1 (get_or bits i d)) more 0) → Joins below a c (links_from port 0 (take (i + 1) bits))
sources-more below a b c port bits i d more within is before after =
    let s : Src = get_or bits i d in
    let link : Link = record { port = port; offset = i; source = s } in
    let here : 0 + length (take i bits) ≡ i = omega (arith, length-take i bits) in
    let next : links_from port 0 (take (i + 1) bits) ≡ links_from port 0 (take i bits) ++ link ∷ [] =
    ap (links_from port 0) (take_more bits i d within) ∙ links-push port 0 (take i bits) s
    ∙ ap (λ n. links_from port 0 (take i bits) ++ record { port = port; offset = n; source = s } ∷ []) here
    in
    let one : Joins below b c (link ∷ []) = λ key.
    after key ∙ ap (λ n. count_at b key + cond (is_bit key.0 key.1 s) n 0) is
    ∙ omega (arith, sum_by-cons (λ (l : Link). cond (is_bit key.0 key.1 l.source) (below l.port l.offset) 0) link [])
    in
    subst (Joins below a c) (sym next) (joins-append below a b c (links_from port 0 (take i bits)) (link ∷ []) before one)

pub conns-more : (below : NetId → ℕ → ℕ) (a b c : List (Key × ℕ)) (ports : List PPort) (conns : List Conn) (i : ℕ) (d : PPort) (conn : Conn) → i < length ports → length conns ≡ length ports → conn ≡ get_or conns i conn
    → Joins below a b (flat_map links_of (take i (zip ports conns))) → Joins below b c (links_of (get_or ports i d, conn)) → Joins below a c (flat_map links_of (take (i + 1) (zip ports conns)))
conns-more below a b c ports conns i d conn within many at before after =
    let port : PPort = get_or ports i d in
    let pair : get_or (zip ports conns) i (port, conn) ≡ (port, conn) =
    get_or-zip ports conns i (port, conn) within (omega (arith, many)) ∙ ap (λ p. (p, get_or conns i conn)) (get_or_default ports i port d within) ∙ ap (λ x. (port, x)) (sym at)
    in
    let next : flat_map links_of (take (i + 1) (zip ports conns)) ≡ flat_map links_of (take i (zip ports conns)) ++ links_of (port, conn) =
    ap (flat_map links_of) (take_more (zip ports conns) i (port, conn) (omega (arith, length-zip ports conns, many)))
    ∙ flat_map-append links_of (take i (zip ports conns)) (get_or (zip ports conns) i (port, conn) ∷ [])
    ∙ ap (λ ys. flat_map links_of (take i (zip ports conns)) ++ ys) (append-nil (links_of (get_or (zip ports conns) i (port, conn))) ∙ ap links_of pair)
    in
    subst (Joins below a c) (sym next) (joins-append below a b c (flat_map links_of (take i (zip ports conns))) (links_of (port, conn)) before after)

-- what a master counts goes through an instance of it
pub joins-through : (M : Plain) (inst : PInst) (master : PModule) (below a b : List (Key × ℕ)) → module_of M inst.master ≡ Some master → IsCounted M inst.master below
    → Joins (λ port offset. count_at below (port, offset)) a b (flat_map links_of (zip master.ports inst.conns)) → Joins (pins_at M inst.master) a b (links M inst)
joins-through M inst master below a b there counted joins key =
    let some : List Link = flat_map links_of (zip master.ports inst.conns) in
    let old : Link → ℕ = λ link. cond (is_bit key.0 key.1 link.source) (count_at below (link.port, link.offset)) 0 in
    let new : Link → ℕ = λ link. cond (is_bit key.0 key.1 link.source) (pins_at M inst.master link.port link.offset) 0 in
    joins key
    ∙ ap (λ n. count_at a key + n)
    (sum-each old new some (λ k d within. let link : Link = get_or some k d in ap (λ n. cond (is_bit key.0 key.1 link.source) n 0) (counted (link.port, link.offset)))
    ∙ ap (λ (found : Option PModule). sum_by new (flat_map links_of (zip (ports_of found) inst.conns))) (sym there))

pub so-more : (M : Plain) (m : PModule) (insts : List PInst) (i : ℕ) (inst : PInst) (a b : List (Key × ℕ)) → i < length insts → inst ≡ get_or insts i inst
    → AreCountedSo M m (take i insts) a → Joins (pins_at M inst.master) a b (links M inst) → AreCountedSo M m (take (i + 1) insts) b
so-more M m insts i inst a b within at before joins key =
    let number : PInst → ℕ = λ x. joined (pins_at M x.master) key.0 key.1 (links M x) in
    let here : number (get_or insts i inst) ≡ number inst = ap number (sym at) in
    omega (arith, before key, joins key, sum_by_more number insts i inst within, here)

-- a module of the table, whose walks are short
pub record Here (M : Plain) (levels : ℕ) (m : PModule) : Type 0 where
  pub found : module_of M m.id ≡ Some m
  pub sound : IsSoundModule M m
  pub short : WalksBelow M m.id levels
  pub some : 0 < levels

pub is-here : (M : Plain) (levels : ℕ) (m : PModule) → IsSound M → module_of M m.id ≡ Some m → WalksBelow M m.id levels → Here M levels m
is-here M levels m sound found short =
    let positive : length {A = InstId} [] < levels = short [] (ap (λ (o : Option PModule). is_some o) (up-none M m.id ∙ found)) in
    record { found = found; sound = sound-module M m.id m sound found; short = short; some = omega (arith, positive) }

some_and : {X : Type 0} (o : Option X) (P : X → Type 0) → IsSomeAnd o P → (x : X) × (o ≡ Some x) × P x
some_and None P some = absurd some
some_and (Some x) P some = (x, refl, some)

pub place-within : {X : Type 0} (xs : List X) (place : ℕ) (P : X → Type 0) → IsSomeAnd (slice_get xs place) P → place < length xs
place-within xs place P some = let there = some_and (slice_get xs place) P some in slice_get_within xs place there.0 there.1

-- the module at a place of the table
pub record AtPlace (M : Plain) (place levels : ℕ) (m : PModule) : Type 0 where
  pub at : slice_get M.modules place ≡ Some m
  pub within : place < length M.modules
  pub found : module_of M m.id ≡ Some m
  pub short : WalksBelow M m.id levels

pub at-place : (M : Plain) (place levels : ℕ) (m : PModule) (modules : List PModule) → IsSound M → modules ≡ M.modules → IsSomeAnd (slice_get M.modules place) (λ x. WalksBelow M x.id levels) → m ≡ get_or modules place m → AtPlace M place levels m
at-place M place levels m modules sound all some at =
    let there = some_and (slice_get M.modules place) (λ (x : PModule). WalksBelow M x.id levels) some in
    let within : place < length M.modules = slice_get_within M.modules place there.0 there.1 in
    let at_m : m ≡ get_or M.modules place m = at ∙ ap (λ xs. get_or xs place m) all in
    let here : slice_get M.modules place ≡ Some m = slice_get-get_or M.modules place m within ∙ ap (λ x. Some x) (sym at_m) in
    let same : there.0 ≡ m = let both : Some there.0 ≡ Some m = sym there.1 ∙ here in cc in
    let Short : PModule → Type 0 = λ x. WalksBelow M x.id levels in
    record { at = here; within = within; found = found-own M m place sound.rise M.modules refl within at_m; short = subst Short same there.2 }

-- the master of one of its instances
pub record Master (M : Plain) (inst : PInst) (levels : ℕ) : Type 0 where
  pub master : PModule
  pub there : module_of M inst.master ≡ Some master
  pub many : length inst.conns ≡ length master.ports
  pub short : WalksBelow M master.id levels

by-match : (M : Plain) (m : PModule) (inst : PInst) (found : Option PModule) → MatchOption found ⊥ (λ master. FitPorts m master master.ports inst.conns) → (master : PModule) × (found ≡ Some master) × (length inst.conns ≡ length master.ports)
by-match M m inst None has = absurd has
by-match M m inst (Some master) has = (master, refl, sym (fit-length m master master.ports inst.conns has))

pub inst-master : (M : Plain) (levels : ℕ) (m : PModule) → IsSound M → Here M levels m → (k : ℕ) (inst : PInst) → k < length m.insts → inst ≡ get_or m.insts k inst → Master M inst (levels - 1)
inst-master M levels m sound here k inst within at =
    let has : HasMaster M m inst = subst (HasMaster M m) (sym at) (here.sound.masters k inst within) in
    let to = by-match M m inst (module_of M inst.master) has in
    let Own : PInst → Type 0 = λ x. inst_of m x.id ≡ Some x in
    let own : inst_of m inst.id ≡ Some inst = subst Own (sym at) (own-insts M sound m.id m here.found k inst within) in
    let more : levels ≡ suc (levels - 1) = omega (arith, here.some) in
    let short : WalksBelow M m.id (suc (levels - 1)) = subst (WalksBelow M m.id) more here.short in
    let below : WalksBelow M inst.master (levels - 1) = walks-master M m.id (levels - 1) m inst.id inst here.found own short in
    let Below : ModId → Type 0 = λ id. WalksBelow M id (levels - 1) in
    record { master = to.0; there = to.1; many = to.2; short = subst Below (sym (id-of_found M inst.master to.0 to.1)) below }

pub some-master : (M : Plain) (inst : PInst) (P : PModule → Type 0) (master : PModule) → module_of M inst.master ≡ Some master → P master → IsSomeAnd (module_of M inst.master) P
some-master M inst P master there p = let Some_and : Option PModule → Type 0 = λ o. IsSomeAnd o P in subst Some_and (sym there) p

-- all instances are through: the module is counted
pub so-all : (M : Plain) (levels : ℕ) (m : PModule) (counts : List (Key × ℕ)) → IsSound M → WalksAreShort M → Here M levels m → AreCountedSo M m m.insts counts → IsCounted M m.id counts
so-all M levels m counts sound walks here so key =
    let net : NetId = key.0 in
    let offset : ℕ = key.1 in
    let p : Root → Bool = is_same (Own [] net offset) in
    let one : Root → ℕ = λ r. cond (p r) 1 0 in
    let number : PInst → ℕ = λ x. joined (pins_at M x.master) net offset (links M x) in
    let other : PInst → ℕ = λ x. count_by (λ r. p (over M m.id x.id r)) (roots_below M x.master 256) in
    so key
    ∙ ap (λ n. n + sum_by number m.insts) (sym (sum-map one (λ (bit : NetId × ℕ). Own [] bit.0 bit.1) (cell_bits (Some m))))
    ∙ ap (λ n. count_by p (own_roots m) + n)
    (sum-each number other m.insts (λ k d within. each (get_or m.insts k d) (own-insts M sound m.id m here.found k d within) (here.sound.masters k d within)))
    ∙ sym (count-step p M m.id 256 m here.found (own-insts M sound))
  where
    each : (inst : PInst) → inst_of m inst.id ≡ Some inst → HasMaster M m inst
        → joined (pins_at M inst.master) key.0 key.1 (links M inst) ≡ count_by (λ r. is_same (Own [] key.0 key.1) (over M m.id inst.id r)) (roots_below M inst.master 256)
    each inst own has =
        let to = by-match M m inst (module_of M inst.master) has in
        let master : PModule = to.0 in
        let stay : roots_below M inst.master 256 ≡ roots_below M inst.master 257 = roots-stay M (own-insts M sound) 256 inst.master (walks-master M m.id 256 m inst.id inst here.found own (short-walks M walks m.id)) in
        ap (λ (found : Option PModule). joined (pins_at M inst.master) key.0 key.1 (flat_map links_of (zip (ports_of found) inst.conns))) to.1
        ∙ joined-roots M m.id inst.id m inst master here.found own to.1 (sound-module M inst.master master sound to.1).ports_differ key.0 key.1 (roots_below M inst.master 257)
        ∙ ap (count_by (λ r. is_same (Own [] key.0 key.1) (over M m.id inst.id r))) (sym stay)

get-set_same : {X : Type 0} (xs : List X) (i : ℕ) (v : X) → i < length xs → slice_get (set xs i v) i ≡ Some v
get-set_same [] i v within = absurd (omega arith)
get-set_same (x ∷ xs) zero v within = refl
get-set_same (x ∷ xs) (suc i) v within = get-set_same xs i v (omega arith)

get-set_other : {X : Type 0} (xs : List X) (i k : ℕ) (v : X) → k ≢ i → slice_get (set xs i v) k ≡ slice_get xs k
get-set_other [] i k v apart = refl
get-set_other (x ∷ xs) zero zero v apart = absurd (apart refl)
get-set_other (x ∷ xs) zero (suc k) v apart = refl
get-set_other (x ∷ xs) (suc i) zero v apart = refl
get-set_other (x ∷ xs) (suc i) (suc k) v apart = get-set_other xs i k v (λ e. apart (ap (λ n. suc n) e))

-- one module more
pub set-counted : (M : Plain) (all new : List (Option BitCounts)) (place : ℕ) (m : PModule) (made : BitCounts) → AreCounted M all → slice_get M.modules place ≡ Some m → IsCounted M m.id made.counts.entries → new ≡ set all place (Some made) → AreCounted M new
set-counted M all new place m made before at counted is = record {
  many = ap length is ∙ length-set all place (Some made) ∙ before.many;
  each = λ k x found there here. by_place k x found there (ap (λ items. slice_get items k) (sym is) ∙ here) (k == place) refl;
}
  where
    by_place : (k : ℕ) (x : PModule) (found : BitCounts) → slice_get M.modules k ≡ Some x → slice_get (set all place (Some made)) k ≡ Some (Some found) → (b : Bool) → (k == place) ≡ b → IsCounted M x.id found.counts.entries
    by_place k x found there here true same =
        let at_k : k ≡ place = eqb-true k place same in
        let module_there : Some m ≡ Some x = sym at ∙ ap (slice_get M.modules) (sym at_k) ∙ there in
        let modules : m ≡ x = cc in
        let within : place < length all = omega (arith, slice_get_within M.modules place m at, before.many) in
        let both : Some (Some made) ≡ Some (Some found) = sym (get-set_same all place (Some made) within) ∙ ap (slice_get (set all place (Some made))) (sym at_k) ∙ here in
        let counts : made ≡ found = cc in
        let Counts : PModule → BitCounts → Type 0 = λ y c. IsCounted M y.id c.counts.entries in
        subst (λ c. Counts x c) counts (subst (λ y. Counts y made) modules counted)
    by_place k x found there here false apart =
        before.each k x found there (sym (get-set_other all place k (Some made) (λ e. true≢false (sym (eq-eqb k place e) ∙ apart))) ∙ here)

pub set-there : (all new : List (Option BitCounts)) (place : ℕ) (made : BitCounts) → place < length all → new ≡ set all place (Some made) → IsThere new place
set-there all new place made within is =
    let found : slice_get new place ≡ Some (Some made) = ap (λ items. slice_get items place) is ∙ get-set_same all place (Some made) within in
    let There : Option (Option BitCounts) → Type 0 = λ o. IsSomeAnd o (λ x. IsSome x) in
    subst There (sym found) refl

-- the numbers at a place are those of its module
pub counted-there : (M : Plain) (all : List (Option BitCounts)) (place : ℕ) (id : ModId) (found : Option BitCounts) (counted : BitCounts) → AreCounted M all
    → IsSomeAnd (slice_get M.modules place) (λ m. module_of M id ≡ Some m) → found ≡ get_or all place found → found ≡ Some counted → IsCounted M id counted.counts.entries
counted-there M all place id found counted before some at is =
    let there = some_and (slice_get M.modules place) (λ (m : PModule). module_of M id ≡ Some m) some in
    let m : PModule = there.0 in
    let within : place < length all = omega (arith, slice_get_within M.modules place m there.1, before.many) in
    let here : slice_get all place ≡ Some (Some counted) = slice_get-get_or all place found within ∙ ap (λ o. Some o) (sym at ∙ is) in
    let Counted : ModId → Type 0 = λ x. IsCounted M x counted.counts.entries in
    subst Counted (id-of_found M id m there.2) (before.each place m counted there.1 here)

pub module-at : (M : Plain) (place : ℕ) (id : ModId) (m : PModule) (modules : List PModule) → modules ≡ M.modules → IsSomeAnd (slice_get M.modules place) (λ x. module_of M id ≡ Some x) → m ≡ get_or modules place m → module_of M id ≡ Some m
module-at M place id m modules all some at =
    let there = some_and (slice_get M.modules place) (λ (x : PModule). module_of M id ≡ Some x) some in
    let within : place < length M.modules = slice_get_within M.modules place there.0 there.1 in
    let here : slice_get M.modules place ≡ Some m = slice_get-get_or M.modules place m within ∙ ap (λ x. Some x) (sym (at ∙ ap (λ xs. get_or xs place m) all)) in
    there.2 ∙ sym there.1 ∙ here

-- all instances so far, where none is left
pub so-whole : (M : Plain) (m : PModule) (insts : List PInst) (i : ℕ) (counts : List (Key × ℕ)) → insts ≡ m.insts → length insts ≤ i → AreCountedSo M m (take i insts) counts → AreCountedSo M m m.insts counts
so-whole M m insts i counts is all so = let So : List PInst → Type 0 = λ xs. AreCountedSo M m xs counts in subst So (take_all i insts all ∙ is) so
