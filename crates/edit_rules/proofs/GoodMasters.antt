-- A new instance, another cell as master and a copy of a master keep a good state good.
use Rattle.std.proofs.Common.{◌≡◌, ◌≢◌, ℕ, ◌+◌, ◌==◌, ◌<◌, ◌≤◌, ◌⊎◌, inl, inr, ⊎_elim, nat_lt, true, false, List, [], ◌∷◌, ◌++◌, map, zip, length, get_or, Option, Some, None, option_map, MatchOption, All, bytes_eq, refl, sym, ap, ◌∙◌, subst, arith}
use Rattle.std.specs.List.{IsDistinct, list_all}
use Rattle.std.proofs.lemmas.Bool.{and_parts, true≢false, false≢true, or_parts}
use Rattle.std.proofs.lemmas.Bool.Decides.{nat_tests}
use Rattle.std.proofs.lemmas.List.Elements.{All-weaker, All-push, All-head, All-tail}
use Rattle.std.proofs.lemmas.List.Quantifiers.{all_pairs_push}
use Rattle.emh_base.specs.declared.ids.ModId.{ModId}
use Rattle.emh_base.specs.declared.ids.InstId.{InstId}
use Rattle.emh_base.specs.declared.plain.Range.{Range}
use Rattle.emh_base.specs.declared.plain.Conn.{Conn}
use Rattle.emh_base.specs.declared.plain.Conn.TheVariants.{Open, Bits}
use Rattle.emh_base.specs.declared.plain.PNet.{PNet}
use Rattle.emh_base.specs.declared.plain.PPort.{PPort}
use Rattle.emh_base.specs.declared.plain.PInst.{PInst}
use Rattle.emh_base.specs.declared.plain.PModule.{PModule}
use Rattle.emh_base.specs.declared.plain.Plain.{Plain}
use Rattle.emh_base.specs.declared.state.State.{State}
use Rattle.emh_base.specs.declared.edit.Edit.TheVariants.{CreateInst, Resize}
use Rattle.flatten_rules.specs.Lookup.{module_of, net_of, insts_of, width, width_of}
use Rattle.flatten_rules.specs.Unfolding.{occurrences}
use Rattle.flatten_rules.specs.Domains.{is_leaf}
use Rattle.flatten_rules.specs.Counting.{height}
use Rattle.flatten_rules.specs.Limits.{bits_of, WalksAreShort}
use Rattle.flatten_rules.specs.Sound.{FitsPort, FitPorts, HasMaster, IsSoundModule}
use Rattle.flatten_rules.proofs.Sound.{All-find, sound-module}
use Rattle.flatten_rules.proofs.Walks.{id-of_found, found-own, within-by_cases, walks-within}
use Rattle.edit_rules.specs.Readers.{next_inst_of, lacks_room, is_name_in, inst_in, master_of, same_dir, same_range, same_net, same_port, same_ports}
use Rattle.flatten_rules.specs.Limits.{is_too_deep}
use Rattle.flatten_rules.specs.Changes.{with_insts}
use Rattle.edit_rules.specs.Insts.{create_inst, create_inst_rules, with_new_inst, new_inst, all_open, with_master, resize_rules}
use Rattle.edit_rules.specs.Good.{IsGoodState}
use Rattle.edit_rules.specs.Apply.{after}
use Rattle.edit_rules.proofs.GoodWalks.{AreBelow, IsBelow, within-below}
use Rattle.edit_rules.proofs.GoodTables.{SamePorts, KeepsMasters, master_kept, lookup-mapped, each-mapped, map-through, changed, changed-keeps, each-changed}
use Rattle.edit_rules.proofs.GoodChecks.{Passes, first-passes, Opened, common-passes, there, not-false}
use Rattle.edit_rules.proofs.GoodStates.{stays}
use Rattle.edit_rules.proofs.GoodNames as names
use Rattle.edit_rules.proofs.GoodNames.{net_name, inst_name, NamesApart}
use Rattle.edit_rules.proofs.GoodKept.{insts_kept, keeps_wide, no_cell, holder-sound, holder-names, names-stay, masters-changed, changed-good}
use Rattle.edit_rules.proofs.GoodInsts.{at_inst, inst-keeps, each-inst, inst-table, inst-there}
use Rattle.flatten_rules.proofs.LimitTests.{at_most}
use Rattle.edit_rules.proofs.GoodNets.{few-bits}

-- CreateInst

fit-open : (m master : PModule) (ports : List PPort) → FitPorts m master ports (map (λ port. Open) ports)
fit-open m master [] = tt
fit-open m master (port ∷ ports) = (tt, fit-open m master ports)

-- an instance whose ports are all open
has-open : (M : Plain) (m : PModule) (id : ℕ) (name : List ℕ) (master : ModId) (x : PModule) → module_of M master ≡ Some x → HasMaster M m (new_inst id name master (all_open (module_of M master)))
has-open M m id name master x found =
    let Has : Option PModule → Type 0 = λ o. MatchOption o ⊥ (λ y. FitPorts m y y.ports (all_open o)) in
    subst Has (sym found) (fit-open m x x.ports)

-- a table that isn't too deep has short walks
short-walks : (M : Plain) → is_too_deep M ≡ false → WalksAreShort M
short-walks M e =
    let Low : PModule → Type 0 = λ x. height M x.id 257 ≤ 256 in
    let all : All Low M.modules = λ k d within. at_most 256 (height M (get_or M.modules k d).id 257) (names.none-of (λ (x : PModule). nat_lt 256 (height M x.id 257)) M.modules e k d within) in
    walks-within M 256 (λ id. within-by_cases M id 257 256 (module_of M id) refl (λ x found.
    subst (λ at. height M at 257 ≤ 256) (id-of_found M id x found) (All-find Low (λ (y : PModule). y.id.0 == id.0) M.modules x all found)))

pub create_inst-good : (S : State) (id : ModId) (name : List ℕ) (master : ModId) → IsGoodState S → Passes (create_inst_rules S id name master) → IsGoodState (after S (CreateInst id name master))
create_inst-good S id name master good p =
    let a = common-passes S id p in
    let b = first-passes a.1 in
    let c = first-passes b.1 in
    let recursive = first-passes c.1 in
    let deep = first-passes recursive.1 in
    let ended = first-passes deep.1 in
    let many = first-passes ended.1 in
    let wide = first-passes many.1 in
    let o : Opened S id = a.0 in
    let m : PModule = o.holder in
    let x = there (module_of S.plain master) b.0 in
    let conns : List Conn = all_open (module_of S.plain master) in
    let new : PInst = new_inst m.next_inst name master conns in
    let f : PModule → PModule = with_new_inst name master conns in
    let n : PModule = f m in
    let N : Plain = create_inst S.plain id name master in
    let s = holder-sound S id f (λ y. refl) o good in
    let taken = or_parts _ _ (sym (ap (λ (y : Option PModule). is_name_in y name) o.found) ∙ c.0) in
    let new_nets : All (λ (y : PNet). y.name ≢ name) m.nets = names.free net_name name m.nets taken.0 in
    let new_insts : All (λ (y : PInst). y.name ≢ name) m.insts = names.free inst_name name m.insts taken.1 in
    let old : NamesApart net_name inst_name m.nets m.insts = holder-names S id f (λ y. refl) o good in
    let ports : SamePorts m n = record { ports = refl; widths = λ k d within. refl } in
    let masters : KeepsMasters S.plain N = masters-changed S id f (λ y. refl) o good ports in
    stays S N good
    (changed-good S id f (λ y. refl) o good (λ y. refl) (names-stay S id f (λ y. refl) o good (λ y. refl)) ports
    (record {
      names = names.names_distinct net_name inst_name m.nets (m.insts ++ new ∷ []) (record {
        left = old.left;
        right = names.apart-push inst_name m.insts new old.right new_insts;
        across = λ k d within. All-push (λ (y : PInst). net_name (get_or m.nets k d) ≢ inst_name y) m.insts new (old.across k d within) (new_nets k d within);
      });
      nets_rise = s.nets_rise;
      nets_below = s.nets_below;
      net_counter = s.net_counter;
      ranges = s.ranges;
      ports_there = s.ports_there;
      ports_differ = s.ports_differ;
      insts_rise = all_pairs_push (λ (y z : PInst). y.id.0 < z.id.0) m.insts new s.insts_rise s.insts_below;
      insts_below = All-push (λ (y : PInst). y.id.0 < m.next_inst + 1) m.insts new
          (All-weaker (λ (y : PInst). y.id.0 < m.next_inst) (λ (y : PInst). y.id.0 < m.next_inst + 1) (λ y low. omega (arith, low)) m.insts s.insts_below) (omega arith);
      inst_counter = at_most 4294967295 (m.next_inst + 1) (sym (ap (λ (y : Option PModule). lacks_room (next_inst_of y) 1) o.found) ∙ ended.0);
      masters = All-push (HasMaster N n) m.insts new (insts_kept S.plain N m n masters (λ net. omega arith) m.insts s.masters)
          (master_kept S.plain N m n new (masters master) (λ k d within. keeps_wide m n (λ net. omega arith) (get_or conns k d)) (has-open S.plain m m.next_inst name master x.0 x.1));
      cell = no_cell m n o.inner refl;
    })
    (record {
      depth = short-walks N deep.0;
      size = at_most 1000000 (length (occurrences N S.top)) many.0;
      bits = few-bits N S.top wide.0;
    }))

-- Resize

same-width : (a b : Option Range) → same_range a b ≡ true → width a ≡ width b
same-width None None e = refl
same-width None (Some b) e = absurd (false≢true e)
same-width (Some a) None e = absurd (false≢true e)
same-width (Some a) (Some b) e =
    let parts = and_parts (a.left == b.left) (a.right == b.right) e in
    let left : a.left ≡ b.left = let is = parts.0 in grind (arith, nat_tests) in
    let right : a.right ≡ b.right = let is = parts.1 in grind (arith, nat_tests) in
    rw (left, right) refl

net-width : (a b : Option PNet) → same_net a b ≡ true → width_of a ≡ width_of b
net-width None None e = refl
net-width None (Some b) e = absurd (false≢true e)
net-width (Some a) None e = absurd (false≢true e)
net-width (Some a) (Some b) e = same-width a.range b.range (and_parts (bytes_eq a.name b.name) (same_range a.range b.range) e).1

-- what fits ports fits ports that are alike
fits-alike : (m a b : PModule) (p q : PPort) (conn : Conn) → width_of (net_of a p.net) ≡ width_of (net_of b q.net) → FitsPort m a p conn → FitsPort m b q conn
fits-alike m a b p q Open wide fits = tt
fits-alike m a b p q (Bits bits) wide fits = (fits.0 ∙ wide, fits.1)

fit-alike : (m a b : PModule) (ps qs : List PPort) (conns : List Conn) → length ps ≡ length qs → list_all (λ (x : PPort × PPort). same_port a b x.0 x.1) (zip ps qs) ≡ true → FitPorts m a ps conns → FitPorts m b qs conns
fit-alike m a b [] [] conns many alike fits = fits-none conns fits
  where
    fits-none : (conns : List Conn) → FitPorts m a [] conns → FitPorts m b [] conns
    fits-none [] fits = tt
    fits-none (conn ∷ conns) fits = absurd fits
fit-alike m a b [] (q ∷ qs) conns many alike fits = absurd (omega (arith, many))
fit-alike m a b (p ∷ ps) [] conns many alike fits = absurd (omega (arith, many))
fit-alike m a b (p ∷ ps) (q ∷ qs) [] many alike fits = absurd fits
fit-alike m a b (p ∷ ps) (q ∷ qs) (conn ∷ conns) many alike fits =
    let parts = and_parts (same_port a b p q) (list_all (λ (x : PPort × PPort). same_port a b x.0 x.1) (zip ps qs)) alike in
    let nets : same_net (net_of a p.net) (net_of b q.net) ≡ true = (and_parts (same_dir p.dir q.dir) (same_net (net_of a p.net) (net_of b q.net)) parts.0).1 in
    (fits-alike m a b p q conn (net-width (net_of a p.net) (net_of b q.net) nets) fits.0, fit-alike m a b ps qs conns (omega (arith, many)) parts.1 fits.1)

-- an instance fits another master whose ports are alike
has-alike : (M : Plain) (m : PModule) (x : PInst) (master : ModId) (a b : PModule) → module_of M x.master ≡ Some a → module_of M master ≡ Some b → same_ports (Some a) (Some b) ≡ true → HasMaster M m x → HasMaster M m (record x { master = master })
has-alike M m x master a b old new alike has =
    let parts = and_parts (length a.ports == length b.ports) (list_all (λ (y : PPort × PPort). same_port a b y.0 y.1) (zip a.ports b.ports)) alike in
    let many : length a.ports ≡ length b.ports = let is = parts.0 in grind (arith, nat_tests) in
    let Fits : Option PModule → Type 0 = λ o. MatchOption o ⊥ (λ y. FitPorts m y y.ports x.conns) in
    subst Fits (sym new) (fit-alike m a b a.ports b.ports x.conns many parts.1 (subst Fits old has))

pub below-each : (Below : ModId → ModId → Type 0) (h : PInst → PInst) (xs : List PInst) → All (λ (x : PInst). Below (h x).master x.master) xs → AreBelow Below (map h xs) xs
below-each Below h [] all = tt
below-each Below h (x ∷ xs) all =
    let Each : PInst → Type 0 = λ y. Below (h y).master y.master in
    inl (All-head Each x xs all, below-each Below h xs (All-tail Each x xs all))

pub below-alone : (Below : ModId → ModId → Type 0) (xs : List PInst) → All (λ (x : PInst). Below x.master x.master) xs → AreBelow Below xs xs
below-alone Below [] all = tt
below-alone Below (x ∷ xs) all =
    let Each : PInst → Type 0 = λ y. Below y.master y.master in
    inl (All-head Each x xs all, below-alone Below xs (All-tail Each x xs all))

pub resize-good : (S : State) (id : ModId) (i : InstId) (master : ModId) → IsGoodState S → Passes (resize_rules S id i master) → IsGoodState (after S (Resize id i master))
resize-good S id i master good p =
    let a = common-passes S id p in
    let b = first-passes a.1 in
    let c = first-passes b.1 in
    let e = first-passes c.1 in
    let g = first-passes e.1 in
    let o : Opened S id = a.0 in
    let M : Plain = S.plain in
    let m : PModule = o.holder in
    let x = inst-there S id i o b.0 in
    let new = there (module_of M master) c.0 in
    let change : PInst → PInst = λ y. record y { master = master } in
    let f : PModule → PModule = with_insts (at_inst i change) in
    let N : Plain = with_master M id i master in
    let s = holder-sound S id f (λ y. refl) o good in
    let leaves = and_parts (is_leaf (master_of M (inst_in M id i))) (is_leaf (module_of M master)) (not-false _ e.0) in
    let new_leaf : new.0.leaf ≡ true = sym (ap is_leaf new.1) ∙ leaves.1 in
    let old_is : master_of M (inst_in M id i) ≡ module_of M x.0.master = ap (master_of M) x.2 in
    let old = old-there (master_of M (inst_in M id i)) leaves.0 in
    let old_found : module_of M x.0.master ≡ Some old.0 = sym old_is ∙ old.1 in
    let alike : same_ports (Some old.0) (Some new.0) ≡ true = sym (ap (λ (y : Option PModule). same_ports y (Some new.0)) old.1) ∙ sym (ap (same_ports (master_of M (inst_in M id i))) new.1) ∙ not-false _ g.0 in
    let Below : ModId → ModId → Type 0 = λ v w. (v ≡ w) ⊎ ((v ≡ master) × (w ≡ x.0.master)) in
    let ids : (y : PModule) → (changed id f y).id ≡ y.id = changed-keeps (λ y. y.id) id f (λ y. refl) in
    let new_in : module_of N master ≡ Some (changed id f new.0) = lookup-mapped M (changed id f) ids master ∙ ap (option_map (changed id f)) new.1 in
    let no_insts : (changed id f new.0).insts ≡ [] = each-changed (λ v w. IsSoundModule M w → w.leaf ≡ true → v.insts ≡ []) M id f m o.found (λ t is. absurd (true≢false (sym is ∙ o.inner))) (λ y t is. (t.cell is).insts)
    new.0 (found-own M master new.0 new.1) (sound-module M master new.0 good.table.sound new.1) new_leaf in
    let leaf_in : (changed id f new.0).leaf ≡ true = changed-keeps (λ y. y.leaf) id f (λ y. refl) new.0 ∙ new_leaf in
    let each : All (λ (y : PInst). Below (at_inst i change y).master y.master) m.insts =
    each-inst i change (λ v w. Below v.master w.master) m x.0 s.insts_rise x.1 (inr (refl, refl)) (λ k d within. inl refl) in
    let below : IsBelow N M Below = λ v w under. ⊎_elim
    (λ (same : v ≡ w). subst (λ at. AreBelow Below (insts_of (module_of N v)) (insts_of (module_of M at))) same
    (each-mapped M (changed id f) ids (λ y z. AreBelow Below (insts_of y) (insts_of z)) tt
    (each-changed (λ y z. AreBelow Below y.insts z.insts) M id f m o.found (below-each Below (at_inst i change) m.insts each) (λ y. below-alone Below y.insts (λ k d within. inl refl))) v))
    (λ (other : (v ≡ master) × (w ≡ x.0.master)).
    let none : insts_of (module_of N v) ≡ [] = ap (λ at. insts_of (module_of N at)) other.0 ∙ ap insts_of new_in ∙ no_insts in
    subst (λ ys. AreBelow Below ys (insts_of (module_of M w))) (sym none) tt)
    under in
    let few : (v w : ModId) → Below v w → bits_of (module_of N v) ≤ bits_of (module_of M w) = λ v w under. ⊎_elim
    (λ (same : v ≡ w). subst (λ at. bits_of (module_of N v) ≤ bits_of (module_of M at)) same
    (each-mapped M (changed id f) ids (λ y z. bits_of y ≤ bits_of z) (omega arith) (each-changed (λ y z. bits_of (Some y) ≤ bits_of (Some z)) M id f m o.found (omega arith) (λ y. omega arith)) v))
    (λ (other : (v ≡ master) × (w ≡ x.0.master)).
    let none : bits_of (module_of N v) ≡ 0 = ap (λ at. bits_of (module_of N at)) other.0 ∙ ap bits_of new_in ∙ no-bits (changed id f new.0) leaf_in in
    omega (arith, none))
    under in
    let same_names : map inst_name (map (at_inst i change) m.insts) ≡ map inst_name m.insts = map-through inst_name (at_inst i change) (inst-keeps i change inst_name (λ y. refl)) m.insts in
    stays S N good
    (inst-table S id i change (λ y. refl) o x.0 good x.1
    (subst (λ ns. IsDistinct bytes_eq (map net_name m.nets ++ ns)) (sym same_names) s.names)
    (has-alike M m x.0 master old.0 new.0 old_found new.1 alike)
    (within-below N M Below below S.top good.table.sound good.table.within (λ at. (at, inl refl)) (inl refl) few))
  where
    old-there : (y : Option PModule) → is_leaf y ≡ true → (z : PModule) × (y ≡ Some z)
    old-there None is = absurd (false≢true is)
    old-there (Some z) is = (z, refl)

    no-bits : (y : PModule) → y.leaf ≡ true → bits_of (Some y) ≡ 0
    no-bits y is = rw is refl
