-- What has a name is found by it, where names differ.
use Rattle.std.proofs.Common.{arith, ◌≡◌, ◌≢◌, ℕ, ◌<◌, ◌==◌, Bool, true, false, List, [], ◌∷◌, ◌++◌, map, find, length, get_or, slice_get, Some, option_map, bytes_eq, refl, sym, ap, ◌∙◌, subst, AllPairs}
use Rattle.std.specs.List.{position_or_len, IsDistinct}
use Rattle.std.proofs.lemmas.Option.{slice_get_within, get_or_from_slice_get, slice_get-get_or}
use Rattle.std.proofs.lemmas.List.{length-map, length-append, get_or_append_left, get_or-map}
use Rattle.std.proofs.lemmas.List.Folds.{find_at}
use Rattle.std.proofs.lemmas.List.Sums.{position_or_len_is}
use Rattle.std.proofs.lemmas.Map.Made.{AllPairs-from_IsDistinct}
use Rattle.std.proofs.lemmas.Slice.Eq.{bytes_eq-Decides}
use Rattle.emh_base.specs.declared.ids.ModId.{ModId}
use Rattle.emh_base.specs.declared.ids.NetId.{NetId}
use Rattle.emh_base.specs.declared.plain.PNet.{PNet}
use Rattle.emh_base.specs.declared.plain.PInst.{PInst}
use Rattle.emh_base.specs.declared.plain.PModule.{PModule}
use Rattle.emh_base.specs.declared.plain.Plain.{Plain}
use Rattle.flatten_rules.specs.Lookup.{module_of, net_of}
use Rattle.flatten_rules.specs.Sound.{IsSound, IsSoundModule}
use Rattle.flatten_rules.proofs.Walks.{same-some, id-of_net}
use Rattle.named_tables.specs.NamedTable.{named_module, named_table, net_named}

pub bytes_eq-refl : (a : List ℕ) → bytes_eq a a ≡ true
bytes_eq-refl a = grind (arith, bytes_eq-Decides)

pub bytes_eq-other : (a b : List ℕ) → a ≢ b → bytes_eq a b ≡ false
bytes_eq-other a b other = grind (arith, bytes_eq-Decides)

pub found-at : {X : Type 0} (test : X → Bool) (xs : List X) (x : X) → find test xs ≡ Some x → (k : ℕ) × (k < length xs) × (get_or xs k x ≡ x)
found-at test xs x found =
    let here : slice_get xs (position_or_len test xs) ≡ Some x = sym (find_at test xs) ∙ found in
    (position_or_len test xs, slice_get_within xs (position_or_len test xs) x here, get_or_from_slice_get xs (position_or_len test xs) x x here)

pub find-named : {X : Type 0} (key : X → List ℕ) (xs : List X) → AllPairs (λ a b. key a ≢ key b) xs → (k : ℕ) (d : X) → k < length xs
    → find (λ y. bytes_eq (key y) (key (get_or xs k d))) xs ≡ Some (get_or xs k d)
find-named {X} key xs differ k d within =
    let test : X → Bool = λ y. bytes_eq (key y) (key (get_or xs k d)) in
    let place : position_or_len test xs ≡ k =
    position_or_len_is test xs k d (omega arith) (λ j below. bytes_eq-other (key (get_or xs j d)) (key (get_or xs k d)) (differ j k d below within)) (λ _. bytes_eq-refl (key (get_or xs k d))) in
    find_at test xs ∙ rw place (slice_get-get_or xs k d within)

pub named-own : {X : Type 0} (key : X → List ℕ) (xs : List X) (test : X → Bool) (x : X) → AllPairs (λ a b. key a ≢ key b) xs → find test xs ≡ Some x
    → find (λ y. bytes_eq (key y) (key x)) xs ≡ Some x
named-own {X} key xs test x differ found =
    let at = found-at test xs x found in
    subst (λ (y : X). find (λ z. bytes_eq (key z) (key y)) xs ≡ Some y) at.2 (find-named key xs differ at.0 x at.1)

pub pairs-unmap : {X : Type 0} (key : X → List ℕ) (xs : List X) (more : List (List ℕ)) → IsDistinct bytes_eq (map key xs ++ more) → AllPairs (λ a b. key a ≢ key b) xs
pairs-unmap {X} key xs more distinct i j d below within =
    let pair = AllPairs-from_IsDistinct bytes_eq-Decides (map key xs ++ more) distinct i j [] below (omega (arith, within, length-append (map key xs) more, length-map xs key)) in
    λ same. pair (at i (omega (arith, below, within)) ∙ same ∙ sym (at j within))
  where
    at : (k : ℕ) → k < length xs → get_or (map key xs ++ more) k [] ≡ key (get_or xs k d)
    at k within = get_or_append_left (map key xs) more [] k (omega (arith, within, length-map xs key)) ∙ get_or-map key xs k d [] within

pub nets-differ : (M : Plain) (m : PModule) → IsSoundModule M m → AllPairs (λ (a b : PNet). a.name ≢ b.name) m.nets
nets-differ M m s = pairs-unmap (λ (net : PNet). net.name) m.nets (map (λ (inst : PInst). inst.name) m.insts) s.names

pub names-differ : (ms : List PModule) → IsDistinct bytes_eq (map (λ (m : PModule). m.name) ms) → AllPairs (λ (a b : PModule). a.name ≢ b.name) ms
names-differ ms distinct =
    pairs-unmap (λ (m : PModule). m.name) ms [] (subst (IsDistinct bytes_eq) (sym (append-none (map (λ (m : PModule). m.name) ms))) distinct)
  where
    append-none : (xs : List (List ℕ)) → xs ++ [] ≡ xs
    append-none [] = refl
    append-none (x ∷ xs) = ap (λ ys. x ∷ ys) (append-none xs)

pub modules-differ : (M : Plain) → IsSound M → AllPairs (λ (a b : PModule). a.name ≢ b.name) M.modules
modules-differ M s = names-differ M.modules s.names

-- a net is found by its name
pub net-own : (M : Plain) (m : PModule) (id : NetId) (net : PNet) → IsSoundModule M m → net_of m id ≡ Some net → net_named m net.name ≡ Some net
net-own M m id net s found = named-own (λ (n : PNet). n.name) m.nets (λ (n : PNet). n.id.0 == id.0) net (nets-differ M m s) found

-- nets of one name have one id
pub one-net : (M : Plain) (m : PModule) (a b : NetId) (x y : PNet) → IsSoundModule M m → net_of m a ≡ Some x → net_of m b ≡ Some y → x.name ≡ y.name → a ≡ b
one-net M m a b x y s found_a found_b same =
    let own_x : net_named m x.name ≡ Some x = net-own M m a x s found_a in
    let own_y : net_named m x.name ≡ Some y = subst (λ (name : List ℕ). net_named m name ≡ Some y) (sym same) (net-own M m b y s found_b) in
    let is : x ≡ y = same-some (net_named m x.name) x y own_x own_y in
    sym (id-of_net m a x found_a) ∙ ap (λ (net : PNet). net.id) is ∙ id-of_net m b y found_b

-- a module is found by its name
pub module-own : (M : Plain) (id : ModId) (m : PModule) → IsSound M → module_of M id ≡ Some m → named_table M m.name ≡ Some (named_module M m)
unfolding named_table
module-own M id m s found =
    ap (option_map (named_module M)) (named-own (λ (m : PModule). m.name) M.modules (λ (m : PModule). m.id.0 == id.0) m (modules-differ M s) found)
