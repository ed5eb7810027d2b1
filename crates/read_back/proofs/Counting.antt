-- The tree of a sound table has no more nets and instances in a module than there are ids.
use Rattle.std.proofs.Common.{◌≡◌, ◌≢◌, ◌||◌, ℕ, ◌<◌, ◌≤◌, Bool, true, false, cond, List, [], ◌∷◌, map, find, length, get_or, Option, Some, None, bytes_eq, refl, sym, ap, ◌∙◌, subst, All, AllPairs, arith}
use Rattle.std.specs.List.{list_any}
use Rattle.std.specs.Cmp.{IsEquivalence, decided}
use Rattle.std.proofs.lemmas.Bool.{false≢true}
use Rattle.std.proofs.lemmas.List.{length-map}
use Rattle.std.proofs.lemmas.List.Elements.{All-head, All-tail, All-map}
use Rattle.std.proofs.lemmas.Map.Keys.{IsDistinct-from_apart}
use Rattle.std.proofs.lemmas.Map.Made.{length-le_from_is_member}
use Rattle.std.proofs.lemmas.Slice.Eq.{bytes_eq-Decides}
use Rattle.emh_base.specs.declared.plain.Range.{Range}
use Rattle.emh_base.specs.declared.plain.PNet.{PNet}
use Rattle.emh_base.specs.declared.plain.PInst.{PInst}
use Rattle.emh_base.specs.declared.plain.PModule.{PModule}
use Rattle.emh_base.specs.declared.plain.Plain.{Plain}
use Rattle.flatten_rules.specs.Sound.{IsSound, IsSoundModule, IsCounter}
use Rattle.vlog_read.specs.declared.tree.TModule.{TModule}
use Rattle.vlog_elab.specs.Table.{nets, insts}
use Rattle.vlog_elab.specs.Counters.{IsCountable}
use Rattle.vlog_elab.proofs.Row.{pairs_map}
use Rattle.named_tables.proofs.Names.{bytes_eq-other}
use Rattle.vlog_write.specs.TreeOf.{module_tree, in_written_order, tree_of}
use Rattle.read_back.proofs.Modules.{entry, all_ranges}
use Rattle.read_back.proofs.Nets.{IsNet, ranges-differ, ranges-nets, nets-made}
use Rattle.read_back.proofs.Rounds.{faces_of, has-interfaces}
use Rattle.read_back.proofs.Rows.{item_of, insts-made}
use Rattle.read_back.proofs.Written.{few-below, few-modules, written-all}

abbrev range_name : List ℕ × Option Range → List ℕ
range_name r = r.0

abbrev net_name : PNet → List ℕ
net_name net = net.name

found-any : {X Y : Type 0} (f : X → Y) (p : X → Bool) (q : Y → Bool) (xs : List X) (x : X) → find p xs ≡ Some x → q (f x) ≡ true → list_any q (map f xs) ≡ true
found-any f p q [] x at passes = let never : None ≡ Some x = at in absurd (cc)
found-any f p q (y ∷ ys) x at passes = by_p (p y) (q (f y)) refl at (λ e. found-any f p q ys x e passes)
  where
    by_p : (b c : Bool) → q (f y) ≡ c → cond b (Some y) (find p ys) ≡ Some x → (find p ys ≡ Some x → list_any q (map f ys) ≡ true) → q (f y) || list_any q (map f ys) ≡ true
    by_p b true c e more = ap (λ h. h || list_any q (map f ys)) c
    by_p true false c e more =
        let same : y ≡ x = cc in
        absurd (false≢true (sym c ∙ ap (λ z. q (f z)) same ∙ passes))
    by_p false false c e more = ap (λ h. h || list_any q (map f ys)) c ∙ more e

-- a name that is declared is that of a net
net-any : (m : PModule) (q : List ℕ) (rs : List (List ℕ × Option Range)) → All (IsNet m) rs → list_any (bytes_eq q) (map range_name rs) ≡ true → list_any (bytes_eq q) (map net_name m.nets) ≡ true
net-any m q [] all any = absurd (false≢true any)
net-any m q (r ∷ rs) all any =
    let net = All-head (IsNet m) r rs all in
    by (bytes_eq q r.0) refl any (λ e. found-any net_name _ (bytes_eq q) m.nets net.net net.at (sym (ap (λ (x : List ℕ × Option Range). bytes_eq q x.0) net.is) ∙ e))
    (λ h. net-any m q rs (All-tail (IsNet m) r rs all) h)
  where
    by : (b : Bool) → bytes_eq q r.0 ≡ b → b || list_any (bytes_eq q) (map range_name rs) ≡ true → (bytes_eq q r.0 ≡ true → list_any (bytes_eq q) (map net_name m.nets) ≡ true)
        → (list_any (bytes_eq q) (map range_name rs) ≡ true → list_any (bytes_eq q) (map net_name m.nets) ≡ true) → list_any (bytes_eq q) (map net_name m.nets) ≡ true
    by true e h here more = here e
    by false e h here more = more h

laws : IsEquivalence bytes_eq
laws = decided bytes_eq bytes_eq-Decides

module _ (M : Plain) (sound : IsSound M) where
  few-ranges : (m : PModule) → IsSoundModule M m → length (all_ranges m) ≤ length m.nets
  few-ranges m s =
      let names : List (List ℕ) = map range_name (all_ranges m) in
      let apart : AllPairs (λ a b. a ≢ b) names = pairs_map (λ a b. a ≢ b) range_name (all_ranges m) (ranges-differ M m s) in
      let all = length-le_from_is_member laws names (map net_name m.nets)
      (IsDistinct-from_apart bytes_eq names (λ i j d lt within. bytes_eq-other (get_or names i d) (get_or names j d) (apart i j d lt within)))
      (λ q. net-any m q (all_ranges m) (ranges-nets M m s)) in
      omega (arith, all, length-map (all_ranges m) range_name, length-map m.nets net_name)

  countable-module : (m : PModule) → IsSoundModule M m → IsCountable (module_tree M m)
  countable-module m s =
      let made = ap length (nets-made M m s (faces_of M 0 (in_written_order M)) sound (has-interfaces M sound (few-modules M sound))) ∙ length-map (all_ranges m) entry in
      let items = ap length (insts-made M m) ∙ length-map m.insts (item_of M m) in (
        omega (arith, made, few-ranges m s, few-below (λ (net : PNet). net.id.0) m.next_net m.nets s.nets_rise s.nets_below, s.net_counter),
        omega (arith, items, few-below (λ (inst : PInst). inst.id.0) m.next_inst m.insts s.insts_rise s.insts_below, s.inst_counter),
      )

pub countable : (M : Plain) → IsSound M → All IsCountable (tree_of M).modules
unfolding tree_of
countable M sound =
    All-map IsCountable (module_tree M) (in_written_order M)
    (λ k d within. countable-module M sound (get_or (in_written_order M) k d) (written-all (IsSoundModule M) M sound.modules k d within))
