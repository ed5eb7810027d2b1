-- Rows of the modules that a text adds, each where its interface is the next.
use Rattle.std.proofs.Common.{arith, ◌≡◌, ◌≢◌, ℕ, ◌+◌, ◌<◌, [], ◌∷◌, ◌++◌, Some, Bool, true, false, List, map, take, drop, length, get_or, slice_get, refl, sym, ◌∙◌, ap, cond, append_assoc}
use Rattle.std.specs.Prelude.{if◌then◌else◌}
use Rattle.std.specs.Option.{option_map}
use Rattle.std.proofs.lemmas.List.{append-nil, length-append, length-map}
use Rattle.emh_base.specs.declared.plain.PModule.{PModule}
use Rattle.emh_base.specs.declared.plain.Plain.{Plain}
use Rattle.vlog_read.specs.declared.tree.TModule.{TModule}
use Rattle.vlog_elab.specs.declared.interface.Interface.{Interface}
use Rattle.flatten_rules.specs.Check.{each_after}
use Rattle.flatten_rules.proofs.FirstBroken.{each_after-append}
use Rattle.vlog_elab.specs.Named.{Named, place_of, is_there, numbered}
use Rattle.vlog_elab.specs.Interfaces.{has_module, added, interface, interfaces, row_face}
use Rattle.vlog_elab.specs.Table.{row}
use Rattle.vlog_elab.proofs.Naming.{place-there, place-below, place-new, item-after}
use Rattle.vlog_elab.proofs.Numbering.{numbered-append, numbered-push, length-numbered}
use Rattle.vlog_elab.proofs.Walking.{parted, one_more}
use Rattle.vlog_elab.proofs.Knowing.{there-interfaces, added-more}

pub own-is : (es : Named Interface) (k n : ℕ) (own : Interface) (e : List ℕ × Interface) → Some own ≡ option_map (λ e. e.1) (slice_get es k) → k ≡ n → slice_get es n ≡ Some e → own ≡ e.1
own-is es k n own e h same is =
    let f : Some own ≡ Some e.1 = h ∙ (rw (same, is) refl) in
    cc

-- the interfaces before a module, and those from it on
interfaces-parted : (M : Plain) (all_leaf : Bool) (before : List TModule) (m : TModule) (rest : List TModule) → interfaces M all_leaf (before ++ m ∷ rest)
    ≡ interfaces M all_leaf before ++ numbered (interface all_leaf) (M.next_module + length (added M before))
    ((if has_module M before m.name.name then [] else m ∷ []) ++ each_after (λ before (m : TModule). if has_module M before m.name.name then [] else m ∷ []) (before ++ m ∷ []) rest)
interfaces-parted M all_leaf before m rest =
    let later : List TModule = each_after (λ before (m : TModule). if has_module M before m.name.name then [] else m ∷ []) before (m ∷ rest) in
    ap (λ new. map row_face M.modules ++ numbered (interface all_leaf) M.next_module new)
    (each_after-append (λ before (m : TModule). if has_module M before m.name.name then [] else m ∷ []) [] before (m ∷ rest))
    ∙ ap (λ es. map row_face M.modules ++ es) (numbered-append (interface all_leaf) M.next_module (added M before) later)
    ∙ sym (append_assoc (map row_face M.modules) (numbered (interface all_leaf) M.next_module (added M before)) (numbered (interface all_leaf) (M.next_module + length (added M before)) later))

length-interfaces : (M : Plain) (all_leaf : Bool) (ms : List TModule) → length (interfaces M all_leaf ms) ≡ length M.modules + length (added M ms)
length-interfaces M all_leaf ms =
    length-append (map row_face M.modules) (numbered (interface all_leaf) M.next_module (added M ms))
    ∙ ap (λ n. n + length (numbered (interface all_leaf) M.next_module (added M ms))) (simp length-map)
    ∙ ap (λ n. length M.modules + n) (length-numbered (interface all_leaf) M.next_module (added M ms))

-- A module of a text, after which so many modules are in the table: its name is there already, and nothing is added; or its
-- interface is the next, and it is added.
pub data IsAdded (M : Plain) (all_leaf : Bool) (ms : List TModule) (fs : Named Interface) (i : ℕ) (m : TModule) (count : ℕ) : Type 0 where
  again : place_of fs m.name.name ≢ Some count → added M (take (i + 1) ms) ≡ added M (take i ms) → IsAdded M all_leaf ms fs i m count
  new : place_of fs m.name.name ≡ Some count → slice_get fs count ≡ Some (interface all_leaf (M.next_module + length (added M (take i ms))) m)
      → added M (take (i + 1) ms) ≡ added M (take i ms) ++ m ∷ [] → slice_get (added M ms) (length (added M (take i ms))) ≡ Some m → IsAdded M all_leaf ms fs i m count

pub is_added : (M : Plain) (all_leaf : Bool) (ms : List TModule) (fs : Named Interface) (i : ℕ) (m : TModule) (count : ℕ) → i < length ms → m ≡ get_or ms i m
    → fs ≡ interfaces M all_leaf ms → count ≡ length M.modules + length (added M (take i ms)) → IsAdded M all_leaf ms fs i m count
is_added M all_leaf ms fs i m count within here faces_are counted = at_h (has_module M before m.name.name) refl
  where
    before : List TModule
    before = take i ms

    later : List TModule
    later = each_after (λ before (m : TModule). if has_module M before m.name.name then [] else m ∷ []) (before ++ m ∷ []) (drop (i + 1) ms)

    id : ℕ
    id = M.next_module + length (added M before)

    parts : fs ≡ interfaces M all_leaf before ++ numbered (interface all_leaf) id ((if has_module M before m.name.name then [] else m ∷ []) ++ later)
    parts = faces_are ∙ ap (interfaces M all_leaf) (parted ms i m within here) ∙ interfaces-parted M all_leaf before m (drop (i + 1) ms)

    len : count ≡ length (interfaces M all_leaf before)
    len = counted ∙ sym (length-interfaces M all_leaf before)

    next : added M (take (i + 1) ms) ≡ added M before ++ (if has_module M before m.name.name then [] else m ∷ [])
    next = ap (added M) (one_more ms i m within here) ∙ added-more M before m

    all : added M ms ≡ added M before ++ ((if has_module M before m.name.name then [] else m ∷ []) ++ later)
    all = ap (added M) (parted ms i m within here)
        ∙ each_after-append (λ before (m : TModule). if has_module M before m.name.name then [] else m ∷ []) [] before (m ∷ drop (i + 1) ms)

    at_h : (h : Bool) → has_module M before m.name.name ≡ h → IsAdded M all_leaf ms fs i m count
    at_h true h =
        let there : is_there (interfaces M all_leaf before) m.name.name ≡ true = there-interfaces M all_leaf before m.name.name ∙ h in
        let others : Named Interface = numbered (interface all_leaf) id ((if has_module M before m.name.name then [] else m ∷ []) ++ later) in
        let place : place_of fs m.name.name ≡ place_of (interfaces M all_leaf before) m.name.name
        = ap (λ es. place_of es m.name.name) parts ∙ place-there (interfaces M all_leaf before) others m.name.name there in
        again
        (λ at. let below : count < length (interfaces M all_leaf before) = place-below (interfaces M all_leaf before) m.name.name count (sym place ∙ at) in omega (arith, len))
        (next ∙ ap (λ (h : Bool). added M before ++ cond h [] (m ∷ [])) h ∙ append-nil (added M before))
    at_h false h =
        let fresh : is_there (interfaces M all_leaf before) m.name.name ≡ false = there-interfaces M all_leaf before m.name.name ∙ h in
        let others : Named Interface = numbered (interface all_leaf) (id + 1) later in
        let here : fs ≡ interfaces M all_leaf before ++ interface all_leaf id m ∷ others
        = parts ∙ ap (λ (h : Bool). interfaces M all_leaf before ++ numbered (interface all_leaf) id (cond h [] (m ∷ []) ++ later)) h in
        new
        (ap (λ es. place_of es m.name.name) here ∙ place-new (interfaces M all_leaf before) others (interface all_leaf id m) fresh ∙ ap Some (sym len))
        (ap (slice_get fs) len ∙ ap (λ es. slice_get es (length (interfaces M all_leaf before))) here ∙ item-after (interfaces M all_leaf before) others (interface all_leaf id m))
        (next ∙ ap (λ (h : Bool). added M before ++ cond h [] (m ∷ [])) h)
        (ap (λ ms. slice_get ms (length (added M before))) (all ∙ ap (λ (h : Bool). added M before ++ (cond h [] (m ∷ []) ++ later)) h) ∙ item-after (added M before) later m)

-- one module more: its row goes last where it is added, and else nothing changes
pub grown : (M : Plain) (all_leaf : Bool) (ms : List TModule) (fs : Named Interface) (i : ℕ) (m : TModule) (rows more : List PModule) → i < length ms → m ≡ get_or ms i m
    → fs ≡ interfaces M all_leaf ms → rows ≡ M.modules ++ numbered (row fs all_leaf) M.next_module (added M (take i ms))
    → (place_of fs m.name.name ≢ Some (length rows) → more ≡ rows)
    → ((leaf : Bool) (id : ℕ) → place_of fs m.name.name ≡ Some (length rows) → slice_get fs (length rows) ≡ Some (interface leaf id m) → more ≡ rows ++ row fs leaf id m ∷ [])
    → more ≡ M.modules ++ numbered (row fs all_leaf) M.next_module (added M (take (i + 1) ms))
grown M all_leaf ms fs i m rows more within here faces_are so_far if_again if_new = at_m (is_added M all_leaf ms fs i m (length rows) within here faces_are len)
  where
    before : List TModule
    before = take i ms

    len : length rows ≡ length M.modules + length (added M before)
    len = ap length so_far ∙ length-append M.modules (numbered (row fs all_leaf) M.next_module (added M before))
        ∙ ap (λ n. length M.modules + n) (length-numbered (row fs all_leaf) M.next_module (added M before))

    at_m : IsAdded M all_leaf ms fs i m (length rows) → more ≡ M.modules ++ numbered (row fs all_leaf) M.next_module (added M (take (i + 1) ms))
    at_m (again other same) = if_again other ∙ so_far ∙ ap (λ new. M.modules ++ numbered (row fs all_leaf) M.next_module new) (sym same)
    at_m (new at is one all) =
        if_new all_leaf (M.next_module + length (added M before)) at is
        ∙ ap (λ rows. rows ++ row fs all_leaf (M.next_module + length (added M before)) m ∷ []) so_far
        ∙ append_assoc M.modules (numbered (row fs all_leaf) M.next_module (added M before)) (row fs all_leaf (M.next_module + length (added M before)) m ∷ [])
        ∙ ap (λ rows. M.modules ++ rows) (sym (ap (numbered (row fs all_leaf) M.next_module) one ∙ numbered-push (row fs all_leaf) M.next_module (added M before) m))

-- Counting the modules that are added.

pub count-again : (M : Plain) (all_leaf : Bool) (ms : List TModule) (fs : Named Interface) (i : ℕ) (m : TModule) (count : ℕ) → i < length ms → m ≡ get_or ms i m
    → fs ≡ interfaces M all_leaf ms → count ≡ length M.modules + length (added M (take i ms)) → place_of fs m.name.name ≢ Some count
    → count ≡ length M.modules + length (added M (take (i + 1) ms))
count-again M all_leaf ms fs i m count within here faces_are counted other = at_m (is_added M all_leaf ms fs i m count within here faces_are counted)
  where
    at_m : IsAdded M all_leaf ms fs i m count → count ≡ length M.modules + length (added M (take (i + 1) ms))
    at_m (again h same) = counted ∙ ap (λ new. length M.modules + length new) (sym same)
    at_m (new at is one all) = absurd (other at)

pub count-new : (M : Plain) (all_leaf : Bool) (ms : List TModule) (fs : Named Interface) (i : ℕ) (m : TModule) (count : ℕ) → i < length ms → m ≡ get_or ms i m
    → fs ≡ interfaces M all_leaf ms → count ≡ length M.modules + length (added M (take i ms)) → place_of fs m.name.name ≡ Some count
    → (count + 1 ≡ length M.modules + length (added M (take (i + 1) ms))) × (slice_get (added M ms) (length (added M (take i ms))) ≡ Some m)
count-new M all_leaf ms fs i m count within here faces_are counted at = at_m (is_added M all_leaf ms fs i m count within here faces_are counted)
  where
    at_m : IsAdded M all_leaf ms fs i m count
        → (count + 1 ≡ length M.modules + length (added M (take (i + 1) ms))) × (slice_get (added M ms) (length (added M (take i ms))) ≡ Some m)
    at_m (again other same) = absurd (other at)
    at_m (new h is one all) =
        let more : length (added M (take (i + 1) ms)) ≡ length (added M (take i ms)) + 1 = ap length one ∙ (rw (length-append (added M (take i ms)) (m ∷ [])) (grind arith)) in
        (omega (arith, more, counted), all)
