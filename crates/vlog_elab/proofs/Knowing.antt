-- What is known of the modules before one: their names, and how it grows.
use Rattle.std.proofs.Common.{arith, ◌≡◌, ℕ, ◌+◌, [], ◌∷◌, ◌++◌, Some, Bool, true, false, List, map, length, refl, sym, ◌∙◌, ap, cond, append_assoc, bytes_eq}
use Rattle.std.specs.Prelude.{◌||◌, is_some, if◌then◌else◌}
use Rattle.std.specs.List.{list_any}
use Rattle.std.specs.Map.{lookup}
use Rattle.std.proofs.Math.Bool.{or_assoc}
use Rattle.std.proofs.lemmas.List.{append-nil, length-append}
use Rattle.std.proofs.lemmas.List.Folds.{list_any-append}
use Rattle.emh_base.specs.declared.plain.PModule.{PModule}
use Rattle.emh_base.specs.declared.plain.Plain.{Plain}
use Rattle.vlog_read.specs.declared.tree.TModule.{TModule}
use Rattle.vlog_elab.specs.declared.interface.Interface.{Interface}
use Rattle.vlog_elab.specs.declared.interface.Known.{Known}
use Rattle.flatten_rules.specs.Check.{first_broken, each_after}
use Rattle.flatten_rules.proofs.FirstBroken.{each_after-append}
use Rattle.vlog_elab.specs.Named.{Named, is_there, numbered}
use Rattle.vlog_elab.specs.Interfaces.{has_module, added, interfaces, interface, row_face, known}
use Rattle.vlog_elab.specs.Declarations.{declaration_checks}
use Rattle.vlog_elab.specs.inside.Walk.{first_fault, at_end}
use Rattle.vlog_elab.specs.inside.Walks.{module_walk, after_module}
use Rattle.vlog_elab.proofs.Numbering.{numbered-append}
use Rattle.vlog_elab.proofs.Naming.{or-false, one_or_not, same_name}
use Rattle.vlog_elab.proofs.Walking.{walked, known-at_end}

pub any-one_or_not : {X : Type 0} (t : X → Bool) (h : Bool) (x : X) (xs : List X) → list_any t (cond h [] (x ∷ []) ++ xs) ≡ cond h (list_any t xs) (t x || list_any t xs)
any-one_or_not t true x xs = refl
any-one_or_not t false x xs = refl

-- a name that is one module's more
one_more_name : (M : Plain) (before : List TModule) (m : TModule) (q : List ℕ) → has_module M (before ++ m ∷ []) q ≡ (has_module M before q || bytes_eq q m.name.name)
one_more_name M before m q =
    ap (λ b. list_any (λ (m : PModule). bytes_eq q m.name) M.modules || b) (list_any-append (λ (m : TModule). bytes_eq q m.name.name) before (m ∷ []) ∙ ap (λ b. list_any (λ (m : TModule). bytes_eq q m.name.name) before || b) (or-false (bytes_eq q m.name.name)))
    ∙ sym (or_assoc (list_any (λ (m : PModule). bytes_eq q m.name) M.modules) (list_any (λ (m : TModule). bytes_eq q m.name.name) before) (bytes_eq q m.name.name))

-- a name that the table or the modules have is found among the table's and the added ones
among_added : (M : Plain) (before ms : List TModule) (q : List ℕ)
    → (has_module M before q || list_any (λ (m : TModule). bytes_eq q m.name.name) (each_after (λ before (m : TModule). if has_module M before m.name.name then [] else m ∷ []) before ms))
    ≡ has_module M (before ++ ms) q
among_added M before [] q = or-false (has_module M before q) ∙ ap (λ ms. has_module M ms q) (sym (append-nil before))
among_added M before (m ∷ ms) q =
    let test : TModule → Bool = λ m. bytes_eq q m.name.name in
    let rest : List TModule = each_after (λ before (m : TModule). if has_module M before m.name.name then [] else m ∷ []) (before ++ m ∷ []) ms in
    let known_before : has_module M before m.name.name ≡ true → bytes_eq q m.name.name ≡ true → has_module M before q ≡ true
    = λ h e. let same : q ≡ m.name.name = same_name q m.name.name e in (rw same h) in
    ap (λ b. has_module M before q || b) (any-one_or_not test (has_module M before m.name.name) m rest)
    ∙ one_or_not (has_module M before q) (bytes_eq q m.name.name) (list_any test rest) (has_module M before m.name.name) known_before
    ∙ ap (λ b. b || list_any test rest) (sym (one_more_name M before m q))
    ∙ among_added M (before ++ m ∷ []) ms q
    ∙ ap (λ ms. has_module M ms q) (append_assoc before (m ∷ []) ms)

-- the names of rows and of added modules, as they are found
there-rows : (rows : List PModule) (es : Named Interface) (q : List ℕ) → is_there (map row_face rows ++ es) q ≡ (list_any (λ (m : PModule). bytes_eq q m.name) rows || is_there es q)
there-rows [] es q = refl
there-rows (r ∷ rows) es q = elim (bytes_eq q r.name) as (λ b. is_some (cond b (Some (row_face r).1) (lookup (bytes_eq q) (map row_face rows ++ es))) ≡ ((b || list_any (λ (m : PModule). bytes_eq q m.name) rows) || is_there es q)) [ true ↦ refl | false ↦ there-rows rows es q ]

there-added : (all_leaf : Bool) (n : ℕ) (ms : List TModule) (q : List ℕ) → is_there (numbered (interface all_leaf) n ms) q ≡ list_any (λ (m : TModule). bytes_eq q m.name.name) ms
there-added all_leaf n [] q = refl
there-added all_leaf n (m ∷ ms) q = elim (bytes_eq q m.name.name) as (λ b. is_some (cond b (Some (interface all_leaf n m).1) (lookup (bytes_eq q) (numbered (interface all_leaf) (n + 1) ms))) ≡ (b || list_any (λ (m : TModule). bytes_eq q m.name.name) ms)) [ true ↦ refl | false ↦ there-added all_leaf (n + 1) ms q ]

-- a name is among the interfaces where a module has it
pub there-interfaces : (M : Plain) (all_leaf : Bool) (ms : List TModule) (q : List ℕ) → is_there (interfaces M all_leaf ms) q ≡ has_module M ms q
there-interfaces M all_leaf ms q =
    there-rows M.modules (numbered (interface all_leaf) M.next_module (added M ms)) q
    ∙ ap (λ b. list_any (λ (m : PModule). bytes_eq q m.name) M.modules || b) (there-added all_leaf M.next_module (added M ms) q)
    ∙ ap (λ b. b || list_any (λ (m : TModule). bytes_eq q m.name.name) (added M ms)) (sym (or-false (list_any (λ (m : PModule). bytes_eq q m.name) M.modules)))
    ∙ among_added M [] ms q

-- one module more is added, or not
pub added-more : (M : Plain) (before : List TModule) (m : TModule) → added M (before ++ m ∷ []) ≡ added M before ++ (if has_module M before m.name.name then [] else m ∷ [])
added-more M before m =
    each_after-append (λ before (m : TModule). if has_module M before m.name.name then [] else m ∷ []) [] before (m ∷ [])
    ∙ ap (λ rest. added M before ++ rest) (append-nil (if has_module M before m.name.name then [] else m ∷ []))

-- what is known by the table's modules and those that are added
abbrev known_by : Plain → Bool → List TModule → Known
known_by M all_leaf new = record {
  interfaces = map row_face M.modules ++ numbered (interface all_leaf) M.next_module new;
  next_module = M.next_module + length new;
}

-- what is known after one module more
pub known-more : (M : Plain) (all_leaf : Bool) (before : List TModule) (m : TModule) → known M all_leaf (before ++ m ∷ []) ≡ after_module all_leaf (known M all_leaf before) m
known-more M all_leaf before m =
    ap (known_by M all_leaf) (added-more M before m)
    ∙ at_h (has_module M before m.name.name)
    ∙ ap (λ (h : Bool). cond h k one_more) (sym (there-interfaces M all_leaf before m.name.name))
  where
    k : Known
    k = known M all_leaf before

    one_more : Known
    one_more = record { interfaces = k.interfaces ++ interface all_leaf k.next_module m ∷ []; next_module = k.next_module + 1 }

    at_h : (h : Bool) → known_by M all_leaf (added M before ++ cond h [] (m ∷ [])) ≡ cond h k one_more
    at_h true = ap (known_by M all_leaf) (append-nil (added M before))
    at_h false =
        let es : interfaces M all_leaf before ++ interface all_leaf k.next_module m ∷ [] ≡ map row_face M.modules ++ numbered (interface all_leaf) M.next_module (added M before ++ m ∷ [])
        = append_assoc (map row_face M.modules) (numbered (interface all_leaf) M.next_module (added M before)) (interface all_leaf k.next_module m ∷ [])
        ∙ ap (λ es. map row_face M.modules ++ es) (sym (numbered-append (interface all_leaf) M.next_module (added M before) (m ∷ []))) in
        let n : M.next_module + length (added M before ++ m ∷ []) ≡ M.next_module + length (added M before) + 1 = rw (length-append (added M before) (m ∷ [])) (grind arith) in
        rw (es, n) refl

-- the first round, by its walk
pub declaration_checks-walk : (M : Plain) (all_leaf : Bool) (ms : List TModule) → first_broken (declaration_checks M all_leaf ms) ≡ first_fault (module_walk all_leaf) (known M all_leaf []) ms
declaration_checks-walk M all_leaf ms = walked (module_walk all_leaf) (known M all_leaf) (known-more M all_leaf) [] ms

pub known-walk : (M : Plain) (all_leaf : Bool) (ms : List TModule) → known M all_leaf ms ≡ at_end (module_walk all_leaf) (known M all_leaf []) ms
known-walk M all_leaf ms = known-at_end (module_walk all_leaf) (known M all_leaf) (known-more M all_leaf) [] ms

-- what is known at first
pub known-none : (M : Plain) (all_leaf : Bool) → known M all_leaf [] ≡ record { interfaces = map row_face M.modules; next_module = M.next_module }
known-none M all_leaf =
    let n : M.next_module + 0 ≡ M.next_module = omega arith in
    rw (append-nil (map row_face M.modules), n) refl
