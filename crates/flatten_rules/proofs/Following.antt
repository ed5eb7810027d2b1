-- Graphs: following the edges from a node, and ranks that rule cycles out.
use Rattle.std.proofs.Common.{◌≡◌, ℕ, ◌+◌, ◌<◌, ◌≤◌, ◌↔◌, ◌||◌, Bool, true, false, nat_eq, List, [], ◌∷◌, ◌++◌, zero, suc, length, take, set, get_or, slice_get, Option, Some, None, IfSome, All, Contains, replicate, append-nil, refl, sym, ap, ◌∙◌, subst, arith, ⊎_elim}
use Rattle.std.specs.List.{list_any, IsDistinct}
use Rattle.std.specs.Cmp.{nat_eq_equiv}
use Rattle.std.proofs.lemmas.Bool.{cases_lt, cases_eq, false≢true, eqb-true, ne_eqb, false_from_ne_true, or_cases, both_ways}
use Rattle.std.proofs.lemmas.Option.{slice_get_within, get_or_from_slice_get}
use Rattle.std.proofs.lemmas.List.{get_or_append_left, length-set, get_or-set_same, get_or-set_other, get_or_default, append_assoc, take_more}
use Rattle.std.proofs.lemmas.List.Elements.{All-append, All-nil, All-weaker, All-contains, Contains-append_left, Contains-append_right, Contains-push, All-push, All-contains_itself}
use Rattle.std.proofs.lemmas.List.Folds.{list_any-append}
use Rattle.std.proofs.lemmas.Map.Keys.{IsDistinct-push}
use Rattle.std.proofs.lemmas.Map.Steps.{length-le_from_distinct_below}
use Rattle.std.proofs.lemmas.Map.Views.{Contains-from_any, list_any-from_Contains}
use Rattle.flatten_rules.specs.Graph.{next, IsGraph, Leads, Reaches, NoneReturns, rank_of, NeverRises, Falls}
use Rattle.flatten_rules.specs.Reach.{AreMarked, Adds}

pub contains-from_any : (x : ℕ) (xs : List ℕ) → list_any (nat_eq x) xs ≡ true → Contains xs x
contains-from_any x xs any = Contains-from_any {eq = nat_eq} eqb-true x xs any

pub any-from_contains : (x : ℕ) (xs : List ℕ) → Contains xs x → list_any (nat_eq x) xs ≡ true
any-from_contains x xs has = list_any-from_Contains nat_eq_equiv x xs has

get_or-replicate_false : (n k : ℕ) → get_or (replicate n false) k false ≡ false
get_or-replicate_false zero k = refl
get_or-replicate_false (suc n) zero = refl
get_or-replicate_false (suc n) (suc k) = get_or-replicate_false n k

-- no flag is set at first
pub marked-none : (n : ℕ) (flags : List Bool) → flags ≡ replicate n false → AreMarked [] flags
unfolding IsDistinct
marked-none n flags is = record {
  marks = λ k within. rw is (get_or-replicate_false n k);
  below = λ k any. absurd (false≢true any);
  once = tt;
}

pub marked-has : (order : List ℕ) (flags : List Bool) (node : ℕ) (flag : Bool) → AreMarked order flags → node < length flags → flag ≡ get_or flags node false → (flag ≡ true) ↔ Contains order node
marked-has order flags node flag marked within at =
    let same : flag ≡ list_any (nat_eq node) order = at ∙ marked.marks node within in
    (λ yes. contains-from_any node order (sym same ∙ yes), λ has. same ∙ any-from_contains node order has)

-- the flag of a node that isn't there isn't set
pub marked-fresh : (order : List ℕ) (flags : List Bool) (node : ℕ) (has : Bool) → AreMarked order flags → node < length flags → (has ≡ true) ↔ Contains order node → has ≡ false → get_or flags node false ≡ false
marked-fresh order flags node has marked within tells unset =
    false_from_ne_true (get_or flags node false) (λ set. both_ways has unset (tells.1 (contains-from_any node order (sym (marked.marks node within) ∙ set))))

pub marked-few : (order : List ℕ) (flags : List Bool) → AreMarked order flags → length order ≤ length flags
marked-few order flags marked = length-le_from_distinct_below order (length flags) marked.once marked.below

pub marked-below : (order : List ℕ) (flags : List Bool) (at : ℕ) (node : Option ℕ) → AreMarked order flags → node ≡ slice_get order at → IfSome node (λ node. node < length flags)
marked-below order flags at None marked is = tt
marked-below order flags at (Some node) marked is =
    let within : at < length order = slice_get_within order at node (sym is) in
    let here : get_or order at node ≡ node = get_or_from_slice_get order at node node (sym is) in
    marked.below node (any-from_contains node order (at, within, here))

pub or-false : (b : Bool) → (b || false) ≡ b
or-false true = refl
or-false false = refl

any-one : (k node : ℕ) → list_any (nat_eq k) (node ∷ []) ≡ true → k ≡ node
any-one k node any = ⊎_elim (λ (same : nat_eq k node ≡ true). eqb-true k node same) (λ (none : false ≡ true). absurd (false≢true none)) (or_cases (nat_eq k node) false any)

any-other : (order : List ℕ) (k node : ℕ) → (k ≡ node → ⊥) → list_any (nat_eq k) (order ++ node ∷ []) ≡ list_any (nat_eq k) order
any-other order k node other = list_any-append (nat_eq k) order (node ∷ []) ∙ (rw (ne_eqb k node other) (or-false (list_any (nat_eq k) order)))

-- one more node
pub marked-more : (order : List ℕ) (flags : List Bool) (node : ℕ) → AreMarked order flags → node < length flags → get_or flags node false ≡ false → AreMarked (order ++ node ∷ []) (set flags node true)
marked-more order flags node marked within fresh =
    let absent : list_any (nat_eq node) order ≡ false = sym (marked.marks node within) ∙ fresh in
    let long : length (set flags node true) ≡ length flags = length-set flags node true in
    record {
      marks = λ k low. ⊎_elim
          (λ (same : k ≡ node). rw same (get_or-set_same flags node true false within ∙ sym (any-from_contains node (order ++ node ∷ []) (Contains-push order node))))
          (λ (other : k ≡ node → ⊥). get_or-set_other flags node k true false other ∙ marked.marks k (omega arith) ∙ sym (any-other order k node other))
          (cases_eq k node);
      below = λ k any. ⊎_elim
          (λ (before : list_any (nat_eq k) order ≡ true). let low = marked.below k before in omega arith)
          (λ (last : list_any (nat_eq k) (node ∷ []) ≡ true). let same : k ≡ node = any-one k node last in omega arith)
          (or_cases (list_any (nat_eq k) order) (list_any (nat_eq k) (node ∷ [])) (sym (list_any-append (nat_eq k) order (node ∷ [])) ∙ any));
      once = IsDistinct-push nat_eq_equiv order node marked.once absent;
    }

-- nothing is added where the node is there
pub adds-none : (order : List ℕ) (node : ℕ) → Contains order node → Adds order (node ∷ []) order
adds-none order node has = record { more = []; all = sym (append-nil order); from = All-nil (Contains (node ∷ [])); there = All-push (Contains order) [] node (All-nil (Contains order)) has }

pub adds-one : (order : List ℕ) (node : ℕ) → Adds order (node ∷ []) (order ++ node ∷ [])
adds-one order node = record {
  more = node ∷ [];
  all = refl;
  from = All-contains_itself (node ∷ []);
  there = All-push (Contains (order ++ node ∷ [])) [] node (All-nil (Contains (order ++ node ∷ []))) (Contains-push order node);
}

kept : (old nodes new : List ℕ) → Adds old nodes new → (x : ℕ) → Contains old x → Contains new x
kept old nodes new adds x has = subst (λ xs. Contains xs x) (sym adds.all) (Contains-append_left old adds.more x has)

-- the node at the next place
pub adds-more : (old nodes mid new : List ℕ) (i node : ℕ) → i < length nodes → node ≡ get_or nodes i 0 → Adds old (take i nodes) mid → Adds mid (node ∷ []) new → Adds old (take (i + 1) nodes) new
adds-more old nodes mid new i node within at before here =
    let last : take (i + 1) nodes ≡ take i nodes ++ node ∷ [] = take_more nodes i 0 within ∙ ap (λ x. take i nodes ++ x ∷ []) (sym at) in
    let Of : List ℕ → List ℕ → Type 0 = λ xs ys. All (Contains xs) ys in
    rw last (record {
      more = before.more ++ here.more;
      all = here.all ∙ ap (λ xs. xs ++ here.more) before.all ∙ append_assoc old before.more here.more;
      from = All-append (Contains (take i nodes ++ node ∷ [])) before.more here.more
          (All-weaker (Contains (take i nodes)) (Contains (take i nodes ++ node ∷ [])) (λ x has. Contains-append_left (take i nodes) (node ∷ []) x has) before.more before.from)
          (All-weaker (Contains (node ∷ [])) (Contains (take i nodes ++ node ∷ [])) (λ x has. Contains-append_right (take i nodes) (node ∷ []) x has) here.more here.from);
      there = All-append (Contains new) (take i nodes) (node ∷ []) (All-weaker (Contains mid) (Contains new) (λ x has. kept mid (node ∷ []) new here x has) (take i nodes) before.there) here.there;
    })

-- The nodes reached from a: each is, those next to a are, and so are those next to each of the first.
pub record Followed (G : List (List ℕ)) (a : ℕ) (at : ℕ) (order : List ℕ) : Type 0 where
  pub reached : All (Reaches G a) order
  pub first : All (Contains order) (next G a)
  pub closed : (j : ℕ) → j < at → j < length order → All (Contains order) (next G (get_or order j 0))

reach-next : (G : List (List ℕ)) (a b c : ℕ) → Reaches G a b → Contains (next G b) c → Reaches G a c
reach-next G a b c reaches has = (b ∷ reaches.0, (reaches.1, has))

pub followed-first : (G : List (List ℕ)) (a : ℕ) (order : List ℕ) → Adds [] (next G a) order → Followed G a 0 order
followed-first G a order adds = record {
  reached = subst (All (Reaches G a)) (sym adds.all) (All-weaker (Contains (next G a)) (Reaches G a) (λ x has. ([], has)) adds.more adds.from);
  first = adds.there;
  closed = λ j low within. absurd (omega arith);
}

-- the node at the next place
pub followed-more : (G : List (List ℕ)) (a at b : ℕ) (order new : List ℕ) → Followed G a at order → slice_get order at ≡ Some b → Adds order (next G b) new → Followed G a (at + 1) new
followed-more G a at b order new before here adds =
    let within : at < length order = slice_get_within order at b here in
    let place : get_or order at 0 ≡ b = get_or_from_slice_get order at b 0 here in
    let reaches : Reaches G a b = subst (Reaches G a) place (before.reached at 0 within) in
    record {
      reached = subst (All (Reaches G a)) (sym adds.all) (All-append (Reaches G a) order adds.more before.reached
          (All-weaker (Contains (next G b)) (Reaches G a) (λ x has. reach-next G a b x reaches has) adds.more adds.from));
      first = All-weaker (Contains order) (Contains new) (λ x has. kept order (next G b) new adds x has) (next G a) before.first;
      closed = λ j low in_new. ⊎_elim
          (λ (below : j < at).
          let in_old : j < length order = omega arith in
          let same : get_or new j 0 ≡ get_or order j 0 = ap (λ xs. get_or xs j 0) adds.all ∙ get_or_append_left order adds.more 0 j in_old in
          rw same (All-weaker (Contains order) (Contains new) (λ x has. kept order (next G b) new adds x has) (next G (get_or order j 0)) (before.closed j below in_old)))
          (λ (from : at ≤ j).
          let is : j ≡ at = omega arith in
          let same : get_or new j 0 ≡ b = ap (λ xs. get_or xs j 0) adds.all ∙ ap (λ i. get_or (order ++ adds.more) i 0) is ∙ get_or_append_left order adds.more 0 at within ∙ place in
          rw same adds.there)
          (cases_lt j at);
    }

-- what is followed to its end has all that is reached
all-there : (G : List (List ℕ)) (a at : ℕ) (order : List ℕ) → Followed G a at order → length order ≤ at → (up : List ℕ) (z : ℕ) → Leads G a up z → Contains order z
all-there G a at order followed past [] z leads = All-contains (Contains order) (next G a) z followed.first leads
all-there G a at order followed past (b ∷ up) z leads =
    let has : Contains order b = all-there G a at order followed past up b leads.0 in
    let place : get_or order has.0 0 ≡ b = get_or_default order has.0 0 b has.1 ∙ has.2 in
    let closed : All (Contains order) (next G b) = subst (λ c. All (Contains order) (next G c)) place (followed.closed has.0 (omega arith) has.1) in
    All-contains (Contains order) (next G b) z closed leads.1

pub followed-all : (G : List (List ℕ)) (a at : ℕ) (order : List ℕ) → Followed G a at order → length order ≤ at → (z : ℕ) → Contains order z ↔ Reaches G a z
followed-all G a at order followed past z = (λ has. All-contains (Reaches G a) order z followed.reached has, λ reaches. all-there G a at order followed past reaches.0 z reaches.1)

-- Where no edge rises and all edges from a fall, no walk leads back to a.
leads-node : (G : List (List ℕ)) (a : ℕ) → IsGraph G → a < length G → (up : List ℕ) (z : ℕ) → Leads G a up z → z < length G
leads-node G a graph within [] z leads = All-contains (λ b. b < length G) (next G a) z (graph a [] within) leads
leads-node G a graph within (b ∷ up) z leads = All-contains (λ c. c < length G) (next G b) z (graph b [] (leads-node G a graph within up b leads.0)) leads.1

leads-falls : (ranks : List ℕ) (G : List (List ℕ)) (a : ℕ) → IsGraph G → a < length G → NeverRises ranks G → Falls ranks G a → (up : List ℕ) (z : ℕ) → Leads G a up z → rank_of ranks z < rank_of ranks a
leads-falls ranks G a graph within rises falls [] z leads = All-contains (λ b. rank_of ranks b < rank_of ranks a) (next G a) z falls leads
leads-falls ranks G a graph within rises falls (b ∷ up) z leads =
    let before : rank_of ranks b < rank_of ranks a = leads-falls ranks G a graph within rises falls up b leads.0 in
    let node : b < length G = leads-node G a graph within up b leads.0 in
    let last : rank_of ranks z ≤ rank_of ranks b = All-contains (λ c. rank_of ranks c ≤ rank_of ranks b) (next G b) z (rises b node) leads.1 in
    omega arith

pub falls-no_return : (ranks : List ℕ) (G : List (List ℕ)) (a : ℕ) → IsGraph G → a < length G → NeverRises ranks G → Falls ranks G a → Reaches G a a → ⊥
falls-no_return ranks G a graph within rises falls reaches =
    let low = leads-falls ranks G a graph within rises falls reaches.0 a reaches.1 in absurd (omega arith)

pub get-none_past : {X : Type 0} (xs : List X) (i : ℕ) → slice_get xs i ≡ None → length xs ≤ i
get-none_past xs i none =
    ⊎_elim (λ (below : i < length xs). absurd (none-there xs i none below)) (λ (past : length xs ≤ i). past) (cases_lt i (length xs))
  where
    none-there : {X : Type 0} (xs : List X) (i : ℕ) → slice_get xs i ≡ None → i < length xs → ⊥
    none-there [] i none below = absurd (omega arith)
    none-there (x ∷ xs) zero none below = let never : Some x ≡ None = none in cc
    none-there (x ∷ xs) (suc i) none below = none-there xs i none (omega arith)

-- one more node that doesn't reach itself
pub none-more : (G : List (List ℕ)) (from to : ℕ) → NoneReturns G from to → (Reaches G to to → ⊥) → NoneReturns G from (to + 1)
none-more G from to none last a low high =
    ⊎_elim (λ (below : a < to). none a low below) (λ (above : to ≤ a). let same : a ≡ to = omega arith in rw same last) (cases_lt a to)
