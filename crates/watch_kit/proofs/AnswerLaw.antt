-- What the answer of FanoutLimit leaves.
use Rattle.std.proofs.Common.{◌≡◌, ℕ, zero, suc, ◌==◌, ◌<◌, ◌≤◌, nat_lt, min, Bool, true, false, cond, ◌&&◌, List, [], ◌∷◌, ◌++◌, map, find, length, get_or, Option, Some, None, option_and_then, is_some, IsSome, All, AllPairs, refl, sym, ap, ◌∙◌, subst, arith}
use Rattle.std.specs.List.{filter}
use Rattle.std.proofs.lemmas.Bool.{false≢true}
use Rattle.std.proofs.lemmas.Bool.Decides.{nat_tests}
use Rattle.std.proofs.lemmas.List.Elements.{All-head, All-tail, All-cons, All-nil, All-weaker, All-filter, filter_passes}
use Rattle.std.proofs.lemmas.List.Kept.{AllPairs-filter}
use Rattle.emh_base.specs.declared.ids.ModId.{ModId}
use Rattle.emh_base.specs.declared.ids.NetId.{NetId}
use Rattle.emh_base.specs.declared.ids.InstId.{InstId}
use Rattle.emh_base.specs.declared.plain.Range.{Range}
use Rattle.emh_base.specs.declared.plain.Src.{Src}
use Rattle.emh_base.specs.declared.plain.PNet.{PNet}
use Rattle.emh_base.specs.declared.plain.PModule.{PModule}
use Rattle.emh_base.specs.declared.plain.Plain.{Plain}
use Rattle.emh_base.specs.declared.state.Fanout.{Fanout}
use Rattle.emh_base.specs.declared.state.Settings.{Settings}
use Rattle.emh_base.specs.declared.state.State.{State}
use Rattle.emh_base.specs.declared.edit.Edit.{Edit}
use Rattle.emh_base.specs.declared.edit.Edit.TheVariants.{CreateNet, CreateInst, Connect}
use Rattle.flatten_rules.specs.Lookup.{module_of, net_of}
use Rattle.flatten_rules.specs.Changes.{with_module}
use Rattle.edit_rules.specs.Readers.{net_in}
use Rattle.edit_rules.specs.Good.{IsGoodState}
use Rattle.edit_rules.specs.Apply.{after}
use Rattle.watch_kit.specs.Passed.{passed, all_passed, NoneRefused}
use Rattle.watch_kit.specs.NetBits.{BitOf}
use Rattle.watch_kit.specs.Sinks.{Sink, sinks}
use Rattle.watch_kit.specs.Split.{Move, connect_to, split}
use Rattle.watch_kit.specs.FanoutLimit.{same_bit, is_over, splits}
use Rattle.watch_kit.specs.Law.{AnswersKeepLimit}
use Rattle.watch_kit.proofs.SplitConnects.{changed-here}
use Rattle.watch_kit.proofs.SplitLaw.{done, passed-good, split-law, others-law}

-- Lists of edits, one after the other.

none-append : (xs ys : List Edit) (S : State) → NoneRefused S (xs ++ ys) → NoneRefused S xs × NoneRefused (all_passed S xs) ys
none-append [] ys S none = (tt, none)
none-append (e ∷ xs) ys S none = let rest = none-append xs ys (passed S e) none.1 in ((none.0, rest.0), rest.1)

passed-append : (xs ys : List Edit) (S : State) → all_passed S (xs ++ ys) ≡ all_passed (all_passed S xs) ys
passed-append [] ys S = refl
passed-append (e ∷ xs) ys S = passed-append xs ys (passed S e)

good-all : (es : List Edit) (S : State) → IsGoodState S → NoneRefused S es → IsGoodState (all_passed S es)
good-all [] S good none = good
good-all (e ∷ es) S good none = good-all es (passed S e) (passed-good S e good none.0) none.1

-- The edits of a split leave settings and nets.

record Keeps (m : ModId) (S T : State) : Type 0 where
  settings : T.settings ≡ S.settings
  nets : (n : NetId) → IsSome (net_in S.plain m n) → IsSome (net_in T.plain m n)

data OfSplit : ModId → Edit → Type 0 where
  a_net : (m : ModId) (name : List ℕ) (range : Option Range) → OfSplit m (CreateNet m name range)
  an_inst : (m : ModId) (name : List ℕ) (cell : ModId) → OfSplit m (CreateInst m name cell)
  a_conn : (m : ModId) (inst : InstId) (port : NetId) (bits : List Src) → OfSplit m (Connect m inst port bits)

abbrev AllOfSplit : ModId → List Edit → Type 0
AllOfSplit m [] = Unit {0}
AllOfSplit m (e ∷ es) = OfSplit m e × AllOfSplit m es

some-push : (p : PNet → Bool) (xs : List PNet) (x : PNet) → IsSome (find p xs) → IsSome (find p (xs ++ x ∷ []))
some-push p [] x some = absurd (false≢true some)
some-push p (y ∷ xs) x some = by_test (p y) (some-push p xs x) some
  where
    by_test : (b : Bool) → (IsSome (find p xs) → IsSome (find p (xs ++ x ∷ []))) → IsSome (cond b (Some y) (find p xs)) → IsSome (cond b (Some y) (find p (xs ++ x ∷ [])))
    by_test true more some = refl
    by_test false more some = more some

nets-kept : (M : Plain) (m : ModId) (f : PModule → PModule) → ((h : PModule) → (f h).id ≡ h.id) → ((h : PModule) (n : NetId) → IsSome (net_of h n) → IsSome (net_of (f h) n))
    → (n : NetId) → IsSome (net_in M m n) → IsSome (net_in (with_module M m f) m n)
nets-kept M m f ids keep n some = by_cases (module_of M m) refl some
  where
    by_cases : (o : Option PModule) → module_of M m ≡ o → IsSome (option_and_then (λ (h : PModule). net_of h n) o) → IsSome (net_in (with_module M m f) m n)
    by_cases None found some = absurd (false≢true some)
    by_cases (Some h) found some =
        ap (λ (o : Option PModule). is_some (option_and_then (λ (y : PModule). net_of y n) o)) (changed-here M m f ids h found) ∙ keep h n some

after-keeps : {m : ModId} {e : Edit} (S : State) → OfSplit m e → Keeps m S (after S e)
after-keeps S (a_net m name range) = record {
  settings = refl;
  nets = nets-kept S.plain m _ (λ h. refl) (λ h n. some-push (λ x. x.id.0 == n.0) h.nets _);
}
after-keeps S (an_inst m name cell) = record { settings = refl; nets = nets-kept S.plain m _ (λ h. refl) (λ h n some. some) }
after-keeps S (a_conn m inst port bits) = record { settings = refl; nets = nets-kept S.plain m _ (λ h. refl) (λ h n some. some) }

module _ (m : ModId) where
  keeps-all : (es : List Edit) (S : State) → AllOfSplit m es → NoneRefused S es → Keeps m S (all_passed S es)
  keeps-all [] S of none = record { settings = refl; nets = λ n some. some }
  keeps-all (e ∷ es) S of none =
      let one : Keeps m S (passed S e) = subst (Keeps m S) (sym (done S e none.0)) (after-keeps S of.0) in
      let rest : Keeps m (passed S e) (all_passed (passed S e) es) = keeps-all es (passed S e) of.1 none.1 in
      record { settings = rest.settings ∙ one.settings; nets = λ n some. rest.nets n (one.nets n some) }

  all-moves : (mvs : List Move) → AllOfSplit m (map (connect_to m) mvs)
  all-moves [] = tt
  all-moves (mv ∷ mvs) = (a_conn m mv.inst mv.port mv.bits, all-moves mvs)

-- Bits.

abbrev Apart : BitOf → BitOf → Type 0
Apart b c = same_bit b c ≡ false

turned : (b c : BitOf) → Apart b c → Apart c b
turned b c apart = turn b.net.0 c.net.0 b.offset c.offset apart
  where
    turn : (x y z w : ℕ) → ((x == y) && (z == w)) ≡ false → ((y == x) && (w == z)) ≡ false
    turn x y z w e = grind (arith, nat_tests)

same-bit : (b c : BitOf) → same_bit b c ≡ true → b ≡ c
same-bit b c same =
    let make : ℕ → ℕ → BitOf = λ net offset. record { net = record { 0 = net }; offset = offset } in
    let nets : b.net.0 ≡ c.net.0 = grind (arith, nat_tests) in
    let offsets : b.offset ≡ c.offset = grind (arith, nat_tests) in
    ap (λ net. make net b.offset) nets ∙ ap (make c.net.0) offsets

-- One split of an answer, and all of them.

module _ (m : ModId) (limit : Fanout) where
  abbrev There : State → BitOf → Type 0
  There S b = IsSome (net_in S.plain m b.net)

  abbrev Over : State → BitOf → Type 0
  Over S b = is_over S m limit b ≡ true

  abbrev Full : State → BitOf → Type 0
  Full S b = length (sinks S.plain m b) ≡ limit.max

  -- what is known where the next splits begin
  record Ready (S : State) (bs : List BitOf) : Type 0 where
    good : IsGoodState S
    set : S.settings.fanout ≡ Some limit
    there : All (There S) bs
    apart : AllPairs Apart bs
    over : All (Over S) bs
    none : NoneRefused S (splits S m limit bs)

  record Next (S T : State) (b : BitOf) (bs : List BitOf) : Type 0 where
    ready : Ready T bs
    there : (c : BitOf) → There S c → There T c
    own : Full T b
    others : (c : BitOf) → There S c → Apart b c → sinks T.plain m c ≡ sinks S.plain m c

  next : (S : State) (b : BitOf) (bs : List BitOf) → Ready S (b ∷ bs) → Next S (all_passed S (split S m limit b)) b bs
  next S b bs r =
      let es : List Edit = split S m limit b in
      let T : State = all_passed S es in
      let parts = none-append es (splits T m limit bs) S r.none in
      let keeps = keeps-all m es S (a_net m _ _, (an_inst m _ _, (a_conn m _ _ _, (a_conn m _ _ _, all-moves m _)))) parts.0 in
      let more : limit.max < length (sinks S.plain m b) = let first : Over S b = All-head (Over S) b bs r.over in grind (arith, nat_tests) in
      let others : (c : BitOf) → There S c → Apart b c → sinks T.plain m c ≡ sinks S.plain m c =
      λ c there apart. others-law S m limit b c r.good r.set parts.0 there apart in
      record {
        ready = record {
          good = good-all es S r.good parts.0;
          set = ap (λ (s : Settings). s.fanout) keeps.settings ∙ r.set;
          there = All-weaker (There S) (There T) (λ c. keeps.nets c.net) bs (All-tail (There S) b bs r.there);
          apart = λ i j d before inside. r.apart (suc i) (suc j) d (omega arith) (omega arith);
          over = λ k d within.
              let c : BitOf = get_or bs k d in
              let there : There S c = All-tail (There S) b bs r.there k d within in
              let apart : Apart b c = r.apart zero (suc k) d (omega arith) (omega arith) in
              let same : length (sinks T.plain m c) ≡ length (sinks S.plain m c) = ap (λ (x : List Sink). length x) (others c there apart) in
              ap (nat_lt limit.max) same ∙ All-tail (Over S) b bs r.over k d within;
          none = parts.1;
        };
        there = λ c. keeps.nets c.net;
        own = split-law S m limit b r.good r.set more parts.0;
        others = others;
      }

  end-of : (S : State) (b : BitOf) (bs : List BitOf) → all_passed S (splits S m limit (b ∷ bs)) ≡ all_passed (all_passed S (split S m limit b)) (splits (all_passed S (split S m limit b)) m limit bs)
  end-of S b bs = passed-append (split S m limit b) (splits (all_passed S (split S m limit b)) m limit bs) S

  -- a bit that is none of those has the sinks that it had
  stay : (bs : List BitOf) (S : State) → Ready S bs → (c : BitOf) → There S c → All (λ b. Apart b c) bs → sinks (all_passed S (splits S m limit bs)).plain m c ≡ sinks S.plain m c
  stay [] S r c there others = refl
  stay (b ∷ bs) S r c there others =
      let step = next S b bs r in
      ap (λ (x : State). sinks x.plain m c) (end-of S b bs)
      ∙ stay bs (all_passed S (split S m limit b)) step.ready c (step.there c there) (All-tail (λ x. Apart x c) b bs others)
      ∙ step.others c there (All-head (λ x. Apart x c) b bs others)

  -- and each of those has so many as the limit says
  keep : (bs : List BitOf) (S : State) → Ready S bs → All (Full (all_passed S (splits S m limit bs))) bs
  keep [] S r = All-nil _
  keep (b ∷ bs) S r =
      let T : State = all_passed S (split S m limit b) in
      let step = next S b bs r in
      let End : State = all_passed T (splits T m limit bs) in
      let b_there : There T b = step.there b (All-head (There S) b bs r.there) in
      let same : sinks End.plain m b ≡ sinks T.plain m b =
      stay bs T step.ready b b_there (λ k d within. turned b (get_or bs k d) (r.apart zero (suc k) d (omega arith) (omega arith))) in
      let first : Full End b = ap (λ (x : List Sink). length x) same ∙ step.own in
      subst (λ (x : State). All (Full x) (b ∷ bs)) (sym (end-of S b bs)) (All-cons (Full End) b bs first (keep bs T step.ready))

  differ : (S : State) (x b : BitOf) → Over S x → is_over S m limit b ≡ false → Apart x b
  differ S x b over few = by_test (same_bit x b) refl
    where
      by_test : (t : Bool) → t ≡ same_bit x b → t ≡ false
      by_test true is = absurd (false≢true (sym few ∙ ap (is_over S m limit) (sym (same-bit x b (sym is))) ∙ over))
      by_test false is = refl

  -- a bit that had few enough sinks is none of those that are split
  kept : (bs : List BitOf) (S : State) → Ready S bs → (b : BitOf) → There S b → (Over S b → Full (all_passed S (splits S m limit bs)) b)
      → length (sinks (all_passed S (splits S m limit bs)).plain m b) ≡ min (length (sinks S.plain m b)) limit.max
  kept bs S r b there full = by_test (is_over S m limit b) refl
    where
      by_test : (t : Bool) → t ≡ is_over S m limit b → length (sinks (all_passed S (splits S m limit bs)).plain m b) ≡ min (length (sinks S.plain m b)) limit.max
      by_test true is =
          let more : limit.max < length (sinks S.plain m b) = grind (arith, nat_tests) in
          omega (arith, full (sym is), more)
      by_test false is =
          let few : length (sinks S.plain m b) ≤ limit.max = grind (arith, nat_tests) in
          ap (λ (x : List Sink). length x) (stay bs S r b there (λ k d within. differ S (get_or bs k d) b (r.over k d within) (sym is))) ∙ omega (arith, few)

-- what holds of each item that passes
abbrev Where : {X : Type 0} (p : X → Bool) (P : X → Type 0) → X → Type 0
Where p P x = p x ≡ true → P x

all-where : {X : Type 0} (p : X → Bool) (P : X → Type 0) (xs : List X) → All P (filter p xs) → All (Where p P) xs
all-where p P [] all = All-nil (Where p P)
all-where p P (x ∷ xs) all = by_test (p x) refl (all-where p P xs) all
  where
    by_test : (t : Bool) → t ≡ p x → (All P (filter p xs) → All (Where p P) xs) → All P (cond t (x ∷ filter p xs) (filter p xs)) → All (Where p P) (x ∷ xs)
    by_test true is more all = All-cons (Where p P) x xs (λ passes. All-head P x (filter p xs) all) (more (All-tail P x (filter p xs) all))
    by_test false is more all = All-cons (Where p P) x xs (λ passes. absurd (false≢true (is ∙ passes))) (more all)

pub answers-keep : AnswersKeepLimit
answers-keep S m limit bits good set there apart none =
    let over : List BitOf = filter (is_over S m limit) bits in
    let End : State = all_passed S (splits S m limit over) in
    let r : Ready m limit S over = record {
      good = good;
      set = set;
      there = All-filter (is_over S m limit) (There m limit S) bits there;
      apart = AllPairs-filter Apart (is_over S m limit) bits apart;
      over = filter_passes (is_over S m limit) bits;
      none = none;
    } in
    let full : All (λ b. Over m limit S b → Full m limit End b) bits = all-where (is_over S m limit) (Full m limit End) bits (keep m limit over S r) in
    λ k d within. kept m limit over S r (get_or bits k d) (there k d within) (full k d within)
