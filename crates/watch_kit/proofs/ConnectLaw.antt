-- The answer to a Connect keeps the bits of the connection within the limit.
use Rattle.std.proofs.Common.{◌≡◌, ℕ, zero, suc, ◌==◌, ◌<◌, Bool, true, false, not, List, [], ◌∷◌, filter, slice_get, Option, Some, None, option_and_then, IsSome, MatchOption, All, AllPairs, refl, sym, ap₂, ◌∙◌, subst, arith}
use Rattle.std.specs.List.{flat_map}
use Rattle.std.proofs.lemmas.List.Elements.{All-head, All-tail, All-cons, All-nil, All-filter, All-append, filter_passes}
use Rattle.std.proofs.lemmas.List.Kept.{AllPairs-cons, AllPairs-filter}
use Rattle.std.proofs.lemmas.Option.{slice_get_past}
use Rattle.emh_base.specs.declared.ids.ModId.{ModId}
use Rattle.emh_base.specs.declared.ids.NetId.{NetId}
use Rattle.emh_base.specs.declared.ids.InstId.{InstId}
use Rattle.emh_base.specs.declared.plain.Src.{Src}
use Rattle.emh_base.specs.declared.plain.Src.TheVariants.{Tie0, Tie1, Bit}
use Rattle.emh_base.specs.declared.plain.Conn.{Conn}
use Rattle.emh_base.specs.declared.plain.Conn.TheVariants.{Open, Bits}
use Rattle.emh_base.specs.declared.plain.PNet.{PNet}
use Rattle.emh_base.specs.declared.plain.PPort.{PPort}
use Rattle.emh_base.specs.declared.plain.PInst.{PInst}
use Rattle.emh_base.specs.declared.plain.PModule.{PModule}
use Rattle.emh_base.specs.declared.plain.Plain.{Plain}
use Rattle.flatten_rules.specs.Lookup.{module_of, net_of, inst_of, width_of}
use Rattle.flatten_rules.specs.Sound.{IsSound, IsSoundModule, HasMaster, FitPorts, IsSource}
use Rattle.flatten_rules.proofs.Sound.{sound-module, All-find}
use Rattle.edit_rules.specs.Readers.{net_in, inst_in, conn_of, conn_at, conns_of, master_of, port_place}
use Rattle.watch_kit.specs.NetBits.{BitOf, bits_in, bits_of_conn, once}
use Rattle.watch_kit.specs.FanoutLimit.{same_bit, present_bits, fanout_by}
use Rattle.watch_kit.specs.Law.{KeepsLimit, ConnectsKeepLimit}
use Rattle.watch_kit.proofs.AnswerLaw.{answers-keep}

-- each once

all-once : {X : Type 0} (P : X → Type 0) (same : X → X → Bool) (xs : List X) → All P xs → All P (once same xs)
all-once P same [] all = All-nil P
all-once P same (x ∷ xs) all =
    All-cons P x (filter (λ y. not (same x y)) (once same xs)) (All-head P x xs all)
    (All-filter (λ y. not (same x y)) P (once same xs) (all-once P same xs (All-tail P x xs all)))

not-true : (b : Bool) → not b ≡ true → b ≡ false
not-true true e = sym e
not-true false e = refl

abbrev Differ : BitOf → BitOf → Type 0
Differ b c = same_bit b c ≡ false

apart-once : (xs : List BitOf) → AllPairs Differ (once same_bit xs)
apart-once [] = λ i j d before within. absurd (omega arith)
apart-once (x ∷ xs) =
    let rest : List BitOf = once same_bit xs in
    let other : BitOf → Bool = λ y. not (same_bit x y) in
    let passing : All (λ y. other y ≡ true) (filter other rest) = filter_passes other rest in
    AllPairs-cons Differ x (filter other rest) (λ k d within. not-true (same_bit x _) (passing k d within)) (AllPairs-filter Differ other rest (apart-once xs))

-- nets of a connection are there

source-there : (h : PModule) (net : NetId) (offset : ℕ) (o : Option PNet) → offset < width_of o → IsSome o
source-there h net offset None below = absurd (omega arith)
source-there h net offset (Some x) below = refl

module _ (h : PModule) where
  abbrev There : BitOf → Type 0
  There b = IsSome (net_of h b.net)

  bits-there : (src : Src) → IsSource h src → All There (bits_in src)
  bits-there Tie0 is = All-nil There
  bits-there Tie1 is = All-nil There
  bits-there (Bit net offset) is = All-cons There (record { net = net; offset = offset }) [] (source-there h net offset (net_of h net) is) (All-nil There)

  all-there : (bits : List Src) → All (IsSource h) bits → All There (flat_map bits_in bits)
  all-there [] all = All-nil There
  all-there (src ∷ more) all =
      All-append There (bits_in src) (flat_map bits_in more) (bits-there src (All-head (IsSource h) src more all)) (all-there more (All-tail (IsSource h) src more all))

  conn-there : (master : PModule) (port : PPort) (ports : List PPort) (conn : Conn) (conns : List Conn) → FitPorts h master (port ∷ ports) (conn ∷ conns) → All There (bits_of_conn conn)
  conn-there master port ports Open conns fits = All-nil There
  conn-there master port ports (Bits bits) conns fits = all-there bits fits.0.1

  place-there : (master : PModule) (ports : List PPort) (conns : List Conn) (k : ℕ) (conn : Conn) → FitPorts h master ports conns → slice_get conns k ≡ Some conn → All There (bits_of_conn conn)
  place-there master [] [] k conn fits at = let none : slice_get {X = Conn} [] k ≡ None = slice_get_past [] k (omega arith) in let never : None ≡ Some conn = sym none ∙ at in absurd (cc)
  place-there master [] (c ∷ conns) k conn fits at = absurd fits
  place-there master (p ∷ ports) [] k conn fits at = absurd fits
  place-there master (p ∷ ports) (c ∷ conns) zero conn fits at =
      let same : c ≡ conn = let e : Some c ≡ Some conn = at in cc in
      subst (λ (x : Conn). All There (bits_of_conn x)) same (conn-there master p ports c conns fits)
  place-there master (p ∷ ports) (c ∷ conns) (suc k) conn fits at = place-there master ports conns k conn fits.1 at

  present-there : (master : PModule) (conns : List Conn) (place : Option ℕ) (o : Option Conn) → conn_at place conns ≡ o → FitPorts h master master.ports conns → All There (present_bits o)
  present-there master conns place None at fits = All-nil There
  present-there master conns None (Some conn) at fits = let never : None ≡ Some conn = at in absurd (cc)
  present-there master conns (Some k) (Some conn) at fits = all-once There same_bit (bits_of_conn conn) (place-there master master.ports conns k conn fits at)

present-apart : (o : Option Conn) → AllPairs Differ (present_bits o)
present-apart None = λ i j d before within. absurd (omega arith)
present-apart (Some conn) = apart-once (bits_of_conn conn)

module _ (M : Plain) (m : ModId) (i : InstId) (p : NetId) (sound : IsSound M) where
  abbrev There-in : BitOf → Type 0
  There-in b = IsSome (net_in M m b.net)

  abbrev here : Option PInst → Option Conn
  here x = conn_at (port_place (master_of M x) p) (conns_of x)

  by-master : (h : PModule) (x : PInst) (o : Option PModule) → module_of M x.master ≡ o → MatchOption o ⊥ (λ master. FitPorts h master master.ports x.conns) → All (There h) (present_bits (here (Some x)))
  by-master h x None is fits = absurd fits
  by-master h x (Some master) is fits = present-there h master x.conns (port_place (master_of M (Some x)) p) (here (Some x)) refl fits

  by-inst : (h : PModule) (o : Option PInst) → inst_of h i ≡ o → IsSoundModule M h → All (There h) (present_bits (here o))
  by-inst h None found s = All-nil (There h)
  by-inst h (Some x) found s = by-master h x (module_of M x.master) refl (All-find (HasMaster M h) (λ y. y.id.0 == i.0) h.insts x s.masters found)

  by-module : (o : Option PModule) → module_of M m ≡ o → All (λ (b : BitOf). IsSome (option_and_then (λ (y : PModule). net_of y b.net) o)) (present_bits (here (option_and_then (λ (y : PModule). inst_of y i) o)))
  by-module None found = All-nil _
  by-module (Some h) found = by-inst h (inst_of h i) refl (sound-module M m h sound found)

pub connects-keep : ConnectsKeepLimit
connects-keep S c m i p bits limit good set is =
    let o : Option Conn = conn_of S.plain (inst_in S.plain m i) p in
    subst (KeepsLimit S m limit (present_bits o)) (sym (ap₂ (fanout_by S) set is))
    (answers-keep S m limit (present_bits o) good set (by-module S.plain m i p good.table.sound (module_of S.plain m) refl) (present-apart o))
