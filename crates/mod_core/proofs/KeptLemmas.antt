-- The tables over all moments, after they have moved together.
use Rattle.std.proofs.Common.{◌≡◌, ℕ, ◌+◌, min, List, [], ◌∷◌, ◌++◌, length, false, sym, subst, ◌∙◌}
use Rattle.emh_base.specs.declared.plain.Plain.{Plain}
use Rattle.timeline.specs.Timeline.{Timeline, Moves}
use Rattle.timeline.specs.Joined.{join, IsJoint}
use Rattle.timeline.proofs.JoinedLemmas.{IsJoint-undone, IsJoint-committed, Moves-joined, joined-push, length-joined}
use Rattle.undo_slots.specs.Slots.{Rows}
use Rattle.row_chains.specs.Pays.{Pays}
use Rattle.row_chains.proofs.PaysLemmas.{Pays-join, IsJoint-paid}
use Rattle.mod_core.specs.declared.rows.TopRow.{TopRow}
use Rattle.mod_core.specs.declared.rows.ModRow.{ModRow}
use Rattle.mod_core.specs.declared.rows.NetRow.{NetRow}
use Rattle.mod_core.specs.declared.rows.InstRow.{InstRow}
use Rattle.mod_core.specs.inside.Linked.{Upper, upper, Lower, lower, whole_of}
use Rattle.mod_core.specs.inside.Good.{IsWhole}
use Rattle.mod_core.specs.inside.Kept.{Together, IsKept}

-- a record that is closed
abbrev pub committed : {X : Type 0} → Timeline X → ℕ → Timeline X
committed {X} a rows = record a {
  past = a.past ++ record { value = a.base; writes = a.writes } ∷ [];
  future = [];
  is_open = false;
  base = a.now;
  writes = 0;
  spare_rows = rows;
}

abbrev pub moved : {X : Type 0} → Timeline X → Timeline X → Timeline X
moved {X} a a' = record a { now = a'.now; past = a'.past; future = a'.future; base = a'.now }

module _ (names : List (List ℕ)) (top : ℕ) (tops : Timeline (Rows TopRow)) (mods : Timeline (Rows ModRow)) (nets : Timeline (Rows NetRow)) (insts : Timeline (Rows InstRow)) (k : IsKept names top tops mods nets insts) where
  abbrev up : Timeline Upper
  up = join upper tops mods

  abbrev low : Timeline Lower
  low = join lower up nets

  abbrev whole : Timeline Plain
  whole = join (whole_of names top) low insts

  -- the pasts are of one length, and so are the futures
  pub record Lengths : Type 0 where
    pub mods_past : length whole.past ≡ length mods.past
    pub nets_past : length whole.past ≡ length nets.past
    pub insts_past : length whole.past ≡ length insts.past
    pub mods_future : length whole.future ≡ length mods.future
    pub nets_future : length whole.future ≡ length nets.future
    pub insts_future : length whole.future ≡ length insts.future

  pub lengths : Lengths
  lengths =
      let a = length-joined upper Together tops.past mods.past k.heads.past in
      let b = length-joined lower Together up.past nets.past k.middle.past in
      let c = length-joined (whole_of names top) (IsWhole (length names) top) low.past insts.past k.all.past in
      let d = length-joined upper Together tops.future mods.future k.heads.future in
      let e = length-joined lower Together up.future nets.future k.middle.future in
      let f = length-joined (whole_of names top) (IsWhole (length names) top) low.future insts.future k.all.future in
      record { mods_past = c.0 ∙ b.0 ∙ a.1; nets_past = c.0 ∙ b.1; insts_past = c.1; mods_future = f.0 ∙ e.0 ∙ d.1; nets_future = f.0 ∙ e.1; insts_future = f.1 }

  module _ (tops' : Timeline (Rows TopRow)) (mods' : Timeline (Rows ModRow)) (nets' : Timeline (Rows NetRow)) (insts' : Timeline (Rows InstRow)) where
    abbrev up' : Timeline Upper
    up' = join upper tops' mods'

    abbrev low' : Timeline Lower
    low' = join lower up' nets'

    abbrev whole' : Timeline Plain
    whole' = join (whole_of names top) low' insts'

    pub record Undone : Type 0 where
      pub kept : IsKept names top tops' mods' nets' insts'
      pub moves : Moves whole.past whole.future whole.now whole'.past whole'.future whole'.now

    pub undone : Moves tops.past tops.future tops.now tops'.past tops'.future tops'.now → Moves mods.past mods.future mods.now mods'.past mods'.future mods'.now → Moves nets.past nets.future nets.now nets'.past nets'.future nets'.now → Moves insts.past insts.future insts.now insts'.past insts'.future insts'.now
        → tops' ≡ moved tops tops' → mods' ≡ moved mods mods' → nets' ≡ moved nets nets' → insts' ≡ moved insts insts' → Undone
    undone e f h j ar br cr dr =
        let heads = IsJoint-undone Together tops tops' mods mods' k.heads e f ar br in
        let up_moves = Moves-joined upper Together tops.past tops'.past tops.future tops'.future mods.past mods'.past mods.future mods'.future tops.now tops'.now mods.now mods'.now e f heads.past k.heads.future in
        let up_rest : up' ≡ moved up up' = (λ i. join upper (ar i) (br i)) in
        let middle = IsJoint-undone Together up up' nets nets' k.middle up_moves h up_rest cr in
        let low_moves = Moves-joined lower Together up.past up'.past up.future up'.future nets.past nets'.past nets.future nets'.future up.now up'.now nets.now nets'.now up_moves h middle.past k.middle.future in
        let low_rest : low' ≡ moved low low' = (λ i. join lower (up_rest i) (cr i)) in
        let all = IsJoint-undone (IsWhole (length names) top) low low' insts insts' k.all low_moves j low_rest dr in
        record {
          kept = record { heads = heads; middle = middle; all = all };
          moves = Moves-joined (whole_of names top) (IsWhole (length names) top) low.past low'.past low.future low'.future insts.past insts'.past insts.future insts'.future low.now low'.now insts.now insts'.now low_moves j all.past k.all.future;
        }

    -- after writes in the open record
    pub kept_paid : (a b c d : ℕ) → Pays a tops tops' → Pays b mods mods' → Pays c nets nets' → Pays d insts insts' → IsWhole (length names) top low'.now insts'.now → IsKept names top tops' mods' nets' insts'
    kept_paid a b c d p q r s good =
        let up_pay = Pays-join upper a b tops tops' mods mods' p q in
        record {
          heads = IsJoint-paid Together a b tops tops' mods mods' k.heads p q tt;
          middle = IsJoint-paid Together (a + b) c up up' nets nets' k.middle up_pay r tt;
          all = IsJoint-paid (IsWhole (length names) top) (a + b + c) d low low' insts insts' k.all (Pays-join lower (a + b) c up up' nets nets' up_pay r) s good;
        }

  module _ (l m n o : ℕ) where
    up_committed : join upper (committed tops l) (committed mods m) ≡ committed up (min l m)
    up_committed = λ i. record (committed up (min l m)) { past = joined-push upper Together tops.past mods.past (record { value = tops.base; writes = tops.writes }) (record { value = mods.base; writes = mods.writes }) k.heads.past i }

    low_committed : join lower (join upper (committed tops l) (committed mods m)) (committed nets n) ≡ committed low (min (min l m) n)
    low_committed =
        (λ i. join lower (up_committed i) (committed nets n))
        ∙ (λ i. record (committed low (min (min l m) n)) { past = joined-push lower Together up.past nets.past (record { value = up.base; writes = up.writes }) (record { value = nets.base; writes = nets.writes }) k.middle.past i })

    pub kept_committed : IsKept names top (committed tops l) (committed mods m) (committed nets n) (committed insts o)
    kept_committed =
        let F : Timeline Upper → Type 0 = λ s. IsJoint Together s (committed nets n) in
        let G : Timeline Lower → Type 0 = λ s. IsJoint (IsWhole (length names) top) s (committed insts o) in
        record {
          heads = IsJoint-committed Together tops mods l m k.heads;
          middle = subst F (sym up_committed) (IsJoint-committed Together up nets (min l m) n k.middle);
          all = subst G (sym low_committed) (IsJoint-committed (IsWhole (length names) top) low insts (min (min l m) n) o k.all);
        }

    pub whole_committed : join (whole_of names top) (join lower (join upper (committed tops l) (committed mods m)) (committed nets n)) (committed insts o) ≡ committed whole (min (min (min l m) n) o)
    whole_committed =
        (λ i. join (whole_of names top) (low_committed i) (committed insts o))
        ∙ (λ i. record (committed whole (min (min (min l m) n) o)) { past = joined-push (whole_of names top) (IsWhole (length names) top) low.past insts.past (record { value = low.base; writes = low.writes }) (record { value = insts.base; writes = insts.writes }) k.all.past i })

-- past and future are exchanged
abbrev turned : {X : Type 0} → Timeline X → Timeline X
turned a = record a { past = a.future; future = a.past }

IsJoint-turned : {X Y : Type 0} (P : X → Y → Type 0) (a : Timeline X) (b : Timeline Y) → IsJoint P a b → IsJoint P (turned a) (turned b)
IsJoint-turned P a b k = record { opens = k.opens; now = k.now; base = k.base; past = k.future; future = k.past }

module _ (names : List (List ℕ)) (top : ℕ) (tops : Timeline (Rows TopRow)) (mods : Timeline (Rows ModRow)) (nets : Timeline (Rows NetRow)) (insts : Timeline (Rows InstRow)) where
  kept_turned : IsKept names top tops mods nets insts → IsKept names top (turned tops) (turned mods) (turned nets) (turned insts)
  kept_turned k = record {
    heads = IsJoint-turned Together tops mods k.heads;
    middle = IsJoint-turned Together (join upper tops mods) nets k.middle;
    all = IsJoint-turned (IsWhole (length names) top) (join lower (join upper tops mods) nets) insts k.all;
  }

module _ (names : List (List ℕ)) (top : ℕ) (tops : Timeline (Rows TopRow)) (mods : Timeline (Rows ModRow)) (nets : Timeline (Rows NetRow)) (insts : Timeline (Rows InstRow)) (k : IsKept names top tops mods nets insts) (tops' : Timeline (Rows TopRow)) (mods' : Timeline (Rows ModRow)) (nets' : Timeline (Rows NetRow)) (insts' : Timeline (Rows InstRow)) where
  abbrev before : Timeline Plain
  before = join (whole_of names top) (join lower (join upper tops mods) nets) insts

  abbrev after : Timeline Plain
  after = join (whole_of names top) (join lower (join upper tops' mods') nets') insts'

  pub record Redone : Type 0 where
    pub kept : IsKept names top tops' mods' nets' insts'
    pub moves : Moves before.future before.past before.now after.future after.past after.now

  -- a redo is an undo where past and future are exchanged
  pub redone : Moves tops.future tops.past tops.now tops'.future tops'.past tops'.now → Moves mods.future mods.past mods.now mods'.future mods'.past mods'.now → Moves nets.future nets.past nets.now nets'.future nets'.past nets'.now → Moves insts.future insts.past insts.now insts'.future insts'.past insts'.now
      → tops' ≡ moved tops tops' → mods' ≡ moved mods mods' → nets' ≡ moved nets nets' → insts' ≡ moved insts insts' → Redone
  redone e f h j ar br cr dr =
      let u = undone names top (turned tops) (turned mods) (turned nets) (turned insts) (kept_turned names top tops mods nets insts k) (turned tops') (turned mods') (turned nets') (turned insts') e f h j (λ i. turned (ar i)) (λ i. turned (br i)) (λ i. turned (cr i)) (λ i. turned (dr i)) in
      record { kept = kept_turned names top (turned tops') (turned mods') (turned nets') (turned insts') u.kept; moves = u.moves }
