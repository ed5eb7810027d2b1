-- The whole tables after modules and nets have changed, where the rows of instances stay.
use Rattle.std.proofs.Common.{◌≡◌, ℕ, ◌==◌, Bool, true, false, cond, List, length, map, Option, Some, None, option_map, option_and_then, refl, sym, ap, subst, ◌∙◌, arith}
use Rattle.std.specs.FinMap as rows
use Rattle.emh_base.specs.declared.ids.ModId.{ModId}
use Rattle.emh_base.specs.declared.plain.Conn.{Conn}
use Rattle.emh_base.specs.declared.plain.PInst.{PInst}
use Rattle.emh_base.specs.declared.plain.Plain.{Plain}
use Rattle.flatten_rules.specs.Changes.{at_instances, with_conns}
use Rattle.undo_slots.specs.Slots.{Rows}
use Rattle.row_chains.specs.declared.link.Ends.{Ends}
use Rattle.row_chains.specs.Rows.{links, keys, ends_in}
use Rattle.row_chains.proofs.TableLemmas.{AreChains-same, shown-mapped}
use Rattle.mod_core.specs.declared.rows.TopRow.{TopRow}
use Rattle.mod_core.specs.declared.rows.ModRow.{ModRow}
use Rattle.mod_core.specs.declared.rows.NetRow.{NetRow}
use Rattle.mod_core.specs.declared.rows.InstRow.{InstRow}
use Rattle.mod_core.specs.inside.Linked.{inst_rows, inst_holders, user_rows, user_holders, Master, master_at, inst_of, inst_of_row, inst_shown, insts_from, within_of, table_of, whole_of, Upper, upper, lower}
use Rattle.mod_core.specs.inside.Good.{mod_sides, inst_faces, IsGood, IsWhole}
use Rattle.mod_core.proofs.NumberLemmas.{nets_from}
use Rattle.mod_core.proofs.TableLemmas.{Quiet}
use Rattle.mod_core.proofs.TwiceLemmas.{mapped_instances}

-- what instances show of the module of an id is changed in its connections
abbrev pub at_master : ModId → (List Conn → List Conn) → Master → Master
at_master id change z = cond (z.id.0 == id.0) (record z { conns = change z.conns }) z

-- nothing that they show is changed
abbrev pub as_before : Master → Master
as_before z = z

pub before_all : (o : Option Master) → option_map as_before o ≡ o
before_all None = refl
before_all (Some z) = refl

pub before_then : (each : Master → Master) (o : Option Master) → option_map each (option_map as_before o) ≡ option_map each o
before_then each o = ap (option_map each) (before_all o)

pub Quiet-then : (mods mods' mods2 : Rows ModRow) → Quiet mods mods' → Quiet mods' mods2 → Quiet mods mods2
Quiet-then mods mods' mods2 p q = record {
  insts = λ o. q.insts o ∙ p.insts o;
  users = λ o. q.users o ∙ p.users o;
  counted = λ o a at. let c = q.counted o a at in let d = p.counted o c.was c.at in record { was = d.was; at = d.at; counted = omega (arith, c.counted, d.counted) };
}

-- with instances as they were, the rows of modules and nets are as they ought to be and show this table
pub record Shows (names : List (List ℕ)) (top : ℕ) (mods : Rows ModRow) (nets : Rows NetRow) (within : Ends → List PInst) (each : Master → Master) (M : Plain) (tops' : Rows TopRow) (mods' : Rows ModRow) (nets' : Rows NetRow) : Type 0 where
  pub good : IsGood (length names) top (upper tops' mods') nets'
  pub table : table_of names top (upper tops' mods') nets' within ≡ M
  pub quiet : Quiet mods mods'
  pub masters : (k : ℕ) → master_at mods' nets' k ≡ option_map each (master_at mods nets k)

pub shows : (names : List (List ℕ)) (top : ℕ) (mods : Rows ModRow) (nets : Rows NetRow) (within : Ends → List PInst) (each : Master → Master) (M : Plain) (tops1 tops' : Rows TopRow) (mods1 mods' : Rows ModRow) (nets1 nets' : Rows NetRow)
    → tops' ≡ tops1 → mods' ≡ mods1 → nets' ≡ nets1 → Shows names top mods nets within each M tops1 mods1 nets1 → Shows names top mods nets within each M tops' mods' nets'
shows names top mods nets within each M tops1 tops' mods1 mods' nets1 nets' e f h s =
    let F : Rows TopRow → Type 0 = λ t. Shows names top mods nets within each M t mods' nets' in
    let G : Rows ModRow → Type 0 = λ m. Shows names top mods nets within each M tops1 m nets' in
    let H : Rows NetRow → Type 0 = λ n. Shows names top mods nets within each M tops1 mods1 n in
    subst F (sym e) (subst G (sym f) (subst H (sym h) s))

-- all rows are as they ought to be, and show this table
pub record ShowsWhole (names : List (List ℕ)) (top : ℕ) (M : Plain) (tops : Rows TopRow) (mods : Rows ModRow) (nets : Rows NetRow) (insts : Rows InstRow) : Type 0 where
  pub good : IsWhole (length names) top (lower (upper tops mods) nets) insts
  pub table : whole_of names top (lower (upper tops mods) nets) insts ≡ M

pub shows_whole : (names : List (List ℕ)) (top : ℕ) (M : Plain) (tops1 tops' : Rows TopRow) (mods1 mods' : Rows ModRow) (nets : Rows NetRow) (insts1 insts' : Rows InstRow)
    → tops' ≡ tops1 → mods' ≡ mods1 → insts' ≡ insts1 → ShowsWhole names top M tops1 mods1 nets insts1 → ShowsWhole names top M tops' mods' nets insts'
shows_whole names top M tops1 tops' mods1 mods' nets insts1 insts' e f h s =
    let F : Rows TopRow → Type 0 = λ t. ShowsWhole names top M t mods' nets insts' in
    let G : Rows ModRow → Type 0 = λ m. ShowsWhole names top M tops1 m nets insts' in
    let H : Rows InstRow → Type 0 = λ n. ShowsWhole names top M tops1 mods1 nets n in
    subst F (sym e) (subst G (sym f) (subst H (sym h) s))

module _ (names : List (List ℕ)) (insts : Rows InstRow) (masters masters' : ℕ → Option Master) (id : ModId) (change : List Conn → List Conn) (same : (k : ℕ) → masters' k ≡ option_map (at_master id change) (masters k)) where
  -- each instance of a master shows other connections
  mapped_shown : (k : ℕ) → inst_shown names masters' insts k ≡ option_map (λ (inst : PInst). cond (inst.master.0 == id.0) (with_conns change inst) inst) (inst_shown names masters insts k)
  mapped_shown k = one (rows.get insts k)
    where
      by : (r : InstRow) (z : Master) (b : Bool) → inst_of names r (cond b (record z { conns = change z.conns }) z) ≡ cond b (with_conns change (inst_of names r z)) (inst_of names r z)
      by r z true = refl
      by r z false = refl

      of : (r : InstRow) (o : Option Master) → option_map (inst_of names r) (option_map (at_master id change) o) ≡ option_map (λ (inst : PInst). cond (inst.master.0 == id.0) (with_conns change inst) inst) (option_map (inst_of names r) o)
      of r None = refl
      of r (Some z) = ap (λ x. Some x) (by r z (z.id.0 == id.0))

      one : (o : Option InstRow) → option_and_then (inst_of_row names masters') o ≡ option_map (λ (inst : PInst). cond (inst.master.0 == id.0) (with_conns change inst) inst) (option_and_then (inst_of_row names masters) o)
      one None = refl
      one (Some r) = ap (option_map (inst_of names r)) (same r.user.owner) ∙ of r (masters r.user.owner)

  pub mapped_from : (ends : Ends) → insts_from names masters' insts ends ≡ map (λ (inst : PInst). cond (inst.master.0 == id.0) (with_conns change inst) inst) (insts_from names masters insts ends)
  mapped_from ends = shown-mapped (inst_shown names masters insts) (inst_shown names masters' insts) (λ (inst : PInst). cond (inst.master.0 == id.0) (with_conns change inst) inst) (keys inst_rows insts ends.first) (λ k h. mapped_shown k)

module _ (names : List (List ℕ)) (top : ℕ) (up : Upper) (nets : Rows NetRow) (insts : Rows InstRow) (w : IsWhole (length names) top (lower up nets) insts) where
  abbrev pub within : Ends → List PInst
  within = within_of names up.mods nets insts

  pub insts_stay : (up' : Upper) (nets' : Rows NetRow) → Quiet up.mods up'.mods → IsGood (length names) top up' nets' → IsWhole (length names) top (lower up' nets') insts
  insts_stay up' nets' q good = record {
    good = good;
    insts_of = AreChains-same inst_rows (links inst_rows insts) (links inst_rows insts) (ends_in inst_holders up.mods) (ends_in inst_holders up'.mods) (λ k. refl) q.insts w.insts_of;
    users_of = AreChains-same user_rows (links user_rows insts) (links user_rows insts) (ends_in user_holders up.mods) (ends_in user_holders up'.mods) (λ k. refl) q.users w.users_of;
    insts_numbered = nets_from (length names) (mod_sides up.mods) (mod_sides up'.mods) (inst_faces insts) (inst_faces insts) w.insts_numbered
        (λ k a at. record { was = a; at = at; owner = refl; id = refl; named = w.insts_numbered.named k a at; home = λ o h. w.insts_numbered.home k a o at h })
        (λ k a m ka om. q.counted a.owner m om);
  }

  module _ (M : Plain) (tops' : Rows TopRow) (mods' : Rows ModRow) (nets' : Rows NetRow) where
    pub whole_same : Shows names top up.mods nets within as_before M tops' mods' nets' → ShowsWhole names top M tops' mods' nets' insts
    whole_same s = record {
      good = insts_stay (upper tops' mods') nets' s.quiet s.good;
      table = (λ i. table_of names top (upper tops' mods') nets' (insts_from names (λ k. (s.masters k ∙ before_all (master_at up.mods nets k)) i) insts)) ∙ s.table;
    }

    pub whole_conns : (id : ModId) (change : List Conn → List Conn) → Shows names top up.mods nets within (at_master id change) M tops' mods' nets' → ShowsWhole names top (at_instances M id (with_conns change)) tops' mods' nets' insts
    whole_conns id change s = record {
      good = insts_stay (upper tops' mods') nets' s.quiet s.good;
      table =
          (λ i. table_of names top (upper tops' mods') nets' (λ ends. mapped_from names insts (master_at up.mods nets) (master_at mods' nets') id change s.masters ends i))
          ∙ sym (mapped_instances names mods' nets' within id (with_conns change) tops' top)
          ∙ ap (λ t. at_instances t id (with_conns change)) s.table;
    }
