-- The tables at the start.
use Rattle.std.proofs.Common.{◌≡◌, ℕ, ◌+◌, ◌-◌, min, List, [], ◌∷◌, ◌++◌, length, drop, Option, Some, None, option_map, option_and_then, true, false, refl, sym, ap, subst, ◌∙◌, inl, inr, arith}
use Rattle.std.proofs.lemmas.Bool.{cases_eq}
use Rattle.std.specs.Ordering.{nat_cmp}
use Rattle.std.specs.FinMap as rows
use Rattle.std.specs.FinMap.{get-empty}
use Rattle.emh_base.specs.declared.plain.PInst.{PInst}
use Rattle.flatten_rules.specs.Lookup.{no_modules}
use Rattle.timeline.specs.Timeline.{Moment, Timeline, new_timeline}
use Rattle.timeline.specs.Joined.{join}
use Rattle.undo_slots.specs.Slots.{Rows}
use Rattle.row_chains.specs.declared.link.Link.{Link}
use Rattle.row_chains.specs.declared.link.Ends.{Ends}
use Rattle.row_chains.specs.Chains.{AreChains}
use Rattle.row_chains.specs.Rows.{links, ends_in}
use Rattle.row_chains.proofs.KeyLemmas.{same_some, none_some}
use Rattle.row_chains.proofs.TableLemmas.{get_same, get_other}
use Rattle.mod_core.specs.declared.rows.TopRow.{TopRow}
use Rattle.mod_core.specs.declared.rows.ModRow.{ModRow}
use Rattle.mod_core.specs.declared.rows.NetRow.{NetRow}
use Rattle.mod_core.specs.declared.rows.InstRow.{InstRow}
use Rattle.mod_core.specs.inside.Linked.{mod_rows, mod_holders, net_rows, net_holders, port_rows, port_holders, inst_rows, inst_holders, user_rows, user_holders, module_shown, table_from, table_of, upper, lower, within_of, whole_of}
use Rattle.mod_core.specs.inside.Good.{mod_face, net_face, inst_face, IsGood, IsWhole}
use Rattle.mod_core.specs.inside.Changes.{empty_chain}
use Rattle.mod_core.specs.inside.Kept.{IsKept}
use Rattle.mod_core.proofs.KeptLemmas.{committed}
use Rattle.mod_core.proofs.ModuleLemmas.{listed_none}

-- chains without rows are empty
no_rows : (row : ℕ → Option Link) (ends_of : ℕ → Option Ends) → ((k : ℕ) → row k ≡ None) → ((o : ℕ) (ends : Ends) → ends_of o ≡ Some ends → empty_chain ≡ ends) → AreChains row ends_of
no_rows row ends_of none empty = record {
  chain = λ o ends at. (
    [],
    record {
      begins = ap (λ (z : Ends). z.first) (sym (empty o ends at));
      stops = ap (λ (z : Ends). z.last) (sym (empty o ends at));
      linked = tt;
      apart = tt;
      whole = λ k link there of. absurd (none_some link (sym (none k) ∙ there));
    },
  );
  owned = λ k link there. absurd (none_some link (sym (none k) ∙ there));
}

abbrev pub first_row : TopRow
first_row = record { modules = empty_chain; next_module = 0 }

abbrev pub no_mods : Rows ModRow
no_mods = rows.empty

abbrev pub no_nets : Rows NetRow
no_nets = rows.empty

abbrev pub no_insts : Rows InstRow
no_insts = rows.empty

no_inst : (k : ℕ) → rows.get no_insts k ≡ None
no_inst k = get-empty nat_cmp k

no_mod : (k : ℕ) → rows.get no_mods k ≡ None
no_mod k = get-empty nat_cmp k

no_net : (k : ℕ) → rows.get no_nets k ≡ None
no_net k = get-empty nat_cmp k

abbrev pub first_tops : ℕ → Rows TopRow
first_tops top = rows.insert rows.empty top first_row

module _ (names : List (List ℕ)) (top : ℕ) where
  rooted : rows.get (first_tops top) top ≡ Some first_row
  rooted = get_same rows.empty top (Some first_row)

  one_root : (o : ℕ) (r : TopRow) → rows.get (first_tops top) o ≡ Some r → o ≡ top
  one_root o r at = elim (cases_eq o top) [
    | inl e ↦ e
    | inr d ↦ absurd (none_some r (sym (get_other rows.empty top (Some first_row) o d ∙ get-empty nat_cmp o) ∙ at))
  ]

  one_top : (o : ℕ) (ends : Ends) → ends_in mod_holders (first_tops top) o ≡ Some ends → empty_chain ≡ ends
  one_top o ends at = elim (cases_eq o top) [
    | inl e ↦ same_some empty_chain ends (sym (ap (option_map mod_holders.ends_of) (ap (rows.get (first_tops top)) e ∙ rooted)) ∙ at)
    | inr d ↦ absurd (none_some ends (sym (ap (option_map mod_holders.ends_of) (get_other rows.empty top (Some first_row) o d ∙ get-empty nat_cmp o)) ∙ at))
  ]

  pub first_good : IsGood (length names) top (upper (first_tops top) no_mods) no_nets
  first_good = record {
    root = first_row;
    rooted = rooted;
    alone = one_root;
    modules = no_rows (links mod_rows no_mods) (ends_in mod_holders (first_tops top)) (λ k. ap (option_and_then mod_rows.link_of) (no_mod k)) one_top;
    nets_of = no_rows (links net_rows no_nets) (ends_in net_holders no_mods) (λ k. ap (option_and_then net_rows.link_of) (no_net k)) (λ o ends at. absurd (none_some ends (sym (ap (option_map net_holders.ends_of) (no_mod o)) ∙ at)));
    ports_of = no_rows (links port_rows no_nets) (ends_in port_holders no_mods) (λ k. ap (option_and_then port_rows.link_of) (no_net k)) (λ o ends at. absurd (none_some ends (sym (ap (option_map port_holders.ends_of) (no_mod o)) ∙ at)));
    mods_numbered = record {
      one = λ j k a b ja kb e. absurd (none_some a (sym (ap (option_map mod_face) (no_mod j)) ∙ ja));
      below = λ k a ka. absurd (none_some a (sym (ap (option_map mod_face) (no_mod k)) ∙ ka));
      named = λ k a ka. absurd (none_some a (sym (ap (option_map mod_face) (no_mod k)) ∙ ka));
    };
    nets_numbered = record {
      one = λ j k a b ja kb o e. absurd (none_some a (sym (ap (option_map net_face) (no_net j)) ∙ ja));
      below = λ k a m ka om. absurd (none_some a (sym (ap (option_map net_face) (no_net k)) ∙ ka));
      named = λ k a ka. absurd (none_some a (sym (ap (option_map net_face) (no_net k)) ∙ ka));
      home = λ k a o ka h. absurd (none_some a (sym (ap (option_map net_face) (no_net k)) ∙ ka));
    };
  }

  pub first_all : IsWhole (length names) top (lower (upper (first_tops top) no_mods) no_nets) no_insts
  first_all = record {
    good = first_good;
    insts_of = no_rows (links inst_rows no_insts) (ends_in inst_holders no_mods) (λ k. ap (option_and_then inst_rows.link_of) (no_inst k)) (λ o ends at. absurd (none_some ends (sym (ap (option_map inst_holders.ends_of) (no_mod o)) ∙ at)));
    users_of = no_rows (links user_rows no_insts) (ends_in user_holders no_mods) (λ k. ap (option_and_then user_rows.link_of) (no_inst k)) (λ o ends at. absurd (none_some ends (sym (ap (option_map user_holders.ends_of) (no_mod o)) ∙ at)));
    insts_numbered = record {
      one = λ j k a b ja kb o e. absurd (none_some a (sym (ap (option_map inst_face) (no_inst j)) ∙ ja));
      below = λ k a m ka om. absurd (none_some a (sym (ap (option_map inst_face) (no_inst k)) ∙ ka));
      named = λ k a ka. absurd (none_some a (sym (ap (option_map inst_face) (no_inst k)) ∙ ka));
      home = λ k a o ka h. absurd (none_some a (sym (ap (option_map inst_face) (no_inst k)) ∙ ka));
    };
  }

  first_table : (within : Ends → List PInst) → table_of names top (upper (first_tops top) no_mods) no_nets within ≡ no_modules
  first_table within =
      ap (table_from names no_mods no_nets within) rooted
      ∙ (λ i. record { modules = listed_none mod_rows (module_shown names no_mods no_nets within) no_mods i; next_module = 0 })

  -- the first row comes in a record that is forgotten
  module _ (made roomy begun added closed tops : Timeline (Rows TopRow)) (made_is : made ≡ new_timeline rows.empty) (roomy_is : roomy ≡ record made { spare_rows = roomy.spare_rows; spare_writes = roomy.spare_writes })
      (begun_is : begun ≡ record roomy { is_open = true; base = roomy.now; writes = 0; spare_writes = roomy.spare_writes - 1 })
      (added_is : added ≡ record begun { now = rows.insert begun.now top first_row; writes = begun.writes + 1; spare_rows = begun.spare_rows - 1; spare_writes = begun.spare_writes - 1 })
      (closed_is : closed ≡ committed added closed.spare_rows) (tops_is : tops ≡ record closed { past = drop 1 closed.past; spare_rows = tops.spare_rows }) where
    abbrev start : Timeline (Rows TopRow)
    start = record { now = (first_tops top); past = []; future = []; is_open = false; base = (first_tops top); writes = 0; spare_rows = tops.spare_rows; spare_writes = tops.spare_writes }

    started : tops ≡ start
    started =
        let now : Timeline (Rows TopRow) → Rows TopRow = λ s. s.now in
        let past : Timeline (Rows TopRow) → List (Moment (Rows TopRow)) = λ s. s.past in
        let first : added.now ≡ first_tops top = ap now added_is ∙ ap (λ (m : Rows TopRow). rows.insert m top first_row) (ap now begun_is ∙ ap now roomy_is ∙ ap now made_is) in
        let empty : added.past ≡ [] = ap past added_is ∙ ap past begun_is ∙ ap past roomy_is ∙ ap past made_is in
        let last : Moment (Rows TopRow) = record { value = added.base; writes = added.writes } in
        let now_is : tops.now ≡ first_tops top = ap now tops_is ∙ ap now closed_is ∙ first in
        let past_is : tops.past ≡ [] = ap past tops_is ∙ ap (drop 1) (ap past closed_is ∙ ap (λ (p : List (Moment (Rows TopRow))). p ++ last ∷ []) empty) in
        let future_is : tops.future ≡ [] = ap (λ (s : Timeline (Rows TopRow)). s.future) tops_is ∙ ap (λ (s : Timeline (Rows TopRow)). s.future) closed_is in
        let is_closed : tops.is_open ≡ false = ap (λ (s : Timeline (Rows TopRow)). s.is_open) tops_is ∙ ap (λ (s : Timeline (Rows TopRow)). s.is_open) closed_is in
        let base_is : tops.base ≡ first_tops top = ap (λ (s : Timeline (Rows TopRow)). s.base) tops_is ∙ ap (λ (s : Timeline (Rows TopRow)). s.base) closed_is ∙ first in
        let unwritten : tops.writes ≡ 0 = ap (λ (s : Timeline (Rows TopRow)). s.writes) tops_is ∙ ap (λ (s : Timeline (Rows TopRow)). s.writes) closed_is in
        λ i. record { now = now_is i; past = past_is i; future = future_is i; is_open = is_closed i; base = base_is i; writes = unwritten i; spare_rows = tops.spare_rows; spare_writes = tops.spare_writes }

    pub first_kept : (mods : Timeline (Rows ModRow)) (nets : Timeline (Rows NetRow)) (insts : Timeline (Rows InstRow)) → mods ≡ new_timeline no_mods → nets ≡ new_timeline no_nets → insts ≡ new_timeline no_insts → IsKept names top tops mods nets insts
    first_kept mods nets insts e f h =
        let F : Timeline (Rows TopRow) → Type 0 = λ s. IsKept names top s mods nets insts in
        let G : Timeline (Rows ModRow) → Type 0 = λ s. IsKept names top start s nets insts in
        let H : Timeline (Rows NetRow) → Type 0 = λ s. IsKept names top start (new_timeline no_mods) s insts in
        let K : Timeline (Rows InstRow) → Type 0 = λ s. IsKept names top start (new_timeline no_mods) (new_timeline no_nets) s in
        subst F (sym started) (subst G (sym e) (subst H (sym f) (subst K (sym h) (record {
          heads = record { opens = refl; now = tt; base = tt; past = tt; future = tt };
          middle = record { opens = refl; now = tt; base = tt; past = tt; future = tt };
          all = record { opens = refl; now = first_all; base = first_all; past = tt; future = tt };
        }))))

    pub first_whole : (mods : Timeline (Rows ModRow)) (nets : Timeline (Rows NetRow)) (insts : Timeline (Rows InstRow)) → mods ≡ new_timeline no_mods → nets ≡ new_timeline no_nets → insts ≡ new_timeline no_insts
        → join (whole_of names top) (join lower (join upper tops mods) nets) insts ≡ new_timeline no_modules
    first_whole mods nets insts e f h =
        (λ i. join (whole_of names top) (join lower (join upper (started i) (e i)) (f i)) (h i))
        ∙ (λ i. record (new_timeline no_modules) { now = first_table (within_of names no_mods no_nets no_insts) i; base = first_table (within_of names no_mods no_nets no_insts) i; spare_rows = least tops.spare_rows i; spare_writes = least tops.spare_writes i })
      where
        least : (n : ℕ) → min (min (min n 0) 0) 0 ≡ 0
        least n = omega arith
