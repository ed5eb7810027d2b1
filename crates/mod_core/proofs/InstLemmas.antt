-- The table after an instance has come.
use Rattle.std.proofs.Common.{◌≡◌, ◌≢◌, ℕ, ◌+◌, ◌<◌, ◌≤◌, List, [], ◌∷◌, ◌++◌, length, Option, Some, None, option_map, option_and_then, refl, sym, ap, ◌∙◌, inl, inr, arith}
use Rattle.std.proofs.lemmas.Bool.{cases_eq}
use Rattle.std.specs.FinMap as rows
use Rattle.emh_base.specs.declared.plain.PInst.{PInst}
use Rattle.emh_base.specs.declared.plain.PModule.{PModule}
use Rattle.flatten_rules.specs.Changes.{with_module}
use Rattle.flatten_rules.specs.InstChanges.{with_new_inst}
use Rattle.timeline.specs.Maps.{put}
use Rattle.undo_slots.specs.Slots.{Rows}
use Rattle.row_chains.specs.declared.link.Link.{Link}
use Rattle.row_chains.specs.declared.link.Ends.{Ends}
use Rattle.row_chains.specs.Chains.{AreChains, ends_with}
use Rattle.row_chains.specs.Rows.{links, listed, lead_at, ends_in}
use Rattle.row_chains.proofs.KeyLemmas.{same_some, none_some}
use Rattle.row_chains.proofs.ChainLemmas.{EndsChange}
use Rattle.row_chains.proofs.TableLemmas.{get_same, get_other, seen-lead_at, AreChains-same, listed-same, appended_chains, appended_listed, appended_other}
use Rattle.mod_core.specs.declared.rows.TopRow.{TopRow}
use Rattle.mod_core.specs.declared.rows.ModRow.{ModRow}
use Rattle.mod_core.specs.declared.rows.NetRow.{NetRow}
use Rattle.mod_core.specs.declared.rows.InstRow.{InstRow}
use Rattle.mod_core.specs.inside.Linked.{mod_rows, net_holders, port_holders, ports_from, inst_rows, inst_holders, user_rows, user_holders, opens, Master, master_of_row, master_at, inst_of, inst_of_row, inst_shown, insts_from, within_of, module_of_row, table_of, Upper, upper, lower}
use Rattle.mod_core.specs.inside.Good.{mod_face, mod_side, mod_sides, inst_face, inst_faces, IsWhole}
use Rattle.mod_core.specs.inside.Changes.{joined_rows, joined_ends, new_inst, with_last_inst, with_last_user, changed_at, InstIn}
use Rattle.mod_core.specs.Mods.{name_at}
use Rattle.mod_core.proofs.NumberLemmas.{nets_added}
use Rattle.mod_core.proofs.TableLemmas.{changed_chains, counted_by, Changed, changed}
use Rattle.mod_core.proofs.RowLemmas.{seen_changed, seen_joined, seen_ends, good_seen, table_seen}
use Rattle.mod_core.proofs.WholeLemmas.{ShowsWhole}

-- the users of a master are as they were after its module's row has an instance more
pub users_kept : (mods : Rows ModRow) (owner master id key : ℕ) (row used holder : ModRow) → rows.get mods owner ≡ Some row → rows.get mods master ≡ Some used → rows.get (rows.insert mods owner (with_last_inst id key row)) master ≡ Some holder → holder.users ≡ used.users
users_kept mods owner master id key row used holder was there at =
    same_some holder.users used.users (sym (ap (option_map user_holders.ends_of) at) ∙ one ∙ ap (option_map user_holders.ends_of) there)
  where
    one : option_map user_holders.ends_of (rows.get (rows.insert mods owner (with_last_inst id key row)) master) ≡ option_map user_holders.ends_of (rows.get mods master)
    one = elim (cases_eq master owner) [
      | inl e ↦ ap (option_map user_holders.ends_of) (ap (rows.get (rows.insert mods owner (with_last_inst id key row))) e ∙ get_same mods owner (Some (with_last_inst id key row))) ∙ sym (ap (option_map user_holders.ends_of) (ap (rows.get mods) e ∙ was))
      | inr d ↦ ap (option_map user_holders.ends_of) (get_other mods owner (Some (with_last_inst id key row)) master d)
    ]

-- what the writes of an instance that comes make together
pub inst_come : (mods m1 m2 : Rows ModRow) (insts i0 i1 i2 : Rows InstRow) (owner master key id name : ℕ) (row used holder : ModRow) → rows.get mods owner ≡ Some row → rows.get mods master ≡ Some used → rows.get insts key ≡ None
    → i0 ≡ rows.insert insts key (new_inst owner row master used id name) → i1 ≡ lead_at inst_rows i0 row.insts.last (Some key) → m1 ≡ rows.insert mods owner (with_last_inst id key row)
    → rows.get m1 master ≡ Some holder → i2 ≡ lead_at user_rows i1 holder.users.last (Some key) → m2 ≡ rows.insert m1 master (with_last_user key holder) → InstIn mods m2 insts i2 owner master key row used id name
inst_come mods m1 m2 insts i0 i1 i2 owner master key id name row used holder was there absent e f h at j l = record {
  absent = absent;
  mods_are = l ∙ ap (λ o. put m1 master (option_map (with_last_user key) o)) (sym at) ∙ ap (λ m. changed_at m master (with_last_user key)) h;
  insts_are =
      j
      ∙ ap (λ (z : Ends). lead_at user_rows i1 z.last (Some key)) (users_kept mods owner master id key row used holder was there (sym (ap (λ m. rows.get m master) h) ∙ at))
      ∙ ap (λ m. lead_at user_rows m used.users.last (Some key)) (f ∙ ap (λ m. lead_at inst_rows m row.insts.last (Some key)) e);
}

-- the users after a row has left its module's instances

module _ (mods : Rows ModRow) (insts : Rows InstRow) (link : Link) where
  pub user_left : (k : ℕ) → links user_rows (joined_rows inst_rows insts link) k ≡ links user_rows insts k
  user_left k = seen_joined (option_and_then user_rows.link_of) inst_rows (λ r to. refl) (λ r from. refl) insts link k

  pub users_left : AreChains (links user_rows insts) (ends_in user_holders mods) → AreChains (links user_rows (joined_rows inst_rows insts link)) (ends_in user_holders (joined_ends inst_holders mods link))
  users_left chains = AreChains-same user_rows (links user_rows insts) (links user_rows (joined_rows inst_rows insts link)) (ends_in user_holders mods) (ends_in user_holders (joined_ends inst_holders mods link)) user_left (λ o. seen_ends (option_map user_holders.ends_of) inst_holders (λ r ends. refl) mods link o) chains

-- an instance comes last in its module, and among its master's users
module _ (names : List (List ℕ)) (top : ℕ) (tops : Rows TopRow) (mods : Rows ModRow) (nets : Rows NetRow) (insts : Rows InstRow) (w : IsWhole (length names) top (lower (upper tops mods) nets) insts) (owner master key id name : ℕ) (row used : ModRow)
    (was : rows.get mods owner ≡ Some row) (there : rows.get mods master ≡ Some used) (absent : rows.get insts key ≡ None) (above : row.next_inst ≤ id) (few : name < length names) where
  abbrev up : Upper
  up = upper tops mods

  abbrev masters : ℕ → Option Master
  masters = master_at mods nets

  abbrev within : Ends → List PInst
  within = within_of names mods nets insts

  abbrev grown : ModRow
  grown = with_last_inst id key row

  abbrev mods_grown : Rows ModRow
  mods_grown = rows.insert mods owner grown

  abbrev pub mods_in : Rows ModRow
  mods_in = changed_at mods_grown master (with_last_user key)

  abbrev new : InstRow
  new = new_inst owner row master used id name

  abbrev first : Rows InstRow
  first = rows.insert insts key new

  abbrev second : Rows InstRow
  second = lead_at inst_rows first row.insts.last (Some key)

  abbrev pub insts_in : Rows InstRow
  insts_in = lead_at user_rows second used.users.last (Some key)

  becomes_in : rows.get mods_grown owner ≡ Some grown
  becomes_in = get_same mods owner (Some grown)

  others_in : (o : ℕ) → o ≢ owner → rows.get mods_grown o ≡ rows.get mods o
  others_in o d = get_other mods owner (Some grown) o d

  -- what doesn't see that an instance has come

  seen_grown : {X : Type 0} (F : Option ModRow → X) → F (Some grown) ≡ F (Some row) → (q : ℕ) → F (rows.get mods_grown q) ≡ F (rows.get mods q)
  seen_grown F same q = elim (cases_eq q owner) [
    | inl e ↦ ap F (ap (rows.get mods_grown) e ∙ becomes_in) ∙ same ∙ sym (ap F (ap (rows.get mods) e ∙ was))
    | inr d ↦ ap F (others_in q d)
  ]

  seen_mods : {X : Type 0} (F : Option ModRow → X) → ((r : ModRow) → F (Some (with_last_user key r)) ≡ F (Some r)) → F (Some grown) ≡ F (Some row) → (q : ℕ) → F (rows.get mods_in q) ≡ F (rows.get mods q)
  seen_mods F blind same q = seen_changed F (with_last_user key) blind mods_grown master q ∙ seen_grown F same q

  seen : {X : Type 0} (F : Option InstRow → X) → ((r : InstRow) (to : Option ℕ) → F (Some (inst_rows.lead r to)) ≡ F (Some r)) → ((r : InstRow) (to : Option ℕ) → F (Some (user_rows.lead r to)) ≡ F (Some r)) → (q : ℕ) → F (rows.get insts_in q) ≡ F (rows.get first q)
  seen F blind deaf q = seen-lead_at user_rows F deaf second used.users.last (Some key) q ∙ seen-lead_at inst_rows F blind first row.insts.last (Some key) q

  seen_new : {X : Type 0} (F : Option InstRow → X) → ((r : InstRow) (to : Option ℕ) → F (Some (inst_rows.lead r to)) ≡ F (Some r)) → ((r : InstRow) (to : Option ℕ) → F (Some (user_rows.lead r to)) ≡ F (Some r)) → F (rows.get insts_in key) ≡ F (Some new)
  seen_new F blind deaf = seen F blind deaf key ∙ ap F (get_same insts key (Some new))

  seen_other : {X : Type 0} (F : Option InstRow → X) → ((r : InstRow) (to : Option ℕ) → F (Some (inst_rows.lead r to)) ≡ F (Some r)) → ((r : InstRow) (to : Option ℕ) → F (Some (user_rows.lead r to)) ≡ F (Some r)) → (q : ℕ) → q ≢ key → F (rows.get insts_in q) ≡ F (rows.get insts q)
  seen_other F blind deaf q d = seen F blind deaf q ∙ ap F (get_other insts key (Some new) q d)

  -- the chain of the module's instances

  insts_change : EndsChange (ends_in inst_holders mods) (ends_in inst_holders mods_in) owner row.insts (ends_with row.insts key)
  insts_change = record {
    was = ap (option_map inst_holders.ends_of) was;
    becomes = seen_changed (option_map inst_holders.ends_of) (with_last_user key) (λ r. refl) mods_grown master owner ∙ ap (option_map inst_holders.ends_of) becomes_in;
    others = λ o d. seen_changed (option_map inst_holders.ends_of) (with_last_user key) (λ r. refl) mods_grown master o ∙ ap (option_map inst_holders.ends_of) (others_in o d);
  }

  no_link : links inst_rows insts key ≡ None
  no_link = ap (option_and_then inst_rows.link_of) absent

  new_link : links inst_rows first key ≡ Some (record { owner = owner; prev = row.insts.last; next = None })
  new_link = ap (option_and_then inst_rows.link_of) (get_same insts key (Some new))

  same_links : (q : ℕ) → q ≢ key → links inst_rows first q ≡ links inst_rows insts q
  same_links q d = ap (option_and_then inst_rows.link_of) (get_other insts key (Some new) q d)

  second_chains : AreChains (links inst_rows second) (ends_in inst_holders mods_in)
  second_chains = appended_chains inst_rows insts first (ends_in inst_holders mods) (ends_in inst_holders mods_in) owner key row.insts w.insts_of insts_change no_link new_link same_links

  linked_in : (k : ℕ) → links inst_rows insts_in k ≡ links inst_rows second k
  linked_in k = seen-lead_at user_rows (option_and_then inst_rows.link_of) (λ r to. refl) second used.users.last (Some key) k

  -- the chain of the master's users

  users_change : EndsChange (ends_in user_holders mods) (ends_in user_holders mods_in) master used.users (ends_with used.users key)
  users_change = record {
    was = ap (option_map user_holders.ends_of) there;
    becomes = ap (option_map user_holders.ends_of) (get_same mods_grown master (option_map (with_last_user key) (rows.get mods_grown master))) ∙ one (rows.get mods_grown master) (seen_grown (option_map user_holders.ends_of) refl master ∙ ap (option_map user_holders.ends_of) there);
    others = λ o d. ap (option_map user_holders.ends_of) (get_other mods_grown master (option_map (with_last_user key) (rows.get mods_grown master)) o d) ∙ seen_grown (option_map user_holders.ends_of) refl o;
  }
    where
      one : (o : Option ModRow) → option_map user_holders.ends_of o ≡ Some used.users → option_map user_holders.ends_of (option_map (with_last_user key) o) ≡ Some (ends_with used.users key)
      one None e = absurd (none_some used.users e)
      one (Some r) e = ap (λ z. Some (ends_with z key)) (same_some r.users used.users e)

  user_links : (q : ℕ) → links user_rows second q ≡ links user_rows first q
  user_links q = seen-lead_at inst_rows (option_and_then user_rows.link_of) (λ r to. refl) first row.insts.last (Some key) q

  users_in : AreChains (links user_rows insts_in) (ends_in user_holders mods_in)
  users_in = appended_chains user_rows insts second (ends_in user_holders mods) (ends_in user_holders mods_in) master key used.users w.users_of users_change
      (ap (option_and_then user_rows.link_of) absent)
      (user_links key ∙ ap (option_and_then user_rows.link_of) (get_same insts key (Some new)))
      (λ q d. user_links q ∙ ap (option_and_then user_rows.link_of) (get_other insts key (Some new) q d))

  -- what the modules show of their instances

  abbrev within_in : Ends → List PInst
  within_in ends = insts_from names masters insts_in ends

  abbrev added : PInst
  added = inst_of names new (master_of_row nets used)

  shows_in : (k : ℕ) → k ≢ key → inst_shown names masters insts_in k ≡ inst_shown names masters insts k
  shows_in k d = seen_other (option_and_then (inst_of_row names masters)) (λ r to. refl) (λ r to. refl) k d

  new_shown : inst_shown names masters insts_in key ≡ Some added
  new_shown = seen_new (option_and_then (inst_of_row names masters)) (λ r to. refl) (λ r to. refl) ∙ ap (λ o. option_map (inst_of names new) (option_map (master_of_row nets) o)) there

  as_second : (o : ℕ) (ends : Ends) → ends_in inst_holders mods_in o ≡ Some ends → within_in ends ≡ listed inst_rows (inst_shown names masters insts_in) second ends.first
  as_second o ends at = listed-same inst_rows second insts_in (ends_in inst_holders mods_in) second_chains linked_in (inst_shown names masters insts_in) (inst_shown names masters insts_in) o ends at (λ k link l of. refl)

  listed_in : within_in grown.insts ≡ within row.insts ++ added ∷ []
  listed_in =
      as_second owner grown.insts insts_change.becomes
      ∙ appended_listed inst_rows insts first (ends_in inst_holders mods) (ends_in inst_holders mods_in) owner key row.insts w.insts_of insts_change no_link new_link same_links (inst_shown names masters insts) (inst_shown names masters insts_in) added shows_in new_shown

  listed_other : (o : ℕ) (r : ModRow) → o ≢ owner → rows.get mods o ≡ Some r → within_in r.insts ≡ within r.insts
  listed_other o r d at =
      as_second o r.insts (insts_change.others o d ∙ ap (option_map inst_holders.ends_of) at)
      ∙ appended_other inst_rows insts first (ends_in inst_holders mods) (ends_in inst_holders mods_in) owner key row.insts w.insts_of insts_change no_link new_link same_links (inst_shown names masters insts) (inst_shown names masters insts_in) shows_in o r.insts d (ap (option_map inst_holders.ends_of) at)

  module _ (same : id ≡ row.next_inst) where
    abbrev pub adds : PModule → PModule
    adds = with_new_inst (name_at names name) used.id (opens (ports_from nets used.ports))

    grown_shown : Changed names top up (upper tops mods_grown) nets nets within within_in row.id adds
    grown_shown = changed names top up mods_grown nets nets w.good owner row grown was becomes_in others_in refl within within_in adds
        ((λ i. record (module_of_row names nets within row) { insts = listed_in i; next_inst = id + 1 })
        ∙ (λ i. record (module_of_row names nets within row) { insts = within row.insts ++ record { id = record { 0 = same i }; name = name_at names name; master = used.id; conns = opens (ports_from nets used.ports) } ∷ []; next_inst = same i + 1 }))
        (λ o r d at. λ i. record (module_of_row names nets within r) { insts = listed_other o r d at i })

    -- the table has the instance
    inst_in_table : table_of names top (upper tops mods_in) nets (within_of names mods_in nets insts_in) ≡ with_module (table_of names top up nets within) row.id adds
    inst_in_table =
        (λ i. table_of names top (upper tops mods_in) nets (λ ends. insts_from names (λ q. seen_mods (option_map (master_of_row nets)) (λ r. refl) refl q i) insts_in ends))
        ∙ table_seen (length names) top (upper tops mods_grown) mods_in nets (λ k. seen_changed (option_and_then mod_rows.link_of) (with_last_user key) (λ r. refl) mods_grown master k) names within_in w.good.root w.good.rooted
        (changed_chains names top up mods_grown nets nets w.good owner row grown was becomes_in others_in refl)
        (λ k. seen_changed (option_map (module_of_row names nets within_in)) (with_last_user key) (λ r. refl) mods_grown master k)
        ∙ grown_shown.table

    sides_in : (o : ℕ) → mod_sides mods_in o ≡ mod_sides mods_grown o
    sides_in o = seen_changed (option_map mod_side) (with_last_user key) (λ r. refl) mods_grown master o

    pub inst_in_whole : ShowsWhole names top (with_module (table_of names top up nets within) row.id adds) tops mods_in nets insts_in
    inst_in_whole = record {
      good = record {
        good = good_seen (length names) top up mods_in nets (λ k. seen_mods (option_and_then mod_rows.link_of) (λ r. refl) refl k)
            (λ o. seen_mods (option_map net_holders.ends_of) (λ r. refl) refl o) (λ o. seen_mods (option_map port_holders.ends_of) (λ r. refl) refl o) (λ o. seen_mods (option_map mod_face) (λ r. refl) refl o) w.good;
        insts_of = AreChains-same inst_rows (links inst_rows second) (links inst_rows insts_in) (ends_in inst_holders mods_in) (ends_in inst_holders mods_in) linked_in (λ o. refl) second_chains;
        users_of = users_in;
        insts_numbered = nets_added (length names) (mod_sides mods) (mod_sides mods_in) (inst_faces insts) (inst_faces insts_in) w.insts_numbered key (inst_face new) (mod_side row) (mod_side grown)
            (seen_new (option_map inst_face) (λ r to. refl) (λ r to. refl)) (λ o d. seen_other (option_map inst_face) (λ r to. refl) (λ r to. refl) o d)
            (ap (option_map mod_side) was) above (sides_in owner ∙ ap (option_map mod_side) becomes_in) (next_above id) few refl
            (λ o a at. counted_by names top up mods_grown nets nets w.good owner row grown was becomes_in others_in refl mod_side (grows row.next_inst id above) o a (sym (sides_in o) ∙ at));
      };
      table = inst_in_table;
    }
      where
        next_above : (x : ℕ) → x < x + 1
        next_above x = omega arith

        grows : (x y : ℕ) → x ≤ y → x ≤ y + 1
        grows x y l = omega arith
