-- The table after an instance has gone, or has another name.
use Rattle.std.proofs.Common.{◌≡◌, ◌≢◌, ℕ, ◌<◌, ◌≤◌, ◌==◌, not, filter, Bool, true, List, length, map, cond, Option, Some, None, option_map, option_and_then, refl, sym, ap, subst, ◌∙◌, inl, inr, arith}
use Rattle.std.proofs.lemmas.Bool.{cases_eq}
use Rattle.std.specs.FinMap as rows
use Rattle.emh_base.specs.declared.ids.InstId.{InstId}
use Rattle.emh_base.specs.declared.plain.PInst.{PInst}
use Rattle.emh_base.specs.declared.plain.PModule.{PModule}
use Rattle.flatten_rules.specs.Changes.{with_module, with_insts}
use Rattle.undo_slots.specs.Slots.{Rows}
use Rattle.row_chains.specs.declared.link.Link.{Link}
use Rattle.row_chains.specs.declared.link.Ends.{Ends}
use Rattle.row_chains.specs.Chains.{AreChains, ends_without}
use Rattle.row_chains.specs.Rows.{links, ends_in}
use Rattle.row_chains.proofs.KeyLemmas.{same_some, none_some}
use Rattle.row_chains.proofs.ChainLemmas.{EndsChange}
use Rattle.row_chains.proofs.TableLemmas.{get_same, get_other, AreChains-same, listed-same, listed-mapped, place, detached_chains, detached_listed, detached_other}
use Rattle.mod_core.specs.declared.rows.TopRow.{TopRow}
use Rattle.mod_core.specs.declared.rows.ModRow.{ModRow}
use Rattle.mod_core.specs.declared.rows.NetRow.{NetRow}
use Rattle.mod_core.specs.declared.rows.InstRow.{InstRow}
use Rattle.mod_core.specs.inside.Linked.{mod_rows, net_holders, port_holders, inst_rows, inst_holders, user_rows, user_holders, Master, master_of_row, master_at, inst_of, inst_of_row, inst_shown, insts_from, within_of, module_of_row, table_of, Upper, upper, lower}
use Rattle.mod_core.specs.inside.Good.{mod_face, mod_side, mod_sides, NetFace, inst_face, inst_faces, IsWhole}
use Rattle.mod_core.specs.inside.Changes.{joined_rows, joined_ends}
use Rattle.mod_core.specs.Mods.{name_at}
use Rattle.mod_core.proofs.NumberLemmas.{WasNet, nets_from as numbered_from}
use Rattle.mod_core.proofs.TableLemmas.{unequal, itself, changed_chains, Changed, changed}
use Rattle.mod_core.proofs.RowLemmas.{seen_joined, seen_ends, ends_joined, good_seen, table_seen}
use Rattle.mod_core.proofs.InstLemmas.{user_left, users_left}
use Rattle.mod_core.proofs.WholeLemmas.{ShowsWhole}

-- an instance goes
module _ (names : List (List ℕ)) (top : ℕ) (tops : Rows TopRow) (mods : Rows ModRow) (nets : Rows NetRow) (insts : Rows InstRow) (w : IsWhole (length names) top (lower (upper tops mods) nets) insts) (key : ℕ) (inst : InstRow) (row : ModRow)
    (at : rows.get insts key ≡ Some inst) (was : rows.get mods inst.link.owner ≡ Some row) where
  abbrev up : Upper
  up = upper tops mods

  abbrev masters : ℕ → Option Master
  masters = master_at mods nets

  abbrev within : Ends → List PInst
  within = within_of names mods nets insts

  abbrev shrunk : ModRow
  shrunk = record row { insts = ends_without row.insts inst.link }

  abbrev mods_shrunk : Rows ModRow
  mods_shrunk = joined_ends inst_holders mods inst.link

  abbrev pub mods_out : Rows ModRow
  mods_out = joined_ends user_holders mods_shrunk inst.user

  abbrev second : Rows InstRow
  second = joined_rows inst_rows insts inst.link

  abbrev third : Rows InstRow
  third = joined_rows user_rows second inst.user

  abbrev pub insts_out : Rows InstRow
  insts_out = rows.remove third key

  becomes_out : rows.get mods_shrunk inst.link.owner ≡ Some shrunk
  becomes_out = get_same mods inst.link.owner (option_map (λ r. inst_holders.with_ends r (ends_without (inst_holders.ends_of r) inst.link)) (rows.get mods inst.link.owner)) ∙ ap (option_map (λ r. inst_holders.with_ends r (ends_without (inst_holders.ends_of r) inst.link))) was

  others_out : (o : ℕ) → o ≢ inst.link.owner → rows.get mods_shrunk o ≡ rows.get mods o
  others_out o d = get_other mods inst.link.owner (option_map (λ r. inst_holders.with_ends r (ends_without (inst_holders.ends_of r) inst.link)) (rows.get mods inst.link.owner)) o d

  gone : rows.get insts_out key ≡ None
  gone = get_same third key None

  -- what doesn't see that an instance has gone

  seen_mods : {X : Type 0} (F : Option ModRow → X) → ((r : ModRow) (ends : Ends) → F (Some (inst_holders.with_ends r ends)) ≡ F (Some r)) → ((r : ModRow) (ends : Ends) → F (Some (user_holders.with_ends r ends)) ≡ F (Some r)) → (q : ℕ) → F (rows.get mods_out q) ≡ F (rows.get mods q)
  seen_mods F blind deaf q = seen_ends F user_holders deaf mods_shrunk inst.user q ∙ seen_ends F inst_holders blind mods inst.link q

  left : {X : Type 0} (F : Option InstRow → X) → ((r : InstRow) (to : Option ℕ) → F (Some (inst_rows.lead r to)) ≡ F (Some r)) → ((r : InstRow) (from : Option ℕ) → F (Some (inst_rows.follow r from)) ≡ F (Some r))
      → ((r : InstRow) (to : Option ℕ) → F (Some (user_rows.lead r to)) ≡ F (Some r)) → ((r : InstRow) (from : Option ℕ) → F (Some (user_rows.follow r from)) ≡ F (Some r)) → (q : ℕ) → q ≢ key → F (rows.get insts_out q) ≡ F (rows.get insts q)
  left F a b c e q d = ap F (get_other third key None q d) ∙ seen_joined F user_rows c e second inst.user q ∙ seen_joined F inst_rows a b insts inst.link q

  -- the chain of the module's instances

  linked : links inst_rows insts key ≡ Some inst.link
  linked = ap (option_and_then inst_rows.link_of) at

  no_more : links inst_rows insts_out key ≡ None
  no_more = ap (option_and_then inst_rows.link_of) gone

  as_joined : (q : ℕ) → q ≢ key → links inst_rows insts_out q ≡ links inst_rows second q
  as_joined q d = ap (option_and_then inst_rows.link_of) (get_other third key None q d) ∙ seen_joined (option_and_then inst_rows.link_of) user_rows (λ r to. refl) (λ r from. refl) second inst.user q

  held : (place inst_rows insts insts_out (ends_in inst_holders mods) (ends_in inst_holders mods_out) key inst.link w.insts_of linked no_more as_joined).ends ≡ row.insts
  held =
      let p = place inst_rows insts insts_out (ends_in inst_holders mods) (ends_in inst_holders mods_out) key inst.link w.insts_of linked no_more as_joined in
      same_some p.ends row.insts (sym p.held ∙ ap (option_map inst_holders.ends_of) was)

  ends_out : (ends : Ends) → ends_in inst_holders mods inst.link.owner ≡ Some ends → EndsChange (ends_in inst_holders mods) (ends_in inst_holders mods_out) inst.link.owner ends (ends_without ends inst.link)
  ends_out ends e =
      let c = ends_joined inst_holders mods inst.link ends e in
      let blind : (o : ℕ) → ends_in inst_holders mods_out o ≡ ends_in inst_holders mods_shrunk o = (λ o. seen_ends (option_map inst_holders.ends_of) user_holders (λ r ends. refl) mods_shrunk inst.user o) in
      record { was = c.was; becomes = blind inst.link.owner ∙ c.becomes; others = λ o d. blind o ∙ c.others o d }

  insts_of_out : AreChains (links inst_rows insts_out) (ends_in inst_holders mods_out)
  insts_of_out =
      let p = place inst_rows insts insts_out (ends_in inst_holders mods) (ends_in inst_holders mods_out) key inst.link w.insts_of linked no_more as_joined in
      detached_chains inst_rows insts insts_out (ends_in inst_holders mods) (ends_in inst_holders mods_out) key inst.link w.insts_of linked no_more as_joined (ends_out p.ends p.held)

  -- the chain of the master's users
  users_of_out : AreChains (links user_rows insts_out) (ends_in user_holders mods_out)
  users_of_out =
      let chains = users_left mods insts inst.link w.users_of in
      let linked_user : links user_rows second key ≡ Some inst.user = user_left mods insts inst.link key ∙ ap (option_and_then user_rows.link_of) at in
      let no_user : links user_rows insts_out key ≡ None = ap (option_and_then user_rows.link_of) gone in
      let joined : (q : ℕ) → q ≢ key → links user_rows insts_out q ≡ links user_rows third q = (λ q d. ap (option_and_then user_rows.link_of) (get_other third key None q d)) in
      let p = place user_rows second insts_out (ends_in user_holders mods_shrunk) (ends_in user_holders mods_out) key inst.user chains linked_user no_user joined in
      detached_chains user_rows second insts_out (ends_in user_holders mods_shrunk) (ends_in user_holders mods_out) key inst.user chains linked_user no_user joined (ends_joined user_holders mods_shrunk inst.user p.ends p.held)

  -- what the modules show of their instances

  abbrev within_out : Ends → List PInst
  within_out ends = insts_from names masters insts_out ends

  abbrev keep : PInst → Bool
  keep other = not (other.id.0 == inst.id.0)

  shows_out : (k : ℕ) → k ≢ key → inst_shown names masters insts_out k ≡ inst_shown names masters insts k
  shows_out k d = left (option_and_then (inst_of_row names masters)) (λ r to. refl) (λ r from. refl) (λ r to. refl) (λ r from. refl) k d

  -- another instance of the module has another id
  inst_row : (k : ℕ) (o : Option InstRow) (l : Link) (y : PInst) → rows.get insts k ≡ o → k ≢ key → option_and_then inst_rows.link_of o ≡ Some l → l.owner ≡ inst.link.owner → option_and_then (inst_of_row names masters) o ≡ Some y → keep y ≡ true
  inst_row k None l y is d at_link of shows = absurd (none_some y shows)
  inst_row k (Some r) l y is d at_link of shows =
      ap (λ (z : InstId). not (z.0 == inst.id.0)) (sym (id_of (masters r.user.owner) shows))
      ∙ ap not (unequal r.id.0 inst.id.0 (λ e. d (w.insts_numbered.one k key (inst_face r) (inst_face inst) (ap (option_map inst_face) is) (ap (option_map inst_face) at) (ap (λ (z : Link). z.owner) (same_some r.link l at_link) ∙ of) e)))
    where
      id_of : (o : Option Master) → option_map (inst_of names r) o ≡ Some y → r.id ≡ y.id
      id_of None e = absurd (none_some y e)
      id_of (Some z) e = ap (λ (x : PInst). x.id) (same_some (inst_of names r z) y e)

  module _ (master : ModRow) (there : rows.get mods inst.user.owner ≡ Some master) where
    listed_out : within_out shrunk.insts ≡ filter keep (within row.insts)
    listed_out =
        ap (λ (z : Ends). within_out (ends_without z inst.link)) (sym held)
        ∙ detached_listed inst_rows insts insts_out (ends_in inst_holders mods) (ends_in inst_holders mods_out) key inst.link w.insts_of linked no_more as_joined (inst_shown names masters insts) (inst_shown names masters insts_out) keep (inst_of names inst (master_of_row nets master))
        (ap (option_and_then (inst_of_row names masters)) at ∙ ap (λ o. option_map (inst_of names inst) (option_map (master_of_row nets) o)) there) (ap not (itself inst.id.0))
        (λ k l y d linked_k of shows. inst_row k (rows.get insts k) l y refl d linked_k of shows) shows_out
        ∙ ap (λ (z : Ends). filter keep (within z)) held

    listed_other_out : (o : ℕ) (r : ModRow) → o ≢ inst.link.owner → rows.get mods o ≡ Some r → within_out r.insts ≡ within r.insts
    listed_other_out o r d held_there = detached_other inst_rows insts insts_out (ends_in inst_holders mods) (ends_in inst_holders mods_out) key inst.link w.insts_of linked no_more as_joined (inst_shown names masters insts) (inst_shown names masters insts_out) shows_out o r.insts d (ap (option_map inst_holders.ends_of) held_there)

    abbrev pub lacks : PModule → PModule
    lacks m = record m { insts = filter keep m.insts }

    shrunk_shown : Changed names top up (upper tops mods_shrunk) nets nets within within_out row.id lacks
    shrunk_shown = changed names top up mods_shrunk nets nets w.good inst.link.owner row shrunk was becomes_out others_out refl within within_out lacks
        (λ i. record (module_of_row names nets within row) { insts = listed_out i })
        (λ o r d held_there. λ i. record (module_of_row names nets within r) { insts = listed_other_out o r d held_there i })

    -- the table is without the instance
    inst_out_table : table_of names top (upper tops mods_out) nets (within_of names mods_out nets insts_out) ≡ with_module (table_of names top up nets within) row.id lacks
    inst_out_table =
        (λ i. table_of names top (upper tops mods_out) nets (λ ends. insts_from names (λ q. seen_mods (option_map (master_of_row nets)) (λ r ends. refl) (λ r ends. refl) q i) insts_out ends))
        ∙ table_seen (length names) top (upper tops mods_shrunk) mods_out nets (λ k. seen_ends (option_and_then mod_rows.link_of) user_holders (λ r ends. refl) mods_shrunk inst.user k) names within_out w.good.root w.good.rooted
        (changed_chains names top up mods_shrunk nets nets w.good inst.link.owner row shrunk was becomes_out others_out refl)
        (λ k. seen_ends (option_map (module_of_row names nets within_out)) user_holders (λ r ends. refl) mods_shrunk inst.user k)
        ∙ shrunk_shown.table

    pub inst_out_whole : ShowsWhole names top (with_module (table_of names top up nets within) row.id lacks) tops mods_out nets insts_out
    inst_out_whole = record {
      good = record {
        good = good_seen (length names) top up mods_out nets (λ k. seen_mods (option_and_then mod_rows.link_of) (λ r ends. refl) (λ r ends. refl) k)
            (λ o. seen_mods (option_map net_holders.ends_of) (λ r ends. refl) (λ r ends. refl) o) (λ o. seen_mods (option_map port_holders.ends_of) (λ r ends. refl) (λ r ends. refl) o) (λ o. seen_mods (option_map mod_face) (λ r ends. refl) (λ r ends. refl) o) w.good;
        insts_of = insts_of_out;
        users_of = users_of_out;
        insts_numbered = numbered_from (length names) (mod_sides mods) (mod_sides mods_out) (inst_faces insts) (inst_faces insts_out) w.insts_numbered
            (λ k a held_there. elim (cases_eq k key) [
              | inl e ↦ absurd (none_some a (sym (ap (option_map inst_face) (ap (rows.get insts_out) e ∙ gone)) ∙ held_there))
              | inr d ↦
                  let old = sym (left (option_map inst_face) (λ r to. refl) (λ r from. refl) (λ r to. refl) (λ r from. refl) k d) ∙ held_there in
                  record { was = a; at = old; owner = refl; id = refl; named = w.insts_numbered.named k a old; home = λ o h. w.insts_numbered.home k a o old h }
            ])
            (λ k a m ka om. record { was = m; at = sym (seen_mods (option_map mod_side) (λ r ends. refl) (λ r ends. refl) a.owner) ∙ om; counted = at_most m.next_net });
      };
      table = inst_out_table;
    }
      where
        at_most : (x : ℕ) → x ≤ x
        at_most x = omega arith

-- an instance with another name
module _ (names : List (List ℕ)) (top : ℕ) (tops : Rows TopRow) (mods : Rows ModRow) (nets : Rows NetRow) (insts : Rows InstRow) (w : IsWhole (length names) top (lower (upper tops mods) nets) insts) (key : ℕ) (inst : InstRow) (row : ModRow) (name : ℕ)
    (at : rows.get insts key ≡ Some inst) (was : rows.get mods inst.link.owner ≡ Some row) (few : name < length names) where
  abbrev named : InstRow
  named = record inst { name = name }

  abbrev pub insts_set : Rows InstRow
  insts_set = rows.insert insts key named

  abbrev shown_by : Rows InstRow → ℕ → Option PInst
  shown_by rows_ k = inst_shown names (master_at mods nets) rows_ k

  seen_set : {X : Type 0} (F : Option InstRow → X) → F (Some named) ≡ F (Some inst) → (q : ℕ) → F (rows.get insts_set q) ≡ F (rows.get insts q)
  seen_set F same q = elim (cases_eq q key) [
    | inl e ↦ ap F (ap (rows.get insts_set) e ∙ get_same insts key (Some named)) ∙ same ∙ sym (ap F (ap (rows.get insts) e ∙ at))
    | inr d ↦ ap F (get_other insts key (Some named) q d)
  ]

  inst_links : (k : ℕ) → links inst_rows insts_set k ≡ links inst_rows insts k
  inst_links k = seen_set (option_and_then inst_rows.link_of) refl k

  user_links : (k : ℕ) → links user_rows insts_set k ≡ links user_rows insts k
  user_links k = seen_set (option_and_then user_rows.link_of) refl k

  abbrev pub renames : PInst → PInst
  renames other = cond (other.id.0 == inst.id.0) (record other { name = name_at names name }) other

  -- the row shows the other name

  here : (o : Option Master) → option_map (inst_of names named) o ≡ option_map renames (option_map (inst_of names inst) o)
  here None = refl
  here (Some z) = ap (λ b. Some (cond b (record (inst_of names inst z) { name = name_at names name }) (inst_of names inst z))) (sym (itself inst.id.0))

  apart : (r : InstRow) → r.id.0 ≢ inst.id.0 → (o : Option Master) → option_map (inst_of names r) o ≡ option_map renames (option_map (inst_of names r) o)
  apart r d None = refl
  apart r d (Some z) = ap (λ b. Some (cond b (record (inst_of names r z) { name = name_at names name }) (inst_of names r z))) (sym (unequal r.id.0 inst.id.0 d))

  other_row : (k : ℕ) (o : Option InstRow) (l : Link) → rows.get insts k ≡ o → k ≢ key → option_and_then inst_rows.link_of o ≡ Some l → l.owner ≡ inst.link.owner
      → option_and_then (inst_of_row names (master_at mods nets)) o ≡ option_map renames (option_and_then (inst_of_row names (master_at mods nets)) o)
  other_row k None l is d chained of = refl
  other_row k (Some r) l is d chained of = apart r (λ e. d (w.insts_numbered.one k key (inst_face r) (inst_face inst) (ap (option_map inst_face) is) (ap (option_map inst_face) at) (ap (λ (z : Link). z.owner) (same_some r.link l chained) ∙ of) e)) (master_at mods nets r.user.owner)

  shown : (k : ℕ) (l : Link) → links inst_rows insts k ≡ Some l → l.owner ≡ inst.link.owner → shown_by insts_set k ≡ option_map renames (shown_by insts k)
  shown k l chained of = elim (cases_eq k key) [
    | inl e ↦
        ap (option_and_then (inst_of_row names (master_at mods nets))) (ap (rows.get insts_set) e ∙ get_same insts key (Some named))
        ∙ here (master_at mods nets inst.user.owner)
        ∙ sym (ap (λ o. option_map renames (option_and_then (inst_of_row names (master_at mods nets)) o)) (ap (rows.get insts) e ∙ at))
    | inr d ↦ ap (option_and_then (inst_of_row names (master_at mods nets))) (get_other insts key (Some named) k d) ∙ other_row k (rows.get insts k) l refl d chained of
  ]

  shown_other : (o : ℕ) → o ≢ inst.link.owner → (k : ℕ) (l : Link) → links inst_rows insts k ≡ Some l → l.owner ≡ o → shown_by insts_set k ≡ shown_by insts k
  shown_other o d k l chained of = elim (cases_eq k key) [
    | inl e ↦ absurd (d (sym of ∙ ap (λ (z : Link). z.owner) (same_some l inst.link (sym chained ∙ ap (links inst_rows insts) e ∙ ap (option_and_then inst_rows.link_of) at))))
    | inr c ↦ ap (option_and_then (inst_of_row names (master_at mods nets))) (get_other insts key (Some named) k c)
  ]

  renamed_here : within_of names mods nets insts_set row.insts ≡ map renames (within_of names mods nets insts row.insts)
  renamed_here = listed-mapped inst_rows insts insts_set (ends_in inst_holders mods) w.insts_of inst_links (shown_by insts) (shown_by insts_set) renames inst.link.owner row.insts (ap (option_map inst_holders.ends_of) was) shown

  renamed_other : (o : ℕ) (r : ModRow) → o ≢ inst.link.owner → rows.get mods o ≡ Some r → within_of names mods nets insts_set r.insts ≡ within_of names mods nets insts r.insts
  renamed_other o r d there = listed-same inst_rows insts insts_set (ends_in inst_holders mods) w.insts_of inst_links (shown_by insts) (shown_by insts_set) o r.insts (ap (option_map inst_holders.ends_of) there) (λ k l chained of. shown_other o d k l chained of)

  pub inst_set_whole : ShowsWhole names top (with_module (table_of names top (upper tops mods) nets (within_of names mods nets insts)) row.id (with_insts renames)) tops mods nets insts_set
  inst_set_whole = record {
    good = record {
      good = w.good;
      insts_of = AreChains-same inst_rows (links inst_rows insts) (links inst_rows insts_set) (ends_in inst_holders mods) (ends_in inst_holders mods) inst_links (λ o. refl) w.insts_of;
      users_of = AreChains-same user_rows (links user_rows insts) (links user_rows insts_set) (ends_in user_holders mods) (ends_in user_holders mods) user_links (λ o. refl) w.users_of;
      insts_numbered = numbered_from (length names) (mod_sides mods) (mod_sides mods) (inst_faces insts) (inst_faces insts_set) w.insts_numbered
          (λ k a there. elim (cases_eq k key) [
            | inl e ↦
                let is : inst_face named ≡ a = same_some (inst_face named) a (sym (ap (option_map inst_face) (ap (rows.get insts_set) e ∙ get_same insts key (Some named))) ∙ there) in
                let old : inst_faces insts k ≡ Some (inst_face inst) = ap (option_map inst_face) (ap (rows.get insts) e ∙ at) in
                subst (λ (z : NetFace). WasNet (length names) (inst_faces insts) k z) is (record {
                  was = inst_face inst;
                  at = old;
                  owner = refl;
                  id = refl;
                  named = few;
                  home = λ o h. w.insts_numbered.home k (inst_face inst) o old h;
                })
            | inr d ↦
                let old = sym (ap (option_map inst_face) (get_other insts key (Some named) k d)) ∙ there in
                record { was = a; at = old; owner = refl; id = refl; named = w.insts_numbered.named k a old; home = λ o h. w.insts_numbered.home k a o old h }
          ])
          (λ k a m ka om. record { was = m; at = om; counted = stays m.next_net });
    };
    table = (changed names top (upper tops mods) mods nets nets w.good inst.link.owner row row was was (λ o d. refl) refl (within_of names mods nets insts) (within_of names mods nets insts_set) (with_insts renames)
        (λ i. record (module_of_row names nets (within_of names mods nets insts) row) { insts = renamed_here i })
        (λ o r d there. λ i. record (module_of_row names nets (within_of names mods nets insts) r) { insts = renamed_other o r d there i })).table;
  }
    where
      stays : (x : ℕ) → x ≤ x
      stays x = omega arith
