-- The table after a change of a net.
use Rattle.std.proofs.Common.{◌≡◌, ◌≢◌, ℕ, ◌+◌, ◌<◌, ◌≤◌, ◌==◌, not, filter, Bool, true, List, [], ◌∷◌, ◌++◌, length, Option, Some, None, option_map, option_and_then, refl, sym, ap, ◌∙◌, inl, inr, arith}
use Rattle.std.proofs.lemmas.Bool.{cases_eq}
use Rattle.std.specs.FinMap as rows
use Rattle.emh_base.specs.declared.plain.Range.{Range}
use Rattle.emh_base.specs.declared.plain.PNet.{PNet}
use Rattle.emh_base.specs.declared.plain.PInst.{PInst}
use Rattle.flatten_rules.specs.NetChanges.{with_net, without_net}
use Rattle.undo_slots.specs.Slots.{Rows}
use Rattle.row_chains.specs.declared.link.Link.{Link}
use Rattle.row_chains.specs.declared.link.Ends.{Ends}
use Rattle.row_chains.specs.Chains.{ends_with, ends_without}
use Rattle.row_chains.specs.Rows.{links, lead_at, ends_in}
use Rattle.row_chains.proofs.KeyLemmas.{same_some, none_some}
use Rattle.row_chains.proofs.ChainLemmas.{EndsChange}
use Rattle.row_chains.proofs.TableLemmas.{get_same, get_other, seen-lead_at, seen-follow_at, AreChains-same, listed-same, appended_chains, appended_listed, appended_other, place, detached_chains, detached_listed, detached_other}
use Rattle.mod_core.specs.declared.rows.ModRow.{ModRow}
use Rattle.mod_core.specs.declared.rows.NetRow.{NetRow}
use Rattle.mod_core.specs.inside.Linked.{net_rows, net_holders, port_rows, port_holders, port_link, net_of_row, port_on, port_of_row, net_shown, port_shown, nets_from, ports_from, module_of_row, Upper, upper}
use Rattle.mod_core.specs.inside.Good.{mod_face, mod_faces, net_face, net_faces, IsGood}
use Rattle.mod_core.specs.inside.Changes.{joined_rows, joined_ends, new_net}
use Rattle.mod_core.specs.Mods.{name_at}
use Rattle.mod_core.proofs.NumberLemmas.{nets_from as numbered_from, nets_added}
use Rattle.mod_core.proofs.TableLemmas.{unequal, itself, changed_chains, changed_numbered, changed_counted, changed_ends, Quiet, quiet, Changed, changed}

-- a net comes last in its module
module _ (names : List (List ℕ)) (top : ℕ) (up : Upper) (nets : Rows NetRow) (within : Ends → List PInst) (g : IsGood (length names) top up nets) (owner key id name : ℕ) (range : Option Range) (row : ModRow)
    (was : rows.get up.mods owner ≡ Some row) (absent : rows.get nets key ≡ None) (above : row.next_net ≤ id) (few : name < length names) where
  abbrev pub grown : ModRow
  grown = record row { next_net = id + 1; nets = ends_with row.nets key }

  abbrev pub mods_in : Rows ModRow
  mods_in = rows.insert up.mods owner grown

  abbrev new : NetRow
  new = new_net owner row id name range

  abbrev mid : Rows NetRow
  mid = rows.insert nets key new

  abbrev pub nets_in : Rows NetRow
  nets_in = lead_at net_rows mid row.nets.last (Some key)

  becomes_in : rows.get mods_in owner ≡ Some grown
  becomes_in = get_same up.mods owner (Some grown)

  others_in : (o : ℕ) → o ≢ owner → rows.get mods_in o ≡ rows.get up.mods o
  others_in o d = get_other up.mods owner (Some grown) o d

  seen : {X : Type 0} (F : Option NetRow → X) → ((r : NetRow) (to : Option ℕ) → F (Some (net_rows.lead r to)) ≡ F (Some r)) → (q : ℕ) → q ≢ key → F (rows.get nets_in q) ≡ F (rows.get nets q)
  seen F blind q d = seen-lead_at net_rows F blind mid row.nets.last (Some key) q ∙ ap F (get_other nets key (Some new) q d)

  seen_new : {X : Type 0} (F : Option NetRow → X) → ((r : NetRow) (to : Option ℕ) → F (Some (net_rows.lead r to)) ≡ F (Some r)) → F (rows.get nets_in key) ≡ F (Some new)
  seen_new F blind = seen-lead_at net_rows F blind mid row.nets.last (Some key) key ∙ ap F (get_same nets key (Some new))

  seen_all : {X : Type 0} (F : Option NetRow → X) → ((r : NetRow) (to : Option ℕ) → F (Some (net_rows.lead r to)) ≡ F (Some r)) → F (Some new) ≡ F None → (q : ℕ) → F (rows.get nets_in q) ≡ F (rows.get nets q)
  seen_all F blind hidden q = elim (cases_eq q key) [
    | inl e ↦ ap (λ z. F (rows.get nets_in z)) e ∙ seen_new F blind ∙ hidden ∙ sym (ap F (ap (rows.get nets) e ∙ absent))
    | inr d ↦ seen F blind q d
  ]

  ends_change : EndsChange (ends_in net_holders up.mods) (ends_in net_holders mods_in) owner row.nets (ends_with row.nets key)
  ends_change = record { was = ap (option_map net_holders.ends_of) was; becomes = ap (option_map net_holders.ends_of) becomes_in; others = λ o d. ap (option_map net_holders.ends_of) (others_in o d) }

  no_link : links net_rows nets key ≡ None
  no_link = ap (option_and_then net_rows.link_of) absent

  new_link : links net_rows mid key ≡ Some (record { owner = owner; prev = row.nets.last; next = None })
  new_link = ap (option_and_then net_rows.link_of) (get_same nets key (Some new))

  same_links : (q : ℕ) → q ≢ key → links net_rows mid q ≡ links net_rows nets q
  same_links q d = ap (option_and_then net_rows.link_of) (get_other nets key (Some new) q d)

  port_links : (k : ℕ) → links port_rows nets_in k ≡ links port_rows nets k
  port_links k = seen_all (option_and_then port_rows.link_of) (λ r to. refl) refl k

  net_shows : (k : ℕ) → k ≢ key → net_shown names nets_in k ≡ net_shown names nets k
  net_shows k d = seen (option_map (net_of_row names)) (λ r to. refl) k d

  ports_same : (o : ℕ) (r : ModRow) → rows.get up.mods o ≡ Some r → ports_from nets_in r.ports ≡ ports_from nets r.ports
  ports_same o r at = listed-same port_rows nets nets_in (ends_in port_holders up.mods) g.ports_of port_links (port_shown nets) (port_shown nets_in) o r.ports (ap (option_map port_holders.ends_of) at) (λ k link there of. seen_all (option_and_then port_of_row) (λ r to. refl) refl k)

  nets_listed : nets_from names nets_in grown.nets ≡ nets_from names nets row.nets ++ net_of_row names new ∷ []
  nets_listed = appended_listed net_rows nets mid (ends_in net_holders up.mods) (ends_in net_holders mods_in) owner key row.nets g.nets_of ends_change no_link new_link same_links (net_shown names nets) (net_shown names nets_in) (net_of_row names new) net_shows (seen_new (option_map (net_of_row names)) (λ r to. refl))

  nets_other : (o : ℕ) (r : ModRow) → o ≢ owner → rows.get up.mods o ≡ Some r → nets_from names nets_in r.nets ≡ nets_from names nets r.nets
  nets_other o r d at = appended_other net_rows nets mid (ends_in net_holders up.mods) (ends_in net_holders mods_in) owner key row.nets g.nets_of ends_change no_link new_link same_links (net_shown names nets) (net_shown names nets_in) net_shows o r.nets d (ap (option_map net_holders.ends_of) at)

  pub net_in_module : module_of_row names nets_in within grown ≡ record (module_of_row names nets within row) { nets = nets_from names nets row.nets ++ net_of_row names new ∷ []; next_net = id + 1 }
  net_in_module = λ i. record (module_of_row names nets within row) { nets = nets_listed i; ports = ports_same owner row was i; next_net = id + 1 }

  -- the table has the net
  pub net_in_changed : id ≡ row.next_net → Changed names top up (upper up.tops mods_in) nets nets_in within within row.id (with_net (name_at names name) range)
  net_in_changed same = changed names top up mods_in nets nets_in g owner row grown was becomes_in others_in refl within within (with_net (name_at names name) range)
      (net_in_module ∙ (λ i. record (module_of_row names nets within row) { nets = nets_from names nets row.nets ++ record { id = record { 0 = same i }; name = name_at names name; range = range } ∷ []; next_net = same i + 1 }))
      (λ o r d at. λ i. record (module_of_row names nets within r) { nets = nets_other o r d at i; ports = ports_same o r at i })

  pub net_in_quiet : Quiet up.mods mods_in
  net_in_quiet = quiet names top up mods_in nets nets_in g owner row grown was becomes_in others_in refl refl refl (stays row.next_inst)
    where
      stays : (x : ℕ) → x ≤ x
      stays x = omega arith

  -- the rows are as they ought to be
  pub net_in_good : IsGood (length names) top (upper up.tops mods_in) nets_in
  net_in_good = record {
    root = g.root;
    rooted = g.rooted;
    alone = g.alone;
    modules = changed_chains names top up mods_in nets nets_in g owner row grown was becomes_in others_in refl;
    nets_of = appended_chains net_rows nets mid (ends_in net_holders up.mods) (ends_in net_holders mods_in) owner key row.nets g.nets_of ends_change no_link new_link same_links;
    ports_of = AreChains-same port_rows (links port_rows nets) (links port_rows nets_in) (ends_in port_holders up.mods) (ends_in port_holders mods_in) port_links (changed_ends names top up mods_in nets nets_in g owner row grown was becomes_in others_in refl port_holders refl) g.ports_of;
    mods_numbered = changed_numbered names top up mods_in nets nets_in g owner row grown was becomes_in others_in refl refl (g.mods_numbered.named owner (mod_face row) (ap (option_map mod_face) was));
    nets_numbered = nets_added (length names) (mod_faces up.mods) (mod_faces mods_in) (net_faces nets) (net_faces nets_in) g.nets_numbered key (net_face new) (mod_face row) (mod_face grown)
        (seen_new (option_map net_face) (λ r to. refl)) (λ o d. seen (option_map net_face) (λ r to. refl) o d)
        (ap (option_map mod_face) was) above (ap (option_map mod_face) becomes_in) (next_above id) few refl
        (changed_counted names top up mods_in nets nets_in g owner row grown was becomes_in others_in refl (grows row.next_net id above));
  }
    where
      next_above : (x : ℕ) → x < x + 1
      next_above x = omega arith

      grows : (x y : ℕ) → x ≤ y → x ≤ y + 1
      grows x y l = omega arith

-- a net that is no port goes
module _ (names : List (List ℕ)) (top : ℕ) (up : Upper) (nets : Rows NetRow) (within : Ends → List PInst) (g : IsGood (length names) top up nets) (key : ℕ) (net : NetRow) (row : ModRow)
    (at : rows.get nets key ≡ Some net) (alone : net.port ≡ None) (was : rows.get up.mods net.link.owner ≡ Some row) where
  abbrev pub shrunk : ModRow
  shrunk = record row { nets = ends_without row.nets net.link }

  abbrev pub mods_out : Rows ModRow
  mods_out = joined_ends net_holders up.mods net.link

  abbrev joined : Rows NetRow
  joined = joined_rows net_rows nets net.link

  abbrev pub nets_out : Rows NetRow
  nets_out = rows.remove joined key

  becomes_out : rows.get mods_out net.link.owner ≡ Some shrunk
  becomes_out = get_same up.mods net.link.owner (option_map (λ r. net_holders.with_ends r (ends_without (net_holders.ends_of r) net.link)) (rows.get up.mods net.link.owner)) ∙ ap (option_map (λ r. net_holders.with_ends r (ends_without (net_holders.ends_of r) net.link))) was

  others_out : (o : ℕ) → o ≢ net.link.owner → rows.get mods_out o ≡ rows.get up.mods o
  others_out o d = get_other up.mods net.link.owner (option_map (λ r. net_holders.with_ends r (ends_without (net_holders.ends_of r) net.link)) (rows.get up.mods net.link.owner)) o d

  gone : rows.get nets_out key ≡ None
  gone = get_same joined key None

  left : {X : Type 0} (F : Option NetRow → X) → ((r : NetRow) (to : Option ℕ) → F (Some (net_rows.lead r to)) ≡ F (Some r)) → ((r : NetRow) (from : Option ℕ) → F (Some (net_rows.follow r from)) ≡ F (Some r)) → (q : ℕ) → q ≢ key → F (rows.get nets_out q) ≡ F (rows.get nets q)
  left F blind deaf q d =
      ap F (get_other joined key None q d)
      ∙ seen-follow_at net_rows F deaf (lead_at net_rows nets net.link.prev net.link.next) net.link.next net.link.prev q
      ∙ seen-lead_at net_rows F blind nets net.link.prev net.link.next q

  left_all : {X : Type 0} (F : Option NetRow → X) → ((r : NetRow) (to : Option ℕ) → F (Some (net_rows.lead r to)) ≡ F (Some r)) → ((r : NetRow) (from : Option ℕ) → F (Some (net_rows.follow r from)) ≡ F (Some r)) → F (Some net) ≡ F None → (q : ℕ) → F (rows.get nets_out q) ≡ F (rows.get nets q)
  left_all F blind deaf hidden q = elim (cases_eq q key) [
    | inl e ↦ ap F (ap (rows.get nets_out) e ∙ gone) ∙ sym hidden ∙ sym (ap F (ap (rows.get nets) e ∙ at))
    | inr d ↦ left F blind deaf q d
  ]

  linked : links net_rows nets key ≡ Some net.link
  linked = ap (option_and_then net_rows.link_of) at

  no_more : links net_rows nets_out key ≡ None
  no_more = ap (option_and_then net_rows.link_of) gone

  as_joined : (q : ℕ) → q ≢ key → links net_rows nets_out q ≡ links net_rows joined q
  as_joined q d = ap (option_and_then net_rows.link_of) (get_other joined key None q d)

  held : (place net_rows nets nets_out (ends_in net_holders up.mods) (ends_in net_holders mods_out) key net.link g.nets_of linked no_more as_joined).ends ≡ row.nets
  held =
      let p = place net_rows nets nets_out (ends_in net_holders up.mods) (ends_in net_holders mods_out) key net.link g.nets_of linked no_more as_joined in
      same_some p.ends row.nets (sym p.held ∙ ap (option_map net_holders.ends_of) was)

  ends_out : (ends : Ends) → ends ≡ row.nets → EndsChange (ends_in net_holders up.mods) (ends_in net_holders mods_out) net.link.owner ends (ends_without ends net.link)
  ends_out ends e = record {
    was = ap (option_map net_holders.ends_of) was ∙ ap (λ z. Some z) (sym e);
    becomes = ap (option_map net_holders.ends_of) becomes_out ∙ ap (λ z. Some (ends_without z net.link)) (sym e);
    others = λ o d. ap (option_map net_holders.ends_of) (others_out o d);
  }

  port_links_out : (k : ℕ) → links port_rows nets_out k ≡ links port_rows nets k
  port_links_out k = left_all (option_and_then port_rows.link_of) (λ r to. refl) (λ r from. refl) (ap port_link alone) k

  net_shows_out : (k : ℕ) → k ≢ key → net_shown names nets_out k ≡ net_shown names nets k
  net_shows_out k d = left (option_map (net_of_row names)) (λ r to. refl) (λ r from. refl) k d

  ports_same_out : (o : ℕ) (r : ModRow) → rows.get up.mods o ≡ Some r → ports_from nets_out r.ports ≡ ports_from nets r.ports
  ports_same_out o r there = listed-same port_rows nets nets_out (ends_in port_holders up.mods) g.ports_of port_links_out (port_shown nets) (port_shown nets_out) o r.ports (ap (option_map port_holders.ends_of) there) (λ k link l of. left_all (option_and_then port_of_row) (λ r to. refl) (λ r from. refl) (ap (option_map (port_on net.id)) alone) k)

  abbrev keep : PNet → Bool
  keep other = not (other.id.0 == net.id.0)

  net_row : (k : ℕ) (o : Option NetRow) (l : Link) (y : PNet) → rows.get nets k ≡ o → k ≢ key → option_and_then net_rows.link_of o ≡ Some l → l.owner ≡ net.link.owner → option_map (net_of_row names) o ≡ Some y → keep y ≡ true
  net_row k None l y is d at_link of shows = absurd (none_some y shows)
  net_row k (Some r) l y is d at_link of shows =
      ap (λ (z : PNet). not (z.id.0 == net.id.0)) (sym (same_some (net_of_row names r) y shows))
      ∙ ap not (unequal r.id.0 net.id.0 (λ e. d (g.nets_numbered.one k key (net_face r) (net_face net) (ap (option_map net_face) is) (ap (option_map net_face) at) (ap (λ (z : Link). z.owner) (same_some r.link l at_link) ∙ of) e)))

  nets_listed_out : nets_from names nets_out shrunk.nets ≡ filter keep (nets_from names nets row.nets)
  nets_listed_out =
      let p = place net_rows nets nets_out (ends_in net_holders up.mods) (ends_in net_holders mods_out) key net.link g.nets_of linked no_more as_joined in
      ap (λ (z : Ends). nets_from names nets_out (ends_without z net.link)) (sym held)
      ∙ detached_listed net_rows nets nets_out (ends_in net_holders up.mods) (ends_in net_holders mods_out) key net.link g.nets_of linked no_more as_joined (net_shown names nets) (net_shown names nets_out) keep (net_of_row names net)
      (ap (option_map (net_of_row names)) at) (ap not (itself net.id.0))
      (λ k l y d there of shows. net_row k (rows.get nets k) l y refl d there of shows) net_shows_out
      ∙ ap (λ (z : Ends). filter keep (nets_from names nets z)) held

  nets_other_out : (o : ℕ) (r : ModRow) → o ≢ net.link.owner → rows.get up.mods o ≡ Some r → nets_from names nets_out r.nets ≡ nets_from names nets r.nets
  nets_other_out o r d there = detached_other net_rows nets nets_out (ends_in net_holders up.mods) (ends_in net_holders mods_out) key net.link g.nets_of linked no_more as_joined (net_shown names nets) (net_shown names nets_out) net_shows_out o r.nets d (ap (option_map net_holders.ends_of) there)

  -- the table is without the net
  pub net_out_changed : Changed names top up (upper up.tops mods_out) nets nets_out within within row.id (without_net net.id)
  net_out_changed = changed names top up mods_out nets nets_out g net.link.owner row shrunk was becomes_out others_out refl within within (without_net net.id)
      (λ i. record (module_of_row names nets within row) { nets = nets_listed_out i; ports = ports_same_out net.link.owner row was i })
      (λ o r d there. λ i. record (module_of_row names nets within r) { nets = nets_other_out o r d there i; ports = ports_same_out o r there i })

  pub net_out_quiet : Quiet up.mods mods_out
  net_out_quiet = quiet names top up mods_out nets nets_out g net.link.owner row shrunk was becomes_out others_out refl refl refl (stays row.next_inst)
    where
      stays : (x : ℕ) → x ≤ x
      stays x = omega arith

  pub net_out_good : IsGood (length names) top (upper up.tops mods_out) nets_out
  net_out_good =
      let p = place net_rows nets nets_out (ends_in net_holders up.mods) (ends_in net_holders mods_out) key net.link g.nets_of linked no_more as_joined in
      record {
        root = g.root;
        rooted = g.rooted;
        alone = g.alone;
        modules = changed_chains names top up mods_out nets nets_out g net.link.owner row shrunk was becomes_out others_out refl;
        nets_of = detached_chains net_rows nets nets_out (ends_in net_holders up.mods) (ends_in net_holders mods_out) key net.link g.nets_of linked no_more as_joined (ends_out p.ends held);
        ports_of = AreChains-same port_rows (links port_rows nets) (links port_rows nets_out) (ends_in port_holders up.mods) (ends_in port_holders mods_out) port_links_out (changed_ends names top up mods_out nets nets_out g net.link.owner row shrunk was becomes_out others_out refl port_holders refl) g.ports_of;
        mods_numbered = changed_numbered names top up mods_out nets nets_out g net.link.owner row shrunk was becomes_out others_out refl refl (g.mods_numbered.named net.link.owner (mod_face row) (ap (option_map mod_face) was));
        nets_numbered = numbered_from (length names) (mod_faces up.mods) (mod_faces mods_out) (net_faces nets) (net_faces nets_out) g.nets_numbered
            (λ k a there. elim (cases_eq k key) [
              | inl e ↦ absurd (none_some a (sym (ap (option_map net_face) (ap (rows.get nets_out) e ∙ gone)) ∙ there))
              | inr d ↦
                  let old = sym (left (option_map net_face) (λ r to. refl) (λ r from. refl) k d) ∙ there in
                  record { was = a; at = old; owner = refl; id = refl; named = g.nets_numbered.named k a old; home = λ o h. g.nets_numbered.home k a o old h }
            ])
            (λ k a m ka om. changed_counted names top up mods_out nets nets_out g net.link.owner row shrunk was becomes_out others_out refl (at_most row.next_net) a.owner m om);
      }
    where
      at_most : (x : ℕ) → x ≤ x
      at_most x = omega arith
