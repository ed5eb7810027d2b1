-- The table after a net has become a port, or a port a net alone.
use Rattle.std.proofs.Common.{◌≡◌, ◌≢◌, ℕ, ◌≤◌, ◌==◌, not, filter, Bool, true, false, List, [], ◌∷◌, ◌++◌, length, Option, Some, None, option_map, option_and_then, refl, sym, ap, subst, ◌∙◌, inl, inr, arith}
use Rattle.std.proofs.lemmas.Bool.{cases_eq}
use Rattle.std.specs.FinMap as rows
use Rattle.emh_base.specs.declared.plain.Dir.{Dir}
use Rattle.emh_base.specs.declared.plain.PPort.{PPort}
use Rattle.emh_base.specs.declared.plain.PInst.{PInst}
use Rattle.emh_base.specs.declared.plain.PModule.{PModule}
use Rattle.undo_slots.specs.Slots.{Rows}
use Rattle.row_chains.specs.declared.link.Link.{Link}
use Rattle.row_chains.specs.declared.link.Ends.{Ends}
use Rattle.row_chains.specs.Chains.{AreApart, ends_with, ends_without}
use Rattle.row_chains.specs.Rows.{links, keys, lead_at, ends_in}
use Rattle.row_chains.proofs.KeyLemmas.{same_some, none_some}
use Rattle.row_chains.proofs.ChainLemmas.{EndsChange}
use Rattle.row_chains.proofs.TableLemmas.{get_same, get_other, seen-lead_at, seen-follow_at, keys-chain, keys-row, AreChains-same, listed-same, appended_chains, appended_listed, appended_other, place, detached_chains, detached_listed, detached_other}
use Rattle.mod_core.specs.declared.rows.ModRow.{ModRow}
use Rattle.mod_core.specs.declared.rows.NetRow.{NetRow}
use Rattle.mod_core.specs.declared.rows.PortRow.{PortRow}
use Rattle.mod_core.specs.inside.Linked.{net_rows, net_holders, port_rows, port_holders, port_link, port_leading, port_following, net_of_row, port_on, port_of_row, net_shown, port_shown, nets_from, ports_from, module_of_row, Upper, upper}
use Rattle.mod_core.specs.inside.Good.{mod_face, mod_faces, NetFace, net_face, net_faces, port_owner, IsGood}
use Rattle.mod_core.specs.inside.Changes.{joined_rows, joined_ends, new_port}
use Rattle.mod_core.proofs.OnceLemmas.{Once, once_shown}
use Rattle.mod_core.proofs.NumberLemmas.{WasNet, nets_from as numbered_from}
use Rattle.mod_core.proofs.TableLemmas.{unequal, itself, changed_chains, changed_numbered, changed_counted, changed_ends, Quiet, quiet, Changed, changed}

-- the module with a port less, whose net stays
abbrev pub without_port_on : NetRow → PModule → PModule
without_port_on net m = record m { ports = filter (λ (other : PPort). not (other.net.0 == net.id.0)) m.ports }

-- a port's neighbours are nothing that is shown

port_lead : (row : NetRow) (to : Option ℕ) → port_of_row (port_rows.lead row to) ≡ port_of_row row
port_lead row to = one row.port
  where
    one : (p : Option PortRow) → option_map (port_on row.id) (port_leading to p) ≡ option_map (port_on row.id) p
    one None = refl
    one (Some port) = refl

port_follow : (row : NetRow) (from : Option ℕ) → port_of_row (port_rows.follow row from) ≡ port_of_row row
port_follow row from = one row.port
  where
    one : (p : Option PortRow) → option_map (port_on row.id) (port_following from p) ≡ option_map (port_on row.id) p
    one None = refl
    one (Some port) = refl

face_lead : (row : NetRow) (to : Option ℕ) → Some (net_face (port_rows.lead row to)) ≡ Some (net_face row)
face_lead row to = λ i. Some (record { owner = row.link.owner; id = row.id.0; name = row.name; port_owner = one row.port i })
  where
    one : (p : Option PortRow) → port_owner (port_leading to p) ≡ port_owner p
    one None = refl
    one (Some port) = refl

face_follow : (row : NetRow) (from : Option ℕ) → Some (net_face (port_rows.follow row from)) ≡ Some (net_face row)
face_follow row from = λ i. Some (record { owner = row.link.owner; id = row.id.0; name = row.name; port_owner = one row.port i })
  where
    one : (p : Option PortRow) → port_owner (port_following from p) ≡ port_owner p
    one None = refl
    one (Some port) = refl

at_most : (x : ℕ) → x ≤ x
at_most x = omega arith

-- a net becomes the last port of its module
module _ (names : List (List ℕ)) (top : ℕ) (up : Upper) (nets : Rows NetRow) (within : Ends → List PInst) (g : IsGood (length names) top up nets) (owner key : ℕ) (row : ModRow) (net : NetRow) (dir : Dir)
    (was : rows.get up.mods owner ≡ Some row) (at : rows.get nets key ≡ Some net) (alone : net.port ≡ None) (mine : net.link.owner ≡ owner) where
  abbrev pub grown : ModRow
  grown = record row { ports = ends_with row.ports key }

  abbrev pub mods_in : Rows ModRow
  mods_in = rows.insert up.mods owner grown

  abbrev with_port : NetRow
  with_port = record net { port = Some (new_port owner row dir) }

  abbrev mid : Rows NetRow
  mid = rows.insert nets key with_port

  abbrev pub nets_in : Rows NetRow
  nets_in = lead_at port_rows mid row.ports.last (Some key)

  becomes_in : rows.get mods_in owner ≡ Some grown
  becomes_in = get_same up.mods owner (Some grown)

  others_in : (o : ℕ) → o ≢ owner → rows.get mods_in o ≡ rows.get up.mods o
  others_in o d = get_other up.mods owner (Some grown) o d

  seen : {X : Type 0} (F : Option NetRow → X) → ((r : NetRow) (to : Option ℕ) → F (Some (port_rows.lead r to)) ≡ F (Some r)) → (q : ℕ) → q ≢ key → F (rows.get nets_in q) ≡ F (rows.get nets q)
  seen F blind q d = seen-lead_at port_rows F blind mid row.ports.last (Some key) q ∙ ap F (get_other nets key (Some with_port) q d)

  seen_new : {X : Type 0} (F : Option NetRow → X) → ((r : NetRow) (to : Option ℕ) → F (Some (port_rows.lead r to)) ≡ F (Some r)) → F (rows.get nets_in key) ≡ F (Some with_port)
  seen_new F blind = seen-lead_at port_rows F blind mid row.ports.last (Some key) key ∙ ap F (get_same nets key (Some with_port))

  seen_all : {X : Type 0} (F : Option NetRow → X) → ((r : NetRow) (to : Option ℕ) → F (Some (port_rows.lead r to)) ≡ F (Some r)) → F (Some with_port) ≡ F (Some net) → (q : ℕ) → F (rows.get nets_in q) ≡ F (rows.get nets q)
  seen_all F blind same q = elim (cases_eq q key) [
    | inl e ↦ ap (λ z. F (rows.get nets_in z)) e ∙ seen_new F blind ∙ same ∙ sym (ap F (ap (rows.get nets) e ∙ at))
    | inr d ↦ seen F blind q d
  ]

  ends_change : EndsChange (ends_in port_holders up.mods) (ends_in port_holders mods_in) owner row.ports (ends_with row.ports key)
  ends_change = record { was = ap (option_map port_holders.ends_of) was; becomes = ap (option_map port_holders.ends_of) becomes_in; others = λ o d. ap (option_map port_holders.ends_of) (others_in o d) }

  no_link : links port_rows nets key ≡ None
  no_link = ap (option_and_then port_rows.link_of) at ∙ ap port_link alone

  new_link : links port_rows mid key ≡ Some (record { owner = owner; prev = row.ports.last; next = None })
  new_link = ap (option_and_then port_rows.link_of) (get_same nets key (Some with_port))

  same_links : (q : ℕ) → q ≢ key → links port_rows mid q ≡ links port_rows nets q
  same_links q d = ap (option_and_then port_rows.link_of) (get_other nets key (Some with_port) q d)

  net_links : (k : ℕ) → links net_rows nets_in k ≡ links net_rows nets k
  net_links k = seen_all (option_and_then net_rows.link_of) (λ r to. refl) refl k

  port_shows : (k : ℕ) → k ≢ key → port_shown nets_in k ≡ port_shown nets k
  port_shows k d = seen (option_and_then port_of_row) port_lead k d

  nets_same : (o : ℕ) (r : ModRow) → rows.get up.mods o ≡ Some r → nets_from names nets_in r.nets ≡ nets_from names nets r.nets
  nets_same o r there = listed-same net_rows nets nets_in (ends_in net_holders up.mods) g.nets_of net_links (net_shown names nets) (net_shown names nets_in) o r.nets (ap (option_map net_holders.ends_of) there) (λ k link l of. seen_all (option_map (net_of_row names)) (λ r to. refl) refl k)

  ports_listed : ports_from nets_in grown.ports ≡ ports_from nets row.ports ++ record { net = net.id; dir = dir } ∷ []
  ports_listed = appended_listed port_rows nets mid (ends_in port_holders up.mods) (ends_in port_holders mods_in) owner key row.ports g.ports_of ends_change no_link new_link same_links (port_shown nets) (port_shown nets_in) (record { net = net.id; dir = dir }) port_shows (seen_new (option_and_then port_of_row) port_lead)

  ports_other : (o : ℕ) (r : ModRow) → o ≢ owner → rows.get up.mods o ≡ Some r → ports_from nets_in r.ports ≡ ports_from nets r.ports
  ports_other o r d there = appended_other port_rows nets mid (ends_in port_holders up.mods) (ends_in port_holders mods_in) owner key row.ports g.ports_of ends_change no_link new_link same_links (port_shown nets) (port_shown nets_in) port_shows o r.ports d (ap (option_map port_holders.ends_of) there)

  pub port_in_changed : (change : PModule → PModule) → record (module_of_row names nets within row) { ports = ports_from nets row.ports ++ record { net = net.id; dir = dir } ∷ [] } ≡ change (module_of_row names nets within row)
      → Changed names top up (upper up.tops mods_in) nets nets_in within within row.id change
  port_in_changed change is = changed names top up mods_in nets nets_in g owner row grown was becomes_in others_in refl within within change
      ((λ i. record (module_of_row names nets within row) { nets = nets_same owner row was i; ports = ports_listed i }) ∙ is)
      (λ o r d there. λ i. record (module_of_row names nets within r) { nets = nets_same o r there i; ports = ports_other o r d there i })

  face_new : net_faces nets_in key ≡ Some (net_face with_port)
  face_new = seen_new (option_map net_face) face_lead

  pub port_in_quiet : Quiet up.mods mods_in
  port_in_quiet = quiet names top up mods_in nets nets_in g owner row grown was becomes_in others_in refl refl refl (at_most row.next_inst)

  pub port_in_good : IsGood (length names) top (upper up.tops mods_in) nets_in
  port_in_good = record {
    root = g.root;
    rooted = g.rooted;
    alone = g.alone;
    modules = changed_chains names top up mods_in nets nets_in g owner row grown was becomes_in others_in refl;
    nets_of = AreChains-same net_rows (links net_rows nets) (links net_rows nets_in) (ends_in net_holders up.mods) (ends_in net_holders mods_in) net_links (changed_ends names top up mods_in nets nets_in g owner row grown was becomes_in others_in refl net_holders refl) g.nets_of;
    ports_of = appended_chains port_rows nets mid (ends_in port_holders up.mods) (ends_in port_holders mods_in) owner key row.ports g.ports_of ends_change no_link new_link same_links;
    mods_numbered = changed_numbered names top up mods_in nets nets_in g owner row grown was becomes_in others_in refl refl (g.mods_numbered.named owner (mod_face row) (ap (option_map mod_face) was));
    nets_numbered = numbered_from (length names) (mod_faces up.mods) (mod_faces mods_in) (net_faces nets) (net_faces nets_in) g.nets_numbered
        (λ k a there. elim (cases_eq k key) [
          | inl e ↦
              let is : net_face with_port ≡ a = same_some (net_face with_port) a (sym face_new ∙ ap (net_faces nets_in) (sym e) ∙ there) in
              let old : net_faces nets k ≡ Some (net_face net) = ap (option_map net_face) (ap (rows.get nets) e ∙ at) in
              subst (λ (z : NetFace). WasNet (length names) (net_faces nets) k z) is (record {
                was = net_face net;
                at = old;
                owner = refl;
                id = refl;
                named = g.nets_numbered.named k (net_face net) old;
                home = λ o h. sym (same_some owner o h) ∙ sym mine;
              })
          | inr d ↦
              let old = sym (seen (option_map net_face) face_lead k d) ∙ there in
              record { was = a; at = old; owner = refl; id = refl; named = g.nets_numbered.named k a old; home = λ o h. g.nets_numbered.home k a o old h }
        ])
        (λ k a m ka om. changed_counted names top up mods_in nets nets_in g owner row grown was becomes_in others_in refl (at_most row.next_net) a.owner m om);
  }

-- a port becomes a net alone
module _ (names : List (List ℕ)) (top : ℕ) (up : Upper) (nets : Rows NetRow) (within : Ends → List PInst) (g : IsGood (length names) top up nets) (key : ℕ) (row : ModRow) (net : NetRow) (port : PortRow)
    (was : rows.get up.mods port.link.owner ≡ Some row) (at : rows.get nets key ≡ Some net) (on : net.port ≡ Some port) where
  abbrev pub shrunk : ModRow
  shrunk = record row { ports = ends_without row.ports port.link }

  abbrev pub mods_out : Rows ModRow
  mods_out = joined_ends port_holders up.mods port.link

  abbrev joined : Rows NetRow
  joined = joined_rows port_rows nets port.link

  abbrev alone : NetRow
  alone = record net { port = None }

  abbrev pub nets_out : Rows NetRow
  nets_out = rows.insert joined key alone

  becomes_out : rows.get mods_out port.link.owner ≡ Some shrunk
  becomes_out = get_same up.mods port.link.owner (option_map (λ r. port_holders.with_ends r (ends_without (port_holders.ends_of r) port.link)) (rows.get up.mods port.link.owner)) ∙ ap (option_map (λ r. port_holders.with_ends r (ends_without (port_holders.ends_of r) port.link))) was

  others_out : (o : ℕ) → o ≢ port.link.owner → rows.get mods_out o ≡ rows.get up.mods o
  others_out o d = get_other up.mods port.link.owner (option_map (λ r. port_holders.with_ends r (ends_without (port_holders.ends_of r) port.link)) (rows.get up.mods port.link.owner)) o d

  left_key : rows.get nets_out key ≡ Some alone
  left_key = get_same joined key (Some alone)

  left : {X : Type 0} (F : Option NetRow → X) → ((r : NetRow) (to : Option ℕ) → F (Some (port_rows.lead r to)) ≡ F (Some r)) → ((r : NetRow) (from : Option ℕ) → F (Some (port_rows.follow r from)) ≡ F (Some r)) → (q : ℕ) → q ≢ key → F (rows.get nets_out q) ≡ F (rows.get nets q)
  left F blind deaf q d =
      ap F (get_other joined key (Some alone) q d)
      ∙ seen-follow_at port_rows F deaf (lead_at port_rows nets port.link.prev port.link.next) port.link.next port.link.prev q
      ∙ seen-lead_at port_rows F blind nets port.link.prev port.link.next q

  left_all : {X : Type 0} (F : Option NetRow → X) → ((r : NetRow) (to : Option ℕ) → F (Some (port_rows.lead r to)) ≡ F (Some r)) → ((r : NetRow) (from : Option ℕ) → F (Some (port_rows.follow r from)) ≡ F (Some r)) → F (Some alone) ≡ F (Some net) → (q : ℕ) → F (rows.get nets_out q) ≡ F (rows.get nets q)
  left_all F blind deaf same q = elim (cases_eq q key) [
    | inl e ↦ ap F (ap (rows.get nets_out) e ∙ left_key) ∙ same ∙ sym (ap F (ap (rows.get nets) e ∙ at))
    | inr d ↦ left F blind deaf q d
  ]

  linked : links port_rows nets key ≡ Some port.link
  linked = ap (option_and_then port_rows.link_of) at ∙ ap port_link on

  no_more : links port_rows nets_out key ≡ None
  no_more = ap (option_and_then port_rows.link_of) left_key

  as_joined : (q : ℕ) → q ≢ key → links port_rows nets_out q ≡ links port_rows joined q
  as_joined q d = ap (option_and_then port_rows.link_of) (get_other joined key (Some alone) q d)

  held : (place port_rows nets nets_out (ends_in port_holders up.mods) (ends_in port_holders mods_out) key port.link g.ports_of linked no_more as_joined).ends ≡ row.ports
  held =
      let p = place port_rows nets nets_out (ends_in port_holders up.mods) (ends_in port_holders mods_out) key port.link g.ports_of linked no_more as_joined in
      same_some p.ends row.ports (sym p.held ∙ ap (option_map port_holders.ends_of) was)

  ends_out : (ends : Ends) → ends ≡ row.ports → EndsChange (ends_in port_holders up.mods) (ends_in port_holders mods_out) port.link.owner ends (ends_without ends port.link)
  ends_out ends e = record {
    was = ap (option_map port_holders.ends_of) was ∙ ap (λ z. Some z) (sym e);
    becomes = ap (option_map port_holders.ends_of) becomes_out ∙ ap (λ z. Some (ends_without z port.link)) (sym e);
    others = λ o d. ap (option_map port_holders.ends_of) (others_out o d);
  }

  net_links_out : (k : ℕ) → links net_rows nets_out k ≡ links net_rows nets k
  net_links_out k = left_all (option_and_then net_rows.link_of) (λ r to. refl) (λ r from. refl) refl k

  port_shows_out : (k : ℕ) → k ≢ key → port_shown nets_out k ≡ port_shown nets k
  port_shows_out k d = left (option_and_then port_of_row) port_lead port_follow k d

  nets_same_out : (o : ℕ) (r : ModRow) → rows.get up.mods o ≡ Some r → nets_from names nets_out r.nets ≡ nets_from names nets r.nets
  nets_same_out o r there = listed-same net_rows nets nets_out (ends_in net_holders up.mods) g.nets_of net_links_out (net_shown names nets) (net_shown names nets_out) o r.nets (ap (option_map net_holders.ends_of) there) (λ k link l of. left_all (option_map (net_of_row names)) (λ r to. refl) (λ r from. refl) refl k)

  abbrev keep : PPort → Bool
  keep other = not (other.net.0 == net.id.0)

  home : (k : ℕ) (r : NetRow) (p : PortRow) → rows.get nets k ≡ Some r → r.port ≡ Some p → p.link.owner ≡ r.link.owner
  home k r p is has = g.nets_numbered.home k (net_face r) p.link.owner (ap (option_map net_face) is) (ap port_owner has)

  port_row : (k : ℕ) (o : Option NetRow) (l : Link) (y : PPort) → rows.get nets k ≡ o → k ≢ key → option_and_then port_rows.link_of o ≡ Some l → l.owner ≡ port.link.owner → option_and_then port_of_row o ≡ Some y → keep y ≡ true
  port_row k None l y is d there of shows = absurd (none_some y shows)
  port_row k (Some r) l y is d there of shows = one r.port refl
    where
      one : (p : Option PortRow) → r.port ≡ p → keep y ≡ true
      one None has = absurd (none_some l (sym (ap port_link has) ∙ there))
      one (Some p) has =
          let owns : p.link ≡ l = same_some p.link l (sym (ap port_link has) ∙ there) in
          let shown : port_on r.id p ≡ y = same_some (port_on r.id p) y (sym (ap (option_map (port_on r.id)) has) ∙ shows) in
          ap (λ (z : PPort). not (z.net.0 == net.id.0)) (sym shown)
          ∙ ap not (unequal r.id.0 net.id.0 (λ e. d (g.nets_numbered.one k key (net_face r) (net_face net) (ap (option_map net_face) is) (ap (option_map net_face) at)
          (sym (home k r p is has) ∙ ap (λ (z : Link). z.owner) owns ∙ of ∙ home key net port at on) e)))

  ports_listed_out : ports_from nets_out shrunk.ports ≡ filter keep (ports_from nets row.ports)
  ports_listed_out =
      ap (λ (z : Ends). ports_from nets_out (ends_without z port.link)) (sym held)
      ∙ detached_listed port_rows nets nets_out (ends_in port_holders up.mods) (ends_in port_holders mods_out) key port.link g.ports_of linked no_more as_joined (port_shown nets) (port_shown nets_out) keep (record { net = net.id; dir = port.dir })
      (ap (option_and_then port_of_row) at ∙ ap (option_map (port_on net.id)) on) (ap not (itself net.id.0))
      (λ k l y d there of shows. port_row k (rows.get nets k) l y refl d there of shows) port_shows_out
      ∙ ap (λ (z : Ends). filter keep (ports_from nets z)) held

  -- no other port of the module is on this net
  pub ports_once : Once (λ (other : PPort). other.net.0 == net.id.0) (ports_from nets row.ports)
  ports_once =
      let held_ends : ends_in port_holders up.mods port.link.owner ≡ Some row.ports = ap (option_map port_holders.ends_of) was in
      let c = g.ports_of.chain port.link.owner row.ports held_ends in
      once_shown (port_shown nets) (λ (other : PPort). other.net.0 == net.id.0) key (keys port_rows nets row.ports.first)
      (subst (λ ks. AreApart ks) (sym (keys-chain port_rows nets port.link.owner row.ports c.0 c.1)) c.1.apart)
      (λ k y h shows passes. elim (cases_eq k key) [
        | inl e ↦ e
        | inr d ↦
            let l = keys-row port_rows nets (ends_in port_holders up.mods) g.ports_of port.link.owner row.ports held_ends k h in
            absurd (both (y.net.0 == net.id.0) passes (port_row k (rows.get nets k) l.0 y refl d l.1.0 l.1.1 shows))
      ])
    where
      both : (b : Bool) → b ≡ true → not b ≡ true → ⊥
      both true e f = cc
      both false e f = cc

  ports_other_out : (o : ℕ) (r : ModRow) → o ≢ port.link.owner → rows.get up.mods o ≡ Some r → ports_from nets_out r.ports ≡ ports_from nets r.ports
  ports_other_out o r d there = detached_other port_rows nets nets_out (ends_in port_holders up.mods) (ends_in port_holders mods_out) key port.link g.ports_of linked no_more as_joined (port_shown nets) (port_shown nets_out) port_shows_out o r.ports d (ap (option_map port_holders.ends_of) there)

  pub port_out_changed : Changed names top up (upper up.tops mods_out) nets nets_out within within row.id (without_port_on net)
  port_out_changed = changed names top up mods_out nets nets_out g port.link.owner row shrunk was becomes_out others_out refl within within (without_port_on net)
      (λ i. record (module_of_row names nets within row) { nets = nets_same_out port.link.owner row was i; ports = ports_listed_out i })
      (λ o r d there. λ i. record (module_of_row names nets within r) { nets = nets_same_out o r there i; ports = ports_other_out o r d there i })

  pub port_out_quiet : Quiet up.mods mods_out
  port_out_quiet = quiet names top up mods_out nets nets_out g port.link.owner row shrunk was becomes_out others_out refl refl refl (at_most row.next_inst)

  pub port_out_good : IsGood (length names) top (upper up.tops mods_out) nets_out
  port_out_good =
      let p = place port_rows nets nets_out (ends_in port_holders up.mods) (ends_in port_holders mods_out) key port.link g.ports_of linked no_more as_joined in
      record {
        root = g.root;
        rooted = g.rooted;
        alone = g.alone;
        modules = changed_chains names top up mods_out nets nets_out g port.link.owner row shrunk was becomes_out others_out refl;
        nets_of = AreChains-same net_rows (links net_rows nets) (links net_rows nets_out) (ends_in net_holders up.mods) (ends_in net_holders mods_out) net_links_out (changed_ends names top up mods_out nets nets_out g port.link.owner row shrunk was becomes_out others_out refl net_holders refl) g.nets_of;
        ports_of = detached_chains port_rows nets nets_out (ends_in port_holders up.mods) (ends_in port_holders mods_out) key port.link g.ports_of linked no_more as_joined (ends_out p.ends held);
        mods_numbered = changed_numbered names top up mods_out nets nets_out g port.link.owner row shrunk was becomes_out others_out refl refl (g.mods_numbered.named port.link.owner (mod_face row) (ap (option_map mod_face) was));
        nets_numbered = numbered_from (length names) (mod_faces up.mods) (mod_faces mods_out) (net_faces nets) (net_faces nets_out) g.nets_numbered
            (λ k a there. elim (cases_eq k key) [
              | inl e ↦
                  let is : net_face alone ≡ a = same_some (net_face alone) a (sym (ap (option_map net_face) (ap (rows.get nets_out) e ∙ left_key)) ∙ there) in
                  let old : net_faces nets k ≡ Some (net_face net) = ap (option_map net_face) (ap (rows.get nets) e ∙ at) in
                  subst (λ (z : NetFace). WasNet (length names) (net_faces nets) k z) is (record {
                    was = net_face net;
                    at = old;
                    owner = refl;
                    id = refl;
                    named = g.nets_numbered.named k (net_face net) old;
                    home = λ o h. absurd (none_some o h);
                  })
              | inr d ↦
                  let old = sym (left (option_map net_face) face_lead face_follow k d) ∙ there in
                  record { was = a; at = old; owner = refl; id = refl; named = g.nets_numbered.named k a old; home = λ o h. g.nets_numbered.home k a o old h }
            ])
            (λ k a m ka om. changed_counted names top up mods_out nets nets_out g port.link.owner row shrunk was becomes_out others_out refl (at_most row.next_net) a.owner m om);
      }
