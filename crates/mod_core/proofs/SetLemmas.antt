-- The table after a row has been written anew where it stands: all but that module or net is as it was.
use Rattle.std.proofs.Common.{◌≡◌, ◌≢◌, ℕ, ◌+◌, ◌-◌, ◌<◌, ◌≤◌, ◌==◌, Bool, cond, List, length, map, min, Option, Some, None, option_map, option_and_then, refl, sym, ap, subst, ◌∙◌, inl, inr, arith}
use Rattle.std.proofs.lemmas.Bool.{cases_eq}
use Rattle.std.specs.FinMap as rows
use Rattle.emh_base.specs.declared.ids.ModId.{ModId}
use Rattle.emh_base.specs.declared.ids.NetId.{NetId}
use Rattle.emh_base.specs.declared.plain.PNet.{PNet}
use Rattle.emh_base.specs.declared.plain.PInst.{PInst}
use Rattle.emh_base.specs.declared.plain.PModule.{PModule}
use Rattle.emh_base.specs.declared.plain.Plain.{Plain}
use Rattle.flatten_rules.specs.Changes.{with_module}
use Rattle.flatten_rules.specs.ModuleChanges.{rename_module, with_lock}
use Rattle.flatten_rules.specs.NetChanges.{renamed, rename_net}
use Rattle.timeline.specs.Timeline.{Timeline}
use Rattle.undo_slots.specs.Slots.{Rows}
use Rattle.row_chains.specs.declared.link.Link.{Link}
use Rattle.row_chains.specs.declared.link.Ends.{Ends}
use Rattle.row_chains.specs.Pays.{Pays}
use Rattle.row_chains.specs.Rows.{links, ends_in}
use Rattle.row_chains.proofs.KeyLemmas.{same_some}
use Rattle.row_chains.proofs.TableLemmas.{get_same, get_other, AreChains-same, listed-same, listed-mapped}
use Rattle.mod_core.specs.declared.rows.TopRow.{TopRow}
use Rattle.mod_core.specs.declared.rows.ModRow.{ModRow}
use Rattle.mod_core.specs.declared.rows.NetRow.{NetRow}
use Rattle.mod_core.specs.inside.Linked.{master_at, net_rows, net_holders, port_rows, port_holders, net_of_row, port_of_row, net_shown, port_shown, nets_from, ports_from, module_of_row, table_of, Upper, upper}
use Rattle.mod_core.specs.inside.Good.{mod_face, mod_faces, NetFace, net_face, net_faces, IsGood}
use Rattle.mod_core.specs.Mods.{name_at}
use Rattle.mod_core.proofs.NumberLemmas.{WasNet, nets_from as numbered_from}
use Rattle.mod_core.proofs.TableLemmas.{unequal, itself, changed_chains, changed_numbered, changed_counted, changed_ends, Quiet, quiet, Changed, changed as row_changed, master_of_module, same_masters}
use Rattle.mod_core.proofs.LookupLemmas.{mod_key, IsModule, found_module, net_key, IsNet, found_net}
use Rattle.mod_core.proofs.WholeLemmas.{as_before, before_all, Shows, shows}

at_most : (x : ℕ) → x ≤ x
at_most x = omega arith

-- one write
pub set_pays : {X : Type 0} (S T : Timeline X) (x : X) → 1 ≤ S.spare_writes → T ≡ record S { now = x; writes = S.writes + 1; spare_writes = S.spare_writes - 1 } → Pays 1 S T
set_pays S T x few e =
    let writes : T.writes ≡ S.writes + 1 = ap (λ s. s.writes) e in
    let spare : T.spare_writes ≡ S.spare_writes - 1 = ap (λ s. s.spare_writes) e in
    let room : T.spare_rows ≡ S.spare_rows = ap (λ s. s.spare_rows) e in
    record {
      rest = e ∙ (λ i. record S { now = sym (ap (λ s. s.now) e) i; writes = sym writes i; spare_rows = sym room i; spare_writes = sym spare i });
      counted = omega (arith, writes);
      made = omega (arith, writes);
      rows = omega (arith, writes, room);
      spare = omega (arith, writes, spare, few);
    }

pub spare_in : (a b c d : ℕ) → 1 ≤ min (min (min a b) c) d → (1 ≤ b) × ((1 ≤ c) × (1 ≤ d))
spare_in a b c d few = (omega (arith, few), (omega (arith, few), omega (arith, few)))

-- a module with another name, locked or not
module _ (names : List (List ℕ)) (top : ℕ) (up : Upper) (nets : Rows NetRow) (within : Ends → List PInst) (g : IsGood (length names) top up nets) (owner : ℕ) (row : ModRow) (was : rows.get up.mods owner ≡ Some row) (name : ℕ) (locked : Bool) (few : name < length names) where
  abbrev changed : ModRow
  changed = record row { name = name; locked = locked }

  abbrev pub mods_set : Rows ModRow
  mods_set = rows.insert up.mods owner changed

  becomes : rows.get mods_set owner ≡ Some changed
  becomes = get_same up.mods owner (Some changed)

  others : (o : ℕ) → o ≢ owner → rows.get mods_set o ≡ rows.get up.mods o
  others o d = get_other up.mods owner (Some changed) o d

  pub mod_set_changed : (change : PModule → PModule) → record (module_of_row names nets within row) { name = name_at names name; locked = locked } ≡ change (module_of_row names nets within row)
      → Changed names top up (upper up.tops mods_set) nets nets within within row.id change
  mod_set_changed change is = row_changed names top up mods_set nets nets g owner row changed was becomes others refl within within change is (λ o r d there. refl)

  pub mod_set_quiet : Quiet up.mods mods_set
  mod_set_quiet = quiet names top up mods_set nets nets g owner row changed was becomes others refl refl refl (at_most row.next_inst)

  pub mod_set_good : IsGood (length names) top (upper up.tops mods_set) nets
  mod_set_good = record {
    root = g.root;
    rooted = g.rooted;
    alone = g.alone;
    modules = changed_chains names top up mods_set nets nets g owner row changed was becomes others refl;
    nets_of = AreChains-same net_rows (links net_rows nets) (links net_rows nets) (ends_in net_holders up.mods) (ends_in net_holders mods_set) (λ k. refl) (changed_ends names top up mods_set nets nets g owner row changed was becomes others refl net_holders refl) g.nets_of;
    ports_of = AreChains-same port_rows (links port_rows nets) (links port_rows nets) (ends_in port_holders up.mods) (ends_in port_holders mods_set) (λ k. refl) (changed_ends names top up mods_set nets nets g owner row changed was becomes others refl port_holders refl) g.ports_of;
    mods_numbered = changed_numbered names top up mods_set nets nets g owner row changed was becomes others refl refl few;
    nets_numbered = numbered_from (length names) (mod_faces up.mods) (mod_faces mods_set) (net_faces nets) (net_faces nets) g.nets_numbered
        (λ k a at. record { was = a; at = at; owner = refl; id = refl; named = g.nets_numbered.named k a at; home = λ o h. g.nets_numbered.home k a o at h })
        (λ k a m ka om. changed_counted names top up mods_set nets nets g owner row changed was becomes others refl (at_most row.next_net) a.owner m om);
  }

-- a net with another name
module _ (names : List (List ℕ)) (top : ℕ) (up : Upper) (nets : Rows NetRow) (within : Ends → List PInst) (g : IsGood (length names) top up nets) (key : ℕ) (net : NetRow) (row : ModRow) (at : rows.get nets key ≡ Some net) (was : rows.get up.mods net.link.owner ≡ Some row) (name : ℕ) (few : name < length names) where
  abbrev named : NetRow
  named = record net { name = name }

  abbrev pub nets_set : Rows NetRow
  nets_set = rows.insert nets key named

  seen : {X : Type 0} (F : Option NetRow → X) → F (Some named) ≡ F (Some net) → (q : ℕ) → F (rows.get nets_set q) ≡ F (rows.get nets q)
  seen F same q = elim (cases_eq q key) [
    | inl e ↦ ap F (ap (rows.get nets_set) e ∙ get_same nets key (Some named)) ∙ same ∙ sym (ap F (ap (rows.get nets) e ∙ at))
    | inr d ↦ ap F (get_other nets key (Some named) q d)
  ]

  net_links : (k : ℕ) → links net_rows nets_set k ≡ links net_rows nets k
  net_links k = seen (option_and_then net_rows.link_of) refl k

  port_links : (k : ℕ) → links port_rows nets_set k ≡ links port_rows nets k
  port_links k = seen (option_and_then port_rows.link_of) refl k

  ports_same : (o : ℕ) (r : ModRow) → rows.get up.mods o ≡ Some r → ports_from nets_set r.ports ≡ ports_from nets r.ports
  ports_same o r there = listed-same port_rows nets nets_set (ends_in port_holders up.mods) g.ports_of port_links (port_shown nets) (port_shown nets_set) o r.ports (ap (option_map port_holders.ends_of) there) (λ k link l of. seen (option_and_then port_of_row) refl k)

  abbrev change : PNet → PNet
  change other = cond (other.id.0 == net.id.0) (renamed (name_at names name) other) other

  -- another net of the module has another id
  net_row : (k : ℕ) (o : Option NetRow) (l : Link) → rows.get nets k ≡ o → k ≢ key → option_and_then net_rows.link_of o ≡ Some l → l.owner ≡ net.link.owner → option_map (net_of_row names) o ≡ option_map change (option_map (net_of_row names) o)
  net_row k None l is d linked of = refl
  net_row k (Some r) l is d linked of =
      ap (λ b. Some (cond b (renamed (name_at names name) (net_of_row names r)) (net_of_row names r)))
      (sym (unequal r.id.0 net.id.0 (λ e. d (g.nets_numbered.one k key (net_face r) (net_face net) (ap (option_map net_face) is) (ap (option_map net_face) at) (ap (λ (z : Link). z.owner) (same_some r.link l linked) ∙ of) e))))

  shown : (k : ℕ) (l : Link) → links net_rows nets k ≡ Some l → l.owner ≡ net.link.owner → net_shown names nets_set k ≡ option_map change (net_shown names nets k)
  shown k l linked of = elim (cases_eq k key) [
    | inl e ↦
        ap (option_map (net_of_row names)) (ap (rows.get nets_set) e ∙ get_same nets key (Some named))
        ∙ ap (λ b. Some (cond b (renamed (name_at names name) (net_of_row names net)) (net_of_row names net))) (sym (itself net.id.0))
        ∙ sym (ap (λ o. option_map change (option_map (net_of_row names) o)) (ap (rows.get nets) e ∙ at))
    | inr d ↦ ap (option_map (net_of_row names)) (get_other nets key (Some named) k d) ∙ net_row k (rows.get nets k) l refl d linked of
  ]

  -- a row of another module is another row
  shown_other : (o : ℕ) → o ≢ net.link.owner → (k : ℕ) (l : Link) → links net_rows nets k ≡ Some l → l.owner ≡ o → net_shown names nets_set k ≡ net_shown names nets k
  shown_other o d k l linked of = elim (cases_eq k key) [
    | inl e ↦ absurd (d (sym of ∙ ap (λ (z : Link). z.owner) (same_some l net.link (sym linked ∙ ap (links net_rows nets) e ∙ ap (option_and_then net_rows.link_of) at))))
    | inr c ↦ ap (option_map (net_of_row names)) (get_other nets key (Some named) k c)
  ]

  nets_renamed : nets_from names nets_set row.nets ≡ map change (nets_from names nets row.nets)
  nets_renamed = listed-mapped net_rows nets nets_set (ends_in net_holders up.mods) g.nets_of net_links (net_shown names nets) (net_shown names nets_set) change net.link.owner row.nets (ap (option_map net_holders.ends_of) was) shown

  nets_other : (o : ℕ) (r : ModRow) → o ≢ net.link.owner → rows.get up.mods o ≡ Some r → nets_from names nets_set r.nets ≡ nets_from names nets r.nets
  nets_other o r d there = listed-same net_rows nets nets_set (ends_in net_holders up.mods) g.nets_of net_links (net_shown names nets) (net_shown names nets_set) o r.nets (ap (option_map net_holders.ends_of) there) (λ k l linked of. shown_other o d k l linked of)

  pub net_set_changed : Changed names top up (upper up.tops up.mods) nets nets_set within within row.id (λ m. record m { nets = map change m.nets })
  net_set_changed = row_changed names top up up.mods nets nets_set g net.link.owner row row was was (λ o d. refl) refl within within (λ m. record m { nets = map change m.nets })
      (λ i. record (module_of_row names nets within row) { nets = nets_renamed i; ports = ports_same net.link.owner row was i })
      (λ o r d there. λ i. record (module_of_row names nets within r) { nets = nets_other o r d there i; ports = ports_same o r there i })

  pub net_set_good : IsGood (length names) top (upper up.tops up.mods) nets_set
  net_set_good = record {
    root = g.root;
    rooted = g.rooted;
    alone = g.alone;
    modules = g.modules;
    nets_of = AreChains-same net_rows (links net_rows nets) (links net_rows nets_set) (ends_in net_holders up.mods) (ends_in net_holders up.mods) net_links (λ o. refl) g.nets_of;
    ports_of = AreChains-same port_rows (links port_rows nets) (links port_rows nets_set) (ends_in port_holders up.mods) (ends_in port_holders up.mods) port_links (λ o. refl) g.ports_of;
    mods_numbered = g.mods_numbered;
    nets_numbered = numbered_from (length names) (mod_faces up.mods) (mod_faces up.mods) (net_faces nets) (net_faces nets_set) g.nets_numbered
        (λ k a there. elim (cases_eq k key) [
          | inl e ↦
              let is : net_face named ≡ a = same_some (net_face named) a (sym (ap (option_map net_face) (ap (rows.get nets_set) e ∙ get_same nets key (Some named))) ∙ there) in
              let old : net_faces nets k ≡ Some (net_face net) = ap (option_map net_face) (ap (rows.get nets) e ∙ at) in
              subst (λ (z : NetFace). WasNet (length names) (net_faces nets) k z) is (record {
                was = net_face net;
                at = old;
                owner = refl;
                id = refl;
                named = few;
                home = λ o h. g.nets_numbered.home k (net_face net) o old h;
              })
          | inr d ↦
              let old = sym (ap (option_map net_face) (get_other nets key (Some named) k d)) ∙ there in
              record { was = a; at = old; owner = refl; id = refl; named = g.nets_numbered.named k a old; home = λ o h. g.nets_numbered.home k a o old h }
        ])
        (λ k a m ka om. record { was = m; at = om; counted = at_most m.next_net });
  }

-- what the methods do to the table
module _ (names : List (List ℕ)) (top : ℕ) (tops : Rows TopRow) (mods : Rows ModRow) (nets : Rows NetRow) (within : Ends → List PInst) (g : IsGood (length names) top (upper tops mods) nets) (id : ModId) (owner : ℕ) (held : mod_key names top (upper tops mods) nets within g id ≡ Some owner) where
  abbrev up : Upper
  up = upper tops mods

  abbrev table : Plain
  table = table_of names top up nets within

  abbrev holder : IsModule names top up nets within g id owner
  holder = found_module names top up nets within g id owner held

  module _ (mods' : Rows ModRow) (row : ModRow) (at : rows.get mods owner ≡ Some row) where
    mine_is : row.id ≡ id
    mine_is = ap (λ (r : ModRow). r.id) (same_some row holder.row (sym at ∙ holder.at)) ∙ holder.id_is

    -- its name, and whether it is locked, are written anew
    module_set : (name : ℕ) (locked : Bool) → name < length names → (change : PModule → PModule) → record (module_of_row names nets within row) { name = name_at names name; locked = locked } ≡ change (module_of_row names nets within row)
        → ((m : PModule) → master_of_module (change m) ≡ master_of_module m) → mods' ≡ rows.insert mods owner (record row { name = name; locked = locked }) → Shows names top mods nets within as_before (with_module table id change) tops mods' nets
    module_set name locked few change same keeps is =
        let m1 : Rows ModRow = mods_set names top up nets within g owner row at name locked few in
        let c = mod_set_changed names top up nets within g owner row at name locked few change same in
        shows names top mods nets within as_before (with_module table id change) tops tops m1 mods' nets nets refl is refl (record {
          good = mod_set_good names top up nets within g owner row at name locked few;
          table = c.table ∙ ap (λ (z : ModId). with_module table z change) mine_is;
          quiet = mod_set_quiet names top up nets within g owner row at name locked few;
          masters = λ k. same_masters names top up (upper tops m1) nets nets within within row.id change c keeps k ∙ sym (before_all (master_at mods nets k));
        })

    pub module_renamed : (name : ℕ) → name < length names → mods' ≡ rows.insert mods owner (record row { name = name }) → Shows names top mods nets within as_before (rename_module table id (name_at names name)) tops mods' nets
    module_renamed name few is = module_set name row.locked few (λ m. record m { name = name_at names name }) refl (λ m. refl) is

    pub module_locked : (locked : Bool) → mods' ≡ rows.insert mods owner (record row { locked = locked }) → Shows names top mods nets within as_before (with_lock table id locked) tops mods' nets
    module_locked locked is = module_set row.name locked (g.mods_numbered.named owner (mod_face row) (ap (option_map mod_face) at)) (λ m. record m { locked = locked }) refl (λ m. refl) is

  module _ (net : NetId) (key : ℕ) (e : net_key names top up nets within g owner holder.row holder.at net ≡ Some key) where
    abbrev stood : IsNet names top up nets within g owner holder.row holder.at net key
    stood = found_net names top up nets within g owner holder.row holder.at net key e

    pub net_renamed : (nets' : Rows NetRow) (row : NetRow) (name : ℕ) → rows.get nets key ≡ Some row → name < length names → nets' ≡ rows.insert nets key (record row { name = name }) → Shows names top mods nets within as_before (rename_net table id net (name_at names name)) tops mods nets'
    net_renamed nets' row name at few is =
        let same : row ≡ stood.net = same_some row stood.net (sym at ∙ stood.at) in
        let was : rows.get mods stood.net.link.owner ≡ Some holder.row = ap (rows.get mods) stood.mine ∙ holder.at in
        let n1 : Rows NetRow = nets_set names top up nets within g key stood.net holder.row stood.at was name few in
        let c = net_set_changed names top up nets within g key stood.net holder.row stood.at was name few in
        shows names top mods nets within as_before (rename_net table id net (name_at names name)) tops tops mods mods n1 nets' refl refl (is ∙ ap (λ (r : NetRow). rows.insert nets key (record r { name = name })) same) (record {
          good = net_set_good names top up nets within g key stood.net holder.row stood.at was name few;
          table = c.table ∙ (λ i. rename_net table (holder.id_is i) (stood.id_is i) (name_at names name));
          quiet = record { insts = λ o. refl; users = λ o. refl; counted = λ o a there. record { was = a; at = there; counted = at_most a.next_net } };
          masters = λ k. same_masters names top up up nets n1 within within holder.row.id _ c (λ m. refl) k ∙ sym (before_all (master_at mods nets k));
        })
