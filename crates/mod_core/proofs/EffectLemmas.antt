-- What the methods do to the table.
use Rattle.std.proofs.Common.{◌≡◌, ℕ, ◌+◌, ◌-◌, ◌<◌, ◌≤◌, ◌==◌, List, [], ◌∷◌, ◌++◌, length, not, filter, position, Bool, Option, Some, None, option_map, option_and_then, is_some, true, refl, sym, ap, subst, ◌∙◌, arith}
use Rattle.std.proofs.lemmas.Grind.{common_steps}
use Rattle.std.specs.FinMap as rows
use Rattle.emh_base.specs.declared.ids.ModId.{ModId}
use Rattle.emh_base.specs.declared.ids.NetId.{NetId}
use Rattle.emh_base.specs.declared.plain.Dir.{Dir}
use Rattle.emh_base.specs.declared.plain.Conn.{Conn}
use Rattle.emh_base.specs.declared.plain.Conn.TheVariants.{Open}
use Rattle.emh_base.specs.declared.plain.Range.{Range}
use Rattle.emh_base.specs.declared.plain.PPort.{PPort}
use Rattle.emh_base.specs.declared.plain.PInst.{PInst}
use Rattle.emh_base.specs.declared.plain.PModule.{PModule}
use Rattle.emh_base.specs.declared.plain.Plain.{Plain}
use Rattle.flatten_rules.specs.Lookup.{module_of, port_of}
use Rattle.flatten_rules.specs.Changes.{port_in, with_module, port_place}
use Rattle.flatten_rules.specs.NetChanges.{with_net, with_port, without_net, create_net, delete_net, without_port, without_conn}
use Rattle.undo_slots.specs.Slots.{Rows}
use Rattle.row_chains.specs.declared.link.Link.{Link}
use Rattle.row_chains.specs.declared.link.Ends.{Ends}
use Rattle.row_chains.specs.Chains.{ends_with, ends_without}
use Rattle.row_chains.specs.Rows.{lead_at}
use Rattle.row_chains.proofs.KeyLemmas.{same_some, none_some}
use Rattle.row_chains.proofs.TableLemmas.{get_same, seen-lead_at}
use Rattle.mod_core.specs.declared.rows.TopRow.{TopRow}
use Rattle.mod_core.specs.declared.rows.ModRow.{ModRow}
use Rattle.mod_core.specs.declared.rows.NetRow.{NetRow}
use Rattle.mod_core.specs.declared.rows.PortRow.{PortRow}
use Rattle.mod_core.specs.inside.Linked.{opens, Master, master_at, net_rows, port_rows, port_holders, ports_from, module_of_row, table_of, Upper, upper}
use Rattle.mod_core.specs.inside.Good.{mod_face, IsGood}
use Rattle.mod_core.specs.inside.Changes.{new_net, NetIn, NetOut, PortIn, PortOut, joined_rows}
use Rattle.mod_core.specs.Mods.{name_at}
use Rattle.mod_core.proofs.LookupLemmas.{mod_key, IsModule, found_module, net_key, found_net, net_alone, port_key, IsPort, found_port}
use Rattle.mod_core.proofs.PortLemmas.{mods_in as port_mods, nets_in as port_nets, port_in_changed, port_in_quiet, port_in_good, mods_out as port_mods_out, nets_out as port_nets_out, without_port_on, ports_once, port_out_changed, port_out_quiet, port_out_good}
use Rattle.mod_core.proofs.TwiceLemmas.{twice}
use Rattle.mod_core.proofs.OnceLemmas.{opens_more, opens_less}
use Rattle.mod_core.proofs.TableLemmas.{same_masters, changed_masters}
use Rattle.mod_core.proofs.WholeLemmas.{at_master, as_before, before_all, before_then, Quiet-then, Shows, shows}
use Rattle.mod_core.proofs.NetLemmas.{mods_in, nets_in, net_in_changed, net_in_quiet, net_in_good, mods_out, nets_out, net_out_changed, net_out_quiet, net_out_good}

equal_true : (a b : ℕ) → (a == b) ≡ true → a ≡ b
equal_true a b e = grind (arith, common_steps)

-- a port on the net that came last
abbrev with_last_port : Dir → PModule → PModule
with_last_port dir m = record m { ports = m.ports ++ record { net = record { 0 = m.next_net - 1 }; dir = dir } ∷ [] }

-- the row of a net that has come
record Come (nets' : Rows NetRow) (key : ℕ) (new : NetRow) : Type 0 where
  row : NetRow
  at : rows.get nets' key ≡ Some row
  alone : row.port ≡ new.port
  mine : row.link.owner ≡ new.link.owner
  id_is : row.id ≡ new.id

new_row : (nets nets' : Rows NetRow) (key : ℕ) (last : Option ℕ) (new : NetRow) → nets' ≡ lead_at net_rows (rows.insert nets key new) last (Some key) → Come nets' key new
new_row nets nets' key last new is = one (rows.get nets' key) refl
  where
    seen : {X : Type 0} (F : Option NetRow → X) → ((r : NetRow) (to : Option ℕ) → F (Some (net_rows.lead r to)) ≡ F (Some r)) → F (rows.get nets' key) ≡ F (Some new)
    seen F blind = ap (λ m. F (rows.get m key)) is ∙ seen-lead_at net_rows F blind (rows.insert nets key new) last (Some key) key ∙ ap F (get_same nets key (Some new))

    one : (o : Option NetRow) → rows.get nets' key ≡ o → Come nets' key new
    one None e = absurd (none_some new.id (ap (option_map (λ (r : NetRow). r.id)) (sym e) ∙ seen (option_map (λ (r : NetRow). r.id)) (λ r to. refl)))
    one (Some r) e = record {
      row = r;
      at = e;
      alone = same_some r.port new.port (ap (option_map (λ (r : NetRow). r.port)) (sym e) ∙ seen (option_map (λ (r : NetRow). r.port)) (λ r to. refl));
      mine = same_some r.link.owner new.link.owner (ap (option_map (λ (r : NetRow). r.link.owner)) (sym e) ∙ seen (option_map (λ (r : NetRow). r.link.owner)) (λ r to. refl));
      id_is = same_some r.id new.id (ap (option_map (λ (r : NetRow). r.id)) (sym e) ∙ seen (option_map (λ (r : NetRow). r.id)) (λ r to. refl));
    }

module _ (names : List (List ℕ)) (top : ℕ) (tops : Rows TopRow) (mods : Rows ModRow) (nets : Rows NetRow) (within : Ends → List PInst) (g : IsGood (length names) top (upper tops mods) nets) where
  abbrev up : Upper
  up = upper tops mods

  abbrev table : Plain
  table = table_of names top up nets within

  module _ (id : ModId) (owner : ℕ) (named : mod_key names top up nets within g id ≡ Some owner) where
    abbrev holder : IsModule names top up nets within g id owner
    holder = found_module names top up nets within g id owner named

    -- the row of the module that was looked up
    mine_is : (row : ModRow) → rows.get mods owner ≡ Some row → row.id ≡ id
    mine_is row at = ap (λ (r : ModRow). r.id) (same_some row holder.row (sym at ∙ holder.at)) ∙ holder.id_is

    module _ (mods' : Rows ModRow) (nets' : Rows NetRow) where
      pub net_made : (row : ModRow) (key name : ℕ) (range : Option Range) → rows.get mods owner ≡ Some row → name < length names → NetIn mods mods' nets nets' owner key row row.next_net name range
          → Shows names top mods nets within as_before (create_net table id (name_at names name) range) tops mods' nets'
      net_made row key name range at few u =
          let m1 : Rows ModRow = mods_in names top up nets within g owner key row.next_net name range row at u.absent (at_most row.next_net) few in
          let n1 : Rows NetRow = nets_in names top up nets within g owner key row.next_net name range row at u.absent (at_most row.next_net) few in
          let c = net_in_changed names top up nets within g owner key row.next_net name range row at u.absent (at_most row.next_net) few refl in
          shows names top mods nets within as_before (create_net table id (name_at names name) range) tops tops m1 mods' n1 nets' refl u.mods_are u.nets_are (record {
            good = net_in_good names top up nets within g owner key row.next_net name range row at u.absent (at_most row.next_net) few;
            table = c.table ∙ ap (λ (z : ModId). with_module table z (with_net (name_at names name) range)) (mine_is row at);
            quiet = net_in_quiet names top up nets within g owner key row.next_net name range row at u.absent (at_most row.next_net) few;
            masters = λ k. same_masters names top up (upper tops m1) nets n1 within within row.id (with_net (name_at names name) range) c (λ m. refl) k ∙ sym (before_all (master_at mods nets k));
          })
        where
          at_most : (x : ℕ) → x ≤ x
          at_most x = omega arith

      pub net_gone : (net : NetId) (key : ℕ) → net_key names top up nets within g owner holder.row holder.at net ≡ Some key
          → port_in table id net ≡ None → ((row : NetRow) → rows.get nets key ≡ Some row → NetOut mods mods' nets nets' key row)
          → Shows names top mods nets within as_before (delete_net table id net) tops mods' nets'
      net_gone net key e none effect =
          let m = holder in
          let f = found_net names top up nets within g owner m.row m.at net key e in
          let alone = net_alone names top up nets within g owner m.row m.at key f.net f.at f.mine
          (ap (λ (z : NetId). port_of (module_of_row names nets within m.row) z) f.id_is ∙ sym (ap (option_and_then (λ (holder : PModule). port_of holder net)) m.shown) ∙ none) in
          let was : rows.get mods f.net.link.owner ≡ Some m.row = ap (rows.get mods) f.mine ∙ m.at in
          let u = effect f.net f.at in
          let m1 : Rows ModRow = mods_out names top up nets within g key f.net m.row f.at alone was in
          let n1 : Rows NetRow = nets_out names top up nets within g key f.net m.row f.at alone was in
          let c = net_out_changed names top up nets within g key f.net m.row f.at alone was in
          shows names top mods nets within as_before (delete_net table id net) tops tops m1 mods' n1 nets' refl u.mods_are u.nets_are (record {
            good = net_out_good names top up nets within g key f.net m.row f.at alone was;
            table = c.table ∙ (λ i. with_module table (m.id_is i) (without_net (f.id_is i)));
            quiet = net_out_quiet names top up nets within g key f.net m.row f.at alone was;
            masters = λ k. same_masters names top up (upper tops m1) nets n1 within within m.row.id (without_net f.net.id) c (λ z. refl) k ∙ sym (before_all (master_at mods nets k));
          })

      -- a port is made on the net that has come last
      pub port_made : (row : ModRow) (key name : ℕ) (dir : Dir) (range : Option Range) (mods2 : Rows ModRow) (nets2 : Rows NetRow) → rows.get mods owner ≡ Some row → name < length names → NetIn mods mods' nets nets' owner key row row.next_net name range
          → ((r : ModRow) (n : NetRow) → rows.get mods' owner ≡ Some r → rows.get nets' key ≡ Some n → PortIn mods' mods2 nets' nets2 owner key r n dir)
          → Shows names top mods nets within (at_master id (λ conns. conns ++ Open ∷ [])) (with_module table id (with_port (name_at names name) dir range)) tops mods2 nets2
      port_made row key name dir range mods2 nets2 at few u effect =
          let first = net_made row key name range at few u in
          let grown : ModRow = record row { next_net = row.next_net + 1; nets = ends_with row.nets key } in
          let was : rows.get mods' owner ≡ Some grown = ap (λ m. rows.get m owner) u.mods_are ∙ get_same mods owner (Some grown) in
          let come = new_row nets nets' key row.nets.last (new_net owner row row.next_net name range) u.nets_are in
          let v = effect grown come.row was come.at in
          let m1 : Rows ModRow = port_mods names top (upper tops mods') nets' within first.good owner key grown come.row dir was come.at come.alone come.mine in
          let n1 : Rows NetRow = port_nets names top (upper tops mods') nets' within first.good owner key grown come.row dir was come.at come.alone come.mine in
          let c = port_in_changed names top (upper tops mods') nets' within first.good owner key grown come.row dir was come.at come.alone come.mine (with_last_port dir)
          (λ i. record (module_of_row names nets' within grown) { ports = ports_from nets' row.ports ++ record { net = (come.id_is ∙ (λ j. record { 0 = one_less row.next_net j })) i; dir = dir } ∷ [] }) in
          let changed : table_of names top (upper tops m1) n1 within ≡ with_module table id (with_port (name_at names name) dir range) =
          c.table
          ∙ (λ i. with_module (first.table i) (mine_is row at i) (with_last_port dir))
          ∙ twice (with_net (name_at names name) range) (with_last_port dir) (λ m. refl) table id
          ∙ (λ i. with_module table id (λ m. record (with_net (name_at names name) range m) { ports = m.ports ++ record { net = record { 0 = sym (one_less m.next_net) i }; dir = dir } ∷ [] })) in
          shows names top mods nets within (at_master id (λ conns. conns ++ Open ∷ [])) (with_module table id (with_port (name_at names name) dir range)) tops tops m1 mods2 n1 nets2 refl v.mods_are v.nets_are (record {
            good = port_in_good names top (upper tops mods') nets' within first.good owner key grown come.row dir was come.at come.alone come.mine;
            table = changed;
            quiet = Quiet-then mods mods' m1 first.quiet (port_in_quiet names top (upper tops mods') nets' within first.good owner key grown come.row dir was come.at come.alone come.mine);
            masters = λ k. changed_masters names top (upper tops mods') (upper tops m1) nets' n1 within within row.id (with_last_port dir) c more (λ q m there e. λ i. record { id = m.id; conns = opens_more m.ports (record { net = record { 0 = m.next_net - 1 }; dir = dir }) i }) k
                ∙ ap (λ (z : ModId). option_map (at_master z (λ conns. conns ++ Open ∷ [])) (master_at mods' nets' k)) (mine_is row at)
                ∙ ap (option_map (at_master id (λ conns. conns ++ Open ∷ []))) (first.masters k)
                ∙ before_then (at_master id (λ conns. conns ++ Open ∷ [])) (master_at mods nets k);
          })
        where
          more : Master → Master
          more z = record z { conns = z.conns ++ Open ∷ [] }

          one_less : (x : ℕ) → x ≡ x + 1 - 1
          one_less x = omega arith

    module _ (port : NetId) (key : ℕ) (e : port_key names top up nets within g owner holder.row holder.at port ≡ Some key) where
      abbrev stood : IsPort names top up nets within g owner holder.row holder.at port key
      stood = found_port names top up nets within g owner holder.row holder.at port key e

      abbrev alone : NetRow
      alone = record stood.net { port = None }

      abbrev shrunk : ModRow
      shrunk = record holder.row { ports = ends_without holder.row.ports stood.port.link }

      -- the connections of an instance without the one at the port
      abbrev pub less : List Conn → List Conn
      less = without_conn (port_place (module_of table id) port)

      less_is : less ≡ without_conn (position (λ (other : PPort). other.net.0 == stood.net.id.0) (ports_from nets holder.row.ports))
      less_is = (λ i. without_conn (port_place (holder.shown i) port)) ∙ (λ i. without_conn (position (λ (other : PPort). other.net.0 == (sym stood.id_is i).0) (ports_from nets holder.row.ports)))

      -- the port is a net alone
      pub record IsCut (mods' : Rows ModRow) (nets' : Rows NetRow) : Type 0 where
        pub shown : Shows names top mods nets within (at_master id less) (with_module table holder.row.id (without_port_on stood.net)) tops mods' nets'
        pub at : rows.get nets' key ≡ Some alone
        pub was : rows.get mods' stood.net.link.owner ≡ Some shrunk

      pub port_cut : (mods' : Rows ModRow) (nets' : Rows NetRow) → PortOut mods mods' nets nets' key stood.net stood.port → IsCut mods' nets'
      port_cut mods' nets' u =
          let link : Link = stood.port.link in
          let was : rows.get mods link.owner ≡ Some holder.row = ap (rows.get mods) stood.mine ∙ holder.at in
          let m1 : Rows ModRow = port_mods_out names top up nets within g key holder.row stood.net stood.port was stood.at stood.on in
          let n1 : Rows NetRow = port_nets_out names top up nets within g key holder.row stood.net stood.port was stood.at stood.on in
          let c = port_out_changed names top up nets within g key holder.row stood.net stood.port was stood.at stood.on in
          record {
            shown = shows names top mods nets within (at_master id less) (with_module table holder.row.id (without_port_on stood.net)) tops tops m1 mods' n1 nets' refl u.mods_are u.nets_are (record {
              good = port_out_good names top up nets within g key holder.row stood.net stood.port was stood.at stood.on;
              table = c.table;
              quiet = port_out_quiet names top up nets within g key holder.row stood.net stood.port was stood.at stood.on;
              masters = λ k. changed_masters names top up (upper tops m1) nets n1 within within holder.row.id (without_port_on stood.net) c fewer
                  (λ q m there e. λ i. record { id = m.id; conns = fewer_is q (rows.get mods q) m refl there e i }) k
                  ∙ ap (λ (z : ModId). option_map (at_master z less) (master_at mods nets k)) holder.id_is;
            });
            at = ap (λ n. rows.get n key) u.nets_are ∙ get_same (joined_rows port_rows nets link) key (Some alone);
            was = ap (rows.get mods') (stood.net_mine ∙ sym stood.mine) ∙ ap (λ z. rows.get z link.owner) u.mods_are
                ∙ get_same mods link.owner (option_map (λ r. port_holders.with_ends r (ends_without (port_holders.ends_of r) link)) (rows.get mods link.owner))
                ∙ ap (option_map (λ r. port_holders.with_ends r (ends_without (port_holders.ends_of r) link))) was;
          }
        where
          fewer : Master → Master
          fewer z = record z { conns = less z.conns }

          passes : PPort → Bool
          passes other = other.net.0 == stood.net.id.0

          fewer_is : (q : ℕ) (o : Option ModRow) (m : PModule) → rows.get mods q ≡ o → option_map (module_of_row names nets within) o ≡ Some m → (m.id.0 == holder.row.id.0) ≡ true → opens (filter (λ other. not (passes other)) m.ports) ≡ less (opens m.ports)
          fewer_is q None m is there e = absurd (none_some m there)
          fewer_is q (Some r) m is there e =
              let shown : module_of_row names nets within r ≡ m = same_some (module_of_row names nets within r) m there in
              let mine : q ≡ owner = g.mods_numbered.one q owner (mod_face r) (mod_face holder.row) (ap (option_map mod_face) is) (ap (option_map mod_face) holder.at) (equal_true r.id.0 holder.row.id.0 (ap (λ (z : PModule). z.id.0 == holder.row.id.0) shown ∙ e)) in
              let same : r ≡ holder.row = same_some r holder.row (sym is ∙ ap (rows.get mods) mine ∙ holder.at) in
              let ports : m.ports ≡ ports_from nets holder.row.ports = ap (λ (z : PModule). z.ports) (sym shown) ∙ ap (λ (z : ModRow). ports_from nets z.ports) same in
              ap (λ xs. opens (filter (λ other. not (passes other)) xs)) ports
              ∙ opens_less passes (ports_from nets holder.row.ports) (ports_once names top up nets within g key holder.row stood.net stood.port (ap (rows.get mods) stood.mine ∙ holder.at) stood.at stood.on)
              ∙ ap (λ f. f (opens (ports_from nets holder.row.ports))) (sym less_is)
              ∙ ap (λ xs. less (opens xs)) (sym ports)

      pub port_cut_of : (net : NetRow) (row : PortRow) → rows.get nets key ≡ Some net → net.port ≡ Some row → (mods' : Rows ModRow) (nets' : Rows NetRow) → PortOut mods mods' nets nets' key net row → IsCut mods' nets'
      port_cut_of net row at on mods' nets' u =
          let same : net ≡ stood.net = same_some net stood.net (sym at ∙ stood.at) in
          let same_row : row ≡ stood.port = same_some row stood.port (sym on ∙ ap (λ (r : NetRow). r.port) same ∙ stood.on) in
          port_cut mods' nets' (subst (λ n. PortOut mods mods' nets nets' key n stood.port) same (subst (λ r. PortOut mods mods' nets nets' key net r) same_row u))

      -- a port goes with its net
      pub port_gone : (mods' mods2 : Rows ModRow) (nets' nets2 : Rows NetRow) → IsCut mods' nets' → ((row : NetRow) → rows.get nets' key ≡ Some row → NetOut mods' mods2 nets' nets2 key row)
          → Shows names top mods nets within (at_master id less) (with_module table id (without_port port)) tops mods2 nets2
      port_gone mods' mods2 nets' nets2 cut effect =
          let v = effect alone cut.at in
          let g' = cut.shown.good in
          let m2 : Rows ModRow = mods_out names top (upper tops mods') nets' within g' key alone shrunk cut.at refl cut.was in
          let n2 : Rows NetRow = nets_out names top (upper tops mods') nets' within g' key alone shrunk cut.at refl cut.was in
          let c = net_out_changed names top (upper tops mods') nets' within g' key alone shrunk cut.at refl cut.was in
          let changed : table_of names top (upper tops m2) n2 within ≡ with_module table id (without_port port) =
          c.table
          ∙ (λ i. with_module (cut.shown.table i) holder.row.id (without_net stood.net.id))
          ∙ twice (without_port_on stood.net) (without_net stood.net.id) (λ m. refl) table holder.row.id
          ∙ (λ i. with_module table (holder.id_is i) (without_port (stood.id_is i))) in
          shows names top mods nets within (at_master id less) (with_module table id (without_port port)) tops tops m2 mods2 n2 nets2 refl v.mods_are v.nets_are (record {
            good = net_out_good names top (upper tops mods') nets' within g' key alone shrunk cut.at refl cut.was;
            table = changed;
            quiet = Quiet-then mods mods' m2 cut.shown.quiet (net_out_quiet names top (upper tops mods') nets' within g' key alone shrunk cut.at refl cut.was);
            masters = λ k. same_masters names top (upper tops mods') (upper tops m2) nets' n2 within within shrunk.id (without_net stood.net.id) c (λ z. refl) k ∙ cut.shown.masters k;
          })

pub some_then : {X Y : Type 0} (f : X → Option Y) (o : Option X) → is_some (option_and_then f o) ≡ true → is_some o ≡ true
some_then f None e = e
some_then f (Some x) e = refl

-- a net that has come, and its module, are there
pub come_live : (mods mods' : Rows ModRow) (nets nets' : Rows NetRow) (owner key : ℕ) (row : ModRow) (id name : ℕ) (range : Option Range) → NetIn mods mods' nets nets' owner key row id name range → (is_some (rows.get mods' owner) ≡ true) × (is_some (rows.get nets' key) ≡ true)
come_live mods mods' nets nets' owner key row id name range u = (
  ap (λ m. is_some (rows.get m owner)) u.mods_are ∙ ap is_some (get_same mods owner (Some (record row { next_net = id + 1; nets = ends_with row.nets key }))),
  ap is_some (new_row nets nets' key row.nets.last (new_net owner row id name range) u.nets_are).at,
)
