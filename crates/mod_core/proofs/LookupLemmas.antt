-- What look-ups by id find in the rows.
use Rattle.std.proofs.Common.{◌≡◌, ℕ, List, length, Option, Some, None, option_map, option_and_then, is_some, true, false, refl, sym, ap, ◌∙◌}
use Rattle.std.specs.FinMap as rows
use Rattle.emh_base.specs.declared.ids.ModId.{ModId}
use Rattle.emh_base.specs.declared.ids.NetId.{NetId}
use Rattle.emh_base.specs.declared.plain.PNet.{PNet}
use Rattle.emh_base.specs.declared.plain.PPort.{PPort}
use Rattle.emh_base.specs.declared.plain.PInst.{PInst}
use Rattle.emh_base.specs.declared.plain.PModule.{PModule}
use Rattle.emh_base.specs.declared.plain.Plain.{Plain}
use Rattle.flatten_rules.specs.Lookup.{module_of, net_of, port_of}
use Rattle.flatten_rules.specs.Changes.{net_in, port_in}
use Rattle.undo_slots.specs.Slots.{Rows}
use Rattle.row_chains.specs.declared.link.Link.{Link}
use Rattle.row_chains.specs.declared.link.Ends.{Ends}
use Rattle.row_chains.specs.Rows.{key_in}
use Rattle.row_chains.proofs.KeyLemmas.{same_some, none_some}
use Rattle.row_chains.proofs.FindLemmas.{found, find-listed, some_found}
use Rattle.mod_core.specs.declared.rows.ModRow.{ModRow}
use Rattle.mod_core.specs.declared.rows.NetRow.{NetRow}
use Rattle.mod_core.specs.declared.rows.PortRow.{PortRow}
use Rattle.mod_core.specs.inside.Linked.{mod_rows, mod_holders, net_rows, net_holders, port_rows, port_holders, port_link, port_on, net_of_row, net_shown, port_shown, module_of_row, module_shown, table_from, table_of, Upper}
use Rattle.mod_core.specs.inside.Good.{net_face, port_owner, IsGood}

pub some_of : {X : Type 0} (o : Option X) → is_some o ≡ true → (x : X) × (o ≡ Some x)
some_of None e = absurd (never e)
  where
    never : false ≡ true → ⊥
    never e = cc
some_of (Some x) e = (x, refl)

module _ (names : List (List ℕ)) (top : ℕ) (up : Upper) (nets : Rows NetRow) (within : Ends → List PInst) (g : IsGood (length names) top up nets) where
  abbrev pub mod_key : ModId → Option ℕ
  mod_key id = key_in mod_rows mod_holders (λ row. row.id.0) up.mods up.tops top id.0

  pub module_of-key : (id : ModId) → module_of (table_of names top up nets within) id ≡ option_and_then (module_shown names up.mods nets within) (mod_key id)
  module_of-key id =
      ap (λ o. module_of (table_from names up.mods nets within o) id) g.rooted
      ∙ find-listed mod_rows mod_holders (λ row. row.id.0) up.mods up.tops g.modules top g.root g.rooted (module_shown names up.mods nets within) (λ (m : PModule). m.id.0)
      (λ k row link at linked mine. (module_of_row names nets within row, (ap (option_map (module_of_row names nets within)) at, refl))) id.0

  -- a module that is there has a row
  pub live_key : (id : ModId) → is_some (module_of (table_of names top up nets within) id) ≡ true → is_some (mod_key id) ≡ true
  live_key id live = one (mod_key id) (sym (ap is_some (module_of-key id)) ∙ live)
    where
      one : (o : Option ℕ) → is_some (option_and_then (module_shown names up.mods nets within) o) ≡ true → is_some o ≡ true
      one None e = e
      one (Some k) e = refl

  pub record IsModule (id : ModId) (key : ℕ) : Type 0 where
    pub row : ModRow
    pub at : rows.get up.mods key ≡ Some row
    pub mine : row.link.owner ≡ top
    pub id_is : row.id ≡ id
    pub shown : module_of (table_of names top up nets within) id ≡ Some (module_of_row names nets within row)

  pub found_module : (id : ModId) (key : ℕ) → mod_key id ≡ Some key → IsModule id key
  found_module id key e =
      let f = found mod_rows mod_holders (λ row. row.id.0) up.mods up.tops g.modules top g.root g.rooted id.0 key e in
      record {
        row = f.row;
        at = f.at;
        mine = ap (λ (l : Link). l.owner) (same_some f.row.link f.link f.linked) ∙ f.mine;
        id_is = (λ i. record { 0 = f.numbered i });
        shown = module_of-key id ∙ ap (option_and_then (module_shown names up.mods nets within)) e ∙ ap (option_map (module_of_row names nets within)) f.at;
      }

  module _ (owner : ℕ) (row : ModRow) (held : rows.get up.mods owner ≡ Some row) where
    abbrev pub net_key : NetId → Option ℕ
    net_key id = key_in net_rows net_holders (λ net. net.id.0) nets up.mods owner id.0

    abbrev pub port_key : NetId → Option ℕ
    port_key id = key_in port_rows port_holders (λ net. net.id.0) nets up.mods owner id.0

    net_of-key : (id : NetId) → net_of (module_of_row names nets within row) id ≡ option_and_then (net_shown names nets) (net_key id)
    net_of-key id = find-listed net_rows net_holders (λ net. net.id.0) nets up.mods g.nets_of owner row held (net_shown names nets) (λ (n : PNet). n.id.0)
        (λ k net link at linked mine. (net_of_row names net, (ap (option_map (net_of_row names)) at, refl))) id.0

    port_seen : (k : ℕ) (net : NetRow) (link : Link) → rows.get nets k ≡ Some net → port_link net.port ≡ Some link → (x : PPort) × ((port_shown nets k ≡ Some x) × (x.net.0 ≡ net.id.0))
    port_seen k net link at linked = one net.port refl
      where
        one : (p : Option PortRow) → net.port ≡ p → (x : PPort) × ((port_shown nets k ≡ Some x) × (x.net.0 ≡ net.id.0))
        one None is = absurd (none_some link (sym (ap port_link is) ∙ linked))
        one (Some p) is = (port_on net.id p, (ap (option_and_then (λ (r : NetRow). option_map (port_on r.id) r.port)) at ∙ ap (option_map (port_on net.id)) is, refl))

    port_of-key : (id : NetId) → port_of (module_of_row names nets within row) id ≡ option_and_then (port_shown nets) (port_key id)
    port_of-key id = find-listed port_rows port_holders (λ net. net.id.0) nets up.mods g.ports_of owner row held (port_shown nets) (λ (p : PPort). p.net.0)
        (λ k net link at linked mine. port_seen k net link at linked) id.0

    pub live_net : (id : NetId) → is_some (net_of (module_of_row names nets within row) id) ≡ true → is_some (net_key id) ≡ true
    live_net id live = one (net_key id) (sym (ap is_some (net_of-key id)) ∙ live)
      where
        one : (o : Option ℕ) → is_some (option_and_then (net_shown names nets) o) ≡ true → is_some o ≡ true
        one None e = e
        one (Some k) e = refl

    pub live_port : (id : NetId) → is_some (port_of (module_of_row names nets within row) id) ≡ true → is_some (port_key id) ≡ true
    live_port id live = one (port_key id) (sym (ap is_some (port_of-key id)) ∙ live)
      where
        one : (o : Option ℕ) → is_some (option_and_then (port_shown nets) o) ≡ true → is_some o ≡ true
        one None e = e
        one (Some k) e = refl

    pub record IsNet (id : NetId) (key : ℕ) : Type 0 where
      pub net : NetRow
      pub at : rows.get nets key ≡ Some net
      pub mine : net.link.owner ≡ owner
      pub id_is : net.id ≡ id

    pub found_net : (id : NetId) (key : ℕ) → net_key id ≡ Some key → IsNet id key
    found_net id key e =
        let f = found net_rows net_holders (λ net. net.id.0) nets up.mods g.nets_of owner row held id.0 key e in
        record {
          net = f.row;
          at = f.at;
          mine = ap (λ (l : Link). l.owner) (same_some f.row.link f.link f.linked) ∙ f.mine;
          id_is = (λ i. record { 0 = f.numbered i });
        }

    pub record IsPort (id : NetId) (key : ℕ) : Type 0 where
      pub net : NetRow
      pub port : PortRow
      pub at : rows.get nets key ≡ Some net
      pub on : net.port ≡ Some port
      pub mine : port.link.owner ≡ owner
      pub net_mine : net.link.owner ≡ owner
      pub id_is : net.id ≡ id

    pub found_port : (id : NetId) (key : ℕ) → port_key id ≡ Some key → IsPort id key
    found_port id key e =
        let f = found port_rows port_holders (λ net. net.id.0) nets up.mods g.ports_of owner row held id.0 key e in
        let p = linked_port f.row.port f.link f.linked in
        record {
          net = f.row;
          port = p.0;
          at = f.at;
          on = p.1.0;
          mine = ap (λ (l : Link). l.owner) p.1.1 ∙ f.mine;
          net_mine = sym (g.nets_numbered.home key (net_face f.row) p.0.link.owner (ap (option_map net_face) f.at) (ap port_owner p.1.0)) ∙ ap (λ (l : Link). l.owner) p.1.1 ∙ f.mine;
          id_is = (λ i. record { 0 = f.numbered i });
        }
      where
        linked_port : (o : Option PortRow) (l : Link) → port_link o ≡ Some l → (p : PortRow) × ((o ≡ Some p) × (p.link ≡ l))
        linked_port None l e = absurd (none_some l e)
        linked_port (Some p) l e = (p, (refl, same_some p.link l e))

    -- a net with no port of its id is none
    pub net_alone : (key : ℕ) (net : NetRow) → rows.get nets key ≡ Some net → net.link.owner ≡ owner → port_of (module_of_row names nets within row) net.id ≡ None → net.port ≡ None
    net_alone key net at mine none = one net.port refl
      where
        one : (p : Option PortRow) → net.port ≡ p → net.port ≡ None
        one None is = is
        one (Some p) is =
            let k = some_of (port_key net.id) (some_found port_rows port_holders (λ (r : NetRow). r.id.0) nets up.mods g.ports_of owner row held key net p.link at (ap port_link is) (g.nets_numbered.home key (net_face net) p.link.owner (ap (option_map net_face) at) (ap port_owner is) ∙ mine)) in
            let f = found port_rows port_holders (λ (r : NetRow). r.id.0) nets up.mods g.ports_of owner row held net.id.0 k.0 k.1 in
            let s = port_seen k.0 f.row f.link f.at f.linked in
            absurd (none_some s.0 (sym none ∙ port_of-key net.id ∙ ap (option_and_then (port_shown nets)) k.1 ∙ s.1.0))

-- what is there, by the keys that look-ups find
module _ (names : List (List ℕ)) (top : ℕ) (up : Upper) (nets : Rows NetRow) (within : Ends → List PInst) (g : IsGood (length names) top up nets) (id : ModId) where
  abbrev table : Plain
  table = table_of names top up nets within

  abbrev key : Option ℕ
  key = mod_key names top up nets within g id

  pub no_module : key ≡ None → module_of table id ≡ None
  no_module e = module_of-key names top up nets within g id ∙ ap (option_and_then (module_shown names up.mods nets within)) e

  pub module_there : (owner : ℕ) → key ≡ Some owner → module_of table id ≡ option_map (module_of_row names nets within) (rows.get up.mods owner)
  module_there owner e = module_of-key names top up nets within g id ∙ ap (option_and_then (module_shown names up.mods nets within)) e

  module _ (net : NetId) where
    pub net_there : (owner : ℕ) → key ≡ Some owner → net_in table id net ≡ option_and_then (net_shown names nets) (key_in net_rows net_holders (λ r. r.id.0) nets up.mods owner net.0)
    net_there owner e =
        let m = found_module names top up nets within g id owner e in
        ap (option_and_then (λ (h : PModule). net_of h net)) m.shown ∙ net_of-key names top up nets within g owner m.row m.at net

    pub port_there : (owner : ℕ) → key ≡ Some owner → port_in table id net ≡ option_and_then (port_shown nets) (key_in port_rows port_holders (λ r. r.id.0) nets up.mods owner net.0)
    port_there owner e =
        let m = found_module names top up nets within g id owner e in
        ap (option_and_then (λ (h : PModule). port_of h net)) m.shown ∙ port_of-key names top up nets within g owner m.row m.at net
