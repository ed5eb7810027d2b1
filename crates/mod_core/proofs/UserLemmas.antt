-- Instances and users of modules, where modules come and go.
use Rattle.std.proofs.Common.{◌≡◌, ◌↔◌, ℕ, ◌<◌, ◌==◌, ◌||◌, Bool, true, false, List, [], ◌∷◌, length, Option, Some, None, option_map, option_and_then, is_some, refl, sym, ap, subst, ◌∙◌, inl, inr, arith}
use Rattle.std.proofs.lemmas.Grind.{common_steps}
use Rattle.std.proofs.lemmas.Bool.{cases_eq}
use Rattle.std.specs.List.{filter_map, cons_option, list_any}
use Rattle.std.specs.FinMap as rows
use Rattle.emh_base.specs.declared.ids.ModId.{ModId}
use Rattle.emh_base.specs.declared.ids.NetId.{NetId}
use Rattle.emh_base.specs.declared.plain.PInst.{PInst}
use Rattle.emh_base.specs.declared.plain.PModule.{PModule}
use Rattle.emh_base.specs.declared.plain.Plain.{Plain}
use Rattle.flatten_rules.specs.Lookup.{module_of}
use Rattle.flatten_rules.specs.ModuleChanges.{create_module, delete_module}
use Rattle.undo_slots.specs.Slots.{Rows}
use Rattle.row_chains.specs.declared.link.Link.{Link}
use Rattle.row_chains.specs.declared.link.Ends.{Ends}
use Rattle.row_chains.specs.Chains.{first_or, Has, AreChains}
use Rattle.row_chains.specs.Rows.{links, keys, listed, ends_in, key_in}
use Rattle.row_chains.proofs.KeyLemmas.{same_some, none_some, first_Has, AreLinked-row}
use Rattle.row_chains.proofs.LiveLemmas.{owner_live}
use Rattle.row_chains.proofs.FindLemmas.{some_found}
use Rattle.row_chains.proofs.TableLemmas.{linked_row, keys-chain, shown-same}
use Rattle.mod_core.specs.declared.rows.TopRow.{TopRow}
use Rattle.mod_core.specs.declared.rows.ModRow.{ModRow}
use Rattle.mod_core.specs.declared.rows.NetRow.{NetRow}
use Rattle.mod_core.specs.declared.rows.PortRow.{PortRow}
use Rattle.mod_core.specs.declared.rows.InstRow.{InstRow}
use Rattle.mod_core.specs.inside.Linked.{mod_rows, mod_holders, net_rows, net_holders, net_of_row, net_shown, nets_from, port_rows, port_holders, port_link, port_on, port_of_row, port_shown, ports_from, inst_rows, inst_holders, user_rows, user_holders, master_of_row, master_at, inst_of, inst_of_row, inst_shown, within_of, module_of_row, module_shown, modules_from, table_from, table_of, Upper, upper, lower}
use Rattle.mod_core.specs.inside.Good.{ModFace, mod_face, mod_side, mod_sides, inst_face, inst_faces, AreNetsNumbered, IsGood, IsWhole}
use Rattle.mod_core.specs.inside.Changes.{empty_chain, ModuleIn, ModuleOut}
use Rattle.mod_core.specs.Mods.{name_at, has_master, is_used}
use Rattle.mod_core.proofs.NumberLemmas.{nets_from as numbered_from}
use Rattle.mod_core.proofs.TableLemmas.{itself}
use Rattle.mod_core.proofs.LookupLemmas.{some_of, mod_key, IsModule, found_module}
use Rattle.mod_core.proofs.ModuleLemmas.{listed_none, empty_listed, owner_counted, tops_in, mods_in, module_in_table, module_in_good, new_ends, not_new, seen, tops_out, mods_out, module_out_table, module_out_good, no_ends, gone, left}
use Rattle.mod_core.proofs.WholeLemmas.{ShowsWhole, shows_whole}

equal_true : (a b : ℕ) → (a == b) ≡ true → a ≡ b
equal_true a b e = grind (arith, common_steps)

or_true : (a b : Bool) → b ≡ true → (a || b) ≡ true
or_true true b e = refl
or_true false b e = e

not_true : (b : Bool) → (b ≡ true → ⊥) → b ≡ false
not_true true d = absurd (d refl)
not_true false d = refl

map_live : {X Y : Type 0} (f : X → Y) (o : Option X) → is_some o ≡ true → is_some (option_map f o) ≡ true
map_live f None e = e
map_live f (Some x) e = refl

port_shown_there : (net : NetId) (port : Option PortRow) (link : Link) → port_link port ≡ Some link → is_some (option_map (port_on net) port) ≡ true
port_shown_there net None link e = absurd (none_some link e)
port_shown_there net (Some port) link e = refl

-- one of the items that are shown passes a test
module _ {X : Type 0} (p : X → Bool) (f : ℕ → Option X) where
  record IsShown : Type 0 where
    key : ℕ
    item : X
    at : f key ≡ Some item
    passes : p item ≡ true

  any_there : (ks : List ℕ) (k : ℕ) (x : X) → Has k ks → f k ≡ Some x → p x ≡ true → list_any p (filter_map f ks) ≡ true
  any_there [] k x h at passes = absurd h
  any_there (q ∷ ks) k x h at passes = elim h [
    | inl e ↦ ap (λ o. list_any p (cons_option o (filter_map f ks))) (ap f e ∙ at) ∙ ap (λ b. b || list_any p (filter_map f ks)) passes
    | inr later ↦ more (f q) (any_there ks k x later at passes)
  ]
    where
      more : (o : Option X) → list_any p (filter_map f ks) ≡ true → list_any p (cons_option o (filter_map f ks)) ≡ true
      more None e = e
      more (Some y) e = or_true (p y) (list_any p (filter_map f ks)) e

  any_shown : (ks : List ℕ) → list_any p (filter_map f ks) ≡ true → IsShown
  any_shown [] e = absurd (never e)
    where
      never : false ≡ true → ⊥
      never e = cc
  any_shown (q ∷ ks) e = by (f q) refl e (any_shown ks)
    where
      pick : (y : X) → f q ≡ Some y → (b : Bool) → p y ≡ b → (b || list_any p (filter_map f ks)) ≡ true → (list_any p (filter_map f ks) ≡ true → IsShown) → IsShown
      pick y is true passes e later = record { key = q; item = y; at = is; passes = passes }
      pick y is false fails e later = later e

      by : (o : Option X) → f q ≡ o → list_any p (cons_option o (filter_map f ks)) ≡ true → (list_any p (filter_map f ks) ≡ true → IsShown) → IsShown
      by None is e later = later e
      by (Some y) is e later = pick y is (p y) refl e later

-- an owner whose chain is empty has no rows
no_row : (row : ℕ → Option Link) (ends_of : ℕ → Option Ends) → AreChains row ends_of → (owner : ℕ) (ends : Ends) → ends_of owner ≡ Some ends → ends.first ≡ None → (k : ℕ) (link : Link) → row k ≡ Some link → link.owner ≡ owner → ⊥
no_row row ends_of chains owner ends at none k link there mine = let c = chains.chain owner ends at in nothing c.0 (sym c.1.begins ∙ none) (c.1.whole k link there mine)
  where
    nothing : (ks : List ℕ) → first_or ks None ≡ None → Has k ks → ⊥
    nothing [] e h = h
    nothing (x ∷ ks) e h = none_some x (sym e)

-- the masters that instances have are shown as before
module _ (names : List (List ℕ)) (mods mods' : Rows ModRow) (nets : Rows NetRow) (insts : Rows InstRow) (alike : (k : ℕ) (r : InstRow) → rows.get insts k ≡ Some r → master_at mods' nets r.user.owner ≡ master_at mods nets r.user.owner) where
  shown_alike : (k : ℕ) (o : Option InstRow) → rows.get insts k ≡ o → option_and_then (inst_of_row names (master_at mods' nets)) o ≡ option_and_then (inst_of_row names (master_at mods nets)) o
  shown_alike k None at = refl
  shown_alike k (Some r) at = ap (option_map (inst_of names r)) (alike k r at)

  within_alike : (ends : Ends) → within_of names mods' nets insts ends ≡ within_of names mods nets insts ends
  within_alike ends = shown-same (inst_shown names (master_at mods nets) insts) (inst_shown names (master_at mods' nets) insts) (keys inst_rows insts ends.first) (λ k h. shown_alike k (rows.get insts k) refl)

module _ (names : List (List ℕ)) (top : ℕ) (tops : Rows TopRow) (mods : Rows ModRow) (nets : Rows NetRow) (insts : Rows InstRow) (w : IsWhole (length names) top (lower (upper tops mods) nets) insts) where
  abbrev up : Upper
  up = upper tops mods

  abbrev within : Ends → List PInst
  within = within_of names mods nets insts

  abbrev g : IsGood (length names) top up nets
  g = w.good

  abbrev table : Plain
  table = table_of names top up nets within

  -- the module of an instance and its master are there

  holder_live : (k : ℕ) (r : InstRow) → rows.get insts k ≡ Some r → is_some (rows.get mods r.link.owner) ≡ true
  holder_live k r at = owner_live inst_holders (links inst_rows insts) mods w.insts_of k r.link (ap (option_and_then inst_rows.link_of) at)

  pub master_live : (k : ℕ) (r : InstRow) → rows.get insts k ≡ Some r → is_some (rows.get mods r.user.owner) ≡ true
  master_live k r at = owner_live user_holders (links user_rows insts) mods w.users_of k r.user (ap (option_and_then user_rows.link_of) at)

  -- where instances stay, they are numbered as before
  insts_numbered : (mods' : Rows ModRow) → ((o : ℕ) (a : ModFace) → is_some (rows.get mods o) ≡ true → mod_sides mods' o ≡ Some a → mod_sides mods o ≡ Some a) → AreNetsNumbered (length names) (mod_sides mods') (inst_faces insts)
  insts_numbered mods' kept = numbered_from (length names) (mod_sides mods) (mod_sides mods') (inst_faces insts) (inst_faces insts) w.insts_numbered
      (λ k a at. record { was = a; at = at; owner = refl; id = refl; named = w.insts_numbered.named k a at; home = λ o h. w.insts_numbered.home k a o at h })
      (owner_counted inst_rows inst_holders inst_face mod_side insts mods mods' w.insts_of (λ r. (r.link, (refl, refl))) kept)

  -- a module has come last
  pub module_made : (tops' : Rows TopRow) (mods' : Rows ModRow) (key name : ℕ) (root : TopRow) → rows.get tops top ≡ Some root → name < length names → ModuleIn tops tops' mods mods' top key root name → ShowsWhole names top (create_module table (name_at names name)) tops' mods' nets insts
  module_made tops' mods' key name root at few u =
      let bare : within empty_chain ≡ [] = listed_none inst_rows (inst_shown names (master_at mods nets) insts) insts in
      let t1 : Rows TopRow = tops_in names top up nets within g key name root at u.absent few bare in
      let m1 : Rows ModRow = mods_in names top up nets within g key name root at u.absent few bare in
      let other = not_new names top up nets within g key name root at u.absent few bare in
      shows_whole names top (create_module table (name_at names name)) t1 tops' m1 mods' nets insts insts u.tops_are u.mods_are refl (record {
        good = record {
          good = module_in_good names top up nets within g key name root at u.absent few bare;
          insts_of = new_ends names top up nets within g key name root at u.absent few bare inst_holders (λ r to. refl) refl (links inst_rows insts) w.insts_of;
          users_of = new_ends names top up nets within g key name root at u.absent few bare user_holders (λ r to. refl) refl (links user_rows insts) w.users_of;
          insts_numbered = insts_numbered m1 (λ o a live there. sym (seen names top up nets within g key name root at u.absent few bare (option_map mod_side) (λ r to. refl) o (other o live)) ∙ there);
        };
        table =
            (λ i. table_of names top (upper t1 m1) nets (λ ends. within_alike names mods m1 nets insts (λ k r there. seen names top up nets within g key name root at u.absent few bare (option_map (master_of_row nets)) (λ r to. refl) r.user.owner (other r.user.owner (master_live k r there))) ends i))
            ∙ module_in_table names top up nets within g key name root at u.absent few bare;
      })

  -- modules of the table, and the instances of a module

  mod_inside : (o : ℕ) (r : ModRow) → rows.get mods o ≡ Some r → (r.link.owner ≡ top) × Has o (keys mod_rows mods g.root.modules.first)
  mod_inside o r at =
      let root = some_of (rows.get tops r.link.owner) (owner_live mod_holders (links mod_rows mods) tops g.modules o r.link (ap (option_and_then mod_rows.link_of) at)) in
      let mine : r.link.owner ≡ top = g.alone r.link.owner root.0 root.1 in
      let c = g.modules.chain top g.root.modules (ap (option_map mod_holders.ends_of) g.rooted) in
      (mine, subst (λ ks. Has o ks) (sym (keys-chain mod_rows mods top g.root.modules c.0 c.1)) (c.1.whole o r.link (ap (option_and_then mod_rows.link_of) at) mine))

  inst_inside : (k : ℕ) (r : InstRow) (holder : ModRow) → rows.get insts k ≡ Some r → rows.get mods r.link.owner ≡ Some holder → Has k (keys inst_rows insts holder.insts.first)
  inst_inside k r holder at there =
      let c = w.insts_of.chain r.link.owner holder.insts (ap (option_map inst_holders.ends_of) there) in
      subst (λ ks. Has k ks) (sym (keys-chain inst_rows insts r.link.owner holder.insts c.0 c.1)) (c.1.whole k r.link (ap (option_and_then inst_rows.link_of) at) refl)

  table_is : table ≡ record { modules = modules_from names mods nets within g.root.modules; next_module = g.root.next_module }
  table_is = ap (table_from names mods nets within) g.rooted

  module _ (id : ModId) where
    abbrev uses : PModule → Bool
    uses holder = list_any (has_master id) holder.insts

    -- the row of an instance of the module
    record IsUser : Type 0 where
      key : ℕ
      row : InstRow
      master : ModRow
      at : rows.get insts key ≡ Some row
      there : rows.get mods row.user.owner ≡ Some master
      id_is : master.id.0 ≡ id.0

    user_shown : (k : ℕ) (x : PInst) → inst_shown names (master_at mods nets) insts k ≡ Some x → has_master id x ≡ true → IsUser
    user_shown k x at passes = one (rows.get insts k) refl at
      where
        of : (r : InstRow) → rows.get insts k ≡ Some r → (o : Option ModRow) → rows.get mods r.user.owner ≡ o → option_map (inst_of names r) (option_map (master_of_row nets) o) ≡ Some x → IsUser
        of r is None there e = absurd (none_some x e)
        of r is (Some z) there e = record { key = k; row = r; master = z; at = is; there = there; id_is = equal_true z.id.0 id.0 (ap (has_master id) (same_some (inst_of names r (master_of_row nets z)) x e) ∙ passes) }

        one : (o : Option InstRow) → rows.get insts k ≡ o → option_and_then (inst_of_row names (master_at mods nets)) o ≡ Some x → IsUser
        one None is e = absurd (none_some x e)
        one (Some r) is e = of r is (rows.get mods r.user.owner) refl e

    user_of : is_used table id ≡ true → IsUser
    user_of used =
        let s = any_shown uses (module_shown names mods nets within) (keys mod_rows mods g.root.modules.first) (sym (ap (λ (M : Plain). is_used M id) table_is) ∙ used) in
        one (rows.get mods s.key) s.item s.at s.passes
      where
        one : (o : Option ModRow) (m : PModule) → option_map (module_of_row names nets within) o ≡ Some m → uses m ≡ true → IsUser
        one None m e passes = absurd (none_some m e)
        one (Some r) m e passes =
            let t = any_shown (has_master id) (inst_shown names (master_at mods nets) insts) (keys inst_rows insts r.insts.first) (ap uses (same_some (module_of_row names nets within r) m e) ∙ passes) in
            user_shown t.key t.item t.at t.passes

    -- a module that isn't there has no instances
    pub unused_none : mod_key names top up nets within g id ≡ None → is_used table id ≡ false
    unused_none none = not_true (is_used table id) (λ used.
        let u = user_of used in
        never (sym (ap is_some none)
        ∙ ap (λ n. is_some (key_in mod_rows mod_holders (λ (r : ModRow). r.id.0) mods tops top n)) (sym u.id_is)
        ∙ some_found mod_rows mod_holders (λ (r : ModRow). r.id.0) mods tops g.modules top g.root g.rooted u.row.user.owner u.master u.master.link u.there refl (mod_inside u.row.user.owner u.master u.there).0))
      where
        never : false ≡ true → ⊥
        never e = cc

    module _ (owner : ℕ) (named : mod_key names top up nets within g id ≡ Some owner) where
      abbrev holder : IsModule names top up nets within g id owner
      holder = found_module names top up nets within g id owner named

      used_some : (first : ℕ) → holder.row.users.first ≡ Some first → is_used table id ≡ true
      used_some first e =
          let m = holder in
          let c = w.users_of.chain owner m.row.users (ap (option_map user_holders.ends_of) m.at) in
          let l = AreLinked-row owner (links user_rows insts) None c.0 None first c.1.linked (first_Has c.0 first (sym c.1.begins ∙ e)) in
          let r = linked_row user_rows (rows.get insts first) l.0 l.1.0 in
          let inst : InstRow = r.0 in
          let mine : inst.user.owner ≡ owner = ap (λ (z : Link). z.owner) (same_some inst.user l.0 r.1.1) ∙ l.1.1 in
          let home = some_of (rows.get mods inst.link.owner) (holder_live first inst r.1.0) in
          let shown : inst_shown names (master_at mods nets) insts first ≡ Some (inst_of names inst (master_of_row nets m.row)) =
          ap (option_and_then (inst_of_row names (master_at mods nets))) r.1.0
          ∙ ap (λ o. option_map (inst_of names inst) (option_map (master_of_row nets) o)) (ap (rows.get mods) mine ∙ m.at) in
          ap (λ (M : Plain). is_used M id) table_is
          ∙ any_there uses (module_shown names mods nets within) (keys mod_rows mods g.root.modules.first) inst.link.owner (module_of_row names nets within home.0) (mod_inside inst.link.owner home.0 home.1).1 (ap (option_map (module_of_row names nets within)) home.1)
          (any_there (has_master id) (inst_shown names (master_at mods nets) insts) (keys inst_rows insts home.0.insts.first) first (inst_of names inst (master_of_row nets m.row)) (inst_inside first inst home.0 r.1.0 home.1) shown
          (ap (λ (z : ModId). z.0 == id.0) m.id_is ∙ itself id.0))

      used_none : holder.row.users.first ≡ None → is_used table id ≡ false
      used_none none = not_true (is_used table id) (λ used.
          let m = holder in
          let u = user_of used in
          let mine : u.row.user.owner ≡ owner = g.mods_numbered.one u.row.user.owner owner (mod_face u.master) (mod_face m.row) (ap (option_map mod_face) u.there) (ap (option_map mod_face) m.at) (u.id_is ∙ ap (λ (z : ModId). z.0) (sym m.id_is)) in
          no_row (links user_rows insts) (ends_in user_holders mods) w.users_of owner m.row.users (ap (option_map user_holders.ends_of) m.at) none u.key u.row.user (ap (option_and_then user_rows.link_of) u.at) mine)

      -- a module is used where its row has users
      pub used_is : (row : ModRow) → rows.get mods owner ≡ Some row → is_used table id ≡ is_some row.users.first
      used_is row at = one holder.row.users.first refl ∙ ap (λ (r : ModRow). is_some r.users.first) (same_some holder.row row (sym holder.at ∙ at))
        where
          one : (o : Option ℕ) → holder.row.users.first ≡ o → is_used table id ≡ is_some o
          one None e = used_none e
          one (Some first) e = used_some first e

      -- a module has nothing in it where its row begins no chain

      inst_there : (k : ℕ) (r : InstRow) → rows.get insts k ≡ Some r → is_some (inst_shown names (master_at mods nets) insts k) ≡ true
      inst_there k r at = ap (λ o. is_some (option_and_then (inst_of_row names (master_at mods nets)) o)) at ∙ map_live (inst_of names r) (master_at mods nets r.user.owner) (map_live (master_of_row nets) (rows.get mods r.user.owner) (master_live k r at))

      bare_row : (nets_from names nets holder.row.nets ≡ []) × ((ports_from nets holder.row.ports ≡ []) × (within holder.row.insts ≡ [])) → (holder.row.nets.first ≡ None) × ((holder.row.ports.first ≡ None) × (holder.row.insts.first ≡ None))
      bare_row none =
          let m = holder in (
            empty_listed net_rows nets (ends_in net_holders mods) g.nets_of (net_shown names nets) (λ k r l at linked. ap (λ o. is_some (option_map (net_of_row names) o)) at) owner m.row.nets (ap (option_map net_holders.ends_of) m.at) none.0,
            (
              empty_listed port_rows nets (ends_in port_holders mods) g.ports_of (port_shown nets) (λ k r l at linked. ap (λ o. is_some (option_and_then port_of_row o)) at ∙ port_shown_there r.id r.port l linked) owner m.row.ports (ap (option_map port_holders.ends_of) m.at) none.1.0,
              empty_listed inst_rows insts (ends_in inst_holders mods) w.insts_of (inst_shown names (master_at mods nets) insts) (λ k r l at linked. inst_there k r at) owner m.row.insts (ap (option_map inst_holders.ends_of) m.at) none.1.1,
            ),
          )

      pub bare_module : (row : ModRow) → rows.get mods owner ≡ Some row
          → ((row.nets.first ≡ None) × ((row.ports.first ≡ None) × (row.insts.first ≡ None))) ↔ ((m : PModule) × ((module_of table id ≡ Some m) × ((m.nets ≡ []) × ((m.ports ≡ []) × (m.insts ≡ [])))))
      bare_module row at =
          let same : row ≡ holder.row = same_some row holder.row (sym at ∙ holder.at) in (
            λ none. (
              module_of_row names nets within holder.row,
              (
                holder.shown,
                (
                  ap (λ e. listed net_rows (net_shown names nets) nets e) (ap (λ (r : ModRow). r.nets.first) (sym same) ∙ none.0) ∙ listed_none net_rows (net_shown names nets) nets,
                  (
                    ap (λ e. listed port_rows (port_shown nets) nets e) (ap (λ (r : ModRow). r.ports.first) (sym same) ∙ none.1.0) ∙ listed_none port_rows (port_shown nets) nets,
                    ap (λ e. listed inst_rows (inst_shown names (master_at mods nets) insts) insts e) (ap (λ (r : ModRow). r.insts.first) (sym same) ∙ none.1.1) ∙ listed_none inst_rows (inst_shown names (master_at mods nets) insts) insts,
                  ),
                ),
              ),
            ),
            λ bare.
                let is : module_of_row names nets within holder.row ≡ bare.0 = same_some (module_of_row names nets within holder.row) bare.0 (sym holder.shown ∙ bare.1.0) in
                let none = bare_row (ap (λ (m : PModule). m.nets) is ∙ bare.1.1.0, (ap (λ (m : PModule). m.ports) is ∙ bare.1.1.1.0, ap (λ (m : PModule). m.insts) is ∙ bare.1.1.1.1)) in
                (ap (λ (r : ModRow). r.nets.first) same ∙ none.0, (ap (λ (r : ModRow). r.ports.first) same ∙ none.1.0, ap (λ (r : ModRow). r.insts.first) same ∙ none.1.1)),
          )

      -- a module without content and users goes
      pub module_gone : (tops' : Rows TopRow) (mods' : Rows ModRow) → ((m : PModule) → module_of table id ≡ Some m → (m.nets ≡ []) × ((m.ports ≡ []) × (m.insts ≡ []))) → is_used table id ≡ false
          → ((row : ModRow) → rows.get mods owner ≡ Some row → ModuleOut tops tops' mods mods' owner row) → ShowsWhole names top (delete_module table id) tops' mods' nets insts
      module_gone tops' mods' empty unused effect =
          let m = holder in
          let none = bare_row (empty (module_of_row names nets within m.row) m.shown) in
          let no_users : m.row.users.first ≡ None = first_none m.row.users.first (sym (used_is m.row m.at) ∙ unused) in
          let u = effect m.row m.at in
          let t1 : Rows TopRow = tops_out names top up nets within g owner m.row m.at m.mine none.0 none.1.0 in
          let m1 : Rows ModRow = mods_out names top up nets within g owner m.row m.at m.mine none.0 none.1.0 in
          let away : rows.get m1 owner ≡ None = gone names top up nets within g owner m.row m.at m.mine none.0 none.1.0 in
          shows_whole names top (delete_module table id) t1 tops' m1 mods' nets insts insts u.tops_are u.mods_are refl (record {
            good = record {
              good = module_out_good names top up nets within g owner m.row m.at m.mine none.0 none.1.0;
              insts_of = no_ends names top up nets within g owner m.row m.at m.mine none.0 none.1.0 inst_holders (λ r to. refl) (λ r from. refl) none.1.1 (links inst_rows insts) w.insts_of;
              users_of = no_ends names top up nets within g owner m.row m.at m.mine none.0 none.1.0 user_holders (λ r to. refl) (λ r from. refl) no_users (links user_rows insts) w.users_of;
              insts_numbered = insts_numbered m1 (λ o a live there. elim (cases_eq o owner) [
                | inl e ↦ absurd (none_some a (sym (ap (option_map mod_side) (ap (rows.get m1) e ∙ away)) ∙ there))
                | inr d ↦ sym (left names top up nets within g owner m.row m.at m.mine none.0 none.1.0 (option_map mod_side) (λ r to. refl) (λ r from. refl) o d) ∙ there
              ]);
            };
            table =
                (λ i. table_of names top (upper t1 m1) nets (λ ends. within_alike names mods m1 nets insts
                (λ k r there. left names top up nets within g owner m.row m.at m.mine none.0 none.1.0 (option_map (master_of_row nets)) (λ r to. refl) (λ r from. refl) r.user.owner
                (λ e. no_row (links user_rows insts) (ends_in user_holders mods) w.users_of owner m.row.users (ap (option_map user_holders.ends_of) m.at) no_users k r.user (ap (option_and_then user_rows.link_of) there) e)) ends i))
                ∙ module_out_table names top up nets within g owner m.row m.at m.mine none.0 none.1.0
                ∙ ap (delete_module table) m.id_is;
          })
        where
          first_none : (o : Option ℕ) → is_some o ≡ false → o ≡ None
          first_none None e = refl
          first_none (Some k) e = cc
