-- The table after a module has come or gone.
use Rattle.std.proofs.Common.{◌≡◌, ◌≢◌, ℕ, zero, suc, ◌+◌, ◌<◌, ◌≤◌, ◌==◌, not, filter, Bool, true, false, List, [], ◌∷◌, ◌++◌, length, Option, Some, None, option_map, option_and_then, is_some, refl, sym, ap, subst, ◌∙◌, inl, inr, arith}
use Rattle.std.proofs.lemmas.Bool.{cases_eq}
use Rattle.std.specs.List.{filter_map, cons_option}
use Rattle.std.specs.FinMap as rows
use Rattle.emh_base.specs.declared.plain.PInst.{PInst}
use Rattle.emh_base.specs.declared.plain.PModule.{PModule}
use Rattle.flatten_rules.specs.ModuleChanges.{empty_module, create_module, delete_module}
use Rattle.undo_slots.specs.Slots.{Rows}
use Rattle.row_chains.specs.declared.link.Link.{Link}
use Rattle.row_chains.specs.declared.link.Ends.{Ends}
use Rattle.row_chains.specs.Chains.{first_or, IsChain, AreChains, walk, ends_with, ends_without}
use Rattle.row_chains.specs.Rows.{ChainRows, ChainHolders, links, listed, lead_at, ends_in}
use Rattle.row_chains.proofs.KeyLemmas.{same_some, none_some}
use Rattle.row_chains.proofs.ChainLemmas.{EndsChange, AreChains-owner, AreChains-no_owner}
use Rattle.row_chains.proofs.LiveLemmas.{owner_live}
use Rattle.row_chains.proofs.TableLemmas.{linked_row, keys-chain, get_same, get_other, seen-lead_at, seen-follow_at, appended_chains, appended_listed, place, detached_chains, detached_listed}
use Rattle.mod_core.specs.declared.rows.TopRow.{TopRow}
use Rattle.mod_core.specs.declared.rows.ModRow.{ModRow}
use Rattle.mod_core.specs.declared.rows.NetRow.{NetRow}
use Rattle.mod_core.specs.inside.Linked.{mod_rows, mod_holders, net_rows, net_holders, port_rows, port_holders, net_shown, port_shown, module_of_row, module_shown, modules_from, table_from, table_of, Upper, upper}
use Rattle.mod_core.specs.inside.Good.{ModFace, mod_face, mod_faces, NetFace, net_face, net_faces, AreModsNumbered, IsGood}
use Rattle.mod_core.specs.inside.Changes.{empty_chain, joined_rows, joined_ends, new_module}
use Rattle.mod_core.specs.Mods.{name_at}
use Rattle.mod_core.proofs.NumberLemmas.{WasCounted, mods_from, mods_added, nets_from}
use Rattle.mod_core.proofs.TableLemmas.{unequal, itself}

walk_none : (row : ℕ → Option Link) (steps : ℕ) → walk row steps None ≡ []
walk_none row zero = refl
walk_none row (suc steps) = refl

-- an empty chain shows nothing
pub listed_none : {R X : Type 0} (C : ChainRows R) (f : ℕ → Option X) (m : Rows R) → listed C f m None ≡ []
listed_none C f m = ap (filter_map f) (walk_none (links C m) (rows.len m))

cons_there : {X : Type 0} (o : Option X) (xs : List X) → is_some o ≡ true → cons_option o xs ≡ [] → ⊥
cons_there None xs live e = never live
  where
    never : false ≡ true → ⊥
    never h = cc
cons_there (Some x) xs live e = cc

-- a chain that shows nothing, each of whose rows shows something, is empty
pub empty_listed : {R X : Type 0} (C : ChainRows R) (m : Rows R) (ends_of : ℕ → Option Ends) → AreChains (links C m) ends_of → (f : ℕ → Option X) → ((k : ℕ) (row : R) (link : Link) → rows.get m k ≡ Some row → C.link_of row ≡ Some link → is_some (f k) ≡ true)
    → (owner : ℕ) (ends : Ends) → ends_of owner ≡ Some ends → listed C f m ends.first ≡ [] → ends.first ≡ None
empty_listed C m ends_of chains f shows owner ends held none =
    let c = chains.chain owner ends held in
    one c.0 c.1 (ap (filter_map f) (sym (keys-chain C m owner ends c.0 c.1)) ∙ none)
  where
    one : (ks : List ℕ) → IsChain (links C m) owner ends ks → filter_map f ks ≡ [] → ends.first ≡ None
    one [] c e = c.begins
    one (k ∷ ks) c e =
        let link : Link = record { owner = owner; prev = None; next = first_or ks None } in
        let r = linked_row C (rows.get m k) link c.linked.0 in
        absurd (cons_there (f k) (filter_map f ks) (shows k r.0 link r.1.0 r.1.1) e)

at_most : (x : ℕ) → x ≤ x
at_most x = omega arith

-- rows of modules stay where the modules that have such rows stay
module _ {R : Type 0} (C : ChainRows R) (H : ChainHolders ModRow) (face : R → NetFace) (side : ModRow → ModFace) (m : Rows R) (mods mods' : Rows ModRow) (chains : AreChains (links C m) (ends_in H mods)) (owned : (r : R) → (l : Link) × ((C.link_of r ≡ Some l) × (l.owner ≡ (face r).owner)))
    (kept : (o : ℕ) (a : ModFace) → is_some (rows.get mods o) ≡ true → option_map side (rows.get mods' o) ≡ Some a → option_map side (rows.get mods o) ≡ Some a) where
  pub owner_counted : (k : ℕ) (a : NetFace) (b : ModFace) → option_map face (rows.get m k) ≡ Some a → option_map side (rows.get mods' a.owner) ≡ Some b → WasCounted (λ o. option_map side (rows.get mods o)) a.owner b
  owner_counted k a b at om = record { was = b; at = kept a.owner b (live (rows.get m k) refl at) om; counted = at_most b.next_net }
    where
      live : (o : Option R) → rows.get m k ≡ o → option_map face o ≡ Some a → is_some (rows.get mods a.owner) ≡ true
      live None is e = absurd (none_some a e)
      live (Some r) is e =
          let l = owned r in
          ap (λ z. is_some (rows.get mods z)) (ap (λ (z : NetFace). z.owner) (sym (same_some (face r) a e)) ∙ sym l.1.1)
          ∙ owner_live H (links C m) mods chains k l.0 (ap (option_and_then C.link_of) is ∙ l.1.0)

-- a module comes last
module _ (names : List (List ℕ)) (top : ℕ) (up : Upper) (nets : Rows NetRow) (within : Ends → List PInst) (g : IsGood (length names) top up nets) (key name : ℕ) (root : TopRow)
    (was : rows.get up.tops top ≡ Some root) (absent : rows.get up.mods key ≡ None) (few : name < length names) (bare : within empty_chain ≡ []) where
  abbrev pub grown : TopRow
  grown = record root { next_module = root.next_module + 1; modules = ends_with root.modules key }

  abbrev pub tops_in : Rows TopRow
  tops_in = rows.insert up.tops top grown

  abbrev new : ModRow
  new = new_module top root name

  abbrev mid : Rows ModRow
  mid = rows.insert up.mods key new

  abbrev pub mods_in : Rows ModRow
  mods_in = lead_at mod_rows mid root.modules.last (Some key)

  root_is : g.root ≡ root
  root_is = same_some g.root root (sym g.rooted ∙ was)

  becomes : rows.get tops_in top ≡ Some grown
  becomes = get_same up.tops top (Some grown)

  pub seen : {X : Type 0} (F : Option ModRow → X) → ((r : ModRow) (to : Option ℕ) → F (Some (mod_rows.lead r to)) ≡ F (Some r)) → (q : ℕ) → q ≢ key → F (rows.get mods_in q) ≡ F (rows.get up.mods q)
  seen F blind q d = seen-lead_at mod_rows F blind mid root.modules.last (Some key) q ∙ ap F (get_other up.mods key (Some new) q d)

  seen_new : {X : Type 0} (F : Option ModRow → X) → ((r : ModRow) (to : Option ℕ) → F (Some (mod_rows.lead r to)) ≡ F (Some r)) → F (rows.get mods_in key) ≡ F (Some new)
  seen_new F blind = seen-lead_at mod_rows F blind mid root.modules.last (Some key) key ∙ ap F (get_same up.mods key (Some new))

  ends_change : EndsChange (ends_in mod_holders up.tops) (ends_in mod_holders tops_in) top root.modules (ends_with root.modules key)
  ends_change = record { was = ap (option_map mod_holders.ends_of) was; becomes = ap (option_map mod_holders.ends_of) becomes; others = λ o d. ap (option_map mod_holders.ends_of) (get_other up.tops top (Some grown) o d) }

  no_link : links mod_rows up.mods key ≡ None
  no_link = ap (option_and_then mod_rows.link_of) absent

  new_link : links mod_rows mid key ≡ Some (record { owner = top; prev = root.modules.last; next = None })
  new_link = ap (option_and_then mod_rows.link_of) (get_same up.mods key (Some new))

  same_links : (q : ℕ) → q ≢ key → links mod_rows mid q ≡ links mod_rows up.mods q
  same_links q d = ap (option_and_then mod_rows.link_of) (get_other up.mods key (Some new) q d)

  new_shown : module_shown names mods_in nets within key ≡ Some (empty_module root.next_module (name_at names name))
  new_shown =
      seen_new (option_map (module_of_row names nets within)) (λ r to. refl)
      ∙ (λ i. Some (record (empty_module root.next_module (name_at names name)) { nets = listed_none net_rows (net_shown names nets) nets i; ports = listed_none port_rows (port_shown nets) nets i; insts = bare i }))

  listed_in : modules_from names mods_in nets within grown.modules ≡ modules_from names up.mods nets within root.modules ++ empty_module root.next_module (name_at names name) ∷ []
  listed_in = appended_listed mod_rows up.mods mid (ends_in mod_holders up.tops) (ends_in mod_holders tops_in) top key root.modules g.modules ends_change no_link new_link same_links (module_shown names up.mods nets within) (module_shown names mods_in nets within) (empty_module root.next_module (name_at names name))
      (λ k d. seen (option_map (module_of_row names nets within)) (λ r to. refl) k d) new_shown

  -- the table has the module
  pub module_in_table : table_of names top (upper tops_in mods_in) nets within ≡ create_module (table_of names top up nets within) (name_at names name)
  module_in_table =
      ap (table_from names mods_in nets within) becomes
      ∙ (λ i. record { modules = listed_in i; next_module = root.next_module + 1 })
      ∙ sym (ap (λ o. create_module (table_from names up.mods nets within o) (name_at names name)) was)

  pub new_ends : (H : ChainHolders ModRow) → ((r : ModRow) (to : Option ℕ) → H.ends_of (mod_rows.lead r to) ≡ H.ends_of r) → H.ends_of new ≡ empty_chain → (row : ℕ → Option Link) → AreChains row (ends_in H up.mods) → AreChains row (ends_in H mods_in)
  new_ends H blind empty row chains =
      AreChains-owner row (ends_in H up.mods) (ends_in H mods_in) key (λ o d. seen (option_map H.ends_of) (λ r to. ap (λ z. Some z) (blind r to)) o d) chains (ap (option_map H.ends_of) absent)
      (seen_new (option_map H.ends_of) (λ r to. ap (λ z. Some z) (blind r to)) ∙ ap (λ z. Some z) empty)

  pub not_new : (o : ℕ) → is_some (rows.get up.mods o) ≡ true → o ≢ key
  not_new o live e = never (sym (ap is_some (ap (rows.get up.mods) e ∙ absent)) ∙ live)
    where
      never : false ≡ true → ⊥
      never e = cc

  face_other : (o : ℕ) → o ≢ key → mod_faces mods_in o ≡ mod_faces up.mods o
  face_other o d = seen (option_map mod_face) (λ r to. refl) o d

  pub module_in_good : IsGood (length names) top (upper tops_in mods_in) nets
  module_in_good = record {
    root = grown;
    rooted = becomes;
    alone = λ o r at. elim (cases_eq o top) [ inl e ↦ e | inr d ↦ g.alone o r (sym (get_other up.tops top (Some grown) o d) ∙ at) ];
    modules = appended_chains mod_rows up.mods mid (ends_in mod_holders up.tops) (ends_in mod_holders tops_in) top key root.modules g.modules ends_change no_link new_link same_links;
    nets_of = new_ends net_holders (λ r to. refl) refl (links net_rows nets) g.nets_of;
    ports_of = new_ends port_holders (λ r to. refl) refl (links port_rows nets) g.ports_of;
    mods_numbered = subst (λ (z : TopRow). AreModsNumbered (length names) (z.next_module + 1) (mod_faces mods_in)) root_is
        (mods_added (length names) g.root.next_module (mod_faces up.mods) (mod_faces mods_in) g.mods_numbered key (mod_face new) (seen_new (option_map mod_face) (λ r to. refl)) face_other (ap (λ (z : TopRow). z.next_module) (sym root_is)) few);
    nets_numbered = nets_from (length names) (mod_faces up.mods) (mod_faces mods_in) (net_faces nets) (net_faces nets) g.nets_numbered
        (λ k a at. record { was = a; at = at; owner = refl; id = refl; named = g.nets_numbered.named k a at; home = λ o h. g.nets_numbered.home k a o at h })
        (owner_counted net_rows net_holders net_face mod_face nets up.mods mods_in g.nets_of (λ r. (r.link, (refl, refl))) (λ o a live at. sym (face_other o (not_new o live)) ∙ at));
  }

-- a module without content goes
module _ (names : List (List ℕ)) (top : ℕ) (up : Upper) (nets : Rows NetRow) (within : Ends → List PInst) (g : IsGood (length names) top up nets) (key : ℕ) (row : ModRow)
    (at : rows.get up.mods key ≡ Some row) (mine : row.link.owner ≡ top) (no_nets : row.nets.first ≡ None) (no_ports : row.ports.first ≡ None) where
  abbrev pub tops_out : Rows TopRow
  tops_out = joined_ends mod_holders up.tops row.link

  abbrev joined : Rows ModRow
  joined = joined_rows mod_rows up.mods row.link

  abbrev pub mods_out : Rows ModRow
  mods_out = rows.remove joined key

  abbrev shrunk : TopRow
  shrunk = record g.root { modules = ends_without g.root.modules row.link }

  was_out : rows.get up.tops row.link.owner ≡ Some g.root
  was_out = ap (rows.get up.tops) mine ∙ g.rooted

  becomes_out : rows.get tops_out row.link.owner ≡ Some shrunk
  becomes_out = get_same up.tops row.link.owner (option_map (λ r. mod_holders.with_ends r (ends_without (mod_holders.ends_of r) row.link)) (rows.get up.tops row.link.owner)) ∙ ap (option_map (λ r. mod_holders.with_ends r (ends_without (mod_holders.ends_of r) row.link))) was_out

  pub gone : rows.get mods_out key ≡ None
  gone = get_same joined key None

  pub left : {X : Type 0} (F : Option ModRow → X) → ((r : ModRow) (to : Option ℕ) → F (Some (mod_rows.lead r to)) ≡ F (Some r)) → ((r : ModRow) (from : Option ℕ) → F (Some (mod_rows.follow r from)) ≡ F (Some r)) → (q : ℕ) → q ≢ key → F (rows.get mods_out q) ≡ F (rows.get up.mods q)
  left F blind deaf q d =
      ap F (get_other joined key None q d)
      ∙ seen-follow_at mod_rows F deaf (lead_at mod_rows up.mods row.link.prev row.link.next) row.link.next row.link.prev q
      ∙ seen-lead_at mod_rows F blind up.mods row.link.prev row.link.next q

  linked : links mod_rows up.mods key ≡ Some row.link
  linked = ap (option_and_then mod_rows.link_of) at

  no_more : links mod_rows mods_out key ≡ None
  no_more = ap (option_and_then mod_rows.link_of) gone

  as_joined : (q : ℕ) → q ≢ key → links mod_rows mods_out q ≡ links mod_rows joined q
  as_joined q d = ap (option_and_then mod_rows.link_of) (get_other joined key None q d)

  held : (place mod_rows up.mods mods_out (ends_in mod_holders up.tops) (ends_in mod_holders tops_out) key row.link g.modules linked no_more as_joined).ends ≡ g.root.modules
  held =
      let p = place mod_rows up.mods mods_out (ends_in mod_holders up.tops) (ends_in mod_holders tops_out) key row.link g.modules linked no_more as_joined in
      same_some p.ends g.root.modules (sym p.held ∙ ap (option_map mod_holders.ends_of) was_out)

  ends_out : (ends : Ends) → ends ≡ g.root.modules → EndsChange (ends_in mod_holders up.tops) (ends_in mod_holders tops_out) row.link.owner ends (ends_without ends row.link)
  ends_out ends e = record {
    was = ap (option_map mod_holders.ends_of) was_out ∙ ap (λ z. Some z) (sym e);
    becomes = ap (option_map mod_holders.ends_of) becomes_out ∙ ap (λ z. Some (ends_without z row.link)) (sym e);
    others = λ o d. ap (option_map mod_holders.ends_of) (get_other up.tops row.link.owner (option_map (λ r. mod_holders.with_ends r (ends_without (mod_holders.ends_of r) row.link)) (rows.get up.tops row.link.owner)) o d);
  }

  abbrev keep : PModule → Bool
  keep other = not (other.id.0 == row.id.0)

  mod_row : (k : ℕ) (o : Option ModRow) (y : PModule) → rows.get up.mods k ≡ o → k ≢ key → option_map (module_of_row names nets within) o ≡ Some y → keep y ≡ true
  mod_row k None y is d shows = absurd (none_some y shows)
  mod_row k (Some r) y is d shows =
      ap (λ (z : PModule). not (z.id.0 == row.id.0)) (sym (same_some (module_of_row names nets within r) y shows))
      ∙ ap not (unequal r.id.0 row.id.0 (λ e. d (g.mods_numbered.one k key (mod_face r) (mod_face row) (ap (option_map mod_face) is) (ap (option_map mod_face) at) e)))

  listed_out : modules_from names mods_out nets within shrunk.modules ≡ filter keep (modules_from names up.mods nets within g.root.modules)
  listed_out =
      ap (λ (z : Ends). modules_from names mods_out nets within (ends_without z row.link)) (sym held)
      ∙ detached_listed mod_rows up.mods mods_out (ends_in mod_holders up.tops) (ends_in mod_holders tops_out) key row.link g.modules linked no_more as_joined (module_shown names up.mods nets within) (module_shown names mods_out nets within) keep (module_of_row names nets within row)
      (ap (option_map (module_of_row names nets within)) at) (ap not (itself row.id.0))
      (λ k l y d there of shows. mod_row k (rows.get up.mods k) y refl d shows)
      (λ k d. left (option_map (module_of_row names nets within)) (λ r to. refl) (λ r from. refl) k d)
      ∙ ap (λ (z : Ends). filter keep (modules_from names up.mods nets within z)) held

  becomes_top : rows.get tops_out top ≡ Some shrunk
  becomes_top = ap (rows.get tops_out) (sym mine) ∙ becomes_out

  -- the table is without the module
  pub module_out_table : table_of names top (upper tops_out mods_out) nets within ≡ delete_module (table_of names top up nets within) row.id
  module_out_table =
      ap (table_from names mods_out nets within) becomes_top
      ∙ (λ i. record { modules = listed_out i; next_module = g.root.next_module })
      ∙ sym (ap (λ o. delete_module (table_from names up.mods nets within o) row.id) g.rooted)

  pub no_ends : (H : ChainHolders ModRow) → ((r : ModRow) (to : Option ℕ) → H.ends_of (mod_rows.lead r to) ≡ H.ends_of r) → ((r : ModRow) (from : Option ℕ) → H.ends_of (mod_rows.follow r from) ≡ H.ends_of r) → (H.ends_of row).first ≡ None → (links_of : ℕ → Option Link) → AreChains links_of (ends_in H up.mods) → AreChains links_of (ends_in H mods_out)
  no_ends H blind deaf empty links_of chains =
      AreChains-no_owner links_of (ends_in H up.mods) (ends_in H mods_out) key (λ o d. left (option_map H.ends_of) (λ r to. ap (λ z. Some z) (blind r to)) (λ r from. ap (λ z. Some z) (deaf r from)) o d) chains (H.ends_of row) (ap (option_map H.ends_of) at) empty (ap (option_map H.ends_of) gone)

  old_face : (k : ℕ) (a : ModFace) → mod_faces mods_out k ≡ Some a → mod_faces up.mods k ≡ Some a
  old_face k a there = elim (cases_eq k key) [
    | inl e ↦ absurd (none_some a (sym (ap (option_map mod_face) (ap (rows.get mods_out) e ∙ gone)) ∙ there))
    | inr d ↦ sym (left (option_map mod_face) (λ r to. refl) (λ r from. refl) k d) ∙ there
  ]

  pub module_out_good : IsGood (length names) top (upper tops_out mods_out) nets
  module_out_good =
      let p = place mod_rows up.mods mods_out (ends_in mod_holders up.tops) (ends_in mod_holders tops_out) key row.link g.modules linked no_more as_joined in
      record {
        root = shrunk;
        rooted = becomes_top;
        alone = λ o r there. elim (cases_eq o row.link.owner) [
          | inl e ↦ e ∙ mine
          | inr d ↦ g.alone o r (sym (get_other up.tops row.link.owner (option_map (λ r. mod_holders.with_ends r (ends_without (mod_holders.ends_of r) row.link)) (rows.get up.tops row.link.owner)) o d) ∙ there)
        ];
        modules = detached_chains mod_rows up.mods mods_out (ends_in mod_holders up.tops) (ends_in mod_holders tops_out) key row.link g.modules linked no_more as_joined (ends_out p.ends held);
        nets_of = no_ends net_holders (λ r to. refl) (λ r from. refl) no_nets (links net_rows nets) g.nets_of;
        ports_of = no_ends port_holders (λ r to. refl) (λ r from. refl) no_ports (links port_rows nets) g.ports_of;
        mods_numbered = mods_from (length names) g.root.next_module (mod_faces up.mods) (mod_faces mods_out) g.mods_numbered
            (λ k a there. record { was = a; at = old_face k a there; id = refl; named = g.mods_numbered.named k a (old_face k a there) });
        nets_numbered = nets_from (length names) (mod_faces up.mods) (mod_faces mods_out) (net_faces nets) (net_faces nets) g.nets_numbered
            (λ k a there. record { was = a; at = there; owner = refl; id = refl; named = g.nets_numbered.named k a there; home = λ o h. g.nets_numbered.home k a o there h })
            (owner_counted net_rows net_holders net_face mod_face nets up.mods mods_out g.nets_of (λ r. (r.link, (refl, refl))) (λ o a live there. old_face o a there));
      }
