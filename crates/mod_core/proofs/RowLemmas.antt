-- Rows that are changed where they stand, and what doesn't see that.
use Rattle.std.proofs.Common.{◌≡◌, ℕ, List, Option, Some, None, option_map, refl, sym, ap, subst, ◌∙◌, inl, inr}
use Rattle.std.proofs.lemmas.Bool.{cases_eq}
use Rattle.std.specs.FinMap as rows
use Rattle.emh_base.specs.declared.plain.PInst.{PInst}
use Rattle.undo_slots.specs.Slots.{Rows}
use Rattle.row_chains.specs.declared.link.Link.{Link}
use Rattle.row_chains.specs.declared.link.Ends.{Ends}
use Rattle.row_chains.specs.Chains.{AreChains, ends_without}
use Rattle.row_chains.specs.Rows.{ChainRows, ChainHolders, links, lead_at, ends_in}
use Rattle.row_chains.proofs.KeyLemmas.{same_some, none_some}
use Rattle.row_chains.proofs.ChainLemmas.{EndsChange}
use Rattle.row_chains.proofs.TableLemmas.{get_same, get_other, seen-lead_at, seen-follow_at, listed-same}
use Rattle.mod_core.specs.declared.rows.TopRow.{TopRow}
use Rattle.mod_core.specs.declared.rows.ModRow.{ModRow}
use Rattle.mod_core.specs.declared.rows.NetRow.{NetRow}
use Rattle.mod_core.specs.inside.Linked.{mod_rows, mod_holders, net_holders, port_holders, module_shown, table_from, table_of, Upper, upper}
use Rattle.mod_core.specs.inside.Good.{mod_faces, IsGood}
use Rattle.mod_core.specs.inside.Changes.{joined_rows, joined_ends, changed_at}
use Rattle.mod_core.specs.inside.Linked.{net_rows, port_rows}
use Rattle.mod_core.specs.inside.Good.{net_faces, AreModsNumbered, AreNetsNumbered}

module _ {R X : Type 0} (F : Option R → X) where
  pub seen_changed : (change : R → R) → ((r : R) → F (Some (change r)) ≡ F (Some r)) → (m : Rows R) (k q : ℕ) → F (rows.get (changed_at m k change) q) ≡ F (rows.get m q)
  seen_changed change blind m k q = elim (cases_eq q k) [
    | inl e ↦ ap F (ap (rows.get (changed_at m k change)) e ∙ get_same m k (option_map change (rows.get m k))) ∙ one (rows.get m k) ∙ sym (ap F (ap (rows.get m) e))
    | inr d ↦ ap F (get_other m k (option_map change (rows.get m k)) q d)
  ]
    where
      one : (o : Option R) → F (option_map change o) ≡ F o
      one None = refl
      one (Some r) = blind r

  pub seen_joined : (C : ChainRows R) → ((r : R) (to : Option ℕ) → F (Some (C.lead r to)) ≡ F (Some r)) → ((r : R) (from : Option ℕ) → F (Some (C.follow r from)) ≡ F (Some r)) → (m : Rows R) (link : Link) (q : ℕ) → F (rows.get (joined_rows C m link) q) ≡ F (rows.get m q)
  seen_joined C blind deaf m link q =
      seen-follow_at C F deaf (lead_at C m link.prev link.next) link.next link.prev q
      ∙ seen-lead_at C F blind m link.prev link.next q

  pub seen_ends : (H : ChainHolders R) → ((r : R) (ends : Ends) → F (Some (H.with_ends r ends)) ≡ F (Some r)) → (m : Rows R) (link : Link) (q : ℕ) → F (rows.get (joined_ends H m link) q) ≡ F (rows.get m q)
  seen_ends H blind m link q = seen_changed (λ r. H.with_ends r (ends_without (H.ends_of r) link)) (λ r. blind r (ends_without (H.ends_of r) link)) m link.owner q

-- the ends of a chain that a row has left
pub ends_joined : {O : Type 0} (H : ChainHolders O) (m : Rows O) (link : Link) (ends : Ends) → ends_in H m link.owner ≡ Some ends → EndsChange (ends_in H m) (ends_in H (joined_ends H m link)) link.owner ends (ends_without ends link)
ends_joined {O} H m link ends held = record {
  was = held;
  becomes = ap (option_map H.ends_of) (get_same m link.owner (option_map (λ r. H.with_ends r (ends_without (H.ends_of r) link)) (rows.get m link.owner))) ∙ one (rows.get m link.owner) held;
  others = λ o d. ap (option_map H.ends_of) (get_other m link.owner (option_map (λ r. H.with_ends r (ends_without (H.ends_of r) link)) (rows.get m link.owner)) o d);
}
  where
    one : (o : Option O) → option_map H.ends_of o ≡ Some ends → option_map H.ends_of (option_map (λ r. H.with_ends r (ends_without (H.ends_of r) link)) o) ≡ Some (ends_without ends link)
    one None e = absurd (none_some ends e)
    one (Some r) e = ap (λ z. Some z) (H.holds r (ends_without (H.ends_of r) link) ∙ ap (λ z. ends_without z link) (same_some (H.ends_of r) ends e))

-- modules' rows where only what instances are linked by has changed
module _ (count top : ℕ) (up : Upper) (mods' : Rows ModRow) (nets : Rows NetRow) (linked : (k : ℕ) → links mod_rows mods' k ≡ links mod_rows up.mods k) where
  pub good_seen : ((o : ℕ) → ends_in net_holders mods' o ≡ ends_in net_holders up.mods o) → ((o : ℕ) → ends_in port_holders mods' o ≡ ends_in port_holders up.mods o) → ((o : ℕ) → mod_faces mods' o ≡ mod_faces up.mods o) → IsGood count top up nets → IsGood count top (upper up.tops mods') nets
  good_seen nets_held ports_held faced g = record {
    root = g.root;
    rooted = g.rooted;
    alone = g.alone;
    modules = subst (λ (l : ℕ → Option Link). AreChains l (ends_in mod_holders up.tops)) (λ i k. sym (linked k) i) g.modules;
    nets_of = subst (λ (e : ℕ → Option Ends). AreChains (links net_rows nets) e) (λ i o. sym (nets_held o) i) g.nets_of;
    ports_of = subst (λ (e : ℕ → Option Ends). AreChains (links port_rows nets) e) (λ i o. sym (ports_held o) i) g.ports_of;
    mods_numbered = subst (AreModsNumbered count g.root.next_module) (λ i o. sym (faced o) i) g.mods_numbered;
    nets_numbered = subst (λ f. AreNetsNumbered count f (net_faces nets)) (λ i o. sym (faced o) i) g.nets_numbered;
  }

  pub table_seen : (names : List (List ℕ)) (within : Ends → List PInst) (root : TopRow) → rows.get up.tops top ≡ Some root → AreChains (links mod_rows up.mods) (ends_in mod_holders up.tops) → ((k : ℕ) → module_shown names mods' nets within k ≡ module_shown names up.mods nets within k)
      → table_of names top (upper up.tops mods') nets within ≡ table_of names top up nets within
  table_seen names within root rooted chains shown =
      ap (table_from names mods' nets within) rooted
      ∙ (λ i. record {
        modules = listed-same mod_rows up.mods mods' (ends_in mod_holders up.tops) chains linked (module_shown names up.mods nets within) (module_shown names mods' nets within) top root.modules (ap (option_map mod_holders.ends_of) rooted) (λ k link at of. shown k) i;
        next_module = root.next_module;
      })
      ∙ sym (ap (table_from names up.mods nets within) rooted)
