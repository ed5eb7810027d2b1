-- Edits of one module that keep its ports: what a good table asks of the table after such an edit.
use Rattle.std.proofs.Common.{◌≡◌, ℕ, Bool, ◌≤◌, true, false, List, map, get_or, Some, All, IsTrue, bytes_eq, refl, sym, ◌∙◌, subst, arith}
use Rattle.std.specs.List.{IsDistinct}
use Rattle.std.proofs.lemmas.Bool.{true≢false}
use Rattle.std.proofs.lemmas.List.Elements.{All-weaker}
use Rattle.emh_base.specs.declared.ids.ModId.{ModId}
use Rattle.emh_base.specs.declared.ids.NetId.{NetId}
use Rattle.emh_base.specs.declared.plain.Src.{Src}
use Rattle.emh_base.specs.declared.plain.Src.TheVariants.{Tie0, Tie1, Bit}
use Rattle.emh_base.specs.declared.plain.Conn.{Conn}
use Rattle.emh_base.specs.declared.plain.Conn.TheVariants.{Open, Bits}
use Rattle.emh_base.specs.declared.plain.PNet.{PNet}
use Rattle.emh_base.specs.declared.plain.PInst.{PInst}
use Rattle.emh_base.specs.declared.plain.PModule.{PModule}
use Rattle.emh_base.specs.declared.plain.Plain.{Plain}
use Rattle.emh_base.specs.declared.state.State.{State}
use Rattle.flatten_rules.specs.Lookup.{net_of, width_of}
use Rattle.flatten_rules.specs.Limits.{bits_of, IsWithin}
use Rattle.flatten_rules.specs.Sound.{IsSource, HasMaster, IsCell, IsSoundModule}
use Rattle.flatten_rules.proofs.Sound.{sound-module}
use Rattle.flatten_rules.proofs.Walks.{found-own}
use Rattle.edit_rules.specs.Good.{IsGoodState}
use Rattle.flatten_rules.specs.Changes.{with_module}
use Rattle.edit_rules.proofs.GoodWalks.{AreBelow, IsBelow}
use Rattle.edit_rules.proofs.GoodTables.{SamePorts, same_ports-own, KeepsConn, KeepsMasters, master_kept, module_kept, Same, below-own, IsOwn, masters-mapped, cells-mapped, inner-mapped, below-mapped, within-mapped, sound-mapped, map-through, changed, changed-keeps, each-changed}
use Rattle.edit_rules.proofs.GoodChecks.{Opened}
use Rattle.edit_rules.proofs.GoodStates.{KeepsGood}
use Rattle.edit_rules.proofs.GoodNames.{NamesApart, names_apart}

source_wide : (m n : PModule) → ((net : NetId) → width_of (net_of m net) ≤ width_of (net_of n net)) → (src : Src) → IsSource m src → IsSource n src
source_wide m n wide Tie0 is = tt
source_wide m n wide Tie1 is = tt
source_wide m n wide (Bit net offset) is = omega (arith, is, wide net)

-- where no net is narrower each source stays one
pub keeps_wide : (m n : PModule) → ((net : NetId) → width_of (net_of m net) ≤ width_of (net_of n net)) → (conn : Conn) → KeepsConn m n conn
keeps_wide m n wide Open = tt
keeps_wide m n wide (Bits bits) = λ all. All-weaker (IsSource m) (IsSource n) (λ src is. source_wide m n wide src is) bits all

-- the instances of a module as they are, in a module that has all of its sources
pub insts_kept : (M N : Plain) (m n : PModule) → KeepsMasters M N → ((net : NetId) → width_of (net_of m net) ≤ width_of (net_of n net)) → (insts : List PInst) → All (HasMaster M m) insts → All (HasMaster N n) insts
insts_kept M N m n masters wide insts all =
    All-weaker (HasMaster M m) (HasMaster N n) (λ inst has. master_kept M N m n inst (masters inst.master) (λ k d within. keeps_wide m n wide (get_or inst.conns k d)) has) insts all

-- a module that is no leaf needn't be a cell
pub no_cell : (m n : PModule) → m.leaf ≡ false → n.leaf ≡ m.leaf → IsTrue n.leaf → IsCell n
no_cell m n inner same leaf = absurd (true≢false (sym leaf ∙ same ∙ inner))

-- a module is sound by what it holds, under whichever id and name, locked or not
pub dressed_sound : (M N : Plain) (m : PModule) (id : ModId) (name : List ℕ) (locked : Bool) → KeepsMasters M N → m.leaf ≡ false → IsSoundModule M m
    → IsSoundModule N (record m { id = id; name = name; locked = locked })
dressed_sound M N m id name locked masters inner s =
    let n : PModule = record m { id = id; name = name; locked = locked } in
    record {
      names = s.names;
      nets_rise = s.nets_rise;
      nets_below = s.nets_below;
      net_counter = s.net_counter;
      ranges = s.ranges;
      ports_there = s.ports_there;
      ports_differ = s.ports_differ;
      insts_rise = s.insts_rise;
      insts_below = s.insts_below;
      inst_counter = s.inst_counter;
      masters = insts_kept M N m n masters (λ net. omega arith) m.insts s.masters;
      cell = no_cell m n inner refl;
    }

module _ (S : State) (id : ModId) (f : PModule → PModule) (ids : (m : PModule) → (f m).id ≡ m.id) (o : Opened S id) (good : IsGoodState S) where
  holder_own : IsOwn S.plain o.holder
  holder_own = found-own S.plain id o.holder o.found

  pub holder-sound : IsSoundModule S.plain o.holder
  holder-sound = sound-module S.plain id o.holder good.table.sound o.found

  pub holder-names : NamesApart (λ (net : PNet). net.name) (λ (inst : PInst). inst.name) o.holder.nets o.holder.insts
  holder-names = names_apart (λ (net : PNet). net.name) (λ (inst : PInst). inst.name) o.holder.nets o.holder.insts holder-sound.names

  g_ids : (m : PModule) → (changed id f m).id ≡ m.id
  g_ids = changed-keeps (λ m. m.id) id f ids

  pub names-stay : ((m : PModule) → (f m).name ≡ m.name) → IsDistinct bytes_eq (map (λ (m : PModule). m.name) (map (changed id f) S.plain.modules))
  names-stay same =
      subst (IsDistinct bytes_eq) (sym (map-through (λ (m : PModule). m.name) (changed id f) (changed-keeps (λ m. m.name) id f same) S.plain.modules)) good.table.sound.names

  pub below-changed : AreBelow Same (f o.holder).insts o.holder.insts → IsBelow (with_module S.plain id f) S.plain Same
  below-changed here =
      below-mapped S.plain (changed id f) g_ids
      (each-changed (λ new old. AreBelow Same new.insts old.insts) S.plain id f o.holder o.found here (λ m. below-own m.insts))

  pub within-changed : AreBelow Same (f o.holder).insts o.holder.insts → bits_of (Some (f o.holder)) ≤ bits_of (Some o.holder) → IsWithin (with_module S.plain id f) S.top
  within-changed here few =
      within-mapped S.plain (changed id f) g_ids S.top good.table.sound good.table.within (below-changed here)
      (each-changed (λ new old. bits_of (Some new) ≤ bits_of (Some old)) S.plain id f o.holder o.found few (λ m. omega arith))

  -- the ports of each master stay
  pub masters-changed : SamePorts o.holder (f o.holder) → KeepsMasters S.plain (with_module S.plain id f)
  masters-changed ports =
      masters-mapped S.plain (changed id f) g_ids (each-changed (λ new old. SamePorts old new) S.plain id f o.holder o.found ports same_ports-own)

  pub changed-good : ((m : PModule) → (f m).leaf ≡ m.leaf) → IsDistinct bytes_eq (map (λ (m : PModule). m.name) (map (changed id f) S.plain.modules)) → SamePorts o.holder (f o.holder)
      → IsSoundModule (with_module S.plain id f) (f o.holder) → IsWithin (with_module S.plain id f) S.top → KeepsGood S.plain (with_module S.plain id f) S.top
  changed-good leaf names ports here within =
      let Sound : PModule → PModule → Type 0 = λ new old. IsSoundModule S.plain old → IsSoundModule (with_module S.plain id f) new in
      let Kept : PModule → PModule → Type 0 = λ new old. old.leaf ≡ true → new ≡ old in
      record {
        table = record {
          sound = sound-mapped S.plain (changed id f) g_ids good.table.sound names
              (each-changed Sound S.plain id f o.holder o.found (λ s. here) (λ m s. module_kept S.plain (with_module S.plain id f) m (masters-changed ports) s)) within.depth;
          inner = inner-mapped S.plain (changed id f) g_ids (changed-keeps (λ m. m.leaf) id f leaf) S.top good.table.inner;
          within = within;
        };
        cells = cells-mapped S.plain (changed id f) g_ids
            (each-changed Kept S.plain id f o.holder o.found (λ is. absurd (true≢false (sym is ∙ o.inner))) (λ m is. refl));
      }
