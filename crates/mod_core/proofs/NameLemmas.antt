-- The tables after a name has come into the pool: rows number the names that were there, so each moment shows the same.
use Rattle.std.proofs.Common.{◌≡◌, ℕ, ◌+◌, ◌<◌, ◌≤◌, Bool, true, false, cond, List, [], ◌∷◌, ◌++◌, length, Option, Some, None, option_map, option_and_then, Result, Ok, Err, OnOk, OnErr, refl, sym, ap, subst, ◌∙◌, arith}
use Rattle.std.proofs.lemmas.List.{get_or_append_left, length-append}
use Rattle.std.specs.Prelude.{bytes_eq}
use Rattle.std.specs.List.{list_any}
use Rattle.std.specs.FinMap as rows
use Rattle.emh_base.specs.Pool.{with_name}
use Rattle.emh_base.specs.declared.plain.PInst.{PInst}
use Rattle.timeline.specs.Timeline.{Moment, Timeline}
use Rattle.timeline.specs.Joined.{joined, join, AreTied}
use Rattle.undo_slots.specs.Slots.{Rows}
use Rattle.row_chains.specs.declared.link.Ends.{Ends}
use Rattle.row_chains.specs.Rows.{ends_in}
use Rattle.row_chains.proofs.TableLemmas.{listed-same}
use Rattle.mod_core.specs.declared.rows.TopRow.{TopRow}
use Rattle.mod_core.specs.declared.rows.ModRow.{ModRow}
use Rattle.mod_core.specs.declared.rows.NetRow.{NetRow}
use Rattle.mod_core.specs.declared.rows.InstRow.{InstRow}
use Rattle.mod_core.specs.inside.Linked.{mod_rows, mod_holders, net_rows, net_holders, net_of_row, net_shown, nets_from, inst_rows, inst_holders, Master, master_at, inst_of, inst_of_row, inst_shown, module_of_row, module_shown, table_from, table_of, Upper, upper, Lower, lower, within_of, whole_of}
use Rattle.mod_core.specs.inside.Good.{mod_face, net_face, inst_face, IsGood, IsWhole}
use Rattle.mod_core.specs.inside.Kept.{IsKept}
use Rattle.mod_core.specs.Mods.{name_at}

-- the names that were there keep their numbers
pub record Grows (names names' : List (List ℕ)) : Type 0 where
  pub more : length names ≤ length names'
  pub same : (n : ℕ) → n < length names → name_at names' n ≡ name_at names n

grown_names : (names : List (List ℕ)) (name : List ℕ) → Grows names (with_name names name)
grown_names names name = one (list_any (bytes_eq name) names)
  where
    one : (b : Bool) → Grows names (cond b names (names ++ name ∷ []))
    one true = record { more = omega arith; same = λ n few. refl }
    one false = record { more = longer (length names) (length (names ++ name ∷ [])) (length-append names (name ∷ [])); same = λ n few. get_or_append_left names (name ∷ []) [] n few }
      where
        longer : (a b : ℕ) → b ≡ a + 1 → a ≤ b
        longer a b e = omega arith

pub numbered_names : {T E : Type 0} (r : Result T E) (names names' : List (List ℕ)) (name : List ℕ) → OnOk r (names' ≡ with_name names name) → OnErr r (names' ≡ names) → Grows names names'
numbered_names (Ok x) names names' name ok err = subst (Grows names) (sym ok) (grown_names names name)
numbered_names (Err x) names names' name ok err = subst (Grows names) (sym err) (record { more = omega arith; same = λ n few. refl })

module _ (names names' : List (List ℕ)) (top : ℕ) (w : Grows names names') where
  less : (n : ℕ) → n < length names → n < length names'
  less n few = omega (arith, few, w.more)

  good_named : (up : Upper) (nets : Rows NetRow) → IsGood (length names) top up nets → IsGood (length names') top up nets
  good_named up nets g = record {
    root = g.root;
    rooted = g.rooted;
    alone = g.alone;
    modules = g.modules;
    nets_of = g.nets_of;
    ports_of = g.ports_of;
    mods_numbered = record { one = g.mods_numbered.one; below = g.mods_numbered.below; named = λ k a at. less a.name (g.mods_numbered.named k a at) };
    nets_numbered = record { one = g.nets_numbered.one; below = g.nets_numbered.below; named = λ k a at. less a.name (g.nets_numbered.named k a at); home = g.nets_numbered.home };
  }

  module _ (up : Upper) (nets : Rows NetRow) (within within' : Ends → List PInst) (inner : (k : ℕ) (r : ModRow) → rows.get up.mods k ≡ Some r → within' r.insts ≡ within r.insts) (g : IsGood (length names) top up nets) where
    net_named : (k : ℕ) (o : Option NetRow) → rows.get nets k ≡ o → option_map (net_of_row names') o ≡ option_map (net_of_row names) o
    net_named k None at = refl
    net_named k (Some r) at = λ i. Some (record (net_of_row names r) { name = w.same r.name (g.nets_numbered.named k (net_face r) (ap (option_map net_face) at)) i })

    nets_named : (k : ℕ) (r : ModRow) → rows.get up.mods k ≡ Some r → nets_from names' nets r.nets ≡ nets_from names nets r.nets
    nets_named k r at = listed-same net_rows nets nets (ends_in net_holders up.mods) g.nets_of (λ q. refl) (net_shown names nets) (net_shown names' nets) k r.nets (ap (option_map net_holders.ends_of) at) (λ q link l of. net_named q (rows.get nets q) refl)

    mod_named : (k : ℕ) (o : Option ModRow) → rows.get up.mods k ≡ o → option_map (module_of_row names' nets within') o ≡ option_map (module_of_row names nets within) o
    mod_named k None at = refl
    mod_named k (Some r) at = λ i. Some (record (module_of_row names nets within r) {
      name = w.same r.name (g.mods_numbered.named k (mod_face r) (ap (option_map mod_face) at)) i;
      nets = nets_named k r at i;
      insts = inner k r at i;
    })

    table_named : table_of names' top up nets within' ≡ table_of names top up nets within
    table_named =
        ap (table_from names' up.mods nets within') g.rooted
        ∙ (λ i. record {
          modules = listed-same mod_rows up.mods up.mods (ends_in mod_holders up.tops) g.modules (λ q. refl) (module_shown names up.mods nets within) (module_shown names' up.mods nets within') top g.root.modules (ap (option_map mod_holders.ends_of) g.rooted) (λ q link l of. mod_named q (rows.get up.mods q) refl) i;
          next_module = g.root.next_module;
        })
        ∙ sym (ap (table_from names up.mods nets within) g.rooted)

  module _ (low : Lower) (insts : Rows InstRow) (whole : IsWhole (length names) top low insts) where
    inst_named : (k : ℕ) (o : Option InstRow) → rows.get insts k ≡ o → option_and_then (inst_of_row names' (master_at low.up.mods low.nets)) o ≡ option_and_then (inst_of_row names (master_at low.up.mods low.nets)) o
    inst_named k None at = refl
    inst_named k (Some r) at = one (master_at low.up.mods low.nets r.user.owner)
      where
        one : (o : Option Master) → option_map (inst_of names' r) o ≡ option_map (inst_of names r) o
        one None = refl
        one (Some m) = λ i. Some (record (inst_of names r m) { name = w.same r.name (whole.insts_numbered.named k (inst_face r) (ap (option_map inst_face) at)) i })

    insts_named : (k : ℕ) (r : ModRow) → rows.get low.up.mods k ≡ Some r → within_of names' low.up.mods low.nets insts r.insts ≡ within_of names low.up.mods low.nets insts r.insts
    insts_named k r at = listed-same inst_rows insts insts (ends_in inst_holders low.up.mods) whole.insts_of (λ q. refl) (inst_shown names (master_at low.up.mods low.nets) insts) (inst_shown names' (master_at low.up.mods low.nets) insts) k r.insts (ap (option_map inst_holders.ends_of) at) (λ q link l of. inst_named q (rows.get insts q) refl)

    all_same : whole_of names' top low insts ≡ whole_of names top low insts
    all_same = table_named low.up low.nets (within_of names low.up.mods low.nets insts) (within_of names' low.up.mods low.nets insts) insts_named whole.good

    all_good : IsWhole (length names') top low insts
    all_good = record {
      good = good_named low.up low.nets whole.good;
      insts_of = whole.insts_of;
      users_of = whole.users_of;
      insts_numbered = record { one = whole.insts_numbered.one; below = whole.insts_numbered.below; named = λ k a at. less a.name (whole.insts_numbered.named k a at); home = whole.insts_numbered.home };
    }

  all_named : (xs : List (Moment Lower)) (ys : List (Moment (Rows InstRow))) → AreTied (IsWhole (length names) top) xs ys → AreTied (IsWhole (length names') top) xs ys
  all_named [] [] g = tt
  all_named [] (y ∷ ys) g = absurd g
  all_named (x ∷ xs) [] g = absurd g
  all_named (x ∷ xs) (y ∷ ys) g = (all_good x.value y.value g.0, all_named xs ys g.1)

  joined_named : (xs : List (Moment Lower)) (ys : List (Moment (Rows InstRow))) → AreTied (IsWhole (length names) top) xs ys → joined (whole_of names' top) xs ys ≡ joined (whole_of names top) xs ys
  joined_named [] ys g = refl
  joined_named (x ∷ xs) [] g = refl
  joined_named (x ∷ xs) (y ∷ ys) g = λ i. record { value = all_same x.value y.value g.0 i; writes = x.writes + y.writes } ∷ joined_named xs ys g.1 i

  module _ (tops : Timeline (Rows TopRow)) (mods : Timeline (Rows ModRow)) (nets : Timeline (Rows NetRow)) (insts : Timeline (Rows InstRow)) (k : IsKept names top tops mods nets insts) where
    abbrev low : Timeline Lower
    low = join lower (join upper tops mods) nets

    pub kept_named : IsKept names' top tops mods nets insts
    kept_named = record {
      heads = k.heads;
      middle = k.middle;
      all = record {
        opens = k.all.opens;
        now = all_good low.now insts.now k.all.now;
        base = all_good low.base insts.base k.all.base;
        past = all_named low.past insts.past k.all.past;
        future = all_named low.future insts.future k.all.future;
      };
    }

    pub whole_named : join (whole_of names' top) low insts ≡ join (whole_of names top) low insts
    whole_named = λ i. record (join (whole_of names top) low insts) {
      now = all_same low.now insts.now k.all.now i;
      base = all_same low.base insts.base k.all.base i;
      past = joined_named low.past insts.past k.all.past i;
      future = joined_named low.future insts.future k.all.future i;
    }
