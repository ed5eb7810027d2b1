-- Ids and names of modules and nets, after a change.
use Rattle.std.proofs.Common.{◌≡◌, ◌≢◌, ℕ, ◌+◌, ◌<◌, ◌≤◌, Option, Some, None, sym, ap, subst, ◌∙◌, inl, inr, arith}
use Rattle.std.proofs.lemmas.Bool.{cases_eq}
use Rattle.row_chains.proofs.KeyLemmas.{same_some, none_some}
use Rattle.mod_core.specs.inside.Good.{ModFace, NetFace, AreModsNumbered, AreNetsNumbered}

-- a module was there with its id, and has a name of the pool
pub record WasModule (count : ℕ) (face : ℕ → Option ModFace) (k : ℕ) (a : ModFace) : Type 0 where
  pub was : ModFace
  pub at : face k ≡ Some was
  pub id : was.id ≡ a.id
  pub named : a.name < count

-- a net was there with its id in its module
pub record WasNet (count : ℕ) (face : ℕ → Option NetFace) (k : ℕ) (a : NetFace) : Type 0 where
  pub was : NetFace
  pub at : face k ≡ Some was
  pub owner : was.owner ≡ a.owner
  pub id : was.id ≡ a.id
  pub named : a.name < count
  pub home : (owner : ℕ) → a.port_owner ≡ Some owner → owner ≡ a.owner

-- a module was there, with no higher counter
pub record WasCounted (mods : ℕ → Option ModFace) (o : ℕ) (a : ModFace) : Type 0 where
  pub was : ModFace
  pub at : mods o ≡ Some was
  pub counted : was.next_net ≤ a.next_net

module _ (count next : ℕ) (face face' : ℕ → Option ModFace) (n : AreModsNumbered count next face) where
  pub mods_from : ((k : ℕ) (a : ModFace) → face' k ≡ Some a → WasModule count face k a) → AreModsNumbered count next face'
  mods_from old = record {
    one = λ j k a b ja kb e. let p = old j a ja in let q = old k b kb in n.one j k p.was q.was p.at q.at (p.id ∙ e ∙ sym q.id);
    below = λ k a ka. let p = old k a ka in subst (λ i. i < next) p.id (n.below k p.was p.at);
    named = λ k a ka. (old k a ka).named;
  }

  pub mods_added : (key : ℕ) (f : ModFace) → face' key ≡ Some f → ((o : ℕ) → o ≢ key → face' o ≡ face o) → f.id ≡ next → f.name < count → AreModsNumbered count (next + 1) face'
  mods_added key f new others id few = record {
    one = λ j k a b ja kb e. elim (cases_eq j key) [
      | inl x ↦ elim (cases_eq k key) [
        | inl y ↦ x ∙ sym y
        | inr d ↦ absurd (higher b.id (n.below k b (sym (others k d) ∙ kb)) (sym e ∙ mine j a x ja))
      ]
      | inr c ↦ elim (cases_eq k key) [
        | inl y ↦ absurd (higher a.id (n.below j a (sym (others j c) ∙ ja)) (e ∙ mine k b y kb))
        | inr d ↦ n.one j k a b (sym (others j c) ∙ ja) (sym (others k d) ∙ kb) e
      ]
    ];
    below = λ k a ka. elim (cases_eq k key) [
      | inl e ↦ at_most a.id (mine k a e ka)
      | inr d ↦ more a.id (n.below k a (sym (others k d) ∙ ka))
    ];
    named = λ k a ka. elim (cases_eq k key) [
      | inl e ↦ subst (λ (z : ModFace). z.name < count) (same_some f a (sym new ∙ ap face' (sym e) ∙ ka)) few
      | inr d ↦ n.named k a (sym (others k d) ∙ ka)
    ];
  }
    where
      mine : (k : ℕ) (a : ModFace) → k ≡ key → face' k ≡ Some a → a.id ≡ next
      mine k a e ka = ap (λ (z : ModFace). z.id) (sym (same_some f a (sym new ∙ ap face' (sym e) ∙ ka))) ∙ id

      higher : (x : ℕ) → x < next → x ≡ next → ⊥
      higher x l e = omega arith

      at_most : (x : ℕ) → x ≡ next → x < next + 1
      at_most x e = omega arith

      more : (x : ℕ) → x < next → x < next + 1
      more x l = omega arith

module _ (count : ℕ) (mods mods' : ℕ → Option ModFace) (face face' : ℕ → Option NetFace) (n : AreNetsNumbered count mods face) where
  pub nets_from : ((k : ℕ) (a : NetFace) → face' k ≡ Some a → WasNet count face k a) → ((k : ℕ) (a : NetFace) (m : ModFace) → face k ≡ Some a → mods' a.owner ≡ Some m → WasCounted mods a.owner m) → AreNetsNumbered count mods' face'
  nets_from old counted = record {
    one = λ j k a b ja kb o e. let p = old j a ja in let q = old k b kb in n.one j k p.was q.was p.at q.at (p.owner ∙ o ∙ sym q.owner) (p.id ∙ e ∙ sym q.id);
    below = λ k a m ka om.
        let p = old k a ka in
        let c = counted k p.was m p.at (ap mods' p.owner ∙ om) in
        less a.id p.was.id c.was.next_net m.next_net (sym p.id) (n.below k p.was c.was p.at c.at) c.counted;
    named = λ k a ka. (old k a ka).named;
    home = λ k a owner ka at. (old k a ka).home owner at;
  }
    where
      less : (x y c d : ℕ) → x ≡ y → y < c → c ≤ d → x < d
      less x y c d e l m = omega arith

  -- a net comes, whose id is not below its module's counter
  pub nets_added : (key : ℕ) (f : NetFace) (m m' : ModFace) → face' key ≡ Some f → ((o : ℕ) → o ≢ key → face' o ≡ face o)
      → mods f.owner ≡ Some m → m.next_net ≤ f.id → mods' f.owner ≡ Some m' → f.id < m'.next_net → f.name < count → f.port_owner ≡ None
      → ((o : ℕ) (a : ModFace) → mods' o ≡ Some a → WasCounted mods o a) → AreNetsNumbered count mods' face'
  nets_added key f m m' new others was above is lower few alone counted = record {
    one = λ j k a b ja kb o e. elim (cases_eq j key) [
      | inl x ↦ elim (cases_eq k key) [
        | inl y ↦ x ∙ sym y
        | inr d ↦ absurd (old_differs k b d kb (ap (λ (z : NetFace). z.owner) (mine j a x ja) ∙ o) (ap (λ (z : NetFace). z.id) (mine j a x ja) ∙ e))
      ]
      | inr c ↦ elim (cases_eq k key) [
        | inl y ↦ absurd (old_differs j a c ja (ap (λ (z : NetFace). z.owner) (mine k b y kb) ∙ sym o) (ap (λ (z : NetFace). z.id) (mine k b y kb) ∙ sym e))
        | inr d ↦ n.one j k a b (sym (others j c) ∙ ja) (sym (others k d) ∙ kb) o e
      ]
    ];
    below = λ k a x ka ox. elim (cases_eq k key) [
      | inl e ↦
          let same = mine k a e ka in
          let held : m' ≡ x = same_some m' x (sym is ∙ ap (λ (z : NetFace). mods' z.owner) same ∙ ox) in
          lower_there f.id a.id m'.next_net x.next_net (ap (λ (z : NetFace). z.id) same) lower (ap (λ (z : ModFace). z.next_net) held)
      | inr d ↦
          let c = counted a.owner x ox in
          less a.id c.was.next_net x.next_net (n.below k a c.was (sym (others k d) ∙ ka) c.at) c.counted
    ];
    named = λ k a ka. elim (cases_eq k key) [
      | inl e ↦ subst (λ (z : NetFace). z.name < count) (mine k a e ka) few
      | inr d ↦ n.named k a (sym (others k d) ∙ ka)
    ];
    home = λ k a owner ka at. elim (cases_eq k key) [
      | inl e ↦ absurd (none_some owner (sym alone ∙ ap (λ (z : NetFace). z.port_owner) (mine k a e ka) ∙ at))
      | inr d ↦ n.home k a owner (sym (others k d) ∙ ka) at
    ];
  }
    where
      mine : (k : ℕ) (a : NetFace) → k ≡ key → face' k ≡ Some a → f ≡ a
      mine k a e ka = same_some f a (sym new ∙ ap face' (sym e) ∙ ka)

      less : (x c d : ℕ) → x < c → c ≤ d → x < d
      less x c d l m = omega arith

      lower_there : (x y c d : ℕ) → x ≡ y → x < c → c ≡ d → y < d
      lower_there x y c d e l m = omega arith

      clash : (x y c : ℕ) → y < c → c ≤ x → x ≡ y → ⊥
      clash x y c l m e = omega arith

      old_differs : (k : ℕ) (b : NetFace) → k ≢ key → face' k ≡ Some b → f.owner ≡ b.owner → f.id ≡ b.id → ⊥
      old_differs k b d kb o e = clash f.id b.id m.next_net (n.below k b m (sym (others k d) ∙ kb) (ap mods (sym o) ∙ was)) above e
