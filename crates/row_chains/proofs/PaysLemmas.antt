-- What several calls cost together.
use Rattle.std.proofs.Common.{◌≡◌, ℕ, ◌+◌, ◌≤◌, min, refl, sym, ap, subst, ◌∙◌, true, arith}
use Rattle.timeline.specs.Timeline.{Moment, Timeline}
use Rattle.timeline.specs.Joined.{join, AreTied, IsJoint}
use Rattle.row_chains.specs.Pays.{Pays}

module _ {X : Type 0} where
  pub Pays-none : (S : Timeline X) → Pays 0 S S
  Pays-none S = record { rest = refl; counted = omega arith; made = omega arith; rows = omega arith; spare = omega arith }

  -- one call after another
  pub Pays-then : (m n : ℕ) (S T U : Timeline X) → Pays m S T → Pays n T U → Pays (m + n) S U
  Pays-then m n S T U p q =
      let last : Timeline X → Timeline X = λ s. record s { now = U.now; writes = U.writes; spare_rows = U.spare_rows; spare_writes = U.spare_writes } in
      record {
        rest = q.rest ∙ ap last p.rest;
        counted = omega (arith, p.counted, q.counted);
        made = omega (arith, p.made, q.made);
        rows = omega (arith, p.rows, q.rows);
        spare = omega (arith, p.spare, q.spare);
      }

  pub Pays-more : (m n : ℕ) (S T : Timeline X) → m ≤ n → Pays m S T → Pays n S T
  Pays-more m n S T few p = record { rest = p.rest; counted = p.counted; made = omega (arith, few, p.made); rows = p.rows; spare = p.spare }

  pub paid_open : (m : ℕ) (S T : Timeline X) → Pays m S T → S.is_open ≡ true → T.is_open ≡ true
  paid_open m S T p e = ap (λ s. s.is_open) p.rest ∙ e

  -- what is left serves the calls that follow

  pub spare_left : (m n : ℕ) (S T : Timeline X) → Pays m S T → m + n ≤ S.spare_writes → n ≤ T.spare_writes
  spare_left m n S T p few = omega (arith, few, p.made, p.spare)

  pub rows_left : (m n : ℕ) (S T : Timeline X) → Pays m S T → m + n ≤ S.spare_rows → n ≤ T.spare_rows
  rows_left m n S T p few = omega (arith, few, p.made, p.rows)

module _ {X Y Z : Type 0} (see : X → Y → Z) where
  -- calls on two things are a call on both
  pub Pays-join : (m n : ℕ) (a a' : Timeline X) (b b' : Timeline Y) → Pays m a a' → Pays n b b' → Pays (m + n) (join see a b) (join see a' b')
  Pays-join m n a a' b b' p q =
      record {
        rest = λ i. join see (p.rest i) (q.rest i);
        counted = omega (arith, p.counted, q.counted);
        made = omega (arith, p.made, q.made);
        rows = omega (arith, p.rows, q.rows, p.counted, q.counted);
        spare = omega (arith, p.spare, q.spare, p.counted, q.counted);
      }

module _ {X Y : Type 0} (P : X → Y → Type 0) where
  -- what ties two things stays where it holds now
  pub IsJoint-paid : (m n : ℕ) (a a' : Timeline X) (b b' : Timeline Y) → IsJoint P a b → Pays m a a' → Pays n b b' → P a'.now b'.now → IsJoint P a' b'
  IsJoint-paid m n a a' b b' k p q now =
      let F : Timeline X → Type 0 = λ s. AreTied P s.past b'.past in
      let G : Timeline Y → Type 0 = λ s. AreTied P a.past s.past in
      let H : Timeline X → Type 0 = λ s. AreTied P s.future b'.future in
      let K : Timeline Y → Type 0 = λ s. AreTied P a.future s.future in
      let L : Timeline X → Type 0 = λ s. P s.base b'.base in
      let M : Timeline Y → Type 0 = λ s. P a.base s.base in
      record {
        opens = ap (λ s. s.is_open) p.rest ∙ k.opens ∙ sym (ap (λ s. s.is_open) q.rest);
        now = now;
        base = subst L (sym p.rest) (subst M (sym q.rest) k.base);
        past = subst F (sym p.rest) (subst G (sym q.rest) k.past);
        future = subst H (sym p.rest) (subst K (sym q.rest) k.future);
      }
