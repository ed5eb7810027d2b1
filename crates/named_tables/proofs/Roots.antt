-- Roots by names.
use Rattle.std.proofs.Common.{arith, ◌≡◌, ℕ, ◌≤◌, ◌==◌, Bool, true, false, List, [], ◌∷◌, length, reverse, Option, Some, None, option_map, unwrap_or, MatchOption, codes, refl, sym, ap, ◌∙◌, subst}
use Rattle.std.proofs.lemmas.List.{reverse-reverse, length-reverse}
use Rattle.emh_base.specs.declared.ids.ModId.{ModId}
use Rattle.emh_base.specs.declared.ids.NetId.{NetId}
use Rattle.emh_base.specs.declared.ids.InstId.{InstId}
use Rattle.emh_base.specs.declared.plain.Src.{Src}
use Rattle.emh_base.specs.declared.plain.Src.TheVariants as src
use Rattle.emh_base.specs.declared.plain.PNet.{PNet}
use Rattle.emh_base.specs.declared.plain.PInst.{PInst}
use Rattle.emh_base.specs.declared.plain.PModule.{PModule}
use Rattle.emh_base.specs.declared.plain.Plain.{Plain}
use Rattle.emh_base.specs.declared.root.Root.{Root}
use Rattle.emh_base.specs.declared.root.Root.TheVariants as root
use Rattle.flatten_rules.specs.Lookup.{module_of, net_of}
use Rattle.flatten_rules.specs.Unfolding.{module_up}
use Rattle.flatten_rules.specs.Domains.{NetBit, is_own}
use Rattle.flatten_rules.specs.Texts.{names_up, net_up, net_bit_text, root_text}
use Rattle.flatten_rules.specs.Root.{source_through, source_above, root_of_source, root_up, pin_root}
use Rattle.flatten_rules.specs.Sound.{IsSound, IsSoundModule, HasMaster, FitPorts}
use Rattle.flatten_rules.proofs.Sound.{All-find}
use Rattle.flatten_rules.proofs.Walks.{Step, last_step}
use Rattle.flatten_rules.proofs.BlockNets.{root-own, own-root}
use Rattle.named_tables.specs.NamedTable.{NamedSource, NamedInst, NamedTable, net_name, named_source, named_inst, named_module, named_table}
use Rattle.named_tables.specs.NamedTable.NamedSource.{Tie0, Tie1, Bit}
use Rattle.named_tables.proofs.Sources.{through, source-named, source-there}
use Rattle.named_tables.proofs.Stack.{Stack, stack, stack-step, master_at, bit_by, bit-text, module-at, sound-up}

abbrev pub text_by : List ℕ → (List ℕ → ℕ → List ℕ) → Option NamedSource → List ℕ
text_by own above None = own
text_by own above (Some Tie0) = codes "=0"
text_by own above (Some Tie1) = codes "=1"
text_by own above (Some (Bit net offset)) = above net offset

-- the text of the root of a net's bit
unfoldable pub root_by : NamedTable → List ℕ → Stack → List ℕ → ℕ → List ℕ
root_by T top [] net offset = bit_by T top [] net offset
root_by T top (i ∷ st) net offset = text_by (bit_by T top (i ∷ st) net offset) (λ n k. root_by T top st n k) (through T i net offset)

-- the text of the root of a pin's bit
abbrev pub pin_by : NamedTable → List ℕ → Stack → List ℕ → ℕ → List ℕ
pin_by T top [] net offset = codes "=open"
pin_by T top (i ∷ st) net offset = text_by (codes "=open") (λ n k. root_by T top st n k) (through T i net offset)

abbrev pub is_nothing : Option NamedSource → Bool
is_nothing None = true
is_nothing (Some s) = false

-- a net's bit is its own root
abbrev pub own_by : NamedTable → Stack → List ℕ → ℕ → Bool
own_by T [] net offset = true
own_by T (i ∷ st) net offset = is_nothing (through T i net offset)

-- one step of a walk in a sound table
pub record At (M : Plain) (top : ModId) (i : InstId) (up : List InstId) (m : PModule) : Type 0 where
  pub step : Step M top i up m
  pub fits : FitPorts step.holder m m.ports step.inst.conns
  pub above : (net : NetId) (offset : ℕ) → source_above M top (i ∷ up) net offset ≡ source_through step.inst m net offset

pub at-step : (M : Plain) (top : ModId) (i : InstId) (up : List InstId) (m : PModule) → IsSound M → module_up M top (i ∷ up) ≡ Some m → At M top i up m
unfolding module_up
at-step M top i up m sound leads =
    let step = last_step M top i up m leads in
    let s : IsSoundModule M step.holder = sound-up M top up step.holder sound step.above in
    let has : HasMaster M step.holder step.inst = All-find (HasMaster M step.holder) (λ (x : PInst). x.id.0 == i.0) step.holder.insts step.inst s.masters step.found in
    record {
      step = step;
      fits = subst (λ (o : Option PModule). MatchOption o ⊥ (λ master. FitPorts step.holder master master.ports step.inst.conns)) step.master has;
      above = λ net offset. rw (step.above, step.found, step.master) refl;
    }

-- what a source leads to
by_source : (M : Plain) (top : ModId) (path up : List InstId) (holder : PModule) (T : NamedTable) (first : List ℕ) (st : Stack) (own : List ℕ) (s : Option Src) (id : NetId) (offset : ℕ)
    → root_text M top (Some (root.Own (reverse path) id offset)) ≡ own
    → ((n : NetId) (k : ℕ) → s ≡ Some (src.Bit n k) → root_text M top (Some (root_up M top up n k)) ≡ root_by T first st (net_name (net_of holder n)) k)
    → root_text M top (Some (unwrap_or (option_map (root_of_source (λ n k. root_up M top up n k)) s) (root.Own (reverse path) id offset))) ≡ text_by own (λ n k. root_by T first st n k) (option_map (named_source holder) s)
by_source M top path up holder T first st own None id offset here there = here
by_source M top path up holder T first st own (Some src.Tie0) id offset here there = refl
by_source M top path up holder T first st own (Some src.Tie1) id offset here there = refl
by_source M top path up holder T first st own (Some (src.Bit n k)) id offset here there = there n k refl

pin_source : (M : Plain) (top : ModId) (up : List InstId) (holder : PModule) (T : NamedTable) (first : List ℕ) (st : Stack) (s : Option Src)
    → ((n : NetId) (k : ℕ) → s ≡ Some (src.Bit n k) → root_text M top (Some (root_up M top up n k)) ≡ root_by T first st (net_name (net_of holder n)) k)
    → root_text M top (option_map (root_of_source (λ n k. root_up M top up n k)) s) ≡ text_by (codes "=open") (λ n k. root_by T first st n k) (option_map (named_source holder) s)
pin_source M top up holder T first st None there = refl
pin_source M top up holder T first st (Some src.Tie0) there = refl
pin_source M top up holder T first st (Some src.Tie1) there = refl
pin_source M top up holder T first st (Some (src.Bit n k)) there = there n k refl

-- a root is not deeper than its bit
abbrev depth : Root → ℕ
depth root.Tie0 = 0
depth root.Tie1 = 0
depth (root.Own path net offset) = length path

root-short : (M : Plain) (top : ModId) (up : List InstId) (net : NetId) (offset : ℕ) → depth (root_up M top up net offset) ≤ length up
unfolding root_up
root-short M top [] net offset = omega arith
root-short M top (i ∷ up) net offset = at_s (λ n k. root-short M top up n k) (source_above M top (i ∷ up) net offset)
  where
    at_s : ((n : NetId) (k : ℕ) → depth (root_up M top up n k) ≤ length up) → (s : Option Src)
        → depth (unwrap_or (option_map (root_of_source (λ n k. root_up M top up n k)) s) (root.Own (reverse (i ∷ up)) net offset)) ≤ length (i ∷ up)
    at_s short None = omega (arith, length-reverse (i ∷ up))
    at_s short (Some src.Tie0) = omega arith
    at_s short (Some src.Tie1) = omega arith
    at_s short (Some (src.Bit n k)) = omega (arith, short n k)

not-own : (M : Plain) (top : ModId) (i : InstId) (up : List InstId) (net n : NetId) (offset k : ℕ) → is_own (record { path = reverse (i ∷ up); net = net; offset = offset }) (root_up M top up n k) ≡ false
not-own M top i up net n offset k = at_b (is_own bit (root_up M top up n k)) refl
  where
    bit : NetBit
    bit = record { path = reverse (i ∷ up); net = net; offset = offset }

    at_b : (b : Bool) → is_own (record { path = reverse (i ∷ up); net = net; offset = offset }) (root_up M top up n k) ≡ b → b ≡ false
    at_b false e = refl
    at_b true e =
        let is = root-own (record { path = reverse (i ∷ up); net = net; offset = offset }) (root_up M top up n k) e in
        absurd (omega (arith, root-short M top up n k, ap depth is, length-reverse (i ∷ up)))

own_source : (M : Plain) (top : ModId) (i : InstId) (up : List InstId) (holder : PModule) (s : Option Src) (id : NetId) (offset : ℕ)
    → is_own (record { path = reverse (i ∷ up); net = id; offset = offset }) (unwrap_or (option_map (root_of_source (λ n k. root_up M top up n k)) s) (root.Own (reverse (i ∷ up)) id offset)) ≡ is_nothing (option_map (named_source holder) s)
own_source M top i up holder None id offset = own-root (record { path = reverse (i ∷ up); net = id; offset = offset })
own_source M top i up holder (Some src.Tie0) id offset = refl
own_source M top i up holder (Some src.Tie1) id offset = refl
own_source M top i up holder (Some (src.Bit n k)) id offset = not-own M top i up id n offset k

root-cons : (M : Plain) (top : ModId) (i : InstId) (up : List InstId) (id : NetId) (offset : ℕ)
    → root_up M top (i ∷ up) id offset ≡ unwrap_or (option_map (root_of_source (λ n k. root_up M top up n k)) (source_above M top (i ∷ up) id offset)) (root.Own (reverse (i ∷ up)) id offset)
unfolding root_up
root-cons M top i up id offset = refl

by-cons : (T : NamedTable) (first : List ℕ) (i : NamedInst) (st : Stack) (net : List ℕ) (offset : ℕ)
    → root_by T first (i ∷ st) net offset ≡ text_by (bit_by T first (i ∷ st) net offset) (λ n k. root_by T first st n k) (through T i net offset)
unfolding root_by
by-cons T first i st net offset = refl

root-top : (M : Plain) (top : ModId) (first m : PModule) (id : NetId) (net : PNet) (offset : ℕ) → IsSound M → module_of M top ≡ Some first → module_up M top [] ≡ Some m → net_of m id ≡ Some net
    → root_text M top (Some (root_up M top [] id offset)) ≡ root_by (named_table M) first.name (stack M top []) net.name offset
unfolding root_up root_by stack
root-top M top first m id net offset sound found leads is = bit-text M top first [] m id net offset sound found leads is

pin-top : (M : Plain) (top : ModId) (first : List ℕ) (id : NetId) (net : List ℕ) (offset : ℕ) → root_text M top (pin_root M top [] id offset) ≡ pin_by (named_table M) first (stack M top []) net offset
unfolding stack
pin-top M top first id net offset = refl

own-top : (M : Plain) (top : ModId) (id : NetId) (net : List ℕ) (offset : ℕ) → is_own (record { path = reverse []; net = id; offset = offset }) (root_up M top [] id offset) ≡ own_by (named_table M) (stack M top []) net offset
unfolding root_up stack
own-top M top id net offset = own-root (record { path = []; net = id; offset = offset })

module _ (M : Plain) (top : ModId) (first : PModule) (sound : IsSound M) (found : module_of M top ≡ Some first) where
  through-at : (i : InstId) (up : List InstId) (m : PModule) (leads : module_up M top (i ∷ up) ≡ Some m) (at : At M top i up m) (id : NetId) (net : PNet) (offset : ℕ) → net_of m id ≡ Some net
      → option_map (named_source at.step.holder) (source_through at.step.inst m id offset) ≡ through (named_table M) (named_inst M at.step.holder at.step.inst) net.name offset
  through-at i up m leads at id net offset is =
      let st : stack M top (i ∷ up) ≡ named_inst M at.step.holder at.step.inst ∷ stack M top up = stack-step M top i up m at.step in
      let here : named_table M (named_inst M at.step.holder at.step.inst).master ≡ Some (named_module M m) =
      ap (λ s. named_table M (master_at first.name s)) (sym st) ∙ module-at M top first (i ∷ up) m sound found leads in
      source-named M at.step.holder at.step.inst m id net offset (sound-up M top (i ∷ up) m sound leads) here is

  pub root-text : (up : List InstId) (m : PModule) (id : NetId) (net : PNet) (offset : ℕ) → module_up M top up ≡ Some m → net_of m id ≡ Some net
      → root_text M top (Some (root_up M top up id offset)) ≡ root_by (named_table M) first.name (stack M top up) net.name offset
  root-text [] m id net offset leads is = root-top M top first m id net offset sound found leads is
  root-text (i ∷ up) m id net offset leads is =
      let at = at-step M top i up m sound leads in
      let inst : NamedInst = named_inst M at.step.holder at.step.inst in
      let st : stack M top (i ∷ up) ≡ inst ∷ stack M top up = stack-step M top i up m at.step in
      let own : root_text M top (Some (root.Own (reverse (i ∷ up)) id offset)) ≡ bit_by (named_table M) first.name (inst ∷ stack M top up) net.name offset =
      ap (λ p. net_bit_text (names_up M top p) (net_up M top p id) offset) (reverse-reverse (i ∷ up))
      ∙ bit-text M top first (i ∷ up) m id net offset sound found leads is
      ∙ ap (λ s. bit_by (named_table M) first.name s net.name offset) st in
      ap (λ r. root_text M top (Some r)) (root-cons M top i up id offset)
      ∙ ap (λ s. root_text M top (Some (unwrap_or (option_map (root_of_source (λ n k. root_up M top up n k)) s) (root.Own (reverse (i ∷ up)) id offset)))) (at.above id offset)
      ∙ by_source M top (i ∷ up) up at.step.holder (named_table M) first.name (stack M top up) (bit_by (named_table M) first.name (inst ∷ stack M top up) net.name offset) (source_through at.step.inst m id offset) id offset own
      (λ n k e. let there = source-there at.step.holder at.step.inst m id n offset k at.fits e in
      root-text up at.step.holder n there.0 k at.step.above there.1 ∙ sym (ap (λ o. root_by (named_table M) first.name (stack M top up) (net_name o) k) there.1))
      ∙ ap (text_by (bit_by (named_table M) first.name (inst ∷ stack M top up) net.name offset) (λ n k. root_by (named_table M) first.name (stack M top up) n k)) (through-at i up m leads at id net offset is)
      ∙ sym (by-cons (named_table M) first.name inst (stack M top up) net.name offset)
      ∙ ap (λ s. root_by (named_table M) first.name s net.name offset) (sym st)

  pub pin-text : (up : List InstId) (m : PModule) (id : NetId) (net : PNet) (offset : ℕ) → module_up M top up ≡ Some m → net_of m id ≡ Some net
      → root_text M top (pin_root M top up id offset) ≡ pin_by (named_table M) first.name (stack M top up) net.name offset
  pin-text [] m id net offset leads is = pin-top M top first.name id net.name offset
  pin-text (i ∷ up) m id net offset leads is =
      let at = at-step M top i up m sound leads in
      let inst : NamedInst = named_inst M at.step.holder at.step.inst in
      let st : stack M top (i ∷ up) ≡ inst ∷ stack M top up = stack-step M top i up m at.step in
      ap (λ s. root_text M top (option_map (root_of_source (λ n k. root_up M top up n k)) s)) (at.above id offset)
      ∙ pin_source M top up at.step.holder (named_table M) first.name (stack M top up) (source_through at.step.inst m id offset)
      (λ n k e. let there = source-there at.step.holder at.step.inst m id n offset k at.fits e in
      root-text up at.step.holder n there.0 k at.step.above there.1 ∙ sym (ap (λ o. root_by (named_table M) first.name (stack M top up) (net_name o) k) there.1))
      ∙ ap (text_by (codes "=open") (λ n k. root_by (named_table M) first.name (stack M top up) n k)) (through-at i up m leads at id net offset is)
      ∙ ap (λ s. pin_by (named_table M) first.name s net.name offset) (sym st)

  pub own-up : (up : List InstId) (m : PModule) (id : NetId) (net : PNet) (offset : ℕ) → module_up M top up ≡ Some m → net_of m id ≡ Some net
      → is_own (record { path = reverse up; net = id; offset = offset }) (root_up M top up id offset) ≡ own_by (named_table M) (stack M top up) net.name offset
  own-up [] m id net offset leads is = own-top M top id net.name offset
  own-up (i ∷ up) m id net offset leads is =
      let at = at-step M top i up m sound leads in
      let st : stack M top (i ∷ up) ≡ named_inst M at.step.holder at.step.inst ∷ stack M top up = stack-step M top i up m at.step in
      ap (is_own (record { path = reverse (i ∷ up); net = id; offset = offset })) (root-cons M top i up id offset)
      ∙ ap (λ s. is_own (record { path = reverse (i ∷ up); net = id; offset = offset }) (unwrap_or (option_map (root_of_source (λ n k. root_up M top up n k)) s) (root.Own (reverse (i ∷ up)) id offset))) (at.above id offset)
      ∙ own_source M top i up at.step.holder (source_through at.step.inst m id offset) id offset
      ∙ ap is_nothing (through-at i up m leads at id net offset is)
      ∙ ap (λ s. own_by (named_table M) s net.name offset) (sym st)
