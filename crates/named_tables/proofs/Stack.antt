-- The instances on the way to an occurrence, by names, the last of them first.
use Rattle.std.proofs.Common.{◌≡◌, ℕ, List, [], ◌∷◌, ◌++◌, Option, Some, None, refl, sym, ap, ◌∙◌}
use Rattle.emh_base.specs.declared.ids.ModId.{ModId}
use Rattle.emh_base.specs.declared.ids.NetId.{NetId}
use Rattle.emh_base.specs.declared.ids.InstId.{InstId}
use Rattle.emh_base.specs.declared.plain.Range.{Range}
use Rattle.emh_base.specs.declared.plain.PNet.{PNet}
use Rattle.emh_base.specs.declared.plain.PInst.{PInst}
use Rattle.emh_base.specs.declared.plain.PModule.{PModule}
use Rattle.emh_base.specs.declared.plain.Plain.{Plain}
use Rattle.emh_base.specs.Text.{bit_text}
use Rattle.flatten_rules.specs.Lookup.{module_of, net_of, inst_of}
use Rattle.flatten_rules.specs.Unfolding.{module_up, inst_up}
use Rattle.flatten_rules.specs.Texts.{inst_name, names_up, net_up, net_bit_text}
use Rattle.flatten_rules.specs.Sound.{IsSound, IsSoundModule}
use Rattle.flatten_rules.proofs.Sound.{sound-module}
use Rattle.flatten_rules.proofs.Walks.{Step, last_step, up-own}
use Rattle.named_tables.specs.NamedTable.{NamedInst, NamedModule, NamedTable, named_inst, named_module, named_table, module_name}
use Rattle.named_tables.proofs.Names.{net-own, module-own}

abbrev pub Stack : Type 0
Stack = List NamedInst

abbrev pub inst_by : Plain → PModule → Option PInst → Stack → Stack
inst_by M holder None st = st
inst_by M holder (Some inst) st = named_inst M holder inst ∷ st

abbrev pub pushed : Plain → InstId → Option PModule → Stack → Stack
pushed M i None st = st
pushed M i (Some holder) st = inst_by M holder (inst_of holder i) st

unfoldable pub stack : Plain → ModId → List InstId → Stack
stack M top [] = []
stack M top (i ∷ up) = pushed M i (module_up M top up) (stack M top up)

abbrev pub names_of : Stack → List (List ℕ)
names_of [] = []
names_of (i ∷ st) = names_of st ++ i.name ∷ []

-- the name of the module at the end
abbrev pub master_at : List ℕ → Stack → List ℕ
master_at top [] = top
master_at top (i ∷ st) = i.master

abbrev pub range_at : Option NamedModule → List ℕ → Option (Option Range)
range_at None net = None
range_at (Some m) net = m.nets net

abbrev pub net_text : List (List ℕ) → List ℕ → Option (Option Range) → ℕ → List ℕ
net_text names net None offset = []
net_text names net (Some range) offset = bit_text names net range offset

-- the text of a bit of a net there
abbrev pub bit_by : NamedTable → List ℕ → Stack → List ℕ → ℕ → List ℕ
bit_by T top st net offset = net_text (names_of st) net (range_at (T (master_at top st)) net) offset

pub stack-step : (M : Plain) (top : ModId) (i : InstId) (up : List InstId) (m : PModule) (step : Step M top i up m) → stack M top (i ∷ up) ≡ named_inst M step.holder step.inst ∷ stack M top up
unfolding stack
stack-step M top i up m step = rw (step.above, step.found) refl

pub names-up : (M : Plain) (top : ModId) (up : List InstId) (m : PModule) → module_up M top up ≡ Some m → names_up M top up ≡ names_of (stack M top up)
unfolding names_up stack
names-up M top [] m leads = refl
names-up M top (i ∷ up) m leads =
    let step = last_step M top i up m leads in
    let at : inst_up M top i up ≡ Some step.inst = rw step.above step.found in
    ap (λ names. names ++ inst_name (inst_up M top i up) ∷ []) (names-up M top up step.holder step.above)
    ∙ ap (λ o. names_of (stack M top up) ++ inst_name o ∷ []) at
    ∙ sym (ap names_of (stack-step M top i up m step))

pub master-at : (M : Plain) (top : ModId) (first : PModule) (up : List InstId) (m : PModule) → module_of M top ≡ Some first → module_up M top up ≡ Some m → master_at first.name (stack M top up) ≡ m.name
unfolding module_up stack
master-at M top first [] m found leads = let both : Some first ≡ Some m = sym found ∙ leads in let same : first ≡ m = cc in ap (λ (x : PModule). x.name) same
master-at M top first (i ∷ up) m found leads =
    let step = last_step M top i up m leads in
    ap (master_at first.name) (stack-step M top i up m step) ∙ ap module_name step.master

-- the module at the end, in the table by names
pub module-at : (M : Plain) (top : ModId) (first : PModule) (up : List InstId) (m : PModule) → IsSound M → module_of M top ≡ Some first → module_up M top up ≡ Some m
    → named_table M (master_at first.name (stack M top up)) ≡ Some (named_module M m)
module-at M top first up m sound found leads =
    ap (named_table M) (master-at M top first up m found leads) ∙ module-own M m.id m sound (up-own M top up m leads)

pub sound-up : (M : Plain) (top : ModId) (up : List InstId) (m : PModule) → IsSound M → module_up M top up ≡ Some m → IsSoundModule M m
sound-up M top up m sound leads = sound-module M m.id m sound (up-own M top up m leads)

-- the text of a net bit is that by names
pub bit-text : (M : Plain) (top : ModId) (first : PModule) (up : List InstId) (m : PModule) (id : NetId) (net : PNet) (offset : ℕ)
    → IsSound M → module_of M top ≡ Some first → module_up M top up ≡ Some m → net_of m id ≡ Some net
    → net_bit_text (names_up M top up) (net_up M top up id) offset ≡ bit_by (named_table M) first.name (stack M top up) net.name offset
bit-text M top first up m id net offset sound found leads at =
    let here : net_up M top up id ≡ Some net = rw leads at in
    let range : range_at (named_table M (master_at first.name (stack M top up))) net.name ≡ Some net.range =
    ap (λ o. range_at o net.name) (module-at M top first up m sound found leads)
    ∙ rw (net-own M m id net (sound-up M top up m sound leads) at) refl in
    ap (λ names. net_bit_text names (net_up M top up id) offset) (names-up M top up m leads)
    ∙ ap (λ o. net_bit_text (names_of (stack M top up)) o offset) here
    ∙ sym (ap (λ o. net_text (names_of (stack M top up)) net.name o offset) range)
