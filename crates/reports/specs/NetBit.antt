-- How the words that tell a net bit are looked up.
use Rattle.std.specs.Prelude.{ℕ, List, Option, Some, None, option_and_then, Ok, if◌then◌else◌}
use Rattle.emh_base.specs.declared.ids.ModId.{ModId}
use Rattle.emh_base.specs.declared.ids.NetId.{NetId}
use Rattle.emh_base.specs.declared.ids.InstId.{InstId}
use Rattle.emh_base.specs.declared.plain.Range.{Range}
use Rattle.emh_base.specs.declared.plain.PModule.{PModule}
use Rattle.emh_base.specs.declared.rule.Rule.TheVariants.{NoSuchOccurrence, BitOutOfRange}
use Rattle.emh_base.specs.declared.state.State.{State}
use Rattle.flatten_rules.specs.Domains.{NetBit}
use Rattle.edit_rules.specs.Facts.{net_range}
use Rattle.edit_rules.specs.Spots.{module_at}
use Rattle.script_read.specs.Resolve.{Looked, on, at_word, a_path, a_net, fits, offset_of}

-- a module that is no leaf
abbrev pub inner_id : Option PModule → Option ModId
inner_id None = None
inner_id (Some m) = if m.leaf then None else Some m.id

-- the module of the occurrence at a path; the nets of a leaf aren't told
abbrev pub an_inner : State → ℕ → List InstId → Looked ModId
an_inner S place path = at_word NoSuchOccurrence place (inner_id (module_at S.plain S.top path))

-- how far the bit stands from the left end of its net: a net with a range has one for each of its indices, a net
-- without a range has one and no index
abbrev pub offset_in : Option Range → Option ℕ → Option ℕ
offset_in None None = Some 0
offset_in None (Some index) = None
offset_in (Some range) None = None
offset_in (Some range) (Some index) =
    if fits range (record { left = index; right = index }) then Some (offset_of range index) else None

abbrev pub an_offset : State → ModId → NetId → ℕ → Option ℕ → Looked ℕ
an_offset S m net place index =
    at_word BitOutOfRange place (option_and_then (λ range. offset_in range index) (net_range S m net))

-- a net bit of the occurrence at a path: the net is looked up, then the index
abbrev pub a_bit_at : State → ℕ → List InstId → List ℕ → Option ℕ → Looked NetBit
a_bit_at S place path name index =
    on (an_inner S place path) (λ m.
    on (a_net S m place name) (λ net.
    on (an_offset S m net place index) (λ offset.
    Ok (record { path = path; net = net; offset = offset }))))

-- a net bit, by the word at a place, whose path is looked up first
abbrev pub a_net_bit : State → ℕ → List (List ℕ) → List ℕ → Option ℕ → Looked NetBit
a_net_bit S place names name index = on (a_path S place names) (λ path. a_bit_at S place path name index)
