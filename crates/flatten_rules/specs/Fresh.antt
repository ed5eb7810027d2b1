-- What is computed afresh, as lists of the parts of both domains.
use Rattle.emh_base.specs.declared.ids.ModId.{ModId}
use Rattle.emh_base.specs.declared.placement.Placement.{Placement}
use Rattle.emh_base.specs.declared.plain.Plain.{Plain}
use Rattle.emh_base.specs.Path.{path_cmp}
use Rattle.std.specs.FinMap as places
use Rattle.flatten_rules.specs.declared.domain.FreshOcc.{FreshOcc}
use Rattle.flatten_rules.specs.declared.domain.FreshBit.{FreshBit}
use Rattle.flatten_rules.specs.declared.domain.FreshInst.{FreshInst}
use Rattle.flatten_rules.specs.declared.domain.FreshPin.{FreshPin}
use Rattle.flatten_rules.specs.Unfolding.{Occurrence}
use Rattle.flatten_rules.specs.Domains.{NetBit, Pin, root_of, root_of_pin}

abbrev pub fresh_occ : Occurrence → FreshOcc
fresh_occ o = record { path = o.0; «module» = o.1 }

-- a net bit with its root
abbrev pub fresh_bit : Plain → ModId → NetBit → FreshBit
fresh_bit M top bit = record { path = bit.path; net = bit.net; offset = bit.offset; root = root_of M top bit }

-- a block instance with its placement
abbrev pub fresh_inst : places.FinMap path_cmp Placement → Occurrence → FreshInst
fresh_inst P o = record { path = o.0; master = o.1; placement = places.get P o.0 }

-- a pin with its root
abbrev pub fresh_pin : Plain → ModId → Pin → FreshPin
fresh_pin M top pin = record { path = pin.inst.0; port = pin.port; offset = pin.offset; root = root_of_pin M top pin }
