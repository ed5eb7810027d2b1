-- The definitions tried: an inverter d drives a net n, on which are three of six others, at a limit
-- of two sinks.
use Rattle.std.specs.Prelude.{◌≡◌, ℕ, pos, negsuc, true, false, List, [], ◌∷◌, map, Some, None, codes}
use Rattle.std.specs.FinMap.{empty}
use Rattle.emh_base.specs.declared.ids.ModId.{ModId}
use Rattle.emh_base.specs.declared.plain.Dir.TheVariants.{Input, Output}
use Rattle.emh_base.specs.declared.plain.Src.TheVariants.{Bit}
use Rattle.emh_base.specs.declared.plain.Conn.{Conn}
use Rattle.emh_base.specs.declared.plain.Conn.TheVariants.{Open, Bits}
use Rattle.emh_base.specs.declared.plain.PNet.{PNet}
use Rattle.emh_base.specs.declared.plain.PInst.{PInst}
use Rattle.emh_base.specs.declared.plain.PModule.{PModule}
use Rattle.emh_base.specs.declared.state.State.{State}
use Rattle.emh_base.specs.declared.edit.Edit.{Edit}
use Rattle.emh_base.specs.declared.edit.Edit.TheVariants.{CreateNet, DeleteNet, CreateInst, Connect}
use Rattle.emh_base.specs.declared.edit.By.TheVariants.{User}
use Rattle.emh_base.specs.declared.edit.Change.{Change}
use Rattle.flatten_rules.specs.NetChanges.{create_net}
use Rattle.watch_kit.specs.Passed.{all_passed, NoneRefused}
use Rattle.watch_kit.specs.NetBits.{BitOf}
use Rattle.watch_kit.specs.Sinks.{Sink, sinks}
use Rattle.watch_kit.specs.Split.{split}
use Rattle.watch_kit.specs.FanoutLimit.{fanout_limit}
use Rattle.watch_kit.specs.Sweep.{sweep}
use Rattle.watch_kit.specs.Snap.{rounded}
use Rattle.watch_kit.specs.Restless.{turned}

abbrev net : ℕ → List ℕ → PNet
net n name = record { id = record { 0 = n }; name = name; range = None }

abbrev on : ℕ → Conn
on n = Bits (Bit (record { 0 = n }) 0 ∷ [])

abbrev cell : ℕ → List ℕ → PModule
cell n name = record {
  id = record { 0 = n };
  name = name;
  leaf = true;
  locked = false;
  nets = net 0 (codes "A") ∷ net 1 (codes "Y") ∷ [];
  ports = record { net = record { 0 = 0 }; dir = Input }
      ∷ record { net = record { 0 = 1 }; dir = Output } ∷ [];
  insts = [];
  next_net = 2;
  next_inst = 0;
}

abbrev inverter : ℕ → List ℕ → Conn → Conn → PInst
inverter n name from to = record {
  id = record { 0 = n };
  name = name;
  master = record { 0 = 0 };
  conns = from ∷ to ∷ [];
}

abbrev top : PModule
top = record {
  id = record { 0 = 2 };
  name = codes "t";
  leaf = false;
  locked = false;
  nets = net 0 (codes "i") ∷ net 1 (codes "n") ∷ [];
  ports = record { net = record { 0 = 0 }; dir = Input } ∷ [];
  insts = inverter 0 (codes "d") (on 0) (on 1)
      ∷ inverter 1 (codes "s1") (on 1) Open
      ∷ inverter 2 (codes "s2") (on 1) Open
      ∷ inverter 3 (codes "s3") (on 1) Open
      ∷ inverter 4 (codes "s4") Open Open
      ∷ inverter 5 (codes "s5") Open Open
      ∷ inverter 6 (codes "s6") Open Open ∷ [];
  next_net = 2;
  next_inst = 7;
}

unfoldable pub three_on_a_net : State
three_on_a_net = record {
  plain = record { modules = cell 0 (codes "INV") ∷ cell 1 (codes "BUF") ∷ top ∷ []; next_module = 3 };
  top = record { 0 = 2 };
  places = empty;
  settings = record { fanout = Some (record { max = 2; cell = record { 0 = 1 } }); grid = Some 10 };
}

abbrev pub at : ModId
at = record { 0 = 2 }

abbrev pub joined : ℕ → ℕ → ℕ → Edit
joined inst port n = Connect at (record { 0 = inst }) (record { 0 = port }) (Bit (record { 0 = n }) 0 ∷ [])

abbrev pub n : BitOf
n = record { net = record { 0 = 1 }; offset = 0 }

-- a Connect that was done
abbrev connected : Edit → List Conn → Change
connected e was = record { edit = e; by = User; was = was; made = None }

abbrev pub split_of_n : List Edit
split_of_n = split three_on_a_net at (record { max = 2; cell = record { 0 = 1 } }) n

-- the buffer takes over the second sink and the third
abbrev pub SplitsOnce : Type 0
SplitsOnce =
    split_of_n
    ≡ CreateNet at (codes "fo_n2") None ∷ CreateInst at (codes "fo_b7") (record { 0 = 1 })
    ∷ joined 7 0 1 ∷ joined 7 1 2 ∷ joined 2 0 2 ∷ joined 3 0 2 ∷ []

-- it is what the Connect of the third sink brings
abbrev pub AnswersThirdSink : Type 0
AnswersThirdSink = fanout_limit three_on_a_net (connected (joined 3 0 1) (Open ∷ [])) ≡ split_of_n

abbrev pub sink : ℕ → Sink
sink inst = record { inst = record { 0 = inst }; port = record { 0 = 0 }; offset = 0 }

-- no rule refuses an edit of it; then the first sink and the buffer are on the net
abbrev pub LeavesTwo : Type 0
LeavesTwo =
    NoneRefused three_on_a_net split_of_n
    × (sinks three_on_a_net.plain at n ≡ sink 1 ∷ sink 2 ∷ sink 3 ∷ [])
    × (sinks (all_passed three_on_a_net split_of_n).plain at n ≡ sink 1 ∷ sink 7 ∷ [])

-- with a net more, on which nothing is
abbrev with_left : State
with_left = record three_on_a_net {
  plain = create_net three_on_a_net.plain at (codes "left") None;
}

-- it is deleted once; the port's net and the one that sources name are kept
abbrev pub SweepsWhatIsLeft : Type 0
SweepsWhatIsLeft =
    sweep with_left (connected (joined 3 0 1) (on 2 ∷ on 0 ∷ on 1 ∷ on 2 ∷ []))
    ≡ DeleteNet at (record { 0 = 2 }) ∷ []

abbrev pub RoundsTowardZero : Type 0
RoundsTowardZero =
    map (rounded 10) (pos 13 ∷ negsuc 26 ∷ pos 20 ∷ negsuc 9 ∷ negsuc 4 ∷ [])
    ≡ pos 10 ∷ negsuc 19 ∷ pos 20 ∷ negsuc 9 ∷ pos 0 ∷ []

abbrev pub OtherEndings : Type 0
OtherEndings =
    (turned (codes "x_p") ≡ Some (codes "x_q"))
    × (turned (codes "_q") ≡ Some (codes "_p"))
    × (turned (codes "p") ≡ None)
