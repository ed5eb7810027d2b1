use Rattle.std.proofs.Common.{refl}
use Rattle.edit_rules.proofs.ApplyLemmas.{made_at, room_at}
use Rattle.edit_rules.proofs.apply.table_after.Goals as goal

pub create_module-requires : goal.create_module-requires
create_module-requires c = room_at c.args.plain.now _ _ _ c.in-CreateModule.is c.requires.room refl

pub create_net-requires-clause-room : goal.create_net-requires-clause-room
create_net-requires-clause-room c = room_at c.args.plain.now _ _ _ c.in-CreateNet.is c.requires.room refl

pub create_port-requires-clause-room : goal.create_port-requires-clause-room
create_port-requires-clause-room c = room_at c.args.plain.now _ _ _ c.in-CreatePort.is c.requires.room refl

pub create_inst-requires-clause-room : goal.create_inst-requires-clause-room
create_inst-requires-clause-room c = room_at c.args.plain.now _ _ _ c.in-CreateInst.is c.requires.room refl

pub uniquify-requires-clause-room : goal.uniquify-requires-clause-room
uniquify-requires-clause-room c = room_at c.args.plain.now _ _ _ c.in-Uniquify.is c.requires.room refl

pub returns-in-DeletePort : goal.returns-in-DeletePort
returns-in-DeletePort c = made_at c.args.plain.now _ _ c.delete_port.result c.in-DeletePort.is c.delete_port.ensures

pub returns-in-CreateInst : goal.returns-in-CreateInst
returns-in-CreateInst c = made_at c.args.plain.now _ _ c.create_inst.result c.in-CreateInst.is c.create_inst.ensures

pub returns-in-Connect : goal.returns-in-Connect
returns-in-Connect c = made_at c.args.plain.now _ _ c.connect.result c.in-Connect.is c.connect.ensures

pub returns-in-Disconnect : goal.returns-in-Disconnect
returns-in-Disconnect c = made_at c.args.plain.now _ _ c.disconnect.result c.in-Disconnect.is c.disconnect.ensures

pub returns-in-RenameInst : goal.returns-in-RenameInst
returns-in-RenameInst c = made_at c.args.plain.now _ _ c.rename_inst.result c.in-RenameInst.is c.rename_inst.ensures

pub returns-in-Resize : goal.returns-in-Resize
returns-in-Resize c = made_at c.args.plain.now _ _ c.with_master.result c.in-Resize.is c.with_master.ensures

pub returns-in-Uniquify : goal.returns-in-Uniquify
returns-in-Uniquify c = made_at c.args.plain.now _ _ c.uniquify.result c.in-Uniquify.is c.uniquify.ensures
