use Rattle.script_read.proofs.Joined.{connect_line}
use Rattle.script_read.proofs.text.connect_text.Goals as goal

pub returns : goal.returns
returns c = connect_line c.args.module.now c.args.inst.now c.args.port.now c.in_ok-line.line c.put_bits.new.line c.args.bits.now (rw c.as_slice.ensures at c.in_ok-line.ensures) (rw c.as_slice-2.ensures at c.in_ok-put_bits.ensures)
