use Rattle.std.proofs.Common.{◌≡◌, ◌∙◌, ap, sym, List, length, refl, arith, rules}
use Rattle.std.proofs.lemmas.Bool.{false≢true}
use Rattle.std.proofs.lemmas.List.{length_push}
use Rattle.std.proofs.lemmas.Slice.Zip.{zip_turn, zip_end}
use Rattle.std.specs.Slice.Iter.{iter_rest}
use Rattle.std.specs.Iterator.Adapters.{zip_first, zip_second}
use Rattle.emh_base.specs.declared.plain.PPort.{PPort}
use Rattle.emh_base.specs.declared.plain.Conn.{Conn}
use Rattle.flatten_rules.proofs.Checking.{fit-length, fit-misfit, fit-each_more, fit-from_each}
use Rattle.flatten_rules.proofs.master.fit_ports.Goals as goal

pub returns-then-ports-conns : goal.returns-then-ports-conns
returns-then-ports-conns c = (
  λ yes. absurd (false≢true yes),
  λ fit. absurd (c.if-ports-conns.true (ap length c.as_slice-ports.ensures ∙ fit-length c.args.holder.now c.args.master.now c.args.master.now.ports c.args.conns.now fit)),
)

pub returns-then-not-fits_port : goal.returns-then-not-fits_port
returns-then-not-fits_port c =
    let ports : List PPort = c.args.master.now.ports in
    let conns : List Conn = c.args.conns.now in
    let zipped = c.into_iter-port-iterator.result in
    let first : iter_rest (zip_first zipped) ≡ ports = search rules in
    let second : iter_rest (zip_second zipped) ≡ conns = search rules in
    let turn =
    zip_turn ports conns c.loop-port.yielded zipped c.loop-port.port-iterator c.next.new.self c.next.result first second
    c.loop-port.yielded_by (c.in-Some.port, c.in-Some.conn) c.in-Some.is c.next.ensures.steps
    in (
      λ yes. absurd (false≢true yes),
      λ fit. absurd (fit-misfit c.args.holder.now c.args.master.now ports conns (length c.loop-port.yielded) c.in-Some.port.now c.in-Some.conn.now
          c.fits_port.result turn.0 turn.2 turn.3 c.fits_port.ensures c.if-not-fits_port.true fit),
    )

pub loop-port-preserved : goal.loop-port-preserved
loop-port-preserved c =
    let ports : List PPort = c.args.master.now.ports in
    let conns : List Conn = c.args.conns.now in
    let zipped = c.into_iter-port-iterator.result in
    let first : iter_rest (zip_first zipped) ≡ ports = search rules in
    let second : iter_rest (zip_second zipped) ≡ conns = search rules in
    let turn =
    zip_turn ports conns c.loop-port.yielded zipped c.loop-port.port-iterator c.next.new.self c.next.result first second
    c.loop-port.yielded_by (c.in-Some.port, c.in-Some.conn) c.in-Some.is c.next.ensures.steps
    in
    rw (length_push c.loop-port.yielded (c.in-Some.port, c.in-Some.conn))
    (fit-each_more c.args.holder.now c.args.master.now ports conns (length c.loop-port.yielded) c.in-Some.port.now c.in-Some.conn.now
    c.loop-port.invariant turn.2 turn.3 (c.fits_port.ensures.0 c.if-not-fits_port.false))

pub returns : goal.returns
returns c =
    let ports : List PPort = c.args.master.now.ports in
    let conns : List Conn = c.args.conns.now in
    let zipped = c.into_iter-port-iterator.result in
    let first : iter_rest (zip_first zipped) ≡ ports = search rules in
    let second : iter_rest (zip_second zipped) ≡ conns = search rules in
    let ends =
    zip_end ports conns c.loop-port.yielded zipped c.loop-port.port-iterator c.next.new.self c.next.result first second
    c.loop-port.yielded_by c.in-None.is c.next.ensures.steps
    in
    let many : length ports ≡ length conns = sym (ap length c.as_slice-ports.ensures) ∙ c.if-ports-conns.false in (
      λ _. fit-from_each c.args.holder.now c.args.master.now ports conns many (λ k port conn within.
          c.loop-port.invariant.each k port conn (omega (arith, ends, many))),
      λ _. refl,
    )
