use Rattle.std.proofs.Common.{◌≡◌, map, ap, ◌∙◌, arith}
use Rattle.std.specs.List.{range_with_len}
use Rattle.emh_base.specs.declared.plain.Src.TheVariants.{Bit}
use Rattle.emh_base.specs.declared.plain.Conn.TheVariants.{Bits}
use Rattle.gen_design.specs.Made.{shifted_offset}
use Rattle.gen_design.proofs.Draws.{two-more}
use Rattle.gen_design.proofs.made.shifted.Goals as goal

pub loop-offset-preserved : goal.loop-offset-preserved
loop-offset-preserved c =
    two-more (λ offset. Bit (record { 0 = c.args.id }) offset) (shifted_offset c.args.width c.args.shift) c.loop-offset.offset c.loop-offset.bits c.push.new.self
    (Bit (record { 0 = c.args.id }) c.shifted_offset.result)
    c.loop-offset.invariant (ap (λ n. Bit (record { 0 = c.args.id }) n) c.shifted_offset.ensures) c.in_ok-push.ensures.ok

pub returns : goal.returns
returns c =
    let all : c.loop-offset.offset ≡ c.args.width = omega arith in
    ap Bits (c.loop-offset.invariant
    ∙ ap (λ n. map (λ offset. Bit (record { 0 = c.args.id }) offset) (map (shifted_offset c.args.width c.args.shift) (range_with_len 0 n))) all)
