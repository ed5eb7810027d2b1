use Rattle.std.proofs.Common.{[], ◌∷◌, ◌++◌, List, ap, ◌∙◌}
use Rattle.std.specs.List.{count_by}
use Rattle.emh_base.specs.declared.edit.Edit.{Edit}
use Rattle.emh_base.specs.declared.edit.Edit.TheVariants.{Connect}
use Rattle.emh_base.specs.declared.plain.Src.{Src}
use Rattle.watch_kit.specs.NetBits.{is_bit}
use Rattle.watch_kit.specs.Sinks.{join}
use Rattle.watch_kit.specs.Split.{moved}
use Rattle.watch_kit.specs.inside.Keys.{bit_of}
use Rattle.watch_kit.proofs.Moves.{stays-put, moves-on}
use Rattle.watch_kit.proofs.mover.Mover.move_port.Goals as goal

pub returns-then-sinks-self : goal.returns-then-sinks-self
returns-then-sinks-self c =
    let b = bit_of c.args.self.now.bit in
    stays-put c.args.self.now (join c.args.inst (c.args.port, c.args.conn.now)) c.count_in-sinks.result
    (c.count_in-sinks.ensures ∙ ap (count_by (is_bit b)) c.taken-sources.ensures) c.if-sinks-self.true

pub returns : goal.returns
returns c =
    let s = c.args.self.now in
    let b = bit_of s.bit in
    let sources = c.taken-sources.ensures in
    let edit : List Src → Edit = Connect s.module c.args.inst c.args.port.net in
    ap (λ (es : List Edit). record s { stay = 0; edits = es }) (c.in_ok-push.ensures.ok ∙ ap (λ (bits : List Src). s.edits ++ edit bits ∷ []) (c.in_ok-bits.ensures ∙ ap (moved b s.to s.stay) sources))
    ∙ moves-on s (join c.args.inst (c.args.port, c.args.conn.now)) c.count_in-sinks.result (c.count_in-sinks.ensures ∙ ap (count_by (is_bit b)) sources) c.if-sinks-self.false
