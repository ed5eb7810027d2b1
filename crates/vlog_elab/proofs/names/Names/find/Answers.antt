use Rattle.std.proofs.Common.{rules, ◌≡◌, sym, ◌∙◌, ap, bytes_eq}
use Rattle.std.specs.List.{position}
use Rattle.vlog_elab.specs.inside.Agree.{texts}
use Rattle.vlog_elab.specs.Named.{place_of}
use Rattle.vlog_elab.proofs.Naming.{position-place}
use Rattle.vlog_elab.proofs.names.Names.find.Goals as goal

pub returns-then-len-le-FEW : goal.returns-then-len-le-FEW
returns-then-len-le-FEW g c =
    let view : c.args.self.now ≡ texts c.self.inside.entries.items = search rules in
    let found : c.first_of.result ≡ position (λ e. bytes_eq c.args.name.now e.0.now) c.self.inside.entries.items = search rules in
    found ∙ position-place c.args.name.now c.self.inside.entries.items ∙ ap (λ es. place_of es c.args.name.now) (sym view)
