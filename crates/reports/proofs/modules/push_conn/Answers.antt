use Rattle.std.proofs.Common.{ℕ, List, [], ◌∷◌, ◌++◌, codes, ap, ◌∙◌}
use Rattle.std.specs.List.{flat_map}
use Rattle.std.proofs.lemmas.Result.{on_ok_weaker}
use Rattle.flatten_rules.specs.Lookup.{net_of}
use Rattle.reports.specs.Modules.{net_word, source_words}
use Rattle.reports.specs.inside.Spaced.{spaced}
use Rattle.reports.proofs.Kept.{join-spaced, five-parts}
use Rattle.reports.proofs.modules.push_conn.Goals as goal

pub returns-clause-ok : goal.returns-clause-ok
returns-clause-ok c =
    let name : List ℕ = net_word (net_of c.args.master.now c.args.port.net) in
    let sources : List ℕ = flat_map spaced (source_words c.args.holder.now c.args.conn.now) in
    rw (join-spaced name (source_words c.args.holder.now c.args.conn.now))
    (on_ok_weaker c.push.result (λ last.
    last
    ∙ ap (λ t. t ++ 10 ∷ []) (c.in_ok-push_sources.ensures.ok ∙ ap (λ t. t ++ sources) (c.in_ok-push_net_name.ensures.ok ∙ ap (λ n. c.extend.new.self ++ net_word n) c.net_of.ensures ∙ ap (λ t. t ++ name) c.in_ok-extend.ensures.ok))
    ∙ five-parts c.args.out.now (codes "conn ") name sources (10 ∷ []))
    c.push.ensures.ok)
