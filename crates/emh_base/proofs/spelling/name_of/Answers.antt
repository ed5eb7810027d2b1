use Rattle.std.proofs.Common.{subst}
use Rattle.emh_base.proofs.NameLemmas.{Refuses, refused_for_memory}
use Rattle.emh_base.proofs.spelling.name_of.Goals as goal

pub returns-in-Err-clause-err : goal.returns-in-Err-clause-err
returns-in-Err-clause-err c =
    let refuses : Refuses c.args.bytes.now c.new.result = record {
      empty = c.new.ensures.empty;
      too_long = c.new.ensures.too_long;
      bad_byte = c.new.ensures.bad_byte;
    } in
    let refused = refused_for_memory c.args.bytes.now c.in-Err.fault
    (subst (λ result. Refuses c.args.bytes.now result) c.in-Err.is refuses) in
    (λ is. refused.0 (c.spell_fault.ensures.0 is), λ name. c.spell_fault.ensures.1 (refused.1 name))
