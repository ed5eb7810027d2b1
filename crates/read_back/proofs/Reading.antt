-- What is written of a sound table reads back.
use Rattle.std.proofs.Common.{false, sym, subst}
use Rattle.flatten_rules.specs.Lookup.{no_modules}
use Rattle.flatten_rules.specs.Sound.{IsSound}
use Rattle.flatten_rules.proofs.NoModules.{sound-no_modules}
use Rattle.named_tables.proofs.Lines.{flat_by_names}
use Rattle.vlog_read.specs.declared.tree.Tree.{Tree}
use Rattle.vlog_elab.specs.Elaboration.{Elaborates}
use Rattle.vlog_elab.specs.Reads.{Reads}
use Rattle.vlog_elab.proofs.Staying.{stays_sound}
use Rattle.vlog_elab.proofs.BareTrees.{places_do_not_matter}
use Rattle.vlog_elab.proofs.OneReading.{one-table, no-fault}
use Rattle.vlog_write.specs.TreeOf.{tree_of}
use Rattle.vlog_write.specs.Written.{written}
use Rattle.vlog_write.specs.Law.{IsTextOf, EachTableIsSpelled}
use Rattle.read_back.specs.Law.{EachTableReadsBack}
use Rattle.read_back.proofs.Table.{TreeReadsBack, tree-reads-back}
use Rattle.read_back.proofs.Counting.{countable}

pub each-reads-back : EachTableIsSpelled → EachTableReadsBack
each-reads-back spelled M sound named =
    let back : TreeReadsBack M = tree-reads-back M sound in
    let text : IsTextOf (tree_of M) (written M) = spelled M sound named in
    let bare_gives = subst (λ (tree : Tree). Elaborates no_modules false tree back.made) (sym text.same) back.elaborates in
    let reads : Reads no_modules false (written M) back.made =
    record { tree = text.spelled; has_tree = text.has_tree; elaborates = (places_do_not_matter no_modules false text.spelled back.made).1 bare_gives } in
    let made_sound : IsSound back.made = stays_sound no_modules false (tree_of M) back.made sound-no_modules (countable M sound) back.elaborates in
    record {
      made = back.made;
      reads = reads;
      only = λ plain other. one-table no_modules false (written M) plain back.made other reads;
      no_fault = λ fault has. no-fault no_modules false (written M) back.made fault reads has;
      sound = made_sound;
      same = back.same;
      flat = λ top other m n found found_made names.
          flat_by_names back.made M other top n m made_sound sound back.same found_made found names;
    }
