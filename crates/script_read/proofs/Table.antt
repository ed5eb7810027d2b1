-- Each row of the table gives what can be written.
use Rattle.std.proofs.Common.{◌≡◌, refl, sym, ◌∙◌, ap, ℕ, Bool, true, false, List, [], ◌∷◌, Option, Some, None, bytes_eq, if◌then◌else◌, option_and_then}
use Rattle.std.specs.List.{AllByRecursion}
use Rattle.emh_base.specs.Name.{IsName}
use Rattle.script_read.specs.declared.command.Command.{Command}
use Rattle.script_read.specs.declared.command.Command.TheVariants as command
use Rattle.script_read.specs.Word.{file_of, name_of, number_of, signed_of, path_of, dir_of, orient_of, status_of, range_of}
use Rattle.script_read.specs.Form.{Form, next, maybe, done, Row}
use Rattle.script_read.specs.Table.{netlist_rows, form_in, place_form, placement_form, height_form, standing_form, command_of}
use Rattle.script_read.specs.Written.{IsWritable, IsSigned}
use Rattle.script_read.proofs.Forms.{Gives, IsNumber, next_gives, done_gives, maybe_gives, bits_give, name_form_gives, two_names_give, three_names_give, report_gives, name_says, file_says, number_says, signed_says, path_says}

abbrev pub RowGives : Row → Type 0
RowGives row = Gives row.1

abbrev Any : {A : Type 0} → A → Type 0
Any value = Unit {0}

a_file : (form : List ℕ → Form) → ((file : List ℕ) → IsName file → Gives (form file)) → Gives (next file_of form)
a_file form gives = next_gives file_of IsName form file_says gives

a_name : (form : List ℕ → Form) → ((name : List ℕ) → IsName name → Gives (form name)) → Gives (next name_of form)
a_name form gives = next_gives name_of IsName form name_says gives

a_number : (form : ℕ → Form) → ((number : ℕ) → IsNumber number → Gives (form number)) → Gives (next number_of form)
a_number form gives = next_gives number_of IsNumber form number_says gives

a_path : (form : List (List ℕ) → Form) → ((path : List (List ℕ)) → AllByRecursion IsName path → Gives (form path)) → Gives (next path_of form)
a_path form gives = next_gives path_of (AllByRecursion IsName) form path_says gives

place_gives : Gives place_form
place_gives =
    a_path placement_form
    (λ p are. next_gives signed_of IsSigned (λ x. height_form p x) signed_says
    (λ x fits. next_gives signed_of IsSigned (λ y. standing_form p x y) signed_says
    (λ y fits'. next_gives orient_of Any (λ orient. next status_of (λ status. done (command.Place p x y orient status))) (λ word o same. tt)
    (λ o any. next_gives status_of Any (λ status. done (command.Place p x y o status)) (λ word s same. tt)
    (λ s any'. done_gives (command.Place p x y o s) (tt, (are, (fits, (fits', (tt, (tt, tt)))))))))))

gives_rows : AllByRecursion RowGives netlist_rows
gives_rows = (
  a_file _ (λ f is. name_form_gives (command.Load f) (λ n is'. (tt, (is, (is', tt))))),
  (
    a_file _ (λ f is. done_gives (command.Cells f) (tt, (is, tt))),
    (
      a_file _ (λ f is. done_gives (command.Write f) (tt, (is, tt))),
      (
        a_file _ (λ f is. name_form_gives (command.Compare f) (λ n is'. (tt, (is, (is', tt))))),
        (
          a_number _ (λ a is. a_number _ (λ b is'. a_number _ (λ c is''. done_gives (command.Generate a b c) (tt, (is, (is', (is'', tt))))))),
          (
            a_number _ (λ a is. a_number _ (λ b is'. done_gives (command.Churn a b) (tt, (is, (is', tt))))),
            (
              done_gives command.Undo (tt, tt),
              (
                done_gives command.Redo (tt, tt),
                (
                  name_form_gives command.Observe (λ n is. (tt, (is, tt))),
                  (
                    name_form_gives command.Ignore (λ n is. (tt, (is, tt))),
                    (
                      report_gives,
                      (
                        name_form_gives command.CreateModule (λ n is. (tt, (is, tt))),
                        (
                          name_form_gives command.DeleteModule (λ n is. (tt, (is, tt))),
                          (
                            two_names_give command.RenameModule (λ m n is is'. (tt, (is, (is', tt)))),
                            (
                              name_form_gives command.Lock (λ n is. (tt, (is, tt))),
                              (
                                name_form_gives command.Unlock (λ n is. (tt, (is, tt))),
                                (
                                  a_name _ (λ m is. a_name _ (λ n is'. maybe_gives (λ r. done (command.CreateNet m n r)) (λ r is''. done_gives (command.CreateNet m n r) (tt, (is, (is', (is'', tt))))))),
                                  (
                                    two_names_give command.DeleteNet (λ m n is is'. (tt, (is, (is', tt)))),
                                    (
                                      a_name _ (λ m is. a_name _ (λ n is'. next_gives dir_of Any (λ d. maybe range_of (λ r. done (command.CreatePort m n d r))) (λ word d same. tt) (λ d any. maybe_gives (λ r. done (command.CreatePort m n d r)) (λ r is''. done_gives (command.CreatePort m n d r) (tt, (is, (is', (tt, (is'', tt))))))))),
                                      (
                                        two_names_give command.DeletePort (λ m n is is'. (tt, (is, (is', tt)))),
                                        (
                                          three_names_give command.RenameNet (λ a b c x y z. (tt, (x, (y, (z, tt))))),
                                          (
                                            three_names_give command.CreateInst (λ a b c x y z. (tt, (x, (y, (z, tt))))),
                                            (
                                              two_names_give command.DeleteInst (λ m n is is'. (tt, (is, (is', tt)))),
                                              (
                                                a_name _ (λ m x. a_name _ (λ n y. a_name _ (λ p z. bits_give (command.Connect m n p) (λ of are. (tt, (x, (y, (z, (are, tt))))))))),
                                                (
                                                  three_names_give command.Disconnect (λ a b c x y z. (tt, (x, (y, (z, tt))))),
                                                  (
                                                    three_names_give command.RenameInst (λ a b c x y z. (tt, (x, (y, (z, tt))))),
                                                    (
                                                      three_names_give command.Resize (λ a b c x y z. (tt, (x, (y, (z, tt))))),
                                                      (
                                                        three_names_give command.Uniquify (λ a b c x y z. (tt, (x, (y, (z, tt))))),
                                                        (
                                                          place_gives,
                                                          (
                                                            a_path _ (λ p are. done_gives (command.Unplace p) (tt, (are, tt))),
                                                            (
                                                              a_number _ (λ a is. name_form_gives (command.SetFanout a) (λ n is'. (tt, (is, (is', tt))))),
                                                              (
                                                                a_number _ (λ a is. done_gives (command.SetGrid a) (tt, (is, tt))),
                                                                tt,
                                                              ),
                                                            ),
                                                          ),
                                                        ),
                                                      ),
                                                    ),
                                                  ),
                                                ),
                                              ),
                                            ),
                                          ),
                                        ),
                                      ),
                                    ),
                                  ),
                                ),
                              ),
                            ),
                          ),
                        ),
                      ),
                    ),
                  ),
                ),
              ),
            ),
          ),
        ),
      ),
    ),
  ),
)

by_test : (test : Bool) (x y : Option Command) (out : Command) → (x ≡ Some out → IsWritable out) → (y ≡ Some out → IsWritable out)
    → (if test then x else y) ≡ Some out → IsWritable out
by_test true x y out here there same = here same
by_test false x y out here there same = there same

form_in_gives : (table : List Row) → AllByRecursion RowGives table → (first : List ℕ) → Gives (form_in table first)
form_in_gives [] are first words out same = absurd (cc)
form_in_gives (row ∷ table) are first words out same =
    by_test (bytes_eq first row.0) (row.1 words) (form_in table first words) out (are.0 words out) (form_in_gives table are.1 first words out) same

-- what the words of a line ask for can be written
pub command_is_writable : Gives command_of
command_is_writable [] out same = absurd (cc)
command_is_writable (first ∷ words) out same = form_in_gives netlist_rows gives_rows first words out same
