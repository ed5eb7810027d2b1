-- Items, modules and the whole.
use Rattle.std.proofs.Common.{◌≡◌, refl, sym, ◌∙◌, ap, ℕ, Bool, List, [], ◌∷◌, ◌++◌, append_assoc, append-nil}
use Rattle.std.specs.Prelude.{Ok}
use Rattle.vlog_lex.specs.declared.token.Token.{Token}
use Rattle.vlog_read.specs.declared.tree.Tree.{Tree}
use Rattle.vlog_read.specs.declared.tree.TModule.{TModule}
use Rattle.vlog_read.specs.declared.tree.Item.{Item}
use Rattle.vlog_read.specs.declared.tree.Item.TheVariants.{Decl as Declaration, Insts}
use Rattle.vlog_read.specs.Grammar.{item, items, one_module, Source, the_end, cell, end_cell, next_module}
use Rattle.vlog_read.specs.Sentence.{Spells}
use Rattle.vlog_read.specs.inside.Machine.State.{State, SoFar, InModule, module_of, with_item, Top, InItems}
use Rattle.vlog_read.specs.inside.Machine.Step.{read, start}
use Rattle.vlog_read.proofs.Spelled.Decls.{decl_item, ports_read}
use Rattle.vlog_read.proofs.Spelled.Exprs.{insts_item}

item_read : (len : ℕ) (m : InModule) (i : Item) (T U : List Token) → item i T U
    → read len (InItems m) T ≡ read len (InItems (with_item m i)) U
item_read len m (Declaration d) T U (V, is, close) = decl_item len m d T V U is close
item_read len m (Insts master is) T U (V, a, (W, are, close)) = insts_item len m master is T V W U a are close

-- a module with these items, and with more items
abbrev pub items_of : InModule → List Item → InModule
items_of m is = record {
  modules = m.modules;
  current = record { name = m.current.name; marked = m.current.marked; header = m.current.header; items = is };
}

abbrev pub with_items : InModule → List Item → InModule
with_items m is = items_of m (m.current.items ++ is)

items_read : (len : ℕ) (m : InModule) (is : List Item) (T U : List Token) → items is T U
    → read len (InItems m) T ≡ read len (InItems (with_items m is)) U
items_read len m [] T U same = rw (same, append-nil m.current.items) refl
items_read len m (i ∷ is) T U (V, one, more) =
    item_read len m i T V one
    ∙ items_read len (with_item m i) is V U more
    ∙ ap (λ ks. read len (InItems (items_of m ks)) U) (append_assoc m.current.items (i ∷ []) is)

-- the modules so far and one more
abbrev pub with_module : SoFar → TModule → SoFar
with_module s m = record { modules = s.modules ++ m ∷ []; marked = m.marked }

module_read : (len : ℕ) (s : SoFar) (m : TModule) (T U : List Token) → m.marked ≡ s.marked → one_module m T U
    → read len (Top s) T ≡ read len (Top (with_module s m)) U
module_read len s m T U mark (V, (_, (_, a)), (W, (_, b), (X, ports_are, (Y, close, (Z, are, (_, (_, c))))))) =
    rw (a, b, mark) (ports_read len s m.name m.header W X Y ports_are close
    ∙ items_read len (module_of s m.name m.header) m.items Y Z are
    ∙ rw c refl)

abbrev top : List TModule → Bool → State
top ms marked = Top (record { modules = ms; marked = marked })

source_read : (len : ℕ) (before : List TModule) {marked : Bool} {ms : List TModule} {T : List Token}
    → Source marked ms T → read len (top before marked) T ≡ Ok (record { modules = before ++ ms })
source_read len before the_end = ap (λ ms. Ok (record { modules = ms })) (sym (append-nil before))
source_read len before (cell (_, (_, a)) rest) = rw a (source_read len before rest)
source_read len before (end_cell (_, (_, a)) rest) = rw a (source_read len before rest)
source_read len before {marked = marked} (next_module {m = m} {ms = ms} {T = T} {U = U} mark is rest) =
    module_read len (record { modules = before; marked = marked }) m T U mark is
    ∙ ap (λ b. read len (top (before ++ m ∷ []) b) U) mark
    ∙ source_read len (before ++ m ∷ []) rest
    ∙ ap (λ ks. Ok (record { modules = ks })) (append_assoc before (m ∷ []) ms)

pub spelled : (len : ℕ) (tree : Tree) (T : List Token) → Spells tree T → read len start T ≡ Ok tree
spelled len tree T is = source_read len [] is
