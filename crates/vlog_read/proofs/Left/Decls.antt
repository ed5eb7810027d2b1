-- Names, declarations and headers.
use Rattle.std.proofs.Common.{refl, sym, subst, Bool, true, false, List, [], ◌∷◌, ◌++◌, Option, Some, None, append_assoc, append-nil, inl, inr}
use Rattle.std.specs.Prelude.{IsSome}
use Rattle.emh_base.specs.declared.plain.Dir.{Dir}
use Rattle.vlog_lex.specs.declared.token.Token.{Token}
use Rattle.vlog_read.specs.declared.tree.Tree.{Tree}
use Rattle.vlog_read.specs.declared.tree.At.{At}
use Rattle.vlog_read.specs.declared.tree.Span.{Span}
use Rattle.vlog_read.specs.declared.tree.Header.TheVariants.{Names, Decls}
use Rattle.vlog_read.specs.declared.tree.Decl.{Decl}
use Rattle.vlog_read.specs.Words.{wire_word, left_parenthesis, right_parenthesis, comma, semicolon, left_bracket}
use Rattle.vlog_lex.specs.declared.token.TokenKind.TheVariants.{Mark}
use Rattle.vlog_read.specs.Grammar.{One, names, range, maybe_range, direction, decl}
use Rattle.vlog_read.specs.inside.Machine.State.{State, SoFar, DeclFor, ForHeader, ForItem, module_of, decl_of, span_of, AfterModuleName, FirstHeader, AfterHeaderName, HeaderDecl, AfterDir, AfterWire, DeclName, AfterDeclName}
use Rattle.vlog_read.specs.inside.Machine.Step.{ways, name_of, dir_of}
use Rattle.vlog_read.proofs.Left.Ends.{Ends, ◌and◌, ends_ports, ends_header, ends_module_name, ends_header_name, ends_decl, ends_decl_name, at_decl_name, ends_wire, ends_dir, at_header_decl}
use Rattle.vlog_read.proofs.Left.Tokens.{Chosen, by_mark, by_word, by_name, by_dir}

-- the token t leads from the state to one from which the tokens U lead to the tree
abbrev pub Follows : State → Tree → Token → List Token → Type 0
Follows s tree t U = Chosen (ways s t) (λ n. Ends n tree U)

-- the whole of a declaration, from its parts
left_names : (for : DeclFor) (d : Option Dir) (w : Bool) (r : Option Span) (tree : Tree) (T : List Token)
    → at_decl_name for (decl_of d w r []) tree T
    → (ns : List At) × (names ns and ends_decl for (decl_of d w r ns) tree) T
left_names for d w r tree T (n, (V, name_is, (ns, (W, more, rest)))) = (n ∷ ns, (W, (V, name_is, more), rest))

pub left_range : (for : DeclFor) (d : Option Dir) (w : Bool) (tree : Tree) (T : List Token)
    → ends_wire for (decl_of d w None []) tree T
    → (r : Option Span) × (ns : List At) × (U : List Token) × (V : List Token) × maybe_range r T U × names ns U V
    × ends_decl for (decl_of d w r ns) tree V
left_range for d w tree T (inl at_name) =
    let (ns, (V, names_are, rest)) = left_names for d w None tree T at_name in
    (None, ns, T, V, refl, names_are, rest)
left_range for d w tree T (inr (s, (U, range_is, at_name))) =
    let (ns, (V, names_are, rest)) = left_names for d w (Some s) tree U at_name in
    (Some s, ns, U, V, range_is, names_are, rest)

pub left_decl : (for : DeclFor) (d : Dir) (tree : Tree) (T U : List Token) → direction d T U → ends_dir for d tree U
    → (e : Decl) × IsSome e.dir × (decl e and ends_decl for e tree) T
left_decl for d tree T U dir_is (w, (V, wire_is, after)) =
    let (r, ns, W, X, range_is, names_are, rest) = left_range for (Some d) w tree V after in
    (decl_of (Some d) w r ns, refl, (X, (V, (U, dir_is, wire_is), (W, range_is, names_are)), rest))

-- a declaration that has all its names
whole_decl : (for : DeclFor) (d : Decl) (tree : Tree) (T : List Token) → ends_decl for d tree T
    → ends_decl_name for d tree T
whole_decl for d tree T rest =
    let P : List At → Type 0 = λ ns. ends_decl for (decl_of d.dir d.wire d.range ns) tree T in
    ([], (T, refl, subst P (sym (append-nil d.names)) rest))

-- one more name of a declaration
next_name : (for : DeclFor) (d : Decl) (tree : Tree) (t : Token) (U : List Token) → One (Mark comma) (t ∷ U) U
    → at_decl_name for d tree U → ends_decl_name for d tree (t ∷ U)
next_name for d tree t U comma_is (n, (V, name_is, (ns, (W, more, rest)))) =
    let P : List At → Type 0 = λ ks. ends_decl for (decl_of d.dir d.wire d.range ks) tree W in
    (n ∷ ns, (W, (U, comma_is, (V, name_is, more)), subst P (append_assoc d.names (n ∷ []) ns) rest))

-- one more declaration of a header
next_decl : (s : SoFar) (n : At) (ds : List Decl) (d : Decl) (tree : Tree) (t : Token) (U : List Token)
    → One (Mark comma) (t ∷ U) U → at_header_decl s n ds d tree U
    → ends_decl_name (ForHeader s n ds) d tree (t ∷ U)
next_decl s n ds d tree t U comma_is (inl at_name) = next_name (ForHeader s n ds) d tree t U comma_is at_name
next_decl s n ds d tree t U comma_is (inr (e, (V, dir_is, after))) =
    let (f, some, (W, decl_is, (fs, (X, more, close)))) =
    left_decl (ForHeader s n (ds ++ d ∷ [])) e tree U V dir_is after in
    let P : List Decl → Type 0 = λ ks. ends_header s n (Decls ks) tree X in
    let close' : P (ds ++ d ∷ f ∷ fs) = subst P (append_assoc ds (d ∷ []) (f ∷ fs)) close in
    whole_decl (ForHeader s n ds) d tree (t ∷ U) (f ∷ fs, (X, (U, comma_is, (W, (some, decl_is), more)), close'))

pub back_decl_name : (for : DeclFor) (d : Decl) (tree : Tree) (t : Token) (U : List Token)
    → Follows (DeclName for d) tree t U → at_decl_name for d tree (t ∷ U)
back_decl_name for d tree t U (inl (a, rest)) = (name_of t, (U, by_name t U a, rest))
back_decl_name for d tree t U (inr none) = absurd none

pub back_after_decl_name : (for : DeclFor) (d : Decl) (tree : Tree) (t : Token) (U : List Token)
    → Follows (AfterDeclName for d) tree t U → ends_decl_name for d tree (t ∷ U)
back_after_decl_name (ForHeader s n ds) d tree t U (inl (a, rest)) =
    next_decl s n ds d tree t U (by_mark comma t U a) rest
back_after_decl_name (ForHeader s n ds) d tree t U (inr (inl (a, rest))) =
    whole_decl (ForHeader s n ds) d tree (t ∷ U) ([], (t ∷ U, refl, (U, by_mark right_parenthesis t U a, rest)))
back_after_decl_name (ForHeader s n ds) d tree t U (inr (inr none)) = absurd none
back_after_decl_name (ForItem m) d tree t U (inl (a, rest)) =
    next_name (ForItem m) d tree t U (by_mark comma t U a) rest
back_after_decl_name (ForItem m) d tree t U (inr (inl (a, rest))) =
    whole_decl (ForItem m) d tree (t ∷ U) (U, by_mark semicolon t U a, rest)
back_after_decl_name (ForItem m) d tree t U (inr (inr none)) = absurd none

pub back_after_wire : (for : DeclFor) (d : Decl) (tree : Tree) (t : Token) (U : List Token)
    → Follows (AfterWire for d) tree t U → ends_wire for d tree (t ∷ U)
back_after_wire for d tree t U (inl (a, (left, at, (A, left_is, (B, colon_is, (right, (C, right_is, close))))))) =
    let (D, close_is, rest) = close in
    let s : Span = span_of left right at in
    let range_is : range s (t ∷ U) D =
    (U, by_mark left_bracket t U a, (A, left_is, (B, colon_is, (C, right_is, close_is)))) in
    inr (s, (D, range_is, rest))
back_after_wire for d tree t U (inr h) = inl (back_decl_name for d tree t U h)

pub back_after_dir : (for : DeclFor) (d : Dir) (tree : Tree) (t : Token) (U : List Token)
    → Follows (AfterDir for d) tree t U → ends_dir for d tree (t ∷ U)
back_after_dir for d tree t U (inl (a, rest)) = (true, (U, by_word wire_word t U a, rest))
back_after_dir for d tree t U (inr h) =
    (false, (t ∷ U, refl, back_after_wire for (decl_of (Some d) false None []) tree t U h))

pub back_header_decl : (s : SoFar) (n : At) (ds : List Decl) (d : Decl) (tree : Tree) (t : Token) (U : List Token)
    → Follows (HeaderDecl s n ds d) tree t U → at_header_decl s n ds d tree (t ∷ U)
back_header_decl s n ds d tree t U (inl (a, rest)) = inr (dir_of t.kind, (U, by_dir t U a, rest))
back_header_decl s n ds d tree t U (inr h) = inl (back_decl_name (ForHeader s n ds) d tree t U h)

pub back_after_header_name : (s : SoFar) (n : At) (ns : List At) (tree : Tree) (t : Token) (U : List Token)
    → Follows (AfterHeaderName s n ns) tree t U → ends_header_name s n ns tree (t ∷ U)
back_after_header_name s n ns tree t U (inl (a, (m, (V, name_is, (ms, (W, more, close)))))) =
    let P : List At → Type 0 = λ ks. ends_header s n (Names ks) tree W in
    (m ∷ ms, (W, (U, by_mark comma t U a, (V, name_is, more)), subst P (append_assoc ns (m ∷ []) ms) close))
back_after_header_name s n ns tree t U (inr (inl (a, rest))) =
    let P : List At → Type 0 = λ ks. ends_ports (module_of s n (Names ks)) tree U in
    ([], (t ∷ U, refl, (U, by_mark right_parenthesis t U a, subst P (sym (append-nil ns)) rest)))
back_after_header_name s n ns tree t U (inr (inr none)) = absurd none

pub back_first_header : (s : SoFar) (n : At) (tree : Tree) (t : Token) (U : List Token)
    → Follows (FirstHeader s n) tree t U → Ends (FirstHeader s n) tree (t ∷ U)
back_first_header s n tree t U (inl (a, (ms, (V, more, close)))) =
    (Names (name_of t ∷ ms), (V, (U, by_name t U a, more), close))
back_first_header s n tree t U (inr (inl (a, rest))) =
    let (d, some, (V, decl_is, (ds, (W, more, close)))) =
    left_decl (ForHeader s n []) (dir_of t.kind) tree (t ∷ U) U (by_dir t U a) rest in
    (Decls (d ∷ ds), (W, (V, (some, decl_is), more), close))
back_first_header s n tree t U (inr (inr (inl (a, rest)))) =
    (Names [], (t ∷ U, refl, (U, by_mark right_parenthesis t U a, rest)))
back_first_header s n tree t U (inr (inr (inr none))) = absurd none

pub back_after_module_name : (s : SoFar) (n : At) (tree : Tree) (t : Token) (U : List Token)
    → Follows (AfterModuleName s n) tree t U → ends_module_name s n tree (t ∷ U)
back_after_module_name s n tree t U (inl (a, (h, (V, header_is, (W, close, rest))))) =
    (h, (W, inr (U, by_mark left_parenthesis t U a, (V, header_is, close)), rest))
back_after_module_name s n tree t U (inr (inl (a, rest))) =
    (Names [], (t ∷ U, inl (refl, refl), (U, by_mark semicolon t U a, rest)))
back_after_module_name s n tree t U (inr (inr none)) = absurd none
