-- Names, declarations and headers.
use Rattle.std.proofs.Common.{◌≡◌, refl, ◌∙◌, ap, ℕ, Bool, true, false, List, [], ◌∷◌, ◌++◌, Option, Some, None, append_assoc, append-nil, inl, inr}
use Rattle.emh_base.specs.declared.plain.Dir.{Dir}
use Rattle.emh_base.specs.declared.plain.Dir.TheVariants.{Input, Output, Inout}
use Rattle.vlog_lex.specs.declared.token.Token.{Token}
use Rattle.vlog_lex.specs.declared.token.TokenKind.TheVariants.{Mark}
use Rattle.vlog_read.specs.declared.tree.At.{At}
use Rattle.vlog_read.specs.declared.tree.Span.{Span}
use Rattle.vlog_read.specs.declared.tree.Header.{Header}
use Rattle.vlog_read.specs.declared.tree.Header.TheVariants.{Names, Decls}
use Rattle.vlog_read.specs.declared.tree.Decl.{Decl}
use Rattle.vlog_read.specs.declared.tree.Item.TheVariants.{Decl as Declaration}
use Rattle.vlog_read.specs.Words.{wire_word, right_parenthesis, semicolon}
use Rattle.vlog_read.specs.Grammar.{One, name, names, more_names, range, maybe_range, direction, maybe_wire, decl, port_decl, more_port_decls, header, ports}
use Rattle.vlog_read.specs.inside.Machine.State.{SoFar, InModule, DeclFor, ForHeader, ForItem, module_of, with_item, decl_of, with_range, with_name, AfterModuleName, FirstHeader, AfterHeaderName, HeaderDecl, AfterPorts, AfterDir, AfterWire, DeclName, AfterDeclName, InItems}
use Rattle.vlog_read.specs.inside.Machine.Step.{is_word, read}
use Rattle.vlog_read.specs.inside.Machine.Reads.{IsNext}
use Rattle.vlog_read.proofs.Passing.{no_wire}

-- a declaration with more names
abbrev pub with_names : Decl → List At → Decl
with_names d ns = decl_of d.dir d.wire d.range (d.names ++ ns)

pub more_header_names : (len : ℕ) (s : SoFar) (n : At) (ns ms : List At) (T U : List Token) → more_names ms T U
    → read len (AfterHeaderName s n ns) T ≡ read len (AfterHeaderName s n (ns ++ ms)) U
more_header_names len s n ns [] T U same = rw (same, append-nil ns) refl
more_header_names len s n ns (m ∷ ms) T U (V, (_, (_, a)), (W, (_, b), more)) =
    rw (a, b) (more_header_names len s n (ns ++ m ∷ []) ms W U more
    ∙ ap (λ ks. read len (AfterHeaderName s n ks) U) (append_assoc ns (m ∷ []) ms))

pub more_decl_names : (len : ℕ) (for : DeclFor) (d : Decl) (ms : List At) (T U : List Token) → more_names ms T U
    → read len (AfterDeclName for d) T ≡ read len (AfterDeclName for (with_names d ms)) U
more_decl_names len for d [] T U same = rw (same, append-nil d.names) refl
more_decl_names len (ForHeader s n ds) d (m ∷ ms) T U (V, (_, (_, a)), (W, (_, b), more)) =
    rw (a, b) (more_decl_names len (ForHeader s n ds) (with_name d m) ms W U more
    ∙ ap (λ ks. read len (AfterDeclName (ForHeader s n ds) (decl_of d.dir d.wire d.range ks)) U)
    (append_assoc d.names (m ∷ []) ms))
more_decl_names len (ForItem i) d (m ∷ ms) T U (V, (_, (_, a)), (W, (_, b), more)) =
    rw (a, b) (more_decl_names len (ForItem i) (with_name d m) ms W U more
    ∙ ap (λ ks. read len (AfterDeclName (ForItem i) (decl_of d.dir d.wire d.range ks)) U)
    (append_assoc d.names (m ∷ []) ms))

-- a range
range_read : (len : ℕ) (for : DeclFor) (d : Decl) (s : Span) (T U : List Token) → range s T U
    → read len (AfterWire for d) T ≡ read len (DeclName for (with_range d s)) U
range_read len for d s T U (A, (_, (_, a)), (B, (_, b), (C, (_, (_, c)), (D, (_, (_, e)), (_, (_, f)))))) =
    rw (a, b, c, e, f) refl

-- a range that may be missing, and a name
range_name : (len : ℕ) (for : DeclFor) (d : Option Dir) (w : Bool) (r : Option Span) (n : At) (T V U : List Token)
    → maybe_range r T V → name n V U
    → read len (AfterWire for (decl_of d w None [])) T ≡ read len (AfterDeclName for (decl_of d w r (n ∷ []))) U
range_name len for d w None n T V U same (_, e) = rw (same, e) refl
range_name len for d w (Some s) n T V U range_is (_, e) =
    range_read len for (decl_of d w None []) s T V range_is ∙ rw e refl

-- they begin with no word
no_word : (row : ℕ) (r : Option Span) (n : At) (T V U : List Token) → maybe_range r T V → name n V U
    → IsNext (is_word row) T ≡ false
no_word row None n T V U same (_, e) = rw (same, e) refl
no_word row (Some s) n T V U (A, (_, (_, a)), rest) name_is = rw a refl

-- the same after a direction and a `wire` that may be missing
wire_range_name : (len : ℕ) (for : DeclFor) (d : Dir) (w : Bool) (r : Option Span) (n : At) (T V W U : List Token)
    → maybe_wire w T V → maybe_range r V W → name n W U
    → read len (AfterDir for d) T ≡ read len (AfterDeclName for (decl_of (Some d) w r (n ∷ []))) U
wire_range_name len for d true r n T V W U (_, (_, a)) range_is name_is =
    rw a (range_name len for (Some d) true r n V W U range_is name_is)
wire_range_name len for d false r n T V W U same range_is name_is =
    rw same (no_wire len for d V (no_word wire_word r n V W U range_is name_is)
    ∙ range_name len for (Some d) false r n V W U range_is name_is)

-- a declaration from the state after its direction
rest_of_decl : (len : ℕ) (for : DeclFor) (d : Dir) (w : Bool) (r : Option Span) (ns : List At) (T V W U : List Token)
    → maybe_wire w T V → maybe_range r V W → names ns W U
    → read len (AfterDir for d) T ≡ read len (AfterDeclName for (decl_of (Some d) w r ns)) U
rest_of_decl len for d w r [] T V W U wire_is range_is none = absurd none
rest_of_decl len for d w r (n ∷ ns) T V W U wire_is range_is (X, name_is, more) =
    wire_range_name len for d w r n T V W X wire_is range_is name_is
    ∙ more_decl_names len for (decl_of (Some d) w r (n ∷ [])) ns X U more

-- the direction of an item
item_dir : (len : ℕ) (m : InModule) (d : Dir) (T U : List Token) → direction d T U
    → read len (InItems m) T ≡ read len (AfterDir (ForItem m) d) U
item_dir len m Input T U (_, (_, e)) = rw e refl
item_dir len m Output T U (_, (_, e)) = rw e refl
item_dir len m Inout T U (_, (_, e)) = rw e refl

-- a declaration of a module
item_decl : (len : ℕ) (m : InModule) (d : Option Dir) (w : Bool) (r : Option Span) (ns : List At) (T U : List Token)
    → decl (decl_of d w r ns) T U
    → read len (InItems m) T ≡ read len (AfterDeclName (ForItem m) (decl_of d w r ns)) U
item_decl len m (Some d) w r ns T U (V, (W, dir_is, wire_is), (X, range_is, names_are)) =
    item_dir len m d T W dir_is ∙ rest_of_decl len (ForItem m) d w r ns W V X U wire_is range_is names_are
item_decl len m None false r ns T U (V, none, rest) = absurd none
item_decl len m None true r [] T U (V, a, (X, range_is, none)) = absurd none
item_decl len m None true r (n ∷ ns) T U (V, (_, (_, a)), (X, range_is, (Y, name_is, more))) =
    rw a (range_name len (ForItem m) None true r n V X Y range_is name_is
    ∙ more_decl_names len (ForItem m) (decl_of None true r (n ∷ [])) ns Y U more)

pub decl_item : (len : ℕ) (m : InModule) (d : Decl) (T V U : List Token) → decl d T V → One (Mark semicolon) V U
    → read len (InItems m) T ≡ read len (InItems (with_item m (Declaration d))) U
decl_item len m d T V U decl_is (_, (_, e)) = item_decl len m d.dir d.wire d.range d.names T V decl_is ∙ rw e refl

-- the directions of a header
first_dir : (len : ℕ) (s : SoFar) (n : At) (d : Dir) (T U : List Token) → direction d T U
    → read len (FirstHeader s n) T ≡ read len (AfterDir (ForHeader s n []) d) U
first_dir len s n Input T U (_, (_, e)) = rw e refl
first_dir len s n Output T U (_, (_, e)) = rw e refl
first_dir len s n Inout T U (_, (_, e)) = rw e refl

later_dir : (len : ℕ) (s : SoFar) (n : At) (ds : List Decl) (before : Decl) (d : Dir) (T U : List Token)
    → direction d T U
    → read len (HeaderDecl s n ds before) T ≡ read len (AfterDir (ForHeader s n (ds ++ before ∷ [])) d) U
later_dir len s n ds before Input T U (_, (_, e)) = rw e refl
later_dir len s n ds before Output T U (_, (_, e)) = rw e refl
later_dir len s n ds before Inout T U (_, (_, e)) = rw e refl

-- the first declaration of a header, and a later one
first_decl : (len : ℕ) (s : SoFar) (n : At) (d : Option Dir) (w : Bool) (r : Option Span) (ns : List At)
    (T U : List Token) → port_decl (decl_of d w r ns) T U
    → read len (FirstHeader s n) T ≡ read len (AfterDeclName (ForHeader s n []) (decl_of d w r ns)) U
first_decl len s n None w r ns T U (none, _) = cc
first_decl len s n (Some d) w r ns T U (_, (V, (W, dir_is, wire_is), (X, range_is, names_are))) =
    first_dir len s n d T W dir_is
    ∙ rest_of_decl len (ForHeader s n []) d w r ns W V X U wire_is range_is names_are

later_decl : (len : ℕ) (s : SoFar) (n : At) (ds : List Decl) (before : Decl) (d : Option Dir) (w : Bool)
    (r : Option Span) (ns : List At) (T U : List Token) → port_decl (decl_of d w r ns) T U
    → read len (HeaderDecl s n ds before) T
    ≡ read len (AfterDeclName (ForHeader s n (ds ++ before ∷ [])) (decl_of d w r ns)) U
later_decl len s n ds before None w r ns T U (none, _) = cc
later_decl len s n ds before (Some d) w r ns T U (_, (V, (W, dir_is, wire_is), (X, range_is, names_are))) =
    later_dir len s n ds before d T W dir_is
    ∙ rest_of_decl len (ForHeader s n (ds ++ before ∷ [])) d w r ns W V X U wire_is range_is names_are

more_decls : (len : ℕ) (s : SoFar) (n : At) (ds : List Decl) (d : Decl) (es : List Decl) (T V U : List Token)
    → more_port_decls es T V → One (Mark right_parenthesis) V U
    → read len (AfterDeclName (ForHeader s n ds) d) T ≡ read len (AfterPorts (module_of s n (Decls (ds ++ d ∷ es)))) U
more_decls len s n ds d [] T V U same (_, (_, e)) = rw (same, e) refl
more_decls len s n ds d (e ∷ es) T V U (W, (_, (_, a)), (X, decl_is, more)) close =
    rw a (later_decl len s n ds d e.dir e.wire e.range e.names W X decl_is
    ∙ more_decls len s n (ds ++ d ∷ []) e es X V U more close
    ∙ ap (λ fs. read len (AfterPorts (module_of s n (Decls fs))) U) (append_assoc ds (d ∷ []) (e ∷ es)))

-- what stands between parentheses
header_read : (len : ℕ) (s : SoFar) (n : At) (h : Header) (T V U : List Token) → header h T V
    → One (Mark right_parenthesis) V U
    → read len (FirstHeader s n) T ≡ read len (AfterPorts (module_of s n h)) U
header_read len s n (Names []) T V U same (_, (_, e)) = rw (same, e) refl
header_read len s n (Names (x ∷ xs)) T V U (W, (_, a), more) (_, (_, e)) =
    rw a (more_header_names len s n (x ∷ []) xs W V more ∙ rw e refl)
header_read len s n (Decls []) T V U none close = absurd none
header_read len s n (Decls (d ∷ ds)) T V U (W, decl_is, more) close =
    first_decl len s n d.dir d.wire d.range d.names T W decl_is ∙ more_decls len s n [] d ds W V U more close

pub ports_read : (len : ℕ) (s : SoFar) (n : At) (h : Header) (T V U : List Token) → ports h T V
    → One (Mark semicolon) V U
    → read len (AfterModuleName s n) T ≡ read len (InItems (module_of s n h)) U
ports_read len s n h T V U (inl (none, same)) (_, (_, e)) = rw (none, same, e) refl
ports_read len s n h T V U (inr (W, (_, (_, a)), (X, header_is, close))) (_, (_, e)) =
    rw a (header_read len s n h W X V header_is close ∙ rw e refl)
