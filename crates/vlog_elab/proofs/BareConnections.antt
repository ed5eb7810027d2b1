-- Connections break the same rules with places and without.
use Rattle.std.proofs.Common.{arith, ◌≡◌, ℕ, ◌+◌, ◌==◌, nat_le, Bool, true, false, cond, List, [], ◌∷◌, ◌++◌, map, flat_map, length, slice_get, Option, Some, None, is_some, is_none, option_map, refl, sym, ap, ◌∙◌}
use Rattle.std.specs.Prelude.{◌||◌, not}
use Rattle.std.specs.List.{sum_by, list_any}
use Rattle.std.proofs.lemmas.List.{map-append, length-map}
use Rattle.std.proofs.lemmas.List.Sums.{sum_by-cons}
use Rattle.flatten_rules.specs.Lookup.{width}
use Rattle.vlog_read.specs.declared.tree.At.{At}
use Rattle.vlog_read.specs.declared.tree.Part.{Part}
use Rattle.vlog_read.specs.declared.tree.Part.TheVariants.{Name, Bit, Bits, Lit}
use Rattle.vlog_read.specs.declared.tree.TConn.{TConn}
use Rattle.vlog_read.specs.declared.tree.TInst.{TInst}
use Rattle.vlog_elab.specs.declared.interface.Port.{Port}
use Rattle.vlog_elab.specs.declared.interface.Interface.{Interface}
use Rattle.vlog_elab.specs.declared.scope.Net.{Net}
use Rattle.vlog_elab.specs.declared.scope.Scope.{Scope}
use Rattle.flatten_rules.specs.Check.{first_broken, each_after}
use Rattle.vlog_elab.specs.Check.{Check}
use Rattle.vlog_elab.specs.Named.{Named, named, firsts}
use Rattle.vlog_elab.specs.Steps.{Step, Declares, Places, Connects, Uses, Fits, conn_steps, inst_steps, ports_of, net_at, inst_at, met}
use Rattle.vlog_elab.specs.Connections.{port_named, ports_named, mixes, conn_checks, part_width, port_at, width_checks, step_checks}
use Rattle.vlog_read.specs.Bare.{bare_name, bare_part, bare_conn, bare_inst}

abbrev pub flags : List Check → List Bool
flags cs = map (λ (c : Check). c.0) cs

pub first-flags : (cs ds : List Check) → flags cs ≡ flags ds → first_broken cs ≡ None → first_broken ds ≡ None
first-flags [] [] same none = refl
first-flags [] (d ∷ ds) same none = absurd (omega (arith, ap length same))
first-flags (c ∷ cs) [] same none = absurd (omega (arith, ap length same))
first-flags (c ∷ cs) (d ∷ ds) same none =
    let heads : c.0 ≡ d.0 = cc in
    let tails : flags cs ≡ flags ds = cc in
    at_b (λ h. first-flags cs ds tails h) c.0 (sym heads) none
  where
    at_b : (first_broken cs ≡ None → first_broken ds ≡ None) → (b : Bool) → d.0 ≡ b → cond b (Some c.1) (first_broken cs) ≡ None → cond d.0 (Some d.1) (first_broken ds) ≡ None
    at_b more true e h = let never : Some c.1 ≡ None = h in absurd (cc)
    at_b more false e h = ap (λ b. cond b (Some d.1) (first_broken ds)) e ∙ more h

-- each_after over items that are made bare
pub flags-each : {X : Type 0} (e : X → X) (f : List X → X → List Check) → ((before : List X) (x : X) → flags (f (map e before) (e x)) ≡ flags (f before x)) → (before xs : List X)
    → flags (each_after f (map e before) (map e xs)) ≡ flags (each_after f before xs)
flags-each e f same before [] = refl
flags-each e f same before (x ∷ xs) =
    map-append (λ (c : Check). c.0) (f (map e before) (e x)) (each_after f (map e before ++ e x ∷ []) (map e xs))
    ∙ ap (λ bs. bs ++ flags (each_after f (map e before ++ e x ∷ []) (map e xs))) (same before x)
    ∙ ap (λ bs. flags (f before x) ++ bs) (ap (λ ys. flags (each_after f ys (map e xs))) (sym (map-append e before (x ∷ []))) ∙ flags-each e f same (before ++ x ∷ []) xs)
    ∙ sym (map-append (λ (c : Check). c.0) (f before x) (each_after f (before ++ x ∷ []) xs))

abbrev pub bare_step : Step → Step
bare_step (Declares n range) = Declares (bare_name n) range
bare_step (Places interface master n) = Places interface (bare_name master) (bare_name n)
bare_step (Connects ports inst before c) = Connects ports (bare_name inst) (map bare_conn before) (bare_conn c)
bare_step (Uses part) = Uses (bare_part part)
bare_step (Fits ports before c) = Fits ports (map bare_conn before) (bare_conn c)

any-bare : (p : TConn → Bool) → ((c : TConn) → p (bare_conn c) ≡ p c) → (cs : List TConn) → list_any p (map bare_conn cs) ≡ list_any p cs
any-bare p same [] = refl
any-bare p same (c ∷ cs) = cong2 (same c) (any-bare p same cs)
  where
    cong2 : {a b c d : Bool} → a ≡ b → c ≡ d → (a || c) ≡ (b || d)
    cong2 e f = cc

pub some-bare : (o : Option At) → is_some (option_map bare_name o) ≡ is_some o
some-bare None = refl
some-bare (Some n) = refl

none-bare : (o : Option At) → is_none (option_map bare_name o) ≡ is_none o
none-bare None = refl
none-bare (Some n) = refl

pub named-bare : (o : Option At) → port_named (option_map bare_name o) ≡ port_named o
named-bare None = refl
named-bare (Some n) = refl

ports_named-bare : (cs : List TConn) → ports_named (map bare_conn cs) ≡ ports_named cs
ports_named-bare [] = refl
ports_named-bare (c ∷ cs) = ap (λ es. es ++ ports_named (map bare_conn cs)) (named-bare c.port) ∙ ap (λ es. port_named c.port ++ es) (ports_named-bare cs)

conn-flags : (ports : Named Port) (inst : At) (before : List TConn) (c : TConn) (port : Option At)
    → flags (conn_checks ports (bare_name inst) (map bare_conn before) (bare_conn c) (option_map bare_name port)) ≡ flags (conn_checks ports inst before c port)
conn-flags ports inst before c None =
    ap (λ b. b ∷ nat_le (length ports) (length (map bare_conn before)) ∷ []) (any-bare (λ (d : TConn). is_some d.port) (λ d. some-bare d.port) before)
    ∙ ap (λ n. mixes before false ∷ nat_le (length ports) n ∷ []) (length-map before bare_conn)
conn-flags ports inst before c (Some n) =
    ap (λ b. b ∷ not (is_some (lookup-port n)) ∷ is_some (lookup-before (map bare_conn before)) ∷ []) (any-bare (λ (d : TConn). is_none d.port) (λ d. none-bare d.port) before)
    ∙ ap (λ es. mixes before true ∷ not (is_some (lookup-port n)) ∷ is_some (named es n.name) ∷ []) (ports_named-bare before)
  where
    lookup-port : At → Option Port
    lookup-port n = named ports n.name

    lookup-before : List TConn → Option (Unit {0})
    lookup-before cs = named (ports_named cs) n.name

width-bare : (ns : Named Net) (ps : List Part) → sum_by (part_width ns) (map bare_part ps) ≡ sum_by (part_width ns) ps
width-bare ns [] = refl
width-bare ns (p ∷ ps) =
    let one = same p in
    let more = width-bare ns ps in
    sum_by-cons (part_width ns) (bare_part p) (map bare_part ps) ∙ ap (λ n. n + sum_by (part_width ns) (map bare_part ps)) one ∙ ap (λ n. part_width ns p + n) more ∙ sym (sum_by-cons (part_width ns) p ps)
  where
    same : (p : Part) → part_width ns (bare_part p) ≡ part_width ns p
    same (Name n) = refl
    same (Bit n index) = refl
    same (Bits n range) = refl
    same (Lit size value) = refl

port-bare : (ports : Named Port) (before : List TConn) (port : Option At) → port_at ports (map bare_conn before) (option_map bare_name port) ≡ port_at ports before port
port-bare ports before None = ap (slice_get ports) (length-map before bare_conn)
port-bare ports before (Some n) = refl

fit-flags : (ns : Named Net) (c : TConn) (ps : List Part) (o : Option (List ℕ × Port)) → flags (width_checks ns (bare_conn c) (map bare_part ps) o) ≡ flags (width_checks ns c ps o)
fit-flags ns c [] o = refl
fit-flags ns c (p ∷ ps) None = refl
fit-flags ns c (p ∷ ps) (Some port) = ap (λ n. not (n == width port.1.range) ∷ []) (width-bare ns (p ∷ ps))

pub step-flags : (s : Scope) (x : Step) → flags (step_checks s (bare_step x)) ≡ flags (step_checks s x)
step-flags s (Declares n range) = refl
step-flags s (Places interface master n) = refl
step-flags s (Connects ports inst before c) = conn-flags ports inst before c c.port
step-flags s (Uses (Name n)) = refl
step-flags s (Uses (Bit n index)) = refl
step-flags s (Uses (Bits n range)) = refl
step-flags s (Uses (Lit size value)) = refl
step-flags s (Fits ports before c) =
    ap (λ o. flags (width_checks s.nets (bare_conn c) (map bare_part c.parts) o)) (port-bare ports before c.port) ∙ fit-flags s.nets c c.parts (port_at ports before c.port)

pub met-bare : (xs : List Step) → met (map bare_step xs) ≡ met xs
met-bare xs =
    let ns = ap (λ (es : Named Net). firsts es) (flat net_at net-same xs) in
    let is = flat inst_at inst-same xs in
    λ i. record { nets = ns i; insts = is i }
  where
    net-same : (x : Step) → net_at (bare_step x) ≡ net_at x
    net-same (Declares n range) = refl
    net-same (Places interface master n) = refl
    net-same (Connects ports inst before c) = refl
    net-same (Uses (Name n)) = refl
    net-same (Uses (Bit n index)) = refl
    net-same (Uses (Bits n range)) = refl
    net-same (Uses (Lit size value)) = refl
    net-same (Fits ports before c) = refl

    inst-same : (x : Step) → inst_at (bare_step x) ≡ inst_at x
    inst-same (Declares n range) = refl
    inst-same (Places interface master n) = refl
    inst-same (Connects ports inst before c) = refl
    inst-same (Uses part) = refl
    inst-same (Fits ports before c) = refl

    flat : {Y : Type 0} (f : Step → List Y) → ((x : Step) → f (bare_step x) ≡ f x) → (xs : List Step) → flat_map f (map bare_step xs) ≡ flat_map f xs
    flat f same [] = refl
    flat f same (x ∷ xs) = ap (λ ys. ys ++ flat_map f (map bare_step xs)) (same x) ∙ ap (λ ys. f x ++ ys) (flat f same xs)

-- the steps of a bare module
pub each-mapped : {X Y : Type 0} (e : X → X) (g : Y → Y) (f h : List X → X → List Y) → ((before : List X) (x : X) → f (map e before) (e x) ≡ map g (h before x)) → (before xs : List X) → each_after f (map e before) (map e xs) ≡ map g (each_after h before xs)
each-mapped e g f h same before [] = refl
each-mapped e g f h same before (x ∷ xs) =
    ap (λ ys. ys ++ each_after f (map e before ++ e x ∷ []) (map e xs)) (same before x)
    ∙ ap (λ ys. map g (h before x) ++ ys) (ap (λ zs. each_after f zs (map e xs)) (sym (map-append e before (x ∷ []))) ∙ each-mapped e g f h same (before ++ x ∷ []) xs)
    ∙ sym (map-append g (h before x) (each_after h (before ++ x ∷ []) xs))

uses-bare : (ps : List Part) → map Uses (map bare_part ps) ≡ map bare_step (map Uses ps)
uses-bare [] = refl
uses-bare (p ∷ ps) = ap (λ xs. Uses (bare_part p) ∷ xs) (uses-bare ps)

conn-bare : (ports : Named Port) (inst : At) (before : List TConn) (c : TConn) → conn_steps ports (bare_name inst) (map bare_conn before) (bare_conn c) ≡ map bare_step (conn_steps ports inst before c)
conn-bare ports inst before c =
    ap (λ xs. Connects ports (bare_name inst) (map bare_conn before) (bare_conn c) ∷ (xs ++ Fits ports (map bare_conn before) (bare_conn c) ∷ [])) (uses-bare c.parts)
    ∙ ap (λ xs. Connects ports (bare_name inst) (map bare_conn before) (bare_conn c) ∷ xs) (sym (map-append bare_step (map Uses c.parts) (Fits ports before c ∷ [])))

pub inst-bare : (interface : Option Interface) (master : At) (i : TInst) → inst_steps interface (bare_name master) (bare_inst i) ≡ map bare_step (inst_steps interface master i)
inst-bare interface master i =
    ap (λ xs. Places interface (bare_name master) (bare_name i.name) ∷ xs)
    (each-mapped bare_conn bare_step (conn_steps (ports_of interface) (bare_name i.name)) (conn_steps (ports_of interface) i.name) (λ before c. conn-bare (ports_of interface) i.name before c) [] i.conns)

-- the flags of a walk over bare steps
pub steps-flags : (xs : List Step) → flags (each_after (λ before step. step_checks (met before) step) [] (map bare_step xs)) ≡ flags (each_after (λ before step. step_checks (met before) step) [] xs)
steps-flags xs =
    flags-each bare_step (λ before step. step_checks (met before) step)
    (λ before x. ap (λ s. flags (step_checks s (bare_step x))) (met-bare before) ∙ step-flags (met before) x) [] xs
