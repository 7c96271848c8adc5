-- The functions of a file: what stands at one place of a body looks at the same.
use Rattle.std.proofs.Common.{◌≡◌, ℕ, zero, suc, ◌<◌, Bool, true, false, List, [], ◌∷◌, ◌++◌, length, get_or, refl, sym, ap, subst, inl, inr, arith}
use Rattle.std.specs.Prelude.{Option, Some, None, IfSome, option_map, unwrap_or, All, map, set, slice_get, ⊤}
use Rattle.std.proofs.lemmas.List.Elements.{All-nil, All-push, All-append, All-map, All-weaker, All-set}
use Rattle.c_syntax_written.specs.declared.place.Pos.{Pos}
use Rattle.c_syntax_written.specs.WrittenFile.{OuterTree, FileTree}
use Rattle.c_syntax.specs.declared.statement.BlockKind.TheVariants as kinds
use Rattle.c_syntax.specs.Types.{CTypeTree, ObjectTree}
use Rattle.c_syntax.specs.TypedStmt.{TStmtTree, Block}
use Rattle.c_syntax.specs.Program.{TFunctionTree, TProgramTree}
use Rattle.c_lexer.specs.Cut.{IsBefore}
use Rattle.c_lexer.proofs.Order.{in_order}
use Rattle.c_grammar_laws.specs.NodePlaces.{outer_places, outers_places, file_places}
use Rattle.c_grammar_laws.specs.PlaceLaws.{AreInOrder}
use Rattle.c_grammar_laws.proofs.Order.{nodes_stand_in_order}
use Rattle.c_typing.specs.World.{World, Form, Outcome, Typed, Refused}
use Rattle.c_typing.specs.Names.{closed}
use Rattle.c_typing.specs.Declarators.{DeclaredName, ParameterTree, Step}
use Rattle.c_typing.specs.Context.{Context, has_name, file_context}
use Rattle.c_typing.specs.Decls.{Made, new_function, parameter_object, numbers_from}
use Rattle.c_typing.specs.File.{Begun, defined_function, with_function_at, with_body, definition_ends, FileOutcome, Program, NoProgram, TypesOuters, nothing_yet, program_of, outcome_of}
use Rattle.c_typing.specs.Settled.{settled_function, settled_stmt}
use Rattle.c_typing.proofs.Changes.{Constants}
use Rattle.c_typing.proofs.Adds.{nothing_good}
use Rattle.c_typing.proofs.Good.{Good}
use Rattle.c_typing.proofs.Reaches.{Reaches, quiet}
use Rattle.c_typing_laws.specs.NameSteps.{MakesFunction, new_name, known_name}
use Rattle.c_typing_laws.specs.FileSteps as outers
use Rattle.c_typing_laws.specs.FileSteps.{counted, MakesHead, head, MakesOuter, MakesOuters, no_more, and_then}
use Rattle.c_typing_laws.proofs.Outcomes.{typed_from}
use Rattle.c_typing_laws.proofs.Entries.{each}
use Rattle.c_typing_laws.proofs.FileMade.{outers_as}
use Rattle.c_typing_laws.proofs.Grows.{IsDeclared, decl_grows, items_grow}
use Rattle.c_typing_laws.proofs.Reached.{good_by, head_facts, outer_reach}
use Rattle.c_sites.specs.Sites.{Site, stmt_sites, item_sites, function_sites, Agree, SitesAgree}
use Rattle.c_typing_places.specs.SiteLaws.{TypedSitesAgree, SitesOfTextsAgree}
use Rattle.c_sites.proofs.InLists.{IsIn, here, there, from_contains, Distinct, distinct_left, distinct_right}
use Rattle.c_typing_places.proofs.StmtSites.{none_spread, block_spread}
use Rattle.c_typing_places.proofs.SettledSites.{stmt_same}

-- ---- places in order are distinct

before_itself : (p : Pos) → IsBefore p p → ⊥
before_itself p (inl h) = omega arith
before_itself p (inr h) = omega arith

before_each : (p q : Pos) (ps : List Pos) → ((k : ℕ) (d : Pos) → k < length ps → IsBefore p (get_or ps k d)) → IsIn q ps → IsBefore p q
before_each p q [] h i = elim i [ ]
before_each p q (x ∷ ps) h here = h zero q (omega arith)
before_each p q (x ∷ ps) h (there i) = before_each p q ps (λ k d l. h (suc k) d (omega arith)) i

in_order_distinct : (ps : List Pos) → AreInOrder ps → Distinct ps
unfolding Distinct
in_order_distinct [] h = tt
in_order_distinct (p ∷ ps) h = (
  (λ i. before_itself p (before_each p p ps (λ k d l. h zero (suc k) d (omega arith) (omega arith)) i)),
  in_order_distinct ps (λ i j d l m. h (suc i) (suc j) d (omega arith) (omega arith)),
)

-- ---- bodies

pub record AgreeIn (xs : List Site) : Type 0 where
  pub one : (s t : Site) → IsIn s xs → IsIn t xs → s.pos ≡ t.pos → s ≡ t

abbrev pub AgreeingBody : TFunctionTree → Type 0
AgreeingBody f = IfSome f.body (λ b. AgreeIn (stmt_sites b))

abbrev AllAgree : World → Type 0
AllAgree w = All AgreeingBody w.functions

declared_agree : (names : List (List ℕ)) (new : List TFunctionTree) → All (IsDeclared names) new → All AgreeingBody new
declared_agree names new all = All-weaker (IsDeclared names) AgreeingBody (λ f d. subst (λ b. IfSome b (λ s. AgreeIn (stmt_sites s))) (sym d.bare) tt) new all

-- one function is changed
changed_agree : (w : World) (n : ℕ) (change : TFunctionTree → TFunctionTree) → ((f : TFunctionTree) → AgreeingBody f → AgreeingBody (change f)) → AllAgree w → AllAgree (with_function_at w n change)
changed_agree w n change g all = by (slice_get w.functions n) refl
  where
    by : (o : Option TFunctionTree) → slice_get w.functions n ≡ o → All AgreeingBody (unwrap_or (option_map (λ f. set w.functions n (change f)) o) w.functions)
    by None e = all
    by (Some f) e = All-set AgreeingBody w.functions n (change f) (g f (each AgreeingBody w.functions n f all e)) all

function_agree :
    {around : Context} {w v : World} {named : DeclaredName} {list : List ParameterTree} {types : List CTypeTree} {result : CTypeTree} {n : ℕ} → MakesFunction around w named list types result true (Some n) v
    → AllAgree w → AllAgree v
function_agree {around = around} {w = w} {named = named} {list = list} {types = types} {result = result} (new_name r e) all = by (has_name around.functions named.name)
  where
    by : (b : Bool) → AllAgree (new_function w named b list types result)
    by true = All-push AgreeingBody w.functions _ all tt
    by false = All-push AgreeingBody w.functions _ all tt
function_agree (known_name l e so) all = all

head_agree : {around : Context} {x y : World} {steps : List Step} {base : Form} {named : DeclaredName} {begun : Begun} → MakesHead around x steps base named begun y → AllAgree x → AllAgree y
head_agree {named = named} (head {params = list} {n = n} {v = v} s e f (counted {total = total})) all =
    changed_agree (record v { objects = v.objects ++ map (parameter_object v) list; total = total }) n (defined_function named (numbers_from (length v.objects) (length list)))
    (λ g p. p) (function_agree f all)

block_agree : (brace : Pos) (made : Made) → AgreeIn (item_sites made.items) → AgreeIn (stmt_sites (Block brace kinds.Written made.objects made.items))
unfolding stmt_sites item_sites
block_agree brace made a = a

ended_agree : (begun : Begun) (brace : Pos) (made : Made) (z : World) → AgreeIn (item_sites made.items) → AllAgree z → AllAgree (definition_ends begun brace made z)
ended_agree begun brace made z a all =
    changed_agree (record (closed begun.outside z) { labels = []; cases = []; default = None }) begun.number (with_body (Block brace kinds.Written made.objects made.items)) (λ g p. block_agree brace made a) all

calm_agree : (w v : World) → Reaches Constants w v → AllAgree w → AllAgree v
calm_agree w v r all = subst (All AgreeingBody) (sym (quiet Constants w v r).functions) all

outer_agree : {w v : World} {around : Context} {tree : OuterTree} → Good w → MakesOuter w around tree v → Distinct (outer_places tree) → AllAgree w → AllAgree v
outer_agree {w = w} {around = around} good (outers.declares k) d all =
    let g = decl_grows good k in subst (All AgreeingBody) (sym g.functions) (All-append AgreeingBody w.functions g.new all (declared_agree around.functions g.new g.declared))
outer_agree {w = w} {around = around} good (outers.defines {brace = brace} {body = body} {begun = begun} {made = made} {u = u} {x = x} {y = y} {z = z} t n h i) d all =
    let facts = head_facts good t in
    let inside = head_agree h (calm_agree u x facts.behind (calm_agree w u facts.calm all)) in
    let g = (items_grow facts.scope i).grows in
    let behind : AllAgree z = subst (All AgreeingBody) (sym g.functions) (All-append AgreeingBody y.functions g.new inside (declared_agree _ g.new g.declared)) in
    ended_agree begun brace made z (record { one = (block_spread i [] d none_spread).agree }) behind

outers_agree : {around : Context} {w v : World} {list : List OuterTree} → Good w → MakesOuters around w list v → Distinct (outers_places list) → AllAgree w → AllAgree v
unfolding outers_places
outers_agree good no_more d all = all
outers_agree good (and_then {tree = tree} {rest = rest} p q) d all =
    outers_agree (good_by good (outer_reach good p)) q (distinct_right (outer_places tree) (outers_places rest) d) (outer_agree good p (distinct_left (outer_places tree) (outers_places rest) d) all)

-- ---- the program

agree_listed : (xs : List Site) → AgreeIn xs → Agree xs
agree_listed xs a s t i j e = a.one s t (from_contains xs s i) (from_contains xs t j) e

settled_agree : (objects : List ObjectTree) (f : TFunctionTree) → AgreeingBody f → Agree (function_sites (settled_function objects f))
settled_agree objects f a = by f.body a
  where
    by : (b : Option TStmtTree) → IfSome b (λ s. AgreeIn (stmt_sites s)) → Agree (unwrap_or (option_map stmt_sites (option_map (settled_stmt objects) b)) [])
    by None h = agree_listed [] (record { one = λ s t i j e. elim i [ ] })
    by (Some s) h = agree_listed (stmt_sites (settled_stmt objects s)) (subst AgreeIn (sym (stmt_same objects s)) h)

abbrev program_in : FileOutcome → TProgramTree → TProgramTree
program_in (Program program) other = program
program_in (NoProgram r) other = other

of_last :
    (P : TProgramTree → Type 0) (program : TProgramTree) (last : Outcome ⊤) → Program program ≡ outcome_of last
    → ((w : World) → last ≡ Typed tt w → P (program_of w)) → P program
of_last P program (Typed unit w) e f = subst P (sym (ap (λ o. program_in o program) e)) (f w refl)
of_last P program (Refused r) e f = cc

world_agrees : (file : FileTree) (w : World) → Distinct (file_places file) → TypesOuters nothing_yet (file_context file) file.outers (Typed tt w) → SitesAgree (program_of w)
world_agrees file w d t =
    let all = outers_agree nothing_good (typed_from (outers_as nothing_yet (file_context file) file.outers (Typed tt w) t)) d (All-nil AgreeingBody) in
    All-map (λ f. Agree (function_sites f)) (settled_function w.objects) w.functions
    (All-weaker AgreeingBody (λ f. Agree (function_sites (settled_function w.objects f))) (λ f a. settled_agree w.objects f a) w.functions all)

pub typed_sites_agree : TypedSitesAgree
typed_sites_agree tokens file program tree order types =
    of_last SitesAgree program types.last types.is (λ w e.
    world_agrees file w (in_order_distinct (file_places file) (nodes_stand_in_order tokens file tree order)) (subst (λ o. TypesOuters nothing_yet (file_context file) file.outers o) e types.types))

pub sites_of_texts_agree : SitesOfTextsAgree
sites_of_texts_agree number text tokens file program cut tree types = typed_sites_agree tokens.list file program tree (in_order cut.front) types
