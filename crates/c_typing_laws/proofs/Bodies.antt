-- The bodies of a file are typed.
use Rattle.std.proofs.Common.{◌≡◌, ℕ, zero, suc, ◌+◌, ◌<◌, true, false, List, [], ◌∷◌, ◌++◌, length, refl, ap, sym, subst, ◌∙◌, inr, arith}
use Rattle.std.specs.Prelude.{◌⊎◌, Bool, IsTrue, is_some, None, Some, IfSome, IsSomeAnd, option_map, unwrap_or, All, Contains, map, set, take, slice_get}
use Rattle.std.proofs.lemmas.Bool.{false≢true}
use Rattle.std.proofs.lemmas.Option.{none-some}
use Rattle.std.proofs.lemmas.List.{append-nil, append_assoc, take_at, length_push}
use Rattle.std.proofs.lemmas.List.Elements.{All-nil, All-push, All-append, All-map, All-weaker, All-head, All-set, Contains-append_right}
use Rattle.c_syntax_written.specs.declared.place.Pos.{Pos}
use Rattle.c_syntax_written.specs.WrittenFile.{BlockItemTrees, OuterTree}
use Rattle.c_syntax.specs.declared.statement.BlockKind.TheVariants as kinds
use Rattle.c_syntax.specs.Types.{CTypeTree, Void, ObjectTree}
use Rattle.c_syntax.specs.TypedStmt.{TStmtTree, Block}
use Rattle.c_syntax.specs.Program.{TFunctionTree, TProgramTree}
use Rattle.c_layout.specs.ProperTypes.{IsProperType}
use Rattle.c_layout.specs.TypedNodes.{Scope, Standing, in_block, IsTypedStmt, AreTypedItems}
use Rattle.c_layout.specs.WellTyped.{body_standing}
use Rattle.c_typing.specs.World.{World, Form, Callable, Typed, Object, Missing, Parameter, Function, TypeName, Enumeration, Meaning, Binding, TagBinding}
use Rattle.c_typing.specs.Names.{closed}
use Rattle.c_typing.specs.Formed.{IsFormed, IsFormedForm}
use Rattle.c_typing.specs.Settled.{settled_stmt, settled_stmts}
use Rattle.c_typing.specs.Declarators.{DeclaredName, ParameterTree, Step, FunctionOf, laid}
use Rattle.c_typing.specs.Context.{Context, has_name, in_function, functions_defined_by}
use Rattle.c_typing.specs.Decls.{Made, nothing_made, new_function, numbers_from, parameter_object}
use Rattle.c_typing.specs.File.{Begun, as_object, with_object_meaning, in_body, with_body, definition_ends, nothing_yet}
use Rattle.c_typing.proofs.Changes.{Constants}
use Rattle.c_typing.proofs.Adds.{nothing_good}
use Rattle.c_typing.proofs.FormsGo.{AreFormedSteps, found_each}
use Rattle.c_typing.proofs.Good.{Good, good_same, good_closed}
use Rattle.c_typing.proofs.Later.{formed_later}
use Rattle.c_typing.proofs.MadeTables.{get_append, get_last}
use Rattle.c_typing.proofs.Reaches as reaches
use Rattle.c_typing.proofs.Reaches.{Reaches, quiet}
use Rattle.c_typing.proofs.SoundTables.{proper}
use Rattle.c_typing_laws.specs.NameSteps.{MakesFunction, new_name, known_name}
use Rattle.c_typing_laws.specs.StmtSteps.{MakesItems}
use Rattle.c_typing_laws.specs.FileSteps as outers
use Rattle.c_typing_laws.specs.FileSteps.{counted, MakesHead, head, MakesOuter, MakesOuters, no_more, and_then}
use Rattle.c_typing_laws.proofs.Reached.{good_by, head_facts, items_reach, outer_reach, outers_reach}
use Rattle.c_typing_laws.proofs.Scalars.{ScalarNames, IsScalarForm, IsScalarMeaning, AreScalarSteps}
use Rattle.c_typing_laws.proofs.FileKeeps.{head_scalar, body_scalar, outer_scalar}
use Rattle.c_typing_laws.specs.ExpressionLaws.{IsUsable, AreUsable, EndsFrom}
use Rattle.c_typing_laws.proofs.WholeExpressions.{usable_after}
use Rattle.c_typing_laws.proofs.Covers.{Covers}
use Rattle.c_typing_laws.proofs.FileLists.{AtFile, IsPending, outer_at, nothing_listed, changed_at, ended_functions}
use Rattle.c_typing_laws.proofs.Grows.{IsDeclared, decl_grows, items_grow}
use Rattle.c_typing_laws.proofs.Jumps.{numbers_length, number_at}
use Rattle.c_typing_laws.specs.JumpLaws.{HasItsLabels}
use Rattle.c_typing_laws.proofs.Linking.{OfFunction, IsLinking}
use Rattle.c_typing_laws.proofs.Params.{function_form}
use Rattle.c_typing_laws.proofs.Objects.{IsObjectIn, ObjectsIn, in_calm}
use Rattle.c_typing_laws.proofs.FileObjects as file_objects
use Rattle.c_typing_laws.proofs.Onward.{Onward, onward, onward_then, ArePaired, paired}
use Rattle.c_typing_laws.proofs.Ends.{ends_onward, ends_live, ends_same}
use Rattle.c_typing_laws.proofs.Entities.{IsEntity, AreEntities, entity_onward}
use Rattle.c_typing_laws.proofs.Sizes.{IsSizedInitial, AreSized, sized_same, sized_step, sized_calm, sized_onward}
use Rattle.c_typing_laws.proofs.States.{State}
use Rattle.c_typing_laws.proofs.Usable.{names_onward, usable_inside, one_more, entity_usable}
use Rattle.c_typing_laws.proofs.ParamNames.{IsParamName, AreParamNames, HasParamNames, names_are}
use Rattle.c_typing_laws.proofs.Declarations.{settled, Lives, typed_none, decl_typed}
use Rattle.c_typing_laws.proofs.Statements.{Fits, own_lives, items_typed}
use Rattle.c_typing_laws.proofs.Signatures.{laid_types}
use Rattle.c_typing_laws.proofs.FileSigned.{Between, HeadFunction, function_head, function_onward, function_paired, head_between, head_onward, outside_of, change_of, calm_between, outer_between, nothing_between}

-- the body of a function, as it is settled, is typed
abbrev pub IsTypedBodyOf : TProgramTree → TFunctionTree → Type 0
IsTypedBodyOf program f = IfSome f.body (λ b. IsTypedStmt (body_standing program f) (settled_stmt program.objects b))

abbrev pub AreTypedBodies : TProgramTree → List TFunctionTree → Type 0
AreTypedBodies program functions = All (IsTypedBodyOf program) functions

abbrev file_scope : TProgramTree → Scope
file_scope program = record { program = program; live = [] }

-- outside of all functions
abbrev outside : TProgramTree → Standing
outside program = record { scope = file_scope program; block = []; result = Void; breaks = false; continues = false; cases = false }

-- what holds between the declarations of a file
pub record FileState (around : Context) (program : TProgramTree) (w : World) : Type 0 where
  pub good : Good w
  pub scalar : ScalarNames w
  pub objects : ObjectsIn w
  pub defined : List (List ℕ)
  pub between : Between around.functions defined w
  pub at : AtFile around.functions w
  pub linking : IsLinking w
  pub usable : AreUsable w (file_scope program)
  pub sized : AreSized program w

state_of : {around : Context} {program : TProgramTree} {w : World} → FileState around program w → State w
state_of s = record { good = s.good; pair = s.between.signed.pair; both = record { names = s.scalar; has = record { objects = s.objects; links = s.between.links } } }

bare_bodies : (program : TProgramTree) (names : List (List ℕ)) (new : List TFunctionTree) → All (IsDeclared names) new → AreTypedBodies program new
bare_bodies program names new all = All-weaker (IsDeclared names) (IsTypedBodyOf program) (λ f d. subst (λ b. IfSome b (λ s. IsTypedStmt (body_standing program f) (settled_stmt program.objects s))) (sym d.bare) tt) new all

-- ---- names in a body

-- a parameter of a definition is an object that lives in its body
param_object : (w : World) (list : List ParameterTree) (xs : List ObjectTree) (k : ℕ) → k < length list → (x : ObjectTree) × (slice_get (xs ++ map (parameter_object w) list) (length xs + k) ≡ Some x)
param_object w [] xs k h = absurd (omega arith)
param_object w (p ∷ rest) xs zero h =
    let e : length xs + zero ≡ length xs = omega arith in (
      parameter_object w p,
      ap (slice_get (xs ++ map (parameter_object w) (p ∷ rest))) e ∙ ap (λ l. slice_get l (length xs)) (sym (append_assoc xs (parameter_object w p ∷ []) (map (parameter_object w) rest)))
          ∙ get_append (xs ++ parameter_object w p ∷ []) (map (parameter_object w) rest) (length xs) (parameter_object w p) (get_last xs (parameter_object w p)),
    )
param_object w (p ∷ rest) xs (suc k) h =
    let more = param_object w rest (xs ++ parameter_object w p ∷ []) k (omega arith) in
    let pushed = length_push xs (parameter_object w p) in
    let e : length (xs ++ parameter_object w p ∷ []) + k ≡ length xs + suc k = omega (arith, pushed) in
    (more.0, ap (slice_get (xs ++ map (parameter_object w) (p ∷ rest))) (sym e) ∙ ap (λ l. slice_get l (length (xs ++ parameter_object w p ∷ []) + k)) (sym (append_assoc xs (parameter_object w p ∷ []) (map (parameter_object w) rest))) ∙ more.1)

number_lives : (first n k : ℕ) → k < n → Contains (numbers_from first n) (first + k)
number_lives first n k h = (k, subst (λ m. k < m) (sym (numbers_length first n)) h, number_at first n k (first + k) h)

param_usable :
    (v y : World) (scope : Scope) (list : List ParameterTree) → y.objects ≡ v.objects ++ map (parameter_object v) list → ((k : ℕ) → k < length list → Contains scope.live (length v.objects + k))
    → (m : Meaning) → IsParamName (length list) m → IsUsable y scope (as_object (length v.objects) m)
param_usable v y scope list o lives (Object n) h = absurd h
param_usable v y scope list o lives (Missing ty c) h = absurd h
param_usable v y scope list o lives (Parameter k ty c) h =
    let x = param_object v list v.objects k h in
    subst (λ p. IsSomeAnd p (λ z. IsTrue z.is_static ⊎ Contains scope.live (length v.objects + k))) (sym (ap (λ l. slice_get l (length v.objects + k)) o ∙ x.1)) (inr (lives k h))
param_usable v y scope list o lives (Function n) h = absurd h
param_usable v y scope list o lives (TypeName form) h = absurd h
param_usable v y scope list o lives (Enumeration n) h = tt

params_usable :
    (v y : World) (scope : Scope) (list : List ParameterTree) (names : List Binding) → y.objects ≡ v.objects ++ map (parameter_object v) list → ((k : ℕ) → k < length list → Contains scope.live (length v.objects + k))
    → AreParamNames (length list) names → All (λ b. IsUsable y scope b.meaning) (map (with_object_meaning (length v.objects)) names)
params_usable v y scope list names o lives all =
    All-map (λ b. IsUsable y scope b.meaning) (with_object_meaning (length v.objects)) names
    (All-weaker (λ b. IsParamName (length list) b.meaning) (λ b. IsUsable y scope (with_object_meaning (length v.objects) b).meaning) (λ b h. param_usable v y scope list o lives b.meaning h) names all)

-- the name of a function that is declared
function_usable :
    {around : Context} {w v : World} {named : DeclaredName} {list : List ParameterTree} {types : List CTypeTree} {result : CTypeTree} {n : ℕ} (scope : Scope)
    → MakesFunction around w named list types result true (Some n) v → Onward w v → AreEntities w → AreUsable w scope → AreUsable v scope
function_usable {around = around} {w = w} {named = named} {list = list} {types = types} {result = result} scope (new_name r e) on links all = by (has_name around.functions named.name) on
  where
    by : (later : Bool) → Onward w (new_function w named later list types result) → AreUsable (new_function w named later list types result) scope
    by true k = one_more w (new_function w named true list types result) scope _ refl k (ap is_some (get_last w.functions _)) all
    by false k = one_more w (new_function w named false list types result) scope _ refl k (ap is_some (get_last w.functions _)) all
function_usable {w = w} {v = v} {named = named} scope (known_name l e so) on links all =
    one_more w v scope _ refl on (entity_usable v scope l.meaning (entity_onward w v on l.meaning (found_each (λ j. IsEntity w j.meaning) _ w.linked l links e))) all

-- ---- a definition

-- outside of all loops and switches
pub record IsOutside (around : Context) : Type 0 where
  pub file : around.in_block ≡ false
  pub breaks : around.breaks ≡ false
  pub continues : around.continues ≡ false
  pub switch : around.switch ≡ None

-- what a definition declares
record Definition (program : TProgramTree) (v : World) (named : DeclaredName) (list : List ParameterTree) (result : CTypeTree) (n : ℕ) : Type 0 where
  head_is : HeadFunction v named n list result
  formed : IsFormed v.structs result
  usable : AreUsable v (file_scope program)
  bodies : AreTypedBodies program v.functions
  pair : ArePaired v
  sized : AreSized program v

abbrev block_of : Pos → Made → TStmtTree
block_of brace made = Block brace kinds.Written made.objects made.items

block_typed : (standing : Standing) (brace : Pos) (made : Made) → AreTypedItems (in_block made.objects standing) (settled standing made.items) → IsTypedStmt standing (settled_stmt standing.scope.program.objects (block_of brace made))
unfolding IsTypedStmt AreTypedItems settled_stmt settled_stmts
block_typed standing brace made t = t

body_fits :
    {around : Context} (program : TProgramTree) (g : TFunctionTree) (result : CTypeTree) (objects : List ℕ) (body : BlockItemTrees) → IsOutside around → g.result ≡ result → IsProperType program.structs result
    → Fits (in_function result body around) (in_block objects (body_standing program g))
body_fits program g result objects body out e p = record {
  result = e;
  proper = p;
  breaks = λ h. absurd (false≢true (sym out.breaks ∙ h));
  continues = λ h. absurd (false≢true (sym out.continues ∙ h));
  cases = λ t h. absurd (none-some t (sym out.switch ∙ h));
}

-- what a body leaves
record BodyLeaves (program : TProgramTree) (g : TFunctionTree) (z : World) : Type 0 where
  typed : EndsFrom z (file_scope program) → IsTypedBodyOf program g
  sized : AreSized program z

body_is :
    {around : Context} (program : TProgramTree) (v z : World) (named : DeclaredName) (list : List ParameterTree) (result : CTypeTree) (total n : ℕ) (names : List Binding) (tags : List TagBinding) (body : BlockItemTrees) (made : Made)
    (brace : Pos) → IsOutside around → (d : Definition program v named list result n) → AreParamNames (length list) names → State (in_body (outside_of v named list total n) (length v.objects) names tags)
    → MakesItems (in_body (outside_of v named list total n) (length v.objects) names tags) (in_function result body around) nothing_made body made z
    → EndsFrom z (file_scope program) → BodyLeaves program (with_body (block_of brace made) (change_of v named list d.head_is.function)) z
body_is program v z named list result total n names tags body made brace out d params st i ends =
    let y = in_body (outside_of v named list total n) (length v.objects) names tags in
    let g = with_body (block_of brace made) (change_of v named list d.head_is.function) in
    let standing = body_standing program g in
    let inner = in_block made.objects standing in
    let numbers = numbers_from (length v.objects) (length list) in
    let first = ends_onward y z (file_scope program) st.good st.pair (items_reach st.good i) ends in
    let result_proper = proper program.structs ends.table.told result (formed_later v.structs program.structs first.structs result d.formed) in
    let before : AreUsable v inner.scope =
    subst (λ l. AreUsable v (record { program = program; live = l })) (append-nil (made.objects ++ numbers)) (usable_inside v (file_scope program) (made.objects ++ numbers) d.usable) in
    let usable : AreUsable y inner.scope =
    All-append (λ b. IsUsable y inner.scope b.meaning) v.names (map (with_object_meaning (length v.objects)) names) (names_onward v y inner.scope (head_onward v named list total n (length v.objects) names tags) v.names before)
    (params_usable v y inner.scope list names refl (λ k h. Contains-append_right made.objects numbers (length v.objects + k) (number_lives (length v.objects) (length list) k h)) params) in
    let after = items_typed inner st (body_fits program g result made.objects body out d.head_is.result_is result_proper) (own_lives standing made.objects) (record {
      typed = λ e. typed_none inner;
      usable = usable;
      sized = sized_onward program v y d.pair refl (head_onward v named list total n (length v.objects) names tags) refl d.sized;
    }) i in record {
      typed = λ e. block_typed standing brace made (after.typed (ends_live z (file_scope program) (made.objects ++ numbers) e));
      sized = after.sized;
    }

-- what a definition leaves
pub record Defined (program : TProgramTree) (v : World) : Type 0 where
  pub bodies : AreTypedBodies program v.functions
  pub usable : AreUsable v (file_scope program)
  pub sized : AreSized program v

definition_bodies :
    {around : Context} (program : TProgramTree) (v z : World) (named : DeclaredName) (list : List ParameterTree) (result : CTypeTree) (total n : ℕ) (names : List Binding) (tags : List TagBinding) (body : BlockItemTrees) (made : Made)
    (brace : Pos) → IsOutside around → (d : Definition program v named list result n) → AreParamNames (length list) names → State (in_body (outside_of v named list total n) (length v.objects) names tags)
    → MakesItems (in_body (outside_of v named list total n) (length v.objects) names tags) (in_function result body around) nothing_made body made z
    → EndsFrom (definition_ends (record { number = n; result = result; outside = outside_of v named list total n }) brace made z) (file_scope program)
    → Defined program (definition_ends (record { number = n; result = result; outside = outside_of v named list total n }) brace made z)
definition_bodies program v z named list result total n names tags body made brace out d params st i ends =
    let u = outside_of v named list total n in
    let y = in_body u (length v.objects) names tags in
    let last = definition_ends (record { number = n; result = result; outside = u }) brace made z in
    let shut = record (closed u z) { labels = []; cases = []; default = None } in
    let r = items_reach st.good i in
    let good = good_by st.good r in
    let pair = paired y z r st.pair in
    let reach = reaches.function_changed shut n (with_body (block_of brace made)) (λ f. record { name = refl; result = refl }) in
    let ends_z = ends_same shut z (file_scope program) refl refl refl refl (ends_onward shut last (file_scope program) (good_same (closed u z) shut refl refl refl (good_closed u z good)) pair reach ends) in
    let h = d.head_is in
    let g1 = change_of v named list h.function in
    let g2 = with_body (block_of brace made) g1 in
    let grows = (items_grow st.good i).grows in
    let set_at : u.functions ≡ set v.functions n g1 = changed_at v.functions n h.function (change_of v named list) h.there in
    let z_is : z.functions ≡ set v.functions n g1 ++ grows.new = grows.functions ∙ ap (λ fs. fs ++ grows.new) set_at in
    let functions : last.functions ≡ set v.functions n g2 ++ grows.new =
    ap (λ fs. unwrap_or (option_map (λ x. set fs n (with_body (block_of brace made) x)) (slice_get fs n)) fs) z_is ∙ ended_functions v.functions grows.new n h.function g1 (with_body (block_of brace made)) h.there in
    let leaves = body_is program v z named list result total n names tags body made brace out d params st i ends_z in
    let on = onward_then v y z (head_onward v named list total n (length v.objects) names tags) (onward y z r) in
    let same : last.names ≡ v.names = ap (take (length v.names)) on.names ∙ take_at v.names on.extra (length v.names) refl in record {
      bodies = subst (AreTypedBodies program) (sym functions)
          (All-append (IsTypedBodyOf program) (set v.functions n g2) grows.new (All-set (IsTypedBodyOf program) v.functions n g2 (leaves.typed ends_z) d.bodies) (bare_bodies program _ grows.new grows.declared));
      usable = subst (All (λ b. IsUsable last (file_scope program) b.meaning)) (sym same)
          (names_onward shut last (file_scope program) (onward shut last reach) v.names (names_onward v z (file_scope program) on v.names d.usable));
      sized = sized_step program shut last (good_same (closed u z) shut refl refl refl (good_closed u z good)) pair reach refl (sized_same program z shut refl refl refl refl refl leaves.sized);
    }

-- ---- the head of a definition

function_structs : {around : Context} {w v : World} {named : DeclaredName} {list : List ParameterTree} {types : List CTypeTree} {result : CTypeTree} {n : ℕ} → MakesFunction around w named list types result true (Some n) v → v.structs ≡ w.structs
function_structs {around = around} {w = w} {named = named} {list = list} {types = types} {result = result} (new_name r e) = by (has_name around.functions named.name)
  where
    by : (b : Bool) → (new_function w named b list types result).structs ≡ w.structs
    by true = refl
    by false = refl
function_structs (known_name l e so) = refl

function_initial : {around : Context} {w v : World} {named : DeclaredName} {list : List ParameterTree} {types : List CTypeTree} {result : CTypeTree} {n : ℕ} → MakesFunction around w named list types result true (Some n) v → v.initial ≡ w.initial
function_initial {around = around} {w = w} {named = named} {list = list} {types = types} {result = result} (new_name r e) = by (has_name around.functions named.name)
  where
    by : (b : Bool) → (new_function w named b list types result).initial ≡ w.initial
    by true = refl
    by false = refl
function_initial (known_name l e so) = refl

function_bodies :
    {around : Context} {w v : World} {named : DeclaredName} {list : List ParameterTree} {types : List CTypeTree} {result : CTypeTree} {n : ℕ} (program : TProgramTree) → MakesFunction around w named list types result true (Some n) v
    → AreTypedBodies program w.functions → AreTypedBodies program v.functions
function_bodies {around = around} {w = w} {named = named} {list = list} {types = types} {result = result} program (new_name r e) all = by (has_name around.functions named.name)
  where
    by : (b : Bool) → AreTypedBodies program (new_function w named b list types result).functions
    by true = All-push (IsTypedBodyOf program) w.functions _ all tt
    by false = All-push (IsTypedBodyOf program) w.functions _ all tt
function_bodies program (known_name l e so) all = all

head_bodies :
    {around : Context} {x y z : World} {steps : List Step} {base : Form} {named : DeclaredName} {begun : Begun} {body : BlockItemTrees} {made : Made} {defined : List (List ℕ)} (program : TProgramTree) (brace : Pos) → IsOutside around
    → AreFormedSteps x.structs steps → IsFormedForm x.structs base → AreScalarSteps steps → IsScalarForm base → All HasParamNames steps → Between around.functions defined x → AreUsable x (file_scope program)
    → AreSized program x → AreTypedBodies program x.functions → State y → MakesHead around x steps base named begun y → MakesItems y (in_function begun.result body around) nothing_made body made z
    → EndsFrom (definition_ends begun brace made z) (file_scope program) → Defined program (definition_ends begun brace made z)
head_bodies {x = x} {z = z} {steps = steps} {base = base} {named = named} {body = body} {made = made} program brace out fs fb ss sb params b usable sized bodies st
    (head {params = list} {names = names} {tags = tags} {rest = rest} {types = types} {result = result} {n = n} {v = v} s e f (counted {total = total})) i ends =
    let same = laid_types x x named.pos list names tags rest base types result (subst (λ l. laid x named.pos l base ≡ Typed (Callable types result) x) s e) in
    let form = function_form x named steps base types result fs fb ss sb e in
    definition_bodies program v z named list result total n names tags body made brace out (record {
      head_is = function_head b.links b.signed.pair same f;
      formed = subst (λ structs. IsFormed structs result) (sym (function_structs f)) form.formed;
      usable = function_usable (file_scope program) f (function_onward f) b.links usable;
      bodies = function_bodies program f bodies;
      pair = function_paired f b.signed.pair;
      sized = sized_onward program x v b.signed.pair (function_structs f) (function_onward f) (function_initial f) sized;
    }) (All-head HasParamNames (FunctionOf list names tags) rest (subst (All HasParamNames) s params)) st i ends

-- ---- the file

calm_usable : (program : TProgramTree) (w v : World) → Reaches Constants w v → AreUsable w (file_scope program) → AreUsable v (file_scope program)
calm_usable program w v r all = usable_after w v (file_scope program) r all

calm_bodies : (program : TProgramTree) (w v : World) → Reaches Constants w v → AreTypedBodies program w.functions → AreTypedBodies program v.functions
calm_bodies program w v r all = subst (AreTypedBodies program) (sym (quiet Constants w v r).functions) all

outer_bodies :
    {w v : World} {around : Context} {tree : OuterTree} (program : TProgramTree) → IsOutside around → FileState around program w → MakesOuter w around tree v → EndsFrom v (file_scope program)
    → AreTypedBodies program w.functions → Defined program v
outer_bodies {w = w} {around = around} program out s (outers.declares {made = made} d) ends all =
    let g = decl_grows s.good d in
    let empty = nothing_listed out.file refl d.rest in
    let lives = subst (Lives (outside program)) (sym empty) (record { listed = All-nil (Contains []); live = All-nil (Contains []) }) in record {
      bodies = subst (AreTypedBodies program) (sym g.functions) (All-append (IsTypedBodyOf program) w.functions g.new all (bare_bodies program around.functions g.new g.declared));
      usable = (decl_typed (outside program) (state_of s) lives s.usable s.sized d).usable;
      sized = (decl_typed (outside program) (state_of s) lives s.usable s.sized d).sized;
    }
outer_bodies {w = w} {around = around} program out s (outers.defines {brace = brace} {declarator = declarator} {shape = shape} {named = named} {begun = begun} {made = made} {u = u} {x = x} {y = y} {z = z} t n h i) ends all =
    let facts = head_facts s.good t in
    let scalars = head_scalar s.good s.scalar t in
    let between = calm_between u x facts.good facts.behind (calm_between w u s.good facts.calm s.between) in
    let inside = head_between scalars.steps h between in
    let objects = in_calm u x facts.good facts.behind (in_calm w u s.good facts.calm s.objects) in
    let st : State y = record {
      good = facts.scope;
      pair = inside.signed.pair;
      both = record { names = body_scalar scalars.names scalars.steps h; has = record { objects = file_objects.head_in facts.steps scalars.steps h objects; links = inside.links } };
    } in
    head_bodies program brace out facts.steps facts.formed scalars.steps scalars.form (names_are u x declarator shape facts.good t.declarator_is) between
    (calm_usable program u x facts.behind (calm_usable program w u facts.calm s.usable))
    (sized_calm program u x facts.good (paired w u facts.reached s.between.signed.pair) facts.behind (sized_calm program w u s.good s.between.signed.pair facts.calm s.sized)) (calm_bodies program u x facts.behind (calm_bodies program w u facts.calm all)) st h i ends

next_state :
    {w v : World} {around : Context} {tree : OuterTree} (program : TProgramTree) → IsOutside around → All (λ name. has_name around.functions name ≡ true) (functions_defined_by tree) → FileState around program w → MakesOuter w around tree v
    → AreUsable v (file_scope program) → AreSized program v → FileState around program v
next_state {tree = tree} program out covers s p usable sized =
    let next = outer_at out.file covers s.good s.scalar s.at s.linking p in record {
      good = good_by s.good (outer_reach s.good p);
      scalar = outer_scalar s.good s.scalar p;
      objects = file_objects.outer_in s.good s.scalar p s.objects;
      defined = s.defined ++ functions_defined_by tree;
      between = outer_between s.good s.scalar p s.between;
      at = next.at;
      linking = next.linking;
      usable = usable;
      sized = sized;
    }

pub outers_bodies :
    {around : Context} {w v : World} {list : List OuterTree} (program : TProgramTree) → IsOutside around → Covers around.functions list → MakesOuters around w list v → FileState around program w → EndsFrom v (file_scope program)
    → AreTypedBodies program w.functions → Defined program v
outers_bodies program out covers no_more s ends all = record { bodies = all; usable = s.usable; sized = s.sized }
outers_bodies {v = v} program out covers (and_then {u = u} p q) s ends all =
    let good = good_by s.good (outer_reach s.good p) in
    let here = ends_onward u v (file_scope program) good (outer_between s.good s.scalar p s.between).signed.pair (outers_reach good q) ends in
    let d = outer_bodies program out s p here all in
    outers_bodies program out covers.1 q (next_state program out covers.0 s p d.usable d.sized) ends d.bodies

-- nothing is declared yet
pub nothing_state : (around : Context) (program : TProgramTree) → FileState around program nothing_yet
nothing_state around program = record {
  good = nothing_good;
  scalar = All-nil (λ b. IsScalarMeaning b.meaning);
  objects = All-nil (IsObjectIn []);
  defined = [];
  between = nothing_between around.functions;
  at = record { balance = λ o. refl; bodies = All-nil (λ f. IfSome f.body HasItsLabels); pending = All-nil (IsPending around.functions) };
  linking = All-nil (λ l. OfFunction [] l.name l.meaning);
  usable = All-nil (λ b. IsUsable nothing_yet (file_scope program) b.meaning);
  sized = λ live ends. All-nil (IsSizedInitial program);
}
