-- Functions in the places of their numbers.
use Rattle.std.proofs.Common.{◌≡◌, ◌<◌, ◌≤◌, ◌+◌, ℕ, zero, suc, Bool, true, false, List, [], ◌∷◌, ◌++◌, map, length, drop, get_or, refl, sym, ap, subst, ◌∙◌, arith}
use Rattle.std.specs.Prelude.{◌==◌, max, if◌then◌else◌, Option, None, Some, option_and_then, option_map, unwrap_or, slice_get}
use Rattle.std.proofs.lemmas.Bool.{eqb-true, eqb-false}
use Rattle.std.proofs.Math.Seq.{drop-cons}
use Rattle.std.proofs.Math.ListN.{get_or-eq_default, length-set, set}
use Rattle.std.proofs.lemmas.List.{get_or-set_same, get_or-set_other}
use Rattle.std.proofs.lemmas.Option.{slice_get-map}
use Rattle.c_syntax.specs.declared.program.Initial.{Initial}
use Rattle.c_syntax.specs.Types.{ObjectTree}
use Rattle.c_syntax.specs.Program.{StructDefTree, TFunctionTree, TProgramTree}
use Rattle.block_mem.specs.declared.types.Scalar.{Scalar}
use Rattle.c_syntax.specs.TypedStmt.{TStmtTree}
use Rattle.c_layout.specs.Calls.{function_calls, stmt_calls}
use Rattle.c_rules_calls.specs.Graph.{calls_from, calls_in, calls_or_none, graph_of}
use Rattle.csharp.specs.declared.program.CsFunction.{CsFunction}
use Rattle.csharp.specs.declared.statement.CsStmt.TheVariants as stmts
use Rattle.csharp.specs.Trees.{CsFunctionTree, CsProgramTree, CsStmtTree, csfunction_tree}
use Rattle.csharp.proofs.CodeTrees.{csstmt_nothing}
use Rattle.lower_trees.specs.LowerProgram as programs
use Rattle.lower_stmt.specs.declared.functions.Placed.{Placed}
use Rattle.lower_program.specs.declared.order.Done.{Done}
use Rattle.lower_program.specs.Order.{AreDone, placed_tree}

-- ---- one function more
function_by : (b : Bool) (f g : ℕ) (d : CsFunction) (placed : Placed) (old : List CsFunction) (rest : CsFunctionTree) → (f == g) ≡ b → f < length old
    → csfunction_tree (get_or old g d) ≡ rest
    → csfunction_tree (get_or (set old f placed.function) g d) ≡ (if b then csfunction_tree placed.function else rest)
function_by true f g d placed old rest e h is =
    ap (λ k. csfunction_tree (get_or (set old f placed.function) k d)) (sym (eqb-true f g e)) ∙ ap csfunction_tree (get_or-set_same old f placed.function d h)
function_by false f g d placed old rest e h is =
    ap csfunction_tree (get_or-set_other old f g placed.function d (λ same. eqb-false f g e (sym same))) ∙ is

top_by : (b : Bool) (f g top : ℕ) (old : List ℕ) (rest : ℕ) → (f == g) ≡ b → f < length old → get_or old g 0 ≡ rest
    → get_or (set old f top) g 0 ≡ (if b then top else rest)
top_by true f g top old rest e h is = ap (λ k. get_or (set old f top) k 0) (sym (eqb-true f g e)) ∙ get_or-set_same old f top 0 h
top_by false f g top old rest e h is = get_or-set_other old f g top 0 (λ same. eqb-false f g e (sym same)) ∙ is

pub done_put : (count f : ℕ) (old new : Done) (placed : Placed) (all : List programs.Placed) → f < count
    → new.functions.items ≡ set old.functions.items f placed.function → new.tops.items ≡ set old.tops.items f placed.top
    → new.highest ≡ max old.highest placed.top → AreDone count old all → AreDone count new (placed_tree f placed ∷ all)
done_put count f old new placed all h functions tops highest before =
    let in_functions : f < length old.functions.items = let e = before.many in omega arith in
    let in_tops : f < length old.tops.items = let e = before.tops_many in omega arith in
    record {
      many = ap length functions ∙ length-set old.functions.items f placed.function ∙ before.many;
      tops_many = ap length tops ∙ length-set old.tops.items f placed.top ∙ before.tops_many;
      functions = λ g d below.
          ap (λ xs. csfunction_tree (get_or xs g d)) functions
          ∙ function_by (f == g) f g d placed old.functions.items (programs.function_in all g) refl in_functions (before.functions g d below);
      tops = λ g. ap (λ xs. get_or xs g 0) tops ∙ top_by (f == g) f g placed.top old.tops.items (programs.top_in all g) refl in_tops (before.tops g);
      highest = highest ∙ ap (λ n. max n placed.top) before.highest ∙ omega arith;
    }

-- ---- a number that no function has
other_by : (b : Bool) (f g : ℕ) (a c : CsFunctionTree) → (f == g) ≡ b → g < f → (if b then a else c) ≡ c
other_by true f g a c e h = let same = eqb-true f g e in absurd (omega arith)
other_by false f g a c e h = refl

nowhere_by : (b : Bool) (f g : ℕ) (tops : List ℕ) (rest : ℕ) → (f == g) ≡ b → length tops ≤ f → get_or tops g 0 ≡ rest
    → get_or tops g 0 ≡ (if b then 0 else rest)
nowhere_by true f g tops rest e h is = let same = eqb-true f g e in get_or-eq_default tops 0 (omega arith)
nowhere_by false f g tops rest e h is = is

pub done_missing : (count f : ℕ) (done : Done) (all : List programs.Placed) → count ≤ f → AreDone count done all
    → AreDone count done (record { number = f; function = programs.no_function; top = 0 } ∷ all)
done_missing count f done all h before =
    let beyond : length done.tops.items ≤ f = let e = before.tops_many in omega arith in
    record {
      many = before.many;
      tops_many = before.tops_many;
      functions = λ g d below.
          before.functions g d below ∙ sym (other_by (f == g) f g programs.no_function (programs.function_in all g) refl (omega arith));
      tops = λ g. nowhere_by (f == g) f g done.tops.items (programs.top_in all g) refl beyond (before.tops g);
      highest = before.highest ∙ omega arith;
    }

-- ---- the calls of a function
body_calls : (o : Option TStmtTree) → calls_or_none (Some (option_map stmt_calls o)) ≡ unwrap_or (option_map stmt_calls o) []
body_calls None = refl
body_calls (Some body) = refl

calls_by : (o : Option TFunctionTree)
    → calls_or_none (option_map calls_in o) ≡ unwrap_or (option_map stmt_calls (option_and_then (λ function. function.body) o)) []
calls_by None = refl
calls_by (Some function) = body_calls function.body

pub calls_same : (p : TProgramTree) (f : ℕ) → calls_from (graph_of p) f ≡ function_calls p f
calls_same p f = ap calls_or_none (slice_get-map calls_in p.functions f) ∙ calls_by (slice_get p.functions f)

-- ---- all functions by their numbers
pub functions_same : (xs : List CsFunction) (all : List programs.Placed) (k : ℕ) (fs : List TFunctionTree) → length xs ≡ length fs
    → ((i : ℕ) (d : CsFunction) → i < length fs → csfunction_tree (get_or xs i d) ≡ programs.function_in all (k + i))
    → map csfunction_tree xs ≡ programs.functions_from all k fs
functions_same [] all k [] e each = refl
functions_same [] all k (f ∷ fs) e each = absurd (omega arith)
functions_same (x ∷ xs) all k [] e each = absurd (omega arith)
functions_same (x ∷ xs) all k (f ∷ fs) e each =
    let first : k + 0 ≡ k = omega arith in
    let fewer : length xs ≡ length fs = omega arith in
    let some : 0 < length (f ∷ fs) = omega arith in
    ap (λ t. t ∷ map csfunction_tree xs) (each 0 x some ∙ ap (programs.function_in all) first)
    ∙ ap (λ ts. programs.function_in all k ∷ ts)
    (functions_same xs all (suc k) fs fewer
    (λ i d below. let next : k + suc i ≡ suc k + i = omega arith in let inside : suc i < length (f ∷ fs) = omega arith in
    each (suc i) d inside ∙ ap (programs.function_in all) next))

abbrev program_of : List StructDefTree → List ObjectTree → List Initial → List CsFunctionTree → List Scalar → ℕ → CsProgramTree
program_of structs objects initial functions temps main =
    record { structs = structs; objects = objects; initial = initial; functions = functions; temps = temps; main = main }

pub same_program : (s s' : List StructDefTree) (o o' : List ObjectTree) (i i' : List Initial) (f f' : List CsFunctionTree) (t t' : List Scalar) (main : ℕ)
    → s ≡ s' → o ≡ o' → i ≡ i' → f ≡ f' → t ≡ t' → program_of s o i f t main ≡ program_of s' o' i' f' t' main
same_program s s' o o' i i' f f' t t' main es eo ei ef et =
    ap (λ x. program_of x o i f t main) es ∙ ap (λ x. program_of s' x i f t main) eo ∙ ap (λ x. program_of s' o' x f t main) ei
    ∙ ap (λ x. program_of s' o' i' x t main) ef ∙ ap (λ x. program_of s' o' i' f' x main) et

-- ---- one function after the other
missing_calls : (p : TProgramTree) (f : ℕ) → None ≡ slice_get p.functions f → function_calls p f ≡ []
missing_calls p f e = ap (λ o. unwrap_or (option_map stmt_calls (option_and_then (λ function. function.body) o)) []) (sym e)

pub none_placed : (p : TProgramTree) (count f : ℕ) (done : Done) (all : List programs.Placed) → None ≡ slice_get p.functions f → count ≤ f
    → AreDone count done all
    → AreDone count done (programs.placed_at p f (programs.behind_calls all (function_calls p f)) (slice_get p.functions f) ∷ all)
none_placed p count f done all e h before =
    let is = ap (programs.placed_at p f (programs.behind_calls all (function_calls p f))) (sym e)
    ∙ ap (λ calls. programs.placed_at p f (programs.behind_calls all calls) None) (missing_calls p f e) in
    subst (λ x. AreDone count done (x ∷ all)) (sym is) (done_missing count f done all h before)

pub some_placed : (p : TProgramTree) (f d : ℕ) (function : TFunctionTree) (all : List programs.Placed) (x : programs.Placed)
    → Some function ≡ slice_get p.functions f → d ≡ programs.behind_calls all (function_calls p f)
    → x ≡ programs.placed_body p f d function function.body
    → x ≡ programs.placed_at p f (programs.behind_calls all (function_calls p f)) (slice_get p.functions f)
some_placed p f d function all x e row is =
    is ∙ ap (λ n. programs.placed_at p f n (Some function)) row ∙ ap (programs.placed_at p f (programs.behind_calls all (function_calls p f))) e

pub record InOrder (p : TProgramTree) (count : ℕ) (order left : List ℕ) (done : Done) : Type 0 where
  pub all : List programs.Placed
  pub are : AreDone count done all
  pub rest : programs.lower_order p left all ≡ programs.lower_order p order []

pub function_more : (p : TProgramTree) (count : ℕ) (order items : List ℕ) (i : ℕ) (old new : Done) → i < length items
    → ((all : List programs.Placed) → AreDone count old all
    → AreDone count new (programs.placed_at p (get_or items i 0) (programs.behind_calls all (function_calls p (get_or items i 0)))
    (slice_get p.functions (get_or items i 0)) ∷ all))
    → InOrder p count order (drop i items) old → InOrder p count order (drop (i + 1) items) new
function_more p count order items i old new below more before =
    let step : suc i ≡ i + 1 = omega arith in
    let f = get_or items i 0 in
    let cut : drop i items ≡ f ∷ drop (i + 1) items = drop-cons items i 0 below ∙ ap (λ j. f ∷ drop j items) step in
    record {
      all = programs.placed_at p f (programs.behind_calls before.all (function_calls p f)) (slice_get p.functions f) ∷ before.all;
      are = more before.all before.are;
      rest = ap (λ xs. programs.lower_order p xs before.all) (sym cut) ∙ before.rest;
    }

pub order_end : (p : TProgramTree) (count : ℕ) (order left : List ℕ) (done : Done) → left ≡ [] → InOrder p count order left done
    → AreDone count done (programs.lower_order p order [])
order_end p count order left done e before =
    subst (AreDone count done) (ap (λ xs. programs.lower_order p xs before.all) (sym e) ∙ before.rest) before.are

-- ---- no function yet
pub length_push : {X : Type 0} → (xs : List X) (x : X) → length (xs ++ x ∷ []) ≡ suc (length xs)
length_push [] x = refl
length_push (y ∷ ys) x = ap suc (length_push ys x)

abbrev with_body : CsStmtTree → CsFunctionTree
with_body body = record { params = []; body = body }

pub nothing_tree : (params : List ℕ) → params ≡ [] → csfunction_tree (record { params = params; body = stmts.Nothing }) ≡ programs.no_function
nothing_tree params e = ap (λ xs. csfunction_tree (record { params = xs; body = stmts.Nothing })) e ∙ ap with_body csstmt_nothing

pub nothing_more : (xs : List CsFunction) (x : CsFunction) (f : ℕ) (d : CsFunction) → csfunction_tree x ≡ programs.no_function
    → ((g : ℕ) (e : CsFunction) → g < length xs → csfunction_tree (get_or xs g e) ≡ programs.no_function) → f < length (xs ++ x ∷ [])
    → csfunction_tree (get_or (xs ++ x ∷ []) f d) ≡ programs.no_function
nothing_more [] x zero d is before below = is
nothing_more [] x (suc f) d is before below = absurd (omega arith)
nothing_more (y ∷ ys) x zero d is before below = before zero d (omega arith)
nothing_more (y ∷ ys) x (suc f) d is before below =
    nothing_more ys x f d is (λ g e inside. before (suc g) e (omega arith)) (omega arith)

pub no_rows_more : (xs : List ℕ) (f : ℕ) → ((g : ℕ) → get_or xs g 0 ≡ 0) → get_or (xs ++ 0 ∷ []) f 0 ≡ 0
no_rows_more [] zero before = refl
no_rows_more [] (suc f) before = refl
no_rows_more (x ∷ xs) zero before = before zero
no_rows_more (x ∷ xs) (suc f) before = no_rows_more xs f (λ g. before (suc g))
