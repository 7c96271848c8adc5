-- The code of an expression has no scope, no loop and no mark in it. So the objects, the labels and the cases of code are those of the statements.
use Rattle.std.proofs.Common.{◌≡◌, ℕ, zero, suc, List, [], ◌∷◌, ◌++◌, Option, Some, None, Bool, true, false, max, map, refl, sym, ap, ◌∙◌}
use Rattle.std.specs.Prelude.{if◌then◌else◌}
use Rattle.std.proofs.lemmas.List.{append-nil, append_assoc}
use Rattle.c_syntax_written.specs.declared.place.Pos.{Pos}
use Rattle.c_syntax.specs.declared.operator.TUnaryOp.{TUnaryOp}
use Rattle.c_syntax.specs.declared.operator.TUnaryOp.TheVariants as unaries
use Rattle.c_syntax.specs.TypedExpr as c
use Rattle.c_syntax.specs.TypedExpr.{TExprTree, TLvalueTree, TExprTrees}
use Rattle.c_syntax.specs.TypedStmt as s
use Rattle.c_syntax.specs.TypedStmt.{TInitTree, TStmtTree, TStmtTrees}
use Rattle.c_syntax.specs.TypedParts.{texpr_type, tlvalue_type, tlvalue_pos}
use Rattle.c_syntax.specs.Program.{TProgramTree}
use Rattle.c_layout.specs.Jumps.{listed_of, listed_in, cases_among}
use Rattle.c_syntax.specs.declared.operator.StepTime.{StepTime}
use Rattle.c_syntax.specs.declared.operator.StepTime.TheVariants as times
use Rattle.c_syntax.specs.declared.alarm.WrongKind.TheVariants as kinds
use Rattle.c_steps.specs.Changes.{step_operator}
use Rattle.c_layout.specs.Checks.{plain_check, test_checks}
use Rattle.c_layout.specs.MainFunction.{is_main}
use Rattle.block_mem.specs.declared.types.Scalar.{Scalar}
use Rattle.block_mem.specs.declared.types.Scalar.TheVariants as scalars
use Rattle.c_syntax.specs.declared.operator.TBinaryOp.{TBinaryOp}
use Rattle.c_objects.specs.Opening.{size_of}
use Rattle.c_objects.specs.Writing.{is_named}
use Rattle.c_values.specs.Typed.{unary_type, binary_type}
use Rattle.c_values.specs.Values.{scalar_of, plain_type}
use Rattle.csharp.specs.Trees.{CsExprTree, Const, Null, Unary, Binary, CsCheckTree, CsStmtTree, Nothing, Set, Load, Store, CopyBytes, Undefine, Checked, Input, Assume, Sequence, If, Loop, Block, Exit, Scope, Switch, Goto, Call, Return, Label, Case, Default, CsStmtTrees, none, more}
use Rattle.csharp.specs.Formed as formed
use Rattle.csharp.specs.Formed.{gathered, gathered_in, objects_of}
use Rattle.lower_trees.specs.Checking.{checks, plain_one, test_list, load_list, store_list, read_list, write_list, move_list, unary_list, binary_list}
use Rattle.lower_trees.specs.Zeros.{zero_cells, object_scalars}
use Rattle.lower_trees.specs.LowerExpr.{Lowered, lowered, Forms, Args, held_scalar, wanted, spilled, is_kept, is_kept_alone, plain, with_source, of_load, of_assign, of_change, of_compound, of_step, of_input, of_assume, changed_left, step_one, of_assert, of_member, place_scalar, of_unary, of_binary, of_assign_struct, of_comma, of_unary_forms, of_cond, of_call, of_convert, lower_expr, lower_place, lower_args}
use Rattle.lower_trees.specs.LowerStmt.{Context, InLoop, InSwitch, Past, init_code, rest_code, inits_code, test_of, step_of, with_last, lower_stmt, lower_items}

abbrev pub Flat : CsStmtTree → Type 0
Flat (Sequence a b) = Flat a × Flat b
Flat (If e a b) = Flat a × Flat b
Flat (Block a) = Flat a
Flat (Loop at a) = ⊥
Flat (Scope xs items) = ⊥
Flat (Switch e xs items) = ⊥
Flat (Undefine x) = ⊥
Flat (Goto l) = ⊥
Flat (Return e) = ⊥
Flat (Label at l) = ⊥
Flat (Case k) = ⊥
Flat Default = ⊥
Flat a = Unit {0}

flat_checks : (cs : List CsCheckTree) → Flat (checks cs)
flat_checks [] = tt
flat_checks (k ∷ cs) = (tt, flat_checks cs)

flat_spilled : (kept : Bool) (d : ℕ) (ty : Scalar) (a : Lowered) → Flat a.before → Flat (spilled kept d ty a).before
flat_spilled true d ty a h = h
flat_spilled false d ty a h = (h, tt)

flat_convert : (ty : Option Scalar) (a : Lowered) → Flat a.before → Flat (of_convert ty a).before
flat_convert None a h = h
flat_convert (Some ty) a h = h

pub record FlatForms (a : Forms) : Type 0 where
  pub value : Flat a.value.before
  pub unless : (at : Pos) (k : ℕ) → Flat (a.unless at k)
  pub when : (at : Pos) (k : ℕ) → Flat (a.when at k)
  pub source : (size align : ℕ) → Flat (a.source size align).before

flat_plain : (ty : Option Scalar) (a : Lowered) → Flat a.before → FlatForms (plain ty a)
flat_plain ty a h = record { value = h; unless = λ at k. (h, (flat_checks _, (tt, tt))); when = λ at k. (h, (flat_checks _, (tt, tt))); source = λ size align. h }

flat_op : (d : ℕ) (at : Pos) (op : TUnaryOp) (ty : Option Scalar) (a : Lowered) → Flat a.before → Flat (of_unary d at op ty a).before
flat_op d at op ty a h =
    flat_spilled (is_kept_alone op) d (unary_type op) (lowered (Sequence a.before (checks (unary_list at op ty a.value))) (Unary op a.value) a.next a.top) (h, flat_checks (unary_list at op ty a.value))

flat_two : (d : ℕ) (at : Pos) (kept : Bool) (op : TBinaryOp) (a b : Lowered) → Flat a.before → Flat b.before → Flat (of_binary d at kept op a b).before
flat_two d at kept op a b h k =
    flat_spilled kept d (binary_type op) (lowered (Sequence a.before (Sequence b.before (checks (binary_list at op a.value b.value)))) (Binary op a.value b.value) b.next (max a.top b.top))
    (h, (k, flat_checks (binary_list at op a.value b.value)))

flat_unary : (d : ℕ) (at : Pos) (op : TUnaryOp) (ty : Option Scalar) (a : Forms) → FlatForms a → FlatForms (of_unary_forms d at op ty a)
flat_unary d at unaries.Not ty a h = record {
  value = flat_op d at unaries.Not ty a.value h.value;
  unless = λ from k. h.when at k;
  when = λ from k. h.unless at k;
  source = λ size align. flat_op d at unaries.Not ty a.value h.value;
}
flat_unary d at (unaries.Plus t) ty a h = flat_plain (Some (unary_type (unaries.Plus t))) (of_unary d at (unaries.Plus t) ty a.value) (flat_op d at (unaries.Plus t) ty a.value h.value)
flat_unary d at (unaries.Minus t) ty a h = flat_plain (Some (unary_type (unaries.Minus t))) (of_unary d at (unaries.Minus t) ty a.value) (flat_op d at (unaries.Minus t) ty a.value h.value)
flat_unary d at (unaries.Complement t) ty a h = flat_plain (Some (unary_type (unaries.Complement t))) (of_unary d at (unaries.Complement t) ty a.value) (flat_op d at (unaries.Complement t) ty a.value h.value)

flat_source : (at : Pos) (a : Lowered) → Flat a.before → FlatForms (with_source at a)
flat_source at a h = record {
  value = h;
  unless = λ from k. (h, (flat_checks (test_list from None a.value), (tt, tt)));
  when = λ from k. (h, (flat_checks (test_list from None a.value), (tt, tt)));
  source = λ size align. (h, flat_checks (read_list at size align a.value));
}

flat_load : (d : ℕ) (at : Pos) (ty : Scalar) (a : Lowered) → Flat a.before → Flat (of_load d at ty a).before
flat_load d at ty a h = (h, (flat_checks (load_list at ty a.value), tt))

flat_assign : (at : Pos) (ty : Scalar) (a b : Lowered) → Flat a.before → Flat b.before → Flat (of_assign at ty a b).before
flat_assign at ty a b h k = (h, (k, (flat_checks (store_list at ty a.value), tt)))

flat_copy : (at : Pos) (size align : ℕ) (a b : Lowered) → Flat a.before → Flat b.before → Flat (of_assign_struct at size align a b).before
flat_copy at size align a b h k = (h, (k, (flat_checks (write_list at size align a.value), tt)))

flat_change : (at at_place : Pos) (ty : Scalar) (op : TBinaryOp) (time : StepTime) (before : CsStmtTree) (d top : ℕ) (place u : CsExprTree) → Flat before → Flat (of_change at at_place ty op time before d top place u).before
flat_change at at_place ty op time before d top place u h =
    (h, (flat_checks (load_list at_place ty place), (tt, (flat_checks (binary_list at op (changed_left op ty d) u), (tt, (flat_checks (store_list at_place ty place), tt))))))

flat_assert : (d : ℕ) (at : Pos) (ty : Option Scalar) (a : Lowered) → Flat a.before → Flat (of_assert d at ty a).before
flat_assert d at ty a h = (h, flat_checks (map (plain_one at a.value) (test_checks (plain_type ty) ++ plain_check kinds.AssertFailed ∷ [])))

flat_member : (at : Pos) (offset : ℕ) (a : Lowered) → Flat a.before → Flat (of_member at offset a).before
flat_member at offset a h = (h, flat_checks (move_list at a.value offset))

flat_comma : (ty : Option Scalar) (a : Lowered) (b : Forms) → Flat a.before → FlatForms b → FlatForms (of_comma ty a b)
flat_comma ty a b h g = record {
  value = (h, g.value);
  unless = λ from k. ((h, g.value), (flat_checks _, (tt, tt)));
  when = λ from k. ((h, g.value), (flat_checks _, (tt, tt)));
  source = λ size align. (h, g.source size align);
}

flat_cond : (d : ℕ) (o : Option Scalar) (test : CsStmtTree) (top : ℕ) (a b : Lowered) → Flat test → Flat a.before → Flat b.before → Flat (of_cond d o test top a b).before
flat_cond d None test top a b h k l = ((h, (k, tt)), l)
flat_cond d (Some ty) test top a b h k l = ((h, ((k, tt), tt)), (l, tt))

flat_call : (d : ℕ) (at : Pos) (g : ℕ) (o : Option Scalar) (main : Bool) (args : Args) → Flat args.before → Flat (of_call d at g o main args).before
flat_call d at g None main args h = (h, tt)
flat_call d at g (Some ty) true args h = (h, tt)
flat_call d at g (Some ty) false args h = (h, (tt, (tt, tt)))

mutual
  pub flat_expr : (p : TProgramTree) (e : TExprTree) (d : ℕ) → FlatForms (lower_expr p d e)
  flat_expr p (c.Const at t k) d = flat_plain (Some (scalars.Int t)) (lowered Nothing (Const t k) d d) tt
  flat_expr p (c.Null at ty) d = flat_plain (Some scalars.Pointer) (lowered Nothing Null d d) tt
  flat_expr p (c.Load at x) d = flat_plain (scalar_of (tlvalue_type x)) (of_load d (tlvalue_pos x) (place_scalar x) (lower_place p d x)) (flat_load d (tlvalue_pos x) (place_scalar x) (lower_place p d x) (flat_place p x d))
  flat_expr p (c.AddressOf at x) d = flat_plain (Some scalars.Pointer) (lower_place p d x) (flat_place p x d)
  flat_expr p (c.Decay at x) d = flat_plain (Some scalars.Pointer) (lower_place p d x) (flat_place p x d)
  flat_expr p (c.Whole at x) d = flat_source _ (lower_place p d x) (flat_place p x d)
  flat_expr p (c.Unary at op a) d = flat_unary d at op (scalar_of (texpr_type a)) (lower_expr p d a) (flat_expr p a d)
  flat_expr p (c.Binary at op a b) d =
      flat_plain (Some (binary_type op)) (of_binary d at (is_kept op a b) op (lower_expr p d a).value (lower_expr p (lower_expr p d a).value.next b).value) (flat_two d at (is_kept op a b) op (lower_expr p d a).value (lower_expr p (lower_expr p d a).value.next b).value (flat_expr p a d).value (flat_expr p b (lower_expr p d a).value.next).value)
  flat_expr p (c.Convert at ty a) d = flat_plain (scalar_of ty) (of_convert (scalar_of ty) (lower_expr p d a).value) (flat_convert (scalar_of ty) (lower_expr p d a).value (flat_expr p a d).value)
  flat_expr p (c.Assign at x a) d =
      flat_plain (scalar_of (tlvalue_type x)) (of_assign (tlvalue_pos x) (place_scalar x) (lower_place p d x) (lower_expr p (lower_place p d x).next a).value) (flat_assign (tlvalue_pos x) (place_scalar x) (lower_place p d x) (lower_expr p (lower_place p d x).next a).value (flat_place p x d) (flat_expr p a (lower_place p d x).next).value)
  flat_expr p (c.AssignStruct at extent x a) d =
      flat_source (tlvalue_pos x) (of_assign_struct (tlvalue_pos x) extent.size extent.align (lower_place p d x) ((lower_expr p (lower_place p d x).next a).source extent.size extent.align))
      (flat_copy (tlvalue_pos x) extent.size extent.align (lower_place p d x) ((lower_expr p (lower_place p d x).next a).source extent.size extent.align) (flat_place p x d) ((flat_expr p a (lower_place p d x).next).source extent.size extent.align))
  flat_expr p (c.Compound at op x a) d =
      let lb = (lower_expr p (lower_place p d x).next a).value in
      flat_plain (scalar_of (tlvalue_type x)) (of_compound at (tlvalue_pos x) (place_scalar x) op (lower_place p d x) lb) (flat_change at (tlvalue_pos x) (place_scalar x) op times.Before (Sequence (lower_place p d x).before lb.before) lb.next (max (lower_place p d x).top lb.top) (lower_place p d x).value lb.value
      (flat_place p x d, (flat_expr p a (lower_place p d x).next).value))
  flat_expr p (c.Step at time way stride x) d =
      let la = lower_place p d x in
      flat_plain (scalar_of (tlvalue_type x)) (of_step at (tlvalue_pos x) (place_scalar x) time way stride la) (flat_change at (tlvalue_pos x) (place_scalar x) (step_operator way stride) time la.before la.next la.top la.value (step_one stride) (flat_place p x d))
  flat_expr p (c.And at a b) d =
      let f = flat_expr p a d in let g = flat_expr p b d in
      record {
        value = (((f.unless at 0, g.unless at 0), (tt, tt)), tt);
        unless = λ from k. (f.unless at k, g.unless at k);
        when = λ from k. (f.unless at 0, g.when at (suc k));
        source = λ size align. (((f.unless at 0, g.unless at 0), (tt, tt)), tt);
      }
  flat_expr p (c.Or at a b) d =
      let f = flat_expr p a d in let g = flat_expr p b d in
      record {
        value = (((f.when at 0, g.unless at 1), (tt, tt)), tt);
        unless = λ from k. (f.when at 0, g.unless at (suc k));
        when = λ from k. (f.when at k, g.when at k);
        source = λ size align. (((f.when at 0, g.unless at 1), (tt, tt)), tt);
      }
  flat_expr p (c.Cond at ty t a b) d =
      let f = flat_expr p t d in let g = flat_expr p a d in let h = flat_expr p b d in
      let v = flat_cond d (held_scalar ty) ((lower_expr p d t).unless at 0) (lower_expr p d t).value.top (lower_expr p d a).value (lower_expr p d b).value (f.unless at 0) g.value h.value in
      let w = flat_plain (held_scalar ty) (of_cond d (held_scalar ty) ((lower_expr p d t).unless at 0) (lower_expr p d t).value.top (lower_expr p d a).value (lower_expr p d b).value) v in
      record { value = v; unless = w.unless; when = w.when; source = λ size align. ((f.unless at 0, ((g.source size align, tt), tt)), (h.source size align, tt)) }
  flat_expr p (c.Comma at a b) d = flat_comma (scalar_of (texpr_type b)) (lower_expr p d a).value (lower_expr p d b) (flat_expr p a d).value (flat_expr p b d)
  flat_expr p (c.Call at g ty used args) d = flat_plain (scalar_of ty) (of_call d at g (wanted used ty) (is_main p g) (lower_args p d args)) (flat_call d at g (wanted used ty) (is_main p g) (lower_args p d args) (flat_args p args d))
  flat_expr p (c.Any at t) d = flat_plain (Some (scalars.Int t)) (of_input d t) tt
  flat_expr p (c.Assume at a) d = flat_plain None (of_assume d at (lower_expr p d a)) (((flat_expr p a d).unless at 0, (tt, tt)), tt)
  flat_expr p (c.Assert at a) d = flat_plain None (of_assert d at (scalar_of (texpr_type a)) (lower_expr p d a).value) (flat_assert d at (scalar_of (texpr_type a)) (lower_expr p d a).value (flat_expr p a d).value)

  pub flat_place : (p : TProgramTree) (x : TLvalueTree) (d : ℕ) → Flat (lower_place p d x).before
  flat_place p (c.Var at x ty k) d = tt
  flat_place p (c.Deref at kind ty k e) d = (flat_expr p e d).value
  flat_place p (c.Member at k offset ty is_const x) d = flat_member at offset (lower_place p d x) (flat_place p x d)

  pub flat_args : (p : TProgramTree) (args : TExprTrees) (d : ℕ) → Flat (lower_args p d args).before
  flat_args p c.none d = tt
  flat_args p (c.more e rest) d = ((flat_expr p e d).value, flat_args p rest (lower_expr p d e).value.next)

-- ---- the objects of code

none_two : (xs ys : List ℕ) → xs ≡ [] → ys ≡ [] → xs ++ ys ≡ []
none_two xs ys e f = rw e f

pub no_objects : (a : CsStmtTree) → Flat a → gathered objects_of a ≡ []
no_objects (Sequence a b) h = none_two (gathered objects_of a) (gathered objects_of b) (no_objects a h.0) (no_objects b h.1)
no_objects (If e a b) h = none_two (gathered objects_of a) (gathered objects_of b) (no_objects a h.0) (no_objects b h.1)
no_objects (Block a) h = no_objects a h
no_objects (Loop at a) h = absurd h
no_objects (Scope xs items) h = absurd h
no_objects (Switch e xs items) h = absurd h
no_objects (Undefine x) h = absurd h
no_objects (Goto l) h = absurd h
no_objects (Return e) h = absurd h
no_objects (Label at l) h = absurd h
no_objects (Case k) h = absurd h
no_objects Default h = absurd h
no_objects Nothing h = refl
no_objects (Set d e) h = refl
no_objects (Load d ty e) h = refl
no_objects (Store ty e f) h = refl
no_objects (CopyBytes n e f) h = refl
no_objects (Checked k) h = refl
no_objects (Input d t) h = refl
no_objects (Assume e) h = refl
no_objects (Exit k) h = refl
no_objects (Call k) h = refl

abbrev of_code : CsStmtTree → List ℕ
of_code a = gathered objects_of a

before_none : (p : TProgramTree) (d : ℕ) (e : TExprTree) → of_code (lower_expr p d e).value.before ≡ []
before_none p d e = no_objects (lower_expr p d e).value.before (flat_expr p e d).value

unless_none : (p : TProgramTree) (d : ℕ) (e : TExprTree) (at : Pos) → of_code ((lower_expr p d e).unless at 0) ≡ []
unless_none p d e at = no_objects ((lower_expr p d e).unless at 0) ((flat_expr p e d).unless at 0)

if_cells : (z : Bool) (a b : CsStmtTrees) → gathered_in objects_of a ≡ [] → gathered_in objects_of b ≡ [] → gathered_in objects_of (if z then a else b) ≡ []
if_cells true a b h k = h
if_cells false a b h k = k

cells_none : (at : ℕ → Option Scalar) (named : ℕ → Bool) (x left skip k : ℕ) → gathered_in objects_of (zero_cells at named x k skip left none) ≡ []
cells_none at named x zero skip k = refl
cells_none at named x (suc left) (suc skip) k = cells_none at named x left skip (suc k)
cells_none at named x (suc left) zero k = if_cells (named k) _ _ (cells_none at named x left zero (suc k)) (cells_none at named x left _ (suc k))

rest_none : (p : TProgramTree) (x : ℕ) (inits : List TInitTree) (z : Bool) → gathered_in objects_of (rest_code p x inits z) ≡ []
rest_none p x inits true = cells_none (object_scalars p x) (is_named inits) x (size_of p.objects x) 0 0
rest_none p x inits false = refl

init_none : (p : TProgramTree) (d x : ℕ) (init : TInitTree) → of_code (init_code p d x init).code ≡ []
init_none p d x (s.Store offset ty value) = none_two (of_code (lower_expr p d value).value.before) [] (before_none p d value) refl
init_none p d x (s.Copy offset extent source) = none_two (of_code ((lower_expr p d source).source extent.size extent.align).before) [] (no_objects ((lower_expr p d source).source extent.size extent.align).before ((flat_expr p source d).source extent.size extent.align)) refl

inits_none : (p : TProgramTree) (d x : ℕ) (inits : List TInitTree) (rest : CsStmtTrees) → gathered_in objects_of rest ≡ [] → gathered_in objects_of (inits_code p d x inits rest) ≡ []
inits_none p d x [] rest h = h
inits_none p d x (init ∷ inits) rest h = none_two (of_code (init_code p d x init).code) (gathered_in objects_of (inits_code p d x inits rest)) (init_none p d x init) (inits_none p d x inits rest h)

last_objects : (items : CsStmtTrees) (a : CsStmtTree) → gathered_in objects_of (with_last items a) ≡ gathered_in objects_of items ++ of_code a
last_objects none a = append-nil (of_code a)
last_objects (more item rest) a = ap (λ z. of_code item ++ z) (last_objects rest a) ∙ sym (append_assoc (of_code item) (gathered_in objects_of rest) (of_code a))

test_none : (p : TProgramTree) (d : ℕ) (at : Pos) (o : Option TExprTree) → of_code (test_of p d at o).code ≡ []
test_none p d at None = refl
test_none p d at (Some e) = unless_none p d e at

step_none : (p : TProgramTree) (d : ℕ) (o : Option TExprTree) → of_code (step_of p d o).code ≡ []
step_none p d None = refl
step_none p d (Some e) = before_none p d e

loop_objects : (test body step xs : List ℕ) → test ≡ [] → step ≡ [] → body ≡ xs → test ++ (body ++ step) ≡ xs
loop_objects test body step xs e f g = rw e (rw f (append-nil body ∙ g))

branch_objects : (test first second xs ys : List ℕ) → test ≡ [] → first ≡ xs → second ≡ ys → (test ++ (first ++ [])) ++ second ≡ xs ++ ys
branch_objects test first second xs ys e f g = rw e (rw (append-nil first) (rw f (rw g refl)))

mutual
  unfolding listed_of

  -- code lists the objects that the statement lists, in their order
  pub listed_kept : (p : TProgramTree) (d : ℕ) (k : Context) (b : TStmtTree) → of_code (lower_stmt p d k b).code ≡ listed_of b
  listed_kept p d k (s.Empty at) = refl
  listed_kept p d k (s.Expr at e) = before_none p d e
  listed_kept p d k (s.Block at kind xs items) = ap (λ z. xs ++ z) (items_kept p d k items)
  listed_kept p d k (s.Declare at x inits z) = inits_none p d x inits (rest_code p x inits z) (rest_none p x inits z)
  listed_kept p d k (s.Static at x) = refl
  listed_kept p d k (s.If at e a b) =
      branch_objects (of_code ((lower_expr p d e).unless at 0)) (of_code (lower_stmt p d (Past (Past k)) a).code) (of_code (lower_stmt p d (Past k) b).code) (listed_of a) (listed_of b)
      (unless_none p d e at) (listed_kept p d (Past (Past k)) a) (listed_kept p d (Past k) b)
  listed_kept p d k (s.While at e b) =
      loop_objects (of_code ((lower_expr p d e).unless at 0)) (of_code (lower_stmt p d InLoop b).code) [] (listed_of b) (unless_none p d e at) refl (listed_kept p d InLoop b)
  listed_kept p d k (s.DoWhile at b e) = ap (λ z. of_code (lower_stmt p d InLoop b).code ++ z) (unless_none p d e at) ∙ append-nil (of_code (lower_stmt p d InLoop b).code) ∙ listed_kept p d InLoop b
  listed_kept p d k (s.For at xs head e step b) =
      let loop = loop_objects (of_code (test_of p d at e).code) (of_code (lower_stmt p d InLoop b).code) (of_code (step_of p d step).code) (listed_of b) (test_none p d at e) (step_none p d step) (listed_kept p d InLoop b) in
      ap (λ z. xs ++ z) (last_objects (lower_items p d k head).items _ ∙ ap (λ z. z ++ (of_code (test_of p d at e).code ++ (of_code (lower_stmt p d InLoop b).code ++ of_code (step_of p d step).code))) (items_kept p d k head) ∙ ap (λ z. listed_in head ++ z) loop) ∙ sym (append_assoc xs (listed_in head) (listed_of b))
  listed_kept p d k (s.Switch at e kind xs items) =
      ap (λ z. z ++ (xs ++ gathered_in objects_of (lower_items p d (InSwitch k) items).items)) (before_none p d e) ∙ ap (λ z. xs ++ z) (items_kept p d (InSwitch k) items)
  listed_kept p d k (s.Break at) = refl
  listed_kept p d k (s.Continue at) = refl
  listed_kept p d k (s.Goto at l) = refl
  listed_kept p d k (s.Return at None) = refl
  listed_kept p d k (s.Return at (Some e)) = none_two (of_code (lower_expr p d e).value.before) [] (before_none p d e) refl
  listed_kept p d k (s.Label at l) = refl
  listed_kept p d k (s.Case at j) = refl
  listed_kept p d k (s.Default at) = refl

  pub items_kept : (p : TProgramTree) (d : ℕ) (k : Context) (items : TStmtTrees) → gathered_in objects_of (lower_items p d k items).items ≡ listed_in items
  items_kept p d k s.none = refl
  items_kept p d k (s.more item rest) = ap (λ z. z ++ gathered_in objects_of (lower_items p d k rest).items) (listed_kept p d k item) ∙ ap (λ z. listed_of item ++ z) (items_kept p d k rest)

-- ---- the cases of a switch

-- flat code is no case
not_case : (a : CsStmtTree) (rest : CsStmtTrees) → Flat a → formed.cases_among (more a rest) ≡ formed.cases_among rest
not_case (Case k) rest h = absurd h
not_case Nothing rest h = refl
not_case (Set d e) rest h = refl
not_case (Load d ty e) rest h = refl
not_case (Store ty e f) rest h = refl
not_case (CopyBytes n e f) rest h = refl
not_case (Undefine x) rest h = refl
not_case (Checked k) rest h = refl
not_case (Input d t) rest h = refl
not_case (Assume e) rest h = refl
not_case (Sequence a b) rest h = refl
not_case (If e a b) rest h = refl
not_case (Loop at a) rest h = refl
not_case (Block a) rest h = refl
not_case (Exit k) rest h = refl
not_case (Scope xs items) rest h = refl
not_case (Switch e xs items) rest h = refl
not_case (Goto l) rest h = refl
not_case (Call k) rest h = refl
not_case (Return e) rest h = refl
not_case (Label at l) rest h = refl
not_case Default rest h = refl

-- lowered items have the cases of the items, in their order
pub cases_kept : (p : TProgramTree) (d : ℕ) (k : Context) (items : TStmtTrees) → formed.cases_among (lower_items p d k items).items ≡ cases_among items
unfolding cases_among
cases_kept p d k s.none = refl
cases_kept p d k (s.more (s.Case at j) rest) = ap (λ z. j ∷ z) (cases_kept p d k rest)
cases_kept p d k (s.more (s.Expr at e) rest) = not_case (lower_expr p d e).value.before (lower_items p d k rest).items (flat_expr p e d).value ∙ cases_kept p d k rest
cases_kept p d k (s.more (s.Empty at) rest) = cases_kept p d k rest
cases_kept p d k (s.more (s.Block at kind xs items) rest) = cases_kept p d k rest
cases_kept p d k (s.more (s.Declare at x inits z) rest) = cases_kept p d k rest
cases_kept p d k (s.more (s.Static at x) rest) = cases_kept p d k rest
cases_kept p d k (s.more (s.If at e a b) rest) = cases_kept p d k rest
cases_kept p d k (s.more (s.While at e b) rest) = cases_kept p d k rest
cases_kept p d k (s.more (s.DoWhile at b e) rest) = cases_kept p d k rest
cases_kept p d k (s.more (s.For at xs head e step b) rest) = cases_kept p d k rest
cases_kept p d k (s.more (s.Switch at e kind xs items) rest) = cases_kept p d k rest
cases_kept p d k (s.more (s.Break at) rest) = cases_kept p d k rest
cases_kept p d k (s.more (s.Continue at) rest) = cases_kept p d k rest
cases_kept p d k (s.more (s.Goto at l) rest) = cases_kept p d k rest
cases_kept p d k (s.more (s.Return at None) rest) = cases_kept p d k rest
cases_kept p d k (s.more (s.Return at (Some e)) rest) = cases_kept p d k rest
cases_kept p d k (s.more (s.Label at l) rest) = cases_kept p d k rest
cases_kept p d k (s.more (s.Default at) rest) = cases_kept p d k rest
