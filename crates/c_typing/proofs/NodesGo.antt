-- Nodes of expressions leave the world as it is, but for literals.
use Rattle.std.proofs.Common.{◌≡◌, refl}
use Rattle.std.specs.Prelude.{ℕ, ◌+◌, nat_lt, length, Bool, true, false, Option, Some, None, List}
use Rattle.std.proofs.lemmas.Bool.{ltb-false}
use Rattle.c_syntax_written.specs.declared.place.Pos.{Pos}
use Rattle.c_syntax_written.specs.declared.int_type.IntType.{IntType}
use Rattle.c_syntax_written.specs.declared.written.UnaryOp.{UnaryOp}
use Rattle.c_syntax_written.specs.declared.written.UnaryOp.TheVariants as prefixes
use Rattle.c_syntax.specs.Types.{CTypeTree}
use Rattle.c_syntax.specs.TypedExpr.{TExprTree, Assume, Assert, TLvalueTree, Var, TExprTrees, none, more}
use Rattle.c_typing.proofs.Changes.{Changes}
use Rattle.c_typing.specs.World.{World, Form, Plain, Unsized, Callable, Meaning, Object, Missing, Parameter, TypeName, Enumeration, Refusal, ObjectTooLarge, TotalTooLarge, Outcome, Typed, Refused, unless}
use Rattle.c_typing.specs.Names as names
use Rattle.c_typing.specs.World as world
use Rattle.c_typing.specs.Operands.{OperandTree, Place, Value}
use Rattle.c_typing.specs.Nodes as nodes
use Rattle.c_typing.specs.Nodes.{Passed, Passes, Fails}
use Rattle.c_typing.proofs.Reaches.{Goes, typed, refused, literal, goes_same, goes_if, goes_unless}

pub given : {may : Changes} (r : Refusal) (e : Option TExprTree) (w : World) → Goes may w (nodes.given r e w)
given r None w = refused
given r (Some e) w = goes_same

pub given_place : {may : Changes} (r : Refusal) (e : Option TLvalueTree) (w : World) → Goes may w (nodes.given_place r e w)
given_place r None w = refused
given_place r (Some e) w = goes_same

pub named : {may : Changes} (w : World) (at : Pos) (m : Option Meaning) → Goes may w (nodes.named w at m)
named w at None = refused
named w at (Some (Object n)) = given_place _ _ w
named w at (Some (Missing ty is_const)) = refused
named w at (Some (Parameter k ty is_const)) = goes_same
named w at (Some (world.Function n)) = refused
named w at (Some (TypeName form)) = refused
named w at (Some (Enumeration n)) = goes_same

pub word : {may : Changes} (w : World) (at : Pos) (name : List ℕ) → Goes may w (nodes.word w at name)
word w at name = goes_if _ refused (named w at _)

pub within_limits : {may : Changes} {A : Type 0} {v : World} (at : Pos) (size : ℕ) (w : World) {o : Outcome A} → Goes may v o → Goes may v (names.within_limits at size w o)
within_limits at size w p =
    goes_unless (nat_lt names.object_limit size) (ObjectTooLarge at size)
    (goes_unless (nat_lt names.total_limit (w.total + size)) (TotalTooLarge at (w.total + size)) p)

pub literal_node : {may : Changes} (w : World) (at : Pos) (bytes : List ℕ) → Goes may w (nodes.literal w at bytes)
literal_node {may = may} w at bytes = by (nat_lt names.object_limit (length bytes + 1)) refl
  where
    by : (large : Bool) → nat_lt names.object_limit (length bytes + 1) ≡ large
        → Goes may w (unless large (ObjectTooLarge at (length bytes + 1)) (unless (nat_lt names.total_limit (w.total + (length bytes + 1))) (TotalTooLarge at (w.total + (length bytes + 1)))
        (Typed (Place (Var at (length w.objects) (names.literal_type (length bytes + 1)) false)) (names.with_literal w at bytes))))
    by true e = refused
    by false e = goes_unless _ _ (typed (literal w at bytes (ltb-false names.object_limit (length bytes + 1) e)))

pub address : {may : Changes} (w : World) (at : Pos) (x : OperandTree) → Goes may w (nodes.address w at x)
address w at (Value e) = refused
address w at (Place place) = goes_unless _ _ goes_same

pub unary : {may : Changes} (w : World) (at : Pos) (op : UnaryOp) (x : OperandTree) → Goes may w (nodes.unary w at op x)
unary w at prefixes.AddressOf x = address w at x
unary w at prefixes.Deref x = given_place _ _ w
unary w at prefixes.Plus x = given _ _ w
unary w at prefixes.Minus x = given _ _ w
unary w at prefixes.Complement x = given _ _ w
unary w at prefixes.Not x = given _ _ w

pub member : {may : Changes} (w : World) (at : Pos) (name : List ℕ) (x : OperandTree) → Goes may w (nodes.member w at name x)
member w at name (Value e) = refused
member w at name (Place place) = given_place _ _ w

pub on_modifiable : {may : Changes} (at : Pos) (x : OperandTree) (node : TLvalueTree → TExprTree) (w : World) → Goes may w (nodes.on_modifiable at x node w)
on_modifiable at (Value e) node w = refused
on_modifiable at (Place place) node w = goes_if _ goes_same refused

pub changed : {may : Changes} {A : Type 0} (r : Refusal) (at : Pos) (x : OperandTree) (row : Option A) (node : A → TLvalueTree → TExprTree) (w : World) → Goes may w (nodes.changed r at x row node w)
changed r at x None node w = refused
changed r at x (Some row) node w = on_modifiable at x _ w

pub tested : {may : Changes} (w : World) (at : Pos) (e : TExprTree) → Goes may w (nodes.tested w at e)
tested w at e = goes_if _ goes_same refused

pub conditional : {may : Changes} (w : World) (at : Pos) (test a b : TExprTree) → Goes may w (nodes.conditional w at test a b)
conditional w at test a b = goes_if _ (given _ _ w) refused

pub size_of_form : {may : Changes} (w : World) (at : Pos) (form : Form) → Goes may w (nodes.size_of_form w at form)
size_of_form w at (Plain ty is_const) = given _ _ w
size_of_form w at (Unsized ty is_const) = refused
size_of_form w at (Callable params result) = refused

pub cast : {may : Changes} (w : World) (at : Pos) (form : Form) (e : TExprTree) → Goes may w (nodes.cast w at form e)
cast w at (Plain ty is_const) e = given _ _ w
cast w at (Unsized ty is_const) e = refused
cast w at (Callable params result) e = refused

pub call_node : {may : Changes} (w : World) (at : Pos) (n : ℕ) (result : CTypeTree) (args : Passed) → Goes may w (nodes.call_node w at n result args)
call_node w at n result (Passes args) = goes_same
call_node w at n result (Fails r) = refused

pub call_named : {may : Changes} (w : World) (at : Pos) (args : TExprTrees) (m : Option Meaning) → Goes may w (nodes.call_named w at args m)
call_named w at args None = refused
call_named w at args (Some (Object n)) = refused
call_named w at args (Some (Missing ty is_const)) = refused
call_named w at args (Some (Parameter k ty is_const)) = refused
call_named w at args (Some (world.Function n)) = goes_if _ (call_node w at _ _ _) refused
call_named w at args (Some (TypeName form)) = refused
call_named w at args (Some (Enumeration n)) = refused

pub input_read : {may : Changes} (w : World) (at : Pos) (t : IntType) (args : TExprTrees) → Goes may w (nodes.input_read w at t args)
input_read w at t none = goes_same
input_read w at t (more e rest) = refused

pub told : {may : Changes} (w : World) (at : Pos) (node : TExprTree → TExprTree) (args : TExprTrees) → Goes may w (nodes.told w at node args)
told w at node none = refused
told w at node (more e none) = goes_if _ goes_same refused
told w at node (more e (more d rest)) = refused

pub called_or_read : {may : Changes} (w : World) (at : Pos) (name : List ℕ) (args : TExprTrees) (t : Option IntType) → Goes may w (nodes.called_or_read w at name args t)
called_or_read w at name args (Some t) = input_read w at t args
called_or_read w at name args None = goes_if (names.is_assume name) (told w at (Assume at) args) (goes_if (names.is_assert name) (told w at (Assert at) args) (call_named w at args (names.meaning_of w name)))
