-- The sites of the nodes that typing makes of typed parts.
use Rattle.std.proofs.Common.{◌≡◌, ℕ, ◌+◌, Bool, true, false, List, [], ◌∷◌, ◌++◌, length, refl, sym, ap, subst}
use Rattle.std.specs.Prelude.{if◌then◌else◌, ◌==◌, pos, Option, Some, None, option_map, slice_get}
use Rattle.std.proofs.lemmas.List.{append-nil}
use Rattle.c_syntax_written.specs.declared.place.Pos.{Pos}
use Rattle.c_syntax_written.specs.declared.int_type.IntType.{IntType}
use Rattle.c_syntax_written.specs.declared.int_type.IntType.TheVariants as ints
use Rattle.c_syntax_written.specs.declared.step.StepWay.{StepWay}
use Rattle.c_syntax_written.specs.declared.token.Constant.{Constant}
use Rattle.c_syntax_written.specs.declared.written.UnaryOp.{UnaryOp}
use Rattle.c_syntax_written.specs.declared.written.UnaryOp.TheVariants as prefixes
use Rattle.c_syntax_written.specs.declared.written.BinaryOp.{BinaryOp}
use Rattle.c_syntax_written.specs.declared.written.AssignOp.{AssignOp}
use Rattle.c_syntax.specs.declared.operator.Stride.{Stride}
use Rattle.c_syntax.specs.declared.operator.StepTime.{StepTime}
use Rattle.c_syntax.specs.declared.operator.DerefKind.TheVariants as derefs
use Rattle.c_syntax.specs.declared.operator.TUnaryOp.TheVariants as unaries
use Rattle.c_syntax.specs.Types.{CTypeTree, ObjectTree}
use Rattle.c_syntax.specs.TypedExpr.{TExprTree, Const, Compound, Step, Assume, Assert, TLvalueTree, TExprTrees, none, more}
use Rattle.c_syntax.specs.TypedParts.{texpr_type, tlvalue_type}
use Rattle.c_layout.specs.Conversion.{literal_type_of}
use Rattle.c_typing.specs.World.{World, Form, Plain, Unsized, Callable, Meaning, Object, Missing, Parameter, TypeName, Enumeration, Refusal, Outcome, Typed, Refused, unless}
use Rattle.c_typing.specs.World as world
use Rattle.c_typing.specs.Names.{input_type, is_assume, is_assert, is_reserved, meaning_of}
use Rattle.c_typing.specs.Operands.{OperandTree, Place, Value, value_of, is_unsized, complete_size}
use Rattle.c_typing.specs.Rows.{Stored, Scalar, Copied, CompoundTree, is_scalar, step_row}
use Rattle.c_typing.specs.Nodes as nodes
use Rattle.c_typing.specs.Nodes.{Passed, Passes, Fails, passed, passed_one, with_passed}
use Rattle.c_sites.specs.Sites.{OneOperand, Callee, InObject, Site, site, sites_of, sites_at, sites_among}
use Rattle.c_typing_laws.proofs.Outcomes.{TypedAs, typed_as, refused_as, as_unless, as_limits}
use Rattle.c_sites.proofs.InLists.{Within, within_same, within_itself, within_nothing, within_both}
use Rattle.c_typing_places.proofs.Spread.{MadeOf, made_nothing, made_both, made_second, own_both, own_first, own_second}
use Rattle.c_typing_places.proofs.RowSites.{operand_sites, stored_sites, value_same, not_used_same, RowMade, no_row, a_row, PlaceMade, no_place, a_place, ValueMade, no_value, a_value, StoredMade, not_stored, is_stored, CompoundMade, no_compound, a_compound, unary_made, not_made, star_made, operator_made, index_made, member_made, arrow_made, store_made, stored_made, compound_made, cond_made, cast_made}

-- where the node is typed, it is made of these
abbrev pub NodeMade : Pos → List Site → List Site → Outcome OperandTree → Type 0
NodeMade at xs ys o = TypedAs (λ x v. MadeOf at xs ys (operand_sites x)) o

given_made : {at : Pos} {xs ys : List Site} (r : Refusal) {row : Option TExprTree} (w : World) → RowMade at xs ys row → NodeMade at xs ys (nodes.given r row w)
given_made r w no_row = refused_as
given_made r w (a_row m) = typed_as m

place_made : {at : Pos} {xs ys : List Site} (r : Refusal) {row : Option TLvalueTree} (w : World) → PlaceMade at xs ys row → NodeMade at xs ys (nodes.given_place r row w)
place_made r w no_place = refused_as
place_made r w (a_place m) = typed_as m

pub outcome_if : {A : Type 0} {P : A → World → Type 0} (b : Bool) {o q : Outcome A} → TypedAs P o → TypedAs P q → TypedAs P (if b then o else q)
outcome_if true f g = f
outcome_if false f g = g

-- ---- names and literals

object_node : (w : World) (at : Pos) (n : ℕ) (o : Option ObjectTree) (r : Refusal) {xs ys : List Site} → NodeMade at xs ys (nodes.given_place r (option_map (nodes.object_place at n) o) w)
unfolding sites_of sites_at
object_node w at n None r = refused_as
object_node w at n (Some object) r = typed_as (own_first (InObject n false) within_nothing)

named_node : (w : World) (at : Pos) (m : Option Meaning) {xs ys : List Site} → NodeMade at xs ys (nodes.named w at m)
unfolding sites_of sites_at
named_node w at None = refused_as
named_node w at (Some (Object n)) = object_node w at n (slice_get w.objects n) (world.Undeclared at)
named_node w at (Some (Missing ty c)) = refused_as
named_node w at (Some (Parameter k ty c)) = typed_as (own_first (InObject (length w.objects) false) within_nothing)
named_node w at (Some (world.Function n)) = refused_as
named_node w at (Some (TypeName form)) = refused_as
named_node w at (Some (Enumeration n)) = typed_as made_nothing

pub word_node : (w : World) (at : Pos) (name : List ℕ) {xs ys : List Site} → NodeMade at xs ys (nodes.word w at name)
word_node w at name = outcome_if (is_reserved name) refused_as (named_node w at (meaning_of w name))

number_row : (at : Pos) (c : Constant) (o : Option IntType) {xs ys : List Site} → RowMade at xs ys (option_map (λ t. Const at t (pos c.value)) o)
unfolding sites_of
number_row at c None = no_row
number_row at c (Some t) = a_row made_nothing

pub number_node : (w : World) (at : Pos) (c : Constant) {xs ys : List Site} → NodeMade at xs ys (nodes.number w at c)
number_node w at c = given_made (world.NotConstant at) w (number_row at c (literal_type_of c.value c.decimal c.unsigned c.longs))

pub character_node : (w : World) (at : Pos) (byte : ℕ) {xs ys : List Site} → NodeMade at xs ys (nodes.character w at byte)
unfolding sites_of
character_node w at byte = typed_as made_nothing

pub literal_node : (w : World) (at : Pos) (bytes : List ℕ) {xs ys : List Site} → NodeMade at xs ys (nodes.literal w at bytes)
unfolding sites_of sites_at
literal_node w at bytes = as_limits at (length bytes + 1) w (typed_as (own_first (InObject (length w.objects) false) within_nothing))

-- ---- operators

-- as what is read
at_value : (x : OperandTree) (P : List Site → Type 0) → P (sites_of (value_of x)) → P (operand_sites x)
at_value x P p = subst P (value_same x) p

address_node : (w : World) (at : Pos) (x : OperandTree) {xs : List Site} → NodeMade at xs (operand_sites x) (nodes.address w at x)
unfolding sites_of
address_node w at (Value e) = refused_as
address_node w at (Place place) = as_unless (is_unsized (tlvalue_type place)) _ (λ e. typed_as (made_second within_itself))

pub unary_node : (w : World) (at : Pos) (op : UnaryOp) (x : OperandTree) {xs : List Site} → NodeMade at xs (operand_sites x) (nodes.unary w at op x)
unary_node w at prefixes.AddressOf x = address_node w at x
unary_node w at prefixes.Deref x {xs} =
    at_value x (λ ys. NodeMade at xs ys (nodes.unary w at prefixes.Deref x)) (place_made (nodes.no_row w at _ (value_of x)) w (star_made derefs.Star at (texpr_type (value_of x)) (value_of x)))
unary_node w at prefixes.Plus x {xs} =
    at_value x (λ ys. NodeMade at xs ys (nodes.unary w at prefixes.Plus x)) (given_made (nodes.no_row w at _ (value_of x)) w (unary_made unaries.Plus at (texpr_type (value_of x)) (value_of x)))
unary_node w at prefixes.Minus x {xs} =
    at_value x (λ ys. NodeMade at xs ys (nodes.unary w at prefixes.Minus x)) (given_made (nodes.no_row w at _ (value_of x)) w (unary_made unaries.Minus at (texpr_type (value_of x)) (value_of x)))
unary_node w at prefixes.Complement x {xs} =
    at_value x (λ ys. NodeMade at xs ys (nodes.unary w at prefixes.Complement x))
    (given_made (nodes.no_row w at _ (value_of x)) w (unary_made unaries.Complement at (texpr_type (value_of x)) (value_of x)))
unary_node w at prefixes.Not x {xs} =
    at_value x (λ ys. NodeMade at xs ys (nodes.unary w at prefixes.Not x)) (given_made (nodes.no_row w at _ (value_of x)) w (not_made at (texpr_type (value_of x)) (value_of x)))

pub binary_node : (w : World) (at : Pos) (op : BinaryOp) (a b : TExprTree) → NodeMade at (sites_of a) (sites_of b) (nodes.binary w at op a b)
binary_node w at op a b = given_made (nodes.no_rows w at (nodes.binary_op op) a b) w (operator_made w.structs at op (texpr_type a) (texpr_type b) a b)

pub index_node : (w : World) (at : Pos) (a b : TExprTree) → NodeMade at (sites_of a) (sites_of b) (nodes.indexed w at a b)
index_node w at a b = place_made (nodes.no_rows w at _ a b) w (index_made w.structs at (texpr_type a) (texpr_type b) a b)

pub member_node : (w : World) (at : Pos) (name : List ℕ) (x : OperandTree) {ys : List Site} → NodeMade at (operand_sites x) ys (nodes.member w at name x)
member_node w at name (Value e) = refused_as
member_node w at name (Place place) = place_made (nodes.no_row w at _ (value_of (Place place))) w (member_made w.structs at name (tlvalue_type place) place)

pub arrow_node : (w : World) (at : Pos) (name : List ℕ) (e : TExprTree) {ys : List Site} → NodeMade at (sites_of e) ys (nodes.arrow w at name e)
arrow_node w at name e = place_made (nodes.no_row w at _ e) w (arrow_made w.structs at name (texpr_type e) e)

-- a node on a place that may be changed
modified : (at : Pos) (x : OperandTree) (node : TLvalueTree → TExprTree) (w : World) {xs ys : List Site} → ((place : TLvalueTree) → x ≡ Place place → MadeOf at xs ys (sites_of (node place)))
    → NodeMade at xs ys (nodes.on_modifiable at x node w)
modified at (Value e) node w f = refused_as
modified at (Place place) node w f = outcome_if (nodes.is_modifiable place) (typed_as (f place refl)) refused_as

abbrev PlaceIn : OperandTree → TLvalueTree → Type 0
PlaceIn x place = Within (sites_at place) (operand_sites x)

place_in : (x : OperandTree) (place : TLvalueTree) → x ≡ Place place → PlaceIn x place
place_in x place e = within_same (ap operand_sites (sym e))

store_sites : (at : Pos) (s : Stored) (place : TLvalueTree) {xs ys : List Site} → Within (sites_at place) xs → Within (stored_sites s) ys → MadeOf at xs ys (sites_of (nodes.store_node at s place))
unfolding sites_of
store_sites at (Scalar value) place f g = made_both f g
store_sites at (Copied extent source) place f g = made_both f g

stored_changed : (w : World) (at : Pos) (r : Refusal) (x : OperandTree) {ys : List Site} {row : Option Stored} → StoredMade ys row
    → NodeMade at (operand_sites x) ys (nodes.changed r at x row (nodes.store_node at) w)
stored_changed w at r x not_stored = refused_as
stored_changed w at r x (is_stored {s} g) = modified at x (nodes.store_node at s) w (λ place e. store_sites at s place (place_in x place e) g)

pub assigned_node : (w : World) (at : Pos) (x : OperandTree) (e : TExprTree) → NodeMade at (operand_sites x) (sites_of e) (nodes.assigned w at x e)
assigned_node w at x e = stored_changed w at (nodes.no_rows w at _ (value_of x) e) x (stored_made w.structs (texpr_type (value_of x)) (texpr_type e) e)

compound_changed : (w : World) (at : Pos) (r : Refusal) (x : OperandTree) {ys : List Site} {row : Option CompoundTree} → CompoundMade ys row
    → NodeMade at (operand_sites x) ys (nodes.changed r at x row (λ c place. Compound at c.op place c.value) w)
unfolding sites_of
compound_changed w at r x no_compound = refused_as
compound_changed w at r x (a_compound {c} g) = modified at x (λ place. Compound at c.op place c.value) w (λ place e. own_both OneOperand (place_in x place e) g)

pub compound_node : (w : World) (at : Pos) (op : AssignOp) (x : OperandTree) (e : TExprTree) → NodeMade at (operand_sites x) (sites_of e) (nodes.compound w at op x e)
compound_node w at op x e = compound_changed w at (nodes.no_rows w at (nodes.assign_op op) (value_of x) e) x (compound_made w.structs op (texpr_type (value_of x)) (texpr_type e) e)

step_changed : (w : World) (at : Pos) (r : Refusal) (time : StepTime) (way : StepWay) (x : OperandTree) (row : Option Stride) {xs ys : List Site} → ((place : TLvalueTree) → x ≡ Place place → MadeOf at xs ys (site at OneOperand ∷ sites_at place))
    → NodeMade at xs ys (nodes.changed r at x row (λ stride place. Step at time way stride place) w)
unfolding sites_of
step_changed w at r time way x None f = refused_as
step_changed w at r time way x (Some stride) f = modified at x (λ place. Step at time way stride place) w f

pub before_node : (w : World) (at : Pos) (time : StepTime) (way : StepWay) (x : OperandTree) {xs : List Site} → NodeMade at xs (operand_sites x) (nodes.stepped w at time way x)
before_node w at time way x = step_changed w at (nodes.no_row w at (nodes.step_op way) (value_of x)) time way x (step_row w.structs (texpr_type (value_of x))) (λ place e. own_second OneOperand (place_in x place e))

pub after_node : (w : World) (at : Pos) (time : StepTime) (way : StepWay) (x : OperandTree) {ys : List Site} → NodeMade at (operand_sites x) ys (nodes.stepped w at time way x)
after_node w at time way x = step_changed w at (nodes.no_row w at (nodes.step_op way) (value_of x)) time way x (step_row w.structs (texpr_type (value_of x))) (λ place e. own_first OneOperand (place_in x place e))

pub conditional_node : (w : World) (at : Pos) (test a b : TExprTree) → NodeMade at (sites_of test) (sites_of a ++ sites_of b) (nodes.conditional w at test a b)
conditional_node w at test a b = outcome_if (is_scalar (texpr_type test)) (given_made (nodes.no_rows w at _ a b) w (cond_made at test (texpr_type a) (texpr_type b) a b)) refused_as

pub comma_node : (w : World) (at : Pos) (a b : TExprTree) → NodeMade at (sites_of a) (sites_of b) (nodes.sequenced w at a b)
unfolding sites_of
comma_node w at a b = typed_as (made_both (within_same (not_used_same a)) within_itself)

size_row : (at : Pos) (o : Option ℕ) {xs ys : List Site} → RowMade at xs ys (option_map (λ size. Const at ints.ULong (pos size)) o)
unfolding sites_of
size_row at None = no_row
size_row at (Some size) = a_row made_nothing

pub size_node : (w : World) (at : Pos) (ty : CTypeTree) {xs ys : List Site} → NodeMade at xs ys (nodes.size_of w at ty)
size_node w at ty = given_made _ w (size_row at (complete_size w.structs ty))

pub form_node : (w : World) (at : Pos) (form : Form) {xs ys : List Site} → NodeMade at xs ys (nodes.size_of_form w at form)
form_node w at (Plain ty c) = size_node w at ty
form_node w at (Unsized of c) = refused_as
form_node w at (Callable params result) = refused_as

value_made : {at : Pos} {xs ys : List Site} (r : Refusal) {row : Option TExprTree} (w : World) → ValueMade ys row → NodeMade at xs ys (nodes.given r row w)
value_made r w no_value = refused_as
value_made r w (a_value f) = typed_as (made_second f)

pub cast_node : (w : World) (at : Pos) (form : Form) (e : TExprTree) {xs : List Site} → NodeMade at xs (sites_of e) (nodes.cast w at form e)
cast_node w at (Plain target c) e = value_made (nodes.no_cast w at target e) w (cast_made at target (texpr_type e) e)
cast_node w at (Unsized of c) e = refused_as
cast_node w at (Callable params result) e = refused_as

-- ---- calls

data PassedMade (xs : List Site) : Passed → Type 0 where
  all_pass : {args : TExprTrees} → Within (sites_among args) xs → PassedMade xs (Passes args)
  one_fails : {r : Refusal} → PassedMade xs (Fails r)

then_passed : (e : TExprTree) {xs ys : List Site} {rest : Passed} → Within (sites_of e) xs → PassedMade ys rest → PassedMade (xs ++ ys) (with_passed e rest)
unfolding sites_among
then_passed e f (all_pass g) = all_pass (within_both f g)
then_passed e f one_fails = one_fails

first_passed : (r : Refusal) {xs ys : List Site} {row : Option TExprTree} {rest : Passed} → ValueMade xs row → PassedMade ys rest → PassedMade (xs ++ ys) (passed_one r row rest)
first_passed r no_value g = one_fails
first_passed r (a_value {e} f) g = then_passed e f g

none_passed : {xs : List Site} → PassedMade xs (Passes none)
unfolding sites_among
none_passed = all_pass within_nothing

passed_made : (w : World) (at : Pos) (params : List CTypeTree) (args : TExprTrees) → PassedMade (sites_among args) (passed w at params args)
unfolding passed sites_among
passed_made w at [] none = none_passed
passed_made w at [] (more e rest) = none_passed
passed_made w at (param ∷ params) none = none_passed
passed_made w at (param ∷ params) (more e rest) = first_passed _ (store_made param (texpr_type e) e) (passed_made w at params rest)

call_made : (w : World) (at : Pos) (n : ℕ) (result : CTypeTree) {xs ys : List Site} {args : Passed} → PassedMade ys args → NodeMade at xs ys (nodes.call_node w at n result args)
unfolding sites_of
call_made w at n result (all_pass f) = typed_as (own_second (Callee n) f)
call_made w at n result one_fails = refused_as

named_called : (w : World) (at : Pos) (args : TExprTrees) (m : Option Meaning) {xs : List Site} → NodeMade at xs (sites_among args) (nodes.call_named w at args m)
named_called w at args None = refused_as
named_called w at args (Some (Object n)) = refused_as
named_called w at args (Some (Missing ty c)) = refused_as
named_called w at args (Some (Parameter k ty c)) = refused_as
named_called w at args (Some (world.Function n)) =
    outcome_if (length (nodes.params_of w n) == nodes.count_of args) (call_made w at n (nodes.result_of w n) (passed_made w at (nodes.params_of w n) args)) refused_as
named_called w at args (Some (TypeName form)) = refused_as
named_called w at args (Some (Enumeration n)) = refused_as

told_made : (w : World) (at : Pos) (node : TExprTree → TExprTree) (args : TExprTrees) {xs : List Site} → ((e : TExprTree) → sites_of (node e) ≡ site at OneOperand ∷ sites_of e)
    → NodeMade at xs (sites_among args) (nodes.told w at node args)
unfolding sites_among
told_made w at node none h = refused_as
told_made w at node (more e none) {xs} h =
    outcome_if (is_scalar (texpr_type e)) (typed_as (subst (λ zs. MadeOf at xs (sites_of e ++ []) zs) (sym (h e)) (own_second OneOperand (within_same (sym (append-nil (sites_of e))))))) refused_as
told_made w at node (more e (more d rest)) h = refused_as

input_made : (w : World) (at : Pos) (t : IntType) (args : TExprTrees) {xs ys : List Site} → NodeMade at xs ys (nodes.input_read w at t args)
unfolding sites_of
input_made w at t none = typed_as made_nothing
input_made w at t (more e rest) = refused_as

called_by : (w : World) (at : Pos) (name : List ℕ) (args : TExprTrees) (o : Option IntType) {xs : List Site} → NodeMade at xs (sites_among args) (nodes.called_or_read w at name args o)
unfolding sites_of
called_by w at name args (Some t) = input_made w at t args
called_by w at name args None =
    outcome_if (is_assume name) (told_made w at (Assume at) args (λ e. refl)) (outcome_if (is_assert name) (told_made w at (Assert at) args (λ e. refl)) (named_called w at args (meaning_of w name)))

pub call_node : (w : World) (at : Pos) (name : List ℕ) (args : TExprTrees) {xs : List Site} → NodeMade at xs (sites_among args) (nodes.called w at name args)
call_node w at name args = called_by w at name args (input_type name)
