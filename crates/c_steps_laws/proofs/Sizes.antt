-- The types of typed expressions are proper, so elements that pointers move over have a size, and it is told.
use Rattle.std.proofs.Common.{◌≡◌, ◌<◌, ◌≤◌, ◌*◌, ◌^◌, ℕ, Bool, true, false, List, [], ◌∷◌, Option, Some, None, refl, sym, ap, ◌∙◌, subst, arith}
use Rattle.std.specs.Prelude.{All, IsSomeAnd, option_map, slice_get, slice_index_or}
use Rattle.std.proofs.Math.Nat.{mul-pos}
use Rattle.std.proofs.lemmas.Option.{slice_get_within, slice_get-get_or}
use Rattle.c_syntax_written.specs.declared.int_type.IntType.{IntType}
use Rattle.c_syntax_written.specs.declared.int_type.IntType.TheVariants as ints
use Rattle.c_syntax_written.specs.Integer.{bytes}
use Rattle.c_syntax.specs.declared.operator.TUnaryOp.{TUnaryOp}
use Rattle.c_syntax.specs.declared.operator.TUnaryOp.TheVariants as unaries
use Rattle.c_syntax.specs.declared.operator.TBinaryOp.{TBinaryOp}
use Rattle.c_syntax.specs.declared.operator.TBinaryOp.TheVariants as binaries
use Rattle.c_syntax.specs.Types.{CTypeTree, Void, Int, Pointer, Array, Struct, Function, ObjectTree}
use Rattle.c_syntax.specs.TypedExpr.{TExprTree, Const, Null, Load, AddressOf, Decay, Whole, Unary, Binary, Convert, Assign, AssignStruct, Compound, Step, And, Or, Cond, Comma, Call, Any, Assume, Assert, TLvalueTree, Var, Deref, Member}
use Rattle.c_syntax.specs.TypedParts.{texpr_type, tlvalue_type, decayed, unary_type, binary_type}
use Rattle.c_syntax.specs.GivenType.{given_type}
use Rattle.c_syntax.specs.Program.{MemberTree, StructDefTree, TFunctionTree, TProgramTree}
use Rattle.c_layout.specs.Layout.{members_of, in_table, spaces_by, struct_space, size_in}
use Rattle.c_layout.specs.ProperTypes.{IsTold, IsProperType}
use Rattle.c_layout.specs.RowTypes.{PointsToSize}
use Rattle.c_layout.specs.Tables.{IsTypedTable}
use Rattle.c_layout.specs.TypedNodes.{Scope, IsTypedExpr, IsTypedPlace, VarRow, CallRow, types_of}
use Rattle.c_layout.specs.WellTyped.{IsWellTyped, IsTypedObject, IsTypedFunction}
use Rattle.c_layout.proofs.Given as given
use Rattle.c_layout.proofs.ScalarMembers.{member_proper}
use Rattle.c_layout.proofs.StructSizes.{struct_size}
use Rattle.c_values.specs.Typed.{IsElement}
use Rattle.c_steps_laws.proofs.Expressions.{AreSized}

-- ---- sizes of proper types

some_is : {X : Type 0} {a b : X} → Some a ≡ Some b → a ≡ b
some_is e = cc

some_same : (a b : ℕ) → Some a ≡ Some b → a ≡ b
some_same a b e = cc

int_bytes : (t : IntType) → (0 < bytes t) × (bytes t ≤ 2 ^ 40)
int_bytes ints.Char = (omega arith, omega arith)
int_bytes ints.SChar = (omega arith, omega arith)
int_bytes ints.UChar = (omega arith, omega arith)
int_bytes ints.Short = (omega arith, omega arith)
int_bytes ints.UShort = (omega arith, omega arith)
int_bytes ints.Int = (omega arith, omega arith)
int_bytes ints.UInt = (omega arith, omega arith)
int_bytes ints.Long = (omega arith, omega arith)
int_bytes ints.ULong = (omega arith, omega arith)
int_bytes ints.LLong = (omega arith, omega arith)
int_bytes ints.ULLong = (omega arith, omega arith)

product_positive : (k z : ℕ) → 0 < k → 0 < z → 0 < k * z
product_positive k z h g = mul-pos h g

array_size : (k : ℕ) (o : Option ℕ) (n : ℕ) → 0 < k → ((z : ℕ) → o ≡ Some z → 0 < z) → option_map (λ z. k * z) o ≡ Some n → 0 < n
array_size k None n h f e = absurd (cc)
array_size k (Some z) n h f e = let same : k * z ≡ n = cc in subst (λ x. 0 < x) same (product_positive k z h (f z refl))

told_and : (o : Option ℕ) (n : ℕ) → IsSomeAnd o IsTold → o ≡ Some n → n ≤ 2 ^ 40
told_and None n h e = absurd h
told_and (Some z) n h e = let same : z ≡ n = cc in subst (λ x. x ≤ 2 ^ 40) same h

both_and : (o : Option ℕ) (n : ℕ) → IsSomeAnd o (λ size. (0 < size) × IsTold size) → o ≡ Some n → IsElement n
both_and None n h e = absurd h
both_and (Some z) n h e = let same : z ≡ n = cc in subst (λ x. IsElement x) same h

struct_case : (structs : List StructDefTree) (k n : ℕ) (ms : List MemberTree) → IsTypedTable structs → members_of structs k ≡ ms → size_in structs (Struct k) ≡ Some n → IsElement n
struct_case structs k n [] table e is =
    let none : size_in structs (Struct k) ≡ None = ap (λ ms. (struct_space (spaces_by (in_table structs) ms)).size) e in
    let no : None ≡ Some n = sym none ∙ is in absurd (cc)
struct_case structs k n (m ∷ ms) table e is = both_and (size_in structs (Struct k)) n (struct_size structs table k (rw e (omega arith))) is

pub element_of : (structs : List StructDefTree) → IsTypedTable structs → (ty : CTypeTree) (n : ℕ) → IsProperType structs ty → size_in structs ty ≡ Some n → IsElement n
element_of structs table Void n h e = absurd (cc)
element_of structs table (Int t) n h e = let b = int_bytes t in subst (λ x. IsElement x) (some_same (bytes t) n e) b
element_of structs table (Pointer to c) n h e = subst (λ x. IsElement x) (some_same 8 n e) (omega arith, omega arith)
element_of structs table (Array of c k) n h e =
    (array_size k (size_in structs of) n h.1 (λ z f. (element_of structs table of z h.0 f).0) e, told_and (size_in structs (Array of c k)) n h.2 e)
element_of structs table (Struct k) n h e = struct_case structs k n (members_of structs k) table refl e
element_of structs table (Function k) n h e = absurd h

-- ---- the types of typed nodes

-- an element of a list that is there
pub all_at : {A : Type 0} (P : A → Type 0) (xs : List A) (k : ℕ) (x : A) → All P xs → slice_get xs k ≡ Some x → P x
all_at P xs k x all e =
    let lt = slice_get_within xs k x e in
    let same : slice_index_or xs k x ≡ x = some_is (sym (slice_get-get_or xs k x lt) ∙ e) in subst P same (all k x lt)

proper_target : (structs : List StructDefTree) (ty to : CTypeTree) (c : Bool) → ty ≡ Pointer to c → IsProperType structs ty → IsProperType structs to
proper_target structs ty to c e h = subst (λ x. IsProperType structs x) e h

proper_decayed : (structs : List StructDefTree) (ty : CTypeTree) (c : Bool) → IsProperType structs ty → IsProperType structs (decayed ty c)
proper_decayed structs (Array of d n) c h = h.0
proper_decayed structs Void c h = h
proper_decayed structs (Int t) c h = h
proper_decayed structs (Pointer to d) c h = h
proper_decayed structs (Struct n) c h = h
proper_decayed structs (Function n) c h = h

proper_unary : (structs : List StructDefTree) (op : TUnaryOp) → IsProperType structs (unary_type op)
proper_unary structs (unaries.Plus t) = tt
proper_unary structs (unaries.Minus t) = tt
proper_unary structs (unaries.Complement t) = tt
proper_unary structs unaries.Not = tt

proper_binary : (structs : List StructDefTree) (op : TBinaryOp) (a b : CTypeTree) → IsProperType structs a → IsProperType structs b → IsProperType structs (binary_type op a b)
proper_binary structs (binaries.Arithmetic op t) a b h g = tt
proper_binary structs (binaries.Shift way t) a b h g = tt
proper_binary structs (binaries.CompareInts c t) a b h g = tt
proper_binary structs (binaries.ComparePointers c) a b h g = tt
proper_binary structs (binaries.PointerPlusInt n) a b h g = h
proper_binary structs (binaries.IntPlusPointer n) a b h g = g
proper_binary structs (binaries.PointerMinusInt n) a b h g = h
proper_binary structs (binaries.PointerMinusPointer n) a b h g = tt

proper_object : (p : TProgramTree) (o : Option ObjectTree) (x : ℕ) (ty : CTypeTree) (c : Bool) (scope : Scope) → All (IsTypedObject p.structs) p.objects → slice_get p.objects x ≡ o
    → IsSomeAnd o (λ object. VarRow scope object x ty c) → IsProperType p.structs ty
proper_object p None x ty c scope all e h = absurd h
proper_object p (Some object) x ty c scope all e h =
    subst (λ t. IsProperType p.structs t) (sym h.type_of) (all_at (IsTypedObject p.structs) p.objects x object all e).ty

proper_result : (p : TProgramTree) (o : Option TFunctionTree) (f : ℕ) (ty : CTypeTree) (args : List CTypeTree) → All (IsTypedFunction p) p.functions → slice_get p.functions f ≡ o
    → IsSomeAnd o (λ function. CallRow p function ty args) → IsProperType p.structs ty
proper_result p None f ty args all e h = absurd h
proper_result p (Some function) f ty args all e h =
    subst (λ t. IsProperType p.structs t) (sym h.0) (all_at (IsTypedFunction p) p.functions f function all e).result_proper

mutual
  unfolding IsTypedExpr

  value_proper : (p : TProgramTree) → IsWellTyped p → (scope : Scope) (wanted : Bool) (e : TExprTree) → scope.program ≡ p → IsTypedExpr scope wanted e → IsProperType p.structs (texpr_type e)
  value_proper p w scope wanted (Const at ty v) z t = tt
  value_proper p w scope wanted (Null at ty) z (tp, pr) = subst (λ (q : TProgramTree). IsProperType q.structs ty) z pr
  value_proper p w scope wanted (Load at x) z (tl, sc) = place_proper p w scope x z tl
  value_proper p w scope wanted (AddressOf at x) z tl = place_proper p w scope x z tl
  value_proper p w scope wanted (Decay at x) z (tl, ar) = proper_decayed p.structs (tlvalue_type x) _ (place_proper p w scope x z tl)
  value_proper p w scope wanted (Whole at x) z (tl, st) = place_proper p w scope x z tl
  value_proper p w scope wanted (Unary at op a) z t = proper_unary p.structs op
  value_proper p w scope wanted (Binary at op a b) z (ta, tb, row) =
      proper_binary p.structs op (texpr_type a) (texpr_type b) (value_proper p w scope true a z ta) (value_proper p w scope true b z tb)
  value_proper p w scope wanted (Convert at ty a) z (ta, pr, row) = subst (λ (q : TProgramTree). IsProperType q.structs ty) z pr
  value_proper p w scope wanted (Assign at x a) z (tl, ta, md, row) = place_proper p w scope x z tl
  value_proper p w scope wanted (AssignStruct at extent x a) z (tl, ta, md, row) = place_proper p w scope x z tl
  value_proper p w scope wanted (Compound at op x a) z (tl, ta, md, row) = place_proper p w scope x z tl
  value_proper p w scope wanted (Step at time way stride x) z (tl, md, row) = place_proper p w scope x z tl
  value_proper p w scope wanted (And at a b) z t = tt
  value_proper p w scope wanted (Or at a b) z t = tt
  value_proper p w scope wanted (Cond at ty x a b) z (tx, ta, tb, pr, row) = subst (λ (q : TProgramTree). IsProperType q.structs ty) z pr
  value_proper p w scope wanted (Comma at a b) z (ta, tb) = value_proper p w scope true b z tb
  value_proper p w scope wanted (Call at g ty used args) z (mark, ta, there) =
      proper_result p (slice_get p.functions g) g ty (types_of args) w.functions refl
      (subst (λ (q : TProgramTree). IsSomeAnd (slice_get q.functions g) (λ f. CallRow q f ty (types_of args))) z there)
  value_proper p w scope wanted (Any at ty) z t = tt
  value_proper p w scope wanted (Assume at a) z t = tt
  value_proper p w scope wanted (Assert at a) z t = tt

  place_proper : (p : TProgramTree) → IsWellTyped p → (scope : Scope) (place : TLvalueTree) → scope.program ≡ p → IsTypedPlace scope place → IsProperType p.structs (tlvalue_type place)
  place_proper p w scope (Var at x ty c) z t =
      proper_object p (slice_get p.objects x) x ty c scope w.objects refl (subst (λ (q : TProgramTree). IsSomeAnd (slice_get q.objects x) (λ object. VarRow scope object x ty c)) z t)
  place_proper p w scope (Deref at kind ty c e) z (t, row) =
      proper_target p.structs (texpr_type e) ty c (sym (given.wanted scope e t) ∙ row.target) (value_proper p w scope true e z t)
  place_proper p w scope (Member at k offset ty c x) z (t, row) = member_proper p.structs w.structs row.number ty
      (k, subst (λ (q : TProgramTree). IsSomeAnd (slice_get (members_of q.structs row.number) k) (λ member. member.ty ≡ ty)) z row.type_of)

given_proper : (p : TProgramTree) → IsWellTyped p → (scope : Scope) (wanted : Bool) (e : TExprTree) → scope.program ≡ p → IsTypedExpr scope wanted e → IsProperType p.structs (given_type e)
unfolding IsTypedExpr
given_proper p w scope wanted (Comma at a b) z (ta, tb) = given_proper p w scope true b z tb
given_proper p w scope wanted (Call at g ty true args) z t = value_proper p w scope wanted (Call at g ty true args) z t
given_proper p w scope wanted (Call at g ty false args) z t = tt
given_proper p w scope wanted (Const at ty v) z t = value_proper p w scope wanted (Const at ty v) z t
given_proper p w scope wanted (Null at ty) z t = value_proper p w scope wanted (Null at ty) z t
given_proper p w scope wanted (Load at x) z t = value_proper p w scope wanted (Load at x) z t
given_proper p w scope wanted (AddressOf at x) z t = value_proper p w scope wanted (AddressOf at x) z t
given_proper p w scope wanted (Decay at x) z t = value_proper p w scope wanted (Decay at x) z t
given_proper p w scope wanted (Whole at x) z t = value_proper p w scope wanted (Whole at x) z t
given_proper p w scope wanted (Unary at op a) z t = value_proper p w scope wanted (Unary at op a) z t
given_proper p w scope wanted (Binary at op a b) z t = value_proper p w scope wanted (Binary at op a b) z t
given_proper p w scope wanted (Convert at ty a) z t = value_proper p w scope wanted (Convert at ty a) z t
given_proper p w scope wanted (Assign at x a) z t = value_proper p w scope wanted (Assign at x a) z t
given_proper p w scope wanted (AssignStruct at extent x a) z t = value_proper p w scope wanted (AssignStruct at extent x a) z t
given_proper p w scope wanted (Compound at op x a) z t = value_proper p w scope wanted (Compound at op x a) z t
given_proper p w scope wanted (Step at time way stride x) z t = value_proper p w scope wanted (Step at time way stride x) z t
given_proper p w scope wanted (And at a b) z t = value_proper p w scope wanted (And at a b) z t
given_proper p w scope wanted (Or at a b) z t = value_proper p w scope wanted (Or at a b) z t
given_proper p w scope wanted (Cond at ty x a b) z t = value_proper p w scope wanted (Cond at ty x a b) z t
given_proper p w scope wanted (Any at ty) z t = value_proper p w scope wanted (Any at ty) z t
given_proper p w scope wanted (Assume at a) z t = value_proper p w scope wanted (Assume at a) z t
given_proper p w scope wanted (Assert at a) z t = value_proper p w scope wanted (Assert at a) z t

points_sized : (structs : List StructDefTree) → IsTypedTable structs → (ty : CTypeTree) → IsProperType structs ty → (n : ℕ) → PointsToSize structs ty n → IsElement n
points_sized structs table (Pointer to c) h n e = element_of structs table to n h e
points_sized structs table Void h n e = absurd e
points_sized structs table (Int t) h n e = absurd e
points_sized structs table (Array of c k) h n e = absurd e
points_sized structs table (Struct k) h n e = absurd e
points_sized structs table (Function k) h n e = absurd e

pub are_sized : (p : TProgramTree) → IsWellTyped p → AreSized p
are_sized p w = record {
  values = λ scope wanted e z t. points_sized p.structs w.structs (given_type e) (given_proper p w scope wanted e z t);
  places = λ scope place z t. points_sized p.structs w.structs (tlvalue_type place) (place_proper p w scope place z t);
}
