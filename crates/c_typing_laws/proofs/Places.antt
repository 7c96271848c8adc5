-- Places that typed nodes name, and what is read there.
use Rattle.std.proofs.Common.{◌≡◌, ℕ, zero, suc, true, false, List, [], ◌∷◌, refl, ap, sym, subst, ◌∙◌}
use Rattle.std.specs.Prelude.{◌<◌, Bool, ◌&&◌, ◌||◌, not, unwrap_or, if◌then◌else◌, IsTrue, Option, None, Some, option_map, IsSomeAnd, All, position, slice_get, bytes_eq}
use Rattle.std.proofs.lemmas.Option.{same_Some, option_and_then_some}
use Rattle.std.proofs.lemmas.List.Elements.{All-head, All-tail}
use Rattle.c_syntax_written.specs.declared.place.Pos.{Pos}
use Rattle.c_syntax_written.specs.declared.written.UnaryOp.TheVariants as prefixes
use Rattle.c_syntax_written.specs.declared.int_type.IntType.{IntType}
use Rattle.c_syntax.specs.declared.operator.DerefKind.{DerefKind}
use Rattle.c_syntax.specs.declared.operator.DerefKind.TheVariants as derefs
use Rattle.c_syntax.specs.declared.operator.TUnaryOp.{TUnaryOp}
use Rattle.c_syntax.specs.declared.operator.TUnaryOp.TheVariants as unaries
use Rattle.c_syntax.specs.Types.{CTypeTree, Void, Int, Pointer, Array, Struct, Function, ObjectTree}
use Rattle.c_syntax.specs.TypedExpr.{TExprTree, Load, AddressOf, Decay, Whole, Unary, TLvalueTree, Deref}
use Rattle.c_syntax.specs.TypedParts.{texpr_type, tlvalue_pos, tlvalue_type, tlvalue_is_const, decayed, unary_type}
use Rattle.c_syntax.specs.GivenType.{given_type}
use Rattle.c_syntax.specs.Program.{MemberTree, StructDefTree}
use Rattle.c_layout.specs.Conversion.{promoted}
use Rattle.c_layout.specs.Layout.{members_of, size_in}
use Rattle.c_layout.specs.Tables.{IsTypedTable, IsTypedMember}
use Rattle.c_layout.specs.ProperTypes.{IsProperType, IsTold}
use Rattle.c_layout.specs.RowTypes.{IsScalar, UnaryRow, is_declared_const, is_plain_text}
use Rattle.c_layout.specs.WellTyped.{is_array}
use Rattle.c_layout.specs.TypedNodes.{Scope, IsArray, IsStruct, IsTypedExpr, IsTypedPlace, AreTyped, VarRow}
use Rattle.c_layout.proofs.ScalarMembers.{members_typed}
use Rattle.c_typing.specs.World.{World, Refusal, Typed, Refused, unless}
use Rattle.c_typing.specs.Operands.{OperandTree, Place, Value, read_by, value_of, is_unsized}
use Rattle.c_typing.specs.Rows.{is_scalar, unary_row, star_row, plus_row, member_node, member_at, member_row, arrow_row, index_row}
use Rattle.c_typing.specs.Nodes.{given, given_place}
use Rattle.c_typing.specs.Later.{has_members}
use Rattle.c_typing.specs.Later.{IsLater}
use Rattle.c_typing.proofs.FormsGo.{no_some}
use Rattle.c_typing.specs.Settled.{settled_expr, settled_place, settled_exprs}
use Rattle.c_typing.specs.Laws.{IsLastType, same}
use Rattle.c_typing_laws.specs.TypedValues.{IsTypedValue, IsObjectType, IsTypedLvalue, IsTypedOperand, last_expr, last_place}
use Rattle.c_typing_laws.specs.NodeLaws.{ReadsAreTyped, PrefixesAreTyped, BinariesAreTyped, IndexesAreTyped, MembersAreTyped, ArrowsAreTyped, ObjectsAreTyped}
use Rattle.c_typing.proofs.Later.{members_later}
use Rattle.c_typing_laws.proofs.Lasts.{last_same, last_array, last_complete, last_object, last_text, last_proper, const_kept}
use Rattle.c_typing_laws.proofs.Wide.{promoted_same}
use Rattle.c_typing_laws.proofs.Values.{value_given, as_int_value, as_int_type}
use Rattle.c_typing_laws.proofs.Operators.{made, proper_of, plus_typed, scalar_value, operators_are_typed}

-- ---- outcomes of nodes

-- what is typed is one operand
pub typed_is : {A : Type 0} (x y : A) (w v : World) → Typed x w ≡ Typed y v → x ≡ y
typed_is x y w v e = cc

pub not_typed : {A P : Type 0} (r : Refusal) (y : A) (v : World) → Refused r ≡ Typed y v → P
not_typed r y v e = absurd cc

-- a node that a row gives, typed where the row's node is
pub given_typed :
    (scope : Scope) (r : Refusal) (row : Option TExprTree) (w v : World) (y : OperandTree) → ((e : TExprTree) → row ≡ Some e → IsTypedValue scope e)
    → given r row w ≡ Typed y v → IsTypedOperand scope y
given_typed scope r None w v y f p = not_typed r y v p
given_typed scope r (Some e) w v y f p = subst (IsTypedOperand scope) (typed_is (Value e) y w v p) (f e refl)

pub place_typed :
    (scope : Scope) (r : Refusal) (row : Option TLvalueTree) (w v : World) (y : OperandTree) → ((place : TLvalueTree) → row ≡ Some place → IsTypedLvalue scope place)
    → given_place r row w ≡ Typed y v → IsTypedOperand scope y
place_typed scope r None w v y f p = not_typed r y v p
place_typed scope r (Some place) w v y f p = subst (IsTypedOperand scope) (typed_is (Place place) y w v p) (f place refl)

-- ---- what is read

load : (scope : Scope) (at : Pos) (place : TLvalueTree) → IsTypedLvalue scope place → is_array (tlvalue_type place) ≡ false → IsScalar (tlvalue_type place) → IsTypedValue scope (Load at place)
unfolding IsTypedExpr IsTypedPlace AreTyped settled_expr settled_place settled_exprs
load scope at place t e scalar =
    let q = last_same t.last e in record { typed = (t.typed, subst IsScalar (sym q) scalar); proper = last_proper scope place q t.proper; kept = q }

whole : (scope : Scope) (at : Pos) (place : TLvalueTree) (n : ℕ) → IsTypedLvalue scope place → tlvalue_type place ≡ Struct n → IsTypedValue scope (Whole at place)
unfolding IsTypedExpr IsTypedPlace AreTyped settled_expr settled_place settled_exprs
whole scope at place n t p =
    let q = last_same t.last (ap is_array p) in record { typed = (t.typed, subst IsStruct (sym (q ∙ p)) tt); proper = last_proper scope place q t.proper; kept = q }

decay :
    (scope : Scope) (at : Pos) (place : TLvalueTree) (of : CTypeTree) (c : Bool) (n : ℕ) → IsTypedLvalue scope place → tlvalue_type place ≡ Array of c n
    → IsTypedValue scope (Decay at place)
unfolding IsTypedExpr IsTypedPlace AreTyped settled_expr settled_place settled_exprs
decay scope at place of c n t p =
    let l = last_array t.last of c n p in record {
      typed = (t.typed, subst IsArray (sym l.1) tt);
      proper = subst (λ ty. IsProperType scope.program.structs (decayed ty (tlvalue_is_const place))) (sym p) (subst (λ ty. IsProperType scope.program.structs ty) l.1 t.proper).0;
      kept = ap (λ ty. decayed ty (tlvalue_is_const (last_place scope place))) l.1 ∙ ap (λ b. Pointer of (c || b)) (const_kept scope.program.objects place)
          ∙ ap (λ ty. decayed ty (tlvalue_is_const place)) (sym p);
    }

pub read_typed : (scope : Scope) (place : TLvalueTree) (ty : CTypeTree) → IsTypedLvalue scope place → tlvalue_type place ≡ ty → IsTypedValue scope (read_by ty place)
read_typed scope place Void t p = absurd (subst IsObjectType p t.object)
read_typed scope place (Int n) t p = load scope (tlvalue_pos place) place t (ap is_array p) (subst IsScalar (sym p) tt)
read_typed scope place (Pointer to c) t p = load scope (tlvalue_pos place) place t (ap is_array p) (subst IsScalar (sym p) tt)
read_typed scope place (Array of c n) t p = decay scope (tlvalue_pos place) place of c n t p
read_typed scope place (Struct n) t p = whole scope (tlvalue_pos place) place n t p
read_typed scope place (Function n) t p = absurd (subst IsObjectType p t.object)

pub reads_are_typed : ReadsAreTyped
reads_are_typed scope (Place place) t = read_typed scope place (tlvalue_type place) t refl
reads_are_typed scope (Value e) t = t

-- ---- objects

-- what has a size and is no function is the type of an object
pub sized_object : (structs : List StructDefTree) (ty : CTypeTree) (size : ℕ) → size_in structs ty ≡ Some size → IsObjectType ty
sized_object structs Void size e = no_some size e
sized_object structs (Int t) size e = tt
sized_object structs (Pointer to c) size e = tt
sized_object structs (Array of c n) size e = tt
sized_object structs (Struct n) size e = tt
sized_object structs (Function n) size e = no_some size e

-- the type of an object that may be there
abbrev type_in : Option ObjectTree → CTypeTree → CTypeTree
type_in o ty = unwrap_or (option_map (λ x. x.ty) o) ty

pub objects_are_typed : ObjectsAreTyped
unfolding IsTypedExpr IsTypedPlace AreTyped settled_expr settled_place settled_exprs
objects_are_typed scope at n x object e typed last const lives = record {
  typed = subst (λ o. IsSomeAnd o (λ y. VarRow scope y n (type_in o x.ty) (is_declared_const x))) (sym e)
      (record { type_of = refl; qualified = sym (ap (λ b. b && not (is_plain_text object.ty)) const ∙ ap (λ b. x.read_only && not b) (last_text last)); lives = lives });
  proper = subst (λ o. IsProperType scope.program.structs (type_in o x.ty)) (sym e) typed.ty;
  object = last_object last (sized_object scope.program.structs object.ty object.size typed.size);
  last = subst (λ o. IsLastType x.ty (type_in o x.ty)) (sym e) last;
}

-- ---- `*`, and what stands at it

deref :
    (scope : Scope) (kind : DerefKind) (at : Pos) (to : CTypeTree) (c : Bool) (e : TExprTree) → IsTypedValue scope e → texpr_type e ≡ Pointer to c
    → (to ≡ Void → ⊥) → IsObjectType to → IsTypedLvalue scope (Deref at kind to c e)
unfolding IsTypedExpr IsTypedPlace AreTyped settled_expr settled_place settled_exprs
deref scope kind at to c e v p some object = record {
  typed = (v.typed, record { target = value_given scope e v (Pointer to c) p; some = some });
  proper = proper_of scope e v (Pointer to c) p;
  object = object;
  last = same to;
}

no_function : (structs : List StructDefTree) (n : ℕ) → IsProperType structs (Function n) → ⊥
no_function structs n p = p

-- a type that is no void
not_void : (ty : CTypeTree) → IsObjectType ty → ty ≡ Void → ⊥
not_void ty object e = subst IsObjectType e object

pub star_by :
    (scope : Scope) (kind : DerefKind) (at : Pos) (ty : CTypeTree) (e : TExprTree) (place : TLvalueTree) → IsTypedValue scope e → texpr_type e ≡ ty
    → star_row kind at ty e ≡ Some place → IsTypedLvalue scope place
star_by scope kind at (Pointer Void c) e place v p r = no_some place r
star_by scope kind at (Pointer (Int t) c) e place v p r =
    subst (IsTypedLvalue scope) (same_Some _ place r) (deref scope kind at (Int t) c e v p (not_void (Int t) tt) tt)
star_by scope kind at (Pointer (Pointer to d) c) e place v p r =
    subst (IsTypedLvalue scope) (same_Some _ place r) (deref scope kind at (Pointer to d) c e v p (not_void (Pointer to d) tt) tt)
star_by scope kind at (Pointer (Array of d n) c) e place v p r =
    subst (IsTypedLvalue scope) (same_Some _ place r) (deref scope kind at (Array of d n) c e v p (not_void (Array of d n) tt) tt)
star_by scope kind at (Pointer (Struct n) c) e place v p r =
    subst (IsTypedLvalue scope) (same_Some _ place r) (deref scope kind at (Struct n) c e v p (not_void (Struct n) tt) tt)
star_by scope kind at (Pointer (Function n) c) e place v p r = absurd (no_function scope.program.structs n (proper_of scope e v (Pointer (Function n) c) p))
star_by scope kind at ty e place v p r = no_some place r

pub star_typed :
    (scope : Scope) (kind : DerefKind) (at : Pos) (e : TExprTree) (place : TLvalueTree) → IsTypedValue scope e → star_row kind at (texpr_type e) e ≡ Some place → IsTypedLvalue scope place
star_typed scope kind at e place v r = star_by scope kind at (texpr_type e) e place v refl r

-- ---- prefixes

unary_node :
    (scope : Scope) (at : Pos) (op : TUnaryOp) (e : TExprTree) → IsTypedValue scope e → UnaryRow op (given_type (last_expr scope e)) → IsProperType scope.program.structs (unary_type op)
    → IsTypedValue scope (Unary at op e)
unfolding IsTypedExpr IsTypedPlace AreTyped settled_expr settled_place settled_exprs
unary_node scope at op e v row proper = record { typed = (v.typed, row); proper = proper; kept = refl }

-- an operator at an integer type, which asks for an integer of that type
record AtInteger (scope : Scope) (op : IntType → TUnaryOp) : Type 0 where
  row : (t : IntType) (ty : CTypeTree) → (ty ≡ Int t) × (promoted t ≡ t) → UnaryRow (op t) ty
  proper : (t : IntType) → IsProperType scope.program.structs (unary_type (op t))

sign_by :
    (scope : Scope) (at : Pos) (op : IntType → TUnaryOp) (ty : CTypeTree) (e x : TExprTree) → AtInteger scope op → IsTypedValue scope e → texpr_type e ≡ ty
    → unary_row op at ty e ≡ Some x → IsTypedValue scope x
sign_by scope at op (Int t) e x is v p r =
    let y = as_int_value scope (promoted t) t e v p in
    made _ x r (unary_node scope at (op (promoted t)) _ y (is.row (promoted t) _ (value_given scope _ y _ (as_int_type (promoted t) t e p), promoted_same t)) (is.proper (promoted t)))
sign_by scope at op ty e x is v p r = no_some x r

not_by :
    (scope : Scope) (at : Pos) (scalar : Bool) (e x : TExprTree) → IsTypedValue scope e → is_scalar (texpr_type e) ≡ scalar
    → (if scalar then Some (Unary at unaries.Not e) else None) ≡ Some x → IsTypedValue scope x
not_by scope at true e x v p r = made _ x r (unary_node scope at unaries.Not e v (scalar_value scope e v p) tt)
not_by scope at false e x v p r = no_some x r

address_node : (scope : Scope) (at : Pos) (place : TLvalueTree) → IsTypedLvalue scope place → is_unsized (tlvalue_type place) ≡ false → IsTypedValue scope (AddressOf at place)
unfolding IsTypedExpr IsTypedPlace AreTyped settled_expr settled_place settled_exprs
address_node scope at place t e =
    let q = last_complete t.last e in record {
      typed = t.typed;
      proper = last_proper scope place q t.proper;
      kept = ap (λ ty. Pointer ty (tlvalue_is_const (last_place scope place))) q ∙ ap (Pointer (tlvalue_type place)) (const_kept scope.program.objects place);
    }

address_by :
    (scope : Scope) (at : Pos) (place : TLvalueTree) (r : Refusal) (unsized : Bool) (w v : World) (y : OperandTree) → IsTypedLvalue scope place → is_unsized (tlvalue_type place) ≡ unsized
    → unless unsized r (Typed (Value (AddressOf at place)) w) ≡ Typed y v → IsTypedOperand scope y
address_by scope at place r true w v y t e p = not_typed r y v p
address_by scope at place r false w v y t e p = subst (IsTypedOperand scope) (typed_is _ y w v p) (address_node scope at place t e)

pub prefixes_are_typed : PrefixesAreTyped
prefixes_are_typed w v scope at prefixes.AddressOf (Value e) y t p = not_typed _ y v p
prefixes_are_typed w v scope at prefixes.AddressOf (Place place) y t p = address_by scope at place _ (is_unsized (tlvalue_type place)) w v y t refl p
prefixes_are_typed w v scope at prefixes.Deref x y t p = place_typed scope _ _ w v y (λ place r. star_typed scope derefs.Star at (value_of x) place (reads_are_typed scope x t) r) p
prefixes_are_typed w v scope at prefixes.Plus x y t p =
    given_typed scope _ _ w v y (λ e r. sign_by scope at unaries.Plus _ (value_of x) e (record { row = λ t ty q. q; proper = λ t. tt }) (reads_are_typed scope x t) refl r) p
prefixes_are_typed w v scope at prefixes.Minus x y t p =
    given_typed scope _ _ w v y (λ e r. sign_by scope at unaries.Minus _ (value_of x) e (record { row = λ t ty q. q; proper = λ t. tt }) (reads_are_typed scope x t) refl r) p
prefixes_are_typed w v scope at prefixes.Complement x y t p =
    given_typed scope _ _ w v y (λ e r. sign_by scope at unaries.Complement _ (value_of x) e (record { row = λ t ty q. q; proper = λ t. tt }) (reads_are_typed scope x t) refl r) p
prefixes_are_typed w v scope at prefixes.Not x y t p = given_typed scope _ _ w v y (λ e r. not_by scope at _ (value_of x) e (reads_are_typed scope x t) refl r) p

-- ---- indexes

index_place :
    (structs : List StructDefTree) (scope : Scope) (at : Pos) (a b : TExprTree) (place : TLvalueTree) → IsLater structs scope.program.structs
    → IsTypedValue scope a → IsTypedValue scope b → index_row structs at (texpr_type a) (texpr_type b) a b ≡ Some place → IsTypedLvalue scope place
index_place structs scope at a b place later v w r =
    option_and_then_some (λ sum. star_row derefs.Index at (texpr_type sum) sum) (plus_row structs at (texpr_type a) (texpr_type b) a b) place r
    (λ sum p q. star_typed scope derefs.Index at sum place (plus_typed structs scope at a b sum later v w p) q)

pub indexes_are_typed : IndexesAreTyped
indexes_are_typed w v scope at a b y later x z p = place_typed scope _ _ w v y (λ place r. index_place w.structs scope at a b place later x z r) p

-- ---- members

member_is : (xs : List MemberTree) (k : ℕ) (m : MemberTree) → slice_get xs k ≡ Some m → IsTrue (has_members xs)
member_is [] k m e = no_some m e
member_is (x ∷ xs) k m e = refl

each_member : (structs : List StructDefTree) (members : List MemberTree) (k : ℕ) (m : MemberTree) → All (IsTypedMember structs) members → slice_get members k ≡ Some m → IsTypedMember structs m
each_member structs [] k m all e = no_some m e
each_member structs (x ∷ rest) zero m all e = subst (IsTypedMember structs) (same_Some x m e) (All-head (IsTypedMember structs) x rest all)
each_member structs (x ∷ rest) (suc k) m all e = each_member structs rest k m (All-tail (IsTypedMember structs) x rest all) e

member_sized : (structs : List StructDefTree) (m : MemberTree) (o : Option ℕ) → size_in structs m.ty ≡ o → IsSomeAnd o (λ size. (0 < size) × IsTold size) → IsObjectType m.ty
member_sized structs m None e h = absurd h
member_sized structs m (Some size) e h = sized_object structs m.ty size e

member_place :
    (scope : Scope) (at : Pos) (place : TLvalueTree) (n k : ℕ) (m : MemberTree) → IsTypedTable scope.program.structs → IsTypedLvalue scope place
    → tlvalue_type place ≡ Struct n → slice_get (members_of scope.program.structs n) k ≡ Some m → IsTypedLvalue scope (member_node at place k m)
unfolding IsTypedExpr IsTypedPlace AreTyped settled_expr settled_place settled_exprs
member_place scope at place n k m table t p e =
    let typed = each_member scope.program.structs (members_of scope.program.structs n) k m (members_typed scope.program.structs scope.program.structs n table.members) e in record {
      typed = (
        t.typed,
        record {
          number = n;
          is_struct = last_same t.last (ap is_array p) ∙ p;
          type_of = subst (λ o. IsSomeAnd o (λ x. x.ty ≡ m.ty)) (sym e) refl;
          place = sym (table.laid_out.offsets n k) ∙ ap (option_map (λ x. x.offset)) e;
          qualified = sym (const_kept scope.program.objects place);
        },
      );
      proper = typed.ty;
      object = member_sized scope.program.structs m (size_in scope.program.structs m.ty) refl typed.size;
      last = same m.ty;
    }

-- a member of a struct that is complete where it is asked for
found_member :
    (structs : List StructDefTree) (scope : Scope) (at : Pos) (place found : TLvalueTree) (n k : ℕ) (o : Option MemberTree) → IsLater structs scope.program.structs
    → IsTypedTable scope.program.structs → IsTypedLvalue scope place → tlvalue_type place ≡ Struct n → slice_get (members_of structs n) k ≡ o
    → option_map (member_node at place k) o ≡ Some found → IsTypedLvalue scope found
found_member structs scope at place found n k None later table t p e r = no_some found r
found_member structs scope at place found n k (Some m) later table t p e r =
    subst (IsTypedLvalue scope) (same_Some _ found r)
    (member_place scope at place n k m table t p (ap (λ members. slice_get members k) (members_later structs scope.program.structs later n (member_is (members_of structs n) k m e)) ∙ e))

member_by :
    (structs : List StructDefTree) (scope : Scope) (at : Pos) (name : List ℕ) (ty : CTypeTree) (place found : TLvalueTree) → IsLater structs scope.program.structs
    → IsTypedTable scope.program.structs → IsTypedLvalue scope place → tlvalue_type place ≡ ty → member_row structs at name ty place ≡ Some found → IsTypedLvalue scope found
member_by structs scope at name (Struct n) place found later table t p r =
    option_and_then_some (member_at (members_of structs n) at place) (position (λ m. bytes_eq m.name name) (members_of structs n)) found r
    (λ k q s. found_member structs scope at place found n k (slice_get (members_of structs n) k) later table t p refl s)
member_by structs scope at name ty place found later table t p r = no_some found r

pub members_are_typed : MembersAreTyped
members_are_typed w v scope at name (Value e) y later table t p = not_typed _ y v p
members_are_typed w v scope at name (Place place) y later table t p =
    place_typed scope _ _ w v y (λ found r. member_by w.structs scope at name (tlvalue_type place) place found later table t refl r) p

arrow_place :
    (structs : List StructDefTree) (scope : Scope) (at : Pos) (name : List ℕ) (e : TExprTree) (found : TLvalueTree) → IsLater structs scope.program.structs
    → IsTypedTable scope.program.structs → IsTypedValue scope e → arrow_row structs at name (texpr_type e) e ≡ Some found → IsTypedLvalue scope found
arrow_place structs scope at name e found later table v r =
    option_and_then_some (λ place. member_row structs at name (tlvalue_type place) place) (star_row derefs.Arrow at (texpr_type e) e) found r
    (λ place p q. member_by structs scope at name (tlvalue_type place) place found later table (star_typed scope derefs.Arrow at e place v p) refl q)

pub arrows_are_typed : ArrowsAreTyped
arrows_are_typed w v scope at name e y later table x p = place_typed scope _ _ w v y (λ found r. arrow_place w.structs scope at name e found later table x r) p

-- an operator between two values, as a node
pub binaries_are_typed : BinariesAreTyped
binaries_are_typed w v scope at op a b y later x z p = given_typed scope _ _ w v y (λ e r. operators_are_typed w.structs scope at op a b e later x z r) p
