-- Conditionals, commas, casts, sizes and constants.
use Rattle.std.proofs.Common.{◌≡◌, ℕ, ◌≤◌, ℤ, pos, true, false, List, [], ◌∷◌, refl, ap, sym, subst, ◌∙◌, inl, inr, arith}
use Rattle.std.specs.Prelude.{◌⊎◌, ◌||◌, nat_le, Bool, if◌then◌else◌, Option, None, Some, option_map}
use Rattle.std.specs.Int.{w8, w16, w32, w64}
use Rattle.std.proofs.lemmas.Bool.{false≢true, leb-true, eq-eqb}
use Rattle.std.proofs.lemmas.Option.{same_Some}
use Rattle.std.proofs.lemmas.Int.{ints, fits_signed_from_abs}
use Rattle.c_syntax_written.specs.declared.place.Pos.{Pos}
use Rattle.c_syntax_written.specs.declared.int_type.IntType.{IntType}
use Rattle.c_syntax_written.specs.declared.int_type.IntType.TheVariants as ints
use Rattle.c_syntax_written.specs.declared.token.Constant.{Constant}
use Rattle.c_syntax_written.specs.Integer.{greatest, HasNumber, wrapped}
use Rattle.c_syntax_written.specs.Constant.{first_holding}
use Rattle.c_syntax.specs.Types.{CTypeTree, Void, Int, Pointer, Struct}
use Rattle.c_syntax.specs.TypedExpr.{TExprTree, Const, Null, Load, AddressOf, Decay, Whole, Unary, Binary, Convert, Assign, AssignStruct, Compound, Step, And, Or, Cond, Comma, Call, Any, Assume, Assert}
use Rattle.c_syntax.specs.TypedParts.{texpr_pos, texpr_type, not_used}
use Rattle.c_layout.specs.Conversion.{balanced}
use Rattle.c_layout.specs.ProperTypes.{IsProperType, IsTold}
use Rattle.c_layout.specs.RowTypes.{is_void, has_const_target, unqualified, KeepsConst, IsCondType}
use Rattle.c_layout.specs.TypedNodes.{Scope, IsTypedExpr, IsTypedPlace, AreTyped}
use Rattle.c_values.proofs.Settled.{wrapped_is_of}
use Rattle.c_typing.specs.World.{World, Refusal, Typed, Refused}
use Rattle.c_typing.specs.SameTypes.{is_same, is_same_but_const}
use Rattle.c_typing.specs.Operands.{OperandTree, as_type, as_null}
use Rattle.c_typing.specs.Constants.{is_null_constant}
use Rattle.c_typing.specs.Rows.{is_scalar, cond_type, cond_part, cond_row, cast_node, cast_row}
use Rattle.c_typing.specs.Nodes.{given}
use Rattle.c_typing.proofs.MadeMembers.{complete_is_told}
use Rattle.c_typing.proofs.FormsGo.{no_some}
use Rattle.c_typing.specs.Settled.{settled_expr, settled_place, settled_exprs}
use Rattle.c_typing_laws.specs.TypedValues.{IsTypedValue, IsTypedOperand, last_expr}
use Rattle.c_typing_laws.specs.NodeLaws.{ConditionalsAreTyped, CommasAreTyped, SizesAreTyped, CastsAreTyped, NumbersAreTyped, CharactersAreTyped}
use Rattle.c_typing.proofs.Same.{one_but_const}
use Rattle.c_typing_laws.proofs.Wide.{balanced_same}
use Rattle.c_typing_laws.proofs.Values.{value_given, int_value, pointer_value, null_value, as_pointer_value, as_type_type}
use Rattle.c_typing_laws.proofs.Operators.{made, proper_of, scalar_value}
use Rattle.c_typing_laws.proofs.Places.{typed_is, not_typed, given_typed}

-- ---- values that are not used

-- a call that is not used is typed where its value is not wanted, as is any other value
pub dropped : (scope : Scope) (e : TExprTree) → IsTypedExpr scope true (last_expr scope e) → IsTypedExpr scope false (last_expr scope (not_used e))
unfolding IsTypedExpr IsTypedPlace AreTyped settled_expr settled_place settled_exprs
dropped scope (Const at ty value) t = t
dropped scope (Null at ty) t = t
dropped scope (Load at place) t = t
dropped scope (AddressOf at place) t = t
dropped scope (Decay at place) t = t
dropped scope (Whole at place) t = t
dropped scope (Unary at op operand) t = t
dropped scope (Binary at op left right) t = t
dropped scope (Convert at ty operand) t = t
dropped scope (Assign at place value) t = t
dropped scope (AssignStruct at extent place source) t = t
dropped scope (Compound at op place value) t = t
dropped scope (Step at time way stride place) t = t
dropped scope (And at left right) t = t
dropped scope (Or at left right) t = t
dropped scope (Cond at ty condition first second) t = t
dropped scope (Comma at left right) t = t
dropped scope (Call at function ty used args) t = (refl, t.1, t.2)
dropped scope (Any at ty) t = t
dropped scope (Assume at operand) t = t
dropped scope (Assert at operand) t = t

comma_node : (scope : Scope) (at : Pos) (a b : TExprTree) → IsTypedValue scope a → IsTypedValue scope b → IsTypedValue scope (Comma at (not_used a) b)
unfolding IsTypedExpr IsTypedPlace AreTyped settled_expr settled_place settled_exprs
comma_node scope at a b v w = record { typed = (dropped scope a v.typed, w.typed); proper = w.proper; kept = w.kept }

pub commas_are_typed : CommasAreTyped
commas_are_typed w v scope at a b y x z p = subst (IsTypedOperand scope) (typed_is _ y w v p) (comma_node scope at a b x z)

-- ---- casts

void_node : (scope : Scope) (at : Pos) (e : TExprTree) → IsTypedValue scope e → IsTypedValue scope (Convert at Void (not_used e))
unfolding IsTypedExpr IsTypedPlace AreTyped settled_expr settled_place settled_exprs
void_node scope at e v = record { typed = (dropped scope e v.typed, tt, tt); proper = tt; kept = refl }

cast_same : (scope : Scope) (at : Pos) (target : CTypeTree) (e : TExprTree) → IsTypedValue scope e → IsTypedValue scope (Convert at target e) → IsTypedValue scope (cast_node at target e)
cast_same scope at target e v c = by (is_same target (texpr_type e))
  where
    by : (b : Bool) → IsTypedValue scope (if b then e else Convert at target e)
    by true = v
    by false = c

cast_null :
    (scope : Scope) (at : Pos) (to : CTypeTree) (c null : Bool) (x : TExprTree) → IsProperType scope.program.structs to
    → (if null then Some (Null at (Pointer to c)) else None) ≡ Some x → IsTypedValue scope x
cast_null scope at to c true x proper r = made _ x r (null_value scope at to c proper)
cast_null scope at to c false x proper r = no_some x r

cast_by :
    (scope : Scope) (at : Pos) (target ty : CTypeTree) (e x : TExprTree) → IsProperType scope.program.structs target → IsTypedValue scope e → texpr_type e ≡ ty
    → cast_row at target ty e ≡ Some x → IsTypedValue scope x
cast_by scope at Void ty e x proper v p r = made _ x r (void_node scope at e v)
cast_by scope at (Int t) (Int u) e x proper v p r = made _ x r (cast_same scope at (Int t) e v (int_value scope at u t e v p))
cast_by scope at (Pointer to c) (Pointer from d) e x proper v p r = made _ x r (cast_same scope at (Pointer to c) e v (pointer_value scope at to from c d e v p proper))
cast_by scope at (Pointer to c) (Int u) e x proper v p r = cast_null scope at to c (is_null_constant e) x proper r
cast_by scope at target ty e x proper v p r = no_some x r

pub casts_are_typed : CastsAreTyped
casts_are_typed w v scope at target c e y proper x p = given_typed scope _ _ w v y (λ n r. cast_by scope at target (texpr_type e) e n proper x refl r) p

-- ---- `?:`

-- a part of the type, which is one that `?:` may have
record IsPart (scope : Scope) (ty : CTypeTree) (e : TExprTree) : Type 0 where
  value : IsTypedValue scope e
  is : texpr_type e ≡ ty

record HasType (scope : Scope) (ty : CTypeTree) (a b : TExprTree) : Type 0 where
  kind : IsCondType ty
  proper : IsProperType scope.program.structs ty
  first : IsPart scope ty (cond_part ty a)
  second : IsPart scope ty (cond_part ty b)

int_part : (scope : Scope) (t u : IntType) (e : TExprTree) → IsTypedValue scope e → texpr_type e ≡ Int t → IsPart scope (Int u) (as_type (Int u) e)
int_part scope t u e v p = record { value = by (is_same (Int u) (texpr_type e)); is = as_type_type (Int u) e }
  where
    by : (b : Bool) → IsTypedValue scope (if b then e else Convert (texpr_pos e) (Int u) e)
    by true = v
    by false = int_value scope (texpr_pos e) t u e v p

-- what has the type already
same_part : (scope : Scope) (ty : CTypeTree) (e : TExprTree) → is_same ty ty ≡ true → IsTypedValue scope e → texpr_type e ≡ ty → IsPart scope ty (as_type ty e)
same_part scope ty e s v p = record { value = subst (IsTypedValue scope) (ap (λ b. if b then e else Convert (texpr_pos e) ty e) (sym (ap (is_same ty) p ∙ s))) v; is = as_type_type ty e }

null_or_pointer :
    (scope : Scope) (to : CTypeTree) (c null : Bool) (e : TExprTree) → IsTypedValue scope e → IsProperType scope.program.structs to
    → is_null_constant e ≡ null → (null ≡ true) ⊎ ((from : CTypeTree) × (d : Bool) × (texpr_type e ≡ Pointer from d))
    → IsPart scope (Pointer to c) (if null then as_null (Pointer to c) e else as_type (Pointer to c) e)
null_or_pointer scope to c true e v proper n h = record { value = null_value scope (texpr_pos e) to c proper; is = refl }
null_or_pointer scope to c false e v proper n (inl f) = absurd (false≢true f)
null_or_pointer scope to c false e v proper n (inr h) = record { value = as_pointer_value scope to h.0 c h.1 e v h.2 proper; is = as_type_type (Pointer to c) e }

pointer_part :
    (scope : Scope) (to from : CTypeTree) (c d : Bool) (e : TExprTree) → IsTypedValue scope e → IsProperType scope.program.structs to → texpr_type e ≡ Pointer from d
    → IsPart scope (Pointer to c) (cond_part (Pointer to c) e)
pointer_part scope to from c d e v proper p = null_or_pointer scope to c (is_null_constant e) e v proper refl (inr (from, d, p))

null_part :
    (scope : Scope) (to : CTypeTree) (c : Bool) (e : TExprTree) → IsTypedValue scope e → IsProperType scope.program.structs to → is_null_constant e ≡ true
    → IsPart scope (Pointer to c) (cond_part (Pointer to c) e)
null_part scope to c e v proper n = null_or_pointer scope to c (is_null_constant e) e v proper refl (inl n)

-- two pointers as pointers to one target
pointers :
    (scope : Scope) (to s t : CTypeTree) (m c d : Bool) (a b : TExprTree) → IsTypedValue scope a → IsTypedValue scope b → texpr_type a ≡ Pointer s c → texpr_type b ≡ Pointer t d
    → IsProperType scope.program.structs to → HasType scope (Pointer to m) a b
pointers scope to s t m c d a b v w p q proper =
    record { kind = tt; proper = proper; first = pointer_part scope to s m c a v proper p; second = pointer_part scope to t m d b w proper q }

has_type : {scope : Scope} {a b : TExprTree} (x ty : CTypeTree) → Some x ≡ Some ty → HasType scope x a b → HasType scope ty a b
has_type {scope} {a} {b} x ty r h = subst (λ z. HasType scope z a b) (same_Some x ty r) h

no_type : {P : Type 0} (ty : CTypeTree) → None ≡ Some ty → P
no_type ty r = no_some ty r

-- by what is asked of two pointers: one target, a null constant on the right, one on the left, one to void
pointers_by :
    (scope : Scope) (s t : CTypeTree) (c d one right left void const : Bool) (a b : TExprTree) (ty : CTypeTree) → IsTypedValue scope a → IsTypedValue scope b
    → texpr_type a ≡ Pointer s c → texpr_type b ≡ Pointer t d
    → (if one then Some (Pointer s const) else (if right then Some (Pointer s c) else (if left then Some (Pointer t d) else (if void then Some (Pointer Void const) else None)))) ≡ Some ty
    → HasType scope ty a b
pointers_by scope s t c d true right left void const a b ty v w p q r = has_type _ ty r (pointers scope s s t const c d a b v w p q (proper_of scope a v (Pointer s c) p))
pointers_by scope s t c d false true left void const a b ty v w p q r = has_type _ ty r (pointers scope s s t c c d a b v w p q (proper_of scope a v (Pointer s c) p))
pointers_by scope s t c d false false true void const a b ty v w p q r = has_type _ ty r (pointers scope t s t d c d a b v w p q (proper_of scope b w (Pointer t d) q))
pointers_by scope s t c d false false false true const a b ty v w p q r = has_type _ ty r (pointers scope Void s t const c d a b v w p q tt)
pointers_by scope s t c d false false false false const a b ty v w p q r = no_type ty r

null_second :
    (scope : Scope) (s : CTypeTree) (c null : Bool) (a b : TExprTree) (ty : CTypeTree) → IsTypedValue scope a → IsTypedValue scope b → texpr_type a ≡ Pointer s c
    → is_null_constant b ≡ null → (if null then Some (Pointer s c) else None) ≡ Some ty → HasType scope ty a b
null_second scope s c true a b ty v w p n r =
    let proper = proper_of scope a v (Pointer s c) p in
    has_type _ ty r (record { kind = tt; proper = proper; first = pointer_part scope s s c c a v proper p; second = null_part scope s c b w proper n })
null_second scope s c false a b ty v w p n r = no_type ty r

null_first :
    (scope : Scope) (s : CTypeTree) (c null : Bool) (a b : TExprTree) (ty : CTypeTree) → IsTypedValue scope a → IsTypedValue scope b → texpr_type b ≡ Pointer s c
    → is_null_constant a ≡ null → (if null then Some (Pointer s c) else None) ≡ Some ty → HasType scope ty a b
null_first scope s c true a b ty v w q n r =
    let proper = proper_of scope b w (Pointer s c) q in
    has_type _ ty r (record { kind = tt; proper = proper; first = null_part scope s c a v proper n; second = pointer_part scope s s c c b w proper q })
null_first scope s c false a b ty v w q n r = no_type ty r

structs_by :
    (scope : Scope) (m n : ℕ) (same : Bool) (a b : TExprTree) (ty : CTypeTree) → IsTypedValue scope a → IsTypedValue scope b → texpr_type a ≡ Struct m → texpr_type b ≡ Struct n
    → is_same_but_const (Struct m) (Struct n) ≡ same → (if same then Some (Struct m) else None) ≡ Some ty → HasType scope ty a b
structs_by scope m n true a b ty v w p q s r = has_type _ ty r (record {
  kind = tt;
  proper = proper_of scope a v (Struct m) p;
  first = same_part scope (Struct m) a (eq-eqb m m refl) v p;
  second = same_part scope (Struct m) b (eq-eqb m m refl) w (q ∙ sym (one_but_const (Struct m) (Struct n) s));
})
structs_by scope m n false a b ty v w p q s r = no_type ty r

cond_by :
    (scope : Scope) (s t : CTypeTree) (a b : TExprTree) (ty : CTypeTree) → IsTypedValue scope a → IsTypedValue scope b → texpr_type a ≡ s → texpr_type b ≡ t
    → cond_type s t a b ≡ Some ty → HasType scope ty a b
cond_by scope (Int t) (Int u) a b ty v w p q r =
    has_type _ ty r (record { kind = balanced_same t u; proper = tt; first = int_part scope t (balanced t u) a v p; second = int_part scope u (balanced t u) b w q })
cond_by scope Void Void a b ty v w p q r = has_type _ ty r (record { kind = tt; proper = tt; first = same_part scope Void a refl v p; second = same_part scope Void b refl w q })
cond_by scope (Struct m) (Struct n) a b ty v w p q r = structs_by scope m n (is_same_but_const (Struct m) (Struct n)) a b ty v w p q refl r
cond_by scope (Pointer s c) (Pointer t d) a b ty v w p q r =
    pointers_by scope s t c d (is_same_but_const s t) (is_null_constant b) (is_null_constant a) (is_void s || is_void t) (has_const_target (Pointer s c) || has_const_target (Pointer t d)) a b ty v w p q r
cond_by scope (Pointer s c) (Int u) a b ty v w p q r = null_second scope s c (is_null_constant b) a b ty v w p refl r
cond_by scope (Int t) (Pointer s c) a b ty v w p q r = null_first scope s c (is_null_constant a) a b ty v w q refl r
cond_by scope s t a b ty v w p q r = no_type ty r

cond_node :
    (scope : Scope) (at : Pos) (test a b : TExprTree) (ty : CTypeTree) → IsTypedValue scope test → is_scalar (texpr_type test) ≡ true → HasType scope ty a b
    → IsTypedValue scope (Cond at ty test (cond_part ty a) (cond_part ty b))
unfolding IsTypedExpr IsTypedPlace AreTyped settled_expr settled_place settled_exprs
cond_node scope at test a b ty t s h =
    let first = value_given scope _ h.first.value ty h.first.is in
    let second = value_given scope _ h.second.value ty h.second.is in record {
      typed = (
        t.typed,
        h.first.value.typed,
        h.second.value.typed,
        h.proper,
        record {
          condition_scalar = scalar_value scope test t s;
          kind = h.kind;
          first_type = ap unqualified first;
          second_type = ap unqualified second;
          first_const = subst (λ x. KeepsConst x ty) (sym first) (λ k. k);
          second_const = subst (λ x. KeepsConst x ty) (sym second) (λ k. k);
        },
      );
      proper = h.proper;
      kept = refl;
    }

with_type :
    (scope : Scope) (at : Pos) (test a b e : TExprTree) (o : Option CTypeTree) → IsTypedValue scope test → is_scalar (texpr_type test) ≡ true
    → ((ty : CTypeTree) → o ≡ Some ty → HasType scope ty a b) → option_map (λ ty. Cond at ty test (cond_part ty a) (cond_part ty b)) o ≡ Some e → IsTypedValue scope e
with_type scope at test a b e None t s f r = no_some e r
with_type scope at test a b e (Some ty) t s f r = made _ e r (cond_node scope at test a b ty t s (f ty refl))

conditional_by :
    (w v : World) (scope : Scope) (at : Pos) (test a b : TExprTree) (y : OperandTree) (r q : Refusal) (scalar : Bool) → IsTypedValue scope test → IsTypedValue scope a → IsTypedValue scope b
    → is_scalar (texpr_type test) ≡ scalar → (if scalar then given r (cond_row at test (texpr_type a) (texpr_type b) a b) w else Refused q) ≡ Typed y v → IsTypedOperand scope y
conditional_by w v scope at test a b y r q true t x z s p =
    given_typed scope r _ w v y (λ e k. with_type scope at test a b e _ t s (λ ty h. cond_by scope (texpr_type a) (texpr_type b) a b ty x z refl refl h) k) p
conditional_by w v scope at test a b y r q false t x z s p = not_typed q y v p

pub conditionals_are_typed : ConditionalsAreTyped
conditionals_are_typed w v scope at test a b y t x z p = conditional_by w v scope at test a b y _ _ (is_scalar (texpr_type test)) t x z refl p

-- ---- constants

pub const_node : (scope : Scope) (at : Pos) (t : IntType) (n : ℤ) → HasNumber t n → IsTypedValue scope (Const at t n)
unfolding IsTypedExpr IsTypedPlace AreTyped settled_expr settled_place settled_exprs
const_node scope at t n h = record { typed = h; proper = tt; kept = refl }

pub number_fits : (t : IntType) (n : ℕ) → n ≤ greatest t → HasNumber t (pos n)
number_fits ints.Char n h = fits_signed_from_abs w8 (pos n) (omega arith)
number_fits ints.SChar n h = fits_signed_from_abs w8 (pos n) (omega arith)
number_fits ints.UChar n h = (omega (arith, ints), omega (arith, ints))
number_fits ints.Short n h = fits_signed_from_abs w16 (pos n) (omega arith)
number_fits ints.UShort n h = (omega (arith, ints), omega (arith, ints))
number_fits ints.Int n h = fits_signed_from_abs w32 (pos n) (omega arith)
number_fits ints.UInt n h = (omega (arith, ints), omega (arith, ints))
number_fits ints.Long n h = fits_signed_from_abs w64 (pos n) (omega arith)
number_fits ints.ULong n h = (omega (arith, ints), omega (arith, ints))
number_fits ints.LLong n h = fits_signed_from_abs w64 (pos n) (omega arith)
number_fits ints.ULLong n h = (omega (arith, ints), omega (arith, ints))

first_holds : (n : ℕ) (types : List IntType) (t : IntType) → first_holding n types ≡ Some t → n ≤ greatest t
first_holds n [] t e = no_some t e
first_holds n (u ∷ rest) t e = by (nat_le n (greatest u)) refl e (first_holds n rest t)
  where
    by : (b : Bool) → nat_le n (greatest u) ≡ b → (if b then Some u else first_holding n rest) ≡ Some t → (first_holding n rest ≡ Some t → n ≤ greatest t) → n ≤ greatest t
    by true h r again = subst (λ x. n ≤ greatest x) (same_Some u t r) (leb-true n (greatest u) h)
    by false h r again = again r

constant_by :
    (scope : Scope) (at : Pos) (c : Constant) (o : Option IntType) (e : TExprTree) → ((t : IntType) → o ≡ Some t → HasNumber t (pos c.value))
    → option_map (λ t. Const at t (pos c.value)) o ≡ Some e → IsTypedValue scope e
constant_by scope at c None e f r = no_some e r
constant_by scope at c (Some t) e f r = made _ e r (const_node scope at t (pos c.value) (f t refl))

pub numbers_are_typed : NumbersAreTyped
numbers_are_typed w v scope at c y p =
    given_typed scope _ _ w v y (λ e r. constant_by scope at c _ e (λ t h. number_fits t c.value (first_holds c.value _ t h)) r) p

-- a char is an int
char_is_int : (n : ℤ) → HasNumber ints.Char n → HasNumber ints.Int n
char_is_int n h = fits_signed_from_abs w32 n (omega (arith, ints))

pub characters_are_typed : CharactersAreTyped
characters_are_typed w v scope at byte y p =
    subst (IsTypedOperand scope) (typed_is _ y w v p) (const_node scope at ints.Int (wrapped ints.Char (pos byte)) (char_is_int _ (wrapped_is_of ints.Char (pos byte))))

size_by :
    (scope : Scope) (at : Pos) (o : Option ℕ) (e : TExprTree) → ((size : ℕ) → o ≡ Some size → IsTold size)
    → option_map (λ size. Const at ints.ULong (pos size)) o ≡ Some e → IsTypedValue scope e
size_by scope at None e f r = no_some e r
size_by scope at (Some size) e f r = let told = f size refl in made _ e r (const_node scope at ints.ULong (pos size) (number_fits ints.ULong size (omega arith)))

pub sizes_are_typed : SizesAreTyped
sizes_are_typed w v scope at ty y p = given_typed scope _ _ w v y (λ e r. size_by scope at _ e (λ size h. complete_is_told w.structs ty size h) r) p
