-- Typed nodes: each form in all its uses, from those of its parts.
use Rattle.std.proofs.Common.{◌≡◌, ◌⊎◌, inl, inr, ℕ, suc, ◌+◌, ◌<◌, ◌≤◌, ◌^◌, List, Option, Some, None, Bool, pos, max, refl, sym, ap, ◌∙◌, subst, arith}
use Rattle.std.specs.Prelude.{IsTrue, IsSomeAnd, IfSome, Contains, slice_get}
use Rattle.std.proofs.Math.Nat.{le-max_left, le-max_right}
use Rattle.std.proofs.lemmas.Int.{ints as numbers}
use Rattle.std.proofs.lemmas.Option.{slice_get_within}
use Rattle.c_syntax_written.specs.declared.int_type.IntType.TheVariants as ints
use Rattle.c_syntax_written.specs.declared.place.Pos.{Pos}
use Rattle.c_syntax_written.specs.declared.step.StepWay.{StepWay}
use Rattle.c_syntax_written.specs.Integer.{HasNumber}
use Rattle.c_syntax.specs.declared.operator.StepTime.{StepTime}
use Rattle.c_syntax.specs.declared.operator.StepTime.TheVariants as times
use Rattle.c_syntax.specs.declared.operator.Stride.{Stride}
use Rattle.c_syntax.specs.declared.operator.TUnaryOp.{TUnaryOp}
use Rattle.c_syntax.specs.declared.operator.TUnaryOp.TheVariants as unaries
use Rattle.c_syntax.specs.declared.operator.TBinaryOp.{TBinaryOp}
use Rattle.c_syntax.specs.Types.{CTypeTree, Void, Int, Pointer, Array, Struct, Function, ObjectTree}
use Rattle.c_syntax.specs.TypedParts as parts
use Rattle.c_syntax.specs.TypedParts.{decayed}
use Rattle.c_syntax.specs.Program.{TProgramTree, StructDefTree}
use Rattle.c_layout.specs.RowTypes.{IsScalar, unqualified, SameType, IsCondType, MemberRow}
use Rattle.c_layout.specs.Layout.{size_in}
use Rattle.c_layout.specs.ProperTypes.{PartAt, whole, member, IsTold}
use Rattle.c_layout.specs.Tables.{IsTypedTable}
use Rattle.c_layout.specs.TypedNodes.{IsStruct, IsArray, VarRow}
use Rattle.c_layout.proofs.Parts.{inside}
use Rattle.c_layout.proofs.ScalarMembers.{members_typed, member_has}
use Rattle.block_mem.specs.declared.types.Scalar.{Scalar}
use Rattle.block_mem.specs.declared.types.Scalar.TheVariants as scalars
use Rattle.block_mem.specs.Bytes.{IsOf}
use Rattle.c_values.specs.Operators.{one}
use Rattle.c_values.specs.Typed.{unary_type}
use Rattle.c_values.specs.Values.{scalar_of}
use Rattle.c_steps.specs.Changes.{step_operator}
use Rattle.c_steps_laws.specs.Takes.{Changes}
use Rattle.c_steps_laws.specs.Wants.{OperatesOn}
use Rattle.c_steps_laws.proofs.Rows.{Is, scalar_is}
use Rattle.csharp.specs.Trees.{Address, CsStmtTree, CsExprTree, CsProgramTree}
use Rattle.csharp.specs.Formed.{Around, in_block, Each}
use Rattle.lower_trees.specs.Temps.{temp_at}
use Rattle.lower_trees.specs.LowerExpr.{Lowered, lowered, Forms, or_int, held_scalar, unless_value, when_value, plain, is_kept_alone, of_load, of_unary, of_assign, with_source, of_compound, of_step, step_one, of_bit, unless_and, unless_or, of_and, of_or, of_unary_forms, of_cond, of_cond_forms, behind, of_comma, of_assert}
use Rattle.lower_formed.specs.Right.{Frame, Good, Fine}
use Rattle.lower_formed.proofs.Terms.{R, seq_right, block_right}
use Rattle.lower_formed.proofs.Forms.{fine_as, fine_load, fine_unary, spilled_top, fine_assign, fine_source, fine_change, one_good, unless_right, when_right, fine_bit, fine_cond, fine_cond_void, fine_behind, fine_assert}

-- ---- types as scalars

pub held_is : (ty : CTypeTree) (s : Scalar) → Is ty s → held_scalar ty ≡ Some s
held_is Void s e = absurd (cc)
held_is (Int t) s e = e
held_is (Pointer to c) s e = e
held_is (Array of c n) s e = absurd (cc)
held_is (Struct n) s e = absurd (cc)
held_is (Function n) s e = absurd (cc)

pub struct_held : (ty : CTypeTree) → IsStruct ty → held_scalar ty ≡ Some scalars.Pointer
struct_held Void h = absurd h
struct_held (Int t) h = absurd h
struct_held (Pointer to c) h = absurd h
struct_held (Array of c n) h = absurd h
struct_held (Struct n) h = refl
struct_held (Function n) h = absurd h

pub no_scalar : (ty : CTypeTree) → IsStruct ty → IsScalar ty → ⊥
no_scalar Void h g = absurd h
no_scalar (Int t) h g = absurd h
no_scalar (Pointer to c) h g = absurd h
no_scalar (Array of c n) h g = absurd h
no_scalar (Struct n) h g = g
no_scalar (Function n) h g = absurd h

pub decayed_is : (ty : CTypeTree) (c : Bool) → IsArray ty → scalar_of (decayed ty c) ≡ Some scalars.Pointer
decayed_is Void c h = absurd h
decayed_is (Int t) c h = absurd h
decayed_is (Pointer to d) c h = absurd h
decayed_is (Array of d n) c h = refl
decayed_is (Struct n) c h = absurd h
decayed_is (Function n) c h = absurd h

held_plain : (ty : CTypeTree) → held_scalar (unqualified ty) ≡ held_scalar ty
held_plain Void = refl
held_plain (Int t) = refl
held_plain (Pointer to c) = refl
held_plain (Array of c n) = refl
held_plain (Struct n) = refl
held_plain (Function n) = refl

pub held_same : (a b : CTypeTree) → SameType a b → held_scalar a ≡ held_scalar b
held_same a b h = sym (held_plain a) ∙ ap held_scalar h ∙ held_plain b

struct_plain : (ty : CTypeTree) → IsStruct (unqualified ty) → IsStruct ty
struct_plain Void h = absurd h
struct_plain (Int t) h = absurd h
struct_plain (Pointer to c) h = absurd h
struct_plain (Array of c n) h = absurd h
struct_plain (Struct n) h = tt
struct_plain (Function n) h = absurd h

struct_less : (ty : CTypeTree) → IsStruct ty → IsStruct (unqualified ty)
struct_less Void h = absurd h
struct_less (Int t) h = absurd h
struct_less (Pointer to c) h = absurd h
struct_less (Array of c n) h = absurd h
struct_less (Struct n) h = tt
struct_less (Function n) h = absurd h

pub struct_same : (a b : CTypeTree) → SameType a b → IsStruct b → IsStruct a
struct_same a b h s = struct_plain a (subst (λ t. IsStruct t) (sym h) (struct_less b s))

-- ---- offsets of members are small numbers

told_below : (o : Option ℕ) (at size : ℕ) → IsSomeAnd o (λ n. at + size ≤ n) → IfSome o IsTold → at ≤ 2 ^ 40
told_below None at size h t = absurd h
told_below (Some n) at size h t = omega (arith, h, t)

size_there : (o : Option ℕ) → IsSomeAnd o (λ size. (0 < size) × IsTold size) → (size : ℕ) × (o ≡ Some size)
size_there None h = absurd h
size_there (Some n) h = (n, refl)

pub offset_number : (structs : List StructDefTree) → IsTypedTable structs → (ty struct : CTypeTree) (k offset : ℕ) (c d : Bool) → MemberRow structs struct k offset ty c d → HasNumber ints.Long (pos offset)
offset_number structs table ty struct k offset c d row =
    let sized = member_has (λ ty. IsSomeAnd (size_in structs ty) (λ size. (0 < size) × IsTold size)) structs row.number ty
    (λ i x lt. (members_typed structs structs row.number table.members i x lt).size) (k, row.type_of) in
    let size = size_there (size_in structs ty) sized in
    let part : PartAt structs (Struct row.number) offset ty = member ty ty row.number k offset 0 offset row.type_of row.place (whole ty) (omega arith) in
    let below = told_below (size_in structs (Struct row.number)) offset size.0 (inside structs table.laid_out size.0 part size.1) (table.told row.number) in
    record { sfits = omega (arith, numbers, below) }

module _ (p : TProgramTree) (q : CsProgramTree) (labels : Frame) (n : ℕ) (there : (d : ℕ) (ty : Scalar) → d < n → slice_get q.temps (temp_at d ty) ≡ Some ty) where
  abbrev F : Around → Option Scalar → Lowered → Type 0
  F around ty a = Fine q labels around ty a

  abbrev E : Around → CsStmtTree → Type 0
  E around a = Each (R q labels) around a

  -- an expression of a type, in all its uses
  pub record FineForms (around : Around) (a : Forms) (g : CTypeTree) : Type 0 where
    pub value : a.value.top ≤ n → F around (held_scalar g) a.value
    pub unless : a.value.top ≤ n → IsScalar g → (at : Pos) (k : ℕ) → k < around.exits → E around (a.unless at k)
    pub when : a.value.top ≤ n → IsScalar g → (at : Pos) (k : ℕ) → k < around.exits → E around (a.when at k)
    pub source : (size align : ℕ) → 1 ≤ align → (a.source size align).top ≤ n → IsStruct g → F around (Some scalars.Pointer) (a.source size align)

  pub fine_at : (around : Around) (a : Lowered) (g : CTypeTree) (s : Scalar) → Is g s → F around (held_scalar g) a → F around (Some s) a
  fine_at around a g s e h = fine_as q labels n there around (held_scalar g) (Some s) a (held_is g s e) h

  pub fine_of : (around : Around) (a : Lowered) (g : CTypeTree) (s : Scalar) → Is g s → F around (Some s) a → F around (held_scalar g) a
  fine_of around a g s e h = fine_as q labels n there around (Some s) (held_scalar g) a (sym (held_is g s e)) h

  pub plain_forms : (around : Around) (ty : Option Scalar) (a : Lowered) (g : CTypeTree) → (a.top ≤ n → F around (held_scalar g) a) → (IsScalar g → ty ≡ scalar_of g)
      → FineForms around (plain ty a) g
  plain_forms around ty a g h e = record {
    value = h;
    unless = λ room sc at k lt. let x = scalar_is g sc in
        subst (λ z. E around (unless_value z a at k)) (sym (e sc ∙ x.1)) (unless_right q labels n there around x.0 a at k lt (fine_at around a g x.0 x.1 (h room)));
    when = λ room sc at k lt. let x = scalar_is g sc in
        subst (λ z. E around (when_value z a at k)) (sym (e sc ∙ x.1)) (when_right q labels n there around x.0 a at k lt (fine_at around a g x.0 x.1 (h room)));
    source = λ size align le room st. fine_as q labels n there around (held_scalar g) (Some scalars.Pointer) a (struct_held g st) (h room);
  }

  pub source_forms : (around : Around) (at : Pos) (a : Lowered) (g : CTypeTree) → IsStruct g → (a.top ≤ n → F around (Some scalars.Pointer) a) → FineForms around (with_source at a) g
  source_forms around at a g st h = record {
    value = λ room. fine_as q labels n there around (Some scalars.Pointer) (held_scalar g) a (sym (struct_held g st)) (h room);
    unless = λ room sc at' k lt. absurd (no_scalar g st sc);
    when = λ room sc at' k lt. absurd (no_scalar g st sc);
    source = λ size align le room st'. fine_source q labels n there around at a size align le (h room);
  }

  -- ---- where the scalar of a node is an option
  pub load_any : (around : Around) (d : ℕ) (at : Pos) (o : Option Scalar) (s : Scalar) (a : Lowered) → o ≡ Some s → max (suc d) a.top ≤ n → F around (Some scalars.Pointer) a
      → F around (Some s) (of_load d at (or_int o) a)
  load_any around d at o s a e room h = subst (λ z. F around (Some s) (of_load d at (or_int z) a)) (sym e) (fine_load q labels n there around d at s a room h)

  pub assign_any : (around : Around) (at : Pos) (o : Option Scalar) (s : Scalar) (a b : Lowered) → o ≡ Some s → F around (Some scalars.Pointer) a → F around (Some s) b
      → F around (Some s) (of_assign at (or_int o) a b)
  assign_any around at o s a b e h k = subst (λ z. F around (Some s) (of_assign at (or_int z) a b)) (sym e) (fine_assign q labels n there around at s a b h k)

  pub compound_any : {op : TBinaryOp} {right : Scalar} (around : Around) (at at_place : Pos) (o : Option Scalar) (s : Scalar) (a b : Lowered) → o ≡ Some s → Changes op s right
      → (of_compound at at_place (or_int o) op a b).top ≤ n → F around (Some scalars.Pointer) a → F around (Some right) b → F around (Some s) (of_compound at at_place (or_int o) op a b)
  compound_any {op} {right} around at at_place o s a b e c room h k =
      subst (λ z. F around (Some s) (of_compound at at_place (or_int z) op a b)) (sym e)
      (fine_change q labels n there around at at_place times.Before _ b.next (max a.top b.top) a.value b.value c room (seq_right q labels around a.before b.before h.before k.before) h.good (h.is scalars.Pointer refl) k.good (k.is right refl))

  pub step_any : {right : Scalar} (around : Around) (at at_place : Pos) (o : Option Scalar) (s : Scalar) (time : StepTime) (way : StepWay) (stride : Stride) (a : Lowered) → o ≡ Some s
      → IsOf right (one stride) → Changes (step_operator way stride) s right → (of_step at at_place (or_int o) time way stride a).top ≤ n → F around (Some scalars.Pointer) a
      → F around (Some s) (of_step at at_place (or_int o) time way stride a)
  step_any {right} around at at_place o s time way stride a e i c room h =
      let u = one_good q labels n there around stride right i in
      subst (λ z. F around (Some s) (of_step at at_place (or_int z) time way stride a)) (sym e)
      (fine_change q labels n there around at at_place time a.before a.next a.top a.value (step_one stride) c room h.before h.good (h.is scalars.Pointer refl) u.0 u.1)

  pub assert_any : (around : Around) (d : ℕ) (at : Pos) (o : Option Scalar) (s : Scalar) (a : Lowered) → o ≡ Some s → F around (Some s) a → F around None (of_assert d at o a)
  assert_any around d at o s a e h = subst (λ z. F around None (of_assert d at z a)) (sym e) (fine_assert q labels n there around d at s a h)

  unary_any : (around : Around) (d : ℕ) (at : Pos) (op : TUnaryOp) (o : Option Scalar) (s : Scalar) (a : Lowered) → o ≡ Some s → OperatesOn op s → (of_unary d at op o a).top ≤ n
      → F around (Some s) a → F around (Some (unary_type op)) (of_unary d at op o a)
  unary_any around d at op None s a e c room h = absurd (cc)
  unary_any around d at op (Some t) s a e c room h =
      let same : s ≡ t = cc in
      fine_unary q labels n there around d at op t a (subst (λ z. OperatesOn op z) same c) room (subst (λ z. F around (Some z) a) same h)

  unary_room : (d : ℕ) (at : Pos) (op : TUnaryOp) (o : Option Scalar) (a : Lowered) → (of_unary d at op o a).top ≤ n → a.top ≤ n
  unary_room d at op o a h = spilled_top q labels n there (is_kept_alone op) d (unary_type op) _ h

  pub unary_forms : (around : Around) (d : ℕ) (at : Pos) (op : TUnaryOp) (o : Option Scalar) (s : Scalar) (a : Forms) (g : CTypeTree) → o ≡ Some s → Is g s → OperatesOn op s → IsScalar g
      → FineForms around a g → FineForms around (of_unary_forms d at op o a) (parts.unary_type op)
  unary_forms around d at unaries.Not o s a g e i c sc h = record {
    value = λ room. unary_any around d at unaries.Not o s a.value e c room (fine_at around a.value g s i (h.value (unary_room d at unaries.Not o a.value room)));
    unless = λ room t from k lt. h.when (unary_room d at unaries.Not o a.value room) sc at k lt;
    when = λ room t from k lt. h.unless (unary_room d at unaries.Not o a.value room) sc at k lt;
    source = λ size align le room st. absurd st;
  }
  unary_forms around d at (unaries.Plus t) o s a g e i c sc h =
      plain_forms around (Some (unary_type (unaries.Plus t))) (of_unary d at (unaries.Plus t) o a.value) (Int t)
      (λ room. unary_any around d at (unaries.Plus t) o s a.value e c room (fine_at around a.value g s i (h.value (unary_room d at (unaries.Plus t) o a.value room)))) (λ x. refl)
  unary_forms around d at (unaries.Minus t) o s a g e i c sc h =
      plain_forms around (Some (unary_type (unaries.Minus t))) (of_unary d at (unaries.Minus t) o a.value) (Int t)
      (λ room. unary_any around d at (unaries.Minus t) o s a.value e c room (fine_at around a.value g s i (h.value (unary_room d at (unaries.Minus t) o a.value room)))) (λ x. refl)
  unary_forms around d at (unaries.Complement t) o s a g e i c sc h =
      plain_forms around (Some (unary_type (unaries.Complement t))) (of_unary d at (unaries.Complement t) o a.value) (Int t)
      (λ room. unary_any around d at (unaries.Complement t) o s a.value e c room (fine_at around a.value g s i (h.value (unary_room d at (unaries.Complement t) o a.value room)))) (λ x. refl)

  -- ---- `&&` and `||`
  both_rooms : (d k l : ℕ) → max (suc d) (max k l) ≤ n → (k ≤ n) × (l ≤ n)
  both_rooms d k l h =
      let x = le-max_right (suc d) (max k l) in (let y = le-max_left k l in omega (arith, x, y, h), let y = le-max_right k l in omega (arith, x, y, h))

  -- an expression is fine whatever is around it, where as much lives
  abbrev Anywhere : Around → Forms → CTypeTree → Type 0
  Anywhere around a g = (levels : ℕ) → FineForms (record around { exits = levels }) a g

  pub and_forms : (around : Around) (d : ℕ) (at : Pos) (a b : Forms) (g h : CTypeTree) → IsScalar g → IsScalar h → Anywhere around a g → Anywhere around b h
      → FineForms around (of_and d at a b) (Int ints.Int)
  and_forms around d at a b g h sg sh fa fb =
      let value : max (suc d) (max a.value.top b.value.top) ≤ n → F around (Some (scalars.Int ints.Int)) (of_bit d (unless_and at a b at 0) (max a.value.top b.value.top))
      = λ room. fine_bit q labels n there around d (unless_and at a b at 0) (max a.value.top b.value.top) room
      (seq_right q labels (in_block (in_block around)) (a.unless at 0) (b.unless at 0)
      ((fa (suc (suc around.exits))).unless (both_rooms d a.value.top b.value.top room).0 sg at 0 (omega arith))
      ((fb (suc (suc around.exits))).unless (both_rooms d a.value.top b.value.top room).1 sh at 0 (omega arith))) in
      record {
        value = value;
        unless = λ room t from k lt. seq_right q labels around (a.unless at k) (b.unless at k)
            ((fa around.exits).unless (both_rooms d a.value.top b.value.top room).0 sg at k lt) ((fb around.exits).unless (both_rooms d a.value.top b.value.top room).1 sh at k lt);
        when = λ room t from k lt. block_right q labels around _ (seq_right q labels (in_block around) (a.unless at 0) (b.when at (suc k))
            ((fa (suc around.exits)).unless (both_rooms d a.value.top b.value.top room).0 sg at 0 (omega arith))
            ((fb (suc around.exits)).when (both_rooms d a.value.top b.value.top room).1 sh at (suc k) (omega (arith, lt))));
        source = λ size align le room st. absurd st;
      }

  pub or_forms : (around : Around) (d : ℕ) (at : Pos) (a b : Forms) (g h : CTypeTree) → IsScalar g → IsScalar h → Anywhere around a g → Anywhere around b h
      → FineForms around (of_or d at a b) (Int ints.Int)
  or_forms around d at a b g h sg sh fa fb =
      let value : max (suc d) (max a.value.top b.value.top) ≤ n → F around (Some (scalars.Int ints.Int)) (of_bit d (unless_or at a b at 0) (max a.value.top b.value.top))
      = λ room. fine_bit q labels n there around d (unless_or at a b at 0) (max a.value.top b.value.top) room
      (block_right q labels (in_block (in_block around)) _ (seq_right q labels (in_block (in_block (in_block around))) (a.when at 0) (b.unless at 1)
      ((fa (suc (suc (suc around.exits)))).when (both_rooms d a.value.top b.value.top room).0 sg at 0 (omega arith))
      ((fb (suc (suc (suc around.exits)))).unless (both_rooms d a.value.top b.value.top room).1 sh at 1 (omega arith)))) in
      record {
        value = value;
        unless = λ room t from k lt. block_right q labels around _ (seq_right q labels (in_block around) (a.when at 0) (b.unless at (suc k))
            ((fa (suc around.exits)).when (both_rooms d a.value.top b.value.top room).0 sg at 0 (omega arith))
            ((fb (suc around.exits)).unless (both_rooms d a.value.top b.value.top room).1 sh at (suc k) (omega (arith, lt))));
        when = λ room t from k lt. seq_right q labels around (a.when at k) (b.when at k)
            ((fa around.exits).when (both_rooms d a.value.top b.value.top room).0 sg at k lt) ((fb around.exits).when (both_rooms d a.value.top b.value.top room).1 sh at k lt);
        source = λ size align le room st. absurd st;
      }

  -- ---- `?:`
  three_rooms : (d t k l : ℕ) → max (suc d) (max t (max k l)) ≤ n → (t ≤ n) × (k ≤ n) × (l ≤ n)
  three_rooms d t k l h =
      let x = le-max_right (suc d) (max t (max k l)) in
      let y = le-max_right t (max k l) in
      (let z = le-max_left t (max k l) in omega (arith, x, z, h), let z = le-max_left k l in omega (arith, x, y, z, h), let z = le-max_right k l in omega (arith, x, y, z, h))

  void_rooms : (t k l : ℕ) → max t (max k l) ≤ n → (t ≤ n) × (k ≤ n) × (l ≤ n)
  void_rooms t k l h =
      let y = le-max_right t (max k l) in
      (let z = le-max_left t (max k l) in omega (arith, z, h), let z = le-max_left k l in omega (arith, y, z, h), let z = le-max_right k l in omega (arith, y, z, h))

  module _ (around : Around) (d : ℕ) (t a b : Forms) (gt ga gb : CTypeTree) (st : IsScalar gt) (ft : Anywhere around t gt) (fa : Anywhere around a ga) (fb : Anywhere around b gb) where
    cond_value : (s : Scalar) → held_scalar ga ≡ Some s → held_scalar gb ≡ Some s → max (suc d) (max t.value.top (max a.value.top b.value.top)) ≤ n
        → (at : Pos) → F around (Some s) (of_cond d (Some s) (t.unless at 0) t.value.top a.value b.value)
    cond_value s ea eb room at =
        let r = three_rooms d t.value.top a.value.top b.value.top room in
        fine_cond q labels n there around d s (t.unless at 0) t.value.top a.value b.value room ((ft (suc (suc around.exits))).unless r.0 st at 0 (omega arith))
        (fine_as q labels n there (in_block (in_block around)) _ _ a.value ea ((fa (suc (suc around.exits))).value r.1))
        (fine_as q labels n there (in_block around) _ _ b.value eb ((fb (suc around.exits)).value r.2))

    pub cond_forms : (at : Pos) (ty : CTypeTree) → IsCondType ty → SameType ga ty → SameType gb ty → FineForms around (of_cond_forms d at ty t a b) ty
    cond_forms at (Int k) c ea eb =
        let f = plain_forms around (Some (scalars.Int k)) (of_cond d (Some (scalars.Int k)) (t.unless at 0) t.value.top a.value b.value) (Int k)
        (λ room. cond_value (scalars.Int k) (held_same ga (Int k) ea) (held_same gb (Int k) eb) room at) (λ x. refl) in
        record { value = f.value; unless = f.unless; when = f.when; source = λ size align le room st'. absurd st' }
    cond_forms at (Pointer to k) c ea eb =
        let f = plain_forms around (Some scalars.Pointer) (of_cond d (Some scalars.Pointer) (t.unless at 0) t.value.top a.value b.value) (Pointer to k)
        (λ room. cond_value scalars.Pointer (held_same ga (Pointer to k) ea) (held_same gb (Pointer to k) eb) room at) (λ x. refl) in
        record { value = f.value; unless = f.unless; when = f.when; source = λ size align le room st'. absurd st' }
    cond_forms at (Struct k) c ea eb = record {
      value = λ room. cond_value scalars.Pointer (held_same ga (Struct k) ea) (held_same gb (Struct k) eb) room at;
      unless = λ room sc from j lt. absurd sc;
      when = λ room sc from j lt. absurd sc;
      source = λ size align le room st'.
          let r = three_rooms d t.value.top (a.source size align).top (b.source size align).top room in
          fine_cond q labels n there around d scalars.Pointer (t.unless at 0) t.value.top (a.source size align) (b.source size align) room ((ft (suc (suc around.exits))).unless r.0 st at 0 (omega arith))
          ((fa (suc (suc around.exits))).source size align le r.1 (struct_same ga (Struct k) ea tt))
          ((fb (suc around.exits)).source size align le r.2 (struct_same gb (Struct k) eb tt));
    }
    cond_forms at Void c ea eb = record {
      value = λ room. let r = void_rooms t.value.top a.value.top b.value.top room in
          fine_cond_void q labels n there around d (t.unless at 0) t.value.top a.value b.value ((ft (suc (suc around.exits))).unless r.0 st at 0 (omega arith))
          (fine_as q labels n there (in_block (in_block around)) _ _ a.value (held_same ga Void ea) ((fa (suc (suc around.exits))).value r.1))
          (fine_as q labels n there (in_block around) _ _ b.value (held_same gb Void eb) ((fb (suc around.exits)).value r.2));
      unless = λ room sc from j lt. absurd sc;
      when = λ room sc from j lt. absurd sc;
      source = λ size align le room st'. absurd st';
    }
    cond_forms at (Array of k m) c ea eb = absurd c
    cond_forms at (Function k) c ea eb = absurd c

  pub comma_forms : (around : Around) (ty other : Option Scalar) (a : Lowered) (b : Forms) (g : CTypeTree) → (a.top ≤ n → F around other a) → FineForms around b g → (IsScalar g → ty ≡ scalar_of g)
      → FineForms around (of_comma ty a b) g
  comma_forms around ty other a b g h k e =
      let f = plain_forms around ty (behind a b.value) g
      (λ room. let x = le-max_left a.top b.value.top in let y = le-max_right a.top b.value.top in
      fine_behind q labels n there around (held_scalar g) other a b.value (h (omega (arith, x, room))) (k.value (omega (arith, y, room)))) e in
      record {
        value = f.value;
        unless = f.unless;
        when = f.when;
        source = λ size align le room st. let x = le-max_left a.top (b.source size align).top in let y = le-max_right a.top (b.source size align).top in
            fine_behind q labels n there around (Some scalars.Pointer) other a (b.source size align) (h (omega (arith, x, room))) (k.source size align le (omega (arith, y, room)) st);
      }

  -- ---- variables
  var_good : (objects : List ObjectTree) (live : List ℕ) (around : Around) (x : ℕ) (ty : CTypeTree) (c : Bool) (o : Option ObjectTree) → q.objects ≡ objects → slice_get objects x ≡ o
      → IsSomeAnd o (λ object. VarRow (record { program = p; live = live }) object x ty c) → (Contains live x → Contains around.live x) → Good q around (Address x)
  var_good objects live around x ty c None same e h more = absurd h
  var_good objects live around x ty c (Some object) same e h more =
      let e' : slice_get q.objects x ≡ Some object = ap (λ os. slice_get os x) same ∙ e in
      record {
        there = slice_get_within q.objects x object e';
        live = subst (λ z. IsSomeAnd z (λ o. IsTrue o.is_static ⊎ Contains around.live x)) (sym e') (elim h.lives [
          | inl s ↦ inl s
          | inr l ↦ inr (more l)
        ]);
        operands = tt;
      }

  pub fine_var : (live : List ℕ) (around : Around) (d x : ℕ) (ty : CTypeTree) (c : Bool) → q.objects ≡ p.objects
      → IsSomeAnd (slice_get p.objects x) (λ object. VarRow (record { program = p; live = live }) object x ty c) → (Contains live x → Contains around.live x)
      → F around (Some scalars.Pointer) (lowered Rattle.csharp.specs.Trees.Nothing (Address x) d d)
  fine_var live around d x ty c same h more = record {
    before = Rattle.lower_formed.proofs.Terms.nothing_right q labels around;
    good = var_good p.objects live around x ty c (slice_get p.objects x) same refl h more;
    is = λ s e. e;
  }
