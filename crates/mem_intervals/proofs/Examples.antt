-- The program of the tests: one integer object and one integer temporary.
use Rattle.std.proofs.Common.{ℕ, ◌≡◌, ◌∙◌, ◌<◌, pos, arith, refl, sym, subst, List, [], ◌∷◌, map, length, Option, Some, None}
use Rattle.std.specs.Prelude.{All, slice_get}
use Rattle.std.proofs.lemmas.Int.{ints as int_facts}
use Rattle.std.proofs.lemmas.List.Elements.{All-nil, All-cons}
use Rattle.std.proofs.lemmas.List.{length-map}
use Rattle.c_syntax_written.specs.declared.int_type.IntType.TheVariants as ints
use Rattle.c_syntax_written.specs.declared.place.Pos.{Pos}
use Rattle.c_syntax.specs.declared.alarm.WrongKind.{WrongKind}
use Rattle.c_syntax.specs.declared.alarm.WrongKind.TheVariants as kinds
use Rattle.c_syntax.specs.Types.{object_tree}
use Rattle.c_layout.specs.Checks.{plain_check}
use Rattle.block_mem.specs.declared.types.Scalar.{Scalar}
use Rattle.block_mem.specs.declared.types.Scalar.TheVariants as scalars
use Rattle.c_syntax_written.specs.Integer.{HasNumber}
use Rattle.num_api.specs.Spans.{range_of}
use Rattle.num_api.proofs.Parts.{as_wide}
use Rattle.machine_nums.specs.Rule.{type_span}
use Rattle.machine_nums.proofs.Wrapped.{inside_has}
use Rattle.csharp.specs.Trees.{CsExprTree, CsProgramTree, CsCheckTree, none, csprogram_tree}
use Rattle.csharp.specs.declared.program.CsProgram.{CsProgram}
use Rattle.csharp.specs.Trees.{Const, Temp, Address, Load, Store, Undefine, Assume, Checked, Scope}
use Rattle.csharp.specs.Formed.{NamesThere, AreOperandsTyped}
use Rattle.mem_api.specs.Given.{IsOf}
use Rattle.mem_intervals.specs.declared.states.IntervalStates.{IntervalStates}
use Rattle.mem_intervals.specs.Small.{IsSmall, IsSetFor, IsSmallSet}

abbrev int : Scalar
int = scalars.Int ints.Int

pub small_program : (p : CsProgram) → length p.objects ≡ 1 → p.temps ≡ int ∷ [] → IsSmall (csprogram_tree p)
small_program p objects temps = record { objects = length-map p.objects object_tree ∙ objects; temps = temps }

-- a set stays one for a small program where it stays one for its program
pub goes_on : {m n : IntervalStates} → IsSmallSet m → ((q : CsProgramTree) → IsSetFor q m → IsSetFor q n) → IsSmallSet n
goes_on s stays = record { program = s.program; small = s.small; is_for = stays s.program s.is_for }

-- a check of one operand
abbrev pub check_at : Pos → WrongKind → Option Scalar → CsExprTree → CsCheckTree
check_at at kind ty e = record { check = plain_check kind; pos = at; ty = ty; operands = e ∷ [] }

-- ---- what is there

one : {A : Type 0} (P : A → Type 0) (x : A) → P x → All P (x ∷ [])
one P x h = All-cons P x [] h (All-nil P)

two : {A : Type 0} (P : A → Type 0) (x y : A) → P x → P y → All P (x ∷ y ∷ [])
two P x y h g = All-cons P x (y ∷ []) h (one P y g)

object_there : (q : CsProgramTree) → IsSmall q → 0 < length q.objects
object_there q small = subst (λ n. 0 < n) (sym small.objects) (omega arith)

temp_there : (q : CsProgramTree) → IsSmall q → 0 < length q.temps
temp_there q small = subst (λ (ts : List Scalar). 0 < length ts) (sym small.temps) (omega arith)

temp_typed : (q : CsProgramTree) → IsSmall q → slice_get q.temps 0 ≡ Some int
temp_typed q small = subst (λ (ts : List Scalar). slice_get ts 0 ≡ Some int) (sym small.temps) refl

seven : HasNumber ints.Int (pos 7)
seven = inside_has ints.Int (range_of (type_span ints.Int)) (pos 7) (as_wide (range_of (type_span ints.Int)))
    (record { low = omega (arith, int_facts); high = omega (arith, int_facts) })

-- ---- what each call is given

pub scope_given : (q : CsProgramTree) (xs : List ℕ) → IsSmall q → xs ≡ 0 ∷ [] → IsOf q (Scope xs none)
scope_given q xs small is = subst (λ (xs : List ℕ). IsOf q (Scope xs none)) (sym is) (record {
  numbers = (All-nil _, All-nil _, one (λ x. x < length q.objects) 0 (object_there q small), tt);
  typed = (All-nil _, tt);
  check = tt;
})

pub store_given : (q : CsProgramTree) (e f : CsExprTree) → IsSmall q → e ≡ Address 0 → f ≡ Const ints.Int (pos 7) → IsOf q (Store int e f)
store_given q e f small at is = subst (λ (e : CsExprTree). IsOf q (Store int e f)) (sym at) (subst (λ (f : CsExprTree). IsOf q (Store int (Address 0) f)) (sym is) (record {
  numbers = (two (NamesThere q) (Address 0) (Const ints.Int (pos 7)) (object_there q small) tt, All-nil _, All-nil _, tt);
  typed = (two (AreOperandsTyped q) (Address 0) (Const ints.Int (pos 7)) tt seven, (refl, refl));
  check = tt;
}))

pub load_given : (q : CsProgramTree) (e : CsExprTree) → IsSmall q → e ≡ Address 0 → IsOf q (Load 0 int e)
load_given q e small at = subst (λ (e : CsExprTree). IsOf q (Load 0 int e)) (sym at) (record {
  numbers = (one (NamesThere q) (Address 0) (object_there q small), one (λ d. d < length q.temps) 0 (temp_there q small), All-nil _, tt);
  typed = (one (AreOperandsTyped q) (Address 0) tt, (refl, temp_typed q small));
  check = tt;
})

pub undefine_given : (q : CsProgramTree) → IsSmall q → IsOf q (Undefine 0)
undefine_given q small = record {
  numbers = (All-nil _, All-nil _, All-nil _, object_there q small);
  typed = (All-nil _, tt);
  check = tt;
}

pub assume_given : (q : CsProgramTree) (e : CsExprTree) → IsSmall q → e ≡ Temp 0 → IsOf q (Assume e)
assume_given q e small is = subst (λ (e : CsExprTree). IsOf q (Assume e)) (sym is) (record {
  numbers = (one (NamesThere q) (Temp 0) (temp_there q small), All-nil _, All-nil _, tt);
  typed = (one (AreOperandsTyped q) (Temp 0) tt, (ints.Int, temp_typed q small));
  check = tt;
})

-- a check that the temporary is not 0
pub divisor_given : (q : CsProgramTree) (c : CsCheckTree) (at : Pos) (e : CsExprTree) → IsSmall q → c ≡ check_at at kinds.DivideByZero None e → e ≡ Temp 0
    → IsOf q (Checked c)
divisor_given q c at e small is temp = subst (λ (c : CsCheckTree). IsOf q (Checked c)) (sym is)
    (subst (λ (e : CsExprTree). IsOf q (Checked (check_at at kinds.DivideByZero None e))) (sym temp) (record {
      numbers = (one (NamesThere q) (Temp 0) (temp_there q small), All-nil _, All-nil _, tt);
      typed = (one (AreOperandsTyped q) (Temp 0) tt, tt);
      check = ((ints.Int, temp_typed q small), refl, refl);
    }))

-- a check that the object has a value
pub value_given : (q : CsProgramTree) (c : CsCheckTree) (at : Pos) (e : CsExprTree) → IsSmall q → c ≡ check_at at kinds.Indeterminate (Some int) e
    → e ≡ Address 0 → IsOf q (Checked c)
value_given q c at e small is object = subst (λ (c : CsCheckTree). IsOf q (Checked c)) (sym is)
    (subst (λ (e : CsExprTree). IsOf q (Checked (check_at at kinds.Indeterminate (Some int) e))) (sym object) (record {
      numbers = (one (NamesThere q) (Address 0) (object_there q small), All-nil _, All-nil _, tt);
      typed = (one (AreOperandsTyped q) (Address 0) tt, tt);
      check = (refl, refl, refl);
    }))
