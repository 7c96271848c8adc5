-- Looks that fail, and those that pass.
use Rattle.std.proofs.Common.{◌≡◌, true, false, Bool, refl, List, ◌∷◌, Some}
use Rattle.std.specs.Prelude.{if◌then◌else◌}
use Rattle.c_syntax.specs.declared.alarm.Check.{Check}
use Rattle.c_syntax.specs.declared.operator.TUnaryOp.{TUnaryOp}
use Rattle.c_syntax.specs.declared.operator.TUnaryOp.TheVariants as unaries
use Rattle.c_syntax.specs.Types.{ObjectTree, CTypeTree, Void, Int, Pointer, Array, Struct, Function}
use Rattle.c_syntax.specs.Operand.{Operand}
use Rattle.c_syntax.specs.Admission.{Fails}
use Rattle.c_syntax.specs.Failing.{fails}
use Rattle.c_layout.specs.Checks.{load_checks, store_checks, test_checks, unary_checks}
use Rattle.c_layout.proofs.Failing.{failing}
use Rattle.c_values.specs.Looks.{Look, Judged, FailsAs, judge}
use Rattle.c_values.specs.Values.{plain_type, scalar_of}

when_true : (b : Bool) (x y : Judged) → b ≡ true → (if b then x else y) ≡ x
when_true true x y e = refl
when_true false x y e = absurd (cc)

when_false : (b : Bool) (x y : Judged) → (b ≡ true → ⊥) → (if b then x else y) ≡ y
when_false true x y h = absurd (h refl)
when_false false x y h = refl

pub look_fails : (objects : List ObjectTree) (check : Check) (x : Operand) (rest : List Look) → Fails objects check x
    → judge objects (record { check = check; operand = Some x } ∷ rest) ≡ FailsAs check.kind x
look_fails objects check x rest h = when_true (fails objects check x) (FailsAs check.kind x) (judge objects rest) ((failing objects check check.kind x).1 h)

pub look_passes : (objects : List ObjectTree) (check : Check) (x : Operand) (rest : List Look) → (Fails objects check x → ⊥)
    → judge objects (record { check = check; operand = Some x } ∷ rest) ≡ judge objects rest
look_passes objects check x rest h = when_false (fails objects check x) (FailsAs check.kind x) (judge objects rest)
    (λ e. h ((failing objects check check.kind x).0 e))

pub load_plain : (ty : CTypeTree) → load_checks ty ≡ load_checks (plain_type (scalar_of ty))
load_plain Void = refl
load_plain (Int t) = refl
load_plain (Pointer to is_const) = refl
load_plain (Array of is_const n) = refl
load_plain (Struct n) = refl
load_plain (Function n) = refl

pub store_plain : (ty : CTypeTree) → store_checks ty ≡ store_checks (plain_type (scalar_of ty))
store_plain Void = refl
store_plain (Int t) = refl
store_plain (Pointer to is_const) = refl
store_plain (Array of is_const n) = refl
store_plain (Struct n) = refl
store_plain (Function n) = refl

pub test_plain : (ty : CTypeTree) → test_checks ty ≡ test_checks (plain_type (scalar_of ty))
test_plain Void = refl
test_plain (Int t) = refl
test_plain (Pointer to is_const) = refl
test_plain (Array of is_const n) = refl
test_plain (Struct n) = refl
test_plain (Function n) = refl

pub unary_plain : (op : TUnaryOp) (ty : CTypeTree) → unary_checks op ty ≡ unary_checks op (plain_type (scalar_of ty))
unary_plain (unaries.Plus t) ty = refl
unary_plain (unaries.Minus t) ty = refl
unary_plain (unaries.Complement t) ty = refl
unary_plain unaries.Not ty = test_plain ty
