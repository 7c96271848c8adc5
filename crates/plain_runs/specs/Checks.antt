-- Checks in a plain state: which are suspects, and what passes; none where the plain run is not defined (this profile).
use Rattle.std.specs.Prelude.{pos, ◌==◌, Bool, true, false, not, ◌&&◌, if◌then◌else◌, List, [], ◌∷◌, Option, Some, None, option_map, option_and_then}
use Rattle.std.specs.Int.RustNames.{int_le}
use Rattle.std.specs.Ordering.{int_eq}
use Rattle.c_syntax_written.specs.Integer.{bytes}
use Rattle.c_syntax.specs.declared.alarm.Check.{Check}
use Rattle.c_syntax.specs.declared.alarm.WrongKind.{WrongKind}
use Rattle.c_syntax.specs.declared.alarm.WrongKind.TheVariants as kinds
use Rattle.c_syntax.specs.declared.operator.Arithmetic.TheVariants.{Divide, Remainder}
use Rattle.c_syntax.specs.declared.operator.TBinaryOp.TheVariants as binaries
use Rattle.block_mem.specs.declared.types.Scalar.{Scalar}
use Rattle.num_api.specs.Spans.{Span, span, point, may_equal}
use Rattle.num_api.specs.Plain.{without}
use Rattle.machine_nums.specs.Rule.{exact_span}
use Rattle.csharp.specs.Trees.{CsExprTree, Temp, Address, Binary, CsCheckTree}
use Rattle.plain_runs.specs.Numbers.{number_expr}
use Rattle.plain_runs.specs.States.{Cell, Plain, given, span_of}
use Rattle.plain_runs.specs.Changes.{cell_at, within, has_numbers}

-- ---- what is looked at

-- the one expression that a check looks at
abbrev pub of_one : {A : Type 0} → List CsExprTree → (CsExprTree → Option A) → Option A
of_one (e ∷ []) look = look e
of_one es look = None

-- the exact results of the outermost operator: of a shift to the left only where both operands are points
abbrev pub exact_of : List Scalar → Plain → CsExprTree → Option (Option Span)
exact_of types p e = option_map (exact_span (given p)) (number_expr types e)

-- a remainder is checked by the quotient of its operands
abbrev pub quotient_of : CsExprTree → CsExprTree
quotient_of (Binary (binaries.Arithmetic Remainder t) a b) = Binary (binaries.Arithmetic Divide t) a b
quotient_of e = e

-- an object that is named by its address alone, where the check asks no more than that it is accessed as what it is
abbrev fits_size : Check → Cell → Option Cell
fits_size check cell = if check.size == bytes cell.ty && check.align == bytes cell.ty then Some cell else None

abbrev pub named_cell : Plain → CsExprTree → Option Cell
named_cell p (Address x) = p.objects x
named_cell p e = None

abbrev pub loaded_cell : Plain → Option Scalar → CsExprTree → Option Cell
loaded_cell p (Some ty) (Address x) = cell_at p ty x
loaded_cell p ty e = None

-- ---- suspects

abbrev pub is_inside : Check → Span → Bool
is_inside check s = int_le check.lo s.lo && int_le s.hi check.hi

abbrev pub holds_zero : Span → Bool
holds_zero s = may_equal s (point (pos 0))

-- a result that is not known at all may be any number
abbrev pub may_leave : Check → Option Span → Bool
may_leave check None = true
may_leave check (Some s) = not (is_inside check s)

abbrev pub never : Cell → Bool
never cell = false

-- whether a check of this kind may fail
abbrev pub suspect_of : List Scalar → Plain → CsCheckTree → WrongKind → Option Bool
suspect_of types p c kinds.Overflow = option_map (may_leave c.check) (of_one c.operands (exact_of types p))
suspect_of types p c kinds.DivideByZero = option_map holds_zero (of_one c.operands (span_of types p))
suspect_of types p c kinds.Quotient = option_map (may_leave c.check) (of_one c.operands (λ e. exact_of types p (quotient_of e)))
suspect_of types p c kinds.ShiftAmount = option_map (λ s. not (is_inside c.check s)) (of_one c.operands (span_of types p))
suspect_of types p c kinds.ShiftResult = option_map (may_leave c.check) (of_one c.operands (exact_of types p))
suspect_of types p c kinds.Indeterminate = option_map Cell.may_be_undefined (of_one c.operands (loaded_cell p c.ty))
suspect_of types p c kinds.Fragment = option_map never (of_one c.operands (loaded_cell p c.ty))
suspect_of types p c kinds.NullUse = option_map never (of_one c.operands (named_cell p))
suspect_of types p c kinds.Dangling = option_map never (of_one c.operands (named_cell p))
suspect_of types p c kinds.Access = option_map never (option_and_then (fits_size c.check) (of_one c.operands (named_cell p)))
suspect_of types p c kinds.Alignment = option_map never (option_and_then (fits_size c.check) (of_one c.operands (named_cell p)))
suspect_of types p c kinds.ReadOnly = option_map Cell.read_only (of_one c.operands (named_cell p))
suspect_of types p c kinds.AssertFailed = option_map holds_zero (of_one c.operands (span_of types p))
suspect_of types p c kind = None

abbrev pub plain_suspect : List Scalar → Plain → CsCheckTree → Option Bool
plain_suspect types p c = suspect_of types p c c.check.kind

-- ---- what passes

-- nothing goes on from an interval without numbers
abbrev pub if_some : {A : Type 0} → Span → A → Option A
if_some s a = if has_numbers s then Some a else None

-- the allowed results
abbrev pub allowed : Check → Span
allowed check = span check.lo check.hi

abbrev pub passing : Check → Option Span → Span
passing check None = allowed check
passing check (Some s) = within s (allowed check)

-- a result that passed is known until the next statement
abbrev pub with_passed : Plain → CsExprTree → Span → Option Plain
with_passed p e s = if_some s (record p { passed = Some (record { expr = e; numbers = s }) })

abbrev pub pass_result : List Scalar → Plain → Check → CsExprTree → Option (Option Plain)
pass_result types p check e = option_map (λ s. with_passed p e (passing check s)) (exact_of types p e)

-- a remainder is not cut by the quotient
abbrev pub pass_quotient : List Scalar → Plain → Check → CsExprTree → Option (Option Plain)
pass_quotient types p check (Binary (binaries.Arithmetic Remainder t) a b) = Some (Some (record p { passed = None }))
pass_quotient types p check e = pass_result types p check e

-- an operand that was cut stands in a temporary; any other may only stay as it was
abbrev pub with_operand : Plain → CsExprTree → Span → Span → Option Plain
with_operand p (Temp d) before after = Some (record p { temps = λ k. if k == d then after else p.temps k; passed = None })
with_operand p e before after = if int_eq before.lo after.lo && int_eq before.hi after.hi then Some (record p { passed = None }) else None

abbrev pub if_reached : {A : Type 0} → Span → Option A → Option (Option A)
if_reached s q = if has_numbers s then option_map Some q else Some None

abbrev pub pass_operand : List Scalar → Plain → CsExprTree → (Span → Span) → Option (Option Plain)
pass_operand types p e cut = option_and_then (λ s. if_reached (cut s) (with_operand p e s (cut s))) (span_of types p e)

-- an assertion cuts nothing; it leads nowhere where it never holds
abbrev pub pass_assertion : List Scalar → Plain → CsExprTree → Option (Option Plain)
pass_assertion types p e = option_map (λ s. if_some (without (pos 0) s) (record p { passed = None })) (span_of types p e)

abbrev pub passes_by : List Scalar → Plain → CsCheckTree → WrongKind → Option (Option Plain)
passes_by types p c kinds.Overflow = of_one c.operands (pass_result types p c.check)
passes_by types p c kinds.DivideByZero = of_one c.operands (λ e. pass_operand types p e (without (pos 0)))
passes_by types p c kinds.Quotient = of_one c.operands (pass_quotient types p c.check)
passes_by types p c kinds.ShiftAmount = of_one c.operands (λ e. pass_operand types p e (λ s. within s (allowed c.check)))
passes_by types p c kinds.ShiftResult = of_one c.operands (pass_result types p c.check)
passes_by types p c kinds.AssertFailed = of_one c.operands (pass_assertion types p)
passes_by types p c kind = option_map (λ suspect. Some (record p { passed = None })) (suspect_of types p c kind)

-- the state behind a check that has passed
abbrev pub plain_pass : List Scalar → Plain → CsCheckTree → Option (Option Plain)
plain_pass types p c = passes_by types p c c.check.kind
