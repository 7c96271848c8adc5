-- What the code does not hold: its numbers are i128, the offsets of its pointers are i64, and its memory has numbers of their types and pointers to blocks that
-- were made.
use Rattle.std.specs.Prelude.{ℕ, ℤ, pos, negsuc, neg_ℤ, ◌+ℤ◌, ◌*ℤ◌, ◌-ℤ◌, ◌^◌, ◌==◌, nat_le, nat_lt, int_le, int_div, Bool, true, false, not, ◌&&◌, ◌||◌}
use Rattle.std.specs.Prelude.{List, [], ◌∷◌, length, Option, Some, None}
use Rattle.std.specs.Option.{option_map_or}
use Rattle.c_syntax_written.specs.declared.int_type.IntType.{IntType}
use Rattle.c_syntax_written.specs.Integer.{least, greatest}
use Rattle.c_syntax.specs.declared.alarm.WrongKind.{WrongKind}
use Rattle.c_syntax.specs.declared.alarm.WrongKind.TheVariants as kinds
use Rattle.c_syntax.specs.declared.operator.Arithmetic.{Arithmetic}
use Rattle.c_syntax.specs.declared.operator.Arithmetic.TheVariants.{Multiply, Divide, Remainder, Add, Subtract}
use Rattle.c_syntax.specs.declared.operator.Shift.TheVariants.{Left}
use Rattle.c_syntax.specs.declared.operator.TUnaryOp.{TUnaryOp}
use Rattle.c_syntax.specs.declared.operator.TUnaryOp.TheVariants as unaries
use Rattle.c_syntax.specs.declared.operator.TBinaryOp.{TBinaryOp}
use Rattle.c_syntax.specs.declared.operator.TBinaryOp.TheVariants as binaries
use Rattle.block_mem.specs.declared.types.Scalar.{Scalar}
use Rattle.block_mem.specs.declared.types.Scalar.TheVariants as scalars
use Rattle.block_mem.specs.declared.types.Value.{Value}
use Rattle.block_mem.specs.declared.types.Value.TheVariants as values
use Rattle.block_mem.specs.Bytes.{size_of}
use Rattle.c_values.specs.Numbers.{exact_arithmetic, exact_shift}
use Rattle.c_values.specs.Operators.{elements}
use Rattle.c_values.specs.Places.{ObjectMemory}
use Rattle.csharp.specs.Trees.{CsExprTree, Unary, Binary, Convert, CsCheckTree}
use Rattle.csharp.specs.States.{State, takes_right, value_of}
use Rattle.csharp_state.specs.Reading.{can_read}

-- ---- numbers

-- a number is not one of so many bits and a sign
abbrev pub is_past : ℕ → ℤ → Bool
is_past bits (pos n) = nat_le (2 ^ bits) n
is_past bits (negsuc n) = nat_le (2 ^ bits) n

-- no i128
abbrev pub is_no_number : ℤ → Bool
is_no_number n = is_past 127 n

-- no i64
abbrev pub is_no_offset : ℤ → Bool
is_no_offset n = is_past 63 n

-- a type has a number, as a test
abbrev pub has_number : IntType → ℤ → Bool
has_number t n = int_le (least t) n && int_le n (pos (greatest t))

-- what an operator wraps to its type is no i128, for a remainder the quotient; bits are taken of numbers of the type alone
abbrev pub wraps_past : Arithmetic → ℤ → ℤ → Bool
wraps_past Multiply a b = is_no_number (a *ℤ b)
wraps_past Divide a b = is_no_number (int_div a b)
wraps_past Remainder a b = is_no_number (int_div a b)
wraps_past Add a b = is_no_number (a +ℤ b)
wraps_past Subtract a b = is_no_number (a -ℤ b)
wraps_past op a b = true

-- numbers of the operator's type give a value always
abbrev pub unheld_arithmetic : Arithmetic → IntType → ℤ → ℤ → Bool
unheld_arithmetic op t a b = wraps_past op a b && not (has_number t a && has_number t b)

-- ---- operators

-- a pointer that is moved by bytes
abbrev pub unheld_move : Value → ℤ → Bool
unheld_move (values.Ptr p) d = is_no_offset (p.offset +ℤ d)
unheld_move v d = false

abbrev pub unheld_unary : TUnaryOp → Value → Bool
unheld_unary (unaries.Minus t) (values.Int u n) = is_no_number (neg_ℤ n)
unheld_unary op v = false

abbrev pub unheld_binary : TBinaryOp → Value → Value → Bool
unheld_binary (binaries.Arithmetic op t) (values.Int ta a) (values.Int tb b) = unheld_arithmetic op t a b
unheld_binary (binaries.Shift Left t) (values.Int ta a) (values.Int tb b) = is_no_number (exact_shift a b)
unheld_binary (binaries.PointerPlusInt element) v (values.Int t n) = unheld_move v (elements element n)
unheld_binary (binaries.IntPlusPointer element) (values.Int t n) v = unheld_move v (elements element n)
unheld_binary (binaries.PointerMinusInt element) v (values.Int t n) = unheld_move v (neg_ℤ (elements element n))
unheld_binary op v u = false

-- the exact number at which a check of a result looks
abbrev pub unheld_exact_binary : TBinaryOp → Value → Value → Bool
unheld_exact_binary (binaries.Arithmetic op t) (values.Int ta a) (values.Int tb b) = is_no_number (exact_arithmetic op a b)
unheld_exact_binary (binaries.Shift way t) (values.Int ta a) (values.Int tb b) = is_no_number (exact_shift a b)
unheld_exact_binary op v u = false

-- where the operator takes the right operand
abbrev pub if_taken : TBinaryOp → (Value → Value → Bool) → Value → Value → Bool
if_taken op test v u = takes_right op u && test v u

-- ---- expressions

-- an operator in the expression comes to what is not held
abbrev pub unheld : CsExprTree → State → Bool
unheld (Unary op e) s = unheld e s || option_map_or (unheld_unary op) (value_of e s) false
unheld (Binary op e f) s =
    unheld e s
    || option_map_or (λ v. unheld f s || option_map_or (if_taken op (unheld_binary op) v) (value_of f s) false) (value_of e s) false
unheld (Convert t e) s = unheld e s
unheld e s = false

-- two expressions, the second where the first has a value, and then what is done with their values
abbrev pub unheld_both : CsExprTree → CsExprTree → State → (Value → Value → Bool) → Bool
unheld_both e f s test =
    unheld e s || option_map_or (λ v. unheld f s || option_map_or (test v) (value_of f s) false) (value_of e s) false

-- ---- operands of checks

-- the exact number of an operator
abbrev pub unheld_exact : CsExprTree → State → Bool
unheld_exact (Unary op e) s = unheld e s || option_map_or (unheld_unary op) (value_of e s) false
unheld_exact (Binary op e f) s = unheld_both e f s (if_taken op (unheld_exact_binary op))
unheld_exact e s = false

-- the one expression at which a check looks
abbrev pub unheld_one : List CsExprTree → (CsExprTree → Bool) → Bool
unheld_one (e ∷ []) test = test e
unheld_one es test = false

-- bytes are looked at where they can be read
abbrev pub unheld_bytes : ObjectMemory → Scalar → Value → Bool
unheld_bytes m ty (values.Ptr p) = not (can_read m (values.Ptr p) (size_of ty) (size_of ty))
unheld_bytes m ty v = false

abbrev pub unheld_mark : Option Scalar → List CsExprTree → State → Bool
unheld_mark None es s = false
unheld_mark (Some ty) es s = unheld_one es (λ e. unheld e s || option_map_or (unheld_bytes s.memory ty) (value_of e s) false)

-- a pointer moved by so many bytes, where only its place is asked: the bytes or its offset are no i128
abbrev pub unheld_place : Value → ℤ → ℤ → Bool
unheld_place (values.Ptr p) bytes offset = is_no_number bytes || is_no_number (p.offset +ℤ offset)
unheld_place v bytes offset = false

-- where the pointer points that an operator gives
abbrev pub unheld_moved : TBinaryOp → Value → Value → Bool
unheld_moved (binaries.PointerPlusInt element) v (values.Int t n) = unheld_place v (elements element n) (elements element n)
unheld_moved (binaries.IntPlusPointer element) (values.Int t n) v = unheld_place v (elements element n) (elements element n)
unheld_moved (binaries.PointerMinusInt element) v (values.Int t n) = unheld_place v (elements element n) (neg_ℤ (elements element n))
unheld_moved op v u = false

-- where one pointer points. Of a pointer that is moved last of all the code holds the place and not the pointer
abbrev pub unheld_point : CsExprTree → State → Bool
unheld_point (Binary op e f) s = unheld_both e f s (unheld_moved op)
unheld_point e s = unheld e s

abbrev pub unheld_pointed : List CsExprTree → State → Bool
unheld_pointed (e ∷ []) s = unheld_point e s
unheld_pointed (e ∷ f ∷ []) s = unheld_both e f s (λ v u. false)
unheld_pointed es s = false

-- what a check looks at, by its kind
abbrev pub unheld_operand : WrongKind → Option Scalar → List CsExprTree → State → Bool
unheld_operand kinds.Overflow ty es s = unheld_one es (λ e. unheld_exact e s)
unheld_operand kinds.Quotient ty es s = unheld_one es (λ e. unheld_exact e s)
unheld_operand kinds.ShiftResult ty es s = unheld_one es (λ e. unheld_exact e s)
unheld_operand kinds.DivideByZero ty es s = unheld_one es (λ e. unheld e s)
unheld_operand kinds.ShiftAmount ty es s = unheld_one es (λ e. unheld e s)
unheld_operand kinds.AssertFailed ty es s = unheld_one es (λ e. unheld e s)
unheld_operand kinds.NoValue ty es s = unheld_one es (λ e. unheld e s)
unheld_operand kinds.Indeterminate ty es s = unheld_mark ty es s
unheld_operand kinds.Fragment ty es s = unheld_mark ty es s
unheld_operand kind ty es s = unheld_pointed es s

abbrev pub unheld_check : CsCheckTree → State → Bool
unheld_check c s = unheld_operand c.check.kind c.ty c.operands s

-- ---- actions

-- a value that memory takes: a number of its type, null, or a pointer to a block that was made
abbrev pub is_kept : ObjectMemory → Value → Bool
is_kept m (values.Int t n) = has_number t n
is_kept m (values.Ptr p) = nat_lt p.block (length m.blocks)
is_kept m values.Null = true

-- the type of a value
abbrev pub own_type : Value → Scalar
own_type (values.Int t n) = scalars.Int t
own_type (values.Ptr p) = scalars.Pointer
own_type values.Null = scalars.Pointer

-- a value that is stored has as many bytes as the type at which it is stored, and memory takes it
abbrev pub is_storable : ObjectMemory → Scalar → Value → Bool
is_storable m ty v = (size_of (own_type v) == size_of ty) && is_kept m v

abbrev pub unheld_stored : ObjectMemory → Scalar → Value → Value → Bool
unheld_stored m ty place v = can_read m place (size_of ty) (size_of ty) && not (is_storable m ty v)

abbrev pub unheld_store : Scalar → CsExprTree → CsExprTree → State → Bool
unheld_store ty e f s = unheld_both e f s (unheld_stored s.memory ty)

abbrev pub unheld_copy : CsExprTree → CsExprTree → State → Bool
unheld_copy e f s = unheld_both e f s (λ v u. false)

-- expressions in their order, up to the first that has no value
abbrev pub unheld_all : List CsExprTree → State → Bool
unheld_all [] s = false
unheld_all (e ∷ es) s = unheld e s || option_map_or (λ v. unheld_all es s) (value_of e s) false

-- arguments, where they are as many as the parameters
abbrev pub unheld_pass : List CsExprTree → List ℕ → State → Bool
unheld_pass args params s = (length args == length params) && unheld_all args s
