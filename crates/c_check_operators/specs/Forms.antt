-- What the rows make of their operands, told by the types alone.
use Rattle.std.specs.Prelude.{Bool, ◌||◌, Option, Some, None, option_map}
use Rattle.c_syntax_written.specs.declared.place.Pos.{Pos}
use Rattle.c_syntax_written.specs.declared.int_type.IntType.{IntType}
use Rattle.c_syntax.specs.declared.operator.Comparison.{Comparison}
use Rattle.c_syntax.specs.declared.operator.Extent.{Extent}
use Rattle.c_syntax.specs.declared.operator.TBinaryOp.TheVariants as binaries
use Rattle.c_syntax.specs.Types.{CTypeTree, Void, Int, Pointer}
use Rattle.c_syntax.specs.TypedExpr.{TExprTree, Null, Binary, Convert}
use Rattle.c_layout.specs.Conversion.{promoted, balanced}
use Rattle.c_layout.specs.RowTypes.{has_const_target}
use Rattle.c_syntax.specs.TypedParts.{not_used}
use Rattle.c_typing.specs.Operands.{as_int, as_type, as_null}
use Rattle.c_typing.specs.Rows.{CompoundTree, Stored, Scalar, Copied, cast_node, store_row}
use Rattle.c_check_operators.specs.declared.forms.Form.{Form}
use Rattle.c_check_operators.specs.declared.forms.Form.TheVariants as forms
use Rattle.c_check_operators.specs.declared.equality.Equal.{Equal}
use Rattle.c_check_operators.specs.declared.equality.Equal.TheVariants as equals
use Rattle.c_check_operators.specs.declared.choice.Common.{Common}
use Rattle.c_check_operators.specs.declared.choice.Common.TheVariants as commons
use Rattle.c_check_operators.specs.declared.store.Store.{Store}
use Rattle.c_check_operators.specs.declared.store.Store.TheVariants as stores
use Rattle.c_check_operators.specs.declared.cast.Cast.{Cast}
use Rattle.c_check_operators.specs.declared.cast.Cast.TheVariants as casts
use Rattle.c_check_operators.specs.declared.compound.Change.{Change}
use Rattle.c_check_operators.specs.declared.compound.Change.TheVariants as changes

-- two integer types
abbrev pub ints_of : CTypeTree → CTypeTree → Option (IntType × IntType)
ints_of (Int t) (Int u) = Some (t, u)
ints_of left right = None

-- an operator on two values
abbrev pub binary_of : Form → Pos → TExprTree → TExprTree → TExprTree
binary_of (forms.Balanced op t u) at a b = Binary at op (as_int (balanced t u) t a) (as_int (balanced t u) u b)
binary_of (forms.Shifted way t) at a b = Binary at (binaries.Shift way (promoted t)) (as_int (promoted t) t a) b
binary_of (forms.Plain op) at a b = Binary at op a b

-- an equality of two values of these types
abbrev pub equal_of : Equal → Comparison → Pos → CTypeTree → CTypeTree → TExprTree → TExprTree → TExprTree
equal_of (equals.Ints t u) op at left right a b =
    Binary at (binaries.CompareInts op (balanced t u)) (as_int (balanced t u) t a) (as_int (balanced t u) u b)
equal_of equals.Pointers op at left right a b = Binary at (binaries.ComparePointers op) a b
equal_of equals.RightNull op at left right a b = Binary at (binaries.ComparePointers op) a (as_null left b)
equal_of equals.LeftNull op at left right a b = Binary at (binaries.ComparePointers op) (as_null right a) b

-- the type of two pointers to these targets
abbrev pub common_of : Common → CTypeTree → Bool → CTypeTree → Bool → CTypeTree
common_of commons.Target s c t d = Pointer s (has_const_target (Pointer s c) || has_const_target (Pointer t d))
common_of commons.Left s c t d = Pointer s c
common_of commons.Right s c t d = Pointer t d
common_of commons.Void s c t d = Pointer Void (has_const_target (Pointer s c) || has_const_target (Pointer t d))

-- a value that is stored as this type
abbrev pub store_of : Store → CTypeTree → TExprTree → TExprTree
store_of (stores.Number t u) target e = as_int t u e
store_of stores.Null target e = as_null target e
store_of stores.Pointer target e = as_type target e

-- a value that is cast to this type
abbrev pub cast_of : Cast → Pos → CTypeTree → TExprTree → TExprTree
cast_of casts.Dropped at target e = Convert at Void (not_used e)
cast_of casts.Same at target e = cast_node at target e
cast_of casts.Null at target e = Null at target

-- the value beside what stands in a place
abbrev pub change_of : Change → TExprTree → CompoundTree
change_of (changes.Converted op t u) e = record { op = op; value = as_int t u e }
change_of (changes.Plain op) e = record { op = op; value = e }

-- what is stored in a place: the bytes of a struct of this extent, or else a scalar as by its row
abbrev pub stored_of : Option Extent → CTypeTree → CTypeTree → TExprTree → Option Stored
stored_of (Some extent) target ty e = Some (Copied extent e)
stored_of None target ty e = option_map Scalar (store_row target ty e)
