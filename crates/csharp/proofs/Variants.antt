-- A statement of a shape is one of the variants that have it.
use Rattle.std.proofs.Common.{◌≡◌, ℕ, ℤ, refl}
use Rattle.std.specs.Prelude.{Option}
use Rattle.c_syntax_written.specs.declared.place.Pos.{Pos}
use Rattle.c_syntax_written.specs.declared.int_type.IntType.{IntType}
use Rattle.block_mem.specs.declared.types.Scalar.{Scalar}
use Rattle.csharp.specs.declared.expression.CsExpr.{CsExpr}
use Rattle.csharp.specs.declared.expression.CsCheck.{CsCheck}
use Rattle.csharp.specs.declared.statement.CsCall.{CsCall}
use Rattle.csharp.specs.declared.statement.CsStmt.{CsStmt}
use Rattle.csharp.specs.declared.statement.CsStmt.TheVariants as stmts
use Rattle.csharp.specs.Trees.{csstmt_tree}
use Rattle.csharp.specs.Shapes.{HoldsExpressions, HoldsNothing}

pub no_bare : (a : CsStmt) → HoldsNothing (csstmt_tree a)
    → (a ≡ stmts.Nothing → ⊥)
    → ((object : ℕ) → a ≡ stmts.Undefine object → ⊥)
    → ((temp : ℕ) (ty : IntType) → a ≡ stmts.Input temp ty → ⊥)
    → ((level : ℕ) → a ≡ stmts.Exit level → ⊥)
    → ((label : ℕ) → a ≡ stmts.Goto label → ⊥)
    → ((at : Pos) (label : ℕ) → a ≡ stmts.Label at label → ⊥)
    → ((value : ℤ) → a ≡ stmts.Case value → ⊥)
    → (a ≡ stmts.Default → ⊥) → ⊥
unfolding csstmt_tree
no_bare stmts.Nothing h nothing undefine input exit goto label case default = nothing refl
no_bare (stmts.Undefine object) h nothing undefine input exit goto label case default = undefine object refl
no_bare (stmts.Input temp ty) h nothing undefine input exit goto label case default = input temp ty refl
no_bare (stmts.Exit level) h nothing undefine input exit goto label case default = exit level refl
no_bare (stmts.Goto to) h nothing undefine input exit goto label case default = goto to refl
no_bare (stmts.Label at named) h nothing undefine input exit goto label case default = label at named refl
no_bare (stmts.Case value) h nothing undefine input exit goto label case default = case value refl
no_bare stmts.Default h nothing undefine input exit goto label case default = default refl
no_bare _ h nothing undefine input exit goto label case default = h

pub no_plain : (a : CsStmt) → HoldsExpressions (csstmt_tree a)
    → ((temp : ℕ) (value : CsExpr) → a ≡ stmts.Set temp value → ⊥)
    → ((temp : ℕ) (ty : Scalar) (address : CsExpr) → a ≡ stmts.Load temp ty address → ⊥)
    → ((ty : Scalar) (address value : CsExpr) → a ≡ stmts.Store ty address value → ⊥)
    → ((size : ℕ) (to from : CsExpr) → a ≡ stmts.CopyBytes size to from → ⊥)
    → ((check : CsCheck) → a ≡ stmts.Checked check → ⊥)
    → ((condition : CsExpr) → a ≡ stmts.Assume condition → ⊥)
    → ((call : CsCall) → a ≡ stmts.Call call → ⊥)
    → ((value : Option CsExpr) → a ≡ stmts.Return value → ⊥) → ⊥
unfolding csstmt_tree
no_plain (stmts.Set temp value) h set load store copy checked assume call return = set temp value refl
no_plain (stmts.Load temp ty address) h set load store copy checked assume call return = load temp ty address refl
no_plain (stmts.Store ty address value) h set load store copy checked assume call return = store ty address value refl
no_plain (stmts.CopyBytes size to from) h set load store copy checked assume call return = copy size to from refl
no_plain (stmts.Checked check) h set load store copy checked assume call return = checked check refl
no_plain (stmts.Assume condition) h set load store copy checked assume call return = assume condition refl
no_plain (stmts.Call made) h set load store copy checked assume call return = call made refl
no_plain (stmts.Return value) h set load store copy checked assume call return = return value refl
no_plain _ h set load store copy checked assume call return = h
