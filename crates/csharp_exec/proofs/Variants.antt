-- A statement of a shape is one of the variants that have it.
use Rattle.std.proofs.Common.{◌≡◌, ℕ, ℤ, false, refl}
use Rattle.std.specs.Prelude.{Option}
use Rattle.c_syntax_written.specs.declared.place.Pos.{Pos}
use Rattle.c_syntax_written.specs.declared.int_type.IntType.{IntType}
use Rattle.block_mem.specs.declared.types.Scalar.{Scalar}
use Rattle.csharp.specs.declared.expression.CsExpr.{CsExpr}
use Rattle.csharp.specs.declared.expression.CsCheck.{CsCheck}
use Rattle.csharp.specs.declared.statement.CsStmt.{CsStmt}
use Rattle.csharp.specs.declared.statement.CsStmt.TheVariants as stmts
use Rattle.csharp.specs.Trees.{csstmt_tree}
use Rattle.csharp.specs.Meaning.{AtLabel, AtCase, AtDefault, is_mark}
use Rattle.csharp_exec.specs.Shapes.{IsAction}

pub no_label : (a : CsStmt) (n : ℕ) → ((at : Pos) (label : ℕ) → a ≡ stmts.Label at label → ⊥) → is_mark (AtLabel n) (csstmt_tree a) ≡ false
unfolding csstmt_tree
no_label (stmts.Label at label) n h = absurd (h at label refl)
no_label _ n h = refl

pub no_case : (a : CsStmt) (n : ℤ) → ((value : ℤ) → a ≡ stmts.Case value → ⊥) → is_mark (AtCase n) (csstmt_tree a) ≡ false
unfolding csstmt_tree
no_case (stmts.Case value) n h = absurd (h value refl)
no_case _ n h = refl

pub no_default : (a : CsStmt) → (a ≡ stmts.Default → ⊥) → is_mark AtDefault (csstmt_tree a) ≡ false
unfolding csstmt_tree
no_default stmts.Default h = absurd (h refl)
no_default _ h = refl

pub no_action : (a : CsStmt) → IsAction (csstmt_tree a)
    → ((temp : ℕ) (value : CsExpr) → a ≡ stmts.Set temp value → ⊥)
    → ((temp : ℕ) (ty : Scalar) (address : CsExpr) → a ≡ stmts.Load temp ty address → ⊥)
    → ((ty : Scalar) (address value : CsExpr) → a ≡ stmts.Store ty address value → ⊥)
    → ((size : ℕ) (to from : CsExpr) → a ≡ stmts.CopyBytes size to from → ⊥)
    → ((object : ℕ) → a ≡ stmts.Undefine object → ⊥)
    → ((temp : ℕ) (ty : IntType) → a ≡ stmts.Input temp ty → ⊥)
    → ((check : CsCheck) → a ≡ stmts.Checked check → ⊥)
    → ((condition : CsExpr) → a ≡ stmts.Assume condition → ⊥)
    → ((value : Option CsExpr) → a ≡ stmts.Return value → ⊥)
    → ((level : ℕ) → a ≡ stmts.Exit level → ⊥)
    → ((label : ℕ) → a ≡ stmts.Goto label → ⊥)
    → (a ≡ stmts.Nothing → ⊥)
    → (a ≡ stmts.Default → ⊥)
    → ((at : Pos) (label : ℕ) → a ≡ stmts.Label at label → ⊥)
    → ((value : ℤ) → a ≡ stmts.Case value → ⊥) → ⊥
unfolding csstmt_tree
no_action (stmts.Set temp value) h set load store copy undefine input checked assume return exit goto nothing default label case = set temp value refl
no_action (stmts.Load temp ty address) h set load store copy undefine input checked assume return exit goto nothing default label case =
    load temp ty address refl
no_action (stmts.Store ty address value) h set load store copy undefine input checked assume return exit goto nothing default label case =
    store ty address value refl
no_action (stmts.CopyBytes size to from) h set load store copy undefine input checked assume return exit goto nothing default label case =
    copy size to from refl
no_action (stmts.Undefine object) h set load store copy undefine input checked assume return exit goto nothing default label case = undefine object refl
no_action (stmts.Input temp ty) h set load store copy undefine input checked assume return exit goto nothing default label case = input temp ty refl
no_action (stmts.Checked check) h set load store copy undefine input checked assume return exit goto nothing default label case = checked check refl
no_action (stmts.Assume condition) h set load store copy undefine input checked assume return exit goto nothing default label case = assume condition refl
no_action (stmts.Return value) h set load store copy undefine input checked assume return exit goto nothing default label case = return value refl
no_action (stmts.Exit level) h set load store copy undefine input checked assume return exit goto nothing default label case = exit level refl
no_action (stmts.Goto to) h set load store copy undefine input checked assume return exit goto nothing default label case = goto to refl
no_action stmts.Nothing h set load store copy undefine input checked assume return exit goto nothing default label case = nothing refl
no_action stmts.Default h set load store copy undefine input checked assume return exit goto nothing default label case = default refl
no_action (stmts.Label at named) h set load store copy undefine input checked assume return exit goto nothing default label case = label at named refl
no_action (stmts.Case value) h set load store copy undefine input checked assume return exit goto nothing default label case = case value refl
no_action _ h set load store copy undefine input checked assume return exit goto nothing default label case = h
