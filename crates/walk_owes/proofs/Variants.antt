-- A statement that is no mark of the code is none of the tree.
use Rattle.std.proofs.Common.{◌≡◌, ℕ, ℤ, false, refl}
use Rattle.c_syntax_written.specs.declared.place.Pos.{Pos}
use Rattle.csharp.specs.declared.statement.CsStmt.{CsStmt}
use Rattle.csharp.specs.declared.statement.CsStmt.TheVariants as stmts
use Rattle.csharp.specs.Trees.{csstmt_tree}
use Rattle.csharp.specs.Meaning.{AtLabel, AtCase, AtDefault, is_mark}

pub no_label : (a : CsStmt) (n : ℕ) → ((at : Pos) (label : ℕ) → a ≡ stmts.Label at label → ⊥) → is_mark (AtLabel n) (csstmt_tree a) ≡ false
unfolding csstmt_tree
no_label (stmts.Label at label) n h = absurd (h at label refl)
no_label _ n h = refl

pub no_case : (a : CsStmt) (n : ℤ) → ((value : ℤ) → a ≡ stmts.Case value → ⊥) → is_mark (AtCase n) (csstmt_tree a) ≡ false
unfolding csstmt_tree
no_case (stmts.Case value) n h = absurd (h value refl)
no_case _ n h = refl

pub no_default : (a : CsStmt) → (a ≡ stmts.Default → ⊥) → is_mark AtDefault (csstmt_tree a) ≡ false
unfolding csstmt_tree
no_default stmts.Default h = absurd (h refl)
no_default _ h = refl
