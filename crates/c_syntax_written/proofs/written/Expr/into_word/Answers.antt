use Rattle.std.proofs.Common.{◌≡◌, refl, ℕ, List}
use Rattle.std.specs.Prelude.{None}
use Rattle.c_syntax_written.specs.declared.place.Pos.{Pos}
use Rattle.c_syntax_written.specs.declared.written.Expr.{Expr}
use Rattle.c_syntax_written.specs.declared.written.Expr.TheVariants as variants
use Rattle.c_syntax_written.specs.Written.{expr_tree}
use Rattle.c_syntax_written.specs.WrittenParts.{as_word}
use Rattle.c_syntax_written.proofs.written.Expr.into_word.Goals as goal

-- an expression that is no word gives none
no_word : (e : Expr) → ((at : Pos) (name : List ℕ) → e ≡ variants.Word at name → ⊥) → None ≡ as_word (expr_tree e)
unfolding expr_tree
no_word (variants.Word at name) k = absurd (k at name refl)
no_word _ k = refl

pub returns-in_default : goal.returns-in_default
returns-in_default c = no_word c.args.self (λ at name e. c.in_default.not-Word at name e)
