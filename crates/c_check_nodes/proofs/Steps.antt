-- How a place that may be changed, or the refusal of one that may not, is passed on.
use Rattle.std.proofs.Common.{◌≡◌, sym, subst, ap, ◌∙◌}
use Rattle.std.specs.Prelude.{IfSome}
use Rattle.c_syntax_written.specs.declared.place.Pos.{Pos}
use Rattle.c_syntax.specs.TypedExpr.{TExprTree}
use Rattle.c_typing.specs.World.{World, Outcome, Typed, Refused, NotLvalue}
use Rattle.c_typing.specs.Operands.{OperandTree, Value}
use Rattle.c_check_names.specs.declared.type_error.TypeError.{TypeError}
use Rattle.c_check_names.specs.declared.type_error.TypeError.TheVariants as errors
use Rattle.c_check_names.specs.Views.{refusal_of}

-- an error that is NotLvalue, where the outcome is
pub not_lvalue : {V : Type 0} (error : TypeError) (at : Pos) (q : Outcome V) → error ≡ errors.NotLvalue at → q ≡ Refused (NotLvalue at)
    → IfSome (refusal_of error) (λ r. ◌≡◌ {A = Outcome V} (Refused r) q)
not_lvalue {V = V} error at q e is = subst (λ (x : TypeError). IfSome (refusal_of x) (λ r. ◌≡◌ {A = Outcome V} (Refused r) q)) (sym e) (sym is)

-- the node that is made of the place, where the outcome is
pub node_is : (w : World) (node made : TExprTree) (q : Outcome OperandTree) → node ≡ made → q ≡ Typed (Value made) w → Typed (Value node) w ≡ q
node_is w node made q e is = ap (λ n. Typed (Value n) w) e ∙ sym is
