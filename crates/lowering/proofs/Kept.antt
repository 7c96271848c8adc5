-- What a lowering keeps, of a program that is equal to the lowered one.
use Rattle.std.proofs.Common.{◌≡◌, sym, subst}
use Rattle.std.specs.Prelude.{IfOk, Result}
use Rattle.std.proofs.lemmas.Result.{IfOk-weaker}
use Rattle.std.specs.declared.alloc.AllocError.{AllocError}
use Rattle.c_syntax.specs.declared.program.Plan.{Plan}
use Rattle.c_syntax.specs.Program.{TProgramTree}
use Rattle.c_steps_laws.specs.Fits.{Runs}
use Rattle.csharp.specs.declared.program.CsProgram.{CsProgram}
use Rattle.csharp.specs.Trees.{csprogram_tree}
use Rattle.lower_trees.specs.Correct.{Lowers, LoweringIsRight}
use Rattle.lower_trees.specs.LowerProgram.{lower}

pub lowers : LoweringIsRight → (p : TProgramTree) (plan : Plan) → Runs p plan → (r : Result CsProgram AllocError)
    → IfOk r (λ q. csprogram_tree q ≡ lower p plan) → IfOk r (λ q. Lowers p plan (csprogram_tree q))
lowers law p plan runs r h =
    IfOk-weaker r (λ q. csprogram_tree q ≡ lower p plan) (λ q. Lowers p plan (csprogram_tree q)) (λ q is. subst (Lowers p plan) (sym is) (law p plan runs)) h

pub part : (p : TProgramTree) (plan : Plan) (r : Result CsProgram AllocError) (P : CsProgram → Type 0)
    → ((q : CsProgram) → Lowers p plan (csprogram_tree q) → P q) → IfOk r (λ q. Lowers p plan (csprogram_tree q)) → IfOk r P
part p plan r P f h = IfOk-weaker r (λ q. Lowers p plan (csprogram_tree q)) P f h
