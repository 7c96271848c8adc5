use Rattle.std.proofs.Common.{map, refl, subst, sym}
use Rattle.std.proofs.lemmas.Result.{IfOk-weaker}
use Rattle.c_syntax.specs.Types.{object_tree}
use Rattle.csharp.specs.Trees.{cscheck_tree, csexpr_tree}
use Rattle.mem_cell_shows.specs.Changes.{Passed}
use Rattle.mem_cell_shows.proofs.Passing.{passed-of}
use Rattle.mem_cell_shows.proofs.passes.pass.Goals as goal

pub returns-clause-stands : goal.returns-clause-stands
returns-clause-stands g c =
    let check = c.args.check.now in let objects = map object_tree c.args.objects.now in
    IfOk-weaker c.keep_passing.result _ _
    (λ live stands s st passes.
    let h = subst (λ os. Passed objects check.check check.ty (map csexpr_tree os) s) (sym c.as_slice.ensures) (passed-of objects (cscheck_tree check) s passes) in
    let k = stands objects s st (refl, h) in (k.live, k.stands)) c.keep_passing.ensures.stands
