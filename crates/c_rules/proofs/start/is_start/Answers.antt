use Rattle.std.proofs.Common.{◌≡◌, ap, subst}
use Rattle.std.specs.Prelude.{◌↔◌, IsTrue, not}
use Rattle.c_syntax.specs.Types.{ctype_tree}
use Rattle.c_syntax.specs.Program.{tfunction_tree}
use Rattle.c_syntax.proofs.TypeTrees.{ctype_int}
use Rattle.c_rules.proofs.Mains.{body_there, no_params, start_told}
use Rattle.c_rules.proofs.start.is_start.Goals as goal

pub returns : goal.returns
returns c =
    start_told (tfunction_tree c.args.function.now) c.same_type.result
    (body_there c.args.function.now.body c.is_none.result c.is_none.ensures c.if-is_none.false)
    (no_params c.args.function.now.params c.as_slice.result.now c.is_empty.result c.as_slice.ensures c.is_empty.ensures (ap not c.if-not-is_empty.false))
    (subst (λ ty. IsTrue c.same_type.result ↔ (ctype_tree c.args.function.now.result ≡ ty)) (ctype_int _) c.same_type.ensures)
