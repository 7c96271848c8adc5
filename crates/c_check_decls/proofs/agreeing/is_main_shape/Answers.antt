use Rattle.std.proofs.Common.{ap, sym, ◌∙◌}
use Rattle.std.specs.Prelude.{◌&&◌}
use Rattle.c_syntax_written.specs.declared.int_type.IntType.TheVariants as ints
use Rattle.c_syntax.specs.Types.{Int, ctype_tree}
use Rattle.c_syntax.proofs.TypeTrees.{ctype_int}
use Rattle.c_typing.specs.SameTypes.{is_same}
use Rattle.c_check_decls.proofs.agreeing.is_main_shape.Goals as goal

pub returns-then-takes_nothing : goal.returns-then-takes_nothing
returns-then-takes_nothing c =
    let same = is_same (ctype_tree c.args.target.now) in
    c.is_same.ensures ∙ ap same (ctype_int ints.Int) ∙ ap (λ b. b && same (Int ints.Int)) (sym c.if-takes_nothing.true ∙ c.takes_nothing.ensures)

pub returns-else-takes_nothing : goal.returns-else-takes_nothing
returns-else-takes_nothing c =
    c.if-takes_nothing.false ∙ ap (λ b. b && is_same (ctype_tree c.args.target.now) (Int ints.Int)) (sym c.if-takes_nothing.false ∙ c.takes_nothing.ensures)
