use Rattle.c_syntax_written.specs.WrittenDecl.{init_tree}
use Rattle.c_syntax_written.proofs.WrittenDeclTrees.{init_braces, init_value}
use Rattle.c_check_inits.proofs.Lines.{whole_line}
use Rattle.std.proofs.Common.{sym, ap, ◌∙◌, subst}
use Rattle.c_syntax_written.specs.Written.{expr_tree}
use Rattle.c_syntax.specs.Types.{ctype_tree}
use Rattle.c_typing.specs.Inits as inits
use Rattle.c_check_names.specs.Views.{Answers}
use Rattle.c_check_fills.specs.RoomViews.{frame_tree}
use Rattle.c_check_names.specs.Worlds.{world_of}
use Rattle.c_check_fills.specs.Views.{by_tree}
use Rattle.c_check_inits.specs.Forms as forms
use Rattle.c_check_inits.proofs.Results.{by}
use Rattle.c_check_inits.proofs.initialisers.initialiser.Goals as goal

pub returns-in-Braces : goal.returns-in-Braces
returns-in-Braces c =
    subst (λ init. Answers (inits.TypesInit (world_of c.args.world.now) c.args.is_static (ctype_tree c.args.ty.now) (frame_tree c.args.frame) init) by_tree
    (world_of c.by_list.new.world) c.by_list.result) (sym (ap init_tree c.in-Braces.is ∙ init_braces c.in-Braces.pos c.in-Braces.items)) c.by_list.ensures

pub returns-in-Value : goal.returns-in-Value
returns-in-Value c =
    let w = world_of c.args.world.now in
    let ty = ctype_tree c.args.ty.now in
    let frame = frame_tree c.args.frame in
    let e = expr_tree c.in-Value.value in
    by (forms.ByExpression w c.args.is_static ty frame e (forms.as_text e)) (inits.TypesInit w c.args.is_static ty frame (init_tree c.args.init.now)) by_tree
    (world_of c.by_expression.new.world) c.by_expression.result c.by_expression.ensures (λ o p.
    subst (λ init. inits.TypesInit w c.args.is_static ty frame init o) (sym (ap init_tree c.in-Value.is ∙ init_value c.in-Value.value))
    (whole_line w c.args.is_static ty frame e o p))
