use Rattle.std.proofs.Common.{sym, ◌∙◌}
use Rattle.c_syntax_written.specs.Written.{expr_tree}
use Rattle.c_syntax.specs.Types.{ctype_tree}
use Rattle.c_typing.specs.CurrentObject.{is_text}
use Rattle.c_typing.specs.Inits.{ByText, ByValue, whole_part}
use Rattle.c_check_fills.specs.Views.{by_tree}
use Rattle.c_check_fills.specs.RoomViews.{frame_tree}
use Rattle.c_check_names.specs.Worlds.{world_of}
use Rattle.c_check_inits.specs.Forms.{ByLiteral}
use Rattle.c_check_inits.proofs.Results.{by, if_so, if_not}
use Rattle.c_check_inits.proofs.initialisers.by_literal.Goals as goal

pub returns-then-is_text : goal.returns-then-is_text
returns-then-is_text c =
    let w = world_of c.args.world.now in
    let ty = ctype_tree c.args.ty.now in
    let frame = frame_tree c.args.frame in
    let e = expr_tree c.args.e.now in
    let text = ByText w (whole_part ty) frame.count c.args.at c.args.text.now in
    by text (ByLiteral w c.args.is_static ty frame e c.args.at c.args.text.now) by_tree w c.by_text.result c.by_text.ensures
    (λ o p. if_so (is_text ty) text (ByValue w c.args.is_static ty e) o (sym c.is_text.ensures ∙ c.if-is_text.true) p)

pub returns : goal.returns
returns c =
    let w = world_of c.args.world.now in
    let ty = ctype_tree c.args.ty.now in
    let frame = frame_tree c.args.frame in
    let e = expr_tree c.args.e.now in
    let text = ByText w (whole_part ty) frame.count c.args.at c.args.text.now in
    by (ByValue w c.args.is_static ty e) (ByLiteral w c.args.is_static ty frame e c.args.at c.args.text.now) by_tree (world_of c.by_value.new.world)
    c.by_value.result c.by_value.ensures (λ o p. if_not (is_text ty) text (ByValue w c.args.is_static ty e) o (sym c.is_text.ensures ∙ c.if-is_text.false) p)
