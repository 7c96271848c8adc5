use Rattle.std.proofs.Common.{◌≡◌, sym, ap, ◌∙◌, map}
use Rattle.c_syntax.specs.TypedStmt.{tinit_tree}
use Rattle.c_typing.specs.CurrentObject as objects
use Rattle.c_typing.specs.Inits as inits
use Rattle.c_typing.specs.World.{Is}
use Rattle.c_check_fills.specs.RoomViews.{part_tree}
use Rattle.c_check_names.specs.Worlds.{world_of}
use Rattle.c_check_inits.specs.Forms.{TextAsValue}
use Rattle.c_check_inits.proofs.Results.{by, if_so, if_not}
use Rattle.c_check_inits.proofs.texts.with_text.Goals as goal

pub returns-then-is_text : goal.returns-then-is_text
returns-then-is_text c =
    let w = world_of c.args.world.now in
    let part = part_tree c.args.part in
    by (λ out. out ≡ inits.fill_text w part c.array_count-n.result c.args.at c.args.text.now) (inits.WithText w c.args.is_static part c.args.at c.args.text.now)
    (λ items. map tinit_tree items.items) w c.fill_text.result c.fill_text.ensures (λ o p.
    if_so (objects.is_text part.ty) (Is (inits.fill_text w part (inits.array_count part.ty) c.args.at c.args.text.now))
    (TextAsValue w c.args.is_static part c.args.at c.args.text.now) o (sym c.is_text.ensures ∙ c.if-is_text.true)
    (p ∙ ap (λ n. inits.fill_text w part n c.args.at c.args.text.now) c.array_count-n.ensures))

pub returns-else-is_text : goal.returns-else-is_text
returns-else-is_text c =
    let w = world_of c.args.world.now in
    let part = part_tree c.args.part in
    by (TextAsValue w c.args.is_static part c.args.at c.args.text.now) (inits.WithText w c.args.is_static part c.args.at c.args.text.now)
    (λ items. map tinit_tree items.items) (world_of c.text_as_value.new.world) c.text_as_value.result c.text_as_value.ensures (λ o p.
    if_not (objects.is_text part.ty) (Is (inits.fill_text w part (inits.array_count part.ty) c.args.at c.args.text.now))
    (TextAsValue w c.args.is_static part c.args.at c.args.text.now) o (sym c.is_text.ensures ∙ c.if-is_text.false) p)
