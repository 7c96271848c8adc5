use Rattle.std.proofs.Common.{ap, sym, ◌∙◌, length, map}
use Rattle.std.proofs.lemmas.List.{length-map}
use Rattle.c_syntax.specs.Types.{ctype_tree}
use Rattle.c_syntax.specs.Program.{member_tree, structdef_tree}
use Rattle.c_syntax.proofs.TypeTrees.{ctype_struct}
use Rattle.c_typing.specs.CurrentObject.{count_in}
use Rattle.c_check_fills.proofs.parts.count_in.Goals as goal

pub returns-in-Struct : goal.returns-in-Struct
returns-in-Struct c =
    sym (length-map c.members_of.result.now member_tree) ∙ ap length c.members_of.ensures
    ∙ ap (count_in (map structdef_tree c.args.structs.now)) (sym (ap ctype_tree c.in-Struct.is ∙ ctype_struct c.in-Struct.n))
