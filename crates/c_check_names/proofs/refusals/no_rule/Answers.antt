use Rattle.std.proofs.Common.{◌≡◌, List, [], ◌∷◌, map, refl, ap, sym, ◌∙◌}
use Rattle.std.specs.Prelude.{option_map}
use Rattle.c_syntax.specs.declared.program.StructDef.{StructDef}
use Rattle.c_syntax.specs.Types.{ctype_tree}
use Rattle.c_syntax.specs.Program.{StructDefTree, structdef_tree}
use Rattle.c_typing.specs.World.{NoRule}
use Rattle.c_check_names.proofs.refusals.no_rule.Goals as goal

-- the tags of structs are those of their trees
tags_are : (structs : List StructDef) → map (λ (def : StructDef). def.tag) structs ≡ map (λ (def : StructDefTree). def.tag) (map structdef_tree structs)
tags_are [] = refl
tags_are (def ∷ rest) = ap (λ tags. def.tag ∷ tags) (tags_are rest)

pub returns-in-Ok : goal.returns-in-Ok
returns-in-Ok c w same =
    let tags = c.in-Ok.ensures ∙ tags_are c.args.structs.now ∙ sym (ap (λ (structs : List StructDefTree). map (λ (def : StructDefTree). def.tag) structs) same) in
    ap (NoRule c.args.pos c.args.op (ctype_tree c.args.left) (option_map ctype_tree c.args.right)) tags
