-- The tree of a function that the code makes.
use Rattle.std.proofs.Common.{◌≡◌, ap, ◌∙◌}
use Rattle.std.specs.declared.alloc.Global.{Global}
use Rattle.std.specs.declared.boxed.Box.{Box}
use Rattle.c_syntax_written.specs.declared.place.Pos.{Pos}
use Rattle.c_syntax_written.specs.declared.written.Specs.{Specs}
use Rattle.c_syntax_written.specs.declared.written.Declarator.{Declarator}
use Rattle.c_syntax_written.specs.declared.file.BlockItems.{BlockItems}
use Rattle.c_syntax_written.specs.declared.file.Outer.TheVariants as outers
use Rattle.c_syntax_written.specs.Written.{specs_tree, declarator_tree}
use Rattle.c_syntax_written.specs.WrittenFile.{blockitems_tree, outer_tree}
use Rattle.c_syntax_written.specs.WrittenFile as trees
use Rattle.c_syntax_written.proofs.WrittenFileTrees.{outer_function}
use Rattle.c_grammar.specs.Made.{specs_pos}

pub function_made : (at : Pos) (specs : Specs) (declarator : Box Declarator Global) (brace : Pos) (body : BlockItems) → at ≡ specs_pos (specs_tree specs) → outer_tree (outers.Function at specs declarator brace body) ≡ trees.Function (specs_pos (specs_tree specs)) (specs_tree specs) (declarator_tree declarator.value) brace (blockitems_tree body)
function_made at specs declarator brace body e = outer_function at specs declarator brace body ∙ ap (λ (v : Pos). trees.Function v (specs_tree specs) (declarator_tree declarator.value) brace (blockitems_tree body)) e
