use Rattle.std.proofs.Common.{ap, sym, ◌∙◌, length}
use Rattle.std.proofs.lemmas.List.{length-map}
use Rattle.c_syntax.specs.Types.{Function}
use Rattle.c_syntax.specs.Program.{tfunction_tree}
use Rattle.c_syntax.proofs.TypeTrees.{ctype_function}
use Rattle.c_check_declarators.proofs.refusals.unknown_function.Goals as goal

pub returns : goal.returns
returns c = ctype_function _ ∙ ap Function (ap length c.as_slice.ensures.value ∙ sym (length-map c.args.world.now.functions.items tfunction_tree))
