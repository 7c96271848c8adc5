use Rattle.c_syntax_written.specs.WrittenDecl.{inits_tree}
use Rattle.c_syntax_written.specs.Sizes.{inits_size}
use Rattle.c_check_inits.proofs.excess.+list_in_braces.Given as goal

abbrev pub decreases-list_in_braces : goal.decreases-list_in_braces
decreases-list_in_braces l = inits_size (inits_tree l.list.now)
