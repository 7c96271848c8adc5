use Rattle.c_syntax_written.specs.WrittenDecl.{init_tree}
use Rattle.c_syntax_written.specs.Sizes.{init_size}
use Rattle.table_front.proofs.decls.+init.Given as goal

abbrev pub decreases-init : goal.decreases-init
decreases-init l = init_size (init_tree l.value.now)
