-- What declarations are in the typed program, as typing speaks of it.
use Rattle.c_syntax.specs.TypedStmt.{tstmts_from}
use Rattle.c_typing.specs.Decls as decls
use Rattle.c_check_decls.specs.declared.made.Made.{Made}

abbrev pub made_tree : Made → decls.Made
made_tree made = record { objects = made.objects.items; items = tstmts_from made.items.items }
