-- What is stored, as typing speaks of it.
use Rattle.c_syntax.specs.TypedExpr.{texpr_tree}
use Rattle.c_typing.specs.Rows as rows
use Rattle.c_check_operators.specs.declared.store.Stored.{Stored}
use Rattle.c_check_operators.specs.declared.store.Stored.TheVariants as stores

abbrev pub stored_tree : Stored → rows.Stored
stored_tree (stores.Scalar value) = rows.Scalar (texpr_tree value)
stored_tree (stores.Copied extent source) = rows.Copied extent (texpr_tree source)
