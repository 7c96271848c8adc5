use Rattle.std.proofs.Common.{◌+◌, ◌*◌}
use Rattle.c_syntax_written.specs.Written.{declarator_tree, declarators_tree, expr_tree, exprs_tree, param_tree, params_tree, spec_tree, specs_tree}
use Rattle.c_syntax_written.specs.Written.{enumerator_tree, enumerators_tree, memberdecl_tree, memberdecls_tree}
use Rattle.c_syntax_written.specs.Sizes.{declarator_size, declarators_size, expr_size, exprs_size, param_size, params_size, spec_size, specs_size}
use Rattle.c_syntax_written.specs.Sizes.{enumerator_size, enumerators_size, memberdecl_size, memberdecls_size}
use Rattle.table_front.proofs.+shape.Given as goal

abbrev pub decreases-exprs::expr : goal.decreases-exprs::expr
decreases-exprs::expr l = 4 * expr_size (expr_tree l.e.now) + 1

abbrev pub decreases-exprs::small : goal.decreases-exprs::small
decreases-exprs::small l = 4 * expr_size (expr_tree l.e.now)

abbrev pub decreases-exprs::enclosed : goal.decreases-exprs::enclosed
decreases-exprs::enclosed l = 4 * expr_size (expr_tree l.inner.now) + 2

abbrev pub decreases-exprs::call : goal.decreases-exprs::call
decreases-exprs::call l = 4 * exprs_size (exprs_tree l.args.now) + 2

abbrev pub decreases-exprs::member_of : goal.decreases-exprs::member_of
decreases-exprs::member_of l = 4 * expr_size (expr_tree l.base.now) + 2

abbrev pub decreases-exprs::operation : goal.decreases-exprs::operation
decreases-exprs::operation l = 4 * expr_size (expr_tree l.operand.now) + 2

abbrev pub decreases-exprs::unary : goal.decreases-exprs::unary
decreases-exprs::unary l = 4 * expr_size (expr_tree l.operand.now) + 3

abbrev pub decreases-exprs::form : goal.decreases-exprs::form
decreases-exprs::form l = 4 * (expr_size (expr_tree l.left.now) + expr_size (expr_tree l.right.now)) + 3

abbrev pub decreases-exprs::binary : goal.decreases-exprs::binary
decreases-exprs::binary l = 4 * (expr_size (expr_tree l.left.now) + expr_size (expr_tree l.right.now)) + 4

abbrev pub decreases-exprs::compound : goal.decreases-exprs::compound
decreases-exprs::compound l = 4 * (expr_size (expr_tree l.left.now) + expr_size (expr_tree l.right.now)) + 4

abbrev pub decreases-exprs::choice : goal.decreases-exprs::choice
decreases-exprs::choice l =
    4 * (expr_size (expr_tree l.condition.now) + expr_size (expr_tree l.then.now) + expr_size (expr_tree l.otherwise.now)) + 4

abbrev pub decreases-exprs::sizeof_type : goal.decreases-exprs::sizeof_type
decreases-exprs::sizeof_type l = 4 * (specs_size (specs_tree l.specs.now) + declarator_size (declarator_tree l.declarator.now)) + 3

abbrev pub decreases-exprs::cast : goal.decreases-exprs::cast
decreases-exprs::cast l =
    4 * (specs_size (specs_tree l.specs.now) + declarator_size (declarator_tree l.declarator.now) + expr_size (expr_tree l.operand.now)) + 3

abbrev pub decreases-types::type_name : goal.decreases-types::type_name
decreases-types::type_name l = 4 * (specs_size (specs_tree l.specs.now) + declarator_size (declarator_tree l.declarator.now)) + 2

abbrev pub decreases-types::spec_list : goal.decreases-types::spec_list
decreases-types::spec_list l = 4 * specs_size (specs_tree l.specs.now)

abbrev pub decreases-types::spec : goal.decreases-types::spec
decreases-types::spec l = 4 * spec_size (spec_tree l.spec.now) + 1

abbrev pub decreases-types::struct_body : goal.decreases-types::struct_body
decreases-types::struct_body l = 4 * memberdecls_size (memberdecls_tree l.members.now) + 2

abbrev pub decreases-types::member_line : goal.decreases-types::member_line
decreases-types::member_line l = 4 * memberdecl_size (memberdecl_tree l.line.now)

abbrev pub decreases-types::members : goal.decreases-types::members
decreases-types::members l = 4 * (specs_size (specs_tree l.specs.now) + declarators_size (declarators_tree l.declarators.now)) + 3

abbrev pub decreases-types::enum_body : goal.decreases-types::enum_body
decreases-types::enum_body l = 4 * enumerators_size (enumerators_tree l.enumerators.now) + 2

abbrev pub decreases-types::enumerator : goal.decreases-types::enumerator
decreases-types::enumerator l = 4 * enumerator_size (enumerator_tree l.item.now)

abbrev pub decreases-types::valued : goal.decreases-types::valued
decreases-types::valued l = 4 * expr_size (expr_tree l.value.now) + 2

abbrev pub decreases-types::declare : goal.decreases-types::declare
decreases-types::declare l = 4 * declarator_size (declarator_tree l.declarator.now) + 1

abbrev pub decreases-types::around : goal.decreases-types::around
decreases-types::around l = 4 * declarator_size (declarator_tree l.inner.now) + 2

abbrev pub decreases-types::array : goal.decreases-types::array
decreases-types::array l = 4 * (declarator_size (declarator_tree l.inner.now) + expr_size (expr_tree l.size.now)) + 3

abbrev pub decreases-types::function : goal.decreases-types::function
decreases-types::function l = 4 * (declarator_size (declarator_tree l.inner.now) + params_size (params_tree l.params.now)) + 2

abbrev pub decreases-types::param : goal.decreases-types::param
decreases-types::param l = 4 * param_size (param_tree l.param.now)

abbrev pub decreases-types::parameter : goal.decreases-types::parameter
decreases-types::parameter l = 4 * (specs_size (specs_tree l.specs.now) + declarator_size (declarator_tree l.declarator.now)) + 3
