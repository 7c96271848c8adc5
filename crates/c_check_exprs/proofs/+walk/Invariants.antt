use Rattle.std.proofs.Common.{◌+◌, ◌*◌, List, [], map, drop, vec_len}
use Rattle.std.specs.Prelude.{ℤ, pos}
use Rattle.c_syntax_written.specs.Written.{declarator_tree, declarators_from, declarators_tree, enumerator_tree, enumerators_from, enumerators_tree, expr_tree, exprs_from, exprs_tree, memberdecl_tree, memberdecls_from, memberdecls_tree, param_tree, params_from, params_tree, spec_tree, specs_from, specs_tree}
use Rattle.c_syntax_written.specs.Sizes.{declarator_size, declarators_size, enumerator_size, enumerators_size, expr_size, exprs_size, memberdecl_size, memberdecls_size, param_size, params_size, spec_size, specs_size}
use Rattle.c_syntax.specs.TypedExpr.{TExprTrees, none, texprs_from}
use Rattle.c_typing.specs.Declarators.{ParameterTree}
use Rattle.c_typing.specs.Specifiers.{SpecsTree, no_specs_yet}
use Rattle.c_typing.specs.Typing.{MemberMade, TypesArgs, TypesEnumerators, TypesMemberNames, TypesMembers, TypesParams, TypesSpecs}
use Rattle.c_typing.specs.World.{Outcome}
use Rattle.c_check_declarators.specs.Views.{parameter_tree, shape_tree}
use Rattle.c_check_declarators.specs.FormViews.{made_tree}
use Rattle.c_check_names.specs.Trees.{form_tree}
use Rattle.c_check_names.specs.Worlds.{world_of}
use Rattle.c_check_exprs.specs.Views.{members_of}
use Rattle.c_check_exprs.proofs.Forms.{IsTyped}
use Rattle.c_check_exprs.proofs.+walk.Given as goal

abbrev pub decreases-exprs::operand : goal.decreases-exprs::operand
decreases-exprs::operand l = 8 * expr_size (expr_tree l.e.now)

abbrev pub decreases-exprs::value : goal.decreases-exprs::value
decreases-exprs::value l = 8 * expr_size (expr_tree l.e.now) + 1

abbrev pub decreases-exprs::arguments : goal.decreases-exprs::arguments
decreases-exprs::arguments l = 8 * exprs_size (exprs_tree l.args.now) + 2

abbrev pub decreases-exprs::index_form : goal.decreases-exprs::index_form
decreases-exprs::index_form l = 8 * (expr_size (expr_tree l.base.now) + expr_size (expr_tree l.index.now)) + 3

abbrev pub decreases-exprs::call_form : goal.decreases-exprs::call_form
decreases-exprs::call_form l = 8 * exprs_size (exprs_tree l.args.now) + 3

abbrev pub decreases-exprs::dot_form : goal.decreases-exprs::dot_form
decreases-exprs::dot_form l = 8 * expr_size (expr_tree l.base.now) + 3

abbrev pub decreases-exprs::arrow_form : goal.decreases-exprs::arrow_form
decreases-exprs::arrow_form l = 8 * expr_size (expr_tree l.base.now) + 3

abbrev pub decreases-exprs::step_form : goal.decreases-exprs::step_form
decreases-exprs::step_form l = 8 * expr_size (expr_tree l.e.now) + 3

abbrev pub decreases-exprs::unary_form : goal.decreases-exprs::unary_form
decreases-exprs::unary_form l = 8 * expr_size (expr_tree l.e.now) + 3

abbrev pub decreases-exprs::size_form : goal.decreases-exprs::size_form
decreases-exprs::size_form l = 8 * expr_size (expr_tree l.e.now) + 3

abbrev pub decreases-exprs::type_size_form : goal.decreases-exprs::type_size_form
decreases-exprs::type_size_form l = 8 * (specs_size (specs_tree l.specs.now) + declarator_size (declarator_tree l.declarator.now)) + 4

abbrev pub decreases-exprs::cast_form : goal.decreases-exprs::cast_form
decreases-exprs::cast_form l = 8 * (specs_size (specs_tree l.specs.now) + declarator_size (declarator_tree l.declarator.now) + expr_size (expr_tree l.e.now)) + 4

abbrev pub decreases-exprs::binary_form : goal.decreases-exprs::binary_form
decreases-exprs::binary_form l = 8 * (expr_size (expr_tree l.left.now) + expr_size (expr_tree l.right.now)) + 3

abbrev pub decreases-exprs::assign_form : goal.decreases-exprs::assign_form
decreases-exprs::assign_form l = 8 * (expr_size (expr_tree l.left.now) + expr_size (expr_tree l.right.now)) + 3

abbrev pub decreases-exprs::compound_form : goal.decreases-exprs::compound_form
decreases-exprs::compound_form l = 8 * (expr_size (expr_tree l.left.now) + expr_size (expr_tree l.right.now)) + 3

abbrev pub decreases-exprs::comma_form : goal.decreases-exprs::comma_form
decreases-exprs::comma_form l = 8 * (expr_size (expr_tree l.left.now) + expr_size (expr_tree l.right.now)) + 3

abbrev pub decreases-exprs::cond_form : goal.decreases-exprs::cond_form
decreases-exprs::cond_form l = 8 * (expr_size (expr_tree l.condition.now) + expr_size (expr_tree l.first.now) + expr_size (expr_tree l.second.now)) + 3

abbrev pub decreases-types::named_type : goal.decreases-types::named_type
decreases-types::named_type l = 8 * (specs_size (specs_tree l.words.now) + declarator_size (declarator_tree l.shape.now)) + 3

abbrev pub decreases-types::specs : goal.decreases-types::specs
decreases-types::specs l = 8 * specs_size (specs_tree l.words.now) + 2

abbrev pub decreases-types::spec : goal.decreases-types::spec
decreases-types::spec l = 8 * spec_size (spec_tree l.item.now)

abbrev pub decreases-types::struct_body : goal.decreases-types::struct_body
decreases-types::struct_body l = 8 * memberdecls_size (memberdecls_tree l.list.now) + 3

abbrev pub decreases-types::members : goal.decreases-types::members
decreases-types::members l = 8 * memberdecls_size (memberdecls_tree l.list.now) + 2

abbrev pub decreases-types::member_line : goal.decreases-types::member_line
decreases-types::member_line l = 8 * memberdecl_size (memberdecl_tree l.line.now)

abbrev pub decreases-types::member_parts : goal.decreases-types::member_parts
decreases-types::member_parts l = 8 * (specs_size (specs_tree l.words.now) + declarators_size (declarators_tree l.names.now)) + 3

abbrev pub decreases-types::member_names : goal.decreases-types::member_names
decreases-types::member_names l = 8 * declarators_size (declarators_tree l.list.now) + 2

abbrev pub decreases-types::enum_body : goal.decreases-types::enum_body
decreases-types::enum_body l = 8 * enumerators_size (enumerators_tree l.list.now) + 3

abbrev pub decreases-types::enumerators : goal.decreases-types::enumerators
decreases-types::enumerators l = 8 * enumerators_size (enumerators_tree l.list.now) + 2

abbrev pub decreases-types::constant_named : goal.decreases-types::constant_named
decreases-types::constant_named l = 8 * enumerator_size (enumerator_tree l.item.now)

abbrev pub decreases-types::constant_valued : goal.decreases-types::constant_valued
decreases-types::constant_valued l = 8 * expr_size (expr_tree l.given.now) + 3

abbrev pub decreases-declarators::declarator : goal.decreases-declarators::declarator
decreases-declarators::declarator l = 8 * declarator_size (declarator_tree l.whole.now) + 2

abbrev pub decreases-declarators::declarator-outward : goal.decreases-declarators::declarator-outward
decreases-declarators::declarator-outward l = vec_len l.left

abbrev pub decreases-declarators::stepped : goal.decreases-declarators::stepped
decreases-declarators::stepped l = 8 * declarator_size (declarator_tree l.form.now) + 1

abbrev pub decreases-declarators::array_step : goal.decreases-declarators::array_step
decreases-declarators::array_step l = 8 * expr_size (expr_tree l.size.now) + 3

abbrev pub decreases-declarators::function_step : goal.decreases-declarators::function_step
decreases-declarators::function_step l = 8 * params_size (params_tree l.list.now) + 3

abbrev pub decreases-declarators::params : goal.decreases-declarators::params
decreases-declarators::params l = 8 * params_size (params_tree l.list.now) + 2

abbrev pub decreases-declarators::param : goal.decreases-declarators::param
decreases-declarators::param l = 8 * param_size (param_tree l.item.now)

abbrev pub decreases-declarators::param_made : goal.decreases-declarators::param_made
decreases-declarators::param_made l = 8 * (specs_size (specs_tree l.words.now) + declarator_size (declarator_tree l.shape.now)) + 3

-- what is left decides for all

abbrev pub invariant-exprs::arguments-each : goal.invariant-exprs::arguments-each
invariant-exprs::arguments-each l =
    (o : Outcome TExprTrees) → TypesArgs (world_of l.world) (texprs_from l.values.items) (exprs_from (drop l.e-index l.items)) o → TypesArgs (world_of l.fn.world) none (exprs_tree l.fn.args) o

abbrev pub invariant-types::specs-each : goal.invariant-types::specs-each
invariant-types::specs-each l =
    (o : Outcome SpecsTree) → TypesSpecs (world_of l.world) l.alone (made_tree l.made) (specs_from (drop l.item-index l.items)) o
    → TypesSpecs (world_of l.fn.world) l.alone no_specs_yet (specs_tree l.fn.words) o

abbrev pub invariant-types::members-each : goal.invariant-types::members-each
invariant-types::members-each l =
    (o : Outcome (List MemberMade)) → TypesMembers (world_of l.world) (members_of l.done) (memberdecls_from (drop l.line-index l.lines)) o
    → TypesMembers (world_of l.fn.world) [] (memberdecls_tree l.fn.list) o

abbrev pub invariant-types::member_names-each : goal.invariant-types::member_names-each
invariant-types::member_names-each l =
    (o : Outcome (List MemberMade)) → TypesMemberNames (world_of l.world) l.first (form_tree l.base) (members_of l.done) (declarators_from (drop l.shape-index l.shapes)) o
    → TypesMemberNames (world_of l.fn.world) l.first (form_tree l.fn.base) (members_of l.fn.done) (declarators_tree l.fn.list) o

abbrev pub invariant-types::enumerators-each : goal.invariant-types::enumerators-each
invariant-types::enumerators-each l =
    (o : Outcome ℤ) → TypesEnumerators (world_of l.world) l.next (enumerators_from (drop l.item-index l.items)) o
    → TypesEnumerators (world_of l.fn.world) (pos 0) (enumerators_tree l.fn.list) o

abbrev pub invariant-declarators::params-each : goal.invariant-declarators::params-each
invariant-declarators::params-each l =
    (o : Outcome (List ParameterTree)) → TypesParams (world_of l.world) (map parameter_tree l.done.items) (params_from (drop l.item-index l.items)) o
    → TypesParams (world_of l.fn.world) [] (params_tree l.fn.list) o

abbrev pub invariant-declarators::declarator-outward : goal.invariant-declarators::declarator-outward
invariant-declarators::declarator-outward l =
    IsTyped (world_of l.fn.world) (declarator_tree l.fn.whole) (map (λ form. declarator_tree form.now) l.left.items) (shape_tree l.shape) (world_of l.world)
