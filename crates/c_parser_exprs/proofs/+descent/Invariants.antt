use Rattle.std.proofs.Common.{◌+◌, ◌*◌, ◌<◌, ◌≤◌, length, ◌≡◌}
use Rattle.c_syntax_written.specs.Written.{ExprTree, ExprTrees, exprs_from, exprs_then, DeclaratorTree, EnumeratorTrees, MemberDeclTree, MemberDeclTrees, SpecTrees, declarators_from, declarators_then, enumerators_from, enumerators_then, memberdecls_from, memberdecls_then, params_from, params_then, specs_from, specs_then, specs_tree}
use Rattle.c_grammar.specs.Parts as part
use Rattle.c_grammar.specs.declared.parts.Role.TheVariants.{OfMember}
use Rattle.c_grammar.specs.Descent.{Outcome, Goes}
use Rattle.c_parser_steps.specs.Views.{boxed_declarator, boxed_expr, scene_of}
use Rattle.c_parser_leaves.proofs.Listings.{Listing}
use Rattle.c_parser_exprs.proofs.Ranks.{rank}
use Rattle.c_grammar.specs.Made.{has_type}
use Rattle.c_parser_exprs.proofs.+descent.Given as goal

abbrev pub decreases-exprs::primary : goal.decreases-exprs::primary
decreases-exprs::primary l = 64 * length l.tokens.now + 1

abbrev pub decreases-exprs::enclosed : goal.decreases-exprs::enclosed
decreases-exprs::enclosed l = 64 * length l.tokens.now + 0

abbrev pub decreases-exprs::suffixes : goal.decreases-exprs::suffixes
decreases-exprs::suffixes l = 64 * length l.tokens.now + 3

abbrev pub decreases-exprs::suffix : goal.decreases-exprs::suffix
decreases-exprs::suffix l = 64 * length l.tokens.now + 2

abbrev pub decreases-exprs::index : goal.decreases-exprs::index
decreases-exprs::index l = 64 * length l.tokens.now + 1

abbrev pub decreases-exprs::call : goal.decreases-exprs::call
decreases-exprs::call l = 64 * length l.tokens.now + 0

abbrev pub decreases-exprs::postfix : goal.decreases-exprs::postfix
decreases-exprs::postfix l = 64 * length l.tokens.now + 3

abbrev pub decreases-exprs::size_of : goal.decreases-exprs::size_of
decreases-exprs::size_of l = 64 * length l.tokens.now + 0

abbrev pub decreases-exprs::pre_step : goal.decreases-exprs::pre_step
decreases-exprs::pre_step l = 64 * length l.tokens.now + 0

abbrev pub decreases-exprs::unary_form : goal.decreases-exprs::unary_form
decreases-exprs::unary_form l = 64 * length l.tokens.now + 0

abbrev pub decreases-exprs::unary : goal.decreases-exprs::unary
decreases-exprs::unary l = 64 * length l.tokens.now + 5

abbrev pub decreases-exprs::sized : goal.decreases-exprs::sized
decreases-exprs::sized l = 64 * length l.tokens.now + 6

abbrev pub decreases-exprs::sized_type : goal.decreases-exprs::sized_type
decreases-exprs::sized_type l = 64 * length l.tokens.now + 0

abbrev pub decreases-exprs::cast : goal.decreases-exprs::cast
decreases-exprs::cast l = 64 * length l.tokens.now + 6

abbrev pub decreases-exprs::cast_form : goal.decreases-exprs::cast_form
decreases-exprs::cast_form l = 64 * length l.tokens.now + 0

abbrev pub decreases-exprs::cast_operand : goal.decreases-exprs::cast_operand
decreases-exprs::cast_operand l = 64 * length l.tokens.now + 7

abbrev pub decreases-exprs::conditional : goal.decreases-exprs::conditional
decreases-exprs::conditional l = 64 * length l.tokens.now + 28

abbrev pub decreases-exprs::assignment : goal.decreases-exprs::assignment
decreases-exprs::assignment l = 64 * length l.tokens.now + 29

abbrev pub decreases-exprs::assigned : goal.decreases-exprs::assigned
decreases-exprs::assigned l = 64 * length l.tokens.now + 2

abbrev pub decreases-exprs::plain_assigned : goal.decreases-exprs::plain_assigned
decreases-exprs::plain_assigned l = 64 * length l.tokens.now + 1

abbrev pub decreases-exprs::compound_assigned : goal.decreases-exprs::compound_assigned
decreases-exprs::compound_assigned l = 64 * length l.tokens.now + 1

abbrev pub decreases-exprs::chosen : goal.decreases-exprs::chosen
decreases-exprs::chosen l = 64 * length l.tokens.now + 1

abbrev pub decreases-exprs::more : goal.decreases-exprs::more
decreases-exprs::more l = 64 * length l.tokens.now + 1

abbrev pub decreases-exprs::arguments : goal.decreases-exprs::arguments
decreases-exprs::arguments l = 64 * length l.tokens.now + 32

abbrev pub decreases-types::spec : goal.decreases-types::spec
decreases-types::spec l = 64 * length l.tokens.now + 1

abbrev pub decreases-types::specs : goal.decreases-types::specs
decreases-types::specs l = 64 * length l.tokens.now + 2

abbrev pub decreases-types::structure : goal.decreases-types::structure
decreases-types::structure l = 64 * length l.tokens.now + 0

abbrev pub decreases-types::structure_form : goal.decreases-types::structure_form
decreases-types::structure_form l = 64 * length l.tokens.now + 1

abbrev pub decreases-types::enumeration : goal.decreases-types::enumeration
decreases-types::enumeration l = 64 * length l.tokens.now + 0

abbrev pub decreases-types::enumeration_form : goal.decreases-types::enumeration_form
decreases-types::enumeration_form l = 64 * length l.tokens.now + 1

abbrev pub decreases-types::members : goal.decreases-types::members
decreases-types::members l = 64 * length l.tokens.now + 4

abbrev pub decreases-types::member : goal.decreases-types::member
decreases-types::member l = 64 * length l.tokens.now + 3

abbrev pub decreases-types::enumerators : goal.decreases-types::enumerators
decreases-types::enumerators l = 64 * length l.tokens.now + 1

abbrev pub decreases-types::enumerator : goal.decreases-types::enumerator
decreases-types::enumerator l = 64 * length l.tokens.now + 0

abbrev pub decreases-types::enumerator_value : goal.decreases-types::enumerator_value
decreases-types::enumerator_value l = 64 * length l.tokens.now + 0

abbrev pub decreases-declarators::declarator : goal.decreases-declarators::declarator
decreases-declarators::declarator l = 64 * length l.tokens.now + 5

abbrev pub decreases-declarators::pointer : goal.decreases-declarators::pointer
decreases-declarators::pointer l = 64 * length l.tokens.now + 0

abbrev pub decreases-declarators::direct : goal.decreases-declarators::direct
decreases-declarators::direct l = 64 * length l.tokens.now + 4

abbrev pub decreases-declarators::nameless : goal.decreases-declarators::nameless
decreases-declarators::nameless l = 64 * length l.tokens.now + 3

abbrev pub decreases-declarators::named : goal.decreases-declarators::named
decreases-declarators::named l = 64 * length l.tokens.now + 0

abbrev pub decreases-declarators::grouped : goal.decreases-declarators::grouped
decreases-declarators::grouped l = 64 * length l.tokens.now + 0

abbrev pub decreases-declarators::tails : goal.decreases-declarators::tails
decreases-declarators::tails l = 64 * length l.tokens.now + 2

abbrev pub decreases-declarators::tail : goal.decreases-declarators::tail
decreases-declarators::tail l = 64 * length l.tokens.now + 1

abbrev pub decreases-declarators::array : goal.decreases-declarators::array
decreases-declarators::array l = 64 * length l.tokens.now + 0

abbrev pub decreases-declarators::function : goal.decreases-declarators::function
decreases-declarators::function l = 64 * length l.tokens.now + 0

abbrev pub decreases-declarators::size : goal.decreases-declarators::size
decreases-declarators::size l = 64 * length l.tokens.now + 33

abbrev pub decreases-declarators::parameters : goal.decreases-declarators::parameters
decreases-declarators::parameters l = 64 * length l.tokens.now + 4

abbrev pub decreases-declarators::parameter : goal.decreases-declarators::parameter
decreases-declarators::parameter l = 64 * length l.tokens.now + 3

abbrev pub decreases-exprs::right_side : goal.decreases-exprs::right_side
decreases-exprs::right_side l = 64 * length l.tokens.now + 0

abbrev pub decreases-exprs::joined_operands : goal.decreases-exprs::joined_operands
decreases-exprs::joined_operands l = 64 * length l.tokens.now + (9 + rank l.level)

abbrev pub decreases-exprs::operand : goal.decreases-exprs::operand
decreases-exprs::operand l = 64 * length l.tokens.now + (8 + rank l.level)

-- what is left decides for all of it
abbrev pub invariant-exprs::more-joints : goal.invariant-exprs::more-joints
invariant-exprs::more-joints l =
    ((o : Outcome ExprTree) → Goes l.depth (scene_of l.context) (part.AnExpr (part.More l.level (boxed_expr l.left))) l.rest o → Goes l.fn.count (scene_of l.context) (part.AnExpr (part.More l.level (boxed_expr l.fn.first))) l.fn.tokens o) × (length l.rest ≤ length l.fn.tokens)

abbrev pub decreases-exprs::more-joints : goal.decreases-exprs::more-joints
decreases-exprs::more-joints l = length l.rest

abbrev pub invariant-exprs::suffixes-forms : goal.invariant-exprs::suffixes-forms
invariant-exprs::suffixes-forms l =
    ((o : Outcome ExprTree) → Goes l.depth (scene_of l.context) (part.AnExpr (part.Suffixes (boxed_expr l.base))) l.rest o → Goes l.fn.count (scene_of l.context) (part.AnExpr (part.Suffixes (boxed_expr l.fn.first))) l.fn.tokens o) × (length l.rest ≤ length l.fn.tokens)

abbrev pub decreases-exprs::suffixes-forms : goal.decreases-exprs::suffixes-forms
decreases-exprs::suffixes-forms l = length l.rest

abbrev pub invariant-declarators::tails-forms : goal.invariant-declarators::tails-forms
invariant-declarators::tails-forms l =
    ((o : Outcome DeclaratorTree) → Goes l.count (scene_of l.context) (part.ADeclarator (part.Tails l.role l.is_plain (boxed_declarator l.inner))) l.rest o → Goes l.count (scene_of l.context) (part.ADeclarator (part.Tails l.role l.fn.plain (boxed_declarator l.fn.first))) l.fn.tokens o) × (length l.rest ≤ length l.fn.tokens)

abbrev pub decreases-declarators::tails-forms : goal.decreases-declarators::tails-forms
decreases-declarators::tails-forms l = length l.rest

abbrev pub invariant-exprs::arguments-all : goal.invariant-exprs::arguments-all
invariant-exprs::arguments-all l =
    (Listing (part.AnExpr part.Assignment) (λ (o : Outcome ExprTrees). Goes l.count (scene_of l.context) part.Arguments l.fn.tokens o) l.count (scene_of l.context) (λ v after o. Goes l.count (scene_of l.context) (part.MoreArguments (exprs_then (exprs_from l.args.items) v)) after o) l.rest) × (length l.rest ≤ length l.fn.tokens)

abbrev pub decreases-exprs::arguments-all : goal.decreases-exprs::arguments-all
decreases-exprs::arguments-all l = length l.rest

abbrev pub invariant-types::members-lines : goal.invariant-types::members-lines
invariant-types::members-lines l =
    (Listing part.AMember (λ (o : Outcome MemberDeclTrees). Goes l.count (scene_of l.context) part.Members l.fn.tokens o) l.count (scene_of l.context) (λ v after o. Goes l.count (scene_of l.context) (part.MoreMembers (memberdecls_then (memberdecls_from l.items.items) v)) after o) l.rest) × (length l.rest ≤ length l.fn.tokens)

abbrev pub decreases-types::members-lines : goal.decreases-types::members-lines
decreases-types::members-lines l = length l.rest

abbrev pub invariant-types::enumerators-values : goal.invariant-types::enumerators-values
invariant-types::enumerators-values l =
    (Listing part.AnEnumerator (λ (o : Outcome EnumeratorTrees). Goes l.count (scene_of l.context) part.Enumerators l.fn.tokens o) l.count (scene_of l.context) (λ v after o. Goes l.count (scene_of l.context) (part.MoreEnumerators (enumerators_then (enumerators_from l.items.items) v)) after o) l.rest) × (length l.rest ≤ length l.fn.tokens)

abbrev pub decreases-types::enumerators-values : goal.decreases-types::enumerators-values
decreases-types::enumerators-values l = length l.rest

abbrev pub invariant-declarators::parameters-all : goal.invariant-declarators::parameters-all
invariant-declarators::parameters-all l =
    (Listing part.Parameter (λ (o : Outcome DeclaratorTree). Goes l.count (scene_of l.context) (part.ADeclarator (part.Parameters l.at (boxed_declarator l.fn.inner))) l.fn.tokens o) l.count (scene_of l.context) (λ v after o. Goes l.count (scene_of l.context) (part.ADeclarator (part.MoreParameters l.at (boxed_declarator l.fn.inner) (params_then (params_from l.params.items) v))) after o) l.rest) × (l.inner ≡ l.fn.inner) × (length l.rest ≤ length l.fn.tokens)

abbrev pub decreases-declarators::parameters-all : goal.decreases-declarators::parameters-all
decreases-declarators::parameters-all l = length l.rest

abbrev pub invariant-types::specs-words : goal.invariant-types::specs-words
invariant-types::specs-words l =
    (Listing (part.ASpec part.Spec) (λ (o : Outcome SpecTrees). Goes l.count (scene_of l.context) part.Specs l.fn.tokens o) l.count (scene_of l.context) (λ v after o. Goes l.count (scene_of l.context) (part.MoreSpecs (specs_then (specs_from l.items.items) v)) after o) l.rest) × (l.has_type ≡ has_type (specs_from l.items.items)) × (length l.rest ≤ length l.fn.tokens)

abbrev pub decreases-types::specs-words : goal.decreases-types::specs-words
decreases-types::specs-words l = length l.rest

abbrev pub invariant-types::member-all : goal.invariant-types::member-all
invariant-types::member-all l =
    (Listing (part.ADeclarator (part.Declarator OfMember)) (λ (o : Outcome MemberDeclTree). Goes l.count (scene_of l.context) part.AMember l.fn.tokens o) l.count (scene_of l.context) (λ v after o. Goes l.count (scene_of l.context) (part.MoreDeclarators (specs_tree l.words) (declarators_then (declarators_from l.declarators.items) v)) after o) l.rest) × (length l.rest < length l.fn.tokens)

abbrev pub decreases-types::member-all : goal.decreases-types::member-all
decreases-types::member-all l = length l.rest
