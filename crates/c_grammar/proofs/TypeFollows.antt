-- What follows the parts of the productions of specs and declarators.
use Rattle.std.proofs.Common.{refl, lit≤}
use Rattle.c_grammar.specs.Parts.{Scene, Part, Value}
use Rattle.c_grammar.specs.Process.{Process}
use Rattle.c_grammar.specs.Ahead.{is_spec_word}
use Rattle.c_grammar.specs.TypeRules.{TypeRule}
use Rattle.c_grammar.specs.TypeRules as types
use Rattle.c_grammar.proofs.Table.{WellFollowed, well_give, well_only}
use Rattle.c_grammar.proofs.Firsts.{begins, continues}
use Rattle.c_grammar.proofs.Followed.{ahead, between, silent, last, closed, plain, nested}
use Rattle.c_grammar.proofs.Own.{never}

pub type_follows : {w : Scene} {p : Part} {q : Process (Value p)} → TypeRule w p q → WellFollowed begins continues w p q
unfolding is_spec_word
type_follows types.specs = between refl (λ a. (refl, refl, λ b e. tt)) (λ a v. refl) (λ a. lit≤ tt) (λ a. last refl (λ b. refl))
type_follows types.specs_end = well_only well_give
type_follows types.specs_more = between refl (λ a. (refl, refl, λ b e. tt)) (λ a v. refl) (λ a. lit≤ tt) (λ a. last refl (λ b. refl))
type_follows (types.storage s) = plain refl (λ t f. well_give)
type_follows types.constant = plain refl (λ t f. well_give)
type_follows (types.basic s) = plain refl (λ t f. well_give)
type_follows types.typedef_name = plain refl (λ t f. well_give)
type_follows types.structure = plain refl (λ t f. last refl (λ a. refl))
type_follows types.structure_tag = plain refl (λ t f. last refl (λ a. refl))
type_follows types.structure_body = nested (lit≤ tt) (λ t f. closed (λ a c. refl))
type_follows types.structure_named = well_give
type_follows types.structure_tagged_body = nested (lit≤ tt) (λ t f. closed (λ a c. refl))
type_follows types.members = silent (λ a c. refl) (λ a. lit≤ tt) (λ a. closed (λ b c. refl))
type_follows types.members_end = plain refl (λ t f. well_give)
type_follows types.members_more = silent (λ a c. refl) (λ a. lit≤ tt) (λ a. closed (λ b c. refl))
type_follows types.member = ahead refl (λ s. (refl, refl, λ b e. never e)) (λ s. refl) (λ s. lit≤ tt) (λ s. ahead refl (λ d. (refl, refl, λ b e. never e)) (λ d. refl) (λ d. lit≤ tt) (λ d. closed (λ b c. refl)))
type_follows types.declarators_end = plain refl (λ t f. well_give)
type_follows types.declarators_more = plain refl (λ t f. ahead refl (λ d. (refl, refl, λ b e. never e)) (λ d. refl) (λ d. lit≤ tt) (λ d. closed (λ b c. refl)))
type_follows types.enumeration = plain refl (λ t f. last refl (λ a. refl))
type_follows types.enumeration_tag = plain refl (λ t f. last refl (λ a. refl))
type_follows types.enumeration_body = nested (lit≤ tt) (λ t f. closed (λ a c. refl))
type_follows types.enumeration_named = well_give
type_follows types.enumeration_tagged_body = nested (lit≤ tt) (λ t f. closed (λ a c. refl))
type_follows types.enumerators = ahead refl (λ a. (refl, refl, λ b e. never e)) (λ a. refl) (λ a. lit≤ tt) (λ a. closed (λ b c. refl))
type_follows types.enumerators_end = plain refl (λ t f. well_give)
type_follows types.enumerators_more = plain refl (λ t f. closed (λ b c. refl))
type_follows types.enumerators_comma_end = plain refl (λ t f. well_give)
type_follows types.enumerators_next = ahead refl (λ a. (refl, refl, λ b e. never e)) (λ a. refl) (λ a. lit≤ tt) (λ a. closed (λ b c. refl))
type_follows types.enumerator = plain refl (λ t f. last refl (λ a. refl))
type_follows types.enumerator_plain = well_give
type_follows types.enumerator_valued = plain refl (λ t f. last refl (λ a. refl))
type_follows types.pointer = plain refl (λ t f. last refl (λ a. refl))
type_follows types.pointer_const = plain refl (λ t f. last refl (λ a. refl))
type_follows types.pointed = last refl (λ a. refl)
type_follows types.direct = last refl (λ a. refl)
type_follows (types.declared_name h) = plain refl (λ t f. last refl (λ a. refl))
type_follows types.grouped = nested (lit≤ tt) (λ t f. ahead refl (λ d. (refl, refl, λ b e. never e)) (λ d. refl) (λ d. lit≤ tt) (λ d. silent (λ a c. refl) (λ a. lit≤ tt) (λ a. last refl (λ b. refl))))
type_follows types.group_end = well_only (plain refl (λ t f. well_give))
type_follows (types.no_name h) = well_only (last refl (λ a. refl))
type_follows types.tails_end = well_give
type_follows types.array = nested (lit≤ tt) (λ t f. silent (λ a c. refl) (λ a. lit≤ tt) (λ a. last refl (λ b. refl)))
type_follows types.no_size = plain refl (λ t f. well_give)
type_follows types.size = ahead refl (λ a. refl) (λ a. refl) (λ a. tt) (λ a. plain refl (λ t f. well_give))
type_follows types.function = nested (lit≤ tt) (λ t f. silent (λ a c. refl) (λ a. lit≤ tt) (λ a. last refl (λ b. refl)))
type_follows types.no_parameters = plain refl (λ t f. well_give)
type_follows types.parameters = ahead refl (λ a. (refl, refl, λ b e. never e)) (λ a. refl) (λ a. lit≤ tt) (λ a. closed (λ b c. refl))
type_follows types.parameters_end = plain refl (λ t f. well_give)
type_follows types.parameters_more = plain refl (λ t f. ahead refl (λ a. (refl, refl, λ b e. never e)) (λ a. refl) (λ a. lit≤ tt) (λ a. closed (λ b c. refl)))
type_follows types.parameter = between refl (λ s. (refl, refl, λ b e. tt)) (λ s v. refl) (λ s. lit≤ tt) (λ s. last refl (λ d. refl))
