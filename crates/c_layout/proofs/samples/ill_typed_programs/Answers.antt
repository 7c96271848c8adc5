use Rattle.c_layout.proofs.Refutations.{unused_call, one_name, incomplete_member, overlap, other_block, not_const, function_target, input_type}
use Rattle.c_layout.proofs.samples.ill_typed_programs.Goals as goal

pub returns-clause-unused_call : goal.returns-clause-unused_call
returns-clause-unused_call c = unused_call

pub returns-clause-one_name : goal.returns-clause-one_name
returns-clause-one_name c = one_name

pub returns-clause-incomplete_member : goal.returns-clause-incomplete_member
returns-clause-incomplete_member c = incomplete_member

pub returns-clause-overlap : goal.returns-clause-overlap
returns-clause-overlap c = overlap

pub returns-clause-other_block : goal.returns-clause-other_block
returns-clause-other_block c = other_block

pub returns-clause-not_const : goal.returns-clause-not_const
returns-clause-not_const c = not_const

pub returns-clause-function_target : goal.returns-clause-function_target
returns-clause-function_target c = function_target

pub returns-clause-input_type : goal.returns-clause-input_type
returns-clause-input_type c = input_type
