use Rattle.std.proofs.Common.{List, [], ◌∷◌, ◌++◌, ap, ◌∙◌, arith}
use Rattle.std.specs.Prelude.{map}
use Rattle.c_syntax_written.specs.declared.declaration.InitDeclarator.{InitDeclarator}
use Rattle.c_syntax_written.specs.Written.{specs_tree}
use Rattle.c_syntax_written.specs.WrittenDecl.{initdeclarator_tree}
use Rattle.c_parser_steps.proofs.Steps.{halts, carried, stall, step}
use Rattle.c_parser.proofs.DeclSteps.{initialised_at, not_initialised_at, same_ending}
use Rattle.c_parser_steps.specs.Answers.{halted, no_memory}
use Rattle.c_parser_exprs.proofs.Shorter.{shorter_still}
use Rattle.c_parser.proofs.decl.initial.Goals as goal

pub returns-in-Err-clause-goes : goal.returns-in-Err-clause-goes
returns-in-Err-clause-goes c = halted (not_initialised_at c.in-Err.ensures.goes)

pub returns-in-Err-push_declared-clause-goes : goal.returns-in-Err-push_declared-clause-goes
returns-in-Err-push_declared-clause-goes c = halted no_memory

pub all-init : goal.all-init
all-init c = ((λ o g. initialised_at c.in-Ok.ensures.goes o (same_ending (c.in-Ok-push_declared.ensures ∙ ap (λ (v : List InitDeclarator). map initdeclarator_tree v ++ initdeclarator_tree (record { declarator = c.args.first.value; init = c.in-Ok.got.0 }) ∷ []) c.new-inits.ensures.items) g)), omega (arith, c.in-Ok.ensures.shorter))

pub returns-in-Err-next_declared-clause-goes : goal.returns-in-Err-next_declared-clause-goes
returns-in-Err-next_declared-clause-goes c = halted (halts (stall (c.in-Err-next_declared.ensures.goes (specs_tree c.args.specs) (map initdeclarator_tree c.all.inits.items))) (λ why rest g. c.all.invariant.0 _ g))

pub returns-in-Err-push_declared-2-clause-goes : goal.returns-in-Err-push_declared-2-clause-goes
returns-in-Err-push_declared-2-clause-goes c = halted no_memory

pub all-preserved : goal.all-preserved
all-preserved c = ((λ o g. c.all.invariant.0 o (step (c.in-Ok-next_declared.ensures.goes (specs_tree c.args.specs) (map initdeclarator_tree c.all.inits.items)) o (same_ending c.in-Ok-push_declared-2.ensures g))), omega (arith, c.in-Ok-next_declared.ensures.shorter))

pub returns-clause-goes : goal.returns-clause-goes
returns-clause-goes c = carried c.declaration_end.ensures.goes c.all.invariant.0

pub returns-clause-shorter : goal.returns-clause-shorter
returns-clause-shorter c = shorter_still c.declaration_end.result c.declaration_end.ensures.shorter (omega arith)
