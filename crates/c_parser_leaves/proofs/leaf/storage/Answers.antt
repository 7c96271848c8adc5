use Rattle.std.proofs.Common.{refl}
use Rattle.c_syntax_written.proofs.WrittenTrees.{spec_storage}
use Rattle.c_grammar.specs.Grammar.{type_rule}
use Rattle.c_grammar.specs.TypeRules as kind
use Rattle.c_parser_steps.specs.Answers.{given, halted}
use Rattle.c_parser_steps.proofs.Steps.{halts, refuse, take, by, done, keyword_is}
use Rattle.c_parser_steps.proofs.TypeSteps.{spec_is}
use Rattle.c_parser_leaves.proofs.leaf.storage.Goals as goal

pub returns-in-Err-clause-goes : goal.returns-in-Err-clause-goes
returns-in-Err-clause-goes c = halted (halts (refuse (keyword_is c.storage_word.ensures c.in-Err.ensures.goes)) (λ why rest g. by (type_rule (kind.storage c.args.word)) refl (spec_is _ _ c.requires) (g _ _)))

pub returns-clause-goes : goal.returns-clause-goes
returns-clause-goes c = given (by (type_rule (kind.storage c.args.word)) refl (spec_is _ _ c.requires) (take (keyword_is c.storage_word.ensures c.in-Ok.ensures.goes) (done (spec_storage _ _))))
