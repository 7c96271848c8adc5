-- What functions of the descent through declarations returned.
use Rattle.std.specs.Prelude.{ℕ, List, [], ◌∷◌, ◌++◌, Option, option_map, Result}
use Rattle.std.proofs.Common.{Bor}
use Rattle.std.specs.declared.alloc.Global.{Global}
use Rattle.std.specs.declared.boxed.Box.{Box}
use Rattle.c_syntax_written.specs.declared.token.Placed.{Placed}
use Rattle.c_syntax_written.specs.declared.declaration.Init.{Init}
use Rattle.c_syntax_written.specs.declared.written.Declarator.{Declarator}
use Rattle.c_syntax_written.specs.Written.{SpecTrees, DeclaratorTree}
use Rattle.c_syntax_written.specs.WrittenDecl.{InitDeclaratorTree, init_tree}
use Rattle.c_grammar.specs.Parts.{Scene, Initial, Ending, ADecl}
use Rattle.c_grammar.specs.Descent.{Goes}
use Rattle.c_parser_steps.specs.declared.fault.Fault.{Fault}
use Rattle.c_parser_steps.specs.Answers.{Steps}
use Rattle.c_parser_steps.specs.Views.{boxed_declarator}

-- The result is how the descent reads what may follow a declarator.
abbrev pub Initialised : ℕ → Scene → List Placed → Result (Option (Box Init Global) × Bor (List Placed)) Fault → Type 0
Initialised count scene tokens r = (s : SpecTrees) (before : List InitDeclaratorTree) (d : DeclaratorTree)
    → Steps (λ o. Goes count scene (ADecl (Initial s before d)) tokens o)
    (λ init rest o. Goes count scene (ADecl (Ending s (before ++ record { declarator = d; init = option_map (λ v. init_tree v.value) init } ∷ []))) rest o) r

-- The result is how the descent reads one more declarator, and what may follow it.
abbrev pub DeclaredNext : ℕ → Scene → List Placed → Result ((Box Declarator Global × Option (Box Init Global)) × Bor (List Placed)) Fault → Type 0
DeclaredNext count scene tokens r = (s : SpecTrees) (before : List InitDeclaratorTree)
    → Steps (λ o. Goes count scene (ADecl (Ending s before)) tokens o)
    (λ next rest o. Goes count scene (ADecl (Ending s (before ++ record { declarator = boxed_declarator next.0; init = option_map (λ v. init_tree v.value) next.1 } ∷ []))) rest o) r
