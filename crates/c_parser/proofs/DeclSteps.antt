-- Ways through the productions of declarations and initialisers.
use Rattle.std.proofs.Common.{◌≡◌, ℕ, List, [], ◌∷◌, ◌++◌, subst, Bor}
use Rattle.std.specs.Prelude.{Option, Ok, Err, option_map}
use Rattle.std.specs.declared.alloc.Global.{Global}
use Rattle.std.specs.declared.boxed.Box.{Box}
use Rattle.c_syntax_written.specs.declared.token.Placed.{Placed}
use Rattle.c_syntax_written.specs.declared.declaration.Init.{Init}
use Rattle.c_syntax_written.specs.Written.{SpecTrees, DeclaratorTree}
use Rattle.c_syntax_written.specs.WrittenDecl.{InitTrees, InitDeclaratorTree, DeclTree, init_tree}
use Rattle.c_grammar.specs.Parts.{Scene, Initial, Ending, ADecl, MoreInitialisers}
use Rattle.c_grammar.specs.Descent.{Outcome, Stop, Goes}
use Rattle.c_parser_steps.specs.declared.fault.Fault.{Fault}
use Rattle.c_parser_steps.specs.Answers.{Halts}
use Rattle.c_parser_steps.proofs.Steps.{stall, step}
use Rattle.c_parser.specs.Answers.{Initialised}

-- what follows the declarator was read
pub initialised_at : {s : SpecTrees} {before : List InitDeclaratorTree} {d : DeclaratorTree} {count : ℕ} {w : Scene} {ts : List Placed} {x : Option (Box Init Global) × Bor (List Placed)} → Initialised count w ts (Ok x) → (o : Outcome DeclTree) → Goes count w (ADecl (Ending s (before ++ record { declarator = d; init = option_map (λ v. init_tree v.value) x.0 } ∷ []))) x.1.now o → Goes count w (ADecl (Initial s before d)) ts o
initialised_at {s} {before} {d} h = step (h s before d)

pub not_initialised_at : {s : SpecTrees} {before : List InitDeclaratorTree} {d : DeclaratorTree} {count : ℕ} {w : Scene} {ts : List Placed} {f : Fault} → Initialised count w ts (Err f) → Halts (λ why rest. Goes count w (ADecl (Initial s before d)) ts (Stop why rest)) f
not_initialised_at {s} {before} {d} h = stall (h s before d)

pub same_inits : {b c : InitTrees} {d : ℕ} {w : Scene} {ts : List Placed} {o : Outcome InitTrees} → b ≡ c → Goes d w (MoreInitialisers b) ts o → Goes d w (MoreInitialisers c) ts o
same_inits {d = d} {w} {ts} {o} e g = subst (λ (v : InitTrees). Goes d w (MoreInitialisers v) ts o) e g

pub same_ending : {s : SpecTrees} {b c : List InitDeclaratorTree} {d : ℕ} {w : Scene} {ts : List Placed} {o : Outcome DeclTree} → b ≡ c → Goes d w (ADecl (Ending s b)) ts o → Goes d w (ADecl (Ending s c)) ts o
same_ending {s} {d = d} {w} {ts} {o} e g = subst (λ (v : List InitDeclaratorTree). Goes d w (ADecl (Ending s v)) ts o) e g
