-- How what was made of a form is handed on.
use Rattle.std.specs.Prelude.{◌≡◌, ℕ, List, Result, Ok, Err}
use Rattle.std.proofs.Common.{Bor}
use Rattle.std.specs.declared.alloc.AllocError.{AllocError}
use Rattle.c_syntax_written.specs.declared.token.Placed.{Placed}
use Rattle.c_grammar.specs.Parts.{Scene}
use Rattle.c_grammar.specs.declared.class.Class.{Class}
use Rattle.c_parser_steps.specs.declared.fault.Fault.{Fault}
use Rattle.c_parser_steps.specs.declared.fault.Fault.TheVariants as faults
use Rattle.c_parser_steps.specs.Answers.{Takes}

-- The result is what was made, with these tokens behind it, where there was memory to make it.
pub data Hands {A : Type 0} (tokens : List Placed) : Result A AllocError → Result (A × Bor (List Placed)) Fault → Type 0 where
  handed : {a : A} {rest : Bor (List Placed)} → rest.now ≡ tokens → Hands tokens (Ok a) (Ok (a, rest))
  unmade : {e : AllocError} → Hands tokens (Err e) (Err faults.NoMemory)

-- The result is how the descent takes the token that ends a form, and what was made of the form.
pub data Closes {A : Type 0} (count : ℕ) (scene : Scene) (class : Class) (tokens : List Placed) (made : Result A AllocError) : Result (A × Bor (List Placed))
    Fault → Type 0 where
  closed : {x : Bor Placed × Bor (List Placed)} {r : Result (A × Bor (List Placed)) Fault} → Takes count scene 0 class tokens (Ok x) → Hands x.1.now made r
      → Closes count scene class tokens made r
  unclosed : {f : Fault} → Takes count scene 0 class tokens (Err f) → Closes count scene class tokens made (Err f)
