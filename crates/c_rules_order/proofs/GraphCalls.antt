-- The calls of a program's graph are those of its functions.
use Rattle.std.proofs.Common.{◌≡◌, ℕ, [], Some, None, refl, ap, ◌∙◌}
use Rattle.std.specs.Prelude.{Option, option_and_then, option_map, unwrap_or, slice_get}
use Rattle.std.proofs.lemmas.Option.{slice_get-map}
use Rattle.c_syntax.specs.TypedStmt.{TStmtTree}
use Rattle.c_syntax.specs.Program.{TFunctionTree, TProgramTree}
use Rattle.c_layout.specs.Calls.{function_calls, stmt_calls}
use Rattle.c_rules_calls.specs.Graph.{calls_from, calls_in, calls_or_none, graph_of}

by_body : (body : Option TStmtTree) → calls_or_none (Some (option_map stmt_calls body)) ≡ unwrap_or (option_map stmt_calls body) []
by_body None = refl
by_body (Some body) = refl

by_entry : (entry : Option TFunctionTree)
    → calls_or_none (option_map calls_in entry) ≡ unwrap_or (option_map stmt_calls (option_and_then (λ function. function.body) entry)) []
by_entry None = refl
by_entry (Some function) = by_body function.body

pub graph_calls : (program : TProgramTree) (f : ℕ) → calls_from (graph_of program) f ≡ function_calls program f
graph_calls program f = ap calls_or_none (slice_get-map calls_in program.functions f) ∙ by_entry (slice_get program.functions f)
