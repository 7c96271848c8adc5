-- What a text asks of a program: its objects, the names of its functions, the calls of each, and main (this profile).
use Rattle.std.specs.Prelude.{ℕ, ◌==◌, ◌&&◌, Bool, List, [], ◌∷◌, Option, Some, None, map, if◌then◌else◌}
use Rattle.c_syntax_written.specs.declared.place.Pos.{Pos}
use Rattle.c_syntax.specs.Types.{ObjectTree}
use Rattle.c_syntax.specs.Program.{TProgramTree}
use Rattle.c_layout.specs.Calls.{PlacedCall}
use Rattle.c_rules_calls.specs.Graph.{calls_from, graph_of}

pub record Told : Type 0 where
  pub objects : List ObjectTree
  pub names : List (List ℕ)
  pub graph : List (Option (List PlacedCall))
  pub main : ℕ

-- what is told of a program, where this is the number of main
abbrev pub told_of : TProgramTree → ℕ → Told
told_of p main = record {
  objects = p.objects;
  names = map (λ function. function.name) p.functions;
  graph = graph_of p;
  main = main;
}

abbrev pub is_at : Pos → Pos → Bool
is_at a b = (a.file == b.file) && ((a.line == b.line) && (a.col == b.col))

-- the function that is called at this place, where one of these calls stands there: the first of them
abbrev pub callee_at : Pos → List PlacedCall → Option ℕ
callee_at at [] = None
callee_at at (call ∷ calls) = if is_at call.pos at then Some call.callee else callee_at at calls

abbrev pub called_from : List (Option (List PlacedCall)) → ℕ → Pos → Option ℕ
called_from graph f at = callee_at at (calls_from graph f)
