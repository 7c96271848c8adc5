-- Arguments that are passed.
use Rattle.std.specs.Prelude.{ℕ, List, [], ◌∷◌, Option, Some, option_and_then, option_map}
use Rattle.block_mem.specs.declared.types.Value.{Value}
use Rattle.csharp.specs.Trees.{CsExprTree}
use Rattle.csharp.specs.States.{State, value_of}
use Rattle.csharp.specs.Actions.{put}

-- the values of expressions; none where one of them has none
abbrev pub values_of : List CsExprTree → State → Option (List Value)
values_of [] s = Some []
values_of (e ∷ es) s = option_and_then (λ v. option_map (λ vs. v ∷ vs) (values_of es s)) (value_of e s)

-- values that are put into temporaries, in their order
abbrev pub put_all : List ℕ → List Value → State → State
put_all (d ∷ ds) (v ∷ vs) s = put_all ds vs (put s d v)
put_all ds vs s = s
