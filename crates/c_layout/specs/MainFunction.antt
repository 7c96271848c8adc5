-- The function with which a run begins.
use Rattle.std.specs.Prelude.{ℕ, Bool, false, Option, option_map, unwrap_or, slice_get, codes}
use Rattle.std.specs.List.{position}
use Rattle.std.specs.Str.{bytes_eq}
use Rattle.c_syntax.specs.Program.{TFunctionTree, TProgramTree}

-- C11 5.1.2.2.1p1
abbrev pub is_named_main : TFunctionTree → Bool
is_named_main function = bytes_eq function.name (codes "main")

-- the number of the function named main, where there is one; in plans, in checks and in runs this is main
abbrev pub main_of : TProgramTree → Option ℕ
main_of program = position is_named_main program.functions

-- whether the function of this number is named main, so that its end gives 0 (C11 5.1.2.2.3p1)
abbrev pub is_main : TProgramTree → ℕ → Bool
is_main program f = unwrap_or (option_map is_named_main (slice_get program.functions f)) false
