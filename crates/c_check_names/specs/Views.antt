-- What errors and results of typing in code stand for.
use Rattle.std.specs.Prelude.{◌≡◌, Option, Some, None, option_map, IfSome, Result, Ok, Err}
use Rattle.c_syntax.specs.Types.{ctype_tree}
use Rattle.c_typing.specs.World.{World, Refusal, NoRule, Undeclared, Redeclared, NotConstant, NotLvalue, ObjectTooLarge, TotalTooLarge, Unsupported, Outcome, Typed, Refused}
use Rattle.c_check_names.specs.declared.type_error.TypeError.{TypeError}
use Rattle.c_check_names.specs.declared.type_error.TypeError.TheVariants as errors

-- the refusal that an error tells; out of memory tells none
abbrev pub refusal_of : TypeError → Option Refusal
refusal_of (errors.NoRule at op left right tags) = Some (NoRule at op (ctype_tree left) (option_map ctype_tree right) tags)
refusal_of (errors.Undeclared at) = Some (Undeclared at)
refusal_of (errors.Redeclared at first) = Some (Redeclared at first)
refusal_of (errors.NotConstant at) = Some (NotConstant at)
refusal_of (errors.NotLvalue at) = Some (NotLvalue at)
refusal_of (errors.ObjectTooLarge at size) = Some (ObjectTooLarge at size)
refusal_of (errors.TotalTooLarge at size) = Some (TotalTooLarge at size)
refusal_of (errors.Unsupported at construct) = Some (Unsupported at construct)
refusal_of errors.NoMemory = None

-- memory aside, the result is an outcome of this kind, with this world behind it
abbrev pub Answers : {A V : Type 0} → (Outcome V → Type 0) → (A → V) → World → Result A TypeError → Type 0
Answers types view after (Ok a) = types (Typed (view a) after)
Answers types view after (Err e) = IfSome (refusal_of e) (λ r. types (Refused r))

-- out of memory aside, the error tells this refusal
abbrev pub Tells : TypeError → Refusal → Type 0
Tells e refusal = IfSome (refusal_of e) (λ r. r ≡ refusal)
