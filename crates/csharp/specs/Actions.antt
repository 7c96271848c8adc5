-- What a statement does to a state at once: the state behind it, or none where it is stuck.
use Rattle.std.specs.Prelude.{ℕ, ℤ, pos, Bool, true, false, not, ◌&&◌, ◌==◌, if◌then◌else◌, List, [], ◌∷◌, Option, Some, None, is_some, option_and_then, option_map, slice_set}
use Rattle.c_syntax_written.specs.declared.int_type.IntType.{IntType}
use Rattle.c_syntax_written.specs.declared.int_type.IntType.TheVariants as ints
use Rattle.c_syntax_written.specs.Integer.{wrapped}
use Rattle.c_syntax.specs.Types.{ObjectTree}
use Rattle.block_mem.specs.declared.types.Scalar.{Scalar}
use Rattle.block_mem.specs.declared.types.Value.{Value}
use Rattle.block_mem.specs.declared.types.Value.TheVariants as values
use Rattle.block_mem.specs.Blocks as blocks
use Rattle.c_values.specs.Places.{ObjectMemory, place_of}
use Rattle.c_values.specs.Accesses.{ok_of}
use Rattle.c_objects.specs.Opening.{open_all, shut_all, undefined}
use Rattle.c_objects.specs.Writing.{stored_at, copied_at}
use Rattle.csharp.specs.Trees.{CsExprTree, CsCallTree}
use Rattle.csharp.specs.States.{State, value_of, on_both}

-- a value is put into a temporary
abbrev pub put : State → ℕ → Value → State
put s d v = record s { temps = slice_set s.temps d v }

abbrev pub with_memory : State → Option ObjectMemory → Option State
with_memory s m = option_map (λ memory. record s { memory = memory }) m

abbrev pub set : ℕ → CsExprTree → State → Option State
set d e s = option_map (put s d) (value_of e s)

-- the value of a type that memory gives at a place
abbrev pub loaded_at : ObjectMemory → Scalar → Value → Option Value
loaded_at m ty (values.Ptr p) = ok_of (blocks.load m.blocks p ty)
loaded_at m ty v = None

-- what memory refuses gives none
abbrev pub load : ℕ → Scalar → CsExprTree → State → Option State
load d ty e s = option_map (put s d) (option_and_then (loaded_at s.memory ty) (value_of e s))

-- what memory refuses for another reason than the read-only mark gives none
abbrev pub store : Scalar → CsExprTree → CsExprTree → State → Option State
store ty e f s = with_memory s (on_both e f s (stored_at s.memory ty))

abbrev pub copy_bytes : ℕ → CsExprTree → CsExprTree → State → Option State
copy_bytes n to from s = with_memory s (on_both to from s (λ v u. copied_at s.memory v u n))

abbrev pub undefine : ℕ → State → Option State
undefine x s = with_memory s (undefined s.memory x)

-- the next input, wrapped to a type; none where no input is left
abbrev next_input : ℕ → IntType → State → List ℤ → Option State
next_input d t s [] = None
next_input d t s (n ∷ rest) = Some (put (record s { inputs = rest }) d (values.Int t (wrapped t n)))

abbrev pub input : ℕ → IntType → State → Option State
input d t s = next_input d t s s.inputs

-- objects begin to live, and end, in their order
abbrev pub enter : List ObjectTree → List ℕ → State → State
enter objects xs s = record s { memory = open_all objects s.memory xs }

abbrev pub leave : List ℕ → State → State
leave xs s = record s { memory = shut_all s.memory xs }

abbrev pub is_among : ℕ → List ℕ → Bool
is_among x [] = false
is_among x (y ∷ ys) = if x == y then true else is_among x ys

-- none of the objects lives, and none comes twice
abbrev pub are_free : List ℕ → State → Bool
are_free [] s = true
are_free (x ∷ xs) s = not (is_some (place_of s.memory x)) && not (is_among x xs) && are_free xs s

-- a value that goes into a temporary, or nowhere
abbrev pub put_into : Option ℕ → Value → State → State
put_into None v s = s
put_into (Some d) v s = put s d v

abbrev flag : ℕ → Value
flag n = values.Int ints.Int (pos n)

-- what a call leaves in its temporaries: the value, and whether there was one
abbrev pub given_to : CsCallTree → Option Value → State → State
given_to c None s = put_into c.flag (flag 0) s
given_to c (Some v) s = put_into c.flag (flag 1) (put_into c.value v s)

abbrev pub args_from : State → List CsExprTree → List ℕ → State → Option State
args_from from [] [] s = Some s
args_from from (e ∷ es) (d ∷ ds) s = option_and_then (λ v. args_from from es ds (put s d v)) (value_of e from)
args_from from es ds s = None

-- the arguments of a call, each taken from the state of the call, in the temporaries of the parameters; none where their numbers differ
abbrev pub pass : List CsExprTree → List ℕ → State → Option State
pass args params s = args_from s args params s
