-- Plain states: one interval for each temporary and for each integer object that lives (this profile).
use Rattle.std.specs.Prelude.{ℕ, pos, ◌==◌, ◌&&◌, ◌||◌, Bool, true, false, not, if◌then◌else◌, List, [], Option, Some, None, option_map, option_and_then, slice_get}
use Rattle.std.specs.Int.{int_min, int_max}
use Rattle.c_syntax_written.specs.declared.int_type.IntType.{IntType}
use Rattle.c_syntax.specs.Types.{ObjectTree, CTypeTree, Int}
use Rattle.block_mem.specs.declared.types.Scalar.{Scalar}
use Rattle.block_mem.specs.declared.types.Scalar.TheVariants as scalars
use Rattle.block_mem.specs.declared.types.Value.{Value}
use Rattle.block_mem.specs.declared.types.Value.TheVariants as values
use Rattle.num_api.specs.declared.message.Range.{Range}
use Rattle.num_api.specs.Spans.{Span, span, point, range_of}
use Rattle.machine_nums.specs.Rule.{value_span}
use Rattle.c_values.specs.Accesses.{loaded_value}
use Rattle.c_objects.specs.Opening.{address}
use Rattle.csharp.specs.Trees.{CsExprTree, CsProgramTree}
use Rattle.csharp.specs.States as states
use Rattle.csharp.specs.SameExprs.{is_same_type}
use Rattle.plain_runs.specs.Numbers.{number_expr}

-- what is known of an object: its type, an interval of that type, whether its value may be indeterminate, and whether it is const
pub record Cell : Type 0 where
  pub ty : IntType
  pub numbers : Span
  pub may_be_undefined : Bool
  pub read_only : Bool

-- an expression whose check has passed, with the numbers that passed
pub record Passed : Type 0 where
  pub expr : CsExprTree
  pub numbers : Span

-- the numbers of the temporaries; the objects of which they are copies; the objects that live; and a result that was checked just now
pub record Plain : Type 0 where
  pub temps : ℕ → Span
  pub copies : ℕ → Option ℕ
  pub objects : ℕ → Option Cell
  pub passed : Option Passed

-- ---- the numbers of an expression, by the types of the temporaries

abbrev pub given : Plain → ℕ → Range
given p d = range_of (p.temps d)

abbrev pub span_of : List Scalar → Plain → CsExprTree → Option Span
span_of types p e = option_map (value_span (given p)) (number_expr types e)

-- ---- the first state

-- an integer that the object has at the start
abbrev pub cell_with : ObjectTree → IntType → Value → Option Cell
cell_with object t (values.Int u n) = Some (record { ty = t; numbers = point n; may_be_undefined = false; read_only = object.read_only })
cell_with object t v = None

abbrev cell_at_start : states.State → ℕ → ObjectTree → CTypeTree → Option Cell
cell_at_start s x object (Int t) = option_and_then (cell_with object t) (option_and_then (loaded_value s.memory (Some (scalars.Int t))) (address s.memory x 0))
cell_at_start s x object ty = None

-- static objects have their initial values, and all temporaries are 0
abbrev pub plain_first : CsProgramTree → Plain
plain_first q = record {
  temps = λ d. point (pos 0);
  copies = λ d. None;
  objects = λ x. option_and_then (λ object. cell_at_start (states.first q []) x object object.ty) (slice_get q.objects x);
  passed = None;
}

-- ---- hulls

abbrev pub hull_span : Span → Span → Span
hull_span s t = span (int_min s.lo t.lo) (int_max s.hi t.hi)

-- of what is one integer object in both states, which has one type and one mark
abbrev same_mark : Bool → Bool → Bool
same_mark true b = b
same_mark false b = not b

abbrev pub hull_cell : Cell → Cell → Option Cell
hull_cell c d = if is_same_type c.ty d.ty && same_mark c.read_only d.read_only
    then Some (record c { numbers = hull_span c.numbers d.numbers; may_be_undefined = c.may_be_undefined || d.may_be_undefined })
    else None

-- what stays lives on both sides
abbrev pub hull_cells : Option Cell → Option Cell → Option Cell
hull_cells None d = None
hull_cells (Some c) None = None
hull_cells (Some c) (Some d) = hull_cell c d

-- a copy stays one where it is a copy of one object on both sides
abbrev pub agreed : Option ℕ → Option ℕ → Option ℕ
agreed None y = None
agreed (Some x) None = None
agreed (Some x) (Some y) = if x == y then Some x else None

abbrev pub hull : Plain → Plain → Plain
hull p q = record {
  temps = λ d. hull_span (p.temps d) (q.temps d);
  copies = λ d. agreed (p.copies d) (q.copies d);
  objects = λ x. hull_cells (p.objects x) (q.objects x);
  passed = None;
}

-- a state that is not reached adds nothing
abbrev pub hull_some : Option Plain → Option Plain → Option Plain
hull_some None q = q
hull_some (Some p) None = Some p
hull_some (Some p) (Some q) = Some (hull p q)
