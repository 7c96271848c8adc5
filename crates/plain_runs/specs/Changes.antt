-- What statements do to a plain state; none where the plain run is not defined (this profile).
use Rattle.std.specs.Prelude.{ℕ, ◌==◌, Bool, true, false, not, ◌&&◌, if◌then◌else◌, List, [], ◌∷◌, Option, Some, None, option_map, option_and_then, slice_get}
use Rattle.std.specs.Int.{int_min, int_max}
use Rattle.std.specs.Int.RustNames.{int_le}
use Rattle.c_syntax_written.specs.declared.int_type.IntType.{IntType}
use Rattle.c_syntax.specs.Types.{ObjectTree, CTypeTree, Int}
use Rattle.block_mem.specs.declared.types.Scalar.{Scalar}
use Rattle.block_mem.specs.declared.types.Scalar.TheVariants as scalars
use Rattle.ext_int.specs.declared.Ext.{Ext}
use Rattle.ext_int.specs.declared.Ext.TheVariants.{Fin}
use Rattle.num_api.specs.declared.message.Range.{Range}
use Rattle.num_api.specs.declared.expr.NOp.TheVariants.{Not}
use Rattle.num_api.specs.Spans.{Span, span}
use Rattle.num_api.specs.Plain.{Standing, standing, excludes}
use Rattle.machine_nums.specs.MExprs.{MExprTree, Const, Read, Convert, Unary, Binary}
use Rattle.machine_nums.specs.Rule.{type_span, converted, value_span, side_variable, tested}
use Rattle.csharp.specs.Trees.{CsExprTree}
use Rattle.csharp.specs.Trees as code
use Rattle.csharp.specs.SameExprs.{is_same_type, is_same_expr}
use Rattle.plain_runs.specs.Numbers.{number_expr}
use Rattle.plain_runs.specs.States.{Cell, Passed, Plain, given, span_of}

-- ---- one entry

-- a temporary has other numbers, and is a copy of this object or of none
abbrev pub with_temp : Plain → ℕ → Span → Option ℕ → Plain
with_temp p d s source = record p {
  temps = λ k. if k == d then s else p.temps k;
  copies = λ k. if k == d then source else p.copies k;
  passed = None;
}

-- no temporary is a copy of the object any more
abbrev pub unless : ℕ → Option ℕ → Option ℕ
unless x None = None
unless x (Some y) = if x == y then None else Some y

abbrev pub with_object : Plain → ℕ → Option Cell → Plain
with_object p x cell = record p {
  copies = λ k. unless x (p.copies k);
  objects = λ y. if y == x then cell else p.objects y;
  passed = None;
}

-- ---- temporaries

-- the object that an expression is a copy of
abbrev pub source_of : Plain → CsExprTree → Option ℕ
source_of p (code.Temp d) = p.copies d
source_of p e = None

-- the numbers that passed, where this very expression was checked just now
abbrev pub if_passed : Option Passed → CsExprTree → Option Span → Option Span
if_passed None e s = s
if_passed (Some passed) e s = if is_same_expr passed.expr e then Some passed.numbers else s

abbrev pub plain_set : List Scalar → Plain → ℕ → CsExprTree → Option Plain
plain_set types p d e = option_map (λ s. with_temp p d s (source_of p e)) (if_passed p.passed e (span_of types p e))

abbrev pub plain_input : Plain → ℕ → IntType → Option Plain
plain_input p d t = Some (with_temp p d (type_span t) None)

-- ---- objects

-- an object that is named by its address alone, and accessed at its own type
abbrev own_type : IntType → Cell → Option Cell
own_type t cell = if is_same_type t cell.ty then Some cell else None

abbrev pub cell_at : Plain → Scalar → ℕ → Option Cell
cell_at p (scalars.Int t) x = option_and_then (own_type t) (p.objects x)
cell_at p scalars.Pointer x = None

abbrev pub plain_load : Plain → ℕ → Scalar → CsExprTree → Option Plain
plain_load p d ty (code.Address x) = option_map (λ cell. with_temp p d cell.numbers (Some x)) (cell_at p ty x)
plain_load p d ty e = None

-- an assignment takes the mark away
abbrev stored : Cell → Span → Cell
stored cell s = record cell { numbers = converted cell.ty (Some s); may_be_undefined = false }

abbrev pub plain_store : List Scalar → Plain → Scalar → CsExprTree → CsExprTree → Option Plain
plain_store types p ty (code.Address x) e = option_and_then (λ cell. option_map (λ s. with_object p x (Some (stored cell s))) (span_of types p e)) (cell_at p ty x)
plain_store types p ty address e = None

-- structs have no place in a plain run
abbrev pub plain_copy : Plain → ℕ → CsExprTree → CsExprTree → Option Plain
plain_copy p n to from = None

-- an object at its declaration: any number of its type, or none
abbrev pub declared : IntType → Bool → Cell
declared t read_only = record { ty = t; numbers = type_span t; may_be_undefined = true; read_only = read_only }

abbrev pub plain_undefine : Plain → ℕ → Option Plain
plain_undefine p x = option_map (λ cell. with_object p x (Some (declared cell.ty cell.read_only))) (p.objects x)

abbrev opened : ObjectTree → CTypeTree → Option Cell
opened object (Int t) = Some (declared t object.read_only)
opened object ty = None

-- objects begin to live, integers alone
abbrev pub plain_enter : List ObjectTree → List ℕ → Plain → Option Plain
plain_enter objects [] p = Some p
plain_enter objects (x ∷ xs) p =
    option_and_then (λ object. option_and_then (λ cell. plain_enter objects xs (with_object p x (Some cell))) (opened object object.ty)) (slice_get objects x)

abbrev pub plain_leave : List ℕ → Plain → Plain
plain_leave [] p = p
plain_leave (x ∷ xs) p = plain_leave xs (with_object p x None)

-- ---- tests

-- the temporary, where there is one
abbrev pub one_of : Option ℕ → List ℕ
one_of None = []
one_of (Some d) = d ∷ []

abbrev pub also : Option ℕ → List ℕ → List ℕ
also None ds = ds
also (Some d) ds = d ∷ ds

abbrev pub sides : Option Standing → Option ℕ → Option ℕ → List ℕ
sides None a b = []
sides (Some how) a b = also a (one_of b)

-- the temporaries that a test cuts: the sides of a comparison whose conversions keep their numbers
abbrev pub cut_temps : (ℕ → Range) → MExprTree → Bool → List ℕ
cut_temps given (Const t n) truth = []
cut_temps given (Read d t) truth = []
cut_temps given (Convert t a) truth = []
cut_temps given (Unary Not t a) truth = cut_temps given a (not truth)
cut_temps given (Unary op t a) truth = []
cut_temps given (Binary op t a b) truth = sides (standing op truth) (side_variable given a) (side_variable given b)

-- a range between two numbers as an interval
abbrev pub between : Ext → Ext → Span → Span
between (Fin a) (Fin b) s = span a b
between lo hi s = s

abbrev pub within : Span → Span → Span
within s t = span (int_max s.lo t.lo) (int_min s.hi t.hi)

-- an object is cut with its copies
abbrev cut_cell : Span → Cell → Cell
cut_cell s cell = record cell { numbers = within cell.numbers s }

abbrev is_copy : Option ℕ → ℕ → Bool
is_copy None x = false
is_copy (Some y) x = y == x

abbrev pub cut_by_copies : (ℕ → Option ℕ) → (ℕ → Span) → ℕ → List ℕ → Option Cell → Option Cell
cut_by_copies copies temps x [] cell = cell
cut_by_copies copies temps x (d ∷ ds) cell =
    cut_by_copies copies temps x ds (if is_copy (copies d) x then option_map (cut_cell (temps d)) cell else cell)

-- other numbers for temporaries, of which these were cut
abbrev pub with_cuts : Plain → (ℕ → Span) → List ℕ → Plain
with_cuts p temps ds = record p { temps = temps; objects = λ x. cut_by_copies p.copies temps x ds (p.objects x); passed = None }

abbrev temps_behind : Plain → (ℕ → Range) → ℕ → Span
temps_behind p ranges d = between (ranges d).lo (ranges d).hi (p.temps d)

-- some number is in the interval
abbrev pub has_numbers : Span → Bool
has_numbers s = int_le s.lo s.hi

abbrev pub has_values : Option Cell → Bool
has_values None = true
has_values (Some cell) = has_numbers cell.numbers

abbrev pub source_in : Plain → Option ℕ → Option Cell
source_in p None = None
source_in p (Some x) = p.objects x

-- numbers are left of each of these temporaries, and of each object of which one is a copy
abbrev pub are_left : Plain → List ℕ → Bool
are_left p [] = true
are_left p (d ∷ ds) = has_numbers (p.temps d) && has_values (source_in p (p.copies d)) && are_left p ds

abbrev pub if_left : List ℕ → Plain → Option Plain
if_left ds p = if are_left p ds then Some p else None

-- the state behind a test that has this truth; a test leads nowhere where its interval excludes the truth, or where its cuts leave nothing
-- of a temporary or an object
abbrev pub behind_test : Plain → Bool → MExprTree → Option Plain
behind_test p truth m =
    if excludes truth (value_span (given p) m) then None
    else if_left (cut_temps (given p) m truth) (with_cuts p (temps_behind p (tested (given p) m truth)) (cut_temps (given p) m truth))

abbrev pub plain_test : List Scalar → Plain → CsExprTree → Bool → Option (Option Plain)
plain_test types p e truth = option_map (behind_test p truth) (number_expr types e)
