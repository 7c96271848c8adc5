-- What a load finds.
use Rattle.std.specs.Prelude.{ℤ, ◌≡◌, List, Some, IfSome, option_map}
use Rattle.c_syntax_written.specs.Integer.{HasNumber}
use Rattle.c_syntax.specs.Types.{ObjectTree}
use Rattle.num_api.specs.Ranges.{InRange}
use Rattle.pointsets.specs.Targets.{BaseSet}
use Rattle.block_mem.specs.declared.types.Scalar.{Scalar}
use Rattle.block_mem.specs.declared.types.Scalar.TheVariants as scalars
use Rattle.block_mem.specs.declared.types.Value.{Value}
use Rattle.machine_nums.specs.MExprs.{mexpr_tree}
use Rattle.machine_nums.specs.Machine.{machine_value}
use Rattle.csharp.specs.Trees.{CsExprTree}
use Rattle.csharp.specs.States.{State, value_of}
use Rattle.csharp.specs.Actions.{loaded_at}
use Rattle.mem_cell_bytes.specs.Cells.{Points, number_of}
use Rattle.mem_cell_exprs.specs.Known.{StandsFor}
use Rattle.mem_cell_exprs.specs.declared.known.Known.{Known}
use Rattle.mem_cell_loads.specs.declared.content.Content.{Content}

-- the number is one of an integer type; a pointer's offset is any
abbrev pub IsNumberOfType : Scalar → ℤ → Type 0
IsNumberOfType (scalars.Int t) n = HasNumber t n
IsNumberOfType scalars.Pointer n = Unit {0}

-- a value is what was found: it has the number of the numbers, where there are some, a number of the range, and points to what the set has
pub record IsContent (s : State) (v : List ℤ) (u : Value) (l : Content) : Type 0 where
  pub number : IfSome (option_map mexpr_tree l.number) (λ m. machine_value v m ≡ Some (number_of u))
  pub range : InRange l.range (number_of u)
  pub points : (set : BaseSet) → l.set ≡ Some set → Points s.memory set u

-- so is each value that a load through the expression gives
abbrev pub IsContentBehind : {D : Type 0} → (D → List ℤ → Type 0) → Known D → CsExprTree → Scalar → Content → Type 0
IsContentBehind admits k e ty l = (objects : List ObjectTree) (s : State) (st : StandsFor admits objects k s) (a u : Value)
    → value_of e s ≡ Some a → loaded_at s.memory ty a ≡ Some u → IsContent s st.v u l
