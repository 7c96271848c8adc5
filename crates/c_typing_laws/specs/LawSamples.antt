-- A declaration, and an expression after it, to which the law of expressions speaks.
use Rattle.std.specs.Prelude.{false, true, None, List, [], ◌∷◌, codes}
use Rattle.c_syntax_written.specs.declared.written.BinaryOp.TheVariants as signs
use Rattle.c_syntax_written.specs.declared.int_type.IntType.TheVariants as ints
use Rattle.c_syntax_written.specs.Written as written
use Rattle.c_syntax_written.specs.WrittenFile as files
use Rattle.c_syntax_written.specs.WrittenFile.{OuterTree}
use Rattle.c_syntax.specs.Types.{Int, ObjectTree}
use Rattle.c_layout.specs.TypedNodes.{Scope}
use Rattle.c_typing.specs.World.{World, Object, Typed}
use Rattle.c_typing.specs.Operands.{OperandTree}
use Rattle.c_typing.specs.Typing.{Types}
use Rattle.c_typing.specs.Context.{Context, file_context}
use Rattle.c_typing.specs.File.{TypesOuters, nothing_yet, program_of}
use Rattle.c_typing.specs.Samples.{col, int_specs, decimal}
use Rattle.c_typing_laws.specs.TypedValues.{IsTypedOperand}
use Rattle.c_typing_laws.specs.ExpressionLaws.{AreUsable, EndsFrom}

-- int k;
abbrev pub int_k : List OuterTree
int_k =
    files.Declared (record {
      pos = col 1;
      specs = int_specs 1;
      inits = record { declarator = written.Name (col 5) (codes "k"); init = None } ∷ [];
    }) ∷ []

abbrev pub around_k : Context
around_k = file_context (record { outers = int_k })

abbrev pub object_k : ObjectTree
object_k = record { name = codes "k"; pos = col 5; ty = Int ints.Int; size = 4; read_only = false; is_static = true }

-- the program after the declaration
abbrev pub world_k : World
world_k = record nothing_yet {
  objects = object_k ∷ [];
  total = 4;
  linked = record { name = codes "k"; pos = col 5; meaning = Object 0; defined = true } ∷ [];
  names = record { name = codes "k"; pos = col 5; meaning = Object 0 } ∷ [];
}

abbrev pub scope_k : Scope
scope_k = record { program = program_of world_k; live = [] }

-- k + 1
abbrev pub k_plus_one : written.ExprTree
k_plus_one = written.Binary (col 10) signs.Plus (written.Word (col 8) (codes "k")) (written.Number (col 12) (decimal 1))

-- the expression has what the law asks for, in the program that ends there
pub record SamplesAreTyped : Type 0 where
  pub operand : OperandTree
  pub declared : TypesOuters nothing_yet around_k int_k (Typed tt world_k)
  pub usable : AreUsable world_k scope_k
  pub types : Types world_k k_plus_one (Typed operand world_k)
  pub ends : EndsFrom world_k scope_k
  pub typed : IsTypedOperand scope_k operand
