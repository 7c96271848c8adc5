-- Small files as they are written, and what comes of them.
use Rattle.std.specs.Prelude.{ℕ, ◌+◌, pos, true, false, None, Some, [], ◌∷◌, codes}
use Rattle.c_syntax_written.specs.declared.place.Pos.{Pos}
use Rattle.c_syntax_written.specs.declared.int_type.IntType.TheVariants as ints
use Rattle.c_syntax_written.specs.declared.token.Constant.{Constant}
use Rattle.c_syntax_written.specs.declared.written.TypeWord.TheVariants as words
use Rattle.c_syntax_written.specs.declared.written.BinaryOp.TheVariants as signs
use Rattle.c_syntax_written.specs.Written as written
use Rattle.c_syntax_written.specs.WrittenDecl as inits
use Rattle.c_syntax_written.specs.WrittenFile as files
use Rattle.c_syntax_written.specs.WrittenFile.{FileTree}
use Rattle.c_syntax.specs.declared.op.Op.TheVariants as ops
use Rattle.c_syntax.specs.declared.operator.DerefKind.TheVariants as derefs
use Rattle.c_syntax.specs.declared.operator.TBinaryOp.TheVariants as binaries
use Rattle.c_syntax.specs.declared.program.InitByte.TheVariants.{Num}
use Rattle.c_syntax.specs.declared.statement.BlockKind.TheVariants as kinds
use Rattle.c_syntax.specs.declared.program.Initial.{Initial}
use Rattle.c_syntax.specs.Types.{Int, Array, Struct, ObjectTree}
use Rattle.c_syntax.specs.TypedExpr.{TExprTree, Const, Load, Decay, Binary, Var, Deref, Member}
use Rattle.c_syntax.specs.TypedStmt.{Block, Return, none, more}
use Rattle.c_syntax.specs.Program.{StructDefTree, TProgramTree}
use Rattle.c_typing.specs.World.{NoRule}
use Rattle.c_typing.specs.File.{TypesFile, Program, NoProgram}

-- a place of the first line
abbrev pub col : ℕ → Pos
col n = record { file = 0; line = 1; col = n }

abbrev pub int_specs : ℕ → written.SpecTrees
int_specs n = written.more_specs (written.Basic (col n) words.Int) written.no_specs

abbrev pub decimal : ℕ → Constant
decimal n = record { value = n; decimal = true; unsigned = false; longs = 0 }

-- int main(void){struct S{int k;}s;return s+1;}
abbrev pub struct_plus_int : FileTree
struct_plus_int = record {
  outers = files.Function (col 1) (int_specs 1) (written.VoidFunction (col 9) (written.Name (col 5) (codes "main"))) (col 15)
      (files.more (files.Declaration (record {
        pos = col 16;
        specs = written.more_specs
            (written.StructBody (col 16) (Some (record { pos = col 23; name = codes "S" }))
            (written.more_members (written.Members (col 25) (int_specs 25)
            (written.more_declarators (written.Name (col 29) (codes "k")) written.no_declarators))
            written.no_members))
            written.no_specs;
        inits = record { declarator = written.Name (col 32) (codes "s"); init = None } ∷ [];
      }))
      (files.more (files.Statement (files.Return (col 34)
      (Some (written.Binary (col 42) signs.Plus (written.Word (col 41) (codes "s")) (written.Number (col 43) (decimal 1))))))
      files.none)) ∷ [];
}

-- struct S{int c;int k;}, from the first column on
abbrev pub two_ints : written.SpecTrees
two_ints =
    written.more_specs
    (written.StructBody (col 1) (Some (record { pos = col 8; name = codes "S" }))
    (written.more_members (written.Members (col 10) (int_specs 10)
    (written.more_declarators (written.Name (col 14) (codes "c")) written.no_declarators))
    (written.more_members (written.Members (col 16) (int_specs 16)
    (written.more_declarators (written.Name (col 20) (codes "k")) written.no_declarators))
    written.no_members)))
    written.no_specs

-- {1,2,3}, from this column on
abbrev pub one_two_three : ℕ → inits.InitTree
one_two_three n =
    inits.Braces (col n) (inits.more_inits (inits.Value (written.Number (col (n + 1)) (decimal 1)))
    (inits.more_inits (inits.Value (written.Number (col (n + 3)) (decimal 2)))
    (inits.more_inits (inits.Value (written.Number (col (n + 5)) (decimal 3))) inits.no_inits)))

-- struct S{int c;int k;}s[2]={1,2,3};int main(void){return s[1].c;}
abbrev pub listed_struct : FileTree
listed_struct = record {
  outers =
      files.Declared (record {
        pos = col 1;
        specs = two_ints;
        inits = record {
          declarator = written.Array (col 24) (written.Name (col 23) (codes "s")) (written.Number (col 25) (decimal 2));
          init = Some (one_two_three 28);
        } ∷ [];
      })
      ∷ files.Function (col 36) (int_specs 36) (written.VoidFunction (col 44) (written.Name (col 40) (codes "main"))) (col 50)
      (files.more (files.Statement (files.Return (col 51) (Some (written.Dot (col 62)
      (written.Index (col 59) (written.Word (col 58) (codes "s")) (written.Number (col 60) (decimal 1))) (codes "c")))))
      files.none)
      ∷ [];
}

-- its array of two structs of eight bytes, of which the second's first member is returned
abbrev pub second_first : TExprTree
second_first =
    Load (col 62) (Member (col 62) 0 0 (Int ints.Int) false (Deref (col 59) derefs.Index (Struct 0) false
    (Binary (col 59) (binaries.PointerPlusInt 8) (Decay (col 58) (Var (col 58) 0 (Array (Struct 0) false 2) false)) (Const (col 60) ints.Int (pos 1)))))

abbrev pub two_ints_struct : StructDefTree
two_ints_struct = record {
  tag = codes "S";
  members = record { name = codes "c"; ty = Int ints.Int; offset = 0 } ∷ record { name = codes "k"; ty = Int ints.Int; offset = 4 } ∷ [];
  size = 8;
  align = 4;
}

abbrev pub two_structs : ObjectTree
two_structs = record { name = codes "s"; pos = col 23; ty = Array (Struct 0) false 2; size = 16; read_only = false; is_static = true }

-- 1, 2, 3 and 0, each in four bytes
abbrev pub three_and_zero : Initial
three_and_zero = record {
  object = 0;
  bytes = Num 1 ∷ Num 0 ∷ Num 0 ∷ Num 0 ∷ Num 2 ∷ Num 0 ∷ Num 0 ∷ Num 0 ∷ Num 3 ∷ Num 0 ∷ Num 0 ∷ Num 0 ∷ Num 0 ∷ Num 0 ∷ Num 0 ∷ Num 0 ∷ [];
}

abbrev pub listed_struct_program : TProgramTree
listed_struct_program = record {
  structs = two_ints_struct ∷ [];
  objects = two_structs ∷ [];
  functions = record {
    name = codes "main";
    pos = col 40;
    params = [];
    result = Int ints.Int;
    body = Some (Block (col 50) kinds.Written [] (more (Return (col 51) (Some second_first)) none));
  } ∷ [];
  initial = three_and_zero ∷ [];
}

-- struct S{int c;int k;}s[]={1,2,3};
abbrev pub measured_struct : FileTree
measured_struct = record {
  outers = files.Declared (record {
    pos = col 1;
    specs = two_ints;
    inits = record { declarator = written.OpenArray (col 24) (written.Name (col 23) (codes "s")); init = Some (one_two_three 27) } ∷ [];
  }) ∷ [];
}

-- which has two structs as well, the second of them begun
abbrev pub measured_struct_program : TProgramTree
measured_struct_program = record { structs = two_ints_struct ∷ []; objects = two_structs ∷ []; functions = []; initial = three_and_zero ∷ [] }

-- what the definition says of these files
pub record SamplesAreTyped : Type 0 where
  pub struct_plus_int : TypesFile struct_plus_int (NoProgram (NoRule (col 42) ops.Plus (Struct 0) (Some (Int ints.Int)) (codes "S" ∷ [])))
  pub listed_struct : TypesFile listed_struct (Program listed_struct_program)
  pub measured_struct : TypesFile measured_struct (Program measured_struct_program)
