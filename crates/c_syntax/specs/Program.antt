-- Typed programs as trees without pointers.
use Rattle.std.specs.Prelude.{ℕ, List, map, Option, option_map}
use Rattle.c_syntax_written.specs.declared.place.Pos.{Pos}
use Rattle.c_syntax.specs.declared.program.Member.{Member}
use Rattle.c_syntax.specs.declared.program.StructDef.{StructDef}
use Rattle.c_syntax.specs.declared.program.TFunction.{TFunction}
use Rattle.c_syntax.specs.declared.program.TProgram.{TProgram}
use Rattle.c_syntax.specs.declared.program.Initial.{Initial}
use Rattle.c_syntax.specs.Types.{CTypeTree, ctype_tree, ObjectTree, object_tree}
use Rattle.c_syntax.specs.TypedStmt.{TStmtTree, tstmt_tree}

pub record MemberTree : Type 0 where
  pub name : List ℕ
  pub ty : CTypeTree
  pub offset : ℕ

pub record StructDefTree : Type 0 where
  pub tag : List ℕ
  pub members : List MemberTree
  pub size : ℕ
  pub align : ℕ

pub record TFunctionTree : Type 0 where
  pub name : List ℕ
  pub pos : Pos
  pub params : List ℕ
  pub result : CTypeTree
  pub body : Option TStmtTree

-- an initial value has no pointers, so the code's own record serves
pub record TProgramTree : Type 0 where
  pub structs : List StructDefTree
  pub objects : List ObjectTree
  pub functions : List TFunctionTree
  pub initial : List Initial

abbrev pub member_tree : Member → MemberTree
member_tree member = record { name = member.name; ty = ctype_tree member.ty; offset = member.offset }

abbrev pub structdef_tree : StructDef → StructDefTree
structdef_tree def = record { tag = def.tag; members = map member_tree def.members; size = def.size; align = def.align }

abbrev pub tfunction_tree : TFunction → TFunctionTree
tfunction_tree function = record {
  name = function.name;
  pos = function.pos;
  params = function.params;
  result = ctype_tree function.result;
  body = option_map tstmt_tree function.body;
}

abbrev pub tprogram_tree : TProgram → TProgramTree
tprogram_tree program = record {
  structs = map structdef_tree program.structs;
  objects = map object_tree program.objects;
  functions = map tfunction_tree program.functions;
  initial = program.initial;
}
