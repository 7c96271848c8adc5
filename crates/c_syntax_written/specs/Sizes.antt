-- How large a tree is: a node counts one, an item of a list one, and each what it holds. So what stands in a node or a list is smaller than it.
use Rattle.std.specs.Prelude.{ℕ, ◌+◌, List, [], ◌∷◌, Option, Some, None}
use Rattle.c_syntax_written.specs.Written as written
use Rattle.c_syntax_written.specs.Written.{ExprTree, SpecTree, MemberDeclTree, EnumeratorTree, DeclaratorTree, ParamTree, ExprTrees, SpecTrees}
use Rattle.c_syntax_written.specs.Written.{MemberDeclTrees, EnumeratorTrees, DeclaratorTrees, ParamTrees}
use Rattle.c_syntax_written.specs.WrittenDecl as decls
use Rattle.c_syntax_written.specs.WrittenDecl.{InitTree, InitTrees, InitDeclaratorTree, DeclTree}
use Rattle.c_syntax_written.specs.WrittenFile as files
use Rattle.c_syntax_written.specs.WrittenFile.{ForStartTree, StmtTree, BlockItemTree, BlockItemTrees, OuterTree, FileTree}

-- what a plain list holds, by the size of an item
abbrev pub list_size : {A : Type 0} → (A → ℕ) → List A → ℕ
list_size size [] = 0
list_size size (item ∷ rest) = 1 + (size item + list_size size rest)

-- what may be there
abbrev pub option_size : {A : Type 0} → (A → ℕ) → Option A → ℕ
option_size size None = 0
option_size size (Some item) = size item

abbrev mutual
  pub expr_size : ExprTree → ℕ
  expr_size (written.Word _ _) = 1
  expr_size (written.Number _ _) = 1
  expr_size (written.Character _ _) = 1
  expr_size (written.Strings _ _) = 1
  expr_size (written.Enclosed _ expr) = 1 + expr_size expr
  expr_size (written.Index _ first second) = 1 + (expr_size first + expr_size second)
  expr_size (written.Call _ _ args) = 1 + exprs_size args
  expr_size (written.Dot _ expr _) = 1 + expr_size expr
  expr_size (written.Arrow _ expr _) = 1 + expr_size expr
  expr_size (written.PostStep _ _ expr) = 1 + expr_size expr
  expr_size (written.PreStep _ _ expr) = 1 + expr_size expr
  expr_size (written.Unary _ _ expr) = 1 + expr_size expr
  expr_size (written.SizeofExpr _ expr) = 1 + expr_size expr
  expr_size (written.SizeofType _ specs declarator) = 1 + (specs_size specs + declarator_size declarator)
  expr_size (written.Cast _ specs declarator expr) = 1 + (specs_size specs + declarator_size declarator + expr_size expr)
  expr_size (written.Binary _ _ first second) = 1 + (expr_size first + expr_size second)
  expr_size (written.Cond _ first second third) = 1 + (expr_size first + expr_size second + expr_size third)
  expr_size (written.Assign _ first second) = 1 + (expr_size first + expr_size second)
  expr_size (written.Compound _ _ first second) = 1 + (expr_size first + expr_size second)
  expr_size (written.Comma _ first second) = 1 + (expr_size first + expr_size second)

  pub spec_size : SpecTree → ℕ
  spec_size (written.Storage _ _) = 1
  spec_size (written.Const _) = 1
  spec_size (written.Basic _ _) = 1
  spec_size (written.TypedefName _ _) = 1
  spec_size (written.Struct _ _) = 1
  spec_size (written.StructBody _ _ members) = 1 + memberdecls_size members
  spec_size (written.Enum _ _) = 1
  spec_size (written.EnumBody _ _ enumerators) = 1 + enumerators_size enumerators

  pub memberdecl_size : MemberDeclTree → ℕ
  memberdecl_size (written.Members _ specs declarators) = 1 + (specs_size specs + declarators_size declarators)

  pub enumerator_size : EnumeratorTree → ℕ
  enumerator_size (written.Plain _ _) = 1
  enumerator_size (written.Valued _ _ expr) = 1 + expr_size expr

  pub declarator_size : DeclaratorTree → ℕ
  declarator_size written.Absent = 1
  declarator_size (written.Name _ _) = 1
  declarator_size (written.Grouped _ declarator) = 1 + declarator_size declarator
  declarator_size (written.Pointer _ _ declarator) = 1 + declarator_size declarator
  declarator_size (written.Array _ declarator expr) = 1 + (declarator_size declarator + expr_size expr)
  declarator_size (written.OpenArray _ declarator) = 1 + declarator_size declarator
  declarator_size (written.Function _ declarator params) = 1 + (declarator_size declarator + params_size params)
  declarator_size (written.VoidFunction _ declarator) = 1 + declarator_size declarator

  pub param_size : ParamTree → ℕ
  param_size (written.Named _ specs declarator) = 1 + (specs_size specs + declarator_size declarator)
  param_size (written.Abstract _ specs declarator) = 1 + (specs_size specs + declarator_size declarator)

  pub exprs_size : ExprTrees → ℕ
  exprs_size written.no_exprs = 0
  exprs_size (written.more_exprs item rest) = 1 + (expr_size item + exprs_size rest)

  pub specs_size : SpecTrees → ℕ
  specs_size written.no_specs = 0
  specs_size (written.more_specs item rest) = 1 + (spec_size item + specs_size rest)

  pub memberdecls_size : MemberDeclTrees → ℕ
  memberdecls_size written.no_members = 0
  memberdecls_size (written.more_members item rest) = 1 + (memberdecl_size item + memberdecls_size rest)

  pub enumerators_size : EnumeratorTrees → ℕ
  enumerators_size written.no_enumerators = 0
  enumerators_size (written.more_enumerators item rest) = 1 + (enumerator_size item + enumerators_size rest)

  pub declarators_size : DeclaratorTrees → ℕ
  declarators_size written.no_declarators = 0
  declarators_size (written.more_declarators item rest) = 1 + (declarator_size item + declarators_size rest)

  pub params_size : ParamTrees → ℕ
  params_size written.no_params = 0
  params_size (written.more_params item rest) = 1 + (param_size item + params_size rest)

abbrev mutual
  pub init_size : InitTree → ℕ
  init_size (decls.Value expr) = 1 + expr_size expr
  init_size (decls.Braces _ items) = 1 + inits_size items

  pub inits_size : InitTrees → ℕ
  inits_size decls.no_inits = 0
  inits_size (decls.more_inits item rest) = 1 + (init_size item + inits_size rest)

abbrev pub initdeclarator_size : InitDeclaratorTree → ℕ
initdeclarator_size item = 1 + (declarator_size item.declarator + option_size init_size item.init)

abbrev pub decl_size : DeclTree → ℕ
decl_size decl = 1 + (specs_size decl.specs + list_size initdeclarator_size decl.inits)

abbrev pub forstart_size : ForStartTree → ℕ
forstart_size files.Nothing = 1
forstart_size (files.Value expr) = 1 + expr_size expr
forstart_size (files.Declares decl) = 1 + decl_size decl

abbrev mutual
  pub stmt_size : StmtTree → ℕ
  stmt_size (files.Label _ _ stmt) = 1 + stmt_size stmt
  stmt_size (files.Case _ expr stmt) = 1 + (expr_size expr + stmt_size stmt)
  stmt_size (files.Default _ stmt) = 1 + stmt_size stmt
  stmt_size (files.Block _ items) = 1 + blockitems_size items
  stmt_size (files.Empty _) = 1
  stmt_size (files.Expression _ expr) = 1 + expr_size expr
  stmt_size (files.If _ expr stmt) = 1 + (expr_size expr + stmt_size stmt)
  stmt_size (files.IfElse _ expr first second) = 1 + (expr_size expr + stmt_size first + stmt_size second)
  stmt_size (files.Switch _ expr stmt) = 1 + (expr_size expr + stmt_size stmt)
  stmt_size (files.While _ expr stmt) = 1 + (expr_size expr + stmt_size stmt)
  stmt_size (files.DoWhile _ stmt expr) = 1 + (stmt_size stmt + expr_size expr)
  stmt_size (files.For _ start first second stmt) = 1 + (forstart_size start + option_size expr_size first + option_size expr_size second + stmt_size stmt)
  stmt_size (files.Goto _ _) = 1
  stmt_size (files.Continue _) = 1
  stmt_size (files.Break _) = 1
  stmt_size (files.Return _ expr) = 1 + option_size expr_size expr

  pub blockitem_size : BlockItemTree → ℕ
  blockitem_size (files.Declaration decl) = 1 + decl_size decl
  blockitem_size (files.Statement stmt) = 1 + stmt_size stmt

  pub blockitems_size : BlockItemTrees → ℕ
  blockitems_size files.none = 0
  blockitems_size (files.more item rest) = 1 + (blockitem_size item + blockitems_size rest)

abbrev pub outer_size : OuterTree → ℕ
outer_size (files.Declared decl) = 1 + decl_size decl
outer_size (files.Function _ specs declarator _ items) = 1 + (specs_size specs + declarator_size declarator + blockitems_size items)

abbrev pub file_size : FileTree → ℕ
file_size file = list_size outer_size file.outers
