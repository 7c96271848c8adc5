-- What is written, as trees without pointers: expressions, types and declarators. Each constructor has the fields of the code's variant, in their order.
use Rattle.std.specs.Prelude.{ℕ, Bool, List, [], ◌∷◌, Option}
use Rattle.c_syntax_written.specs.declared.place.Pos.{Pos}
use Rattle.c_syntax_written.specs.declared.token.Constant.{Constant}
use Rattle.c_syntax_written.specs.declared.step.StepWay.{StepWay}
use Rattle.c_syntax_written.specs.declared.written.UnaryOp.{UnaryOp}
use Rattle.c_syntax_written.specs.declared.written.BinaryOp.{BinaryOp}
use Rattle.c_syntax_written.specs.declared.written.AssignOp.{AssignOp}
use Rattle.c_syntax_written.specs.declared.written.StorageWord.{StorageWord}
use Rattle.c_syntax_written.specs.declared.written.TypeWord.{TypeWord}
use Rattle.c_syntax_written.specs.declared.written.Tag.{Tag}
use Rattle.c_syntax_written.specs.declared.written.Expr.{Expr}
use Rattle.c_syntax_written.specs.declared.written.Expr.TheVariants as exprs
use Rattle.c_syntax_written.specs.declared.written.Exprs.{Exprs, Row_of-Expr, end_of-Expr, more_of-Expr}
use Rattle.c_syntax_written.specs.declared.written.Spec.{Spec}
use Rattle.c_syntax_written.specs.declared.written.Spec.TheVariants as specs
use Rattle.c_syntax_written.specs.declared.written.Specs.{Specs, Row_of-Spec, end_of-Spec, more_of-Spec}
use Rattle.c_syntax_written.specs.declared.written.MemberDecl.{MemberDecl}
use Rattle.c_syntax_written.specs.declared.written.MemberDecl.TheVariants as lines
use Rattle.c_syntax_written.specs.declared.written.MemberDecls.{MemberDecls, Row_of-MemberDecl, end_of-MemberDecl, more_of-MemberDecl}
use Rattle.c_syntax_written.specs.declared.written.Enumerator.{Enumerator}
use Rattle.c_syntax_written.specs.declared.written.Enumerator.TheVariants as enumerators
use Rattle.c_syntax_written.specs.declared.written.Enumerators.{Enumerators, Row_of-Enumerator, end_of-Enumerator, more_of-Enumerator}
use Rattle.c_syntax_written.specs.declared.written.Declarator.{Declarator}
use Rattle.c_syntax_written.specs.declared.written.Declarator.TheVariants as declarators
use Rattle.c_syntax_written.specs.declared.written.Declarators.{Declarators, Row_of-Declarator, end_of-Declarator, more_of-Declarator}
use Rattle.c_syntax_written.specs.declared.written.Param.{Param}
use Rattle.c_syntax_written.specs.declared.written.Param.TheVariants as params
use Rattle.c_syntax_written.specs.declared.written.Params.{Params, Row_of-Param, end_of-Param, more_of-Param}

mutual
  pub data ExprTree : Type 0 where
    Word : Pos → List ℕ → ExprTree
    Number : Pos → Constant → ExprTree
    Character : Pos → ℕ → ExprTree
    Strings : Pos → List ℕ → ExprTree
    Enclosed : Pos → ExprTree → ExprTree
    Index : Pos → ExprTree → ExprTree → ExprTree
    Call : Pos → List ℕ → ExprTrees → ExprTree
    Dot : Pos → ExprTree → List ℕ → ExprTree
    Arrow : Pos → ExprTree → List ℕ → ExprTree
    PostStep : Pos → StepWay → ExprTree → ExprTree
    PreStep : Pos → StepWay → ExprTree → ExprTree
    Unary : Pos → UnaryOp → ExprTree → ExprTree
    SizeofExpr : Pos → ExprTree → ExprTree
    SizeofType : Pos → SpecTrees → DeclaratorTree → ExprTree
    Cast : Pos → SpecTrees → DeclaratorTree → ExprTree → ExprTree
    Binary : Pos → BinaryOp → ExprTree → ExprTree → ExprTree
    Cond : Pos → ExprTree → ExprTree → ExprTree → ExprTree
    Assign : Pos → ExprTree → ExprTree → ExprTree
    Compound : Pos → AssignOp → ExprTree → ExprTree → ExprTree
    Comma : Pos → ExprTree → ExprTree → ExprTree

  pub data SpecTree : Type 0 where
    Storage : Pos → StorageWord → SpecTree
    Const : Pos → SpecTree
    Basic : Pos → TypeWord → SpecTree
    TypedefName : Pos → List ℕ → SpecTree
    Struct : Pos → Tag → SpecTree
    StructBody : Pos → Option Tag → MemberDeclTrees → SpecTree
    Enum : Pos → Tag → SpecTree
    EnumBody : Pos → Option Tag → EnumeratorTrees → SpecTree

  pub data MemberDeclTree : Type 0 where
    Members : Pos → SpecTrees → DeclaratorTrees → MemberDeclTree

  pub data EnumeratorTree : Type 0 where
    Plain : Pos → List ℕ → EnumeratorTree
    Valued : Pos → List ℕ → ExprTree → EnumeratorTree

  pub data DeclaratorTree : Type 0 where
    Absent : DeclaratorTree
    Name : Pos → List ℕ → DeclaratorTree
    Grouped : Pos → DeclaratorTree → DeclaratorTree
    Pointer : Pos → Bool → DeclaratorTree → DeclaratorTree
    Array : Pos → DeclaratorTree → ExprTree → DeclaratorTree
    OpenArray : Pos → DeclaratorTree → DeclaratorTree
    Function : Pos → DeclaratorTree → ParamTrees → DeclaratorTree
    VoidFunction : Pos → DeclaratorTree → DeclaratorTree

  pub data ParamTree : Type 0 where
    Named : Pos → SpecTrees → DeclaratorTree → ParamTree
    Abstract : Pos → SpecTrees → DeclaratorTree → ParamTree

  pub data ExprTrees : Type 0 where
    no_exprs : ExprTrees
    more_exprs : ExprTree → ExprTrees → ExprTrees

  pub data SpecTrees : Type 0 where
    no_specs : SpecTrees
    more_specs : SpecTree → SpecTrees → SpecTrees

  pub data MemberDeclTrees : Type 0 where
    no_members : MemberDeclTrees
    more_members : MemberDeclTree → MemberDeclTrees → MemberDeclTrees

  pub data EnumeratorTrees : Type 0 where
    no_enumerators : EnumeratorTrees
    more_enumerators : EnumeratorTree → EnumeratorTrees → EnumeratorTrees

  pub data DeclaratorTrees : Type 0 where
    no_declarators : DeclaratorTrees
    more_declarators : DeclaratorTree → DeclaratorTrees → DeclaratorTrees

  pub data ParamTrees : Type 0 where
    no_params : ParamTrees
    more_params : ParamTree → ParamTrees → ParamTrees

unfoldable mutual
  pub expr_tree : Expr → ExprTree
  expr_tree (exprs.Word at name) = Word at name
  expr_tree (exprs.Number at constant) = Number at constant
  expr_tree (exprs.Character at byte) = Character at byte
  expr_tree (exprs.Strings at bytes) = Strings at bytes
  expr_tree (exprs.Enclosed' at inner_box inner) = Enclosed at (expr_tree inner)
  expr_tree (exprs.Index' at base_box base index_box index) = Index at (expr_tree base) (expr_tree index)
  expr_tree (exprs.Call' at name args_box args_shape args) = Call at name.value (expr_rows args)
  expr_tree (exprs.Dot' at base_box base member) = Dot at (expr_tree base) member.value
  expr_tree (exprs.Arrow' at base_box base member) = Arrow at (expr_tree base) member.value
  expr_tree (exprs.PostStep' at way operand_box operand) = PostStep at way (expr_tree operand)
  expr_tree (exprs.PreStep' at way operand_box operand) = PreStep at way (expr_tree operand)
  expr_tree (exprs.Unary' at op operand_box operand) = Unary at op (expr_tree operand)
  expr_tree (exprs.SizeofExpr' at operand_box operand) = SizeofExpr at (expr_tree operand)
  expr_tree (exprs.SizeofType' at specs_box specs_shape specs declarator_box declarator) = SizeofType at (spec_rows specs) (declarator_tree declarator)
  expr_tree (exprs.Cast' at specs_box specs_shape specs declarator_box declarator operand_box operand) =
      Cast at (spec_rows specs) (declarator_tree declarator) (expr_tree operand)
  expr_tree (exprs.Binary' at op left_box left right_box right) = Binary at op (expr_tree left) (expr_tree right)
  expr_tree (exprs.Cond' at condition_box condition first_box first second_box second) = Cond at (expr_tree condition) (expr_tree first) (expr_tree second)
  expr_tree (exprs.Assign' at left_box left right_box right) = Assign at (expr_tree left) (expr_tree right)
  expr_tree (exprs.Compound' at op left_box left right_box right) = Compound at op (expr_tree left) (expr_tree right)
  expr_tree (exprs.Comma' at left_box left right_box right) = Comma at (expr_tree left) (expr_tree right)

  pub spec_tree : Spec → SpecTree
  spec_tree (specs.Storage at word) = Storage at word
  spec_tree (specs.Const at) = Const at
  spec_tree (specs.Basic at word) = Basic at word
  spec_tree (specs.TypedefName at name) = TypedefName at name
  spec_tree (specs.Struct at tag) = Struct at tag
  spec_tree (specs.StructBody' at tag members_shape members) = StructBody at tag (memberdecl_rows members)
  spec_tree (specs.Enum at tag) = Enum at tag
  spec_tree (specs.EnumBody' at tag enumerators_shape enumerators) = EnumBody at tag (enumerator_rows enumerators)

  pub memberdecl_tree : MemberDecl → MemberDeclTree
  memberdecl_tree (lines.Members' at specs_shape specs declarators_shape declarators) = Members at (spec_rows specs) (declarator_rows declarators)

  pub enumerator_tree : Enumerator → EnumeratorTree
  enumerator_tree (enumerators.Plain at name) = Plain at name
  enumerator_tree (enumerators.Valued' at name value_box value) = Valued at name (expr_tree value)

  pub declarator_tree : Declarator → DeclaratorTree
  declarator_tree declarators.Absent = Absent
  declarator_tree (declarators.Name at name) = Name at name
  declarator_tree (declarators.Grouped' at inner_box inner) = Grouped at (declarator_tree inner)
  declarator_tree (declarators.Pointer' at is_const inner_box inner) = Pointer at is_const (declarator_tree inner)
  declarator_tree (declarators.Array' at inner_box inner size_box size) = Array at (declarator_tree inner) (expr_tree size)
  declarator_tree (declarators.OpenArray' at inner_box inner) = OpenArray at (declarator_tree inner)
  declarator_tree (declarators.Function' at inner_box inner params_shape params) = Function at (declarator_tree inner) (param_rows params)
  declarator_tree (declarators.VoidFunction' at inner_box inner) = VoidFunction at (declarator_tree inner)

  pub param_tree : Param → ParamTree
  param_tree (params.Named' at specs_shape specs declarator) = Named at (spec_rows specs) (declarator_tree declarator)
  param_tree (params.Abstract' at specs_shape specs declarator) = Abstract at (spec_rows specs) (declarator_tree declarator)

  pub expr_rows : {m : _} → Row_of-Expr m → ExprTrees
  expr_rows end_of-Expr = no_exprs
  expr_rows (more_of-Expr item rest) = more_exprs (expr_tree item) (expr_rows rest)

  pub spec_rows : {m : _} → Row_of-Spec m → SpecTrees
  spec_rows end_of-Spec = no_specs
  spec_rows (more_of-Spec item rest) = more_specs (spec_tree item) (spec_rows rest)

  pub memberdecl_rows : {m : _} → Row_of-MemberDecl m → MemberDeclTrees
  memberdecl_rows end_of-MemberDecl = no_members
  memberdecl_rows (more_of-MemberDecl item rest) = more_members (memberdecl_tree item) (memberdecl_rows rest)

  pub enumerator_rows : {m : _} → Row_of-Enumerator m → EnumeratorTrees
  enumerator_rows end_of-Enumerator = no_enumerators
  enumerator_rows (more_of-Enumerator item rest) = more_enumerators (enumerator_tree item) (enumerator_rows rest)

  pub declarator_rows : {m : _} → Row_of-Declarator m → DeclaratorTrees
  declarator_rows end_of-Declarator = no_declarators
  declarator_rows (more_of-Declarator item rest) = more_declarators (declarator_tree item) (declarator_rows rest)

  pub param_rows : {m : _} → Row_of-Param m → ParamTrees
  param_rows end_of-Param = no_params
  param_rows (more_of-Param item rest) = more_params (param_tree item) (param_rows rest)

unfoldable pub exprs_from : List Expr → ExprTrees
exprs_from [] = no_exprs
exprs_from (item ∷ rest) = more_exprs (expr_tree item) (exprs_from rest)

abbrev pub exprs_tree : Exprs → ExprTrees
exprs_tree list = exprs_from list.items.items

-- with one more at the end
unfoldable pub exprs_then : ExprTrees → ExprTree → ExprTrees
exprs_then no_exprs last = more_exprs last no_exprs
exprs_then (more_exprs item rest) last = more_exprs item (exprs_then rest last)

unfoldable pub specs_from : List Spec → SpecTrees
specs_from [] = no_specs
specs_from (item ∷ rest) = more_specs (spec_tree item) (specs_from rest)

abbrev pub specs_tree : Specs → SpecTrees
specs_tree list = specs_from list.items.items

-- with one more at the end
unfoldable pub specs_then : SpecTrees → SpecTree → SpecTrees
specs_then no_specs last = more_specs last no_specs
specs_then (more_specs item rest) last = more_specs item (specs_then rest last)

unfoldable pub memberdecls_from : List MemberDecl → MemberDeclTrees
memberdecls_from [] = no_members
memberdecls_from (item ∷ rest) = more_members (memberdecl_tree item) (memberdecls_from rest)

abbrev pub memberdecls_tree : MemberDecls → MemberDeclTrees
memberdecls_tree list = memberdecls_from list.items.items

-- with one more at the end
unfoldable pub memberdecls_then : MemberDeclTrees → MemberDeclTree → MemberDeclTrees
memberdecls_then no_members last = more_members last no_members
memberdecls_then (more_members item rest) last = more_members item (memberdecls_then rest last)

unfoldable pub enumerators_from : List Enumerator → EnumeratorTrees
enumerators_from [] = no_enumerators
enumerators_from (item ∷ rest) = more_enumerators (enumerator_tree item) (enumerators_from rest)

abbrev pub enumerators_tree : Enumerators → EnumeratorTrees
enumerators_tree list = enumerators_from list.items.items

-- with one more at the end
unfoldable pub enumerators_then : EnumeratorTrees → EnumeratorTree → EnumeratorTrees
enumerators_then no_enumerators last = more_enumerators last no_enumerators
enumerators_then (more_enumerators item rest) last = more_enumerators item (enumerators_then rest last)

unfoldable pub declarators_from : List Declarator → DeclaratorTrees
declarators_from [] = no_declarators
declarators_from (item ∷ rest) = more_declarators (declarator_tree item) (declarators_from rest)

abbrev pub declarators_tree : Declarators → DeclaratorTrees
declarators_tree list = declarators_from list.items.items

-- with one more at the end
unfoldable pub declarators_then : DeclaratorTrees → DeclaratorTree → DeclaratorTrees
declarators_then no_declarators last = more_declarators last no_declarators
declarators_then (more_declarators item rest) last = more_declarators item (declarators_then rest last)

unfoldable pub params_from : List Param → ParamTrees
params_from [] = no_params
params_from (item ∷ rest) = more_params (param_tree item) (params_from rest)

abbrev pub params_tree : Params → ParamTrees
params_tree list = params_from list.items.items

-- with one more at the end
unfoldable pub params_then : ParamTrees → ParamTree → ParamTrees
params_then no_params last = more_params last no_params
params_then (more_params item rest) last = more_params item (params_then rest last)
