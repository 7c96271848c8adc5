-- The trees of what is written, by the constructors that the code has.
use Rattle.std.proofs.Common.{◌≡◌, ℕ, Bool, List, [], ◌∷◌, ◌++◌, refl, ap, ◌∙◌}
use Rattle.std.specs.Prelude.{Option}
use Rattle.std.specs.declared.boxed.Box.{Box}
use Rattle.std.specs.declared.alloc.Global.{Global}
use Rattle.c_syntax_written.specs.declared.place.Pos.{Pos}
use Rattle.c_syntax_written.specs.declared.token.Constant.{Constant}
use Rattle.c_syntax_written.specs.declared.step.StepWay.{StepWay}
use Rattle.c_syntax_written.specs.declared.written.UnaryOp.{UnaryOp}
use Rattle.c_syntax_written.specs.declared.written.BinaryOp.{BinaryOp}
use Rattle.c_syntax_written.specs.declared.written.AssignOp.{AssignOp}
use Rattle.c_syntax_written.specs.declared.written.StorageWord.{StorageWord}
use Rattle.c_syntax_written.specs.declared.written.TypeWord.{TypeWord}
use Rattle.c_syntax_written.specs.declared.written.Tag.{Tag}
use Rattle.c_syntax_written.specs.declared.written.Expr.{Expr}
use Rattle.c_syntax_written.specs.declared.written.Expr.TheVariants as exprs
use Rattle.c_syntax_written.specs.declared.written.Exprs.{Exprs, Row_of-Expr, end_of-Expr, more_of-Expr, items-the_row-Expr, items_hidden-the_row-Expr-1}
use Rattle.c_syntax_written.specs.declared.written.Spec.{Spec}
use Rattle.c_syntax_written.specs.declared.written.Spec.TheVariants as specs
use Rattle.c_syntax_written.specs.declared.written.Specs.{Specs, Row_of-Spec, end_of-Spec, more_of-Spec, items-the_row-Spec, items_hidden-the_row-Spec-2}
use Rattle.c_syntax_written.specs.declared.written.MemberDecl.{MemberDecl}
use Rattle.c_syntax_written.specs.declared.written.MemberDecl.TheVariants as lines
use Rattle.c_syntax_written.specs.declared.written.MemberDecls.{MemberDecls, Row_of-MemberDecl, end_of-MemberDecl, more_of-MemberDecl, items-the_row-MemberDecl, items_hidden-the_row-MemberDecl-4}
use Rattle.c_syntax_written.specs.declared.written.Enumerator.{Enumerator}
use Rattle.c_syntax_written.specs.declared.written.Enumerator.TheVariants as enumerators
use Rattle.c_syntax_written.specs.declared.written.Enumerators.{Enumerators, Row_of-Enumerator, end_of-Enumerator, more_of-Enumerator, items-the_row-Enumerator, items_hidden-the_row-Enumerator-5}
use Rattle.c_syntax_written.specs.declared.written.Declarator.{Declarator}
use Rattle.c_syntax_written.specs.declared.written.Declarator.TheVariants as declarators
use Rattle.c_syntax_written.specs.declared.written.Declarators.{Declarators, Row_of-Declarator, end_of-Declarator, more_of-Declarator, items-the_row-Declarator, items_hidden-the_row-Declarator-3}
use Rattle.c_syntax_written.specs.declared.written.Param.{Param}
use Rattle.c_syntax_written.specs.declared.written.Param.TheVariants as params
use Rattle.c_syntax_written.specs.declared.written.Params.{Params, Row_of-Param, end_of-Param, more_of-Param, items-the_row-Param, items_hidden-the_row-Param-0}
use Rattle.c_syntax_written.specs.declared.written.Declarator.TheBlock.{hidden-the_row-Param-0, hidden-the_row-Expr-1, hidden-the_row-Spec-2, hidden-the_row-Declarator-3, hidden-the_row-MemberDecl-4, hidden-the_row-Enumerator-5}
use Rattle.c_syntax_written.specs.Written.{expr_tree, spec_tree, memberdecl_tree, enumerator_tree, declarator_tree, param_tree, expr_rows, exprs_from, exprs_tree, exprs_then, spec_rows, specs_from, specs_tree, specs_then, memberdecl_rows, memberdecls_from, memberdecls_tree, memberdecls_then, enumerator_rows, enumerators_from, enumerators_tree, enumerators_then, declarator_rows, declarators_from, declarators_tree, declarators_then, param_rows, params_from, params_tree, params_then, ExprTrees, SpecTrees, MemberDeclTrees, EnumeratorTrees, DeclaratorTrees, ParamTrees}
use Rattle.c_syntax_written.specs.Written as trees

exprs_rows : {m : _} (row : Row_of-Expr m) → expr_rows row ≡ exprs_from (items-the_row-Expr m row)
unfolding expr_rows exprs_from
exprs_rows end_of-Expr = refl
exprs_rows (more_of-Expr item rest) = ap (trees.more_exprs (expr_tree item)) (exprs_rows rest)

-- the row of the items
exprs_row : (list : Exprs) → expr_rows (hidden-the_row-Expr-1 list.items) ≡ exprs_tree list
exprs_row list = exprs_rows (hidden-the_row-Expr-1 list.items) ∙ ap exprs_from (items_hidden-the_row-Expr-1 list.items)

specs_rows : {m : _} (row : Row_of-Spec m) → spec_rows row ≡ specs_from (items-the_row-Spec m row)
unfolding spec_rows specs_from
specs_rows end_of-Spec = refl
specs_rows (more_of-Spec item rest) = ap (trees.more_specs (spec_tree item)) (specs_rows rest)

-- the row of the items
specs_row : (list : Specs) → spec_rows (hidden-the_row-Spec-2 list.items) ≡ specs_tree list
specs_row list = specs_rows (hidden-the_row-Spec-2 list.items) ∙ ap specs_from (items_hidden-the_row-Spec-2 list.items)

memberdecls_rows : {m : _} (row : Row_of-MemberDecl m) → memberdecl_rows row ≡ memberdecls_from (items-the_row-MemberDecl m row)
unfolding memberdecl_rows memberdecls_from
memberdecls_rows end_of-MemberDecl = refl
memberdecls_rows (more_of-MemberDecl item rest) = ap (trees.more_members (memberdecl_tree item)) (memberdecls_rows rest)

-- the row of the items
memberdecls_row : (list : MemberDecls) → memberdecl_rows (hidden-the_row-MemberDecl-4 list.items) ≡ memberdecls_tree list
memberdecls_row list = memberdecls_rows (hidden-the_row-MemberDecl-4 list.items) ∙ ap memberdecls_from (items_hidden-the_row-MemberDecl-4 list.items)

enumerators_rows : {m : _} (row : Row_of-Enumerator m) → enumerator_rows row ≡ enumerators_from (items-the_row-Enumerator m row)
unfolding enumerator_rows enumerators_from
enumerators_rows end_of-Enumerator = refl
enumerators_rows (more_of-Enumerator item rest) = ap (trees.more_enumerators (enumerator_tree item)) (enumerators_rows rest)

-- the row of the items
enumerators_row : (list : Enumerators) → enumerator_rows (hidden-the_row-Enumerator-5 list.items) ≡ enumerators_tree list
enumerators_row list = enumerators_rows (hidden-the_row-Enumerator-5 list.items) ∙ ap enumerators_from (items_hidden-the_row-Enumerator-5 list.items)

declarators_rows : {m : _} (row : Row_of-Declarator m) → declarator_rows row ≡ declarators_from (items-the_row-Declarator m row)
unfolding declarator_rows declarators_from
declarators_rows end_of-Declarator = refl
declarators_rows (more_of-Declarator item rest) = ap (trees.more_declarators (declarator_tree item)) (declarators_rows rest)

-- the row of the items
declarators_row : (list : Declarators) → declarator_rows (hidden-the_row-Declarator-3 list.items) ≡ declarators_tree list
declarators_row list = declarators_rows (hidden-the_row-Declarator-3 list.items) ∙ ap declarators_from (items_hidden-the_row-Declarator-3 list.items)

params_rows : {m : _} (row : Row_of-Param m) → param_rows row ≡ params_from (items-the_row-Param m row)
unfolding param_rows params_from
params_rows end_of-Param = refl
params_rows (more_of-Param item rest) = ap (trees.more_params (param_tree item)) (params_rows rest)

-- the row of the items
params_row : (list : Params) → param_rows (hidden-the_row-Param-0 list.items) ≡ params_tree list
params_row list = params_rows (hidden-the_row-Param-0 list.items) ∙ ap params_from (items_hidden-the_row-Param-0 list.items)

pub expr_word : (at : Pos) (name : List ℕ) → expr_tree (exprs.Word at name) ≡ trees.Word at name
unfolding expr_tree
expr_word at name = refl

pub expr_number : (at : Pos) (constant : Constant) → expr_tree (exprs.Number at constant) ≡ trees.Number at constant
unfolding expr_tree
expr_number at constant = refl

pub expr_character : (at : Pos) (byte : ℕ) → expr_tree (exprs.Character at byte) ≡ trees.Character at byte
unfolding expr_tree
expr_character at byte = refl

pub expr_strings : (at : Pos) (bytes : List ℕ) → expr_tree (exprs.Strings at bytes) ≡ trees.Strings at bytes
unfolding expr_tree
expr_strings at bytes = refl

pub expr_enclosed : (at : Pos) (inner : Box Expr Global) → expr_tree (exprs.Enclosed at inner) ≡ trees.Enclosed at (expr_tree inner.value)
unfolding expr_tree
expr_enclosed at inner = refl

pub expr_index : (at : Pos) (base : Box Expr Global) (index : Box Expr Global) → expr_tree (exprs.Index at base index) ≡ trees.Index at (expr_tree base.value) (expr_tree index.value)
unfolding expr_tree
expr_index at base index = refl

pub expr_call : (at : Pos) (name : Box (List ℕ) Global) (args : Box Exprs Global) → expr_tree (exprs.Call at name args) ≡ trees.Call at name.value (exprs_tree args.value)
unfolding expr_tree
expr_call at name args = ap (trees.Call at name.value) (exprs_row args.value)

pub expr_dot : (at : Pos) (base : Box Expr Global) (member : Box (List ℕ) Global) → expr_tree (exprs.Dot at base member) ≡ trees.Dot at (expr_tree base.value) member.value
unfolding expr_tree
expr_dot at base member = refl

pub expr_arrow : (at : Pos) (base : Box Expr Global) (member : Box (List ℕ) Global) → expr_tree (exprs.Arrow at base member) ≡ trees.Arrow at (expr_tree base.value) member.value
unfolding expr_tree
expr_arrow at base member = refl

pub expr_post_step : (at : Pos) (way : StepWay) (operand : Box Expr Global) → expr_tree (exprs.PostStep at way operand) ≡ trees.PostStep at way (expr_tree operand.value)
unfolding expr_tree
expr_post_step at way operand = refl

pub expr_pre_step : (at : Pos) (way : StepWay) (operand : Box Expr Global) → expr_tree (exprs.PreStep at way operand) ≡ trees.PreStep at way (expr_tree operand.value)
unfolding expr_tree
expr_pre_step at way operand = refl

pub expr_unary : (at : Pos) (op : UnaryOp) (operand : Box Expr Global) → expr_tree (exprs.Unary at op operand) ≡ trees.Unary at op (expr_tree operand.value)
unfolding expr_tree
expr_unary at op operand = refl

pub expr_sizeof_expr : (at : Pos) (operand : Box Expr Global) → expr_tree (exprs.SizeofExpr at operand) ≡ trees.SizeofExpr at (expr_tree operand.value)
unfolding expr_tree
expr_sizeof_expr at operand = refl

pub expr_sizeof_type : (at : Pos) (specs : Box Specs Global) (declarator : Box Declarator Global) → expr_tree (exprs.SizeofType at specs declarator) ≡ trees.SizeofType at (specs_tree specs.value) (declarator_tree declarator.value)
unfolding expr_tree
expr_sizeof_type at specs declarator = ap (λ (list : SpecTrees). trees.SizeofType at list (declarator_tree declarator.value)) (specs_row specs.value)

pub expr_cast : (at : Pos) (specs : Box Specs Global) (declarator : Box Declarator Global) (operand : Box Expr Global) → expr_tree (exprs.Cast at specs declarator operand) ≡ trees.Cast at (specs_tree specs.value) (declarator_tree declarator.value) (expr_tree operand.value)
unfolding expr_tree
expr_cast at specs declarator operand = ap (λ (list : SpecTrees). trees.Cast at list (declarator_tree declarator.value) (expr_tree operand.value)) (specs_row specs.value)

pub expr_binary : (at : Pos) (op : BinaryOp) (left : Box Expr Global) (right : Box Expr Global) → expr_tree (exprs.Binary at op left right) ≡ trees.Binary at op (expr_tree left.value) (expr_tree right.value)
unfolding expr_tree
expr_binary at op left right = refl

pub expr_cond : (at : Pos) (condition : Box Expr Global) (first : Box Expr Global) (second : Box Expr Global) → expr_tree (exprs.Cond at condition first second) ≡ trees.Cond at (expr_tree condition.value) (expr_tree first.value) (expr_tree second.value)
unfolding expr_tree
expr_cond at condition first second = refl

pub expr_assign : (at : Pos) (left : Box Expr Global) (right : Box Expr Global) → expr_tree (exprs.Assign at left right) ≡ trees.Assign at (expr_tree left.value) (expr_tree right.value)
unfolding expr_tree
expr_assign at left right = refl

pub expr_compound : (at : Pos) (op : AssignOp) (left : Box Expr Global) (right : Box Expr Global) → expr_tree (exprs.Compound at op left right) ≡ trees.Compound at op (expr_tree left.value) (expr_tree right.value)
unfolding expr_tree
expr_compound at op left right = refl

pub expr_comma : (at : Pos) (left : Box Expr Global) (right : Box Expr Global) → expr_tree (exprs.Comma at left right) ≡ trees.Comma at (expr_tree left.value) (expr_tree right.value)
unfolding expr_tree
expr_comma at left right = refl

pub spec_storage : (at : Pos) (word : StorageWord) → spec_tree (specs.Storage at word) ≡ trees.Storage at word
unfolding spec_tree
spec_storage at word = refl

pub spec_const : (at : Pos) → spec_tree (specs.Const at) ≡ trees.Const at
unfolding spec_tree
spec_const at = refl

pub spec_basic : (at : Pos) (word : TypeWord) → spec_tree (specs.Basic at word) ≡ trees.Basic at word
unfolding spec_tree
spec_basic at word = refl

pub spec_typedef_name : (at : Pos) (name : List ℕ) → spec_tree (specs.TypedefName at name) ≡ trees.TypedefName at name
unfolding spec_tree
spec_typedef_name at name = refl

pub spec_struct : (at : Pos) (tag : Tag) → spec_tree (specs.Struct at tag) ≡ trees.Struct at tag
unfolding spec_tree
spec_struct at tag = refl

pub spec_struct_body : (at : Pos) (tag : Option Tag) (members : MemberDecls) → spec_tree (specs.StructBody at tag members) ≡ trees.StructBody at tag (memberdecls_tree members)
unfolding spec_tree
spec_struct_body at tag members = ap (trees.StructBody at tag) (memberdecls_row members)

pub spec_enum : (at : Pos) (tag : Tag) → spec_tree (specs.Enum at tag) ≡ trees.Enum at tag
unfolding spec_tree
spec_enum at tag = refl

pub spec_enum_body : (at : Pos) (tag : Option Tag) (enumerators : Enumerators) → spec_tree (specs.EnumBody at tag enumerators) ≡ trees.EnumBody at tag (enumerators_tree enumerators)
unfolding spec_tree
spec_enum_body at tag enumerators = ap (trees.EnumBody at tag) (enumerators_row enumerators)

pub memberdecl_members : (at : Pos) (specs : Specs) (declarators : Declarators) → memberdecl_tree (lines.Members at specs declarators) ≡ trees.Members at (specs_tree specs) (declarators_tree declarators)
unfolding memberdecl_tree
memberdecl_members at specs declarators = ap (λ (list : SpecTrees). trees.Members at list (declarator_rows (hidden-the_row-Declarator-3 declarators.items))) (specs_row specs) ∙ ap (λ (list : DeclaratorTrees). trees.Members at (specs_tree specs) list) (declarators_row declarators)

pub enumerator_plain : (at : Pos) (name : List ℕ) → enumerator_tree (enumerators.Plain at name) ≡ trees.Plain at name
unfolding enumerator_tree
enumerator_plain at name = refl

pub enumerator_valued : (at : Pos) (name : List ℕ) (value : Box Expr Global) → enumerator_tree (enumerators.Valued at name value) ≡ trees.Valued at name (expr_tree value.value)
unfolding enumerator_tree
enumerator_valued at name value = refl

pub declarator_absent : declarator_tree declarators.Absent ≡ trees.Absent
unfolding declarator_tree
declarator_absent = refl

pub declarator_name : (at : Pos) (name : List ℕ) → declarator_tree (declarators.Name at name) ≡ trees.Name at name
unfolding declarator_tree
declarator_name at name = refl

pub declarator_grouped : (at : Pos) (inner : Box Declarator Global) → declarator_tree (declarators.Grouped at inner) ≡ trees.Grouped at (declarator_tree inner.value)
unfolding declarator_tree
declarator_grouped at inner = refl

pub declarator_pointer : (at : Pos) (is_const : Bool) (inner : Box Declarator Global) → declarator_tree (declarators.Pointer at is_const inner) ≡ trees.Pointer at is_const (declarator_tree inner.value)
unfolding declarator_tree
declarator_pointer at is_const inner = refl

pub declarator_array : (at : Pos) (inner : Box Declarator Global) (size : Box Expr Global) → declarator_tree (declarators.Array at inner size) ≡ trees.Array at (declarator_tree inner.value) (expr_tree size.value)
unfolding declarator_tree
declarator_array at inner size = refl

pub declarator_open_array : (at : Pos) (inner : Box Declarator Global) → declarator_tree (declarators.OpenArray at inner) ≡ trees.OpenArray at (declarator_tree inner.value)
unfolding declarator_tree
declarator_open_array at inner = refl

pub declarator_function : (at : Pos) (inner : Box Declarator Global) (params : Params) → declarator_tree (declarators.Function at inner params) ≡ trees.Function at (declarator_tree inner.value) (params_tree params)
unfolding declarator_tree
declarator_function at inner params = ap (trees.Function at (declarator_tree inner.value)) (params_row params)

pub declarator_void_function : (at : Pos) (inner : Box Declarator Global) → declarator_tree (declarators.VoidFunction at inner) ≡ trees.VoidFunction at (declarator_tree inner.value)
unfolding declarator_tree
declarator_void_function at inner = refl

pub param_named : (at : Pos) (specs : Specs) (declarator : Declarator) → param_tree (params.Named at specs declarator) ≡ trees.Named at (specs_tree specs) (declarator_tree declarator)
unfolding param_tree
param_named at specs declarator = ap (λ (list : SpecTrees). trees.Named at list (declarator_tree declarator)) (specs_row specs)

pub param_abstract : (at : Pos) (specs : Specs) (declarator : Declarator) → param_tree (params.Abstract at specs declarator) ≡ trees.Abstract at (specs_tree specs) (declarator_tree declarator)
unfolding param_tree
param_abstract at specs declarator = ap (λ (list : SpecTrees). trees.Abstract at list (declarator_tree declarator)) (specs_row specs)

pub exprs_nil : exprs_from [] ≡ trees.no_exprs
unfolding exprs_from
exprs_nil = refl

pub exprs_cons : (item : Expr) (rest : List Expr) → exprs_from (item ∷ rest) ≡ trees.more_exprs (expr_tree item) (exprs_from rest)
unfolding exprs_from
exprs_cons item rest = refl

pub exprs_push : (items : List Expr) (last : Expr) → exprs_from (items ++ last ∷ []) ≡ exprs_then (exprs_from items) (expr_tree last)
unfolding exprs_from exprs_then
exprs_push [] last = refl
exprs_push (item ∷ items) last = ap (trees.more_exprs (expr_tree item)) (exprs_push items last)

pub specs_nil : specs_from [] ≡ trees.no_specs
unfolding specs_from
specs_nil = refl

pub specs_cons : (item : Spec) (rest : List Spec) → specs_from (item ∷ rest) ≡ trees.more_specs (spec_tree item) (specs_from rest)
unfolding specs_from
specs_cons item rest = refl

pub specs_push : (items : List Spec) (last : Spec) → specs_from (items ++ last ∷ []) ≡ specs_then (specs_from items) (spec_tree last)
unfolding specs_from specs_then
specs_push [] last = refl
specs_push (item ∷ items) last = ap (trees.more_specs (spec_tree item)) (specs_push items last)

pub memberdecls_nil : memberdecls_from [] ≡ trees.no_members
unfolding memberdecls_from
memberdecls_nil = refl

pub memberdecls_cons : (item : MemberDecl) (rest : List MemberDecl) → memberdecls_from (item ∷ rest) ≡ trees.more_members (memberdecl_tree item) (memberdecls_from rest)
unfolding memberdecls_from
memberdecls_cons item rest = refl

pub memberdecls_push : (items : List MemberDecl) (last : MemberDecl) → memberdecls_from (items ++ last ∷ []) ≡ memberdecls_then (memberdecls_from items) (memberdecl_tree last)
unfolding memberdecls_from memberdecls_then
memberdecls_push [] last = refl
memberdecls_push (item ∷ items) last = ap (trees.more_members (memberdecl_tree item)) (memberdecls_push items last)

pub enumerators_nil : enumerators_from [] ≡ trees.no_enumerators
unfolding enumerators_from
enumerators_nil = refl

pub enumerators_cons : (item : Enumerator) (rest : List Enumerator) → enumerators_from (item ∷ rest) ≡ trees.more_enumerators (enumerator_tree item) (enumerators_from rest)
unfolding enumerators_from
enumerators_cons item rest = refl

pub enumerators_push : (items : List Enumerator) (last : Enumerator) → enumerators_from (items ++ last ∷ []) ≡ enumerators_then (enumerators_from items) (enumerator_tree last)
unfolding enumerators_from enumerators_then
enumerators_push [] last = refl
enumerators_push (item ∷ items) last = ap (trees.more_enumerators (enumerator_tree item)) (enumerators_push items last)

pub declarators_nil : declarators_from [] ≡ trees.no_declarators
unfolding declarators_from
declarators_nil = refl

pub declarators_cons : (item : Declarator) (rest : List Declarator) → declarators_from (item ∷ rest) ≡ trees.more_declarators (declarator_tree item) (declarators_from rest)
unfolding declarators_from
declarators_cons item rest = refl

pub declarators_push : (items : List Declarator) (last : Declarator) → declarators_from (items ++ last ∷ []) ≡ declarators_then (declarators_from items) (declarator_tree last)
unfolding declarators_from declarators_then
declarators_push [] last = refl
declarators_push (item ∷ items) last = ap (trees.more_declarators (declarator_tree item)) (declarators_push items last)

pub params_nil : params_from [] ≡ trees.no_params
unfolding params_from
params_nil = refl

pub params_cons : (item : Param) (rest : List Param) → params_from (item ∷ rest) ≡ trees.more_params (param_tree item) (params_from rest)
unfolding params_from
params_cons item rest = refl

pub params_push : (items : List Param) (last : Param) → params_from (items ++ last ∷ []) ≡ params_then (params_from items) (param_tree last)
unfolding params_from params_then
params_push [] last = refl
params_push (item ∷ items) last = ap (trees.more_params (param_tree item)) (params_push items last)

pub ruleset written_trees = (expr_word, expr_number, expr_character, expr_strings, expr_enclosed, expr_index, expr_call, expr_dot, expr_arrow, expr_post_step, expr_pre_step, expr_unary, expr_sizeof_expr, expr_sizeof_type, expr_cast, expr_binary, expr_cond, expr_assign, expr_compound, expr_comma, spec_storage, spec_const, spec_basic, spec_typedef_name, spec_struct, spec_struct_body, spec_enum, spec_enum_body, memberdecl_members, enumerator_plain, enumerator_valued, declarator_absent, declarator_name, declarator_grouped, declarator_pointer, declarator_array, declarator_open_array, declarator_function, declarator_void_function, param_named, param_abstract, exprs_nil, exprs_cons, exprs_push, specs_nil, specs_cons, specs_push, memberdecls_nil, memberdecls_cons, memberdecls_push, enumerators_nil, enumerators_cons, enumerators_push, declarators_nil, declarators_cons, declarators_push, params_nil, params_cons, params_push)
