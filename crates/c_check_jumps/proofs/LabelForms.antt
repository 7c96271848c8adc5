-- The labels of a function, form by form.
use Rattle.std.proofs.Common.{◌≡◌, refl, ℕ, List, [], ◌∷◌, ◌++◌, append_assoc}
use Rattle.std.proofs.lemmas.List.{append-nil}
use Rattle.std.specs.Prelude.{Option}
use Rattle.c_syntax_written.specs.declared.place.Pos.{Pos}
use Rattle.c_syntax_written.specs.Written.{ExprTree}
use Rattle.c_syntax_written.specs.WrittenDecl.{DeclTree}
use Rattle.c_syntax_written.specs.WrittenFile.{ForStartTree, StmtTree, BlockItemTrees, blockitems_from}
use Rattle.c_syntax_written.specs.WrittenFile as files
use Rattle.c_typing.specs.Context.{written_labels, written_labels_in}

pub labels_label : (at : Pos) (name : List ℕ) (body : StmtTree) → written_labels (files.Label at name body) ≡ name ∷ written_labels body
unfolding written_labels written_labels_in
labels_label at name body = refl

pub labels_case : (at : Pos) (value : ExprTree) (body : StmtTree) → written_labels (files.Case at value body) ≡ written_labels body
unfolding written_labels written_labels_in
labels_case at value body = refl

pub labels_default : (at : Pos) (body : StmtTree) → written_labels (files.Default at body) ≡ written_labels body
unfolding written_labels written_labels_in
labels_default at body = refl

pub labels_block : (at : Pos) (items : BlockItemTrees) → written_labels (files.Block at items) ≡ written_labels_in items
unfolding written_labels written_labels_in
labels_block at items = refl

pub labels_empty : (at : Pos) → written_labels (files.Empty at) ≡ []
unfolding written_labels written_labels_in
labels_empty at = refl

pub labels_expression : (at : Pos) (e : ExprTree) → written_labels (files.Expression at e) ≡ []
unfolding written_labels written_labels_in
labels_expression at e = refl

pub labels_if : (at : Pos) (condition : ExprTree) (first : StmtTree) → written_labels (files.If at condition first) ≡ written_labels first
unfolding written_labels written_labels_in
labels_if at condition first = refl

pub labels_if_else : (at : Pos) (condition : ExprTree) (first second : StmtTree) → written_labels (files.IfElse at condition first second) ≡ written_labels first ++ written_labels second
unfolding written_labels written_labels_in
labels_if_else at condition first second = refl

pub labels_switch : (at : Pos) (value : ExprTree) (body : StmtTree) → written_labels (files.Switch at value body) ≡ written_labels body
unfolding written_labels written_labels_in
labels_switch at value body = refl

pub labels_while : (at : Pos) (condition : ExprTree) (body : StmtTree) → written_labels (files.While at condition body) ≡ written_labels body
unfolding written_labels written_labels_in
labels_while at condition body = refl

pub labels_do_while : (at : Pos) (body : StmtTree) (condition : ExprTree) → written_labels (files.DoWhile at body condition) ≡ written_labels body
unfolding written_labels written_labels_in
labels_do_while at body condition = refl

pub labels_for : (at : Pos) (start : ForStartTree) (condition step : Option ExprTree) (body : StmtTree) → written_labels (files.For at start condition step body) ≡ written_labels body
unfolding written_labels written_labels_in
labels_for at start condition step body = refl

pub labels_goto : (at : Pos) (label : List ℕ) → written_labels (files.Goto at label) ≡ []
unfolding written_labels written_labels_in
labels_goto at label = refl

pub labels_continue : (at : Pos) → written_labels (files.Continue at) ≡ []
unfolding written_labels written_labels_in
labels_continue at = refl

pub labels_break : (at : Pos) → written_labels (files.Break at) ≡ []
unfolding written_labels written_labels_in
labels_break at = refl

pub labels_return : (at : Pos) (value : Option ExprTree) → written_labels (files.Return at value) ≡ []
unfolding written_labels written_labels_in
labels_return at value = refl

pub labels_none : written_labels_in files.none ≡ []
unfolding written_labels written_labels_in
labels_none = refl

pub labels_declaration : (decl : DeclTree) (rest : BlockItemTrees) → written_labels_in (files.more (files.Declaration decl) rest) ≡ written_labels_in rest
unfolding written_labels written_labels_in
labels_declaration decl rest = refl

pub labels_statement : (s : StmtTree) (rest : BlockItemTrees) → written_labels_in (files.more (files.Statement s) rest) ≡ written_labels s ++ written_labels_in rest
unfolding written_labels written_labels_in
labels_statement s rest = refl

pub ruleset the_labels = (labels_label, labels_case, labels_default, labels_block, labels_empty, labels_expression, labels_if, labels_if_else, labels_switch, labels_while, labels_do_while, labels_for, labels_goto, labels_continue, labels_break, labels_return, labels_none, labels_declaration, labels_statement, append-nil, append_assoc)

pub none_labels : [] ≡ written_labels_in (blockitems_from [])
unfolding written_labels written_labels_in blockitems_from
none_labels = refl
