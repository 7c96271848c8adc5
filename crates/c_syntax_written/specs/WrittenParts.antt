-- Where what is written stands, and what a word is.
use Rattle.std.specs.Prelude.{ℕ, List, Option, Some, None}
use Rattle.c_syntax_written.specs.declared.place.Pos.{Pos}
use Rattle.c_syntax_written.specs.Written.{ExprTree, SpecTree}
use Rattle.c_syntax_written.specs.Written as written
use Rattle.c_syntax_written.specs.WrittenDecl.{InitTree, Value, Braces}
use Rattle.c_syntax_written.specs.WrittenFile.{StmtTree}
use Rattle.c_syntax_written.specs.WrittenFile as stmts

abbrev pub expr_pos : ExprTree → Pos
expr_pos (written.Word at name) = at
expr_pos (written.Number at constant) = at
expr_pos (written.Character at byte) = at
expr_pos (written.Strings at bytes) = at
expr_pos (written.Enclosed at inner) = at
expr_pos (written.Index at base index) = at
expr_pos (written.Call at name args) = at
expr_pos (written.Dot at base member) = at
expr_pos (written.Arrow at base member) = at
expr_pos (written.PostStep at way operand) = at
expr_pos (written.PreStep at way operand) = at
expr_pos (written.Unary at op operand) = at
expr_pos (written.SizeofExpr at operand) = at
expr_pos (written.SizeofType at specs declarator) = at
expr_pos (written.Cast at specs declarator operand) = at
expr_pos (written.Binary at op left right) = at
expr_pos (written.Cond at condition first second) = at
expr_pos (written.Assign at left right) = at
expr_pos (written.Compound at op left right) = at
expr_pos (written.Comma at left right) = at

-- the place and the name of a word, and nothing of another expression
abbrev pub as_word : ExprTree → Option (Pos × List ℕ)
as_word (written.Word at name) = Some (at, name)
as_word _ = None

abbrev pub spec_pos : SpecTree → Pos
spec_pos (written.Storage at word) = at
spec_pos (written.Const at) = at
spec_pos (written.Basic at word) = at
spec_pos (written.TypedefName at name) = at
spec_pos (written.Struct at tag) = at
spec_pos (written.StructBody at tag _) = at
spec_pos (written.Enum at tag) = at
spec_pos (written.EnumBody at tag _) = at

abbrev pub stmt_pos : StmtTree → Pos
stmt_pos (stmts.Label at name body) = at
stmt_pos (stmts.Case at value body) = at
stmt_pos (stmts.Default at body) = at
stmt_pos (stmts.Block at items) = at
stmt_pos (stmts.Empty at) = at
stmt_pos (stmts.Expression at value) = at
stmt_pos (stmts.If at condition first) = at
stmt_pos (stmts.IfElse at condition first second) = at
stmt_pos (stmts.Switch at value body) = at
stmt_pos (stmts.While at condition body) = at
stmt_pos (stmts.DoWhile at body condition) = at
stmt_pos (stmts.For at start condition step body) = at
stmt_pos (stmts.Goto at label) = at
stmt_pos (stmts.Continue at) = at
stmt_pos (stmts.Break at) = at
stmt_pos (stmts.Return at value) = at

abbrev pub init_pos : InitTree → Pos
init_pos (Value value) = expr_pos value
init_pos (Braces at items) = at
