-- What is told of a refusal of typing, and where it stands.
use Rattle.std.specs.Prelude.{ℕ, List, ◌++◌, Option, Some, None, codes, decimal}
use Rattle.c_syntax_written.specs.declared.place.Pos.{Pos}
use Rattle.c_syntax_written.specs.declared.construct.Construct.{Construct}
use Rattle.c_syntax.specs.declared.op.Op.{Op}
use Rattle.c_syntax.specs.Types.{CTypeTree}
use Rattle.c_typing.specs.World.{Refusal, NoRule, Undeclared, Redeclared, NotConstant, NotLvalue, ObjectTooLarge, TotalTooLarge, Unsupported}
use Rattle.report.specs.Words.{op_text, construct_text}
use Rattle.report.specs.TypeText.{type_text}

-- the operands that no row takes
abbrev pub operands_text : List (List ℕ) → CTypeTree → Option CTypeTree → List ℕ
operands_text tags left None = type_text tags left
operands_text tags left (Some right) = type_text tags left ++ (codes " and " ++ type_text tags right)

abbrev pub no_rule_text : List (List ℕ) → Op → CTypeTree → Option CTypeTree → List ℕ
no_rule_text tags op left right = codes "no rule for " ++ (op_text op ++ (codes " on " ++ operands_text tags left right))

abbrev pub redeclared_text : Pos → List ℕ
redeclared_text first = codes "declared before at " ++ (decimal first.line ++ (codes ":" ++ decimal first.col))

abbrev pub object_text : ℕ → List ℕ
object_text size = codes "object of " ++ (decimal size ++ codes " bytes")

abbrev pub total_text : ℕ → List ℕ
total_text size = codes "objects of " ++ (decimal size ++ codes " bytes together")

abbrev pub unsupported_text : Construct → List ℕ
unsupported_text construct = codes "unsupported " ++ construct_text construct

abbrev pub refusal_text : Refusal → List ℕ
refusal_text (NoRule at op left right tags) = no_rule_text tags op left right
refusal_text (Undeclared at) = codes "undeclared"
refusal_text (Redeclared at first) = redeclared_text first
refusal_text (NotConstant at) = codes "not a constant"
refusal_text (NotLvalue at) = codes "not a modifiable lvalue"
refusal_text (ObjectTooLarge at size) = object_text size
refusal_text (TotalTooLarge at size) = total_text size
refusal_text (Unsupported at construct) = unsupported_text construct

abbrev pub refusal_pos : Refusal → Pos
refusal_pos (NoRule at op left right tags) = at
refusal_pos (Undeclared at) = at
refusal_pos (Redeclared at first) = at
refusal_pos (NotConstant at) = at
refusal_pos (NotLvalue at) = at
refusal_pos (ObjectTooLarge at size) = at
refusal_pos (TotalTooLarge at size) = at
refusal_pos (Unsupported at construct) = at
