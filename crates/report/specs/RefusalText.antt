-- The line that says for what a file is refused.
use Rattle.std.specs.Prelude.{ℕ, List, ◌++◌, Option, Some, None, codes, decimal}
use Rattle.c_syntax_written.specs.declared.place.Pos.{Pos}
use Rattle.c_lexer.specs.declared.reason.Reason.{Reason}
use Rattle.c_lexer.specs.declared.reason.Reason.TheVariants as reasons
use Rattle.report.specs.Words.{construct_text}
use Rattle.report.specs.TypeRefusals.{refusal_pos, refusal_text}
use Rattle.report.specs.RuleText.{rule_pos, rule_text}
use Rattle.report.specs.Refusal.{RefusalTree, FileTooLarge, Lexing, Syntax, Unsupported, TooDeep, Typing, Rule}

abbrev pub reason_text : Reason → List ℕ
reason_text reasons.BadByte = codes "byte not allowed"
reason_text reasons.Unterminated = codes "unterminated comment or literal"
reason_text reasons.BadNumber = codes "not an integer constant"
reason_text reasons.TooWide = codes "integer constant too wide"
reason_text reasons.BadEscape = codes "bad character or escape"
reason_text reasons.Directive = codes "directive"

-- a refusal of the whole file, and one at a place
abbrev pub file_front : List ℕ → List ℕ
file_front name = name ++ codes ": refused: "

abbrev pub file_line : List ℕ → List ℕ → List ℕ
file_line name text = file_front name ++ (text ++ codes "\n")

abbrev pub place_front : List ℕ → Pos → List ℕ
place_front name at = name ++ (codes ":" ++ (decimal at.line ++ (codes ":" ++ (decimal at.col ++ codes ": refused: "))))

abbrev pub place_line : List ℕ → Pos → List ℕ → List ℕ
place_line name at text = place_front name at ++ (text ++ codes "\n")

-- a refusal that may have a place
abbrev pub line_at : List ℕ → Option Pos → List ℕ → List ℕ
line_at name None text = file_line name text
line_at name (Some at) text = place_line name at text

abbrev pub line_of : List ℕ → RefusalTree → List ℕ
line_of name FileTooLarge = file_line name (codes "more than 4194304 bytes")
line_of name (Lexing reason at) = place_line name at (reason_text reason)
line_of name (Syntax at) = place_line name at (codes "syntax")
line_of name (Unsupported construct at) = place_line name at (codes "unsupported " ++ construct_text construct)
line_of name (TooDeep at) = place_line name at (codes "nesting above 200")
line_of name (Typing r) = place_line name (refusal_pos r) (refusal_text r)
line_of name (Rule names r) = line_at name (rule_pos r) (rule_text names r)
