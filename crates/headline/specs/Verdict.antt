-- Verdict: for what a file is refused.
use Rattle.std.specs.Prelude.{◌≡◌, ◌<◌, ◌≤◌, ℕ, List, Some, length}
use Rattle.c_syntax_written.specs.declared.place.Pos.{Pos}
use Rattle.c_syntax_written.specs.declared.token.Tokens.{Tokens}
use Rattle.c_syntax_written.specs.WrittenFile.{FileTree}
use Rattle.c_syntax.specs.Program.{TProgramTree}
use Rattle.c_lexer.specs.Cut.{IsCut}
use Rattle.c_lexer.specs.Uncut.{IsUncut}
use Rattle.c_grammar.specs.Refused.{Why}
use Rattle.c_grammar.specs.Refused as grammar
use Rattle.c_parser.specs.Refusals.{RefusedAt}
use Rattle.c_typing.specs.World as typing
use Rattle.c_typing.specs.File.{TypesFile, NoProgram}
use Rattle.c_rules.specs.declared.error.RuleError.{RuleError}
use Rattle.c_rules.specs.Rules.{IsRefused}
use Rattle.report.specs.RuleRefusals.{RuleRefusal, refusal_of}
use Rattle.report.specs.RuleText.{names_of}
use Rattle.headline.specs.Program.{IsSource, IsTypedAs}
use Rattle.report.specs.Refusal.{RefusalTree, FileTooLarge, Lexing, Syntax, Unsupported, TooDeep, Typing, Rule}

-- the bytes are cut into tokens, of which the first that is refused stands at this place, for this reason; or it is their end
abbrev pub IsUnparsed : List ℕ → Why → Pos → Type 0
IsUnparsed bytes why at = (ts : Tokens) × IsCut 0 bytes ts × RefusedAt ts why at

-- the bytes are a file of C's grammar that has no types, and this is its first refusal
abbrev pub IsUntyped : List ℕ → typing.Refusal → Type 0
IsUntyped bytes r = (file : FileTree) × IsSource bytes file × TypesFile file (NoProgram r)

-- the rules refuse this program, and an error that they answer tells this
abbrev pub IsRefusedBy : TProgramTree → RuleRefusal → Type 0
IsRefusedBy typed r = (error : RuleError) × IsRefused typed error × (refusal_of error ≡ Some r)

-- the bytes are a typed program whose functions have these names, and the rules refuse it for this
abbrev pub IsNotAdmitted : List ℕ → List (List ℕ) → RuleRefusal → Type 0
IsNotAdmitted bytes names r = (typed : TProgramTree) × IsTypedAs bytes typed × (names ≡ names_of typed) × IsRefusedBy typed r

-- the first of these for which the bytes are refused: their number, a place that is not cut into tokens, a token, a part that has no type,
-- and a rule
abbrev pub IsRefusedFor : List ℕ → RefusalTree → Type 0
IsRefusedFor bytes FileTooLarge = 4194304 < length bytes
IsRefusedFor bytes (Lexing reason at) = (length bytes ≤ 4194304) × IsUncut 0 bytes at reason
IsRefusedFor bytes (Syntax at) = (length bytes ≤ 4194304) × IsUnparsed bytes grammar.Syntax at
IsRefusedFor bytes (Unsupported construct at) = (length bytes ≤ 4194304) × IsUnparsed bytes (grammar.Unsupported construct) at
IsRefusedFor bytes (TooDeep at) = (length bytes ≤ 4194304) × IsUnparsed bytes grammar.TooDeep at
IsRefusedFor bytes (Typing r) = (length bytes ≤ 4194304) × IsUntyped bytes r
IsRefusedFor bytes (Rule names r) = (length bytes ≤ 4194304) × IsNotAdmitted bytes names r
