-- What an error tells of the tokens.
use Rattle.std.specs.Prelude.{◌≡◌, List, [], ◌∷◌}
use Rattle.c_syntax_written.specs.declared.place.Pos.{Pos}
use Rattle.c_syntax_written.specs.declared.token.Placed.{Placed}
use Rattle.c_syntax_written.specs.declared.token.Tokens.{Tokens}
use Rattle.c_grammar.specs.Refused.{Why, Syntax, Unsupported, TooDeep, IsRefused}
use Rattle.c_parser_steps.specs.declared.fault.Fault.{Fault}
use Rattle.c_parser_steps.specs.declared.fault.Fault.TheVariants as faults
use Rattle.c_parser.specs.declared.parsing.ParseError.{ParseError}
use Rattle.c_parser.specs.declared.parsing.ParseError.TheVariants as errors

-- the place of the first of the rest, or the end where there is none
abbrev pub place_of : Tokens → List Placed → Pos
place_of tokens [] = tokens.end
place_of tokens (t ∷ rest) = t.pos

abbrev pub error_for : Why → Pos → ParseError
error_for Syntax at = errors.Syntax at
error_for (Unsupported c) at = errors.Unsupported at c
error_for TooDeep at = errors.TooDeep at

-- the error tells this reason at the first of the rest
abbrev pub IsError : Tokens → List Placed → Why → ParseError → Type 0
IsError tokens rest why e = e ≡ error_for why (place_of tokens rest)

-- Tokens are refused for this reason at this place.
abbrev pub RefusedAt : Tokens → Why → Pos → Type 0
RefusedAt tokens why at = (rest : List Placed) × IsRefused tokens.list rest why × (at ≡ place_of tokens rest)

-- what an error tells is so
abbrev pub TellsRefused : Tokens → ParseError → Type 0
TellsRefused tokens (errors.Syntax at) = RefusedAt tokens Syntax at
TellsRefused tokens (errors.Unsupported at c) = RefusedAt tokens (Unsupported c) at
TellsRefused tokens (errors.TooDeep at) = RefusedAt tokens TooDeep at
TellsRefused tokens errors.NoMemory = Unit {0}

-- the error is that of the fault
abbrev pub IsErrorOf : Tokens → Fault → ParseError → Type 0
IsErrorOf tokens faults.NoMemory e = e ≡ errors.NoMemory
IsErrorOf tokens (faults.Syntax rest) e = IsError tokens rest.now Syntax e
IsErrorOf tokens (faults.Unsupported c rest) e = IsError tokens rest.now (Unsupported c) e
IsErrorOf tokens (faults.TooDeep rest) e = IsError tokens rest.now TooDeep e
