-- Members so far, and names that were in a list before, as typing speaks of them.
use Rattle.std.specs.Prelude.{◌≡◌, Option, Some, None}
use Rattle.c_syntax_written.specs.declared.place.Pos.{Pos}
use Rattle.c_syntax.specs.Program.{member_tree}
use Rattle.c_typing.specs.Declarators.{DeclaredName, ParameterTree}
use Rattle.c_typing.specs.Typing as typing
use Rattle.c_typing.specs.World.{World, Outcome, Refused, Redeclared}
use Rattle.c_check_declarators.specs.declared.members.MemberMade.{MemberMade}

abbrev pub made_tree : MemberMade → typing.MemberMade
made_tree made = record { pos = made.pos; member = member_tree made.member }

-- where this is something, it is Redeclared with these places
abbrev pub unless_again : {A : Type 0} → Option (Pos × Pos) → Outcome A → Outcome A
unless_again None outcome = outcome
unless_again (Some places) outcome = Refused (Redeclared places.0 places.1)

-- the place of the name, and that of its first declaration in the list, if it has one
abbrev pub IsNamedBefore : World → Option DeclaredName → Option (Pos × Pos) → Type 0
IsNamedBefore w name found = (outcome : Outcome ParameterTree) → typing.unless_named_before w name outcome ≡ unless_again found outcome
