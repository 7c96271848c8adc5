-- The ranks of the parts: no part comes first in itself.
use Rattle.std.proofs.Common.{◌≡◌, refl, ℕ, ◌<◌, Bool, true, false, arith}
use Rattle.c_grammar.specs.declared.parts.Level.{Level}
use Rattle.c_grammar.specs.declared.parts.Level.TheVariants.{Commas, Ors, Ands, BitOrs, BitXors, BitAnds, Equalities, Relations, Shifts, Sums, Products}
use Rattle.c_grammar.specs.Parts.{Scene, ExprPart, Run, Assignment, Conditional, Cast, Operand, Unary, Sized, Postfix, DeclaratorPart, Declarator, Pointed, Direct, Size, Parameters, StmtPart, Statement, DeclPart, Declaration, Declared, Initial, OuterPart, Outer, OuterDeclared, OuterInitial, Part, AnExpr, ADeclarator, AStmt, ADecl, AnOuter, Arguments, Specs, MoreSpecs, Members, MoreMembers, AMember, Enumerators, NextEnumerator, Parameter, Initialiser, Initialisers, NextInitialiser, Optionally, ForStart, Items, Item, Outers, Value}
use Rattle.c_grammar.specs.Process.{Process}
use Rattle.c_grammar.specs.ExprRules.{ExprRule, operand}
use Rattle.c_grammar.specs.ExprRules as exprs
use Rattle.c_grammar.specs.TypeRules.{TypeRule}
use Rattle.c_grammar.specs.TypeRules as types
use Rattle.c_grammar.specs.FileRules.{FileRule}
use Rattle.c_grammar.specs.FileRules as files
use Rattle.c_grammar.specs.Grammar.{Produces, expr_rule, type_rule, file_rule}
use Rattle.c_grammar.specs.Refused.{may_be_empty}
use Rattle.c_grammar.proofs.Total.{MayEnd, Ranked, Ranks}

-- the part may have no token, at the end
abbrev ends : Part → Bool
ends (Outers before) = true
ends p = may_be_empty p

abbrev level_rank : Level → ℕ
level_rank Commas = 17
level_rank Ors = 14
level_rank Ands = 13
level_rank BitOrs = 12
level_rank BitXors = 11
level_rank BitAnds = 10
level_rank Equalities = 9
level_rank Relations = 8
level_rank Shifts = 7
level_rank Sums = 6
level_rank Products = 5

abbrev expr_rank : ExprPart → ℕ
expr_rank (Run l) = level_rank l
expr_rank Assignment = 16
expr_rank Conditional = 15
expr_rank Operand = 5
expr_rank Cast = 4
expr_rank (Sized at) = 4
expr_rank Unary = 3
expr_rank Postfix = 2
expr_rank _ = 0

abbrev declarator_rank : DeclaratorPart → ℕ
declarator_rank (Declarator r) = 2
declarator_rank (Pointed r at is_const) = 3
declarator_rank (Direct r) = 1
declarator_rank (Size r at d) = 16
declarator_rank (Parameters at d) = 3
declarator_rank _ = 0

abbrev stmt_rank : StmtPart → ℕ
stmt_rank (Statement b) = 18
stmt_rank _ = 0

abbrev decl_rank : DeclPart → ℕ
decl_rank Declaration = 2
decl_rank (Declared s) = 3
decl_rank (Initial s before d) = 1
decl_rank _ = 0

abbrev outer_rank : OuterPart → ℕ
outer_rank Outer = 2
outer_rank (OuterDeclared s) = 3
outer_rank (OuterInitial s d) = 2

abbrev rank : Part → ℕ
rank (AnExpr p) = expr_rank p
rank (ADeclarator p) = declarator_rank p
rank (AStmt p) = stmt_rank p
rank (ADecl p) = decl_rank p
rank (AnOuter p) = outer_rank p
rank Arguments = 17
rank Specs = 1
rank (MoreSpecs before) = 1
rank AMember = 2
rank Members = 3
rank (MoreMembers before) = 3
rank Enumerators = 1
rank (NextEnumerator before) = 1
rank Parameter = 2
rank Initialiser = 17
rank Initialisers = 18
rank (NextInitialiser before) = 18
rank (Optionally p) = 18
rank ForStart = 18
rank Item = 19
rank (Items before) = 20
rank (Outers before) = 3
rank _ = 0

operand_rank : (l : Level) → (rank (AnExpr (operand l)) < level_rank l) × (ends (AnExpr (operand l)) ≡ false)
operand_rank Commas = (omega arith, refl)
operand_rank Ors = (omega arith, refl)
operand_rank Ands = (omega arith, refl)
operand_rank BitOrs = (omega arith, refl)
operand_rank BitXors = (omega arith, refl)
operand_rank BitAnds = (omega arith, refl)
operand_rank Equalities = (omega arith, refl)
operand_rank Relations = (omega arith, refl)
operand_rank Shifts = (omega arith, refl)
operand_rank Sums = (omega arith, refl)
operand_rank Products = (omega arith, refl)

not_end : {A : Type 0} {b : Bool} → b ≡ false → b ≡ true → A
not_end e f = absurd cc

expr_ends : {w : Scene} {p : Part} {q : Process (Value p)} → ExprRule w p q → MayEnd ends q → ends p ≡ true
expr_ends (exprs.run {l}) h = not_end (operand_rank l).1 h
expr_ends exprs.run_end h = refl
expr_ends exprs.assignment h = h
expr_ends exprs.not_assigned h = refl
expr_ends exprs.conditional h = not_end refl h
expr_ends exprs.not_chosen h = refl
expr_ends exprs.no_cast h = h
expr_ends exprs.operand_cast h = h
expr_ends exprs.size_of_expr h = h
expr_ends exprs.after_type h = refl
expr_ends exprs.no_prefix h = h
expr_ends exprs.postfix h = h
expr_ends exprs.no_suffix h = refl
expr_ends exprs.arguments h = h
expr_ends exprs.texts_end h = refl
expr_ends exprs.something_before h = h
expr_ends _ h = absurd h

type_ends : {w : Scene} {p : Part} {q : Process (Value p)} → TypeRule w p q → MayEnd ends q → ends p ≡ true
type_ends types.specs h = h
type_ends types.specs_end h = refl
type_ends types.specs_more h = refl
type_ends types.structure_named h = refl
type_ends types.members h = h
type_ends types.members_more h = h
type_ends types.member h = h
type_ends types.enumeration_named h = refl
type_ends types.enumerators h = h
type_ends types.enumerators_next h = h
type_ends types.enumerator_plain h = refl
type_ends types.pointed h = h
type_ends types.direct h = h
type_ends (types.no_name types.of_parameter) h = refl
type_ends (types.no_name types.of_type_name) h = refl
type_ends types.tails_end h = refl
type_ends types.size h = h
type_ends types.parameters h = h
type_ends types.parameter h = h
type_ends _ h = absurd h

file_ends : {w : Scene} {p : Part} {q : Process (Value p)} → FileRule w p q → MayEnd ends q → ends p ≡ true
file_ends files.value h = h
file_ends files.initialisers h = h
file_ends files.initialisers_next h = h
file_ends files.declaration h = h
file_ends files.declared h = h
file_ends files.not_initialised h = h
file_ends files.expression h = h
file_ends files.no_else h = refl
file_ends files.for_declares h = h
file_ends files.for_value h = h
file_ends files.items_more h = h
file_ends files.item_declares h = h
file_ends files.item_does h = h
file_ends files.outer h = h
file_ends files.outer_declared h = h
file_ends files.outer_initial h = h
file_ends files.file_end h = refl
file_ends files.file_more h = refl
file_ends _ h = absurd h

rule_ends : {w : Scene} {p : Part} {q : Process (Value p)} → Produces w p q → MayEnd ends q → ends p ≡ true
rule_ends (expr_rule r) h = expr_ends r h
rule_ends (type_rule r) h = type_ends r h
rule_ends (file_rule r) h = file_ends r h

expr_ranked : {w : Scene} {p : Part} {q : Process (Value p)} → ExprRule w p q → Ranked ends rank (rank p) q
expr_ranked (exprs.run {l}) = ((operand_rank l).0, λ a e. not_end (operand_rank l).1 e)
expr_ranked exprs.assignment = (omega arith, λ a e. absurd cc)
expr_ranked exprs.conditional = (omega arith, λ a e. absurd cc)
expr_ranked exprs.no_cast = (omega arith, λ a e. absurd cc)
expr_ranked exprs.operand_cast = (omega arith, λ a e. absurd cc)
expr_ranked exprs.size_of_expr = (omega arith, λ a e. absurd cc)
expr_ranked exprs.no_prefix = (omega arith, λ a e. absurd cc)
expr_ranked exprs.postfix = (omega arith, λ a e. absurd cc)
expr_ranked exprs.arguments = (omega arith, λ a e. absurd cc)
expr_ranked exprs.something_before = (omega arith, λ a e. absurd cc)
expr_ranked _ = tt

type_ranked : {w : Scene} {p : Part} {q : Process (Value p)} → TypeRule w p q → Ranked ends rank (rank p) q
type_ranked types.specs = (omega arith, λ a e. absurd cc)
type_ranked types.specs_more = (omega arith, λ a e. absurd cc)
type_ranked types.members = (omega arith, λ a e. absurd cc)
type_ranked types.members_more = (omega arith, λ a e. absurd cc)
type_ranked types.member = (omega arith, λ a e. absurd cc)
type_ranked types.enumerators = (omega arith, λ a e. absurd cc)
type_ranked types.enumerators_next = (omega arith, λ a e. absurd cc)
type_ranked types.pointed = (omega arith, λ a e. tt)
type_ranked types.direct = (omega arith, λ a e. tt)
type_ranked (types.no_name m) = (omega arith, λ a e. tt)
type_ranked types.size = (omega arith, λ a e. absurd cc)
type_ranked types.parameters = (omega arith, λ a e. absurd cc)
type_ranked types.parameter = (omega arith, λ a e. absurd cc)
type_ranked _ = tt

file_ranked : {w : Scene} {p : Part} {q : Process (Value p)} → FileRule w p q → Ranked ends rank (rank p) q
file_ranked files.value = (omega arith, λ a e. absurd cc)
file_ranked files.initialisers = (omega arith, λ a e. absurd cc)
file_ranked files.initialisers_next = (omega arith, λ a e. absurd cc)
file_ranked files.declaration = (omega arith, λ a e. absurd cc)
file_ranked files.declared = (omega arith, λ a e. absurd cc)
file_ranked files.not_initialised = (omega arith, λ a e. absurd cc)
file_ranked files.expression = (omega arith, λ a e. absurd cc)
file_ranked files.for_declares = (omega arith, λ a e. absurd cc)
file_ranked files.for_value = (omega arith, λ a e. absurd cc)
file_ranked files.items_more = (omega arith, λ a e. absurd cc)
file_ranked files.item_declares = (omega arith, λ a e. absurd cc)
file_ranked files.item_does = (omega arith, λ a e. absurd cc)
file_ranked files.outer = (omega arith, λ a e. absurd cc)
file_ranked files.outer_declared = (omega arith, λ a e. absurd cc)
file_ranked files.outer_initial = (omega arith, λ a e. absurd cc)
file_ranked files.file_more = (omega arith, λ a e. absurd cc)
file_ranked _ = tt

rule_ranked : {w : Scene} {p : Part} {q : Process (Value p)} → Produces w p q → Ranked ends rank (rank p) q
rule_ranked (expr_rule r) = expr_ranked r
rule_ranked (type_rule r) = type_ranked r
rule_ranked (file_rule r) = file_ranked r

pub the_ranks : Ranks
the_ranks = record { ends = ends; rank = rank; rule_ends = rule_ends; ranked = rule_ranked }
