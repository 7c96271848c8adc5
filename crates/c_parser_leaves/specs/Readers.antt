-- How the descent reads what belongs to something that stands before it: it goes on for each production that asks for this next.
use Rattle.std.specs.Prelude.{◌≡◌, ℕ, List, Result}
use Rattle.std.proofs.Common.{Bor}
use Rattle.std.specs.declared.alloc.Global.{Global}
use Rattle.std.specs.declared.boxed.Box.{Box}
use Rattle.c_syntax_written.specs.declared.place.Pos.{Pos}
use Rattle.c_syntax_written.specs.declared.token.Placed.{Placed}
use Rattle.c_syntax_written.specs.declared.token.Punctuator.{Punctuator}
use Rattle.c_syntax_written.specs.declared.written.Expr.{Expr}
use Rattle.c_syntax_written.specs.Written.{DeclaratorTree, Name, ExprTree}
use Rattle.c_syntax_written.specs.declared.written.Declarator.{Declarator}
use Rattle.c_grammar.specs.Parts.{Scene, Part, Value, ExprPart, AnExpr, MemberName}
use Rattle.c_grammar.specs.Process.{Process, token, part}
use Rattle.c_grammar.specs.declared.class.Class.TheVariants.{Sign as sign, Word as word}
use Rattle.c_grammar.specs.Classes.{name_of}
use Rattle.c_grammar.specs.Descent.{Follows}
use Rattle.c_parser_steps.specs.declared.fault.Fault.{Fault}
use Rattle.c_parser_steps.specs.declared.kind.PrimaryKind.TheVariants as primaries
use Rattle.c_parser_steps.specs.declared.kind.SuffixKind.{SuffixKind}
use Rattle.c_parser_steps.specs.declared.kind.SuffixKind.TheVariants as suffixes
use Rattle.c_parser_steps.specs.declared.type_kind.SpecKind.TheVariants as specs
use Rattle.c_parser_steps.specs.Kinds.{primary_at, spec_at}
use Rattle.c_parser_steps.specs.Views.{boxed_declarator, boxed_expr}
use Rattle.c_parser_steps.specs.Answers.{Steps}

-- a sign, and this part of an expression behind it
abbrev pub ReadsBehind : ℕ → Scene → Punctuator → ExprPart → List Placed → Result ((Pos × Box Expr Global) × Bor (List Placed)) Fault → Type 0
ReadsBehind count scene s x tokens r = (p : Part) (k : Pos → ExprTree → Process (Value p))
    → Steps (λ o. Follows count scene p (token 1 (sign s) (λ t. part 1 scene (AnExpr x) (λ e. k t.pos e))) tokens o)
    (λ a rest o. Follows count scene p (k a.0 (boxed_expr a.1)) rest o) r

-- a sign, and the name of a member behind it
abbrev pub ReadsMember : ℕ → Scene → Punctuator → List Placed → Result ((Pos × List ℕ) × Bor (List Placed)) Fault → Type 0
ReadsMember count scene s tokens r = (p : Part) (k : Pos → List ℕ → Process (Value p))
    → Steps (λ o. Follows count scene p (token 1 (sign s) (λ t. part 1 scene MemberName (λ name. k t.pos name))) tokens o)
    (λ a rest o. Follows count scene p (k a.0 a.1) rest o) r

-- the word that a declarator declares
abbrev pub ReadsName : ℕ → Scene → List Placed → Result (Box Declarator Global × Bor (List Placed)) Fault → Type 0
ReadsName count scene tokens r = (p : Part) (k : DeclaratorTree → Process (Value p))
    → Steps (λ o. Follows count scene p (token 0 word (λ t. k (Name t.pos (name_of t.token)))) tokens o)
    (λ d rest o. Follows count scene p (k (boxed_declarator d)) rest o) r

-- what comes, if it is a primary expression, is none between parentheses
abbrev pub IsNotEnclosed : Scene → List Placed → Type 0
IsNotEnclosed scene tokens = primary_at scene tokens ≡ primaries.Enclosed → ⊥

-- what comes, if it is a spec, is neither a struct nor an enumeration
abbrev pub IsSimpleSpec : Scene → List Placed → Type 0
IsSimpleSpec scene tokens = (spec_at scene tokens ≡ specs.Structure → ⊥) × (spec_at scene tokens ≡ specs.Enumeration → ⊥)

-- the postfix form is neither an index nor a call
abbrev pub IsSimpleSuffix : SuffixKind → Type 0
IsSimpleSuffix kind = (kind ≡ suffixes.Index → ⊥) × (kind ≡ suffixes.Call → ⊥)
