-- What a function of the descent returned, seen as an outcome of the descent.
use Rattle.std.specs.Prelude.{◌≡◌, ℕ, Bool, true, false, ◌&&◌, List, None, Result, Ok, Err}
use Rattle.std.proofs.Common.{Bor}
use Rattle.c_syntax_written.specs.declared.construct.Construct.{Construct}
use Rattle.c_syntax_written.specs.declared.place.Pos.{Pos}
use Rattle.c_syntax_written.specs.declared.token.Placed.{Placed}
use Rattle.c_grammar.specs.declared.parts.Role.{Role}
use Rattle.c_grammar.specs.Parts.{Scene, Pointed, Tails, ADeclarator, Part, Value}
use Rattle.c_grammar.specs.declared.class.Class.{Class}
use Rattle.c_grammar.specs.Process.{Process, token}
use Rattle.c_grammar.specs.Refused.{Why, Syntax, Unsupported, TooDeep, first_is, is_type_name, is_right_bracket, may_name, may_omit, in_member, part_construct}
use Rattle.c_grammar.specs.Ahead.{params_ahead}
use Rattle.c_grammar.specs.Made.{is_word}
use Rattle.c_grammar.specs.Choice.{is_star}
use Rattle.c_syntax_written.specs.Written.{ExprTree, DeclaratorTree}
use Rattle.c_grammar.specs.Descent.{Outcome, Done, Stop, Goes, Follows}
use Rattle.c_parser_steps.specs.declared.fault.Fault.{Fault}
use Rattle.c_parser_steps.specs.declared.fault.Fault.TheVariants as faults
use Rattle.c_parser_steps.specs.declared.kind.SuffixKind.{SuffixKind}
use Rattle.c_parser_steps.specs.declared.kind.SuffixKind.TheVariants as suffixes
use Rattle.c_parser_steps.specs.declared.type_kind.DirectKind.{DirectKind}
use Rattle.c_parser_steps.specs.declared.type_kind.TailKind.{TailKind}
use Rattle.c_parser_steps.specs.declared.type_kind.TailKind.TheVariants as tails
use Rattle.c_parser_steps.specs.Kinds.{suffix_at, direct_at, tail_at}
use Rattle.std.specs.declared.alloc.Global.{Global}
use Rattle.std.specs.declared.boxed.Box.{Box}
use Rattle.c_syntax_written.specs.declared.written.Declarator.{Declarator}
use Rattle.c_parser_steps.specs.Views.{boxed_declarator}

-- Memory aside, the fault is a stop of this kind.
pub data Halts (stops : Why → List Placed → Type 0) : Fault → Type 0 where
  no_memory : Halts stops faults.NoMemory
  syntax : {rest : Bor (List Placed)} → stops Syntax rest.now → Halts stops (faults.Syntax rest)
  unsupported : {c : Construct} {rest : Bor (List Placed)} → stops (Unsupported c) rest.now → Halts stops (faults.Unsupported c rest)
  too_deep : {rest : Bor (List Placed)} → stops TooDeep rest.now → Halts stops (faults.TooDeep rest)

-- Memory aside, the fault is a stop for this reason at these tokens.
abbrev pub IsStop : Why → List Placed → Fault → Type 0
IsStop why tokens f = Halts (λ reason rest. (reason ≡ why) × (rest ≡ tokens)) f

-- The result is an outcome of this kind.
pub data Gives {A V : Type 0} (goes : Outcome V → Type 0) (view : A → V) : Result (A × Bor (List Placed)) Fault → Type 0 where
  given : {x : A × Bor (List Placed)} → goes (Done (view x.0) x.1.now) → Gives goes view (Ok x)
  halted : {f : Fault} → Halts (λ why rest. goes (Stop why rest)) f → Gives goes view (Err f)

-- The result is how the descent reads the part.
abbrev pub Answers : {A : Type 0} → ℕ → Scene → (p : Part) → List Placed → (A → Value p) → Result (A × Bor (List Placed)) Fault → Type 0
Answers count scene p tokens view r = Gives (λ o. Goes count scene p tokens o) view r

-- The result is how the descent reads what is left of a production of the part.
abbrev pub Reads : {A : Type 0} → ℕ → Scene → (p : Part) → Process (Value p) → List Placed → (A → Value p) → Result (A × Bor (List Placed)) Fault → Type 0
Reads count scene p q tokens view r = Gives (λ o. Follows count scene p q tokens o) view r

-- The result is how the descent takes a token of a production.
pub data Takes (count : ℕ) (scene : Scene) (forms : ℕ) (class : Class) (tokens : List Placed) : Result (Bor Placed × Bor (List Placed)) Fault → Type 0 where
  taken : {x : Bor Placed × Bor (List Placed)}
      → ((p : Part) (k : Placed → Process (Value p)) (o : Outcome (Value p)) → Follows count scene p (k x.0.now) x.1.now o
      → Follows count scene p (token forms class k) tokens o) → Takes count scene forms class tokens (Ok x)
  refused : {f : Fault}
      → Halts (λ why rest. (p : Part) (k : Placed → Process (Value p)) → Follows count scene p (token forms class k) tokens (Stop why rest)) f
      → Takes count scene forms class tokens (Err f)

-- The result is one step of the descent: where it goes on from what was read, it goes on from the start.
pub data Steps {A V : Type 0} (goes : Outcome V → Type 0) (next : A → List Placed → Outcome V → Type 0) : Result (A × Bor (List Placed)) Fault → Type 0 where
  stepped : {x : A × Bor (List Placed)} → ((o : Outcome V) → next x.0 x.1.now o → goes o) → Steps goes next (Ok x)
  stalled : {f : Fault} → Halts (λ why rest. goes (Stop why rest)) f → Steps goes next (Err f)

-- the words `const` behind a `*`
abbrev pub Consts : ℕ → Scene → Role → Pos → List Placed → Result (Bool × Bor (List Placed)) Fault → Type 0
Consts count scene role at tokens r = Steps (λ o. Goes count scene (ADeclarator (Pointed role at false)) tokens o)
    (λ is_const rest o. Goes count scene (ADeclarator (Pointed role at is_const)) rest o) r

-- a postfix form of this kind comes, and may follow the expression
abbrev pub CallComes : List Placed → ExprTree → Type 0
CallComes tokens base = (suffix_at tokens ≡ suffixes.Call) × (is_word base ≡ true)

abbrev pub SuffixComes : List Placed → SuffixKind → ExprTree → Type 0
SuffixComes tokens suffixes.Index base = suffix_at tokens ≡ suffixes.Index
SuffixComes tokens suffixes.Call base = CallComes tokens base
SuffixComes tokens suffixes.Dot base = suffix_at tokens ≡ suffixes.Dot
SuffixComes tokens suffixes.Arrow base = suffix_at tokens ≡ suffixes.Arrow
SuffixComes tokens (suffixes.Step way) base = suffix_at tokens ≡ suffixes.Step way
SuffixComes tokens suffixes.Nothing base = ⊥

-- a declarator begins with a star
abbrev pub DeclaratorStarts : Scene → Role → List Placed → Type 0
DeclaratorStarts scene role tokens = ((first_is (is_type_name scene) tokens && may_name role) ≡ false) × (first_is is_star tokens ≡ true)

-- a declarator behind its stars begins so
abbrev pub DirectStarts : Scene → Role → List Placed → DirectKind → Type 0
DirectStarts scene role tokens kind = ((may_omit role && params_ahead scene tokens) ≡ false) × (direct_at scene role tokens ≡ kind)

-- brackets or parameters come
abbrev pub TailStarts : List Placed → TailKind → Type 0
TailStarts tokens tails.Array = tail_at tokens ≡ tails.Array
TailStarts tokens tails.Function = tail_at tokens ≡ tails.Function
TailStarts tokens tails.Nothing = ⊥

-- the declarator goes on with brackets or parameters, where they bear no construct
abbrev pub Extends : ℕ → Scene → Role → DeclaratorTree → List Placed → Result (Box Declarator Global × Bor (List Placed)) Fault → Type 0
Extends count scene role inner tokens r = (plain : Bool) → part_construct scene (ADeclarator (Tails role plain inner)) tokens ≡ None
    → Steps (λ o. Goes count scene (ADeclarator (Tails role plain inner)) tokens o)
    (λ longer rest o. Goes count scene (ADeclarator (Tails role false (boxed_declarator longer))) rest o) r

-- brackets without a size, and not of a member
abbrev pub SizeIsMissing : Role → List Placed → Type 0
SizeIsMissing role tokens = (in_member role ≡ false) × (first_is is_right_bracket tokens ≡ true)
