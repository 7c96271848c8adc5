-- Steps of the descent through expressions.
use Rattle.std.proofs.Common.{◌≡◌, refl, sym, subst, ap, ◌∙◌, ℕ, ◌+◌, Bool, true, false, not, ◌&&◌, List, [], ◌∷◌, Bor}
use Rattle.std.specs.Prelude.{Result, Ok, Err, Option, Some, None}
use Rattle.std.specs.declared.alloc.Global.{Global}
use Rattle.std.specs.declared.boxed.Box.{Box}
use Rattle.c_syntax_written.specs.declared.place.Pos.{Pos}
use Rattle.c_syntax_written.specs.declared.construct.Construct.TheVariants as constructs
use Rattle.c_syntax_written.specs.declared.token.Placed.{Placed}
use Rattle.c_syntax_written.specs.declared.token.Punctuator.{Punctuator}
use Rattle.c_syntax_written.specs.declared.token.Punctuator.TheVariants as signs
use Rattle.c_syntax_written.specs.declared.token.Token.{Token}
use Rattle.c_syntax_written.specs.declared.token.Token.TheVariants as kinds
use Rattle.c_syntax_written.specs.declared.written.Expr.{Expr}
use Rattle.c_syntax_written.specs.Written.{expr_tree, ExprTree, ExprTrees, Word, Call}
use Rattle.c_syntax_written.specs.WrittenParts.{as_word}
use Rattle.c_grammar.specs.Parts.{Scene, Part, Value, ExprPart, Run, More, Assignment, Cast, Suffixes, AnExpr, Arguments, MoreArguments}
use Rattle.c_grammar.specs.Process.{Process, give, token, part}
use Rattle.c_grammar.specs.declared.class.Class.TheVariants.{Sign as sign}
use Rattle.c_grammar.specs.Classes.{joint_sign}
use Rattle.c_grammar.specs.Grammar.{expr_rule, at_start}
use Rattle.c_grammar.specs.ExprRules as exprs
use Rattle.c_grammar.specs.ExprRules.{operand}
use Rattle.c_grammar.specs.Ahead.{is_open}
use Rattle.c_grammar.specs.Refused.{first_is, where_true, part_construct}
use Rattle.c_grammar.specs.Made.{is_word, joined}
use Rattle.c_grammar.specs.Descent.{Outcome, Stop, Goes, Follows}
use Rattle.c_parser_steps.specs.declared.fault.Fault.{Fault}
use Rattle.c_grammar.specs.declared.Level.{Level}
use Rattle.c_grammar.specs.declared.Level.TheVariants as levels
use Rattle.c_parser_steps.specs.declared.level.OperandKind.{OperandKind}
use Rattle.c_parser_steps.specs.declared.level.OperandKind.TheVariants as operands
use Rattle.c_grammar.specs.declared.Joint.{Joint}
use Rattle.c_parser_steps.specs.Views.{boxed_expr, is_question}
use Rattle.c_parser_steps.specs.Answers.{Gives, Halts, SuffixComes}
use Rattle.c_parser_leaves.specs.Readers.{ReadsBehind}
use Rattle.c_parser_steps.specs.declared.kind.SuffixKind.{SuffixKind}
use Rattle.c_parser_steps.specs.declared.kind.SuffixKind.TheVariants as suffixes
use Rattle.c_parser_steps.specs.Kinds.{joint_here, operand_of, suffix_at, is_no_suffix}
use Rattle.c_parser_steps.proofs.Choices.{Chosen, MoreTells, more_is, SuffixTells, suffix_is}
use Rattle.c_parser_steps.proofs.Steps.{by, halts, stall, step}
use Rattle.c_parser_steps.proofs.Last.{same, last_inside}

-- the operand as a part of an expression
abbrev pub operand_part : OperandKind → ExprPart
operand_part operands.Assignment = Assignment
operand_part (operands.Run l) = Run l
operand_part operands.Cast = Cast

operand_is : (l : Level) → operand l ≡ operand_part (operand_of l)
operand_is levels.Commas = refl
operand_is _ = refl

-- the operand of a level
pub operand_at : {A : Type 0} {d : ℕ} {w : Scene} {ts : List Placed} {view : A → ExprTree} {r : Result (A × Bor (List Placed)) Fault} (l : Level) {k : OperandKind} → operand_of l ≡ k → Gives (λ o. Goes d w (AnExpr (operand_part k)) ts o) view r → Gives (λ o. Goes d w (AnExpr (operand l)) ts o) view r
operand_at {A} {d} {w} {ts} {view} {r} l e h = subst (λ x. Gives (λ o. Goes d w (AnExpr x) ts o) view r) (sym (operand_is l ∙ ap operand_part e)) h

question_token : (w : Scene) (condition : ExprTree) (at : Pos) (k : Token) (ts : List Placed) → is_question k ≡ false → Chosen (expr_rule (exprs.not_chosen {w = w} {condition = condition})) (record { pos = at; token = k } ∷ ts)
question_token w condition at (kinds.Punctuator signs.Question) ts e = absurd (let h : true ≡ false = e in cc)
question_token w condition at _ ts e = refl

-- no `?` comes
pub not_question : (w : Scene) (condition : ExprTree) (ts : List Placed) → first_is is_question ts ≡ false → Chosen (expr_rule (exprs.not_chosen {w = w} {condition = condition})) ts
not_question w condition [] e = refl
not_question w condition (t ∷ ts) e = question_token w condition t.pos t.token ts e

asked_token : (w : Scene) (condition : ExprTree) (at : Pos) (k : Token) (ts : List Placed) → is_question k ≡ true → Chosen (expr_rule (exprs.chosen {w = w} {condition = condition})) (record { pos = at; token = k } ∷ ts)
asked_token w condition at (kinds.Punctuator signs.Question) ts e = refl
asked_token w condition at _ ts e = absurd (let h : false ≡ true = e in cc)

-- a `?` comes
pub is_question_ahead : (w : Scene) (condition : ExprTree) (ts : List Placed) → first_is is_question ts ≡ true → Chosen (expr_rule (exprs.chosen {w = w} {condition = condition})) ts
is_question_ahead w condition [] e = absurd (let h : false ≡ true = e in cc)
is_question_ahead w condition (t ∷ ts) e = asked_token w condition t.pos t.token ts e

-- where no parenthesis comes, a postfix form bears no construct
pub suffix_free : (w : Scene) (base : ExprTree) (ts : List Placed) → first_is is_open ts ≡ false → part_construct w (AnExpr (Suffixes base)) ts ≡ None
suffix_free w base ts e = ap (λ v. where_true (v && not (is_word base)) constructs.FunctionPointer) e

pub suffixes_at : {d : ℕ} {w : Scene} {a b : ExprTree} {ts : List Placed} {o : Outcome ExprTree} → a ≡ b → Goes d w (AnExpr (Suffixes a)) ts o → Goes d w (AnExpr (Suffixes b)) ts o
suffixes_at {d} {w} {a} {b} {ts} {o} e g = subst (λ v. Goes d w (AnExpr (Suffixes v)) ts o) e g

pub more_at : {d : ℕ} {w : Scene} {l : Level} {a b : ExprTree} {ts : List Placed} {o : Outcome ExprTree} → a ≡ b → Goes d w (AnExpr (More l a)) ts o → Goes d w (AnExpr (More l b)) ts o
more_at {d} {w} {l} {a} {b} {ts} {o} e g = subst (λ v. Goes d w (AnExpr (More l v)) ts o) e g

pub arguments_at : {d : ℕ} {w : Scene} {a b : ExprTrees} {ts : List Placed} {o : Outcome ExprTrees} → a ≡ b → Goes d w (MoreArguments a) ts o → Goes d w (MoreArguments b) ts o
arguments_at {d} {w} {a} {b} {ts} {o} e g = subst (λ v. Goes d w (MoreArguments v) ts o) e g

-- what stands behind the sign that is asked for
pub behind_sign : {d : ℕ} {w : Scene} {a b : Punctuator} {x : ExprPart} {ts : List Placed} {r : Result ((Pos × Box Expr Global) × Bor (List Placed)) Fault} → a ≡ b → ReadsBehind d w a x ts r → ReadsBehind d w b x ts r
behind_sign {d} {w} {a} {b} {x} {ts} {r} e h = subst (λ v. ReadsBehind d w v x ts r) e h

-- one more joint and its operand
pub joint_step : {d : ℕ} {w : Scene} {l : Level} {j : Joint} {left whole : ExprTree} {x : (Pos × Box Expr Global) × Bor (List Placed)} {ts : List Placed} (o : Outcome ExprTree) → joint_here l ts ≡ Some j → ReadsBehind d w (joint_sign j) (operand l) ts (Ok x) → whole ≡ joined j x.0.0 left (boxed_expr x.0.1) → Goes (d + 1) w (AnExpr (More l whole)) x.1.now o → Goes d w (AnExpr (More l left)) ts o
joint_step {d} {w} {l} {j} {left} {whole} {x} {ts} o e r h k =
    let m : MoreTells w l left ts (Some j) = more_is w l left ts e in
    by (expr_rule (exprs.run_more j m.0)) refl m.1 (step (r (AnExpr (More l left)) (λ at right. part 1 w (AnExpr (More l (joined j at left right))) give)) o (last_inside same o (more_at h k)))

-- a stop behind a joint that comes
pub joint_stop : {d : ℕ} {w : Scene} {l : Level} {j : Joint} {left : ExprTree} {ts : List Placed} {f : Fault} → joint_here l ts ≡ Some j → ReadsBehind d w (joint_sign j) (operand l) ts (Err f) → Halts (λ why rest. Goes d w (AnExpr (More l left)) ts (Stop why rest)) f
joint_stop {d} {w} {l} {j} {left} {ts} {f} e r =
    let m : MoreTells w l left ts (Some j) = more_is w l left ts e in
    halts (stall (r (AnExpr (More l left)) (λ at right. part 1 w (AnExpr (More l (joined j at left right))) give))) (λ why rest g. by (expr_rule (exprs.run_more j m.0)) refl m.1 g)

-- the name of a member
pub member_at : {d : ℕ} {w : Scene} {p : Part} (k : Pos → List ℕ → Process (Value p)) {at : Pos} {a b : List ℕ} {ts : List Placed} {o : Outcome (Value p)} → a ≡ b → Follows d w p (k at a) ts o → Follows d w p (k at b) ts o
member_at {d} {w} {p} k {at} {a} {b} {ts} {o} e f = subst (λ v. Follows d w p (k at v) ts o) e f

pub and_left : (a b : Bool) → (a && b) ≡ true → a ≡ true
and_left true b e = refl
and_left false b e = absurd (let h : false ≡ true = e in cc)

-- what was asked of a borrowed expression holds of the expression
pub rebased : (a : Bool) {b : Bool} {v u : Expr} → v ≡ u → b ≡ (a && not (is_word (expr_tree v))) → (a && not (is_word (expr_tree u))) ≡ b
rebased a {b} {v} {u} e h = sym (h ∙ ap (λ x. a && not (is_word (expr_tree x))) e)

pub nothing_of : (k : SuffixKind) → is_no_suffix k ≡ true → k ≡ suffixes.Nothing
nothing_of suffixes.Nothing e = refl
nothing_of _ e = absurd (let h : false ≡ true = e in cc)

-- a call of a word
pub call_by : {d : ℕ} {w : Scene} {at : Pos} {name : List ℕ} {ts : List Placed} {o : Outcome ExprTree} → suffix_at ts ≡ suffixes.Call → Follows d w (AnExpr (Suffixes (Word at name))) (token 2 (sign signs.LeftParenthesis) (λ t. part 2 w Arguments (λ args. part 1 w (AnExpr (Suffixes (Call at name args))) give))) ts o → Goes d w (AnExpr (Suffixes (Word at name))) ts o
call_by {d} {w} {at} {name} {ts} e f =
    let s : SuffixTells w (Word at name) ts suffixes.Call = suffix_is w (Word at name) ts e in
    by (expr_rule exprs.call) (ap (λ v. where_true (v && false) constructs.FunctionPointer) s.1) s.0 f

only_word : (b : Bool) → not b ≡ false → b ≡ true
only_word true e = refl
only_word false e = absurd (let h : true ≡ false = e in cc)

called : (a b : Bool) → a ≡ true → (a && not b) ≡ false → b ≡ true
called true b e f = only_word b f
called false b e f = absurd (let h : false ≡ true = e in cc)

-- a postfix form that comes may follow the expression
pub suffix_comes : (base : ExprTree) (ts : List Placed) (k : SuffixKind) → suffix_at ts ≡ k → is_no_suffix k ≡ false → (first_is is_open ts && not (is_word base)) ≡ false → SuffixComes ts k base
suffix_comes base ts suffixes.Index e f g = e
suffix_comes base ts suffixes.Call e f g = (e, called (first_is is_open ts) (is_word base) (suffix_is at_start base ts e).1 g)
suffix_comes base ts suffixes.Dot e f g = e
suffix_comes base ts suffixes.Arrow e f g = e
suffix_comes base ts (suffixes.Step way) e f g = e
suffix_comes base ts suffixes.Nothing e f g = absurd (let h : true ≡ false = f in cc)

-- what a word gives is the word
pub word_is : (e : ExprTree) {told : Pos × List ℕ} → as_word e ≡ Some told → e ≡ Word told.0 told.1
word_is (Word at name) {told} h = subst (λ (v : Pos × List ℕ). Word at name ≡ Word v.0 v.1) (let i : Some (at, name) ≡ Some told = h in cc) refl
word_is _ {told} h = absurd (let i : None ≡ Some told = h in cc)

-- a word gives one
pub word_given : (e : ExprTree) → is_word e ≡ true → as_word e ≡ None → ⊥
word_given (Word at name) h k = let i : Some (at, name) ≡ None = k in cc
word_given _ h k = let i : false ≡ true = h in cc

-- no joint of the level comes
pub no_joint : {h : Option Joint} (r : Option Joint) → ((j : Joint) → r ≡ Some j → ⊥) → r ≡ h → h ≡ None
no_joint (Some j) k e = absurd (k j refl)
no_joint None k e = sym e
