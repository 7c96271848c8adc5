-- Steps of the descent through strings that stand next to each other.
use Rattle.std.proofs.Common.{◌≡◌, refl, subst, ℕ, true, false, List, [], ◌∷◌, ◌++◌, Bor}
use Rattle.std.specs.Prelude.{Ok}
use Rattle.c_syntax_written.specs.declared.place.Pos.{Pos}
use Rattle.c_syntax_written.specs.declared.token.Placed.{Placed}
use Rattle.c_syntax_written.specs.declared.token.Token.{Token}
use Rattle.c_syntax_written.specs.declared.token.Token.TheVariants as kinds
use Rattle.c_syntax_written.specs.Written.{ExprTree}
use Rattle.c_grammar.specs.Parts.{Scene, Part, Value, Texts, AnExpr}
use Rattle.c_grammar.specs.Process.{Process, token}
use Rattle.c_grammar.specs.declared.class.Class.TheVariants.{Text as text}
use Rattle.c_grammar.specs.Classes.{bytes_of}
use Rattle.c_grammar.specs.Grammar.{expr_rule}
use Rattle.c_grammar.specs.ExprRules as exprs
use Rattle.c_grammar.specs.Refused.{first_is, Why}
use Rattle.c_grammar.specs.Descent.{Outcome, Stop, Goes, Follows}
use Rattle.c_parser_steps.specs.Views.{is_text}
use Rattle.c_parser_steps.specs.Answers.{Takes}
use Rattle.c_parser_steps.proofs.Steps.{by, take}
use Rattle.c_parser_steps.proofs.Last.{same, last_part}
use Rattle.c_parser_steps.proofs.Choices.{Chosen}

text_token : (w : Scene) (at : Pos) (before : List ℕ) (place : Pos) (k : Token) (ts : List Placed) → is_text k ≡ true → Chosen (expr_rule (exprs.texts_more {w = w} {at = at} {before = before})) (record { pos = place; token = k } ∷ ts)
text_token w at before place (kinds.Text bytes) ts e = refl
text_token w at before place _ ts e = absurd (let h : false ≡ true = e in cc)

-- a string comes
pub text_comes : (w : Scene) (at : Pos) (before : List ℕ) (ts : List Placed) → first_is is_text ts ≡ true → Chosen (expr_rule (exprs.texts_more {w = w} {at = at} {before = before})) ts
text_comes w at before [] e = absurd (let h : false ≡ true = e in cc)
text_comes w at before (t ∷ ts) e = text_token w at before t.pos t.token ts e

end_token : (w : Scene) (at : Pos) (before : List ℕ) (place : Pos) (k : Token) (ts : List Placed) → is_text k ≡ false → Chosen (expr_rule (exprs.texts_end {w = w} {at = at} {before = before})) (record { pos = place; token = k } ∷ ts)
end_token w at before place (kinds.Text bytes) ts e = absurd (let h : true ≡ false = e in cc)
end_token w at before place _ ts e = refl

-- none comes
pub text_ends : (w : Scene) (at : Pos) (before : List ℕ) (ts : List Placed) → first_is is_text ts ≡ false → Chosen (expr_rule (exprs.texts_end {w = w} {at = at} {before = before})) ts
text_ends w at before [] e = refl
text_ends w at before (t ∷ ts) e = end_token w at before t.pos t.token ts e

-- what the strings before hold is this
pub texts_at : {d : ℕ} {w : Scene} {at : Pos} {a b : List ℕ} {ts : List Placed} {o : Outcome ExprTree} → a ≡ b → Goes d w (AnExpr (Texts at a)) ts o → Goes d w (AnExpr (Texts at b)) ts o
texts_at {d} {w} {at} {a} {b} {ts} {o} e g = subst (λ v. Goes d w (AnExpr (Texts at v)) ts o) e g

-- one more string
pub text_step : {d : ℕ} {w : Scene} {at : Pos} {before longer : List ℕ} {p : Bor Placed × Bor (List Placed)} {ts : List Placed} (o : Outcome ExprTree) → first_is is_text ts ≡ true → Takes d w 0 text ts (Ok p) → longer ≡ before ++ bytes_of p.0.now.token → Goes d w (AnExpr (Texts at longer)) p.1.now o → Goes d w (AnExpr (Texts at before)) ts o
text_step {d} {w} {at} {before} {longer} {p} {ts} o e t h k =
    by (expr_rule exprs.texts_more) refl (text_comes w at before ts e) (take t (last_part same o (texts_at h k)))

pub text_stop : {d : ℕ} {w : Scene} {at : Pos} {before : List ℕ} {ts rest : List Placed} {why : Why} → first_is is_text ts ≡ true → ((p : Part) (k : Placed → Process (Value p)) → Follows d w p (token 0 text k) ts (Stop why rest)) → Goes d w (AnExpr (Texts at before)) ts (Stop why rest)
text_stop {d} {w} {at} {before} {ts} e g = by (expr_rule exprs.texts_more) refl (text_comes w at before ts e) (g _ _)
