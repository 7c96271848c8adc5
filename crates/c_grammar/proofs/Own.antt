-- The token of each operator, word or end is of the set that it belongs to.
use Rattle.std.proofs.Common.{◌≡◌, refl, sym, subst, true, false, ◌||◌, Some, true≢false}
use Rattle.c_syntax_written.specs.declared.step.StepWay.{StepWay}
use Rattle.c_syntax_written.specs.declared.step.StepWay.TheVariants as ways
use Rattle.c_syntax_written.specs.declared.written.AssignOp.{AssignOp}
use Rattle.c_syntax_written.specs.declared.written.AssignOp.TheVariants as assigns
use Rattle.c_syntax_written.specs.declared.written.BinaryOp.TheVariants as binaries
use Rattle.c_syntax_written.specs.declared.written.StorageWord.{StorageWord}
use Rattle.c_syntax_written.specs.declared.written.StorageWord.TheVariants as storages
use Rattle.c_syntax_written.specs.declared.written.TypeWord.{TypeWord}
use Rattle.c_syntax_written.specs.declared.written.TypeWord.TheVariants as type_words
use Rattle.c_syntax_written.specs.declared.written.UnaryOp.{UnaryOp}
use Rattle.c_syntax_written.specs.declared.written.UnaryOp.TheVariants as unaries
use Rattle.c_grammar.specs.declared.parts.Level.{Level}
use Rattle.c_grammar.specs.declared.parts.Joint.{Joint}
use Rattle.c_grammar.specs.declared.parts.Joint.TheVariants.{Comma as comma, Binary as binary}
use Rattle.c_grammar.specs.declared.parts.Closing.{Closing}
use Rattle.c_grammar.specs.declared.parts.Closing.TheVariants.{BySemicolon as by_semicolon, ByParenthesis as by_parenthesis, ByBracket as by_bracket, ByColon as by_colon}
use Rattle.c_grammar.specs.declared.class.Class.TheVariants.{Sign as sign, Keyword as keyword}
use Rattle.c_grammar.specs.Classes.{unary_sign, step_sign, joint_sign, closing_sign, level_of, assign_sign, storage_word, type_word}
use Rattle.c_grammar.specs.Ahead.{is_spec_word}
use Rattle.c_grammar.specs.Choice.{joint_of_sign, is_closing}
use Rattle.c_grammar.proofs.Firsts.{is_of_rank, is_assigning, is_suffix, expr_first, spec_first, by_token}

pub never : {A : Type 0} → false ≡ true → A
never e = absurd (true≢false (sym e))

pub joint_read : (j : Joint) → joint_of_sign (joint_sign j) ≡ Some j
joint_read comma = refl
joint_read (binary binaries.Multiply) = refl
joint_read (binary _) = refl

joint_ranked : (j : Joint) → is_of_rank (level_of j) (joint_of_sign (joint_sign j)) ≡ true
joint_ranked comma = refl
joint_ranked (binary binaries.Multiply) = refl
joint_ranked (binary _) = refl

pub joint_own : (l : Level) (j : Joint) → level_of j ≡ l → is_of_rank l (joint_of_sign (joint_sign j)) ≡ true
joint_own l j e = subst (λ l. is_of_rank l (joint_of_sign (joint_sign j)) ≡ true) e (joint_ranked j)

pub assign_own : (op : AssignOp) → is_assigning (assign_sign op) ≡ true
assign_own assigns.Plus = refl
assign_own _ = refl

pub unary_own : (op : UnaryOp) → expr_first (sign (unary_sign op)) ≡ true
unary_own unaries.Plus = refl
unary_own _ = refl

pub pre_step_own : (way : StepWay) → expr_first (sign (step_sign way)) ≡ true
pre_step_own ways.Up = refl
pre_step_own ways.Down = refl

pub post_step_own : (way : StepWay) → is_suffix (step_sign way) ≡ true
post_step_own ways.Up = refl
post_step_own ways.Down = refl

pub closing_own : (p : Closing) → (expr_first (sign (closing_sign p)) || by_token (is_closing p) (sign (closing_sign p))) ≡ true
closing_own by_semicolon = refl
closing_own by_parenthesis = refl
closing_own by_bracket = refl
closing_own by_colon = refl

pub close_own : (p : Closing) → by_token (is_closing p) (sign (closing_sign p)) ≡ true
close_own by_semicolon = refl
close_own by_parenthesis = refl
close_own by_bracket = refl
close_own by_colon = refl

pub storage_own : (s : StorageWord) → spec_first (keyword (storage_word s)) ≡ true
unfolding is_spec_word
storage_own storages.Typedef = refl
storage_own _ = refl

pub type_word_own : (s : TypeWord) → spec_first (keyword (type_word s)) ≡ true
unfolding is_spec_word
type_word_own type_words.Void = refl
type_word_own _ = refl
