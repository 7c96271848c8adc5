-- Specs and parameters that stand alone, and the first of specs.
use Rattle.std.proofs.Common.{◌≡◌, ◌<◌, ◌≤◌, false, List, [], ◌∷◌, length, get_or, refl, sym, ap, arith}
use Rattle.c_syntax_written.specs.declared.written.Param.{Param}
use Rattle.c_syntax_written.specs.declared.written.Spec.{Spec}
use Rattle.c_syntax_written.specs.Written.{spec_tree, specs_from, param_tree, params_from}
use Rattle.c_syntax_written.specs.WrittenParts.{spec_pos}
use Rattle.c_grammar.specs.Made.{is_bare_void, specs_pos}
use Rattle.c_parser_steps.specs.Kinds.{is_void_spec, is_void_word, is_void_alone}

pub void_word_of : (xs : List Spec) (x : Spec) → length xs < 2 → 1 ≤ length xs → x ≡ get_or xs 0 x → is_void_word (specs_from xs) ≡ is_void_spec (spec_tree x)
unfolding specs_from
void_word_of [] x h k e = absurd (omega arith)
void_word_of (y ∷ []) x h k e = ap (λ v. is_void_spec (spec_tree v)) (sym e)
void_word_of (y ∷ z ∷ rest) x h k e = absurd (omega arith)

pub no_void_word : (xs : List Spec) → length xs < 1 → is_void_word (specs_from xs) ≡ false
unfolding specs_from
no_void_word [] h = refl
no_void_word (y ∷ rest) h = absurd (omega arith)

pub words_and_more : (xs : List Spec) → 2 ≤ length xs → is_void_word (specs_from xs) ≡ false
unfolding specs_from
words_and_more [] h = absurd (omega arith)
words_and_more (y ∷ []) h = absurd (omega arith)
words_and_more (y ∷ z ∷ rest) h = refl

pub void_alone_of : (xs : List Param) (x : Param) → length xs < 2 → 1 ≤ length xs → x ≡ get_or xs 0 x → is_void_alone (params_from xs) ≡ is_bare_void (param_tree x)
unfolding params_from
void_alone_of [] x h k e = absurd (omega arith)
void_alone_of (y ∷ []) x h k e = ap (λ v. is_bare_void (param_tree v)) (sym e)
void_alone_of (y ∷ z ∷ rest) x h k e = absurd (omega arith)

pub no_void_alone : (xs : List Param) → length xs < 1 → is_void_alone (params_from xs) ≡ false
unfolding params_from
no_void_alone [] h = refl
no_void_alone (y ∷ rest) h = absurd (omega arith)

pub params_and_more : (xs : List Param) → 2 ≤ length xs → is_void_alone (params_from xs) ≡ false
unfolding params_from
params_and_more [] h = absurd (omega arith)
params_and_more (y ∷ []) h = absurd (omega arith)
params_and_more (y ∷ z ∷ rest) h = refl

pub no_pos : (xs : List Spec) → length xs < 1 → specs_pos (specs_from xs) ≡ record { file = 0; line = 0; col = 0 }
unfolding specs_from
no_pos [] h = refl
no_pos (y ∷ rest) h = absurd (omega arith)

pub first_pos : (xs : List Spec) (x : Spec) → 1 ≤ length xs → x ≡ get_or xs 0 x → specs_pos (specs_from xs) ≡ spec_pos (spec_tree x)
unfolding specs_from
first_pos [] x h e = absurd (omega arith)
first_pos (y ∷ rest) x h e = ap (λ v. spec_pos (spec_tree v)) (sym e)
