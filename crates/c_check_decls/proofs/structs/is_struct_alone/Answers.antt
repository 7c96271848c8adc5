use Rattle.std.proofs.Common.{◌≡◌, [], ap, sym, ◌∙◌, length, arith}
use Rattle.std.proofs.lemmas.Bool.{eqb-false}
use Rattle.std.proofs.lemmas.Grind.{common_steps}
use Rattle.c_syntax_written.specs.Written.{specs_tree}
use Rattle.c_check_decls.proofs.Alone.{more_words, one_word, without_words}
use Rattle.c_check_decls.proofs.structs.is_struct_alone.Goals as goal

pub returns-in-None : goal.returns-in-None
returns-in-None c =
    let empty : c.args.items.now ≡ [] = grind (arith, common_steps, c.is_empty.ensures, c.if-not-is_empty.false) in
    let none : c.as_slice.result.now ≡ [] = grind (arith, common_steps, c.in-None.ensures.cases) in
    without_words c.as_slice.result.now (specs_tree c.args.words.now) c.args.items.now none c.as_slice.ensures empty

pub returns-then-is_empty : goal.returns-then-is_empty
returns-then-is_empty c =
    let empty : c.args.items.now ≡ [] = grind (arith, common_steps, c.is_empty.ensures, c.if-not-is_empty.false) in
    let last : c.in-Some.rest.now ≡ [] = grind (arith, common_steps, c.is_empty-in-Some.ensures, c.if-is_empty.true) in
    one_word c.as_slice.result.now c.in-Some.rest.now c.in-Some.word.now (specs_tree c.args.words.now) c.args.items.now c.is_struct.result
    c.in-Some.ensures.cases.0 last c.as_slice.ensures empty c.is_struct.ensures

pub returns-else-is_empty : goal.returns-else-is_empty
returns-else-is_empty c =
    let empty : c.args.items.now ≡ [] = grind (arith, common_steps, c.is_empty.ensures, c.if-not-is_empty.false) in
    more_words c.as_slice.result.now c.in-Some.rest.now c.in-Some.word.now (specs_tree c.args.words.now) c.args.items.now
    c.in-Some.ensures.cases.0 (λ e. eqb-false (length c.in-Some.rest.now) 0 (sym c.is_empty-in-Some.ensures ∙ c.if-is_empty.false) (ap length e)) c.as_slice.ensures empty
