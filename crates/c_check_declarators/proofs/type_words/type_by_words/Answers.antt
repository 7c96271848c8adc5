use Rattle.std.proofs.Common.{ap, ◌∙◌, nat_eq}
use Rattle.std.specs.Prelude.{find, option_map}
use Rattle.std.specs.Cmp.Lexicographic.{pointwise}
use Rattle.c_check_declarators.specs.declared.type_words.TheConstants.{TYPE_LISTS}
use Rattle.c_check_declarators.proofs.Words.{by_words}
use Rattle.c_check_declarators.proofs.type_words.type_by_words.Goals as goal

pub returns : goal.returns
returns c =
    c.type_in.ensures ∙ by_words c.args.words.now c.listed.result
    (c.listed.ensures ∙ ap (λ counts. option_map (λ list. list.ty) (find (λ list. pointwise nat_eq list.counts counts) TYPE_LISTS)) c.counts_of-counts.ensures)
