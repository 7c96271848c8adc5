use Rattle.std.proofs.Common.{◌≡◌, refl, ap, sym, ◌∙◌, subst, [], arith}
use Rattle.std.proofs.lemmas.Grind.{common_steps}
use Rattle.std.proofs.lemmas.Option.{IfSome_then}
use Rattle.c_syntax_written.specs.Written.{expr_tree}
use Rattle.c_syntax_written.specs.WrittenDecl as decls
use Rattle.c_syntax_written.specs.WrittenDecl.{init_tree, inits_from, inits_tree}
use Rattle.c_syntax_written.specs.Sizes.{inits_size}
use Rattle.c_syntax_written.proofs.WrittenDeclTrees.{init_braces, init_value, inits_cons, inits_nil}
use Rattle.c_syntax.specs.Types.{ctype_tree}
use Rattle.c_typing.specs.World.{NotConstant, Refused}
use Rattle.c_check_names.specs.Views.{refusal_of}
use Rattle.c_check_names.specs.Worlds.{world_of}
use Rattle.c_check_inits.specs.Forms.{ListInBraces}
use Rattle.c_check_inits.proofs.Lines.{expression_line, inner_list_line, no_list_line}
use Rattle.c_check_inits.proofs.excess.+list_in_braces.Goals as goal

pub list_in_braces-requires : goal.list_in_braces-requires
list_in_braces-requires t c =
    let rest = inits_from c.in-Some._rest.now in
    let list : inits_tree c.args.list.now ≡ decls.more_inits (init_tree c.in-Some.first.now) rest
    = sym c.as_slice.ensures ∙ ap inits_from c.in-Some.ensures.cases.0 ∙ inits_cons c.in-Some.first.now c.in-Some._rest.now in
    let size : inits_size (inits_tree c.args.list.now) ≡ inits_size (decls.more_inits (decls.Braces c.in-Braces.pos (inits_tree c.in-Braces.items)) rest)
    = ap inits_size (list ∙ ap (λ item. decls.more_inits item rest) (ap init_tree c.in-Braces.is ∙ init_braces c.in-Braces.pos c.in-Braces.items)) in
    (omega arith, tt)

pub returns-in-None : goal.returns-in-None
returns-in-None t c =
    let w = world_of c.args.world.now in
    let whole = ctype_tree c.args.whole.now in
    let none : c.as_slice.result.now ≡ [] = grind (arith, common_steps, c.in-None.ensures.cases) in
    subst (λ l. ListInBraces w whole c.args.at l (Refused (NotConstant c.args.at))) (sym (sym c.as_slice.ensures ∙ ap inits_from none ∙ inits_nil))
    (no_list_line w whole c.args.at (Refused (NotConstant c.args.at)) refl)

pub returns-in-Braces : goal.returns-in-Braces
returns-in-Braces t c =
    let w = world_of c.args.world.now in
    let whole = ctype_tree c.args.whole.now in
    let rest = inits_from c.in-Some._rest.now in
    let list : inits_tree c.args.list.now ≡ decls.more_inits (init_tree c.in-Some.first.now) rest
    = sym c.as_slice.ensures ∙ ap inits_from c.in-Some.ensures.cases.0 ∙ inits_cons c.in-Some.first.now c.in-Some._rest.now in
    IfSome_then (refusal_of c.list_in_braces.result) c.list_in_braces.ensures (λ r p.
    subst (λ l. ListInBraces w whole c.args.at l (Refused r))
    (sym (list ∙ ap (λ item. decls.more_inits item rest) (ap init_tree c.in-Braces.is ∙ init_braces c.in-Braces.pos c.in-Braces.items)))
    (inner_list_line w whole c.args.at c.in-Braces.pos (inits_tree c.in-Braces.items) rest (Refused r) p))

pub returns-in-Value : goal.returns-in-Value
returns-in-Value t c =
    let w = world_of c.args.world.now in
    let whole = ctype_tree c.args.whole.now in
    let rest = inits_from c.in-Some._rest.now in
    let list : inits_tree c.args.list.now ≡ decls.more_inits (init_tree c.in-Some.first.now) rest
    = sym c.as_slice.ensures ∙ ap inits_from c.in-Some.ensures.cases.0 ∙ inits_cons c.in-Some.first.now c.in-Some._rest.now in
    IfSome_then (refusal_of c.too_many.result) (c.too_many.ensures w (expr_tree c.in-Value.e) c.pos.ensures c.value-typed.ensures) (λ r p.
    subst (λ l. ListInBraces w whole c.args.at l (Refused r)) (sym (list ∙ ap (λ item. decls.more_inits item rest) (ap init_tree c.in-Value.is ∙ init_value c.in-Value.e)))
    (expression_line w whole c.args.at (expr_tree c.in-Value.e) rest (Refused r) p))
