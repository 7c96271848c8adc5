use Rattle.std.proofs.Common.{refl, ap, sym, ◌∙◌, true, length}
use Rattle.std.specs.Prelude.{None}
use Rattle.std.proofs.lemmas.Bool.{eq-eqb, ne_eqb}
use Rattle.std.proofs.lemmas.Option.{IfSome_then}
use Rattle.c_syntax.specs.declared.op.Op.TheVariants as ops
use Rattle.c_syntax.specs.Types.{ctype_tree}
use Rattle.c_syntax.specs.TypedExpr.{Call, texprs_tree}
use Rattle.c_syntax.specs.declared.types.CType.TheVariants as types
use Rattle.c_syntax.proofs.TypeTrees.{ctype_function}
use Rattle.c_typing.specs.World.{Refused, Typed, no_rule}
use Rattle.c_typing.specs.Operands.{Value}
use Rattle.c_typing.specs.Nodes.{call_node, result_of, params_of, passed}
use Rattle.c_check_names.specs.Views.{refusal_of}
use Rattle.c_check_names.proofs.Steps.{refused, when_true, when_false}
use Rattle.c_check_names.specs.Worlds.{world_of}
use Rattle.c_check_exprs.proofs.Passing.{counted}
use Rattle.c_check_exprs.proofs.calls.call_of.Goals as goal

pub returns-then-params-as_slice : goal.returns-then-params-as_slice
returns-then-params-as_slice c =
    let w = world_of c.args.world.now in
    let args = texprs_tree c.args.args in
    let same = counted (params_of w c.args.n) args c.params_of-params.result.now c.as_slice.result.now c.params_of-params.ensures c.as_slice.ensures in
    refused c.no_call.result (no_rule w c.args.pos ops.Call (ctype_tree (types.Function c.args.n)) None) _ c.no_call.ensures
    (ap (λ ty. Refused (no_rule w c.args.pos ops.Call ty None)) (ctype_function c.args.n)
    ∙ when_false _ _ (ne_eqb (length c.params_of-params.result.now) (length c.as_slice.result.now) c.if-params-as_slice.true) same)

pub returns-in-Err : goal.returns-in-Err
returns-in-Err c =
    let w = world_of c.args.world.now in
    let args = texprs_tree c.args.args in
    let result = result_of w c.args.n in
    let same = counted (params_of w c.args.n) args c.params_of-params.result.now c.as_slice.result.now c.params_of-params.ensures c.as_slice.ensures in
    IfSome_then (refusal_of c.in-Err.error) (c.in-Err.ensures w refl)
    (λ r p. ap (call_node w c.args.pos c.args.n result) (sym p ∙ ap (λ l. passed w c.args.pos l args) c.params_of-params.ensures)
    ∙ when_true _ _ (eq-eqb (length c.params_of-params.result.now) (length c.as_slice.result.now) c.if-params-as_slice.false) same)

pub returns-in-Ok : goal.returns-in-Ok
returns-in-Ok c =
    let w = world_of c.args.world.now in
    let args = texprs_tree c.args.args in
    let result = result_of w c.args.n in
    let same = counted (params_of w c.args.n) args c.params_of-params.result.now c.as_slice.result.now c.params_of-params.ensures c.as_slice.ensures in
    ap (λ e. Typed (Value e) w) (c.call_node.ensures ∙ ap (λ ty. Call c.args.pos c.args.n ty true (texprs_tree c.in-Ok.args)) c.in_ok-ty.ensures)
    ∙ ap (call_node w c.args.pos c.args.n result) (sym (c.in-Ok.ensures w refl) ∙ ap (λ l. passed w c.args.pos l args) c.params_of-params.ensures)
    ∙ when_true _ _ (eq-eqb (length c.params_of-params.result.now) (length c.as_slice.result.now) c.if-params-as_slice.false) same
