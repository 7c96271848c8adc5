use Rattle.std.proofs.Common.{[], List, ap, sym, ◌∙◌, false, map, Option, Bor}
use Rattle.std.specs.Prelude.{option_map, unwrap_or}
use Rattle.c_syntax.specs.Types.{ctype_tree}
use Rattle.c_typing.specs.Decls.{function_declared, no_object, parameters_of}
use Rattle.c_check_jumps.specs.ContextViews.{context_tree}
use Rattle.c_check_declarators.specs.declared.shape.Parameter.{Parameter}
use Rattle.c_check_declarators.specs.Views.{name_tree, parameter_tree}
use Rattle.c_check_names.proofs.Steps.{so}
use Rattle.c_check_names.specs.Worlds.{world_of}
use Rattle.c_check_decls.specs.DeclaredViews.{declares_tree}
use Rattle.c_check_decls.proofs.declarators.prototype_declared.Goals as goal

pub returns-in-Some : goal.returns-in-Some
returns-in-Some c =
    let types = map ctype_tree c.args.types.items in
    let at = c.args.named.now.pos in
    let own = λ (o : Option (Bor (List Parameter))). unwrap_or (option_map (λ params. map parameter_tree params.now) o) (parameters_of [] types at) in
    so declares_tree (world_of c.function_of.new.world) c.function_of.result
    (ap (λ params. no_object (function_declared (world_of c.args.world.now) (context_tree c.args.around) (name_tree c.args.named.now) params types (ctype_tree c.args.target) false))
    (sym (ap own c.in-Some.is) ∙ c.own_params.ensures types at))
    c.function_of.ensures

pub returns-in_ok-params-in-None : goal.returns-in_ok-params-in-None
returns-in_ok-params-in-None c =
    let types = map ctype_tree c.args.types.items in
    let at = c.args.named.now.pos in
    let own = λ (o : Option (Bor (List Parameter))). unwrap_or (option_map (λ params. map parameter_tree params.now) o) (parameters_of [] types at) in
    so declares_tree (world_of c.function_of-in-None.new.world) c.function_of-in-None.result
    (ap (λ params. no_object (function_declared (world_of c.args.world.now) (context_tree c.args.around) (name_tree c.args.named.now) params types (ctype_tree c.args.target) false))
    (ap (map parameter_tree) c.as_slice-in-None.ensures.value ∙ c.in_ok-params-in-None.ensures ∙ ap (λ tys. parameters_of [] (map ctype_tree tys) at) c.as_slice.ensures.value
    ∙ sym (ap own c.in-None.is) ∙ c.own_params.ensures types at))
    c.function_of-in-None.ensures
