-- The ways out of the walk, each by the line of its form.
use Rattle.std.proofs.Common.{◌≡◌, FitsSigned, rules, refl, sym, ap, ◌∙◌, subst, false, List, [], ◌∷◌, ◌++◌, map, ◌+◌, ◌<◌, drop, length, get_or, arith}
use Rattle.std.specs.Prelude.{pos, Some, nat_le, if◌then◌else◌, option_map}
use Rattle.std.specs.Int.{w128}
use mir.Val.{of_z, to_z}
use Rattle.std.proofs.lemmas.Grind.{common_steps}
use Rattle.std.proofs.lemmas.Int.{to_z-of_z}
use Rattle.std.proofs.lemmas.List.{length-map, map-append}
use Rattle.std.proofs.lemmas.Option.{IfSome_then}
use Rattle.c_syntax_written.specs.Written as written
use Rattle.c_syntax_written.specs.Written.{declarator_tree, declarators_from, declarators_tree, enumerator_tree, enumerators_from, enumerators_tree, expr_tree, exprs_from, exprs_tree, memberdecl_tree, memberdecls_from, memberdecls_tree, param_tree, params_from, params_tree, spec_tree, specs_from, specs_tree}
use Rattle.c_syntax_written.specs.WrittenParts.{expr_pos}
use Rattle.c_syntax_written.specs.Sizes.{declarator_size, declarators_size, enumerator_size, enumerators_size, expr_size, exprs_size, memberdecl_size, memberdecls_size, param_size, params_size, spec_size, specs_size}
use Rattle.c_syntax_written.proofs.Sizes.{declarators_item, enumerators_item, exprs_item, memberdecls_item, params_item, specs_item}
use Rattle.c_syntax_written.proofs.WrittenTrees.{declarator_absent, declarator_array, declarator_function, declarator_grouped, declarator_name, declarator_open_array, declarator_pointer, declarator_void_function, enumerator_plain, enumerator_valued, expr_arrow, expr_assign, expr_binary, expr_call, expr_cast, expr_character, expr_comma, expr_compound, expr_cond, expr_dot, expr_enclosed, expr_index, expr_number, expr_post_step, expr_pre_step, expr_sizeof_expr, expr_sizeof_type, expr_strings, expr_unary, expr_word, param_abstract, param_named, spec_basic, spec_const, spec_enum, spec_enum_body, spec_storage, spec_struct, spec_struct_body, spec_typedef_name}
use Rattle.c_syntax.specs.declared.operator.StepTime.TheVariants as times
use Rattle.c_syntax.specs.Types.{ctype_tree}
use Rattle.c_syntax.specs.TypedExpr.{none, texpr_tree, texprs_from, texprs_tree}
use Rattle.c_syntax.proofs.TypedExprTrees.{texprs_nil, texprs_push}
use Rattle.c_typing.specs.Constants.{constant_value}
use Rattle.c_typing.specs.Declarators.{OpenArray, PointerTo}
use Rattle.c_typing.specs.Names.{meaning_of}
use Rattle.c_typing.specs.Nodes as nodes
use Rattle.c_typing.specs.Specifiers.{ConstPart, OfPlainType, StoragePart, WordPart, no_specs_yet, type_told}
use Rattle.c_typing.specs.Specifiers as places
use Rattle.c_typing.specs.Typing.{OfParameter, OfTypeName, Types, TypesArgs, TypesDeclarator, TypesEnumerators, TypesMemberNames, TypesMembers, TypesParams, TypesSpec, TypesSpecs, Valued, array_sized, enumerated, enumerator, first_of, member_made, parameter_made, struct_made, type_name, typedef_named, with_function, with_step}
use Rattle.c_typing.specs.World.{Typed, Refused, Undeclared, goes_on, stops}
use Rattle.c_check_operators.specs.OperandViews.{operand_tree}
use Rattle.c_check_declarators.specs.Views.{parameter_tree, shape_tree, step_tree}
use Rattle.c_check_names.specs.Views.{Answers, refusal_of}
use Rattle.c_check_declarators.specs.FormViews.{made_tree, part_tree}
use Rattle.c_check_names.specs.Trees.{form_tree}
use Rattle.c_check_names.specs.Worlds.{world_of}
use Rattle.c_check_exprs.specs.Views.{ArrayStep, ConstantForm, EnumBody, FunctionStep, MemberLine, ParamForm, StepForm, StructBody, ValuedConstant, inside, members_of}
use Rattle.c_check_exprs.proofs.Forms.{all_left, form_below, none_left, one_fewer, refused_whole, stands_around, trees_of}
use Rattle.c_check_exprs.proofs.Results.{around, as_constant, as_form, as_line, as_spec, by, copied_now, shaped, spec_shaped}
use Rattle.c_check_exprs.proofs.Lines.{array_line, arrow_line, assign_line, basic_line, binary_line, call_line, cast_line, character_line, comma_line, compound_line, cond_line, const_line, dot_line, enclosed_line, enum_body_line, function_line, grouped_line, index_line, name_line, nothing_line, number_line, open_array_line, pointer_line, post_step_line, pre_step_line, size_line, storage_line, strings_line, struct_body_line, type_size_line, typedef_line, unary_line, void_function_line, word_line}
use Rattle.c_check_exprs.proofs.Lists.{last_arg, last_constant, last_line, last_name, last_param, last_spec, next_arg, next_constant, next_line, next_name, next_param, next_spec}
use Rattle.c_check_exprs.proofs.+walk.Goals as goal

pub exprs::index_form-returns-in-Err : goal.exprs::index_form-returns-in-Err
exprs::index_form-returns-in-Err t c =
    IfSome_then (refusal_of c.in-Err.error) c.in-Err.ensures (λ r p. index_line (world_of c.args.world.now) c.args.pos (expr_tree c.args.base.now) (expr_tree c.args.index.now) (Refused r) (stops p))

pub exprs::index_form-returns-in-Err-value : goal.exprs::index_form-returns-in-Err-value
exprs::index_form-returns-in-Err-value t c =
    IfSome_then (refusal_of c.in-Err-value.error) c.in-Err-value.ensures (λ r p. index_line (world_of c.args.world.now) c.args.pos (expr_tree c.args.base.now) (expr_tree c.args.index.now) (Refused r) (goes_on c.in-Ok.ensures (stops p)))

pub exprs::index_form-returns : goal.exprs::index_form-returns
exprs::index_form-returns t c =
    by (λ out. out ≡ nodes.indexed (world_of c.value-2.new.world) c.args.pos (texpr_tree c.in-Ok.got) (texpr_tree c.in-Ok-value.got)) (Types (world_of c.args.world.now) (written.Index c.args.pos (expr_tree c.args.base.now) (expr_tree c.args.index.now))) operand_tree (world_of c.value-2.new.world) c.indexed.result (c.indexed.ensures (world_of c.value-2.new.world) refl)
    (λ o p. index_line (world_of c.args.world.now) c.args.pos (expr_tree c.args.base.now) (expr_tree c.args.index.now) o (goes_on c.in-Ok.ensures (goes_on c.in-Ok-value.ensures p)))

pub exprs::dot_form-returns-in-Err : goal.exprs::dot_form-returns-in-Err
exprs::dot_form-returns-in-Err t c =
    IfSome_then (refusal_of c.in-Err.error) c.in-Err.ensures (λ r p. dot_line (world_of c.args.world.now) c.args.pos (expr_tree c.args.base.now) c.args.name.now (Refused r) (stops p))

pub exprs::dot_form-returns : goal.exprs::dot_form-returns
exprs::dot_form-returns t c =
    by (λ out. out ≡ nodes.member (world_of c.operand.new.world) c.args.pos c.args.name.now (operand_tree c.in-Ok.got)) (Types (world_of c.args.world.now) (written.Dot c.args.pos (expr_tree c.args.base.now) c.args.name.now)) operand_tree (world_of c.operand.new.world) c.member.result (c.member.ensures (world_of c.operand.new.world) refl)
    (λ o p. dot_line (world_of c.args.world.now) c.args.pos (expr_tree c.args.base.now) c.args.name.now o (goes_on c.in-Ok.ensures p))

pub exprs::arrow_form-returns-in-Err : goal.exprs::arrow_form-returns-in-Err
exprs::arrow_form-returns-in-Err t c =
    IfSome_then (refusal_of c.in-Err.error) c.in-Err.ensures (λ r p. arrow_line (world_of c.args.world.now) c.args.pos (expr_tree c.args.base.now) c.args.name.now (Refused r) (stops p))

pub exprs::arrow_form-returns : goal.exprs::arrow_form-returns
exprs::arrow_form-returns t c =
    by (λ out. out ≡ nodes.arrow (world_of c.value.new.world) c.args.pos c.args.name.now (texpr_tree c.in-Ok.got)) (Types (world_of c.args.world.now) (written.Arrow c.args.pos (expr_tree c.args.base.now) c.args.name.now)) operand_tree (world_of c.value.new.world) c.arrow.result (c.arrow.ensures (world_of c.value.new.world) refl)
    (λ o p. arrow_line (world_of c.args.world.now) c.args.pos (expr_tree c.args.base.now) c.args.name.now o (goes_on c.in-Ok.ensures p))

pub exprs::unary_form-returns-in-Err : goal.exprs::unary_form-returns-in-Err
exprs::unary_form-returns-in-Err t c =
    IfSome_then (refusal_of c.in-Err.error) c.in-Err.ensures (λ r p. unary_line (world_of c.args.world.now) c.args.pos c.args.op (expr_tree c.args.e.now) (Refused r) (stops p))

pub exprs::unary_form-returns : goal.exprs::unary_form-returns
exprs::unary_form-returns t c =
    by (λ out. out ≡ nodes.unary (world_of c.operand.new.world) c.args.pos c.args.op (operand_tree c.in-Ok.got)) (Types (world_of c.args.world.now) (written.Unary c.args.pos c.args.op (expr_tree c.args.e.now))) operand_tree (world_of c.operand.new.world) c.unary.result (c.unary.ensures (world_of c.operand.new.world) refl)
    (λ o p. unary_line (world_of c.args.world.now) c.args.pos c.args.op (expr_tree c.args.e.now) o (goes_on c.in-Ok.ensures p))

pub exprs::binary_form-returns-in-Err : goal.exprs::binary_form-returns-in-Err
exprs::binary_form-returns-in-Err t c =
    IfSome_then (refusal_of c.in-Err.error) c.in-Err.ensures (λ r p. binary_line (world_of c.args.world.now) c.args.pos c.args.op (expr_tree c.args.left.now) (expr_tree c.args.right.now) (Refused r) (stops p))

pub exprs::binary_form-returns-in-Err-value : goal.exprs::binary_form-returns-in-Err-value
exprs::binary_form-returns-in-Err-value t c =
    IfSome_then (refusal_of c.in-Err-value.error) c.in-Err-value.ensures (λ r p. binary_line (world_of c.args.world.now) c.args.pos c.args.op (expr_tree c.args.left.now) (expr_tree c.args.right.now) (Refused r) (goes_on c.in-Ok.ensures (stops p)))

pub exprs::binary_form-returns : goal.exprs::binary_form-returns
exprs::binary_form-returns t c =
    by (λ out. out ≡ nodes.binary (world_of c.value-2.new.world) c.args.pos c.args.op (texpr_tree c.in-Ok.got) (texpr_tree c.in-Ok-value.got)) (Types (world_of c.args.world.now) (written.Binary c.args.pos c.args.op (expr_tree c.args.left.now) (expr_tree c.args.right.now))) operand_tree (world_of c.value-2.new.world) c.binary.result (c.binary.ensures (world_of c.value-2.new.world) refl)
    (λ o p. binary_line (world_of c.args.world.now) c.args.pos c.args.op (expr_tree c.args.left.now) (expr_tree c.args.right.now) o (goes_on c.in-Ok.ensures (goes_on c.in-Ok-value.ensures p)))

pub exprs::cond_form-returns-in-Err : goal.exprs::cond_form-returns-in-Err
exprs::cond_form-returns-in-Err t c =
    IfSome_then (refusal_of c.in-Err.error) c.in-Err.ensures (λ r p. cond_line (world_of c.args.world.now) c.args.pos (expr_tree c.args.condition.now) (expr_tree c.args.first.now) (expr_tree c.args.second.now) (Refused r) (stops p))

pub exprs::cond_form-returns-in-Err-value : goal.exprs::cond_form-returns-in-Err-value
exprs::cond_form-returns-in-Err-value t c =
    IfSome_then (refusal_of c.in-Err-value.error) c.in-Err-value.ensures (λ r p. cond_line (world_of c.args.world.now) c.args.pos (expr_tree c.args.condition.now) (expr_tree c.args.first.now) (expr_tree c.args.second.now) (Refused r) (goes_on c.in-Ok.ensures (stops p)))

pub exprs::cond_form-returns-in-Err-value-2 : goal.exprs::cond_form-returns-in-Err-value-2
exprs::cond_form-returns-in-Err-value-2 t c =
    IfSome_then (refusal_of c.in-Err-value-2.error) c.in-Err-value-2.ensures (λ r p. cond_line (world_of c.args.world.now) c.args.pos (expr_tree c.args.condition.now) (expr_tree c.args.first.now) (expr_tree c.args.second.now) (Refused r) (goes_on c.in-Ok.ensures (goes_on c.in-Ok-value.ensures (stops p))))

pub exprs::cond_form-returns : goal.exprs::cond_form-returns
exprs::cond_form-returns t c =
    by (λ out. out ≡ nodes.conditional (world_of c.value-3.new.world) c.args.pos (texpr_tree c.in-Ok.got) (texpr_tree c.in-Ok-value.got) (texpr_tree c.in-Ok-value-2.got)) (Types (world_of c.args.world.now) (written.Cond c.args.pos (expr_tree c.args.condition.now) (expr_tree c.args.first.now) (expr_tree c.args.second.now))) operand_tree (world_of c.value-3.new.world) c.conditional.result (c.conditional.ensures (world_of c.value-3.new.world) refl)
    (λ o p. cond_line (world_of c.args.world.now) c.args.pos (expr_tree c.args.condition.now) (expr_tree c.args.first.now) (expr_tree c.args.second.now) o (goes_on c.in-Ok.ensures (goes_on c.in-Ok-value.ensures (goes_on c.in-Ok-value-2.ensures p))))

pub exprs::assign_form-returns-in-Err : goal.exprs::assign_form-returns-in-Err
exprs::assign_form-returns-in-Err t c =
    IfSome_then (refusal_of c.in-Err.error) c.in-Err.ensures (λ r p. assign_line (world_of c.args.world.now) c.args.pos (expr_tree c.args.left.now) (expr_tree c.args.right.now) (Refused r) (stops p))

pub exprs::assign_form-returns-in-Err-value : goal.exprs::assign_form-returns-in-Err-value
exprs::assign_form-returns-in-Err-value t c =
    IfSome_then (refusal_of c.in-Err-value.error) c.in-Err-value.ensures (λ r p. assign_line (world_of c.args.world.now) c.args.pos (expr_tree c.args.left.now) (expr_tree c.args.right.now) (Refused r) (goes_on c.in-Ok.ensures (stops p)))

pub exprs::assign_form-returns : goal.exprs::assign_form-returns
exprs::assign_form-returns t c =
    by (λ out. out ≡ nodes.assigned (world_of c.value.new.world) c.args.pos (operand_tree c.in-Ok.got) (texpr_tree c.in-Ok-value.got)) (Types (world_of c.args.world.now) (written.Assign c.args.pos (expr_tree c.args.left.now) (expr_tree c.args.right.now))) operand_tree (world_of c.value.new.world) c.assigned.result (c.assigned.ensures (world_of c.value.new.world) refl)
    (λ o p. assign_line (world_of c.args.world.now) c.args.pos (expr_tree c.args.left.now) (expr_tree c.args.right.now) o (goes_on c.in-Ok.ensures (goes_on c.in-Ok-value.ensures p)))

pub exprs::compound_form-returns-in-Err : goal.exprs::compound_form-returns-in-Err
exprs::compound_form-returns-in-Err t c =
    IfSome_then (refusal_of c.in-Err.error) c.in-Err.ensures (λ r p. compound_line (world_of c.args.world.now) c.args.pos c.args.op (expr_tree c.args.left.now) (expr_tree c.args.right.now) (Refused r) (stops p))

pub exprs::compound_form-returns-in-Err-value : goal.exprs::compound_form-returns-in-Err-value
exprs::compound_form-returns-in-Err-value t c =
    IfSome_then (refusal_of c.in-Err-value.error) c.in-Err-value.ensures (λ r p. compound_line (world_of c.args.world.now) c.args.pos c.args.op (expr_tree c.args.left.now) (expr_tree c.args.right.now) (Refused r) (goes_on c.in-Ok.ensures (stops p)))

pub exprs::compound_form-returns : goal.exprs::compound_form-returns
exprs::compound_form-returns t c =
    by (λ out. out ≡ nodes.compound (world_of c.value.new.world) c.args.pos c.args.op (operand_tree c.in-Ok.got) (texpr_tree c.in-Ok-value.got)) (Types (world_of c.args.world.now) (written.Compound c.args.pos c.args.op (expr_tree c.args.left.now) (expr_tree c.args.right.now))) operand_tree (world_of c.value.new.world) c.compound.result (c.compound.ensures (world_of c.value.new.world) refl)
    (λ o p. compound_line (world_of c.args.world.now) c.args.pos c.args.op (expr_tree c.args.left.now) (expr_tree c.args.right.now) o (goes_on c.in-Ok.ensures (goes_on c.in-Ok-value.ensures p)))

pub exprs::cast_form-returns-in-Err : goal.exprs::cast_form-returns-in-Err
exprs::cast_form-returns-in-Err t c =
    IfSome_then (refusal_of c.in-Err.error) c.in-Err.ensures (λ r p. cast_line (world_of c.args.world.now) c.args.pos (specs_tree c.args.specs.now) (declarator_tree c.args.declarator.now) (expr_tree c.args.e.now) (Refused r) (stops p))

pub exprs::cast_form-returns-in-Err-value : goal.exprs::cast_form-returns-in-Err-value
exprs::cast_form-returns-in-Err-value t c =
    IfSome_then (refusal_of c.in-Err-value.error) c.in-Err-value.ensures (λ r p. cast_line (world_of c.args.world.now) c.args.pos (specs_tree c.args.specs.now) (declarator_tree c.args.declarator.now) (expr_tree c.args.e.now) (Refused r) (goes_on c.in-Ok.ensures (stops p)))

pub exprs::cast_form-returns : goal.exprs::cast_form-returns
exprs::cast_form-returns t c =
    by (λ out. out ≡ nodes.cast (world_of c.value.new.world) c.args.pos (form_tree c.in-Ok.got) (texpr_tree c.in-Ok-value.got)) (Types (world_of c.args.world.now) (written.Cast c.args.pos (specs_tree c.args.specs.now) (declarator_tree c.args.declarator.now) (expr_tree c.args.e.now))) operand_tree (world_of c.value.new.world) c.cast_to.result c.cast_to.ensures
    (λ o p. cast_line (world_of c.args.world.now) c.args.pos (specs_tree c.args.specs.now) (declarator_tree c.args.declarator.now) (expr_tree c.args.e.now) o (goes_on c.in-Ok.ensures (goes_on c.in-Ok-value.ensures p)))

pub exprs::type_size_form-returns-in-Err : goal.exprs::type_size_form-returns-in-Err
exprs::type_size_form-returns-in-Err t c =
    IfSome_then (refusal_of c.in-Err.error) c.in-Err.ensures (λ r p. type_size_line (world_of c.args.world.now) c.args.pos (specs_tree c.args.specs.now) (declarator_tree c.args.declarator.now) (Refused r) (stops p))

pub exprs::type_size_form-returns : goal.exprs::type_size_form-returns
exprs::type_size_form-returns t c =
    by (λ out. out ≡ nodes.size_of_form (world_of c.named_type.new.world) c.args.pos (form_tree c.in-Ok.got)) (Types (world_of c.args.world.now) (written.SizeofType c.args.pos (specs_tree c.args.specs.now) (declarator_tree c.args.declarator.now))) operand_tree (world_of c.named_type.new.world) c.size_of_form.result c.size_of_form.ensures
    (λ o p. type_size_line (world_of c.args.world.now) c.args.pos (specs_tree c.args.specs.now) (declarator_tree c.args.declarator.now) o (goes_on c.in-Ok.ensures p))

pub exprs::call_form-returns-in-Err : goal.exprs::call_form-returns-in-Err
exprs::call_form-returns-in-Err t c =
    IfSome_then (refusal_of c.in-Err.error) c.in-Err.ensures (λ r p. call_line (world_of c.args.world.now) c.args.pos c.args.name.now (exprs_tree c.args.args.now) (Refused r) (stops p))

pub exprs::call_form-returns : goal.exprs::call_form-returns
exprs::call_form-returns t c =
    by (λ out. out ≡ nodes.called (world_of c.arguments.new.world) c.args.pos c.args.name.now (texprs_tree c.in-Ok.got)) (Types (world_of c.args.world.now) (written.Call c.args.pos c.args.name.now (exprs_tree c.args.args.now))) operand_tree (world_of c.arguments.new.world) c.called.result c.called.ensures
    (λ o p. call_line (world_of c.args.world.now) c.args.pos c.args.name.now (exprs_tree c.args.args.now) o (goes_on c.in-Ok.ensures p))

pub exprs::comma_form-returns-in-Err : goal.exprs::comma_form-returns-in-Err
exprs::comma_form-returns-in-Err t c =
    IfSome_then (refusal_of c.in-Err.error) c.in-Err.ensures (λ r p. comma_line (world_of c.args.world.now) c.args.pos (expr_tree c.args.left.now) (expr_tree c.args.right.now) (Refused r) (stops p))

pub exprs::comma_form-returns-in-Err-value : goal.exprs::comma_form-returns-in-Err-value
exprs::comma_form-returns-in-Err-value t c =
    IfSome_then (refusal_of c.in-Err-value.error) c.in-Err-value.ensures (λ r p. comma_line (world_of c.args.world.now) c.args.pos (expr_tree c.args.left.now) (expr_tree c.args.right.now) (Refused r) (goes_on c.in-Ok.ensures (stops p)))

pub exprs::comma_form-returns : goal.exprs::comma_form-returns
exprs::comma_form-returns t c =
    by (λ out. out ≡ nodes.sequenced (world_of c.value-2.new.world) c.args.pos (texpr_tree c.in-Ok.got) (texpr_tree c.in-Ok-value.got)) (Types (world_of c.args.world.now) (written.Comma c.args.pos (expr_tree c.args.left.now) (expr_tree c.args.right.now))) operand_tree (world_of c.value-2.new.world) c.sequenced.result (c.sequenced.ensures (world_of c.value-2.new.world))
    (λ o p. comma_line (world_of c.args.world.now) c.args.pos (expr_tree c.args.left.now) (expr_tree c.args.right.now) o (goes_on c.in-Ok.ensures (goes_on c.in-Ok-value.ensures p)))

pub exprs::step_form-returns-in-Err : goal.exprs::step_form-returns-in-Err
exprs::step_form-returns-in-Err t c = IfSome_then (refusal_of c.in-Err.error) c.in-Err.ensures (λ r p. stops p)

pub exprs::step_form-returns : goal.exprs::step_form-returns
exprs::step_form-returns t c =
    by (λ out. out ≡ nodes.stepped (world_of c.operand.new.world) c.args.pos c.args.time c.args.way (operand_tree c.in-Ok.got)) (StepForm (world_of c.args.world.now) c.args.pos c.args.time c.args.way (expr_tree c.args.e.now)) operand_tree (world_of c.operand.new.world) c.stepped.result (c.stepped.ensures (world_of c.operand.new.world) refl)
    (λ o p. goes_on c.in-Ok.ensures p)

pub exprs::size_form-returns-in-Err : goal.exprs::size_form-returns-in-Err
exprs::size_form-returns-in-Err t c =
    IfSome_then (refusal_of c.in-Err.error) c.in-Err.ensures (λ r p. size_line (world_of c.args.world.now) c.args.pos (expr_tree c.args.e.now) (Refused r) (stops p))

pub exprs::size_form-returns : goal.exprs::size_form-returns
exprs::size_form-returns t c =
    by (λ out. out ≡ nodes.size_of (world_of c.operand.new.world) c.args.pos (ctype_tree c.in_ok-ty.ty)) (Types (world_of c.args.world.now) (written.SizeofExpr c.args.pos (expr_tree c.args.e.now))) operand_tree (world_of c.operand.new.world) c.size_of.result (c.size_of.ensures (world_of c.operand.new.world) refl)
    (λ o p. size_line (world_of c.args.world.now) c.args.pos (expr_tree c.args.e.now) o (goes_on c.in-Ok.ensures (p ∙ ap (nodes.size_of (world_of c.operand.new.world) c.args.pos) c.in_ok-ty.ensures)))

pub exprs::value-returns-in-Err : goal.exprs::value-returns-in-Err
exprs::value-returns-in-Err t c = IfSome_then (refusal_of c.in-Err.error) c.in-Err.ensures (λ r p. stops p)

pub exprs::value-returns : goal.exprs::value-returns
exprs::value-returns t c = goes_on c.in-Ok.ensures (ap (λ v. Typed v (world_of c.operand.new.world)) c.in_ok-v.ensures)

pub exprs::arguments-value-requires : goal.exprs::arguments-value-requires
exprs::arguments-value-requires t c =
    let s : exprs_size (exprs_from c.as_slice-items.result.now) ≡ exprs_size (exprs_tree c.args.args.now) = ap exprs_size c.as_slice-items.ensures in
    let i : expr_size (expr_tree c.e-item.result) ≡ expr_size (expr_tree (get_or c.as_slice-items.result.now c.each.e-index c.e-item.result)) = ap (λ x. expr_size (expr_tree x)) c.e-item.is in
    let n : expr_size (expr_tree (get_or c.as_slice-items.result.now c.each.e-index c.e-item.result)) < exprs_size (exprs_from c.as_slice-items.result.now) = exprs_item _ _ _ c.each-test.true in
    (omega arith, tt)

pub exprs::arguments-each-init : goal.exprs::arguments-each-init
exprs::arguments-each-init t c = λ o p. subst (λ es. TypesArgs (world_of c.args.world.now) none es o) c.as_slice-items.ensures (subst (λ d. TypesArgs (world_of c.args.world.now) d (exprs_from c.as_slice-items.result.now) o) (ap texprs_from c.new-values.ensures.items ∙ texprs_nil) p)

pub exprs::arguments-each-preserved : goal.exprs::arguments-each-preserved
exprs::arguments-each-preserved t c = λ o p. c.each.invariant o (next_arg (world_of c.each.world) (texprs_from c.each.values.items) c.as_slice-items.result.now c.each.e-index c.e-item.result o c.e-item.is c.each-test.true
    (goes_on c.in-Ok.ensures (subst (λ d. TypesArgs (world_of c.value.new.world) d (exprs_from (drop (c.each.e-index + 1) c.as_slice-items.result.now)) o) (ap texprs_from c.in_ok-push.ensures.items ∙ texprs_push c.each.values.items c.in-Ok.got) p)))

pub exprs::arguments-returns-in-Err : goal.exprs::arguments-returns-in-Err
exprs::arguments-returns-in-Err t c =
    IfSome_then (refusal_of c.in-Err.error) c.in-Err.ensures
    (λ r p. c.each.invariant (Refused r) (next_arg (world_of c.each.world) (texprs_from c.each.values.items) c.as_slice-items.result.now c.each.e-index c.e-item.result (Refused r) c.e-item.is c.each-test.true (stops p)))

pub exprs::arguments-returns : goal.exprs::arguments-returns
exprs::arguments-returns t c = c.each.invariant _ (last_arg (world_of c.each.world) (texprs_from c.each.values.items) c.as_slice-items.result.now c.each.e-index _ c.each-test.false (ap (λ d. Typed d (world_of c.each.world)) c.from_vec.ensures))

pub exprs::operand-returns-in-Word : goal.exprs::operand-returns-in-Word
exprs::operand-returns-in-Word t c =
    by (λ out. out ≡ nodes.word (world_of c.args.world.now) c.in-Word.pos c.as_slice.result.now) (Types (world_of c.args.world.now) (expr_tree c.args.e.now)) operand_tree (world_of c.args.world.now) c.word.result c.word.ensures
    (λ o p. as_form (world_of c.args.world.now) (expr_tree c.args.e.now) (written.Word c.in-Word.pos c.in-Word.name) o (ap expr_tree c.in-Word.is ∙ expr_word c.in-Word.pos c.in-Word.name)
    (word_line (world_of c.args.world.now) c.in-Word.pos c.in-Word.name o (p ∙ ap (nodes.word (world_of c.args.world.now) c.in-Word.pos) c.as_slice.ensures)))

pub exprs::operand-returns-in-Number : goal.exprs::operand-returns-in-Number
exprs::operand-returns-in-Number t c =
    by (λ out. out ≡ (if nat_le c.in-Number.constant.longs 2 then nodes.number (world_of c.args.world.now) c.in-Number.pos c.in-Number.constant else Refused (Undeclared c.in-Number.pos))) (Types (world_of c.args.world.now) (expr_tree c.args.e.now)) operand_tree (world_of c.args.world.now) c.integer_constant.result (c.integer_constant.ensures (world_of c.args.world.now))
    (λ o p. as_form (world_of c.args.world.now) (expr_tree c.args.e.now) (written.Number c.in-Number.pos c.in-Number.constant) o (ap expr_tree c.in-Number.is ∙ expr_number c.in-Number.pos c.in-Number.constant)
    (number_line (world_of c.args.world.now) c.in-Number.pos c.in-Number.constant o p))

pub exprs::operand-returns-in-Character : goal.exprs::operand-returns-in-Character
exprs::operand-returns-in-Character t c =
    as_form (world_of c.args.world.now) (expr_tree c.args.e.now) (written.Character c.in-Character.pos c.in-Character.byte) (Typed (operand_tree c.character.result) (world_of c.args.world.now)) (ap expr_tree c.in-Character.is ∙ expr_character c.in-Character.pos c.in-Character.byte)
    (character_line (world_of c.args.world.now) c.in-Character.pos c.in-Character.byte (Typed (operand_tree c.character.result) (world_of c.args.world.now)) (sym (c.character.ensures (world_of c.args.world.now))))

pub exprs::operand-returns-in-Strings : goal.exprs::operand-returns-in-Strings
exprs::operand-returns-in-Strings t c =
    by (λ out. out ≡ nodes.literal (world_of c.args.world.now) c.in-Strings.pos c.as_slice-in-Strings.result.now) (Types (world_of c.args.world.now) (expr_tree c.args.e.now)) operand_tree (world_of c.literal.new.world) c.literal.result c.literal.ensures
    (λ o p. as_form (world_of c.args.world.now) (expr_tree c.args.e.now) (written.Strings c.in-Strings.pos c.in-Strings.bytes) o (ap expr_tree c.in-Strings.is ∙ expr_strings c.in-Strings.pos c.in-Strings.bytes)
    (strings_line (world_of c.args.world.now) c.in-Strings.pos c.in-Strings.bytes o (p ∙ ap (nodes.literal (world_of c.args.world.now) c.in-Strings.pos) c.as_slice-in-Strings.ensures)))

pub exprs::operand-returns-in-Enclosed : goal.exprs::operand-returns-in-Enclosed
exprs::operand-returns-in-Enclosed t c =
    by (Types (world_of c.args.world.now) (expr_tree c.deref.result.now)) (Types (world_of c.args.world.now) (expr_tree c.args.e.now)) operand_tree (world_of c.operand.new.world) c.operand.result c.operand.ensures
    (λ o p. as_form (world_of c.args.world.now) (expr_tree c.args.e.now) (written.Enclosed c.in-Enclosed.pos (expr_tree c.deref.result.now)) o (cc (ap expr_tree c.in-Enclosed.is ∙ expr_enclosed c.in-Enclosed.pos c.in-Enclosed.inner, c.deref.ensures))
    (enclosed_line (world_of c.args.world.now) c.in-Enclosed.pos (expr_tree c.deref.result.now) o p))

pub exprs::operand-operand-requires : goal.exprs::operand-operand-requires
exprs::operand-operand-requires t c =
    let same : (expr_tree c.args.e.now) ≡ written.Enclosed c.in-Enclosed.pos (expr_tree c.deref.result.now) = cc (ap expr_tree c.in-Enclosed.is ∙ expr_enclosed c.in-Enclosed.pos c.in-Enclosed.inner, c.deref.ensures) in
    let size : expr_size (expr_tree c.args.e.now) ≡ expr_size (written.Enclosed c.in-Enclosed.pos (expr_tree c.deref.result.now)) = ap expr_size same in
    (omega arith, tt)

pub exprs::operand-returns-in-Index : goal.exprs::operand-returns-in-Index
exprs::operand-returns-in-Index t c =
    shaped (world_of c.args.world.now) (expr_tree c.args.e.now) (written.Index c.in-Index.pos (expr_tree c.deref-in-Index.result.now) (expr_tree c.deref-in-Index-2.result.now)) operand_tree (world_of c.index_form.new.world) c.index_form.result (cc (ap expr_tree c.in-Index.is ∙ expr_index c.in-Index.pos c.in-Index.base c.in-Index.index, c.deref-in-Index.ensures, c.deref-in-Index-2.ensures)) c.index_form.ensures

pub exprs::operand-index_form-requires : goal.exprs::operand-index_form-requires
exprs::operand-index_form-requires t c =
    let same : (expr_tree c.args.e.now) ≡ (written.Index c.in-Index.pos (expr_tree c.deref-in-Index.result.now) (expr_tree c.deref-in-Index-2.result.now)) = cc (ap expr_tree c.in-Index.is ∙ expr_index c.in-Index.pos c.in-Index.base c.in-Index.index, c.deref-in-Index.ensures, c.deref-in-Index-2.ensures) in
    let size : expr_size (expr_tree c.args.e.now) ≡ expr_size (written.Index c.in-Index.pos (expr_tree c.deref-in-Index.result.now) (expr_tree c.deref-in-Index-2.result.now)) = ap expr_size same in
    (omega arith, tt)

pub exprs::operand-returns-in-Call : goal.exprs::operand-returns-in-Call
exprs::operand-returns-in-Call t c =
    shaped (world_of c.args.world.now) (expr_tree c.args.e.now) (written.Call c.in-Call.pos c.as_slice-in-Call.result.now (exprs_tree c.deref-in-Call-2.result.now)) operand_tree (world_of c.call_form.new.world) c.call_form.result (cc (ap expr_tree c.in-Call.is ∙ expr_call c.in-Call.pos c.in-Call.name c.in-Call.args, c.deref-in-Call.ensures, c.as_slice-in-Call.ensures, c.deref-in-Call-2.ensures)) c.call_form.ensures

pub exprs::operand-call_form-requires : goal.exprs::operand-call_form-requires
exprs::operand-call_form-requires t c =
    let same : (expr_tree c.args.e.now) ≡ (written.Call c.in-Call.pos c.as_slice-in-Call.result.now (exprs_tree c.deref-in-Call-2.result.now)) = cc (ap expr_tree c.in-Call.is ∙ expr_call c.in-Call.pos c.in-Call.name c.in-Call.args, c.deref-in-Call.ensures, c.as_slice-in-Call.ensures, c.deref-in-Call-2.ensures) in
    let size : expr_size (expr_tree c.args.e.now) ≡ expr_size (written.Call c.in-Call.pos c.as_slice-in-Call.result.now (exprs_tree c.deref-in-Call-2.result.now)) = ap expr_size same in
    (omega arith, tt)

pub exprs::operand-returns-in-Dot : goal.exprs::operand-returns-in-Dot
exprs::operand-returns-in-Dot t c =
    shaped (world_of c.args.world.now) (expr_tree c.args.e.now) (written.Dot c.in-Dot.pos (expr_tree c.deref-in-Dot.result.now) c.as_slice-in-Dot.result.now) operand_tree (world_of c.dot_form.new.world) c.dot_form.result (cc (ap expr_tree c.in-Dot.is ∙ expr_dot c.in-Dot.pos c.in-Dot.base c.in-Dot.member, c.deref-in-Dot.ensures, c.deref-in-Dot-2.ensures, c.as_slice-in-Dot.ensures)) c.dot_form.ensures

pub exprs::operand-dot_form-requires : goal.exprs::operand-dot_form-requires
exprs::operand-dot_form-requires t c =
    let same : (expr_tree c.args.e.now) ≡ (written.Dot c.in-Dot.pos (expr_tree c.deref-in-Dot.result.now) c.as_slice-in-Dot.result.now) = cc (ap expr_tree c.in-Dot.is ∙ expr_dot c.in-Dot.pos c.in-Dot.base c.in-Dot.member, c.deref-in-Dot.ensures, c.deref-in-Dot-2.ensures, c.as_slice-in-Dot.ensures) in
    let size : expr_size (expr_tree c.args.e.now) ≡ expr_size (written.Dot c.in-Dot.pos (expr_tree c.deref-in-Dot.result.now) c.as_slice-in-Dot.result.now) = ap expr_size same in
    (omega arith, tt)

pub exprs::operand-returns-in-Arrow : goal.exprs::operand-returns-in-Arrow
exprs::operand-returns-in-Arrow t c =
    shaped (world_of c.args.world.now) (expr_tree c.args.e.now) (written.Arrow c.in-Arrow.pos (expr_tree c.deref-in-Arrow.result.now) c.as_slice-in-Arrow.result.now) operand_tree (world_of c.arrow_form.new.world) c.arrow_form.result (cc (ap expr_tree c.in-Arrow.is ∙ expr_arrow c.in-Arrow.pos c.in-Arrow.base c.in-Arrow.member, c.deref-in-Arrow.ensures, c.deref-in-Arrow-2.ensures, c.as_slice-in-Arrow.ensures)) c.arrow_form.ensures

pub exprs::operand-arrow_form-requires : goal.exprs::operand-arrow_form-requires
exprs::operand-arrow_form-requires t c =
    let same : (expr_tree c.args.e.now) ≡ (written.Arrow c.in-Arrow.pos (expr_tree c.deref-in-Arrow.result.now) c.as_slice-in-Arrow.result.now) = cc (ap expr_tree c.in-Arrow.is ∙ expr_arrow c.in-Arrow.pos c.in-Arrow.base c.in-Arrow.member, c.deref-in-Arrow.ensures, c.deref-in-Arrow-2.ensures, c.as_slice-in-Arrow.ensures) in
    let size : expr_size (expr_tree c.args.e.now) ≡ expr_size (written.Arrow c.in-Arrow.pos (expr_tree c.deref-in-Arrow.result.now) c.as_slice-in-Arrow.result.now) = ap expr_size same in
    (omega arith, tt)

pub exprs::operand-returns-in-PostStep : goal.exprs::operand-returns-in-PostStep
exprs::operand-returns-in-PostStep t c =
    by (StepForm (world_of c.args.world.now) c.in-PostStep.pos times.After c.in-PostStep.way (expr_tree c.deref-in-PostStep.result.now)) (Types (world_of c.args.world.now) (expr_tree c.args.e.now)) operand_tree (world_of c.step_form.new.world) c.step_form.result c.step_form.ensures
    (λ o p. as_form (world_of c.args.world.now) (expr_tree c.args.e.now) (written.PostStep c.in-PostStep.pos c.in-PostStep.way (expr_tree c.deref-in-PostStep.result.now)) o (cc (ap expr_tree c.in-PostStep.is ∙ expr_post_step c.in-PostStep.pos c.in-PostStep.way c.in-PostStep.operand, c.deref-in-PostStep.ensures)) (post_step_line (world_of c.args.world.now) c.in-PostStep.pos c.in-PostStep.way (expr_tree c.deref-in-PostStep.result.now) o p))

pub exprs::operand-step_form-requires : goal.exprs::operand-step_form-requires
exprs::operand-step_form-requires t c =
    let same : (expr_tree c.args.e.now) ≡ (written.PostStep c.in-PostStep.pos c.in-PostStep.way (expr_tree c.deref-in-PostStep.result.now)) = cc (ap expr_tree c.in-PostStep.is ∙ expr_post_step c.in-PostStep.pos c.in-PostStep.way c.in-PostStep.operand, c.deref-in-PostStep.ensures) in
    let size : expr_size (expr_tree c.args.e.now) ≡ expr_size (written.PostStep c.in-PostStep.pos c.in-PostStep.way (expr_tree c.deref-in-PostStep.result.now)) = ap expr_size same in
    (omega arith, tt)

pub exprs::operand-returns-in-PreStep : goal.exprs::operand-returns-in-PreStep
exprs::operand-returns-in-PreStep t c =
    by (StepForm (world_of c.args.world.now) c.in-PreStep.pos times.Before c.in-PreStep.way (expr_tree c.deref-in-PreStep.result.now)) (Types (world_of c.args.world.now) (expr_tree c.args.e.now)) operand_tree (world_of c.step_form-in-PreStep.new.world) c.step_form-in-PreStep.result c.step_form-in-PreStep.ensures
    (λ o p. as_form (world_of c.args.world.now) (expr_tree c.args.e.now) (written.PreStep c.in-PreStep.pos c.in-PreStep.way (expr_tree c.deref-in-PreStep.result.now)) o (cc (ap expr_tree c.in-PreStep.is ∙ expr_pre_step c.in-PreStep.pos c.in-PreStep.way c.in-PreStep.operand, c.deref-in-PreStep.ensures)) (pre_step_line (world_of c.args.world.now) c.in-PreStep.pos c.in-PreStep.way (expr_tree c.deref-in-PreStep.result.now) o p))

pub exprs::operand-step_form-requires-in-PreStep : goal.exprs::operand-step_form-requires-in-PreStep
exprs::operand-step_form-requires-in-PreStep t c =
    let same : (expr_tree c.args.e.now) ≡ (written.PreStep c.in-PreStep.pos c.in-PreStep.way (expr_tree c.deref-in-PreStep.result.now)) = cc (ap expr_tree c.in-PreStep.is ∙ expr_pre_step c.in-PreStep.pos c.in-PreStep.way c.in-PreStep.operand, c.deref-in-PreStep.ensures) in
    let size : expr_size (expr_tree c.args.e.now) ≡ expr_size (written.PreStep c.in-PreStep.pos c.in-PreStep.way (expr_tree c.deref-in-PreStep.result.now)) = ap expr_size same in
    (omega arith, tt)

pub exprs::operand-returns-in-Unary : goal.exprs::operand-returns-in-Unary
exprs::operand-returns-in-Unary t c =
    shaped (world_of c.args.world.now) (expr_tree c.args.e.now) (written.Unary c.in-Unary.pos c.in-Unary.op (expr_tree c.deref-in-Unary.result.now)) operand_tree (world_of c.unary_form.new.world) c.unary_form.result (cc (ap expr_tree c.in-Unary.is ∙ expr_unary c.in-Unary.pos c.in-Unary.op c.in-Unary.operand, c.deref-in-Unary.ensures)) c.unary_form.ensures

pub exprs::operand-unary_form-requires : goal.exprs::operand-unary_form-requires
exprs::operand-unary_form-requires t c =
    let same : (expr_tree c.args.e.now) ≡ (written.Unary c.in-Unary.pos c.in-Unary.op (expr_tree c.deref-in-Unary.result.now)) = cc (ap expr_tree c.in-Unary.is ∙ expr_unary c.in-Unary.pos c.in-Unary.op c.in-Unary.operand, c.deref-in-Unary.ensures) in
    let size : expr_size (expr_tree c.args.e.now) ≡ expr_size (written.Unary c.in-Unary.pos c.in-Unary.op (expr_tree c.deref-in-Unary.result.now)) = ap expr_size same in
    (omega arith, tt)

pub exprs::operand-returns-in-SizeofExpr : goal.exprs::operand-returns-in-SizeofExpr
exprs::operand-returns-in-SizeofExpr t c =
    shaped (world_of c.args.world.now) (expr_tree c.args.e.now) (written.SizeofExpr c.in-SizeofExpr.pos (expr_tree c.deref-in-SizeofExpr.result.now)) operand_tree (world_of c.size_form.new.world) c.size_form.result (cc (ap expr_tree c.in-SizeofExpr.is ∙ expr_sizeof_expr c.in-SizeofExpr.pos c.in-SizeofExpr.operand, c.deref-in-SizeofExpr.ensures)) c.size_form.ensures

pub exprs::operand-size_form-requires : goal.exprs::operand-size_form-requires
exprs::operand-size_form-requires t c =
    let same : (expr_tree c.args.e.now) ≡ (written.SizeofExpr c.in-SizeofExpr.pos (expr_tree c.deref-in-SizeofExpr.result.now)) = cc (ap expr_tree c.in-SizeofExpr.is ∙ expr_sizeof_expr c.in-SizeofExpr.pos c.in-SizeofExpr.operand, c.deref-in-SizeofExpr.ensures) in
    let size : expr_size (expr_tree c.args.e.now) ≡ expr_size (written.SizeofExpr c.in-SizeofExpr.pos (expr_tree c.deref-in-SizeofExpr.result.now)) = ap expr_size same in
    (omega arith, tt)

pub exprs::operand-returns-in-SizeofType : goal.exprs::operand-returns-in-SizeofType
exprs::operand-returns-in-SizeofType t c =
    shaped (world_of c.args.world.now) (expr_tree c.args.e.now) (written.SizeofType c.in-SizeofType.pos (specs_tree c.deref-in-SizeofType.result.now) (declarator_tree c.deref-in-SizeofType-2.result.now)) operand_tree (world_of c.type_size_form.new.world) c.type_size_form.result (cc (ap expr_tree c.in-SizeofType.is ∙ expr_sizeof_type c.in-SizeofType.pos c.in-SizeofType.specs c.in-SizeofType.declarator, c.deref-in-SizeofType.ensures, c.deref-in-SizeofType-2.ensures)) c.type_size_form.ensures

pub exprs::operand-type_size_form-requires : goal.exprs::operand-type_size_form-requires
exprs::operand-type_size_form-requires t c =
    let same : (expr_tree c.args.e.now) ≡ (written.SizeofType c.in-SizeofType.pos (specs_tree c.deref-in-SizeofType.result.now) (declarator_tree c.deref-in-SizeofType-2.result.now)) = cc (ap expr_tree c.in-SizeofType.is ∙ expr_sizeof_type c.in-SizeofType.pos c.in-SizeofType.specs c.in-SizeofType.declarator, c.deref-in-SizeofType.ensures, c.deref-in-SizeofType-2.ensures) in
    let size : expr_size (expr_tree c.args.e.now) ≡ expr_size (written.SizeofType c.in-SizeofType.pos (specs_tree c.deref-in-SizeofType.result.now) (declarator_tree c.deref-in-SizeofType-2.result.now)) = ap expr_size same in
    (omega arith, tt)

pub exprs::operand-returns-in-Cast : goal.exprs::operand-returns-in-Cast
exprs::operand-returns-in-Cast t c =
    shaped (world_of c.args.world.now) (expr_tree c.args.e.now) (written.Cast c.in-Cast.pos (specs_tree c.deref-in-Cast.result.now) (declarator_tree c.deref-in-Cast-2.result.now) (expr_tree c.deref-in-Cast-3.result.now)) operand_tree (world_of c.cast_form.new.world) c.cast_form.result (cc (ap expr_tree c.in-Cast.is ∙ expr_cast c.in-Cast.pos c.in-Cast.specs c.in-Cast.declarator c.in-Cast.operand, c.deref-in-Cast.ensures, c.deref-in-Cast-2.ensures, c.deref-in-Cast-3.ensures)) c.cast_form.ensures

pub exprs::operand-cast_form-requires : goal.exprs::operand-cast_form-requires
exprs::operand-cast_form-requires t c =
    let same : (expr_tree c.args.e.now) ≡ (written.Cast c.in-Cast.pos (specs_tree c.deref-in-Cast.result.now) (declarator_tree c.deref-in-Cast-2.result.now) (expr_tree c.deref-in-Cast-3.result.now)) = cc (ap expr_tree c.in-Cast.is ∙ expr_cast c.in-Cast.pos c.in-Cast.specs c.in-Cast.declarator c.in-Cast.operand, c.deref-in-Cast.ensures, c.deref-in-Cast-2.ensures, c.deref-in-Cast-3.ensures) in
    let size : expr_size (expr_tree c.args.e.now) ≡ expr_size (written.Cast c.in-Cast.pos (specs_tree c.deref-in-Cast.result.now) (declarator_tree c.deref-in-Cast-2.result.now) (expr_tree c.deref-in-Cast-3.result.now)) = ap expr_size same in
    (omega arith, tt)

pub exprs::operand-returns-in-Binary : goal.exprs::operand-returns-in-Binary
exprs::operand-returns-in-Binary t c =
    shaped (world_of c.args.world.now) (expr_tree c.args.e.now) (written.Binary c.in-Binary.pos c.in-Binary.op (expr_tree c.deref-in-Binary.result.now) (expr_tree c.deref-in-Binary-2.result.now)) operand_tree (world_of c.binary_form.new.world) c.binary_form.result (cc (ap expr_tree c.in-Binary.is ∙ expr_binary c.in-Binary.pos c.in-Binary.op c.in-Binary.left c.in-Binary.right, c.deref-in-Binary.ensures, c.deref-in-Binary-2.ensures)) c.binary_form.ensures

pub exprs::operand-binary_form-requires : goal.exprs::operand-binary_form-requires
exprs::operand-binary_form-requires t c =
    let same : (expr_tree c.args.e.now) ≡ (written.Binary c.in-Binary.pos c.in-Binary.op (expr_tree c.deref-in-Binary.result.now) (expr_tree c.deref-in-Binary-2.result.now)) = cc (ap expr_tree c.in-Binary.is ∙ expr_binary c.in-Binary.pos c.in-Binary.op c.in-Binary.left c.in-Binary.right, c.deref-in-Binary.ensures, c.deref-in-Binary-2.ensures) in
    let size : expr_size (expr_tree c.args.e.now) ≡ expr_size (written.Binary c.in-Binary.pos c.in-Binary.op (expr_tree c.deref-in-Binary.result.now) (expr_tree c.deref-in-Binary-2.result.now)) = ap expr_size same in
    (omega arith, tt)

pub exprs::operand-returns-in-Assign : goal.exprs::operand-returns-in-Assign
exprs::operand-returns-in-Assign t c =
    shaped (world_of c.args.world.now) (expr_tree c.args.e.now) (written.Assign c.in-Assign.pos (expr_tree c.deref-in-Assign.result.now) (expr_tree c.deref-in-Assign-2.result.now)) operand_tree (world_of c.assign_form.new.world) c.assign_form.result (cc (ap expr_tree c.in-Assign.is ∙ expr_assign c.in-Assign.pos c.in-Assign.left c.in-Assign.right, c.deref-in-Assign.ensures, c.deref-in-Assign-2.ensures)) c.assign_form.ensures

pub exprs::operand-assign_form-requires : goal.exprs::operand-assign_form-requires
exprs::operand-assign_form-requires t c =
    let same : (expr_tree c.args.e.now) ≡ (written.Assign c.in-Assign.pos (expr_tree c.deref-in-Assign.result.now) (expr_tree c.deref-in-Assign-2.result.now)) = cc (ap expr_tree c.in-Assign.is ∙ expr_assign c.in-Assign.pos c.in-Assign.left c.in-Assign.right, c.deref-in-Assign.ensures, c.deref-in-Assign-2.ensures) in
    let size : expr_size (expr_tree c.args.e.now) ≡ expr_size (written.Assign c.in-Assign.pos (expr_tree c.deref-in-Assign.result.now) (expr_tree c.deref-in-Assign-2.result.now)) = ap expr_size same in
    (omega arith, tt)

pub exprs::operand-returns-in-Compound : goal.exprs::operand-returns-in-Compound
exprs::operand-returns-in-Compound t c =
    shaped (world_of c.args.world.now) (expr_tree c.args.e.now) (written.Compound c.in-Compound.pos c.in-Compound.op (expr_tree c.deref-in-Compound.result.now) (expr_tree c.deref-in-Compound-2.result.now)) operand_tree (world_of c.compound_form.new.world) c.compound_form.result (cc (ap expr_tree c.in-Compound.is ∙ expr_compound c.in-Compound.pos c.in-Compound.op c.in-Compound.left c.in-Compound.right, c.deref-in-Compound.ensures, c.deref-in-Compound-2.ensures)) c.compound_form.ensures

pub exprs::operand-compound_form-requires : goal.exprs::operand-compound_form-requires
exprs::operand-compound_form-requires t c =
    let same : (expr_tree c.args.e.now) ≡ (written.Compound c.in-Compound.pos c.in-Compound.op (expr_tree c.deref-in-Compound.result.now) (expr_tree c.deref-in-Compound-2.result.now)) = cc (ap expr_tree c.in-Compound.is ∙ expr_compound c.in-Compound.pos c.in-Compound.op c.in-Compound.left c.in-Compound.right, c.deref-in-Compound.ensures, c.deref-in-Compound-2.ensures) in
    let size : expr_size (expr_tree c.args.e.now) ≡ expr_size (written.Compound c.in-Compound.pos c.in-Compound.op (expr_tree c.deref-in-Compound.result.now) (expr_tree c.deref-in-Compound-2.result.now)) = ap expr_size same in
    (omega arith, tt)

pub exprs::operand-returns-in-Comma : goal.exprs::operand-returns-in-Comma
exprs::operand-returns-in-Comma t c =
    shaped (world_of c.args.world.now) (expr_tree c.args.e.now) (written.Comma c.in-Comma.pos (expr_tree c.deref-in-Comma.result.now) (expr_tree c.deref-in-Comma-2.result.now)) operand_tree (world_of c.comma_form.new.world) c.comma_form.result (cc (ap expr_tree c.in-Comma.is ∙ expr_comma c.in-Comma.pos c.in-Comma.left c.in-Comma.right, c.deref-in-Comma.ensures, c.deref-in-Comma-2.ensures)) c.comma_form.ensures

pub exprs::operand-comma_form-requires : goal.exprs::operand-comma_form-requires
exprs::operand-comma_form-requires t c =
    let same : (expr_tree c.args.e.now) ≡ (written.Comma c.in-Comma.pos (expr_tree c.deref-in-Comma.result.now) (expr_tree c.deref-in-Comma-2.result.now)) = cc (ap expr_tree c.in-Comma.is ∙ expr_comma c.in-Comma.pos c.in-Comma.left c.in-Comma.right, c.deref-in-Comma.ensures, c.deref-in-Comma-2.ensures) in
    let size : expr_size (expr_tree c.args.e.now) ≡ expr_size (written.Comma c.in-Comma.pos (expr_tree c.deref-in-Comma.result.now) (expr_tree c.deref-in-Comma-2.result.now)) = ap expr_size same in
    (omega arith, tt)

pub exprs::operand-returns-in-Cond : goal.exprs::operand-returns-in-Cond
exprs::operand-returns-in-Cond t c =
    shaped (world_of c.args.world.now) (expr_tree c.args.e.now) (written.Cond c.in-Cond.pos (expr_tree c.deref-in-Cond.result.now) (expr_tree c.deref-in-Cond-2.result.now) (expr_tree c.deref-in-Cond-3.result.now)) operand_tree (world_of c.cond_form.new.world) c.cond_form.result (cc (ap expr_tree c.in-Cond.is ∙ expr_cond c.in-Cond.pos c.in-Cond.condition c.in-Cond.then c.in-Cond.otherwise, c.deref-in-Cond.ensures, c.deref-in-Cond-2.ensures, c.deref-in-Cond-3.ensures)) c.cond_form.ensures

pub exprs::operand-cond_form-requires : goal.exprs::operand-cond_form-requires
exprs::operand-cond_form-requires t c =
    let same : (expr_tree c.args.e.now) ≡ (written.Cond c.in-Cond.pos (expr_tree c.deref-in-Cond.result.now) (expr_tree c.deref-in-Cond-2.result.now) (expr_tree c.deref-in-Cond-3.result.now)) = cc (ap expr_tree c.in-Cond.is ∙ expr_cond c.in-Cond.pos c.in-Cond.condition c.in-Cond.then c.in-Cond.otherwise, c.deref-in-Cond.ensures, c.deref-in-Cond-2.ensures, c.deref-in-Cond-3.ensures) in
    let size : expr_size (expr_tree c.args.e.now) ≡ expr_size (written.Cond c.in-Cond.pos (expr_tree c.deref-in-Cond.result.now) (expr_tree c.deref-in-Cond-2.result.now) (expr_tree c.deref-in-Cond-3.result.now)) = ap expr_size same in
    (omega arith, tt)

pub types::named_type-returns-in-Err : goal.types::named_type-returns-in-Err
types::named_type-returns-in-Err t c = IfSome_then (refusal_of c.in-Err.error) c.in-Err.ensures (λ r p. stops p)

pub types::named_type-returns-in-Err-type_told : goal.types::named_type-returns-in-Err-type_told
types::named_type-returns-in-Err-type_told t c =
    IfSome_then (refusal_of c.in-Err-type_told.error) (c.in-Err-type_told.ensures (world_of c.specs.new.world)) (λ r p. goes_on c.in-Ok.ensures (stops (p ∙ (ap (λ f. type_told OfPlainType f (made_tree c.in-Ok.got) (world_of c.specs.new.world)) c.first_of-first.ensures))))

pub types::named_type-returns-in-Err-declarator : goal.types::named_type-returns-in-Err-declarator
types::named_type-returns-in-Err-declarator t c =
    IfSome_then (refusal_of c.in-Err-declarator.error) c.in-Err-declarator.ensures
    (λ r p. goes_on c.in-Ok.ensures (goes_on (c.in-Ok-type_told.ensures (world_of c.specs.new.world) ∙ (ap (λ f. type_told OfPlainType f (made_tree c.in-Ok.got) (world_of c.specs.new.world)) c.first_of-first.ensures)) (stops p)))

pub types::named_type-returns : goal.types::named_type-returns
types::named_type-returns t c =
    by (λ out. out ≡ type_name (world_of c.declarator.new.world) c.first_of-first.result (form_tree c.in-Ok-type_told.got) (shape_tree c.in-Ok-declarator.got)) (OfTypeName (first_of c.args.pos (specs_tree c.args.words.now)) (TypesSpecs (world_of c.args.world.now) false no_specs_yet (specs_tree c.args.words.now)) (λ v. TypesDeclarator v (declarator_tree c.args.shape.now))) form_tree (world_of c.declarator.new.world) c.type_name.result c.type_name.ensures
    (λ o p. goes_on c.in-Ok.ensures (goes_on (c.in-Ok-type_told.ensures (world_of c.specs.new.world) ∙ (ap (λ f. type_told OfPlainType f (made_tree c.in-Ok.got) (world_of c.specs.new.world)) c.first_of-first.ensures)) (goes_on c.in-Ok-declarator.ensures (p ∙ ap (λ f. type_name (world_of c.declarator.new.world) f (form_tree c.in-Ok-type_told.got) (shape_tree c.in-Ok-declarator.got)) c.first_of-first.ensures))))

pub types::specs-spec-requires : goal.types::specs-spec-requires
types::specs-spec-requires t c =
    let all : specs_size (specs_from c.as_slice-items.result.now) ≡ specs_size (specs_tree c.args.words.now) = ap specs_size c.as_slice-items.ensures in
    let one : spec_size (spec_tree c.item-item.result) ≡ spec_size (spec_tree (get_or c.as_slice-items.result.now c.each.item-index c.item-item.result)) = ap (λ x. spec_size (spec_tree x)) c.item-item.is in
    let below : spec_size (spec_tree (get_or c.as_slice-items.result.now c.each.item-index c.item-item.result)) < specs_size (specs_from c.as_slice-items.result.now) = specs_item c.as_slice-items.result.now c.each.item-index c.item-item.result c.each-test.true in
    (omega arith, tt)

pub types::specs-each-init : goal.types::specs-each-init
types::specs-each-init t c = λ o p.
    subst (λ ss. TypesSpecs (world_of c.args.world.now) c.args.alone no_specs_yet ss o) c.as_slice-items.ensures (subst (λ d. TypesSpecs (world_of c.args.world.now) c.args.alone d (specs_from c.as_slice-items.result.now) o) c.new-made.ensures p)

pub types::specs-each-preserved : goal.types::specs-each-preserved
types::specs-each-preserved t c = λ o p.
    c.each.invariant o (next_spec (world_of c.each.world) c.args.alone (made_tree c.each.made) c.as_slice-items.result.now c.each.item-index c.item-item.result o c.item-item.is c.each-test.true
    (goes_on c.in-Ok.ensures (subst (λ d. TypesSpecs (world_of c.spec.new.world) c.args.alone d (specs_from (drop (c.each.item-index + 1) c.as_slice-items.result.now)) o) c.in_ok-add.ensures p)))

pub types::specs-returns-in-Err : goal.types::specs-returns-in-Err
types::specs-returns-in-Err t c =
    IfSome_then (refusal_of c.in-Err.error) c.in-Err.ensures
    (λ r p. c.each.invariant (Refused r) (next_spec (world_of c.each.world) c.args.alone (made_tree c.each.made) c.as_slice-items.result.now c.each.item-index c.item-item.result (Refused r) c.item-item.is c.each-test.true (stops p)))

pub types::specs-returns : goal.types::specs-returns
types::specs-returns t c =
    c.each.invariant (Typed (made_tree c.each.made) (world_of c.each.world)) (last_spec (world_of c.each.world) c.args.alone (made_tree c.each.made) c.as_slice-items.result.now c.each.item-index (Typed (made_tree c.each.made) (world_of c.each.world)) c.each-test.false refl)

pub types::spec-returns-in-Storage : goal.types::spec-returns-in-Storage
types::spec-returns-in-Storage t c =
    as_spec (world_of c.args.world.now) c.args.alone (spec_tree c.args.item.now) (written.Storage c.in-Storage.pos c.in-Storage.word) (Typed (StoragePart c.in-Storage.word) (world_of c.args.world.now)) (ap spec_tree c.in-Storage.is ∙ spec_storage c.in-Storage.pos c.in-Storage.word) (storage_line (world_of c.args.world.now) c.args.alone c.in-Storage.pos c.in-Storage.word (Typed (StoragePart c.in-Storage.word) (world_of c.args.world.now)) refl)

pub types::spec-returns-in-Const : goal.types::spec-returns-in-Const
types::spec-returns-in-Const t c =
    as_spec (world_of c.args.world.now) c.args.alone (spec_tree c.args.item.now) (written.Const c.in-Const.pos) (Typed (ConstPart) (world_of c.args.world.now)) (ap spec_tree c.in-Const.is ∙ spec_const c.in-Const.pos) (const_line (world_of c.args.world.now) c.args.alone c.in-Const.pos (Typed (ConstPart) (world_of c.args.world.now)) refl)

pub types::spec-returns-in-Basic : goal.types::spec-returns-in-Basic
types::spec-returns-in-Basic t c =
    as_spec (world_of c.args.world.now) c.args.alone (spec_tree c.args.item.now) (written.Basic c.in-Basic.pos c.in-Basic.word) (Typed (WordPart c.in-Basic.word) (world_of c.args.world.now)) (ap spec_tree c.in-Basic.is ∙ spec_basic c.in-Basic.pos c.in-Basic.word) (basic_line (world_of c.args.world.now) c.args.alone c.in-Basic.pos c.in-Basic.word (Typed (WordPart c.in-Basic.word) (world_of c.args.world.now)) refl)

pub types::spec-returns-in-TypedefName : goal.types::spec-returns-in-TypedefName
types::spec-returns-in-TypedefName t c =
    by (λ out. out ≡ typedef_named (world_of c.args.world.now) c.in-TypedefName.pos (meaning_of (world_of c.args.world.now) c.as_slice.result.now)) (TypesSpec (world_of c.args.world.now) c.args.alone (spec_tree c.args.item.now)) part_tree (world_of c.args.world.now) c.typedef_named.result c.typedef_named.ensures
    (λ o p. as_spec (world_of c.args.world.now) c.args.alone (spec_tree c.args.item.now) (written.TypedefName c.in-TypedefName.pos c.in-TypedefName.name) o (ap spec_tree c.in-TypedefName.is ∙ spec_typedef_name c.in-TypedefName.pos c.in-TypedefName.name)
    (typedef_line (world_of c.args.world.now) c.args.alone c.in-TypedefName.pos c.in-TypedefName.name o (p ∙ ap (λ n. typedef_named (world_of c.args.world.now) c.in-TypedefName.pos (meaning_of (world_of c.args.world.now) n)) c.as_slice.ensures)))

pub types::spec-returns-in-Struct : goal.types::spec-returns-in-Struct
types::spec-returns-in-Struct t c =
    spec_shaped (world_of c.args.world.now) c.args.alone (spec_tree c.args.item.now) (written.Struct c.in-Struct.pos c.in-Struct.tag) part_tree (world_of c.struct_alone.new.world) c.struct_alone.result (ap spec_tree c.in-Struct.is ∙ spec_struct c.in-Struct.pos c.in-Struct.tag) (c.struct_alone.ensures c.in-Struct.pos)

pub types::spec-returns-in-Enum : goal.types::spec-returns-in-Enum
types::spec-returns-in-Enum t c =
    spec_shaped (world_of c.args.world.now) c.args.alone (spec_tree c.args.item.now) (written.Enum c.in-Enum.pos c.in-Enum.tag) part_tree (world_of c.args.world.now) c.enum_alone.result (ap spec_tree c.in-Enum.is ∙ spec_enum c.in-Enum.pos c.in-Enum.tag) (c.enum_alone.ensures c.args.alone c.in-Enum.pos)

pub types::spec-returns-in-StructBody : goal.types::spec-returns-in-StructBody
types::spec-returns-in-StructBody t c =
    by (StructBody (world_of c.args.world.now) (option_map (λ t. t.now) c.as_ref.result) (memberdecls_tree c.in-StructBody.members)) (TypesSpec (world_of c.args.world.now) c.args.alone (spec_tree c.args.item.now)) part_tree (world_of c.struct_body.new.world) c.struct_body.result c.struct_body.ensures
    (λ o p. as_spec (world_of c.args.world.now) c.args.alone (spec_tree c.args.item.now) (written.StructBody c.in-StructBody.pos c.in-StructBody.tag (memberdecls_tree c.in-StructBody.members)) o (ap spec_tree c.in-StructBody.is ∙ spec_struct_body c.in-StructBody.pos c.in-StructBody.tag c.in-StructBody.members)
    (struct_body_line (world_of c.args.world.now) c.args.alone c.in-StructBody.pos c.in-StructBody.tag (memberdecls_tree c.in-StructBody.members) o (subst (λ t. StructBody (world_of c.args.world.now) t (memberdecls_tree c.in-StructBody.members) o) (copied_now c.as_ref.result ∙ c.as_ref.ensures.value) p)))

pub types::spec-returns-in-EnumBody : goal.types::spec-returns-in-EnumBody
types::spec-returns-in-EnumBody t c =
    by (EnumBody (world_of c.args.world.now) (option_map (λ t. t.now) c.as_ref-in-EnumBody.result) (enumerators_tree c.in-EnumBody.enumerators)) (TypesSpec (world_of c.args.world.now) c.args.alone (spec_tree c.args.item.now)) part_tree (world_of c.enum_body.new.world) c.enum_body.result c.enum_body.ensures
    (λ o p. as_spec (world_of c.args.world.now) c.args.alone (spec_tree c.args.item.now) (written.EnumBody c.in-EnumBody.pos c.in-EnumBody.tag (enumerators_tree c.in-EnumBody.enumerators)) o (ap spec_tree c.in-EnumBody.is ∙ spec_enum_body c.in-EnumBody.pos c.in-EnumBody.tag c.in-EnumBody.enumerators)
    (enum_body_line (world_of c.args.world.now) c.args.alone c.in-EnumBody.pos c.in-EnumBody.tag (enumerators_tree c.in-EnumBody.enumerators) o (subst (λ t. EnumBody (world_of c.args.world.now) t (enumerators_tree c.in-EnumBody.enumerators) o) (copied_now c.as_ref-in-EnumBody.result ∙ c.as_ref-in-EnumBody.ensures.value) p)))

pub types::spec-struct_body-requires : goal.types::spec-struct_body-requires
types::spec-struct_body-requires t c =
    let size : spec_size (spec_tree c.args.item.now) ≡ spec_size (written.StructBody c.in-StructBody.pos c.in-StructBody.tag (memberdecls_tree c.in-StructBody.members)) = ap spec_size (ap spec_tree c.in-StructBody.is ∙ spec_struct_body c.in-StructBody.pos c.in-StructBody.tag c.in-StructBody.members) in (omega arith, tt)

pub types::spec-enum_body-requires : goal.types::spec-enum_body-requires
types::spec-enum_body-requires t c =
    let size : spec_size (spec_tree c.args.item.now) ≡ spec_size (written.EnumBody c.in-EnumBody.pos c.in-EnumBody.tag (enumerators_tree c.in-EnumBody.enumerators)) = ap spec_size (ap spec_tree c.in-EnumBody.is ∙ spec_enum_body c.in-EnumBody.pos c.in-EnumBody.tag c.in-EnumBody.enumerators) in (omega arith, tt)

pub types::struct_body-returns-in-Err : goal.types::struct_body-returns-in-Err
types::struct_body-returns-in-Err t c = IfSome_then (refusal_of c.in-Err.error) c.in-Err.ensures (λ r p. stops p)

pub types::struct_body-returns-in-Err-members : goal.types::struct_body-returns-in-Err-members
types::struct_body-returns-in-Err-members t c = IfSome_then (refusal_of c.in-Err-members.error) c.in-Err-members.ensures (λ r p. goes_on c.in-Ok.ensures (stops p))

pub types::struct_body-returns : goal.types::struct_body-returns
types::struct_body-returns t c =
    by (λ out. out ≡ struct_made (world_of c.members.new.world) c.in-Ok.got (members_of c.in-Ok-members.got)) (StructBody (world_of c.args.world.now) (option_map (λ t. t.now) c.args.tag) (memberdecls_tree c.args.list.now)) part_tree (world_of c.struct_made.new.world) c.struct_made.result c.struct_made.ensures
    (λ o p. goes_on c.in-Ok.ensures (goes_on c.in-Ok-members.ensures p))

pub types::members-member_line-requires : goal.types::members-member_line-requires
types::members-member_line-requires t c =
    let all : memberdecls_size (memberdecls_from c.as_slice-lines.result.now) ≡ memberdecls_size (memberdecls_tree c.args.list.now) = ap memberdecls_size c.as_slice-lines.ensures in
    let one : memberdecl_size (memberdecl_tree c.line-item.result) ≡ memberdecl_size (memberdecl_tree (get_or c.as_slice-lines.result.now c.each.line-index c.line-item.result)) = ap (λ x. memberdecl_size (memberdecl_tree x)) c.line-item.is in
    let below : memberdecl_size (memberdecl_tree (get_or c.as_slice-lines.result.now c.each.line-index c.line-item.result)) < memberdecls_size (memberdecls_from c.as_slice-lines.result.now) = memberdecls_item c.as_slice-lines.result.now c.each.line-index c.line-item.result c.each-test.true in
    (omega arith, tt)

pub types::members-each-init : goal.types::members-each-init
types::members-each-init t c = λ o p.
    subst (λ ls. TypesMembers (world_of c.args.world.now) [] ls o) c.as_slice-lines.ensures (subst (λ d. TypesMembers (world_of c.args.world.now) d (memberdecls_from c.as_slice-lines.result.now) o) (ap members_of c.new-done.ensures) p)

pub types::members-each-preserved : goal.types::members-each-preserved
types::members-each-preserved t c = λ o p. c.each.invariant o (next_line (world_of c.each.world) (members_of c.each.done) c.as_slice-lines.result.now c.each.line-index c.line-item.result o c.line-item.is c.each-test.true (goes_on c.in-Ok.ensures p))

pub types::members-returns-in-Err : goal.types::members-returns-in-Err
types::members-returns-in-Err t c =
    IfSome_then (refusal_of c.in-Err.error) c.in-Err.ensures (λ r p. c.each.invariant (Refused r) (next_line (world_of c.each.world) (members_of c.each.done) c.as_slice-lines.result.now c.each.line-index c.line-item.result (Refused r) c.line-item.is c.each-test.true (stops p)))

pub types::members-returns : goal.types::members-returns
types::members-returns t c = c.each.invariant (Typed (members_of c.each.done) (world_of c.each.world)) (last_line (world_of c.each.world) (members_of c.each.done) c.as_slice-lines.result.now c.each.line-index (Typed (members_of c.each.done) (world_of c.each.world)) c.each-test.false refl)

pub types::member_line-returns : goal.types::member_line-returns
types::member_line-returns t c =
    subst (λ line. Answers (MemberLine (world_of c.args.world.now) (members_of c.args.done.now) line) (λ _. members_of c.member_parts.new.done) (world_of c.member_parts.new.world) c.member_parts.result) (sym c.line_parts.ensures)
    c.member_parts.ensures

pub types::member_line-member_parts-requires : goal.types::member_line-member_parts-requires
types::member_line-member_parts-requires t c =
    let size : memberdecl_size (memberdecl_tree c.args.line.now) ≡ memberdecl_size (written.Members c.line_parts.result.0 (specs_tree c.line_parts.result.1.now) (declarators_tree c.line_parts.result.2.now)) = ap memberdecl_size c.line_parts.ensures in (omega arith, tt)

pub types::member_parts-returns-in-Err : goal.types::member_parts-returns-in-Err
types::member_parts-returns-in-Err t c = IfSome_then (refusal_of c.in-Err.error) c.in-Err.ensures (λ r p. as_line (world_of c.args.world.now) (members_of c.args.done.now) (written.Members c.args.pos (specs_tree c.args.words.now) (declarators_tree c.args.names.now)) c.args.pos c.first_of-first.result (specs_tree c.args.words.now) (declarators_tree c.args.names.now) (Refused r) refl c.first_of-first.ensures (stops p))

pub types::member_parts-returns-in-Err-type_told : goal.types::member_parts-returns-in-Err-type_told
types::member_parts-returns-in-Err-type_told t c =
    IfSome_then (refusal_of c.in-Err-type_told.error) (c.in-Err-type_told.ensures (world_of c.specs.new.world)) (λ r p. as_line (world_of c.args.world.now) (members_of c.args.done.now) (written.Members c.args.pos (specs_tree c.args.words.now) (declarators_tree c.args.names.now)) c.args.pos c.first_of-first.result (specs_tree c.args.words.now) (declarators_tree c.args.names.now) (Refused r) refl c.first_of-first.ensures (goes_on c.in-Ok.ensures (stops p)))

pub types::member_parts-returns : goal.types::member_parts-returns
types::member_parts-returns t c =
    by (TypesMemberNames (world_of c.specs.new.world) c.first_of-first.result (form_tree c.in-Ok-type_told.got) (members_of c.args.done.now) (declarators_tree c.args.names.now)) (MemberLine (world_of c.args.world.now) (members_of c.args.done.now) (written.Members c.args.pos (specs_tree c.args.words.now) (declarators_tree c.args.names.now))) (λ _. members_of c.member_names.new.done) (world_of c.member_names.new.world)
    c.member_names.result c.member_names.ensures (λ o p. as_line (world_of c.args.world.now) (members_of c.args.done.now) (written.Members c.args.pos (specs_tree c.args.words.now) (declarators_tree c.args.names.now)) c.args.pos c.first_of-first.result (specs_tree c.args.words.now) (declarators_tree c.args.names.now) o refl c.first_of-first.ensures (goes_on c.in-Ok.ensures (goes_on (c.in-Ok-type_told.ensures (world_of c.specs.new.world)) p)))

pub types::member_names-declarator-requires : goal.types::member_names-declarator-requires
types::member_names-declarator-requires t c =
    let all : declarators_size (declarators_from c.as_slice-shapes.result.now) ≡ declarators_size (declarators_tree c.args.list.now) = ap declarators_size c.as_slice-shapes.ensures in
    let one : declarator_size (declarator_tree c.shape-item.result) ≡ declarator_size (declarator_tree (get_or c.as_slice-shapes.result.now c.each.shape-index c.shape-item.result)) = ap (λ x. declarator_size (declarator_tree x)) c.shape-item.is in
    let below : declarator_size (declarator_tree (get_or c.as_slice-shapes.result.now c.each.shape-index c.shape-item.result)) < declarators_size (declarators_from c.as_slice-shapes.result.now) = declarators_item c.as_slice-shapes.result.now c.each.shape-index c.shape-item.result c.each-test.true in
    (omega arith, tt)

pub types::member_names-each-init : goal.types::member_names-each-init
types::member_names-each-init t c = λ o p. subst (λ ds. TypesMemberNames (world_of c.args.world.now) c.args.first (form_tree c.args.base.now) (members_of c.args.done.now) ds o) c.as_slice-shapes.ensures p

pub types::member_names-each-preserved : goal.types::member_names-each-preserved
types::member_names-each-preserved t c = λ o p.
    c.each.invariant o (next_name (world_of c.each.world) c.args.first (form_tree c.args.base.now) (members_of c.each.done) c.as_slice-shapes.result.now c.each.shape-index c.shape-item.result o c.shape-item.is c.each-test.true
    (goes_on c.in-Ok.ensures (goes_on (c.in-Ok-member_made.ensures ∙ (ap (λ b. member_made (world_of c.declarator.new.world) c.args.first b (members_of c.each.done) (shape_tree c.in-Ok.got)) c.in_ok-form.ensures)) p)))

pub types::member_names-returns-in-Err : goal.types::member_names-returns-in-Err
types::member_names-returns-in-Err t c =
    IfSome_then (refusal_of c.in-Err.error) c.in-Err.ensures (λ r p. c.each.invariant (Refused r) (next_name (world_of c.each.world) c.args.first (form_tree c.args.base.now) (members_of c.each.done) c.as_slice-shapes.result.now c.each.shape-index c.shape-item.result (Refused r) c.shape-item.is c.each-test.true (stops p)))

pub types::member_names-returns-in-Err-member_made : goal.types::member_names-returns-in-Err-member_made
types::member_names-returns-in-Err-member_made t c =
    IfSome_then (refusal_of c.in-Err-member_made.error) c.in-Err-member_made.ensures
    (λ r p. c.each.invariant (Refused r) (next_name (world_of c.each.world) c.args.first (form_tree c.args.base.now) (members_of c.each.done) c.as_slice-shapes.result.now c.each.shape-index c.shape-item.result (Refused r) c.shape-item.is c.each-test.true (goes_on c.in-Ok.ensures (stops (p ∙ (ap (λ b. member_made (world_of c.declarator.new.world) c.args.first b (members_of c.each.done) (shape_tree c.in-Ok.got)) c.in_ok-form.ensures))))))

pub types::member_names-returns : goal.types::member_names-returns
types::member_names-returns t c = c.each.invariant (Typed (members_of c.each.done) (world_of c.each.world)) (last_name (world_of c.each.world) c.args.first (form_tree c.args.base.now) (members_of c.each.done) c.as_slice-shapes.result.now c.each.shape-index (Typed (members_of c.each.done) (world_of c.each.world)) c.each-test.false refl)

pub types::enum_body-returns-in-Err : goal.types::enum_body-returns-in-Err
types::enum_body-returns-in-Err t c = IfSome_then (refusal_of c.in-Err.error) c.in-Err.ensures (λ r p. stops p)

pub types::enum_body-returns-in-Err-enumerators : goal.types::enum_body-returns-in-Err-enumerators
types::enum_body-returns-in-Err-enumerators t c = IfSome_then (refusal_of c.in-Err-enumerators.error) c.in-Err-enumerators.ensures (λ r p. goes_on c.in-Ok.ensures (stops p))

pub types::enum_body-returns : goal.types::enum_body-returns
types::enum_body-returns t c =
    goes_on c.in-Ok.ensures (goes_on c.in-Ok-enumerators.ensures
    (ap (λ p. Typed p (world_of c.enum_closed.new.self)) c.enumerated.ensures ∙ ap (Typed enumerated) c.in_ok-enum_closed.ensures))

pub types::enumerators-constant_named-requires : goal.types::enumerators-constant_named-requires
types::enumerators-constant_named-requires t c =
    let all : enumerators_size (enumerators_from c.as_slice-items.result.now) ≡ enumerators_size (enumerators_tree c.args.list.now) = ap enumerators_size c.as_slice-items.ensures in
    let one : enumerator_size (enumerator_tree c.item-item.result) ≡ enumerator_size (enumerator_tree (get_or c.as_slice-items.result.now c.each.item-index c.item-item.result)) = ap (λ x. enumerator_size (enumerator_tree x)) c.item-item.is in
    let below : enumerator_size (enumerator_tree (get_or c.as_slice-items.result.now c.each.item-index c.item-item.result)) < enumerators_size (enumerators_from c.as_slice-items.result.now) = enumerators_item c.as_slice-items.result.now c.each.item-index c.item-item.result c.each-test.true in
    (omega arith, tt)

pub types::enumerators-each-init : goal.types::enumerators-each-init
types::enumerators-each-init t c = λ o p. subst (λ es. TypesEnumerators (world_of c.args.world.now) (pos 0) es o) c.as_slice-items.ensures p

pub types::enumerators-each-preserved : goal.types::enumerators-each-preserved
types::enumerators-each-preserved t c = λ o p.
    let fits : FitsSigned w128 c.in-Ok.got = search rules in
    c.each.invariant o (next_constant (world_of c.each.world) (to_z w128 c.each.next-bits) c.as_slice-items.result.now c.each.item-index c.item-item.result o c.item-item.is c.each-test.true
    (goes_on c.in-Ok.ensures (subst (λ n. TypesEnumerators (world_of c.constant_named.new.world) n (enumerators_from (drop (c.each.item-index + 1) c.as_slice-items.result.now)) o) (to_z-of_z w128 c.in-Ok.got fits) p)))

pub types::enumerators-returns-in-Err : goal.types::enumerators-returns-in-Err
types::enumerators-returns-in-Err t c =
    IfSome_then (refusal_of c.in-Err.error) c.in-Err.ensures (λ r p. c.each.invariant (Refused r) (next_constant (world_of c.each.world) (to_z w128 c.each.next-bits) c.as_slice-items.result.now c.each.item-index c.item-item.result (Refused r) c.item-item.is c.each-test.true (stops p)))

pub types::enumerators-returns : goal.types::enumerators-returns
types::enumerators-returns t c = c.each.invariant (Typed (to_z w128 c.each.next-bits) (world_of c.each.world)) (last_constant (world_of c.each.world) (to_z w128 c.each.next-bits) c.as_slice-items.result.now c.each.item-index (Typed (to_z w128 c.each.next-bits) (world_of c.each.world)) c.each-test.false refl)

pub types::constant_named-returns-in-Plain : goal.types::constant_named-returns-in-Plain
types::constant_named-returns-in-Plain t c =
    let fits : FitsSigned w128 c.args.next = search rules in
    by (λ out. out ≡ enumerator (world_of c.args.world.now) c.in-Plain.pos c.in-Plain.pos c.in-Plain.name (Some (to_z w128 (of_z w128 c.args.next)))) (ConstantForm (world_of c.args.world.now) c.args.next (enumerator_tree c.args.item.now)) (λ n. n) (world_of c.enumerator.new.world) c.enumerator.result c.enumerator.ensures
    (λ o p. as_constant (world_of c.args.world.now) c.args.next (enumerator_tree c.args.item.now) (written.Plain c.in-Plain.pos c.in-Plain.name) o (ap enumerator_tree c.in-Plain.is ∙ enumerator_plain c.in-Plain.pos c.in-Plain.name)
    (p ∙ ap (λ n. enumerator (world_of c.args.world.now) c.in-Plain.pos c.in-Plain.pos c.in-Plain.name (Some n)) (to_z-of_z w128 c.args.next fits)))

pub types::constant_named-returns-in-Valued : goal.types::constant_named-returns-in-Valued
types::constant_named-returns-in-Valued t c =
    by (ValuedConstant (world_of c.args.world.now) c.in-Valued.pos c.in-Valued.name (expr_tree c.deref.result.now)) (ConstantForm (world_of c.args.world.now) c.args.next (enumerator_tree c.args.item.now)) (λ n. n) (world_of c.constant_valued.new.world) c.constant_valued.result c.constant_valued.ensures
    (λ o p. as_constant (world_of c.args.world.now) c.args.next (enumerator_tree c.args.item.now) (written.Valued c.in-Valued.pos c.in-Valued.name (expr_tree c.deref.result.now)) o (cc (ap enumerator_tree c.in-Valued.is ∙ enumerator_valued c.in-Valued.pos c.in-Valued.name c.in-Valued.value, c.deref.ensures)) p)

pub types::constant_named-constant_valued-requires : goal.types::constant_named-constant_valued-requires
types::constant_named-constant_valued-requires t c =
    let same : (enumerator_tree c.args.item.now) ≡ (written.Valued c.in-Valued.pos c.in-Valued.name (expr_tree c.deref.result.now)) = (cc (ap enumerator_tree c.in-Valued.is ∙ enumerator_valued c.in-Valued.pos c.in-Valued.name c.in-Valued.value, c.deref.ensures)) in
    let size : enumerator_size (enumerator_tree c.args.item.now) ≡ enumerator_size (written.Valued c.in-Valued.pos c.in-Valued.name (expr_tree c.deref.result.now)) = ap enumerator_size same in (omega arith, tt)

pub types::constant_valued-returns-in-Err : goal.types::constant_valued-returns-in-Err
types::constant_valued-returns-in-Err t c = IfSome_then (refusal_of c.in-Err.error) c.in-Err.ensures (λ r p. stops p)

pub types::constant_valued-returns : goal.types::constant_valued-returns
types::constant_valued-returns t c =
    by (λ out. out ≡ enumerator (world_of c.value.new.world) c.args.pos c.pos.result c.args.name.now c.in_ok-n.n) (ValuedConstant (world_of c.args.world.now) c.args.pos c.args.name.now (expr_tree c.args.given.now)) (λ n. n) (world_of c.enumerator.new.world) c.enumerator.result c.enumerator.ensures
    (λ o p. goes_on c.in-Ok.ensures (p ∙ ap (λ q. enumerator (world_of c.value.new.world) c.args.pos q c.args.name.now c.in_ok-n.n) c.pos.ensures ∙ ap (enumerator (world_of c.value.new.world) c.args.pos (expr_pos (expr_tree c.args.given.now)) c.args.name.now) c.in_ok-n.ensures))

pub declarators::declarator-outward-init : goal.declarators::declarator-outward-init
declarators::declarator-outward-init t c =
    record { done = []; parts = all_left (declarator_tree c.args.whole.now) (trees_of c.in_ok-left.left.items) c.in_ok-left.ensures; typed = nothing_line (world_of c.args.world.now) _ (ap (λ s. Typed s (world_of c.args.world.now)) c.no_shape-shape.ensures) }

pub declarators::declarator-outward-preserved : goal.declarators::declarator-outward-preserved
declarators::declarator-outward-preserved t c =
    let held = c.outward.invariant in
    let parts = one_fewer (declarator_tree c.args.whole.now) c.outward.left.items c.pop.new.self.items c.in-Some.form held.done c.in-Some.ensures.items held.parts in
    let inner : TypesDeclarator (world_of c.args.world.now) (inside (declarator_tree c.in-Some.form.now)) (Typed (shape_tree c.outward.shape) (world_of c.outward.world)) =
    subst (λ d. TypesDeclarator (world_of c.args.world.now) d (Typed (shape_tree c.outward.shape) (world_of c.outward.world))) (stands_around (declarator_tree c.args.whole.now) (declarator_tree c.in-Some.form.now) (trees_of c.pop.new.self.items) held.done parts) held.typed in
    record { done = (declarator_tree c.in-Some.form.now) ∷ held.done; parts = parts; typed = c.in-Ok.ensures (world_of c.args.world.now) inner }

pub declarators::declarator-returns-in-Err : goal.declarators::declarator-returns-in-Err
declarators::declarator-returns-in-Err t c =
    let held = c.outward.invariant in
    let parts = one_fewer (declarator_tree c.args.whole.now) c.outward.left.items c.pop.new.self.items c.in-Some.form held.done c.in-Some.ensures.items held.parts in
    let inner : TypesDeclarator (world_of c.args.world.now) (inside (declarator_tree c.in-Some.form.now)) (Typed (shape_tree c.outward.shape) (world_of c.outward.world)) =
    subst (λ d. TypesDeclarator (world_of c.args.world.now) d (Typed (shape_tree c.outward.shape) (world_of c.outward.world))) (stands_around (declarator_tree c.args.whole.now) (declarator_tree c.in-Some.form.now) (trees_of c.pop.new.self.items) held.done parts) held.typed in
    IfSome_then (refusal_of c.in-Err.error) (c.in-Err.ensures (world_of c.args.world.now) inner) (λ r p. refused_whole (world_of c.args.world.now) r (declarator_tree c.args.whole.now) (declarator_tree c.in-Some.form.now) (trees_of c.pop.new.self.items) held.done parts p)

pub declarators::declarator-returns : goal.declarators::declarator-returns
declarators::declarator-returns t c =
    let held = c.outward.invariant in
    let none : c.outward.left.items ≡ [] = grind (arith, common_steps, c.in_default.ensures) in
    subst (λ d. TypesDeclarator (world_of c.args.world.now) d (Typed (shape_tree c.outward.shape) (world_of c.outward.world))) (none_left (declarator_tree c.args.whole.now) c.outward.left.items held.done none held.parts) held.typed

pub declarators::declarator-stepped-requires : goal.declarators::declarator-stepped-requires
declarators::declarator-stepped-requires t c =
    let held = c.outward.invariant in
    let parts = one_fewer (declarator_tree c.args.whole.now) c.outward.left.items c.pop.new.self.items c.in-Some.form held.done c.in-Some.ensures.items held.parts in
    let below = form_below (declarator_tree c.args.whole.now) (declarator_tree c.in-Some.form.now) (trees_of c.pop.new.self.items) held.done parts in (omega arith, tt)

pub declarators::stepped-returns-in-Absent : goal.declarators::stepped-returns-in-Absent
declarators::stepped-returns-in-Absent t c w p =
    around w (declarator_tree c.args.form.now) written.Absent (Typed (shape_tree c.args.shape) (world_of c.args.world.now)) (Typed (shape_tree c.args.shape) (world_of c.args.world.now)) (ap declarator_tree c.in-Absent.is ∙ declarator_absent) (λ q. q) p

pub declarators::stepped-returns-in-Grouped : goal.declarators::stepped-returns-in-Grouped
declarators::stepped-returns-in-Grouped t c w p =
    around w (declarator_tree c.args.form.now) (written.Grouped c.in-Grouped.pos (declarator_tree c.in-Grouped.inner.value)) (Typed (shape_tree c.args.shape) (world_of c.args.world.now)) (Typed (shape_tree c.args.shape) (world_of c.args.world.now)) (ap declarator_tree c.in-Grouped.is ∙ declarator_grouped c.in-Grouped.pos c.in-Grouped.inner) (λ q. grouped_line w c.in-Grouped.pos (declarator_tree c.in-Grouped.inner.value) (Typed (shape_tree c.args.shape) (world_of c.args.world.now)) q) p

pub declarators::stepped-returns-in-Name : goal.declarators::stepped-returns-in-Name
declarators::stepped-returns-in-Name t c w p =
    by (λ out. out ≡ Typed (record (shape_tree c.args.shape) { name = Some (record { name = c.in-Name.name; pos = c.in-Name.pos }) }) (world_of c.args.world.now)) (TypesDeclarator w (declarator_tree c.args.form.now)) shape_tree (world_of c.args.world.now) c.named.result (c.named.ensures (world_of c.args.world.now))
    (λ o q. around w (declarator_tree c.args.form.now) (written.Name c.in-Name.pos c.in-Name.name) (Typed (shape_tree c.args.shape) (world_of c.args.world.now)) o (ap declarator_tree c.in-Name.is ∙ declarator_name c.in-Name.pos c.in-Name.name) (λ s. name_line w (world_of c.args.world.now) c.in-Name.pos c.in-Name.name (shape_tree c.args.shape) o s q) p)

pub declarators::stepped-returns-in-Pointer : goal.declarators::stepped-returns-in-Pointer
declarators::stepped-returns-in-Pointer t c w p =
    by (λ out. out ≡ Typed (with_step (shape_tree c.args.shape) (PointerTo c.in-Pointer.is_const)) (world_of c.args.world.now)) (TypesDeclarator w (declarator_tree c.args.form.now)) shape_tree (world_of c.args.world.now) c.longer.result (c.longer.ensures (world_of c.args.world.now))
    (λ o q. around w (declarator_tree c.args.form.now) (written.Pointer c.in-Pointer.pos c.in-Pointer.is_const (declarator_tree c.in-Pointer.inner.value)) (Typed (shape_tree c.args.shape) (world_of c.args.world.now)) o (ap declarator_tree c.in-Pointer.is ∙ declarator_pointer c.in-Pointer.pos c.in-Pointer.is_const c.in-Pointer.inner) (λ s. pointer_line w c.in-Pointer.pos c.in-Pointer.is_const (declarator_tree c.in-Pointer.inner.value) o (goes_on s q)) p)

pub declarators::stepped-returns-in-OpenArray : goal.declarators::stepped-returns-in-OpenArray
declarators::stepped-returns-in-OpenArray t c w p =
    by (λ out. out ≡ Typed (with_step (shape_tree c.args.shape) OpenArray) (world_of c.args.world.now)) (TypesDeclarator w (declarator_tree c.args.form.now)) shape_tree (world_of c.args.world.now) c.longer-in-OpenArray.result (c.longer-in-OpenArray.ensures (world_of c.args.world.now))
    (λ o q. around w (declarator_tree c.args.form.now) (written.OpenArray c.in-OpenArray.pos (declarator_tree c.in-OpenArray.inner.value)) (Typed (shape_tree c.args.shape) (world_of c.args.world.now)) o (ap declarator_tree c.in-OpenArray.is ∙ declarator_open_array c.in-OpenArray.pos c.in-OpenArray.inner) (λ s. open_array_line w c.in-OpenArray.pos (declarator_tree c.in-OpenArray.inner.value) o (goes_on s q)) p)

pub declarators::stepped-returns-in-VoidFunction : goal.declarators::stepped-returns-in-VoidFunction
declarators::stepped-returns-in-VoidFunction t c w p =
    by (λ out. out ≡ Typed (with_step (shape_tree c.args.shape) (step_tree c.no_parameters.result)) (world_of c.args.world.now)) (TypesDeclarator w (declarator_tree c.args.form.now)) shape_tree (world_of c.args.world.now) c.longer-in-VoidFunction.result (c.longer-in-VoidFunction.ensures (world_of c.args.world.now))
    (λ o q. around w (declarator_tree c.args.form.now) (written.VoidFunction c.in-VoidFunction.pos (declarator_tree c.in-VoidFunction.inner.value)) (Typed (shape_tree c.args.shape) (world_of c.args.world.now)) o (ap declarator_tree c.in-VoidFunction.is ∙ declarator_void_function c.in-VoidFunction.pos c.in-VoidFunction.inner) (λ s. void_function_line w c.in-VoidFunction.pos (declarator_tree c.in-VoidFunction.inner.value) o (goes_on s (q ∙ ap (λ s. Typed (with_step (shape_tree c.args.shape) s) (world_of c.args.world.now)) c.no_parameters.ensures))) p)

pub declarators::stepped-returns-in-Array : goal.declarators::stepped-returns-in-Array
declarators::stepped-returns-in-Array t c w p =
    by (ArrayStep (world_of c.args.world.now) (shape_tree c.args.shape) (expr_tree c.deref.result.now)) (TypesDeclarator w (declarator_tree c.args.form.now)) shape_tree (world_of c.array_step.new.world) c.array_step.result c.array_step.ensures
    (λ o q. around w (declarator_tree c.args.form.now) (written.Array c.in-Array.pos (declarator_tree c.in-Array.inner.value) (expr_tree c.deref.result.now)) (Typed (shape_tree c.args.shape) (world_of c.args.world.now)) o (cc (ap declarator_tree c.in-Array.is ∙ declarator_array c.in-Array.pos c.in-Array.inner c.in-Array.size, c.deref.ensures)) (λ s. array_line w c.in-Array.pos (declarator_tree c.in-Array.inner.value) (expr_tree c.deref.result.now) o (goes_on s q)) p)

pub declarators::stepped-array_step-requires : goal.declarators::stepped-array_step-requires
declarators::stepped-array_step-requires t c =
    let same : (declarator_tree c.args.form.now) ≡ written.Array c.in-Array.pos (declarator_tree c.in-Array.inner.value) (expr_tree c.deref.result.now) = (cc (ap declarator_tree c.in-Array.is ∙ declarator_array c.in-Array.pos c.in-Array.inner c.in-Array.size, c.deref.ensures)) in
    let size : declarator_size (declarator_tree c.args.form.now) ≡ declarator_size (written.Array c.in-Array.pos (declarator_tree c.in-Array.inner.value) (expr_tree c.deref.result.now)) = ap declarator_size same in (omega arith, tt)

pub declarators::stepped-returns-in-Function : goal.declarators::stepped-returns-in-Function
declarators::stepped-returns-in-Function t c w p =
    by (FunctionStep (world_of c.args.world.now) (shape_tree c.args.shape) (params_tree c.in-Function.params)) (TypesDeclarator w (declarator_tree c.args.form.now)) shape_tree (world_of c.function_step.new.world) c.function_step.result c.function_step.ensures
    (λ o q. around w (declarator_tree c.args.form.now) (written.Function c.in-Function.pos (declarator_tree c.in-Function.inner.value) (params_tree c.in-Function.params)) (Typed (shape_tree c.args.shape) (world_of c.args.world.now)) o (ap declarator_tree c.in-Function.is ∙ declarator_function c.in-Function.pos c.in-Function.inner c.in-Function.params) (λ s. function_line w c.in-Function.pos (declarator_tree c.in-Function.inner.value) (params_tree c.in-Function.params) o (goes_on s q)) p)

pub declarators::stepped-function_step-requires : goal.declarators::stepped-function_step-requires
declarators::stepped-function_step-requires t c =
    let size : declarator_size (declarator_tree c.args.form.now) ≡ declarator_size (written.Function c.in-Function.pos (declarator_tree c.in-Function.inner.value) (params_tree c.in-Function.params)) = ap declarator_size (ap declarator_tree c.in-Function.is ∙ declarator_function c.in-Function.pos c.in-Function.inner c.in-Function.params) in (omega arith, tt)

pub declarators::array_step-returns-in-Err : goal.declarators::array_step-returns-in-Err
declarators::array_step-returns-in-Err t c = IfSome_then (refusal_of c.in-Err.error) c.in-Err.ensures (λ r p. stops p)

pub declarators::array_step-returns-in-Err-array_sized : goal.declarators::array_step-returns-in-Err-array_sized
declarators::array_step-returns-in-Err-array_sized t c =
    IfSome_then (refusal_of c.in-Err-array_sized.error) (c.in-Err-array_sized.ensures (world_of c.value.new.world) (shape_tree c.args.shape)) (λ r p. goes_on c.in-Ok.ensures (p ∙ ap (λ q. array_sized (world_of c.value.new.world) q (shape_tree c.args.shape) c.in_ok-n.n) c.pos.ensures ∙ ap (array_sized (world_of c.value.new.world) (expr_pos (expr_tree c.args.size.now)) (shape_tree c.args.shape)) c.in_ok-n.ensures))

pub declarators::array_step-returns : goal.declarators::array_step-returns
declarators::array_step-returns t c =
    by (λ out. out ≡ Typed (with_step (shape_tree c.args.shape) (step_tree c.in-Ok-array_sized.got)) (world_of c.value.new.world)) (ArrayStep (world_of c.args.world.now) (shape_tree c.args.shape) (expr_tree c.args.size.now)) shape_tree (world_of c.value.new.world) c.longer.result (c.longer.ensures (world_of c.value.new.world))
    (λ o q. goes_on c.in-Ok.ensures (q ∙ c.in-Ok-array_sized.ensures (world_of c.value.new.world) (shape_tree c.args.shape) ∙ ap (λ q. array_sized (world_of c.value.new.world) q (shape_tree c.args.shape) c.in_ok-n.n) c.pos.ensures ∙ ap (array_sized (world_of c.value.new.world) (expr_pos (expr_tree c.args.size.now)) (shape_tree c.args.shape)) c.in_ok-n.ensures))

pub declarators::function_step-returns-in-Err : goal.declarators::function_step-returns-in-Err
declarators::function_step-returns-in-Err t c =
    IfSome_then (refusal_of c.in-Err.error) c.in-Err.ensures (λ r p. stops (subst (λ v. TypesParams v [] (params_tree c.args.list.now) (Refused r)) c.open-scope.ensures.opened p))

pub declarators::function_step-returns : goal.declarators::function_step-returns
declarators::function_step-returns t c =
    by (λ out. out ≡ with_function (world_of c.args.world.now) (world_of c.params.new.world) (shape_tree c.args.shape) (map parameter_tree c.in-Ok.got.items)) (FunctionStep (world_of c.args.world.now) (shape_tree c.args.shape) (params_tree c.args.list.now)) shape_tree (world_of c.with_function.new.world) c.with_function.result (c.with_function.ensures (world_of c.args.world.now) c.open-scope.ensures.scope)
    (λ o q. goes_on (subst (λ v. TypesParams v [] (params_tree c.args.list.now) (Typed (map parameter_tree c.in-Ok.got.items) (world_of c.params.new.world))) c.open-scope.ensures.opened c.in-Ok.ensures) q)

pub declarators::params-param-requires : goal.declarators::params-param-requires
declarators::params-param-requires t c =
    let all : params_size (params_from c.as_slice-items.result.now) ≡ params_size (params_tree c.args.list.now) = ap params_size c.as_slice-items.ensures in
    let one : param_size (param_tree c.item-item.result) ≡ param_size (param_tree (get_or c.as_slice-items.result.now c.each.item-index c.item-item.result)) = ap (λ x. param_size (param_tree x)) c.item-item.is in
    let below : param_size (param_tree (get_or c.as_slice-items.result.now c.each.item-index c.item-item.result)) < params_size (params_from c.as_slice-items.result.now) = params_item c.as_slice-items.result.now c.each.item-index c.item-item.result c.each-test.true in
    (omega arith, tt)

pub declarators::params-each-init : goal.declarators::params-each-init
declarators::params-each-init t c = λ o p.
    subst (λ ps. TypesParams (world_of c.args.world.now) [] ps o) c.as_slice-items.ensures (subst (λ d. TypesParams (world_of c.args.world.now) d (params_from c.as_slice-items.result.now) o) (ap (map parameter_tree) c.new-done.ensures.items) p)

pub declarators::params-each-preserved : goal.declarators::params-each-preserved
declarators::params-each-preserved t c = λ o p.
    let count : c.len-k.result ≡ length c.each.done.items = omega (arith, c.each.done.ok) in
    let place : c.len-k.result ≡ length (map parameter_tree c.each.done.items) = count ∙ sym (length-map c.each.done.items parameter_tree) in
    c.each.invariant o (next_param (world_of c.each.world) (map parameter_tree c.each.done.items) c.as_slice-items.result.now c.each.item-index c.item-item.result o c.item-item.is c.each-test.true
    (goes_on (subst (λ k. ParamForm (world_of c.each.world) k (param_tree c.item-item.result) (Typed (parameter_tree c.in-Ok.got) (world_of c.param.new.world))) place c.in-Ok.ensures)
    (subst (λ d. TypesParams (world_of c.param.new.world) d (params_from (drop (c.each.item-index + 1) c.as_slice-items.result.now)) o) (ap (map parameter_tree) c.in_ok-push.ensures.items ∙ map-append parameter_tree c.each.done.items (c.in-Ok.got ∷ [])) p)))

pub declarators::params-returns-in-Err : goal.declarators::params-returns-in-Err
declarators::params-returns-in-Err t c =
    let count : c.len-k.result ≡ length c.each.done.items = omega (arith, c.each.done.ok) in
    let place : c.len-k.result ≡ length (map parameter_tree c.each.done.items) = count ∙ sym (length-map c.each.done.items parameter_tree) in
    IfSome_then (refusal_of c.in-Err.error) c.in-Err.ensures
    (λ r p. c.each.invariant (Refused r) (next_param (world_of c.each.world) (map parameter_tree c.each.done.items) c.as_slice-items.result.now c.each.item-index c.item-item.result (Refused r) c.item-item.is c.each-test.true (stops (subst (λ k. ParamForm (world_of c.each.world) k (param_tree c.item-item.result) (Refused r)) place p))))

pub declarators::params-returns : goal.declarators::params-returns
declarators::params-returns t c = c.each.invariant (Typed (map parameter_tree c.each.done.items) (world_of c.each.world)) (last_param (world_of c.each.world) (map parameter_tree c.each.done.items) c.as_slice-items.result.now c.each.item-index (Typed (map parameter_tree c.each.done.items) (world_of c.each.world)) c.each-test.false refl)

pub declarators::param-returns-in-Named : goal.declarators::param-returns-in-Named
declarators::param-returns-in-Named t c =
    subst (λ t. Answers (ParamForm (world_of c.args.world.now) c.args.k t) parameter_tree (world_of c.param_made.new.world) c.param_made.result) (sym (ap param_tree c.in-Named.is ∙ param_named c.in-Named.pos c.in-Named.specs c.in-Named.declarator)) c.param_made.ensures

pub declarators::param-param_made-requires : goal.declarators::param-param_made-requires
declarators::param-param_made-requires t c =
    let size : param_size (param_tree c.args.item.now) ≡ param_size (written.Named c.in-Named.pos (specs_tree c.in-Named.specs) (declarator_tree c.in-Named.declarator)) = ap param_size (ap param_tree c.in-Named.is ∙ param_named c.in-Named.pos c.in-Named.specs c.in-Named.declarator) in (omega arith, tt)

pub declarators::param-returns-in-Abstract : goal.declarators::param-returns-in-Abstract
declarators::param-returns-in-Abstract t c =
    subst (λ t. Answers (ParamForm (world_of c.args.world.now) c.args.k t) parameter_tree (world_of c.param_made-in-Abstract.new.world) c.param_made-in-Abstract.result) (sym (ap param_tree c.in-Abstract.is ∙ param_abstract c.in-Abstract.pos c.in-Abstract.specs c.in-Abstract.declarator)) c.param_made-in-Abstract.ensures

pub declarators::param-param_made-requires-in-Abstract : goal.declarators::param-param_made-requires-in-Abstract
declarators::param-param_made-requires-in-Abstract t c =
    let size : param_size (param_tree c.args.item.now) ≡ param_size (written.Abstract c.in-Abstract.pos (specs_tree c.in-Abstract.specs) (declarator_tree c.in-Abstract.declarator)) = ap param_size (ap param_tree c.in-Abstract.is ∙ param_abstract c.in-Abstract.pos c.in-Abstract.specs c.in-Abstract.declarator) in (omega arith, tt)

pub declarators::param_made-returns-in-Err : goal.declarators::param_made-returns-in-Err
declarators::param_made-returns-in-Err t c = IfSome_then (refusal_of c.in-Err.error) c.in-Err.ensures (λ r p. stops p)

pub declarators::param_made-returns-in-Err-type_told : goal.declarators::param_made-returns-in-Err-type_told
declarators::param_made-returns-in-Err-type_told t c =
    IfSome_then (refusal_of c.in-Err-type_told.error) (c.in-Err-type_told.ensures (world_of c.specs.new.world)) (λ r p. goes_on c.in-Ok.ensures (stops (p ∙ (ap (λ f. type_told places.OfParameter f (made_tree c.in-Ok.got) (world_of c.specs.new.world)) c.first_of-first.ensures))))

pub declarators::param_made-returns-in-Err-declarator : goal.declarators::param_made-returns-in-Err-declarator
declarators::param_made-returns-in-Err-declarator t c =
    IfSome_then (refusal_of c.in-Err-declarator.error) c.in-Err-declarator.ensures
    (λ r p. goes_on c.in-Ok.ensures (goes_on (c.in-Ok-type_told.ensures (world_of c.specs.new.world) ∙ (ap (λ f. type_told places.OfParameter f (made_tree c.in-Ok.got) (world_of c.specs.new.world)) c.first_of-first.ensures)) (stops p)))

pub declarators::param_made-returns : goal.declarators::param_made-returns
declarators::param_made-returns t c =
    by (λ out. out ≡ parameter_made (world_of c.declarator.new.world) c.first_of-first.result (form_tree c.in-Ok-type_told.got) c.args.k (shape_tree c.in-Ok-declarator.got)) (OfParameter c.args.k (first_of c.args.pos (specs_tree c.args.words.now)) (TypesSpecs (world_of c.args.world.now) false no_specs_yet (specs_tree c.args.words.now)) (λ v. TypesDeclarator v (declarator_tree c.args.shape.now))) parameter_tree (world_of c.parameter_made.new.world) c.parameter_made.result c.parameter_made.ensures
    (λ o p. goes_on c.in-Ok.ensures (goes_on (c.in-Ok-type_told.ensures (world_of c.specs.new.world) ∙ (ap (λ f. type_told places.OfParameter f (made_tree c.in-Ok.got) (world_of c.specs.new.world)) c.first_of-first.ensures)) (goes_on c.in-Ok-declarator.ensures (p ∙ ap (λ f. parameter_made (world_of c.declarator.new.world) f (form_tree c.in-Ok-type_told.got) c.args.k (shape_tree c.in-Ok-declarator.got)) c.first_of-first.ensures))))
