use Rattle.std.proofs.Common.{◌≤◌, length, sym, subst, arith}
use Rattle.c_syntax.specs.TypedExpr.{texpr_tree}
use Rattle.c_rules_order.proofs.Sidewise.{no_store, one_store, one_struct_store, store_inside}
use Rattle.c_rules_order.proofs.compare.own_stores.Goals as goal

pub returns-in-Assign-clause-count : goal.returns-in-Assign-clause-count
returns-in-Assign-clause-count c = one_store c.args.value.now c.in-Assign.pos c.in-Assign.place c.in-Assign.value c.in-Assign.is

pub returns-in-Assign-clause-inside : goal.returns-in-Assign-clause-inside
returns-in-Assign-clause-inside c =
    subst (λ n. n ≤ length c.args.right.now.own.writes) (sym (one_store c.args.value.now c.in-Assign.pos c.in-Assign.place c.in-Assign.value c.in-Assign.is))
    (store_inside c.args.right.now (texpr_tree c.args.value.now) c.requires)

pub returns-in-AssignStruct-clause-count : goal.returns-in-AssignStruct-clause-count
returns-in-AssignStruct-clause-count c =
    one_struct_store c.args.value.now c.in-AssignStruct.pos c.in-AssignStruct.extent c.in-AssignStruct.place c.in-AssignStruct.source c.in-AssignStruct.is

pub returns-in-AssignStruct-clause-inside : goal.returns-in-AssignStruct-clause-inside
returns-in-AssignStruct-clause-inside c =
    subst (λ n. n ≤ length c.args.right.now.own.writes)
    (sym (one_struct_store c.args.value.now c.in-AssignStruct.pos c.in-AssignStruct.extent c.in-AssignStruct.place c.in-AssignStruct.source c.in-AssignStruct.is))
    (store_inside c.args.right.now (texpr_tree c.args.value.now) c.requires)

pub returns-in_default : goal.returns-in_default
returns-in_default c = record { count = no_store c.args.value.now c.in_default.not-Assign c.in_default.not-AssignStruct; inside = omega arith }
