use Rattle.std.proofs.Common.{◌≡◌, map, length, sym, ap, subst, ◌∙◌, arith}
use Rattle.std.proofs.lemmas.List.{length-map}
use Rattle.c_syntax.specs.Types.{ctype_tree, Struct}
use Rattle.c_syntax.specs.Program.{structdef_tree}
use Rattle.c_syntax.proofs.TypeTrees.{ctype_struct}
use Rattle.c_layout.specs.Scalars.{IsScalarAt, HaveSame}
use Rattle.c_layout.proofs.ScalarOwn.{IsDeep, deep_at_first, deep_of_struct, deep_of_member, no_parts, same_then, carried}
use Rattle.c_layout.proofs.ScalarMembers.{member_proper}
use Rattle.c_layout.proofs.scalars.scalar_in.Goals as goal

pub loop-element-init : goal.loop-element-init
loop-element-init c =
    let structs = map structdef_tree c.args.structs.now in
    let many : length structs ≡ length c.args.structs.now = simp length-map in
    record {
      proper = c.requires.proper;
      same = λ size ty. (λ at. at, λ at. at);
      deep = subst (IsDeep structs (ctype_tree c.args.ty.now)) many (deep_at_first structs (ctype_tree c.args.ty.now) c.requires.proper);
    }

pub returns-in-None-clause-only : goal.returns-in-None-clause-only
returns-in-None-clause-only c scalar at =
    c.element_at.ensures.none c.in-None.is c.args.size scalar ((c.loop-element.invariant.same c.args.size scalar).0 at)

pub returns-in-None-member_at-clause-only : goal.returns-in-None-member_at-clause-only
returns-in-None-member_at-clause-only c scalar at =
    let structs = map structdef_tree c.args.structs.now in
    let inner = (c.in-Some.ensures.same c.args.size scalar).0 ((c.loop-element.invariant.same c.args.size scalar).0 at) in
    let is = ap ctype_tree c.in-Struct.is ∙ ctype_struct c.in-Struct.n in
    c.member_at.ensures.none c.in-None-member_at.is c.args.size scalar (subst (λ t. IsScalarAt structs t c.in-Some.within c.args.size scalar) is inner)

pub overflow_sub-left : goal.overflow_sub-left
overflow_sub-left c =
    let structs = map structdef_tree c.args.structs.now in
    let is = sym c.in-Some.ensures.innermost ∙ ap ctype_tree c.in-Struct.is ∙ ctype_struct c.in-Struct.n in
    let founded = c.requires.table.founded in
    let low = deep_of_struct structs (ctype_tree c.loop-element.ty.now) c.in-Struct.n c.loop-element.left is c.loop-element.invariant.deep founded.height founded.falls founded.bounded in
    omega arith

pub loop-element-smaller : goal.loop-element-smaller
loop-element-smaller c =
    let structs = map structdef_tree c.args.structs.now in
    let is = sym c.in-Some.ensures.innermost ∙ ap ctype_tree c.in-Struct.is ∙ ctype_struct c.in-Struct.n in
    let founded = c.requires.table.founded in
    let low = deep_of_struct structs (ctype_tree c.loop-element.ty.now) c.in-Struct.n c.loop-element.left is c.loop-element.invariant.deep founded.height founded.falls founded.bounded in
    omega arith

pub loop-element-preserved : goal.loop-element-preserved
loop-element-preserved c =
    let structs = map structdef_tree c.args.structs.now in
    let outer = ctype_tree c.args.ty.now in
    let ty = ctype_tree c.loop-element.ty.now in
    let own = ctype_tree c.in-Some.element.now in
    let member = ctype_tree c.in-Some-member_at.member.now in
    let struct = ap ctype_tree c.in-Struct.is ∙ ctype_struct c.in-Struct.n in
    let to_element = same_then structs outer ty own c.args.offset c.loop-element.offset c.in-Some.within c.loop-element.invariant.same c.in-Some.ensures.same in
    let to_struct = subst (λ t. HaveSame structs outer c.args.offset t c.in-Some.within) struct to_element in
    let is = sym c.in-Some.ensures.innermost ∙ struct in
    record {
      proper = member_proper structs c.requires.table c.in-Struct.n member c.in-Some-member_at.ensures.member;
      same = same_then structs outer (Struct c.in-Struct.n) member c.args.offset c.in-Some.within c.in-Some-member_at.inner to_struct c.in-Some-member_at.ensures.same;
      deep = deep_of_member structs ty member c.in-Struct.n c.loop-element.left is c.loop-element.invariant.deep c.in-Some-member_at.ensures.member;
    }

pub only_scalar-requires : goal.only_scalar-requires
only_scalar-requires c = no_parts c.in-Some.element.now (ctype_tree c.loop-element.ty.now) c.in-Some.ensures.innermost c.in_default.not-Struct

pub returns-in_default : goal.returns-in_default
returns-in_default c =
    let structs = map structdef_tree c.args.structs.now in
    let outer = ctype_tree c.args.ty.now in
    let own = ctype_tree c.in-Some.element.now in
    let same = same_then structs outer (ctype_tree c.loop-element.ty.now) own c.args.offset c.loop-element.offset c.in-Some.within c.loop-element.invariant.same c.in-Some.ensures.same in
    record {
      there = carried structs outer own c.args.offset c.in-Some.within c.args.size (λ found. ctype_tree found.now) c.only_scalar.result same (c.only_scalar.ensures.there structs);
      only = λ scalar at. c.only_scalar.ensures.only structs scalar ((same c.args.size scalar).0 at);
    }
