use Rattle.std.proofs.Common.{inl, refl, length, map, List, ◌∙◌, subst, sym}
use Rattle.std.proofs.lemmas.Result.{IfOk-weaker}
use Rattle.c_syntax.specs.Types.{ObjectTree, object_tree}
use Rattle.mem_shown.specs.Decisions.{NamesObjects}
use Rattle.csharp.specs.Trees.{cscheck_tree}
use Rattle.csharp_state.specs.Answers.{operand_of}
use Rattle.mem_places.proofs.Shifting.{fixed_named}
use Rattle.mem_intervals.proofs.Alones.{held_alone, either_form, either_names, either_proper, either_safe, either_only, either_offset}
use Rattle.mem_intervals.proofs.SetShown.{wide_holds, wide_safe, found_is, never_none, counted}
use Rattle.mem_intervals.proofs.states.IntervalStatesMemDomain.show.Goals as goal

pub returns-in-Some-clause-holds : goal.returns-in-Some-clause-holds
returns-in-Some-clause-holds c =
    let check = cscheck_tree c.args.check.now in let m = c.args.self.now in let x = operand_of c.in-Some.operand in
    IfOk-weaker c.alone_or.result _ _ (λ r k q s y same i look.
    let there = wide_holds check c.in_ok-wide.wide (map object_tree m.objects) m.temps.types m.temps.ranges m.temps.passed m.cells m.copies m.one
    c.in_ok-wide.ensures.holds q s y same.0 i look in
    (held_alone (length c.as_slice.result.now) c.in_ok-wide.wide r x k q.objects (counted object_tree m.objects c.as_slice.result.now q.objects same.0 c.as_slice.ensures) y
    (found_is c.in_ok-operand.field-0 c.in-Some.operand y c.in-Some.is (c.in_ok-operand.ensures.stands s y i.same look)) there).there) c.alone_or.ensures

pub returns-in-Some-clause-form : goal.returns-in-Some-clause-form
returns-in-Some-clause-form c =
    let check = cscheck_tree c.args.check.now in let m = c.args.self.now in let q = c.requires.0 in let x = operand_of c.in-Some.operand in
    IfOk-weaker c.alone_or.result _ _ (λ r k. either_form (length c.as_slice.result.now) c.in_ok-wide.wide r x k q.objects
    (counted object_tree m.objects c.as_slice.result.now q.objects c.requires.1.0 c.as_slice.ensures) check.check.kind check.operands
    c.in_ok-wide.ensures.form) c.alone_or.ensures

pub returns-in-Some-clause-names : goal.returns-in-Some-clause-names
returns-in-Some-clause-names c =
    let m = c.args.self.now in let p = c.requires.0 in let x = operand_of c.in-Some.operand in
    IfOk-weaker c.alone_or.result _ _ (λ r k q same. subst (λ (os : List ObjectTree). NamesObjects (length os) r) (sym c.requires.1.0 ∙ same.0)
    (either_names (length c.as_slice.result.now) c.in_ok-wide.wide r x k p.objects
    (counted object_tree m.objects c.as_slice.result.now p.objects c.requires.1.0 c.as_slice.ensures) (c.in_ok-wide.ensures.names p c.requires.2)))
    c.alone_or.ensures

pub returns-in-Some-clause-proper : goal.returns-in-Some-clause-proper
returns-in-Some-clause-proper c =
    let m = c.args.self.now in let q = c.requires.0 in let x = operand_of c.in-Some.operand in
    IfOk-weaker c.alone_or.result _ _ (λ r k. either_proper (length c.as_slice.result.now) c.in_ok-wide.wide r x k q.objects
    (counted object_tree m.objects c.as_slice.result.now q.objects c.requires.1.0 c.as_slice.ensures) c.in_ok-wide.ensures.proper) c.alone_or.ensures

pub returns-in-Some-clause-sharp : goal.returns-in-Some-clause-sharp
returns-in-Some-clause-sharp c =
    let check = cscheck_tree c.args.check.now in let m = c.args.self.now in let x = operand_of c.in-Some.operand in
    IfOk-weaker c.alone_or.result _ _ (λ r k q s y same i look.
    let there = wide_holds check c.in_ok-wide.wide (map object_tree m.objects) m.temps.types m.temps.ranges m.temps.passed m.cells m.copies m.one
    c.in_ok-wide.ensures.holds q s y same.0 i.2 look in
    held_alone (length c.as_slice.result.now) c.in_ok-wide.wide r x k q.objects (counted object_tree m.objects c.as_slice.result.now q.objects same.0 c.as_slice.ensures) y
    (found_is c.in_ok-operand.field-0 c.in-Some.operand y c.in-Some.is (c.in_ok-operand.ensures.stands s y i.2.same look)) there) c.alone_or.ensures

pub returns-in-Some-clause-plain : goal.returns-in-Some-clause-plain
returns-in-Some-clause-plain c =
    let check = cscheck_tree c.args.check.now in let m = c.args.self.now in let x = operand_of c.in-Some.operand in
    IfOk-weaker c.alone_or.result _ _ (λ r k q p y same under g shown bad. either_safe (length c.as_slice.result.now) c.in_ok-wide.wide r x k q.objects
    (counted object_tree m.objects c.as_slice.result.now q.objects same.0 c.as_slice.ensures) check.check
    (wide_safe check c.in_ok-wide.wide (map object_tree m.objects) m.temps.types m.temps.ranges m.temps.passed m.cells m.copies c.in_ok-wide.ensures.plain
    c.requires.0 c.requires.1.0 c.requires.1.1 c.requires.2 q same.0 same.1 p under g) y shown bad) c.alone_or.ensures

pub returns-in-Some-clause-named : goal.returns-in-Some-clause-named
returns-in-Some-clause-named c =
    let m = c.args.self.now in let x = operand_of c.in-Some.operand in
    IfOk-weaker c.alone_or.result _ _ (λ r k q e o d exact same looks is a named. either_only (length c.as_slice.result.now) c.in_ok-wide.wide r x k q.objects
    (counted object_tree m.objects c.as_slice.result.now q.objects same.0 c.as_slice.ensures) o d (c.in_ok-wide.ensures.named q e o d looks is a named)) c.alone_or.ensures

pub returns-in-Some-clause-fixed : goal.returns-in-Some-clause-fixed
returns-in-Some-clause-fixed c =
    let m = c.args.self.now in let x = operand_of c.in-Some.operand in
    IfOk-weaker c.alone_or.result _ _ (λ r k q e f exact same looks is at small. either_offset (length c.as_slice.result.now) c.in_ok-wide.wide r x k q.objects
    (counted object_tree m.objects c.as_slice.result.now q.objects same.0 c.as_slice.ensures) f.object 1 f.offset
    (c.in_ok-wide.ensures.named q e f.object 1 looks is (inl refl) (fixed_named e f at)) (c.in_ok-wide.ensures.fixed e f looks is at small)) c.alone_or.ensures

pub returns-in-None-clause-sharp : goal.returns-in-None-clause-sharp
returns-in-None-clause-sharp c = λ q s y same i look.
    absurd (never_none c.in_ok-operand.field-0 y c.in-None.is (c.in_ok-operand.ensures.sharp s y i.0 look))

pub returns-in-None-clause-plain : goal.returns-in-None-clause-plain
returns-in-None-clause-plain c =
    let check = cscheck_tree c.args.check.now in let m = c.args.self.now in
    λ q p y same under g shown bad.
    wide_safe check c.in_ok-wide.wide (map object_tree m.objects) m.temps.types m.temps.ranges m.temps.passed m.cells m.copies c.in_ok-wide.ensures.plain
    c.requires.0 c.requires.1.0 c.requires.1.1 c.requires.2 q same.0 same.1 p under g y shown bad

pub returns-in-None-clause-named : goal.returns-in-None-clause-named
returns-in-None-clause-named c = λ q e o d exact same looks is a named. c.in_ok-wide.ensures.named q e o d looks is a named
