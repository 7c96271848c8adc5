use Rattle.std.proofs.Common.{◌<◌, length, map, ap, sym, ◌∙◌, arith}
use Rattle.std.specs.Str.{bytes_eq}
use Rattle.c_syntax.specs.Program.{member_tree}
use Rattle.c_layout.specs.Layout.{offset_named}
use Rattle.c_layout.proofs.Offsets.{offset_found, offset_passed}
use Rattle.c_layout.proofs.layout.offset_of.Goals as goal

pub returns-then-eq : goal.returns-then-eq
returns-then-eq c =
    let index : c.loop-member.member-index < length c.as_slice-members.result.now = omega arith in
    let test = ap (λ x. bytes_eq x c.args.name.now) (sym c.as_slice.ensures) ∙ sym c.eq.ensures ∙ c.if-eq.true in
    offset_found c.as_slice-members.result.now c.loop-member.member-index c.member-item.result c.args.name.now index c.member-item.is test c.loop-member.invariant
    ∙ ap (λ members. offset_named (map member_tree members) c.args.name.now) c.as_slice-members.ensures

pub loop-member-preserved : goal.loop-member-preserved
loop-member-preserved c =
    let index : c.loop-member.member-index < length c.as_slice-members.result.now = omega arith in
    let test = ap (λ x. bytes_eq x c.args.name.now) (sym c.as_slice.ensures) ∙ sym c.eq.ensures ∙ c.if-eq.false in
    offset_passed c.as_slice-members.result.now c.loop-member.member-index c.member-item.result c.args.name.now index c.member-item.is test c.loop-member.invariant
