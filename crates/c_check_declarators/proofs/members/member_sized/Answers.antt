use Rattle.std.proofs.Common.{◌≡◌, ap, sym, ◌∙◌, ℕ, ◌+◌, ◌^◌, ◌∷◌, [], ◌++◌, map}
use Rattle.std.specs.Prelude.{nat_lt}
use Rattle.std.proofs.lemmas.List.{map-append}
use Rattle.c_syntax.specs.Types.{ctype_tree}
use Rattle.c_typing.specs.World.{Typed}
use Rattle.c_typing.specs.Typing.{MemberMade, member_named, next_offset, with_member}
use Rattle.c_check_declarators.specs.Views.{name_tree}
use Rattle.c_check_names.specs.Worlds.{world_of}
use Rattle.c_check_declarators.specs.PartViews.{made_tree}
use Rattle.c_check_declarators.proofs.Adding.{named_again, is_large, is_const_one, is_added}
use Rattle.c_check_declarators.proofs.members.member_sized.Goals as goal

pub returns-in-Some : goal.returns-in-Some
returns-in-Some c =
    named_again (world_of c.args.world.now) (name_tree c.args.named) (ctype_tree c.args.ty) c.args.is_const (map made_tree c.args.done.now) c.args.size c.in-Some.first
    (ap (member_named (map made_tree c.args.done.now)) (sym c.as_slice.ensures) ∙ sym c.in-Some.ensures)

pub returns-then-is_too_large : goal.returns-then-is_too_large
returns-then-is_too_large c =
    let w = world_of c.args.world.now in
    let ty = ctype_tree c.args.ty in
    let done = map made_tree c.args.done.now in
    let offset : c.in_ok-offset.offset ≡ next_offset w done ty = c.in_ok-offset.ensures ∙ ap (λ members. next_offset w (map made_tree members) ty) c.as_slice-2.ensures in
    is_large w (name_tree c.args.named) ty c.args.is_const done c.args.size (ap (member_named done) (sym c.as_slice.ensures) ∙ sym c.in_default.ensures)
    (ap (λ n. nat_lt (2 ^ 40) (n + c.args.size)) (sym offset) ∙ sym c.if-is_too_large.ensures)

pub returns-then-is_const_member : goal.returns-then-is_const_member
returns-then-is_const_member c =
    let w = world_of c.args.world.now in
    let ty = ctype_tree c.args.ty in
    let done = map made_tree c.args.done.now in
    let offset : c.in_ok-offset.offset ≡ next_offset w done ty = c.in_ok-offset.ensures ∙ ap (λ members. next_offset w (map made_tree members) ty) c.as_slice-2.ensures in
    is_const_one w (name_tree c.args.named) ty c.args.is_const done c.args.size (ap (member_named done) (sym c.as_slice.ensures) ∙ sym c.in_default.ensures)
    (ap (λ n. nat_lt (2 ^ 40) (n + c.args.size)) (sym offset) ∙ sym c.if-is_too_large.ensures)
    (sym c.if-is_const_member.ensures)

pub returns : goal.returns
returns c =
    let w = world_of c.args.world.now in
    let named = name_tree c.args.named in
    let ty = ctype_tree c.args.ty in
    let done = map made_tree c.args.done.now in
    let offset : c.in_ok-offset.offset ≡ next_offset w done ty = c.in_ok-offset.ensures ∙ ap (λ members. next_offset w (map made_tree members) ty) c.as_slice-2.ensures in
    let made : ℕ → MemberMade = λ n. record { pos = c.args.named.pos; member = record { name = c.args.named.name; ty = ty; offset = n } } in
    let pushed : map made_tree c.push.new.self ≡ with_member w named ty done =
    ap (map made_tree) c.in_ok-push.ensures ∙ map-append made_tree c.args.done.now _ ∙ ap (λ n. done ++ made n ∷ []) offset in
    ap (λ members. Typed members w) pushed
    ∙ is_added w named ty c.args.is_const done c.args.size (ap (member_named done) (sym c.as_slice.ensures) ∙ sym c.in_default.ensures)
    (ap (λ n. nat_lt (2 ^ 40) (n + c.args.size)) (sym offset) ∙ sym c.if-is_too_large.ensures)
    (sym c.if-is_const_member.ensures)
