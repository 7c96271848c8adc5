use Rattle.std.proofs.Common.{ap, ◌∙◌, ℕ, map}
use Rattle.std.specs.Prelude.{None, Some}
use Rattle.c_syntax.specs.Types.{CTypeTree, ctype_tree}
use Rattle.c_syntax.specs.Program.{structdef_tree}
use Rattle.c_syntax.proofs.TypeTrees.{ctype_void}
use Rattle.c_layout.specs.Layout.{members_of}
use Rattle.c_typing.specs.CurrentObject.{Part, member_part}
use Rattle.c_check_fills.proofs.Members.{seen_member, none_there, some_there}
use Rattle.c_check_fills.proofs.parts.member_at.Goals as goal

abbrev part : CTypeTree → ℕ → Part
part ty offset = record { ty = ty; offset = offset }

pub returns-in-None : goal.returns-in-None
returns-in-None c =
    ap (λ ty. part ty c.args.offset) ctype_void
    ∙ ap (member_part c.args.offset) (seen_member c.members_of.result.now (members_of (map structdef_tree c.args.structs.now) c.args.n) c.args.k None
    c.members_of.ensures (none_there c.members_of.result.now c.args.k c.in-None.ensures.lookup.3))

pub returns-in_ok-start-in-Some : goal.returns-in_ok-start-in-Some
returns-in_ok-start-in-Some c =
    ap (λ ty. part ty c.in_ok-start-in-Some.start) c.in_ok-ty-in-Some.ensures ∙ ap (part (ctype_tree c.in-Some.member.now.ty)) c.in_ok-start-in-Some.ensures
    ∙ ap (member_part c.args.offset) (seen_member c.members_of.result.now (members_of (map structdef_tree c.args.structs.now) c.args.n) c.args.k
    (Some c.in-Some.member.now) c.members_of.ensures (some_there c.members_of.result.now c.args.k c.in-Some.member.now c.in-Some.ensures.lookup.3.0 c.in-Some.ensures.lookup.3.1))
