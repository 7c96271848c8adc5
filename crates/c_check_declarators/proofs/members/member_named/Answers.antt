use Rattle.std.proofs.Common.{sym, ap, ◌∙◌}
use Rattle.std.specs.Option.{option_map}
use Rattle.std.specs.Str.{bytes_eq}
use Rattle.c_check_names.proofs.Found.{first_tree}
use Rattle.c_check_declarators.specs.declared.members.MemberMade.{MemberMade}
use Rattle.c_check_declarators.specs.PartViews.{made_tree}
use Rattle.c_check_declarators.proofs.members.member_named.Goals as goal

pub returns-in-None : goal.returns-in-None
returns-in-None c = ap (option_map (λ (m : MemberMade). m.pos)) c.in-None.ensures ∙ sym (first_tree made_tree (λ m. m.pos) (λ m. bytes_eq m.member.name c.args.name.now) 0 c.args.done.now)

pub returns-in-Some : goal.returns-in-Some
returns-in-Some c = ap (option_map (λ (m : MemberMade). m.pos)) c.in-Some.ensures ∙ sym (first_tree made_tree (λ m. m.pos) (λ m. bytes_eq m.member.name c.args.name.now) 0 c.args.done.now)
