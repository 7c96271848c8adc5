use Rattle.std.proofs.Common.{◌≡◌, ℕ, refl, ap, ◌∙◌}
use Rattle.c_syntax_written.specs.declared.written.MemberDecl as views
use Rattle.c_syntax_written.specs.declared.written.MemberDecl.{MemberDecl}
use Rattle.c_syntax_written.specs.declared.written.MemberDecl.TheVariants as lines
use Rattle.c_syntax_written.specs.contracts.written.MemberDecl as contract
use Rattle.c_syntax_written.specs.Written as written
use Rattle.c_syntax_written.specs.Written.{declarators_tree, memberdecl_tree, specs_tree}
use Rattle.c_syntax_written.proofs.WrittenTrees.{memberdecl_members}
use borrow.Enum.Known.{ValuesAt}
use borrow.Enum.Known as known
use borrow.Enum.Total.{values_d, lives_by}
use denote.Enum.Declared.{declared, tag_of}
use denote.Hole.Carrier
use Rattle.c_check_exprs.proofs.leaves.line_parts.Goals as goal

-- members that are declared together are of the one variant
tag_zero : (line : MemberDecl) → tag_of (declared contract.enum) line ≡ 0
unfolding views.out-MemberDecl denote.Hole.Carrier.out
tag_zero (lines.Members' pos specs_shape specs declarators_shape declarators) = refl

same_values : (line : MemberDecl) (a b : ValuesAt (contract.enum).parts 0) → values_d contract.enum 0 a line ≡ values_d contract.enum 0 b line
unfolding views.out-MemberDecl denote.Hole.Carrier.out
same_values (lines.Members' pos specs_shape specs declarators_shape declarators) a b = refl

is_made : (line : MemberDecl) (a : ValuesAt (contract.enum).parts 0) → memberdecl_tree line ≡ memberdecl_tree (known.at contract.enum 0 (values_d contract.enum 0 a line))
is_made line a = ap memberdecl_tree (lives_by contract.enum line 0 a (tag_zero line))

parts_are : (line : MemberDecl) (a b d : ValuesAt (contract.enum).parts 0) → memberdecl_tree line
    ≡ written.Members (values_d contract.enum 0 a line).0 (specs_tree (values_d contract.enum 0 b line).1.0) (declarators_tree (values_d contract.enum 0 d line).1.1.0)
parts_are line a b d =
    let v = values_d contract.enum 0 a line in
    is_made line a ∙ memberdecl_members v.0 v.1.0 v.1.1.0
    ∙ ap (λ (u : ValuesAt (contract.enum).parts 0). written.Members v.0 (specs_tree u.1.0) (declarators_tree v.1.1.0)) (same_values line a b)
    ∙ ap (λ (u : ValuesAt (contract.enum).parts 0). written.Members v.0 (specs_tree (values_d contract.enum 0 b line).1.0) (declarators_tree u.1.1.0)) (same_values line a d)

pub returns : goal.returns
returns c = parts_are c.args.line.now _ _ _
