-- What a cast holds is smaller than it, and so is what members hold that are declared together.
use Rattle.std.proofs.Common.{◌≡◌, ◌+◌, ◌*◌, ◌<◌, refl, ap, ◌∙◌, arith}
use borrow.Enum.Known.{ValuesAt}
use borrow.Enum.Total.{lives_by, values_d}
use denote.Enum.Declared.{declared, tag_of}
use Rattle.std.specs.declared.alloc.Global.{Global}
use Rattle.std.specs.declared.boxed.Box.{Box}
use Rattle.c_syntax_written.specs.declared.place.Pos.{Pos}
use Rattle.c_syntax_written.specs.declared.written.Declarator.{Declarator}
use Rattle.c_syntax_written.specs.declared.written.Expr.{Expr}
use Rattle.c_syntax_written.specs.declared.written.Expr.TheVariants as exprs
use Rattle.c_syntax_written.specs.declared.written.MemberDecl as line_of
use Rattle.c_syntax_written.specs.declared.written.MemberDecl.{MemberDecl}
use Rattle.c_syntax_written.specs.declared.written.MemberDecl.TheVariants as lines
use Rattle.c_syntax_written.specs.declared.written.Specs.{Specs}
use Rattle.c_syntax_written.specs.contracts.written.MemberDecl as decl
use Rattle.c_syntax_written.specs.Written.{declarator_tree, declarators_tree, expr_tree, memberdecl_tree, specs_tree}
use Rattle.c_syntax_written.specs.Sizes.{declarator_size, declarators_size, expr_size, memberdecl_size, specs_size}
use Rattle.c_syntax_written.proofs.WrittenTrees.{expr_cast, memberdecl_members}

pub cast_falls : (e : Expr) (pos : Pos) (specs : Box Specs Global) (declarator : Box Declarator Global) (operand : Box Expr Global)
    → e ≡ exprs.Cast pos specs declarator operand
    → 4 * (specs_size (specs_tree specs.value) + declarator_size (declarator_tree declarator.value) + expr_size (expr_tree operand.value)) + 3
    < 4 * expr_size (expr_tree e) + 1
cast_falls e pos specs declarator operand is = rw (ap expr_tree is ∙ expr_cast pos specs declarator operand) (omega arith)

one_variant : (line : MemberDecl) → tag_of (declared decl.enum) line ≡ 0
unfolding line_of.out-MemberDecl denote.Hole.Carrier.out
one_variant (lines.Members' pos specs_shape specs declarators_shape declarators) = refl

same_parts : (line : MemberDecl) (v w : ValuesAt decl.enum.parts 0) → values_d decl.enum 0 w line ≡ values_d decl.enum 0 v line
unfolding line_of.out-MemberDecl denote.Hole.Carrier.out
same_parts (lines.Members' pos specs_shape specs declarators_shape declarators) v w = refl

-- the parts are read off the line, which has no other variant
pub members_fall : (line : MemberDecl) (v w : ValuesAt decl.enum.parts 0)
    → 4 * (specs_size (specs_tree (values_d decl.enum 0 v line).1.0) + declarators_size (declarators_tree (values_d decl.enum 0 w line).1.1.0)) + 3
    < 4 * memberdecl_size (memberdecl_tree line)
members_fall line v w =
    let parts = values_d decl.enum 0 v line in
    let is : line ≡ lines.Members parts.0 parts.1.0 parts.1.1.0 = lives_by decl.enum line 0 v (one_variant line) in
    rw (same_parts line v w) (rw (ap memberdecl_tree is ∙ memberdecl_members parts.0 parts.1.0 parts.1.1.0) (omega arith))
