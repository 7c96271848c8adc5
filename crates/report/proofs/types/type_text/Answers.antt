use Rattle.std.proofs.Common.{rules, ◌≡◌, ◌++◌, List, ℕ, codes}
use Rattle.c_syntax.specs.Types.{ctype_tree}
use Rattle.report.specs.TypeText.{array_front, type_text}
use Rattle.report.proofs.TypeWords.{the_types, told_more}
use Rattle.report.proofs.types.type_text.Goals as goal

pub loop-ty-preserved-in-Pointer-1 : goal.loop-ty-preserved-in-Pointer-1
loop-ty-preserved-in-Pointer-1 c =
    let tags : List (List ℕ) = c.args.tags.now in
    let grown : c.extend_from_slice.new.self.items ≡ c.loop-ty.text.items ++ codes "pointer to " = search rules in
    let parts : type_text tags (ctype_tree c.loop-ty.ty.now) ≡ codes "pointer to " ++ type_text tags (ctype_tree c.deref.result.now.ty) = search (rules, the_types) in
    told_more c.loop-ty.text.items c.extend_from_slice.new.self.items (codes "pointer to ") (type_text tags (ctype_tree c.loop-ty.ty.now)) (type_text tags (ctype_tree c.deref.result.now.ty))
    (type_text tags (ctype_tree c.args.ty.now)) grown parts c.loop-ty.invariant

pub loop-ty-preserved : goal.loop-ty-preserved
loop-ty-preserved c =
    let tags : List (List ℕ) = c.args.tags.now in
    let front : List ℕ = array_front c.in-Array.n in
    let grown : c.extend_from_slice-in-Array.new.self.items ≡ c.loop-ty.text.items ++ front = search rules in
    let parts : type_text tags (ctype_tree c.loop-ty.ty.now) ≡ front ++ type_text tags (ctype_tree c.deref-in-Array.result.now.ty) = search (rules, the_types) in
    told_more c.loop-ty.text.items c.extend_from_slice-in-Array.new.self.items front (type_text tags (ctype_tree c.loop-ty.ty.now)) (type_text tags (ctype_tree c.deref-in-Array.result.now.ty))
    (type_text tags (ctype_tree c.args.ty.now)) grown parts c.loop-ty.invariant
