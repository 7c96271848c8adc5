use Rattle.std.proofs.Common.{◌≡◌, ℕ, List, ap, sym, ◌∙◌, ◌<◌, length, map, set, Some, arith}
use Rattle.std.specs.Prelude.{slice_get}
use Rattle.std.proofs.lemmas.List.{map-set}
use Rattle.std.proofs.lemmas.Option.{slice_get-get_or}
use Rattle.c_syntax.specs.declared.program.Member.{Member}
use Rattle.c_syntax.specs.declared.program.StructDef.{StructDef}
use Rattle.c_syntax.specs.Program.{StructDefTree, member_tree, structdef_tree}
use Rattle.c_check_names.proofs.Members.{names_of, tag_told}
use Rattle.c_check_names.proofs.structs.Structs.with_members.Goals as goal

pub invariant_of-result-2 : goal.invariant_of-result-2
invariant_of-result-2 c =
    let n = c.args.n in
    let def : StructDef = record { tag = c.in_ok-tag.tag; members = c.args.members; size = c.args.size; align = c.args.align } in
    let names = c.in_ok-places.ensures ∙ ap (map (λ (member : Member). member.name)) c.as_slice.ensures in
    let after = c.from_vec-2.ensures ∙ ap (λ defs. set defs n def) c.into_vec-defs.ensures in
    record {
      indexed = ap (λ places. set places n c.in_ok-places.field-0) c.args.self.indexed ∙ ap (set (map names_of c.args.self.defs) n) names
          ∙ sym (map-set names_of c.args.self.defs n def) ∙ ap (map names_of) (sym after);
    }

pub returns : goal.returns
returns c =
    let n = c.args.n in
    let defs = c.args.self.defs in
    let within : n < length c.into_vec-defs.result.items = omega (arith, c.into_vec-defs.result.ok.0) in
    let there : slice_get c.into_vec-defs.result.items n ≡ Some c.index.result.now = slice_get-get_or c.into_vec-defs.result.items n c.index.result.now within ∙ ap Some (sym c.index.ensures) in
    let there_before = ap (λ defs. slice_get defs n) (sym c.into_vec-defs.ensures) ∙ there in
    let def : StructDef = record { tag = c.in_ok-tag.tag; members = c.args.members; size = c.args.size; align = c.args.align } in
    let after = c.from_vec-2.ensures ∙ ap (λ defs. set defs n def) c.into_vec-defs.ensures in
    let made = λ (tag : List ℕ). let tree : StructDefTree = record { tag = tag; members = map member_tree c.args.members; size = c.args.size; align = c.args.align } in tree in
    ap (map structdef_tree) after ∙ map-set structdef_tree defs n def
    ∙ ap (λ tag. set (map structdef_tree defs) n (made tag)) (c.in_ok-tag.ensures ∙ tag_told defs n c.index.result.now there_before)
