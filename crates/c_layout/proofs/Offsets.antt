-- The member of a name, as a loop over the members comes to it.
use Rattle.std.proofs.Common.{◌≡◌, ℕ, suc, ◌+◌, ◌<◌, List, ◌∷◌, length, map, get_or, drop, add-one, true, false, ap, sym, ◌∙◌}
use Rattle.std.specs.Prelude.{Some}
use Rattle.std.specs.Str.{bytes_eq}
use Rattle.std.proofs.lemmas.List.{length-map}
use Rattle.std.proofs.Math.Seq.{drop-cons}
use Rattle.std.proofs.Math.ListN.{get_or-map}
use Rattle.c_syntax.specs.declared.program.Member.{Member}
use Rattle.c_syntax.specs.Program.{MemberTree, member_tree}
use Rattle.c_layout.specs.Layout.{offset_named}

rest_from : (members : List Member) (i : ℕ) (m : Member) → i < length members → m ≡ get_or members i m → drop i (map member_tree members) ≡ member_tree m ∷ drop (i + 1) (map member_tree members)
rest_from members i m h e =
    let long : i < length (map member_tree members) = simp length-map h in
    let here : get_or (map member_tree members) i (member_tree m) ≡ member_tree m = get_or-map member_tree members i m ∙ ap member_tree (sym e) in
    rw add-one (drop-cons (map member_tree members) i (member_tree m) long ∙ ap (λ x. x ∷ drop (suc i) (map member_tree members)) here)

named_first : (m : MemberTree) (rest : List MemberTree) (name : List ℕ) → bytes_eq m.name name ≡ true → offset_named (m ∷ rest) name ≡ Some m.offset
named_first m rest name e = rw e

named_later : (m : MemberTree) (rest : List MemberTree) (name : List ℕ) → bytes_eq m.name name ≡ false → offset_named (m ∷ rest) name ≡ offset_named rest name
named_later m rest name e = rw e

pub offset_found : (members : List Member) (i : ℕ) (m : Member) (name : List ℕ) → i < length members → m ≡ get_or members i m → bytes_eq m.name name ≡ true → offset_named (map member_tree members) name ≡ offset_named (drop i (map member_tree members)) name → Some m.offset ≡ offset_named (map member_tree members) name
offset_found members i m name h e t is =
    sym (is ∙ ap (λ ms. offset_named ms name) (rest_from members i m h e) ∙ named_first (member_tree m) (drop (i + 1) (map member_tree members)) name t)

pub offset_passed : (members : List Member) (i : ℕ) (m : Member) (name : List ℕ) → i < length members → m ≡ get_or members i m → bytes_eq m.name name ≡ false → offset_named (map member_tree members) name ≡ offset_named (drop i (map member_tree members)) name → offset_named (map member_tree members) name ≡ offset_named (drop (i + 1) (map member_tree members)) name
offset_passed members i m name h e t is =
    is ∙ ap (λ ms. offset_named ms name) (rest_from members i m h e) ∙ named_later (member_tree m) (drop (i + 1) (map member_tree members)) name t
