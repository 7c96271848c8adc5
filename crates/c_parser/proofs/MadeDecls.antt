-- Trees of declarations that the code makes.
use Rattle.std.proofs.Common.{◌≡◌, ap, ◌∙◌}
use Rattle.c_syntax_written.specs.declared.place.Pos.{Pos}
use Rattle.std.specs.Prelude.{List}
use Rattle.c_syntax_written.specs.Written.{SpecTrees}
use Rattle.c_syntax_written.specs.WrittenDecl.{DeclTree, InitDeclaratorTree}

abbrev decl_of : Pos → SpecTrees → List InitDeclaratorTree → DeclTree
decl_of p s i = record { pos = p; specs = s; inits = i }

pub same_decl : {p q : Pos} {s : SpecTrees} {i j : List InitDeclaratorTree} → p ≡ q → i ≡ j → decl_of p s i ≡ decl_of q s j
same_decl {p} {q} {s} {i} {j} e f = ap (λ (v : Pos). decl_of v s i) e ∙ ap (λ (v : List InitDeclaratorTree). decl_of q s v) f
