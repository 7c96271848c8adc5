-- The lines of a file, as the code goes through them.
use Rattle.std.proofs.Common.{◌≡◌, sym, ap, ◌∙◌, subst, List, [], ◌∷◌, ◌++◌, map, false}
use Rattle.std.specs.Prelude.{⊤, reverse}
use Rattle.std.proofs.lemmas.List.{reverse-append, reverse-reverse}
use Rattle.c_syntax_written.specs.declared.place.Pos.{Pos}
use Rattle.c_syntax_written.specs.declared.file.Outer.{Outer}
use Rattle.c_syntax_written.specs.Written.{SpecTrees, DeclaratorTree}
use Rattle.c_syntax_written.specs.WrittenDecl.{DeclTree}
use Rattle.c_syntax_written.specs.WrittenFile.{OuterTree, Declared, BlockItemTrees, outer_tree}
use Rattle.c_syntax_written.specs.WrittenFile as written
use Rattle.c_typing.specs.World.{World, Outcome, Typed, Then, Is}
use Rattle.c_typing.specs.Specifiers.{no_specs_yet, OfDeclaration, type_told}
use Rattle.c_typing.specs.Typing.{first_of, TypesSpecs, TypesDeclarator}
use Rattle.c_typing.specs.Context.{Context, in_function}
use Rattle.c_typing.specs.Decls.{nothing_made, TypesDecl}
use Rattle.c_typing.specs.Stmts.{TypesItems}
use Rattle.c_typing.specs.File.{definition, definition_ends, TypesOuter, TypesOuters}

-- ---- what stands in a file

pub declared_line : (w : World) (around : Context) (t : OuterTree) (decl : DeclTree) (o : Outcome ⊤) → t ≡ Declared decl
    → Then (TypesDecl w around decl) (λ made w1. Is (Typed tt w1)) o → TypesOuter w around t o
declared_line w around t decl o e p = subst (λ t. TypesOuter w around t o) (sym e) p

-- a function, whose first token is this
pub function_line : (w : World) (around : Context) (at first : Pos) (specs : SpecTrees) (declarator : DeclaratorTree) (brace : Pos) (body : BlockItemTrees) (o : Outcome ⊤)
    → first ≡ first_of at specs
    → Then (TypesSpecs w false no_specs_yet specs) (λ s w1. Then (Is (type_told OfDeclaration first s w1)) (λ base w2. Then (TypesDeclarator w2 declarator)
    (λ shape w3. Then (Is (definition w3 around first s.storage base shape)) (λ begun w4. Then (TypesItems w4 (in_function begun.result body around) nothing_made body)
    (λ made w5. Is (Typed tt (definition_ends begun brace made w5))))))) o
    → TypesOuter w around (written.Function at specs declarator brace body) o
function_line w around at first specs declarator brace body o e p =
    subst (λ (g : Pos). Then (TypesSpecs w false no_specs_yet specs) (λ s w1. Then (Is (type_told OfDeclaration g s w1)) (λ base w2.
    Then (TypesDeclarator w2 declarator) (λ shape w3. Then (Is (definition w3 around g s.storage base shape)) (λ begun w4.
    Then (TypesItems w4 (in_function begun.result body around) nothing_made body) (λ made w5. Is (Typed tt (definition_ends begun brace made w5))))))) o) e p

-- ---- all of it

no_outers_line : (w : World) (around : Context) (o : Outcome ⊤) → o ≡ Typed tt w → TypesOuters w around [] o
unfolding TypesOuters
no_outers_line w around o p = p

outers_line : (w : World) (around : Context) (outer : OuterTree) (rest : List OuterTree) (o : Outcome ⊤)
    → Then (TypesOuter w around outer) (λ unit w1. TypesOuters w1 around rest) o → TypesOuters w around (outer ∷ rest) o
unfolding TypesOuters
outers_line w around outer rest o p = p

-- what is left, its first item at the end
abbrev pub TypesLeft : World → Context → List Outer → Outcome ⊤ → Type 0
TypesLeft w around left o = TypesOuters w around (map outer_tree (reverse left)) o

pub all_left : (w : World) (around : Context) (items left : List Outer) (o : Outcome ⊤) → left ≡ reverse items
    → TypesLeft w around left o → TypesOuters w around (map outer_tree items) o
all_left w around items left o e p = subst (λ list. TypesOuters w around (map outer_tree list) o) (ap reverse e ∙ reverse-reverse items) p

pub next_outer : (w : World) (around : Context) (left rest : List Outer) (x : Outer) (o : Outcome ⊤) → left ≡ rest ++ x ∷ []
    → Then (TypesOuter w around (outer_tree x)) (λ unit w1. TypesLeft w1 around rest) o → TypesLeft w around left o
next_outer w around left rest x o e p =
    subst (λ list. TypesOuters w around (map outer_tree list) o) (sym (ap reverse e ∙ reverse-append rest (x ∷ [])))
    (outers_line w around (outer_tree x) (map outer_tree (reverse rest)) o p)

pub last_outer : (w : World) (around : Context) (left : List Outer) (o : Outcome ⊤) → left ≡ [] → o ≡ Typed tt w → TypesLeft w around left o
last_outer w around left o e p = subst (λ list. TypesOuters w around (map outer_tree (reverse list)) o) (sym e) (no_outers_line w around o p)
