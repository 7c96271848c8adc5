-- What declarations make in a block holds no label, no goto and no list.
use Rattle.std.proofs.Common.{◌≡◌, true, false, List, [], ◌++◌, refl, ap, sym, ◌∙◌}
use Rattle.std.proofs.lemmas.List.{append_assoc}
use Rattle.std.specs.Prelude.{Bool, if◌then◌else◌, Option}
use Rattle.c_syntax_written.specs.declared.place.Pos.{Pos}
use Rattle.c_syntax_written.specs.declared.written.StorageWord.{StorageWord}
use Rattle.c_syntax_written.specs.WrittenDecl.{InitTree, InitDeclaratorTree, DeclTree}
use Rattle.c_syntax.specs.TypedStmt.{TInitTree, TStmtTrees, none, more}
use Rattle.c_layout.specs.Jumps.{labels_of, labels_in, gotos_of, gotos_in, listed_of, listed_in}
use Rattle.c_typing.specs.World.{World, Form}
use Rattle.c_typing.specs.Context.{Context}
use Rattle.c_typing.specs.Decls.{Declares, ObjectNow, Made, nothing_made, both, made_of, automatic, static_made}
use Rattle.c_typing_laws.specs.DeclSteps.{MakesInit, no_object, bare, given, MakesDeclarators, one_more, MakesDecl}
use Rattle.c_typing_laws.specs.DeclSteps as steps

pub labels_both : (xs ys : TStmtTrees) → labels_in (both xs ys) ≡ labels_in xs ++ labels_in ys
unfolding labels_of labels_in both
labels_both none ys = refl
labels_both (more x xs) ys = ap (λ l. labels_of x ++ l) (labels_both xs ys) ∙ sym (append_assoc (labels_of x) (labels_in xs) (labels_in ys))

pub gotos_both : (xs ys : TStmtTrees) → gotos_in (both xs ys) ≡ gotos_in xs ++ gotos_in ys
unfolding gotos_of gotos_in both
gotos_both none ys = refl
gotos_both (more x xs) ys = ap (λ l. gotos_of x ++ l) (gotos_both xs ys) ∙ sym (append_assoc (gotos_of x) (gotos_in xs) (gotos_in ys))

pub listed_both : (xs ys : TStmtTrees) → listed_in (both xs ys) ≡ listed_in xs ++ listed_in ys
unfolding listed_of listed_in both
listed_both none ys = refl
listed_both (more x xs) ys = ap (λ l. listed_of x ++ l) (listed_both xs ys) ∙ sym (append_assoc (listed_of x) (listed_in xs) (listed_in ys))

pub record IsPlain (items : TStmtTrees) : Type 0 where
  pub labels : labels_in items ≡ []
  pub gotos : gotos_in items ≡ []
  pub lists : listed_in items ≡ []

pub plain_none : IsPlain none
unfolding labels_of labels_in gotos_of gotos_in listed_of listed_in
plain_none = record { labels = refl; gotos = refl; lists = refl }

plain_both : (xs ys : TStmtTrees) → IsPlain xs → IsPlain ys → IsPlain (both xs ys)
plain_both xs ys p q = record {
  labels = labels_both xs ys ∙ ap (λ l. l ++ labels_in ys) p.labels ∙ q.labels;
  gotos = gotos_both xs ys ∙ ap (λ l. l ++ gotos_in ys) p.gotos ∙ q.gotos;
  lists = listed_both xs ys ∙ ap (λ l. l ++ listed_in ys) p.lists ∙ q.lists;
}

plain_automatic : (object : ObjectNow) (items : List TInitTree) (rest : Bool) → IsPlain (automatic object items rest).items
unfolding labels_of labels_in gotos_of gotos_in listed_of listed_in
plain_automatic object items rest = record { labels = refl; gotos = refl; lists = refl }

plain_static : (object : ObjectNow) → IsPlain (static_made object).items
unfolding labels_of labels_in gotos_of gotos_in listed_of listed_in
plain_static object = record { labels = refl; gotos = refl; lists = refl }

plain_made : (object : ObjectNow) (items : List TInitTree) (rest : Bool) → IsPlain (made_of object items rest).items
plain_made object items rest = by object.in_block object.is_static
  where
    by : (b s : Bool) → IsPlain (if b then (if s then static_made object else automatic object items rest) else nothing_made).items
    by true true = plain_static object
    by true false = plain_automatic object items rest
    by false s = plain_none

plain_init : {w v : World} {what : Declares} {init : Option InitTree} {made : Made} → MakesInit w what init made v → IsPlain made.items
plain_init no_object = plain_none
plain_init (bare {object = object}) = plain_made object [] false
plain_init (given {object = object} {by = by} t s) = plain_made object by.items by.zeroes_rest

plain_declarators :
    {around : Context} {first : Pos} {storage : List StorageWord} {base : Form} {w v : World} {done made : Made} {items : List InitDeclaratorTree}
    → IsPlain done.items → MakesDeclarators around first storage base w done items made v → IsPlain made.items
plain_declarators p steps.none = p
plain_declarators p (one_more {done = done} {made = made} t e n m r) = plain_declarators (plain_both done.items made.items p (plain_init m)) r

pub plain_decl : {w v : World} {around : Context} {decl : DeclTree} {made : Made} → MakesDecl w around decl made v → IsPlain made.items
plain_decl d = plain_declarators plain_none d.rest
