-- A file comes from its parts.
use Rattle.std.proofs.Common.{◌≡◌, ℕ, true, false, List, [], ◌∷◌, ◌++◌, length, refl, sym, subst}
use Rattle.std.proofs.lemmas.List.{append-nil, append_assoc}
use Rattle.std.specs.Prelude.{◌+◌, unwrap_or, Option, None, Some, map, ⊤}
use Rattle.c_syntax_written.specs.declared.place.Pos.{Pos}
use Rattle.c_syntax_written.specs.declared.written.StorageWord.{StorageWord}
use Rattle.c_syntax_written.specs.declared.written.StorageWord.TheVariants.{Typedef}
use Rattle.c_syntax_written.specs.Written.{SpecTrees, DeclaratorTree}
use Rattle.c_syntax_written.specs.WrittenFile as files
use Rattle.c_syntax_written.specs.WrittenFile.{BlockItemTrees, OuterTree}
use Rattle.c_syntax.specs.Types.{CTypeTree}
use Rattle.c_layout.specs.Layout.{size_in}
use Rattle.c_typing.specs.World.{World, Form, Plain, Unsized, Callable, Binding, TagBinding, Outcome, Typed, Refused}
use Rattle.c_typing.specs.Specifiers.{SpecsTree, no_specs_yet}
use Rattle.c_typing.specs.Declarators.{DeclaredName, ParameterTree, Step, PointerTo, ArrayOf, OpenArray, FunctionOf, Shape, laid}
use Rattle.c_typing.specs.Typing.{first_of, TypesSpecs, TypesDeclarator}
use Rattle.c_typing.specs.Context.{Context, in_function}
use Rattle.c_typing.specs.Decls.{Made, nothing_made, is_word, parameter_object, function_declared}
use Rattle.c_typing.specs.File as whole
use Rattle.c_typing.specs.File.{Begun, in_body, defined_function, with_function_at, with_counted, body_begins, definition_begins, definition_of, definition_laid, definition_named, definition_ends, TypesOuter, TypesOuters}
use Rattle.c_typing_laws.specs.NameSteps.{MakesFunction}
use Rattle.c_typing_laws.specs.FileSteps.{IsCounted, counted, MakesHead, head, MakesOuter, declares, defines, MakesOuters, no_more, and_then}
use Rattle.c_typing_laws.specs.StmtSteps.{MakesItems}
use Rattle.c_typing_laws.proofs.Outcomes.{TypedAs, typed_as, refused_as, AllTyped, as_it_is, then_as, is_as, as_if, as_limits, as_made, IsSo, is_so}
use Rattle.c_typing_laws.proofs.NamesMade.{StaysAt, stays_at, laid_stays, function_as}
use Rattle.c_typing_laws.proofs.DeclsMade.{decl_as, IsTold, is_told, told_as}
use Rattle.c_typing_laws.proofs.StmtsMade.{items_as}

-- ---- parameters of a definition

count_more : {w : World} {param : ParameterTree} {rest : List ParameterTree} {size : ℕ} {v : World}
    → IsCounted (record w { objects = w.objects ++ parameter_object w param ∷ []; total = size }) rest v → IsCounted w (param ∷ rest) v
count_more {w} {param} {rest} {size} (counted {total = total}) =
    subst (λ objects. IsCounted w (param ∷ rest) (record w { objects = objects; total = total }))
    (sym (append_assoc w.objects (parameter_object w param ∷ []) (map (parameter_object w) rest))) counted

count_none : (w : World) → IsCounted w [] w
count_none w = subst (λ objects. IsCounted w [] (record w { objects = objects; total = w.total })) (append-nil w.objects) (counted {total = w.total})

pub counted_as : (params : List ParameterTree) (w : World) → TypedAs (λ unit v. IsCounted w params v) (with_counted w params)
unfolding with_counted
counted_as [] w = typed_as (count_none w)
counted_as (param ∷ rest) w =
    let size = unwrap_or (size_in w.structs param.ty) 0 in
    as_limits param.pos size w (as_made (λ unit v c. count_more c) (counted_as rest (record w { objects = w.objects ++ parameter_object w param ∷ []; total = w.total + size })))

-- ---- heads

begins_as :
    {around : Context} {w v : World} {steps rest : List Step} {base : Form} {named : DeclaredName} {params : List ParameterTree} {names : List Binding} {tags : List TagBinding}
    {types : List CTypeTree} {result : CTypeTree} {n : ℕ} (o : Outcome ⊤) → steps ≡ FunctionOf params names tags ∷ rest → laid w named.pos steps base ≡ Typed (Callable types result) w
    → MakesFunction around w named params types result true (Some n) v → TypedAs (λ unit x. IsCounted v params x) o
    → TypedAs (MakesHead around w steps base named) (body_begins n (length v.objects) named result params names tags o)
begins_as _ s e f (typed_as c) = typed_as (head s e f c)
begins_as _ s e f refused_as = refused_as

function_begins :
    {around : Context} {w : World} {steps rest : List Step} {base : Form} {named : DeclaredName} {params : List ParameterTree} {names : List Binding} {tags : List TagBinding}
    {types : List CTypeTree} {result : CTypeTree} (o : Outcome (Option ℕ)) → steps ≡ FunctionOf params names tags ∷ rest → laid w named.pos steps base ≡ Typed (Callable types result) w
    → TypedAs (MakesFunction around w named params types result true) o → TypedAs (MakesHead around w steps base named) (definition_begins w named result params names tags o)
function_begins {params = params} (Typed (Some n) v) s e (typed_as f) = begins_as _ s e f (counted_as params v)
function_begins (Typed None v) s e (typed_as f) = refused_as
function_begins (Refused r) s e f = refused_as

of_as :
    (around : Context) (w : World) (named : DeclaredName) (steps all : List Step) (base form : Form) → all ≡ steps → laid w named.pos all base ≡ Typed form w
    → TypedAs (MakesHead around w all base named) (definition_of w around named steps form)
of_as around w named [] all base form s e = refused_as
of_as around w named (PointerTo c ∷ rest) all base form s e = refused_as
of_as around w named (ArrayOf at n ∷ rest) all base form s e = refused_as
of_as around w named (OpenArray ∷ rest) all base form s e = refused_as
of_as around w named (FunctionOf params names tags ∷ rest) all base (Plain ty c) s e = refused_as
of_as around w named (FunctionOf params names tags ∷ rest) all base (Unsized ty c) s e = refused_as
of_as around w named (FunctionOf params names tags ∷ rest) all base (Callable types result) s e =
    function_begins (function_declared w around named params types result true) s e (function_as around w named params types result true)

laid_as :
    (around : Context) (w : World) (named : DeclaredName) (storage : List StorageWord) (steps : List Step) (base : Form) (o : Outcome Form) → laid w named.pos steps base ≡ o → StaysAt w o
    → TypedAs (MakesHead around w steps base named) (definition_laid around named storage steps o)
laid_as around w named storage steps base (Typed form _) e stays_at = as_if (is_word Typedef storage) (λ t. refused_as) (λ t. of_as around w named steps steps base form refl e)
laid_as around w named storage steps base (Refused r) e s = refused_as

-- the head, by its name
data MakesHeadOf (around : Context) (w : World) (base : Form) (shape : Shape) (begun : Begun) (v : World) : Type 0 where
  head_of : {named : DeclaredName} → shape.name ≡ Some named → MakesHead around w shape.steps base named begun v → MakesHeadOf around w base shape begun v

named_as :
    (around : Context) (w : World) (first : Pos) (storage : List StorageWord) (base : Form) (shape : Shape) (name : Option DeclaredName) → shape.name ≡ name
    → TypedAs (MakesHeadOf around w base shape) (definition_named w around first storage shape.steps base name)
named_as around w first storage base shape None e = refused_as
named_as around w first storage base shape (Some named) e =
    as_made (λ begun v h. head_of e h) (laid_as around w named storage shape.steps base (laid w named.pos shape.steps base) refl (laid_stays w named.pos shape.steps base))

definition_as :
    (around : Context) (w : World) (first : Pos) (storage : List StorageWord) (base : Form) (shape : Shape) → TypedAs (MakesHeadOf around w base shape) (whole.definition w around first storage base shape)
definition_as around w first storage base shape = named_as around w first storage base shape shape.name refl

-- ---- the file

define :
    {w u t x y z : World} {around : Context} {at brace : Pos} {specs : SpecTrees} {declarator : DeclaratorTree} {body : BlockItemTrees} {s : SpecsTree} {base : Form} {shape : Shape}
    {begun : Begun} {made : Made}
    → TypesSpecs w false no_specs_yet specs (Typed s u) → IsTold (first_of at specs) s u base t → TypesDeclarator t declarator (Typed shape x)
    → IsSo (whole.definition x around (first_of at specs) s.storage base shape) (MakesHeadOf around x base shape) begun y
    → MakesItems y (in_function begun.result body around) nothing_made body made z
    → MakesOuter w around (files.Function at specs declarator brace body) (definition_ends begun brace made z)
define {w} {u} {t} {x} {y} {z} {around} {at} {brace} {specs} {declarator} {body} {s} {base} {shape} {begun} {made} a (is_told e) d h i = by h.has
  where
    by : MakesHeadOf around x base shape begun y → MakesOuter w around (files.Function at specs declarator brace body) (definition_ends begun brace made z)
    by (head_of n m) = defines (record { words = a; told = e; declarator_is = d; head_is = h.so }) n m i

outer_as : (w : World) (around : Context) (tree : OuterTree) → AllTyped (λ unit v. MakesOuter w around tree v) (TypesOuter w around tree)
outer_as w around (files.Declared decl) = then_as (decl_as w around decl) (λ made v d. is_as (typed_as (declares d)))
outer_as w around (files.Function at specs declarator brace body) =
    then_as (as_it_is (TypesSpecs w false no_specs_yet specs)) (λ s u a.
    then_as (is_as (told_as (first_of at specs) s u)) (λ base t e.
    then_as (as_it_is (TypesDeclarator t declarator)) (λ shape x d.
    then_as (is_so (definition_as around x (first_of at specs) s.storage base shape)) (λ begun y h.
    then_as (items_as y (in_function begun.result body around) nothing_made body) (λ made z i. is_as (typed_as (define a e d h i)))))))

pub outers_as : (w : World) (around : Context) (list : List OuterTree) → AllTyped (λ unit v. MakesOuters around w list v) (TypesOuters w around list)
unfolding TypesOuters
outers_as w around [] = is_as (typed_as no_more)
outers_as w around (tree ∷ rest) = then_as (outer_as w around tree) (λ unit u p o q. as_made (λ unit v q. and_then p q) (outers_as u around rest o q))
