-- The declarators of a declaration one by one, each apart from those behind it.
use Rattle.std.specs.Prelude.{List, is_some}
use Rattle.c_syntax_written.specs.declared.place.Pos.{Pos}
use Rattle.c_syntax_written.specs.declared.written.StorageWord.{StorageWord}
use Rattle.c_syntax_written.specs.WrittenDecl.{InitTree, InitDeclaratorTree}
use Rattle.c_typing.specs.Context.{Context}
use Rattle.c_typing.specs.Decls.{ObjectNow, Made, declared, frame_for, initialised, measured, TypesInitOf}
use Rattle.c_typing.specs.Inits.{TypesInit}
use Rattle.c_typing.specs.Typing.{TypesDeclarator}
use Rattle.c_typing.specs.World.{World, Form, Outcome, Then, Is}

-- an object with its initialiser
abbrev pub WithInitialiser : World → ObjectNow → InitTree → Outcome Made → Type 0
WithInitialiser w object init o =
    Then (TypesInit w object.is_static object.ty (frame_for w object) init) (λ by w1. Is (initialised w1 object by (measured w1 object by))) o

-- a declarator with its initialiser, if it has one
abbrev pub OneDeclarator : World → Context → Pos → List StorageWord → Form → InitDeclaratorTree → Outcome Made → Type 0
OneDeclarator w around first storage base item o =
    Then (TypesDeclarator w item.declarator) (λ shape w1.
    Then (Is (declared w1 around first storage base (is_some item.init) shape)) (λ what w2. TypesInitOf w2 what item.init)) o
