-- How typed declarations come from their typed parts.
use Rattle.std.specs.Prelude.{◌≡◌, ◌≤◌, ◌^◌, ◌==◌, true, false, is_some, Option, Some, None, List, [], ◌∷◌}
use Rattle.c_syntax_written.specs.declared.place.Pos.{Pos}
use Rattle.c_syntax_written.specs.declared.written.StorageWord.{StorageWord}
use Rattle.c_syntax_written.specs.WrittenDecl.{InitTree, InitDeclaratorTree, DeclTree}
use Rattle.c_syntax.specs.Types.{CTypeTree}
use Rattle.c_typing.specs.World.{World, Form, Typed}
use Rattle.c_typing.specs.Specifiers.{SpecsTree, no_specs_yet, OfDeclaration, type_told}
use Rattle.c_typing.specs.Declarators.{DeclaredName, Shape}
use Rattle.c_typing.specs.Typing.{first_of, TypesSpecs, TypesDeclarator}
use Rattle.c_typing.specs.Inits.{Initialised, TypesInit}
use Rattle.c_typing.specs.Context.{Context}
use Rattle.c_typing.specs.Decls.{Declares, AnObject, NoObject, ObjectNow, Made, nothing_made, made_then, made_of, measured_type, size_or_zero, with_total, with_sized, with_static, frame_for, declared, TypesInitOf, is_struct_alone}
use Rattle.c_typing_laws.specs.NameSteps.{MakesName}

-- the type of an object behind its initialiser: as it was, or with the size that the initialiser gives it
pub data MakesSize (w : World) (object : ObjectNow) (by : Initialised) : CTypeTree → World → Type 0 where
  as_it_was : object.measured ≡ false → MakesSize w object by object.ty w
  by_count :
      object.measured ≡ true → (by.count == 0) ≡ false → size_or_zero w (measured_type object.ty by.count) ≤ 2 ^ 40
      → MakesSize w object by (measured_type object.ty by.count)
      (with_total (with_sized w object.number (measured_type object.ty by.count) (size_or_zero w (measured_type object.ty by.count)))
      (size_or_zero w (measured_type object.ty by.count)))

-- what stands for a declarator, with its initialiser if it has one
pub data MakesInit : World → Declares → Option InitTree → Made → World → Type 0 where
  no_object : {w : World} {init : Option InitTree} → MakesInit w NoObject init nothing_made w
  bare : {w : World} {object : ObjectNow} → MakesInit w (AnObject object) None (made_of object [] false) w
  given :
      {w u v : World} {object : ObjectNow} {init : InitTree} {by : Initialised} {ty : CTypeTree}
      → TypesInit w object.is_static object.ty (frame_for w object) init (Typed by u) → MakesSize u object by ty v
      → MakesInit w (AnObject object) (Some init) (made_of object by.items by.zeroes_rest) (with_static v object ty by)

-- one declarator, what it declares, and its initialiser, as they are typed
pub record TypesStep (around : Context) (first : Pos) (storage : List StorageWord) (base : Form) (item : InitDeclaratorTree) (shape : Shape)
    (what : Declares) (made : Made)
    (w u v x : World) : Type 0 where
  pub declarator : TypesDeclarator w item.declarator (Typed shape u)
  pub name : Typed what v ≡ declared u around first storage base (is_some item.init) shape
  pub init : TypesInitOf v what item.init (Typed made x)

-- declarators from left to right, behind what those before them made
pub data MakesDeclarators (around : Context) (first : Pos) (storage : List StorageWord) (base : Form) : World → Made → List InitDeclaratorTree → Made
    → World → Type 0 where
  none : {w : World} {done : Made} → MakesDeclarators around first storage base w done [] done w
  one_more :
      {w u v x last : World} {done made all : Made} {item : InitDeclaratorTree} {rest : List InitDeclaratorTree} {shape : Shape} {named : DeclaredName}
      {what : Declares}
      → TypesStep around first storage base item shape what made w u v x → shape.name ≡ Some named
      → MakesName around u storage shape.steps base (is_some item.init) named what v
      → MakesInit v what item.init made x → MakesDeclarators around first storage base x (made_then done made) rest all last
      → MakesDeclarators around first storage base w done (item ∷ rest) all last

-- a declaration
pub record MakesDecl (w : World) (around : Context) (decl : DeclTree) (made : Made) (v : World) : Type 0 where
  pub specs : SpecsTree
  pub base : Form
  pub behind : World
  pub types : TypesSpecs w (is_struct_alone decl.specs decl.inits) no_specs_yet decl.specs (Typed specs behind)
  pub told : type_told OfDeclaration (first_of decl.pos decl.specs) specs behind ≡ Typed base behind
  pub rest : MakesDeclarators around (first_of decl.pos decl.specs) specs.storage base behind nothing_made decl.inits made v
