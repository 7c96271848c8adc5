-- What a declarator declares, by the ways in which typing comes to it.
use Rattle.std.specs.Prelude.{◌≡◌, ℕ, Bool, true, false, not, ◌&&◌, Option, Some, None, List, length}
use Rattle.c_syntax_written.specs.declared.written.StorageWord.{StorageWord}
use Rattle.c_syntax_written.specs.declared.written.StorageWord.TheVariants.{Typedef}
use Rattle.c_syntax.specs.Types.{CTypeTree, Array}
use Rattle.c_typing.specs.World.{World, Form, Plain, Unsized, Callable, Object, Missing, Linked, TypeName, Typed}
use Rattle.c_typing.specs.Names.{is_reserved, with_name, linked_as}
use Rattle.c_typing.specs.Operands.{is_unsized, complete_size}
use Rattle.c_typing.specs.Declarators.{DeclaredName, ParameterTree, Step, laid}
use Rattle.c_typing.specs.Context.{Context, has_name}
use Rattle.c_typing.specs.Decls.{FileObject, Declares, AnObject, NoObject, local_object, local_now, object_of, with_object, with_linked, with_sized, with_defined, with_type, file_now, file_object_of, is_object_again, is_function_so, new_function, parameters_of, number_of, composite_type, is_word}

-- the type that a declaration gives an object, const as it is declared: one that is complete, or an array whose size is not told
pub data IsObjectForm (w : World) : CTypeTree → Bool → Form → Type 0 where
  complete : (ty : CTypeTree) (is_const : Bool) → IsObjectForm w ty is_const (Plain ty is_const)
  open_array : (of : CTypeTree) (is_const : Bool) → IsObjectForm w (Array of is_const 0) false (Unsized of is_const)

-- an object of the file has a size, or, as an array without one, none yet; then its initialiser gives it one
pub data IsFileSize (w : World) (ty : CTypeTree) (how : FileObject) : ℕ → Bool → Type 0 where
  told : {size : ℕ} → is_unsized ty ≡ false → complete_size w.structs ty ≡ Some size → IsFileSize w ty how size false
  not_told : is_unsized ty ≡ true → (how.defines && not how.has_init) ≡ false → IsFileSize w ty how 0 how.has_init

-- with this sum of sizes
abbrev pub with_sum : World → ℕ → World
with_sum w total = record w { total = total }

-- what a declaration of a function comes to: nothing for a reserved name, else a function, new or known, by its number
pub data MakesFunction (around : Context) (w : World) (named : DeclaredName) (params : List ParameterTree) (types : List CTypeTree) (result : CTypeTree)
    (has_body : Bool) :
    Option ℕ → World → Type 0 where
  reserved_function : is_reserved named.name ≡ true → has_body ≡ false → MakesFunction around w named params types result has_body None w
  new_name :
      is_reserved named.name ≡ false → linked_as w named.name ≡ None
      → MakesFunction around w named params types result has_body (Some (length w.functions))
      (new_function w named (has_name around.functions named.name) params types result)
  known_name :
      (l : Linked) → linked_as w named.name ≡ Some l → is_function_so w types result has_body l.meaning ≡ true
      → MakesFunction around w named params types result has_body (Some (number_of l.meaning)) (with_name w named.pos named.name l.meaning)

-- what a name is declared as, from its steps and the type of the specs
pub data MakesName (around : Context) (w : World) (storage : List StorageWord) (steps : List Step) (base : Form) (has_init : Bool) (named : DeclaredName) :
    Declares → World → Type 0 where
  type_name : (form : Form) → is_word Typedef storage ≡ true → laid w named.pos steps base ≡ Typed form w
      → MakesName around w storage steps base has_init named NoObject (with_name w named.pos named.name (TypeName form))
  reserved : is_reserved named.name ≡ true → MakesName around w storage steps base has_init named NoObject w
  first_function :
      (types : List CTypeTree) (result : CTypeTree) → is_reserved named.name ≡ false → laid w named.pos steps base ≡ Typed (Callable types result) w
      → linked_as w named.name ≡ None
      → MakesName around w storage steps base has_init named NoObject
      (new_function w named (has_name around.functions named.name) (parameters_of steps types named.pos) types result)
  function_again :
      (types : List CTypeTree) (result : CTypeTree) (l : Linked) → linked_as w named.name ≡ Some l → is_function_so w types result false l.meaning ≡ true
      → MakesName around w storage steps base has_init named NoObject (with_name w named.pos named.name l.meaning)
  local :
      (ty : CTypeTree) (is_const is_static : Bool) (size : ℕ) → around.in_block ≡ true → laid w named.pos steps base ≡ Typed (Plain ty is_const) w
      → complete_size w.structs ty ≡ Some size
      → MakesName around w storage steps base has_init named (AnObject (local_now w named ty is_static false)) (local_object w named ty is_const is_static size)
  local_open :
      (of : CTypeTree) (is_const is_static : Bool) → around.in_block ≡ true → laid w named.pos steps base ≡ Typed (Unsized of is_const) w → has_init ≡ true
      → MakesName around w storage steps base has_init named (AnObject (local_now w named (Array of is_const 0) is_static true))
      (local_object w named (Array of is_const 0) false is_static 0)
  first_object :
      (form : Form) (ty : CTypeTree) (is_const measured : Bool) (size total : ℕ) → is_reserved named.name ≡ false
      → laid w named.pos steps base ≡ Typed form w → IsObjectForm w ty is_const form
      → linked_as w named.name ≡ None → has_name around.objects named.name ≡ true
      → IsFileSize w ty (file_object_of around storage named.name has_init) size measured
      → MakesName around w storage steps base has_init named (AnObject (file_now named ty (file_object_of around storage named.name has_init) measured
      (length w.objects)))
      (with_linked (with_object (with_sum w total) (object_of named ty is_const size true)) named (Object (length w.objects))
      (file_object_of around storage named.name has_init).defines)
  first_missing :
      (ty : CTypeTree) (is_const : Bool) (total : ℕ) → is_reserved named.name ≡ false → linked_as w named.name ≡ None
      → has_name around.objects named.name ≡ false
      → MakesName around w storage steps base has_init named NoObject (with_linked (with_sum w total) named (Missing ty is_const) false)
  object_again :
      (form : Form) (ty : CTypeTree) (is_const measured : Bool) (l : Linked) (n size total : ℕ) → laid w named.pos steps base ≡ Typed form w
      → IsObjectForm w ty is_const form
      → linked_as w named.name ≡ Some l → l.meaning ≡ Object n → is_object_again w ty is_const has_init (Object n) ≡ true
      → IsFileSize w (composite_type w ty (Some l)) (file_object_of around storage named.name has_init) size measured
      → MakesName around w storage steps base has_init named
      (AnObject (file_now named (composite_type w ty (Some l)) (file_object_of around storage named.name has_init) measured n))
      (with_defined (with_name (with_sized (with_sum w total) n (composite_type w ty (Some l)) size) named.pos named.name (Object n)) named.name
      (file_object_of around storage named.name has_init).defines)
  missing_again :
      (ty before : CTypeTree) (before_const : Bool) (l : Linked) (size total : ℕ) (defines : Bool) → linked_as w named.name ≡ Some l
      → l.meaning ≡ Missing before before_const
      → MakesName around w storage steps base has_init named NoObject
      (with_defined (with_name (with_type (with_sum w total) named.name (Missing before before_const) ty size) named.pos named.name
      (Missing before before_const)) named.name defines)
