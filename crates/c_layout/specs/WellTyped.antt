-- What a well typed program is.
use Rattle.std.specs.Prelude.{◌≡◌, ◌≢◌, ◌⊎◌, ◌&&◌, ◌<◌, ◌≤◌, ◌==◌, ℕ, Bool, true, false, IsTrue, if◌then◌else◌, Some, option_map, unwrap_or, IfSome, IsSomeAnd, List, [], ◌++◌, All, AllPairs, Contains, count_by, length, slice_get, codes}
use Rattle.std.specs.List.{flat_map}
use Rattle.c_syntax.specs.declared.program.InitByte.{InitByte}
use Rattle.c_syntax.specs.declared.program.InitByte.TheVariants.{Num, Piece}
use Rattle.c_syntax.specs.declared.program.Initial.{Initial}
use Rattle.c_syntax.specs.Types.{CTypeTree, Void, Array, ObjectTree}
use Rattle.c_syntax.specs.TypedStmt.{TStmtTree}
use Rattle.c_syntax.specs.Program.{StructDefTree, TFunctionTree, TProgramTree}
use Rattle.c_layout.specs.Layout.{size_in}
use Rattle.c_layout.specs.Tables.{IsTypedTable}
use Rattle.c_layout.specs.ProperTypes.{IsProperType}
use Rattle.c_layout.specs.RowTypes.{IsScalar, has_const_elements, is_literal, is_declared_const}
use Rattle.c_layout.specs.Jumps.{labels_of, gotos_of, listed_of}
use Rattle.c_layout.specs.TypedNodes.{Standing, IsBlock, IsTypedStmt, object_type}

-- C11 6.2.5p20
abbrev pub is_array : CTypeTree → Bool
is_array (Array of is_const n) = true
is_array ty = false

-- an object has its type's size; an array was declared const exactly where its elements are (C11 6.7.3p9), and a literal is one of static duration
pub record IsTypedObject (structs : List StructDefTree) (object : ObjectTree) : Type 0 where
  pub ty : IsProperType structs object.ty
  pub size : size_in structs object.ty ≡ Some object.size
  pub elements : has_const_elements object.ty ≡ is_array object.ty && is_declared_const object
  pub literal : IsTrue (is_literal object) → IsTrue object.is_static × (object.name ≡ codes "string")

-- the outermost block of a function's body
abbrev pub body_standing : TProgramTree → TFunctionTree → Standing
body_standing program function = record {
  scope = record { program = program; live = function.params };
  block = [];
  result = function.result;
  breaks = false;
  continues = false;
  cases = false;
}

-- the body of a function, with its jumps (C11 6.8.1p3, 6.8.6.1p1)
pub record IsTypedBody (program : TProgramTree) (function : TFunctionTree) (body : TStmtTree) : Type 0 where
  pub block : IsBlock body
  pub typed : IsTypedStmt (body_standing program function) body
  pub labels_distinct : AllPairs (λ a b. a ≢ b) (labels_of body)
  pub gotos_there : All (Contains (labels_of body)) (gotos_of body)

-- a function takes scalars, and gives one or nothing (this profile)
pub record IsTypedFunction (program : TProgramTree) (function : TFunctionTree) : Type 0 where
  pub params : All (λ param. (param < length program.objects) × IsScalar (object_type program param)) function.params
  pub result : IsScalar function.result ⊎ (function.result ≡ Void)
  pub result_proper : IsProperType program.structs function.result
  pub body : IfSome function.body (IsTypedBody program function)

-- the objects of the parameter list and of each block of a function
abbrev pub listed_by : TFunctionTree → List ℕ
listed_by function = function.params ++ unwrap_or (option_map listed_of function.body) []

-- the objects of all parameter lists and blocks
abbrev pub listed : TProgramTree → List ℕ
listed program = flat_map listed_by program.functions

-- an automatic object stands in one list, once, and one of static duration in none
abbrev pub IsListed : TProgramTree → ℕ → ObjectTree → Type 0
IsListed program o object = count_by (λ x. x == o) (listed program) ≡ (if object.is_static then 0 else 1)

-- an object of static duration has one initial value
abbrev pub IsGivenValue : TProgramTree → ℕ → ObjectTree → Type 0
IsGivenValue program o object = count_by (λ initial. initial.object == o) program.initial ≡ (if object.is_static then 1 else 0)

-- an object that is there, of automatic duration (C11 6.2.4p5)
abbrev pub IsAutomaticObject : TProgramTree → ℕ → Type 0
IsAutomaticObject program o = IsSomeAnd (slice_get program.objects o) (λ object. object.is_static ≡ false)

-- an object that is there, of static duration (C11 6.2.4p3)
abbrev pub IsStaticObject : TProgramTree → ℕ → Type 0
IsStaticObject program o = IsSomeAnd (slice_get program.objects o) (λ object. IsTrue object.is_static)

-- a piece of a pointer is one to an object of static duration
abbrev pub IsTypedByte : TProgramTree → InitByte → Type 0
IsTypedByte program (Num n) = Unit {0}
IsTypedByte program (Piece object offset k) = IsStaticObject program object × (k ≤ 7)

-- an initial value is that of an object of static duration, and has as many bytes
pub record IsTypedInitial (program : TProgramTree) (initial : Initial) : Type 0 where
  pub object : IsStaticObject program initial.object
  pub size : IsSomeAnd (slice_get program.objects initial.object) (λ object. length initial.bytes ≡ object.size)
  pub bytes : All (IsTypedByte program) initial.bytes

-- each place of the list, with what stands there
abbrev pub EachOf : {A : Type 0} → List A → (ℕ → A → Type 0) → Type 0
EachOf xs P = (k : ℕ) → IfSome (slice_get xs k) (P k)

-- what it names is there, its types and sizes are right, no two functions have one name, each automatic object stands in one block,
-- and each object of static duration has one initial value
pub record IsWellTyped (program : TProgramTree) : Type 0 where
  pub structs : IsTypedTable program.structs
  pub objects : All (IsTypedObject program.structs) program.objects
  pub functions : All (IsTypedFunction program) program.functions
  pub names_distinct : AllPairs (λ f g. f.name ≢ g.name) program.functions
  pub listed_objects : All (IsAutomaticObject program) (listed program)
  pub listed_once : EachOf program.objects (IsListed program)
  pub initial : All (IsTypedInitial program) program.initial
  pub initial_once : EachOf program.objects (IsGivenValue program)
