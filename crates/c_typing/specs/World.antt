-- What a program has up to a place of its text, and what comes of typing a part of it.
use Rattle.std.specs.Prelude.{◌≡◌, ℕ, ℤ, Bool, if◌then◌else◌, List, map, Option}
use Rattle.c_syntax_written.specs.declared.place.Pos.{Pos}
use Rattle.c_syntax_written.specs.declared.construct.Construct.{Construct}
use Rattle.c_syntax.specs.declared.op.Op.{Op}
use Rattle.c_syntax.specs.declared.program.Initial.{Initial}
use Rattle.c_syntax.specs.Types.{CTypeTree, ObjectTree}
use Rattle.c_syntax.specs.Program.{StructDefTree, TFunctionTree}

-- a type as a declaration gives it: one of objects (or void), and whether it is const; an array of such elements whose size is not told;
-- or that of a function with these parameters and this result (C11 6.2.5p1)
pub data Form : Type 0 where
  Plain : CTypeTree → Bool → Form
  Unsized : CTypeTree → Bool → Form
  Callable : List CTypeTree → CTypeTree → Form

-- what an ordinary name stands for (C11 6.2.3p1); a parameter of a prototype has its place in the list, and no object
pub data Meaning : Type 0 where
  Object : ℕ → Meaning
  Missing : CTypeTree → Bool → Meaning
  Parameter : ℕ → CTypeTree → Bool → Meaning
  Function : ℕ → Meaning
  TypeName : Form → Meaning
  Enumeration : ℤ → Meaning

-- a name, the place of its declaration, and what it stands for
pub record Binding : Type 0 where
  pub name : List ℕ
  pub pos : Pos
  pub meaning : Meaning

-- what a tag stands for: a struct, or an enumeration, which may still stand between its braces (C11 6.7.2.3)
pub data TagMeaning : Type 0 where
  StructTag : ℕ → TagMeaning
  EnumTag : TagMeaning
  OpenEnumTag : TagMeaning

-- a tag, the place where the scope names it first, and that of the word that defines it, if one does
pub record TagBinding : Type 0 where
  pub tag : List ℕ
  pub pos : Pos
  pub defined : Option Pos
  pub meaning : TagMeaning

-- an object or a function of the file, by its name: all its declarations, in blocks too, are of one entity (C11 6.2.2p2)
pub record Linked : Type 0 where
  pub name : List ℕ
  pub pos : Pos
  pub meaning : Meaning
  pub defined : Bool

-- a label of a function, and its place
pub record Labelled : Type 0 where
  pub label : List ℕ
  pub pos : Pos

-- a value of a case, and the place of its word
pub record CaseAt : Type 0 where
  pub value : ℤ
  pub pos : Pos

-- the program so far; the names and tags in scope, in the order of their declarations, where those of the innermost scope stand from `first_name`
-- and `first_tag` on; and the labels of the function and the cases of the innermost switch so far.
-- `signatures` has the types of each function's parameters, `total` the sum of the sizes of all objects
pub record World : Type 0 where
  pub structs : List StructDefTree
  pub objects : List ObjectTree
  pub functions : List TFunctionTree
  pub signatures : List (List CTypeTree)
  pub initial : List Initial
  pub total : ℕ
  pub linked : List Linked
  pub names : List Binding
  pub first_name : ℕ
  pub tags : List TagBinding
  pub first_tag : ℕ
  pub labels : List Labelled
  pub cases : List CaseAt
  pub default : Option Pos

-- why a program has no types. No row has these operand types, printed by the tags of the structs so far; what is Redeclared has its own place
-- and that of the first declaration; what is too large its size
pub data Refusal : Type 0 where
  NoRule : Pos → Op → CTypeTree → Option CTypeTree → List (List ℕ) → Refusal
  Undeclared : Pos → Refusal
  Redeclared : Pos → Pos → Refusal
  NotConstant : Pos → Refusal
  NotLvalue : Pos → Refusal
  ObjectTooLarge : Pos → ℕ → Refusal
  TotalTooLarge : Pos → ℕ → Refusal
  Unsupported : Pos → Construct → Refusal

-- a part is typed, and the program goes on, or it is refused
pub data Outcome (A : Type 0) : Type 0 where
  Typed : A → World → Outcome A
  Refused : Refusal → Outcome A

-- one part and then, in the program that it leaves, what depends on it; the first refusal is that of the whole (this profile: the order of the text)
pub data Then {A B : Type 0} (first : Outcome A → Type 0) (next : A → World → Outcome B → Type 0) : Outcome B → Type 0 where
  goes_on : {a : A} {w : World} {o : Outcome B} → first (Typed a w) → next a w o → Then first next o
  stops : {r : Refusal} → first (Refused r) → Then first next (Refused r)

-- this is the outcome
abbrev pub Is : {A : Type 0} → Outcome A → Outcome A → Type 0
Is outcome o = o ≡ outcome

-- the tags of the structs that are declared so far, by their numbers
abbrev pub tags_of : World → List (List ℕ)
tags_of w = map (λ def. def.tag) w.structs

-- no row has these types
abbrev pub no_rule : World → Pos → Op → CTypeTree → Option CTypeTree → Refusal
no_rule w at op left right = NoRule at op left right (tags_of w)

-- typed as it is, or refused
abbrev pub unless : {A : Type 0} → Bool → Refusal → Outcome A → Outcome A
unless refused refusal outcome = if refused then Refused refusal else outcome
