-- The productions of specs, declarators, members, enumerators and parameters (C11 6.7.1 to 6.7.7).
use Rattle.std.specs.Prelude.{ℕ, Bool, true, false, List, Some, None}
use Rattle.c_syntax_written.specs.declared.place.Pos.{Pos}
use Rattle.c_syntax_written.specs.declared.token.Keyword.TheVariants as keywords
use Rattle.c_syntax_written.specs.declared.token.Punctuator.TheVariants as signs
use Rattle.c_syntax_written.specs.declared.written.StorageWord.{StorageWord}
use Rattle.c_syntax_written.specs.declared.written.Tag.{Tag}
use Rattle.c_syntax_written.specs.declared.written.TypeWord.{TypeWord}
use Rattle.c_syntax_written.specs.Written.{SpecTree, SpecTrees, no_specs, more_specs, specs_then, DeclaratorTree, Absent, DeclaratorTrees, no_declarators, more_declarators, declarators_then, MemberDeclTree, MemberDeclTrees, no_members, more_members, memberdecls_then, EnumeratorTree, EnumeratorTrees, no_enumerators, more_enumerators, enumerators_then, ParamTree, ParamTrees, no_params, more_params, params_then}
use Rattle.c_syntax_written.specs.Written as trees
use Rattle.c_grammar.specs.declared.parts.Role.{Role}
use Rattle.c_grammar.specs.declared.parts.Role.TheVariants.{Naming, OfMember, OfParameter, OfTypeName}
use Rattle.c_grammar.specs.Parts.{Scene, Conditional, Spec, Structure, StructureTagged, Enumeration, EnumerationTagged, Declarator, Pointed, Direct, Tails, Size, GroupEnd, Parameters, MoreParameters, Part, AnExpr, ASpec, ADeclarator, Specs, MoreSpecs, Members, MoreMembers, AMember, MoreDeclarators, Enumerators, MoreEnumerators, NextEnumerator, AnEnumerator, EnumeratorValue, Parameter, Value}
use Rattle.c_grammar.specs.declared.class.Class.TheVariants.{Keyword as keyword, Sign as sign, Word as word, AnyWord as any_word, TypeName as type_name}
use Rattle.c_grammar.specs.Classes.{name_of, storage_word, type_word}
use Rattle.c_grammar.specs.Process.{Process, give, token, part, only}
use Rattle.c_grammar.specs.Made.{specs_pos, is_given, param_of, function_of}
use Rattle.c_grammar.specs.Ahead.{no_spec_ahead, no_group_ahead}

-- its declarator may have a word
pub data MayName : Role → Type 0 where
  naming : MayName Naming
  of_member : MayName OfMember
  of_parameter : MayName OfParameter

-- its declarator may go without a word
pub data MayOmit : Role → Type 0 where
  of_parameter : MayOmit OfParameter
  of_type_name : MayOmit OfTypeName

pub data TypeRule : Scene → (p : Part) → Process (Value p) → Type 0 where
  -- specs: as many as there are
  specs : {w : Scene} → TypeRule w Specs (part 0 w (ASpec Spec) (λ first. part 0 w (MoreSpecs (more_specs first no_specs)) give))
  specs_end : {w : Scene} {before : SpecTrees} → TypeRule w (MoreSpecs before) (only (no_spec_ahead w) (give before))
  specs_more : {w : Scene} {before : SpecTrees} → TypeRule w (MoreSpecs before)
      (part 0 w (ASpec Spec) (λ next. part 0 w (MoreSpecs (specs_then before next)) give))
  storage : {w : Scene} (s : StorageWord) → TypeRule w (ASpec Spec) (token 0 (keyword (storage_word s)) (λ t. give (trees.Storage t.pos s)))
  constant : {w : Scene} → TypeRule w (ASpec Spec) (token 0 (keyword keywords.Const) (λ t. give (trees.Const t.pos)))
  basic : {w : Scene} (s : TypeWord) → TypeRule w (ASpec Spec) (token 0 (keyword (type_word s)) (λ t. give (trees.Basic t.pos s)))
  typedef_name : {w : Scene} → TypeRule w (ASpec Spec) (token 0 type_name (λ t. give (trees.TypedefName t.pos (name_of t.token))))
  -- structs and their members
  structure : {w : Scene} → TypeRule w (ASpec Spec) (token 0 (keyword keywords.Struct) (λ t. part 0 w (ASpec (Structure t.pos)) give))
  structure_tag : {w : Scene} {at : Pos} → TypeRule w (ASpec (Structure at))
      (token 0 any_word (λ t. part 0 w (ASpec (StructureTagged at (record { pos = t.pos; name = name_of t.token }))) give))
  structure_body : {w : Scene} {at : Pos} → TypeRule w (ASpec (Structure at))
      (token 1 (sign signs.LeftBrace) (λ t. part 1 w Members (λ members. give (trees.StructBody at None members))))
  structure_named : {w : Scene} {at : Pos} {tag : Tag} → TypeRule w (ASpec (StructureTagged at tag)) (give (trees.Struct at tag))
  structure_tagged_body : {w : Scene} {at : Pos} {tag : Tag} → TypeRule w (ASpec (StructureTagged at tag))
      (token 1 (sign signs.LeftBrace) (λ t. part 1 w Members (λ members. give (trees.StructBody at (Some tag) members))))
  members : {w : Scene} → TypeRule w Members (part 0 w AMember (λ first. part 0 w (MoreMembers (more_members first no_members)) give))
  members_end : {w : Scene} {before : MemberDeclTrees} → TypeRule w (MoreMembers before) (token 0 (sign signs.RightBrace) (λ t. give before))
  members_more : {w : Scene} {before : MemberDeclTrees} → TypeRule w (MoreMembers before)
      (part 0 w AMember (λ next. part 0 w (MoreMembers (memberdecls_then before next)) give))
  member : {w : Scene} → TypeRule w AMember
      (part 0 w Specs (λ s. part 0 w (ADeclarator (Declarator OfMember)) (λ first.
      part 0 w (MoreDeclarators s (more_declarators first no_declarators)) give)))
  declarators_end : {w : Scene} {s : SpecTrees} {before : DeclaratorTrees} → TypeRule w (MoreDeclarators s before)
      (token 0 (sign signs.Semicolon) (λ t. give (trees.Members (specs_pos s) s before)))
  declarators_more : {w : Scene} {s : SpecTrees} {before : DeclaratorTrees} → TypeRule w (MoreDeclarators s before)
      (token 0 (sign signs.Comma) (λ t. part 0 w (ADeclarator (Declarator OfMember)) (λ next.
      part 0 w (MoreDeclarators s (declarators_then before next)) give)))
  -- enumerations and their constants
  enumeration : {w : Scene} → TypeRule w (ASpec Spec) (token 0 (keyword keywords.Enum) (λ t. part 0 w (ASpec (Enumeration t.pos)) give))
  enumeration_tag : {w : Scene} {at : Pos} → TypeRule w (ASpec (Enumeration at))
      (token 0 any_word (λ t. part 0 w (ASpec (EnumerationTagged at (record { pos = t.pos; name = name_of t.token }))) give))
  enumeration_body : {w : Scene} {at : Pos} → TypeRule w (ASpec (Enumeration at))
      (token 1 (sign signs.LeftBrace) (λ t. part 1 w Enumerators (λ enumerators. give (trees.EnumBody at None enumerators))))
  enumeration_named : {w : Scene} {at : Pos} {tag : Tag} → TypeRule w (ASpec (EnumerationTagged at tag)) (give (trees.Enum at tag))
  enumeration_tagged_body : {w : Scene} {at : Pos} {tag : Tag} → TypeRule w (ASpec (EnumerationTagged at tag))
      (token 1 (sign signs.LeftBrace) (λ t. part 1 w Enumerators (λ enumerators. give (trees.EnumBody at (Some tag) enumerators))))
  enumerators : {w : Scene} → TypeRule w Enumerators (part 0 w AnEnumerator (λ first. part 0 w (MoreEnumerators (more_enumerators first no_enumerators)) give))
  enumerators_end : {w : Scene} {before : EnumeratorTrees} → TypeRule w (MoreEnumerators before) (token 0 (sign signs.RightBrace) (λ t. give before))
  enumerators_more : {w : Scene} {before : EnumeratorTrees} → TypeRule w (MoreEnumerators before)
      (token 0 (sign signs.Comma) (λ t. part 0 w (NextEnumerator before) give))
  enumerators_comma_end : {w : Scene} {before : EnumeratorTrees} → TypeRule w (NextEnumerator before) (token 0 (sign signs.RightBrace) (λ t. give before))
  enumerators_next : {w : Scene} {before : EnumeratorTrees} → TypeRule w (NextEnumerator before)
      (part 0 w AnEnumerator (λ next. part 0 w (MoreEnumerators (enumerators_then before next)) give))
  enumerator : {w : Scene} → TypeRule w AnEnumerator (token 0 word (λ t. part 0 w (EnumeratorValue t.pos (name_of t.token)) give))
  enumerator_plain : {w : Scene} {at : Pos} {name : List ℕ} → TypeRule w (EnumeratorValue at name) (give (trees.Plain at name))
  enumerator_valued : {w : Scene} {at : Pos} {name : List ℕ} → TypeRule w (EnumeratorValue at name)
      (token 1 (sign signs.Assign) (λ t. part 1 w (AnExpr Conditional) (λ value. give (trees.Valued at name value))))
  -- declarators
  pointer : {w : Scene} {r : Role} → TypeRule w (ADeclarator (Declarator r))
      (token 1 (sign signs.Star) (λ t. part 1 w (ADeclarator (Pointed r t.pos false)) give))
  pointer_const : {w : Scene} {r : Role} {at : Pos} {is_const : Bool} → TypeRule w (ADeclarator (Pointed r at is_const))
      (token 0 (keyword keywords.Const) (λ t. part 0 w (ADeclarator (Pointed r at true)) give))
  pointed : {w : Scene} {r : Role} {at : Pos} {is_const : Bool} → TypeRule w (ADeclarator (Pointed r at is_const))
      (part 0 w (ADeclarator (Declarator r)) (λ inner. give (trees.Pointer at is_const inner)))
  direct : {w : Scene} {r : Role} → TypeRule w (ADeclarator (Declarator r)) (part 0 w (ADeclarator (Direct r)) give)
  declared_name : {w : Scene} {r : Role} → MayName r → TypeRule w (ADeclarator (Direct r))
      (token 0 word (λ t. part 0 w (ADeclarator (Tails r true (trees.Name t.pos (name_of t.token)))) give))
  grouped : {w : Scene} {r : Role} → TypeRule w (ADeclarator (Direct r))
      (token 1 (sign signs.LeftParenthesis) (λ t. part 1 w (ADeclarator (Declarator r)) (λ inner. part 1 w (ADeclarator (GroupEnd inner)) (λ whole.
      part 0 w (ADeclarator (Tails r false (trees.Grouped t.pos whole))) give))))
  group_end : {w : Scene} {inner : DeclaratorTree} → TypeRule w (ADeclarator (GroupEnd inner))
      (only (λ rest. is_given inner) (token 0 (sign signs.RightParenthesis) (λ t. give inner)))
  no_name : {w : Scene} {r : Role} → MayOmit r → TypeRule w (ADeclarator (Direct r))
      (only (no_group_ahead w) (part 0 w (ADeclarator (Tails r false Absent)) give))
  tails_end : {w : Scene} {r : Role} {is_plain : Bool} {d : DeclaratorTree} → TypeRule w (ADeclarator (Tails r is_plain d)) (give d)
  array : {w : Scene} {r : Role} {is_plain : Bool} {d : DeclaratorTree} → TypeRule w (ADeclarator (Tails r is_plain d))
      (token 1 (sign signs.LeftBracket) (λ t. part 1 w (ADeclarator (Size r t.pos d)) (λ inner. part 0 w (ADeclarator (Tails r false inner)) give)))
  no_size : {w : Scene} {r : Role} {at : Pos} {d : DeclaratorTree} → TypeRule w (ADeclarator (Size r at d))
      (token 0 (sign signs.RightBracket) (λ t. give (trees.OpenArray at d)))
  size : {w : Scene} {r : Role} {at : Pos} {d : DeclaratorTree} → TypeRule w (ADeclarator (Size r at d))
      (part 0 w (AnExpr Conditional) (λ value. token 0 (sign signs.RightBracket) (λ t. give (trees.Array at d value))))
  function : {w : Scene} {r : Role} {is_plain : Bool} {d : DeclaratorTree} → TypeRule w (ADeclarator (Tails r is_plain d))
      (token 1 (sign signs.LeftParenthesis) (λ t. part 1 w (ADeclarator (Parameters t.pos d)) (λ inner.
      part 0 w (ADeclarator (Tails r false inner)) give)))
  no_parameters : {w : Scene} {at : Pos} {d : DeclaratorTree} → TypeRule w (ADeclarator (Parameters at d))
      (token 0 (sign signs.RightParenthesis) (λ t. give (trees.Function at d no_params)))
  parameters : {w : Scene} {at : Pos} {d : DeclaratorTree} → TypeRule w (ADeclarator (Parameters at d))
      (part 0 w Parameter (λ first. part 0 w (ADeclarator (MoreParameters at d (more_params first no_params))) give))
  parameters_end : {w : Scene} {at : Pos} {d : DeclaratorTree} {before : ParamTrees} → TypeRule w (ADeclarator (MoreParameters at d before))
      (token 0 (sign signs.RightParenthesis) (λ t. give (function_of at d before)))
  parameters_more : {w : Scene} {at : Pos} {d : DeclaratorTree} {before : ParamTrees} → TypeRule w (ADeclarator (MoreParameters at d before))
      (token 0 (sign signs.Comma) (λ t. part 0 w Parameter (λ next. part 0 w (ADeclarator (MoreParameters at d (params_then before next))) give)))
  parameter : {w : Scene} → TypeRule w Parameter
      (part 0 w Specs (λ s. part 0 w (ADeclarator (Declarator OfParameter)) (λ declarator. give (param_of s declarator))))
