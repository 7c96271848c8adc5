-- How the tag of a struct or an enumeration is read.
use Rattle.std.specs.Prelude.{◌≡◌, ℕ, ⊤, List, Option, Some, None, Result}
use Rattle.std.proofs.Common.{Bor}
use Rattle.c_syntax_written.specs.declared.place.Pos.{Pos}
use Rattle.c_syntax_written.specs.declared.token.Placed.{Placed}
use Rattle.c_syntax_written.specs.declared.written.Tag.{Tag}
use Rattle.c_grammar.specs.Parts.{Scene, SpecPart, Spec, Structure, StructureTagged, Enumeration, EnumerationTagged, ASpec}
use Rattle.c_grammar.specs.Descent.{Goes}
use Rattle.c_parser_steps.specs.declared.fault.Fault.{Fault}
use Rattle.c_parser_steps.specs.declared.type_kind.TagKind.TheVariants as tags
use Rattle.c_parser_steps.specs.Kinds.{tag_at}
use Rattle.c_parser_steps.specs.Answers.{Steps}

-- what a tag and braces belong to
pub data Owner : Type 0 where
  of_structure : Owner
  of_enumeration : Owner

-- what is left of it, behind its word and the tag that it has
abbrev pub tagged : Owner → Pos → Option Tag → SpecPart
tagged of_structure at None = Structure at
tagged of_structure at (Some tag) = StructureTagged at tag
tagged of_enumeration at None = Enumeration at
tagged of_enumeration at (Some tag) = EnumerationTagged at tag

-- the tag, where there is one, of either
abbrev pub ReadsTag : ℕ → Scene → List Placed → Result (Option Tag × Bor (List Placed)) Fault → Type 0
ReadsTag count scene tokens r = (owner : Owner) (at : Pos)
    → Steps (λ o. Goes count scene (ASpec (tagged owner at None)) tokens o) (λ tag rest o. Goes count scene (ASpec (tagged owner at tag)) rest o) r

-- the word, and the tag where there is one
abbrev pub ReadsHead : Owner → ℕ → Scene → List Placed → Result ((Pos × Option Tag) × Bor (List Placed)) Fault → Type 0
ReadsHead owner count scene tokens r = Steps (λ o. Goes count scene (ASpec Spec) tokens o)
    (λ head rest o. Goes count scene (ASpec (tagged owner head.0 head.1)) rest o) r

-- without a tag there are braces
abbrev pub NamesOrBraces : Option Tag → List Placed → Type 0
NamesOrBraces None tokens = tag_at tokens ≡ tags.Body
NamesOrBraces (Some tag) tokens = ⊤
