-- Specs of the code as typing speaks of them.
use Rattle.std.specs.Prelude.{map}
use Rattle.c_typing.specs.Specifiers as specifiers
use Rattle.c_check_names.specs.Trees.{form_tree}
use Rattle.c_check_declarators.specs.declared.made.SpecsMade.{SpecsMade}
use Rattle.c_check_declarators.specs.declared.made.SpecPart.{SpecPart}
use Rattle.c_check_declarators.specs.declared.made.SpecPart.TheVariants as parts
use Rattle.c_check_declarators.specs.declared.told.SpecPlace.{SpecPlace}
use Rattle.c_check_declarators.specs.declared.told.SpecPlace.TheVariants as places

abbrev pub made_tree : SpecsMade → specifiers.SpecsTree
made_tree s = record { storage = s.storage.items; is_const = s.is_const; words = s.words.items; types = map form_tree s.types.items }

abbrev pub part_tree : SpecPart → specifiers.SpecPart
part_tree (parts.Storage word) = specifiers.StoragePart word
part_tree parts.Const = specifiers.ConstPart
part_tree (parts.Word word) = specifiers.WordPart word
part_tree (parts.Type form) = specifiers.TypePart (form_tree form)

abbrev pub place_tree : SpecPlace → specifiers.Place
place_tree places.Declaration = specifiers.OfDeclaration
place_tree places.Parameter = specifiers.OfParameter
place_tree places.PlainType = specifiers.OfPlainType
