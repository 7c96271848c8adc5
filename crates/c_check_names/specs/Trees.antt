-- What the code holds of names and tags, as the definition of typing has it.
use Rattle.std.specs.Prelude.{ℕ, zero, suc, List, [], ◌∷◌, map, Option}
use Rattle.c_syntax_written.specs.declared.place.Pos.{Pos}
use Rattle.c_syntax.specs.Types.{ctype_tree}
use Rattle.c_typing.specs.World as typing
use Rattle.c_check_names.specs.declared.types.Form.{Form}
use Rattle.c_check_names.specs.declared.types.Form.TheVariants as forms
use Rattle.c_check_names.specs.declared.types.Meaning.{Meaning}
use Rattle.c_check_names.specs.declared.types.Meaning.TheVariants as meanings
use Rattle.c_check_names.specs.declared.types.Binding.{Binding}
use Rattle.c_check_names.specs.declared.types.TagMeaning.{TagMeaning}
use Rattle.c_check_names.specs.declared.types.TagMeaning.TheVariants as tags
use Rattle.c_check_names.specs.declared.types.TagBinding.{TagBinding}
use Rattle.c_check_names.specs.declared.types.Linked.{Linked}
use Rattle.c_check_names.specs.declared.types.Labelled.{Labelled}
use Rattle.c_check_names.specs.declared.types.CaseAt.{CaseAt}

abbrev pub form_tree : Form → typing.Form
form_tree (forms.Plain ty is_const) = typing.Plain (ctype_tree ty) is_const
form_tree (forms.Unsized of is_const) = typing.Unsized (ctype_tree of) is_const
form_tree (forms.Callable params ret) = typing.Callable (map ctype_tree params.items) (ctype_tree ret)

abbrev pub meaning_tree : Meaning → typing.Meaning
meaning_tree (meanings.Object n) = typing.Object n
meaning_tree (meanings.Missing ty is_const) = typing.Missing (ctype_tree ty) is_const
meaning_tree (meanings.Parameter k ty is_const) = typing.Parameter k (ctype_tree ty) is_const
meaning_tree (meanings.Function n) = typing.Function n
meaning_tree (meanings.TypeName form) = typing.TypeName (form_tree form)
meaning_tree (meanings.Enumeration value) = typing.Enumeration value

abbrev pub binding_tree : Binding → typing.Binding
binding_tree b = record { name = b.name; pos = b.pos; meaning = meaning_tree b.meaning }

abbrev pub tag_meaning : TagMeaning → typing.TagMeaning
tag_meaning (tags.Struct n) = typing.StructTag n
tag_meaning tags.Enum = typing.EnumTag
tag_meaning tags.OpenEnum = typing.OpenEnumTag

abbrev pub tag_tree : TagBinding → typing.TagBinding
tag_tree b = record { tag = b.tag; pos = b.pos; defined = b.defined; meaning = tag_meaning b.meaning }

abbrev pub linked_tree : Linked → typing.Linked
linked_tree l = record { name = l.name; pos = l.pos; meaning = meaning_tree l.meaning; defined = l.defined }

abbrev pub labelled_tree : Labelled → typing.Labelled
labelled_tree l = record { label = l.label; pos = l.pos }

abbrev pub case_tree : CaseAt → typing.CaseAt
case_tree c = record { value = c.value; pos = c.pos }

-- the tag at a place now has this place of its definition and this meaning
abbrev pub redefined_at : Option Pos → typing.TagMeaning → ℕ → List typing.TagBinding → List typing.TagBinding
redefined_at defined meaning n [] = []
redefined_at defined meaning zero (b ∷ bs) = record b { defined = defined; meaning = meaning } ∷ bs
redefined_at defined meaning (suc n) (b ∷ bs) = b ∷ redefined_at defined meaning n bs
