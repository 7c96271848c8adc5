-- Each sample comes to its outcome by computing.
use Rattle.std.proofs.Common.{◌≡◌, refl, pos, [], ◌∷◌, Some}
use Rattle.std.specs.Int.{int_wrap}
use Rattle.c_syntax_written.specs.declared.int_type.IntType.TheVariants as ints
use Rattle.c_layout.specs.Calls.{calls_of, stmt_calls}
use Rattle.block_mem.specs.declared.types.Value.TheVariants as values
use Rattle.block_mem.specs.Pieces.{pieces}
use Rattle.block_mem.specs.Numbers.{low_bytes}
use Rattle.lower_trees.specs.Samples.{Gave, comes_to}
use Rattle.lower_samples.specs.Initials.{InitialsComeTo, chars, structs, pointers, mixed, item, each_turn, literal_text, file_scope, chosen, chain}

chars_is : comes_to chars (0 ∷ []) 0 12 [] ≡ Gave (Some (values.Int ints.Int (pos 21)))
unfolding calls_of stmt_calls pieces low_bytes int_wrap
chars_is = refl

structs_is : comes_to structs (0 ∷ []) 0 12 [] ≡ Gave (Some (values.Int ints.Int (pos 321)))
unfolding calls_of stmt_calls pieces low_bytes int_wrap
structs_is = refl

pointers_is : comes_to pointers (0 ∷ []) 0 12 [] ≡ Gave (Some (values.Int ints.Int (pos 4)))
unfolding calls_of stmt_calls pieces low_bytes int_wrap
pointers_is = refl

mixed_is : comes_to mixed (0 ∷ []) 0 12 [] ≡ Gave (Some (values.Int ints.Int (pos 1)))
unfolding calls_of stmt_calls pieces low_bytes int_wrap
mixed_is = refl

item_is : comes_to item (0 ∷ []) 0 12 [] ≡ Gave (Some (values.Int ints.Int (pos 178)))
unfolding calls_of stmt_calls pieces low_bytes int_wrap
item_is = refl

each_turn_is : comes_to each_turn (0 ∷ []) 0 12 [] ≡ Gave (Some (values.Int ints.Int (pos 3)))
unfolding calls_of stmt_calls pieces low_bytes int_wrap
each_turn_is = refl

literal_text_is : comes_to literal_text (0 ∷ []) 0 12 [] ≡ Gave (Some (values.Int ints.Int (pos 195)))
unfolding calls_of stmt_calls pieces low_bytes int_wrap
literal_text_is = refl

file_scope_is : comes_to file_scope (0 ∷ []) 0 12 [] ≡ Gave (Some (values.Int ints.Int (pos 7)))
unfolding calls_of stmt_calls pieces low_bytes int_wrap
file_scope_is = refl

chosen_is_first : comes_to chosen (0 ∷ []) 0 12 (pos 1 ∷ []) ≡ Gave (Some (values.Int ints.Int (pos 12)))
unfolding calls_of stmt_calls pieces low_bytes int_wrap
chosen_is_first = refl

chosen_is_second : comes_to chosen (0 ∷ []) 0 12 (pos 0 ∷ []) ≡ Gave (Some (values.Int ints.Int (pos 34)))
unfolding calls_of stmt_calls pieces low_bytes int_wrap
chosen_is_second = refl

chain_is : comes_to chain (0 ∷ []) 0 12 [] ≡ Gave (Some (values.Int ints.Int (pos 12)))
unfolding calls_of stmt_calls pieces low_bytes int_wrap
chain_is = refl

pub initials_come_to : InitialsComeTo
initials_come_to = record {
  chars_is = chars_is;
  structs_is = structs_is;
  pointers_is = pointers_is;
  mixed_is = mixed_is;
  item_is = item_is;
  each_turn_is = each_turn_is;
  literal_text_is = literal_text_is;
  file_scope_is = file_scope_is;
  chosen_is_first = chosen_is_first;
  chosen_is_second = chosen_is_second;
  chain_is = chain_is;
}
