-- The types that declarations name are formed.
use Rattle.std.proofs.Common.{◌≡◌, ℕ, ◌*◌, ◌^◌, ◌<◌, ◌≤◌, ◌≤ℤ◌, ℤ, pos, negsuc, true, false, List, [], ◌∷◌, length, ◌-◌, refl, ap, sym, subst, arith}
use Rattle.std.specs.Prelude.{Bool, ◌||◌, if◌then◌else◌, nat_lt, int_le, Option, None, Some, option_map, IsSomeAnd, All, find, reverse}
use Rattle.std.proofs.lemmas.Bool.{and_parts, ltb-false}
use Rattle.std.proofs.lemmas.Int.{ints}
use Rattle.std.proofs.lemmas.Option.{none-some, same_Some}
use Rattle.std.proofs.lemmas.List.{get_or-reverse, length-reverse}
use Rattle.std.proofs.lemmas.List.Elements.{All-from_recursion, All-head, All-tail}
use Rattle.c_syntax_written.specs.declared.place.Pos.{Pos}
use Rattle.c_syntax_written.specs.declared.int_type.IntType.TheVariants as ints
use Rattle.c_syntax_written.specs.declared.written.TypeWord.{TypeWord}
use Rattle.c_syntax_written.specs.Integer.{least, greatest, HasNumber}
use Rattle.c_syntax.specs.Types.{CTypeTree, Void, Int, Pointer, Array, Struct, Function}
use Rattle.c_syntax.specs.Program.{StructDefTree}
use Rattle.c_layout.specs.Layout.{Space, array_space, space_by, laid_out, size_in}
use Rattle.c_layout.specs.ProperTypes.{IsTold}
use Rattle.c_layout.specs.WellTyped.{is_array}
use Rattle.c_typing.specs.World.{World, Form, Plain, Unsized, Callable, Refusal, Outcome, Typed, Refused}
use Rattle.c_typing.specs.Operands.{complete_size}
use Rattle.c_typing.specs.Specifiers.{SpecsTree, type_lists, type_by_words, are_same_words, with_const_elements, qualified, named_type, Place, is_storage_allowed, or_undeclared, type_told}
use Rattle.c_typing.specs.Declarators.{Step, PointerTo, ArrayOf, OpenArray, FunctionOf, types_of_params, if_sized, step_form, after_step, laid, parameter_type}
use Rattle.c_typing.specs.Typing.{is_int}
use Rattle.c_typing.specs.Formed.{IsFormed, IsFormedForm}
use Rattle.c_typing.proofs.MadeMembers.{complete_is_size, complete_is_told}

-- a form in the world in which it is made, which stays as it is
pub data FormAt (w : World) : Outcome Form → Type 0 where
  formed_at : (form : Form) → IsFormedForm w.structs form → FormAt w (Typed form w)
  unformed : {r : Refusal} → FormAt w (Refused r)

pub no_some : {A P : Type 0} (x : A) → None ≡ Some x → P
no_some x e = absurd (none-some x e)

-- what is found in a list has what each of the list has
pub found_each : {A : Type 0} (P : A → Type 0) (test : A → Bool) (xs : List A) (x : A) → All P xs → find test xs ≡ Some x → P x
found_each P test [] x all e = no_some x e
found_each P test (y ∷ xs) x all e = by (test y) e (found_each P test xs x (All-tail P y xs all))
  where
    by : (b : Bool) → (if b then Some y else find test xs) ≡ Some x → (find test xs ≡ Some x → P x) → P x
    by true r again = subst P (same_Some y x r) (All-head P y xs all)
    by false r again = again r

-- what holds of each of a list holds of each of it backwards
pub all_reverse : {A : Type 0} (P : A → Type 0) (xs : List A) → All P xs → All P (reverse xs)
all_reverse P xs all = λ k d h. subst P (sym (get_or-reverse xs k d (within k h))) (all (length xs - 1 - k) d (below k (within k h)))
  where
    within : (k : ℕ) → k < length (reverse xs) → k < length xs
    within k h = subst (λ n. k < n) (length-reverse xs) h

    below : (k : ℕ) → k < length xs → length xs - 1 - k < length xs
    below k h = omega arith

pub mapped : {A B : Type 0} (f : A → B) (o : Option A) (b : B) (P : B → Type 0) → ((a : A) → o ≡ Some a → P (f a)) → option_map f o ≡ Some b → P b
mapped f None b P g e = no_some b e
mapped f (Some a) b P g e = subst P (same_Some (f a) b e) (g a refl)

-- ---- const

const_space : (struct : ℕ → Space) (ty : CTypeTree) (c : Bool) → space_by struct (with_const_elements ty c) ≡ space_by struct ty
const_space struct Void c = refl
const_space struct (Int t) c = refl
const_space struct (Pointer to d) c = refl
const_space struct (Array of d n) c = ap (array_space n) (const_space struct of c)
const_space struct (Struct n) c = refl
const_space struct (Function n) c = refl

const_size : (structs : List StructDefTree) (ty : CTypeTree) (c : Bool) → size_in structs (with_const_elements ty c) ≡ size_in structs ty
const_size structs ty c = ap (λ s. s.size) (const_space (laid_out structs) ty c)

formed_const : (structs : List StructDefTree) (ty : CTypeTree) (c : Bool) → IsFormed structs ty → IsFormed structs (with_const_elements ty c)
formed_const structs Void c f = tt
formed_const structs (Int t) c f = tt
formed_const structs (Pointer to d) c f = f
formed_const structs (Array of d n) c f =
    (formed_const structs of c f.0, f.1, subst (λ o. IsSomeAnd o IsTold) (sym (ap (option_map (λ s. n * s)) (const_size structs of c))) f.2)
formed_const structs (Struct n) c f = f
formed_const structs (Function n) c f = f

unsized_const :
    (structs : List StructDefTree) (of : CTypeTree) (array c d : Bool) → IsFormedForm structs (Unsized of d)
    → IsFormedForm structs (if array then Unsized (with_const_elements of c) false else Unsized of (d || c))
unsized_const structs of true c d f = (formed_const structs of c f.0, subst (λ o. IsSomeAnd o IsTold) (sym (const_size structs of c)) f.1)
unsized_const structs of false c d f = f

plain_const :
    (structs : List StructDefTree) (ty : CTypeTree) (array c d : Bool) → IsFormed structs ty
    → IsFormedForm structs (if array then Plain (with_const_elements ty c) false else Plain ty (d || c))
plain_const structs ty true c d f = formed_const structs ty c f
plain_const structs ty false c d f = f

qualified_formed : (structs : List StructDefTree) (c : Bool) (form : Form) → IsFormedForm structs form → IsFormedForm structs (qualified c form)
qualified_formed structs c (Plain ty d) f = plain_const structs ty (is_array ty) c d f
qualified_formed structs c (Unsized of d) f = unsized_const structs of (is_array of) c d f
qualified_formed structs c (Callable params result) f = f

-- ---- specs

words_formed : (structs : List StructDefTree) → All (λ row. IsFormed structs row.1) type_lists
words_formed structs = All-from_recursion (λ row. IsFormed structs row.1) type_lists
    (tt, (tt, (tt, (tt, (tt, (tt, (tt, (tt, (tt, (tt, (tt, (tt, (tt, (tt, (tt, (tt, (tt, (tt, (tt, (tt, (tt, (tt, (tt, (tt, (tt, (tt, (tt, tt)))))))))))))))))))))))))))

type_formed : (structs : List StructDefTree) (words : List TypeWord) (ty : CTypeTree) → type_by_words words ≡ Some ty → IsFormed structs ty
type_formed structs words ty e =
    mapped (λ row. row.1) (find (λ row. are_same_words row.0 words) type_lists) ty (IsFormed structs)
    (λ row r. found_each (λ x. IsFormed structs x.1) (λ x. are_same_words x.0 words) type_lists row (words_formed structs) r) e

named_formed : (structs : List StructDefTree) (words : List TypeWord) (types : List Form) (form : Form) → All (IsFormedForm structs) types → named_type words types ≡ Some form → IsFormedForm structs form
named_formed structs words [] form all e = mapped (λ t. Plain t false) (type_by_words words) form (IsFormedForm structs) (λ ty r. type_formed structs words ty r) e
named_formed structs [] (f ∷ []) form all e = subst (IsFormedForm structs) (same_Some f form e) (All-head (IsFormedForm structs) f [] all)
named_formed structs [] (f ∷ (g ∷ rest)) form all e = no_some form e
named_formed structs (w ∷ ws) (f ∷ rest) form all e = no_some form e

undeclared_at : (at : Pos) (o : Option Form) (w : World) → ((form : Form) → o ≡ Some form → IsFormedForm w.structs form) → FormAt w (or_undeclared at o w)
undeclared_at at None w f = unformed
undeclared_at at (Some form) w f = formed_at form (f form refl)

told_at : (at : Pos) (allowed : Bool) (o : Option Form) (r : Refusal) (w : World) → ((form : Form) → o ≡ Some form → IsFormedForm w.structs form) → FormAt w (if allowed then or_undeclared at o w else Refused r)
told_at at true o r w f = undeclared_at at o w f
told_at at false o r w f = unformed

pub type_told_at : (place : Place) (at : Pos) (s : SpecsTree) (w : World) → All (IsFormedForm w.structs) s.types → FormAt w (type_told place at s w)
type_told_at place at s w all =
    told_at at (is_storage_allowed place s.storage) _ _ w (λ form e.
    mapped (qualified s.is_const) (named_type s.words s.types) form (IsFormedForm w.structs)
    (λ named r. qualified_formed w.structs s.is_const named (named_formed w.structs s.words s.types named all r)) e)

-- ---- declarators

-- what a step needs: an array has some elements, and parameters are formed
abbrev pub IsFormedStep : List StructDefTree → Step → Type 0
IsFormedStep structs (PointerTo c) = Unit {0}
IsFormedStep structs (ArrayOf at n) = 0 < n
IsFormedStep structs OpenArray = Unit {0}
IsFormedStep structs (FunctionOf params names tags) = All (IsFormed structs) (types_of_params params)

abbrev pub AreFormedSteps : List StructDefTree → List Step → Type 0
AreFormedSteps structs [] = Unit {0}
AreFormedSteps structs (step ∷ rest) = IsFormedStep structs step × AreFormedSteps structs rest

sized_at :
    {w : World} (r : Refusal) (outcome : ℕ → Outcome Form) (o : Option ℕ) → ((size : ℕ) → o ≡ Some size → FormAt w (outcome size)) → FormAt w (if_sized r outcome o)
sized_at r outcome None f = unformed
sized_at r outcome (Some size) f = f size refl

array_told : (structs : List StructDefTree) (of : CTypeTree) (c : Bool) (n size : ℕ) → complete_size structs of ≡ Some size → n * size ≤ 2 ^ 40 → IsSomeAnd (size_in structs (Array of c n)) IsTold
array_told structs of c n size e h = subst (λ o. IsSomeAnd (option_map (λ s. n * s) o) IsTold) (sym (complete_is_size structs of size e)) h

sized_array_at :
    (w : World) (r : Refusal) (n : ℕ) (of : CTypeTree) (c large : Bool) (size : ℕ) → IsFormed w.structs of → 0 < n → complete_size w.structs of ≡ Some size
    → nat_lt (2 ^ 40) (n * size) ≡ large → FormAt w (if large then Refused r else Typed (Plain (Array of c n) false) w)
sized_array_at w r n of c true size f h e l = unformed
sized_array_at w r n of c false size f h e l = formed_at _ (f, h, array_told w.structs of c n size e (ltb-false (2 ^ 40) (n * size) l))

step_at : (w : World) (at : Pos) (step : Step) (form : Form) → IsFormedStep w.structs step → IsFormedForm w.structs form → FormAt w (step_form w at step form)
step_at w at (PointerTo d) (Plain ty c) s f = formed_at _ f
step_at w at (PointerTo d) (Unsized ty c) s f = unformed
step_at w at (PointerTo d) (Callable params result) s f = unformed
step_at w at (ArrayOf size_at n) (Plain ty c) s f =
    sized_at _ _ (complete_size w.structs ty) (λ size e. sized_array_at w _ n ty c (nat_lt (2 ^ 40) (n * size)) size f s e refl)
step_at w at (ArrayOf size_at n) (Unsized ty c) s f = unformed
step_at w at (ArrayOf size_at n) (Callable params result) s f = unformed
step_at w at OpenArray (Plain ty c) s f =
    sized_at _ _ (complete_size w.structs ty) (λ size e. formed_at _ (f, subst (λ o. IsSomeAnd o IsTold) (sym (complete_is_size w.structs ty size e)) (complete_is_told w.structs ty size e)))
step_at w at OpenArray (Unsized ty c) s f = unformed
step_at w at OpenArray (Callable params result) s f = unformed
step_at w at (FunctionOf params names tags) (Plain Void c) s f = formed_at _ (s, f)
step_at w at (FunctionOf params names tags) (Plain (Int t) c) s f = formed_at _ (s, f)
step_at w at (FunctionOf params names tags) (Plain (Pointer to d) c) s f = formed_at _ (s, f)
step_at w at (FunctionOf params names tags) (Plain (Array of d n) c) s f = unformed
step_at w at (FunctionOf params names tags) (Plain (Struct n) c) s f = unformed
step_at w at (FunctionOf params names tags) (Plain (Function n) c) s f = formed_at _ (s, f)
step_at w at (FunctionOf params names tags) (Unsized ty c) s f = unformed
step_at w at (FunctionOf params names tags) (Callable types result) s f = unformed

after_at : {w : World} (at : Pos) (step : Step) (o : Outcome Form) → IsFormedStep w.structs step → FormAt w o → FormAt w (after_step w at step o)
after_at {w = w} at step (Typed form v) s (formed_at _ f) = step_at w at step form s f
after_at at step (Refused r) s f = unformed

pub laid_at : (w : World) (at : Pos) (steps : List Step) (base : Form) → AreFormedSteps w.structs steps → IsFormedForm w.structs base → FormAt w (laid w at steps base)
unfolding laid
laid_at w at [] base s f = formed_at base f
laid_at w at (step ∷ rest) base s f = after_at at step _ s.0 (laid_at w at rest base s.1 f)

pub parameter_formed : (structs : List StructDefTree) (form : Form) → IsFormedForm structs form → IsFormedForm structs (parameter_type form)
parameter_formed structs (Plain Void c) f = f
parameter_formed structs (Plain (Int t) c) f = f
parameter_formed structs (Plain (Pointer to d) c) f = f
parameter_formed structs (Plain (Array of d n) c) f = f.0
parameter_formed structs (Plain (Struct n) c) f = f
parameter_formed structs (Plain (Function n) c) f = f
parameter_formed structs (Unsized of c) f = f.0
parameter_formed structs (Callable params result) f = f

-- ---- enumeration constants

at_most : (x y : ℤ) → int_le x y ≡ true → x ≤ℤ y
at_most x y h = grind (arith, ints)

int_within : (n : ℤ) → least ints.Int ≤ℤ n → n ≤ℤ pos (greatest ints.Int) → HasNumber ints.Int n
int_within (pos a) low high = record { sfits = omega (arith, ints) }
int_within (negsuc a) low high = record { sfits = omega (arith, ints) }

pub int_is : (n : ℤ) → is_int n ≡ true → HasNumber ints.Int n
int_is n e =
    let p = and_parts (int_le (least ints.Int) n) (int_le n (pos (greatest ints.Int))) e in
    int_within n (at_most (least ints.Int) n p.0) (at_most n (pos (greatest ints.Int)) p.1)
