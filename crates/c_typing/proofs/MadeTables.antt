-- Tables of structs as typing makes them: declared one after the other, and each completed once, of members that are complete by then.
use Rattle.std.proofs.Common.{◌≡◌, ℕ, zero, suc, ◌+◌, ◌<◌, ◌≤◌, Bool, true, false, List, [], ◌∷◌, ◌++◌, length, refl, ap, sym, subst, ◌∙◌, ⊎_elim, arith}
use Rattle.std.specs.Prelude.{◌==◌, if◌then◌else◌, Option, None, Some, option_map, unwrap_or, IfSome, IsTrue, IsFalse, All, set, slice_get, slice_index_or}
use Rattle.std.proofs.lemmas.Bool.{cases_eq, cases_Bool, eq-eqb, ne_eqb, false≢true}
use Rattle.std.proofs.lemmas.List.Elements.{All-nil, All-head, All-tail, All-weaker}
use Rattle.c_syntax.specs.Types.{CTypeTree, Void, Int, Pointer, Array, Struct, Function}
use Rattle.c_syntax.specs.Program.{MemberTree, StructDefTree}
use Rattle.c_layout.specs.Layout.{Space, no_space, array_space, space_by, spaces_by, struct_space, members_of, told, in_table, member_spaces, laid_out, offset_at}
use Rattle.c_layout.specs.LaidOut.{IsLaidOut}
use Rattle.c_layout.specs.Heights.{held, Falls, NoneHoldsItself}
use Rattle.c_layout.proofs.Unfolding.{some_map}
use Rattle.c_typing.specs.Names.{struct_of}
use Rattle.c_typing.specs.Later.{has_members, is_complete}

-- the struct that an object of the type is, or has as its elements, is complete
abbrev pub IsHeldComplete : List StructDefTree → CTypeTree → Type 0
IsHeldComplete structs ty = IfSome (held ty) (λ k. IsTrue (is_complete structs k))

-- how many structs are complete
abbrev pub completed : List StructDefTree → ℕ
completed [] = 0
completed (def ∷ rest) = (if has_members def.members then 1 else 0) + completed rest

-- complete structs have heights by the order in which they were completed
pub record IsMade (structs : List StructDefTree) : Type 0 where
  pub height : ℕ → ℕ
  pub below : (n : ℕ) → IsTrue (is_complete structs n) → height n < completed structs
  pub rest : (n : ℕ) → IsFalse (is_complete structs n) → height n ≡ 0
  pub members : (n : ℕ) → All (λ member. IsHeldComplete structs member.ty) (members_of structs n)
  pub falls : Falls structs height
  pub laid_out : IsLaidOut structs

-- members of complete types, at the offsets of the layout
pub record AreMade (structs : List StructDefTree) (members : List MemberTree) : Type 0 where
  pub complete : All (λ member. IsHeldComplete structs member.ty) members
  pub offsets : (k : ℕ) → option_map (λ member. member.offset) (slice_get members k) ≡ offset_at (spaces_by (in_table structs) members) k

-- a struct that is declared and has no members
pub record IsIncomplete (structs : List StructDefTree) (n : ℕ) : Type 0 where
  pub def : StructDefTree
  pub there : slice_get structs n ≡ Some def
  pub empty : def.members ≡ []

-- ---- lists

pub get_append : {A : Type 0} (xs ys : List A) (k : ℕ) (x : A) → slice_get xs k ≡ Some x → slice_get (xs ++ ys) k ≡ Some x
get_append [] ys k x e = cc
get_append (a ∷ xs) ys zero x e = e
get_append (a ∷ xs) ys (suc k) x e = get_append xs ys k x e

pub get_last : {A : Type 0} (xs : List A) (x : A) → slice_get (xs ++ x ∷ []) (length xs) ≡ Some x
get_last [] x = refl
get_last (a ∷ xs) x = get_last xs x

pub get_set : {A : Type 0} (xs : List A) (n : ℕ) (x y : A) → slice_get xs n ≡ Some x → slice_get (set xs n y) n ≡ Some y
get_set [] n x y e = cc
get_set (a ∷ xs) zero x y e = refl
get_set (a ∷ xs) (suc n) x y e = get_set xs n x y e

pub get_other : {A : Type 0} (xs : List A) (n k : ℕ) (y : A) → (k ≡ n → ⊥) → slice_get (set xs n y) k ≡ slice_get xs k
get_other [] n k y e = refl
get_other (a ∷ xs) zero zero y e = absurd (e refl)
get_other (a ∷ xs) zero (suc k) y e = refl
get_other (a ∷ xs) (suc n) zero y e = refl
get_other (a ∷ xs) (suc n) (suc k) y e = get_other xs n k y (λ q. e (ap suc q))

-- ---- what a type takes depends on the struct that it holds alone

pub space_held : (f g : ℕ → Space) (ty : CTypeTree) → IfSome (held ty) (λ k. f k ≡ g k) → space_by f ty ≡ space_by g ty
space_held f g Void h = refl
space_held f g (Int t) h = refl
space_held f g (Pointer to c) h = refl
space_held f g (Array of c n) h = ap (array_space n) (space_held f g of h)
space_held f g (Struct n) h = h
space_held f g (Function n) h = refl

spaces_held : (f g : ℕ → Space) (members : List MemberTree) → All (λ member. IfSome (held member.ty) (λ k. f k ≡ g k)) members → spaces_by f members ≡ spaces_by g members
spaces_held f g [] all = refl
spaces_held f g (m ∷ rest) all =
    ap (λ s. s ∷ spaces_by f rest) (space_held f g m.ty (All-head (λ member. IfSome (held member.ty) (λ k. f k ≡ g k)) m rest all))
    ∙ ap (λ s. space_by g m.ty ∷ s) (spaces_held f g rest (All-tail (λ member. IfSome (held member.ty) (λ k. f k ≡ g k)) m rest all))

-- ---- one table that keeps the complete structs of another

-- each complete struct stands in the other as it is
abbrev pub Keeps : List StructDefTree → List StructDefTree → Type 0
Keeps a b = (n : ℕ) → IsTrue (is_complete a n) → slice_get b n ≡ slice_get a n

pub complete_kept : (a b : List StructDefTree) (n : ℕ) → slice_get b n ≡ slice_get a n → IsTrue (is_complete a n) → IsTrue (is_complete b n)
complete_kept a b n e h = subst (λ o. IsTrue (has_members (unwrap_or (option_map (λ def. def.members) o) []))) (sym e) h

pub told_kept : (a b : List StructDefTree) (n : ℕ) → slice_get b n ≡ slice_get a n → in_table b n ≡ in_table a n
told_kept a b n e = ap (λ o. unwrap_or (option_map (λ def. told def.members (record { size = Some def.size; align = def.align })) o) no_space) e

pub held_kept : (a b : List StructDefTree) → Keeps a b → (ty : CTypeTree) → IsHeldComplete a ty → IsHeldComplete b ty
held_kept a b keeps ty h = some_map (held ty) (λ k. IsTrue (is_complete a k)) (λ k. IsTrue (is_complete b k)) (λ k c. complete_kept a b k (keeps k c) c) h

pub space_kept : (a b : List StructDefTree) → Keeps a b → (ty : CTypeTree) → IsHeldComplete a ty → space_by (in_table b) ty ≡ space_by (in_table a) ty
space_kept a b keeps ty h =
    space_held (in_table b) (in_table a) ty
    (some_map (held ty) (λ k. IsTrue (is_complete a k)) (λ k. in_table b k ≡ in_table a k) (λ k c. told_kept a b k (keeps k c)) h)

pub spaces_kept :
    (a b : List StructDefTree) → Keeps a b → (members : List MemberTree) → All (λ member. IsHeldComplete a member.ty) members
    → spaces_by (in_table b) members ≡ spaces_by (in_table a) members
spaces_kept a b keeps members all =
    spaces_held (in_table b) (in_table a) members
    (All-weaker (λ member. IsHeldComplete a member.ty) (λ member. IfSome (held member.ty) (λ k. in_table b k ≡ in_table a k))
    (λ m h. some_map (held m.ty) (λ k. IsTrue (is_complete a k)) (λ k. in_table b k ≡ in_table a k) (λ k c. told_kept a b k (keeps k c)) h) members all)

pub made_kept : (a b : List StructDefTree) → Keeps a b → (members : List MemberTree) → AreMade a members → AreMade b members
made_kept a b keeps members made = record {
  complete = All-weaker (λ member. IsHeldComplete a member.ty) (λ member. IsHeldComplete b member.ty) (λ m h. held_kept a b keeps m.ty h) members made.complete;
  offsets = λ k. made.offsets k ∙ ap (λ spaces. offset_at spaces k) (sym (spaces_kept a b keeps members made.complete));
}

-- ---- tables with the same members and spaces

pub record Same (a b : List StructDefTree) : Type 0 where
  pub members : (n : ℕ) → members_of b n ≡ members_of a n
  pub spaces : (n : ℕ) → in_table b n ≡ in_table a n
  pub count : completed b ≡ completed a

complete_same : (a b : List StructDefTree) → Same a b → (n : ℕ) → is_complete b n ≡ is_complete a n
complete_same a b same n = ap has_members (same.members n)

pub any_held : (ty : CTypeTree) {P : ℕ → Type 0} → ((k : ℕ) → P k) → IfSome (held ty) P
any_held Void f = tt
any_held (Int t) f = tt
any_held (Pointer to c) f = tt
any_held (Array of c n) f = any_held of f
any_held (Struct n) f = f n
any_held (Function n) f = tt

spaces_same : (a b : List StructDefTree) → Same a b → (n : ℕ) → member_spaces b n ≡ member_spaces a n
spaces_same a b same n =
    spaces_held (in_table b) (in_table a) (members_of b n) (λ k d h. any_held (slice_index_or (members_of b n) k d).ty same.spaces)
    ∙ ap (λ members. spaces_by (in_table a) members) (same.members n)

pub made_same : (a b : List StructDefTree) → Same a b → IsMade a → IsMade b
made_same a b same made = record {
  height = made.height;
  below = λ n h. subst (λ c. made.height n < c) (sym same.count) (made.below n (sym (complete_same a b same n) ∙ h));
  rest = λ n h. made.rest n (sym (complete_same a b same n) ∙ h);
  members = λ n. subst (λ members. All (λ member. IsHeldComplete b member.ty) members) (sym (same.members n))
      (All-weaker (λ member. IsHeldComplete a member.ty) (λ member. IsHeldComplete b member.ty)
      (λ m h. some_map (held m.ty) (λ k. IsTrue (is_complete a k)) (λ k. IsTrue (is_complete b k)) (λ k c. complete_same a b same k ∙ c) h)
      (members_of a n) (made.members n));
  falls = λ n. subst (λ members. All (λ member. IfSome (held member.ty) (λ k. made.height k < made.height n)) members) (sym (same.members n)) (made.falls n);
  laid_out = record {
    spaces = λ n. same.spaces n ∙ made.laid_out.spaces n ∙ ap struct_space (sym (spaces_same a b same n));
    offsets = λ n k. ap (λ members. option_map (λ member. member.offset) (slice_get members k)) (same.members n) ∙ made.laid_out.offsets n k
        ∙ ap (λ spaces. offset_at spaces k) (sym (spaces_same a b same n));
  };
}

-- ---- one more struct, without members

abbrev pub empty_struct : List ℕ → StructDefTree
empty_struct tag = record { tag = tag; members = []; size = 0; align = 1 }

members_with : (a : List StructDefTree) (tag : List ℕ) (n : ℕ) → members_of (a ++ empty_struct tag ∷ []) n ≡ members_of a n
members_with [] tag zero = refl
members_with [] tag (suc n) = refl
members_with (d ∷ a) tag zero = refl
members_with (d ∷ a) tag (suc n) = members_with a tag n

told_with : (a : List StructDefTree) (tag : List ℕ) (n : ℕ) → in_table (a ++ empty_struct tag ∷ []) n ≡ in_table a n
told_with [] tag zero = refl
told_with [] tag (suc n) = refl
told_with (d ∷ a) tag zero = refl
told_with (d ∷ a) tag (suc n) = told_with a tag n

count_with : (a : List StructDefTree) (tag : List ℕ) → completed (a ++ empty_struct tag ∷ []) ≡ completed a
count_with [] tag = refl
count_with (d ∷ a) tag = ap (λ c. (if has_members d.members then 1 else 0) + c) (count_with a tag)

pub same_with : (a : List StructDefTree) (tag : List ℕ) → Same a (a ++ empty_struct tag ∷ [])
same_with a tag = record { members = members_with a tag; spaces = told_with a tag; count = count_with a tag }

pub made_with : (a : List StructDefTree) (tag : List ℕ) → IsMade a → IsMade (a ++ empty_struct tag ∷ [])
made_with a tag = made_same a _ (same_with a tag)

pub made_nothing : IsMade []
made_nothing = record {
  height = λ n. 0;
  below = λ n h. absurd (false≢true h);
  rest = λ n h. refl;
  members = λ n. All-nil (λ member. IsHeldComplete [] member.ty);
  falls = λ n. All-nil (λ member. IfSome (held member.ty) (λ k. 0 < 0));
  laid_out = record { spaces = λ n. refl; offsets = λ n k. refl };
}

-- ---- a struct that is completed

pub members_set : (a : List StructDefTree) (n : ℕ) (def new : StructDefTree) → slice_get a n ≡ Some def → members_of (set a n new) n ≡ new.members
members_set a n def new e = ap (λ o. unwrap_or (option_map (λ d. d.members) o) []) (get_set a n def new e)

-- what is told of the number that was given
told_there : (a : List StructDefTree) (n : ℕ) (def : StructDefTree) → slice_get a n ≡ Some def → in_table a n ≡ told def.members (record { size = Some def.size; align = def.align })
told_there a n def e = ap (λ o. unwrap_or (option_map (λ d. told d.members (record { size = Some d.size; align = d.align })) o) no_space) e

none_more : (c : ℕ) → c ≡ 0 + c
none_more c = omega arith

count_set : (a : List StructDefTree) (n : ℕ) (def new : StructDefTree) → slice_get a n ≡ Some def → def.members ≡ [] → completed (set a n new) ≡ (if has_members new.members then 1 else 0) + completed a
count_set [] n def new e empty = cc
count_set (d ∷ a) zero def new e empty =
    let s : d ≡ def = cc in
    ap (λ c. (if has_members new.members then 1 else 0) + c) (none_more (completed a))
    ∙ ap (λ b. (if has_members new.members then 1 else 0) + ((if b then 1 else 0) + completed a)) (ap has_members (sym (ap (λ x. x.members) s ∙ empty)))
count_set (d ∷ a) (suc n) def new e empty =
    let inner = count_set a n def new e empty in
    let one = if has_members d.members then 1 else 0 in
    let two = if has_members new.members then 1 else 0 in
    ap (λ c. one + c) inner ∙ swapped one two (completed a)
  where
    swapped : (p q r : ℕ) → p + (q + r) ≡ q + (p + r)
    swapped p q r = omega arith

not_complete : (a : List StructDefTree) (n : ℕ) → IsIncomplete a n → IsFalse (is_complete a n)
not_complete a n bare = ap has_members (ap (λ o. unwrap_or (option_map (λ d. d.members) o) []) bare.there ∙ bare.empty)

-- the struct of this number, laid out from its members
abbrev pub with_made : List StructDefTree → ℕ → List ℕ → List MemberTree → List StructDefTree
with_made a n tag members = set a n (struct_of tag members (struct_space (spaces_by (in_table a) members)))

pub keeps_made : (a : List StructDefTree) (n : ℕ) (tag : List ℕ) (members : List MemberTree) → IsIncomplete a n → Keeps a (with_made a n tag members)
keeps_made a n tag members bare k c =
    get_other a n k _ (λ e. false≢true (sym (not_complete a n bare) ∙ subst (λ m. IsTrue (is_complete a m)) e c))

-- without members it is as it was
pub same_without : (a : List StructDefTree) (n : ℕ) (tag : List ℕ) → IsIncomplete a n → Same a (with_made a n tag [])
same_without a n tag bare = record { members = members; spaces = spaces; count = count_set a n bare.def _ bare.there bare.empty ∙ sym (none_more (completed a)) }
  where
    members : (k : ℕ) → members_of (with_made a n tag []) k ≡ members_of a k
    members k = ⊎_elim
        (λ e. subst (λ j. members_of (with_made a n tag []) j ≡ members_of a j) (sym e)
        (members_set a n bare.def _ bare.there ∙ sym (ap (λ o. unwrap_or (option_map (λ d. d.members) o) []) bare.there ∙ bare.empty)))
        (λ e. ap (λ o. unwrap_or (option_map (λ d. d.members) o) []) (get_other a n k _ e)) (cases_eq k n)

    spaces : (k : ℕ) → in_table (with_made a n tag []) k ≡ in_table a k
    spaces k = ⊎_elim
        (λ e. subst (λ j. in_table (with_made a n tag []) j ≡ in_table a j) (sym e)
        (told_there (with_made a n tag []) n _ (get_set a n bare.def _ bare.there)
        ∙ sym (told_there a n bare.def bare.there ∙ ap (λ m. told m (record { size = Some bare.def.size; align = bare.def.align })) bare.empty)))
        (λ e. told_kept a _ k (get_other a n k _ e)) (cases_eq k n)

-- its height is above those of all that were complete before
raised : ℕ → ℕ → (ℕ → ℕ) → ℕ → ℕ
raised n top height k = if k == n then top else height k

raised_here : (n top : ℕ) (height : ℕ → ℕ) → raised n top height n ≡ top
unfolding raised
raised_here n top height = ap (λ b. if b then top else height n) (eq-eqb n n refl)

raised_other : (n top : ℕ) (height : ℕ → ℕ) (k : ℕ) → (k ≡ n → ⊥) → raised n top height k ≡ height k
unfolding raised
raised_other n top height k e = ap (λ b. if b then top else height k) (ne_eqb k n e)

complete_set : (a : List StructDefTree) (n k : ℕ) (new : StructDefTree) → (k ≡ n → ⊥) → is_complete (set a n new) k ≡ is_complete a k
complete_set a n k new e = ap (λ o. has_members (unwrap_or (option_map (λ d. d.members) o) [])) (get_other a n k new e)

made_full : (a : List StructDefTree) (n : ℕ) (tag : List ℕ) (m : MemberTree) (rest : List MemberTree) → IsMade a → IsIncomplete a n → AreMade a (m ∷ rest) → IsMade (with_made a n tag (m ∷ rest))
made_full a n tag m rest made bare are = record {
  height = height;
  below = λ k h. subst (λ c. height k < c) (sym count) (⊎_elim (λ e. subst (λ j. height j < 1 + completed a) (sym e) (rw here (omega arith))) (λ e. rw (other k e) (lower k e h)) (cases_eq k n));
  rest = λ k h. ⊎_elim (λ e. absurd (full (subst (λ j. IsFalse (is_complete b j)) e h))) (λ e. other k e ∙ made.rest k (sym (complete_set a n k new e) ∙ h)) (cases_eq k n);
  members = λ k. ⊎_elim (λ e. subst (λ j. All (λ member. IsHeldComplete b member.ty) (members_of b j)) (sym e) (rw there (kept (m ∷ rest) are.complete)))
      (λ e. rw (apart k e) (kept (members_of a k) (made.members k))) (cases_eq k n);
  falls = λ k. ⊎_elim (λ e. subst (λ j. All (λ member. IfSome (held member.ty) (λ i. height i < height j)) (members_of b j)) (sym e) (rw there (below_top (m ∷ rest) are.complete)))
      (λ e. rw (apart k e) (fall k e)) (cases_eq k n);
  laid_out = record {
    spaces = λ k. ⊎_elim (λ e. subst (λ j. in_table b j ≡ laid_out b j) (sym e) (told_there b n new get ∙ ap struct_space (sym (same_here))))
        (λ e. told_kept a b k (get_other a n k new e) ∙ made.laid_out.spaces k ∙ ap struct_space (sym (same_apart k e))) (cases_eq k n);
    offsets = λ k i. ⊎_elim (λ e. subst (λ j. option_map (λ member. member.offset) (slice_get (members_of b j) i) ≡ offset_at (member_spaces b j) i) (sym e)
        (ap (λ members. option_map (λ member. member.offset) (slice_get members i)) there ∙ are.offsets i ∙ ap (λ spaces. offset_at spaces i) (sym same_here)))
        (λ e. ap (λ members. option_map (λ member. member.offset) (slice_get members i)) (apart k e) ∙ made.laid_out.offsets k i
        ∙ ap (λ spaces. offset_at spaces i) (sym (same_apart k e))) (cases_eq k n);
  };
}
  where
    new : StructDefTree
    new = struct_of tag (m ∷ rest) (struct_space (spaces_by (in_table a) (m ∷ rest)))

    b : List StructDefTree
    b = set a n new

    height : ℕ → ℕ
    height = raised n (completed a) made.height

    here : height n ≡ completed a
    here = raised_here n (completed a) made.height

    other : (k : ℕ) → (k ≡ n → ⊥) → height k ≡ made.height k
    other k e = raised_other n (completed a) made.height k e

    count : completed b ≡ 1 + completed a
    count = count_set a n bare.def new bare.there bare.empty

    get : slice_get b n ≡ Some new
    get = get_set a n bare.def new bare.there

    there : members_of b n ≡ m ∷ rest
    there = members_set a n bare.def new bare.there

    apart : (k : ℕ) → (k ≡ n → ⊥) → members_of b k ≡ members_of a k
    apart k e = ap (λ o. unwrap_or (option_map (λ d. d.members) o) []) (get_other a n k new e)

    full : IsFalse (is_complete b n) → ⊥
    full h = false≢true (sym h ∙ ap has_members there)

    keeps : Keeps a b
    keeps = keeps_made a n tag (m ∷ rest) bare

    kept : (members : List MemberTree) → All (λ member. IsHeldComplete a member.ty) members → All (λ member. IsHeldComplete b member.ty) members
    kept members all = All-weaker (λ member. IsHeldComplete a member.ty) (λ member. IsHeldComplete b member.ty) (λ x h. held_kept a b keeps x.ty h) members all

    lower : (k : ℕ) → (k ≡ n → ⊥) → IsTrue (is_complete b k) → made.height k < 1 + completed a
    lower k e h = let l = made.below k (sym (complete_set a n k new e) ∙ h) in omega arith

    -- a complete struct is another one, and lower
    not_this : (i : ℕ) → IsTrue (is_complete a i) → i ≡ n → ⊥
    not_this i c e = false≢true (sym (not_complete a n bare) ∙ subst (λ j. IsTrue (is_complete a j)) e c)

    below_top : (members : List MemberTree) → All (λ member. IsHeldComplete a member.ty) members → All (λ member. IfSome (held member.ty) (λ i. height i < height n)) members
    below_top members all = All-weaker (λ member. IsHeldComplete a member.ty) (λ member. IfSome (held member.ty) (λ i. height i < height n))
        (λ x h. some_map (held x.ty) (λ i. IsTrue (is_complete a i)) (λ i. height i < height n) (λ i c. rw (other i (not_this i c), here) (made.below i c)) h) members all

    fall : (k : ℕ) → (k ≡ n → ⊥) → All (λ member. IfSome (held member.ty) (λ i. height i < height k)) (members_of a k)
    fall k e = λ j d h.
        let x = slice_index_or (members_of a k) j d in
        both (held x.ty) (made.members k j d h) (made.falls k j d h)
      where
        both : (o : Option ℕ) → IfSome o (λ i. IsTrue (is_complete a i)) → IfSome o (λ i. made.height i < made.height k) → IfSome o (λ i. height i < height k)
        both None p q = tt
        both (Some i) p q = rw (other i (not_this i p), other k e) q

    same_here : member_spaces b n ≡ spaces_by (in_table a) (m ∷ rest)
    same_here = ap (λ members. spaces_by (in_table b) members) there ∙ spaces_kept a b keeps (m ∷ rest) are.complete

    same_apart : (k : ℕ) → (k ≡ n → ⊥) → member_spaces b k ≡ member_spaces a k
    same_apart k e = ap (λ members. spaces_by (in_table b) members) (apart k e) ∙ spaces_kept a b keeps (members_of a k) (made.members k)

pub made_complete : (a : List StructDefTree) (n : ℕ) (tag : List ℕ) (members : List MemberTree) → IsMade a → IsIncomplete a n → AreMade a members → IsMade (with_made a n tag members)
made_complete a n tag [] made bare are = made_same a _ (same_without a n tag bare) made
made_complete a n tag (m ∷ rest) made bare are = made_full a n tag m rest made bare are

-- ---- what such a table is

completed_most : (a : List StructDefTree) → completed a ≤ length a
completed_most [] = omega arith
completed_most (d ∷ a) = by (has_members d.members) (completed_most a)
  where
    by : (b : Bool) → completed a ≤ length a → (if b then 1 else 0) + completed a ≤ suc (length a)
    by true h = omega arith
    by false h = omega arith

pub founded : (a : List StructDefTree) → IsMade a → NoneHoldsItself a
founded a made = record {
  height = made.height;
  bounded = λ n h. ⊎_elim (λ t. let l = made.below n t in let m = completed_most a in omega arith) (λ f. let z = made.rest n f in omega arith) (cases_Bool (is_complete a n));
  falls = made.falls;
}

pub complete_below : (a : List StructDefTree) (n : ℕ) (def : StructDefTree) → slice_get a n ≡ Some def → n < length a
complete_below [] n def e = cc
complete_below (d ∷ a) zero def e = omega arith
complete_below (d ∷ a) (suc n) def e = let h = complete_below a n def e in omega arith
