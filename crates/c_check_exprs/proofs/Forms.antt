-- Declarators as lists of their forms: each form stands around the first of those behind it.
use Rattle.std.proofs.Common.{◌≡◌, ℕ, ◌+◌, ◌<◌, ◌≤◌, Bor, true, false, List, [], ◌∷◌, ◌++◌, refl, sym, ap, ◌∙◌, subst, map, append_assoc, arith}
use Rattle.std.specs.Prelude.{Option, Some, None, IfSome, IfNone}
use Rattle.std.proofs.lemmas.List.{map-append}
use Rattle.c_syntax_written.specs.declared.written.Declarator.{Declarator}
use Rattle.c_syntax_written.specs.Written as written
use Rattle.c_syntax_written.specs.Written.{DeclaratorTree, declarator_tree}
use Rattle.c_syntax_written.specs.Sizes.{declarator_size}
use Rattle.c_typing.specs.Declarators.{Shape}
use Rattle.c_typing.specs.Typing.{TypesDeclarator}
use Rattle.c_typing.specs.World.{World, Refusal, Outcome, Typed, Refused, goes_on, stops}
use Rattle.c_check_exprs.specs.Views.{forms_of, inside, stands_around_one}
use Rattle.c_check_exprs.proofs.Lines.{absent_goes, grouped_line, pointer_line, array_line, open_array_line, function_line, void_function_line}

-- the declarator of which these are the forms
abbrev pub made_of : List DeclaratorTree → DeclaratorTree
made_of [] = written.Absent
made_of (form ∷ rest) = form

pub forms_made : (d : DeclaratorTree) → made_of (forms_of d) ≡ d
unfolding forms_of
forms_made written.Absent = refl
forms_made (written.Name at name) = refl
forms_made (written.Grouped at d) = refl
forms_made (written.Pointer at is_const d) = refl
forms_made (written.Array at d size) = refl
forms_made (written.OpenArray at d) = refl
forms_made (written.Function at d list) = refl
forms_made (written.VoidFunction at d) = refl

-- a declarator is its outermost form, and those behind it make what it stands around
pub first_form : (d form : DeclaratorTree) (rest : List DeclaratorTree) → forms_of d ≡ form ∷ rest → (d ≡ form) × (made_of rest ≡ inside d)
unfolding forms_of
first_form written.Absent form rest e = let r : [] ≡ rest = cc in (cc, sym (ap made_of r))
first_form (written.Name at name) form rest e = let r : [] ≡ rest = cc in (cc, sym (ap made_of r))
first_form (written.Grouped at d) form rest e = let r : forms_of d ≡ rest = cc in (cc, sym (ap made_of r) ∙ forms_made d)
first_form (written.Pointer at is_const d) form rest e = let r : forms_of d ≡ rest = cc in (cc, sym (ap made_of r) ∙ forms_made d)
first_form (written.Array at d size) form rest e = let r : forms_of d ≡ rest = cc in (cc, sym (ap made_of r) ∙ forms_made d)
first_form (written.OpenArray at d) form rest e = let r : forms_of d ≡ rest = cc in (cc, sym (ap made_of r) ∙ forms_made d)
first_form (written.Function at d list) form rest e = let r : forms_of d ≡ rest = cc in (cc, sym (ap made_of r) ∙ forms_made d)
first_form (written.VoidFunction at d) form rest e = let r : forms_of d ≡ rest = cc in (cc, sym (ap made_of r) ∙ forms_made d)

no_more : {A : Type 0} (before : List A) (x : A) (rest : List A) → [] ≡ before ++ x ∷ rest → ⊥
no_more [] x rest e = cc
no_more (y ∷ before) x rest e = cc

-- the forms of what it stands around
later_forms : (d outer form : DeclaratorTree) (before rest : List DeclaratorTree) → forms_of d ≡ outer ∷ (before ++ form ∷ rest)
    → forms_of (inside d) ≡ before ++ form ∷ rest
unfolding forms_of
later_forms written.Absent outer form before rest e = absurd (no_more before form rest cc)
later_forms (written.Name at name) outer form before rest e = absurd (no_more before form rest cc)
later_forms (written.Grouped at d) outer form before rest e = cc
later_forms (written.Pointer at is_const d) outer form before rest e = cc
later_forms (written.Array at d size) outer form before rest e = cc
later_forms (written.OpenArray at d) outer form before rest e = cc
later_forms (written.Function at d list) outer form before rest e = cc
later_forms (written.VoidFunction at d) outer form before rest e = cc

-- each form stands around what those behind it make
pub stands_around : (d form : DeclaratorTree) (before rest : List DeclaratorTree) → forms_of d ≡ before ++ form ∷ rest → made_of rest ≡ inside form
stands_around d form [] rest e = let first = first_form d form rest e in first.1 ∙ ap inside first.0
stands_around d form (outer ∷ before) rest e = stands_around (inside d) form before rest (later_forms d outer form before rest e)

inside_below : (d : DeclaratorTree) → declarator_size (inside d) ≤ declarator_size d
inside_below written.Absent = omega arith
inside_below (written.Name at name) = omega arith
inside_below (written.Grouped at d) = omega arith
inside_below (written.Pointer at is_const d) = omega arith
inside_below (written.Array at d size) = omega arith
inside_below (written.OpenArray at d) = omega arith
inside_below (written.Function at d list) = omega arith
inside_below (written.VoidFunction at d) = omega arith

-- and is no larger than the whole
pub form_below : (d form : DeclaratorTree) (before rest : List DeclaratorTree) → forms_of d ≡ before ++ form ∷ rest
    → declarator_size form ≤ declarator_size d
form_below d form [] rest e =
    let same : declarator_size d ≡ declarator_size form = ap declarator_size (first_form d form rest e).0 in omega arith
form_below d form (outer ∷ before) rest e =
    let inner = form_below (inside d) form before rest (later_forms d outer form before rest e) in
    let below = inside_below d in omega arith

-- what is refused inside is refused
refused_around : (w : World) (r : Refusal) (d : DeclaratorTree) → TypesDeclarator w (inside d) (Refused r) → TypesDeclarator w d (Refused r)
refused_around w r written.Absent p = p
refused_around w r (written.Name at name) p = absurd (absent_goes w r p)
refused_around w r (written.Grouped at d) p = grouped_line w at d _ p
refused_around w r (written.Pointer at is_const d) p = pointer_line w at is_const d _ (stops p)
refused_around w r (written.Array at d size) p = array_line w at d size _ (stops p)
refused_around w r (written.OpenArray at d) p = open_array_line w at d _ (stops p)
refused_around w r (written.Function at d list) p = function_line w at d list _ (stops p)
refused_around w r (written.VoidFunction at d) p = void_function_line w at d _ (stops p)

-- so the refusal of a form is that of the whole
pub refused_whole : (w : World) (r : Refusal) (d form : DeclaratorTree) (before rest : List DeclaratorTree) → forms_of d ≡ before ++ form ∷ rest
    → TypesDeclarator w form (Refused r) → TypesDeclarator w d (Refused r)
refused_whole w r d form [] rest e p = subst (λ x. TypesDeclarator w x (Refused r)) (sym (first_form d form rest e).0) p
refused_whole w r d form (outer ∷ before) rest e p =
    refused_around w r d (refused_whole w r (inside d) form before rest (later_forms d outer form before rest e) p)

-- the forms that are not left of a declarator are typed so
pub record IsTyped (w : World) (whole : DeclaratorTree) (left : List DeclaratorTree) (shape : Shape) (v : World) : Type 0 where
  pub done : List DeclaratorTree
  pub parts : forms_of whole ≡ left ++ done
  pub typed : TypesDeclarator w (made_of done) (Typed shape v)

-- the forms from the next one on, if there is one
abbrev pub forms_from : Option (Bor Declarator) → List DeclaratorTree
forms_from None = []
forms_from (Some form) = forms_of (declarator_tree form.now)

-- a declarator that stands around nothing is its one form
pub one_form : (d : DeclaratorTree) → stands_around_one d ≡ false → d ∷ [] ≡ forms_of d
unfolding forms_of
one_form written.Absent e = refl
one_form (written.Name at name) e = refl
one_form (written.Grouped at d) e = cc
one_form (written.Pointer at is_const d) e = cc
one_form (written.Array at d size) e = cc
one_form (written.OpenArray at d) e = cc
one_form (written.Function at d list) e = cc
one_form (written.VoidFunction at d) e = cc

-- any other is that form and those inside
pub more_forms : (d : DeclaratorTree) → stands_around_one d ≡ true → d ∷ forms_of (inside d) ≡ forms_of d
unfolding forms_of
more_forms written.Absent e = cc
more_forms (written.Name at name) e = cc
more_forms (written.Grouped at d) e = refl
more_forms (written.Pointer at is_const d) e = refl
more_forms (written.Array at d size) e = refl
more_forms (written.OpenArray at d) e = refl
more_forms (written.Function at d list) e = refl
more_forms (written.VoidFunction at d) e = refl

-- and is larger
pub inside_falls : (d : DeclaratorTree) → stands_around_one d ≡ true → declarator_size (inside d) < declarator_size d
inside_falls written.Absent e = cc
inside_falls (written.Name at name) e = cc
inside_falls (written.Grouped at d) e = omega arith
inside_falls (written.Pointer at is_const d) e = omega arith
inside_falls (written.Array at d size) e = omega arith
inside_falls (written.OpenArray at d) e = omega arith
inside_falls (written.Function at d list) e = omega arith
inside_falls (written.VoidFunction at d) e = omega arith

-- how much is left
abbrev pub size_from : Option (Bor Declarator) → ℕ
size_from None = 0
size_from (Some form) = declarator_size (declarator_tree form.now)

size_above : (d : DeclaratorTree) → 0 < declarator_size d
size_above written.Absent = omega arith
size_above (written.Name at name) = omega arith
size_above (written.Grouped at d) = omega arith
size_above (written.Pointer at is_const d) = omega arith
size_above (written.Array at d size) = omega arith
size_above (written.OpenArray at d) = omega arith
size_above (written.Function at d list) = omega arith
size_above (written.VoidFunction at d) = omega arith

-- the next step inward
pub next_forms : (form : Declarator) (next : Option (Bor Declarator)) → IfNone next (stands_around_one (declarator_tree form) ≡ false)
    → IfSome next (λ inner. (stands_around_one (declarator_tree form) ≡ true) × (inside (declarator_tree form) ≡ declarator_tree inner.now))
    → declarator_tree form ∷ forms_from next ≡ forms_of (declarator_tree form)
next_forms form None h k = one_form (declarator_tree form) h
next_forms form (Some inner) h k = ap (λ d. declarator_tree form ∷ forms_of d) (sym k.1) ∙ more_forms (declarator_tree form) k.0

pub next_falls : (form : Declarator) (next : Option (Bor Declarator))
    → IfSome next (λ inner. (stands_around_one (declarator_tree form) ≡ true) × (inside (declarator_tree form) ≡ declarator_tree inner.now))
    → size_from next < declarator_size (declarator_tree form)
next_falls form None k = size_above (declarator_tree form)
next_falls form (Some inner) k = let below = inside_falls (declarator_tree form) k.0 in let same = ap declarator_size k.1 in omega arith

plus_none : {A : Type 0} (xs : List A) → xs ≡ xs ++ []
plus_none [] = refl
plus_none (x ∷ xs) = ap (λ l. x ∷ l) (plus_none xs)

-- all forms are left
pub all_left : (whole : DeclaratorTree) (left : List DeclaratorTree) → left ≡ forms_of whole → forms_of whole ≡ left ++ []
all_left whole left e = sym e ∙ plus_none left

abbrev pub trees_of : List (Bor Declarator) → List DeclaratorTree
trees_of list = map (λ form. declarator_tree form.now) list

-- one form fewer is left
pub one_fewer : (whole : DeclaratorTree) (left new : List (Bor Declarator)) (form : Bor Declarator) (done : List DeclaratorTree)
    → left ≡ new ++ form ∷ [] → forms_of whole ≡ trees_of left ++ done → forms_of whole ≡ trees_of new ++ declarator_tree form.now ∷ done
one_fewer whole left new form done e p =
    p ∙ ap (λ l. trees_of l ++ done) e ∙ ap (λ l. l ++ done) (map-append (λ (form : Bor Declarator). declarator_tree form.now) new (form ∷ []))
    ∙ append_assoc (trees_of new) (declarator_tree form.now ∷ []) done

-- none is left
pub none_left : (whole : DeclaratorTree) (left : List (Bor Declarator)) (done : List DeclaratorTree) → left ≡ []
    → forms_of whole ≡ trees_of left ++ done → made_of done ≡ whole
none_left whole left done e p = ap made_of (sym (p ∙ ap (λ l. trees_of l ++ done) e)) ∙ forms_made whole

-- one form more stands in the list
pub one_listed : (whole : DeclaratorTree) (list new : List (Bor Declarator)) (form : Bor Declarator) (next : Option (Bor Declarator))
    → new ≡ list ++ form ∷ [] → trees_of list ++ forms_of (declarator_tree form.now) ≡ forms_of whole
    → declarator_tree form.now ∷ forms_from next ≡ forms_of (declarator_tree form.now)
    → trees_of new ++ forms_from next ≡ forms_of whole
one_listed whole list new form next e p q =
    ap (λ l. trees_of l ++ forms_from next) e ∙ ap (λ l. l ++ forms_from next) (map-append
    (λ (form : Bor Declarator). declarator_tree form.now) list (form ∷ []))
    ∙ append_assoc (trees_of list) (declarator_tree form.now ∷ []) (forms_from next) ∙ ap (λ l. trees_of list ++ l) q ∙ p
