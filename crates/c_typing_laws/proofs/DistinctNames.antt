-- No two functions of a program have one name: each function's name is linked, and a function is new only where its name is not.
use Rattle.std.proofs.Common.{◌≡◌, ℕ, zero, suc, Bool, true, false, List, [], ◌∷◌, ◌++◌, refl, ap, sym, subst, ◌∙◌, arith}
use Rattle.std.specs.Prelude.{◌&&◌, if◌then◌else◌, is_some, Option, None, Some, option_map, unwrap_or, All, AllPairs, find, map, set, slice_get, bytes_eq}
use Rattle.std.proofs.lemmas.Bool.{false≢true}
use Rattle.std.proofs.lemmas.Option.{same_Some}
use Rattle.std.proofs.lemmas.List.{get_or-map, length-map}
use Rattle.std.proofs.lemmas.List.Elements.{All-nil, All-push, All-weaker}
use Rattle.std.proofs.lemmas.List.Quantifiers.{all_pairs_push}
use Rattle.std.proofs.lemmas.Slice.Eq.{bytes_eq-Decides}
use Rattle.c_syntax_written.specs.WrittenFile.{FileTree}
use Rattle.c_syntax.specs.Types.{ObjectTree}
use Rattle.c_syntax.specs.Program.{TFunctionTree, TProgramTree}
use Rattle.c_typing.specs.World.{World, Linked}
use Rattle.c_typing.specs.Context.{file_context}
use Rattle.c_typing.specs.Names.{opened}
use Rattle.c_typing.specs.Settled.{settled_function}
use Rattle.c_typing.specs.Decls as decls
use Rattle.c_typing.specs.File as files
use Rattle.c_typing.specs.File.{TypesFile, TypesOuters, Program, nothing_yet}
use Rattle.c_typing.specs.Laws.{IsSameFunction}
use Rattle.c_typing.proofs.Changes.{Changes}
use Rattle.c_typing.proofs.Reaches as reaches
use Rattle.c_typing.proofs.Reaches.{Reaches, stays, after, named, literal, struct, new_struct, enumeration, tag_changed, body, opens, scoped, object, counted, initial, linked, defined, retyped, parameters, function, function_changed, labelled, cased, in_body}
use Rattle.c_typing.proofs.FileGo.{outers}
use Rattle.c_typing.proofs.Adds.{reached, nothing_good}
use Rattle.c_typing_laws.proofs.WholePrograms.{of_last}

-- the name is one of an entity of the file
abbrev IsLinked : List Linked → List ℕ → Type 0
IsLinked list name = is_some (find (λ l. bytes_eq l.name name) list) ≡ true

abbrev names_in : List TFunctionTree → List (List ℕ)
names_in functions = map (λ f. f.name) functions

-- the names of functions are linked, each is that of one
record Named (list : List Linked) (names : List (List ℕ)) : Type 0 where
  all : All (IsLinked list) names
  distinct : AllPairs (λ a b. a ≡ b → ⊥) names

linked_more : (name : List ℕ) (xs ys : List Linked) → IsLinked xs name → IsLinked (xs ++ ys) name
linked_more name [] ys e = absurd (false≢true e)
linked_more name (x ∷ xs) ys e = by (bytes_eq x.name name) e (linked_more name xs ys)
  where
    by :
        (b : Bool) → is_some (if b then Some x else find (λ l. bytes_eq l.name name) xs) ≡ true → (IsLinked xs name → IsLinked (xs ++ ys) name)
        → is_some (if b then Some x else find (λ l. bytes_eq l.name name) (xs ++ ys)) ≡ true
    by true e more = refl
    by false e more = more e

linked_last : (name : List ℕ) (xs : List Linked) (l : Linked) → l.name ≡ name → IsLinked (xs ++ l ∷ []) name
linked_last name [] l e = ap (λ b. is_some (if b then Some l else None)) ((bytes_eq-Decides l.name name).1 e)
linked_last name (x ∷ xs) l e = by (bytes_eq x.name name) (linked_last name xs l e)
  where
    by : (b : Bool) → IsLinked (xs ++ l ∷ []) name → is_some (if b then Some x else find (λ k. bytes_eq k.name name) (xs ++ l ∷ [])) ≡ true
    by true more = refl
    by false more = more

linked_mapped :
    (change : Linked → Linked) → ((l : Linked) → (change l).name ≡ l.name) → (name : List ℕ) (xs : List Linked) → IsLinked xs name → IsLinked (map change xs) name
linked_mapped change same name [] e = e
linked_mapped change same name (x ∷ xs) e =
    subst (λ n. is_some (if bytes_eq n name then Some (change x) else find (λ l. bytes_eq l.name name) (map change xs)) ≡ true) (sym (same x))
    (by (bytes_eq x.name name) e (linked_mapped change same name xs))
  where
    by :
        (b : Bool) → is_some (if b then Some x else find (λ l. bytes_eq l.name name) xs) ≡ true → (IsLinked xs name → IsLinked (map change xs) name)
        → is_some (if b then Some (change x) else find (λ l. bytes_eq l.name name) (map change xs)) ≡ true
    by true e more = refl
    by false e more = more e

name_if : (b : Bool) (x y : Linked) → x.name ≡ y.name → (if b then x else y).name ≡ y.name
name_if true x y e = e
name_if false x y e = refl

named_more : (xs ys : List Linked) (names : List (List ℕ)) → Named xs names → Named (xs ++ ys) names
named_more xs ys names h = record {
  all = All-weaker (IsLinked xs) (IsLinked (xs ++ ys)) (λ n e. linked_more n xs ys e) names h.all;
  distinct = h.distinct;
}

named_mapped :
    (change : Linked → Linked) → ((l : Linked) → (change l).name ≡ l.name) → (xs : List Linked) (names : List (List ℕ)) → Named xs names → Named (map change xs) names
named_mapped change same xs names h = record {
  all = All-weaker (IsLinked xs) (IsLinked (map change xs)) (λ n e. linked_mapped change same n xs e) names h.all;
  distinct = h.distinct;
}

-- a function whose name is not linked yet
named_new :
    (xs : List Linked) (l : Linked) (names : List (List ℕ)) (name : List ℕ) → name ≡ l.name → find (λ k. bytes_eq k.name l.name) xs ≡ None
    → Named xs names → Named (xs ++ l ∷ []) (names ++ name ∷ [])
named_new xs l names name e none h = record {
  all = All-push (IsLinked (xs ++ l ∷ [])) names name (named_more xs (l ∷ []) names h).all (linked_last name xs l (sym e));
  distinct = all_pairs_push (λ a b. a ≡ b → ⊥) names name h.distinct
      (λ k d below same. false≢true (sym (ap is_some none) ∙ subst (IsLinked xs) (same ∙ e) (h.all k d below)));
}

names_push : (fs : List TFunctionTree) (f : TFunctionTree) → names_in (fs ++ f ∷ []) ≡ names_in fs ++ f.name ∷ []
names_push [] f = refl
names_push (g ∷ fs) f = ap (λ names. g.name ∷ names) (names_push fs f)

names_set : (fs : List TFunctionTree) (n : ℕ) (f g : TFunctionTree) → slice_get fs n ≡ Some f → g.name ≡ f.name → names_in (set fs n g) ≡ names_in fs
names_set [] n f g e same = cc
names_set (a ∷ fs) zero f g e same = ap (λ name. name ∷ names_in fs) (same ∙ ap (λ x. x.name) (sym (same_Some a f e)))
names_set (a ∷ fs) (suc n) f g e same = ap (λ names. a.name ∷ names) (names_set fs n f g e same)

names_changed :
    (fs : List TFunctionTree) (n : ℕ) (change : TFunctionTree → TFunctionTree) → ((f : TFunctionTree) → IsSameFunction f (change f))
    → (o : Option TFunctionTree) → slice_get fs n ≡ o → names_in (unwrap_or (option_map (λ f. set fs n (change f)) o) fs) ≡ names_in fs
names_changed fs n change same None e = refl
names_changed fs n change same (Some f) e = names_set fs n f (change f) e (sym (same f).name)

abbrev AreNamed : World → Type 0
AreNamed w = Named w.linked (names_in w.functions)

names_kept : {may : Changes} (w v : World) → Reaches may w v → AreNamed w → AreNamed v
names_kept w v (stays _) h = h
names_kept w v (after _ u _ r s) h = names_kept u v s (names_kept w u r h)
names_kept w v (named _ at name meaning f m) h = h
names_kept w v (literal _ at bytes small) h = h
names_kept w v (struct _ tag) h = h
names_kept w v (new_struct _ tag d) h = h
names_kept w v (enumeration _ tag d) h = h
names_kept w v (tag_changed _ tag at meaning f) h = h
names_kept w v (body _ u x n members r begun s are sound) h = names_kept u x s (names_kept w u r h)
names_kept w v (opens _) h = h
names_kept w v (scoped _ u r) h = names_kept (opened w) u r h
names_kept w v (object _ x) h = h
names_kept w v (counted _ size) h = h
names_kept w v (reaches.sized _ n ty size f) h = h
names_kept w v (initial _ n bytes) h = h
names_kept w v (linked _ told meaning d f) h = named_more w.linked _ (names_in w.functions) h
names_kept w v (defined _ name now) h =
    named_mapped (decls.defined_if now name) (λ l. name_if (now && bytes_eq l.name name) _ l refl) w.linked (names_in w.functions) h
names_kept w v (retyped _ name ty c) h =
    named_mapped (decls.missing_if name ty c) (λ l. name_if (bytes_eq l.name name) _ l refl) w.linked (names_in w.functions) h
names_kept w v (parameters _ params) h = h
names_kept w v (function _ told types f e none) h =
    subst (Named _) (sym (names_push w.functions f)) (named_new w.linked _ (names_in w.functions) f.name e none h)
names_kept w v (function_changed _ n change f) h = subst (Named w.linked) (sym (names_changed w.functions n change f _ refl)) h
names_kept w v (labelled _ labels) h = h
names_kept w v (cased _ cases default) h = h
names_kept w v (in_body _ u x first names tags r aside f s) h = names_kept (files.in_body u first names tags) x s (names_kept w u r h)

names_settled : (objects : List ObjectTree) (fs : List TFunctionTree) → names_in (map (settled_function objects) fs) ≡ names_in fs
names_settled objects [] = refl
names_settled objects (f ∷ fs) = ap (λ names. f.name ∷ names) (names_settled objects fs)

pairs_named : (fs : List TFunctionTree) → AllPairs (λ a b. a ≡ b → ⊥) (names_in fs) → AllPairs (λ f g. f.name ≡ g.name → ⊥) fs
pairs_named fs h i j d less below e =
    let long = length-map fs (λ f. f.name) in
    h i j d.name less (omega (arith, below, long))
    (get_or-map (λ f. f.name) fs i d d.name (omega arith) ∙ e ∙ sym (get_or-map (λ f. f.name) fs j d d.name below))

pub names_are_distinct : (file : FileTree) (program : TProgramTree) → TypesFile file (Program program) → AllPairs (λ f g. f.name ≡ g.name → ⊥) program.functions
names_are_distinct file program types =
    of_last (λ p. AllPairs (λ f g. f.name ≡ g.name → ⊥) p.functions) program types.last types.is
    (λ w e. pairs_named (map (settled_function w.objects) w.functions) (subst (AllPairs (λ a b. a ≡ b → ⊥)) (sym (names_settled w.objects w.functions))
    (names_kept nothing_yet w (reached (outers nothing_yet (file_context file) file.outers nothing_good _
    (subst (λ o. TypesOuters nothing_yet (file_context file) file.outers o) e types.types))) nothing_named).distinct))
  where
    nothing_named : AreNamed nothing_yet
    nothing_named = record { all = All-nil (IsLinked []); distinct = λ i j d less below. absurd (omega arith) }
