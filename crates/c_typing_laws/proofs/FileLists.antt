-- Functions between the declarations of a file: their labels, and the lists of their objects.
use Rattle.std.proofs.Common.{◌≡◌, ℕ, zero, suc, ◌+◌, ◌<◌, true, false, List, [], ◌∷◌, ◌++◌, length, refl, ap, sym, subst, ◌∙◌, arith}
use Rattle.std.specs.Prelude.{Bool, not, ◌&&◌, if◌then◌else◌, is_some, Option, None, Some, IfSome, IsSomeAnd, option_map, option_and_then, unwrap_or, All, flat_map, map, set, slice_get, find, bytes_eq}
use Rattle.std.proofs.lemmas.Bool.{false≢true, and_parts}
use Rattle.std.proofs.lemmas.Option.{same_Some, none-some}
use Rattle.std.proofs.lemmas.List.{append-nil, length-set, set-set, set-append_left}
use Rattle.std.proofs.lemmas.List.Elements.{All-nil, All-append, All-set, All-head, All-tail, All-weaker, All-cons}
use Rattle.std.proofs.lemmas.List.Concat.{flat_map-append}
use Rattle.std.proofs.lemmas.Slice.Eq.{bytes_eq-Decides}
use Rattle.c_syntax_written.specs.declared.place.Pos.{Pos}
use Rattle.c_syntax_written.specs.declared.written.StorageWord.{StorageWord}
use Rattle.c_syntax_written.specs.WrittenDecl.{InitDeclaratorTree, DeclTree}
use Rattle.c_syntax_written.specs.WrittenFile.{BlockItemTrees, OuterTree}
use Rattle.c_syntax.specs.declared.statement.BlockKind.TheVariants as kinds
use Rattle.c_syntax.specs.Types.{CTypeTree, Void}
use Rattle.c_syntax.specs.TypedStmt.{TStmtTree, TStmtTrees, Block}
use Rattle.c_syntax.specs.Program.{TFunctionTree}
use Rattle.c_layout.specs.Jumps.{labels_of, labels_in, gotos_of, gotos_in, listed_of, listed_in}
use Rattle.c_layout.specs.WellTyped.{listed_by}
use Rattle.c_typing.specs.World.{World, Form, Meaning, Object, Missing, Parameter, Function, TypeName, Enumeration, Binding, TagBinding, Linked}
use Rattle.c_typing.specs.Names.{with_name}
use Rattle.c_typing.specs.SameTypes.{is_same, are_same}
use Rattle.c_typing.specs.Declarators.{DeclaredName, ParameterTree, Step}
use Rattle.c_typing.specs.Context.{Context, has_name, name_in, to_names, functions_defined_by, in_function}
use Rattle.c_typing.specs.Decls as decls
use Rattle.c_typing.specs.Decls.{Declares, AnObject, NoObject, Made, nothing_made, numbers_from, parameter_object, is_function_so, has_body_before, function_tree}
use Rattle.c_typing.specs.File.{Begun, in_body, defined_function, with_function_at, with_body, definition_ends}
use Rattle.c_typing.proofs.FormsGo.{found_each, no_some}
use Rattle.c_typing.proofs.Good.{Good}
use Rattle.c_typing.proofs.MadeTables.{get_append, get_last, get_set}
use Rattle.c_typing_laws.specs.NameSteps.{MakesFunction, new_name, known_name, MakesName, type_name, reserved, first_function, function_again, local, local_open, first_object, first_missing, object_again, missing_again}
use Rattle.c_typing_laws.specs.DeclSteps.{MakesInit, MakesDeclarators, one_more, MakesDecl}
use Rattle.c_typing_laws.specs.DeclSteps as steps
use Rattle.c_typing_laws.specs.StmtSteps.{MakesItems}
use Rattle.c_typing_laws.specs.FileSteps as outers
use Rattle.c_typing_laws.specs.FileSteps.{counted, MakesHead, head, MakesOuter, MakesOuters, no_more, and_then}
use Rattle.c_typing_laws.specs.JumpLaws.{HasItsLabels}
use Rattle.c_typing_laws.proofs.Autos.{count, auto, count_append, auto_parameters}
use Rattle.c_typing_laws.proofs.Grows.{IsDeclared, params_in, Grows, no_lists, number_of, init_objects, decl_grows, items_grow, grows_as, grows_then, grows_calm}
use Rattle.c_typing_laws.proofs.Jumps.{Jumps, body_jumps, block_jumps, items_jumps}
use Rattle.c_typing_laws.proofs.Scalars.{ScalarNames}
use Rattle.c_typing_laws.proofs.FileKeeps.{head_scalar, body_scalar, outer_scalar}
use Rattle.c_typing_laws.proofs.Linking.{OfFunction, AreLinked, IsLinking, function_linked, linking_kept}
use Rattle.c_typing_laws.proofs.Keeps.{items_keep, decl_keeps}
use Rattle.c_typing_laws.proofs.Reached.{good_by, head_facts, outer_reach}
use Rattle.c_typing_laws.proofs.Covers.{Covers, named_is}

-- where a body follows, and is not there yet, there are no parameters yet
abbrev pub IsPending : List (List ℕ) → TFunctionTree → Type 0
IsPending names f = has_name names f.name ≡ true → f.body ≡ None → f.params ≡ []

-- between declarations of the file
pub record AtFile (names : List (List ℕ)) (w : World) : Type 0 where
  pub balance : (o : ℕ) → count o (flat_map listed_by w.functions) ≡ auto w.objects o
  pub bodies : All (λ f. IfSome f.body HasItsLabels) w.functions
  pub pending : All (IsPending names) w.functions

-- ---- declarations

bare_lists : (names : List (List ℕ)) (new : List TFunctionTree) (o : ℕ) → All (IsDeclared names) new → count o (flat_map listed_by new) ≡ count o (params_in new)
bare_lists names [] o all = refl
bare_lists names (f ∷ rest) o all =
    let bare = (All-head (IsDeclared names) f rest all).bare in
    let one : listed_by f ≡ f.params = ap (λ b. f.params ++ unwrap_or (option_map listed_of b) []) bare ∙ append-nil f.params in
    let more = bare_lists names rest o (All-tail (IsDeclared names) f rest all) in
    let a = count_append o (listed_by f) (flat_map listed_by rest) in
    let b = count_append o f.params (params_in rest) in
    let c = ap (count o) one in
    omega (arith, more, a, b, c)

bare_labels : (names : List (List ℕ)) (f : TFunctionTree) → IsDeclared names f → IfSome f.body HasItsLabels
bare_labels names f d = subst (λ b. IfSome b HasItsLabels) (sym d.bare) tt

pub after_grows : {names : List (List ℕ)} {w v : World} → AtFile names w → Grows names w v no_lists → AtFile names v
after_grows {names} {w} {v} at g = record {
  balance = λ o.
      let a = at.balance o in
      let b = g.balance o in
      let c = ap (λ fs. count o (flat_map listed_by fs)) g.functions ∙ ap (count o) (flat_map-append listed_by w.functions g.new)
      ∙ count_append o (flat_map listed_by w.functions) (flat_map listed_by g.new) in
      let d = bare_lists names g.new o g.declared in
      omega (arith, a, b, c, d);
  bodies = subst (All (λ f. IfSome f.body HasItsLabels)) (sym g.functions)
      (All-append (λ f. IfSome f.body HasItsLabels) w.functions g.new at.bodies
      (All-weaker (IsDeclared names) (λ f. IfSome f.body HasItsLabels) (λ f d. bare_labels names f d) g.new g.declared));
  pending = subst (All (IsPending names)) (sym g.functions)
      (All-append (IsPending names) w.functions g.new at.pending
      (All-weaker (IsDeclared names) (IsPending names) (λ f d h b. d.pending h) g.new g.declared));
}

-- a declaration of the file lists nothing
no_name :
    {around : Context} {w v : World} {storage : List StorageWord} {steps : List Step} {base : Form} {has_init : Bool} {named : DeclaredName} {what : Declares}
    → around.in_block ≡ false → MakesName around w storage steps base has_init named what v → number_of what ≡ []
no_name b (type_name form d e) = refl
no_name b (reserved y) = refl
no_name b (first_function types result r e n) = refl
no_name b (function_again types result l n so) = refl
no_name b (local ty c s size inside e h) = absurd (false≢true (sym b ∙ inside))
no_name b (local_open of c s inside e h) = absurd (false≢true (sym b ∙ inside))
no_name b (first_object form ty c m size total r e is n h s) = ap (λ x. if x then [] else []) b
no_name b (first_missing ty c total r n h) = refl
no_name b (object_again form ty c m l n size total e is k q a s) = ap (λ x. if x then [] else []) b
no_name b (missing_again ty before c l size total d k q) = refl

pub nothing_listed :
    {around : Context} {first : Pos} {storage : List StorageWord} {base : Form} {w v : World} {done made : Made} {items : List InitDeclaratorTree}
    → around.in_block ≡ false → done.objects ≡ [] → MakesDeclarators around first storage base w done items made v → made.objects ≡ []
nothing_listed b d steps.none = d
nothing_listed b d (one_more {done = done} {made = made} t e n m r) = nothing_listed b (ap (λ l. l ++ made.objects) d ∙ init_objects m ∙ no_name b n) r

pub decl_at : {w v : World} {around : Context} {decl : DeclTree} {made : Made} → around.in_block ≡ false → Good w → AtFile around.functions w → MakesDecl w around decl made v → AtFile around.functions v
decl_at {around = around} b good at d =
    let g = decl_grows good d in
    let none = nothing_listed b refl d.rest in
    after_grows at (record { new = g.new; functions = g.functions; declared = g.declared; balance = λ o. let a = g.balance o in let e = ap (count o) none in omega (arith, a, e) })

-- ---- one function changes

set_lists :
    (xs : List TFunctionTree) (n : ℕ) (f g : TFunctionTree) (o : ℕ) → slice_get xs n ≡ Some f
    → count o (flat_map listed_by (set xs n g)) + count o (listed_by f) ≡ count o (flat_map listed_by xs) + count o (listed_by g)
set_lists [] n f g o e = no_some f e
set_lists (x ∷ xs) zero f g o e =
    let a = count_append o (listed_by g) (flat_map listed_by xs) in
    let b = count_append o (listed_by x) (flat_map listed_by xs) in
    let c = ap (λ y. count o (listed_by y)) (same_Some x f e) in
    omega (arith, a, b, c)
set_lists (x ∷ xs) (suc n) f g o e =
    let a = count_append o (listed_by x) (flat_map listed_by (set xs n g)) in
    let b = count_append o (listed_by x) (flat_map listed_by xs) in
    let c = set_lists xs n f g o e in
    omega (arith, a, b, c)

-- the function of this number
pub changed_at : (fs : List TFunctionTree) (n : ℕ) (f : TFunctionTree) (change : TFunctionTree → TFunctionTree) → slice_get fs n ≡ Some f
    → unwrap_or (option_map (λ g. set fs n (change g)) (slice_get fs n)) fs ≡ set fs n (change f)
changed_at fs n f change e = ap (λ o. unwrap_or (option_map (λ g. set fs n (change g)) o) fs) e

each_function : (P : TFunctionTree → Type 0) (fs : List TFunctionTree) (n : ℕ) (f : TFunctionTree) → All P fs → slice_get fs n ≡ Some f → P f
each_function P [] n f all e = no_some f e
each_function P (x ∷ rest) zero f all e = subst P (same_Some x f e) (All-head P x rest all)
each_function P (x ∷ rest) (suc n) f all e = each_function P rest n f (All-tail P x rest all) e

-- ---- the head of a definition

-- the function stands in the program, by the name, without parameters and body
pub record IsThere (named : DeclaredName) (v : World) (n : ℕ) : Type 0 where
  pub function : TFunctionTree
  pub there : slice_get v.functions n ≡ Some function
  pub name : function.name ≡ named.name
  pub bare : function.body ≡ None
  pub params : function.params ≡ []

pub found_name : (xs : List Linked) (name : List ℕ) (l : Linked) → find (λ k. bytes_eq k.name name) xs ≡ Some l → l.name ≡ name
found_name [] name l e = no_some l e
found_name (x ∷ xs) name l e = by (bytes_eq x.name name) refl e (found_name xs name l)
  where
    by : (b : Bool) → bytes_eq x.name name ≡ b → (if b then Some x else find (λ k. bytes_eq k.name name) xs) ≡ Some l → (find (λ k. bytes_eq k.name name) xs ≡ Some l → l.name ≡ name) → l.name ≡ name
    by true t r again = subst (λ y. y.name ≡ name) (same_Some x l r) ((bytes_eq-Decides x.name name).0 t)
    by false t r again = again r

found_linked : (functions : List TFunctionTree) (xs : List Linked) (name : List ℕ) (l : Linked) → AreLinked functions xs → find (λ k. bytes_eq k.name name) xs ≡ Some l → OfFunction functions l.name l.meaning
found_linked functions xs name l all e = found_each (λ k. OfFunction functions k.name k.meaning) (λ k. bytes_eq k.name name) xs l all e

no_body : (w : World) (n : ℕ) (f : TFunctionTree) → slice_get w.functions n ≡ Some f → has_body_before w n ≡ false → f.body ≡ None
no_body w n f e h = by f.body (ap (λ o. is_some (option_and_then (λ g. g.body) o)) (sym e) ∙ h)
  where
    by : (b : Option TStmtTree) → is_some b ≡ false → b ≡ None
    by None h = refl
    by (Some s) h = absurd (false≢true (sym h))

bodiless : (has : Bool) → not (true && has) ≡ true → has ≡ false
bodiless true h = absurd (false≢true h)
bodiless false h = refl

known_there :
    (names : List (List ℕ)) (w : World) (named : DeclaredName) (types : List CTypeTree) (result : CTypeTree) (l : Linked) (m : Meaning) → AtFile names w → has_name names named.name ≡ true
    → l.name ≡ named.name → OfFunction w.functions l.name m → is_function_so w types result true m ≡ true → IsThere named (with_name w named.pos named.name l.meaning) (decls.number_of m)
known_there names w named types result l (Object n) at h e of so = absurd (false≢true so)
known_there names w named types result l (Missing ty c) at h e of so = absurd (false≢true so)
known_there names w named types result l (Parameter k ty c) at h e of so = absurd (false≢true so)
known_there names w named types result l (Function n) at h e of so = by (slice_get w.functions n) refl of
  where
    bare : has_body_before w n ≡ false
    bare = bodiless (has_body_before w n) (and_parts
        (are_same types (unwrap_or (slice_get w.signatures n) []) && is_same result (unwrap_or (option_map (λ f. f.result) (slice_get w.functions n)) Void))
        (not (true && has_body_before w n)) so).1

    by : (o : Option TFunctionTree) → slice_get w.functions n ≡ o → IsSomeAnd o (λ f. f.name ≡ l.name) → IsThere named (with_name w named.pos named.name l.meaning) n
    by None q h2 = absurd h2
    by (Some f) q h2 =
        let name = h2 ∙ e in
        let none = no_body w n f q bare in record {
          function = f;
          there = q;
          name = name;
          bare = none;
          params = each_function (IsPending names) w.functions n f at.pending q (ap (has_name names) name ∙ h) none;
        }
known_there names w named types result l (TypeName form) at h e of so = absurd (false≢true so)
known_there names w named types result l (Enumeration n) at h e of so = absurd (false≢true so)

-- the program behind the declaration that a definition is, and its function
pub record HeadIs (names : List (List ℕ)) (named : DeclaredName) (v : World) (n : ℕ) : Type 0 where
  pub at : AtFile names v
  pub linking : IsLinking v
  pub there : IsThere named v n

one_bare : (o : ℕ) (named : DeclaredName) (result : CTypeTree) (fs : List TFunctionTree) → count o (flat_map listed_by (fs ++ function_tree named [] result ∷ [])) ≡ count o (flat_map listed_by fs)
one_bare o named result fs =
    let a = ap (count o) (flat_map-append listed_by fs (function_tree named [] result ∷ [])) ∙ count_append o (flat_map listed_by fs) [] in omega (arith, a)

new_at : (names : List (List ℕ)) (w : World) (named : DeclaredName) (later : Bool) (params : List ParameterTree) (types : List CTypeTree) (result : CTypeTree) → has_name names named.name ≡ true → later ≡ true
    → AtFile names w → IsLinking w → HeadIs names named (decls.new_function w named later params types result) (length w.functions)
new_at names w named true params types result h e at all = record {
  at = record {
    balance = λ o. one_bare o named result w.functions ∙ at.balance o;
    bodies = All-append (λ f. IfSome f.body HasItsLabels) w.functions _ at.bodies (All-cons (λ f. IfSome f.body HasItsLabels) _ [] tt (All-nil (λ f. IfSome f.body HasItsLabels)));
    pending = All-append (IsPending names) w.functions _ at.pending (All-cons (IsPending names) _ [] (λ n b. refl) (All-nil (IsPending names)));
  };
  linking = function_linked w named true params types result all;
  there = record { function = function_tree named [] result; there = get_last w.functions (function_tree named [] result); name = refl; bare = refl; params = refl };
}
new_at names w named false params types result h e at all = absurd (false≢true e)

same_at : (names : List (List ℕ)) (w v : World) → v.functions ≡ w.functions → v.objects ≡ w.objects → AtFile names w → AtFile names v
same_at names w v f o at = record {
  balance = λ k. ap (λ fs. count k (flat_map listed_by fs)) f ∙ at.balance k ∙ ap (λ objects. auto objects k) (sym o);
  bodies = subst (All (λ x. IfSome x.body HasItsLabels)) (sym f) at.bodies;
  pending = subst (All (IsPending names)) (sym f) at.pending;
}

pub head_is :
    {around : Context} {w v : World} {named : DeclaredName} {params : List ParameterTree} {types : List CTypeTree} {result : CTypeTree} {n : ℕ}
    → has_name around.functions named.name ≡ true → AtFile around.functions w → IsLinking w → MakesFunction around w named params types result true (Some n) v → HeadIs around.functions named v n
head_is {around = around} {w = w} {named = named} {params = params} {types = types} {result = result} h at all (new_name r e) =
    new_at around.functions w named (has_name around.functions named.name) params types result h h at all
head_is {around = around} {w = w} {named = named} {types = types} {result = result} h at all (known_name l e so) =
    record {
      at = same_at around.functions w _ refl refl at;
      linking = all;
      there = known_there around.functions w named types result l l.meaning at h (found_name w.linked named.name l e) (found_linked w.functions w.linked named.name l all e) so;
    }

-- ---- the body of a definition, and its end

pub below : (xs : List TFunctionTree) (n : ℕ) (f : TFunctionTree) → slice_get xs n ≡ Some f → n < length xs
below [] n f e = no_some f e
below (x ∷ xs) zero f e = omega arith
below (x ∷ xs) (suc n) f e = let h = below xs n f e in omega arith

-- the functions behind the body: the one changed, and others behind
pub ended_functions :
    (fs new : List TFunctionTree) (n : ℕ) (f g : TFunctionTree) (change : TFunctionTree → TFunctionTree) → slice_get fs n ≡ Some f
    → unwrap_or (option_map (λ x. set (set fs n g ++ new) n (change x)) (slice_get (set fs n g ++ new) n)) (set fs n g ++ new) ≡ set fs n (change g) ++ new
ended_functions fs new n f g change e =
    let there = get_append (set fs n g) new n g (get_set fs n f g e) in
    changed_at (set fs n g ++ new) n g change there
    ∙ set-append_left (set fs n g) new n (change g) (subst (λ k. n < k) (sym (length-set fs n g)) (below fs n f e)) ∙ ap (λ l. l ++ new) (set-set fs n g (change g))

set_linked : (xs : List TFunctionTree) (n : ℕ) (f g : TFunctionTree) (name : List ℕ) (k : ℕ) → slice_get xs n ≡ Some f → g.name ≡ f.name → IsSomeAnd (slice_get xs k) (λ x. x.name ≡ name)
    → IsSomeAnd (slice_get (set xs n g) k) (λ x. x.name ≡ name)
set_linked [] n f g name k e s h = no_some f e
set_linked (x ∷ xs) zero f g name zero e s h = s ∙ ap (λ y. y.name) (sym (same_Some x f e)) ∙ h
set_linked (x ∷ xs) zero f g name (suc k) e s h = h
set_linked (x ∷ xs) (suc n) f g name zero e s h = h
set_linked (x ∷ xs) (suc n) f g name (suc k) e s h = set_linked xs n f g name k e s h

of_set : (xs : List TFunctionTree) (n : ℕ) (f g : TFunctionTree) (name : List ℕ) (m : Meaning) → slice_get xs n ≡ Some f → g.name ≡ f.name → OfFunction xs name m → OfFunction (set xs n g) name m
of_set xs n f g name (Object k) e s h = h
of_set xs n f g name (Missing ty c) e s h = h
of_set xs n f g name (Parameter k ty c) e s h = h
of_set xs n f g name (Function k) e s h = set_linked xs n f g name k e s h
of_set xs n f g name (TypeName form) e s h = h
of_set xs n f g name (Enumeration k) e s h = h

linked_set : (xs : List TFunctionTree) (n : ℕ) (f g : TFunctionTree) (linked : List Linked) → slice_get xs n ≡ Some f → g.name ≡ f.name → AreLinked xs linked → AreLinked (set xs n g) linked
linked_set xs n f g linked e s all =
    All-weaker (λ l. OfFunction xs l.name l.meaning) (λ l. OfFunction (set xs n g) l.name l.meaning) (λ l h. of_set xs n f g l.name l.meaning e s h) linked all

-- what stands behind a definition
pub record EndsSo (names : List (List ℕ)) (v : World) : Type 0 where
  pub at : AtFile names v
  pub linking : IsLinking v

-- one function has its parameters and its body, and others are declared behind it
function_ends :
    {names : List (List ℕ)} (v z : World) (n : ℕ) (f g : TFunctionTree) (new : List TFunctionTree) → AtFile names v → slice_get v.functions n ≡ Some f → f.params ≡ [] → f.body ≡ None
    → z.functions ≡ set v.functions n g ++ new → All (IsDeclared names) new
    → ((o : ℕ) → auto z.objects o ≡ auto v.objects o + count o (listed_by g) + count o (params_in new))
    → IfSome g.body HasItsLabels → IsPending names g → AtFile names z
function_ends {names} v z n f g new at there params bare ends declared grows labels pending = record {
  balance = λ o.
      let a = set_lists v.functions n f g o there in
      let b = at.balance o in
      let c = grows o in
      let d = ap (λ fs. count o (flat_map listed_by fs)) ends ∙ ap (count o) (flat_map-append listed_by (set v.functions n g) new)
      ∙ count_append o (flat_map listed_by (set v.functions n g)) (flat_map listed_by new) in
      let e = bare_lists names new o declared in
      let k = ap (λ xs. count o (xs ++ unwrap_or (option_map listed_of f.body) [])) params ∙ ap (λ x. count o (unwrap_or (option_map listed_of x) [])) bare in
      omega (arith, a, b, c, d, e, k);
  bodies = subst (All (λ x. IfSome x.body HasItsLabels)) (sym ends)
      (All-append (λ x. IfSome x.body HasItsLabels) (set v.functions n g) new (All-set (λ x. IfSome x.body HasItsLabels) v.functions n g labels at.bodies)
      (All-weaker (IsDeclared names) (λ x. IfSome x.body HasItsLabels) (λ x d. bare_labels names x d) new declared));
  pending = subst (All (IsPending names)) (sym ends)
      (All-append (IsPending names) (set v.functions n g) new (All-set (IsPending names) v.functions n g pending at.pending)
      (All-weaker (IsDeclared names) (IsPending names) (λ x d name none. d.pending name) new declared));
}

block_has :
    {first last count limit : ℕ} (brace : Pos) (objects : List ℕ) (items : TStmtTrees) → first ≡ 0 → count ≡ limit → Jumps first last count limit items
    → HasItsLabels (Block brace kinds.Written objects items)
unfolding labels_of labels_in gotos_of gotos_in
block_has brace objects items e f j = let b = body_jumps e f j in record { distinct = b.0; there = b.1 }

block_count : (brace : Pos) (objects : List ℕ) (items : TStmtTrees) (o : ℕ) → count o (listed_of (Block brace kinds.Written objects items)) ≡ count o objects + count o (listed_in items)
unfolding listed_of listed_in
block_count brace objects items o = count_append o objects (listed_in items)

nothing_count : (o : ℕ) → count o (listed_in nothing_made.items) ≡ 0
unfolding listed_of listed_in
nothing_count o = refl

-- with the parameters, and the function that has them
abbrev pub outside_of : World → ℕ → List ParameterTree → ℕ → DeclaredName → World
outside_of v total params n named =
    with_function_at (record v { objects = v.objects ++ map (parameter_object v) params; total = total }) n (defined_function named (numbers_from (length v.objects) (length params)))

-- the parts of a definition: behind its declaration, in its body and behind it
pub body_ends :
    (around : Context) (named : DeclaredName) (result : CTypeTree) (n total first : ℕ) (bindings : List Binding) (tags : List TagBinding) (params : List ParameterTree) (body : BlockItemTrees) (made : Made)
    (brace : Pos) (v z : World) → HeadIs around.functions named v n → Good (in_body (outside_of v total params n named) first bindings tags)
    → ScalarNames (in_body (outside_of v total params n named) first bindings tags)
    → MakesItems (in_body (outside_of v total params n named) first bindings tags) (in_function result body around) nothing_made body made z
    → EndsSo around.functions (definition_ends (record { number = n; result = result; outside = outside_of v total params n named }) brace made z)
body_ends around named result n total first bindings tags params body made brace v z h good scalar i =
    let numbers = numbers_from (length v.objects) (length params) in
    let block = Block brace kinds.Written made.objects made.items in
    let f = h.there.function in
    let g1 : TFunctionTree = defined_function named numbers f in
    let g2 : TFunctionTree = with_body block g1 in
    let set_at : (outside_of v total params n named).functions ≡ set v.functions n g1 = changed_at v.functions n f (defined_function named numbers) h.there.there in
    let rest = items_grow good i in
    let g = rest.grows in
    let z_is : z.functions ≡ set v.functions n g1 ++ g.new = g.functions ∙ ap (λ fs. fs ++ g.new) set_at in
    let there : slice_get z.functions n ≡ Some g1 = ap (λ fs. slice_get fs n) z_is ∙ get_append (set v.functions n g1) g.new n g1 (get_set v.functions n f g1 h.there.there) in
    let last : unwrap_or (option_map (λ x. set z.functions n (with_body block x)) (slice_get z.functions n)) z.functions ≡ set v.functions n g2 ++ g.new =
    ap (λ fs. unwrap_or (option_map (λ x. set fs n (with_body block x)) (slice_get fs n)) fs) z_is ∙ ended_functions v.functions g.new n f g1 (with_body block) h.there.there in
    let linked = (items_keep (linking_kept around.functions around.objects) refl refl good i
    (record { names = scalar; has = subst (λ fs. AreLinked fs v.linked) (sym set_at) (linked_set v.functions n f g1 v.linked h.there.there refl h.linking) })).has in
    let jumps = items_jumps good i in record {
      at = function_ends v _ n f g2 g.new h.at h.there.there h.there.params h.there.bare last g.declared
          (λ o.
          let a = g.balance o in
          let b = auto_parameters v params v.objects o in
          let c = rest.more o in
          let d = nothing_count o in
          let e = count_append o numbers (listed_of block) in
          let k = block_count brace made.objects made.items o in
          omega (arith, a, b, c, d, e, k))
          (block_has brace made.objects made.items refl refl (block_jumps jumps)) (λ name none. absurd (none-some block (sym none)));
      linking = subst (λ fs. AreLinked fs z.linked) (sym (changed_at z.functions n g1 (with_body block) there)) (linked_set z.functions n g1 g2 z.linked there refl linked);
    }

definition_at :
    {around : Context} {x y z : World} {steps : List Step} {base : Form} {named : DeclaredName} {begun : Begun} {body : BlockItemTrees} {made : Made} (brace : Pos)
    → Good y → ScalarNames y → AtFile around.functions x → IsLinking x → has_name around.functions named.name ≡ true → MakesHead around x steps base named begun y
    → MakesItems y (in_function begun.result body around) nothing_made body made z → EndsSo around.functions (definition_ends begun brace made z)
definition_at {around} {x} {y} {z} {steps} {base} {named} {begun} {body} {made} brace good scalar at all h
    (head {params = params} {names = bindings} {tags = tags} {result = result} {n = n} {v = v} s e f (counted {total = total})) i =
    body_ends around named result n total (length v.objects) bindings tags params body made brace v z (head_is h at all f) good scalar i

-- ---- the file

pub outer_at :
    {w v : World} {around : Context} {tree : OuterTree} → around.in_block ≡ false → All (λ name. has_name around.functions name ≡ true) (functions_defined_by tree) → Good w → ScalarNames w
    → AtFile around.functions w → IsLinking w → MakesOuter w around tree v → EndsSo around.functions v
outer_at {around = around} b covers good scalar at all (outers.declares d) =
    record { at = decl_at b good at d; linking = (decl_keeps (linking_kept around.functions around.objects) refl refl good d (record { names = scalar; has = all })).has }
outer_at {w = w} {around = around} b covers good scalar at all (outers.defines {brace = brace} {declarator = declarator} {shape = shape} {named = named} {u = u} {x = x} t n h i) =
    let facts = head_facts good t in
    let k = linking_kept around.functions around.objects in
    let name : name_in declarator ≡ Some named.name = sym (named_is u x declarator shape t.declarator_is) ∙ ap (option_map (λ m. m.name)) n in
    let scalars = head_scalar good scalar t in
    definition_at brace facts.scope (body_scalar scalars.names scalars.steps h)
    (after_grows at (grows_as (λ o. omega arith) (grows_then (grows_calm around.functions w u facts.calm) (grows_calm around.functions u x facts.behind))))
    (k.calm u x facts.good facts.behind (k.calm w u good facts.calm all))
    (All-head (λ m. has_name around.functions m ≡ true) named.name [] (subst (λ o. All (λ m. has_name around.functions m ≡ true) (to_names o)) name covers)) h i

pub outers_at :
    {around : Context} {w v : World} {list : List OuterTree} → around.in_block ≡ false → Covers around.functions list → Good w → ScalarNames w
    → AtFile around.functions w → IsLinking w → MakesOuters around w list v → EndsSo around.functions v
outers_at b covers good scalar at all no_more = record { at = at; linking = all }
outers_at b covers good scalar at all (and_then p q) =
    let one = outer_at b covers.0 good scalar at all p in outers_at b covers.1 (good_by good (outer_reach good p)) (outer_scalar good scalar p) one.at one.linking q
