-- The functions of a file have parameters of the types that they are called with.
use Rattle.std.proofs.Common.{◌≡◌, ℕ, ◌+◌, true, false, List, [], ◌∷◌, ◌++◌, length, refl, ap, sym, subst, ◌∙◌, inl, inr, ⊎_elim}
use Rattle.std.specs.Prelude.{◌⊎◌, Bool, ◌&&◌, ◌==◌, if◌then◌else◌, is_some, Option, None, Some, option_map, unwrap_or, All, find, flat_map, map, set, slice_get, bytes_eq}
use Rattle.std.proofs.lemmas.Bool.{false≢true, and_parts, eqb-true, eqb-false}
use Rattle.std.proofs.lemmas.Option.{same_Some, none-some}
use Rattle.std.proofs.lemmas.List.{append-nil, append_assoc, length_push, length-set}
use Rattle.std.proofs.lemmas.List.Elements.{All-nil, All-cons, All-append, All-weaker}
use Rattle.c_syntax_written.specs.declared.place.Pos.{Pos}
use Rattle.c_syntax_written.specs.declared.written.StorageWord.{StorageWord}
use Rattle.c_syntax_written.specs.WrittenFile.{OuterTree}
use Rattle.c_syntax.specs.Types.{CTypeTree, Void}
use Rattle.c_syntax.specs.declared.statement.BlockKind.TheVariants as kinds
use Rattle.c_syntax.specs.TypedStmt.{Block}
use Rattle.c_syntax.specs.Program.{TFunctionTree}
use Rattle.c_layout.specs.RowTypes.{IsScalar}
use Rattle.c_typing.specs.World.{World, Form, Callable, Typed, Binding, TagBinding, Meaning, Object, Missing, Parameter, Function, TypeName, Enumeration, Linked}
use Rattle.c_typing.specs.Names.{closed, with_name}
use Rattle.c_typing.specs.Nodes.{params_of}
use Rattle.c_typing.specs.SameTypes.{is_same, are_same}
use Rattle.c_typing.specs.Declarators.{DeclaredName, ParameterTree, Step, laid, types_of_params}
use Rattle.c_typing.specs.Context.{Context, has_name, functions_defined_by, to_names, name_in}
use Rattle.c_typing.specs.Decls.{Declares, Made, new_function, parameter_object, numbers_from, number_of, is_function_so, file_object_of, defined_if, missing_if}
use Rattle.c_typing.specs.Laws.{IsSameObject, IsSameFunction}
use Rattle.c_typing.specs.File.{Begun, in_body, with_object_meaning, with_function_at, defined_function, with_body, definition_ends, nothing_yet}
use Rattle.c_typing.proofs.Changes.{Constants}
use Rattle.c_typing.proofs.FormsGo.{found_each}
use Rattle.c_typing.proofs.Good.{Good}
use Rattle.c_typing.proofs.MadeTables.{get_append, get_last, get_set, get_other}
use Rattle.c_typing.proofs.Reaches as reaches
use Rattle.c_typing.proofs.Reaches.{Reaches, quiet}
use Rattle.c_typing.proofs.Same.{one_type}
use Rattle.c_typing_laws.specs.NameSteps.{MakesFunction, new_name, known_name, MakesName, type_name, reserved, first_function, function_again, local, local_open, first_object, first_missing, object_again, missing_again}
use Rattle.c_typing_laws.specs.FileSteps as outers
use Rattle.c_typing_laws.specs.FileSteps.{counted, MakesHead, head, MakesOuter, MakesOuters, no_more, and_then}
use Rattle.c_typing_laws.proofs.Calm.{calm}
use Rattle.c_typing_laws.proofs.Reached.{good_by, head_facts, outer_reach}
use Rattle.c_typing_laws.proofs.Scalars.{AreScalarSteps, ScalarNames}
use Rattle.c_typing_laws.proofs.Keeps.{IsKept, the_same, decl_keeps, items_keep}
use Rattle.c_typing_laws.proofs.FileKeeps.{head_scalar, body_scalar, outer_scalar}
use Rattle.c_typing_laws.proofs.Entries.{own_bytes, found_more, found_last, found_mapped, name_if, has_in, set_or}
use Rattle.c_typing_laws.proofs.Covers.{named_is}
use Rattle.c_typing_laws.proofs.FileLists.{changed_at}
use Rattle.c_typing_laws.proofs.Params.{HasScalar, numbers_scalar, given_scalar}
use Rattle.c_typing_laws.proofs.Onward.{Onward, onward, ArePaired, paired, keep_same, keep_more, keep_change, same_object, same_function}
use Rattle.c_typing_laws.proofs.Entities.{IsEntity, AreEntities, entities_kept, init_linked, new_links, same_links}
use Rattle.c_typing_laws.proofs.Signatures.{type_in, IsMatched, AreMatched, Waits, Signed, matched_onward, laid_types, numbers_types, new_are, matched_still, same_waits, moved_matched, moved_signed, calm_signed, signed_kept, init_functions}

-- ---- functions that are defined

-- the name has an entity, and where that is a function, its parameters have the types that it is called with
pub record IsDone (w : World) (name : List ℕ) : Type 0 where
  pub entry : Linked
  pub there : find (λ l. bytes_eq l.name name) w.linked ≡ Some entry
  pub done : (n : ℕ) → entry.meaning ≡ Function n → IsMatched w n

pub record AreDone (names : List (List ℕ)) (w : World) : Type 0 where
  pub pair : ArePaired w
  pub all : All (IsDone w) names

abbrev Matching : World → World → Type 0
Matching w v = (n : ℕ) → IsMatched w n → IsMatched v n

matching_by : (w v : World) → Onward w v → ArePaired w → ((n : ℕ) (f : TFunctionTree) → slice_get w.functions n ≡ Some f → slice_get v.functions n ≡ Some f) → Matching w v
matching_by w v on pair keep n m = matched_onward w v on pair n m m.function (keep n m.function m.there) refl

done_same : (names : List (List ℕ)) (w v : World) → v.linked ≡ w.linked → Matching w v → All (IsDone w) names → All (IsDone v) names
done_same names w v e f all =
    All-weaker (IsDone w) (IsDone v) (λ name d. record { entry = d.entry; there = ap (find (λ l. bytes_eq l.name name)) e ∙ d.there; done = λ n m. f n (d.done n m) }) names all

done_more : (names : List (List ℕ)) (w v : World) (ys : List Linked) → v.linked ≡ w.linked ++ ys → Matching w v → All (IsDone w) names → All (IsDone v) names
done_more names w v ys e f all =
    All-weaker (IsDone w) (IsDone v) (λ name d. record {
      entry = d.entry;
      there = ap (find (λ l. bytes_eq l.name name)) e ∙ found_more (λ l. bytes_eq l.name name) w.linked ys d.entry d.there;
      done = λ n m. f n (d.done n m);
    }) names all

done_mapped :
    (names : List (List ℕ)) (w v : World) (change : Linked → Linked) → v.linked ≡ map change w.linked → ((l : Linked) → (change l).name ≡ l.name)
    → ((l : Linked) (n : ℕ) → (change l).meaning ≡ Function n → l.meaning ≡ Function n) → Matching w v → All (IsDone w) names → All (IsDone v) names
done_mapped names w v change e same back f all =
    All-weaker (IsDone w) (IsDone v) (λ name d. record {
      entry = change d.entry;
      there = ap (find (λ l. bytes_eq l.name name)) e ∙ found_mapped change same name w.linked ∙ ap (option_map change) d.there;
      done = λ n m. f n (d.done n (back d.entry n m));
    }) names all

defined_back : (now : Bool) (name : List ℕ) (l : Linked) (n : ℕ) → (defined_if now name l).meaning ≡ Function n → l.meaning ≡ Function n
defined_back now name l n e = by (now && bytes_eq l.name name) e
  where
    by : (b : Bool) → (if b then record l { defined = true } else l).meaning ≡ Function n → l.meaning ≡ Function n
    by true h = h
    by false h = h

missing_back : (name : List ℕ) (ty : CTypeTree) (c : Bool) (l : Linked) (n : ℕ) → (missing_if name ty c l).meaning ≡ Function n → l.meaning ≡ Function n
missing_back name ty c l n e = by (bytes_eq l.name name) e
  where
    no_function : Missing ty c ≡ Function n → ⊥
    no_function h = cc

    by : (b : Bool) → (if b then record l { meaning = Missing ty c } else l).meaning ≡ Function n → l.meaning ≡ Function n
    by true h = absurd (no_function h)
    by false h = h

same_get : (w v : World) → v.functions ≡ w.functions → (n : ℕ) (f : TFunctionTree) → slice_get w.functions n ≡ Some f → slice_get v.functions n ≡ Some f
same_get w v e n f h = ap (λ l. slice_get l n) e ∙ h

new_done :
    (names : List (List ℕ)) (w : World) (named : DeclaredName) (later : Bool) (list : List ParameterTree) (types : List CTypeTree) (result : CTypeTree) → Onward w (new_function w named later list types result) → ArePaired w
    → All (IsDone w) names → All (IsDone (new_function w named later list types result)) names
new_done names w named true list types result on pair all =
    let v = new_function w named true list types result in done_more names w v _ refl (matching_by w v on pair (λ n f e. get_append w.functions _ n f e)) all
new_done names w named false list types result on pair all =
    let v = new_function w named false list types result in done_more names w v _ refl (matching_by w v on pair (λ n f e. get_append w.functions _ n f e)) all

name_done :
    (names : List (List ℕ)) {around : Context} {w v : World} {storage : List StorageWord} {steps : List Step} {base : Form} {has_init : Bool} {named : DeclaredName} {what : Declares}
    → MakesName around w storage steps base has_init named what v → Onward w v → ArePaired w → All (IsDone w) names → All (IsDone v) names
name_done names {w = w} {v = v} (type_name form d e) on pair all = done_same names w v refl (matching_by w v on pair (same_get w v refl)) all
name_done names {w = w} {v = v} (reserved y) on pair all = all
name_done names {around = around} {w = w} {named = named} (first_function types result r e n) on pair all = new_done names w named (has_name around.functions named.name) _ types result on pair all
name_done names {w = w} {v = v} (function_again types result l n so) on pair all = done_same names w v refl (matching_by w v on pair (same_get w v refl)) all
name_done names {w = w} {v = v} (local ty c st size i e h) on pair all = done_same names w v refl (matching_by w v on pair (same_get w v refl)) all
name_done names {w = w} {v = v} (local_open of c st i e h) on pair all = done_same names w v refl (matching_by w v on pair (same_get w v refl)) all
name_done names {w = w} {v = v} (first_object form ty c m size total r e is n h z) on pair all = done_more names w v _ refl (matching_by w v on pair (same_get w v refl)) all
name_done names {w = w} {v = v} (first_missing ty c total r n h) on pair all = done_more names w v _ refl (matching_by w v on pair (same_get w v refl)) all
name_done names {around = around} {w = w} {v = v} {storage = storage} {has_init = has_init} {named = named} (object_again form ty c m l n size total e is k q a z) on pair all =
    let now = (file_object_of around storage named.name has_init).defines in
    done_mapped names w v (defined_if now named.name) refl (λ j. name_if (now && bytes_eq j.name named.name) _ j refl) (defined_back now named.name) (matching_by w v on pair (same_get w v refl)) all
name_done names {w = w} {v = v} {named = named} (missing_again ty before c l size total d k q) on pair all =
    let u = record w { linked = map (missing_if named.name ty c) w.linked } in
    done_mapped names u v (defined_if d named.name) refl (λ j. name_if (d && bytes_eq j.name named.name) _ j refl) (defined_back d named.name) (λ i m. matching_by w v on pair (same_get w v refl) i (moved_matched u w refl refl refl i m))
    (done_mapped names w u (missing_if named.name ty c) refl (λ j. name_if (bytes_eq j.name named.name) _ j refl) (missing_back named.name ty c) (moved_matched w u refl refl refl) all)

calm_done : {names : List (List ℕ)} (w v : World) → Reaches Constants w v → AreDone names w → AreDone names v
calm_done {names} w v r p = record {
  pair = paired w v r p.pair;
  all = done_same names w v (calm w v r).linked (matching_by w v (onward w v r) p.pair (same_get w v (quiet Constants w v r).functions)) p.all;
}

done_kept : (names functions objects : List (List ℕ)) → IsKept functions objects (AreDone names)
done_kept names functions objects = record {
  calm = λ w v good r p. calm_done w v r p;
  declared = λ around w v x storage steps base has_init named what init made f o h good s b t z n good2 is m r q p.
      let pair = paired w v r p.pair in record {
        pair = paired v x q pair;
        all = done_same names v x (init_linked good2 m) (matching_by v x (onward v x q) pair (same_get v x (init_functions good2 m))) (name_done names n (onward w v r) p.pair p.all);
      };
  moved = λ w v same p. record {
    pair = ap length same.signatures ∙ p.pair ∙ ap length (sym same.functions);
    all = done_same names w v same.linked (moved_matched w v same.objects same.functions same.signatures) p.all;
  };
}

-- ---- one function changes

changed_matched :
    (w : World) (n : ℕ) (change : TFunctionTree → TFunctionTree) → ((f : TFunctionTree) → (change f).params ≡ f.params) → Matching w (with_function_at w n change)
changed_matched w n change same k m = by (slice_get w.functions n) refl
  where
    there : (g : TFunctionTree) → slice_get w.functions n ≡ Some g → (b : Bool) → (k == n) ≡ b → (h : TFunctionTree) × (slice_get (set w.functions n (change g)) k ≡ Some h) × (h.params ≡ m.function.params)
    there g e true q =
        let at = eqb-true k n q in (
          change g,
          ap (slice_get (set w.functions n (change g))) at ∙ get_set w.functions n g (change g) e,
          same g ∙ ap (λ x. x.params) (same_Some g m.function (sym e ∙ ap (slice_get w.functions) (sym at) ∙ m.there)),
        )
    there g e false q = (m.function, get_other w.functions n k (change g) (eqb-false k n q) ∙ m.there, refl)

    by : (o : Option TFunctionTree) → slice_get w.functions n ≡ o → IsMatched (record w { functions = unwrap_or (option_map (λ f. set w.functions n (change f)) o) w.functions }) k
    by None e = record { function = m.function; there = m.there; types = m.types; scalars = m.scalars }
    by (Some g) e =
        let h = there g e (k == n) refl in
        record { function = h.0; there = h.1; types = m.types ∙ ap (map (type_in w.objects)) (sym h.2); scalars = subst (All (HasScalar w.objects)) (sym h.2) m.scalars }

changed_are : {names : List (List ℕ)} (w : World) (n : ℕ) (change : TFunctionTree → TFunctionTree) → ((f : TFunctionTree) → (change f).params ≡ f.params) → AreMatched names w → AreMatched names (with_function_at w n change)
changed_are {names} w n change same all k f e = by (slice_get w.functions n) refl e
  where
    matching : IsMatched w k → IsMatched (with_function_at w n change) k
    matching m = changed_matched w n change same k m

    was : (g : TFunctionTree) → slice_get w.functions k ≡ Some g → IsMatched (with_function_at w n change) k ⊎ Waits names w.linked k
    was g q = ⊎_elim (λ m. inl (matching m)) (λ i. inr i) (all k g q)

    by : (o : Option TFunctionTree) → slice_get w.functions n ≡ o → slice_get (unwrap_or (option_map (λ x. set w.functions n (change x)) o) w.functions) k ≡ Some f
        → IsMatched (with_function_at w n change) k ⊎ Waits names w.linked k
    by None q h = was f h
    by (Some g) q h = ⊎_elim (λ p. was g (ap (slice_get w.functions) p.0 ∙ q)) (λ p. was f p.0) (set_or w.functions n (change g) k f h)

-- ---- the head of a definition

are_one : (ss ts : List CTypeTree) → are_same ss ts ≡ true → ss ≡ ts
are_one [] [] e = refl
are_one (s ∷ ss) (t ∷ ts) e = let p = and_parts (is_same s t) (are_same ss ts) e in ap (λ x. x ∷ ss) (one_type s t p.0) ∙ ap (λ l. t ∷ l) (are_one ss ts p.1)
are_one [] (t ∷ ts) e = absurd (false≢true e)
are_one (s ∷ ss) [] e = absurd (false≢true e)

-- the function that is defined, behind its declaration
pub record HeadFunction (v : World) (named : DeclaredName) (n : ℕ) (list : List ParameterTree) (result : CTypeTree) : Type 0 where
  pub function : TFunctionTree
  pub there : slice_get v.functions n ≡ Some function
  pub result_is : function.result ≡ result
  pub types : params_of v n ≡ types_of_params list
  pub entry : Linked
  pub found : find (λ l. bytes_eq l.name named.name) v.linked ≡ Some entry
  pub is : entry.meaning ≡ Function n

new_head :
    (w : World) (named : DeclaredName) (later : Bool) (list : List ParameterTree) (types : List CTypeTree) (result : CTypeTree) → find (λ l. bytes_eq l.name named.name) w.linked ≡ None → ArePaired w → types ≡ types_of_params list
    → HeadFunction (new_function w named later list types result) named (length w.functions) list result
new_head w named true list types result e pair same = record {
  function = _;
  there = get_last w.functions _;
  result_is = refl;
  types = ap (λ k. unwrap_or (slice_get (w.signatures ++ types ∷ []) k) []) (sym pair) ∙ ap (λ o. unwrap_or o []) (get_last w.signatures types) ∙ same;
  entry = _;
  found = found_last (λ l. bytes_eq l.name named.name) w.linked _ e (own_bytes named.name);
  is = refl;
}
new_head w named false list types result e pair same = record {
  function = _;
  there = get_last w.functions _;
  result_is = refl;
  types = ap (λ k. unwrap_or (slice_get (w.signatures ++ types ∷ []) k) []) (sym pair) ∙ ap (λ o. unwrap_or o []) (get_last w.signatures types) ∙ same;
  entry = _;
  found = found_last (λ l. bytes_eq l.name named.name) w.linked _ e (own_bytes named.name);
  is = refl;
}

known_head :
    (w v : World) (named : DeclaredName) (list : List ParameterTree) (types : List CTypeTree) (result : CTypeTree) (l : Linked) (m : Meaning) → l.meaning ≡ m → v.functions ≡ w.functions → v.signatures ≡ w.signatures → v.linked ≡ w.linked
    → find (λ j. bytes_eq j.name named.name) w.linked ≡ Some l → IsEntity w m → is_function_so w types result true m ≡ true → types ≡ types_of_params list → HeadFunction v named (number_of m) list result
known_head w v named list types result l (Object n) m f s k e h so same = absurd (false≢true so)
known_head w v named list types result l (Missing ty c) m f s k e h so same = absurd (false≢true so)
known_head w v named list types result l (Parameter i ty c) m f s k e h so same = absurd h
known_head w v named list types result l (Function n) m f s k e h so same = by (slice_get w.functions n) refl h
  where
    by : (o : Option TFunctionTree) → slice_get w.functions n ≡ o → is_some o ≡ true → HeadFunction v named n list result
    by None q t = absurd (false≢true t)
    by (Some g) q t = record {
      function = g;
      there = ap (λ xs. slice_get xs n) f ∙ q;
      result_is = sym (one_type result g.result (subst (λ o. is_same result (unwrap_or (option_map (λ x. x.result) o) Void) ≡ true) q (and_parts _ _ (and_parts _ _ so).0).1));
      types = ap (λ xs. unwrap_or (slice_get xs n) []) s
          ∙ sym (are_one types (unwrap_or (slice_get w.signatures n) []) (and_parts _ _ (and_parts _ _ so).0).0) ∙ same;
      entry = l;
      found = ap (find (λ j. bytes_eq j.name named.name)) k ∙ e;
      is = m;
    }
known_head w v named list types result l (TypeName form) m f s k e h so same = absurd (false≢true so)
known_head w v named list types result l (Enumeration n) m f s k e h so same = absurd (false≢true so)

pub function_head :
    {around : Context} {w v : World} {named : DeclaredName} {list : List ParameterTree} {types : List CTypeTree} {result : CTypeTree} {n : ℕ} → AreEntities w → ArePaired w → types ≡ types_of_params list
    → MakesFunction around w named list types result true (Some n) v → HeadFunction v named n list result
function_head {around = around} {w = w} {named = named} {list = list} {types = types} {result = result} links pair same (new_name r e) =
    new_head w named (has_name around.functions named.name) list types result e pair same
function_head {w = w} {v = v} {named = named} {list = list} {types = types} {result = result} links pair same (known_name l e so) =
    known_head w v named list types result l l.meaning refl refl refl refl e (found_each (λ j. IsEntity w j.meaning) _ w.linked l links e) so same

-- ---- the scope of a body

new_onward : (w : World) (named : DeclaredName) (later : Bool) (list : List ParameterTree) (types : List CTypeTree) (result : CTypeTree) → Onward w (new_function w named later list types result)
new_onward w named true list types result = record {
  objects = keep_same IsSameObject same_object w.objects w.objects refl;
  functions = keep_more IsSameFunction same_function w.functions _ (_ ∷ []) refl;
  signatures = keep_more (λ a b. b ≡ a) (λ a. refl) w.signatures _ (types ∷ []) refl;
  extra = _;
  names = refl;
}
new_onward w named false list types result = record {
  objects = keep_more IsSameObject same_object w.objects _ (map (parameter_object w) list) refl;
  functions = keep_more IsSameFunction same_function w.functions _ (_ ∷ []) refl;
  signatures = keep_more (λ a b. b ≡ a) (λ a. refl) w.signatures _ (types ∷ []) refl;
  extra = _;
  names = refl;
}

known_onward : (w : World) (at : Pos) (name : List ℕ) (m : Meaning) → Onward w (with_name w at name m)
known_onward w at name m = record {
  objects = keep_same IsSameObject same_object w.objects w.objects refl;
  functions = keep_same IsSameFunction same_function w.functions w.functions refl;
  signatures = keep_same (λ a b. b ≡ a) (λ a. refl) w.signatures w.signatures refl;
  extra = _;
  names = refl;
}

pub function_onward : {around : Context} {w v : World} {named : DeclaredName} {list : List ParameterTree} {types : List CTypeTree} {result : CTypeTree} {n : ℕ} → MakesFunction around w named list types result true (Some n) v → Onward w v
function_onward {around = around} {w = w} {named = named} {list = list} {types = types} {result = result} (new_name r e) = new_onward w named (has_name around.functions named.name) list types result
function_onward {w = w} {named = named} (known_name l e so) = known_onward w named.pos named.name l.meaning

abbrev pub change_of : World → DeclaredName → List ParameterTree → TFunctionTree → TFunctionTree
change_of v named list = defined_function named (numbers_from (length v.objects) (length list))

abbrev pub counted_world : World → List ParameterTree → ℕ → World
counted_world v list total = record v { objects = v.objects ++ map (parameter_object v) list; total = total }

abbrev pub outside_of : World → DeclaredName → List ParameterTree → ℕ → ℕ → World
outside_of v named list total n = with_function_at (counted_world v list total) n (change_of v named list)

pub head_onward : (v : World) (named : DeclaredName) (list : List ParameterTree) (total n first : ℕ) (names : List Binding) (tags : List TagBinding) → Onward v (in_body (outside_of v named list total n) first names tags)
head_onward v named list total n first names tags = record {
  objects = keep_more IsSameObject same_object v.objects _ (map (parameter_object v) list) refl;
  functions = keep_change IsSameFunction same_function v.functions n (change_of v named list) (λ f e. record { name = refl; result = refl }) _ refl;
  signatures = keep_same (λ a b. b ≡ a) (λ a. refl) v.signatures v.signatures refl;
  extra = map (with_object_meaning first) names;
  names = refl;
}

-- the function that is defined has its parameters now
defined_matched :
    (v : World) (named : DeclaredName) (list : List ParameterTree) (result : CTypeTree) (total n : ℕ) → (h : HeadFunction v named n list result) → All (λ p. IsScalar p.ty) list → IsMatched (outside_of v named list total n) n
defined_matched v named list result total n h scalars = record {
  function = change_of v named list h.function;
  there = ap (λ l. slice_get l n) (changed_at v.functions n h.function (change_of v named list) h.there) ∙ get_set v.functions n h.function (change_of v named list h.function) h.there;
  types = h.types ∙ sym (numbers_types v list v.objects);
  scalars = numbers_scalar v list v.objects scalars;
}

-- and others have theirs
others_matched :
    (v : World) (named : DeclaredName) (list : List ParameterTree) (result : CTypeTree) (total n : ℕ) → (h : HeadFunction v named n list result) → All (λ p. IsScalar p.ty) list → Matching (counted_world v list total) (outside_of v named list total n)
others_matched v named list result total n h scalars k m = by (k == n) refl
  where
    by : (b : Bool) → (k == n) ≡ b → IsMatched (outside_of v named list total n) k
    by true q = subst (IsMatched (outside_of v named list total n)) (sym (eqb-true k n q)) (defined_matched v named list result total n h scalars)
    by false q = record {
      function = m.function;
      there = ap (λ l. slice_get l k) (changed_at v.functions n h.function (change_of v named list) h.there)
          ∙ get_other v.functions n k (change_of v named list h.function) (eqb-false k n q) ∙ m.there;
      types = m.types;
      scalars = m.scalars;
    }

counted_matching : (v : World) (list : List ParameterTree) (total : ℕ) → ArePaired v → Matching v (counted_world v list total)
counted_matching v list total pair = matching_by v (counted_world v list total) (record {
  objects = keep_more IsSameObject same_object v.objects _ (map (parameter_object v) list) refl;
  functions = keep_same IsSameFunction same_function v.functions v.functions refl;
  signatures = keep_same (λ a b. b ≡ a) (λ a. refl) v.signatures v.signatures refl;
  extra = [];
  names = sym (append-nil v.names);
}) pair (λ k f e. e)

outside_are :
    {names : List (List ℕ)} (v : World) (named : DeclaredName) (list : List ParameterTree) (result : CTypeTree) (total n : ℕ) → (h : HeadFunction v named n list result) → All (λ p. IsScalar p.ty) list → ArePaired v → AreMatched names v
    → AreMatched names (outside_of v named list total n)
outside_are {names} v named list result total n h scalars pair all k f e =
    ⊎_elim (λ p. inl (subst (IsMatched (outside_of v named list total n)) (sym p.0) (defined_matched v named list result total n h scalars)))
    (λ p. ⊎_elim (λ m. inl (others_matched v named list result total n h scalars k (counted_matching v list total pair k m))) (λ i. inr i) (all k f p.0))
    (set_or v.functions n (change_of v named list h.function) k f (ap (λ l. slice_get l k) (sym (changed_at v.functions n h.function (change_of v named list) h.there)) ∙ e))

outside_paired : (v : World) (named : DeclaredName) (list : List ParameterTree) (result : CTypeTree) (total n : ℕ) → (h : HeadFunction v named n list result) → ArePaired v → ArePaired (outside_of v named list total n)
outside_paired v named list result total n h pair =
    pair ∙ sym (length-set v.functions n (change_of v named list h.function)) ∙ ap length (sym (changed_at v.functions n h.function (change_of v named list) h.there))

-- what holds between the declarations of a file, of whose functions these names are defined so far
pub record Between (functions names : List (List ℕ)) (w : World) : Type 0 where
  pub signed : Signed functions w
  pub done : AreDone names w
  pub links : AreEntities w

pub function_links : {around : Context} {w v : World} {named : DeclaredName} {list : List ParameterTree} {types : List CTypeTree} {result : CTypeTree} {n : ℕ} → MakesFunction around w named list types result true (Some n) v → AreEntities w → AreEntities v
function_links {around = around} {w = w} {named = named} {list = list} {types = types} {result = result} (new_name r e) all =
    new_links w named (has_name around.functions named.name) list types result (new_onward w named (has_name around.functions named.name) list types result) all
function_links {w = w} {v = v} {named = named} (known_name l e so) all = same_links w v (known_onward w named.pos named.name l.meaning) refl all

pub function_paired : {around : Context} {w v : World} {named : DeclaredName} {list : List ParameterTree} {types : List CTypeTree} {result : CTypeTree} {n : ℕ} → MakesFunction around w named list types result true (Some n) v → ArePaired w → ArePaired v
function_paired {around = around} {w = w} {named = named} {list = list} {types = types} {result = result} (new_name r e) pair = by (has_name around.functions named.name)
  where
    by : (b : Bool) → ArePaired (new_function w named b list types result)
    by true = length_push w.signatures types ∙ ap (λ n. n + 1) pair ∙ sym (length_push w.functions _)
    by false = length_push w.signatures types ∙ ap (λ n. n + 1) pair ∙ sym (length_push w.functions _)
function_paired (known_name l e so) pair = pair

function_are :
    {around : Context} {w v : World} {named : DeclaredName} {list : List ParameterTree} {types : List CTypeTree} {result : CTypeTree} {n : ℕ} → types ≡ types_of_params list → All (λ p. IsScalar p.ty) list → ArePaired w
    → MakesFunction around w named list types result true (Some n) v → AreMatched around.functions w → AreMatched around.functions v
function_are {around = around} {w = w} {named = named} {list = list} {types = types} {result = result} same scalars pair (new_name r e) all =
    new_are w named (has_name around.functions named.name) list types result e refl same scalars (new_onward w named (has_name around.functions named.name) list types result) pair all
function_are {w = w} {v = v} {named = named} same scalars pair (known_name l e so) all = matched_still w v (known_onward w named.pos named.name l.meaning) pair refl (same_waits w v refl) all

function_done :
    (names : List (List ℕ)) {around : Context} {w v : World} {named : DeclaredName} {list : List ParameterTree} {types : List CTypeTree} {result : CTypeTree} {n : ℕ} → ArePaired w
    → MakesFunction around w named list types result true (Some n) v → All (IsDone w) names → All (IsDone v) names
function_done names {around = around} {w = w} {named = named} {list = list} {types = types} {result = result} pair (new_name r e) all =
    new_done names w named (has_name around.functions named.name) list types result (new_onward w named (has_name around.functions named.name) list types result) pair all
function_done names {w = w} {v = v} {named = named} pair (known_name l e so) all = done_same names w v refl (matching_by w v (known_onward w named.pos named.name l.meaning) pair (same_get w v refl)) all

same_number : (k n : ℕ) → Function k ≡ Function n → k ≡ n
same_number k n e = cc

pub head_between :
    {names : List (List ℕ)} {around : Context} {x y : World} {steps : List Step} {base : Form} {named : DeclaredName} {begun : Begun} → AreScalarSteps steps → MakesHead around x steps base named begun y
    → Between around.functions names x → Between around.functions (names ++ named.name ∷ []) y
head_between {names = done_names} {around = around} {x = x} {y = y} {base = base} {named = named} t (head {params = list} {names = names} {tags = tags} {rest = rest} {types = types} {result = result} {n = n} {v = v} s e f (counted {total = total})) b =
    let scalars = given_scalar list names tags rest (subst AreScalarSteps s t) in
    let same = laid_types x x named.pos list names tags rest base types result (subst (λ l. laid x named.pos l base ≡ Typed (Callable types result) x) s e) in
    let h = function_head b.links b.signed.pair same f in
    let pair = function_paired f b.signed.pair in
    let outside = outside_of v named list total n in
    let signed : Signed around.functions outside = record {
      pair = outside_paired v named list result total n h pair;
      matched = outside_are v named list result total n h scalars pair (function_are same scalars b.signed.pair f b.signed.matched);
    } in
    let matching : Matching v outside = λ k m. others_matched v named list result total n h scalars k (counted_matching v list total pair k m) in
    let before : All (IsDone outside) done_names = done_same done_names v outside refl matching (function_done done_names b.signed.pair f b.done.all) in
    let now : IsDone outside named.name = record {
      entry = h.entry;
      there = h.found;
      done = λ k m. subst (IsMatched outside) (same_number n k (sym h.is ∙ m)) (defined_matched v named list result total n h scalars);
    } in record {
      signed = moved_signed outside y refl refl refl refl signed;
      done = record {
        pair = signed.pair;
        all = done_same (done_names ++ named.name ∷ []) outside y refl (moved_matched outside y refl refl refl)
            (All-append (IsDone outside) done_names (named.name ∷ []) before (All-cons (IsDone outside) named.name [] now (All-nil (IsDone outside))));
      };
      links = same_links v y (head_onward v named list total n (length v.objects) names tags) refl (function_links f b.links);
    }

-- ---- behind a body

pub ended_between : {functions names : List (List ℕ)} (begun : Begun) (brace : Pos) (made : Made) (z : World) → Between functions names z → Between functions names (definition_ends begun brace made z)
ended_between {functions} {names} begun brace made z b =
    let shut = record (closed begun.outside z) { labels = []; cases = []; default = None } in
    let change = with_body (Block brace kinds.Written made.objects made.items) in
    let reach = reaches.function_changed shut begun.number change (λ f. record { name = refl; result = refl }) in
    let before = moved_signed z shut refl refl refl refl b.signed in
    let pair = paired shut (definition_ends begun brace made z) reach before.pair in record {
      signed = record { pair = pair; matched = changed_are shut begun.number change (λ f. refl) before.matched };
      done = record {
        pair = pair;
        all = done_same names shut (definition_ends begun brace made z) refl (changed_matched shut begun.number change (λ f. refl))
            (done_same names z shut refl (moved_matched z shut refl refl refl) b.done.all);
      };
      links = same_links shut (definition_ends begun brace made z) (onward shut (definition_ends begun brace made z) reach) refl ((entities_kept [] []).moved z shut (the_same z shut refl refl refl refl refl refl) b.links);
    }

-- ---- the file

pub calm_between : {functions names : List (List ℕ)} (w v : World) → Good w → Reaches Constants w v → Between functions names w → Between functions names v
calm_between w v good r b = record { signed = calm_signed w v r b.signed; done = calm_done w v r b.done; links = (entities_kept [] []).calm w v good r b.links }

pub outer_between :
    {names : List (List ℕ)} {w v : World} {around : Context} {tree : OuterTree} → Good w → ScalarNames w → MakesOuter w around tree v → Between around.functions names w
    → Between around.functions (names ++ functions_defined_by tree) v
outer_between {names = names} {v = v} {around = around} good scalar (outers.declares d) b = record {
  signed = (decl_keeps (signed_kept around.functions around.objects) refl refl good d (record { names = scalar; has = b.signed })).has;
  done = subst (λ l. AreDone l v) (sym (append-nil names)) (decl_keeps (done_kept names around.functions around.objects) refl refl good d (record { names = scalar; has = b.done })).has;
  links = (decl_keeps (entities_kept around.functions around.objects) refl refl good d (record { names = scalar; has = b.links })).has;
}
outer_between {names = names} {w = w} {v = v} {around = around} good scalar (outers.defines {brace = brace} {declarator = declarator} {shape = shape} {named = named} {begun = begun} {made = made} {u = u} {x = x} {y = y} {z = z} t n h i) b =
    let facts = head_facts good t in
    let scalars = head_scalar good scalar t in
    let all = names ++ named.name ∷ [] in
    let inside : Between around.functions all y = head_between scalars.steps h (calm_between u x facts.good facts.behind (calm_between w u good facts.calm b)) in
    let body = body_scalar scalars.names scalars.steps h in
    let end : Between around.functions all z = record {
      signed = (items_keep (signed_kept around.functions around.objects) refl refl facts.scope i (record { names = body; has = inside.signed })).has;
      done = (items_keep (done_kept all around.functions around.objects) refl refl facts.scope i (record { names = body; has = inside.done })).has;
      links = (items_keep (entities_kept around.functions around.objects) refl refl facts.scope i (record { names = body; has = inside.links })).has;
    } in
    let name : name_in declarator ≡ Some named.name = sym (named_is u x declarator shape t.declarator_is) ∙ ap (option_map (λ m. m.name)) n in
    subst (λ o. Between around.functions (names ++ to_names o) v) (sym name) (ended_between begun brace made z end)

pub outers_between :
    {around : Context} {w v : World} {list : List OuterTree} → Good w → ScalarNames w → MakesOuters around w list v → (names : List (List ℕ)) → Between around.functions names w
    → Between around.functions (names ++ flat_map functions_defined_by list) v
outers_between {around = around} {w = w} good scalar no_more names b = subst (λ l. Between around.functions l w) (sym (append-nil names)) b
outers_between {around = around} {v = v} good scalar (and_then {tree = tree} {rest = rest} p q) names b =
    subst (λ l. Between around.functions l v) (append_assoc names (functions_defined_by tree) (flat_map functions_defined_by rest))
    (outers_between (good_by good (outer_reach good p)) (outer_scalar good scalar p) q (names ++ functions_defined_by tree) (outer_between good scalar p b))

-- each function has parameters of the types that it is called with, where all that the file defines are defined
pub all_matched : (functions : List (List ℕ)) (w : World) → Between functions functions w → (n : ℕ) (f : TFunctionTree) → slice_get w.functions n ≡ Some f → IsMatched w n
all_matched functions w b n f e =
    ⊎_elim (λ m. m) (λ i.
    let d = has_in (IsDone w) functions i.entry.name b.done.all i.named in
    d.done n (ap (λ l. l.meaning) (same_Some d.entry i.entry (sym d.there ∙ i.there)) ∙ i.is)) (b.signed.matched n f e)

-- nothing is declared yet
pub nothing_between : (functions : List (List ℕ)) → Between functions [] nothing_yet
nothing_between functions = record {
  signed = record { pair = refl; matched = λ n f e. absurd (none-some f e) };
  done = record { pair = refl; all = All-nil (IsDone nothing_yet) };
  links = All-nil (λ l. IsEntity nothing_yet l.meaning);
}
