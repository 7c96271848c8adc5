-- A function that is entered is there, and its arguments fill its parameters.
use Rattle.std.proofs.Common.{◌≡◌, ◌<◌, ℕ, zero, suc, List, [], ◌∷◌, ◌++◌, map, length, Option, Some, None, refl, sym, ap, ◌∙◌, subst}
use Rattle.std.specs.Prelude.{reverse, IsSome, Contains, slice_get, slice_index_or}
use Rattle.std.proofs.lemmas.Grind.{reverse_onto}
use Rattle.std.proofs.lemmas.List.{append-nil, append_assoc, map-append}
use Rattle.std.proofs.lemmas.List.Elements.{All-weaker}
use Rattle.c_syntax.specs.Types.{ObjectTree}
use Rattle.c_syntax.specs.TypedStmt.{TStmtTree}
use Rattle.c_syntax.specs.Program.{TFunctionTree, TProgramTree}
use Rattle.c_layout.specs.ProperTypes.{whole}
use Rattle.c_layout.specs.TypedNodes.{object_type}
use Rattle.c_layout.specs.WellTyped.{IsWellTyped}
use Rattle.block_mem.specs.declared.types.Scalar.{Scalar}
use Rattle.block_mem.specs.declared.types.Value.{Value}
use Rattle.c_values.specs.declared.values.Given.TheVariants as givens
use Rattle.c_values.specs.Places.{ObjectMemory, place_of}
use Rattle.c_objects.specs.Opening.{open_all}
use Rattle.c_objects.proofs.Keeping.{Keeps}
use Rattle.c_objects.proofs.Listed.{first_in, rest_in}
use Rattle.c_steps.specs.Work.{Item}
use Rattle.c_steps.specs.States.{Held, Plain, Struct, held}
use Rattle.c_steps.specs.Calls.{taken}
use Rattle.c_steps_laws.specs.Wants.{Want, Stacked}
use Rattle.c_steps_laws.specs.Takes.{args_on, param_wants}
use Rattle.c_steps_laws.specs.Opens.{Use, Object, Function, Lists, OpensCall}
use Rattle.c_steps_laws.specs.Fits.{AreLive, IsReady}
use Rattle.c_steps_laws.proofs.Functions.{AllHave, take_args, AreScalars, no_scalars, more_scalars, IsParam, params_are, params_wanted, params_count, scalar_at, all_have, fill_one}
use Rattle.c_steps_laws.proofs.Kept.{KeepsIn}
use Rattle.c_steps_laws.proofs.Lives.{all_opened}
use Rattle.c_steps_laws.proofs.Memory.{IsChanged, changed}
use Rattle.c_steps_laws.proofs.Runs.{typed_at, params_distinct, params_listed, are_fillable}
use Rattle.c_steps_laws.proofs.Statements.{free_objects}
use Rattle.c_steps_laws.specs.Needs.{AreFilled, IsEntered, IsFilledAs}
use Rattle.c_steps_laws.proofs.Filled.{filled_with}

-- ---- values that are taken off the stack

pair_of : (a b : List Value × List Held) → Some a ≡ Some b → a ≡ b
pair_of a b e = cc

one_back : (before : List Value) (v : Value) (s : List Held) → map held (reverse before) ++ held v ∷ s ≡ map held (reverse (v ∷ before)) ++ s
one_back before v s =
    sym (ap (λ l. map held l ++ s) (reverse_onto before v []) ∙ ap (λ l. l ++ s) (map-append held (reverse before) (v ∷ [])) ∙ append_assoc (map held (reverse before)) (held v ∷ []) s)

stack_is : (k : ℕ) (s : List Held) (before vs : List Value) (left : List Held) → taken k s before ≡ Some (vs, left) → map held (reverse before) ++ s ≡ map held (reverse vs) ++ left
stack_is zero s before vs left e = ap (λ (x : List Value × List Held). map held (reverse x.0) ++ x.1) (pair_of (before, s) (vs, left) e)
stack_is (suc k) (Plain (givens.Value v) ∷ s) before vs left e = one_back before v s ∙ stack_is k s (v ∷ before) vs left e
stack_is (suc k) [] before vs left e = absurd (cc)
stack_is (suc k) (Plain givens.Nothing ∷ s) before vs left e = absurd (cc)
stack_is (suc k) (Struct at v ∷ s) before vs left e = absurd (cc)

as_many : (n : ℕ) (tys : List Scalar) (vs : List Value) → AllHave n tys vs → length vs ≡ length tys
as_many n [] [] h = refl
as_many n (ty ∷ tys) (v ∷ vs) (h, hs) = ap suc (as_many n tys vs hs)
as_many n [] (v ∷ vs) h = absurd h
as_many n (ty ∷ tys) [] h = absurd h

-- ---- parameters

record IsNext (W : Type 0) (objects : List ObjectTree) (m n : ObjectMemory) : Type 0 where
  kept : Keeps W objects n
  blocks : length n.blocks ≡ length m.blocks
  places : n.places ≡ m.places

next : {W : Type 0} {objects : List ObjectTree} {m : ObjectMemory} (n : ObjectMemory) {o : Option ObjectMemory} → IsChanged W objects m o → o ≡ Some n → IsNext W objects m n
next {W = W} {objects = objects} {m = m} n (changed k kept blocks places) e =
    let same : k ≡ n = cc in subst (λ (x : ObjectMemory). IsNext W objects m x) same (record { kept = kept; blocks = blocks; places = places })

module _ (p : TProgramTree) (w : IsWellTyped p) where
  are_filled : {xs : List ℕ} {tys : List Scalar} → AreScalars p xs tys → (vs : List Value) (m : ObjectMemory) → KeepsIn p m
      → ((y : ℕ) → Contains xs y → IsSome (place_of m y)) → AllHave (length m.blocks) tys vs → AreFilled p.objects xs vs m
  are_filled no_scalars [] m k lives hv = tt
  are_filled no_scalars (v ∷ vs) m k lives hv = absurd hv
  are_filled (more_scalars is h) [] m k lives hv = absurd hv
  are_filled (more_scalars {x = x} {xs = xs} {ty = ty} {tys = tys} is h) (v ∷ vs) m k lives (hv, hvs) =
      let here = lives x (first_in x xs) in (
        subst (λ o. IsFilledAs m o x v) (sym (scalar_at (slice_get p.objects x) ty is)) (filled_with p w m k x 0 (object_type p x) ty v here (whole (object_type p x)) is hv),
        (λ n e.
            let c = next n (fill_one p (are_fillable p w) m x ty v k here is hv) e in
            are_filled h vs n c.kept (λ y g. subst (λ (ps : List (Option ℕ)). IsSome (slice_index_or ps y None)) (sym c.places) (lives y (rest_in x y xs g)))
            (subst (λ z. AllHave z tys vs) (sym c.blocks) hvs)),
      )

  lists_use : (f : ℕ) (function : TFunctionTree) → slice_get p.functions f ≡ Some function → (u : Use) → Lists function.params u → OpensCall p f u
  lists_use f function found (Object y) c = params_listed p w f function found y c
  lists_use f function found (Function g) c = absurd c

  -- ---- a function is entered

  pub is_entered : (f : ℕ) (function : TFunctionTree) (body : TStmtTree) (work : List Item) (ts : List Want) → slice_get p.functions f ≡ Some function
      → function.body ≡ Some body → (s : List Held) (m : ObjectMemory) → Stacked (length m.blocks) (args_on (param_wants p function) ts) s
      → ((u : Use) → OpensCall p f u → IsReady p work u) → AreLive p work m → KeepsIn p m → IsEntered p f s m
  is_entered f function body work ts found is s m d may l k =
      let xs = function.params in
      let params = (typed_at p w f function found).params in
      let a = params_are p xs params in
      let args = take_args (length m.blocks) a.0 ts [] s (subst (λ ws. Stacked (length m.blocks) (args_on ws ts) s) (params_wanted p a.1) d) in
      let count = params_count p a.1 in
      let taken_is : taken (length xs) s [] ≡ Some (args.vs, args.left) = ap (λ z. taken z s []) (sym count) ∙ args.is ∙ ap (λ z. Some (z, args.left)) (append-nil args.vs) in
      let o = all_opened p.objects xs m (params_distinct p w f function found) (free_objects p xs work m (λ u c. may u (lists_use f function found u c)) l) k in
      record {
        function = function;
        body = body;
        args = args.vs;
        below = args.left;
        is = found;
        has_body = is;
        params = All-weaker (IsParam p) (λ x. x < length m.places) (λ x h. subst (λ n. x < n) (sym k.counted) h.0) xs params;
        count = as_many (length m.blocks) a.0 args.vs args.typed ∙ count;
        on_stack = stack_is (length xs) s [] args.vs args.left taken_is;
        taken = taken_is;
        filled = are_filled a.1 args.vs (open_all p.objects m xs) o.kept o.new
            (all_have (length m.blocks) (length (open_all p.objects m xs).blocks) a.0 args.vs o.more args.typed);
      }
