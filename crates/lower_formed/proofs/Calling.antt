-- Calls of functions that are there: arguments for their parameters, and a value of their result's type.
use Rattle.std.proofs.Common.{◌≡◌, ℕ, suc, ◌<◌, ◌≤◌, List, [], ◌∷◌, length, Option, Some, None, Bool, true, false, refl, sym, ◌∙◌, subst, arith}
use Rattle.std.specs.Prelude.{All, IfSome, slice_get}
use Rattle.std.proofs.Math.Nat.{le-max_left}
use Rattle.std.proofs.lemmas.List.Elements.{All-nil, All-cons, All-append}
use Rattle.std.proofs.lemmas.Option.{slice_get_within}
use Rattle.c_syntax_written.specs.declared.int_type.IntType.TheVariants as ints
use Rattle.c_syntax_written.specs.declared.place.Pos.{Pos}
use Rattle.c_syntax.specs.declared.alarm.WrongKind.TheVariants as kinds
use Rattle.c_syntax.specs.Types.{CTypeTree}
use Rattle.c_layout.specs.Checks.{plain_check}
use Rattle.c_layout.specs.TypedNodes.{ArgumentsRow}
use Rattle.block_mem.specs.declared.types.Scalar.{Scalar}
use Rattle.block_mem.specs.declared.types.Scalar.TheVariants as scalars
use Rattle.c_steps_laws.proofs.Rows.{store_row}
use Rattle.csharp.specs.Trees.{CsExprTree, Temp, CsFunctionTree, CsProgramTree}
use Rattle.csharp.specs.Formed.{Around, nothing_around, Each, NamesThere, NamesLive, LivesThere, AreOperandsTyped, HoldsType, ArgsFit, GivesType, IsCallTyped, opt_list}
use Rattle.csharp_typed_laws.proofs.Everywhere.{each_always}
use Rattle.lower_trees.specs.Temps.{temp_at}
use Rattle.lower_trees.specs.Checking.{value_check}
use Rattle.lower_trees.specs.LowerExpr.{Args, cs_call, of_call}
use Rattle.lower_formed.specs.Right.{Frame, Right, Fine, ParamsHold, TypedAs, AllGood, FineArgs, Callable}
use Rattle.lower_formed.proofs.Terms.{listed, seq_right, check_one, good_temp}
use Rattle.lower_formed.proofs.Nodes.{held_is}
use Rattle.lower_formed.proofs.Forms.{fine_void}

module _ (q : CsProgramTree) (labels : Frame) (n : ℕ) (there : (d : ℕ) (ty : Scalar) → d < n → slice_get q.temps (temp_at d ty) ≡ Some ty) where
  all_there : (around : Around) (vs : List CsExprTree) → AllGood q around vs → All (NamesThere q) vs
  all_there around [] h = All-nil (NamesThere q)
  all_there around (v ∷ vs) (g, h) = All-cons (NamesThere q) v vs g.there (all_there around vs h)

  all_live : (around : Around) (vs : List CsExprTree) → AllGood q around vs → All (NamesLive q around) vs
  all_live around [] h = All-nil (NamesLive q around)
  all_live around (v ∷ vs) (g, h) = All-cons (NamesLive q around) v vs g.live (all_live around vs h)

  all_ops : (around : Around) (vs : List CsExprTree) → AllGood q around vs → All (AreOperandsTyped q) vs
  all_ops around [] h = All-nil (AreOperandsTyped q)
  all_ops around (v ∷ vs) (g, h) = All-cons (AreOperandsTyped q) v vs g.operands (all_ops around vs h)

  args_fit : (vs : List CsExprTree) (ts ps : List CTypeTree) (ds : List ℕ) → ArgumentsRow ps ts → TypedAs q vs ts → ParamsHold q ps ds → ArgsFit q vs ds
  args_fit [] [] [] [] r h k = tt
  args_fit (v ∷ vs) (t ∷ ts) (p ∷ ps) (d ∷ ds) (r, rest) (h, hs) (k, ks) =
      let s = store_row p t r in ((s.0, h s.0 (held_is t s.0 s.2), k s.0 s.1), args_fit vs ts ps ds rest hs ks)
  args_fit [] [] [] (d ∷ ds) r h k = absurd k
  args_fit [] [] (p ∷ ps) ds r h k = absurd r
  args_fit [] (t ∷ ts) ps ds r h k = absurd h
  args_fit (v ∷ vs) [] ps ds r h k = absurd h
  args_fit (v ∷ vs) (t ∷ ts) [] ds r h k = absurd r
  args_fit (v ∷ vs) (t ∷ ts) (p ∷ ps) [] r h k = absurd k

  abbrev Holds : Option ℕ → Type 0
  Holds o = IfSome o (λ d. d < length q.temps)

  opt_there : (o : Option ℕ) → Holds o → All (λ d. d < length q.temps) (opt_list o)
  opt_there None h = All-nil (λ d. d < length q.temps)
  opt_there (Some d) h = All-cons (λ d. d < length q.temps) d [] h (All-nil (λ d. d < length q.temps))

  some_typed : (o : _) (low : CsFunctionTree) (c : _) → o ≡ Some low → IsCallTyped q c low → Rattle.std.specs.Prelude.IsSomeAnd o (IsCallTyped q c)
  some_typed o low c e h = subst (λ z. Rattle.std.specs.Prelude.IsSomeAnd z (IsCallTyped q c)) (sym e) h

  call_right : (around : Around) (at : Pos) (g : ℕ) (vs : List CsExprTree) (value flag : Option ℕ) (low : CsFunctionTree) → slice_get q.functions g ≡ Some low → AllGood q around vs
      → ArgsFit q vs low.params → Each (λ around a. GivesType q value a) nothing_around low.body → Holds value → IfSome flag (HoldsType q (scalars.Int ints.Int)) → Holds flag
      → Right q labels around (cs_call at g vs value flag)
  call_right around at g vs value flag low is good fit gives hv tf hf = record {
    numbers = (
      all_there around vs good,
      All-append (λ d. d < length q.temps) (opt_list value) (opt_list flag) (opt_there value hv) (opt_there flag hf),
      All-nil (λ x. x < length q.objects),
      slice_get_within q.functions g low is,
    );
    live = (all_live around vs good, All-nil (LivesThere q around));
    types = (all_ops around vs good, some_typed (slice_get q.functions g) low _ is (record { args = fit; value = gives; flag = tf }));
    checks = tt;
    gotos = tt;
    gives = tt;
    cases = tt;
  }

  -- a call whose value nobody wants
  pub fine_dropped : (around : Around) (d : ℕ) (at : Pos) (g : ℕ) (main : Bool) (args : Args) (ts ps : List CTypeTree) (result : Option Scalar) → Callable q g ps result → ArgumentsRow ps ts
      → FineArgs q labels around args ts → Fine q labels around None (of_call d at g None main args)
  fine_dropped around d at g main args ts ps result c r h =
      fine_void q labels n there around _ d args.top (seq_right q labels around args.before _ h.before
      (call_right around at g args.values None None c.low c.is h.good (args_fit args.values ts ps c.low.params r h.typed c.holds) (each_always (λ around a. GivesType q None a) (λ around a. tt) nothing_around c.low.body) tt tt tt))

  -- a call whose value is wanted
  pub fine_used : (around : Around) (d : ℕ) (at : Pos) (g : ℕ) (main : Bool) (args : Args) (ts ps : List CTypeTree) (ty : Scalar) → Callable q g ps (Some ty) → ArgumentsRow ps ts
      → (of_call d at g (Some ty) main args).top ≤ n → FineArgs q labels around args ts → Fine q labels around (Some ty) (of_call d at g (Some ty) main args)
  fine_used around d at g true args ts ps ty c r room h =
      let le = le-max_left (suc d) args.top in
      let t = there d ty (omega (arith, le, room)) in
      record {
        before = seq_right q labels around args.before _ h.before
            (call_right around at g args.values (Some (temp_at d ty)) None c.low c.is h.good (args_fit args.values ts ps c.low.params r h.typed c.holds) (c.gives (temp_at d ty) ty refl t)
            (slice_get_within q.temps (temp_at d ty) ty t) tt tt);
        good = good_temp q labels around (temp_at d ty) ty t;
        is = λ s e. t ∙ e;
      }
  fine_used around d at g false args ts ps ty c r room h =
      let le = le-max_left (suc (suc d)) args.top in
      let t = there d ty (omega (arith, le, room)) in
      let f = there (suc d) (scalars.Int ints.Int) (omega (arith, le, room)) in
      let flag = temp_at (suc d) (scalars.Int ints.Int) in
      record {
        before = seq_right q labels around args.before _ h.before (seq_right q labels around _ _
            (call_right around at g args.values (Some (temp_at d ty)) (Some flag) c.low c.is h.good (args_fit args.values ts ps c.low.params r h.typed c.holds) (c.gives (temp_at d ty) ty refl t)
            (slice_get_within q.temps (temp_at d ty) ty t) f (slice_get_within q.temps flag (scalars.Int ints.Int) f))
            (listed q labels around (value_check at (Temp flag) ∷ [])
            (check_one q labels around at None (plain_check kinds.NoValue) (Temp flag) (good_temp q labels around flag (scalars.Int ints.Int) f) ((ints.Int, f), refl, refl), tt)));
        good = good_temp q labels around (temp_at d ty) ty t;
        is = λ s e. t ∙ e;
      }
