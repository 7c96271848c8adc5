-- The rows of statements, initialisers and functions in a typed run.
use Rattle.std.proofs.Common.{◌≡◌, ◌⊎◌, inl, inr, ℕ, suc, ℤ, Bool, true, false, List, ◌∷◌, length, Option, Some, None, refl, sym, ap, ◌∙◌, subst}
use Rattle.std.specs.Prelude.{IfSome, All, Contains, option_map, unwrap_or}
use Rattle.c_syntax_written.specs.declared.int_type.IntType.TheVariants as ints
use Rattle.c_syntax_written.specs.declared.place.Pos.{Pos}
use Rattle.c_syntax.specs.Types.{CTypeTree, Void, Int}
use Rattle.c_syntax.specs.TypedExpr.{TExprTree}
use Rattle.c_syntax.specs.TypedParts.{texpr_type}
use Rattle.c_syntax.specs.TypedStmt.{TInitTree, TStmtTree, TStmtTrees, none, more}
use Rattle.c_syntax.specs.TypedStmt as stmts
use Rattle.c_syntax.specs.GivenType.{given_type}
use Rattle.c_syntax.specs.Program.{TProgramTree}
use Rattle.c_layout.specs.Jumps.{labels_among, GotosStay, GotosStayIn}
use Rattle.c_layout.specs.TypedNodes.{Scope, object_type, IsTypedExpr, IsTypedCondition, AreHead, ReturnRow, IsTypedStmt, IsTypedInit}
use Rattle.c_layout.proofs.Given as given
use Rattle.block_mem.specs.declared.types.Scalar.{Scalar}
use Rattle.block_mem.specs.declared.types.Value.{Value}
use Rattle.c_values.specs.declared.values.Given.TheVariants as givens
use Rattle.c_values.specs.Values.{scalar_of, bit}
use Rattle.c_values.specs.Places.{ObjectMemory, place_of}
use Rattle.c_objects.specs.Opening.{open_all}
use Rattle.c_objects.specs.Writing.{rest}
use Rattle.c_objects.proofs.Listed.{by_sum}
use Rattle.c_steps.specs.Work.{Item, Loop, Do, Close, Again, SwitchEnd, Begin, Turn}
use Rattle.c_steps.specs.States.{Held, Plain, goes, held}
use Rattle.c_steps.specs.Marks.{Mark, behind, does}
use Rattle.c_steps.specs.Statements.{loop_of, do_step, begin_step, again_step, condition_scalar, select_step, return_step}
use Rattle.c_steps.specs.Steps.{item_step}
use Rattle.c_steps_laws.specs.Wants.{Want, want_of, HasWant, is_value, is_any, Stacked, on_top}
use Rattle.c_steps_laws.specs.Surroundings.{Around, around, scope_at, in_items, ends_switch, TypedStmt, TypedItems, TypedLoop}
use Rattle.c_steps_laws.specs.Takes as rules
use Rattle.c_steps_laws.specs.Takes.{IsLevel, at_close, at_again, at_begin, IsBehind, level, switch, LivesAt, Takes, eval, drop, choose, leave, begin, turn, again, select, switch_end, close, fill, fill_copy}
use Rattle.c_steps_laws.specs.Opens.{Use, Object, Function, Lists, OpensMaybe, OpensStmt, OpensItems, OpensLoop, Apart, ApartItems, ApartBlock, OpensCall}
use Rattle.c_steps_laws.specs.Fits.{AreLive, IsReady, Parted}
use Rattle.c_steps_laws.proofs.Accesses.{bit_typed, test_after}
use Rattle.c_steps_laws.proofs.Initials.{AreFillable, declare_row}
use Rattle.c_steps_laws.proofs.Jumps.{EndsReady, block_ready, level_not_end, after_break, after_continue, after_goto}
use Rattle.c_steps_laws.proofs.Lives.{Free, no_some, all_opened, live_opened}
use Rattle.c_steps_laws.proofs.Rows.{Is, scalar_is, want_is, same_want}
use Rattle.c_steps_laws.proofs.Rules.{On, fit, as_top, stacked_more}
use Rattle.c_steps_laws.proofs.Scope.{scoped}
use Rattle.c_steps_laws.proofs.Values.{Has}
use Rattle.c_steps_laws.proofs.Work.{takes_does, live_does, parted_does, typed_behind, opens_behind, apart_behind}
use Rattle.c_steps_laws.proofs.Kept.{KeepsIn}

pub none_typed : (c : Around) → TypedItems c none
unfolding IsTypedStmt GotosStay
none_typed c = (tt, tt)

-- a condition's scalar
condition_is : (scope : Scope) (e : TExprTree) → IsTypedExpr scope true e → (s : Scalar) → Is (given_type e) s → scalar_of (texpr_type e) ≡ Some s
condition_is scope e typed s is = ap scalar_of (sym (given.wanted scope e typed)) ∙ is

module _ (p : TProgramTree) where
  -- the objects of a block that is entered do not live
  pub free_objects : (xs : List ℕ) (w : List Item) (m : ObjectMemory) → ((u : Use) → Lists xs u → IsReady p w u) → AreLive p w m → Free p.objects m xs
  free_objects xs w m f l y c = let n = f (Object y) c in (n.0, no_some (place_of m y) (λ h. n.1 (l.1 y h)))

  -- a block is entered, at its first item or behind a mark
  pub block_after : (z : Bool) (xs : List ℕ) (all part : TStmtTrees) (r : CTypeTree) (w : List Item) (ts : List Want) → ends_switch w ≡ z
      → TypedItems (in_items z xs all (around p r w)) part → TypedItems (in_items z xs all (around p r w)) all → IsBehind w → Takes p r w ts → (s : List Held)
      (m : ObjectMemory) (i : List ℤ) → Stacked (length m.blocks) ts s → ((u : Use) → OpensItems (OpensCall p) part u → OpensItems (OpensCall p) all u)
      → ApartItems (OpensCall p) part → EndsReady p xs all w → ApartBlock (OpensCall p) xs all → Parted (OpensCall p) p w → AreLive p w m → KeepsIn p m
      → On p (goes (does part (Close xs all ∷ w)) s (open_all p.objects m xs) i)
  block_after z xs all part r w ts e tp ta v k s m i d op ap' f g q l h =
      let typed_part = subst (λ b. TypedItems (in_items b xs all (around p r w)) part) (sym e) tp in
      let typed_all = subst (λ b. TypedItems (in_items b xs all (around p r w)) all) (sym e) ta in
      let o = all_opened p.objects xs m g.0.0 (free_objects xs w m (λ u c. f u (inl c)) l) h in
      fit p r (does part (Close xs all ∷ w)) s (open_all p.objects m xs) i ts (takes_does p r ts part (Close xs all ∷ w) typed_part at_close (close typed_all v k))
      (stacked_more (length m.blocks) (length (open_all p.objects m xs).blocks) o.more d)
      (parted_does (OpensCall p) p part (Close xs all ∷ w) (block_ready p xs all part w op f g.0.1) ap' (f, g, q))
      (live_does p part (Close xs all ∷ w) (open_all p.objects m xs) (live_opened p w xs all m (open_all p.objects m xs) o l)) o.kept

  -- ---- loops

  pub begin_row : (n : ℕ) (loop : Loop) (c : Option TExprTree) → loop.condition ≡ c → (r : CTypeTree) (w : List Item) (ts : List Want) → TypedLoop (around p r w) loop
      → IsLevel w → Takes p r w ts → (s : List Held) (m : ObjectMemory) (i : List ℤ) → Stacked (length m.blocks) ts s
      → ((u : Use) → OpensLoop (OpensCall p) loop u → IsReady p w u) → Apart (OpensCall p) loop.body → Parted (OpensCall p) p w → AreLive p w m → KeepsIn p m
      → On p (begin_step n loop c w s m i)
  begin_row n loop None e r w ts t v k s m i d f g q l h =
      fit p r _ _ m i _ (turn (ap (λ (x : Option TExprTree). scalar_of (unwrap_or (option_map texpr_type x) (Int ints.Int))) e) t v k) (on_top (is_value {v = bit true} (bit_typed true) tt) d) (f, g, q) l h
  begin_row n loop (Some c) e r w ts t v k s m i d f g q l h =
      let tc = subst (λ (x : Option TExprTree). IfSome x (IsTypedCondition (around p r w).standing.scope)) e t.condition in
      let a = scalar_is (given_type c) tc.1 in
      fit p r _ s m i _ (eval true tc.0 (as_top p r _ _ _ _ (want_is (given_type c) a.0 a.1)
      (turn (ap (λ (x : Option TExprTree). scalar_of (unwrap_or (option_map texpr_type x) (Int ints.Int))) e ∙ condition_is (around p r w).standing.scope c tc.0 a.0 a.1) t v k))) d
      ((λ u o. f u (inl (subst (λ (x : Option TExprTree). OpensMaybe (OpensCall p) x u) (sym e) o))), tt, (f, g, q)) l h

  pub turn_row : (n : ℕ) (loop : Loop) (ty : Scalar) (x : Value) (r : CTypeTree) (w : List Item) (ts : List Want) → condition_scalar loop ≡ Some ty → TypedLoop (around p r w) loop
      → IsLevel w → Takes p r w ts → (s : List Held) (m : ObjectMemory) (i : List ℤ) → Has (length m.blocks) ty x → Stacked (length m.blocks) ts s
      → ((u : Use) → OpensLoop (OpensCall p) loop u → IsReady p w u) → Apart (OpensCall p) loop.body → Parted (OpensCall p) p w → AreLive p w m → KeepsIn p m
      → On p (item_step p (Turn n loop) w (held x ∷ s) m i)
  turn_row n loop ty x r w ts e t v k s m i hx d f g q l h =
      rw e (test_after p loop.pos ty x m (goes (Do loop.body ∷ Again (suc n) loop ∷ w) s m i) (goes w s m i) hx
      (fit p r _ s m i _ (rules.does t.body at_again (again t v k)) d ((λ u o. f u (inr (inr o))), g, (f, g, q)) l h)
      (fit p r w s m i ts k d q l h))

  pub again_row : (n : ℕ) (loop : Loop) (c : Option TExprTree) → loop.step ≡ c → (r : CTypeTree) (w : List Item) (ts : List Want) → TypedLoop (around p r w) loop
      → IsLevel w → Takes p r w ts → (s : List Held) (m : ObjectMemory) (i : List ℤ) → Stacked (length m.blocks) ts s
      → ((u : Use) → OpensLoop (OpensCall p) loop u → IsReady p w u) → Apart (OpensCall p) loop.body → Parted (OpensCall p) p w → AreLive p w m → KeepsIn p m
      → On p (again_step n loop c w s m i)
  again_row n loop None e r w ts t v k s m i d f g q l h = fit p r _ s m i _ (begin t v k) d (f, g, q) l h
  again_row n loop (Some c) e r w ts t v k s m i d f g q l h =
      let tc = subst (λ (x : Option TExprTree). IfSome x (IsTypedExpr (around p r w).standing.scope false)) e t.step in
      fit p r _ s m i _ (eval false tc (drop (begin t v k))) d
      ((λ u o. f u (inr (inl (subst (λ (x : Option TExprTree). OpensMaybe (OpensCall p) x u) (sym e) o)))), tt, ((λ u o. absurd o), tt, (f, g, q))) l h

  -- ---- switches

  pub select_row : (mark : Option Mark) (xs : List ℕ) (items : TStmtTrees) (r : CTypeTree) (w : List Item) (ts : List Want)
      → TypedItems (in_items true xs items (around p r w)) items → IsLevel w → Takes p r w ts → (s : List Held) (m : ObjectMemory) (i : List ℤ)
      → Stacked (length m.blocks) ts s → EndsReady p xs items w → ApartBlock (OpensCall p) xs items → Parted (OpensCall p) p w → AreLive p w m → KeepsIn p m
      → On p (select_step p.objects mark xs items w s m i)
  select_row None xs items r w ts t v k s m i d f g q l h = fit p r w s m i ts k d q l h
  select_row (Some mark) xs items r w ts t v k s m i d f g q l h =
      block_after true xs items (behind mark items) r (SwitchEnd ∷ w) ts refl (typed_behind (in_items true xs items (around p r w)) mark items t) t switch (switch_end v k)
      s m i d (λ u. opens_behind (OpensCall p) u mark items) (apart_behind (OpensCall p) mark items g.1) f g ((λ u o. absurd o), tt, q) l h

  -- ---- `for`

  -- what a `for` begins with jumps nowhere
  heads_stay : (labels : List ℕ) (head : TStmtTrees) → AreHead head → GotosStayIn labels head
  unfolding AreHead GotosStay
  heads_stay labels none h = tt
  heads_stay labels (more (stmts.Expr at e) rest) (h, hs) = (tt, heads_stay labels rest hs)
  heads_stay labels (more (stmts.Declare at x inits z) rest) (h, hs) = (tt, heads_stay labels rest hs)
  heads_stay labels (more (stmts.Static at x) rest) (h, hs) = (tt, heads_stay labels rest hs)
  heads_stay labels (more (stmts.Empty at) rest) (h, hs) = absurd h
  heads_stay labels (more (stmts.Block at kind xs items) rest) (h, hs) = absurd h
  heads_stay labels (more (stmts.If at c a b) rest) (h, hs) = absurd h
  heads_stay labels (more (stmts.While at c b) rest) (h, hs) = absurd h
  heads_stay labels (more (stmts.DoWhile at b c) rest) (h, hs) = absurd h
  heads_stay labels (more (stmts.For at xs head c e b) rest) (h, hs) = absurd h
  heads_stay labels (more (stmts.Switch at e kind xs items) rest) (h, hs) = absurd h
  heads_stay labels (more (stmts.Break at) rest) (h, hs) = absurd h
  heads_stay labels (more (stmts.Continue at) rest) (h, hs) = absurd h
  heads_stay labels (more (stmts.Goto at l) rest) (h, hs) = absurd h
  heads_stay labels (more (stmts.Return at e) rest) (h, hs) = absurd h
  heads_stay labels (more (stmts.Label at l) rest) (h, hs) = absurd h
  heads_stay labels (more (stmts.Case at n) rest) (h, hs) = absurd h
  heads_stay labels (more (stmts.Default at) rest) (h, hs) = absurd h

  -- in the block of a `for` no label stands
  no_labels : (xs : List ℕ) (c : Around) → (in_items false xs none c).labels ≡ c.labels
  unfolding labels_among
  no_labels xs c = refl

  -- what is ready, and not in the list, is ready in the block
  ready_in : (xs : List ℕ) (w : List Item) (u : Use) → IsReady p w u → (Lists xs u → ⊥) → IsReady p (Close xs none ∷ w) u
  ready_in xs w (Object y) (lt, f) g = (lt, λ o. by_sum o (λ e. f (inl e)) (λ e. by_sum e g (λ c. f (inr c))))
  ready_in xs w (Function x) h g = h

  apart_lists : (xs : List ℕ) (opened : Use → Type 0) → ((y : ℕ) → Contains xs y → opened (Object y) → ⊥) → (u : Use) → opened u → Lists xs u → ⊥
  apart_lists xs opened f (Object y) o c = f y c o
  apart_lists xs opened f (Function x) o c = c

  for_row : (at : Pos) (xs : List ℕ) (head : TStmtTrees) (c e : Option TExprTree) (b : TStmtTree) (r : CTypeTree) (w : List Item) (ts : List Want)
      → TypedStmt (around p r w) (stmts.For at xs head c e b) → IsLevel w → Takes p r w ts → (s : List Held) (m : ObjectMemory) (i : List ℤ)
      → Stacked (length m.blocks) ts s → ((u : Use) → OpensStmt (OpensCall p) (stmts.For at xs head c e b) u → IsReady p w u)
      → Apart (OpensCall p) (stmts.For at xs head c e b) → Parted (OpensCall p) p w → AreLive p w m → KeepsIn p m
      → On p (do_step p.objects (stmts.For at xs head c e b) w s m i)
  unfolding IsTypedStmt GotosStay
  for_row at xs head c e b r w ts ((hh, th, tc, te, bb, tb), gb) v k s m i d f ((distinct, miss), ah, ab) q l h =
      let z = level_not_end w v in
      let inside : Around = in_items false xs none (around p r w) in
      let is : around p r (Close xs none ∷ w) ≡ inside = ap (λ y. in_items y xs none (around p r w)) z in
      let loop : Loop = loop_of at c e b in
      let typed_loop : TypedLoop inside loop =
      record { condition = tc; step = te; body = (tb, subst (λ (ls : List ℕ). GotosStay ls b) (sym (no_labels xs (around p r w))) gb) } in
      let opens : (u : Use) → Lists xs u ⊎ OpensItems (OpensCall p) none u → IsReady p w u = λ u o. by_sum o (λ g. f u (inl g)) (λ g. absurd g) in
      let parts : (u : Use) → OpensItems (OpensCall p) head u ⊎ OpensLoop (OpensCall p) loop u → IsReady p (Close xs none ∷ w) u =
      λ u o. ready_in xs w u (f u (inr o)) (apart_lists xs (λ x. OpensItems (OpensCall p) head x ⊎ OpensLoop (OpensCall p) loop x) miss u o) in
      let o = all_opened p.objects xs m distinct (free_objects xs w m (λ u g. f u (inl g)) l) h in
      let closed : Takes p r (Close xs none ∷ w) ts = close (none_typed (in_items (ends_switch w) xs none (around p r w))) (level v) k in
      let live = live_opened p w xs none m (open_all p.objects m xs) o l in
      fit p r (does head (Begin 0 loop ∷ Close xs none ∷ w)) s (open_all p.objects m xs) i ts
      (takes_does p r ts head (Begin 0 loop ∷ Close xs none ∷ w) (subst (λ (a : Around). TypedItems a head) (sym is) (th, heads_stay inside.labels head hh)) at_begin
      (begin (subst (λ (a : Around). TypedLoop a loop) (sym is) typed_loop) at_close closed))
      (stacked_more (length m.blocks) (length (open_all p.objects m xs).blocks) o.more d)
      (parted_does (OpensCall p) p head (Begin 0 loop ∷ Close xs none ∷ w) (λ u g. parts u (inl g)) ah
      ((λ u g. parts u (inr g)), ab, (opens, ((distinct, λ y g t. t), tt), q)))
      (live_does p head (Begin 0 loop ∷ Close xs none ∷ w) (open_all p.objects m xs) live) o.kept

  -- ---- statements

  return_after : (value : Option TExprTree) (r : CTypeTree) (w : List Item) (ts : List Want) → ReturnRow (around p r w).standing.scope (around p r w).standing.result value
      → IsLevel w → Takes p r w ts → (s : List Held) (m : ObjectMemory) (i : List ℤ) → Stacked (length m.blocks) ts s
      → ((u : Use) → OpensMaybe (OpensCall p) value u → IsReady p w u) → Parted (OpensCall p) p w → AreLive p w m → KeepsIn p m → On p (return_step value w s m i)
  return_after None r w ts row v k s m i d f q l h =
      let is : r ≡ Void = sym (scoped k).result ∙ row in
      fit p r _ _ m i _ (leave v k) (on_top (subst (λ t. HasWant (length m.blocks) (want_of t) (Plain givens.Nothing)) (sym is) is_any) d) ((λ u o. absurd o), tt, q) l h
  return_after (Some e) r w ts (te, row) v k s m i d f q l h =
      let is = same_want (given_type e) (around p r w).standing.result row.same ∙ ap want_of (scoped k).result in
      fit p r _ s m i _ (eval true te (as_top p r _ _ _ _ is (leave v k))) d (f, tt, ((λ u o. absurd o), tt, q)) l h

  pub do_row : AreFillable p → (b : TStmtTree) (r : CTypeTree) (w : List Item) (ts : List Want) → TypedStmt (around p r w) b → IsLevel w → Takes p r w ts → (s : List Held)
      (m : ObjectMemory) (i : List ℤ) → Stacked (length m.blocks) ts s → ((u : Use) → OpensStmt (OpensCall p) b u → IsReady p w u) → Apart (OpensCall p) b
      → Parted (OpensCall p) p w → AreLive p w m → KeepsIn p m → On p (do_step p.objects b w s m i)
  unfolding IsTypedStmt GotosStay
  do_row ok (stmts.Empty at) r w ts t v k s m i d f g q l h = fit p r w s m i ts k d q l h
  do_row ok (stmts.Expr at e) r w ts (t, x) v k s m i d f g q l h = fit p r _ s m i _ (eval false t (drop k)) d (f, tt, ((λ u o. absurd o), tt, q)) l h
  do_row ok (stmts.Block at kind xs items) r w ts t v k s m i d f g q l h =
      block_after false xs items items r w ts (level_not_end w v) t t (level v) k s m i d (λ u o. o) g.1 f g q l h
  do_row ok (stmts.Declare at x inits z) r w ts ((here, typed), y) v k s m i d f g q l h =
      let sc = scoped k in
      let lives = sc.block x here in
      declare_row p ok x inits z r w ts sc.program (inr (sc.lives x lives)) lives
      (subst (λ (o : TProgramTree). All (IsTypedInit (around p r w).standing.scope (object_type o x)) inits) sc.program typed.typed) k s m i d f q l h
  do_row ok (stmts.Static at x) r w ts t v k s m i d f g q l h = fit p r w s m i ts k d q l h
  do_row ok (stmts.If at c a b) r w ts ((tc, ba, ta, bb, tb), (ga, gb)) v k s m i d f g q l h =
      let x = scalar_is (given_type c) tc.1 in
      rw (condition_is (scope_at p r w) c tc.0 x.0 x.1)
      (fit p r _ s m i _ (eval true tc.0 (as_top p r _ _ _ _ (want_is (given_type c) x.0 x.1) (choose (ta, ga) (tb, gb) v k))) d
      ((λ u o. f u (inl o)), tt, ((λ u o. f u (inr o)), g, q)) l h)
  do_row ok (stmts.While at c b) r w ts ((tc, bb, tb), gb) v k s m i d f g q l h =
      fit p r _ s m i _ (begin (record { condition = tc; step = tt; body = (tb, gb) }) v k) d
      ((λ u o. by_sum o (λ x. f u (inl x)) (λ x. by_sum x (λ y. absurd y) (λ y. f u (inr y)))), g, q) l h
  do_row ok (stmts.DoWhile at b c) r w ts ((tc, bb, tb), gb) v k s m i d f g q l h =
      fit p r _ s m i _ (rules.does (tb, gb) at_again (again (record { condition = tc; step = tt; body = (tb, gb) }) v k)) d
      ((λ u o. f u (inl o)), g, ((λ u o. by_sum o (λ x. f u (inr x)) (λ x. by_sum x (λ y. absurd y) (λ y. f u (inl y)))), g, q)) l h
  do_row ok (stmts.For at xs head c e b) r w ts t v k s m i d f g q l h = for_row at xs head c e b r w ts t v k s m i d f g q l h
  do_row ok (stmts.Switch at e kind xs items) r w ts ((te, row, ti), gi) v k s m i d f g q l h =
      fit p r _ s m i _ (eval true te (as_top p r _ _ _ _ (ap want_of row.integer) (select (ti, gi) v k))) d
      ((λ u o. f u (inl o)), tt, ((λ u o. f u (inr o)), g, q)) l h
  do_row ok (stmts.Break at) r w ts (t, x) v k s m i d f g q l h = after_break p v k s m i t d q l h
  do_row ok (stmts.Continue at) r w ts (t, x) v k s m i d f g q l h = after_continue p v k s m i t d q l h
  do_row ok (stmts.Goto at j) r w ts (x, t) v k s m i d f g q l h = after_goto p v k j s m i t d q l h
  do_row ok (stmts.Return at value) r w ts (t, x) v k s m i d f g q l h = return_after value r w ts t v k s m i d f q l h
  do_row ok (stmts.Label at j) r w ts t v k s m i d f g q l h = fit p r w s m i ts k d q l h
  do_row ok (stmts.Case at n) r w ts t v k s m i d f g q l h = fit p r w s m i ts k d q l h
  do_row ok (stmts.Default at) r w ts t v k s m i d f g q l h = fit p r w s m i ts k d q l h
