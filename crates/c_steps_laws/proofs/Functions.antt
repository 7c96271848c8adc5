-- Functions that are entered, and ends of functions, in a typed run.
use Rattle.std.proofs.Common.{◌≡◌, ◌<◌, ◌≤◌, ◌⊎◌, inl, inr, ℕ, zero, suc, ℤ, pos, false, List, [], ◌∷◌, ◌++◌, map, length, Option, Some, None, refl, sym, ap, ◌∙◌, subst}
use Rattle.std.specs.Prelude.{IsSome, All, Contains, slice_get, slice_index_or, option_and_then, option_map, unwrap_or}
use Rattle.std.proofs.lemmas.List.{append-nil}
use Rattle.std.proofs.lemmas.List.Elements.{All-head, All-tail}
use Rattle.c_syntax_written.specs.declared.int_type.IntType.TheVariants as ints
use Rattle.c_syntax_written.specs.declared.place.Pos.{Pos}
use Rattle.c_syntax.specs.Types.{CTypeTree, Void, ObjectTree}
use Rattle.c_syntax.specs.TypedStmt.{TStmtTree, Block, none}
use Rattle.c_syntax.specs.TypedStmt as stmts
use Rattle.c_syntax.specs.Program.{TFunctionTree, TProgramTree}
use Rattle.c_layout.specs.Jumps.{GotosStay, labels_among}
use Rattle.c_layout.specs.ProperTypes.{whole}
use Rattle.c_layout.specs.RowTypes.{IsScalar}
use Rattle.c_layout.specs.TypedNodes.{in_block, object_type, IsTypedStmt, AreTypedItems}
use Rattle.c_layout.specs.WellTyped.{IsTypedBody}
use Rattle.block_mem.specs.declared.types.Scalar.{Scalar}
use Rattle.block_mem.specs.declared.types.Value.{Value}
use Rattle.block_mem.specs.declared.types.Value.TheVariants as values
use Rattle.c_values.specs.declared.values.Given.TheVariants as givens
use Rattle.c_values.specs.Values.{scalar_of}
use Rattle.c_values.specs.Places.{ObjectMemory, place_of}
use Rattle.c_objects.specs.Opening.{open_all}
use Rattle.c_objects.proofs.Listed.{by_sum, first_in, rest_in}
use Rattle.c_steps.specs.Work.{Item, AtEnd, Do, Close, Reach}
use Rattle.c_steps.specs.States.{Held, Plain, Struct as Bytes, held}
use Rattle.c_steps.specs.Calls.{taken, object_scalar, all_filled, enter_body, enter_step, reach_step}
use Rattle.c_steps.specs.Changes.{filled}
use Rattle.c_steps_laws.specs.Wants.{Want, Of, want_of, is_value, is_any, Stacked, on_top}
use Rattle.c_steps_laws.specs.Surroundings.{outermost, in_items, TypedStmt}
use Rattle.c_steps_laws.specs.Takes as rules
use Rattle.c_steps_laws.specs.Takes.{GivesAtEnd, args_on, param_wants, at_close, at_reach, level, Takes, close, reach}
use Rattle.c_steps_laws.specs.Opens.{Use, Object, Function, Lists, OpensStmt, OpensItems, Apart, OpensCall}
use Rattle.c_objects.specs.Lifetimes.{AreDistinct}
use Rattle.c_steps_laws.specs.Fits.{AreLive, IsReady, Parted}
use Rattle.c_steps_laws.proofs.Accesses.{zero_number}
use Rattle.c_steps_laws.proofs.Initials.{AreFillable, filled_some, goes_after}
use Rattle.c_steps_laws.proofs.Lives.{all_opened, live_opened}
use Rattle.c_steps_laws.proofs.Memory.{IsChanged, changed}
use Rattle.c_steps_laws.proofs.Rows.{Is, scalar_is, want_is}
use Rattle.c_steps_laws.proofs.Rules.{On, fit, stacked_more}
use Rattle.c_steps_laws.proofs.Statements.{none_typed, free_objects}
use Rattle.c_steps_laws.proofs.Values.{Has, made_more}
use Rattle.c_steps_laws.proofs.Kept.{KeepsIn}
use Rattle.c_objects.proofs.Keeping.{Keeps}
use Rattle.c_objects.specs.Statics.{AreWholeInitials}

-- ---- arguments

-- values of these types
abbrev pub AllHave : ℕ → List Scalar → List Value → Type 0
AllHave n [] [] = Unit {0}
AllHave n (ty ∷ tys) (v ∷ vs) = Has n ty v × AllHave n tys vs
AllHave n tys vs = ⊥

abbrev pub wants : List Scalar → List Want
wants tys = map (λ ty. Of ty) tys

-- so many values are taken off a stack that has them
pub record AreTaken (n : ℕ) (tys : List Scalar) (ts : List Want) (before : List Value) (k : ℕ) (s : List Held) : Type 0 where
  pub vs : List Value
  pub left : List Held
  pub is : taken k s before ≡ Some (vs ++ before, left)
  pub typed : AllHave n tys vs
  pub stacked : Stacked n ts left

pair_of : (a b : List Value × List Held) → Some a ≡ Some b → a ≡ b
pair_of a b e = cc

taken_last : (k : ℕ) (s : List Held) (before vs : List Value) (v : Value) (left : List Held) → taken k s before ≡ Some (vs, held v ∷ left)
    → taken (suc k) s before ≡ Some (v ∷ vs, left)
taken_last zero s before vs v left e =
    let both = pair_of (before, s) (vs, held v ∷ left) e in
    let same : s ≡ held v ∷ left = ap (λ x. x.1) both in let values : before ≡ vs = ap (λ x. x.0) both in
    subst (λ z. taken 1 z before ≡ Some (v ∷ vs, left)) (sym same) (ap (λ z. Some (v ∷ z, left)) values)
taken_last (suc k) [] before vs v left e = absurd (cc)
taken_last (suc k) (Plain (givens.Value u) ∷ s) before vs v left e = taken_last k s (u ∷ before) vs v left e
taken_last (suc k) (Plain givens.Nothing ∷ s) before vs v left e = absurd (cc)
taken_last (suc k) (Bytes at u ∷ s) before vs v left e = absurd (cc)

one_taken : (n : ℕ) (ty : Scalar) (tys : List Scalar) (ts : List Want) (before vs : List Value) (k : ℕ) (s left : List Held) → taken k s before ≡ Some (vs ++ before, left)
    → AllHave n tys vs → Stacked n (Of ty ∷ ts) left → AreTaken n (ty ∷ tys) ts before (suc k) s
one_taken n ty tys ts before vs k s left is typed (on_top {s = rest} (is_value {v = v} h made) d) = record {
  vs = v ∷ vs;
  left = rest;
  is = taken_last k s before (vs ++ before) v rest is;
  typed = (record { typed = h; made = made }, typed);
  stacked = d;
}

pub take_args : (n : ℕ) (tys : List Scalar) (ts : List Want) (before : List Value) (s : List Held) → Stacked n (args_on (wants tys) ts) s → AreTaken n tys ts before (length tys) s
take_args n [] ts before s d = record { vs = []; left = s; is = refl; typed = tt; stacked = d }
take_args n (ty ∷ tys) ts before s d =
    let h = take_args n tys (Of ty ∷ ts) before s d in one_taken n ty tys ts before h.vs (length tys) s h.left h.is h.typed h.stacked

-- ---- parameters

-- objects that are scalars of these types
pub data AreScalars (p : TProgramTree) : List ℕ → List Scalar → Type 0 where
  no_scalars : AreScalars p [] []
  more_scalars : {x : ℕ} {xs : List ℕ} {ty : Scalar} {tys : List Scalar} → Is (object_type p x) ty → AreScalars p xs tys → AreScalars p (x ∷ xs) (ty ∷ tys)

abbrev pub IsParam : TProgramTree → ℕ → Type 0
IsParam p param = (param < length p.objects) × IsScalar (object_type p param)

pub params_are : (p : TProgramTree) (xs : List ℕ) → All (IsParam p) xs → (tys : List Scalar) × AreScalars p xs tys
params_are p [] h = ([], no_scalars)
params_are p (x ∷ xs) h =
    let first = All-head (IsParam p) x xs h in
    let rest = params_are p xs (All-tail (IsParam p) x xs h) in
    let a = scalar_is (object_type p x) first.1 in (a.0 ∷ rest.0, more_scalars a.1 rest.1)

pub params_wanted : (p : TProgramTree) {xs : List ℕ} {tys : List Scalar} → AreScalars p xs tys → map (λ x. want_of (object_type p x)) xs ≡ wants tys
params_wanted p no_scalars = refl
params_wanted p (more_scalars {x = x} {xs = xs} {ty = ty} is h) =
    ap (λ w. w ∷ map (λ x. want_of (object_type p x)) xs) (want_is (object_type p x) ty is) ∙ ap (λ ws. Of ty ∷ ws) (params_wanted p h)

pub params_count : (p : TProgramTree) {xs : List ℕ} {tys : List Scalar} → AreScalars p xs tys → length tys ≡ length xs
params_count p no_scalars = refl
params_count p (more_scalars is h) = ap suc (params_count p h)

pub scalar_at : (o : Option ObjectTree) (s : Scalar) → Is (unwrap_or (option_map (λ object. object.ty) o) Void) s → option_and_then (λ object. scalar_of object.ty) o ≡ Some s
scalar_at None s e = absurd (cc)
scalar_at (Some x) s e = e

-- ---- parameters have their values

pub all_have : (n k : ℕ) (tys : List Scalar) (vs : List Value) → n ≤ k → AllHave n tys vs → AllHave k tys vs
all_have n k [] [] le h = tt
all_have n k (ty ∷ tys) (v ∷ vs) le (h, hs) = (record { typed = h.typed; made = made_more n k v le h.made }, all_have n k tys vs le hs)
all_have n k [] (v ∷ vs) le h = absurd h
all_have n k (ty ∷ tys) [] le h = absurd h

changed_on : {W : Type 0} (objects : List ObjectTree) (m n : ObjectMemory) → length n.blocks ≡ length m.blocks → n.places ≡ m.places → {o : Option ObjectMemory} → IsChanged W objects n o
    → IsChanged W objects m o
changed_on objects m n blocks places (changed k kept b s) = changed k kept (b ∙ blocks) (s ∙ places)

changed_then : {W : Type 0} (objects : List ObjectTree) (m : ObjectMemory) (next : ObjectMemory → Option ObjectMemory) {o : Option ObjectMemory} → IsChanged W objects m o
    → ((n : ObjectMemory) → Keeps W objects n → length n.blocks ≡ length m.blocks → n.places ≡ m.places → IsChanged W objects n (next n))
    → IsChanged W objects m (option_and_then next o)
changed_then objects m next (changed n kept blocks places) go = changed_on objects m n blocks places (go n kept blocks places)

module _ (p : TProgramTree) (ok : AreFillable p) where
  pub fill_one : (m : ObjectMemory) (x : ℕ) (ty : Scalar) (v : Value) → KeepsIn p m → IsSome (place_of m x) → Is (object_type p x) ty → Has (length m.blocks) ty v
      → IsChanged (AreWholeInitials p.initial) p.objects m (filled m (object_scalar p.objects x) x 0 v)
  fill_one m x ty v k lives is hv =
      rw (scalar_at (slice_get p.objects x) ty is) (filled_some p m x 0 (object_type p x) ty v (place_of m x) refl lives ok k (whole (object_type p x)) is hv)

  fill_all : {xs : List ℕ} {tys : List Scalar} → AreScalars p xs tys → (vs : List Value) (m : ObjectMemory) → KeepsIn p m
      → ((y : ℕ) → Contains xs y → IsSome (place_of m y)) → AllHave (length m.blocks) tys vs → IsChanged (AreWholeInitials p.initial) p.objects m (all_filled p.objects xs vs m)
  fill_all no_scalars [] m k lives hv = changed m k refl refl
  fill_all no_scalars (v ∷ vs) m k lives hv = absurd hv
  fill_all (more_scalars is h) [] m k lives hv = absurd hv
  fill_all (more_scalars {x = x} {xs = xs} {ty = ty} {tys = tys} is h) (v ∷ vs) m k lives (hv, hvs) =
      changed_then p.objects m (all_filled p.objects xs vs) (fill_one m x ty v k (lives x (first_in x xs)) is hv)
      (λ n kept blocks places. fill_all h vs n kept
      (λ y c. subst (λ (ps : List (Option ℕ)). IsSome (slice_index_or ps y None)) (sym places) (lives y (rest_in x y xs c)))
      (subst (λ z. AllHave z tys vs) (sym blocks) hvs))

  -- ---- a function is entered

  -- what the bodies of a program are
  pub record IsBody (f : ℕ) (function : TFunctionTree) (body : TStmtTree) : Type 0 where
    pub typed : IsTypedBody p function body
    pub stays : GotosStay [] body
    pub params : All (IsParam p) function.params
    pub distinct : AreDistinct function.params
    pub apart : Apart (OpensCall p) body
    pub opens : (u : Use) → OpensStmt (OpensCall p) body u → OpensCall p f u
    pub lists : (y : ℕ) → Contains function.params y → OpensCall p f (Object y)
    pub misses : (y : ℕ) → Contains function.params y → OpensStmt (OpensCall p) body (Object y) → ⊥

  abbrev pub AreBodies : Type 0
  AreBodies = (f : ℕ) (function : TFunctionTree) (body : TStmtTree) → slice_get p.functions f ≡ Some function → function.body ≡ Some body → IsBody f function body

  -- a body is typed behind the block of its parameters
  typed_body : (function : TFunctionTree) (body : TStmtTree) → IsTypedBody p function body → GotosStay [] body
      → TypedStmt (in_items false function.params none (outermost p function.result)) body
  unfolding IsTypedStmt GotosStay labels_among
  typed_body function (Block at kind xs items) t g = (
    subst (λ (live : List ℕ). AreTypedItems (in_block xs (record {
      scope = record { program = p; live = live };
      block = function.params;
      result = function.result;
      breaks = false;
      continues = false;
      cases = false;
    })) items) (sym (append-nil function.params)) t.typed,
    g,
  )
  typed_body function (stmts.Empty at) t g = absurd t.block
  typed_body function (stmts.Expr at e) t g = absurd t.block
  typed_body function (stmts.Declare at x inits z) t g = absurd t.block
  typed_body function (stmts.Static at x) t g = absurd t.block
  typed_body function (stmts.If at c a b) t g = absurd t.block
  typed_body function (stmts.While at c b) t g = absurd t.block
  typed_body function (stmts.DoWhile at b c) t g = absurd t.block
  typed_body function (stmts.For at xs head c e b) t g = absurd t.block
  typed_body function (stmts.Switch at e kind xs items) t g = absurd t.block
  typed_body function (stmts.Break at) t g = absurd t.block
  typed_body function (stmts.Continue at) t g = absurd t.block
  typed_body function (stmts.Goto at j) t g = absurd t.block
  typed_body function (stmts.Return at e) t g = absurd t.block
  typed_body function (stmts.Label at j) t g = absurd t.block
  typed_body function (stmts.Case at n) t g = absurd t.block
  typed_body function (stmts.Default at) t g = absurd t.block

  ready_body : (xs : List ℕ) (w : List Item) (u : Use) → IsReady p w u → (Lists xs u → ⊥) → IsReady p (Close xs none ∷ w) u
  ready_body xs w (Object y) (lt, f) g = (lt, λ o. by_sum o (λ e. f (inl e)) (λ e. by_sum e g (λ c. f (inr c))))
  ready_body xs w (Function x) h g = h

  apart_params : (f : ℕ) (function : TFunctionTree) (body : TStmtTree) → IsBody f function body → (u : Use) → OpensStmt (OpensCall p) body u → Lists function.params u → ⊥
  apart_params f function body b (Object y) o c = b.misses y c o
  apart_params f function body b (Function x) o c = c

  lists_use : (f : ℕ) (function : TFunctionTree) (body : TStmtTree) → IsBody f function body → (u : Use) → Lists function.params u → OpensCall p f u
  lists_use f function body b (Object y) c = b.lists y c
  lists_use f function body b (Function x) c = absurd c

  pub body_row : (at : Option Pos) (f : ℕ) (end : AtEnd) (function : TFunctionTree) (body : TStmtTree) (tys : List Scalar) (vs : List Value) (want : Want) (r : CTypeTree)
      (w : List Item) (ts : List Want) → IsBody f function body → AreScalars p function.params tys → GivesAtEnd function.result at end want → Takes p r w (want ∷ ts)
      → (s : List Held) (m : ObjectMemory) (i : List ℤ) → AllHave (length m.blocks) tys vs → Stacked (length m.blocks) ts s → ((u : Use) → OpensCall p f u → IsReady p w u)
      → Parted (OpensCall p) p w → AreLive p w m → KeepsIn p m → On p (enter_body p at end function.params body vs w s m i)
  body_row at f end function body tys vs want r w ts b scalars_are gives k s m i hv d may q l h =
      let xs = function.params in
      let o = all_opened p.objects xs m b.distinct (free_objects p xs w m (λ u c. may u (lists_use f function body b u c)) l) h in
      let n = open_all p.objects m xs in
      let filled_all = fill_all scalars_are vs n o.kept o.new (all_have (length m.blocks) (length n.blocks) tys vs o.more hv) in
      let live = live_opened p (Reach at end ∷ w) xs none m n o l in
      let typed = typed_body function body b.typed b.stays in
      let inside : (u : Use) → OpensStmt (OpensCall p) body u → IsReady p (Close xs none ∷ Reach at end ∷ w) u =
      λ u c. ready_body xs (Reach at end ∷ w) u (may u (b.opens u c)) (apart_params f function body b u c) in
      let ends : (u : Use) → Lists xs u ⊎ OpensItems (OpensCall p) none u → IsReady p (Reach at end ∷ w) u =
      λ u c. by_sum c (λ g. may u (lists_use f function body b u g)) (λ g. absurd g) in
      goes_after p ok n function.result (Do body ∷ Close xs none ∷ Reach at end ∷ w) ts s i filled_all
      (rules.does typed at_close (close (none_typed (in_items false xs none (outermost p function.result))) (level at_reach) (reach gives k)))
      (stacked_more (length m.blocks) (length n.blocks) o.more d)
      (inside, b.apart, (ends, ((b.distinct, λ y g t. t), tt), ((λ u c. absurd c), tt, q))) live

  pub enter_row : (at : Option Pos) (f : ℕ) (end : AtEnd) (function : TFunctionTree) (body : TStmtTree) (want : Want) (r : CTypeTree) (w : List Item) (ts : List Want)
      → IsBody f function body → slice_get p.functions f ≡ Some function → function.body ≡ Some body → GivesAtEnd function.result at end want → Takes p r w (want ∷ ts)
      → (s : List Held) (m : ObjectMemory) (i : List ℤ) → Stacked (length m.blocks) (args_on (param_wants p function) ts) s → ((u : Use) → OpensCall p f u → IsReady p w u)
      → Parted (OpensCall p) p w → AreLive p w m → KeepsIn p m → On p (enter_step p at f end w s m i)
  enter_row at f end function body want r w ts b found is gives k s m i d may q l h =
      let a = params_are p function.params b.params in
      let args = take_args (length m.blocks) a.0 ts [] s (subst (λ ws. Stacked (length m.blocks) (args_on ws ts) s) (params_wanted p a.1) d) in
      let count = params_count p a.1 in
      let taken_is : taken (length function.params) s [] ≡ Some (args.vs, args.left) =
      ap (λ z. taken z s []) (sym count) ∙ args.is ∙ ap (λ z. Some (z, args.left)) (append-nil args.vs) in
      rw found (rw is (rw taken_is (body_row at f end function body a.0 args.vs want r w ts b a.1 gives k args.left m i args.typed args.stacked may q l h)))

  pub reach_row : (at : Option Pos) (end : AtEnd) {result : CTypeTree} {want : Want} (r : CTypeTree) (w : List Item) (ts : List Want) → GivesAtEnd result at end want
      → Takes p r w (want ∷ ts) → (s : List Held) (m : ObjectMemory) (i : List ℤ) → Stacked (length m.blocks) ts s → Parted (OpensCall p) p w → AreLive p w m
      → KeepsIn p m → On p (reach_step at end w s m i)
  reach_row at end r w ts rules.nothing k s m i d q l h = fit p r w _ m i _ k (on_top is_any d) q l h
  reach_row at end r w ts rules.zero k s m i d q l h = fit p r w _ m i _ k (on_top (is_value {v = values.Int ints.Int (pos 0)} zero_number tt) d) q l h
  reach_row at end r w ts rules.zero_any k s m i d q l h = fit p r w _ m i _ k (on_top is_any d) q l h
  reach_row at end r w ts (rules.wrong e) k s m i d q l h = tt
