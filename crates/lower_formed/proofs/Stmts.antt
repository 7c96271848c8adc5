-- What typed statements are lowered to is right.
use Rattle.std.proofs.Common.{◌≡◌, ◌⊎◌, inl, inr, ℕ, zero, suc, ◌+◌, ◌<◌, ◌≤◌, ◌^◌, pos, List, [], ◌∷◌, ◌++◌, length, Option, Some, None, Bool, true, false, max, refl, sym, ap, ◌∙◌, subst, arith}
use Rattle.std.specs.Prelude.{All, AllPairs, IsTrue, IsSomeAnd, IfSome, Contains, ◌==◌, if◌then◌else◌, slice_get, slice_index_or, option_map, unwrap_or}
use Rattle.std.specs.List.{flat_map}
use Rattle.std.proofs.Math.Nat.{le-max_left, le-max_right}
use Rattle.std.proofs.lemmas.Int.{ints as numbers}
use Rattle.std.proofs.lemmas.List.Elements.{All-nil, All-cons, All-head, All-tail, Contains-append_left, Contains-append_right, Contains-append_cases}
use Rattle.std.proofs.lemmas.Option.{slice_get_within, slice_get-get_or}
use Rattle.c_syntax_written.specs.declared.int_type.IntType.{IntType}
use Rattle.c_syntax_written.specs.declared.int_type.IntType.TheVariants as ints
use Rattle.c_syntax_written.specs.declared.place.Pos.{Pos}
use Rattle.c_syntax_written.specs.Integer.{HasNumber}
use Rattle.c_syntax.specs.Types.{CTypeTree, Void, ObjectTree}
use Rattle.c_syntax.specs.Types as types
use Rattle.c_syntax.specs.TypedExpr.{TExprTree}
use Rattle.c_syntax.specs.TypedStmt as c
use Rattle.c_syntax.specs.TypedStmt.{TInitTree, TStmtTree, TStmtTrees}
use Rattle.c_syntax.specs.GivenType.{given_type}
use Rattle.c_syntax.specs.Program.{TProgramTree}
use Rattle.c_layout.specs.Layout.{align_in, size_in}
use Rattle.c_layout.specs.ProperTypes.{PartAt}
use Rattle.c_layout.specs.Calls.{PlacedCall, calls_of, init_calls, calls_if_there, stmt_calls, item_calls}
use Rattle.c_layout.specs.Jumps.{labels_of, labels_in, listed_of, listed_in, labels_among, cases_among, GotosStay, GotosStayIn}
use Rattle.c_layout.specs.RowTypes.{StoreRow}
use Rattle.c_layout.specs.TypedNodes.{Standing, AreHead, IsTypedStmt, AreTypedItems, IsTypedInit, IsTypedCondition, object_type, in_block, in_switch, in_loop}
use Rattle.c_layout.specs.WellTyped.{IsWellTyped, IsTypedObject}
use Rattle.c_layout.proofs.Parts.{inside}
use Rattle.block_mem.specs.declared.types.Scalar.{Scalar}
use Rattle.block_mem.specs.declared.types.Scalar.TheVariants as scalars
use Rattle.c_values.specs.Values.{scalar_of}
use Rattle.c_objects.specs.Opening.{size_of}
use Rattle.c_steps_laws.proofs.Rows.{store_row}
use Rattle.c_steps_laws.proofs.Expressions.{AreSized}
use Rattle.c_steps_laws.proofs.Sizes.{all_at, element_of}
use Rattle.csharp.specs.Trees.{CsExprTree, Const, Null, Address, CsStmtTree, Nothing, Store, CopyBytes, Undefine, Sequence, Loop, Block, Exit, Scope, Switch, Goto, Return, Label, Case, Default, CsStmtTrees, none, more, CsProgramTree}
use Rattle.csharp.specs.Formed as formed
use Rattle.csharp.specs.Formed.{Around, in_items, Each, EachItem, NamesThere, NamesLive, LivesThere, AreOperandsTyped, IsPointer, IsNumber, AreCasesFormed}
use Rattle.lower_trees.specs.Temps.{temp_at}
use Rattle.lower_trees.specs.Checking.{address_at, moved}
use Rattle.lower_trees.specs.Zeros.{free_or_byte, zero_term, zero_cells, object_scalars}
use Rattle.lower_trees.specs.LowerExpr.{Lowered, or_int, held_scalar, lower_expr}
use Rattle.lower_trees.specs.LowerStmt.{Context, InLoop, InSwitch, Past, break_level, continue_level, init_code, rest_code, inits_code, inits_top, test_of, step_of, with_last, lower_stmt, lower_items}
use Rattle.lower_formed.specs.Right.{Frame, Good, Fine}
use Rattle.lower_formed.proofs.Terms.{R, good_const, good_null, nothing_right, seq_right, block_right, exit_right, store_right, copy_right, branch_right}
use Rattle.lower_formed.proofs.Lists.{moved_good}
use Rattle.lower_formed.proofs.Flat.{cases_kept}
use Rattle.lower_formed.proofs.Nodes.{fine_at, held_is}
use Rattle.lower_formed.proofs.Exprs.{May, fine_expr, struct_is}

zero_number : (t : IntType) → HasNumber t (pos 0)
zero_number ints.Char = record { sfits = omega (arith, numbers) }
zero_number ints.SChar = record { sfits = omega (arith, numbers) }
zero_number ints.UChar = (omega (arith, numbers), omega (arith, numbers))
zero_number ints.Short = record { sfits = omega (arith, numbers) }
zero_number ints.UShort = (omega (arith, numbers), omega (arith, numbers))
zero_number ints.Int = record { sfits = omega (arith, numbers) }
zero_number ints.UInt = (omega (arith, numbers), omega (arith, numbers))
zero_number ints.Long = record { sfits = omega (arith, numbers) }
zero_number ints.ULong = (omega (arith, numbers), omega (arith, numbers))
zero_number ints.LLong = record { sfits = omega (arith, numbers) }
zero_number ints.ULLong = (omega (arith, numbers), omega (arith, numbers))

small_number : (k : ℕ) → k ≤ 2 ^ 40 → HasNumber ints.Long (pos k)
small_number k h = record { sfits = omega (arith, numbers, h) }

below_some : (o : Option ℕ) (k n : ℕ) → IsSomeAnd o (λ m. k + n ≤ m) → ((m : ℕ) → o ≡ Some m → m ≤ 2 ^ 40) → k ≤ 2 ^ 40
below_some None k n h f = absurd h
below_some (Some m) k n h f = let g = f m refl in omega (arith, h, g)

int_of : {t u : IntType} → Some (scalars.Int t) ≡ Some (scalars.Int u) → t ≡ u
int_of e = cc

module _ (q : CsProgramTree) (labels : Frame) where
  abbrev E : Around → CsStmtTree → Type 0
  E around a = Each (R q labels) around a

  abbrev EI : Around → CsStmtTrees → Type 0
  EI around items = EachItem (R q labels) around items

  no_names : All (NamesThere q) []
  no_names = All-nil (NamesThere q)

  no_temps : All (λ d. d < length q.temps) []
  no_temps = All-nil (λ d. d < length q.temps)

  no_objects : All (λ x. x < length q.objects) []
  no_objects = All-nil (λ x. x < length q.objects)

  one_name : (e : CsExprTree) → NamesThere q e → All (NamesThere q) (e ∷ [])
  one_name e h = All-cons (NamesThere q) e [] h no_names

  no_live : (around : Around) → All (NamesLive q around) []
  no_live around = All-nil (NamesLive q around)

  one_live : (around : Around) (e : CsExprTree) → NamesLive q around e → All (NamesLive q around) (e ∷ [])
  one_live around e h = All-cons (NamesLive q around) e [] h (no_live around)

  no_lives : (around : Around) → All (LivesThere q around) []
  no_lives around = All-nil (LivesThere q around)

  no_ops : All (AreOperandsTyped q) []
  no_ops = All-nil (AreOperandsTyped q)

  one_ops : (e : CsExprTree) → AreOperandsTyped q e → All (AreOperandsTyped q) (e ∷ [])
  one_ops e h = All-cons (AreOperandsTyped q) e [] h no_ops

  abbrev AllObjects : List ℕ → Type 0
  AllObjects xs = All (λ x. x < length q.objects) xs

  -- ---- statements that hold others, and jumps
  pub scope_right : (around : Around) (xs : List ℕ) (items : CsStmtTrees) → AllObjects xs → EI (in_items xs items around) items → E around (Scope xs items)
  scope_right around xs items o h =
      (record { numbers = (no_names, no_temps, o, tt); live = (no_live around, no_lives around); types = (no_ops, tt); checks = tt; gotos = tt; gives = tt; cases = tt }, h)

  pub switch_right : (around : Around) (e : CsExprTree) (xs : List ℕ) (items : CsStmtTrees) → Good q around e → IsNumber q e → AllObjects xs → AreCasesFormed q (Switch e xs items)
      → EI (in_items xs items around) items → E around (Switch e xs items)
  switch_right around e xs items g k o f h =
      (record { numbers = (one_name e g.there, no_temps, o, tt); live = (one_live around e g.live, no_lives around); types = (one_ops e g.operands, k); checks = tt; gotos = tt; gives = tt; cases = f }, h)

  -- the value has one type
  one_type : (e : CsExprTree) (t u : IntType) → formed.HasType q (scalars.Int t) e → formed.HasType q (scalars.Int u) e → t ≡ u
  one_type e t u h k = int_of (sym h ∙ k)

  -- the cases of a switch are those of its items
  pub cases_right : (p : TProgramTree) (d : ℕ) (k : Context) (e : CsExprTree) (xs : List ℕ) (items : TStmtTrees) (t : IntType) → formed.HasType q (scalars.Int t) e
      → All (HasNumber t) (cases_among items) → AllPairs (λ a b. a ≡ b → ⊥) (cases_among items) → AreCasesFormed q (Switch e xs (lower_items p d k items).items)
  cases_right p d k e xs items t is fit differ = (
    λ u h. subst (λ js. All (HasNumber u) js) (sym (cases_kept p d k items)) (subst (λ v. All (HasNumber v) (cases_among items)) (one_type e t u is h) fit),
    subst (λ js. AllPairs (λ a b. a ≡ b → ⊥) js) (sym (cases_kept p d k items)) differ,
  )

  pub loop_right : (around : Around) (at : Pos) (a : CsStmtTree) → E around a → E around (Loop at a)
  loop_right around at a h =
      (record { numbers = (no_names, no_temps, no_objects, tt); live = (no_live around, no_lives around); types = (no_ops, tt); checks = tt; gotos = tt; gives = tt; cases = tt }, h)

  pub goto_right : (around : Around) (l : ℕ) → Contains labels.names l → Contains around.labels l → E around (Goto l)
  goto_right around l h k = record { numbers = (no_names, no_temps, no_objects, h); live = (no_live around, no_lives around); types = (no_ops, tt); checks = tt; gotos = k; gives = tt; cases = tt }

  pub label_right : (around : Around) (at : Pos) (l : ℕ) → E around (Label at l)
  label_right around at l = record { numbers = (no_names, no_temps, no_objects, tt); live = (no_live around, no_lives around); types = (no_ops, tt); checks = tt; gotos = tt; gives = tt; cases = tt }

  pub case_right : (around : Around) (k : _) → E around (Case k)
  case_right around k = record { numbers = (no_names, no_temps, no_objects, tt); live = (no_live around, no_lives around); types = (no_ops, tt); checks = tt; gotos = tt; gives = tt; cases = tt }

  pub default_right : (around : Around) → E around Default
  default_right around = record { numbers = (no_names, no_temps, no_objects, tt); live = (no_live around, no_lives around); types = (no_ops, tt); checks = tt; gotos = tt; gives = tt; cases = tt }

  pub empty_return : (around : Around) → E around (Return None)
  empty_return around = record { numbers = (no_names, no_temps, no_objects, tt); live = (no_live around, no_lives around); types = (no_ops, tt); checks = tt; gotos = tt; gives = tt; cases = tt }

  pub return_right : (around : Around) (e : CsExprTree) → Good q around e → ((s : Scalar) → labels.result ≡ Some s → formed.HasType q s e) → E around (Return (Some e))
  return_right around e g h = record { numbers = (one_name e g.there, no_temps, no_objects, tt); live = (one_live around e g.live, no_lives around); types = (one_ops e g.operands, tt); checks = tt; gotos = tt; gives = h; cases = tt }

  lives_within : (o : Option ObjectTree) (around : Around) (x : ℕ) → slice_get q.objects x ≡ o → IsSomeAnd o (λ o. IsTrue o.is_static ⊎ Contains around.live x) → x < length q.objects
  lives_within None around x e h = absurd h
  lives_within (Some o) around x e h = slice_get_within q.objects x o e

  pub undefine_right : (around : Around) (x : ℕ) → LivesThere q around x → E around (Undefine x)
  undefine_right around x h = record {
    numbers = (no_names, no_temps, no_objects, lives_within (slice_get q.objects x) around x refl h);
    live = (no_live around, All-cons (LivesThere q around) x [] h (no_lives around));
    types = (no_ops, tt);
    checks = tt;
    gotos = tt;
    gives = tt;
    cases = tt;
  }

  -- ---- addresses of bytes of an object
  pub object_good : (around : Around) (x : ℕ) → LivesThere q around x → Good q around (Address x)
  object_good around x h = record { there = lives_within (slice_get q.objects x) around x refl h; live = h; operands = tt }

  offset_good : (around : Around) (x offset : ℕ) (z : Bool) → LivesThere q around x → offset ≤ 2 ^ 40
      → Good q around (if z then Address x else moved (Address x) offset) × IsPointer q (if z then Address x else moved (Address x) offset)
  offset_good around x offset true h k = (object_good around x h, refl)
  offset_good around x offset false h k = (moved_good q labels around (Address x) offset (small_number offset k) (object_good around x h) refl, refl)

  pub address_good : (around : Around) (x offset : ℕ) → LivesThere q around x → offset ≤ 2 ^ 40 → Good q around (address_at x offset) × IsPointer q (address_at x offset)
  address_good around x offset h k = offset_good around x offset (offset == 0) h k

  -- ---- zeros
  zero_good : (around : Around) (ty : Scalar) → Good q around (zero_term ty) × formed.HasType q ty (zero_term ty)
  zero_good around (scalars.Int t) = (good_const q labels t (pos 0) around (zero_number t), refl)
  zero_good around scalars.Pointer = (good_null q labels around, refl)

  zero_store : (around : Around) (x k : ℕ) (ty : Scalar) → LivesThere q around x → k ≤ 2 ^ 40 → E around (Store ty (address_at x k) (zero_term ty))
  zero_store around x k ty h le =
      let a = address_good around x k h le in let z = zero_good around ty in
      store_right q labels around ty (address_at x k) (zero_term ty) a.0 a.1 z.0 z.1

  if_right : (around : Around) (z : Bool) (a b : CsStmtTrees) → EI around a → EI around b → EI around (if z then a else b)
  if_right around true a b h k = h
  if_right around false a b h k = k

  pub cells_right : (around : Around) (at : ℕ → Option Scalar) (named : ℕ → Bool) (x left skip k : ℕ) (rest : CsStmtTrees) → LivesThere q around x → k + left ≤ 2 ^ 40 → EI around rest
      → EI around (zero_cells at named x k skip left rest)
  cells_right around at named x zero skip k rest h le r = r
  cells_right around at named x (suc left) (suc skip) k rest h le r = cells_right around at named x left skip (suc k) rest h (omega (arith, le)) r
  cells_right around at named x (suc left) zero k rest h le r =
      if_right around (named k) _ _ (cells_right around at named x left zero (suc k) rest h (omega (arith, le)) r)
      (zero_store around x k (free_or_byte named k (suc left) (at k)) h (omega (arith, le)), cells_right around at named x left _ (suc k) rest h (omega (arith, le)) r)

two_rooms : (n k l : ℕ) → max k l ≤ n → (k ≤ n) × (l ≤ n)
two_rooms n k l h = (let x = le-max_left k l in omega (arith, x, h), let x = le-max_right k l in omega (arith, x, h))

three_rooms : (n j k l : ℕ) → max j (max k l) ≤ n → (j ≤ n) × (k ≤ n) × (l ≤ n)
three_rooms n j k l h = let a = two_rooms n j (max k l) h in let b = two_rooms n k l a.1 in (a.0, b.0, b.1)

-- a label right among items is one in them
pub among_in : (items : TStmtTrees) (l : ℕ) → Contains (labels_among items) l → Contains (labels_in items) l
unfolding labels_among labels_of
among_in c.none l h = h
among_in (c.more (c.Label at k) rest) l h = elim (Contains-append_cases (k ∷ []) (labels_among rest) l h) [
  | inl here ↦ Contains-append_left (k ∷ []) (labels_in rest) l here
  | inr there ↦ Contains-append_right (k ∷ []) (labels_in rest) l (among_in rest l there)
]
among_in (c.more (c.Empty at) rest) l h = Contains-append_right [] (labels_in rest) l (among_in rest l h)
among_in (c.more (c.Expr at e) rest) l h = Contains-append_right [] (labels_in rest) l (among_in rest l h)
among_in (c.more (c.Block at kind xs items) rest) l h = Contains-append_right (labels_in items) (labels_in rest) l (among_in rest l h)
among_in (c.more (c.Declare at x inits z) rest) l h = Contains-append_right [] (labels_in rest) l (among_in rest l h)
among_in (c.more (c.Static at x) rest) l h = Contains-append_right [] (labels_in rest) l (among_in rest l h)
among_in (c.more (c.If at e a b) rest) l h = Contains-append_right (labels_of (c.If at e a b)) (labels_in rest) l (among_in rest l h)
among_in (c.more (c.While at e b) rest) l h = Contains-append_right (labels_of b) (labels_in rest) l (among_in rest l h)
among_in (c.more (c.DoWhile at b e) rest) l h = Contains-append_right (labels_of b) (labels_in rest) l (among_in rest l h)
among_in (c.more (c.For at xs head e step b) rest) l h = Contains-append_right (labels_of (c.For at xs head e step b)) (labels_in rest) l (among_in rest l h)
among_in (c.more (c.Switch at e kind xs items) rest) l h = Contains-append_right (labels_in items) (labels_in rest) l (among_in rest l h)
among_in (c.more (c.Break at) rest) l h = Contains-append_right [] (labels_in rest) l (among_in rest l h)
among_in (c.more (c.Continue at) rest) l h = Contains-append_right [] (labels_in rest) l (among_in rest l h)
among_in (c.more (c.Goto at k) rest) l h = Contains-append_right [] (labels_in rest) l (among_in rest l h)
among_in (c.more (c.Return at e) rest) l h = Contains-append_right [] (labels_in rest) l (among_in rest l h)
among_in (c.more (c.Case at k) rest) l h = Contains-append_right [] (labels_in rest) l (among_in rest l h)
among_in (c.more (c.Default at) rest) l h = Contains-append_right [] (labels_in rest) l (among_in rest l h)

-- a label behind an item is one with it
behind_item : (item : CsStmtTree) (rest : CsStmtTrees) (l : ℕ) → Contains (formed.labels_among rest) l → Contains (formed.labels_among (more item rest)) l
behind_item (Label at k) rest l h = Contains-append_right (k ∷ []) (formed.labels_among rest) l h
behind_item Nothing rest l h = h
behind_item (Rattle.csharp.specs.Trees.Set d e) rest l h = h
behind_item (Rattle.csharp.specs.Trees.Load d ty e) rest l h = h
behind_item (Store ty e f) rest l h = h
behind_item (CopyBytes k e f) rest l h = h
behind_item (Undefine x) rest l h = h
behind_item (Rattle.csharp.specs.Trees.Checked k) rest l h = h
behind_item (Rattle.csharp.specs.Trees.Input d t) rest l h = h
behind_item (Rattle.csharp.specs.Trees.Assume e) rest l h = h
behind_item (Sequence a b) rest l h = h
behind_item (Rattle.csharp.specs.Trees.If e a b) rest l h = h
behind_item (Loop at a) rest l h = h
behind_item (Block a) rest l h = h
behind_item (Exit k) rest l h = h
behind_item (Scope xs items) rest l h = h
behind_item (Switch e xs items) rest l h = h
behind_item (Goto k) rest l h = h
behind_item (Rattle.csharp.specs.Trees.Call k) rest l h = h
behind_item (Return e) rest l h = h
behind_item (Case k) rest l h = h
behind_item Default rest l h = h

-- a label right among items is one right among what they are lowered to
among_lowered : (p : TProgramTree) (d : ℕ) (k : Context) (items : TStmtTrees) (l : ℕ) → Contains (labels_among items) l → Contains (formed.labels_among (lower_items p d k items).items) l
unfolding labels_among
among_lowered p d k c.none l h = h
among_lowered p d k (c.more (c.Label at j) rest) l h = elim (Contains-append_cases (j ∷ []) (labels_among rest) l h) [
  | inl here ↦ Contains-append_left (j ∷ []) (formed.labels_among (lower_items p d k rest).items) l here
  | inr there ↦ Contains-append_right (j ∷ []) (formed.labels_among (lower_items p d k rest).items) l (among_lowered p d k rest l there)
]
among_lowered p d k (c.more (c.Empty at) rest) l h = behind_item Nothing (lower_items p d k rest).items l (among_lowered p d k rest l h)
among_lowered p d k (c.more (c.Expr at e) rest) l h = behind_item (lower_stmt p d k (c.Expr at e)).code (lower_items p d k rest).items l (among_lowered p d k rest l h)
among_lowered p d k (c.more (c.Block at kind xs items) rest) l h = behind_item (lower_stmt p d k (c.Block at kind xs items)).code (lower_items p d k rest).items l (among_lowered p d k rest l h)
among_lowered p d k (c.more (c.Declare at x inits z) rest) l h = behind_item (lower_stmt p d k (c.Declare at x inits z)).code (lower_items p d k rest).items l (among_lowered p d k rest l h)
among_lowered p d k (c.more (c.Static at x) rest) l h = behind_item (lower_stmt p d k (c.Static at x)).code (lower_items p d k rest).items l (among_lowered p d k rest l h)
among_lowered p d k (c.more (c.If at e a b) rest) l h = behind_item (lower_stmt p d k (c.If at e a b)).code (lower_items p d k rest).items l (among_lowered p d k rest l h)
among_lowered p d k (c.more (c.While at e b) rest) l h = behind_item (lower_stmt p d k (c.While at e b)).code (lower_items p d k rest).items l (among_lowered p d k rest l h)
among_lowered p d k (c.more (c.DoWhile at b e) rest) l h = behind_item (lower_stmt p d k (c.DoWhile at b e)).code (lower_items p d k rest).items l (among_lowered p d k rest l h)
among_lowered p d k (c.more (c.For at xs head e step b) rest) l h = behind_item (lower_stmt p d k (c.For at xs head e step b)).code (lower_items p d k rest).items l (among_lowered p d k rest l h)
among_lowered p d k (c.more (c.Switch at e kind xs items) rest) l h = behind_item (lower_stmt p d k (c.Switch at e kind xs items)).code (lower_items p d k rest).items l (among_lowered p d k rest l h)
among_lowered p d k (c.more (c.Break at) rest) l h = behind_item (lower_stmt p d k (c.Break at)).code (lower_items p d k rest).items l (among_lowered p d k rest l h)
among_lowered p d k (c.more (c.Continue at) rest) l h = behind_item (lower_stmt p d k (c.Continue at)).code (lower_items p d k rest).items l (among_lowered p d k rest l h)
among_lowered p d k (c.more (c.Goto at j) rest) l h = behind_item (lower_stmt p d k (c.Goto at j)).code (lower_items p d k rest).items l (among_lowered p d k rest l h)
among_lowered p d k (c.more (c.Return at e) rest) l h = behind_item (lower_stmt p d k (c.Return at e)).code (lower_items p d k rest).items l (among_lowered p d k rest l h)
among_lowered p d k (c.more (c.Case at j) rest) l h = behind_item (lower_stmt p d k (c.Case at j)).code (lower_items p d k rest).items l (among_lowered p d k rest l h)
among_lowered p d k (c.more (c.Default at) rest) l h = behind_item (lower_stmt p d k (c.Default at)).code (lower_items p d k rest).items l (among_lowered p d k rest l h)

-- the exits of breaks and continues are there
pub record HasExits (k : Context) (br co : Bool) (exits : ℕ) : Type 0 where
  pub breaks : IsTrue br → break_level k < exits
  pub continues : IsTrue co → continue_level k < exits

module _ (p : TProgramTree) (ok : IsWellTyped p) (sized : AreSized p) (aligned : (ty : CTypeTree) → 1 ≤ align_in p.structs ty)
    (q : CsProgramTree) (objects : q.objects ≡ p.objects) (labels : Frame) (n : ℕ) (there : (d : ℕ) (ty : Scalar) → d < n → slice_get q.temps (temp_at d ty) ≡ Some ty) (result : CTypeTree) (same : labels.result ≡ scalar_of result) where
  abbrev May' : List PlacedCall → Type 0
  May' cs = May p ok sized aligned q objects labels n there cs

  may_left : (xs ys : List PlacedCall) → May' (xs ++ ys) → May' xs
  may_left xs ys h k m = h k (Contains-append_left xs ys k m)

  may_right : (xs ys : List PlacedCall) → May' (xs ++ ys) → May' ys
  may_right xs ys h k m = h k (Contains-append_right xs ys k m)

  abbrev Into : List ℕ → List ℕ → Type 0
  Into xs ys = (x : ℕ) → Contains xs x → Contains ys x

  into_left : (xs ys zs : List ℕ) → Into (xs ++ ys) zs → Into xs zs
  into_left xs ys zs h x m = h x (Contains-append_left xs ys x m)

  into_right : (xs ys zs : List ℕ) → Into (xs ++ ys) zs → Into ys zs
  into_right xs ys zs h x m = h x (Contains-append_right xs ys x m)

  into_both : (xs ys zs ws : List ℕ) → Into xs ws → Into ys zs → Into (xs ++ ys) (ws ++ zs)
  into_both xs ys zs ws f g x m = elim (Contains-append_cases xs ys x m) [
    | inl a ↦ Contains-append_left ws zs x (f x a)
    | inr b ↦ Contains-append_right ws zs x (g x b)
  ]

  -- objects that are there
  abbrev Are : List ℕ → Type 0
  Are xs = (x : ℕ) → Contains xs x → x < length q.objects

  are_left : (xs ys : List ℕ) → Are (xs ++ ys) → Are xs
  are_left xs ys h x m = h x (Contains-append_left xs ys x m)

  are_right : (xs ys : List ℕ) → Are (xs ++ ys) → Are ys
  are_right xs ys h x m = h x (Contains-append_right xs ys x m)

  all_are : (xs : List ℕ) → Are xs → All (λ x. x < length q.objects) xs
  all_are [] h = All-nil (λ x. x < length q.objects)
  all_are (x ∷ xs) h = All-cons (λ x. x < length q.objects) x xs (h x (0, omega arith, refl)) (all_are xs (λ y m. h y (Contains-append_right (x ∷ []) xs y m)))

  abbrev St : List ℕ → List ℕ → CTypeTree → Bool → Bool → Bool → Standing
  St live block result breaks continues cases =
      record { scope = record { program = p; live = live }; block = block; result = result; breaks = breaks; continues = continues; cases = cases }

  -- an expression that is evaluated for its effects, and one for its value
  effect_right : (e : TExprTree) (live : List ℕ) (wanted : Bool) (d : ℕ) (around : Around) → Rattle.c_layout.specs.TypedNodes.IsTypedExpr (record { program = p; live = live }) wanted e → May' (calls_of e)
      → Into live around.live → (lower_expr p d e).value.top ≤ n → Fine q labels around (held_scalar (given_type e)) (lower_expr p d e).value
  effect_right e live wanted d around t may cov room = (fine_expr p ok sized aligned q objects labels n there e live wanted d t may around cov).value room

  test_right : (e : TExprTree) (live : List ℕ) (d : ℕ) (around : Around) (at : Pos) → IsTypedCondition (record { program = p; live = live }) e → May' (calls_of e) → Into live around.live
      → (lower_expr p d e).value.top ≤ n → 0 < around.exits → E q labels around ((lower_expr p d e).unless at 0)
  test_right e live d around at (t, sc) may cov room lt = (fine_expr p ok sized aligned q objects labels n there e live true d t may around cov).unless room sc at 0 lt

  no_object : ObjectTree
  no_object = record { name = []; pos = record { file = 0; line = 0; col = 0 }; ty = Void; size = 0; is_static = false; read_only = false }

  -- ---- initialisers
  object_is : (o : Option ObjectTree) (whole part : CTypeTree) (offset k : ℕ) (x : ℕ) → slice_get p.objects x ≡ o → unwrap_or (option_map (λ object. object.ty) o) Void ≡ whole
      → PartAt p.structs whole offset part → size_in p.structs part ≡ Some k → x < length p.objects → offset ≤ 2 ^ 40
  object_is None whole part offset k x e w h s lt = let f : Some (slice_index_or p.objects x no_object) ≡ None = sym (slice_get-get_or p.objects x no_object lt) ∙ e in absurd (cc)
  object_is (Some o) whole part offset k x e w h s lt =
      let typed = all_at (IsTypedObject p.structs) p.objects x o ok.objects e in
      below_some (size_in p.structs whole) offset k (inside p.structs ok.structs.laid_out k h s)
      (λ m is. (element_of p.structs ok.structs whole m (subst (λ t. Rattle.c_layout.specs.ProperTypes.IsProperType p.structs t) w typed.ty) is).1)

  scalar_size : (ty : CTypeTree) → Rattle.c_layout.specs.RowTypes.IsScalar ty → (k : ℕ) × (size_in p.structs ty ≡ Some k)
  scalar_size Void h = absurd h
  scalar_size (types.Int t) h = (_, refl)
  scalar_size (types.Pointer to k) h = (_, refl)
  scalar_size (types.Array of k m) h = absurd h
  scalar_size (types.Struct k) h = absurd h
  scalar_size (types.Function k) h = absurd h

  part_small : (x : ℕ) (part : CTypeTree) (offset k : ℕ) → PartAt p.structs (object_type p x) offset part → size_in p.structs part ≡ Some k → x < length p.objects → offset ≤ 2 ^ 40
  part_small x part offset k h s lt = object_is (slice_get p.objects x) (object_type p x) part offset k x refl refl h s lt

  store_any : (around : Around) (o : Option Scalar) (s : Scalar) (place : CsExprTree) (a : Lowered) → o ≡ Some s → Good q around place → IsPointer q place → Fine q labels around (Some s) a
      → E q labels around (Sequence a.before (Store (or_int o) place a.value))
  store_any around o s place a e g h k =
      subst (λ z. E q labels around (Sequence a.before (Store (or_int z) place a.value))) (sym e)
      (seq_right q labels around a.before _ k.before (store_right q labels around s place a.value g h k.good (k.is s refl)))

  init_right : (init : TInitTree) (live : List ℕ) (x d : ℕ) (around : Around) → IsTypedInit (record { program = p; live = live }) (object_type p x) init → May' (init_calls init) → Into live around.live
      → LivesThere q around x → x < length p.objects → (init_code p d x init).top ≤ n → E q labels around (init_code p d x init).code
  init_right (c.Store offset ty value) live x d around (tv, part, row) may cov lives lt room =
      let s = store_row ty (given_type value) row in
      let k = scalar_size ty row.scalar in
      let a = address_good q labels around x offset lives (part_small x ty offset k.0 part k.1 lt) in
      store_any around (scalar_of ty) s.0 (address_at x offset) (lower_expr p d value).value s.1 a.0 a.1
      (fine_at p q labels n there around _ (given_type value) s.0 s.2 (effect_right value live true d around tv may cov room))
  init_right (c.Copy offset extent source) live x d around (ts, part, at, row) may cov lives lt room =
      let a = address_good q labels around x offset lives (part_small x part offset extent.size at row.size lt) in
      let le = subst (λ z. 1 ≤ z) row.align (aligned part) in
      let f = (fine_expr p ok sized aligned q objects labels n there source live true d ts may around cov).source extent.size extent.align le room (struct_is (given_type source) row.number row.source_struct) in
      seq_right q labels around _ _ f.before (copy_right q labels around extent.size (address_at x offset) _ a.0 a.1 f.good (f.is scalars.Pointer refl))

  inits_right : (inits : List TInitTree) (live : List ℕ) (x d : ℕ) (around : Around) (rest : CsStmtTrees) → All (λ init. IsTypedInit (record { program = p; live = live }) (object_type p x) init) inits
      → May' (flat_map init_calls inits) → Into live around.live → LivesThere q around x → x < length p.objects → inits_top p d x inits ≤ n → EI q labels around rest
      → EI q labels around (inits_code p d x inits rest)
  inits_right [] live x d around rest t may cov lives lt room h = h
  inits_right (init ∷ inits) live x d around rest t may cov lives lt room h =
      let rooms = two_rooms n (init_code p d x init).top (inits_top p d x inits) room in (
        init_right init live x d around (All-head (λ i. IsTypedInit (record { program = p; live = live }) (object_type p x) i) init inits t) (may_left (init_calls init) (flat_map init_calls inits) may) cov lives lt rooms.0,
        inits_right inits live x d around rest (All-tail (λ i. IsTypedInit (record { program = p; live = live }) (object_type p x) i) init inits t) (may_right (init_calls init) (flat_map init_calls inits) may) cov lives lt rooms.1 h,
      )

  size_small : (o : Option ObjectTree) (x : ℕ) → slice_get p.objects x ≡ o → unwrap_or (option_map (λ object. object.size) o) 0 ≤ 2 ^ 40
  size_small None x e = omega arith
  size_small (Some o) x e =
      let typed = all_at (IsTypedObject p.structs) p.objects x o ok.objects e in (element_of p.structs ok.structs o.ty o.size typed.ty typed.size).1

  rest_right : (x : ℕ) (inits : List TInitTree) (z : Bool) (around : Around) → LivesThere q around x → EI q labels around (rest_code p x inits z)
  rest_right x inits true around h =
      let le = size_small (slice_get p.objects x) x refl in
      cells_right q labels around (object_scalars p x) _ x (size_of p.objects x) 0 0 none h (omega (arith, le)) tt
  rest_right x inits false around h = tt

  pub lives_of : (around : Around) (x : ℕ) → x < length q.objects → Contains around.live x → LivesThere q around x
  lives_of around x lt h = subst (λ z. IsSomeAnd z (λ o. IsTrue o.is_static ⊎ Contains around.live x)) (sym (slice_get-get_or q.objects x no_object lt)) (inr h)

  -- ---- statements
  -- what a statement stands in, and what its code does
  pub record StandsIn (live block ls : List ℕ) (k : Context) (br co : Bool) (around : Around) : Type 0 where
    pub lives : Into live around.live
    pub blocks : Into block around.live
    pub are : Are block
    pub sees : Into ls around.labels
    pub known : Into ls labels.names
    pub exits : HasExits k br co around.exits

  past : {live block ls : List ℕ} {k : Context} {br co : Bool} {around : Around} → StandsIn live block ls k br co around → StandsIn live block ls (Past k) br co (formed.in_block around)
  past {around = around} h = record {
    lives = h.lives;
    blocks = h.blocks;
    are = h.are;
    sees = h.sees;
    known = h.known;
    exits = record { breaks = λ t. let x = h.exits.breaks t in omega (arith, x); continues = λ t. let x = h.exits.continues t in omega (arith, x) };
  }

  looped : {live block ls : List ℕ} {k : Context} {br co : Bool} {around : Around} → StandsIn live block ls k br co around
      → StandsIn live block ls InLoop true true (formed.in_block (formed.in_block around))
  looped {around = around} h = record {
    lives = h.lives;
    blocks = h.blocks;
    are = h.are;
    sees = h.sees;
    known = h.known;
    exits = record { breaks = λ t. omega arith; continues = λ t. omega arith };
  }

  within : {live block ls : List ℕ} {k : Context} {br co : Bool} {around : Around} (xs : List ℕ) (items : TStmtTrees) (code : CsStmtTrees) → StandsIn live block ls k br co around
      → Into (labels_among items) (formed.labels_among code) → Into (labels_in items) labels.names → Are xs
      → StandsIn (xs ++ live) xs (labels_among items ++ ls) k br co (in_items xs code around)
  within {live} {block} {ls} {around = around} xs items code h see into are = record {
    lives = λ x m. elim (Contains-append_cases xs live x m) [ inl a ↦ Contains-append_left xs around.live x a | inr b ↦ Contains-append_right xs around.live x (h.lives x b) ];
    blocks = λ x m. Contains-append_left xs around.live x m;
    are = are;
    sees = into_both (labels_among items) ls around.labels (formed.labels_among code) see h.sees;
    known = λ l m. elim (Contains-append_cases (labels_among items) ls l m) [ inl a ↦ into l (among_in items l a) | inr b ↦ h.known l b ];
    exits = h.exits;
  }

  last_right : (around : Around) (items : CsStmtTrees) (last : CsStmtTree) → EI q labels around items → E q labels around last → EI q labels around (with_last items last)
  last_right around none last h k = (k, tt)
  last_right around (more item rest) last h k = (h.0, last_right around rest last h.1 k)

  -- no goto stands in the head of a loop
  head_stays : (ls : List ℕ) (head : TStmtTrees) → AreHead head → GotosStayIn ls head
  unfolding AreHead GotosStay
  head_stays ls c.none h = tt
  head_stays ls (c.more (c.Expr at e) rest) h = (tt, head_stays ls rest h.1)
  head_stays ls (c.more (c.Declare at x inits z) rest) h = (tt, head_stays ls rest h.1)
  head_stays ls (c.more (c.Static at x) rest) h = (tt, head_stays ls rest h.1)
  head_stays ls (c.more (c.Empty at) rest) h = absurd h.0
  head_stays ls (c.more (c.Block at kind xs items) rest) h = absurd h.0
  head_stays ls (c.more (c.If at e a b) rest) h = absurd h.0
  head_stays ls (c.more (c.While at e b) rest) h = absurd h.0
  head_stays ls (c.more (c.DoWhile at b e) rest) h = absurd h.0
  head_stays ls (c.more (c.For at xs head e step b) rest) h = absurd h.0
  head_stays ls (c.more (c.Switch at e kind xs items) rest) h = absurd h.0
  head_stays ls (c.more (c.Break at) rest) h = absurd h.0
  head_stays ls (c.more (c.Continue at) rest) h = absurd h.0
  head_stays ls (c.more (c.Goto at k) rest) h = absurd h.0
  head_stays ls (c.more (c.Return at e) rest) h = absurd h.0
  head_stays ls (c.more (c.Label at k) rest) h = absurd h.0
  head_stays ls (c.more (c.Case at k) rest) h = absurd h.0
  head_stays ls (c.more (c.Default at) rest) h = absurd h.0

  -- parts that may be missing
  turn_test : (o : Option TExprTree) (live : List ℕ) (d : ℕ) (around : Around) (at : Pos) → IfSome o (IsTypedCondition (record { program = p; live = live })) → May' (calls_if_there o) → Into live around.live
      → (test_of p d at o).top ≤ n → 0 < around.exits → E q labels around (test_of p d at o).code
  turn_test None live d around at t may cov room lt = nothing_right q labels around
  turn_test (Some e) live d around at t may cov room lt = test_right e live d around at t may cov room lt

  turn_step : (o : Option TExprTree) (live : List ℕ) (d : ℕ) (around : Around) → IfSome o (Rattle.c_layout.specs.TypedNodes.IsTypedExpr (record { program = p; live = live }) false) → May' (calls_if_there o)
      → Into live around.live → (step_of p d o).top ≤ n → E q labels around (step_of p d o).code
  turn_step None live d around t may cov room = nothing_right q labels around
  turn_step (Some e) live d around t may cov room = (effect_right e live false d around t may cov room).before

  loop_is : (around : Around) (at : Pos) (test body step : CsStmtTree) → E q labels (formed.in_block around) test → E q labels (formed.in_block (formed.in_block around)) body
      → E q labels (formed.in_block around) step → E q labels around (Block (Loop at (Sequence test (Sequence (Block body) step))))
  loop_is around at test body step h k l =
      let inner = formed.in_block around in
      block_right q labels around _ (loop_right q labels inner at _ (seq_right q labels inner test _ h (seq_right q labels inner (Block body) step (block_right q labels inner body k) l)))

  -- what is stored as the result has its scalar
  same_held : (e : TExprTree) (ty : CTypeTree) → StoreRow ty (given_type e) → scalar_of ty ≡ held_scalar (given_type e)
  same_held e ty row = let s = store_row ty (given_type e) row in s.1 ∙ sym (held_is (given_type e) s.0 s.2)

  mutual
    unfolding IsTypedStmt GotosStay stmt_calls labels_of listed_of AreHead labels_among

    pub right_stmt : (b : TStmtTree) (live block ls : List ℕ) (br co ca : Bool) (d : ℕ) (k : Context) → IsTypedStmt (St live block result br co ca) b → GotosStay ls b → May' (stmt_calls b)
        → Into (labels_of b) labels.names → Are (listed_of b) → (around : Around) → StandsIn live block ls k br co around → (lower_stmt p d k b).top ≤ n → E q labels around (lower_stmt p d k b).code
    right_stmt (c.Empty at) live block ls br co ca d k t g may into are around h room = nothing_right q labels around
    right_stmt (c.Expr at e) live block ls br co ca d k t g may into are around h room = (effect_right e live false d around t may h.lives room).before
    right_stmt (c.Block at kind xs items) live block ls br co ca d k t g may into are around h room =
        let code = (lower_items p d k items).items in
        scope_right q labels around xs code (all_are xs (are_left xs (listed_in items) are))
        (right_items items (xs ++ live) xs (labels_among items ++ ls) br co false d k t g may into (are_right xs (listed_in items) are) (in_items xs code around)
        (within xs items code h (among_lowered p d k items) into (are_left xs (listed_in items) are)) room)
    right_stmt (c.Declare at x inits z) live block ls br co ca d k (here, t) g may into are around h room =
        let rest = rest_code p x inits z in
        let code = more (Undefine x) (inits_code p d x inits rest) in
        let inner = in_items [] code around in
        let lt = h.are x here in
        let lives = lives_of inner x lt (h.blocks x here) in
        scope_right q labels around [] code (all_are [] (λ y m. absurd (let z = m.1 in omega (arith, z))))
        (undefine_right q labels inner x lives, inits_right inits live x d inner rest t.typed may h.lives lives (subst (λ os. x < length os) objects lt) room (rest_right x inits z inner lives))
    right_stmt (c.Static at x) live block ls br co ca d k t g may into are around h room = nothing_right q labels around
    right_stmt (c.If at e a b) live block ls br co ca d k (te, ba, ta, bb, tb) (ga, gb) may into are around h room =
        let rooms = three_rooms n _ _ _ room in
        let front = may_left (calls_of e ++ stmt_calls a) (stmt_calls b) may in
        let two = formed.in_block (formed.in_block around) in
        branch_right q labels around _ _ _
        (test_right e live d two at te (may_left (calls_of e) (stmt_calls a) front) h.lives rooms.0 (omega arith))
        (right_stmt a live block ls br co ca d (Past (Past k)) ta ga (may_right (calls_of e) (stmt_calls a) front) (into_left (labels_of a) (labels_of b) labels.names into) (are_left (listed_of a) (listed_of b) are) two (past (past h)) rooms.1)
        (right_stmt b live block ls br co ca d (Past k) tb gb (may_right (calls_of e ++ stmt_calls a) (stmt_calls b) may) (into_right (labels_of a) (labels_of b) labels.names into) (are_right (listed_of a) (listed_of b) are)
        (formed.in_block around) (past h) rooms.2)
    right_stmt (c.While at e b) live block ls br co ca d k (te, bb, tb) g may into are around h room =
        let rooms = three_rooms n _ _ _ room in
        loop_is around at _ _ _ (test_right e live d (formed.in_block around) at te (may_left (calls_of e) (stmt_calls b) may) h.lives rooms.0 (omega arith))
        (right_stmt b live block ls true true false d InLoop tb g (may_right (calls_of e) (stmt_calls b) may) into are (formed.in_block (formed.in_block around)) (looped h) rooms.1) (nothing_right q labels (formed.in_block around))
    right_stmt (c.DoWhile at b e) live block ls br co ca d k (te, bb, tb) g may into are around h room =
        let rooms = two_rooms n _ _ room in
        let inner = formed.in_block around in
        block_right q labels around _ (loop_right q labels inner at _ (seq_right q labels inner _ _
        (block_right q labels inner _ (right_stmt b live block ls true true false d InLoop tb g (may_left (stmt_calls b) (calls_of e) may) into are (formed.in_block inner) (looped h) rooms.1))
        (test_right e live d inner at te (may_right (stmt_calls b) (calls_of e) may) h.lives rooms.0 (omega arith))))
    right_stmt (c.For at xs head e step b) live block ls br co ca d k (hd, th, te, ts, bb, tb) g may into are around h room =
        let rooms = two_rooms n _ _ room in
        let parts = three_rooms n _ _ _ rooms.1 in
        let loop = Block (Loop at (Sequence (test_of p d at e).code (Sequence (Block (lower_stmt p d InLoop b).code) (step_of p d step).code))) in
        let code = with_last (lower_items p d k head).items loop in
        let inner = in_items xs code around in
        let m3 = may_left (item_calls head ++ calls_if_there e ++ calls_if_there step) (stmt_calls b) may in
        let m2 = may_left (item_calls head ++ calls_if_there e) (calls_if_there step) m3 in
        let a2 = are_left (xs ++ listed_in head) (listed_of b) are in
        let here = within xs c.none code h (λ l m. absurd (let z = m.1 in omega (arith, z))) (λ l m. absurd (let z = m.1 in omega (arith, z))) (are_left xs (listed_in head) a2) in
        scope_right q labels around xs code (all_are xs (are_left xs (listed_in head) a2))
        (last_right inner (lower_items p d k head).items loop
        (right_items head (xs ++ live) xs ls br co false d k th (head_stays ls head hd) (may_left (item_calls head) (calls_if_there e) m2) (into_left (labels_in head) (labels_of b) labels.names into)
        (are_right xs (listed_in head) a2) inner here rooms.0)
        (loop_is inner at _ _ _ (turn_test e (xs ++ live) d (formed.in_block inner) at te (may_right (item_calls head) (calls_if_there e) m2) here.lives parts.0 (omega arith))
        (right_stmt b (xs ++ live) xs ls true true false d InLoop tb g (may_right (item_calls head ++ calls_if_there e ++ calls_if_there step) (stmt_calls b) may)
        (into_right (labels_in head) (labels_of b) labels.names into) (are_right (xs ++ listed_in head) (listed_of b) are) (formed.in_block (formed.in_block inner)) (looped here) parts.1)
        (turn_step step (xs ++ live) d (formed.in_block inner) ts (may_right (item_calls head ++ calls_if_there e) (calls_if_there step) m3) here.lives parts.2)))
    right_stmt (c.Switch at e kind xs items) live block ls br co ca d k (te, row, ti) g may into are around h room =
        let rooms = two_rooms n _ _ room in
        let code = (lower_items p d (InSwitch k) items).items in
        let inner = formed.in_block around in
        let m = may_left (calls_of e) (item_calls items) may in
        let v = effect_right e live true d inner te m h.lives rooms.0 in
        let number = v.is (scalars.Int row.ty) (held_is (given_type e) (scalars.Int row.ty) (ap scalar_of row.integer)) in
        let placed : StandsIn live block ls (InSwitch k) true co inner = record {
          lives = h.lives;
          blocks = h.blocks;
          are = h.are;
          sees = h.sees;
          known = h.known;
          exits = record { breaks = λ t. omega arith; continues = λ t. let x = h.exits.continues t in omega (arith, x) };
        } in
        seq_right q labels around _ _ (effect_right e live true d around te m h.lives rooms.0).before
        (block_right q labels around _ (switch_right q labels inner _ xs code v.good (row.ty, number)
        (all_are xs (are_left xs (listed_in items) are)) (cases_right q labels p d (InSwitch k) _ xs items row.ty number row.fit row.distinct)
        (right_items items (xs ++ live) xs (labels_among items ++ ls) true co true d (InSwitch k) ti g (may_right (calls_of e) (item_calls items) may) into (are_right xs (listed_in items) are) (in_items xs code inner)
        (within xs items code placed (among_lowered p d (InSwitch k) items) into (are_left xs (listed_in items) are)) rooms.1)))
    right_stmt (c.Break at) live block ls br co ca d k t g may into are around h room = exit_right q labels around (break_level k) (h.exits.breaks t)
    right_stmt (c.Continue at) live block ls br co ca d k t g may into are around h room = exit_right q labels around (continue_level k) (h.exits.continues t)
    right_stmt (c.Goto at l) live block ls br co ca d k t g may into are around h room = goto_right q labels around l (h.known l g) (h.sees l g)
    right_stmt (c.Return at None) live block ls br co ca d k t g may into are around h room = empty_return q labels around
    right_stmt (c.Return at (Some e1)) live block ls br co ca d k (te, row) g may into are around h room =
        let v = effect_right e1 live true d around te may h.lives room in
        seq_right q labels around _ _ v.before (return_right q labels around _ v.good (λ s e. v.is s (sym (same_held e1 result row) ∙ sym same ∙ e)))
    right_stmt (c.Label at l) live block ls br co ca d k t g may into are around h room = label_right q labels around at l
    right_stmt (c.Case at j) live block ls br co ca d k t g may into are around h room = case_right q labels around j
    right_stmt (c.Default at) live block ls br co ca d k t g may into are around h room = default_right q labels around

    pub right_items : (items : TStmtTrees) (live block ls : List ℕ) (br co ca : Bool) (d : ℕ) (k : Context) → AreTypedItems (St live block result br co ca) items → GotosStayIn ls items
        → May' (item_calls items) → Into (labels_in items) labels.names → Are (listed_in items) → (around : Around) → StandsIn live block ls k br co around → (lower_items p d k items).top ≤ n
        → EI q labels around (lower_items p d k items).items
    right_items c.none live block ls br co ca d k t g may into are around h room = tt
    right_items (c.more item rest) live block ls br co ca d k (t, ts) (g, gs) may into are around h room =
        let rooms = two_rooms n _ _ room in (
          right_stmt item live block ls br co ca d k t g (may_left (stmt_calls item) (item_calls rest) may) (into_left (labels_of item) (labels_in rest) labels.names into)
              (are_left (listed_of item) (listed_in rest) are) around h rooms.0,
          right_items rest live block ls br co ca d k ts gs (may_right (stmt_calls item) (item_calls rest) may) (into_right (labels_of item) (labels_in rest) labels.names into)
              (are_right (listed_of item) (listed_in rest) are) around h rooms.1,
        )
