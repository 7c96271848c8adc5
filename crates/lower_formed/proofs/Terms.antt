-- Expressions whose operators have operands of their types, and statements of them.
use Rattle.std.proofs.Common.{◌≡◌, ℕ, ◌<◌, List, [], ◌∷◌, length, Option, Some, Bool, true, false, map, refl, sym, subst, arith}
use Rattle.std.specs.Prelude.{All, if◌then◌else◌, slice_get}
use Rattle.std.proofs.lemmas.List.Elements.{All-nil, All-cons}
use Rattle.std.proofs.lemmas.Option.{slice_get_within}
use Rattle.c_syntax_written.specs.declared.int_type.IntType.{IntType}
use Rattle.c_syntax_written.specs.declared.place.Pos.{Pos}
use Rattle.c_syntax_written.specs.Integer.{HasNumber}
use Rattle.c_syntax.specs.declared.alarm.Check.{Check}
use Rattle.c_syntax.specs.declared.operator.TUnaryOp.{TUnaryOp}
use Rattle.c_syntax.specs.declared.operator.TUnaryOp.TheVariants as unaries
use Rattle.c_syntax.specs.declared.operator.TBinaryOp.{TBinaryOp}
use Rattle.block_mem.specs.declared.types.Scalar.{Scalar}
use Rattle.block_mem.specs.declared.types.Scalar.TheVariants as scalars
use Rattle.block_mem.specs.declared.types.Value.{Value}
use Rattle.block_mem.specs.declared.types.Value.TheVariants as values
use Rattle.block_mem.specs.Bytes.{IsOf}
use Rattle.c_values.specs.Typed.{IsInteger, TakesBoth, TakesOne}
use Rattle.c_steps_laws.specs.Wants.{Operates, arithmetic, shift, compare_ints, compare_pointers, plus_int, int_plus, minus_int, difference, OperatesOn, Converts, to_int, to_pointer}
use Rattle.csharp.specs.Trees.{CsExprTree, Const, Null, Temp, Unary, Binary, CsCheckTree, CsStmtTree, Nothing, Set, Load, Store}
use Rattle.csharp.specs.Trees.{CopyBytes, Checked, Input, Assume, Sequence, If, Block, Exit, CsProgramTree}
use Rattle.csharp.specs.Formed.{Around, in_block, Each, NamesThere, NamesLive, HasType, IsNumber, IsPointer, AreOperandsTyped, IsCheckFormed, LivesThere}
use Rattle.lower_trees.specs.Checking.{checks}
use Rattle.lower_trees.specs.LowerExpr.{to_scalar, branch}
use Rattle.lower_formed.specs.Right.{Frame, Right, Good}

-- ---- operators take what their operands' types have

an_integer : (t : IntType) (v : Value) → IsOf (scalars.Int t) v → IsInteger v
an_integer t (values.Int u n) (e, h) = subst (λ x. HasNumber x n) (sym e) h
an_integer t (values.Ptr p) h = absurd h
an_integer t values.Null h = absurd h

takes_both : {op : TBinaryOp} {a b : Scalar} → Operates op a b → (v u : Value) → IsOf a v → IsOf b u → TakesBoth op v u
takes_both arithmetic v u h g = (h, g)
takes_both (shift {u = t}) v u h g = (h, an_integer t u g)
takes_both compare_ints v u h g = (h, g)
takes_both compare_pointers v u h g = (h, g)
takes_both (plus_int {u = t} e) v u h g = (h, an_integer t u g, e)
takes_both (int_plus {u = t} e) v u h g = (g, an_integer t v h, e)
takes_both (minus_int {u = t} e) v u h g = (h, an_integer t u g, e)
takes_both (difference e) v u h g = (h, g, e)

takes_one : (op : TUnaryOp) (ty : Scalar) → OperatesOn op ty → (v : Value) → IsOf ty v → TakesOne op ty v
takes_one (unaries.Plus t) ty o v h = (o, h)
takes_one (unaries.Minus t) ty o v h = (o, h)
takes_one (unaries.Complement t) ty o v h = (o, h)
takes_one unaries.Not ty o v h = h

module _ (q : CsProgramTree) (labels : Frame) where
  abbrev pub R : Around → CsStmtTree → Type 0
  R around a = Right q labels around a

  pub good_binary : {op : TBinaryOp} {a b : Scalar} (around : Around) (e f : CsExprTree) → Operates op a b → Good q around e → HasType q a e → Good q around f → HasType q b f
      → Good q around (Binary op e f)
  good_binary {op} {a} {b} around e f o g h k l = record {
    there = (g.there, k.there);
    live = (g.live, k.live);
    operands = (g.operands, k.operands, (a, h, λ v iv. (b, l, λ u iu. takes_both o v u iv iu)));
  }

  pub good_unary : (op : TUnaryOp) (ty : Scalar) (around : Around) (e : CsExprTree) → OperatesOn op ty → Good q around e → HasType q ty e → Good q around (Unary op e)
  good_unary op ty around e o g h = record { there = g.there; live = g.live; operands = (g.operands, (ty, h, λ v iv. takes_one op ty o v iv)) }

  pub good_converted : {a b : Scalar} (around : Around) (e : CsExprTree) → Converts a b → Good q around e → HasType q a e → Good q around (to_scalar (Some b) e) × HasType q b (to_scalar (Some b) e)
  good_converted around e (to_int {t = t} {u = u}) g h = (record { there = g.there; live = g.live; operands = (g.operands, (u, h)) }, refl)
  good_converted around e to_pointer g h = (g, h)

  pub good_const : (t : IntType) (k : _) (around : Around) → HasNumber t k → Good q around (Const t k)
  good_const t k around h = record { there = tt; live = tt; operands = h }

  pub good_null : (around : Around) → Good q around Null
  good_null around = record { there = tt; live = tt; operands = tt }

  pub good_temp : (around : Around) (d : ℕ) (ty : Scalar) → HasType q ty (Temp d) → Good q around (Temp d)
  good_temp around d ty h = record { there = slice_get_within q.temps d ty h; live = tt; operands = tt }

  -- ---- lists of one and of two
  pub no_names : All (NamesThere q) []
  no_names = All-nil (NamesThere q)

  one_name : (e : CsExprTree) → NamesThere q e → All (NamesThere q) (e ∷ [])
  one_name e h = All-cons (NamesThere q) e [] h no_names

  no_live : (around : Around) → All (NamesLive q around) []
  no_live around = All-nil (NamesLive q around)

  one_live : (around : Around) (e : CsExprTree) → NamesLive q around e → All (NamesLive q around) (e ∷ [])
  one_live around e h = All-cons (NamesLive q around) e [] h (no_live around)

  no_ops : All (AreOperandsTyped q) []
  no_ops = All-nil (AreOperandsTyped q)

  one_ops : (e : CsExprTree) → AreOperandsTyped q e → All (AreOperandsTyped q) (e ∷ [])
  one_ops e h = All-cons (AreOperandsTyped q) e [] h no_ops

  no_temps : All (λ d. d < length q.temps) []
  no_temps = All-nil (λ d. d < length q.temps)

  pub one_temp : (d : ℕ) (ty : Scalar) → slice_get q.temps d ≡ Some ty → All (λ d. d < length q.temps) (d ∷ [])
  one_temp d ty h = All-cons (λ d. d < length q.temps) d [] (slice_get_within q.temps d ty h) no_temps

  no_objects : All (λ x. x < length q.objects) []
  no_objects = All-nil (λ x. x < length q.objects)

  no_lives : (around : Around) → All (LivesThere q around) []
  no_lives around = All-nil (LivesThere q around)

  -- ---- statements
  pub nothing_right : (around : Around) → Right q labels around Nothing
  nothing_right around = record { numbers = (no_names, no_temps, no_objects, tt); live = (no_live around, no_lives around); types = (no_ops, tt); checks = tt; gotos = tt; gives = tt; cases = tt }

  pub seq_right : (around : Around) (a b : CsStmtTree) → Each R around a → Each R around b → Each R around (Sequence a b)
  seq_right around a b h k =
      (record { numbers = (no_names, no_temps, no_objects, tt); live = (no_live around, no_lives around); types = (no_ops, tt); checks = tt; gotos = tt; gives = tt; cases = tt }, h, k)

  pub block_right : (around : Around) (a : CsStmtTree) → Each R (in_block around) a → Each R around (Block a)
  block_right around a h =
      (record { numbers = (no_names, no_temps, no_objects, tt); live = (no_live around, no_lives around); types = (no_ops, tt); checks = tt; gotos = tt; gives = tt; cases = tt }, h)

  pub exit_right : (around : Around) (k : ℕ) → k < around.exits → Right q labels around (Exit k)
  exit_right around k h = record { numbers = (no_names, no_temps, no_objects, h); live = (no_live around, no_lives around); types = (no_ops, tt); checks = tt; gotos = tt; gives = tt; cases = tt }

  pub set_right : (around : Around) (d : ℕ) (ty : Scalar) (e : CsExprTree) → Good q around e → HasType q ty e → slice_get q.temps d ≡ Some ty → Right q labels around (Set d e)
  set_right around d ty e g h t = record {
    numbers = (one_name e g.there, one_temp d ty t, no_objects, tt);
    live = (one_live around e g.live, no_lives around);
    types = (one_ops e g.operands, (ty, h, t));
    checks = tt;
    gotos = tt;
    gives = tt;
    cases = tt;
  }

  pub load_right : (around : Around) (d : ℕ) (ty : Scalar) (e : CsExprTree) → Good q around e → IsPointer q e → slice_get q.temps d ≡ Some ty → Right q labels around (Load d ty e)
  load_right around d ty e g h t = record {
    numbers = (one_name e g.there, one_temp d ty t, no_objects, tt);
    live = (one_live around e g.live, no_lives around);
    types = (one_ops e g.operands, (h, t));
    checks = tt;
    gotos = tt;
    gives = tt;
    cases = tt;
  }

  pub input_right : (around : Around) (d : ℕ) (t : IntType) → slice_get q.temps d ≡ Some (scalars.Int t) → Right q labels around (Input d t)
  input_right around d t h = record {
    numbers = (no_names, one_temp d (scalars.Int t) h, no_objects, tt);
    live = (no_live around, no_lives around);
    types = (no_ops, h);
    checks = tt;
    gotos = tt;
    gives = tt;
    cases = tt;
  }

  pub store_right : (around : Around) (ty : Scalar) (e f : CsExprTree) → Good q around e → IsPointer q e → Good q around f → HasType q ty f → Right q labels around (Store ty e f)
  store_right around ty e f g h k l = record {
    numbers = (All-cons (NamesThere q) e (f ∷ []) g.there (one_name f k.there), no_temps, no_objects, tt);
    live = (All-cons (NamesLive q around) e (f ∷ []) g.live (one_live around f k.live), no_lives around);
    types = (All-cons (AreOperandsTyped q) e (f ∷ []) g.operands (one_ops f k.operands), (h, l));
    checks = tt;
    gotos = tt;
    gives = tt;
    cases = tt;
  }

  pub copy_right : (around : Around) (n : ℕ) (e f : CsExprTree) → Good q around e → IsPointer q e → Good q around f → IsPointer q f → Right q labels around (CopyBytes n e f)
  copy_right around n e f g h k l = record {
    numbers = (All-cons (NamesThere q) e (f ∷ []) g.there (one_name f k.there), no_temps, no_objects, tt);
    live = (All-cons (NamesLive q around) e (f ∷ []) g.live (one_live around f k.live), no_lives around);
    types = (All-cons (AreOperandsTyped q) e (f ∷ []) g.operands (one_ops f k.operands), (h, l));
    checks = tt;
    gotos = tt;
    gives = tt;
    cases = tt;
  }

  pub assume_right : (around : Around) (e : CsExprTree) → Good q around e → IsNumber q e → Right q labels around (Assume e)
  assume_right around e g h = record {
    numbers = (one_name e g.there, no_temps, no_objects, tt);
    live = (one_live around e g.live, no_lives around);
    types = (one_ops e g.operands, h);
    checks = tt;
    gotos = tt;
    gives = tt;
    cases = tt;
  }

  pub if_right : (around : Around) (e : CsExprTree) (a b : CsStmtTree) → Good q around e → IsNumber q e → Each R around a → Each R around b → Each R around (If e a b)
  if_right around e a b g h k l = (
    record {
      numbers = (one_name e g.there, no_temps, no_objects, tt);
      live = (one_live around e g.live, no_lives around);
      types = (one_ops e g.operands, h);
      checks = tt;
      gotos = tt;
      gives = tt;
      cases = tt;
    },
    k,
    l,
  )

  -- two ways behind a test
  pub branch_right : (around : Around) (test first second : CsStmtTree) → Each R (in_block (in_block around)) test → Each R (in_block (in_block around)) first
      → Each R (in_block around) second → Each R around (branch test first second)
  branch_right around test first second h k l =
      block_right around _ (seq_right (in_block around) _ second (block_right (in_block around) _ (seq_right (in_block (in_block around)) test _ h
      (seq_right (in_block (in_block around)) first (Exit 1) k (exit_right (in_block (in_block around)) 1 (omega arith))))) l)

  -- ---- checks
  pub check_one : (around : Around) (at : Pos) (ty : Option Scalar) (c : Check) (e : CsExprTree) → Good q around e
      → IsCheckFormed q (Checked (record { check = c; pos = at; ty = ty; operands = e ∷ [] }))
      → Right q labels around (Checked (record { check = c; pos = at; ty = ty; operands = e ∷ [] }))
  check_one around at ty c e g h = record {
    numbers = (one_name e g.there, no_temps, no_objects, tt);
    live = (one_live around e g.live, no_lives around);
    types = (one_ops e g.operands, tt);
    checks = h;
    gotos = tt;
    gives = tt;
    cases = tt;
  }

  pub check_two : (around : Around) (at : Pos) (ty : Option Scalar) (c : Check) (e f : CsExprTree) → Good q around e → Good q around f
      → IsCheckFormed q (Checked (record { check = c; pos = at; ty = ty; operands = e ∷ f ∷ [] }))
      → Right q labels around (Checked (record { check = c; pos = at; ty = ty; operands = e ∷ f ∷ [] }))
  check_two around at ty c e f g k h = record {
    numbers = (All-cons (NamesThere q) e (f ∷ []) g.there (one_name f k.there), no_temps, no_objects, tt);
    live = (All-cons (NamesLive q around) e (f ∷ []) g.live (one_live around f k.live), no_lives around);
    types = (All-cons (AreOperandsTyped q) e (f ∷ []) g.operands (one_ops f k.operands), tt);
    checks = h;
    gotos = tt;
    gives = tt;
    cases = tt;
  }

  abbrev pub AllRight : Around → List CsCheckTree → Type 0
  AllRight around [] = Unit {0}
  AllRight around (c ∷ cs) = Right q labels around (Checked c) × AllRight around cs

  pub listed : (around : Around) (cs : List CsCheckTree) → AllRight around cs → Each R around (checks cs)
  listed around [] h = nothing_right around
  listed around (c ∷ cs) h = seq_right around (Checked c) (checks cs) h.0 (listed around cs h.1)

  -- a check that is made where a type is signed
  pub if_signed : (around : Around) (b : Bool) (c : Check) (one : Check → CsCheckTree) → (b ≡ true → Right q labels around (Checked (one c)))
      → AllRight around (map one (if b then c ∷ [] else []))
  if_signed around true c one h = (h refl, tt)
  if_signed around false c one h = tt
