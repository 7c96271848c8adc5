-- Code whose checks are made at sites of its source, from its parts.
use Rattle.std.proofs.Common.{ℕ, ◌*◌, List, [], ◌∷◌, ◌++◌, pos, Option, Some, None, Bool, true, false, map, max, refl, arith}
use Rattle.std.specs.Prelude.{Contains}
use Rattle.std.proofs.lemmas.List.Elements.{Contains-append_left, Contains-append_right}
use Rattle.c_syntax_written.specs.declared.int_type.IntType.TheVariants as ints
use Rattle.c_syntax_written.specs.declared.place.Pos.{Pos}
use Rattle.c_syntax.specs.declared.alarm.Check.{Check}
use Rattle.c_syntax.specs.declared.alarm.WrongKind.{WrongKind}
use Rattle.c_syntax.specs.declared.alarm.WrongKind.TheVariants as kinds
use Rattle.c_syntax.specs.declared.operator.TUnaryOp.{TUnaryOp}
use Rattle.c_syntax.specs.declared.operator.TBinaryOp.{TBinaryOp}
use Rattle.c_syntax.specs.declared.operator.TBinaryOp.TheVariants as binaries
use Rattle.c_layout.specs.Checks.{arithmetic_checks, shift_checks, pointer_checks, move_checks, test_checks, binary_checks, unary_checks, load_checks, store_checks, read_checks}
use Rattle.block_mem.specs.declared.types.Scalar.{Scalar}
use Rattle.c_sites.specs.Sites.{Subject, InObject, OneOperand, TwoPointers, Callee, Site, site, element_in, binary_subject}
use Rattle.c_values.specs.Typed.{unary_type, binary_type}
use Rattle.c_values.specs.Values.{plain_type}
use Rattle.csharp.specs.Trees.{CsExprTree, Const, Unary, Binary, CsStmtTree, Set, Load, Store, Sequence, Block, Exit}
use Rattle.lower_trees.specs.Temps.{temp_at}
use Rattle.lower_trees.specs.Checking.{cs_check, checks, load_type, number_operands, move_operands, moved, move_list, binary_operands, binary_list, unary_operands, unary_list}
use Rattle.lower_trees.specs.LowerExpr.{Lowered, lowered, Forms, Args, plain, branch, spilled, is_kept_alone, of_unary, of_binary, of_convert, with_source, changed_left, change, of_cond, of_call}
use Rattle.lower_trees.specs.Named.{IsMultipleOf, IsStep}
use Rattle.lower_formed.specs.Every.{Every}
use Rattle.lower_sites_laws.specs.Looks.{Looks, IsSited}

-- ---- operands

one : (n : ℕ) → IsMultipleOf 1 n
one n = (n, omega arith)

any_step : (n : ℕ) (e : CsExprTree) → IsStep 1 n e
any_step n (Const t (pos k)) = one (n * k)
any_step n _ = one n

-- what is moved stays in its object
pub moved_looks : (s : Subject) (n : ℕ) (a b : CsExprTree) → Looks s (a ∷ []) → Looks s (Binary (binaries.PointerPlusInt n) a b ∷ [])
moved_looks (InObject x z) n a b h = (h, any_step n b)
moved_looks OneOperand n a b h = tt
moved_looks TwoPointers n a b h = absurd h
moved_looks (Callee g) n a b h = tt

pub element_looks : (s : Subject) (a : CsExprTree) → Looks s (a ∷ []) → Looks (element_in s) (a ∷ [])
element_looks (InObject x z) a h = h
element_looks OneOperand a h = tt
element_looks TwoPointers a h = tt
element_looks (Callee g) a h = tt

move_looks : (s : Subject) (a whole : CsExprTree) (kind : WrongKind) → Looks s (a ∷ []) → Looks s (whole ∷ []) → Looks s (move_operands a whole kind)
move_looks s a whole kinds.Bounds h k = k
move_looks s a whole _ h k = h

number_looks : (whole b : CsExprTree) (kind : WrongKind) → Looks OneOperand (number_operands whole b kind)
number_looks whole b kinds.DivideByZero = tt
number_looks whole b kinds.ShiftAmount = tt
number_looks whole b _ = tt

unary_looks : (op : TUnaryOp) (a : CsExprTree) (kind : WrongKind) → Looks OneOperand (unary_operands op a kind)
unary_looks op a kinds.Overflow = tt
unary_looks op a _ = tt

-- ---- code

module _ (all : List Site) where
  -- each check in it is made at one of these sites
  pub record E (a : CsStmtTree) : Type 0 where
    pub is : Every (IsSited all) a

  abbrev pub Here : Pos → Subject → Type 0
  Here at s = Contains all (site at s)

  -- these sites are among them
  abbrev pub Within : List Site → Type 0
  Within xs = (s : Site) → Contains xs s → Contains all s

  pub head : (x : Site) (xs : List Site) → Within (x ∷ xs) → Contains all x
  head x xs w = w x (0, omega arith, refl)

  pub left : (xs ys : List Site) → Within (xs ++ ys) → Within xs
  left xs ys w = λ s m. w s (Contains-append_left xs ys s m)

  pub right : (xs ys : List Site) → Within (xs ++ ys) → Within ys
  right xs ys w = λ s m. w s (Contains-append_right xs ys s m)

  pub rest : (x : Site) (xs : List Site) → Within (x ∷ xs) → Within xs
  rest x xs w = right (x ∷ []) xs w

  pub seq : (a b : CsStmtTree) → E a → E b → E (Sequence a b)
  seq a b h k = record { is = (tt, h.is, k.is) }

  pub block : (a : CsStmtTree) → E a → E (Block a)
  block a h = record { is = (tt, h.is) }

  pub branches : (test a b : CsStmtTree) → E test → E a → E b → E (branch test a b)
  branches test a b h k l = block _ (seq _ b (block _ (seq test _ h (seq a (Exit 1) k (record { is = tt })))) l)

  -- checks at a site
  pub listed : (at : Pos) (s : Subject) → Here at s → (ty : Check → Option Scalar) (es : Check → List CsExprTree) → ((c : Check) → Looks s (es c)) → (cs : List Check)
      → E (checks (map (λ c. cs_check at (ty c) (es c) c) cs))
  listed at s here ty es looks [] = record { is = tt }
  listed at s here ty es looks (c ∷ cs) = seq _ _ (record { is = (s, here, looks c) }) (listed at s here ty es looks cs)

  pub spill : (kept : Bool) (d : ℕ) (ty : Scalar) (a : Lowered) → E a.before → E (spilled kept d ty a).before
  spill true d ty a h = h
  spill false d ty a h = seq a.before (Set (temp_at d ty) a.value) h (record { is = tt })

  -- ---- an expression in its uses: a test is made where it is asked for
  pub record SitedForms (a : Forms) : Type 0 where
    pub value : E a.value.before
    pub unless : (at : Pos) (k : ℕ) → Here at OneOperand → E (a.unless at k)
    pub when : (at : Pos) (k : ℕ) → Here at OneOperand → E (a.when at k)
    pub source : (size align : ℕ) → E (a.source size align).before

  tested : (a : Lowered) (ty : Option Scalar) (at : Pos) → E a.before → Here at OneOperand → (last : CsStmtTree) → E last
      → E (Sequence a.before (Sequence (checks (map (λ c. cs_check at None (a.value ∷ []) c) (test_checks (plain_type ty)))) last))
  tested a ty at h here last l =
      seq a.before _ h (seq _ last (listed at OneOperand here (λ c. None) (λ c. a.value ∷ []) (λ c. tt) (test_checks (plain_type ty))) l)

  pub plain_sited : (o : Option Scalar) (a : Lowered) → E a.before → SitedForms (plain o a)
  plain_sited o a h = record {
    value = h;
    unless = λ at k here. tested a o at h here _ (record { is = (tt, tt, tt) });
    when = λ at k here. tested a o at h here _ (record { is = (tt, tt, tt) });
    source = λ size align. h;
  }

  -- a struct that is read at one place
  pub source_sited : (from : Pos) (s : Subject) → Here from s → (a : Lowered) → Looks s (a.value ∷ []) → E a.before → SitedForms (with_source from a)
  source_sited from s there a looks h = record {
    value = h;
    unless = λ at k here. tested a None at h here _ (record { is = (tt, tt, tt) });
    when = λ at k here. tested a None at h here _ (record { is = (tt, tt, tt) });
    source = λ size align. seq a.before _ h (listed from s there (λ c. None) (λ c. a.value ∷ []) (λ c. looks) (read_checks size align));
  }

  pub unary_sited : (d : ℕ) (at : Pos) (op : TUnaryOp) (ty : Option Scalar) (a : Lowered) → E a.before → Here at OneOperand → E (of_unary d at op ty a).before
  unary_sited d at op ty a h here =
      spill (is_kept_alone op) d (unary_type op) (lowered (Sequence a.before (checks (unary_list at op ty a.value))) (Unary op a.value) a.next a.top)
      (seq a.before _ h (listed at OneOperand here (λ c. None) (λ c. unary_operands op a.value c.kind) (λ c. unary_looks op a.value c.kind) (unary_checks op (plain_type ty))))

  -- the checks of an operator on two operands, of which the left one looks so
  pub operator_sited : (op : TBinaryOp) (at : Pos) (s : Subject) (a b : CsExprTree) → Looks s (a ∷ []) → Here at (binary_subject op s) → E (checks (binary_list at op a b))
  operator_sited (binaries.Arithmetic op t) at s a b looks here =
      listed at OneOperand here (λ c. None) (λ c. binary_operands (binaries.Arithmetic op t) a b c.kind) (λ c. number_looks (Binary (binaries.Arithmetic op t) a b) b c.kind)
      (arithmetic_checks op t)
  operator_sited (binaries.Shift way t) at s a b looks here =
      listed at OneOperand here (λ c. None) (λ c. binary_operands (binaries.Shift way t) a b c.kind) (λ c. number_looks (Binary (binaries.Shift way t) a b) b c.kind) (shift_checks way t)
  operator_sited (binaries.CompareInts k t) at s a b looks here = record { is = tt }
  operator_sited (binaries.ComparePointers k) at s a b looks here = listed at TwoPointers here (λ c. None) (λ c. a ∷ b ∷ []) (λ c. tt) (pointer_checks k)
  operator_sited (binaries.PointerPlusInt n) at s a b looks here =
      listed at s here (λ c. None) (λ c. binary_operands (binaries.PointerPlusInt n) a b c.kind)
      (λ c. move_looks s a (Binary (binaries.PointerPlusInt n) a b) c.kind looks (moved_looks s n a b looks)) move_checks
  operator_sited (binaries.IntPlusPointer n) at s a b looks here =
      listed at OneOperand here (λ c. None) (λ c. binary_operands (binaries.IntPlusPointer n) a b c.kind) (λ c. move_looks OneOperand b (Binary (binaries.IntPlusPointer n) a b) c.kind tt tt)
      move_checks
  operator_sited (binaries.PointerMinusInt n) at s a b looks here =
      listed at OneOperand here (λ c. None) (λ c. binary_operands (binaries.PointerMinusInt n) a b c.kind) (λ c. move_looks OneOperand a (Binary (binaries.PointerMinusInt n) a b) c.kind tt tt)
      move_checks
  operator_sited (binaries.PointerMinusPointer n) at s a b looks here =
      listed at TwoPointers here (λ c. None) (λ c. a ∷ b ∷ []) (λ c. tt) (binary_checks (binaries.PointerMinusPointer n))

  pub binary_sited : (d : ℕ) (at : Pos) (kept : Bool) (op : TBinaryOp) (s : Subject) (a b : Lowered) → Looks s (a.value ∷ []) → E a.before → E b.before
      → Here at (binary_subject op s) → E (of_binary d at kept op a b).before
  binary_sited d at kept op s a b looks h k here =
      spill kept d (binary_type op) (lowered (Sequence a.before (Sequence b.before (checks (binary_list at op a.value b.value)))) (Binary op a.value b.value) b.next (max a.top b.top))
      (seq a.before _ h (seq b.before _ k (operator_sited op at s a.value b.value looks here)))

  pub convert_sited : (o : Option Scalar) (a : Lowered) → E a.before → E (of_convert o a).before
  convert_sited None a h = h
  convert_sited (Some ty) a h = h

  -- `op=`, `++` and `--`, by an operator that looks at one operand
  pub change_sited : (at at_place : Pos) (s : Subject) (ty : Scalar) (op : TBinaryOp) (d : ℕ) (place u : CsExprTree) → Looks s (place ∷ []) → Here at_place s
      → Here at (binary_subject op OneOperand) → E (change at at_place ty op d place u)
  change_sited at at_place s ty op d place u looks there here =
      seq _ _ (listed at_place s there (λ c. load_type ty c.kind) (λ c. place ∷ []) (λ c. looks) (load_checks (plain_type (Some ty))))
      (seq (Load (temp_at d ty) ty place) _ (record { is = tt })
      (seq _ _ (operator_sited op at OneOperand (changed_left op ty d) u tt here)
      (seq _ _ (record { is = tt })
      (seq _ (Store ty place _) (listed at_place s there (λ c. None) (λ c. place ∷ []) (λ c. looks) (store_checks (plain_type (Some ty)))) (record { is = tt })))))

  pub cond_sited : (d : ℕ) (o : Option Scalar) (test : CsStmtTree) (top : ℕ) (a b : Lowered) → E test → E a.before → E b.before → E (of_cond d o test top a b).before
  cond_sited d None test top a b h k l = branches test a.before b.before h k l
  cond_sited d (Some ty) test top a b h k l =
      branches test _ _ h (seq a.before (Set (temp_at d ty) a.value) k (record { is = tt })) (seq b.before (Set (temp_at d ty) b.value) l (record { is = tt }))

  pub call_sited : (d : ℕ) (at : Pos) (g : ℕ) (o : Option Scalar) (z : Bool) (args : Args) → E args.before → Here at (Callee g) → E (of_call d at g o z args).before
  call_sited d at g None z args h here = seq args.before _ h (record { is = tt })
  call_sited d at g (Some ty) true args h here = seq args.before _ h (record { is = tt })
  call_sited d at g (Some ty) false args h here =
      seq args.before _ h (seq _ _ (record { is = tt }) (seq _ _ (record { is = (Callee g, here, tt) }) (record { is = tt })))

  -- a place that is moved to a member
  pub member_sited : (at : Pos) (s : Subject) → Here at s → (a : CsExprTree) (offset : ℕ) → Looks s (a ∷ []) → E (checks (move_list at a offset))
  member_sited at s here a offset looks =
      listed at s here (λ c. None) (λ c. move_operands a (moved a offset) c.kind) (λ c. move_looks s a (moved a offset) c.kind looks (moved_looks s 1 a (Const ints.Long (pos offset)) looks))
      move_checks
