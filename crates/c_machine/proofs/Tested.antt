-- Rows that go on by the truth of a value.
use Rattle.std.proofs.Common.{◌≡◌, ℕ, suc, ℤ, Bool, true, false, List, ◌∷◌, Option, refl, ap, ◌∙◌}
use Rattle.std.specs.Prelude.{if◌then◌else◌}
use Rattle.c_syntax_written.specs.declared.place.Pos.{Pos}
use Rattle.c_syntax.specs.declared.alarm.WrongKind.{WrongKind}
use Rattle.c_syntax.specs.Operand.{Operand}
use Rattle.c_syntax.specs.TypedExpr.{TExprTree}
use Rattle.c_syntax.specs.TypedStmt.{TStmtTree}
use Rattle.c_syntax.specs.Program.{TProgramTree}
use Rattle.block_mem.specs.declared.types.Scalar.{Scalar}
use Rattle.block_mem.specs.declared.types.Value.{Value}
use Rattle.c_values.specs.declared.values.Given.TheVariants as givens
use Rattle.c_values.specs.Accesses.{test_looks}
use Rattle.c_values.specs.Looks.{Passes, FailsAs, judge}
use Rattle.c_values.specs.Places.{ObjectMemory}
use Rattle.c_values.specs.Values.{bit, truth}
use Rattle.c_steps.specs.Work.{Item, Loop, Again, AndThen, Choose, Do, Eval, Keep, OrElse, Pick, Truth, Turn}
use Rattle.c_steps.specs.States.{Held, Plain, Next, Stopped, Wrong, goes, held, judged, state}
use Rattle.c_steps.specs.Expressions.{value_scalar}
use Rattle.c_steps.specs.Statements.{condition_scalar}
use Rattle.c_steps.specs.Steps.{item_step, test_step}

module _ (p : TProgramTree) (at : Pos) (ty : Option Scalar) (v : Value) (s rest : List Held) (m : ObjectMemory) (is : s ≡ held v ∷ rest) where
  -- a row that tests the value on top
  passing : (row : List Held → Next) (so other : Next) (b : Bool) → row (held v ∷ rest) ≡ test_step p.objects at ty v so other m
      → judge p.objects (test_looks m ty v) ≡ Passes → truth v ≡ b → row s ≡ (if b then so else other)
  passing row so other b e j t =
      ap row is ∙ e ∙ ap (λ x. judged x at (if truth v then so else other)) j ∙ ap (λ (x : Bool). if x then so else other) t

  failing : (row : List Held → Next) (so other : Next) (k : WrongKind) (x : Operand) → row (held v ∷ rest) ≡ test_step p.objects at ty v so other m
      → judge p.objects (test_looks m ty v) ≡ FailsAs k x → row s ≡ Wrong at k x
  failing row so other k x e j = ap row is ∙ e ∙ ap (λ y. judged y at (if truth v then so else other)) j

  module _ (w : List Item) (i : List ℤ) where
    pub and_on : (e : TExprTree) → judge p.objects (test_looks m ty v) ≡ Passes → truth v ≡ true
        → item_step p (AndThen at ty e) w s m i ≡ goes (Eval e ∷ Truth at (value_scalar e) ∷ w) rest m i
    and_on e j t = passing (λ x. item_step p (AndThen at ty e) w x m i) _ _ true refl j t

    pub and_over : (e : TExprTree) → judge p.objects (test_looks m ty v) ≡ Passes → truth v ≡ false
        → item_step p (AndThen at ty e) w s m i ≡ goes w (held (bit false) ∷ rest) m i
    and_over e j t = passing (λ x. item_step p (AndThen at ty e) w x m i) _ _ false refl j t

    pub and_wrong : (e : TExprTree) (k : WrongKind) (x : Operand) → judge p.objects (test_looks m ty v) ≡ FailsAs k x
        → item_step p (AndThen at ty e) w s m i ≡ Wrong at k x
    and_wrong e k x j = failing (λ y. item_step p (AndThen at ty e) w y m i) _ _ k x refl j

    pub or_over : (e : TExprTree) → judge p.objects (test_looks m ty v) ≡ Passes → truth v ≡ true
        → item_step p (OrElse at ty e) w s m i ≡ goes w (held (bit true) ∷ rest) m i
    or_over e j t = passing (λ x. item_step p (OrElse at ty e) w x m i) _ _ true refl j t

    pub or_on : (e : TExprTree) → judge p.objects (test_looks m ty v) ≡ Passes → truth v ≡ false
        → item_step p (OrElse at ty e) w s m i ≡ goes (Eval e ∷ Truth at (value_scalar e) ∷ w) rest m i
    or_on e j t = passing (λ x. item_step p (OrElse at ty e) w x m i) _ _ false refl j t

    pub or_wrong : (e : TExprTree) (k : WrongKind) (x : Operand) → judge p.objects (test_looks m ty v) ≡ FailsAs k x
        → item_step p (OrElse at ty e) w s m i ≡ Wrong at k x
    or_wrong e k x j = failing (λ y. item_step p (OrElse at ty e) w y m i) _ _ k x refl j

    pub picked : (a b : TExprTree) (z : Bool) → judge p.objects (test_looks m ty v) ≡ Passes → truth v ≡ z
        → item_step p (Pick at ty a b) w s m i ≡ (if z then goes (Eval a ∷ w) rest m i else goes (Eval b ∷ w) rest m i)
    picked a b z j t = passing (λ x. item_step p (Pick at ty a b) w x m i) _ _ z refl j t

    pub pick_wrong : (a b : TExprTree) (k : WrongKind) (x : Operand) → judge p.objects (test_looks m ty v) ≡ FailsAs k x
        → item_step p (Pick at ty a b) w s m i ≡ Wrong at k x
    pick_wrong a b k x j = failing (λ y. item_step p (Pick at ty a b) w y m i) _ _ k x refl j

    pub chosen_one : (a b : TStmtTree) (z : Bool) → judge p.objects (test_looks m ty v) ≡ Passes → truth v ≡ z
        → item_step p (Choose at ty a b) w s m i ≡ (if z then goes (Do a ∷ w) rest m i else goes (Do b ∷ w) rest m i)
    chosen_one a b z j t = passing (λ x. item_step p (Choose at ty a b) w x m i) _ _ z refl j t

    pub choose_wrong : (a b : TStmtTree) (k : WrongKind) (x : Operand) → judge p.objects (test_looks m ty v) ≡ FailsAs k x
        → item_step p (Choose at ty a b) w s m i ≡ Wrong at k x
    choose_wrong a b k x j = failing (λ y. item_step p (Choose at ty a b) w y m i) _ _ k x refl j

    pub kept : judge p.objects (test_looks m ty v) ≡ Passes → truth v ≡ true → item_step p (Keep at ty) w s m i ≡ goes w (Plain givens.Nothing ∷ rest) m i
    kept j t = passing (λ x. item_step p (Keep at ty) w x m i) _ _ true refl j t

    pub stopped : judge p.objects (test_looks m ty v) ≡ Passes → truth v ≡ false → item_step p (Keep at ty) w s m i ≡ Stopped
    stopped j t = passing (λ x. item_step p (Keep at ty) w x m i) _ _ false refl j t

    pub keep_wrong : (k : WrongKind) (x : Operand) → judge p.objects (test_looks m ty v) ≡ FailsAs k x → item_step p (Keep at ty) w s m i ≡ Wrong at k x
    keep_wrong k x j = failing (λ y. item_step p (Keep at ty) w y m i) _ _ k x refl j

module _ (p : TProgramTree) (turns : ℕ) (loop : Loop) (v : Value) (s rest : List Held) (m : ObjectMemory) (is : s ≡ held v ∷ rest) (w : List Item) (i : List ℤ) where
  pub turned : judge p.objects (test_looks m (condition_scalar loop) v) ≡ Passes → truth v ≡ true
      → item_step p (Turn turns loop) w s m i ≡ goes (Do loop.body ∷ Again (suc turns) loop ∷ w) rest m i
  turned j t = passing p loop.pos (condition_scalar loop) v s rest m is (λ x. item_step p (Turn turns loop) w x m i) _ _ true refl j t

  pub turns_over : judge p.objects (test_looks m (condition_scalar loop) v) ≡ Passes → truth v ≡ false → item_step p (Turn turns loop) w s m i ≡ goes w rest m i
  turns_over j t = passing p loop.pos (condition_scalar loop) v s rest m is (λ x. item_step p (Turn turns loop) w x m i) _ _ false refl j t

  pub turn_wrong : (k : WrongKind) (x : Operand) → judge p.objects (test_looks m (condition_scalar loop) v) ≡ FailsAs k x
      → item_step p (Turn turns loop) w s m i ≡ Wrong loop.pos k x
  turn_wrong k x j = failing p loop.pos (condition_scalar loop) v s rest m is (λ y. item_step p (Turn turns loop) w y m i) _ _ k x refl j

-- ---- states with equal parts

pub arrives : (w v : List Item) (s t : List Held) (m n : ObjectMemory) (i : List ℤ) → w ≡ v → s ≡ t → m ≡ n → goes w s m i ≡ goes v t n i
arrives w v s t m n i works stacks memories = ap (λ x. goes x s m i) works ∙ ap (λ x. goes v x m i) stacks ∙ ap (λ (x : ObjectMemory). goes v t x i) memories

pub stays : (w : List Item) (s t : List Held) (m n : ObjectMemory) (i : List ℤ) → t ≡ s → n ≡ m → state w t n i ≡ state w s m i
stays w s t m n i stacks memories = ap (λ x. state w x n i) stacks ∙ ap (λ (x : ObjectMemory). state w s x i) memories
