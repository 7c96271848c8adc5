-- Alarms of one chain, place and kind show operands of one form.
use Rattle.std.proofs.Common.{◌≡◌, ⊎_elim, inl, inr, ℕ, List, [], ◌∷◌, length, Option, Some, None, refl, sym, ap, subst, ◌∙◌, arith}
use Rattle.std.specs.Prelude.{IfSome, IsSomeAnd, slice_get}
use Rattle.c_syntax_written.specs.declared.place.Pos.{Pos}
use Rattle.c_syntax.specs.declared.alarm.Alarm.{Alarm}
use Rattle.c_syntax.specs.declared.alarm.Check.{Check}
use Rattle.c_syntax.specs.declared.alarm.Shown.{Shown}
use Rattle.c_syntax.specs.declared.alarm.Shown.TheVariants as shows
use Rattle.c_syntax.specs.declared.alarm.WrongKind.{WrongKind}
use Rattle.c_syntax.specs.declared.alarm.WrongKind.TheVariants as kinds
use Rattle.c_layout.specs.WellTyped.{EachOf}
use Rattle.csharp.specs.Trees.{CsCallTree, CsCheckTree, CsExprTree, CsFunctionTree, CsStmtTree, CsStmtTrees, none, more, CsProgramTree, Nothing, Set, Load, Store}
use Rattle.csharp.specs.Trees.{CopyBytes, Undefine, Checked, Input, Assume, Sequence, If, Loop, Block, Exit, Scope, Switch, Goto, Call, Return, Label, Case, Default}
use Rattle.mem_shown.specs.Hulls.{AreOfOneForm}
use Rattle.mem_api.specs.Showing.{AreEnds, AreMarks, ArePointers, HasForm, IsPair, IsRange, IsSet}
use Rattle.alarm_claims.specs.Admitted.{IsAdmittedIn, IsCallAt, IsCheckAt, LeadsTo, SomeAmong, SomeIn}
use Rattle.alarm_claims.specs.Forms.{IsChecked}
use Rattle.alarm_claims.proofs.Parts.{some_on}
use Rattle.alarm_lists.specs.Lists.{AreAlike}
use Rattle.alarm_lists.specs.Sites.{IsCalled, SitesAgree}

-- ---- the part that is so

record Part (P : CsStmtTree → Type 0) (a : CsStmtTree) : Type 0 where
  pub part : CsStmtTree
  pub so : P part
  pub there : SomeIn (λ c. c ≡ part) a

record Item (P : CsStmtTree → Type 0) (items : CsStmtTrees) : Type 0 where
  pub part : CsStmtTree
  pub so : P part
  pub there : SomeAmong (λ c. c ≡ part) items

mutual
  part_of : (P : CsStmtTree → Type 0) (a : CsStmtTree) → SomeIn P a → Part P a
  part_of P (Sequence a b) h =
      ⊎_elim (λ x. record { part = Sequence a b; so = x; there = inl refl })
      (λ r. ⊎_elim (λ y. let f = part_of P a y in record { part = f.part; so = f.so; there = inr (inl f.there) })
      (λ y. let f = part_of P b y in record { part = f.part; so = f.so; there = inr (inr f.there) }) r) h
  part_of P (If e a b) h =
      ⊎_elim (λ x. record { part = If e a b; so = x; there = inl refl })
      (λ r. ⊎_elim (λ y. let f = part_of P a y in record { part = f.part; so = f.so; there = inr (inl f.there) })
      (λ y. let f = part_of P b y in record { part = f.part; so = f.so; there = inr (inr f.there) }) r) h
  part_of P (Loop at a) h =
      ⊎_elim (λ x. record { part = Loop at a; so = x; there = inl refl })
      (λ y. let f = part_of P a y in record { part = f.part; so = f.so; there = inr f.there }) h
  part_of P (Block a) h =
      ⊎_elim (λ x. record { part = Block a; so = x; there = inl refl })
      (λ y. let f = part_of P a y in record { part = f.part; so = f.so; there = inr f.there }) h
  part_of P (Scope xs items) h =
      ⊎_elim (λ x. record { part = Scope xs items; so = x; there = inl refl })
      (λ y. let f = item_of P items y in record { part = f.part; so = f.so; there = inr f.there }) h
  part_of P (Switch e xs items) h =
      ⊎_elim (λ x. record { part = Switch e xs items; so = x; there = inl refl })
      (λ y. let f = item_of P items y in record { part = f.part; so = f.so; there = inr f.there }) h
  part_of P Nothing h = record { part = Nothing; so = h; there = refl }
  part_of P (Set k e) h = record { part = Set k e; so = h; there = refl }
  part_of P (Load k ty e) h = record { part = Load k ty e; so = h; there = refl }
  part_of P (Store ty d e) h = record { part = Store ty d e; so = h; there = refl }
  part_of P (CopyBytes n d e) h = record { part = CopyBytes n d e; so = h; there = refl }
  part_of P (Undefine k) h = record { part = Undefine k; so = h; there = refl }
  part_of P (Checked c) h = record { part = Checked c; so = h; there = refl }
  part_of P (Input k t) h = record { part = Input k t; so = h; there = refl }
  part_of P (Assume e) h = record { part = Assume e; so = h; there = refl }
  part_of P (Exit k) h = record { part = Exit k; so = h; there = refl }
  part_of P (Goto l) h = record { part = Goto l; so = h; there = refl }
  part_of P (Call c) h = record { part = Call c; so = h; there = refl }
  part_of P (Return e) h = record { part = Return e; so = h; there = refl }
  part_of P (Label at l) h = record { part = Label at l; so = h; there = refl }
  part_of P (Case n) h = record { part = Case n; so = h; there = refl }
  part_of P Default h = record { part = Default; so = h; there = refl }

  item_of : (P : CsStmtTree → Type 0) (items : CsStmtTrees) → SomeAmong P items → Item P items
  item_of P none h = absurd h
  item_of P (more item rest) h =
      ⊎_elim (λ y. let f = part_of P item y in record { part = f.part; so = f.so; there = inl f.there })
      (λ y. let f = item_of P rest y in record { part = f.part; so = f.so; there = inr f.there }) h

-- ---- checks and calls that stand there

record CheckThere (at : Pos) (check : Check) (shown : Shown) (a : CsStmtTree) : Type 0 where
  pub found : CsCheckTree
  pub there : SomeIn (IsChecked found) a
  pub place : found.pos ≡ at
  pub is : found.check ≡ check
  pub form : HasForm found.check.kind found.operands shown

check_is : (at : Pos) (check : Check) (shown : Shown) (a b : CsStmtTree) → IsCheckAt at check shown b → SomeIn (λ c. c ≡ b) a → CheckThere at check shown a
check_is at check shown a (Checked c) h i = record {
  found = c;
  there = some_on (λ d. d ≡ Checked c) (IsChecked c) (λ d e. subst (IsChecked c) (sym e) refl) a i;
  place = h.0;
  is = h.1;
  form = h.2;
}
check_is at check shown a b h i = absurd h

check_there : (at : Pos) (check : Check) (shown : Shown) (a : CsStmtTree) → SomeIn (IsCheckAt at check shown) a → CheckThere at check shown a
check_there at check shown a h = let f = part_of (IsCheckAt at check shown) a h in check_is at check shown a f.part f.so f.there

record CallThere (at : Pos) (P : CsCallTree → Type 0) (a : CsStmtTree) : Type 0 where
  pub found : CsCallTree
  pub there : SomeIn (IsCalled found) a
  pub place : found.pos ≡ at
  pub so : P found

call_is : (at : Pos) (P : CsCallTree → Type 0) (a b : CsStmtTree) → IsCallAt at P b → SomeIn (λ c. c ≡ b) a → CallThere at P a
call_is at P a (Call c) h i = record {
  found = c;
  there = some_on (λ d. d ≡ Call c) (IsCalled c) (λ d e. subst (IsCalled c) (sym e) refl) a i;
  place = h.0;
  so = h.1;
}
call_is at P a b h i = absurd h

call_there : (at : Pos) (P : CsCallTree → Type 0) (a : CsStmtTree) → SomeIn (IsCallAt at P) a → CallThere at P a
call_there at P a h = let f = part_of (IsCallAt at P) a h in call_is at P a f.part f.so f.there

-- ---- forms

ranges_one : (v w : Shown) → IsRange v → IsRange w → AreOfOneForm v w
ranges_one (shows.Number lo hi modulus rem) (shows.Number low high step rest) h k = tt
ranges_one (shows.Number lo hi modulus rem) w h k = absurd k
ranges_one v w h k = absurd h

sets_one : (v w : Shown) → IsSet v → IsSet w → AreOfOneForm v w
sets_one (shows.One a) (shows.One b) h k = tt
sets_one (shows.One a) w h k = absurd k
sets_one v w h k = absurd h

pairs_one : (v w : Shown) → IsPair v → IsPair w → AreOfOneForm v w
pairs_one (shows.Pair a b) (shows.Pair c d) h k = tt
pairs_one (shows.Pair a b) w h k = absurd k
pairs_one v w h k = absurd h

marks_one : (v w : Shown) → AreMarks v → AreMarks w → AreOfOneForm v w
marks_one (shows.Marks undef value broken) (shows.Marks u x b) h k = tt
marks_one (shows.Marks undef value broken) w h k = absurd k
marks_one v w h k = absurd h

ends_one : (v w : Shown) → AreEnds v → AreEnds w → AreOfOneForm v w
ends_one (shows.Ends value no_value) (shows.Ends x n) h k = tt
ends_one (shows.Ends value no_value) w h k = absurd k
ends_one v w h k = absurd h

pointers_one : (es ds : List CsExprTree) (v w : Shown) → length es ≡ length ds → ArePointers es v → ArePointers ds w → AreOfOneForm v w
pointers_one (e ∷ f ∷ []) (d ∷ g ∷ []) v w l h k = pairs_one v w h k
pointers_one (e ∷ f ∷ []) [] v w l h k = absurd (omega (l, arith))
pointers_one (e ∷ f ∷ []) (d ∷ []) v w l h k = absurd (omega (l, arith))
pointers_one (e ∷ f ∷ []) (d ∷ g ∷ x ∷ ds) v w l h k = absurd (omega (l, arith))
pointers_one [] (d ∷ g ∷ []) v w l h k = absurd (omega (l, arith))
pointers_one (e ∷ []) (d ∷ g ∷ []) v w l h k = absurd (omega (l, arith))
pointers_one (e ∷ f ∷ x ∷ es) (d ∷ g ∷ []) v w l h k = absurd (omega (l, arith))
pointers_one es ds v w l h k = sets_one v w h k

forms_one : (k : WrongKind) (es ds : List CsExprTree) (v w : Shown) → length es ≡ length ds → HasForm k es v → HasForm k ds w → AreOfOneForm v w
forms_one kinds.Overflow es ds v w l h i = ranges_one v w h i
forms_one kinds.DivideByZero es ds v w l h i = ranges_one v w h i
forms_one kinds.Quotient es ds v w l h i = ranges_one v w h i
forms_one kinds.ShiftAmount es ds v w l h i = ranges_one v w h i
forms_one kinds.ShiftResult es ds v w l h i = ranges_one v w h i
forms_one kinds.Indeterminate es ds v w l h i = marks_one v w h i
forms_one kinds.Fragment es ds v w l h i = marks_one v w h i
forms_one kinds.NullUse es ds v w l h i = pointers_one es ds v w l h i
forms_one kinds.Dangling es ds v w l h i = pointers_one es ds v w l h i
forms_one kinds.Bounds es ds v w l h i = sets_one v w h i
forms_one kinds.Access es ds v w l h i = sets_one v w h i
forms_one kinds.Alignment es ds v w l h i = sets_one v w h i
forms_one kinds.ReadOnly es ds v w l h i = sets_one v w h i
forms_one kinds.Unrelated es ds v w l h i = pairs_one v w h i
forms_one kinds.NoValue es ds v w l h i = ends_one v w h i
forms_one kinds.AssertFailed es ds v w l h i = ranges_one v w h i

-- ---- what calls lead to

some_there : {A : Type 0} (o : Option A) (P : A → Type 0) → IsSomeAnd o P → (a : A) × (o ≡ Some a) × P a
some_there None P h = absurd h
some_there (Some a) P h = (a, refl, h)

each_there : {A : Type 0} (xs : List A) (P : ℕ → A → Type 0) (k : ℕ) (a : A) → EachOf xs P → slice_get xs k ≡ Some a → P k a
each_there xs P k a h e = let i : IfSome (slice_get xs k) (P k) = h k in rw e at i

module _ (q : CsProgramTree) (agree : SitesAgree q) (at : Pos) (check other : Check) (v w : Shown) (kind : check.kind ≡ other.kind) where
  checks_one : (f : ℕ) (function : CsFunctionTree) → slice_get q.functions f ≡ Some function → SomeIn (IsCheckAt at check v) function.body
      → SomeIn (IsCheckAt at other w) function.body → AreOfOneForm v w
  checks_one f function there h k =
      let c = check_there at check v function.body h in
      let d = check_there at other w function.body k in
      let same : c.found.check.kind ≡ d.found.check.kind = ap (λ (z : Check). z.kind) c.is ∙ kind ∙ sym (ap (λ (z : Check). z.kind) d.is) in
      let lengths = each_there q.functions _ f function agree.checks there c.found d.found c.there d.there (c.place ∙ sym d.place) same in
      forms_one c.found.check.kind c.found.operands d.found.operands v w lengths c.form
      (subst (λ z. HasForm z d.found.operands w) (sym same) d.form)

  pub leads_one : (calls : List Pos) (f : ℕ) (function : CsFunctionTree) → slice_get q.functions f ≡ Some function
      → LeadsTo q calls (IsCheckAt at check v) function.body → LeadsTo q calls (IsCheckAt at other w) function.body → AreOfOneForm v w
  leads_one [] f function there h k = checks_one f function there h k
  leads_one (place ∷ calls) f function there h k =
      let P = λ (g : CsFunctionTree). LeadsTo q calls (IsCheckAt at check v) g.body in
      let Q = λ (g : CsFunctionTree). LeadsTo q calls (IsCheckAt at other w) g.body in
      let c = call_there place (λ c. IsSomeAnd (slice_get q.functions c.function) P) function.body h in
      let d = call_there place (λ c. IsSomeAnd (slice_get q.functions c.function) Q) function.body k in
      let same = each_there q.functions _ f function agree.calls there c.found d.found c.there d.there (c.place ∙ sym d.place) in
      let g = some_there (slice_get q.functions c.found.function) P c.so in
      let so = subst (λ z. IsSomeAnd z Q) g.1 (subst (λ z. IsSomeAnd (slice_get q.functions z) Q) (sym same) d.so) in
      leads_one calls c.found.function g.0 g.1 g.2 so

-- two alarms that a function admits
pub alarms_one : (q : CsProgramTree) → SitesAgree q → (f : ℕ) (function : CsFunctionTree) → slice_get q.functions f ≡ Some function → (x y : Alarm)
    → IsAdmittedIn q function.body x → IsAdmittedIn q function.body y → AreAlike x y → AreOfOneForm x.shown y.shown
alarms_one q agree f function there x y h k alike =
    leads_one q agree x.pos x.check y.check x.shown y.shown (h.kind ∙ alike.2 ∙ sym k.kind) x.chain f function there h.check
    (subst (λ z. LeadsTo q z (IsCheckAt x.pos y.check y.shown) function.body) (sym alike.0)
    (subst (λ z. LeadsTo q y.chain (IsCheckAt z y.check y.shown) function.body) (sym alike.1) k.check))
