-- Equalities under assignments, and of two lists.
use Rattle.std.proofs.Common.{rules, arith, ℕ, ℤ, zero, suc, pos, List, [], ◌∷◌, length, take, ◌≡◌, ◌≤◌, ◌<◌, refl, sym, subst, ap, ◌∙◌, Bool, true, false, Option, Some, None}
use Rattle.std.specs.Prelude.{nat_eq, not, IsTrue, ◌||◌, ◌&&◌, if◌then◌else◌}
use Rattle.std.specs.Ordering.{int_eq}
use Rattle.std.proofs.lemmas.Bool.{eq-eqb, eqb-true, eqb-false, true≢false, false≢true}
use Rattle.std.proofs.lemmas.Bool.Decides.{Decides-int_eq}
use Rattle.std.proofs.lemmas.Option.{none-some, same_Some}
use Rattle.ext_int.specs.Valuation.{value_at}
use Rattle.num_api.specs.Valuation.{SetTo}
use Rattle.num_api.specs.Exprs.{NExprTree, Const, Read, Unary, Binary}
use Rattle.num_api.specs.declared.expr.NOp.TheVariants.{Not}
use Rattle.num_api.specs.Plain.{Standing, same, standing}
use Rattle.num_api.specs.Standings.{Stands}
use Rattle.num_api.specs.Value.{value_of, of_one, of_two, unary_value, binary_value, has_truth}
use Rattle.num_api.proofs.Parts.{of_one-some, of_two-some}
use Rattle.num_api.proofs.Truths.{turned_truth, truth_is, op_stands}
use Rattle.num_api.proofs.Reading.{value_apart, same_tree}
use Rattle.num_api.specs.Reading.{reads, is_same, op_number}
use Rattle.equalities.specs.declared.pairs.Equation.{Equation}
use Rattle.equalities.specs.Pairs.{Equality, pair_of, equality, equalities_of, with_pair, assigned, learned, expr_of, IsSo, AreSo, touches, apart_from, is_one, is_among, all_among, shared, variable_in, of_variables, of_sides, where_same, told_by}

-- ---- truth values

pub or_false : (a b : Bool) → (a || b) ≡ false → (a ≡ false) × (b ≡ false)
or_false false b e = (refl, e)
or_false true b e = absurd (true≢false e)

pub and_true : (a b : Bool) → (a && b) ≡ true → (a ≡ true) × (b ≡ true)
and_true true b e = (refl, e)
and_true false b e = absurd (false≢true e)

-- ---- lists

-- what does not speak of the variable stays so
pub so_apart : (x : ℕ) (n : ℤ) (v w : List ℤ) (p : Equality) → SetTo x n v w → touches x p ≡ false → IsSo v p → IsSo w p
so_apart x n v w p s f h =
    let both = or_false (nat_eq p.var x) (reads x p.tree) f in
    value_apart x n v w p.tree s both.1 ∙ h ∙ ap (λ (k : ℤ). Some k) (sym (s.others p.var (eqb-false p.var x both.0)))

so_unless : (w : List ℤ) (b : Bool) (p : Equality) (ps : List Equality) → (b ≡ false → IsSo w p) → AreSo w ps → AreSo w (if b then ps else p ∷ ps)
so_unless w true p ps h k = k
so_unless w false p ps h k = (h refl, k)

pub are_so_apart : (x : ℕ) (n : ℤ) (v w : List ℤ) (ps : List Equality) → SetTo x n v w → AreSo v ps → AreSo w (apart_from x ps)
are_so_apart x n v w [] s h = tt
are_so_apart x n v w (p ∷ ps) s h = so_unless w (touches x p) p (apart_from x ps) (λ f. so_apart x n v w p s f h.0) (are_so_apart x n v w ps s h.1)

so_where : (v : List ℤ) (b : Bool) (p : Equality) (ps : List Equality) → (b ≡ true → IsSo v p) → AreSo v ps → AreSo v (if b then p ∷ ps else ps)
so_where v true p ps h k = (h refl, k)
so_where v false p ps h k = k

pub are_so_left : (v : List ℤ) (ps qs : List Equality) → AreSo v ps → AreSo v (shared ps qs)
are_so_left v [] qs h = tt
are_so_left v (p ∷ ps) qs h = so_where v (is_among qs p) p (shared ps qs) (λ f. h.0) (are_so_left v ps qs h.1)

so_one : (v : List ℤ) (p q : Equality) → is_one p q ≡ true → IsSo v q → IsSo v p
so_one v p q e h =
    let both = and_true _ _ e in
    ap (value_of v) (same_tree p.tree q.tree both.1) ∙ h ∙ ap (λ (x : ℕ). Some (value_at v x)) (sym (eqb-true p.var q.var both.0))

so_either : (v : List ℤ) (p q : Equality) (b c : Bool) → b ≡ is_one p q → (b || c) ≡ true → IsSo v q → (c ≡ true → IsSo v p) → IsSo v p
so_either v p q true c e f h k = so_one v p q (sym e) h
so_either v p q false c e f h k = k f

pub so_among : (v : List ℤ) (p : Equality) (qs : List Equality) → is_among qs p ≡ true → AreSo v qs → IsSo v p
so_among v p [] e h = absurd (false≢true e)
so_among v p (q ∷ qs) e h = so_either v p q (is_one p q) (is_among qs p) refl e h.0 (λ f. so_among v p qs f h.1)

pub are_so_right : (v : List ℤ) (ps qs : List Equality) → AreSo v qs → AreSo v (shared ps qs)
are_so_right v [] qs h = tt
are_so_right v (p ∷ ps) qs h = so_where v (is_among qs p) p (shared ps qs) (λ f. so_among v p qs f h) (are_so_right v ps qs h)

pub are_so_among : (v : List ℤ) (ps qs : List Equality) → all_among ps qs ≡ true → AreSo v qs → AreSo v ps
are_so_among v [] qs e h = tt
are_so_among v (p ∷ ps) qs e h =
    let both = and_true _ _ e in
    (so_among v p qs both.0 h, are_so_among v ps qs both.1 h)

no_more_where : (b : Bool) (p : Equality) (rs ps : List Equality) → length rs ≤ length ps → length (if b then p ∷ rs else rs) ≤ length (p ∷ ps)
no_more_where true p rs ps h = omega arith
no_more_where false p rs ps h = omega arith

pub no_more : (ps qs : List Equality) → length (shared ps qs) ≤ length ps
no_more [] qs = omega arith
no_more (p ∷ ps) qs = no_more_where (is_among qs p) p (shared ps qs) ps (no_more ps qs)

fewer_where : (b c : Bool) (p : Equality) (rs ps : List Equality) → (b && c) ≡ false → length rs ≤ length ps → (c ≡ false → length rs < length ps) → length (if b then p ∷ rs else rs) < length (p ∷ ps)
fewer_where false c p rs ps e h k = omega arith
fewer_where true c p rs ps e h k = let less = k e in omega arith

pub fewer : (ps qs : List Equality) → all_among ps qs ≡ false → length (shared ps qs) < length ps
fewer [] qs e = absurd (true≢false e)
fewer (p ∷ ps) qs e = fewer_where (is_among qs p) (all_among ps qs) p (shared ps qs) ps e (no_more ps qs) (λ f. fewer ps qs f)

-- the expression that is found has the variable's value
found_if : (v : List ℤ) (x : ℕ) (t : NExprTree) (p : Equality) (b : Bool) (o : Option NExprTree) → b ≡ nat_eq p.var x → IsSo v p → (o ≡ Some t → value_of v t ≡ Some (value_at v x)) → (if b then Some p.tree else o) ≡ Some t → value_of v t ≡ Some (value_at v x)
found_if v x t p true o e h k f = subst (λ (y : ℕ). value_of v t ≡ Some (value_at v y)) (eqb-true p.var x (sym e)) (subst (λ (s : NExprTree). value_of v s ≡ Some (value_at v p.var)) (same_Some p.tree t f) h)
found_if v x t p false o e h k f = k f

pub found : (v : List ℤ) (x : ℕ) (t : NExprTree) (ps : List Equality) → AreSo v ps → expr_of ps x ≡ Some t → value_of v t ≡ Some (value_at v x)
found v x t [] h e = absurd (none-some t e)
found v x t (p ∷ ps) h e = found_if v x t p (nat_eq p.var x) (expr_of ps x) refl h.0 (λ f. found v x t ps h.1 f) e

-- ---- what a list begins with

pub are_so_take : (v : List ℤ) (n : ℕ) (ps : List Equality) → AreSo v ps → AreSo v (take n ps)
are_so_take v zero ps h = tt
are_so_take v (suc n) [] h = tt
are_so_take v (suc n) (p ∷ ps) h = (h.0, are_so_take v n ps h.1)

pub equalities_of-take : (n : ℕ) (ps : List Equation) → equalities_of (take n ps) ≡ take n (equalities_of ps)
equalities_of-take zero ps = refl
equalities_of-take (suc n) [] = refl
equalities_of-take (suc n) (p ∷ ps) = ap (λ (l : List Equality). equality p ∷ l) (equalities_of-take n ps)

-- ---- assignments, tests and messages

so_choice : (v : List ℤ) (b : Bool) (ps qs : List Equality) → AreSo v ps → (b ≡ false → AreSo v qs) → AreSo v (if b then ps else qs)
so_choice v true ps qs h k = h
so_choice v false ps qs h k = k refl

-- an assignment
pub are_so_assigned : (x : ℕ) (n : ℤ) (t : NExprTree) (v w : List ℤ) (ps : List Equality) → SetTo x n v w → value_of v t ≡ Some n → AreSo v ps → AreSo w (assigned x t ps)
are_so_assigned x n t v w ps s e h =
    let apart = are_so_apart x n v w ps s h in
    so_choice w (reads x t) (apart_from x ps) (with_pair (pair_of x t) (apart_from x ps)) apart
    (λ f. (value_apart x n v w t s f ∙ e ∙ ap (λ (k : ℤ). Some k) (sym s.here), are_so_take w 63 (apart_from x ps) apart))

-- what is learned is so
pub are_so_learned : (v : List ℤ) (x : ℕ) (t : NExprTree) (ps : List Equality) → value_of v t ≡ Some (value_at v x) → AreSo v ps → AreSo v (learned x t ps)
are_so_learned v x t ps e h =
    so_choice v (reads x t || is_among ps (pair_of x t)) ps (with_pair (pair_of x t) ps) h (λ f. (e, are_so_take v 63 ps h))

-- a variable is its own expression
pub read_of : (a : NExprTree) (y : ℕ) → variable_in a ≡ Some y → a ≡ Read y
read_of (Const n) y e = absurd (none-some y e)
read_of (Read x) y e = ap Read (same_Some x y e)
read_of (Unary op a) y e = absurd (none-some y e)
read_of (Binary op a b) y e = absurd (none-some y e)

sides_at : (v : List ℤ) (a b : NExprTree) (x : ℤ) (p : Equality) (o q : Option ℕ) → variable_in a ≡ o → variable_in b ≡ q → of_variables o q a b ≡ Some p → value_of v a ≡ Some x → value_of v b ≡ Some x → IsSo v p
sides_at v a b x p (Some y) q i j f e g = subst (IsSo v) (same_Some (pair_of y b) p f) (g ∙ sym e ∙ ap (value_of v) (read_of a y i))
sides_at v a b x p None (Some z) i j f e g = subst (IsSo v) (same_Some (pair_of z a) p f) (e ∙ sym g ∙ ap (value_of v) (read_of b z j))
sides_at v a b x p None None i j f e g = absurd (none-some p f)

sides_so : (v : List ℤ) (a b : NExprTree) (x y : ℤ) (how : Option Standing) (p : Equality) → where_same how (of_sides a b) ≡ Some p → value_of v a ≡ Some x → value_of v b ≡ Some y → ((k : Standing) → how ≡ Some k → Stands k x y) → IsSo v p
sides_so v a b x y (Some same) p f e g h =
    sides_at v a b x p (variable_in a) (variable_in b) refl refl f e (g ∙ ap (λ (n : ℤ). Some n) (sym (h same refl)))
sides_so v a b x y how p f e g h = absurd (none-some p f)

-- what a test tells is so where it has its truth
pub told_is_so : (v : List ℤ) (t : NExprTree) (wanted : Bool) (n : ℤ) (p : Equality) → told_by t wanted ≡ Some p → value_of v t ≡ Some n → IsTrue (has_truth wanted n) → IsSo v p
told_is_so v (Const m) wanted n p f e h = absurd (none-some p f)
told_is_so v (Read x) wanted n p f e h = absurd (none-some p f)
told_is_so v (Unary Not a) wanted n p f e h =
    let part = of_one-some (unary_value Not) (value_of v a) n e in
    told_is_so v a (not wanted) part.0 p f part.1 (turned_truth wanted part.0 (truth_is (int_eq part.0 (pos 0)) wanted n part.2 h))
told_is_so v (Unary op a) wanted n p f e h = absurd (none-some p f)
told_is_so v (Binary op a b) wanted n p f e h =
    let parts = of_two-some (binary_value op) (value_of v a) (value_of v b) n e in
    sides_so v a b parts.0 parts.1 (standing op wanted) p f parts.2 parts.3 (λ how s. op_stands op wanted how parts.0 parts.1 n s parts.4 h)

-- ---- trees

both_true : (a b : Bool) → a ≡ true → b ≡ true → (a && b) ≡ true
both_true true b e f = f
both_true false b e f = absurd (false≢true e)

-- a tree is the same as itself
pub same_itself : (t : NExprTree) → is_same t t ≡ true
same_itself (Const n) = (Decides-int_eq n n).1 refl
same_itself (Read x) = eq-eqb x x refl
same_itself (Unary op a) = both_true (nat_eq (op_number op) (op_number op)) (is_same a a) (eq-eqb (op_number op) (op_number op) refl) (same_itself a)
same_itself (Binary op a b) =
    both_true (nat_eq (op_number op) (op_number op)) (is_same a a && is_same b b) (eq-eqb (op_number op) (op_number op) refl)
    (both_true (is_same a a) (is_same b b) (same_itself a) (same_itself b))
