-- What parts tell of exact results and of values, node by node.
use Rattle.std.proofs.Common.{◌≡◌, ◌&&◌, ◌*ℤ◌, ℕ, ℤ, List, Bool, true, false, Option, Some, None, refl, sym, subst, ap, ◌∙◌}
use Rattle.std.specs.Prelude.{IsSomeAnd, IfSome}
use Rattle.std.specs.Int.RustNames.{FitsSigned}
use Rattle.std.proofs.lemmas.Option.{none-some}
use Rattle.std.proofs.lemmas.Bool.{and_parts, false≢true}
use mir.Syntax.{w128}
use Rattle.ext_int.specs.Valuation.{value_at}
use Rattle.c_syntax_written.specs.declared.int_type.IntType.{IntType}
use Rattle.c_syntax_written.specs.declared.int_type.IntType.TheVariants.{LLong}
use Rattle.c_syntax_written.specs.Integer.{wrapped}
use Rattle.num_api.specs.declared.expr.NOp.{NOp}
use Rattle.num_api.specs.declared.expr.NOp.TheVariants.{Mul}
use Rattle.num_api.specs.declared.message.Range.{Range}
use Rattle.num_api.specs.Exprs.{NExprTree, nexpr_tree}
use Rattle.num_api.specs.Exprs as plain
use Rattle.num_api.specs.Ranges.{InRange, IsPoint, NoWider, all_numbers}
use Rattle.num_api.specs.Spans.{Span, FitsSpan, point, range_of, unary_span}
use Rattle.num_api.specs.Known.{IsSharpOn}
use Rattle.num_api.specs.Value.{value_of, AllFit, of_one, of_two, unary_value, binary_value}
use Rattle.num_api.proofs.Parts.{some_and, of_one-some, of_two-some, wider, inside, in_point, is_point, whole_range}
use Rattle.machine_nums.specs.MExprs.{MExprTree, Const, Read, Convert, Unary, Binary, type_of, untyped}
use Rattle.machine_nums.specs.Machine.{wrapped_value, exact_value, machine_value, PartsFit}
use Rattle.machine_nums.specs.Rule.{type_span, exact_span, value_span, exact_variable, typed_span}
use Rattle.machine_nums.specs.Own.{IsInside, SomeAnswer, OwnAnswers}
use Rattle.machine_nums.specs.Parts.{Tells, Shows, IsWrappedPart, IsTold, IsLike, IsResult, IsValue}
use Rattle.machine_nums.specs.declared.parts.Part.{Part}
use Rattle.machine_nums.proofs.ExprTypes.{wrapped_like, wrapped_fits}
use Rattle.machine_nums.proofs.Rules.{fits_span, fits_inside, kept_or_all, converted_fits, fits_from}
use Rattle.machine_nums.proofs.Wrapped.{point_from, like_product_off}

-- ---- numbers and answers

pub all_fit : (v : List ℤ) (e : NExprTree) (n : ℤ) → AllFit v e → value_of v e ≡ Some n → FitsSigned w128 n
all_fit v (plain.Const m) n f e = let same : m ≡ n = cc in subst (FitsSigned w128) same f
all_fit v (plain.Read x) n f e = let same : value_at v x ≡ n = cc in subst (FitsSigned w128) same f
all_fit v (plain.Unary op a) n f e = some_and (FitsSigned w128) (value_of v (plain.Unary op a)) n e f.0
all_fit v (plain.Binary op a b) n f e = some_and (FitsSigned w128) (value_of v (plain.Binary op a b)) n e f.0

pub wrapped_some : (t : IntType) (o : Option ℤ) (n : ℤ) → wrapped_value t o ≡ Some n → (m : ℤ) × (o ≡ Some m) × (wrapped t m ≡ n)
wrapped_some t None n e = absurd (none-some n e)
wrapped_some t (Some m) n e = let same : wrapped t m ≡ n = cc in (m, refl, same)

pub own_map : (may : NExprTree → Range → Type 0) (e : MExprTree) (P Q : Range → Type 0) → ((r : Range) → P r → Q r) → OwnAnswers may e P → OwnAnswers may e Q
own_map may (Const t n) P Q f h = (h.0, h.1, f h.0 h.2)
own_map may (Read x t) P Q f h = (h.0, h.1, f h.0 h.2)
own_map may (Convert t a) P Q f h = own_map may a (λ r. IsInside (type_of a) r → P r) (λ r. IsInside (type_of a) r → Q r) (λ r g i. f r (g i)) h
own_map may (Unary op t a) P Q f h =
    let e = plain.Unary op (untyped a) in
    own_map may a (λ q. IsInside (type_of a) q → SomeAnswer may e P) (λ q. IsInside (type_of a) q → SomeAnswer may e Q)
    (λ q g i. let s = g i in (s.0, s.1, f s.0 s.2)) h
own_map may (Binary op t a b) P Q f h =
    let e = plain.Binary op (untyped a) (untyped b) in
    own_map may a (λ p. IsInside (type_of a) p → OwnAnswers may b (λ q. IsInside (type_of b) q → SomeAnswer may e P))
    (λ p. IsInside (type_of a) p → OwnAnswers may b (λ q. IsInside (type_of b) q → SomeAnswer may e Q))
    (λ p g i. own_map may b (λ q. IsInside (type_of b) q → SomeAnswer may e P) (λ q. IsInside (type_of b) q → SomeAnswer may e Q)
    (λ q k j. let s = k j in (s.0, s.1, f s.0 s.2)) (g i)) h

pub own_inside : (may : NExprTree → Range → Type 0) (e : MExprTree) (part : Part) (Q : Range → Type 0) → ((r : Range) → NoWider part.range r → Q r)
    → OwnAnswers may e (λ r. NoWider r (range_of (type_span (type_of e))) → (part.is_kept ≡ true) × NoWider part.range r) → OwnAnswers may e
    (λ r. IsInside (type_of e) r → Q r)
own_inside may e part Q f h =
    own_map may e (λ r. NoWider r (range_of (type_span (type_of e))) → (part.is_kept ≡ true) × NoWider part.range r) (λ r. IsInside (type_of e) r → Q r)
    (λ r p i. f r (p i).1) h

pub some_fits : (o : Option ℤ) (n : ℤ) → o ≡ Some n → FitsSigned w128 n → IsSomeAnd o (FitsSigned w128)
some_fits o n e f = subst (λ (x : Option ℤ). IsSomeAnd x (FitsSigned w128)) (sym e) f

if_some_at : (P : ℤ → Type 0) (o : Option ℤ) (n : ℤ) → IfSome o P → o ≡ Some n → P n
if_some_at P None n h e = absurd (none-some n e)
if_some_at P (Some m) n h e = let same : m ≡ n = cc in subst P same h

-- ---- exact results that are i128s

pub fit_const : (v : List ℤ) (t : IntType) (n m : ℤ) → FitsSigned w128 n → exact_value v (Const t n) ≡ Some m → FitsSigned w128 m
fit_const v t n m f e = let same : n ≡ m = cc in subst (FitsSigned w128) same f

pub fit_read : (v : List ℤ) (x : ℕ) (t : IntType) (m : ℤ) → FitsSigned w128 (value_at v x) → exact_value v (Read x t) ≡ Some m → FitsSigned w128 m
fit_read v x t m f e = let same : value_at v x ≡ m = cc in subst (FitsSigned w128) same f

pub fit_convert : (v : List ℤ) (t : IntType) (a : MExprTree) (n : ℤ) → exact_value v (Convert t a) ≡ Some n → FitsSigned w128 n
fit_convert v t a n e = let step = wrapped_some (type_of a) (exact_value v a) n e in subst (FitsSigned w128) step.2 (wrapped_fits (type_of a) step.0)

pub fit_unary : (v : List ℤ) (op : NOp) (t : IntType) (a : MExprTree) (n : ℤ) → PartsFit v (Unary op t a) → exact_value v (Unary op t a) ≡ Some n
    → FitsSigned w128 n
fit_unary v op t a n f e = if_some_at (FitsSigned w128) (exact_value v (Unary op t a)) n f.0 e

pub fit_binary : (v : List ℤ) (op : NOp) (t : IntType) (a b : MExprTree) (n : ℤ) → (op ≡ Mul → ⊥) → PartsFit v (Binary op t a b)
    → exact_value v (Binary op t a b) ≡ Some n → FitsSigned w128 n
fit_binary v op t a b n g f e = if_some_at (FitsSigned w128) (exact_value v (Binary op t a b)) n (f.0 g) e

span_is : (r : Range) (s u : Span) → Some u ≡ Some s → NoWider r (range_of u) → NoWider r (range_of s)
span_is r s u e w = let same : u ≡ s = cc in subst (λ (x : Span). NoWider r (range_of x)) same w

-- ---- the nodes of a state that admits valuations, knows ranges and gives answers

module _ (admits : List ℤ → Type 0) (exact : Bool) (known : ℕ → Range) (may : NExprTree → Range → Type 0) where
  told_shows : (before after : Part) (v : List ℤ) (n : ℤ) → IsTold admits exact known may before after → admits v → Tells v before n → Shows known v before n
      → Shows known v after n
  told_shows before after v n t a h s = record {
    point = point_from after.range before.range n n (t.holds v n a h).holds t.inside s.point;
    fits = subst (AllFit v) (sym t.tree) s.fits;
    sharp = subst (IsSharpOn known v) (sym t.tree) s.sharp;
  }

  pub result_const : (t : IntType) (n : ℤ) (before after : Part) → nexpr_tree before.plain ≡ plain.Const n → before.range ≡ range_of (point n)
      → before.is_kept ≡ true → IsTold admits exact known may before after
      → IsResult admits exact known may (Const t n) after
  result_const t n before after tree range kept told =
      let tells : (v : List ℤ) (m : ℤ) → Some n ≡ Some m → Tells v before m = λ v m e.
      let same : n ≡ m = cc in record { value = ap (value_of v) tree ∙ e; holds = subst (λ (r : Range). InRange r m) (sym range) (in_point n m same) } in
      record {
        holds = λ v m a e. told.holds v m a (tells v m e);
        shows = λ v m x a s p f e.
            let same : n ≡ m = cc in
            told_shows before after v m told a (tells v m e) (record {
              point = subst (λ (k : ℤ). IsPoint before.range k) same (subst (λ (r : Range). IsPoint r n) (sym range) (is_point n));
              fits = subst (AllFit v) (sym tree) p;
              sharp = subst (IsSharpOn known v) (sym tree) tt;
            });
        plain = λ given s x u e f. span_is after.range s (point n) e (subst (λ (r : Range). NoWider after.range r) range told.inside);
        variable = λ given y x u e. absurd (none-some y e);
        kept = λ h. told.tree ∙ tree;
        own = (told.answer.0, subst (λ (e : NExprTree). may e told.answer.0) tree told.answer.1, (told.kept ∙ kept, told.answer.2));
      }

  pub result_read : (y : ℕ) (t : IntType) (before after : Part) → nexpr_tree before.plain ≡ plain.Read y → before.range ≡ all_numbers → before.is_kept ≡ true
      → IsTold admits exact known may before after
      → IsResult admits exact known may (Read y t) after
  result_read y t before after tree range kept told =
      let tells : (v : List ℤ) (m : ℤ) → Some (value_at v y) ≡ Some m
      → Tells v before m = λ v m e. record {
        value = ap (value_of v) tree ∙ e;
        holds = subst (λ (r : Range). InRange r m) (sym range)
            (record { low = tt; high = tt });
      } in
      record {
        holds = λ v m a e. told.holds v m a (tells v m e);
        shows = λ v m x a s p f e.
            let same : value_at v y ≡ m = cc in record {
              point = point_from after.range (known y) m m (told.holds v m a (tells v m e)).holds (told.variable y x tree) (subst (IsPoint (known y)) same s);
              fits = subst (AllFit v) (sym (told.tree ∙ tree)) p;
              sharp = subst (IsSharpOn known v) (sym (told.tree ∙ tree)) s;
            };
        plain = λ given s x u e f.
            wider after.range (known y) (range_of s) (told.variable y x tree)
            (wider (known y) (given y) (range_of s) (u y) (inside (given y) s (whole_range (given y).lo (given y).hi s e)));
        variable = λ given z x u e. let same : y ≡ z = cc in told.tree ∙ tree ∙ ap plain.Read same;
        kept = λ h. told.tree ∙ tree;
        own = (told.answer.0, subst (λ (e : NExprTree). may e told.answer.0) tree told.answer.1, (told.kept ∙ kept, told.answer.2));
      }

  pub result_convert : (t : IntType) (e : MExprTree) (part : Part) → IsValue admits exact known may e part → IsResult admits exact known may (Convert t e) part
  result_convert t e part val = record {
    holds = val.holds;
    shows = λ v n x a s p f q. val.shows v n x a s p q;
    plain = λ given s x u q f. span_is part.range s (value_span given e) q (val.plain given x u);
    variable = val.variable;
    kept = val.kept;
    own = val.own;
  }

  pub result_unary : (op : NOp) (t : IntType) (e : MExprTree) (a before after : Part) → nexpr_tree before.plain ≡ plain.Unary op (nexpr_tree a.plain)
      → before.is_kept ≡ a.is_kept
      → ((x n : ℤ) → InRange a.range x → unary_value op x ≡ Some n → InRange before.range n)
      → ((x n : ℤ) → IsPoint a.range x → unary_value op x ≡ Some n → FitsSigned w128 n → IsPoint before.range n)
      → ((s u : Span) → NoWider a.range (range_of s) → FitsSpan s → unary_span op s ≡ Some u → FitsSpan u → NoWider before.range (range_of u))
      → IsTold admits exact known may before after → IsValue admits exact known may e a → IsResult admits exact known may (Unary op t e) after
  result_unary op t e a before after tree kept holds points rule told val =
      let found : (v : List ℤ) (x n : ℤ) → Tells v a x → unary_value op x ≡ Some n → Tells v before n = λ v x n h q. record {
        value = ap (value_of v) tree ∙ ap (of_one (unary_value op)) h.value ∙ q;
        holds = holds x n h.holds q;
      } in
      record {
        holds = λ v n ad q.
            let step = of_one-some (unary_value op) (machine_value v e) n q in
            told.holds v n ad (found v step.0 n (val.holds v step.0 ad step.1) step.2);
        shows = λ v n x ad s p f q.
            let step = of_one-some (unary_value op) (machine_value v e) n q in
            let h = val.holds v step.0 ad step.1 in
            let own = val.shows v step.0 x ad s p.1 step.1 in
            told_shows before after v n told ad (found v step.0 n h step.2) (record {
              point = points step.0 n own.point step.2 f;
              fits = subst (AllFit v) (sym tree)
                  (some_fits (value_of v (plain.Unary op (nexpr_tree a.plain))) n (ap (of_one (unary_value op)) h.value ∙ step.2) f, own.fits);
              sharp = subst (IsSharpOn known v) (sym tree) own.sharp;
            });
        plain = λ given s x u q f.
            wider after.range before.range (range_of s) told.inside
            (rule (value_span given e) s (val.plain given x u) (converted_fits (type_of e) (exact_span given e)) q f);
        variable = λ given z x u q. absurd (none-some z q);
        kept = λ h. told.tree ∙ tree ∙ ap (plain.Unary op) (val.kept (sym kept ∙ sym told.kept ∙ h));
        own = own_map may e (λ q. IsInside (type_of e) q → (a.is_kept ≡ true) × NoWider a.range q)
            (λ q. IsInside (type_of e) q → SomeAnswer may (plain.Unary op (untyped e)) (λ r. (after.is_kept ≡ true) × NoWider after.range r))
            (λ q g i.
            let k = g i in (
              told.answer.0,
              subst (λ (x : NExprTree). may x told.answer.0) (tree ∙ ap (plain.Unary op) (val.kept k.0)) told.answer.1,
              (told.kept ∙ kept ∙ k.0, told.answer.2),
            ))
            val.own;
      }

  pub result_binary : (op : NOp) (t : IntType) (d e : MExprTree) (a b before after : Part)
      → nexpr_tree before.plain ≡ plain.Binary op (nexpr_tree a.plain) (nexpr_tree b.plain) → before.is_kept ≡ (a.is_kept && b.is_kept)
      → ((x y n : ℤ) → InRange a.range x → InRange b.range y → binary_value op x y ≡ Some n → InRange before.range n)
      → ((x y n : ℤ) → IsPoint a.range x → IsPoint b.range y → binary_value op x y ≡ Some n → FitsSigned w128 n → IsPoint before.range n)
      → ((s r u : Span) → NoWider a.range (range_of s) → FitsSpan s → NoWider b.range (range_of r) → FitsSpan r → typed_span op t s r ≡ Some u → FitsSpan u
      → NoWider before.range (range_of u))
      → IsTold admits exact known may before after → IsValue admits exact known may d a → IsValue admits exact known may e b → IsResult admits exact known may
      (Binary op t d e) after
  result_binary op t d e a b before after tree kept holds points rule told left right =
      let found : (v : List ℤ) (x y n : ℤ) → Tells v a x → Tells v b y → binary_value op x y ≡ Some n → Tells v before n = λ v x y n h k q. record {
        value = ap (value_of v) tree ∙ ap (λ (o : Option ℤ). of_two (binary_value op) o (value_of v (nexpr_tree b.plain))) h.value ∙ ap
            (of_two (binary_value op) (Some x)) k.value ∙ q;
        holds = holds x y n h.holds k.holds q;
      } in
      record {
        holds = λ v n ad q.
            let step = of_two-some (binary_value op) (machine_value v d) (machine_value v e) n q in
            told.holds v n ad (found v step.0 step.1 n (left.holds v step.0 ad step.2) (right.holds v step.1 ad step.3) step.4);
        shows = λ v n x ad s p f q.
            let step = of_two-some (binary_value op) (machine_value v d) (machine_value v e) n q in
            let h = left.holds v step.0 ad step.2 in let k = right.holds v step.1 ad step.3 in
            let first = left.shows v step.0 x ad s.0 p.1 step.2 in
            let second = right.shows v step.1 x ad s.1 p.2 step.3 in
            let all = found v step.0 step.1 n h k step.4 in
            told_shows before after v n told ad all (record {
              point = points step.0 step.1 n first.point second.point step.4 f;
              fits = subst (AllFit v) (sym tree) (
                some_fits (value_of v (plain.Binary op (nexpr_tree a.plain) (nexpr_tree b.plain))) n
                    (sym (ap (value_of v) tree) ∙ all.value) f,
                first.fits,
                second.fits,
              );
              sharp = subst (IsSharpOn known v) (sym tree) (first.sharp, second.sharp);
            });
        plain = λ given s x u q f.
            wider after.range before.range (range_of s) told.inside
            (rule (value_span given d) (value_span given e) s (left.plain given x u) (converted_fits (type_of d) (exact_span given d)) (right.plain given x u)
            (converted_fits (type_of e) (exact_span given e)) q f);
        variable = λ given z x u q. absurd (none-some z q);
        kept = λ h.
            let both = and_parts a.is_kept b.is_kept (sym kept ∙ sym told.kept ∙ h) in
            told.tree ∙ tree ∙ ap (λ (x : NExprTree). plain.Binary op x (nexpr_tree b.plain)) (left.kept both.0) ∙ ap (plain.Binary op (untyped d))
            (right.kept both.1);
        own = own_map may d (λ p. IsInside (type_of d) p → (a.is_kept ≡ true) × NoWider a.range p)
            (λ p. IsInside (type_of d) p → OwnAnswers may e
            (λ q. IsInside (type_of e) q → SomeAnswer may (plain.Binary op (untyped d) (untyped e)) (λ r. (after.is_kept ≡ true) × NoWider after.range r)))
            (λ p g i.
            let k = g i in
            own_map may e (λ q. IsInside (type_of e) q → (b.is_kept ≡ true) × NoWider b.range q)
            (λ q. IsInside (type_of e) q → SomeAnswer may (plain.Binary op (untyped d) (untyped e)) (λ r. (after.is_kept ≡ true) × NoWider after.range r))
            (λ q f j.
            let l = f j in
            let whole = tree ∙ ap (λ (x : NExprTree). plain.Binary op x (nexpr_tree b.plain)) (left.kept k.0) ∙ ap (plain.Binary op (untyped d))
            (right.kept l.0) in (
              told.answer.0,
              subst (λ (x : NExprTree). may x told.answer.0) whole told.answer.1,
              (told.kept ∙ kept ∙ both_true a.is_kept b.is_kept k.0 l.0, told.answer.2),
            ))
            right.own)
            left.own;
      }
    where
      both_true : (x y : Bool) → x ≡ true → y ≡ true → (x && y) ≡ true
      both_true true true f g = refl
      both_true true false f g = g
      both_true false y f g = f

  -- ---- values

  pub value_wrapped : (e : MExprTree) (part after : Part) → IsResult admits exact known may e part → IsWrappedPart (type_of e) part after
      → ((v : List ℤ) (n : ℤ) → admits v → PartsFit v e → exact_value v e ≡ Some n → FitsSigned w128 n)
      → IsValue admits exact known may e after
  value_wrapped e part after res w fit = record {
    holds = λ v n a q.
        let step = wrapped_some (type_of e) (exact_value v e) n q in
        subst (Tells v after) step.2 (w.tells v step.0 (res.holds v step.0 a step.1));
    shows = λ v n x a s p q.
        let step = wrapped_some (type_of e) (exact_value v e) n q in
        subst (Shows known v after) step.2 (w.shows known v step.0 (res.holds v step.0 a step.1) (res.shows v step.0 x a s p (fit v step.0 a p step.1) step.1));
    plain = λ given x u. kept_or_all (λ (s : Span). NoWider after.range (range_of s)) (type_of e) (exact_span given e) w.inside
        (λ s q f.
        let own = res.plain given s x u q (fits_span (type_of e) s f) in
        let k = w.kept (wider part.range (range_of s) (range_of (type_span (type_of e))) own (fits_inside (type_of e) s f)) in
        subst (λ (r : Range). NoWider r (range_of s)) (sym k.1) own);
    variable = λ given z x u q.
        let step = fits_from (type_of e) (exact_span given e) (exact_variable given e) z q in
        let own = res.plain given step.0 x u step.1 (fits_span (type_of e) step.0 step.2) in
        let k = w.kept (wider part.range (range_of step.0) (range_of (type_span (type_of e))) own (fits_inside (type_of e) step.0 step.2)) in
        k.0 ∙ res.variable given z x u step.3;
    kept = λ h. let k = w.as_it_was h in k.0 ∙ res.kept k.1;
    own = own_map may e (λ r. (part.is_kept ≡ true) × NoWider part.range r) (λ r. IsInside (type_of e) r → (after.is_kept ≡ true) × NoWider after.range r)
        (λ r p i. let k = w.kept (wider part.range r (range_of (type_span (type_of e))) p.1 i) in (k.2 ∙ p.0, subst (λ (x : Range). NoWider x r) (sym k.1) p.1))
        res.own;
  }

  -- where the products of all numbers of two ranges are i128s, those of the values are
  pub fit_product : (t : IntType) (d e : MExprTree) (a b : Part) → IsValue admits exact known may d a → IsValue admits exact known may e b
      → ((x y : ℤ) → InRange a.range x → InRange b.range y → FitsSigned w128 (x *ℤ y))
      → (v : List ℤ) (n : ℤ) → admits v → exact_value v (Binary Mul t d e) ≡ Some n → FitsSigned w128 n
  fit_product t d e a b left right f v n ad q =
      let step = of_two-some (binary_value Mul) (machine_value v d) (machine_value v e) n q in
      let same : step.0 *ℤ step.1 ≡ n = some_same (step.0 *ℤ step.1) n step.4 in
      subst (FitsSigned w128) same (f step.0 step.1 (left.holds v step.0 ad step.2).holds (right.holds v step.1 ad step.3).holds)
    where
      some_same : (x y : ℤ) → Some x ≡ Some y → x ≡ y
      some_same x y e = cc

  -- a product by numbers that are like the factors
  pub value_like : (t : IntType) (d e : MExprTree) (a b part like after : Part) → IsValue admits exact known may d a → IsValue admits exact known may e b
      → IsResult admits exact known may (Binary Mul t d e) part
      → ((s : Span) → NoWider part.range (range_of s) → ⊥) → IsLike a b like → IsWrappedPart t like after → IsValue admits exact known may
      (Binary Mul t d e) after
  value_like t d e a b part like after left right res wide l w =
      let same : (x y n : ℤ) → Some (x *ℤ y) ≡ Some n → wrapped t (wrapped LLong x *ℤ wrapped LLong y) ≡ wrapped t n = λ x y n q.
      let is : x *ℤ y ≡ n = cc in wrapped_like t (x *ℤ y) (wrapped LLong x *ℤ wrapped LLong y) (like_product_off x y) ∙ ap (wrapped t) is in
      record {
        holds = λ v n ad q.
            let out = wrapped_some t (exact_value v (Binary Mul t d e)) n q in
            let step = of_two-some (binary_value Mul) (machine_value v d) (machine_value v e) out.0 out.1 in
            subst (Tells v after) (same step.0 step.1 out.0 step.4 ∙ out.2)
            (w.tells v (wrapped LLong step.0 *ℤ wrapped LLong step.1)
            (l.tells v step.0 step.1 (left.holds v step.0 ad step.2) (right.holds v step.1 ad step.3)));
        shows = λ v n x ad s p q.
            let out = wrapped_some t (exact_value v (Binary Mul t d e)) n q in
            let step = of_two-some (binary_value Mul) (machine_value v d) (machine_value v e) out.0 out.1 in
            let h = left.holds v step.0 ad step.2 in let k = right.holds v step.1 ad step.3 in
            subst (Shows known v after) (same step.0 step.1 out.0 step.4 ∙ out.2)
            (w.shows known v (wrapped LLong step.0 *ℤ wrapped LLong step.1) (l.tells v step.0 step.1 h k)
            (l.shows known v step.0 step.1 h k (left.shows v step.0 x ad s.0 p.1 step.2) (right.shows v step.1 x ad s.1 p.2 step.3)));
        plain = λ given x u. kept_or_all (λ (s : Span). NoWider after.range (range_of s)) t (exact_span given (Binary Mul t d e)) w.inside
            (λ s q f. absurd (wide s (res.plain given s x u q (fits_span t s f))));
        variable = λ given z x u q. absurd (none-some z (fits_from t (exact_span given (Binary Mul t d e)) None z q).3);
        kept = λ h. absurd (false≢true (sym l.never ∙ (w.as_it_was h).1));
        own = own_map may (Binary Mul t d e) (λ r. (part.is_kept ≡ true) × NoWider part.range r)
            (λ r. IsInside t r → (after.is_kept ≡ true) × NoWider after.range r)
            (λ r p i. absurd (wide (type_span t) (wider part.range r (range_of (type_span t)) p.1 i)))
            res.own;
      }
