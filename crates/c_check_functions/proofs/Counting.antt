-- Parameters that follow each other, each counted among the sizes.
use Rattle.std.proofs.Common.{◌≡◌, refl, sym, ap, ◌∙◌, ℕ, zero, suc, ◌+◌, ◌<◌, ◌≤◌, Bool, true, false, List, [], ◌∷◌, ◌++◌, length, map, drop, get_or, drop-cons, add-one, arith}
use Rattle.std.specs.Prelude.{⊤, nat_lt}
use Rattle.c_typing.specs.World.{World, Outcome, Typed, Refused, Refusal, ObjectTooLarge, TotalTooLarge, unless}
use Rattle.c_typing.specs.Declarators.{ParameterTree}
use Rattle.c_typing.specs.Names.{object_limit, total_limit, within_limits}
use Rattle.c_typing.specs.Decls.{numbers_from, parameter_object, size_or_zero, with_object, with_total}
use Rattle.c_typing.specs.File.{with_counted}
use Rattle.c_check_decls.proofs.ParameterForms.{numbers_more}
use Rattle.c_check_declarators.specs.declared.shape.Parameter.{Parameter}
use Rattle.c_check_declarators.specs.Views.{parameter_tree}
use Rattle.c_check_functions.specs.Views.{counted}

-- typed, with nothing told
abbrev done : World → Outcome ⊤
done w = Typed tt w

-- ---- within the limits, or not

passes : (b c : Bool) (r s : Refusal) (w v : World) (o : Outcome ⊤) → done w ≡ unless b r (unless c s (done v)) → o ≡ unless b r (unless c s o)
passes true c r s w v o e = absurd (let h : ◌≡◌ {A = Outcome ⊤} (Typed tt w) (Refused r) = e in cc)
passes false true r s w v o e = absurd (let h : ◌≡◌ {A = Outcome ⊤} (Typed tt w) (Refused s) = e in cc)
passes false false r s w v o e = refl

halts : (b c : Bool) (r s t : Refusal) (w : World) (o : Outcome ⊤) → Refused t ≡ unless b r (unless c s (done w)) → Refused t ≡ unless b r (unless c s o)
halts true c r s t w o e = e
halts false true r s t w o e = e
halts false false r s t w o e = absurd (let h : ◌≡◌ {A = Outcome ⊤} (Refused t) (Typed tt w) = e in cc)

goes_on_with : (b c : Bool) (r s : Refusal) (u v : World) (next : World → Outcome ⊤) → done v ≡ unless b r (unless c s (done u)) → next v ≡ unless b r (unless c s (next u))
goes_on_with true c r s u v next e = absurd (let h : ◌≡◌ {A = Outcome ⊤} (Typed tt v) (Refused r) = e in cc)
goes_on_with false true r s u v next e = absurd (let h : ◌≡◌ {A = Outcome ⊤} (Typed tt v) (Refused s) = e in cc)
goes_on_with false false r s u v next e = let same : v ≡ u = (let h : ◌≡◌ {A = Outcome ⊤} (Typed tt v) (Typed tt u) = e in cc) in ap next same

module _ (w : World) (param : ParameterTree) (size : ℕ) (is : size ≡ size_or_zero w param.ty) where
  -- a parameter that goes past a limit
  pub limit_halts : (r : Refusal) → Refused r ≡ within_limits param.pos size w (done w) → Refused r ≡ counted w param
  limit_halts r e =
      halts (nat_lt object_limit size) (nat_lt total_limit (w.total + size)) (ObjectTooLarge param.pos size) (TotalTooLarge param.pos (w.total + size)) r w
      (done (with_total (with_object w (parameter_object w param)) size)) e
      ∙ ap (λ n. within_limits param.pos n w (done (with_total (with_object w (parameter_object w param)) n))) is

  -- and one that does not
  pub limit_passes : (v : World) → v ≡ with_total (with_object w (parameter_object w param)) size → done w ≡ within_limits param.pos size w (done w) → done v ≡ counted w param
  limit_passes v f e =
      ap done f
      ∙ passes (nat_lt object_limit size) (nat_lt total_limit (w.total + size)) (ObjectTooLarge param.pos size) (TotalTooLarge param.pos (w.total + size)) w w
      (done (with_total (with_object w (parameter_object w param)) size)) e
      ∙ ap (λ n. within_limits param.pos n w (done (with_total (with_object w (parameter_object w param)) n))) is

-- ---- lists of them

counted_then : (w v : World) (param : ParameterTree) (rest : List ParameterTree) → done v ≡ counted w param → with_counted v rest ≡ with_counted w (param ∷ rest)
unfolding with_counted
counted_then w v param rest e =
    let size = size_or_zero w param.ty in
    goes_on_with (nat_lt object_limit size) (nat_lt total_limit (w.total + size)) (ObjectTooLarge param.pos size) (TotalTooLarge param.pos (w.total + size))
    (with_total (with_object w (parameter_object w param)) size) v (λ u. with_counted u rest) e

counted_halts : (w : World) (param : ParameterTree) (rest : List ParameterTree) (r : Refusal) → Refused r ≡ counted w param → Refused r ≡ with_counted w (param ∷ rest)
unfolding with_counted
counted_halts w param rest r e =
    let size = size_or_zero w param.ty in
    let next = with_total (with_object w (parameter_object w param)) size in
    halts (nat_lt object_limit size) (nat_lt total_limit (w.total + size)) (ObjectTooLarge param.pos size) (TotalTooLarge param.pos (w.total + size)) r
    next (with_counted next rest) e

counted_none : (w : World) → done w ≡ with_counted w []
unfolding with_counted
counted_none w = refl

falls : {A : Type 0} (xs : List A) (k : ℕ) (x : A) → x ≡ get_or xs k x → k < length xs → drop k xs ≡ x ∷ drop (k + 1) xs
falls xs k x e h = rw add-one (drop-cons xs k x h ∙ ap (λ y. y ∷ drop (suc k) xs) (sym e))

drop_past : {A : Type 0} (xs : List A) (k : ℕ) → length xs ≤ k → drop k xs ≡ []
drop_past [] zero h = refl
drop_past [] (suc k) h = refl
drop_past (x ∷ xs) zero h = absurd (omega (arith, h))
drop_past (x ∷ xs) (suc k) h = drop_past xs k (omega arith)

-- what is left from a place on
abbrev pub left_from : World → List Parameter → ℕ → Outcome ⊤
left_from w params k = with_counted w (map parameter_tree (drop k params))

module _ (w : World) (params : List Parameter) (k : ℕ) where
  module _ (param : Parameter) (is : param ≡ get_or params k param) (inside : k < length params) where
    pub next_counted : (v : World) → done v ≡ counted w (parameter_tree param) → left_from v params (k + 1) ≡ left_from w params k
    next_counted v e =
        counted_then w v (parameter_tree param) (map parameter_tree (drop (k + 1) params)) e
        ∙ ap (λ ps. with_counted w (map parameter_tree ps)) (sym (falls params k param is inside))

    pub next_halts : (r : Refusal) → Refused r ≡ counted w (parameter_tree param) → Refused r ≡ left_from w params k
    next_halts r e =
        counted_halts w (parameter_tree param) (map parameter_tree (drop (k + 1) params)) r e
        ∙ ap (λ ps. with_counted w (map parameter_tree ps)) (sym (falls params k param is inside))

  pub none_left : length params ≤ k → done w ≡ left_from w params k
  none_left past = counted_none w ∙ ap (λ ps. with_counted w (map parameter_tree ps)) (sym (drop_past params k past))

-- ---- their numbers

-- one more number stands at the end
pub next_number : (first k n : ℕ) (done new : List ℕ) → done ≡ numbers_from first k → n ≡ first + k → new ≡ done ++ n ∷ [] → new ≡ numbers_from first (k + 1)
next_number first k n done new d h p =
    let next : suc k ≡ k + 1 = omega arith in
    p ∙ ap (λ list. list ++ n ∷ []) d ∙ ap (λ m. numbers_from first k ++ m ∷ []) h ∙ sym (numbers_more first k) ∙ ap (numbers_from first) next
