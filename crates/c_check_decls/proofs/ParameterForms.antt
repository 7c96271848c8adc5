-- Objects for parameters that follow each other, and their numbers.
use Rattle.std.proofs.Common.{◌≡◌, refl, ap, sym, ◌∙◌, ℕ, zero, suc, ◌+◌, ◌<◌, List, [], ◌∷◌, ◌++◌, length, map, take, get_or, arith}
use Rattle.std.proofs.lemmas.List.{append-nil, append_assoc, map-append, length-append, length-map, length-take-le, take_more}
use Rattle.c_typing.specs.World.{World}
use Rattle.c_typing.specs.Declarators.{ParameterTree}
use Rattle.c_typing.specs.Decls.{numbers_from, parameter_object, with_object, with_parameters}
use Rattle.c_check_declarators.specs.declared.shape.Parameter.{Parameter}
use Rattle.c_check_declarators.specs.Views.{parameter_tree}

pub numbers_none : (first : ℕ) → numbers_from first 0 ≡ []
unfolding numbers_from
numbers_none first = refl

-- one more number stands at the end
pub numbers_more : (first count : ℕ) → numbers_from first (suc count) ≡ numbers_from first count ++ (first + count) ∷ []
unfolding numbers_from
numbers_more first zero = ap (λ n. n ∷ []) (let e : first ≡ first + 0 = omega arith in e)
numbers_more first (suc n) =
    ap (λ xs. first ∷ xs) (numbers_more (first + 1) n ∙ ap (λ k. numbers_from (first + 1) n ++ k ∷ []) (let e : first + 1 + n ≡ first + suc n = omega arith in e))

pub parameters_none : (w : World) → w ≡ with_parameters w []
parameters_none w = ap (λ objects. record w { objects = objects }) (sym (append-nil w.objects))

-- and one more object
pub parameters_then : (w : World) (params : List ParameterTree) (param : ParameterTree)
    → with_object (with_parameters w params) (parameter_object (with_parameters w params) param) ≡ with_parameters w (params ++ param ∷ [])
parameters_then w params param =
    ap (λ objects. record w { objects = objects })
    (append_assoc w.objects (map (parameter_object w) params) (parameter_object w param ∷ [])
    ∙ ap (λ more. w.objects ++ more) (sym (map-append (parameter_object w) params (param ∷ []))))

module _ (w v : World) (params : List Parameter) (i : ℕ) (within : i < length params) (e : v ≡ with_parameters w (map parameter_tree (take i params))) where
  pub parameters_more : (u : World) (param : Parameter) → param ≡ get_or params i param → u ≡ with_object v (parameter_object v (parameter_tree param))
      → u ≡ with_parameters w (map parameter_tree (take (i + 1) params))
  parameters_more u param is f =
      f ∙ ap (λ x. with_object x (parameter_object x (parameter_tree param))) e ∙ parameters_then w (map parameter_tree (take i params)) (parameter_tree param)
      ∙ ap (with_parameters w) (sym (map-append parameter_tree (take i params) (param ∷ [])))
      ∙ ap (λ list. with_parameters w (map parameter_tree list)) (ap (λ p. take i params ++ p ∷ []) is ∙ sym (take_more params i param within))

  -- the next object has the next number
  pub next_number : length v.objects ≡ length w.objects + i
  next_number =
      let all : length v.objects ≡ length w.objects + length (map (parameter_object w) (map parameter_tree (take i params))) =
      ap (λ (x : World). length x.objects) e ∙ length-append w.objects (map (parameter_object w) (map parameter_tree (take i params))) in
      omega (arith, all, length-map (map parameter_tree (take i params)) (parameter_object w), length-map (take i params) parameter_tree, length-take-le i params)

  pub numbers_next : (done new : List ℕ) (n : ℕ) → done ≡ numbers_from (length w.objects) i → n ≡ length v.objects → new ≡ done ++ n ∷ []
      → new ≡ numbers_from (length w.objects) (i + 1)
  numbers_next done new n d h p =
      let next : suc i ≡ i + 1 = omega arith in
      p ∙ ap (λ list. list ++ n ∷ []) d ∙ ap (λ k. numbers_from (length w.objects) i ++ k ∷ []) (h ∙ next_number)
      ∙ sym (numbers_more (length w.objects) i) ∙ ap (numbers_from (length w.objects)) next
