-- Arguments that are put one by one.
use Rattle.std.proofs.Common.{◌≡◌, ℕ, zero, suc, List, [], ◌∷◌, Option, Some, None, refl, ap, ◌∙◌, arith}
use Rattle.std.specs.Prelude.{All, option_and_then, slice_get, slice_set}
use Rattle.block_mem.specs.declared.types.Value.{Value}
use Rattle.block_mem.specs.declared.types.Scalar.TheVariants as scalars
use Rattle.c_values.specs.Values.{converted_to}
use Rattle.c_values.specs.Operators.{binary_result, unary_result}
use Rattle.csharp.specs.Trees.{CsExprTree, Const, Null, Temp, Address, Unary, Binary, Convert}
use Rattle.csharp.specs.States.{State, value_of, if_taken}
use Rattle.csharp.specs.Actions.{args_from, pass, put}
use Rattle.csharp.specs.Formed.{Spares}

other_element : {A : Type 0} (xs : List A) (i j : ℕ) (a : A) → (j ≡ i → ⊥) → slice_get (slice_set xs i a) j ≡ slice_get xs j
other_element [] i j a h = refl
other_element (x ∷ xs) zero zero a h = absurd (h refl)
other_element (x ∷ xs) zero (suc j) a h = refl
other_element (x ∷ xs) (suc i) zero a h = refl
other_element (x ∷ xs) (suc i) (suc j) a h = other_element xs i j a (λ e. h (ap suc e))

-- an expression that does not read the temporary has its value still
pub value_spared : (e : CsExprTree) (s : State) (d : ℕ) (v : Value) → Spares d e → value_of e (put s d v) ≡ value_of e s
value_spared (Const t n) s d v h = refl
value_spared Null s d v h = refl
value_spared (Temp k) s d v h = other_element s.temps d k v h
value_spared (Address x) s d v h = refl
value_spared (Unary op e) s d v h = ap (option_and_then (unary_result op)) (value_spared e s d v h)
value_spared (Binary op e f) s d v h =
    ap (λ o. option_and_then (λ a. option_and_then (if_taken op (binary_result op) a) (value_of f (put s d v))) o) (value_spared e s d v h.0)
    ∙ ap (λ o. option_and_then (λ a. option_and_then (if_taken op (binary_result op) a) o) (value_of e s)) (value_spared f s d v h.1)
value_spared (Convert t e) s d v h = ap (option_and_then (converted_to (scalars.Int t))) (value_spared e s d v h)

step_same : (o : Option Value) (f g : Value → Option State) → ((w : Value) → f w ≡ g w) → option_and_then f o ≡ option_and_then g o
step_same None f g h = refl
step_same (Some w) f g h = h w

spared_first : (d : ℕ) (e : CsExprTree) (es : List CsExprTree) → All (Spares d) (e ∷ es) → Spares d e
spared_first d e es h = h 0 e (omega arith)

spared_rest : (d : ℕ) (e : CsExprTree) (es : List CsExprTree) → All (Spares d) (e ∷ es) → All (Spares d) es
spared_rest d e es h i k l = h (suc i) k (omega (l, arith))

-- the same arguments from either state
args_same : (s u : State) (d : ℕ) (v : Value) (es : List CsExprTree) (ds : List ℕ) → All (Spares d) es → args_from (put s d v) es ds u ≡ args_from s es ds u
args_same s u d v [] [] h = refl
args_same s u d v [] (k ∷ ds) h = refl
args_same s u d v (e ∷ es) [] h = refl
args_same s u d v (e ∷ es) (k ∷ ds) h =
    ap (option_and_then (λ w. args_from (put s d v) es ds (put u k w))) (value_spared e s d v (spared_first d e es h))
    ∙ step_same (value_of e s) (λ w. args_from (put s d v) es ds (put u k w)) (λ w. args_from s es ds (put u k w)) (λ w. args_same s (put u k w) d v es ds (spared_rest d e es h))

-- the first argument is put, and then the others
pub record Put (e : CsExprTree) (es : List CsExprTree) (d : ℕ) (ds : List ℕ) (s t : State) : Type 0 where
  pub value : Value
  pub has : value_of e s ≡ Some value
  pub rest : pass es ds (put s d value) ≡ Some t

put_case : (o : Option Value) (e : CsExprTree) (es : List CsExprTree) (d : ℕ) (ds : List ℕ) (s t : State) → value_of e s ≡ o → All (Spares d) es
    → option_and_then (λ v. args_from s es ds (put s d v)) o ≡ Some t → Put e es d ds s t
put_case None e es d ds s t i h p = absurd (cc)
put_case (Some v) e es d ds s t i h p = record { value = v; has = i; rest = args_same s (put s d v) d v es ds h ∙ p }

pub put_first : (e : CsExprTree) (es : List CsExprTree) (d : ℕ) (ds : List ℕ) (s t : State) → All (Spares d) es → pass (e ∷ es) (d ∷ ds) s ≡ Some t
    → Put e es d ds s t
put_first e es d ds s t h p = put_case (value_of e s) e es d ds s t refl h p

pub no_args : (ds : List ℕ) (s t : State) → pass [] ds s ≡ Some t → s ≡ t
no_args [] s t p = cc
no_args (d ∷ ds) s t p = absurd (cc)

pub no_params : (es : List CsExprTree) (s t : State) → pass es [] s ≡ Some t → s ≡ t
no_params [] s t p = cc
no_params (e ∷ es) s t p = absurd (cc)
