-- What is left to walk falls at each call.
use Rattle.std.proofs.Common.{◌≡◌, ℕ, zero, suc, ◌+◌, ◌*◌, ◌<◌, ◌≤◌, List, [], ◌∷◌, Some, ap, sym, subst, ◌∙◌, map, length, get_or, arith}
use Rattle.std.specs.Prelude.{option_map, slice_get}
use Rattle.std.proofs.lemmas.Option.{slice_get-get_or, slice_get-map}
use Rattle.csharp.specs.declared.program.CsFunction.{CsFunction}
use Rattle.csharp.specs.Trees.{CsCallTree, Call, CsFunctionTree, CsProgramTree, csfunction_tree}
use Rattle.walk_owes.specs.declared.way.Target.{Target}
use Rattle.csharp.specs.Sizes.{csstmt_size}
use Rattle.walk_owes.specs.Walkable.{IsCallable, IsWalkable, total, worth}

body_within : (fs : List CsFunctionTree) (i : ℕ) (f : CsFunctionTree) → slice_get fs i ≡ Some f → csstmt_size f.body ≤ total fs
body_within [] i f e = absurd (cc)
body_within (g ∷ fs) zero f e = let same : g ≡ f = cc in let sizes = ap (λ (h : CsFunctionTree). csstmt_size h.body) same in omega (arith, sizes)
body_within (g ∷ fs) (suc i) f e = let rest = body_within fs i f e in omega (arith, rest)

pub call_falls : (q : CsProgramTree) (depth i : ℕ) (f : CsFunctionTree) → slice_get q.functions i ≡ Some f
    → worth q depth + 8 * csstmt_size f.body + 1 < worth q (suc depth) + 2
unfolding worth
call_falls q depth i f e = let within = body_within q.functions i f e in omega (arith, within)

pub function_there : (xs ys : List CsFunction) (i : ℕ) (f : CsFunction) → xs ≡ ys → i < length xs → f ≡ get_or xs i f
    → slice_get (map csfunction_tree ys) i ≡ Some (csfunction_tree f)
function_there xs ys i f e h at =
    subst (λ zs. slice_get (map csfunction_tree zs) i ≡ Some (csfunction_tree f)) e
    (slice_get-map csfunction_tree xs i ∙ ap (option_map csfunction_tree) (slice_get-get_or xs i f h ∙ ap Some (sym at)))

-- the callee of a call that may be walked
pub callable : (q : CsProgramTree) (depth less : ℕ) (to : Target) (c : CsCallTree) → depth ≡ suc less → IsWalkable q depth to (Call c)
    → IsCallable q (λ t a. IsWalkable q less t a) c
callable q depth less to c e h = subst (λ d. IsWalkable q d to (Call c)) e h

pub callee_is : (q : CsProgramTree) (depth : ℕ) (c : CsCallTree) (f : CsFunctionTree) → slice_get q.functions c.function ≡ Some f
    → (h : IsCallable q (λ t a. IsWalkable q depth t a) c) → h.function ≡ f
callee_is q depth c f e h = let a = h.there in cc
