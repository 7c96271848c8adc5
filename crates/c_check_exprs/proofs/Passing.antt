-- Arguments that are passed one by one, and how many there are.
use Rattle.std.proofs.Common.{◌≡◌, refl, ap, sym, ◌∙◌, ℕ, suc, ◌+◌, ◌≤◌, ◌<◌, Bor, List, [], ◌∷◌, length, map, arith}
use Rattle.std.specs.Prelude.{Option, Some, None, option_map, unwrap_or, slice_get, false, ◌==◌, if◌then◌else◌}
use Rattle.std.specs.Option.{MatchOption, option_copied}
use Rattle.std.specs.List.{HoldsAt}
use Rattle.std.proofs.lemmas.Option.{slice_get-map}
use Rattle.std.proofs.lemmas.List.{length-map}
use Rattle.c_syntax_written.specs.declared.place.Pos.{Pos}
use Rattle.c_syntax.specs.declared.op.Op.TheVariants as ops
use Rattle.c_syntax.specs.Types.{CTypeTree, ctype_tree}
use Rattle.c_syntax.specs.declared.types.CType.{CType}
use Rattle.c_syntax.specs.TypedParts.{texpr_type}
use Rattle.c_typing.specs.World.{World, no_rule}
use Rattle.c_check_names.proofs.Places.{got}
use Rattle.c_typing.specs.Names.{input_type, is_assume, is_assert, meaning_of}
use Rattle.c_typing.specs.Rows.{store_row}
use Rattle.c_syntax.specs.declared.typed.TExpr.{TExpr}
use Rattle.c_syntax.specs.TypedExpr.{TExprTree, TExprTrees, none, more, Assume, Assert, texprs_from, texprs_then}
use Rattle.c_typing.specs.Nodes.{Passed, Passes, Fails, with_passed, count_of, passed, passed_one, call_named, called, called_or_read, told}

-- arguments in front of those that pass
unfoldable pub joined : TExprTrees → TExprTrees → TExprTrees
joined none rest = rest
joined (more e so_far) rest = more e (joined so_far rest)

unfoldable pub behind : TExprTrees → Passed → Passed
behind so_far (Passes rest) = Passes (joined so_far rest)
behind so_far (Fails r) = Fails r

pub behind_none : (q : Passed) → behind none q ≡ q
unfolding behind joined
behind_none (Passes rest) = refl
behind_none (Fails r) = refl

joined_then : (so_far : TExprTrees) (e : TExprTree) (rest : TExprTrees) → joined (texprs_then so_far e) rest ≡ joined so_far (more e rest)
unfolding joined texprs_then
joined_then none e rest = refl
joined_then (more x so_far) e rest = ap (more x) (joined_then so_far e rest)

pub behind_then : (so_far : TExprTrees) (e : TExprTree) (q : Passed) → behind (texprs_then so_far e) q ≡ behind so_far (with_passed e q)
unfolding behind
behind_then so_far e (Passes rest) = ap Passes (joined_then so_far e rest)
behind_then so_far e (Fails r) = refl

joined_none : (so_far : TExprTrees) → joined so_far none ≡ so_far
unfolding joined
joined_none none = refl
joined_none (more e so_far) = ap (more e) (joined_none so_far)

pub behind_passes : (so_far : TExprTrees) → behind so_far (Passes none) ≡ Passes so_far
unfolding behind
behind_passes so_far = ap Passes (joined_none so_far)

pub behind_fails : (so_far : TExprTrees) (r : _) → behind so_far (Fails r) ≡ Fails r
unfolding behind
behind_fails so_far r = refl

-- as many arguments as there are items
pub count_is : (items : List TExpr) → count_of (texprs_from items) ≡ length items
unfolding count_of texprs_from
count_is [] = refl
count_is (e ∷ rest) = ap (λ n. 1 + n) (count_is rest) ∙ (let k : 1 + length rest ≡ suc (length rest) = omega arith in k)

pub passed_more : (w : World) (at : Pos) (param : CTypeTree) (params : List CTypeTree) (e : TExprTree) (rest : TExprTrees)
    → passed w at (param ∷ params) (more e rest) ≡ passed_one (no_rule w at ops.Call param (Some (texpr_type e))) (store_row param (texpr_type e) e)
    (passed w at params rest)
unfolding passed
passed_more w at param params e rest = refl

pub passed_short : (w : World) (at : Pos) (args : TExprTrees) → passed w at [] args ≡ Passes none
unfolding passed
passed_short w at args = refl

pub passed_none : (w : World) (at : Pos) (params : List CTypeTree) → passed w at params none ≡ Passes none
unfolding passed
passed_none w at [] = refl
passed_none w at (param ∷ params) = refl

-- what is told of an item of a list, if it is there
pub told_at : {A B C : Type 0} (tree : A → B) (told : B → C) (otherwise : C) (xs : List A) (n : ℕ) (o : Option A) → slice_get xs n ≡ o
    → unwrap_or (option_map told (option_map tree o)) otherwise ≡ unwrap_or (option_map told (slice_get (map tree xs) n)) otherwise
told_at tree told otherwise xs n o e = ap (λ p. unwrap_or (option_map told p) otherwise) (sym (slice_get-map tree xs n ∙ ap (option_map tree) e))

-- what `get` gives of a list
pub found_at : {A : Type 0} (items xs : List A) (n : ℕ) (r : Option (Bor A))
    → MatchOption r (length items ≤ n) (λ x. (n < length items) × HoldsAt (λ y. x.now ≡ y) items n)
    → items ≡ xs → (o : Option A) → option_copied r ≡ o → slice_get xs n ≡ o
found_at items xs n r h e o f = ap (λ l. slice_get l n) (sym e) ∙ sym (got items n r h) ∙ f

-- parameters and arguments are counted by their trees
pub counted : (params : List CTypeTree) (args : TExprTrees) (wanted : List CType) (items : List TExpr) → map ctype_tree wanted ≡ params
    → texprs_from items ≡ args
    → (length wanted == length items) ≡ (length params == count_of args)
counted params args wanted items e f =
    ap (λ n. n == length items) (sym (length-map wanted ctype_tree) ∙ ap length e) ∙ ap (λ n. length params == n) (sym (count_is items) ∙ ap count_of f)

-- a call of what needs a declaration
pub called_by_name : (w : World) (at : Pos) (name : List ℕ) (args : TExprTrees) → input_type name ≡ None → is_assume name ≡ false → is_assert name ≡ false
    → call_named w at args (meaning_of w name) ≡ called w at name args
called_by_name w at name args e f g =
    let by_name = call_named w at args (meaning_of w name) in
    ap (λ b. if b then told w at (Assert at) args else by_name) (sym g)
    ∙ ap (λ b. if b then told w at (Assume at) args else (if is_assert name then told w at (Assert at) args else by_name)) (sym f)
    ∙ ap (called_or_read w at name args) (sym e)
