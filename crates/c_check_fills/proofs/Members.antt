-- Members of structs, as the code finds them.
use Rattle.std.proofs.Common.{◌≡◌, ◌<◌, ◌≤◌, ◌∙◌, ap, sym, refl, arith, ℕ, zero, suc, List, [], ◌∷◌, length, get_or, map}
use Rattle.std.specs.Prelude.{Option, Some, None, option_map, slice_get}
use Rattle.std.proofs.lemmas.Option.{slice_get-map}
use Rattle.c_syntax.specs.declared.program.Member.{Member}
use Rattle.c_syntax.specs.Program.{MemberTree, member_tree}

pub seen_member : (members : List Member) (trees : List MemberTree) (k : ℕ) (o : Option Member) → map member_tree members ≡ trees → o ≡ slice_get members k
    → option_map member_tree o ≡ slice_get trees k
seen_member members trees k o e f = ap (option_map member_tree) f ∙ sym (slice_get-map member_tree members k) ∙ ap (λ ms. slice_get ms k) e

-- what a list has at a place, by what the code reads there
pub none_there : {A : Type 0} (xs : List A) (k : ℕ) → length xs ≤ k → None ≡ slice_get xs k
none_there [] k h = refl
none_there (x ∷ xs) zero h = absurd (omega (arith, h))
none_there (x ∷ xs) (suc k) h = none_there xs k (omega (arith, h))

pub some_there : {A : Type 0} (xs : List A) (k : ℕ) (x : A) → k < length xs → ((d : A) → x ≡ get_or xs k d) → Some x ≡ slice_get xs k
some_there [] k x h e = absurd (omega (arith, h))
some_there (y ∷ ys) zero x h e = ap Some (e x)
some_there (y ∷ ys) (suc k) x h e = some_there ys k x (omega (arith, h)) e
