-- A code of trees, by which a proof tells two from each other: a tree is written down part by part, each behind its own parts.
use Rattle.std.specs.Prelude.{ℕ, ℤ, pos, ◌≡◌, ◌⊎◌, List, [], ◌∷◌, nat_eq, if◌then◌else◌, refl}
use mathlib.Core.Path.{ap, ◌∙◌}
use mathlib.Core.Logic.{inl, inr}
use Rattle.std.specs.Coded.{Coded, code_by, coded⊎, coded_list, coded_ℕ, coded_ℤ}
use Rattle.num_api.specs.declared.expr.NOp.{NOp}
use Rattle.num_api.specs.declared.expr.NOp.TheVariants.{Neg, Not, Add, Sub, Mul, Quot, Rem, Shl, Shr, And, Or, Xor, Eq, Ne, Lt, Le}
use Rattle.num_api.specs.Exprs.{NExprTree, Const, Read, Unary, Binary}
use Rattle.num_api.specs.Reading.{op_number}

unfoldable pub op_of : ℕ → NOp
op_of n = if nat_eq n 0 then Neg else if nat_eq n 1 then Not else if nat_eq n 2 then Add else if nat_eq n 3 then Sub else if nat_eq n 4 then Mul else if
    nat_eq n 5 then Quot else if nat_eq n 6 then Rem else if nat_eq n 7 then Shl else if nat_eq n 8 then Shr else if nat_eq n 9 then And else if nat_eq n 10
    then Or else if nat_eq n 11 then Xor else if nat_eq n 12 then Eq else if nat_eq n 13 then Ne else if nat_eq n 14 then Lt else Le

pub op_back : (op : NOp) → op_of (op_number op) ≡ op
unfolding op_of
op_back Neg = refl
op_back Not = refl
op_back Add = refl
op_back Sub = refl
op_back Mul = refl
op_back Quot = refl
op_back Rem = refl
op_back Shl = refl
op_back Shr = refl
op_back And = refl
op_back Or = refl
op_back Xor = refl
op_back Eq = refl
op_back Ne = refl
op_back Lt = refl
op_back Le = refl

abbrev pub op_code : Coded NOp
op_code = code_by ℕ coded_ℕ op_number op_of op_back

-- a constant, a variable, and an operator of one operand or of two
abbrev pub Part : Type 0
Part = ℤ ⊎ (ℕ ⊎ (NOp ⊎ NOp))

abbrev pub part_code : Coded Part
part_code = coded⊎ coded_ℤ (coded⊎ coded_ℕ (coded⊎ op_code op_code))

abbrev pub written : NExprTree → List Part → List Part
written (Const n) rest = inl n ∷ rest
written (Read x) rest = inr (inl x) ∷ rest
written (Unary op a) rest = written a (inr (inr (inl op)) ∷ rest)
written (Binary op a b) rest = written a (written b (inr (inr (inr op)) ∷ rest))

-- what is on the table once a part is read
abbrev pub taken : Part → List NExprTree → List NExprTree
taken (inl n) done = Const n ∷ done
taken (inr (inl x)) done = Read x ∷ done
taken (inr (inr (inl op))) [] = []
taken (inr (inr (inl op))) (a ∷ done) = Unary op a ∷ done
taken (inr (inr (inr op))) [] = []
taken (inr (inr (inr op))) (b ∷ []) = []
taken (inr (inr (inr op))) (b ∷ a ∷ done) = Binary op a b ∷ done

abbrev pub read_back : List Part → List NExprTree → List NExprTree
read_back [] done = done
read_back (p ∷ ps) done = read_back ps (taken p done)

pub read_written : (t : NExprTree) (rest : List Part) (done : List NExprTree) → read_back (written t rest) done ≡ read_back rest (t ∷ done)
read_written (Const n) rest done = refl
read_written (Read x) rest done = refl
read_written (Unary op a) rest done = read_written a (inr (inr (inl op)) ∷ rest) done
read_written (Binary op a b) rest done = read_written a (written b (inr (inr (inr op)) ∷ rest)) done ∙ read_written b (inr (inr (inr op)) ∷ rest) (a ∷ done)

abbrev pub first_of : List NExprTree → NExprTree
first_of [] = Const (pos 0)
first_of (t ∷ done) = t

abbrev pub to_parts : NExprTree → List Part
to_parts t = written t []

abbrev pub from_parts : List Part → NExprTree
from_parts ps = first_of (read_back ps [])

pub from_to : (t : NExprTree) → from_parts (to_parts t) ≡ t
from_to t = ap first_of (read_written t [] [])

abbrev pub tree_code : Coded NExprTree
tree_code = code_by (List Part) (coded_list part_code) to_parts from_parts from_to
