-- How many equalities each change of a list leaves.
use Rattle.std.proofs.Common.{arith, ℕ, zero, suc, List, [], ◌∷◌, length, take, ◌≤◌, Bool, true, false, Option, Some, None}
use Rattle.std.specs.Prelude.{◌||◌, if◌then◌else◌}
use Rattle.num_api.specs.Exprs.{NExprTree, nexpr_tree}
use Rattle.num_api.specs.Reading.{reads}
use Rattle.num_api.specs.declared.message.Message.{Message}
use Rattle.num_api.specs.declared.message.Message.TheVariants as messages
use Rattle.equalities.specs.Pairs.{Equality, pair_of, touches, apart_from, is_among, shared, with_pair, assigned, learned, with_told, accepted}
use Rattle.equalities.proofs.Lemmas.{no_more}
use Rattle.relations_laws.specs.Few.{AreFew}

either : (b : Bool) (ps qs : List Equality) → AreFew ps → AreFew qs → AreFew (if b then ps else qs)
either true ps qs h k = h
either false ps qs h k = k

without : (b : Bool) (p : Equality) (rs ps : List Equality) → length rs ≤ length ps → length (if b then rs else p ∷ rs) ≤ length (p ∷ ps)
without true p rs ps h = omega arith
without false p rs ps h = omega arith

no_more_apart : (x : ℕ) (ps : List Equality) → length (apart_from x ps) ≤ length ps
no_more_apart x [] = omega arith
no_more_apart x (p ∷ ps) = without (touches x p) p (apart_from x ps) ps (no_more_apart x ps)

pub few_apart : (x : ℕ) (ps : List Equality) → AreFew ps → AreFew (apart_from x ps)
few_apart x ps h = let less = no_more_apart x ps in omega arith

short : (n : ℕ) (ps : List Equality) → length (take n ps) ≤ n
short zero ps = omega arith
short (suc n) [] = omega arith
short (suc n) (p ∷ ps) = let less = short n ps in omega arith

few_with : (p : Equality) (ps : List Equality) → AreFew (with_pair p ps)
few_with p ps = let less = short 63 ps in omega arith

pub few_assigned : (x : ℕ) (t : NExprTree) (ps : List Equality) → AreFew ps → AreFew (assigned x t ps)
few_assigned x t ps h = either (reads x t) (apart_from x ps) (with_pair (pair_of x t) (apart_from x ps)) (few_apart x ps h) (few_with (pair_of x t) (apart_from x ps))

few_learned : (x : ℕ) (t : NExprTree) (ps : List Equality) → AreFew ps → AreFew (learned x t ps)
few_learned x t ps h = either (reads x t || is_among ps (pair_of x t)) ps (with_pair (pair_of x t) ps) h (few_with (pair_of x t) ps)

pub few_told : (p : Option Equality) (ps : List Equality) → AreFew ps → AreFew (with_told p ps)
few_told None ps h = h
few_told (Some p) ps h = few_learned p.var p.tree ps h

pub few_accepted : (m : Message) (ps : List Equality) → AreFew ps → AreFew (accepted m ps)
few_accepted (messages.Between x r) ps h = h
few_accepted (messages.Class x r) ps h = h
few_accepted (messages.Equal x e) ps h = few_learned x.0 (nexpr_tree e) ps h
few_accepted (messages.AtMost sx x sy y bound) ps h = h

pub few_shared : (ps qs : List Equality) → AreFew ps → AreFew (shared ps qs)
few_shared ps qs h = let less = no_more ps qs in omega arith
