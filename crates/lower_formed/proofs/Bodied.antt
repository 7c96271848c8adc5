-- The code of a function's body: its parameters are stored, its block is run, and main gives 0 at its end.
use Rattle.std.proofs.Common.{◌≡◌, ℕ, suc, ◌+◌, ◌*◌, ◌<◌, ◌≤◌, List, [], ◌∷◌, ◌++◌, length, Option, Some, Bool, true, false, refl, ap, ◌∙◌, arith}
use Rattle.std.specs.Prelude.{All, if◌then◌else◌}
use Rattle.std.proofs.lemmas.List.{append-nil}
use Rattle.std.proofs.lemmas.List.Elements.{All-nil, All-cons}
use Rattle.c_syntax_written.specs.declared.int_type.IntType.TheVariants.{Char, SChar, UChar, Short, UShort, Int, UInt, Long, ULong, LLong, ULLong}
use Rattle.c_syntax.specs.TypedStmt as s
use Rattle.c_syntax.specs.TypedStmt.{TStmtTree}
use Rattle.c_syntax.specs.Program.{TProgramTree}
use Rattle.c_layout.specs.Jumps.{listed_of}
use Rattle.c_layout.specs.MainFunction.{is_main}
use Rattle.c_layout.specs.TypedNodes.{IsBlock}
use Rattle.block_mem.specs.declared.types.Scalar.{Scalar}
use Rattle.block_mem.specs.declared.types.Scalar.TheVariants as scalars
use Rattle.csharp.specs.Trees.{CsExprTree, Const, Null, Temp, Address, Unary, Binary, Convert, CsStmtTree, Store, Sequence, Scope, Return, CsStmtTrees, none, more}
use Rattle.csharp.specs.Formed.{gathered, gathered_in, label_of, labels_among, objects_of, Spares, AreArgsApart}
use Rattle.lower_trees.specs.Temps.{scalar_place, temp_at}
use Rattle.lower_trees.specs.LowerExpr.{number}
use Rattle.lower_trees.specs.LowerStmt.{InLoop, lower_stmt}
use Rattle.lower_trees.specs.LowerProgram.{param_scalar, param_temps, param_stores, body_code}
use Rattle.lower_formed.proofs.Depths.{From, AllFrom}
use Rattle.lower_formed.proofs.Flat.{listed_kept}
use Rattle.lower_formed.specs.Every.{Every, EveryItem}

-- ---- what holds of each statement

module _ (P : CsStmtTree → Type 0) (store : (ty : Scalar) (e f : CsExprTree) → P (Store ty e f)) (seq : (a b : CsStmtTree) → P (Sequence a b)) (return : (e : Option CsExprTree) → P (Return e)) (p : TProgramTree) where
  stores_every : (xs : List ℕ) (d : ℕ) (rest : CsStmtTrees) → EveryItem P rest → EveryItem P (param_stores p d xs rest)
  stores_every [] d rest h = h
  stores_every (x ∷ xs) d rest h = (store _ _ _, stores_every xs (suc d) rest h)

  end_every : (z : Bool) (a : CsStmtTree) → Every P a → Every P (if z then Sequence a (Return (Some (number 0))) else a)
  end_every false a h = h
  end_every true a h = (seq _ _, h, return _)

  pub body_every : (g d : ℕ) (params : List ℕ) (body : TStmtTree) → P (Scope params (param_stores p d params (more (lower_stmt p d InLoop body).code none))) → Every P (lower_stmt p d InLoop body).code
      → Every P (body_code p g d params body)
  body_every g d params body own h = end_every (is_main p g) (Scope params (param_stores p d params (more (lower_stmt p d InLoop body).code none))) (own, stores_every params d (more (lower_stmt p d InLoop body).code none) (h, tt))

-- ---- its labels and objects

stores_labels : (p : TProgramTree) (xs : List ℕ) (d : ℕ) (rest : CsStmtTrees) → gathered_in label_of (param_stores p d xs rest) ≡ gathered_in label_of rest
stores_labels p [] d rest = refl
stores_labels p (x ∷ xs) d rest = stores_labels p xs (suc d) rest

stores_objects : (p : TProgramTree) (xs : List ℕ) (d : ℕ) (rest : CsStmtTrees) → gathered_in objects_of (param_stores p d xs rest) ≡ gathered_in objects_of rest
stores_objects p [] d rest = refl
stores_objects p (x ∷ xs) d rest = stores_objects p xs (suc d) rest

end_labels : (z : Bool) (a : CsStmtTree) → gathered label_of (if z then Sequence a (Return (Some (number 0))) else a) ≡ gathered label_of a
end_labels false a = refl
end_labels true a = append-nil (gathered label_of a)

end_objects : (z : Bool) (a : CsStmtTree) → gathered objects_of (if z then Sequence a (Return (Some (number 0))) else a) ≡ gathered objects_of a
end_objects false a = refl
end_objects true a = append-nil (gathered objects_of a)

pub body_labels : (p : TProgramTree) (g d : ℕ) (params : List ℕ) (body : TStmtTree) → gathered label_of (body_code p g d params body) ≡ gathered label_of (lower_stmt p d InLoop body).code
body_labels p g d params body =
    end_labels (is_main p g) (Scope params (param_stores p d params (more (lower_stmt p d InLoop body).code none)))
    ∙ stores_labels p params d (more (lower_stmt p d InLoop body).code none) ∙ append-nil (gathered label_of (lower_stmt p d InLoop body).code)

pub body_objects : (p : TProgramTree) (g d : ℕ) (params : List ℕ) (body : TStmtTree) → gathered objects_of (body_code p g d params body) ≡ params ++ listed_of body
body_objects p g d params body =
    end_objects (is_main p g) (Scope params (param_stores p d params (more (lower_stmt p d InLoop body).code none)))
    ∙ ap (λ xs. params ++ xs) (stores_objects p params d (more (lower_stmt p d InLoop body).code none) ∙ append-nil (gathered objects_of (lower_stmt p d InLoop body).code) ∙ listed_kept p d InLoop body)

among_stores : (p : TProgramTree) (xs : List ℕ) (d : ℕ) (rest : CsStmtTrees) → labels_among (param_stores p d xs rest) ≡ labels_among rest
among_stores p [] d rest = refl
among_stores p (x ∷ xs) d rest = among_stores p xs (suc d) rest

-- no label stands beside the stores of parameters
pub block_alone : (p : TProgramTree) (d : ℕ) (params : List ℕ) (body : TStmtTree) → IsBlock body → labels_among (param_stores p d params (more (lower_stmt p d InLoop body).code none)) ≡ []
block_alone p d params (s.Block at kind xs items) h = among_stores p params d (more (lower_stmt p d InLoop (s.Block at kind xs items)).code none)
block_alone p d params (s.Empty at) h = absurd h
block_alone p d params (s.Expr at e) h = absurd h
block_alone p d params (s.Declare at x inits z) h = absurd h
block_alone p d params (s.Static at x) h = absurd h
block_alone p d params (s.If at e a b) h = absurd h
block_alone p d params (s.While at e b) h = absurd h
block_alone p d params (s.DoWhile at b e) h = absurd h
block_alone p d params (s.For at xs head e step b) h = absurd h
block_alone p d params (s.Switch at e kind xs items) h = absurd h
block_alone p d params (s.Break at) h = absurd h
block_alone p d params (s.Continue at) h = absurd h
block_alone p d params (s.Goto at l) h = absurd h
block_alone p d params (s.Return at e) h = absurd h
block_alone p d params (s.Label at l) h = absurd h
block_alone p d params (s.Case at j) h = absurd h
block_alone p d params (s.Default at) h = absurd h

-- ---- the temporaries of its parameters

in_row : (ty : Scalar) → scalar_place ty < 12
in_row (scalars.Int Char) = omega arith
in_row (scalars.Int SChar) = omega arith
in_row (scalars.Int UChar) = omega arith
in_row (scalars.Int Short) = omega arith
in_row (scalars.Int UShort) = omega arith
in_row (scalars.Int Int) = omega arith
in_row (scalars.Int UInt) = omega arith
in_row (scalars.Int Long) = omega arith
in_row (scalars.Int ULong) = omega arith
in_row (scalars.Int LLong) = omega arith
in_row (scalars.Int ULLong) = omega arith
in_row scalars.Pointer = omega arith

-- they stand below the rows of the body
pub params_below : (p : TProgramTree) (xs : List ℕ) (d m : ℕ) → d + length xs ≤ m → All (λ t. t < 12 * m) (param_temps p d xs)
params_below p [] d m h = All-nil (λ t. t < 12 * m)
params_below p (x ∷ xs) d m h =
    let r = in_row (param_scalar p x) in
    All-cons (λ t. t < 12 * m) (temp_at d (param_scalar p x)) (param_temps p (suc d) xs) (omega (arith, r, h)) (params_below p xs (suc d) m (omega (arith, h)))

-- values that read from a row on spare what stands below
spared : (lo t : ℕ) → t < lo → (e : CsExprTree) → From lo e → Spares t e
spared lo t lt (Const ty k) f = tt
spared lo t lt Null f = tt
spared lo t lt (Temp i) f = λ e. omega (arith, lt, f, e)
spared lo t lt (Address x) f = tt
spared lo t lt (Unary op a) f = spared lo t lt a f
spared lo t lt (Binary op a b) f = (spared lo t lt a f.0, spared lo t lt b f.1)
spared lo t lt (Convert ty a) f = spared lo t lt a f

all_spared : (lo t : ℕ) → t < lo → (es : List CsExprTree) → AllFrom lo es → All (Spares t) es
all_spared lo t lt [] f = All-nil (Spares t)
all_spared lo t lt (e ∷ es) f = All-cons (Spares t) e es (spared lo t lt e f.0) (all_spared lo t lt es f.1)

pub args_apart : (lo : ℕ) (es : List CsExprTree) (ts : List ℕ) → AllFrom lo es → All (λ t. t < lo) ts → AreArgsApart es ts
args_apart lo [] ts f h = tt
args_apart lo (e ∷ es) [] f h = tt
args_apart lo (e ∷ es) (t ∷ ts) f h =
    (all_spared lo t (h 0 t (omega arith)) es f.1, args_apart lo es ts f.1 (λ k d lt. h (suc k) d (omega (arith, lt))))
