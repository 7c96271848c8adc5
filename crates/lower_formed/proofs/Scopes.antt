-- What holds of the items of each scope and switch that a statement is lowered to.
use Rattle.std.proofs.Common.{◌≡◌, ℕ, zero, suc, List, [], ◌∷◌, ◌++◌, Option, Some, None, Bool, true, false, refl, ◌∙◌}
use Rattle.std.specs.Prelude.{if◌then◌else◌}
use Rattle.c_syntax.specs.Types.{CTypeTree}
use Rattle.c_syntax.specs.TypedExpr.{TExprTree}
use Rattle.c_syntax.specs.TypedStmt as c
use Rattle.c_syntax.specs.TypedStmt.{TInitTree, TStmtTree, TStmtTrees}
use Rattle.c_syntax.specs.Program.{TProgramTree}
use Rattle.c_layout.specs.TypedNodes.{Standing, AreHead, IsTypedStmt, AreTypedItems}
use Rattle.block_mem.specs.declared.types.Scalar.{Scalar}
use Rattle.c_objects.specs.Opening.{size_of}
use Rattle.c_objects.specs.Writing.{is_named}
use Rattle.csharp.specs.Trees.{CsExprTree, CsStmtTree, Nothing, Set, Load, Store, CopyBytes, Undefine, Checked, Input, Assume, Sequence, If, Loop, Block, Exit, Scope, Switch, Goto, Call, Return, Label, Case, Default, CsStmtTrees, none, more}
use Rattle.csharp.specs.Formed.{labels_among}
use Rattle.lower_trees.specs.Zeros.{zero_cells, object_scalars}
use Rattle.lower_trees.specs.LowerExpr.{lower_expr}
use Rattle.lower_trees.specs.LowerStmt.{Context, InLoop, InSwitch, Past, rest_code, inits_code, test_of, step_of, with_last, loop_code, lower_stmt, lower_items}
use Rattle.lower_formed.proofs.Flat.{Flat, flat_expr}
use Rattle.lower_formed.specs.Every.{Every, EveryItem}

-- no scope and no switch
abbrev pub OpensNothing : CsStmtTree → Type 0
OpensNothing (Scope xs items) = ⊥
OpensNothing (Switch e xs items) = ⊥
OpensNothing a = Unit {0}

-- flat code is no label
pub not_label : (a : CsStmtTree) (rest : CsStmtTrees) → Flat a → labels_among (more a rest) ≡ labels_among rest
not_label (Label at l) rest h = absurd h
not_label Nothing rest h = refl
not_label (Set d e) rest h = refl
not_label (Load d ty e) rest h = refl
not_label (Store ty e f) rest h = refl
not_label (CopyBytes n e f) rest h = refl
not_label (Undefine x) rest h = refl
not_label (Checked k) rest h = refl
not_label (Input d t) rest h = refl
not_label (Assume e) rest h = refl
not_label (Sequence a b) rest h = refl
not_label (If e a b) rest h = refl
not_label (Loop at a) rest h = refl
not_label (Block a) rest h = refl
not_label (Exit k) rest h = refl
not_label (Scope xs items) rest h = refl
not_label (Switch e xs items) rest h = refl
not_label (Goto l) rest h = refl
not_label (Call k) rest h = refl
not_label (Return e) rest h = refl
not_label (Case k) rest h = refl
not_label Default rest h = refl

-- ---- items without labels

either_none : (z : Bool) (a b : CsStmtTrees) → labels_among a ≡ [] → labels_among b ≡ [] → labels_among (if z then a else b) ≡ []
either_none true a b h k = h
either_none false a b h k = k

cells_none : (at : ℕ → Option Scalar) (named : ℕ → Bool) (x left skip k : ℕ) → labels_among (zero_cells at named x k skip left none) ≡ []
cells_none at named x zero skip k = refl
cells_none at named x (suc left) (suc skip) k = cells_none at named x left skip (suc k)
cells_none at named x (suc left) zero k = either_none (named k) _ _ (cells_none at named x left zero (suc k)) (cells_none at named x left _ (suc k))

rest_none : (p : TProgramTree) (x : ℕ) (inits : List TInitTree) (z : Bool) → labels_among (rest_code p x inits z) ≡ []
rest_none p x inits true = cells_none (object_scalars p x) (is_named inits) x (size_of p.objects x) 0 0
rest_none p x inits false = refl

inits_none : (p : TProgramTree) (d x : ℕ) (inits : List TInitTree) (rest : CsStmtTrees) → labels_among rest ≡ [] → labels_among (inits_code p d x inits rest) ≡ []
inits_none p d x [] rest h = h
inits_none p d x (c.Store offset ty e ∷ inits) rest h = inits_none p d x inits rest h
inits_none p d x (c.Copy offset extent e ∷ inits) rest h = inits_none p d x inits rest h

-- what a `for` begins with, and its loop
head_none : (p : TProgramTree) (d : ℕ) (k : Context) (head : TStmtTrees) (a : CsStmtTree) → AreHead head → labels_among (more a none) ≡ [] → labels_among (with_last (lower_items p d k head).items a) ≡ []
unfolding AreHead
head_none p d k c.none a h e = e
head_none p d k (c.more (c.Expr at e1) rest) a h e = not_label (lower_expr p d e1).value.before (with_last (lower_items p d k rest).items a) (flat_expr p e1 d).value ∙ head_none p d k rest a h.1 e
head_none p d k (c.more (c.Declare at x inits z) rest) a h e = head_none p d k rest a h.1 e
head_none p d k (c.more (c.Static at x) rest) a h e = head_none p d k rest a h.1 e
head_none p d k (c.more (c.Empty at) rest) a h e = absurd h.0
head_none p d k (c.more (c.Block at kind xs items) rest) a h e = absurd h.0
head_none p d k (c.more (c.If at x y z) rest) a h e = absurd h.0
head_none p d k (c.more (c.While at x y) rest) a h e = absurd h.0
head_none p d k (c.more (c.DoWhile at x y) rest) a h e = absurd h.0
head_none p d k (c.more (c.For at xs x y z b) rest) a h e = absurd h.0
head_none p d k (c.more (c.Switch at x kind xs items) rest) a h e = absurd h.0
head_none p d k (c.more (c.Break at) rest) a h e = absurd h.0
head_none p d k (c.more (c.Continue at) rest) a h e = absurd h.0
head_none p d k (c.more (c.Goto at l) rest) a h e = absurd h.0
head_none p d k (c.more (c.Return at x) rest) a h e = absurd h.0
head_none p d k (c.more (c.Label at l) rest) a h e = absurd h.0
head_none p d k (c.more (c.Case at x) rest) a h e = absurd h.0
head_none p d k (c.more (c.Default at) rest) a h e = absurd h.0

-- what a statement of the source has, with its parts, and what it makes of the items of scopes
pub record Parted (p : TProgramTree) (Ok : TStmtTree → Type 0) (OkIn : TStmtTrees → Type 0) (Q : CsStmtTrees → Type 0) : Type 0 where
  pub block : (at : _) (kind : _) (xs : List ℕ) (items : TStmtTrees) → Ok (c.Block at kind xs items) → OkIn items
  pub first : (at : _) (e : _) (a b : TStmtTree) → Ok (c.If at e a b) → Ok a
  pub second : (at : _) (e : _) (a b : TStmtTree) → Ok (c.If at e a b) → Ok b
  pub turned : (at : _) (e : _) (b : TStmtTree) → Ok (c.While at e b) → Ok b
  pub done : (at : _) (e : _) (b : TStmtTree) → Ok (c.DoWhile at b e) → Ok b
  pub head : (at : _) (xs : List ℕ) (h : TStmtTrees) (e s : _) (b : TStmtTree) → Ok (c.For at xs h e s b) → OkIn h
  pub body : (at : _) (xs : List ℕ) (h : TStmtTrees) (e s : _) (b : TStmtTree) → Ok (c.For at xs h e s b) → Ok b
  pub switch : (at : _) (e : _) (kind : _) (xs : List ℕ) (items : TStmtTrees) → Ok (c.Switch at e kind xs items) → OkIn items
  pub item : (a : TStmtTree) (rest : TStmtTrees) → OkIn (c.more a rest) → Ok a
  pub rest : (a : TStmtTree) (rest : TStmtTrees) → OkIn (c.more a rest) → OkIn rest
  pub among : (d : ℕ) (k : Context) (items : TStmtTrees) → OkIn items → Q (lower_items p d k items).items
  pub without : (items : CsStmtTrees) → labels_among items ≡ [] → Q items

module _ (P : CsStmtTree → Type 0) (Q : CsStmtTrees → Type 0) (opens : (a : CsStmtTree) → OpensNothing a → P a) (scope : (xs : List ℕ) (items : CsStmtTrees) → Q items → P (Scope xs items))
    (switch : (e : CsExprTree) (xs : List ℕ) (items : CsStmtTrees) → Q items → P (Switch e xs items)) where
  pub flat_every : (a : CsStmtTree) → Flat a → Every P a
  flat_every (Sequence a b) h = (opens (Sequence a b) tt, flat_every a h.0, flat_every b h.1)
  flat_every (If e a b) h = (opens (If e a b) tt, flat_every a h.0, flat_every b h.1)
  flat_every (Block a) h = (opens (Block a) tt, flat_every a h)
  flat_every (Loop at a) h = absurd h
  flat_every (Scope xs items) h = absurd h
  flat_every (Switch e xs items) h = absurd h
  flat_every (Undefine x) h = absurd h
  flat_every (Goto l) h = absurd h
  flat_every (Return e) h = absurd h
  flat_every (Label at l) h = absurd h
  flat_every (Case k) h = absurd h
  flat_every Default h = absurd h
  flat_every Nothing h = opens Nothing tt
  flat_every (Set d e) h = opens (Set d e) tt
  flat_every (Load d ty e) h = opens (Load d ty e) tt
  flat_every (Store ty e f) h = opens (Store ty e f) tt
  flat_every (CopyBytes n e f) h = opens (CopyBytes n e f) tt
  flat_every (Checked k) h = opens (Checked k) tt
  flat_every (Input d t) h = opens (Input d t) tt
  flat_every (Assume e) h = opens (Assume e) tt
  flat_every (Exit k) h = opens (Exit k) tt
  flat_every (Call k) h = opens (Call k) tt

  seq : (a b : CsStmtTree) → Every P a → Every P b → Every P (Sequence a b)
  seq a b h k = (opens (Sequence a b) tt, h, k)

  block : (a : CsStmtTree) → Every P a → Every P (Block a)
  block a h = (opens (Block a) tt, h)

  either : (z : Bool) (a b : CsStmtTrees) → EveryItem P a → EveryItem P b → EveryItem P (if z then a else b)
  either true a b h k = h
  either false a b h k = k

  cells_every : (at : ℕ → Option Scalar) (named : ℕ → Bool) (x left skip k : ℕ) → EveryItem P (zero_cells at named x k skip left none)
  cells_every at named x zero skip k = tt
  cells_every at named x (suc left) (suc skip) k = cells_every at named x left skip (suc k)
  cells_every at named x (suc left) zero k = either (named k) _ _ (cells_every at named x left zero (suc k)) (opens (Store _ _ _) tt, cells_every at named x left _ (suc k))

  module _ (p : TProgramTree) where
    rest_every : (x : ℕ) (inits : List TInitTree) (z : Bool) → EveryItem P (rest_code p x inits z)
    rest_every x inits true = cells_every (object_scalars p x) (is_named inits) x (size_of p.objects x) 0 0
    rest_every x inits false = tt

    inits_every : (d x : ℕ) (inits : List TInitTree) (rest : CsStmtTrees) → EveryItem P rest → EveryItem P (inits_code p d x inits rest)
    inits_every d x [] rest h = h
    inits_every d x (c.Store offset ty e ∷ inits) rest h = (seq _ _ (flat_every _ (flat_expr p e d).value) (opens (Store _ _ _) tt), inits_every d x inits rest h)
    inits_every d x (c.Copy offset extent e ∷ inits) rest h =
        (seq _ _ (flat_every _ ((flat_expr p e d).source extent.size extent.align)) (opens (CopyBytes _ _ _) tt), inits_every d x inits rest h)

    last_every : (items : CsStmtTrees) (a : CsStmtTree) → EveryItem P items → Every P a → EveryItem P (with_last items a)
    last_every none a h k = (k, tt)
    last_every (more item rest) a h k = (h.0, last_every rest a h.1 k)

    test_every : (d : ℕ) (at : _) (o : Option TExprTree) → Every P (test_of p d at o).code
    test_every d at None = opens Nothing tt
    test_every d at (Some e) = flat_every _ ((flat_expr p e d).unless at 0)

    step_every : (d : ℕ) (o : Option TExprTree) → Every P (step_of p d o).code
    step_every d None = opens Nothing tt
    step_every d (Some e) = flat_every _ (flat_expr p e d).value

    abbrev St : List ℕ → List ℕ → CTypeTree → Bool → Bool → Bool → Standing
    St live block result breaks continues cases =
        record { scope = record { program = p; live = live }; block = block; result = result; breaks = breaks; continues = continues; cases = cases }

    module _ (Ok : TStmtTree → Type 0) (OkIn : TStmtTrees → Type 0) (parted : Parted p Ok OkIn Q) where
      mutual
        unfolding IsTypedStmt

        pub scopes_stmt : (b : TStmtTree) (live own : List ℕ) (result : CTypeTree) (br co ca : Bool) (d : ℕ) (k : Context) → IsTypedStmt (St live own result br co ca) b → Ok b → Every P (lower_stmt p d k b).code
        scopes_stmt (c.Empty at) live own result br co ca d k t h = opens Nothing tt
        scopes_stmt (c.Expr at e) live own result br co ca d k t h = flat_every _ (flat_expr p e d).value
        scopes_stmt (c.Block at kind xs items) live own result br co ca d k t h =
            let i = parted.block at kind xs items h in (scope xs _ (parted.among d k items i), scopes_items items (xs ++ live) xs result br co false d k t i)
        scopes_stmt (c.Declare at x inits z) live own result br co ca d k t h =
            (scope [] _ (parted.without _ (inits_none p d x inits (rest_code p x inits z) (rest_none p x inits z))), (opens (Undefine x) tt, inits_every d x inits (rest_code p x inits z) (rest_every x inits z)))
        scopes_stmt (c.Static at x) live own result br co ca d k t h = opens Nothing tt
        scopes_stmt (c.If at e a b) live own result br co ca d k (te, ba, ta, bb, tb) h =
            block _ (seq _ _ (block _ (seq _ _ (flat_every _ ((flat_expr p e d).unless at 0)) (seq _ _ (scopes_stmt a live own result br co ca d (Past (Past k)) ta (parted.first at e a b h)) (opens (Exit 1) tt))))
            (scopes_stmt b live own result br co ca d (Past k) tb (parted.second at e a b h)))
        scopes_stmt (c.While at e b) live own result br co ca d k (te, bb, tb) h =
            block _ (opens (Loop at _) tt, seq _ _ (flat_every _ ((flat_expr p e d).unless at 0)) (seq _ _ (block _ (scopes_stmt b live own result true true false d InLoop tb (parted.turned at e b h))) (opens Nothing tt)))
        scopes_stmt (c.DoWhile at b e) live own result br co ca d k (te, bb, tb) h =
            block _ (opens (Loop at _) tt, seq _ _ (block _ (scopes_stmt b live own result true true false d InLoop tb (parted.done at e b h))) (flat_every _ ((flat_expr p e d).unless at 0)))
        scopes_stmt (c.For at xs head e step b) live own result br co ca d k (hd, th, te, ts, bb, tb) h =
            let loop = (loop_code at (test_of p d at e) (lower_stmt p d InLoop b) (step_of p d step)).code in (
              scope xs _ (parted.without _ (head_none p d k head loop hd refl)),
              last_every (lower_items p d k head).items loop (scopes_items head (xs ++ live) xs result br co false d k th (parted.head at xs head e step b h))
                  (block _ (opens (Loop at _) tt, seq _ _ (test_every d at e) (seq _ _ (block _ (scopes_stmt b (xs ++ live) xs result true true false d InLoop tb (parted.body at xs head e step b h))) (step_every d step)))),
            )
        scopes_stmt (c.Switch at e kind xs items) live own result br co ca d k (te, row, ti) h =
            let i = parted.switch at e kind xs items h in
            seq _ _ (flat_every _ (flat_expr p e d).value) (block _ (switch _ xs _ (parted.among d (InSwitch k) items i), scopes_items items (xs ++ live) xs result true co true d (InSwitch k) ti i))
        scopes_stmt (c.Break at) live own result br co ca d k t h = opens (Exit _) tt
        scopes_stmt (c.Continue at) live own result br co ca d k t h = opens (Exit _) tt
        scopes_stmt (c.Goto at l) live own result br co ca d k t h = opens (Goto l) tt
        scopes_stmt (c.Return at None) live own result br co ca d k t h = opens (Return None) tt
        scopes_stmt (c.Return at (Some e)) live own result br co ca d k t h = seq _ _ (flat_every _ (flat_expr p e d).value) (opens (Return (Some _)) tt)
        scopes_stmt (c.Label at l) live own result br co ca d k t h = opens (Label at l) tt
        scopes_stmt (c.Case at j) live own result br co ca d k t h = opens (Case j) tt
        scopes_stmt (c.Default at) live own result br co ca d k t h = opens Default tt

        pub scopes_items : (items : TStmtTrees) (live own : List ℕ) (result : CTypeTree) (br co ca : Bool) (d : ℕ) (k : Context) → AreTypedItems (St live own result br co ca) items → OkIn items
            → EveryItem P (lower_items p d k items).items
        scopes_items c.none live own result br co ca d k t h = tt
        scopes_items (c.more item rest) live own result br co ca d k (t, ts) h =
            (scopes_stmt item live own result br co ca d k t (parted.item item rest h), scopes_items rest live own result br co ca d k ts (parted.rest item rest h))
