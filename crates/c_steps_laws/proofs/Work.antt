-- The items of a block in front of other work, and the items behind a mark.
use Rattle.std.proofs.Common.{◌≡◌, ◌⊎◌, inl, inr, ℕ, Bool, true, false, List, [], ◌∷◌, refl, sym, ◌∙◌, subst, arith}
use Rattle.std.specs.Prelude.{if◌then◌else◌, ◌==◌, Contains}
use Rattle.std.proofs.lemmas.Bool.{eqb-false}
use Rattle.std.proofs.lemmas.List.Elements.{Contains-append_cases}
use Rattle.c_syntax.specs.Types.{CTypeTree}
use Rattle.c_syntax.specs.TypedStmt.{TStmtTree, TStmtTrees, none, more}
use Rattle.c_syntax.specs.TypedStmt as stmts
use Rattle.c_syntax.specs.Program.{TProgramTree}
use Rattle.c_layout.specs.Jumps.{labels_among, GotosStay}
use Rattle.c_layout.specs.TypedNodes.{IsTypedStmt}
use Rattle.c_values.specs.Places.{ObjectMemory}
use Rattle.c_objects.proofs.Listed.{by_sum, one_is}
use Rattle.c_steps.specs.Work.{Item, Do}
use Rattle.c_steps.specs.Marks.{Mark, AtLabel, is_mark, does_nothing, has, behind, does}
use Rattle.c_steps_laws.specs.Wants.{Want}
use Rattle.c_steps_laws.specs.Surroundings.{Around, around, TypedStmt, TypedItems}
use Rattle.c_steps_laws.specs.Takes as rules
use Rattle.c_steps_laws.specs.Takes.{IsLevel, at_do, Takes}
use Rattle.c_steps_laws.specs.Opens.{Use, Object, Function, OpensStmt, OpensItems, Apart, ApartItems}
use Rattle.c_steps_laws.specs.Fits.{Closes, Lives, AreLive, IsReady, Parted}

-- ---- items in front

around_one : (p : TProgramTree) (r : CTypeTree) (b : TStmtTree) (w : List Item) (z : Bool) → around p r (if z then w else Do b ∷ w) ≡ around p r w
around_one p r b w true = refl
around_one p r b w false = refl

pub around_does : (p : TProgramTree) (r : CTypeTree) (items : TStmtTrees) (w : List Item) → around p r (does items w) ≡ around p r w
around_does p r none w = refl
around_does p r (more b rest) w = around_one p r b (does rest w) (does_nothing b) ∙ around_does p r rest w

level_one : (b : TStmtTree) (w : List Item) (z : Bool) → IsLevel w → IsLevel (if z then w else Do b ∷ w)
level_one b w true h = h
level_one b w false h = at_do

pub level_does : (items : TStmtTrees) (w : List Item) → IsLevel w → IsLevel (does items w)
level_does none w h = h
level_does (more b rest) w h = level_one b (does rest w) (does_nothing b) (level_does rest w h)

takes_one : (p : TProgramTree) (r : CTypeTree) (ts : List Want) (b : TStmtTree) (w : List Item) (z : Bool) → TypedStmt (around p r w) b → IsLevel w → Takes p r w ts
    → Takes p r (if z then w else Do b ∷ w) ts
takes_one p r ts b w true t v k = k
takes_one p r ts b w false t v k = rules.does t v k

pub takes_does : (p : TProgramTree) (r : CTypeTree) (ts : List Want) (items : TStmtTrees) (w : List Item) → TypedItems (around p r w) items → IsLevel w
    → Takes p r w ts → Takes p r (does items w) ts
unfolding IsTypedStmt GotosStay
takes_does p r ts none w t v k = k
takes_does p r ts (more b rest) w ((t, tr), (g, gr)) v k =
    takes_one p r ts b (does rest w) (does_nothing b) (subst (λ c. TypedStmt c b) (sym (around_does p r rest w)) (t, g)) (level_does rest w v)
    (takes_does p r ts rest w (tr, gr) v k)

closes_one : (b : TStmtTree) (w : List Item) (y : ℕ) (z : Bool) → Closes (if z then w else Do b ∷ w) y → Closes w y
closes_one b w y true h = h
closes_one b w y false h = h

one_closes : (b : TStmtTree) (w : List Item) (y : ℕ) (z : Bool) → Closes w y → Closes (if z then w else Do b ∷ w) y
one_closes b w y true h = h
one_closes b w y false h = h

closes_does : (items : TStmtTrees) (w : List Item) (y : ℕ) → Closes (does items w) y → Closes w y
closes_does none w y h = h
closes_does (more b rest) w y h = closes_does rest w y (closes_one b (does rest w) y (does_nothing b) h)

does_closes : (items : TStmtTrees) (w : List Item) (y : ℕ) → Closes w y → Closes (does items w) y
does_closes none w y h = h
does_closes (more b rest) w y h = one_closes b (does rest w) y (does_nothing b) (does_closes rest w y h)

pub lives_does : (p : TProgramTree) (items : TStmtTrees) (w : List Item) (y : ℕ) → Lives p (does items w) y → Lives p w y
lives_does p items w y (inl g) = inl g
lives_does p items w y (inr g) = inr (closes_does items w y g)

does_lives : (p : TProgramTree) (items : TStmtTrees) (w : List Item) (y : ℕ) → Lives p w y → Lives p (does items w) y
does_lives p items w y (inl g) = inl g
does_lives p items w y (inr g) = inr (does_closes items w y g)

pub live_does : (p : TProgramTree) (items : TStmtTrees) (w : List Item) (m : ObjectMemory) → AreLive p w m → AreLive p (does items w) m
live_does p items w m l = ((λ y g. l.0 y (lives_does p items w y g)), (λ y h. does_lives p items w y (l.1 y h)))

pub ready_does : (p : TProgramTree) (items : TStmtTrees) (w : List Item) (u : Use) → IsReady p w u → IsReady p (does items w) u
ready_does p items w (Object y) (lt, f) = (lt, λ g. f (lives_does p items w y g))
ready_does p items w (Function g) h = h

parted_one : (of : ℕ → Use → Type 0) (p : TProgramTree) (b : TStmtTree) (w : List Item) (z : Bool) → ((y : Use) → OpensStmt of b y → IsReady p w y) → Apart of b
    → Parted of p w → Parted of p (if z then w else Do b ∷ w)
parted_one of p b w true f a q = q
parted_one of p b w false f a q = (f, a, q)

pub parted_does : (of : ℕ → Use → Type 0) (p : TProgramTree) (items : TStmtTrees) (w : List Item) → ((y : Use) → OpensItems of items y → IsReady p w y)
    → ApartItems of items → Parted of p w → Parted of p (does items w)
parted_does of p none w f a q = q
parted_does of p (more b rest) w f (a, c) q =
    parted_one of p b (does rest w) (does_nothing b) (λ y o. ready_does p rest w y (f y (inl o))) a (parted_does of p rest w (λ y o. f y (inr o)) c q)

-- ---- items behind a mark

typed_if : (c : Around) (z : Bool) (a b : TStmtTrees) → TypedItems c a → TypedItems c b → TypedItems c (if z then a else b)
typed_if c true a b h e = h
typed_if c false a b h e = e

pub typed_behind : (c : Around) (mark : Mark) (items : TStmtTrees) → TypedItems c items → TypedItems c (behind mark items)
unfolding IsTypedStmt GotosStay
typed_behind c mark none h = h
typed_behind c mark (more b rest) ((t, tr), (g, gr)) = typed_if c (is_mark mark b) rest (behind mark rest) (tr, gr) (typed_behind c mark rest (tr, gr))

opens_if : (of : ℕ → Use → Type 0) (y : Use) (z : Bool) (a b c : TStmtTrees) → (OpensItems of a y → OpensItems of c y) → (OpensItems of b y → OpensItems of c y)
    → OpensItems of (if z then a else b) y → OpensItems of c y
opens_if of y true a b c f g h = f h
opens_if of y false a b c f g h = g h

pub opens_behind : (of : ℕ → Use → Type 0) (y : Use) (mark : Mark) (items : TStmtTrees) → OpensItems of (behind mark items) y → OpensItems of items y
opens_behind of y mark none h = h
opens_behind of y mark (more b rest) h = inr (opens_if of y (is_mark mark b) rest (behind mark rest) rest (λ e. e) (opens_behind of y mark rest) h)

apart_if : (of : ℕ → Use → Type 0) (z : Bool) (a b : TStmtTrees) → ApartItems of a → ApartItems of b → ApartItems of (if z then a else b)
apart_if of true a b h e = h
apart_if of false a b h e = e

pub apart_behind : (of : ℕ → Use → Type 0) (mark : Mark) (items : TStmtTrees) → ApartItems of items → ApartItems of (behind mark items)
apart_behind of mark none h = h
apart_behind of mark (more b rest) (h, g) = apart_if of (is_mark mark b) rest (behind mark rest) g (apart_behind of mark rest g)

label_first : (j l : ℕ) (z : Bool) (rest : TStmtTrees) → (j == l) ≡ z → (l ≡ j) ⊎ (has (AtLabel j) rest ≡ true)
    → (if z then true else has (AtLabel j) rest) ≡ true
label_first j l true rest e h = refl
label_first j l false rest e (inl g) = absurd (eqb-false j l e (sym g))
label_first j l false rest e (inr g) = g

-- a label right among the items is found
pub label_there : (j : ℕ) (items : TStmtTrees) → Contains (labels_among items) j → has (AtLabel j) items ≡ true
unfolding labels_among
label_there j none h = let lt = h.1 in absurd (omega (arith, lt))
label_there j (more (stmts.Label at l) rest) h = label_first j l (j == l) rest refl
    (by_sum (Contains-append_cases (l ∷ []) (labels_among rest) j h) (λ c. inl (one_is j l c)) (λ c. inr (label_there j rest c)))
label_there j (more (stmts.Empty x0) rest) h = label_there j rest h
label_there j (more (stmts.Expr x0 x1) rest) h = label_there j rest h
label_there j (more (stmts.Block x0 x1 x2 x3) rest) h = label_there j rest h
label_there j (more (stmts.Declare x0 x1 x2 x3) rest) h = label_there j rest h
label_there j (more (stmts.Static x0 x1) rest) h = label_there j rest h
label_there j (more (stmts.If x0 x1 x2 x3) rest) h = label_there j rest h
label_there j (more (stmts.While x0 x1 x2) rest) h = label_there j rest h
label_there j (more (stmts.DoWhile x0 x1 x2) rest) h = label_there j rest h
label_there j (more (stmts.For x0 x1 x2 x3 x4 x5) rest) h = label_there j rest h
label_there j (more (stmts.Switch x0 x1 x2 x3 x4) rest) h = label_there j rest h
label_there j (more (stmts.Break x0) rest) h = label_there j rest h
label_there j (more (stmts.Continue x0) rest) h = label_there j rest h
label_there j (more (stmts.Goto x0 x1) rest) h = label_there j rest h
label_there j (more (stmts.Return x0 x1) rest) h = label_there j rest h
label_there j (more (stmts.Case x0 x1) rest) h = label_there j rest h
label_there j (more (stmts.Default x0) rest) h = label_there j rest h
