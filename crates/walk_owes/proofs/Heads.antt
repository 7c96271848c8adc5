-- Lists of heads, and of kept sets that leave items.
use Rattle.std.proofs.Common.{◌≡◌, ◌⊎◌, ⊎_elim, inl, inr, ℕ, ◌+◌, ◌<◌, ◌≤◌, List, [], ◌∷◌, ◌++◌, Option, Some, None, sym, ap, ◌∙◌, subst, arith}
use Rattle.csharp.specs.Trees.{CsStmtTrees, CsProgramTree}
use Rattle.csharp.specs.States.{State}
use Rattle.csharp.specs.Meaning as meaning
use Rattle.csharp.specs.Meaning.{AtLabel, has}
use Rattle.walk_owes.specs.declared.marks.Mark.{Mark}
use Rattle.walk_owes.specs.declared.marks.Mark.TheVariants as marks
use Rattle.walk_owes.specs.declared.marks.Head.{Head}
use Rattle.walk_owes.specs.declared.way.Way.{Way}
use Rattle.walk_owes.specs.declared.way.Way.TheVariants as ways
use Rattle.walk_owes.specs.declared.way.Kept.{Kept}
use Rattle.walk_owes.specs.Owes.{HasWay, InSome, KeepsState, SomeFor}
use Rattle.walk_owes.specs.Items.{Begins, HasHead, HeadsFor}
use Rattle.walk_owes.specs.declared.marks.Change.{Change}
use Rattle.walk_owes.specs.declared.marks.Change.TheVariants as changes
use Rattle.walk_owes.specs.Heads.{IsHead, IsStep, lacks, missing, some_weight, weigh}

module _ {M : Type 0} (stands : M → State → Type 0) where
  pub keeps_last : (xs : List (Kept M)) (x : Kept M) (w : Way) (s : State) → KeepsState stands (xs ++ x ∷ []) w s
      → KeepsState stands xs w s ⊎ ((x.way ≡ w) × stands x.state s)
  keeps_last [] x w s h = ⊎_elim (λ e. inr e) absurd h
  keeps_last (y ∷ xs) x w s h = ⊎_elim (λ e. inl (inl e)) (λ r. ⊎_elim (λ a. inl (inr a)) (λ e. inr e) (keeps_last xs x w s r)) h

  pub keeps_way : (xs : List (Kept M)) (w : Way) (s : State) → KeepsState stands xs w s → HasWay xs w
  keeps_way [] w s h = absurd h
  keeps_way (x ∷ xs) w s h = ⊎_elim (λ e. inl e.0) (λ r. inr (keeps_way xs w s r)) h

  -- one kept set is taken, or stays
  pub take_step : (xs : List (Kept M)) (x : Kept M) (way : Way) (found more : Option M) (rest later : List (Kept M))
      → ((s : State) → InSome stands found s → InSome stands more s)
      → ((w : Way) (s : State) → KeepsState stands rest w s → KeepsState stands later w s)
      → ((s : State) → stands x.state s → ((x.way ≡ way) × InSome stands more s) ⊎ KeepsState stands later x.way s)
      → (w : Way) (s : State)
      → KeepsState stands (xs ++ x ∷ []) w s ⊎ (((w ≡ way) × InSome stands found s) ⊎ KeepsState stands rest w s)
      → KeepsState stands xs w s ⊎ (((w ≡ way) × InSome stands more s) ⊎ KeepsState stands later w s)
  take_step xs x way found more rest later f g here w s h =
      ⊎_elim
      (λ a. ⊎_elim inl
      (λ e. inr (subst (λ v. ((v ≡ way) × InSome stands more s) ⊎ KeepsState stands later v s) e.0 (here s e.1)))
      (keeps_last xs x w s a))
      (λ b. ⊎_elim (λ c. inr (inl (c.0, f s c.1))) (λ c. inr (inr (g w s c))) b)
      h

  -- one kept set leaves a scope
  pub scope_step : (xs : List (Kept M)) (x : Kept M) (kept more : List (Kept M)) (go : State → State)
      → ((w : Way) (s : State) → KeepsState stands kept w s → KeepsState stands more w s)
      → ((s : State) → stands x.state s → KeepsState stands more x.way (go s)) → (w : Way) (s : State)
      → KeepsState stands (xs ++ x ∷ []) w s ⊎ KeepsState stands kept w (go s) → KeepsState stands xs w s ⊎ KeepsState stands more w (go s)
  scope_step xs x kept more go f here w s h =
      ⊎_elim (λ a. ⊎_elim inl (λ e. inr (subst (λ v. KeepsState stands more v (go s)) e.0 (here s e.1))) (keeps_last xs x w s a)) (λ b. inr (f w (go s) b)) h

  -- ---- heads

  pub head_front : (xs ys : List (Head M)) (mark : Mark) (s : State) → HasHead stands xs mark s → HasHead stands (xs ++ ys) mark s
  head_front [] ys mark s h = absurd h
  head_front (x ∷ xs) ys mark s h = ⊎_elim inl (λ r. inr (head_front xs ys mark s r)) h

  pub head_back : (xs : List (Head M)) (x : Head M) (mark : Mark) (s : State) → x.mark ≡ mark → InSome stands x.state s → HasHead stands (xs ++ x ∷ []) mark s
  head_back [] x mark s e h = inl (e, h)
  head_back (y ∷ xs) x mark s e h = inr (head_back xs x mark s e h)

  pub head_last : (xs : List (Head M)) (x : Head M) (mark : Mark) (s : State) → HasHead stands (xs ++ x ∷ []) mark s
      → HasHead stands xs mark s ⊎ ((x.mark ≡ mark) × InSome stands x.state s)
  head_last [] x mark s h = ⊎_elim (λ e. inr e) absurd h
  head_last (y ∷ xs) x mark s h = ⊎_elim (λ e. inl (inl e)) (λ r. ⊎_elim (λ a. inl (inr a)) (λ e. inr e) (head_last xs x mark s r)) h

  pub begins_more : (all : CsStmtTrees) (heads later : List (Head M)) (flow : Option M)
      → ((mark : Mark) (s : State) → HasHead stands heads mark s → HasHead stands later mark s) → (from : Option meaning.Mark) (s : State)
      → Begins stands all heads flow from s → Begins stands all later flow from s
  begins_more all heads later flow f None s h = h
  begins_more all heads later flow f (Some m) s h = (h.0, h.1, f h.0 s h.2, h.3)

pub way_front : {M : Type 0} (xs ys : List (Kept M)) (w : Way) → HasWay xs w → HasWay (xs ++ ys) w
way_front [] ys w h = absurd h
way_front (x ∷ xs) ys w h = ⊎_elim inl (λ r. inr (way_front xs ys w r)) h

pub way_back : {M : Type 0} (xs : List (Kept M)) (x : Kept M) (w : Way) → x.way ≡ w → HasWay (xs ++ x ∷ []) w
way_back [] x w e = inl e
way_back (y ∷ xs) x w e = inr (way_back xs x w e)

pub way_last : {M : Type 0} (xs : List (Kept M)) (x : Kept M) (w : Way) → HasWay (xs ++ x ∷ []) w → HasWay xs w ⊎ (x.way ≡ w)
way_last [] x w h = ⊎_elim (λ e. inr e) absurd h
way_last (y ∷ xs) x w h = ⊎_elim (λ e. inl (inl e)) (λ r. ⊎_elim (λ a. inl (inr a)) (λ e. inr e) (way_last xs x w r)) h

pub no_way : {M : Type 0} (xs : List (Kept M)) (x : Kept M) (w : Way) → (HasWay xs w → ⊥) → (x.way ≡ w → ⊥) → HasWay (xs ++ x ∷ []) w → ⊥
no_way xs x w f g h = ⊎_elim (λ a. f a) (λ e. g e) (way_last xs x w h)

-- one kept set is taken, or goes to the rest
pub way_step : {M : Type 0} (xs rest later : List (Kept M)) (x : Kept M) → ((w : Way) → HasWay later w → HasWay rest w ⊎ (x.way ≡ w)) → (w : Way)
    → HasWay later w → HasWay rest w ⊎ HasWay (xs ++ x ∷ []) w
way_step xs rest later x f w h = ⊎_elim inl (λ e. inr (way_back xs x w e)) (f w h)

pub heads_for_front : {M : Type 0} (for : M → CsProgramTree → Type 0) (q : CsProgramTree) (xs : List (Head M)) (x : Head M)
    → HeadsFor for q (xs ++ x ∷ []) → HeadsFor for q xs
heads_for_front for q [] x h = tt
heads_for_front for q (y ∷ xs) x h = (h.0, heads_for_front for q xs x h.1)

pub heads_for_last : {M : Type 0} (for : M → CsProgramTree → Type 0) (q : CsProgramTree) (xs : List (Head M)) (x : Head M)
    → HeadsFor for q (xs ++ x ∷ []) → SomeFor for q x.state
heads_for_last for q [] x h = h.0
heads_for_last for q (y ∷ xs) x h = heads_for_last for q xs x h.1

pub heads_for_push : {M : Type 0} (for : M → CsProgramTree → Type 0) (q : CsProgramTree) (xs : List (Head M)) (x : Head M)
    → HeadsFor for q xs → SomeFor for q x.state → HeadsFor for q (xs ++ x ∷ [])
heads_for_push for q [] x h k = (k, tt)
heads_for_push for q (y ∷ xs) x h k = (h.0, heads_for_push for q xs x h.1 k)

pub is_head_front : {M : Type 0} (xs ys : List (Head M)) (l : ℕ) → IsHead xs l → IsHead (xs ++ ys) l
is_head_front [] ys l h = absurd h
is_head_front (x ∷ xs) ys l h = ⊎_elim inl (λ r. inr (is_head_front xs ys l r)) h

pub is_head_back : {M : Type 0} (xs : List (Head M)) (x : Head M) (l : ℕ) → x.mark ≡ marks.Label l → IsHead (xs ++ x ∷ []) l
is_head_back [] x l e = inl e
is_head_back (y ∷ xs) x l e = inr (is_head_back xs x l e)

pub is_head_last : {M : Type 0} (xs : List (Head M)) (x : Head M) (l : ℕ) → IsHead (xs ++ x ∷ []) l → IsHead xs l ⊎ (x.mark ≡ marks.Label l)
is_head_last [] x l h = ⊎_elim (λ e. inr e) absurd h
is_head_last (y ∷ xs) x l h = ⊎_elim (λ e. inl (inl e)) (λ r. ⊎_elim (λ a. inl (inr a)) (λ e. inr e) (is_head_last xs x l r)) h

pub missing_last : {M : Type 0} (xs : List (Head M)) (x : Head M) → missing (xs ++ x ∷ []) ≡ missing xs + lacks x.state
missing_last [] x = omega arith
missing_last (y ∷ xs) x = let h = missing_last xs x in omega (arith, h)

pub weigh_last : {M : Type 0} (weight : M → ℕ) (xs : List (Head M)) (x : Head M) → weigh weight (xs ++ x ∷ []) ≡ weigh weight xs + some_weight weight x.state
weigh_last weight [] x = omega arith
weigh_last weight (y ∷ xs) x = let h = weigh_last weight xs x in omega (arith, h)

-- ---- one head more that took a step

step_lacks : {M : Type 0} (weight : M → ℕ) (a b : Option M) (c : Change) → IsStep weight a b c → lacks b ≤ lacks a
step_lacks weight a b changes.Same h = let e = h.0 in omega (arith, e)
step_lacks weight a b changes.Wider h = let e = h.0 in omega (arith, e)
step_lacks weight a b changes.New h = omega (arith, h)

step_new : {M : Type 0} (weight : M → ℕ) (a b : Option M) (c : Change) → c ≡ changes.New → IsStep weight a b c → lacks b < lacks a
step_new weight a b c e h = rw e at h

step_wider : {M : Type 0} (weight : M → ℕ) (a b : Option M) (c : Change) → c ≡ changes.Wider → IsStep weight a b c → some_weight weight b < some_weight weight a
step_wider weight a b c e h = (rw e at h).1

step_same : {M : Type 0} (weight : M → ℕ) (a b : Option M) (c : Change) → c ≡ changes.Same → IsStep weight a b c → some_weight weight b ≡ some_weight weight a
step_same weight a b c e h = (rw e at h).1

pub fewer_step : {M : Type 0} (weight : M → ℕ) (xs ys : List (Head M)) (x y : Head M) (c : Change) (all : ℕ) → missing (xs ++ x ∷ []) + missing ys ≤ all
    → IsStep weight x.state y.state c → missing xs + missing (ys ++ y ∷ []) ≤ all
fewer_step weight xs ys x y c all f h =
    let a = missing_last xs x in let b = missing_last ys y in let k = step_lacks weight x.state y.state c h in omega (arith, a, b, k, f)

pub new_step : {M : Type 0} (weight : M → ℕ) (xs ys : List (Head M)) (x y : Head M) (c d : Change) (all : ℕ) → missing (xs ++ x ∷ []) + missing ys ≤ all
    → (d ≡ changes.New → missing (xs ++ x ∷ []) + missing ys < all) → IsStep weight x.state y.state c → (c ≡ changes.New) ⊎ (d ≡ changes.New)
    → missing xs + missing (ys ++ y ∷ []) < all
new_step weight xs ys x y c d all f g h e =
    let a = missing_last xs x in let b = missing_last ys y in
    ⊎_elim (λ i. let k = step_new weight x.state y.state c i h in omega (arith, a, b, k, f))
    (λ i. let k = step_lacks weight x.state y.state c h in let j = g i in omega (arith, a, b, k, j)) e

pub wider_step : {M : Type 0} (weight : M → ℕ) (xs ys : List (Head M)) (x y : Head M) (c d : Change) (all : ℕ)
    → (d ≡ changes.Wider → weigh weight (xs ++ x ∷ []) + weigh weight ys < all) → (d ≡ changes.Same → weigh weight (xs ++ x ∷ []) + weigh weight ys ≡ all)
    → IsStep weight x.state y.state c
    → ((c ≡ changes.Wider) × ((d ≡ changes.Wider) ⊎ (d ≡ changes.Same))) ⊎ ((c ≡ changes.Same) × (d ≡ changes.Wider))
    → weigh weight xs + weigh weight (ys ++ y ∷ []) < all
wider_step weight xs ys x y c d all f g h e =
    let a = weigh_last weight xs x in let b = weigh_last weight ys y in
    ⊎_elim
    (λ i. let k = step_wider weight x.state y.state c i.0 h in
    ⊎_elim (λ j. let m = f j in omega (arith, a, b, k, m)) (λ j. let m = g j in omega (arith, a, b, k, m)) i.1)
    (λ i. let k = step_same weight x.state y.state c i.0 h in let m = f i.1 in omega (arith, a, b, k, m)) e

pub same_step : {M : Type 0} (weight : M → ℕ) (xs ys : List (Head M)) (x y : Head M) (c d : Change) (all : ℕ)
    → (d ≡ changes.Same → weigh weight (xs ++ x ∷ []) + weigh weight ys ≡ all) → IsStep weight x.state y.state c → (c ≡ changes.Same) × (d ≡ changes.Same)
    → weigh weight xs + weigh weight (ys ++ y ∷ []) ≡ all
same_step weight xs ys x y c d all g h e =
    let a = weigh_last weight xs x in let b = weigh_last weight ys y in let k = step_same weight x.state y.state c e.0 h in let m = g e.1 in
    omega (arith, a, b, k, m)

goto_same : (l k : ℕ) → ways.Goto l ≡ ways.Goto k → l ≡ k
goto_same l k e = cc

-- a jump to one of the heads that are left, or to one that has it
pub closed_step : {M : Type 0} (stands : M → State → Type 0) (all xs : List (Head M)) (x : Head M) (kept more : List (Kept M))
    → ((mark : Mark) (s : State) → HasHead stands (xs ++ x ∷ []) mark s → HasHead stands all mark s)
    → ((l : ℕ) (s : State) → x.mark ≡ marks.Label l → KeepsState stands kept (ways.Goto l) s → InSome stands x.state s)
    → ((w : Way) (s : State) → KeepsState stands kept w s → KeepsState stands more w s ⊎ ((l : ℕ) × (w ≡ ways.Goto l) × (x.mark ≡ marks.Label l)))
    → (l : ℕ) (s : State) → (IsHead (xs ++ x ∷ []) l × KeepsState stands kept (ways.Goto l) s) ⊎ HasHead stands all (marks.Label l) s
    → (IsHead xs l × KeepsState stands more (ways.Goto l) s) ⊎ HasHead stands all (marks.Label l) s
closed_step stands all xs x kept more back own left l s h =
    let here : x.mark ≡ marks.Label l → KeepsState stands kept (ways.Goto l) s → HasHead stands all (marks.Label l) s =
    λ e k. back (marks.Label l) s (head_back stands xs x (marks.Label l) s e (own l s e k)) in
    ⊎_elim
    (λ p. ⊎_elim
    (λ i. ⊎_elim (λ m. inl (i, m)) (λ r. inr (here (r.2 ∙ ap marks.Label (sym (goto_same l r.0 r.1))) p.1)) (left (ways.Goto l) s p.1))
    (λ e. inr (here e p.1)) (is_head_last xs x l p.0))
    (λ r. inr r) h

-- where the jumps went that are not kept
pub left_step : {M : Type 0} (stands : M → State → Type 0) (all xs : List (Head M)) (x : Head M) (kept more : List (Kept M))
    → ((l : ℕ) → IsHead (xs ++ x ∷ []) l → IsHead all l)
    → ((w : Way) (s : State) → KeepsState stands kept w s → KeepsState stands more w s ⊎ ((l : ℕ) × (w ≡ ways.Goto l) × (x.mark ≡ marks.Label l)))
    → (w : Way) (s : State) → KeepsState stands kept w s ⊎ ((l : ℕ) × (w ≡ ways.Goto l) × IsHead all l)
    → KeepsState stands more w s ⊎ ((l : ℕ) × (w ≡ ways.Goto l) × IsHead all l)
left_step stands all xs x kept more among left w s h =
    ⊎_elim (λ k. ⊎_elim (λ m. inl m) (λ r. inr (r.0, r.1, among r.0 (is_head_back xs x r.0 r.2))) (left w s k)) (λ r. inr r) h

-- a head that has taken its step still has what it had
pub head_step : {M : Type 0} (stands : M → State → Type 0) (xs ys : List (Head M)) (x y : Head M) → y.mark ≡ x.mark
    → ((s : State) → InSome stands x.state s → InSome stands y.state s) → (mark : Mark) (s : State)
    → HasHead stands (xs ++ x ∷ []) mark s ⊎ HasHead stands ys mark s → HasHead stands xs mark s ⊎ HasHead stands (ys ++ y ∷ []) mark s
head_step stands xs ys x y e f mark s h =
    ⊎_elim
    (λ a. ⊎_elim inl (λ i. inr (head_back stands ys y mark s (e ∙ i.0) (f s i.1))) (head_last stands xs x mark s a))
    (λ b. inr (head_front stands ys (y ∷ []) mark s b)) h

pub is_head_step : {M : Type 0} (xs ys : List (Head M)) (x y : Head M) → y.mark ≡ x.mark → (l : ℕ) → IsHead (xs ++ x ∷ []) l ⊎ IsHead ys l
    → IsHead xs l ⊎ IsHead (ys ++ y ∷ []) l
is_head_step xs ys x y e l h =
    ⊎_elim (λ a. ⊎_elim inl (λ i. inr (is_head_back ys y l (e ∙ i))) (is_head_last xs x l a)) (λ b. inr (is_head_front ys (y ∷ []) l b)) h

-- and is the head of no other label
pub is_head_only : {M : Type 0} (all xs ys : List (Head M)) (x y : Head M) → y.mark ≡ x.mark → ((l : ℕ) → IsHead (xs ++ x ∷ []) l → IsHead all l)
    → ((l : ℕ) → IsHead ys l → IsHead all l) → (l : ℕ) → IsHead (ys ++ y ∷ []) l → IsHead all l
is_head_only all xs ys x y e f g l h = ⊎_elim (λ a. g l a) (λ i. f l (is_head_back xs x l (sym e ∙ i))) (is_head_last ys y l h)

pub label_same : (l k : ℕ) → marks.Label l ≡ marks.Label k → l ≡ k
label_same l k e = cc
