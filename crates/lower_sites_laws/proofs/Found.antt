-- What holds of each statement in code holds of a check or a call that stands in it.
use Rattle.std.proofs.Common.{inl, inr, subst}
use Rattle.csharp.specs.Trees.{CsCallTree, CsCheckTree, CsStmtTree, Nothing, Set, Load, Store, CopyBytes, Undefine, Checked, Input, Assume, Sequence, If, Loop, Block, Exit, Scope, Switch, Goto, Call, Return, Label, Case, Default, CsStmtTrees, none, more}
use Rattle.csharp.specs.Formed.{Around, Each, EachItem, in_block, in_items}
use Rattle.alarm_claims.specs.Admitted.{SomeIn, SomeAmong}
use Rattle.alarm_claims.specs.Forms.{IsChecked}
use Rattle.lower_sites_laws.specs.Laws.{IsCalled}

module _ (Q R : CsStmtTree → Type 0) where
  abbrev Both : Type 0
  Both = (a : CsStmtTree) × Q a × R a

  mutual
    pub both : (a : CsStmtTree) (around : Around) → Each (λ around a. Q a) around a → SomeIn R a → Both
    both (Sequence a b) r (h, ha, hb) (inl k) = (Sequence a b, h, k)
    both (Sequence a b) r (h, ha, hb) (inr (inl k)) = both a r ha k
    both (Sequence a b) r (h, ha, hb) (inr (inr k)) = both b r hb k
    both (If e a b) r (h, ha, hb) (inl k) = (If e a b, h, k)
    both (If e a b) r (h, ha, hb) (inr (inl k)) = both a r ha k
    both (If e a b) r (h, ha, hb) (inr (inr k)) = both b r hb k
    both (Loop at a) r (h, ha) (inl k) = (Loop at a, h, k)
    both (Loop at a) r (h, ha) (inr k) = both a r ha k
    both (Block a) r (h, ha) (inl k) = (Block a, h, k)
    both (Block a) r (h, ha) (inr k) = both a (in_block r) ha k
    both (Scope xs items) r (h, hi) (inl k) = (Scope xs items, h, k)
    both (Scope xs items) r (h, hi) (inr k) = both_among items (in_items xs items r) hi k
    both (Switch e xs items) r (h, hi) (inl k) = (Switch e xs items, h, k)
    both (Switch e xs items) r (h, hi) (inr k) = both_among items (in_items xs items r) hi k
    both Nothing r h k = (Nothing, h, k)
    both (Set d e) r h k = (Set d e, h, k)
    both (Load d ty e) r h k = (Load d ty e, h, k)
    both (Store ty e f) r h k = (Store ty e f, h, k)
    both (CopyBytes n to from) r h k = (CopyBytes n to from, h, k)
    both (Undefine x) r h k = (Undefine x, h, k)
    both (Checked c) r h k = (Checked c, h, k)
    both (Input d t) r h k = (Input d t, h, k)
    both (Assume e) r h k = (Assume e, h, k)
    both (Exit n) r h k = (Exit n, h, k)
    both (Goto l) r h k = (Goto l, h, k)
    both (Call c) r h k = (Call c, h, k)
    both (Return e) r h k = (Return e, h, k)
    both (Label at l) r h k = (Label at l, h, k)
    both (Case n) r h k = (Case n, h, k)
    both Default r h k = (Default, h, k)

    both_among : (items : CsStmtTrees) (around : Around) → EachItem (λ around a. Q a) around items → SomeAmong R items → Both
    both_among none r h k = absurd k
    both_among (more item rest) r (h, t) (inl k) = both item r h k
    both_among (more item rest) r (h, t) (inr k) = both_among rest r t k

the_check : (Q : CsStmtTree → Type 0) (c : CsCheckTree) (a : CsStmtTree) → Q a → IsChecked c a → Q (Checked c)
the_check Q c (Checked d) h e = subst (λ x. Q (Checked x)) e h
the_check Q c _ h e = absurd e

the_call : (Q : CsStmtTree → Type 0) (c : CsCallTree) (a : CsStmtTree) → Q a → IsCalled c a → Q (Call c)
the_call Q c (Call d) h e = subst (λ x. Q (Call x)) e h
the_call Q c _ h e = absurd e

pub check_found : (Q : CsStmtTree → Type 0) (c : CsCheckTree) (a : CsStmtTree) (around : Around) → Each (λ around a. Q a) around a → SomeIn (IsChecked c) a → Q (Checked c)
check_found Q c a around h k = let (b, there, is) = both Q (IsChecked c) a around h k in the_check Q c b there is

pub call_found : (Q : CsStmtTree → Type 0) (c : CsCallTree) (a : CsStmtTree) (around : Around) → Each (λ around a. Q a) around a → SomeIn (IsCalled c) a → Q (Call c)
call_found Q c a around h k = let (b, there, is) = both Q (IsCalled c) a around h k in the_call Q c b there is
