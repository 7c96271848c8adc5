-- Properties of each statement in a statement.
use Rattle.csharp.specs.Trees.{CsStmtTree, Nothing, Set, Load, Store, CopyBytes, Undefine, Checked, Input, Assume, Sequence, If, Loop, Block, Exit, Scope}
use Rattle.csharp.specs.Trees.{Switch, Goto, Call, Return, Label, Case, Default, CsStmtTrees, none, more}
use Rattle.csharp.specs.Formed.{Around, Each, EachItem, in_block, in_items}

-- what holds of every statement
module _ (P : Around → CsStmtTree → Type 0) (all : (around : Around) (a : CsStmtTree) → P around a) where
  mutual
    pub each_always : (around : Around) (a : CsStmtTree) → Each P around a
    each_always around (Sequence a b) = (all around (Sequence a b), each_always around a, each_always around b)
    each_always around (If e a b) = (all around (If e a b), each_always around a, each_always around b)
    each_always around (Loop at a) = (all around (Loop at a), each_always around a)
    each_always around (Block a) = (all around (Block a), each_always (in_block around) a)
    each_always around (Scope xs items) = (all around (Scope xs items), each_item_always (in_items xs items around) items)
    each_always around (Switch e xs items) = (all around (Switch e xs items), each_item_always (in_items xs items around) items)
    each_always around Nothing = all around Nothing
    each_always around (Set d e) = all around (Set d e)
    each_always around (Load d ty e) = all around (Load d ty e)
    each_always around (Store ty e f) = all around (Store ty e f)
    each_always around (CopyBytes n to from) = all around (CopyBytes n to from)
    each_always around (Undefine x) = all around (Undefine x)
    each_always around (Checked c) = all around (Checked c)
    each_always around (Input d t) = all around (Input d t)
    each_always around (Assume e) = all around (Assume e)
    each_always around (Exit level) = all around (Exit level)
    each_always around (Goto label) = all around (Goto label)
    each_always around (Call c) = all around (Call c)
    each_always around (Return e) = all around (Return e)
    each_always around (Label at l) = all around (Label at l)
    each_always around (Case n) = all around (Case n)
    each_always around Default = all around Default

    each_item_always : (around : Around) (items : CsStmtTrees) → EachItem P around items
    each_item_always around none = tt
    each_item_always around (more item rest) = (each_always around item, each_item_always around rest)

-- what follows from two properties
module _ (P Q R : Around → CsStmtTree → Type 0) (both : (around : Around) (a : CsStmtTree) → P around a → Q around a → R around a) where
  mutual
    pub each_both : (around : Around) (a : CsStmtTree) → Each P around a → Each Q around a → Each R around a
    each_both around (Sequence a b) (p, pa, pb) (q, qa, qb) = (both around (Sequence a b) p q, each_both around a pa qa, each_both around b pb qb)
    each_both around (If e a b) (p, pa, pb) (q, qa, qb) = (both around (If e a b) p q, each_both around a pa qa, each_both around b pb qb)
    each_both around (Loop at a) (p, pa) (q, qa) = (both around (Loop at a) p q, each_both around a pa qa)
    each_both around (Block a) (p, pa) (q, qa) = (both around (Block a) p q, each_both (in_block around) a pa qa)
    each_both around (Scope xs items) (p, ps) (q, qs) = (both around (Scope xs items) p q, each_item_both (in_items xs items around) items ps qs)
    each_both around (Switch e xs items) (p, ps) (q, qs) = (both around (Switch e xs items) p q, each_item_both (in_items xs items around) items ps qs)
    each_both around Nothing p q = both around Nothing p q
    each_both around (Set d e) p q = both around (Set d e) p q
    each_both around (Load d ty e) p q = both around (Load d ty e) p q
    each_both around (Store ty e f) p q = both around (Store ty e f) p q
    each_both around (CopyBytes n to from) p q = both around (CopyBytes n to from) p q
    each_both around (Undefine x) p q = both around (Undefine x) p q
    each_both around (Checked c) p q = both around (Checked c) p q
    each_both around (Input d t) p q = both around (Input d t) p q
    each_both around (Assume e) p q = both around (Assume e) p q
    each_both around (Exit level) p q = both around (Exit level) p q
    each_both around (Goto label) p q = both around (Goto label) p q
    each_both around (Call c) p q = both around (Call c) p q
    each_both around (Return e) p q = both around (Return e) p q
    each_both around (Label at l) p q = both around (Label at l) p q
    each_both around (Case n) p q = both around (Case n) p q
    each_both around Default p q = both around Default p q

    each_item_both : (around : Around) (items : CsStmtTrees) → EachItem P around items → EachItem Q around items → EachItem R around items
    each_item_both around none p q = tt
    each_item_both around (more item rest) (p, ps) (q, qs) = (each_both around item p q, each_item_both around rest ps qs)
