-- Labels among the items of a scope of lowered code differ, as those of the source do.
use Rattle.std.proofs.Common.{◌≡◌, ℕ, suc, List, [], ◌∷◌, ◌++◌, Some, None, refl, sym, ap, ◌∙◌, subst, arith}
use Rattle.std.specs.Prelude.{All, AllPairs, Contains, slice_index_or}
use Rattle.std.proofs.lemmas.List.Elements.{All-contains, Contains-get_or, Contains-append_left}
use Rattle.std.proofs.lemmas.List.Kept.{AllPairs-cons}
use Rattle.c_syntax.specs.TypedStmt as s
use Rattle.c_syntax.specs.TypedStmt.{TStmtTree, TStmtTrees}
use Rattle.c_syntax.specs.Program.{TProgramTree}
use Rattle.c_layout.specs.Jumps as source
use Rattle.c_layout.specs.Jumps.{labels_of, labels_in}
use Rattle.csharp.specs.Formed.{labels_among}
use Rattle.lower_trees.specs.LowerExpr.{lower_expr}
use Rattle.lower_trees.specs.LowerStmt.{Context, lower_items}
use Rattle.lower_formed.proofs.Flat.{flat_expr}
use Rattle.lower_formed.proofs.Stmts.{among_in}
use Rattle.lower_formed.proofs.Scopes.{not_label, Parted}

-- ---- pairs of a list

module _ {A : Type 0} (R : A → A → Type 0) where
  pub pairs_nil : AllPairs R []
  pairs_nil i j d lt within = absurd (omega (arith, within))

  pub pairs_head : (x : A) (xs : List A) → AllPairs R (x ∷ xs) → All (R x) xs
  pairs_head x xs h k d lt = h 0 (suc k) d (omega arith) (omega (arith, lt))

  pub pairs_tail : (x : A) (xs : List A) → AllPairs R (x ∷ xs) → AllPairs R xs
  pairs_tail x xs h i j d lt within = h (suc i) (suc j) d (omega (arith, lt)) (omega (arith, within))

  pub pairs_right : (xs ys : List A) → AllPairs R (xs ++ ys) → AllPairs R ys
  pairs_right [] ys h = h
  pairs_right (x ∷ xs) ys h = pairs_right xs ys (pairs_tail x (xs ++ ys) h)

  -- what holds of each element holds of all
  pub all_elements : (P : A → Type 0) (xs : List A) → ((x : A) → Contains xs x → P x) → All P xs
  all_elements P xs h k d lt = h (slice_index_or xs k d) (Contains-get_or xs k d lt)

  pub pairs_left : (xs ys : List A) → AllPairs R (xs ++ ys) → AllPairs R xs
  pairs_left [] ys h = pairs_nil
  pairs_left (x ∷ xs) ys h =
      AllPairs-cons R x xs (all_elements (R x) xs (λ y m. All-contains (R x) (xs ++ ys) y (pairs_head x (xs ++ ys) h) (Contains-append_left xs ys y m)))
      (pairs_left xs ys (pairs_tail x (xs ++ ys) h))

abbrev pub Unlike : ℕ → ℕ → Type 0
Unlike a b = a ≡ b → ⊥

-- those right among the items
among_differ : (items : TStmtTrees) → AllPairs Unlike (labels_in items) → AllPairs Unlike (source.labels_among items)
unfolding source.labels_among labels_of
among_differ s.none h = h
among_differ (s.more (s.Label at l) rest) h =
    AllPairs-cons Unlike l (source.labels_among rest)
    (all_elements Unlike (Unlike l) (source.labels_among rest) (λ y m. All-contains (Unlike l) (labels_in rest) y (pairs_head Unlike l (labels_in rest) h) (among_in rest y m)))
    (among_differ rest (pairs_tail Unlike l (labels_in rest) h))
among_differ (s.more (s.Empty at) rest) h = among_differ rest h
among_differ (s.more (s.Expr at e) rest) h = among_differ rest h
among_differ (s.more (s.Block at kind xs items) rest) h = among_differ rest (pairs_right Unlike (labels_in items) (labels_in rest) h)
among_differ (s.more (s.Declare at x inits z) rest) h = among_differ rest h
among_differ (s.more (s.Static at x) rest) h = among_differ rest h
among_differ (s.more (s.If at e a b) rest) h = among_differ rest (pairs_right Unlike (labels_of a ++ labels_of b) (labels_in rest) h)
among_differ (s.more (s.While at e b) rest) h = among_differ rest (pairs_right Unlike (labels_of b) (labels_in rest) h)
among_differ (s.more (s.DoWhile at b e) rest) h = among_differ rest (pairs_right Unlike (labels_of b) (labels_in rest) h)
among_differ (s.more (s.For at xs head e step b) rest) h = among_differ rest (pairs_right Unlike (labels_in head ++ labels_of b) (labels_in rest) h)
among_differ (s.more (s.Switch at e kind xs items) rest) h = among_differ rest (pairs_right Unlike (labels_in items) (labels_in rest) h)
among_differ (s.more (s.Break at) rest) h = among_differ rest h
among_differ (s.more (s.Continue at) rest) h = among_differ rest h
among_differ (s.more (s.Goto at l) rest) h = among_differ rest h
among_differ (s.more (s.Return at e) rest) h = among_differ rest h
among_differ (s.more (s.Case at j) rest) h = among_differ rest h
among_differ (s.more (s.Default at) rest) h = among_differ rest h

-- lowered items have the labels of the items, in their order
pub labels_kept_among : (p : TProgramTree) (d : ℕ) (k : Context) (items : TStmtTrees) → labels_among (lower_items p d k items).items ≡ source.labels_among items
unfolding source.labels_among
labels_kept_among p d k s.none = refl
labels_kept_among p d k (s.more (s.Label at l) rest) = ap (λ z. l ∷ z) (labels_kept_among p d k rest)
labels_kept_among p d k (s.more (s.Expr at e) rest) = not_label (lower_expr p d e).value.before (lower_items p d k rest).items (flat_expr p e d).value ∙ labels_kept_among p d k rest
labels_kept_among p d k (s.more (s.Empty at) rest) = labels_kept_among p d k rest
labels_kept_among p d k (s.more (s.Block at kind xs items) rest) = labels_kept_among p d k rest
labels_kept_among p d k (s.more (s.Declare at x inits z) rest) = labels_kept_among p d k rest
labels_kept_among p d k (s.more (s.Static at x) rest) = labels_kept_among p d k rest
labels_kept_among p d k (s.more (s.If at e a b) rest) = labels_kept_among p d k rest
labels_kept_among p d k (s.more (s.While at e b) rest) = labels_kept_among p d k rest
labels_kept_among p d k (s.more (s.DoWhile at b e) rest) = labels_kept_among p d k rest
labels_kept_among p d k (s.more (s.For at xs head e step b) rest) = labels_kept_among p d k rest
labels_kept_among p d k (s.more (s.Switch at e kind xs items) rest) = labels_kept_among p d k rest
labels_kept_among p d k (s.more (s.Break at) rest) = labels_kept_among p d k rest
labels_kept_among p d k (s.more (s.Continue at) rest) = labels_kept_among p d k rest
labels_kept_among p d k (s.more (s.Goto at l) rest) = labels_kept_among p d k rest
labels_kept_among p d k (s.more (s.Return at None) rest) = labels_kept_among p d k rest
labels_kept_among p d k (s.more (s.Return at (Some e)) rest) = labels_kept_among p d k rest
labels_kept_among p d k (s.more (s.Case at j) rest) = labels_kept_among p d k rest
labels_kept_among p d k (s.more (s.Default at) rest) = labels_kept_among p d k rest

pub labels_parted : (p : TProgramTree) → Parted p (λ b. AllPairs Unlike (labels_of b)) (λ items. AllPairs Unlike (labels_in items)) (λ items. AllPairs Unlike (labels_among items))
unfolding labels_of
labels_parted p = record {
  block = λ at kind xs items h. h;
  first = λ at e a b h. pairs_left Unlike (labels_of a) (labels_of b) h;
  second = λ at e a b h. pairs_right Unlike (labels_of a) (labels_of b) h;
  turned = λ at e b h. h;
  done = λ at e b h. h;
  head = λ at xs head e step b h. pairs_left Unlike (labels_in head) (labels_of b) h;
  body = λ at xs head e step b h. pairs_right Unlike (labels_in head) (labels_of b) h;
  switch = λ at e kind xs items h. h;
  item = λ a rest h. pairs_left Unlike (labels_of a) (labels_in rest) h;
  rest = λ a rest h. pairs_right Unlike (labels_of a) (labels_in rest) h;
  among = λ d k items h. subst (λ ls. AllPairs Unlike ls) (sym (labels_kept_among p d k items)) (among_differ items h);
  without = λ items e. subst (λ ls. AllPairs Unlike ls) (sym e) (pairs_nil Unlike);
}
