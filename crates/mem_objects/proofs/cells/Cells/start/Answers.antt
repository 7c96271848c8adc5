use Rattle.std.proofs.Common.{◌≡◌, ◌≢◌, ℕ, ◌<◌, ◌≤◌, ◌+◌, ◌++◌, [], ◌∷◌, sym, subst, ap, ◌∙◌, ⊎_elim, arith, List, length, map, Option, None}
use Rattle.std.specs.Prelude.{IfSome, slice_index_or}
use Rattle.std.proofs.lemmas.Bool.{cases_eq, cases_lt}
use Rattle.std.proofs.lemmas.List.{get_or_past, get_or_append_left, get_or_push, length_push, length-map}
use Rattle.c_syntax.specs.Types.{object_tree}
use Rattle.mem_temps.specs.Operators.{LiesIn}
use Rattle.mem_objects.specs.declared.cells.KnownCell.{KnownCell}
use Rattle.mem_objects.specs.Cells.{read_at}
use Rattle.mem_objects.proofs.Beginning.{nothing_read}
use Rattle.mem_objects.proofs.cells.Cells.start.Goals as goal

-- what is read, with one more behind it
more : (f : ℕ → Option KnownCell) (xs : List (Option KnownCell)) (i : ℕ) (v : Option KnownCell) → length xs ≡ i → v ≡ f i
    → ((k : ℕ) → k < i → slice_index_or xs k None ≡ f k) → (k : ℕ) → k < i + 1 → slice_index_or (xs ++ v ∷ []) k None ≡ f k
more f xs i v size is all k less = ⊎_elim
    (λ below. get_or_append_left xs (v ∷ []) None k (omega (arith, below, size)) ∙ all k below)
    (λ above. let same : i ≡ k = omega (arith, above, less) in
    subst (λ (j : ℕ). slice_index_or (xs ++ v ∷ []) j None ≡ f j) same (get_or_push xs v None i size ∙ is)) (cases_lt k i)

-- and ranges inside of types, with one more
inside_more : (xs : List (Option KnownCell)) (i : ℕ) (v : Option KnownCell) → length xs ≡ i → IfSome v (λ c. LiesIn c.ty c.range)
    → ((k : ℕ) → IfSome (slice_index_or xs k None) (λ c. LiesIn c.ty c.range)) → (k : ℕ) → IfSome (slice_index_or (xs ++ v ∷ []) k None) (λ c. LiesIn c.ty c.range)
inside_more xs i v size here all k = ⊎_elim
    (λ below. subst (λ o. IfSome o (λ c. LiesIn c.ty c.range)) (sym (get_or_append_left xs (v ∷ []) None k (omega (arith, below, size)))) (all k))
    (λ above. ⊎_elim
    (λ same. subst (λ (j : ℕ). IfSome (slice_index_or (xs ++ v ∷ []) j None) (λ c. LiesIn c.ty c.range)) same
    (subst (λ o. IfSome o (λ c. LiesIn c.ty c.range)) (sym (get_or_push xs v None i size)) here))
    (λ ne. subst (λ o. IfSome o (λ c. LiesIn c.ty c.range)) (sym (get_or_past (xs ++ v ∷ []) k None (omega (arith, above, ne, size, length_push xs v)))) tt)
    (cases_eq i k)) (cases_lt k i)

pub loop-x-preserved : goal.loop-x-preserved
loop-x-preserved c =
    let xs = c.loop-x.items.items in
    let v = c.read_at.result in
    let is = c.in_ok-push.ensures.items in
    record {
      size = ap (λ (ys : List (Option KnownCell)). length ys) is ∙ length_push xs v ∙ ap (λ (n : ℕ). n + 1) c.loop-x.invariant.size;
      inside = subst (λ (ys : List (Option KnownCell)). (k : ℕ) → IfSome (slice_index_or ys k None) (λ c. LiesIn c.ty c.range)) (sym is)
          (inside_more xs c.loop-x.x v c.loop-x.invariant.size c.read_at.ensures.inside c.loop-x.invariant.inside);
      read = subst (λ (ys : List (Option KnownCell)). (k : ℕ) → k < c.loop-x.x + 1
          → slice_index_or ys k None ≡ read_at (map object_tree c.args.objects.now) c.args.memory.now k) (sym is)
          (more (read_at (map object_tree c.args.objects.now) c.args.memory.now) xs c.loop-x.x v c.loop-x.invariant.size c.read_at.ensures.cell c.loop-x.invariant.read);
    }

pub returns-clause-read : goal.returns-clause-read
returns-clause-read c = λ x.
    let xs = c.loop-x.items.items in
    let objects = map object_tree c.args.objects.now in
    ⊎_elim (λ below. c.loop-x.invariant.read x below)
    (λ past. get_or_past xs x None (omega (arith, past, c.loop-x.invariant.size))
    ∙ sym (nothing_read objects c.args.memory.now x (omega (arith, past, length-map c.args.objects.now object_tree)))) (cases_lt x c.loop-x.x)
