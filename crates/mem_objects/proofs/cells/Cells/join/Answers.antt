use Rattle.std.proofs.Common.{◌≡◌, ℕ, ◌<◌, ◌≤◌, ◌+◌, sym, subst, ap, ◌∙◌, ⊎_elim, arith, List, length, length-set, Option, None}
use Rattle.std.specs.Prelude.{slice_set}
use Rattle.std.proofs.lemmas.Bool.{cases_lt}
use Rattle.std.proofs.lemmas.List.{get_or_past}
use Rattle.mem_objects.specs.declared.cells.KnownCell.{KnownCell}
use Rattle.mem_objects.specs.Cells.{cell_of, IsJoined}
use Rattle.mem_objects.proofs.Lists.{put_at, put_apart, kept_more, nothing_joined}
use Rattle.mem_objects.proofs.cells.Cells.join.Goals as goal

-- the join at one object more
more : (a b now : List (Option KnownCell)) (i : ℕ) (v : Option KnownCell) → i < length now → IsJoined (cell_of a i) (cell_of b i) v
    → ((k : ℕ) → k < i → IsJoined (cell_of a k) (cell_of b k) (cell_of now k)) → (k : ℕ) → k < i + 1
    → IsJoined (cell_of a k) (cell_of b k) (cell_of (slice_set now i v) k)
more a b now i v there here all k less = ⊎_elim
    (λ below. subst (IsJoined (cell_of a k) (cell_of b k)) (sym (put_apart now i k v (λ e. absurd (omega (arith, below, e))))) (all k below))
    (λ above. let same : i ≡ k = omega (arith, above, less) in
    subst (λ (j : ℕ). IsJoined (cell_of a j) (cell_of b j) (cell_of (slice_set now i v) j)) same
    (subst (IsJoined (cell_of a i) (cell_of b i)) (sym (put_at now i v there)) here)) (cases_lt k i)

pub loop-x-preserved : goal.loop-x-preserved
loop-x-preserved c =
    let a = c.args.self.now in
    let b = c.args.other.now in
    let now = c.loop-x.self in
    let i = c.loop-x.x in
    let v = c.joined-cell.result in
    let first : c.get.result ≡ cell_of a i = c.get.ensures ∙ c.loop-x.invariant.rest i (omega arith) in
    let here : IsJoined (cell_of a i) (cell_of b i) v =
    subst (λ (x : Option KnownCell). IsJoined x (cell_of b i) v) first
    (subst (λ (y : Option KnownCell). IsJoined c.get.result y v) c.get-in-loop-x.ensures c.joined-cell.ensures) in
    let there : i < length now = omega arith in
    record {
      size = ap (λ (xs : List (Option KnownCell)). length xs) c.set.ensures ∙ length-set now i v ∙ c.loop-x.invariant.size;
      joins = subst (λ (xs : List (Option KnownCell)). (k : ℕ) → k < i + 1 → IsJoined (cell_of a k) (cell_of b k) (cell_of xs k)) (sym c.set.ensures)
          (more a b now i v there here c.loop-x.invariant.joins);
      rest = subst (λ (xs : List (Option KnownCell)). (k : ℕ) → i + 1 ≤ k → cell_of xs k ≡ cell_of a k) (sym c.set.ensures)
          (kept_more (cell_of a) now i v c.loop-x.invariant.rest);
    }

pub returns-clause-joins : goal.returns-clause-joins
returns-clause-joins c = λ k.
    let a = c.args.self.now in
    let j = c.loop-x.self in
    ⊎_elim (λ below. c.loop-x.invariant.joins k (omega (arith, below)))
    (λ past. nothing_joined (cell_of a k) (cell_of c.args.other.now k) (cell_of j k) (get_or_past a k None past)
    (get_or_past j k None (omega (arith, past, c.loop-x.invariant.size)))) (cases_lt k (length a))
