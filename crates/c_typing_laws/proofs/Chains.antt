-- Aggregates under way: each stands in a part of the next, and what is filled lies before what is not.
use Rattle.std.proofs.Common.{◌≡◌, ℕ, suc, ◌<◌, ◌≤◌, true, false, List, [], ◌∷◌, refl, ap, sym, subst, arith}
use Rattle.std.specs.Prelude.{Bool, nat_le, if◌then◌else◌, Option, None, Some, option_map, unwrap_or, is_some, All, ◌++◌}
use Rattle.std.proofs.lemmas.List.Elements.{All-weaker, All-append}
use Rattle.std.proofs.lemmas.Bool.{false≢true, leb-false}
use Rattle.c_syntax.specs.Types.{CTypeTree}
use Rattle.c_syntax.specs.Program.{StructDefTree}
use Rattle.c_layout.specs.Tables.{IsTypedTable}
use Rattle.c_typing.specs.CurrentObject.{Part, Frame, Aggregates, in_braces, aggregates_from, frame_of, is_full, part_of, filled, unfinished, current, after_part, outermost, own_frame, begun}
use Rattle.c_typing_laws.proofs.Frames.{room, part, end_of, IsPart, FrameIn, frame_in, inside_part}

-- one stands in a part of another, which is the last that is begun there
pub record Under (structs : List StructDefTree) (n : ℕ) (f g : Frame) : Type 0 where
  pub place : ℕ
  pub next : g.next ≡ suc place
  pub within : place < room n g
  pub ends : (k : ℕ) → k < room n f → end_of structs (part structs f k) ≤ end_of structs (part structs g place)

abbrev pub Chain : List StructDefTree → CTypeTree → ℕ → List Frame → Type 0
Chain structs top n [] = Unit {0}
Chain structs top n (f ∷ []) = FrameIn structs top n f
Chain structs top n (f ∷ g ∷ rest) = FrameIn structs top n f × Under structs n f g × Chain structs top n (g ∷ rest)

-- before all parts that are not filled
abbrev pub Below : List StructDefTree → ℕ → ℕ → List Frame → Type 0
Below structs n x [] = Unit {0}
Below structs n x (f ∷ rest) = ((k : ℕ) → f.next ≤ k → k < room n f → x ≤ (part structs f k).offset) × Below structs n x rest

-- all but the last have a count
abbrev pub OpenLast : List Frame → Type 0
OpenLast [] = Unit {0}
OpenLast (f ∷ []) = Unit {0}
OpenLast (f ∷ g ∷ rest) = (is_some f.count ≡ true) × OpenLast (g ∷ rest)

-- parts lie in this range
abbrev pub InRange : List StructDefTree → ℕ → ℕ → ℕ → List Frame → Type 0
InRange structs n low high [] = Unit {0}
InRange structs n low high (f ∷ rest) =
    ((k : ℕ) → k < room n f → (low ≤ (part structs f k).offset) × (end_of structs (part structs f k) ≤ high)) × InRange structs n low high rest

abbrev pub frames : Aggregates → List Frame
frames a = a.inner ∷ a.outer

-- what holds of each, by two things that do
All-zip : {A : Type 0} (P Q R : A → Type 0) → ((x : A) → P x → Q x → R x) → (xs : List A) → All P xs → All Q xs → All R xs
All-zip P Q R f xs p q = λ k d h. f _ (p k d h) (q k d h)

-- ---- the frame at hand

pub head_frame : (structs : List StructDefTree) (top : CTypeTree) (n : ℕ) (f : Frame) (rest : List Frame) → Chain structs top n (f ∷ rest) → FrameIn structs top n f
head_frame structs top n f [] c = c
head_frame structs top n f (g ∷ rest) c = c.0

-- what holds of aggregates under way, and of those round the innermost, holds of those that are not full
unfinished_has : (P : List Frame → Type 0) → ((f g : Frame) (rest : List Frame) → P (f ∷ g ∷ rest) → P (g ∷ rest)) → (f : Frame) (rest : List Frame) → P (f ∷ rest) → P (unfinished f rest)
unfolding unfinished
unfinished_has P tail f [] p = p
unfinished_has P tail f (g ∷ rest) p = by (is_full f) (unfinished_has P tail g rest (tail f g rest p))
  where
    by : (b : Bool) → P (unfinished g rest) → P (if b then unfinished g rest else f ∷ g ∷ rest)
    by true q = q
    by false q = p

-- those of the current aggregates
current_frames : (fallback f : Frame) (rest : List Frame) → frames (aggregates_from fallback (unfinished f rest)) ≡ unfinished f rest
unfolding unfinished
current_frames fallback f [] = refl
current_frames fallback f (g ∷ rest) = by (is_full f) (current_frames fallback g rest)
  where
    by : (b : Bool) → frames (aggregates_from fallback (unfinished g rest)) ≡ unfinished g rest
        → frames (aggregates_from fallback (if b then unfinished g rest else f ∷ g ∷ rest)) ≡ (if b then unfinished g rest else f ∷ g ∷ rest)
    by true q = q
    by false q = refl

pub current_has : (P : List Frame → Type 0) → ((f g : Frame) (rest : List Frame) → P (f ∷ g ∷ rest) → P (g ∷ rest)) → (a : Aggregates) → P (frames a) → P (frames (current a))
current_has P tail a p = subst P (sym (current_frames a.inner a.inner a.outer)) (unfinished_has P tail a.inner a.outer p)

current_own : (fallback f : Frame) (rest : List Frame) → own_frame (aggregates_from fallback (unfinished f rest)) ≡ outermost f rest
unfolding unfinished
current_own fallback f [] = refl
current_own fallback f (g ∷ rest) = by (is_full f) (current_own fallback g rest)
  where
    by : (b : Bool) → own_frame (aggregates_from fallback (unfinished g rest)) ≡ outermost g rest
        → own_frame (aggregates_from fallback (if b then unfinished g rest else f ∷ g ∷ rest)) ≡ outermost g rest
    by true q = q
    by false q = refl

pub own_current : (a : Aggregates) → own_frame (current a) ≡ own_frame a
own_current a = current_own a.inner a.inner a.outer

-- ---- how far an aggregate has come

pub own_next : Aggregates → ℕ
own_next a = (own_frame a).next

pub same_next : (a b : Aggregates) → own_frame a ≡ own_frame b → own_next a ≡ own_next b
unfolding own_next
same_next a b e = ap (λ f. f.next) e

pub own_is : (a : Aggregates) → own_next a ≤ (own_frame a).next
unfolding own_next
own_is a = omega arith

pub braces_next : (f : Frame) → own_next (in_braces f) ≡ f.next
unfolding own_next
braces_next f = refl

-- the outermost frame behind one that goes on
outer_next : (f : Frame) (rest : List Frame) → (outermost f rest).next ≤ (outermost (filled f) rest).next
outer_next f [] = omega arith
outer_next f (g ∷ rest) = omega arith

pub after_next : (a : Aggregates) → own_next a ≤ own_next (after_part a)
unfolding own_next
after_next a = subst (λ k. k ≤ own_next (after_part a)) (ap (λ f. f.next) (own_current a)) (outer_next (current a).inner (current a).outer)

not_full : (c k : ℕ) → nat_le c k ≡ false → k < c
not_full c k e = leb-false c k e

-- a frame that is not full has room for its next part
next_within : (n : ℕ) (f : Frame) (rest : List Frame) (count : Option ℕ) → f.count ≡ count → OpenLast (f ∷ rest) → is_full f ≡ false → (outermost (filled f) rest).next ≤ n → f.next < room n f
next_within n f rest (Some c) e o h l =
    subst (λ k. f.next < unwrap_or k n) (sym e) (not_full c f.next (subst (λ k. unwrap_or (option_map (λ m. nat_le m f.next) k) false ≡ false) e h))
next_within n f [] None e o h l = subst (λ k. f.next < unwrap_or k n) (sym e) (omega arith)
next_within n f (g ∷ rest) None e o h l = absurd (false≢true (subst (λ k. is_some k ≡ true) e o.0))

pub next_room : (n : ℕ) (a : Aggregates) → OpenLast (frames a) → is_full (current a).inner ≡ false → own_next (after_part a) ≤ n → (current a).inner.next < room n (current a).inner
unfolding own_next
next_room n a o h l = next_within n (current a).inner (current a).outer (current a).inner.count refl (current_has OpenLast (λ f g rest c. c.1) a o) h l

-- ---- what is behind a part

behind : (structs : List StructDefTree) (top : CTypeTree) (n : ℕ) (f : Frame) (rest : List Frame) → Chain structs top n (f ∷ rest) → (j x : ℕ) → j < room n f → x ≤ end_of structs (part structs f j) → Below structs n x rest
behind structs top n f [] c j x h l = tt
behind structs top n f (g ∷ rest) c j x h l =
    let u = c.1 in
    let x_ends = u.ends j h in
    let next = u.next in (
      (λ k a b. let o = (head_frame structs top n g rest c.2).ordered u.place k (omega arith) b in omega arith),
      behind structs top n g rest c.2 u.place x u.within (omega arith),
    )

-- behind a part of the frame, in it and round it
pub behind_all : (structs : List StructDefTree) (top : CTypeTree) (n : ℕ) (f : Frame) (rest : List Frame) → Chain structs top n (f ∷ rest) → (j x : ℕ) → f.next ≡ suc j → j < room n f
    → x ≤ end_of structs (part structs f j) → Below structs n x (f ∷ rest)
behind_all structs top n f rest c j x e h l =
    ((λ k a b. let o = (head_frame structs top n f rest c).ordered j k (omega arith) b in omega arith), behind structs top n f rest c j x h l)

-- the innermost frame goes on
chain_filled : (structs : List StructDefTree) (top : CTypeTree) (n : ℕ) (f : Frame) (rest : List Frame) → Chain structs top n (f ∷ rest) → Chain structs top n (filled f ∷ rest)
chain_filled structs top n f [] c = record { parts = c.parts; ordered = c.ordered }
chain_filled structs top n f (g ∷ rest) c = (
  record { parts = c.0.parts; ordered = c.0.ordered },
  record { place = c.1.place; next = c.1.next; within = c.1.within; ends = c.1.ends },
  c.2,
)

open_filled : (f : Frame) (rest : List Frame) → OpenLast (f ∷ rest) → OpenLast (filled f ∷ rest)
open_filled f [] o = o
open_filled f (g ∷ rest) o = o

-- ---- parts that are ready

pub record Ready (structs : List StructDefTree) (top : CTypeTree) (n low high : ℕ) (xs : List ℕ) (p : Part) (a : Aggregates) : Type 0 where
  pub is : IsPart structs top p
  pub before : All (λ x. x ≤ p.offset) xs
  pub lows : low ≤ p.offset
  pub highs : end_of structs p ≤ high
  pub chain : Chain structs top n (frames a)
  pub below : All (λ x. Below structs n x (frames a)) xs
  pub range : InRange structs n low high (frames a)
  pub counts : OpenLast (frames a)
  pub place : ℕ
  pub next : a.inner.next ≡ suc place
  pub inner : place < room n a.inner
  pub ends : end_of structs p ≤ end_of structs (part structs a.inner place)

-- aggregates under way, behind what ends at these bytes
pub record Going (structs : List StructDefTree) (top : CTypeTree) (n low high : ℕ) (xs : List ℕ) (a : Aggregates) : Type 0 where
  pub chain : Chain structs top n (frames a)
  pub below : All (λ x. Below structs n x (frames a)) xs
  pub range : InRange structs n low high (frames a)
  pub counts : OpenLast (frames a)

pub next_ready :
    {structs : List StructDefTree} {top : CTypeTree} {n low high : ℕ} {xs : List ℕ} (a : Aggregates) → Going structs top n low high xs a → is_full (current a).inner ≡ false
    → own_next (after_part a) ≤ n → Ready structs top n low high xs (part_of structs (current a).inner) (after_part a)
next_ready {structs} {top} {n} {low} {high} {xs} a g h l =
    let f = (current a).inner in
    let rest = (current a).outer in
    let chain = current_has (Chain structs top n) (λ x y ys c. c.2) a g.chain in
    let room = next_room n a g.counts h l in
    let range = current_has (InRange structs n low high) (λ x y ys c. c.1) a g.range in
    let below = All-weaker (λ x. Below structs n x (frames a)) (λ x. Below structs n x (frames (current a))) (λ x b. current_has (Below structs n x) (λ y z ys c. c.1) a b) xs g.below in record {
      is = (head_frame structs top n f rest chain).parts f.next room;
      before = All-weaker (λ x. Below structs n x (frames (current a))) (λ x. x ≤ (part structs f f.next).offset) (λ x b. b.0 f.next (omega arith) room) xs below;
      lows = (range.0 f.next room).0;
      highs = (range.0 f.next room).1;
      chain = chain_filled structs top n f rest chain;
      below = All-weaker (λ x. Below structs n x (frames (current a))) (λ x. Below structs n x (frames (after_part a))) (λ x b. ((λ k i j. b.0 k (omega arith) j), b.1)) xs below;
      range = range;
      counts = open_filled f rest (current_has OpenLast (λ x y ys c. c.1) a g.counts);
      place = f.next;
      next = omega arith;
      inner = room;
      ends = omega arith;
    }

-- the first part of a part
pub inside_ready :
    {structs : List StructDefTree} {top : CTypeTree} {n low high : ℕ} {xs : List ℕ} (p : Part) (a : Aggregates) → IsTypedTable structs → Ready structs top n low high xs p a
    → 0 < room n (frame_of structs p) → is_some (frame_of structs p).count ≡ true → Ready structs top n low high xs (part_of structs (frame_of structs p)) (begun structs p a)
inside_ready {structs} {top} {n} {low} {high} {xs} p a table r h counted =
    let f = frame_of structs p in
    let in_top = frame_in structs top n p table r.is in
    let inside = λ (k : ℕ) (i : k < room n f). inside_part structs n p.ty p.offset r.is.size table r.is.proper r.is.sized k i in
    let size = ap (λ o. unwrap_or o 0) r.is.sized in
    let first = inside 0 h in record {
      is = in_top.parts 0 h;
      before = All-weaker (λ x. x ≤ p.offset) (λ x. x ≤ (part structs f 0).offset) (λ x b. let i = first.0 in omega arith) xs r.before;
      lows = (let i = first.0 in let l = r.lows in omega arith);
      highs = (let i = first.1 in let l = r.highs in omega (arith, size));
      chain = (
        record { parts = in_top.parts; ordered = in_top.ordered },
        record { place = r.place; next = r.next; within = r.inner; ends = λ k i. let b = (inside k i).1 in let e = r.ends in omega (arith, size) },
        r.chain,
      );
      below = All-zip (λ x. x ≤ p.offset) (λ x. Below structs n x (frames a)) (λ x. Below structs n x (frames (begun structs p a)))
          (λ x b c. ((λ k i j. let l = (inside k j).0 in omega arith), c)) xs r.before r.below;
      range = ((λ k i. let b = inside k i in let l = r.lows in let m = r.highs in (omega arith, omega (arith, size))), r.range);
      counts = (counted, r.counts);
      place = 0;
      next = omega arith;
      inner = h;
      ends = omega arith;
    }

-- behind what fills a part
pub filled_going :
    {structs : List StructDefTree} {top : CTypeTree} {n low high : ℕ} {xs : List ℕ} (ys : List ℕ) (p : Part) (a : Aggregates) → Ready structs top n low high xs p a → All (λ y. y ≤ end_of structs p) ys
    → Going structs top n low high (xs ++ ys) a
filled_going {structs} {top} {n} {low} {high} {xs} ys p a r all = record {
  chain = r.chain;
  below = All-append (λ x. Below structs n x (frames a)) xs ys r.below
      (All-weaker (λ y. y ≤ end_of structs p) (λ y. Below structs n y (frames a)) (λ y l. let e = r.ends in behind_all structs top n a.inner a.outer r.chain r.place y r.next r.inner (omega arith)) ys all);
  range = r.range;
  counts = r.counts;
}
