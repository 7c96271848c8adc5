-- Aggregates under way have the same parts in a later program.
use Rattle.std.proofs.Common.{◌≡◌, ℕ, suc, ◌+◌, ◌*◌, ◌<◌, true, false, List, [], ◌∷◌, length, refl, ap, sym, subst, ◌∙◌, arith}
use Rattle.std.specs.Prelude.{Bool, nat_le, IsTrue, IsFalse, Option, Some, option_map, unwrap_or, slice_get}
use Rattle.std.proofs.lemmas.Bool.{false≢true, leb-false}
use Rattle.c_syntax.specs.Types.{CTypeTree, Void, Int, Pointer, Array, Struct, Function}
use Rattle.c_syntax.specs.Program.{MemberTree, StructDefTree}
use Rattle.c_layout.specs.Layout.{members_of, size_in}
use Rattle.c_layout.specs.Tables.{IsTypedTable}
use Rattle.c_layout.specs.ProperTypes.{IsTold}
use Rattle.c_typing.specs.Later.{IsLater, is_complete, has_members}
use Rattle.c_typing.specs.CurrentObject.{Part, Frame, Aggregates, frame_of, count_in, is_full, part_of, part_at, member_part, filled, current, after_part, begun, Fills, is_aggregate, whole, inside, own_frame}
use Rattle.std.proofs.lemmas.Option.{same_Some}
use Rattle.c_typing.proofs.Later.{later_size, members_later}
use Rattle.c_typing.proofs.MadeMembers.{size_held}
use Rattle.c_typing_laws.proofs.Frames.{room, IsPart, array_size, get_some, some_size, member_of}
use Rattle.c_typing_laws.proofs.Chains.{frames, Ready, inside_ready, current_has}

abbrev pub Sized : List StructDefTree → CTypeTree → Type 0
Sized structs ty = (s : ℕ) × (size_in structs ty ≡ Some s)

-- a type whose parts stay as they are, of which there are as many as these
abbrev pub IsSteady : List StructDefTree → CTypeTree → Option ℕ → Type 0
IsSteady structs (Array of c n) count = Sized structs of
IsSteady structs (Struct n) count = Sized structs (Struct n) × (count ≡ Some (length (members_of structs n)))
IsSteady structs ty count = Sized structs ty

abbrev pub AreSteady : List StructDefTree → List Frame → Type 0
AreSteady structs [] = Unit {0}
AreSteady structs (f ∷ rest) = IsSteady structs f.ty f.count × AreSteady structs rest

complete_of : (structs : List StructDefTree) (n s : ℕ) → size_in structs (Struct n) ≡ Some s → IsTrue (is_complete structs n)
complete_of structs n s e = size_held structs (Struct n) s e

pub sized_later : (a b : List StructDefTree) → IsLater a b → (ty : CTypeTree) → Sized a ty → Sized b ty
sized_later a b later ty h = (h.0, later_size a b later ty h.0 h.1)

steady_later : (a b : List StructDefTree) → IsLater a b → (ty : CTypeTree) (count : Option ℕ) → IsSteady a ty count → IsSteady b ty count
steady_later a b later Void count h = sized_later a b later Void h
steady_later a b later (Int t) count h = sized_later a b later (Int t) h
steady_later a b later (Pointer to c) count h = sized_later a b later (Pointer to c) h
steady_later a b later (Array of c n) count h = sized_later a b later of h
steady_later a b later (Struct n) count h =
    (sized_later a b later (Struct n) h.0, h.1 ∙ ap (λ members. Some (length members)) (sym (members_later a b later n (complete_of a n h.0.0 h.0.1))))
steady_later a b later (Function n) count h = sized_later a b later (Function n) h

pub all_later : (a b : List StructDefTree) → IsLater a b → (fs : List Frame) → AreSteady a fs → AreSteady b fs
all_later a b later [] h = tt
all_later a b later (f ∷ rest) h = (steady_later a b later f.ty f.count h.0, all_later a b later rest h.1)

-- ---- the same parts

pub part_same : (a b : List StructDefTree) → IsLater a b → (ty : CTypeTree) (count : Option ℕ) (off k : ℕ) → IsSteady a ty count → part_at b ty off k ≡ part_at a ty off k
part_same a b later Void count off k h = refl
part_same a b later (Int t) count off k h = refl
part_same a b later (Pointer to c) count off k h = refl
part_same a b later (Array of c n) count off k h = ap (λ o. record { ty = of; offset = off + k * unwrap_or o 0 }) (later_size a b later of h.0 h.1 ∙ sym h.1)
part_same a b later (Struct n) count off k h = ap (λ members. member_part off (slice_get members k)) (members_later a b later n (complete_of a n h.0.0 h.0.1))
part_same a b later (Function n) count off k h = refl

count_same : (a b : List StructDefTree) → IsLater a b → (ty : CTypeTree) (s : ℕ) → size_in a ty ≡ Some s → count_in b ty ≡ count_in a ty
count_same a b later Void s e = refl
count_same a b later (Int t) s e = refl
count_same a b later (Pointer to c) s e = refl
count_same a b later (Array of c n) s e = refl
count_same a b later (Struct n) s e = ap length (members_later a b later n (complete_of a n s e))
count_same a b later (Function n) s e = refl

pub frame_same : (a b : List StructDefTree) → IsLater a b → (p : Part) → Sized a p.ty → frame_of b p ≡ frame_of a p
frame_same a b later p h = ap (λ n. record { ty = p.ty; offset = p.offset; count = Some n; next = 0 }) (count_same a b later p.ty h.0 h.1)

-- a complete type has parts that stay
steady_by : (structs : List StructDefTree) (ty : CTypeTree) (count : Option ℕ) → count ≡ Some (count_in structs ty) → Sized structs ty → IsSteady structs ty count
steady_by structs Void count e h = h
steady_by structs (Int t) count e h = h
steady_by structs (Pointer to c) count e h = h
steady_by structs (Array of c n) count e h = array_size n h.0 (size_in structs of) h.1
steady_by structs (Struct n) count e h = (h, e)
steady_by structs (Function n) count e h = h

pub frame_steady : (structs : List StructDefTree) (p : Part) → Sized structs p.ty → IsSteady structs (frame_of structs p).ty (frame_of structs p).count
frame_steady structs p h = steady_by structs p.ty (Some (count_in structs p.ty)) refl h

-- and parts that are complete
part_sized : (structs : List StructDefTree) → IsTypedTable structs → (ty : CTypeTree) (count : Option ℕ) (off k : ℕ) → IsSteady structs ty count → ((c : ℕ) → count ≡ Some c → k < c) → Sized structs (part_at structs ty off k).ty
part_sized structs table Void count off k h l = h
part_sized structs table (Int t) count off k h l = h
part_sized structs table (Pointer to c) count off k h l = h
part_sized structs table (Array of c n) count off k h l = h
part_sized structs table (Struct n) count off k h l =
    let found = get_some (members_of structs n) k (l (length (members_of structs n)) h.1) in
    let typed = member_of structs n k found.0 table found.1 in
    subst (λ o. Sized structs (member_part off o).ty) (sym found.1) (some_size (size_in structs found.0.ty) (λ s. (0 < s) × IsTold s) typed.size)
part_sized structs table (Function n) count off k h l = h

next_counts : (f : Frame) → is_full f ≡ false → (c : ℕ) → f.count ≡ Some c → f.next < c
next_counts f e c q = leb-false c f.next (subst (λ k. unwrap_or (option_map (λ m. nat_le m f.next) k) false ≡ false) q e)

-- the next part, in a program and a later one
pub record NextIs (a b : List StructDefTree) (x : Aggregates) : Type 0 where
  pub same : part_of b (current x).inner ≡ part_of a (current x).inner
  pub sized : Sized a (part_of a (current x).inner).ty
  pub steady : AreSteady a (frames (after_part x))

pub next_is : (a b : List StructDefTree) → IsTypedTable a → IsLater a b → (x : Aggregates) → AreSteady a (frames x) → is_full (current x).inner ≡ false → NextIs a b x
next_is a b table later x s e =
    let f = (current x).inner in
    let all = current_has (AreSteady a) (λ y z ys c. c.1) x s in record {
      same = part_same a b later f.ty f.count f.offset f.next all.0;
      sized = part_sized a table f.ty f.count f.offset f.next all.0 (next_counts f e);
      steady = all;
    }

pub next_sized : (a : List StructDefTree) → IsTypedTable a → (x : Aggregates) → AreSteady a (frames x) → is_full (current x).inner ≡ false
    → Sized a (part_of a (current x).inner).ty × AreSteady a (frames (after_part x))
next_sized a table x s e =
    let f = (current x).inner in
    let all = current_has (AreSteady a) (λ y z ys c. c.1) x s in (part_sized a table f.ty f.count f.offset f.next all.0 (next_counts f e), all)

-- ---- what a part has first

room_some : (structs : List StructDefTree) (top : CTypeTree) (n : ℕ) (ty : CTypeTree) (off : ℕ) → IsPart structs top (record { ty = ty; offset = off }) → is_aggregate ty ≡ true → 0 < room n (frame_of structs (record { ty = ty; offset = off }))
room_some structs top n Void off is e = absurd (false≢true e)
room_some structs top n (Int t) off is e = absurd (false≢true e)
room_some structs top n (Pointer to c) off is e = absurd (false≢true e)
room_some structs top n (Array of c m) off is e = is.proper.1
room_some structs top n (Struct m) off is e = by (members_of structs m) (size_held structs (Struct m) is.size is.sized)
  where
    by : (members : List MemberTree) → IsTrue (has_members members) → 0 < length members
    by [] h = absurd (false≢true h)
    by (x ∷ rest) h = omega arith
room_some structs top n (Function m) off is e = absurd (false≢true e)

-- a part that an item takes, where it is asked
pub record Reached (a : List StructDefTree) (p : Part) (x : Aggregates) (own : Frame) : Type 0 where
  pub sized : Sized a p.ty
  pub steady : AreSteady a (frames x)
  pub same : own_frame x ≡ own

first_sized : (structs : List StructDefTree) → IsTypedTable structs → (ty : CTypeTree) (off : ℕ) → Sized structs ty → is_aggregate ty ≡ true → Sized structs (part_at structs ty off 0).ty
first_sized structs table Void off h e = absurd (false≢true e)
first_sized structs table (Int t) off h e = absurd (false≢true e)
first_sized structs table (Pointer to c) off h e = absurd (false≢true e)
first_sized structs table (Array of c n) off h e = array_size n h.0 (size_in structs of) h.1
first_sized structs table (Struct n) off h e =
    part_sized structs table (Struct n) (Some (length (members_of structs n))) off 0 (h, refl) (λ c q. by (members_of structs n) c (size_held structs (Struct n) h.0 h.1) q)
  where
    by : (members : List MemberTree) (c : ℕ) → IsTrue (has_members members) → Some (length members) ≡ Some c → 0 < c
    by [] c i q = absurd (false≢true i)
    by (x ∷ rest) c i q = subst (λ k. 0 < k) (same_Some (suc (length rest)) c q) (omega arith)
first_sized structs table (Function n) off h e = absurd (false≢true e)

pub fills_reached :
    {a : List StructDefTree} {takes : CTypeTree → Bool} {p p2 : Part} {x x2 : Aggregates} → IsTypedTable a → ((ty : CTypeTree) → IsFalse (takes ty) → is_aggregate ty ≡ true)
    → Fills a takes p x p2 x2 → Sized a p.ty → AreSteady a (frames x) → Reached a p2 x2 (own_frame x)
fills_reached table agg (whole p x t) sized steady = record { sized = sized; steady = steady; same = refl }
fills_reached {a = a} table agg (inside p p2 x x2 t f) sized steady =
    let rest = fills_reached table agg f (first_sized a table p.ty p.offset sized (agg p.ty t)) (frame_steady a p sized, steady) in
    record { sized = rest.sized; steady = rest.steady; same = rest.same }

pub fills_ready :
    {a b : List StructDefTree} {takes : CTypeTree → Bool} {p p2 : Part} {x x2 : Aggregates} {top : CTypeTree} {n low high : ℕ} {xs : List ℕ} → IsTypedTable a → IsTypedTable b → IsLater a b
    → ((ty : CTypeTree) → IsFalse (takes ty) → is_aggregate ty ≡ true) → Fills a takes p x p2 x2 → Sized a p.ty → Ready b top n low high xs p x → Ready b top n low high xs p2 x2
fills_ready table table2 later agg (whole p x t) sized r = r
fills_ready {a = a} {b = b} {top = top} {n = n} {low = low} {high = high} {xs = xs} table table2 later agg (inside p p2 x x2 t f) sized r =
    let e = frame_same a b later p sized in
    let first : part_of b (frame_of b p) ≡ part_of a (frame_of a p) =
    ap (λ y. part_of b y) e ∙ part_same a b later p.ty (Some (count_in a p.ty)) p.offset 0 (frame_steady a p sized) in
    let begin : begun b p x ≡ begun a p x = ap (λ y. record { inner = filled y; outer = x.inner ∷ x.outer }) e in
    let inner = inside_ready p x table2 r (room_some b top n p.ty p.offset r.is (agg p.ty t)) refl in
    fills_ready table table2 later agg f (first_sized a table p.ty p.offset sized (agg p.ty t))
    (subst (λ y. Ready b top n low high xs (part_of a (frame_of a p)) y) begin (subst (λ q. Ready b top n low high xs q (begun b p x)) first inner))
