-- What each statement leaves of the states of a set.
use Rattle.std.proofs.Common.{◌≡◌, ◌≢◌, ℕ, ℤ, suc, zero, ◌≤◌, arith, refl, sym, subst, ap, ◌∙◌, ⊎_elim, Bool, true, false, List, [], ◌∷◌, length, length-set, Option, Some, None}
use Rattle.std.specs.Prelude.{option_and_then, if◌then◌else◌, map, replicate, slice_get, slice_set, pos}
use Rattle.std.proofs.lemmas.Int.{ints as int_facts}
use Rattle.std.proofs.lemmas.Bool.{cases_eq, cases_lt}
use Rattle.std.proofs.lemmas.List.{get_or_past, get_or-replicate, length-map}
use Rattle.std.proofs.lemmas.Option.{slice_get-map, slice_get_within}
use Rattle.c_syntax.specs.declared.alarm.WrongKind.{WrongKind}
use Rattle.c_syntax.specs.declared.program.Initial.{Initial}
use Rattle.c_syntax.specs.Types.{ObjectTree}
use Rattle.block_mem.specs.declared.types.Scalar.{Scalar}
use Rattle.block_mem.specs.declared.types.Scalar.TheVariants as scalars
use Rattle.block_mem.specs.declared.types.Value.{Value}
use Rattle.block_mem.specs.declared.types.Value.TheVariants as values
use Rattle.c_values.specs.Places.{ObjectMemory, place_of}
use Rattle.c_objects.specs.Opening.{no_objects, opened, open_all, shut, shut_all, undefined}
use Rattle.c_objects.specs.Writing.{unless_wrong, stored_at, copied_at}
use Rattle.c_objects.specs.Statics.{open_statics, opened_statics, initial_at, with_initial, with_initials, start}
use Rattle.num_api.specs.declared.message.Range.{Range}
use Rattle.num_api.specs.Ranges.{InRange, all_numbers}
use Rattle.num_api.specs.Spans.{point, range_of}
use Rattle.csharp.specs.Trees.{CsExprTree, CsProgramTree}
use Rattle.csharp.specs.States.{State, first, first_value, value_of, on_both}
use Rattle.csharp.specs.Actions as acts
use Rattle.csharp.specs.Actions.{put, loaded_at}
use Rattle.mem_api.specs.Owned.{IsOwned}
use Rattle.mem_api.proofs.Owning.{owned_stored, owned_copied, owned_undefined, owned_start}
use Rattle.mem_temps.specs.Values.{number_of, HasKind}
use Rattle.mem_temps.specs.Ranges.{range_at}
use Rattle.mem_temps.specs.Sets.{Stands}
use Rattle.mem_temps.proofs.Lists.{set_here, set_elsewhere}
use Rattle.mem_temps.proofs.Ranged.{and_then_some, map_some}

-- ---- temporaries

pub found_here : {X : Type 0} (xs : List X) (d : ℕ) (v u : X) → slice_get (slice_set xs d v) d ≡ Some u → u ≡ v
found_here [] d v u e = absurd (cc)
found_here (x ∷ xs) zero v u e = cc
found_here (x ∷ xs) (suc d) v u e = found_here xs d v u e

pub found_apart : {X : Type 0} (xs : List X) (d k : ℕ) (v u : X) → k ≢ d → slice_get (slice_set xs d v) k ≡ Some u → slice_get xs k ≡ Some u
found_apart [] d k v u ne e = e
found_apart (x ∷ xs) zero zero v u ne e = absurd (ne refl)
found_apart (x ∷ xs) zero (suc k) v u ne e = e
found_apart (x ∷ xs) (suc d) zero v u ne e = e
found_apart (x ∷ xs) (suc d) (suc k) v u ne e = found_apart xs d k v u (λ same. ne (ap suc same)) e

pub in_all : (n : ℤ) → InRange all_numbers n
in_all n = record { low = tt; high = tt }

-- a range that is put, or that of all numbers where there is no temporary
range_here : (rs : List Range) (d : ℕ) (r : Range) (n : ℤ) → InRange r n → InRange (range_at (slice_set rs d r) d) n
range_here rs d r n i = ⊎_elim
    (λ below. subst (λ (x : Range). InRange x n) (sym (set_here rs d r below)) i)
    (λ past. subst (λ (x : Range). InRange x n) (sym (get_or_past (slice_set rs d r) d all_numbers (subst (λ (l : ℕ). l ≤ d) (sym (length-set rs d r)) past))) (in_all n))
    (cases_lt d (length rs))

pub put_stands : (objects : ℕ) (types : List Scalar) (rs : List Range) (s : State) (d : ℕ) (ty : Scalar) (v : Value) (r : Range) → Stands objects types rs s
    → slice_get types d ≡ Some ty → HasKind ty v → InRange r (number_of v) → Stands objects types (slice_set rs d r) (put s d v)
put_stands objects types rs s d ty v r h here kind i = record {
  owned = h.owned;
  places = h.places;
  size = length-set s.temps d v ∙ h.size;
  kinds = λ k t u g f. ⊎_elim (λ same. at_d k t u g f same) (λ ne. h.kinds k t u g (found_apart s.temps d k v u ne f)) (cases_eq k d);
  temps = λ k u f. ⊎_elim (λ same. in_d k u f same)
      (λ ne. subst (λ (x : Range). InRange x (number_of u)) (sym (set_elsewhere rs d k r ne)) (h.temps k u (found_apart s.temps d k v u ne f))) (cases_eq k d);
}
  where
    at_d : (k : ℕ) (t : Scalar) (u : Value) → slice_get types k ≡ Some t → slice_get (slice_set s.temps d v) k ≡ Some u → k ≡ d → HasKind t u
    at_d k t u g f same =
        let is = found_here s.temps d v u (subst (λ (x : ℕ). slice_get (slice_set s.temps d v) x ≡ Some u) same f) in
        let own : slice_get types d ≡ Some t = subst (λ (x : ℕ). slice_get types x ≡ Some t) same g in
        let one : t ≡ ty = cc in
        subst (λ (x : Scalar). HasKind x u) (sym one) (subst (HasKind ty) (sym is) kind)

    in_d : (k : ℕ) (u : Value) → slice_get (slice_set s.temps d v) k ≡ Some u → k ≡ d → InRange (range_at (slice_set rs d r) k) (number_of u)
    in_d k u f same =
        let is = found_here s.temps d v u (subst (λ (x : ℕ). slice_get (slice_set s.temps d v) x ≡ Some u) same f) in
        subst (λ (x : ℕ). InRange (range_at (slice_set rs d r) x) (number_of u)) (sym same)
        (subst (λ (w : Value). InRange (range_at (slice_set rs d r) d) (number_of w)) (sym is) (range_here rs d r (number_of v) i))

-- other inputs, and other memory of the same objects
pub rest_stands : (objects : ℕ) (types : List Scalar) (rs : List Range) (s : State) (inputs : List ℤ) → Stands objects types rs s
    → Stands objects types rs (record s { inputs = inputs })
rest_stands objects types rs s inputs h = record { owned = h.owned; places = h.places; size = h.size; kinds = h.kinds; temps = h.temps }

pub memory_stands : (objects : ℕ) (types : List Scalar) (rs : List Range) (s : State) (m : ObjectMemory) → Stands objects types rs s → IsOwned objects m
    → length m.places ≡ length s.memory.places → Stands objects types rs (record s { memory = m })
memory_stands objects types rs s m h owned same = record {
  owned = owned;
  places = subst (λ (n : ℕ). n ≤ objects) (sym same) h.places;
  size = h.size;
  kinds = h.kinds;
  temps = h.temps;
}

-- ---- memory: which objects may live stays

given_places : (wrong : Option WrongKind) (m n : ObjectMemory) → unless_wrong wrong (Some m) ≡ Some n → m ≡ n
given_places None m n h = cc
given_places (Some k) m n h = absurd (cc)

if_both : (wrong : Option WrongKind) (given : Option ObjectMemory) (n : ObjectMemory) → unless_wrong wrong given ≡ Some n → given ≡ Some n
if_both None given n h = h
if_both (Some k) given n h = absurd (cc)

pub places_stored : (m : ObjectMemory) (ty : Scalar) (to v : Value) (n : ObjectMemory) → stored_at m ty to v ≡ Some n → length n.places ≡ length m.places
places_stored m ty (values.Ptr at) v n h = ap (λ (x : ObjectMemory). length x.places) (sym (given_places _ _ n h))
places_stored m ty (values.Int t i) v n h = absurd (cc)
places_stored m ty values.Null v n h = absurd (cc)

pub places_copied : (m : ObjectMemory) (to from : Value) (size : ℕ) (n : ObjectMemory) → copied_at m to from size ≡ Some n → length n.places ≡ length m.places
places_copied m (values.Ptr to) (values.Ptr from) size n h = ap (λ (x : ObjectMemory). length x.places) (sym (given_places _ _ n (if_both _ _ n h)))
places_copied m (values.Ptr to) (values.Int t i) size n h = absurd (cc)
places_copied m (values.Ptr to) values.Null size n h = absurd (cc)
places_copied m (values.Int t i) from size n h = absurd (cc)
places_copied m values.Null from size n h = absurd (cc)

pub places_undefined : (m : ObjectMemory) (x : ℕ) (n : ObjectMemory) → undefined m x ≡ Some n → length n.places ≡ length m.places
places_undefined m x n h = let b = map_some _ (place_of m x) n h in ap (λ (y : ObjectMemory). length y.places) (sym b.2)

pub places_opened : (objects : List ObjectTree) (m : ObjectMemory) (xs : List ℕ) → length (open_all objects m xs).places ≡ length m.places
places_opened objects m [] = refl
places_opened objects m (x ∷ xs) = places_opened objects (opened objects m x) xs ∙ length-set _ _ _

pub places_shut : (m : ObjectMemory) (xs : List ℕ) → length (shut_all m xs).places ≡ length m.places
places_shut m [] = refl
places_shut m (x ∷ xs) = places_shut (shut m x) xs ∙ length-set _ _ _

-- ---- statements

module _ (objects : ℕ) (types : List Scalar) (rs : List Range) (s t : State) (h : Stands objects types rs s) where
  pub store_stands : (ty : Scalar) (e f : CsExprTree) → acts.store ty e f s ≡ Some t → Stands objects types rs t
  store_stands ty e f g =
      let m = map_some (λ memory. record s { memory = memory }) (on_both e f s (stored_at s.memory ty)) t g in
      let v = and_then_some (λ v. option_and_then (stored_at s.memory ty v) (value_of f s)) (value_of e s) m.0 m.1 in
      let u = and_then_some (stored_at s.memory ty v.0) (value_of f s) m.0 v.2 in
      subst (Stands objects types rs) m.2
      (memory_stands objects types rs s m.0 h (owned_stored objects s.memory ty v.0 u.0 m.0 h.owned u.2) (places_stored s.memory ty v.0 u.0 m.0 u.2))

  pub copy_stands : (n : ℕ) (to from : CsExprTree) → acts.copy_bytes n to from s ≡ Some t → Stands objects types rs t
  copy_stands n to from g =
      let m = map_some (λ memory. record s { memory = memory }) (on_both to from s (λ v u. copied_at s.memory v u n)) t g in
      let v = and_then_some (λ v. option_and_then (λ u. copied_at s.memory v u n) (value_of from s)) (value_of to s) m.0 m.1 in
      let u = and_then_some (λ u. copied_at s.memory v.0 u n) (value_of from s) m.0 v.2 in
      subst (Stands objects types rs) m.2
      (memory_stands objects types rs s m.0 h (owned_copied objects s.memory v.0 u.0 n m.0 h.owned u.2) (places_copied s.memory v.0 u.0 n m.0 u.2))

  pub undefine_stands : (x : ℕ) → acts.undefine x s ≡ Some t → Stands objects types rs t
  undefine_stands x g =
      let m = map_some (λ memory. record s { memory = memory }) (undefined s.memory x) t g in
      subst (Stands objects types rs) m.2
      (memory_stands objects types rs s m.0 h (owned_undefined objects s.memory x m.0 h.owned m.1) (places_undefined s.memory x m.0 m.1))

-- ---- the start

places_if : (is_static : Bool) (objects : List ObjectTree) (m : ObjectMemory) (x : ℕ) → length (if is_static then opened objects m x else m).places ≡ length m.places
places_if true objects m x = length-set _ _ _
places_if false objects m x = refl

places_statics : (objects os : List ObjectTree) (x : ℕ) (m : ObjectMemory) → length (open_statics objects os x m).places ≡ length m.places
places_statics objects [] x m = refl
places_statics objects (o ∷ os) x m = places_statics objects os (suc x) (if o.is_static then opened objects m x else m) ∙ places_if o.is_static objects m x

places_initial : (m : ObjectMemory) (o : Option ℕ) (i : Initial) → length (initial_at m o i.bytes).places ≡ length m.places
places_initial m None i = refl
places_initial m (Some b) i = refl

places_initials : (m : ObjectMemory) (is : List Initial) → length (with_initials m is).places ≡ length m.places
places_initials m [] = refl
places_initials m (i ∷ is) = places_initials (with_initial m i) is ∙ places_initial m (place_of m i.object) i

pub places_start : (objects : List ObjectTree) (is : List Initial) → length (start objects is).places ≡ length objects
places_start objects is = places_initials (opened_statics objects) is ∙ places_statics objects objects 0 (no_objects (length objects)) ∙ replicated (length objects)
  where
    replicated : (n : ℕ) → length (replicate {A = Option ℕ} n None) ≡ n
    replicated zero = refl
    replicated (suc n) = ap suc (replicated n)

first_kind : (t ty : Scalar) (v : Value) → Some t ≡ Some ty → Some (first_value t) ≡ Some v → HasKind ty v
first_kind (scalars.Int t) ty v e f =
    let same : scalars.Int t ≡ ty = cc in let is : values.Int t (pos 0) ≡ v = cc in
    subst (λ (x : Scalar). HasKind x v) same (subst (HasKind (scalars.Int t)) is refl)
first_kind scalars.Pointer ty v e f =
    let same : scalars.Pointer ≡ ty = cc in let is : values.Null ≡ v = cc in subst (λ (x : Scalar). HasKind x v) same (subst (HasKind scalars.Pointer) is tt)

pub first_number : (t : Scalar) (v : Value) → Some (first_value t) ≡ Some v → number_of v ≡ pos 0
first_number (scalars.Int t) v f = let is : values.Int t (pos 0) ≡ v = cc in ap number_of (sym is)
first_number scalars.Pointer v f = let is : values.Null ≡ v = cc in ap number_of (sym is)

-- a temporary of the first state, with its type
pub first_at : (types : List Scalar) (d : ℕ) (v : Value) → slice_get (map first_value types) d ≡ Some v → (t : Scalar) × (slice_get types d ≡ Some t) × (Some (first_value t) ≡ Some v)
first_at types d v f = let t = map_some first_value (slice_get types d) v (sym (slice_get-map first_value types d) ∙ f) in (t.0, t.1, ap (λ (x : Value). Some x) t.2)

zero_in : (n : ℤ) → n ≡ pos 0 → InRange (range_of (point (pos 0))) n
zero_in n e = record { low = omega (arith, int_facts); high = omega (arith, int_facts) }

pub first_stands : (q : CsProgramTree) (inputs : List ℤ) → Stands (length q.objects) q.temps (replicate (length q.temps) (range_of (point (pos 0)))) (first q inputs)
first_stands q inputs = record {
  owned = owned_start q.objects q.initial;
  places = omega (arith, places_start q.objects q.initial);
  size = length-map q.temps first_value;
  kinds = λ d ty v g f. let t = first_at q.temps d v f in first_kind t.0 ty v (sym t.1 ∙ g) t.2;
  temps = λ d v f. let t = first_at q.temps d v f in
      subst (λ (r : Range). InRange r (number_of v))
      (sym (get_or-replicate (length q.temps) d (range_of (point (pos 0))) all_numbers (slice_get_within q.temps d t.0 t.1)))
      (zero_in (number_of v) (first_number t.0 v t.2));
}
