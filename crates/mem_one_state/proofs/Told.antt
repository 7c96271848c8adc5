-- What a load from the first byte of an object answers, and what the facts of numbers say.
use Rattle.std.proofs.Common.{◌≡◌, ℕ, ℤ, pos, ◌<◌, refl, sym, subst, ap, ◌∙◌, arith, List, ◌++◌, length, Option, Some, None}
use Rattle.std.specs.Prelude.{◌≤ℤ◌, Contains, slice_index_or, IfSome, IsSomeAnd, option_map, slice_get, Result, Ok, Err}
use Rattle.std.proofs.lemmas.Int.{ints as int_facts}
use Rattle.std.proofs.lemmas.Option.{slice_get_within}
use Rattle.c_syntax_written.specs.declared.int_type.IntType.{IntType}
use Rattle.c_syntax_written.specs.Integer.{bytes}
use Rattle.c_syntax.specs.declared.alarm.Fact.{Fact}
use Rattle.c_syntax.specs.declared.alarm.Fact.TheVariants as facts
use Rattle.c_syntax.specs.declared.alarm.Spot.{Spot}
use Rattle.c_syntax.specs.declared.alarm.WrongKind.{WrongKind}
use Rattle.c_syntax.specs.Types.{CTypeTree, ObjectTree}
use Rattle.c_syntax.specs.Types as types
use Rattle.c_layout.proofs.ScalarOwn.{own, is_own}
use Rattle.block_mem.specs.declared.types.Pointer.{Pointer}
use Rattle.block_mem.specs.declared.types.Scalar.TheVariants as scalars
use Rattle.block_mem.specs.declared.types.Value.{Value}
use Rattle.block_mem.specs.declared.types.Value.TheVariants as values
use Rattle.block_mem.specs.Blocks.{load}
use Rattle.block_mem.specs.Proper.{IsMade}
use Rattle.c_values.specs.declared.values.Wrong.{Wrong}
use Rattle.c_values.specs.Accesses.{load_at}
use Rattle.c_values.specs.Answers.{Answers}
use Rattle.c_values.specs.Memory.{load_outcome}
use Rattle.c_values.specs.Places.{ObjectMemory, place_of, spot_at}
use Rattle.c_values.proofs.Accesses.{loads}
use Rattle.c_objects.specs.Cells.{IsCellNumber, IsFoundAt}
use Rattle.c_objects.specs.Kept.{FitsAt}
use Rattle.c_objects.specs.Opening.{address}
use Rattle.c_objects.proofs.Reading.{number_at}
use Rattle.csharp.specs.Trees.{CsProgramTree}
use Rattle.csharp_state.specs.Belongs.{HasObjects}
use Rattle.csharp.specs.States.{State}
use Rattle.mem_api.specs.FactsOf.{Adds, HoldsIn, NamesFactObjects, TellsWhole, whole_cell}
use Rattle.mem_one_state.specs.One.{IsOf}
use Rattle.mem_one_state.specs.Telling.{HasWhole, IsToldOf, Loads, TellsNumber, TellsOne}

-- ---- answers of loads

answer_is : (r : Result Value Wrong) (s : Spot) (l : Result Value WrongKind) (v : Value) → Answers r (load_outcome s l)
    → (r ≡ Ok v → l ≡ Ok v) × (l ≡ Ok v → r ≡ Ok v)
answer_is (Ok u) s (Ok w) v h = (λ e. cc, λ e. cc)
answer_is (Ok u) s (Err k) v h = absurd (cc)
answer_is (Err e) s (Ok w) v h = absurd (cc)
answer_is (Err e) s (Err k) v h = (λ e. absurd (cc), λ e. absurd (cc))

-- a load of an object's first byte answers what memory loads there
load_by : (m : ObjectMemory) (x : ℕ) (t : IntType) (place : Value) (r : Result Value Wrong) (o : Option ℕ) → HasObjects m → place_of m x ≡ o
    → option_map (λ b. values.Ptr (record { block = b; offset = pos 0 })) o ≡ Some place → IsMade (length m.blocks) place
    → ((objects : List ObjectTree) → FitsAt objects m place → Answers r (load_at objects m (Some (scalars.Int t)) place)) → (n : ℤ)
    → (r ≡ Ok (values.Int t n) → Loads m x t n) × (Loads m x t n → r ≡ Ok (values.Int t n))
load_by m x t place r None h e a made answers n = absurd (cc)
load_by m x t place r (Some b) h e a made answers n =
    let at : Pointer = record { block = b; offset = pos 0 } in
    let there : values.Ptr at ≡ place = cc in
    let below : b < length m.blocks = subst (IsMade (length m.blocks)) (sym there) made in
    let fits = h.1.fits b below in
    let answer : Answers r (load_at h.0 m (Some (scalars.Int t)) (values.Ptr at)) =
    subst (λ p. FitsAt h.0 m p → Answers r (load_at h.0 m (Some (scalars.Int t)) p)) (sym there) (answers h.0) fits in
    let is = answer_is r (spot_at m at) (load m.blocks at (scalars.Int t)) (values.Int t n) (subst (Answers r) (loads h.0 m at (scalars.Int t) fits) answer) in (
      λ g. subst (λ p. IsSomeAnd p (λ c. load m.blocks (record { block = c; offset = pos 0 }) (scalars.Int t) ≡ Ok (values.Int t n))) (sym e) (is.0 g),
      λ g. is.1 (subst (λ p. IsSomeAnd p (λ c. load m.blocks (record { block = c; offset = pos 0 }) (scalars.Int t) ≡ Ok (values.Int t n))) e g),
    )

pub load_is : (m : ObjectMemory) (x : ℕ) (t : IntType) (place : Value) (r : Result Value Wrong) → HasObjects m → address m x 0 ≡ Some place
    → IsMade (length m.blocks) place
    → ((objects : List ObjectTree) → FitsAt objects m place → Answers r (load_at objects m (Some (scalars.Int t)) place)) → (n : ℤ)
    → (r ≡ Ok (values.Int t n) → Loads m x t n) × (Loads m x t n → r ≡ Ok (values.Int t n))
load_is m x t place r h a made answers n = load_by m x t place r (place_of m x) h refl a made answers n

-- ---- what a fact of a number says

module _ (q : CsProgramTree) (m : ObjectMemory) where
  found_here : (x : ℕ) (t : IntType) → IsFoundAt q.structs (types.Int t) 0 (bytes t) (Some (types.Int t))
  found_here x t = record { there = is_own q.structs (types.Int t) 0 (bytes t) refl (tt, refl); only = λ ty h. (own tt h.part).1 }

  some_same : {A : Type 0} (a b : A) → Some a ≡ Some b → a ≡ b
  some_same a b h = cc

  number_is : (x : ℕ) (t : IntType) (object : ObjectTree) (k : ℤ) → slice_get q.objects x ≡ Some object → object.ty ≡ types.Int t
      → IsCellNumber q.structs q.objects m (whole_cell x t) k → HasWhole m x t k
  number_is x t object k e is h = number_at q.structs q.objects m (whole_cell x t) object (Some (types.Int t)) k e
      (subst (λ (ty : CTypeTree). IsFoundAt q.structs ty 0 (bytes t) (Some (types.Int t))) (sym is) (found_here x t)) h

  between : (x : ℕ) (t : IntType) (object : ObjectTree) (n : ℤ) → slice_get q.objects x ≡ Some object → object.ty ≡ types.Int t → HasWhole m x t n
      → HoldsIn q m (facts.Between (whole_cell x t) n n)
  between x t object n e is h number tells = by (number (whole_cell x t)) refl where
    by : (o : Option ℤ) → number (whole_cell x t) ≡ o → IfSome o (λ k. (n ≤ℤ k) × (k ≤ℤ n))
    by None g = tt
    by (Some k) g =
        let same : n ≡ k = some_same n k (sym h ∙ number_is x t object k e is (tells (whole_cell x t) k g)) in
        (omega (arith, int_facts, same), omega (arith, int_facts, same))

  -- a fact that tells the number of one of the program's objects holds
  holds_by : (x : ℕ) (o : Option ObjectTree) (fact : Fact) → slice_get q.objects x ≡ o → IsSomeAnd o (λ object. TellsNumber m x object.ty fact)
      → NamesFactObjects (length q.objects) fact × HoldsIn q m fact
  holds_by x None fact e h = absurd h
  holds_by x (Some object) fact e h =
      subst (λ f. NamesFactObjects (length q.objects) f × HoldsIn q m f) (sym h.4)
      (slice_get_within q.objects x object e, between x h.0 object h.1 e h.2 h.3)

  pub tells_holds : (fact : Fact) → TellsOne q.objects m fact → NamesFactObjects (length q.objects) fact × HoldsIn q m fact
  tells_holds fact h = holds_by h.0 (slice_get q.objects h.0) fact refl h.1

  whole_by : (x : ℕ) (t : IntType) (n : ℤ) (o : Option ObjectTree) → slice_get q.objects x ≡ o → IsSomeAnd o (λ object. object.ty ≡ types.Int t)
      → IsCellNumber q.structs q.objects m (whole_cell x t) n → HasWhole m x t n
  whole_by x t n None e is h = absurd is
  whole_by x t n (Some object) e is h = number_is x t object n e is h

  -- the number of an integer object is that of all its bytes
  pub whole_is : (x : ℕ) (t : IntType) (n : ℤ) → IsSomeAnd (slice_get q.objects x) (λ object. object.ty ≡ types.Int t)
      → IsCellNumber q.structs q.objects m (whole_cell x t) n → HasWhole m x t n
  whole_is x t n is h = whole_by x t n (slice_get q.objects x) refl is h

-- ---- answers

pub ok_same : (t : IntType) (r : Result Value Wrong) (n k : ℤ) → r ≡ Ok (values.Int t n) → r ≡ Ok (values.Int t k) → n ≡ k
ok_same t r n k e f = cc

pub ok_no_err : (t : IntType) (r : Result Value Wrong) (k : ℤ) (w : Wrong) → r ≡ Ok (values.Int t k) → r ≡ Err w → ⊥
ok_no_err t r k w e f = absurd (cc)

-- ---- facts of the one state

some_is : (t s : State) → Some t ≡ Some s → t ≡ s
some_is t s h = cc

module _ (q : CsProgramTree) (objects : List ObjectTree) (one : Option State) (t : State) (m : ObjectMemory) (own : q.objects ≡ objects) (known : one ≡ Some t)
    (at : m ≡ t.memory) where
  one_holds : (fact : Fact) → TellsOne objects m fact
      → NamesFactObjects (length q.objects) fact × ((s : State) → IsOf one s → HoldsIn q s.memory fact)
  one_holds fact h =
      let here = subst (λ (n : ObjectMemory). TellsOne q.objects n fact) at (subst (λ os. TellsOne os m fact) (sym own) h) in
      let holds = tells_holds q t.memory fact here in
      (holds.0, λ s is. let same = subst (λ o. IsOf o s) known is in subst (λ (n : ObjectMemory). HoldsIn q n fact) same.memory holds.1)

  pub facts_hold : (out old new after : List Fact) → old ≡ out → after ≡ new → Adds old new (TellsOne objects m)
      → Adds out after (λ fact. NamesFactObjects (length q.objects) fact × ((s : State) → IsOf one s → HoldsIn q s.memory fact))
  facts_hold out old new after e f a =
      (a.0, f ∙ a.1 ∙ ap (λ (l : List Fact). l ++ a.0) e, λ k d h. one_holds (slice_index_or a.0 k d) (a.2 k d h))

  pub facts_sharp : (new after : List Fact) → after ≡ new → ((x : ℕ) → IsToldOf objects m new x) → (s : State) → one ≡ Some s → TellsWhole q s.memory after
  facts_sharp new after f each s is x ty n integer number =
      let same : m ≡ s.memory = at ∙ ap (λ (u : State). u.memory) (some_is t s (sym known ∙ is)) in
      let whole : HasWhole m x ty n = subst (λ (w : ObjectMemory). HasWhole w x ty n) (sym same) (whole_is q s.memory x ty n integer number) in
      subst (λ l. Contains l (facts.Between (whole_cell x ty) n n)) (sym f)
      (each x ty n (subst (λ os. IsSomeAnd (slice_get os x) (λ object. object.ty ≡ types.Int ty)) own integer) whole)
