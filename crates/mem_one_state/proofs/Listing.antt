-- Facts that are listed object by object.
use Rattle.std.proofs.Common.{◌≡◌, ◌≢◌, ℕ, ℤ, ◌+◌, ◌<◌, ◌≤◌, refl, sym, subst, ap, ◌∙◌, arith, List, [], ◌∷◌, ◌++◌, length, append_assoc, Option, Some, None, inl, inr, ◌⊎◌}
use Rattle.std.specs.Prelude.{Contains, IfSome, IsSomeAnd, slice_get}
use Rattle.std.proofs.lemmas.Bool.{cases_eq, cases_lt}
use Rattle.std.proofs.lemmas.List.{append-nil}
use Rattle.std.proofs.lemmas.List.Elements.{All-nil, All-cons, All-append, Contains-append_left, Contains-append_right}
use Rattle.std.proofs.lemmas.Option.{slice_get_past}
use Rattle.c_syntax_written.specs.declared.int_type.IntType.{IntType}
use Rattle.c_syntax.specs.declared.alarm.Fact.{Fact}
use Rattle.c_syntax.specs.declared.alarm.Fact.TheVariants as facts
use Rattle.c_syntax.specs.Types.{ObjectTree}
use Rattle.c_syntax.specs.Types as types
use Rattle.c_values.specs.Places.{ObjectMemory}
use Rattle.mem_api.specs.FactsOf.{Adds, whole_cell}
use Rattle.mem_one_state.specs.Telling.{HasWhole, IsToldOf, TellsNumber, TellsOne, with_fact}

-- the numbers of the first so many objects are told, and nothing else is
pub record AreTold (objects : List ObjectTree) (m : ObjectMemory) (count : ℕ) (before now : List Fact) : Type 0 where
  pub told : Adds before now (TellsOne objects m)
  pub each : (x : ℕ) → x < count → IsToldOf objects m now x

module _ (objects : List ObjectTree) (m : ObjectMemory) where
  pub none_told : (before : List Fact) → AreTold objects m 0 before before
  none_told before = record { told = ([], sym (append-nil before), All-nil _); each = λ x h. absurd (omega (arith, h)) }

  only_one : (f : Fact) → Contains (f ∷ []) f
  only_one f = (0, omega arith, refl)

  further : (before now : List Fact) (f : Fact) → TellsOne objects m f → Adds before now (TellsOne objects m) → Adds before (now ++ f ∷ []) (TellsOne objects m)
  further before now f h a = (
    a.0 ++ f ∷ [],
    ap (λ (l : List Fact). l ++ f ∷ []) a.1 ∙ append_assoc before a.0 (f ∷ []),
    All-append (TellsOne objects m) a.0 (f ∷ []) a.2 (All-cons (TellsOne objects m) f [] h (All-nil _)),
  )

  module _ (x : ℕ) (object : ObjectTree) (is : slice_get objects x ≡ Some object) where
    integer : (t : IntType) → IsSomeAnd (slice_get objects x) (λ o. o.ty ≡ types.Int t) → object.ty ≡ types.Int t
    integer t h = subst (λ o. IsSomeAnd o (λ o. o.ty ≡ types.Int t)) is h

    last : (now : List Fact) (fact : Option Fact)
        → ((t : IntType) (n : ℤ) → object.ty ≡ types.Int t → HasWhole m x t n → fact ≡ Some (facts.Between (whole_cell x t) n n))
        → IsToldOf objects m (with_fact now fact) x
    last now fact each t n ty h =
        subst (λ o. Contains (with_fact now o) (facts.Between (whole_cell x t) n n)) (sym (each t n (integer t ty) h))
        (Contains-append_right now (facts.Between (whole_cell x t) n n ∷ []) (facts.Between (whole_cell x t) n n) (only_one (facts.Between (whole_cell x t) n n)))

    earlier : (now : List Fact) (fact : Option Fact) (y : ℕ) → IsToldOf objects m now y → IsToldOf objects m (with_fact now fact) y
    earlier now None y h = h
    earlier now (Some f) y h = λ t n ty w. Contains-append_left now (f ∷ []) (facts.Between (whole_cell y t) n n) (h t n ty w)

    adds : (before now : List Fact) (fact : Option Fact) → IfSome fact (TellsNumber m x object.ty) → Adds before now (TellsOne objects m)
        → Adds before (with_fact now fact) (TellsOne objects m)
    adds before now None tells a = a
    adds before now (Some f) tells a = further before now f (x, subst (λ o. IsSomeAnd o (λ o. TellsNumber m x o.ty f)) (sym is) tells) a

    pub one_more : (before now : List Fact) (fact : Option Fact) → IfSome fact (TellsNumber m x object.ty)
        → ((t : IntType) (n : ℤ) → object.ty ≡ types.Int t → HasWhole m x t n → fact ≡ Some (facts.Between (whole_cell x t) n n))
        → AreTold objects m x before now → AreTold objects m (x + 1) before (with_fact now fact)
    one_more before now fact tells each a = record { told = adds before now fact tells a.told; each = λ y h. by y h (cases_eq y x) } where
      by : (y : ℕ) → y < x + 1 → (y ≡ x) ⊎ (y ≢ x) → IsToldOf objects m (with_fact now fact) y
      by y h (inl e) = subst (IsToldOf objects m (with_fact now fact)) (sym e) (last now fact each)
      by y h (inr e) = earlier now fact y (a.each y (omega (arith, h, e)))

  -- behind the last object all are told
  pub all_told : (count : ℕ) (before now : List Fact) → length objects ≤ count → AreTold objects m count before now → (x : ℕ) → IsToldOf objects m now x
  all_told count before now few a x = by (cases_lt x (length objects)) where
    by : (x < length objects) ⊎ (length objects ≤ x) → IsToldOf objects m now x
    by (inl h) = a.each x (omega (arith, h, few))
    by (inr h) = λ t n ty w. absurd (subst (λ o. IsSomeAnd o (λ o. o.ty ≡ types.Int t)) (slice_get_past objects x h) ty)
