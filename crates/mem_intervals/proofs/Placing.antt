-- A set that is shown of a named place.
use Rattle.std.proofs.Common.{◌≡◌, ℕ, pos, refl, sym, subst, ◌∙◌, List, [], ◌∷◌, length, Option, Some, None}
use Rattle.std.specs.Prelude.{All, option_and_then}
use Rattle.std.proofs.lemmas.List.Elements.{All-head}
use Rattle.c_syntax.specs.declared.alarm.Pointers.{Pointers}
use Rattle.c_syntax.specs.declared.alarm.Shown.TheVariants as shows
use Rattle.c_syntax.specs.declared.alarm.WrongKind.{WrongKind}
use Rattle.c_syntax.specs.declared.alarm.WrongKind.TheVariants as kinds
use Rattle.c_syntax.specs.Types.{ObjectTree}
use Rattle.c_syntax.specs.Operand.{Operand}
use Rattle.c_syntax.specs.Admission.{IsInShown, IsModerate}
use Rattle.block_mem.specs.declared.types.Scalar.{Scalar}
use Rattle.c_values.specs.Places.{point}
use Rattle.num_api.specs.Fold.{IsAlignment}
use Rattle.num_api.specs.declared.message.Range.{Range}
use Rattle.csharp.specs.Trees.{CsExprTree, CsProgramTree, CsCheckTree, Checked}
use Rattle.csharp.specs.Formed.{NamesThere}
use Rattle.csharp.specs.States.{State, value_of, operand_of}
use Rattle.mem_shown.specs.Decisions.{NamesBelow}
use Rattle.mem_api.specs.Given.{IsOf}
use Rattle.mem_api.specs.Owned.{IsOwned}
use Rattle.mem_api.specs.Named.{Fixed, IsNamed, fixed_at, LooksAtPlace, ShowsOnly, ShowsOffset}
use Rattle.mem_api.specs.Showing.{HasForm, looked_at}
use Rattle.mem_places.specs.ShownPlaces.{IsSetFor}
use Rattle.mem_temps.specs.Sets.{Stands}
use Rattle.mem_intervals.specs.Placed.{LooksAtPointer, IsShownAt}

place_operand : (kind : WrongKind) (ty : Option Scalar) (e : CsExprTree) (s : State) (x : Operand) → LooksAtPointer kind → operand_of kind ty (e ∷ []) s ≡ Some x
    → option_and_then (point s.memory) (value_of e s) ≡ Some x
place_operand kinds.NullUse ty e s x looks h = h
place_operand kinds.Dangling ty e s x looks h = h
place_operand kinds.ReadOnly ty e s x looks h = h
place_operand kinds.Bounds ty e s x looks h = h
place_operand kinds.Access ty e s x looks h = h
place_operand kinds.Alignment ty e s x looks h = h
place_operand kind ty e s x looks h = absurd looks

place_form : (kind : WrongKind) (e : CsExprTree) (set : Pointers) → LooksAtPointer kind → HasForm kind (e ∷ []) (shows.One set)
place_form kinds.NullUse e set looks = tt
place_form kinds.Dangling e set looks = tt
place_form kinds.ReadOnly e set looks = tt
place_form kinds.Bounds e set looks = tt
place_form kinds.Access e set looks = tt
place_form kinds.Alignment e set looks = tt
place_form kind e set looks = absurd looks

-- a check that looks at a place looks at a pointer
pub at_pointer : (kind : WrongKind) → LooksAtPlace kind → LooksAtPointer kind
at_pointer kinds.NullUse h = tt
at_pointer kinds.Bounds h = tt
at_pointer kinds.Access h = tt
at_pointer kinds.Alignment h = tt
at_pointer kind h = absurd h

module _ (c : CsCheckTree) (e : CsExprTree) (are : c.operands ≡ e ∷ []) where
  module _ (set : Pointers) (looks : LooksAtPointer c.check.kind) (f : IsSetFor e set) where
    at_place : (s : State) (x : Operand) → looked_at c s ≡ Some x → option_and_then (point s.memory) (value_of e s) ≡ Some x
    at_place s x look = place_operand c.check.kind c.ty e s x looks (subst (λ (es : List CsExprTree). operand_of c.check.kind c.ty es s ≡ Some x) are look)

    pub place_holds : (q : CsProgramTree) (objects : ℕ) (types : List Scalar) (rs : List Range) (s : State) (x : Operand) → length q.objects ≡ objects
        → Stands objects types rs s → looked_at c s ≡ Some x → IsInShown q.objects x (shows.One set)
    place_holds q objects types rs s x n h look =
        f.holds q.objects s x (subst (λ (k : ℕ). IsOwned k s.memory) (sym n) h.owned) (at_place s x look)

    pub place_has_form : HasForm c.check.kind c.operands (shows.One set)
    place_has_form = subst (λ (es : List CsExprTree). HasForm c.check.kind es (shows.One set)) (sym are) (place_form c.check.kind e set looks)

    pub place_names : (p q : CsProgramTree) (objects : ℕ) → length p.objects ≡ objects → length q.objects ≡ objects → IsOf p (Checked c)
        → NamesBelow (length q.objects) set
    place_names p q objects n m given = subst (λ (k : ℕ). NamesBelow k set) (n ∙ sym m)
        (f.names p (All-head (NamesThere p) e [] (subst (All (NamesThere p)) are given.numbers.0)))

  one_list : (d : CsExprTree) → c.operands ≡ d ∷ [] → e ≡ d
  one_list d h = let both : e ∷ [] ≡ d ∷ [] = sym are ∙ h in cc

  pub place_named : (shown : Option Pointers) → IsShownAt c.check.kind e shown → (objects : List ObjectTree) (d : CsExprTree) (o n : ℕ) → LooksAtPlace c.check.kind
      → c.operands ≡ d ∷ [] → IsAlignment (pos n) → IsNamed o n d → (set : Pointers) × (shown ≡ Some set) × ShowsOnly objects o n (shows.One set)
  place_named None k objects d o n looks is a named = absurd ((k.place (at_pointer c.check.kind looks)).named objects o n a (subst (IsNamed o n) (sym (one_list d is)) named))
  place_named (Some set) k objects d o n looks is a named = (set, refl, (k.place (at_pointer c.check.kind looks)).named objects o n a (subst (IsNamed o n) (sym (one_list d is)) named))

  pub place_fixed : (shown : Option Pointers) → IsShownAt c.check.kind e shown → (d : CsExprTree) (f : Fixed) → LooksAtPlace c.check.kind → c.operands ≡ d ∷ []
      → fixed_at d ≡ Some f → IsModerate (Some f.offset) → (set : Pointers) × (shown ≡ Some set) × ShowsOffset f.offset (shows.One set)
  place_fixed None k d f looks is h m = absurd ((k.place (at_pointer c.check.kind looks)).fixed f (subst (λ (y : CsExprTree). fixed_at y ≡ Some f) (sym (one_list d is)) h) m)
  place_fixed (Some set) k d f looks is h m = (set, refl, (k.place (at_pointer c.check.kind looks)).fixed f (subst (λ (y : CsExprTree). fixed_at y ≡ Some f) (sym (one_list d is)) h) m)

pub one_set : (a b : Pointers) → Some a ≡ Some b → a ≡ b
one_set a b h = cc
