-- What an expression, a type or an initialiser leaves as it is: all but constants, structs and literals.
use Rattle.std.proofs.Common.{◌≡◌, ℕ, List, [], ◌∷◌, ◌++◌, length, refl, sym, ◌∙◌, ap}
use Rattle.std.specs.Prelude.{◌+◌, ◌≤◌, All}
use Rattle.std.proofs.lemmas.List.{append-nil, append_assoc}
use Rattle.std.proofs.lemmas.List.Elements.{All-nil, All-append, All-push}
use Rattle.c_syntax_written.specs.declared.place.Pos.{Pos}
use Rattle.c_syntax.specs.Types.{ObjectTree}
use Rattle.c_typing.specs.World.{World}
use Rattle.c_typing.specs.Names.{literal_object, object_limit}
use Rattle.c_typing.proofs.Changes.{Changes, Constants, Names, Any, within}
use Rattle.c_typing.proofs.Reaches.{Reaches, stays, after, named, literal, struct, new_struct, enumeration, tag_changed, body, opens, scoped, object, counted, sized, initial, linked, defined, retyped, parameters, function, function_changed, labelled, cased, in_body}

-- a string literal among the objects
pub record IsLiteral (x : ObjectTree) : Type 0 where
  pub at : Pos
  pub bytes : List ℕ
  pub is : x ≡ literal_object at (length bytes + 1)
  pub small : length bytes + 1 ≤ object_limit

-- nothing but literals is added, and what labels, cases and names of the file there are stays
pub record Calm (w v : World) : Type 0 where
  pub extra : List ObjectTree
  pub objects : v.objects ≡ w.objects ++ extra
  pub literals : All IsLiteral extra
  pub labels : v.labels ≡ w.labels
  pub cases : v.cases ≡ w.cases
  pub default : v.default ≡ w.default
  pub linked : v.linked ≡ w.linked

calm_same : (w v : World) → v.objects ≡ w.objects → v.labels ≡ w.labels → v.cases ≡ w.cases → v.default ≡ w.default → v.linked ≡ w.linked → Calm w v
calm_same w v o l c d n =
    record { extra = []; objects = o ∙ sym (append-nil w.objects); literals = All-nil IsLiteral; labels = l; cases = c; default = d; linked = n }

calm_then : (u v w : World) → Calm u v → Calm v w → Calm u w
calm_then u v w f g = record {
  extra = f.extra ++ g.extra;
  objects = g.objects ∙ ap (λ objects. objects ++ g.extra) f.objects ∙ append_assoc u.objects f.extra g.extra;
  literals = All-append IsLiteral f.extra g.extra f.literals g.literals;
  labels = g.labels ∙ f.labels;
  cases = g.cases ∙ f.cases;
  default = g.default ∙ f.default;
  linked = g.linked ∙ f.linked;
}

-- so it is where not any change may be made
abbrev IsCalm : Changes → World → World → Type 0
IsCalm Constants w v = Calm w v
IsCalm Names w v = Calm w v
IsCalm Any w v = Unit {0}

same : (may : Changes) (w v : World) → v.objects ≡ w.objects → v.labels ≡ w.labels → v.cases ≡ w.cases → v.default ≡ w.default → v.linked ≡ w.linked → IsCalm may w v
same Constants w v o l c d n = calm_same w v o l c d n
same Names w v o l c d n = calm_same w v o l c d n
same Any w v o l c d n = tt

next : (may : Changes) (u v w : World) → IsCalm may u v → IsCalm may v w → IsCalm may u w
next Constants u v w f g = calm_then u v w f g
next Names u v w f g = calm_then u v w f g
next Any u v w f g = tt

-- the same in a scope of its own
shut : (u v x : World) → Calm u v → x.objects ≡ v.objects → x.labels ≡ v.labels → x.cases ≡ v.cases → x.default ≡ v.default → x.linked ≡ v.linked → Calm u x
shut u v x f o l c d n = calm_then u v x f (calm_same v x o l c d n)

in_scope : (may : Changes) (w o v x : World) → o.objects ≡ w.objects → o.labels ≡ w.labels → o.cases ≡ w.cases → o.default ≡ w.default → o.linked ≡ w.linked
    → IsCalm (within may) o v → x.objects ≡ v.objects → x.labels ≡ v.labels → x.cases ≡ v.cases → x.default ≡ v.default → x.linked ≡ v.linked → IsCalm may w x
in_scope Constants w o v x a b c d e f g h i j k = calm_then w o x (calm_same w o a b c d e) (shut o v x f g h i j k)
in_scope Names w o v x a b c d e f g h i j k = calm_then w o x (calm_same w o a b c d e) (shut o v x f g h i j k)
in_scope Any w o v x a b c d e f g h i j k = tt

with_literal : (may : Changes) (w v : World) (at : Pos) (bytes : List ℕ) → length bytes + 1 ≤ object_limit → v.objects ≡ w.objects ++ literal_object at (length bytes + 1) ∷ [] → v.labels ≡ w.labels → v.cases ≡ w.cases
    → v.default ≡ w.default → v.linked ≡ w.linked → IsCalm may w v
with_literal may w v at bytes small o l c d n = by may
  where
    one : Calm w v
    one = record {
      extra = literal_object at (length bytes + 1) ∷ [];
      objects = o;
      literals = All-push IsLiteral [] (literal_object at (length bytes + 1)) (All-nil IsLiteral) (record { at = at; bytes = bytes; is = refl; small = small });
      labels = l;
      cases = c;
      default = d;
      linked = n;
    }

    by : (may : Changes) → IsCalm may w v
    by Constants = one
    by Names = one
    by Any = tt

calm_by : (may : Changes) (w v : World) → Reaches may w v → IsCalm may w v
calm_by may w v (stays _) = same may w w refl refl refl refl refl
calm_by may w v (after _ u _ r s) = next may w u v (calm_by may w u r) (calm_by may u v s)
calm_by may w v (named _ at name meaning f h) = same may w _ refl refl refl refl refl
calm_by may w v (literal _ at bytes small) = with_literal may w _ at bytes small refl refl refl refl refl
calm_by may w v (struct _ tag) = same may w _ refl refl refl refl refl
calm_by may w v (new_struct _ tag d) = same may w _ refl refl refl refl refl
calm_by may w v (enumeration _ tag d) = same may w _ refl refl refl refl refl
calm_by may w v (tag_changed _ tag at m f) = same may w _ refl refl refl refl refl
calm_by may w v (body _ u x n members r begun s are sound) =
    next may w u _ (calm_by may w u r) (next may u x _ (calm_by may u x s) (same may x _ refl refl refl refl refl))
calm_by may w v (opens _) = same may w _ refl refl refl refl refl
calm_by may w v (scoped _ u r) = in_scope may w _ u _ refl refl refl refl refl (calm_by (within may) _ u r) refl refl refl refl refl
calm_by may w v (object _ x) = tt
calm_by may w v (counted _ size) = tt
calm_by may w v (sized _ n ty size h) = tt
calm_by may w v (initial _ n bytes) = tt
calm_by may w v (linked _ x meaning d f) = tt
calm_by may w v (defined _ name now) = tt
calm_by may w v (retyped _ name ty c) = tt
calm_by may w v (parameters _ params) = tt
calm_by may w v (function _ told types f e none) = tt
calm_by may w v (function_changed _ n change f) = tt
calm_by may w v (labelled _ labels) = tt
calm_by may w v (cased _ cases default) = tt
calm_by may w v (in_body _ u x first names tags r aside f s) = tt

pub calm : (w v : World) → Reaches Constants w v → Calm w v
calm w v r = calm_by Constants w v r
