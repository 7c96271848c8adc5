-- Options that are there.
use Rattle.std.proofs.Common.{◌≡◌, Option, Some, None, option_map, option_and_then, refl, subst}
use Rattle.std.specs.Prelude.{IfSome}

pub map-some : {X Y : Type 0} (f : X → Y) (o : Option X) (y : Y) → option_map f o ≡ Some y → (x : X) × (o ≡ Some x) × (y ≡ f x)
map-some f None y h = cc
map-some f (Some x) y h = (x, refl, cc)

pub then-some : {X Y : Type 0} (f : X → Option Y) (o : Option X) (y : Y) → option_and_then f o ≡ Some y → (x : X) × (o ≡ Some x) × (f x ≡ Some y)
then-some f None y h = cc
then-some f (Some x) y h = (x, refl, h)

pub some-at : {X : Type 0} (P : X → Type 0) (o : Option X) (x : X) → o ≡ Some x → IfSome o P → P x
some-at P None x e h = cc
some-at P (Some y) x e h = let same : y ≡ x = cc in subst P same h
