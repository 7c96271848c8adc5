-- How two numbers stand to each other.
use Rattle.std.specs.Prelude.{ℤ, ◌≡◌, ◌≤ℤ◌, ◌<ℤ◌}
use Rattle.num_api.specs.Plain.{Standing, less, at_most, greater, at_least, same, other}
use Rattle.num_api.specs.declared.standings.Standing.{Standing as HowItStands}
use Rattle.num_api.specs.declared.standings.Standing.TheVariants.{Less, AtMost, Greater, AtLeast, Same, Other}

-- the standing by the plain rule's name
abbrev pub standing_of : HowItStands → Standing
standing_of Less = less
standing_of AtMost = at_most
standing_of Greater = greater
standing_of AtLeast = at_least
standing_of Same = same
standing_of Other = other

-- the first number stands so to the second
abbrev pub Stands : Standing → ℤ → ℤ → Type 0
Stands less x y = x <ℤ y
Stands at_most x y = x ≤ℤ y
Stands greater x y = y <ℤ x
Stands at_least x y = y ≤ℤ x
Stands same x y = x ≡ y
Stands other x y = x ≡ y → ⊥
