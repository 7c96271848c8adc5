-- Items of an initialiser that rise, and those that are passed.
use Rattle.std.proofs.Common.{◌≡◌, ℕ, ◌+◌, ◌<◌, false, ◌&&◌, ◌||◌, List, [], ◌∷◌, refl, ap, ◌∙◌, arith}
use Rattle.std.specs.Prelude.{nat_lt}
use Rattle.std.proofs.lemmas.Bool.{lt-leb}
use Rattle.c_objects.specs.declared.initial.NamedBytes.{NamedBytes}
use Rattle.c_objects.specs.Writing.{names_byte, are_named, Rise}

-- an item that begins behind a byte does not name it
pub not_yet : (named : NamedBytes) (k : ℕ) → k < named.first → names_byte named k ≡ false
not_yet named k l = ap (λ b. b && nat_lt k (named.first + named.count)) (lt-leb named.first k l)

pub none_named : (low k : ℕ) (all : List NamedBytes) → Rise low all → k < low → are_named all k ≡ false
none_named low k [] h l = refl
none_named low k (named ∷ rest) h l =
    let from = h.0 in ap (λ b. b || are_named rest k) (not_yet named k (omega arith)) ∙ none_named named.first k rest h.1 (omega arith)

-- so it is where the first begins behind the byte
pub first_behind : (named : NamedBytes) (rest : List NamedBytes) (low k : ℕ) → Rise low (named ∷ rest) → k < named.first → are_named (named ∷ rest) k ≡ false
first_behind named rest low k h l = ap (λ b. b || are_named rest k) (not_yet named k l) ∙ none_named named.first k rest h.1 l

-- what stands where no item is
abbrev pub no_bytes : NamedBytes
no_bytes = record { first = 0; count = 0 }
