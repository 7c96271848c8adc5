-- Effects put together one after the other.
use Rattle.std.proofs.Common.{◌≡◌, List, [], ◌∷◌, ◌++◌, refl, sym, ap, ◌∙◌, append_assoc, append-nil}
use Rattle.c_rules_effects.specs.declared.touch.Touch.{Touch}
use Rattle.c_rules_effects.specs.declared.effects.Effects.{Effects}
use Rattle.c_rules_effects.specs.Joined.{change_at, joined, nothing, read_at, write_at}

abbrev the_effects : List Touch → List Touch → Effects
the_effects reads writes = record { reads = reads; writes = writes }

both_same : (a b c d : List Touch) → a ≡ b → c ≡ d → (the_effects a c) ≡ (the_effects b d)
both_same a b c d e f = ap (λ x. the_effects x c) e ∙ ap (the_effects b) f

pub three : (a b c : Effects) → joined (joined a b) c ≡ joined a (joined b c)
three a b c = both_same _ _ _ _ (append_assoc a.reads b.reads c.reads) (append_assoc a.writes b.writes c.writes)

pub joined_nothing : (a : Effects) → joined a nothing ≡ a
joined_nothing a = both_same _ _ _ _ (append-nil a.reads) (append-nil a.writes)

pub nothing_joined : (a : Effects) → joined nothing a ≡ a
nothing_joined a = refl

pub ruleset the_joins = (three, joined_nothing, nothing_joined)
