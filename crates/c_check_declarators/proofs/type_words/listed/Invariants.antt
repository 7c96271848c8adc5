use Rattle.std.proofs.Common.{◌≡◌, drop, nat_eq}
use Rattle.std.specs.Prelude.{find}
use Rattle.std.specs.Cmp.Lexicographic.{pointwise}
use Rattle.c_check_declarators.proofs.type_words.listed.Given as goal

abbrev pub invariant-each : goal.invariant-each
invariant-each l = find (λ list. pointwise nat_eq list.counts l.counts) l.lists ≡ find (λ list. pointwise nat_eq list.counts l.counts) (drop l.list-index l.lists)
