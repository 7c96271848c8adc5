-- How far a level stands above the operands that it ends at.
use Rattle.std.proofs.Common.{ℕ}
use Rattle.c_grammar.specs.declared.parts.Level.{Level}
use Rattle.c_grammar.specs.declared.parts.Level.TheVariants as levels

abbrev pub rank : Level → ℕ
rank levels.Products = 0
rank levels.Sums = 2
rank levels.Shifts = 4
rank levels.Relations = 6
rank levels.Equalities = 8
rank levels.BitAnds = 10
rank levels.BitXors = 12
rank levels.BitOrs = 14
rank levels.Ands = 16
rank levels.Ors = 18
rank levels.Commas = 22
