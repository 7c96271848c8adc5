use Rattle.mem_shown.proofs.Ends.{any_class}
use Rattle.mem_shown.proofs.span.Span.of.Goals as goal

pub returns-then-modulus-eq0-clause-inside : goal.returns-then-modulus-eq0-clause-inside
returns-then-modulus-eq0-clause-inside c = λ n b i. record { low = b.0; high = b.1; member = any_class n }
