use Rattle.csharp_laws.proofs.Separated as separated
use Rattle.csharp_laws.proofs.laws.formed_scopes_are_separate.Goals as goal

pub returns : goal.returns
returns c = separated.formed_is_separate
