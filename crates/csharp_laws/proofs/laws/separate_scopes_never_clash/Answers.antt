use Rattle.csharp_laws.proofs.Clash as clash
use Rattle.csharp_laws.proofs.laws.separate_scopes_never_clash.Goals as goal

pub returns : goal.returns
returns c = clash.no_clash
