use Rattle.headline.proofs.VerdictLemmas as verdict
use Rattle.headline.proofs.verdict.one_program.Goals as goal

pub returns : goal.returns
returns c = verdict.one_program c.one_cut.ensures c.one_file.ensures c.files_have_one.ensures
