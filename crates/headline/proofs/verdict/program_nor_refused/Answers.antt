use Rattle.headline.proofs.VerdictLemmas as verdict
use Rattle.headline.proofs.verdict.program_nor_refused.Goals as goal

pub returns : goal.returns
returns c =
    verdict.not_both c.one_cut.ensures c.cut_nor_uncut.ensures c.one_file.ensures c.file_nor_refused.ensures c.files_have_one.ensures
    c.admitted_is_not_refused.ensures
