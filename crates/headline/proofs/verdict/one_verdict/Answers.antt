use Rattle.headline.proofs.VerdictLemmas as verdict
use Rattle.headline.proofs.verdict.one_verdict.Goals as goal

pub returns : goal.returns
returns c =
    verdict.one_verdict c.one_cut.ensures c.one_uncut.ensures c.cut_nor_uncut.ensures c.one_refusal.ensures c.one_file.ensures c.file_nor_refused.ensures
    c.files_have_one.ensures c.refusals_are_one.ensures c.admitted_is_not_refused.ensures
