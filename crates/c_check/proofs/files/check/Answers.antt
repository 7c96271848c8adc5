use Rattle.c_syntax_written.specs.WrittenFile.{file_tree}
use Rattle.c_check.proofs.Alone.{has_sites, is_alone, is_typed}
use Rattle.c_check.proofs.files.check.Goals as goal

pub returns : goal.returns
returns c = record {
  checked = c.checked.ensures;
  alone = is_alone c.files_have_one.ensures (file_tree c.args.file) c.checked.result c.checked.ensures;
  sites = has_sites c.typed_sites_agree.ensures (file_tree c.args.file) c.checked.result c.checked.ensures;
  well_typed = is_typed c.typed_is_well_typed.ensures (file_tree c.args.file) c.checked.result c.checked.ensures;
}
