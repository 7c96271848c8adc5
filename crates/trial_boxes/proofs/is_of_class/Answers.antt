use Rattle.std.proofs.Common.{◌≡◌, ◌∙◌, sym, rules}
use Rattle.std.specs.Prelude.{nat_eq}
use Rattle.std.proofs.Common.{of_z}
use mir.Syntax.{w128}
use Rattle.residues.specs.Class.{is_member}
use Rattle.residues.proofs.Lattice.{member_true, member_from}
use Rattle.trial_boxes.proofs.is_of_class.Goals as goal

pub returns-then-c-eq0 : goal.returns-then-c-eq0
returns-then-c-eq0 c =
    let same : nat_eq (of_z w128 c.args.n) (of_z w128 c.args.c.rem) ≡ is_member c.args.c c.args.n = search rules in
    (λ e. member_from c.args.c c.args.n c.requires (sym same ∙ e), λ h. same ∙ member_true c.args.c c.args.n c.requires h)

pub returns : goal.returns
returns c =
    let same : nat_eq (of_z w128 c.rem_euclid.result) (of_z w128 c.args.c.rem) ≡ is_member c.args.c c.args.n = search rules in
    (λ e. member_from c.args.c c.args.n c.requires (sym same ∙ e), λ h. same ∙ member_true c.args.c c.args.n c.requires h)
