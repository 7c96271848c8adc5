-- What stands below a switch, as typing speaks of it.
use Rattle.c_check_decls.specs.MadeViews.{made_tree}
use Rattle.c_check_stmts.specs.Forms as forms
use Rattle.c_check_stmts.specs.declared.switches.SwitchBody.{SwitchBody}

abbrev pub body_tree : SwitchBody → forms.SwitchBody
body_tree body = record { kind = body.kind; made = made_tree body.made }
