-- What the words are read by, the options and the file, without help and version; and what is found.
use Rattle.std.specs.Prelude.{◌≡◌, true, false, List, [], Option, Some, None, codes, if◌then◌else◌}
use Rattle.clap.specs.Simple.{new_shape}
use Rattle.clap.specs.Words.{App, Rule, first_value, found_of, new_rule, one_text, with_rule}
use Rattle.clap.specs.declared.parser.matches.ArgMatches.{ArgMatches}
use Rattle.clap.specs.declared.builder.action.ArgAction.TheVariants.{SetTrue}
use Rattle.headline_words.specs.Command.{Part, are_apart, file_of, has_state, narrow, ramp, unroll, value_of}

abbrev pub unroll_rule : Rule
unroll_rule = record (new_rule (codes "unroll")) { long = Some (codes "unroll") }

abbrev pub narrow_rule : Rule
narrow_rule = record (new_rule (codes "narrow")) { long = Some (codes "narrow") }

abbrev pub ramp_rule : Rule
ramp_rule = record (new_rule (codes "ramp")) { long = Some (codes "ramp") }

abbrev pub state_rule : Rule
state_rule = record (new_rule (codes "state")) { long = Some (codes "state"); action = Some SetTrue }

abbrev pub file_rule : Rule
file_rule = new_rule (codes "file")

abbrev pub no_rules : App
no_rules = record { top = record (new_shape (codes "analyze")) { disable_help_flag = true; disable_version_flag = true }; subs = [] }

abbrev pub analyze_app : App
analyze_app = with_rule (with_rule (with_rule (with_rule (with_rule no_rules unroll_rule) narrow_rule) ramp_rule) state_rule) file_rule

-- what is found of a command's parts
pub record Finds (ps : List Part) (m : ArgMatches) : Type 0 where
  pub file : first_value (found_of m) (codes "file") ≡ file_of ps
  pub unroll : first_value (found_of m) (codes "unroll") ≡ value_of unroll ps
  pub narrow : first_value (found_of m) (codes "narrow") ≡ value_of narrow ps
  pub ramp : first_value (found_of m) (codes "ramp") ≡ value_of ramp ps
  pub state : one_text (found_of m) (codes "state") ≡ Some (if has_state ps then codes "true" else codes "false")

-- words with these parts are read so
abbrev pub Reads : Option (List Part) → ArgMatches → Type 0
Reads None m = ⊥
Reads (Some ps) m = (are_apart ps ≡ true) × Finds ps m

-- and others are refused
abbrev pub ReadsNone : Option (List Part) → Type 0
ReadsNone None = Unit {0}
ReadsNone (Some ps) = are_apart ps ≡ false
