-- What is told of checks by their sites.
use Rattle.std.specs.Prelude.{◌≡◌, List, [], map, option_map, unwrap_or, All, Contains}
use Rattle.c_syntax.specs.TypedStmt.{TStmtTree}
use Rattle.c_syntax.specs.Program.{TFunctionTree, TProgramTree}
use Rattle.c_layout.specs.Checks.{PlacedCheck, stmt_checks}
use Rattle.c_layout.specs.Calls.{PlacedCall, stmt_calls}
use Rattle.c_sites.specs.Sites.{Callee, site, stmt_sites, SitesAgree}
use Rattle.c_sites.specs.SitedChecks.{SitedCheck, stmt_sited, function_sited}

-- the check and its place alone
abbrev pub placed : SitedCheck → PlacedCheck
placed c = record { pos = c.pos; check = c.check }

-- the checks with what they look at are the checks that a statement makes
abbrev pub ChecksAreSited : Type 0
ChecksAreSited = (program : TProgramTree) (body : TStmtTree) → map placed (stmt_sited program body) ≡ stmt_checks program body

-- each check is made at a site of the statement
abbrev pub ChecksStandAtSites : Type 0
ChecksStandAtSites = (program : TProgramTree) (body : TStmtTree) → All (λ c. Contains (stmt_sites body) (site c.pos c.subject)) (stmt_sited program body)

-- two checks at one place look at the same
abbrev pub AgreeOn : List SitedCheck → Type 0
AgreeOn checks = (c d : SitedCheck) → Contains checks c → Contains checks d → c.pos ≡ d.pos → c.subject ≡ d.subject

-- where the sites of a program agree, checks at one place of a function look at the same
abbrev pub ChecksAgree : Type 0
ChecksAgree = (program : TProgramTree) → SitesAgree program → All (λ function. AgreeOn (function_sited program function)) program.functions

-- each call is made at a site of the statement, which has the function that is called
abbrev pub CallsStandAtSites : Type 0
CallsStandAtSites = (body : TStmtTree) → All (λ c. Contains (stmt_sites body) (site c.pos (Callee c.callee))) (stmt_calls body)

abbrev pub body_calls : TFunctionTree → List PlacedCall
body_calls function = unwrap_or (option_map stmt_calls function.body) []

-- where the sites of a program agree, calls at one place of a function are of one function
abbrev pub CallsAgree : Type 0
CallsAgree =
    (program : TProgramTree) → SitesAgree program
    → All (λ function. (c d : PlacedCall) → Contains (body_calls function) c → Contains (body_calls function) d → c.pos ≡ d.pos → c.callee ≡ d.callee)
    program.functions
