-- What the checks of a lowered program look at, by the sites of its source.
use Rattle.std.specs.Prelude.{ℕ, List, [], ◌∷◌, Contains, option_map, unwrap_or, slice_get}
use Rattle.c_syntax.specs.Program.{TProgramTree}
use Rattle.c_sites.specs.Sites.{Subject, InObject, OneOperand, TwoPointers, Callee, Site, site, function_sites}
use Rattle.csharp.specs.Trees.{CsExprTree, CsStmtTree, Checked}
use Rattle.lower_trees.specs.Named.{IsNamed}

-- a place in a named object by the address of that object, which is moved by constants and by products with constants; two pointers by both;
-- and all else by one operand
abbrev pub Looks : Subject → List CsExprTree → Type 0
Looks (InObject x has_element) (a ∷ []) = IsNamed x 1 a
Looks OneOperand (a ∷ []) = Unit {0}
Looks TwoPointers (a ∷ b ∷ []) = Unit {0}
Looks (Callee g) (a ∷ []) = Unit {0}
Looks subject operands = ⊥

-- the sites of a function by its number
abbrev pub sites_in : TProgramTree → ℕ → List Site
sites_in p f = unwrap_or (option_map function_sites (slice_get p.functions f)) []

-- a check is made at one of these sites, and looks at what stands there
abbrev pub IsSited : List Site → CsStmtTree → Type 0
IsSited sites (Checked c) = (subject : Subject) × Contains sites (site c.pos subject) × Looks subject c.operands
IsSited sites a = Unit {0}
