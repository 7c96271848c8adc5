-- A declaration leaves declarations of objects.
use Rattle.std.proofs.Common.{◌≡◌, ℕ, true, false, List, [], ◌∷◌, ◌++◌, refl, ap, sym, ◌∙◌, arith}
use Rattle.std.proofs.lemmas.List.{append_assoc}
use Rattle.std.specs.Prelude.{ℤ, ◌+◌, Bool, if◌then◌else◌, Option}
use Rattle.c_syntax_written.specs.declared.place.Pos.{Pos}
use Rattle.c_syntax_written.specs.declared.written.StorageWord.{StorageWord}
use Rattle.c_syntax_written.specs.WrittenDecl.{InitTree, InitDeclaratorTree, DeclTree}
use Rattle.c_syntax.specs.Types.{ObjectTree}
use Rattle.c_syntax.specs.TypedStmt.{TInitTree, TStmtTree, TStmtTrees, Empty, Expr, Block, Declare, Static, If, While, DoWhile, For, Switch, Break, Continue, Goto, Return, Label, Case, Default, none, more}
use Rattle.c_layout.specs.Jumps.{cases_among, defaults_among}
use Rattle.c_layout.specs.TypedNodes.{AreHead}
use Rattle.c_typing.specs.World.{World, Form}
use Rattle.c_typing.specs.Context.{Context}
use Rattle.c_typing.specs.Settled.{settled_stmt, settled_stmts}
use Rattle.c_typing.specs.Decls.{Declares, ObjectNow, Made, nothing_made, both, made_of, automatic, static_made}
use Rattle.c_typing_laws.specs.DeclSteps as steps
use Rattle.c_typing_laws.specs.DeclSteps.{MakesInit, no_object, bare, given, MakesDeclarators, one_more, MakesDecl}

pub head_none : AreHead none
unfolding AreHead
head_none = tt

head_both : (xs ys : TStmtTrees) → AreHead xs → AreHead ys → AreHead (both xs ys)
unfolding AreHead both
head_both none ys p q = q
head_both (more x xs) ys p q = (p.0, head_both xs ys p.1 q)

head_automatic : (object : ObjectNow) (items : List TInitTree) (rest : Bool) → AreHead (automatic object items rest).items
unfolding AreHead
head_automatic object items rest = (tt, tt)

head_static : (object : ObjectNow) → AreHead (static_made object).items
unfolding AreHead
head_static object = (tt, tt)

head_made : (object : ObjectNow) (items : List TInitTree) (rest : Bool) → AreHead (made_of object items rest).items
head_made object items rest = by object.in_block object.is_static
  where
    by : (b s : Bool) → AreHead (if b then (if s then static_made object else automatic object items rest) else nothing_made).items
    by true true = head_static object
    by true false = head_automatic object items rest
    by false s = head_none

head_init : {w v : World} {what : Declares} {init : Option InitTree} {made : Made} → MakesInit w what init made v → AreHead made.items
head_init no_object = head_none
head_init (bare {object = object}) = head_made object [] false
head_init (given {object = object} {by = by} t s) = head_made object by.items by.zeroes_rest

head_declarators :
    {around : Context} {first : Pos} {storage : List StorageWord} {base : Form} {w v : World} {done made : Made} {items : List InitDeclaratorTree}
    → AreHead done.items → MakesDeclarators around first storage base w done items made v → AreHead made.items
head_declarators p steps.none = p
head_declarators p (one_more {done = done} {made = made} t e n m r) = head_declarators (head_both done.items made.items p (head_init m)) r

pub head_decl : {w v : World} {around : Context} {decl : DeclTree} {made : Made} → MakesDecl w around decl made v → AreHead made.items
head_decl d = head_declarators head_none d.rest

-- ---- no case among them

pub head_cases : (items : TStmtTrees) → AreHead items → cases_among items ≡ []
unfolding AreHead cases_among
head_cases none h = refl
head_cases (more (Expr at value) rest) h = head_cases rest h.1
head_cases (more (Declare at object inits zeroes) rest) h = head_cases rest h.1
head_cases (more (Static at object) rest) h = head_cases rest h.1
head_cases (more item rest) h = absurd h.0

pub head_defaults : (items : TStmtTrees) → AreHead items → defaults_among items ≡ 0
unfolding AreHead defaults_among
head_defaults none h = refl
head_defaults (more (Expr at value) rest) h = head_defaults rest h.1
head_defaults (more (Declare at object inits zeroes) rest) h = head_defaults rest h.1
head_defaults (more (Static at object) rest) h = head_defaults rest h.1
head_defaults (more item rest) h = absurd h.0

-- ---- as they are settled

pub head_settled : (objects : List ObjectTree) (items : TStmtTrees) → AreHead items → AreHead (settled_stmts objects items)
unfolding AreHead settled_stmt settled_stmts
head_settled objects none h = tt
head_settled objects (more (Expr at value) rest) h = (tt, head_settled objects rest h.1)
head_settled objects (more (Declare at object inits zeroes) rest) h = (tt, head_settled objects rest h.1)
head_settled objects (more (Static at object) rest) h = (tt, head_settled objects rest h.1)
head_settled objects (more item rest) h = absurd h.0

-- whether a statement is a case, and its value
abbrev pub case_of : TStmtTree → List ℤ
case_of (Case at value) = value ∷ []
case_of s = []

abbrev pub default_of : TStmtTree → ℕ
default_of (Default at) = 1
default_of s = 0

pub cases_more : (s : TStmtTree) (rest : TStmtTrees) → cases_among (more s rest) ≡ case_of s ++ cases_among rest
unfolding cases_among
cases_more (Empty at) rest = refl
cases_more (Expr at value) rest = refl
cases_more (Block at kind objects items) rest = refl
cases_more (Declare at object inits zeroes) rest = refl
cases_more (Static at object) rest = refl
cases_more (If at c a b) rest = refl
cases_more (While at c b) rest = refl
cases_more (DoWhile at b c) rest = refl
cases_more (For at objects head c s b) rest = refl
cases_more (Switch at value kind objects items) rest = refl
cases_more (Break at) rest = refl
cases_more (Continue at) rest = refl
cases_more (Goto at label) rest = refl
cases_more (Return at value) rest = refl
cases_more (Label at label) rest = refl
cases_more (Case at value) rest = refl
cases_more (Default at) rest = refl

pub defaults_more : (s : TStmtTree) (rest : TStmtTrees) → defaults_among (more s rest) ≡ default_of s + defaults_among rest
unfolding defaults_among
defaults_more (Empty at) rest = omega arith
defaults_more (Expr at value) rest = omega arith
defaults_more (Block at kind objects items) rest = omega arith
defaults_more (Declare at object inits zeroes) rest = omega arith
defaults_more (Static at object) rest = omega arith
defaults_more (If at c a b) rest = omega arith
defaults_more (While at c b) rest = omega arith
defaults_more (DoWhile at b c) rest = omega arith
defaults_more (For at objects head c s b) rest = omega arith
defaults_more (Switch at value kind objects items) rest = omega arith
defaults_more (Break at) rest = omega arith
defaults_more (Continue at) rest = omega arith
defaults_more (Goto at label) rest = omega arith
defaults_more (Return at value) rest = omega arith
defaults_more (Label at label) rest = omega arith
defaults_more (Case at value) rest = omega arith
defaults_more (Default at) rest = omega arith

case_settled : (objects : List ObjectTree) (s : TStmtTree) → case_of (settled_stmt objects s) ≡ case_of s
unfolding settled_stmt
case_settled objects (Empty at) = refl
case_settled objects (Expr at value) = refl
case_settled objects (Block at kind numbers items) = refl
case_settled objects (Declare at object inits zeroes) = refl
case_settled objects (Static at object) = refl
case_settled objects (If at c a b) = refl
case_settled objects (While at c b) = refl
case_settled objects (DoWhile at b c) = refl
case_settled objects (For at numbers head c s b) = refl
case_settled objects (Switch at value kind numbers items) = refl
case_settled objects (Break at) = refl
case_settled objects (Continue at) = refl
case_settled objects (Goto at label) = refl
case_settled objects (Return at value) = refl
case_settled objects (Label at label) = refl
case_settled objects (Case at value) = refl
case_settled objects (Default at) = refl

default_settled : (objects : List ObjectTree) (s : TStmtTree) → default_of (settled_stmt objects s) ≡ default_of s
unfolding settled_stmt
default_settled objects (Empty at) = refl
default_settled objects (Expr at value) = refl
default_settled objects (Block at kind numbers items) = refl
default_settled objects (Declare at object inits zeroes) = refl
default_settled objects (Static at object) = refl
default_settled objects (If at c a b) = refl
default_settled objects (While at c b) = refl
default_settled objects (DoWhile at b c) = refl
default_settled objects (For at numbers head c s b) = refl
default_settled objects (Switch at value kind numbers items) = refl
default_settled objects (Break at) = refl
default_settled objects (Continue at) = refl
default_settled objects (Goto at label) = refl
default_settled objects (Return at value) = refl
default_settled objects (Label at label) = refl
default_settled objects (Case at value) = refl
default_settled objects (Default at) = refl

pub cases_settled : (objects : List ObjectTree) (items : TStmtTrees) → cases_among (settled_stmts objects items) ≡ cases_among items
unfolding settled_stmts cases_among
cases_settled objects none = refl
cases_settled objects (more s rest) =
    cases_more (settled_stmt objects s) (settled_stmts objects rest) ∙ ap (λ l. l ++ cases_among (settled_stmts objects rest)) (case_settled objects s)
    ∙ ap (λ l. case_of s ++ l) (cases_settled objects rest) ∙ sym (cases_more s rest)

pub defaults_settled : (objects : List ObjectTree) (items : TStmtTrees) → defaults_among (settled_stmts objects items) ≡ defaults_among items
unfolding settled_stmts defaults_among
defaults_settled objects none = refl
defaults_settled objects (more s rest) =
    defaults_more (settled_stmt objects s) (settled_stmts objects rest) ∙ ap (λ n. n + defaults_among (settled_stmts objects rest)) (default_settled objects s)
    ∙ ap (λ n. default_of s + n) (defaults_settled objects rest) ∙ sym (defaults_more s rest)

-- ---- lists behind each other

pub cases_both : (xs ys : TStmtTrees) → cases_among (both xs ys) ≡ cases_among xs ++ cases_among ys
unfolding both cases_among
cases_both none ys = refl
cases_both (more s rest) ys =
    cases_more s (both rest ys) ∙ ap (λ l. case_of s ++ l) (cases_both rest ys) ∙ sym (append_assoc (case_of s) (cases_among rest) (cases_among ys))
    ∙ ap (λ l. l ++ cases_among ys) (sym (cases_more s rest))

pub defaults_both : (xs ys : TStmtTrees) → defaults_among (both xs ys) ≡ defaults_among xs + defaults_among ys
unfolding both defaults_among
defaults_both none ys = omega arith
defaults_both (more s rest) ys =
    let a = defaults_more s (both rest ys) in let b = defaults_both rest ys in let c = defaults_more s rest in omega (arith, a, b, c)
