-- Each check of a lowered program is made at a site of its function; so checks of one place look at the same.
use Rattle.std.proofs.Common.{◌≡◌, ℕ, List, [], ◌∷◌, length, Option, Some, None, false, refl, sym, ap, ◌∙◌, subst, arith}
use Rattle.std.specs.Prelude.{All, IfSome, Contains, option_map, unwrap_or, slice_get}
use Rattle.c_syntax_written.specs.declared.place.Pos.{Pos}
use Rattle.c_syntax.specs.declared.program.Plan.{Plan}
use Rattle.c_syntax.specs.TypedStmt.{TStmtTree}
use Rattle.c_syntax.specs.Program.{TFunctionTree, TProgramTree}
use Rattle.c_layout.specs.Calls.{PlacedCall, function_calls}
use Rattle.c_layout.specs.WellTyped.{EachOf}
use Rattle.c_sites.specs.Sites.{Subject, InObject, OneOperand, TwoPointers, Callee, site, stmt_sites, function_sites, Agree, SitesAgree}
use Rattle.c_sites.specs.SitedLaws.{CallsAgree, body_calls}
use Rattle.c_steps_laws.specs.Fits.{Runs}
use Rattle.c_steps_laws.proofs.Sizes.{all_at}
use Rattle.csharp.specs.Trees.{CsCallTree, CsCheckTree, CsExprTree, CsFunctionTree, CsProgramTree}
use Rattle.csharp.specs.Formed.{Each, nothing_around}
use Rattle.lower_trees.specs.Correct.{IsOf}
use Rattle.lower_trees.specs.LowerStmt.{InLoop}
use Rattle.lower_trees.specs.LowerProgram.{Placed, function_in, param_temps, lower}
use Rattle.lower_trees.specs.Named.{IsNamed}
use Rattle.lower_formed.specs.Every.{Every}
use Rattle.lower_formed.proofs.Bodied.{body_every}
use Rattle.lower_formed.proofs.Each.{every_each, function_at}
use Rattle.lower_formed.proofs.Whole.{lowered_is_made}
use Rattle.lower_formed.proofs.Placing.{Bodied, all, q, bodiless, code, run_body, stands_at}
use Rattle.alarm_claims.specs.Admitted.{SomeIn}
use Rattle.alarm_claims.specs.Forms.{IsChecked}
use Rattle.lower_sites_laws.specs.Looks.{Looks, sites_in, IsSited}
use Rattle.lower_sites_laws.specs.Laws.{LoweredChecksAreSited, LoweredChecksAreOfOneForm, LoweredPlacesAreNamed, LoweredCallsAgree, IsCalled}
use Rattle.lower_sites_laws.proofs.Found.{check_found, call_found}
use Rattle.lower_sites_laws.proofs.Stmts.{sited_stmt}

module _ (p : TProgramTree) (plan : Plan) (runs : Runs p plan) where
  abbrev Q : CsProgramTree
  Q = q p plan runs

  abbrev A : List Placed
  A = all p plan runs

  abbrev P : ℕ → CsFunctionTree → Type 0
  P f function = Each (λ around a. IsSited (sites_in p f) a) nothing_around function.body

  sites_are : (f : ℕ) (b : Bodied p f) → sites_in p f ≡ stmt_sites b.body
  sites_are f b = rw b.found (rw b.has refl)

  sited_body : (f : ℕ) (b : Bodied p f) → Every (IsSited (sites_in p f)) (code p plan runs f b)
  sited_body f b =
      let s = stands_at p plan runs f b in
      let mine = run_body p plan runs f b in
      body_every (IsSited (sites_in p f)) (λ ty e g. tt) (λ x y. tt) (λ e. tt) p f s.base b.function.params b.body tt
      (sited_stmt (sites_in p f) p b.body b.function.params [] b.function.result false false false s.base InLoop mine.typed.typed
      (λ s m. subst (λ xs. Contains xs s) (sym (sites_are f b)) m)).is

  with_body : (f : ℕ) (b : Bodied p f) → P f (record { params = param_temps p (stands_at p plan runs f b).base b.function.params; body = code p plan runs f b })
  with_body f b = every_each (IsSited (sites_in p f)) (code p plan runs f b) nothing_around (sited_body f b)

  body_case : (f : ℕ) (function : TFunctionTree) (o : Option TStmtTree) → slice_get p.functions f ≡ Some function → function.body ≡ o → P f (function_in A f)
  body_case f function None e g = subst (P f) (sym (bodiless p plan runs f function e g)) tt
  body_case f function (Some body) e g =
      let b : Bodied p f = record { function = function; body = body; found = e; has = g } in
      subst (P f) (sym (stands_at p plan runs f b).is) (with_body f b)

  function_case : (f : ℕ) (o : Option TFunctionTree) → slice_get p.functions f ≡ o → IfSome (option_map (λ x. function_in A f) o) (P f)
  function_case f None e = tt
  function_case f (Some function) e = body_case f function function.body e refl

  pub sited : EachOf Q.functions P
  sited f = subst (λ o. IfSome o (P f)) (sym (function_at A p.functions f)) (function_case f (slice_get p.functions f) refl)

-- ---- how many operands

abbrev count : Subject → ℕ
count (InObject x z) = 1
count OneOperand = 1
count TwoPointers = 2
count (Callee g) = 1

counted : (s : Subject) (es : List CsExprTree) → Looks s es → length es ≡ count s
counted (InObject x z) [] h = absurd h
counted (InObject x z) (a ∷ []) h = refl
counted (InObject x z) (a ∷ b ∷ es) h = absurd h
counted OneOperand [] h = absurd h
counted OneOperand (a ∷ []) h = refl
counted OneOperand (a ∷ b ∷ es) h = absurd h
counted TwoPointers [] h = absurd h
counted TwoPointers (a ∷ []) h = absurd h
counted TwoPointers (a ∷ b ∷ []) h = refl
counted TwoPointers (a ∷ b ∷ c ∷ es) h = absurd h
counted (Callee g) [] h = absurd h
counted (Callee g) (a ∷ []) h = refl
counted (Callee g) (a ∷ b ∷ es) h = absurd h

named : (x : ℕ) (z : _) (es : List CsExprTree) → Looks (InObject x z) es → (e : CsExprTree) × (es ≡ e ∷ []) × IsNamed x 1 e
named x z [] h = absurd h
named x z (a ∷ []) h = (a, refl, h)
named x z (a ∷ b ∷ es) h = absurd h

-- ---- sites at one place

agree_case : (p : TProgramTree) (f : ℕ) (o : Option TFunctionTree) → SitesAgree p → slice_get p.functions f ≡ o → Agree (unwrap_or (option_map function_sites o) [])
agree_case p f None agree e = λ s t (k, lt, is) n same. absurd (omega (arith, lt))
agree_case p f (Some function) agree e = all_at (λ function. Agree (function_sites function)) p.functions f function agree e

agree_in : (p : TProgramTree) → SitesAgree p → (f : ℕ) → Agree (sites_in p f)
agree_in p agree f = agree_case p f (slice_get p.functions f) agree refl

same_subject : (p : TProgramTree) → SitesAgree p → (f : ℕ) (at to : Pos) (s t : Subject) → Contains (sites_in p f) (site at s) → Contains (sites_in p f) (site to t) → at ≡ to → s ≡ t
same_subject p agree f at to s t m n e = ap (λ x. x.subject) (agree_in p agree f (site at s) (site to t) m n e)

body_sited : (p : TProgramTree) (plan : Plan) → Runs p plan → (f : ℕ) (function : CsFunctionTree) → slice_get (lower p plan).functions f ≡ Some function
    → Each (λ around a. IsSited (sites_in p f) a) nothing_around function.body
body_sited p plan runs f function e =
    subst (λ o. IfSome o (λ (x : CsFunctionTree). Each (λ around a. IsSited (sites_in p f) a) nothing_around x.body)) e (sited p plan runs f)

pub lowered_checks_are_sited : LoweredChecksAreSited
lowered_checks_are_sited p plan runs = sited p plan runs

one_form : (p : TProgramTree) (plan : Plan) → Runs p plan → SitesAgree p → (f : ℕ) (o : Option CsFunctionTree) → slice_get (lower p plan).functions f ≡ o
    → IfSome o (λ function. (c d : CsCheckTree) → SomeIn (IsChecked c) function.body → SomeIn (IsChecked d) function.body → c.pos ≡ d.pos → c.check.kind ≡ d.check.kind → length c.operands ≡ length d.operands)
one_form p plan runs agree f None e = tt
one_form p plan runs agree f (Some function) e = λ c d hc hd at kind.
    let each = body_sited p plan runs f function e in
    let (s, ms, ls) = check_found (IsSited (sites_in p f)) c function.body nothing_around each hc in
    let (t, mt, lt) = check_found (IsSited (sites_in p f)) d function.body nothing_around each hd in
    let same : s ≡ t = same_subject p agree f c.pos d.pos s t ms mt at in
    counted s c.operands ls ∙ ap count same ∙ sym (counted t d.operands lt)

pub lowered_checks_are_of_one_form : LoweredChecksAreOfOneForm
lowered_checks_are_of_one_form p plan runs agree f = one_form p plan runs agree f (slice_get (lower p plan).functions f) refl

pub lowered_places_are_named : LoweredPlacesAreNamed
lowered_places_are_named p plan runs agree f function e at x z m c h is =
    let (s, ms, ls) = check_found (IsSited (sites_in p f)) c function.body nothing_around (body_sited p plan runs f function e) h in
    let same : s ≡ InObject x z = same_subject p agree f c.pos at s (InObject x z) ms m is in
    named x z c.operands (subst (λ s. Looks s c.operands) same ls)

-- ---- calls

-- calls at one place of a function are of one function
abbrev IsOneCallee : TProgramTree → Type 0
IsOneCallee p =
    All (λ function. (c d : PlacedCall) → Contains (body_calls function) c → Contains (body_calls function) d → c.pos ≡ d.pos → c.callee ≡ d.callee) p.functions

call_case : (p : TProgramTree) (f : ℕ) (o : Option TFunctionTree) → IsOneCallee p → slice_get p.functions f ≡ o
    → (a b : PlacedCall) → Contains (function_calls p f) a → Contains (function_calls p f) b → a.pos ≡ b.pos → a.callee ≡ b.callee
call_case p f None one e a b m n same =
    let none : function_calls p f ≡ [] = rw e refl in
    let (k, lt, is) = subst (λ xs. Contains xs a) none m in absurd (omega (arith, lt))
call_case p f (Some function) one e a b m n same =
    let calls : function_calls p f ≡ body_calls function = rw e refl in
    all_at (λ function. (a b : PlacedCall) → Contains (body_calls function) a → Contains (body_calls function) b → a.pos ≡ b.pos → a.callee ≡ b.callee) p.functions f function one e a b
    (subst (λ xs. Contains xs a) calls m) (subst (λ xs. Contains xs b) calls n) same

one_callee : (p : TProgramTree) (plan : Plan) → Runs p plan → IsOneCallee p → (f : ℕ) (o : Option CsFunctionTree) → slice_get (lower p plan).functions f ≡ o
    → IfSome o (λ function. (c d : CsCallTree) → SomeIn (IsCalled c) function.body → SomeIn (IsCalled d) function.body → c.pos ≡ d.pos → c.function ≡ d.function)
one_callee p plan runs one f None e = tt
one_callee p plan runs one f (Some function) e = λ c d hc hd at.
    let each = subst (λ o. IfSome o (λ (x : CsFunctionTree). Each (λ around a. IsOf p f a) nothing_around x.body)) e (lowered_is_made p plan runs f) in
    call_case p f (slice_get p.functions f) one refl (record { pos = c.pos; callee = c.function }) (record { pos = d.pos; callee = d.function })
    (call_found (IsOf p f) c function.body nothing_around each hc) (call_found (IsOf p f) d function.body nothing_around each hd) at

pub lowered_calls_agree : CallsAgree → LoweredCallsAgree
lowered_calls_agree law p plan runs agree f = one_callee p plan runs (law p agree) f (slice_get (lower p plan).functions f) refl
