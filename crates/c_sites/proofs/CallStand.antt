-- Each call is made at a site.
use Rattle.std.proofs.Common.{◌≡◌, ℕ, List, [], ◌∷◌, ◌++◌, ap}
use Rattle.std.specs.Prelude.{Option, Some, None, Contains, option_map, unwrap_or}
use Rattle.std.specs.List.{flat_map}
use Rattle.std.proofs.lemmas.List.Elements.{All-weaker, All-contains, All-contains_itself}
use Rattle.c_syntax_written.specs.declared.place.Pos.{Pos}
use Rattle.c_syntax.specs.TypedExpr.{TExprTree, Const, Null, Load, AddressOf, Decay, Whole, Unary, Binary, Convert, Assign, AssignStruct, Compound, Step, And, Or, Cond, Comma, Call, Any, Assume, Assert, TLvalueTree, Var, Deref, Member, TExprTrees}
use Rattle.c_syntax.specs.TypedExpr as exprs
use Rattle.c_syntax.specs.TypedStmt.{TInitTree, Store, Copy, TStmtTree, Empty, Expr, Block, Declare, Static, If, While, DoWhile, For, Switch, Break, Continue, Goto, Return, Label, Case, Default, TStmtTrees}
use Rattle.c_syntax.specs.TypedStmt as stmts
use Rattle.c_syntax.specs.Program.{TFunctionTree}
use Rattle.c_layout.specs.Calls.{PlacedCall, calls_of, calls_at, calls_among, init_calls, calls_if_there, stmt_calls, item_calls}
use Rattle.c_sites.specs.Sites.{Callee, Site, site, sites_of, sites_at, sites_among, init_sites, sites_if_there, stmt_sites, item_sites, function_sites, Agree}
use Rattle.c_sites.specs.SitedLaws.{CallsStandAtSites, body_calls, CallsAgree}
use Rattle.c_sites.proofs.InLists.{IsIn, here, there, EitherIn, in_first, in_second, in_left, in_right, in_either, from_contains, to_contains}

abbrev call_site : PlacedCall → Site
call_site c = site c.pos (Callee c.callee)

-- each of these calls is made at one of these sites
pub record CallsStand (calls : List PlacedCall) (sites : List Site) : Type 0 where
  pub each : (c : PlacedCall) → IsIn c calls → IsIn (call_site c) sites

no_calls : {ss : List Site} → CallsStand [] ss
no_calls = record { each = λ c i. elim i [ ] }

either_stands : {cs ds : List PlacedCall} {ss ts : List Site} {c : PlacedCall} → CallsStand cs ss → CallsStand ds ts → EitherIn c cs ds → IsIn (call_site c) (ss ++ ts)
either_stands {ts = ts} {c = c} f g (in_first i) = in_left ts (f.each c i)
either_stands {ss = ss} {c = c} f g (in_second i) = in_right ss (g.each c i)

both : (cs ds : List PlacedCall) {ss ts : List Site} → CallsStand cs ss → CallsStand ds ts → CallsStand (cs ++ ds) (ss ++ ts)
both cs ds f g = record { each = λ c i. either_stands f g (in_either cs ds i) }

behind : {cs : List PlacedCall} {s : Site} {ss : List Site} → CallsStand cs ss → CallsStand cs (s ∷ ss)
behind f = record { each = λ c i. there (f.each c i) }

-- the calls of three parts, as they stand in the node
three : (cs ds es : List PlacedCall) {ss ts us : List Site} → CallsStand cs ss → CallsStand ds ts → CallsStand es us → CallsStand (cs ++ ds ++ es) (ss ++ (ts ++ us))
three cs ds es {ss} {ts} {us} f g h = record { each = λ c i. by c (in_either (cs ++ ds) es i) }
  where
    two : (c : PlacedCall) → EitherIn c cs ds → IsIn (call_site c) (ss ++ (ts ++ us))
    two c (in_first i) = in_left (ts ++ us) (f.each c i)
    two c (in_second i) = in_right ss (in_left us (g.each c i))

    by : (c : PlacedCall) → EitherIn c (cs ++ ds) es → IsIn (call_site c) (ss ++ (ts ++ us))
    by c (in_first i) = two c (in_either cs ds i)
    by c (in_second i) = in_right ss (in_right ts (h.each c i))

four : (cs ds es fs : List PlacedCall) {ss ts us vs : List Site} → CallsStand cs ss → CallsStand ds ts → CallsStand es us → CallsStand fs vs → CallsStand (cs ++ ds ++ es ++ fs) (ss ++ (ts ++ (us ++ vs)))
four cs ds es fs {ss} {ts} {us} {vs} f g h k = record { each = λ c i. by c (in_either (cs ++ ds ++ es) fs i) }
  where
    two : (c : PlacedCall) → EitherIn c cs ds → IsIn (call_site c) (ss ++ (ts ++ (us ++ vs)))
    two c (in_first i) = in_left (ts ++ (us ++ vs)) (f.each c i)
    two c (in_second i) = in_right ss (in_left (us ++ vs) (g.each c i))

    of_three : (c : PlacedCall) → EitherIn c (cs ++ ds) es → IsIn (call_site c) (ss ++ (ts ++ (us ++ vs)))
    of_three c (in_first i) = two c (in_either cs ds i)
    of_three c (in_second i) = in_right ss (in_right ts (in_left vs (h.each c i)))

    by : (c : PlacedCall) → EitherIn c (cs ++ ds ++ es) fs → IsIn (call_site c) (ss ++ (ts ++ (us ++ vs)))
    by c (in_first i) = of_three c (in_either (cs ++ ds) es i)
    by c (in_second i) = in_right ss (in_right ts (in_right us (k.each c i)))

-- the call itself, behind those of its arguments
own_call : (at : Pos) (n : ℕ) (cs : List PlacedCall) {ss : List Site} → CallsStand cs ss → CallsStand (cs ++ record { pos = at; callee = n } ∷ []) (site at (Callee n) ∷ ss)
own_call at n cs {ss} f = record { each = λ c i. by c (in_either cs (record { pos = at; callee = n } ∷ []) i) }
  where
    by : (c : PlacedCall) → EitherIn c cs (record { pos = at; callee = n } ∷ []) → IsIn (call_site c) (site at (Callee n) ∷ ss)
    by c (in_first i) = there (f.each c i)
    by _ (in_second here) = here
    by c (in_second (there i)) = elim i [ ]

mutual
  unfolding calls_of sites_of

  of_stand : (e : TExprTree) → CallsStand (calls_of e) (sites_of e)
  of_stand (Const at ty value) = no_calls
  of_stand (Null at ty) = no_calls
  of_stand (Load at place) = at_stand place
  of_stand (AddressOf at place) = at_stand place
  of_stand (Decay at place) = at_stand place
  of_stand (Whole at place) = at_stand place
  of_stand (Unary at op operand) = behind (of_stand operand)
  of_stand (Binary at op left right) = behind (both _ _ (of_stand left) (of_stand right))
  of_stand (Convert at ty operand) = of_stand operand
  of_stand (Assign at place value) = both _ _ (at_stand place) (of_stand value)
  of_stand (AssignStruct at extent place source) = both _ _ (at_stand place) (of_stand source)
  of_stand (Compound at op place value) = behind (both _ _ (at_stand place) (of_stand value))
  of_stand (Step at time way stride place) = behind (at_stand place)
  of_stand (And at left right) = behind (both _ _ (of_stand left) (of_stand right))
  of_stand (Or at left right) = behind (both _ _ (of_stand left) (of_stand right))
  of_stand (Cond at ty condition first second) = behind (three _ _ _ (of_stand condition) (of_stand first) (of_stand second))
  of_stand (Comma at left right) = both _ _ (of_stand left) (of_stand right)
  of_stand (Call at function ty used args) = own_call at function _ (among_stand args)
  of_stand (Any at ty) = no_calls
  of_stand (Assume at operand) = behind (of_stand operand)
  of_stand (Assert at operand) = behind (of_stand operand)

  at_stand : (place : TLvalueTree) → CallsStand (calls_at place) (sites_at place)
  at_stand (Var at n ty c) = no_calls
  at_stand (Deref at kind ty c pointer) = behind (of_stand pointer)
  at_stand (Member at k offset ty c place) = behind (at_stand place)

  among_stand : (es : TExprTrees) → CallsStand (calls_among es) (sites_among es)
  among_stand exprs.none = no_calls
  among_stand (exprs.more item rest) = both _ _ (of_stand item) (among_stand rest)

init_stands : (item : TInitTree) → CallsStand (init_calls item) (init_sites item)
init_stands (Store offset ty value) = of_stand value
init_stands (Copy offset extent source) = of_stand source

inits_stand : (items : List TInitTree) → CallsStand (flat_map init_calls items) (flat_map init_sites items)
inits_stand [] = no_calls
inits_stand (item ∷ rest) = both _ _ (init_stands item) (inits_stand rest)

may_stand : (o : Option TExprTree) → CallsStand (calls_if_there o) (sites_if_there o)
may_stand None = no_calls
may_stand (Some e) = of_stand e

mutual
  unfolding stmt_calls stmt_sites

  stmt_stands : (s : TStmtTree) → CallsStand (stmt_calls s) (stmt_sites s)
  stmt_stands (Empty at) = no_calls
  stmt_stands (Expr at value) = of_stand value
  stmt_stands (Block at kind numbers items) = items_stand items
  stmt_stands (Declare at n inits zeroes_rest) = inits_stand inits
  stmt_stands (Static at n) = no_calls
  stmt_stands (If at condition first second) = behind (three _ _ _ (of_stand condition) (stmt_stands first) (stmt_stands second))
  stmt_stands (While at condition body) = behind (both _ _ (of_stand condition) (stmt_stands body))
  stmt_stands (DoWhile at body condition) = behind (both _ _ (stmt_stands body) (of_stand condition))
  stmt_stands (For at numbers head condition step body) = behind (four _ _ _ _ (items_stand head) (may_stand condition) (may_stand step) (stmt_stands body))
  stmt_stands (Switch at value kind numbers items) = both _ _ (of_stand value) (items_stand items)
  stmt_stands (Break at) = no_calls
  stmt_stands (Continue at) = no_calls
  stmt_stands (Goto at label) = no_calls
  stmt_stands (Return at value) = may_stand value
  stmt_stands (Label at label) = no_calls
  stmt_stands (Case at value) = no_calls
  stmt_stands (Default at) = no_calls

  items_stand : (items : TStmtTrees) → CallsStand (item_calls items) (item_sites items)
  items_stand stmts.none = no_calls
  items_stand (stmts.more item rest) = both _ _ (stmt_stands item) (items_stand rest)

pub calls_stand_at_sites : CallsStandAtSites
calls_stand_at_sites body =
    All-weaker (Contains (stmt_calls body)) (λ c. Contains (stmt_sites body) (call_site c))
    (λ c i. to_contains (stmt_sites body) (call_site c) ((stmt_stands body).each c (from_contains (stmt_calls body) c i))) (stmt_calls body) (All-contains_itself (stmt_calls body))

callee_of : (m n : ℕ) → Callee m ≡ Callee n → m ≡ n
callee_of m n e = cc

function_agrees : (f : TFunctionTree) → Agree (function_sites f) → (c d : PlacedCall) → Contains (body_calls f) c → Contains (body_calls f) d → c.pos ≡ d.pos → c.callee ≡ d.callee
function_agrees f a = by f.body a
  where
    by : (b : Option TStmtTree) → Agree (unwrap_or (option_map stmt_sites b) []) → (c d : PlacedCall) → Contains (unwrap_or (option_map stmt_calls b) []) c → Contains (unwrap_or (option_map stmt_calls b) []) d
        → c.pos ≡ d.pos → c.callee ≡ d.callee
    by None h c d i j e = elim (from_contains [] c i) [ ]
    by (Some s) h c d i j e =
        callee_of c.callee d.callee (ap (λ (x : Site). x.subject) (h (call_site c) (call_site d) (All-contains (λ x. Contains (stmt_sites s) (call_site x)) (stmt_calls s) c (calls_stand_at_sites s) i)
        (All-contains (λ x. Contains (stmt_sites s) (call_site x)) (stmt_calls s) d (calls_stand_at_sites s) j) e))

pub calls_agree : CallsAgree
calls_agree program agree =
    All-weaker (λ f. Agree (function_sites f)) (λ f. (c d : PlacedCall) → Contains (body_calls f) c → Contains (body_calls f) d → c.pos ≡ d.pos → c.callee ≡ d.callee)
    (λ f a. function_agrees f a) program.functions agree
