-- Which objects work may bring to life, and which functions it may call, where `of f` are those of a call of f.
use Rattle.std.specs.Prelude.{ℕ, ◌≡◌, ◌⊎◌, List, [], ◌∷◌, Contains, Option, Some, None, IsSomeAnd, slice_get}
use Rattle.c_syntax.specs.TypedExpr.{TExprTree, Const, Null, Load, AddressOf, Decay, Whole, Unary, Binary, Convert, Assign, AssignStruct}
use Rattle.c_syntax.specs.TypedExpr.{Compound, Step, And, Or, Cond, Comma, Call, Any, Assume, Assert, TLvalueTree, Var, Deref, Member, TExprTrees}
use Rattle.c_syntax.specs.TypedExpr as exprs
use Rattle.c_syntax.specs.TypedStmt.{TInitTree, Store, Copy, TStmtTree, Expr, Block, Declare, If, While, DoWhile, For, Switch, Return}
use Rattle.c_syntax.specs.TypedStmt.{TStmtTrees, none, more}
use Rattle.c_syntax.specs.Program.{TProgramTree}
use Rattle.c_layout.specs.Calls.{PlacedCall, IsChain, chain_end}
use Rattle.c_layout.specs.WellTyped.{listed_by}
use Rattle.c_steps.specs.Work.{Item, Loop, Eval, Addr, AndThen, OrElse, Pick, Choose, Enter, Do, Close, Begin, Turn, Again, Select}
use Rattle.c_objects.specs.Lifetimes.{AreDistinct}

-- an object that is brought to life, or a function that is called
pub data Use : Type 0 where
  Object : ℕ → Use
  Function : ℕ → Use

-- an object of a list
abbrev pub Lists : List ℕ → Use → Type 0
Lists xs (Object y) = Contains xs y
Lists xs (Function f) = ⊥

-- an expression, by the calls in it
abbrev mutual
  pub Opens : (ℕ → Use → Type 0) → TExprTree → Use → Type 0
  Opens of (Const at ty value) y = ⊥
  Opens of (Null at ty) y = ⊥
  Opens of (Load at place) y = OpensPlace of place y
  Opens of (AddressOf at place) y = OpensPlace of place y
  Opens of (Decay at place) y = OpensPlace of place y
  Opens of (Whole at place) y = OpensPlace of place y
  Opens of (Unary at op a) y = Opens of a y
  Opens of (Binary at op a b) y = Opens of a y ⊎ Opens of b y
  Opens of (Convert at ty a) y = Opens of a y
  Opens of (Assign at place a) y = OpensPlace of place y ⊎ Opens of a y
  Opens of (AssignStruct at extent place a) y = OpensPlace of place y ⊎ Opens of a y
  Opens of (Compound at op place a) y = OpensPlace of place y ⊎ Opens of a y
  Opens of (Step at time way stride place) y = OpensPlace of place y
  Opens of (And at a b) y = Opens of a y ⊎ Opens of b y
  Opens of (Or at a b) y = Opens of a y ⊎ Opens of b y
  Opens of (Cond at ty c a b) y = Opens of c y ⊎ (Opens of a y ⊎ Opens of b y)
  Opens of (Comma at a b) y = Opens of a y ⊎ Opens of b y
  Opens of (Call at f ty used args) y = OpensAmong of args y ⊎ of f y
  Opens of (Any at ty) y = ⊥
  Opens of (Assume at a) y = Opens of a y
  Opens of (Assert at a) y = Opens of a y

  pub OpensPlace : (ℕ → Use → Type 0) → TLvalueTree → Use → Type 0
  OpensPlace of (Var at x ty is_const) y = ⊥
  OpensPlace of (Deref at kind ty is_const a) y = Opens of a y
  OpensPlace of (Member at k offset ty is_const place) y = OpensPlace of place y

  pub OpensAmong : (ℕ → Use → Type 0) → TExprTrees → Use → Type 0
  OpensAmong of exprs.none y = ⊥
  OpensAmong of (exprs.more e rest) y = Opens of e y ⊎ OpensAmong of rest y

abbrev pub OpensMaybe : (ℕ → Use → Type 0) → Option TExprTree → Use → Type 0
OpensMaybe of None y = ⊥
OpensMaybe of (Some e) y = Opens of e y

abbrev pub OpensInits : (ℕ → Use → Type 0) → List TInitTree → Use → Type 0
OpensInits of [] y = ⊥
OpensInits of (Store offset ty e ∷ inits) y = Opens of e y ⊎ OpensInits of inits y
OpensInits of (Copy offset extent e ∷ inits) y = Opens of e y ⊎ OpensInits of inits y

-- a statement, by its blocks too
abbrev mutual
  pub OpensStmt : (ℕ → Use → Type 0) → TStmtTree → Use → Type 0
  OpensStmt of (Expr at e) y = Opens of e y
  OpensStmt of (Block at kind xs items) y = Lists xs y ⊎ OpensItems of items y
  OpensStmt of (Declare at x inits zeroes_rest) y = OpensInits of inits y
  OpensStmt of (If at c a b) y = Opens of c y ⊎ (OpensStmt of a y ⊎ OpensStmt of b y)
  OpensStmt of (While at c b) y = Opens of c y ⊎ OpensStmt of b y
  OpensStmt of (DoWhile at b c) y = OpensStmt of b y ⊎ Opens of c y
  OpensStmt of (For at xs head c e b) y = Lists xs y ⊎ (OpensItems of head y ⊎ (OpensMaybe of c y ⊎ (OpensMaybe of e y ⊎ OpensStmt of b y)))
  OpensStmt of (Switch at e kind xs items) y = Opens of e y ⊎ (Lists xs y ⊎ OpensItems of items y)
  OpensStmt of (Return at e) y = OpensMaybe of e y
  OpensStmt of statement y = ⊥

  pub OpensItems : (ℕ → Use → Type 0) → TStmtTrees → Use → Type 0
  OpensItems of none y = ⊥
  OpensItems of (more statement rest) y = OpensStmt of statement y ⊎ OpensItems of rest y

-- a block lists no object twice, and what stands in it opens none of those that it lists
abbrev pub Misses : List ℕ → (Use → Type 0) → Type 0
Misses xs opened = AreDistinct xs × ((y : ℕ) → Contains xs y → opened (Object y) → ⊥)

-- so it is for each block in a statement
abbrev mutual
  pub Apart : (ℕ → Use → Type 0) → TStmtTree → Type 0
  Apart of (Block at kind xs items) = Misses xs (OpensItems of items) × ApartItems of items
  Apart of (If at c a b) = Apart of a × Apart of b
  Apart of (While at c b) = Apart of b
  Apart of (DoWhile at b c) = Apart of b
  Apart of (For at xs head c e b) =
      Misses xs (λ y. OpensItems of head y ⊎ (OpensMaybe of c y ⊎ (OpensMaybe of e y ⊎ OpensStmt of b y))) × ApartItems of head × Apart of b
  Apart of (Switch at e kind xs items) = Misses xs (OpensItems of items) × ApartItems of items
  Apart of statement = Unit {0}

  pub ApartItems : (ℕ → Use → Type 0) → TStmtTrees → Type 0
  ApartItems of none = Unit {0}
  ApartItems of (more statement rest) = Apart of statement × ApartItems of rest

abbrev pub ApartBlock : (ℕ → Use → Type 0) → List ℕ → TStmtTrees → Type 0
ApartBlock of xs items = Misses xs (OpensItems of items) × ApartItems of items

abbrev pub OpensLoop : (ℕ → Use → Type 0) → Loop → Use → Type 0
OpensLoop of loop y = OpensMaybe of loop.condition y ⊎ (OpensMaybe of loop.step y ⊎ OpensStmt of loop.body y)

-- an item of the work; the end of a block opens what its items do, since a goto comes back to them
abbrev pub OpensItem : (ℕ → Use → Type 0) → Item → Use → Type 0
OpensItem of (Eval e) y = Opens of e y
OpensItem of (Addr place) y = OpensPlace of place y
OpensItem of (AndThen at ty e) y = Opens of e y
OpensItem of (OrElse at ty e) y = Opens of e y
OpensItem of (Pick at ty a b) y = Opens of a y ⊎ Opens of b y
OpensItem of (Choose at ty a b) y = OpensStmt of a y ⊎ OpensStmt of b y
OpensItem of (Enter at f end) y = of f y
OpensItem of (Do statement) y = OpensStmt of statement y
OpensItem of (Begin k loop) y = OpensLoop of loop y
OpensItem of (Turn k loop) y = OpensLoop of loop y
OpensItem of (Again k loop) y = OpensLoop of loop y
OpensItem of (Select xs items) y = Lists xs y ⊎ OpensItems of items y
OpensItem of (Close xs items) y = Lists xs y ⊎ OpensItems of items y
OpensItem of item y = ⊥

abbrev pub ApartItem : (ℕ → Use → Type 0) → Item → Type 0
ApartItem of (Choose at ty a b) = Apart of a × Apart of b
ApartItem of (Do statement) = Apart of statement
ApartItem of (Begin k loop) = Apart of loop.body
ApartItem of (Turn k loop) = Apart of loop.body
ApartItem of (Again k loop) = Apart of loop.body
ApartItem of (Select xs items) = ApartBlock of xs items
ApartItem of (Close xs items) = ApartBlock of xs items
ApartItem of item = Unit {0}

-- calls lead from one function to the other, by way of any number of functions
pub record Leads (p : TProgramTree) (f g : ℕ) : Type 0 where
  pub chain : List PlacedCall
  pub calls : IsChain p f chain
  pub ends : chain_end f chain ≡ g

-- a call: each function that calls lead to, and its objects
abbrev pub OpensCall : TProgramTree → ℕ → Use → Type 0
OpensCall p f (Object y) = (g : ℕ) × Leads p f g × IsSomeAnd (slice_get p.functions g) (λ function. Contains (listed_by function) y)
OpensCall p f (Function g) = Leads p f g
