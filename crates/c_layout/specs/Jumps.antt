-- The labels, gotos and cases of statements, and the objects that their blocks list.
use Rattle.std.specs.Prelude.{ℕ, ℤ, ◌+◌, List, [], ◌∷◌, ◌++◌, Contains}
use Rattle.c_syntax.specs.TypedStmt.{TStmtTree, Block, If, While, DoWhile, For, Switch, Goto, Label, Case, Default, TStmtTrees, none, more}

-- every label in a statement, in the order of the text
unfoldable mutual
  pub labels_of : TStmtTree → List ℕ
  labels_of (Block at kind objects items) = labels_in items
  labels_of (If at condition first second) = labels_of first ++ labels_of second
  labels_of (While at condition body) = labels_of body
  labels_of (DoWhile at body condition) = labels_of body
  labels_of (For at objects head condition step body) = labels_in head ++ labels_of body
  labels_of (Switch at value kind objects items) = labels_in items
  labels_of (Label at label) = label ∷ []
  labels_of _ = []

  pub labels_in : TStmtTrees → List ℕ
  labels_in none = []
  labels_in (more item rest) = labels_of item ++ labels_in rest

-- the label of every goto in a statement, in the order of the text
unfoldable mutual
  pub gotos_of : TStmtTree → List ℕ
  gotos_of (Block at kind objects items) = gotos_in items
  gotos_of (If at condition first second) = gotos_of first ++ gotos_of second
  gotos_of (While at condition body) = gotos_of body
  gotos_of (DoWhile at body condition) = gotos_of body
  gotos_of (For at objects head condition step body) = gotos_in head ++ gotos_of body
  gotos_of (Switch at value kind objects items) = gotos_in items
  gotos_of (Goto at label) = label ∷ []
  gotos_of _ = []

  pub gotos_in : TStmtTrees → List ℕ
  gotos_in none = []
  gotos_in (more item rest) = gotos_of item ++ gotos_in rest

-- every object that a block, a loop's head or a switch in a statement lists
unfoldable mutual
  pub listed_of : TStmtTree → List ℕ
  listed_of (Block at kind objects items) = objects ++ listed_in items
  listed_of (If at condition first second) = listed_of first ++ listed_of second
  listed_of (While at condition body) = listed_of body
  listed_of (DoWhile at body condition) = listed_of body
  listed_of (For at objects head condition step body) = objects ++ listed_in head ++ listed_of body
  listed_of (Switch at value kind objects items) = objects ++ listed_in items
  listed_of _ = []

  pub listed_in : TStmtTrees → List ℕ
  listed_in none = []
  listed_in (more item rest) = listed_of item ++ listed_in rest

-- the labels that stand right among the items of a block
unfoldable pub labels_among : TStmtTrees → List ℕ
labels_among none = []
labels_among (more (Label at label) rest) = label ∷ labels_among rest
labels_among (more item rest) = labels_among rest

-- the values of the cases right among the items of a switch
unfoldable pub cases_among : TStmtTrees → List ℤ
cases_among none = []
cases_among (more (Case at value) rest) = value ∷ cases_among rest
cases_among (more item rest) = cases_among rest

-- how many defaults stand right among the items of a switch
unfoldable pub defaults_among : TStmtTrees → ℕ
defaults_among none = 0
defaults_among (more (Default at) rest) = 1 + defaults_among rest
defaults_among (more item rest) = defaults_among rest

-- each goto in a statement leads to a label right among the items of a block around it, where these labels stand in the blocks around the statement
unfoldable mutual
  pub GotosStay : List ℕ → TStmtTree → Type 0
  GotosStay around (Block at kind objects items) = GotosStayIn (labels_among items ++ around) items
  GotosStay around (If at condition first second) = GotosStay around first × GotosStay around second
  GotosStay around (While at condition body) = GotosStay around body
  GotosStay around (DoWhile at body condition) = GotosStay around body
  GotosStay around (For at objects head condition step body) = GotosStay around body
  GotosStay around (Switch at value kind objects items) = GotosStayIn (labels_among items ++ around) items
  GotosStay around (Goto at label) = Contains around label
  GotosStay around _ = Unit {0}

  pub GotosStayIn : List ℕ → TStmtTrees → Type 0
  GotosStayIn around none = Unit {0}
  GotosStayIn around (more item rest) = GotosStay around item × GotosStayIn around rest
