-- The gotos that lead to no label right among the items of a block around them (this profile).
use Rattle.std.specs.Prelude.{◌≡◌, ◌==◌, ℕ, Bool, if◌then◌else◌, List, [], ◌∷◌, ◌++◌, fold}
use Rattle.std.specs.List.{list_any}
use Rattle.c_syntax_written.specs.declared.place.Pos.{Pos}
use Rattle.c_syntax.specs.TypedStmt.{TStmtTree, Block, If, While, DoWhile, For, Switch, Goto, Label, TStmtTrees, none, more}
use Rattle.c_layout.specs.Jumps.{labels_among, GotosStay}

-- the label that an item of a block is
abbrev pub own_label : TStmtTree → List ℕ
own_label (Label at label) = label ∷ []
own_label item = []

-- the label is one of these
abbrev pub has_label : List ℕ → ℕ → Bool
has_label labels label = list_any (λ x. x == label) labels

-- the places of such gotos in a statement, in the order of the text, where these labels stand in the blocks around it
unfoldable mutual
  pub strays : List ℕ → TStmtTree → List Pos
  strays around (Block at kind objects items) = strays_among (labels_among items ++ around) items
  strays around (If at condition first second) = strays around first ++ strays around second
  strays around (While at condition body) = strays around body
  strays around (DoWhile at body condition) = strays around body
  strays around (For at objects head condition step body) = strays around body
  strays around (Switch at value kind objects items) = strays_among (labels_among items ++ around) items
  strays around (Goto at label) = if has_label around label then [] else at ∷ []
  strays around _ = []

  pub strays_among : List ℕ → TStmtTrees → List Pos
  strays_among around none = []
  strays_among around (more item rest) = strays around item ++ strays_among around rest

-- the labels of the blocks around a statement, from the outermost block in
abbrev pub around_of : List (List ℕ) → List ℕ
around_of blocks = fold (λ around labels. labels ++ around) [] blocks

-- a body without such gotos is one whose gotos stay
abbrev pub GotosStayWithoutStrays : Type 0
GotosStayWithoutStrays = (body : TStmtTree) → strays [] body ≡ [] → GotosStay [] body
