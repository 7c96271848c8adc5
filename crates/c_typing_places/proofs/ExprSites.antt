-- Whole expressions: what is typed stands at the places of what is written.
use Rattle.std.proofs.Common.{◌≡◌, List, [], ◌∷◌, ◌++◌, sym, ap, subst, ◌∙◌}
use Rattle.std.specs.Prelude.{nat_le}
use Rattle.std.proofs.lemmas.List.{append-nil, append_assoc}
use Rattle.c_syntax_written.specs.declared.place.Pos.{Pos}
use Rattle.c_syntax_written.specs.Written as written
use Rattle.c_syntax_written.specs.Written.{ExprTree, ExprTrees}
use Rattle.c_syntax.specs.declared.operator.StepTime.TheVariants as times
use Rattle.c_syntax.specs.TypedExpr.{TExprTree, TExprTrees, none, more, texprs_then}
use Rattle.c_grammar_laws.specs.NodePlaces.{expr_places, exprs_places}
use Rattle.c_typing.specs.World.{World, Outcome, Typed, Refused, Then, Is}
use Rattle.c_typing.specs.Operands.{OperandTree, operand_type}
use Rattle.c_typing.specs.Typing.{Types, TypesArgs, Valued}
use Rattle.c_sites.specs.Sites.{Site, sites_of, sites_among}
use Rattle.c_typing_laws.proofs.Outcomes.{typed_as, refused_as, AllTyped, then_as, is_as, as_made}
use Rattle.c_sites.proofs.InLists.{Distinct, distinct_left, distinct_right, distinct_rest}
use Rattle.c_typing_places.proofs.Spread.{Among, among_none, among_made, among_both}
use Rattle.c_typing_places.proofs.RowSites.{operand_sites, value_same}
use Rattle.c_typing_places.proofs.NodeSites.{NodeMade, outcome_if, word_node, number_node, character_node, literal_node, unary_node, binary_node, index_node, member_node, arrow_node, assigned_node, compound_node, before_node, after_node, conditional_node, comma_node, size_node, form_node, cast_node, call_node}

-- the sites of what is typed stand at these places
abbrev pub SpreadBy : {A : Type 0} → (A → List Site) → List Pos → A → World → Type 0
SpreadBy f ps x v = Among ps (f x)

pub anything : {A : Type 0} (kind : Outcome A → Type 0) → AllTyped (λ (a : A) (v : World). Unit {0}) kind
anything kind (Typed a v) k = typed_as tt
anything kind (Refused r) k = refused_as

pub valued : {ps : List Pos} {types : Outcome OperandTree → Type 0} → AllTyped (SpreadBy operand_sites ps) types → AllTyped (SpreadBy sites_of ps) (Valued types)
valued {ps} f = then_as f (λ x w a. is_as (typed_as (subst (Among ps) (sym (value_same x)) a)))

node_spread : (at : Pos) (ps qs : List Pos) {xs ys : List Site} {o : Outcome OperandTree} → Distinct (ps ++ at ∷ qs) → Among ps xs → Among qs ys → NodeMade at xs ys o
    → AllTyped (SpreadBy operand_sites (ps ++ at ∷ qs)) (Is o)
node_spread at ps qs d a b m = is_as (as_made (λ y v n. among_made at ps qs d a b n) m)

leaf : (at : Pos) {o : Outcome OperandTree} → Distinct (at ∷ []) → NodeMade at [] [] o → AllTyped (SpreadBy operand_sites (at ∷ [])) (Is o)
leaf at d m = node_spread at [] [] d among_none among_none m

-- a node behind one part, and before one
behind : {A : Type 0} (f : A → List Site) (at : Pos) (ps : List Pos) {types : Outcome A → Type 0} {n : World → A → Outcome OperandTree} → Distinct (ps ++ at ∷ []) → AllTyped (SpreadBy f ps) types
    → ((v : World) (x : A) → NodeMade at (f x) [] (n v x)) → AllTyped (SpreadBy operand_sites (ps ++ at ∷ [])) (Then types (λ x v. Is (n v x)))
behind f at ps d h g = then_as h (λ x v a. node_spread at ps [] d a among_none (g v x))

before : {A : Type 0} (f : A → List Site) (at : Pos) (qs : List Pos) {types : Outcome A → Type 0} {n : World → A → Outcome OperandTree} → Distinct (at ∷ qs) → AllTyped (SpreadBy f qs) types
    → ((v : World) (x : A) → NodeMade at [] (f x) (n v x)) → AllTyped (SpreadBy operand_sites (at ∷ qs)) (Then types (λ x v. Is (n v x)))
before f at qs d h g = then_as h (λ x v a. node_spread at [] qs d among_none a (g v x))

-- a node between two parts
between :
    {A B : Type 0} (f : A → List Site) (g : B → List Site) (at : Pos) (ps qs : List Pos) {first : Outcome A → Type 0} {second : World → Outcome B → Type 0} {n : World → A → B → Outcome OperandTree}
    → Distinct (ps ++ at ∷ qs) → AllTyped (SpreadBy f ps) first → ((w : World) → AllTyped (SpreadBy g qs) (second w)) → ((v : World) (x : A) (y : B) → NodeMade at (f x) (g y) (n v x y))
    → AllTyped (SpreadBy operand_sites (ps ++ at ∷ qs)) (Then first (λ x w. Then (second w) (λ y v. Is (n v x y))))
between f g at ps qs d h k m = then_as h (λ x w a. then_as (k w) (λ y v b. node_spread at ps qs d a b (m v x y)))

left_of : (at : Pos) (ps qs : List Pos) → Distinct (ps ++ at ∷ qs) → Distinct ps
left_of at ps qs d = distinct_left ps (at ∷ qs) d

right_of : (at : Pos) (ps qs : List Pos) → Distinct (ps ++ at ∷ qs) → Distinct qs
right_of at ps qs d = distinct_rest at qs (distinct_right ps (at ∷ qs) d)

then_same : (list : TExprTrees) (e : TExprTree) → sites_among (texprs_then list e) ≡ sites_among list ++ sites_of e
unfolding sites_among texprs_then
then_same none e = append-nil (sites_of e)
then_same (more x rest) e = ap (λ xs. sites_of x ++ xs) (then_same rest e) ∙ sym (append_assoc (sites_of x) (sites_among rest) (sites_of e))

no_arguments : Among [] (sites_among none)
unfolding sites_among
no_arguments = among_none

mutual
  unfolding Types expr_places TypesArgs exprs_places

  pub expr_spread : (e : ExprTree) (w : World) → Distinct (expr_places e) → AllTyped (SpreadBy operand_sites (expr_places e)) (Types w e)
  expr_spread (written.Word at name) w d = leaf at d (word_node w at name)
  expr_spread (written.Number at c) w d = leaf at d (outcome_if (nat_le c.longs 2) (number_node w at c) refused_as)
  expr_spread (written.Character at byte) w d = leaf at d (character_node w at byte)
  expr_spread (written.Strings at bytes) w d = leaf at d (literal_node w at bytes)
  expr_spread (written.Enclosed at inner) w d = expr_spread inner w d
  expr_spread (written.Index at base index) w d =
      between sites_of sites_of at (expr_places base) (expr_places index) d (valued (expr_spread base w (left_of at (expr_places base) (expr_places index) d)))
      (λ v. valued (expr_spread index v (right_of at (expr_places base) (expr_places index) d))) (λ v a b. index_node v at a b)
  expr_spread (written.Call at name args) w d =
      before sites_among at (exprs_places args) d (args_spread args w none [] (right_of at [] (exprs_places args) d) no_arguments) (λ v values. call_node v at name values)
  expr_spread (written.Dot at base name) w d = behind operand_sites at (expr_places base) d (expr_spread base w (left_of at (expr_places base) [] d)) (λ v x. member_node v at name x)
  expr_spread (written.Arrow at base name) w d = behind sites_of at (expr_places base) d (valued (expr_spread base w (left_of at (expr_places base) [] d))) (λ v x. arrow_node v at name x)
  expr_spread (written.PostStep at way operand) w d = behind operand_sites at (expr_places operand) d (expr_spread operand w (left_of at (expr_places operand) [] d)) (λ v x. after_node v at times.After way x)
  expr_spread (written.PreStep at way operand) w d = before operand_sites at (expr_places operand) d (expr_spread operand w (right_of at [] (expr_places operand) d)) (λ v x. before_node v at times.Before way x)
  expr_spread (written.Unary at op operand) w d = before operand_sites at (expr_places operand) d (expr_spread operand w (right_of at [] (expr_places operand) d)) (λ v x. unary_node v at op x)
  expr_spread (written.SizeofExpr at operand) w d = then_as (anything (Types w operand)) (λ x v a. leaf at d (size_node v at (operand_type x)))
  expr_spread (written.SizeofType at specs declarator) w d = then_as (anything _) (λ form v a. leaf at d (form_node v at form))
  expr_spread (written.Cast at specs declarator operand) w d =
      then_as (anything _) (λ form v a. before sites_of at (expr_places operand) d (valued (expr_spread operand v (right_of at [] (expr_places operand) d))) (λ u x. cast_node u at form x))
  expr_spread (written.Binary at op left right) w d =
      between sites_of sites_of at (expr_places left) (expr_places right) d (valued (expr_spread left w (left_of at (expr_places left) (expr_places right) d)))
      (λ v. valued (expr_spread right v (right_of at (expr_places left) (expr_places right) d))) (λ v a b. binary_node v at op a b)
  expr_spread (written.Cond at condition first second) w d =
      let r = right_of at (expr_places condition) (expr_places first ++ expr_places second) d in
      then_as (valued (expr_spread condition w (left_of at (expr_places condition) (expr_places first ++ expr_places second) d))) (λ z w1 c.
      then_as (valued (expr_spread first w1 (distinct_left (expr_places first) (expr_places second) r))) (λ x w2 a.
      then_as (valued (expr_spread second w2 (distinct_right (expr_places first) (expr_places second) r))) (λ y w3 b.
      node_spread at (expr_places condition) (expr_places first ++ expr_places second) d c
      (among_both (expr_places first) (expr_places second) (sites_of x) (sites_of y) r a b) (conditional_node w3 at z x y))))
  expr_spread (written.Assign at left right) w d =
      between operand_sites sites_of at (expr_places left) (expr_places right) d (expr_spread left w (left_of at (expr_places left) (expr_places right) d))
      (λ v. valued (expr_spread right v (right_of at (expr_places left) (expr_places right) d))) (λ v a b. assigned_node v at a b)
  expr_spread (written.Compound at op left right) w d =
      between operand_sites sites_of at (expr_places left) (expr_places right) d (expr_spread left w (left_of at (expr_places left) (expr_places right) d))
      (λ v. valued (expr_spread right v (right_of at (expr_places left) (expr_places right) d))) (λ v a b. compound_node v at op a b)
  expr_spread (written.Comma at left right) w d =
      between sites_of sites_of at (expr_places left) (expr_places right) d (valued (expr_spread left w (left_of at (expr_places left) (expr_places right) d)))
      (λ v. valued (expr_spread right v (right_of at (expr_places left) (expr_places right) d))) (λ v a b. comma_node v at a b)

  -- arguments, behind those that stand before them
  args_spread : (es : ExprTrees) (w : World) (done : TExprTrees) (ps : List Pos) → Distinct (ps ++ exprs_places es) → Among ps (sites_among done)
      → AllTyped (SpreadBy sites_among (ps ++ exprs_places es)) (TypesArgs w done es)
  args_spread written.no_exprs w done ps d a = is_as (typed_as (subst (λ qs. Among qs (sites_among done)) (sym (append-nil ps)) a))
  args_spread (written.more_exprs e es) w done ps d a =
      let whole = append_assoc ps (expr_places e) (exprs_places es) in
      let d2 = subst Distinct (sym whole) d in
      let d1 = distinct_left (ps ++ expr_places e) (exprs_places es) d2 in
      then_as (valued (expr_spread e w (distinct_right ps (expr_places e) d1))) (λ x v b.
      subst (λ qs. AllTyped (SpreadBy sites_among qs) (TypesArgs v (texprs_then done x) es)) whole
      (args_spread es v (texprs_then done x) (ps ++ expr_places e) d2
      (subst (Among (ps ++ expr_places e)) (sym (then_same done x)) (among_both ps (expr_places e) (sites_among done) (sites_of x) d1 a b))))
