-- A world and a tree have one outcome.
use Rattle.std.proofs.Common.{◌≡◌, sym, ◌∙◌, subst}
use Rattle.std.specs.Prelude.{Bool}
use Rattle.c_syntax_written.specs.Written as written
use Rattle.c_typing.specs.World.{World, Outcome, Typed, Refused, Then, goes_on, stops, Is}
use Rattle.c_typing.specs.Operands.{OperandTree}
use Rattle.c_typing.specs.Typing.{Types, TypesArgs, TypesSpecs, TypesSpec, TypesMembers, TypesMemberNames, TypesEnumerators, TypesDeclarator, TypesParams, Valued}
use Rattle.c_typing.specs.Laws.{One}

-- what comes after an outcome
abbrev After : {A B : Type 0} → (A → World → Outcome B → Type 0) → Outcome A → Outcome B → Type 0
After next (Typed a w) o = next a w o
After next (Refused r) o = ⊥

-- where each part has one outcome, so has the one and then the other
pub then_one : {A B : Type 0} {first : Outcome A → Type 0} {next : A → World → Outcome B → Type 0} → One first → ((a : A) (w : World) → One (next a w)) → One (Then first next)
then_one {next = next} f g o q (goes_on {a = a} {w = w} p s) (goes_on {a = b} {w = v} r t) = g b v o q (subst (λ x. After next x o) (f _ _ p r) s) t
then_one f g o q (goes_on {a = a} {w = w} p s) (stops {r = k} r) = let e : Typed a w ≡ Refused k = f _ _ p r in cc
then_one f g o q (stops {r = k} p) (goes_on {a = b} {w = v} r t) = let e : Refused k ≡ Typed b v = f _ _ p r in cc
then_one {A = A} f g o q (stops {r = k} p) (stops {r = j} r) = let e : ◌≡◌ {A = Outcome A} (Refused k) (Refused j) = f _ _ p r in cc

pub is_one : {A : Type 0} (x : Outcome A) → One (Is x)
is_one x o q p r = p ∙ sym r

pub valued_one : {first : Outcome OperandTree → Type 0} → One first → One (Valued first)
valued_one f = then_one f (λ x w. is_one _)

mutual
  unfolding Types TypesArgs TypesSpecs TypesSpec TypesMembers TypesMemberNames TypesEnumerators TypesDeclarator TypesParams

  pub one : (w : World) (e : written.ExprTree) → One (Types w e)
  one w (written.Word at name) = is_one _
  one w (written.Number at c) = is_one _
  one w (written.Character at byte) = is_one _
  one w (written.Strings at bytes) = is_one _
  one w (written.Enclosed at e) = one w e
  one w (written.Index at a b) = then_one (valued_one (one w a)) (λ x w1. then_one (valued_one (one w1 b)) (λ y w2. is_one _))
  one w (written.Call at name args) = then_one (one_list w _ args) (λ values w1. is_one _)
  one w (written.Dot at a member) = then_one (one w a) (λ x w1. is_one _)
  one w (written.Arrow at a member) = then_one (valued_one (one w a)) (λ x w1. is_one _)
  one w (written.PostStep at way a) = then_one (one w a) (λ x w1. is_one _)
  one w (written.PreStep at way a) = then_one (one w a) (λ x w1. is_one _)
  one w (written.Unary at op a) = then_one (one w a) (λ x w1. is_one _)
  one w (written.SizeofExpr at a) = then_one (one w a) (λ x w1. is_one _)
  one w (written.SizeofType at specs declarator) =
      then_one (then_one (one_specs w _ _ specs) (λ s w1. then_one (is_one _) (λ base w2. then_one (one_declarator w2 declarator) (λ shape w3. is_one _)))) (λ form w1. is_one _)
  one w (written.Cast at specs declarator a) =
      then_one (then_one (one_specs w _ _ specs) (λ s w1. then_one (is_one _) (λ base w2. then_one (one_declarator w2 declarator) (λ shape w3. is_one _))))
      (λ form w1. then_one (valued_one (one w1 a)) (λ x w2. is_one _))
  one w (written.Binary at op a b) = then_one (valued_one (one w a)) (λ x w1. then_one (valued_one (one w1 b)) (λ y w2. is_one _))
  one w (written.Cond at c a b) = then_one (valued_one (one w c)) (λ z w1. then_one (valued_one (one w1 a)) (λ x w2. then_one (valued_one (one w2 b)) (λ y w3. is_one _)))
  one w (written.Assign at a b) = then_one (one w a) (λ x w1. then_one (valued_one (one w1 b)) (λ y w2. is_one _))
  one w (written.Compound at op a b) = then_one (one w a) (λ x w1. then_one (valued_one (one w1 b)) (λ y w2. is_one _))
  one w (written.Comma at a b) = then_one (valued_one (one w a)) (λ x w1. then_one (valued_one (one w1 b)) (λ y w2. is_one _))

  pub one_list : (w : World) (done : _) (es : written.ExprTrees) → One (TypesArgs w done es)
  one_list w done written.no_exprs = is_one _
  one_list w done (written.more_exprs e es) = then_one (valued_one (one w e)) (λ x w1. one_list w1 _ es)

  pub one_specs : (w : World) (alone : Bool) (done : _) (specs : written.SpecTrees) → One (TypesSpecs w alone done specs)
  one_specs w alone done written.no_specs = is_one _
  one_specs w alone done (written.more_specs spec rest) = then_one (one_spec w alone spec) (λ part w1. one_specs w1 alone _ rest)

  pub one_spec : (w : World) (alone : Bool) (spec : written.SpecTree) → One (TypesSpec w alone spec)
  one_spec w alone (written.Storage at word) = is_one _
  one_spec w alone (written.Const at) = is_one _
  one_spec w alone (written.Basic at word) = is_one _
  one_spec w alone (written.TypedefName at name) = is_one _
  one_spec w alone (written.Struct at tag) = then_one (is_one _) (λ n w1. is_one _)
  one_spec w alone (written.StructBody at tag members) = then_one (is_one _) (λ n w1. then_one (one_members w1 _ members) (λ done w2. is_one _))
  one_spec w alone (written.Enum at tag) = then_one (is_one _) (λ unit w1. is_one _)
  one_spec w alone (written.EnumBody at tag list) = then_one (is_one _) (λ unit w1. then_one (one_enumerators w1 _ list) (λ next w2. is_one _))

  pub one_members : (w : World) (done : _) (members : written.MemberDeclTrees) → One (TypesMembers w done members)
  one_members w done written.no_members = is_one _
  one_members w done (written.more_members (written.Members at specs declarators) rest) =
      then_one (one_specs w _ _ specs) (λ s w1. then_one (is_one _) (λ base w2. then_one (one_names w2 _ _ _ declarators) (λ members w3. one_members w3 _ rest)))

  pub one_names : (w : World) (first base done : _) (declarators : written.DeclaratorTrees) → One (TypesMemberNames w first base done declarators)
  one_names w first base done written.no_declarators = is_one _
  one_names w first base done (written.more_declarators declarator rest) =
      then_one (one_declarator w declarator) (λ shape w1. then_one (is_one _) (λ members w2. one_names w2 _ _ _ rest))

  pub one_enumerators : (w : World) (next : _) (list : written.EnumeratorTrees) → One (TypesEnumerators w next list)
  one_enumerators w next written.no_enumerators = is_one _
  one_enumerators w next (written.more_enumerators (written.Plain at name) rest) = then_one (is_one _) (λ n w1. one_enumerators w1 _ rest)
  one_enumerators w next (written.more_enumerators (written.Valued at name value) rest) =
      then_one (valued_one (one w value)) (λ x w1. then_one (is_one _) (λ n w2. one_enumerators w2 _ rest))

  pub one_declarator : (w : World) (declarator : written.DeclaratorTree) → One (TypesDeclarator w declarator)
  one_declarator w written.Absent = is_one _
  one_declarator w (written.Name at name) = is_one _
  one_declarator w (written.Grouped at inner) = one_declarator w inner
  one_declarator w (written.Pointer at is_const inner) = then_one (one_declarator w inner) (λ shape w1. is_one _)
  one_declarator w (written.Array at inner size) = then_one (one_declarator w inner) (λ shape w1. then_one (valued_one (one w1 size)) (λ x w2. is_one _))
  one_declarator w (written.OpenArray at inner) = then_one (one_declarator w inner) (λ shape w1. is_one _)
  one_declarator w (written.Function at inner params) = then_one (one_declarator w inner) (λ shape w1. then_one (one_params _ _ params) (λ list w2. is_one _))
  one_declarator w (written.VoidFunction at inner) = then_one (one_declarator w inner) (λ shape w1. is_one _)

  pub one_params : (w : World) (done : _) (params : written.ParamTrees) → One (TypesParams w done params)
  one_params w done written.no_params = is_one _
  one_params w done (written.more_params (written.Named at specs declarator) rest) =
      then_one (then_one (one_specs w _ _ specs) (λ s w1. then_one (is_one _) (λ base w2. then_one (one_declarator w2 declarator) (λ shape w3. is_one _)))) (λ param w1. one_params w1 _ rest)
  one_params w done (written.more_params (written.Abstract at specs declarator) rest) =
      then_one (then_one (one_specs w _ _ specs) (λ s w1. then_one (is_one _) (λ base w2. then_one (one_declarator w2 declarator) (λ shape w3. is_one _)))) (λ param w1. one_params w1 _ rest)
